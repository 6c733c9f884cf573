use Rattle.std.proofs.Common.{◌≡◌, length, rules}
use Rattle.summary.proofs.Marks.{kinds_counted}
use Rattle.summary.proofs.kinds.count_kinds.Goals as goal

pub returns : goal.returns
returns c =
    let seen = c.kinds_seen.result in
    let long : length seen ≡ 256 = search rules in
    kinds_counted c.args.s.file.now c.args.s.n c.count_marks.result seen c.args.s.records long c.kinds_seen.ensures c.count_marks.ensures
