use Rattle.std.proofs.Common.{◌∙◌}
use Rattle.rules.specs.Rules.{text_inside}
use Rattle.rules.proofs.Runs.{at_over, run_over}
use Rattle.rules.proofs.words.all_inside.Goals as goal

pub returns : goal.returns
returns c =
    let s = c.args.s in
    let t = c.places in
    run_over s 1 t.result (text_inside s.file.now) _ t.ensures.0 t.ensures.1 (c.all_keep.ensures (text_inside s.file.now) (λ p b e h. at_over text_inside p.over s p.r b (e ∙ t.ensures.0) h.1))
