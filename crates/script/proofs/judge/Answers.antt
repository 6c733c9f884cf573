use Rattle.script.proofs.Verdicts.{verdict, only}
use Rattle.script.proofs.WellFormed.{readable_of, tree_of}
use Rattle.script.proofs.Depths.{depth_law}
use Rattle.script.proofs.judge.Goals as goal

pub returns : goal.returns
returns c =
    let s = c.stages.ensures in
    let q = readable_of c.args.file.now c.args.lent c.stages.result s in
    let v = verdict c.args.file.now c.args.lent c.stages.result s in
    record { verdict = v; only = λ r p. only c.args.file.now c.args.lent c.stages.result r v p; readable = q; tree = tree_of c.args.file.now c.stages.result q; depth = depth_law c.args.file.now }
