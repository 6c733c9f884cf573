use Rattle.records.proofs.Passing.{Passing, behind}
use Rattle.rules.proofs.Deepens.{Depths}
use Rattle.summary.proofs.Deepens.{Best}
use Rattle.summary.proofs.deepest.deepest_level.Given as goal

abbrev pub invariant-loop-place : goal.invariant-loop-place
invariant-loop-place l =
    Passing l.s.over l.place-iterator ×
    Depths l.s.over.file.now (behind l.place-iterator) l.depths ×
    Best l.s.over.file.now l.s.over.n (behind l.place-iterator) l.best
