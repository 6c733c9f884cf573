use Rattle.records.proofs.Passing.{Passing, behind}
use Rattle.summary.proofs.Marks.{Marks}
use Rattle.summary.proofs.kinds.kinds_seen.Given as goal

abbrev pub invariant-loop-place : goal.invariant-loop-place
invariant-loop-place l =
    Passing l.s l.place-iterator ×
    Marks l.s.file.now (behind l.place-iterator) l.seen
