use Rattle.records.proofs.Passing.{Passing, behind}
use Rattle.rules.proofs.Counts.{Counts}
use Rattle.rules.proofs.links.count_links.Given as goal

abbrev pub invariant-loop-place : goal.invariant-loop-place
invariant-loop-place l =
    Passing l.s.over l.place-iterator ×
    Counts l.s.over.file.now (behind l.place-iterator) l.counts
