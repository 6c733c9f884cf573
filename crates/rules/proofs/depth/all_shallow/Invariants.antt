use Rattle.std.proofs.Common.{◌≡◌, ℕ, ◌+◌, ◌<◌, ◌≤◌, true}
use Rattle.records.proofs.Passing.{Passing, behind}
use Rattle.rules.specs.Depths.{shallow}
use Rattle.rules.proofs.Deepens.{Depths}
use Rattle.rules.proofs.depth.all_shallow.Given as goal

abbrev pub invariant-loop-place : goal.invariant-loop-place
invariant-loop-place l =
    Passing l.s.over l.place-iterator ×
    Depths l.s.over.file.now (behind l.place-iterator) l.depths ×
    ((k : ℕ) → 1 ≤ k → k < behind l.place-iterator + 1 → shallow l.s.over.file.now k ≡ true)
