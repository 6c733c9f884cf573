use Rattle.std.proofs.Common.{◌≡◌, ℕ, ◌<◌, false, get_or}
use Rattle.records.proofs.Passing.{Passing, behind}
use Rattle.rules.specs.Children.{must_fill}
use Rattle.rules.proofs.children.full_lists.Given as goal

abbrev pub invariant-loop-place : goal.invariant-loop-place
invariant-loop-place l =
    Passing l.s l.place-iterator ×
    ((k : ℕ) → k < 2048 → get_or l.marks k false ≡ must_fill l.s.file.now (behind l.place-iterator) k)
