use Rattle.std.proofs.Common.{◌≡◌, ℕ, ◌<◌, false, ◌||◌, get_or}
use Rattle.rules.specs.Children.{chained, among}
use Rattle.rules.proofs.children.mark_chain.Given as goal

abbrev pub invariant-loop-r : goal.invariant-loop-r
invariant-loop-r l =
    (l.r-iterator.over ≡ l.fn.chain.over) ×
    ((k : ℕ) → k < 2048 → (get_or l.marks k false || among k (chained l.r-iterator)) ≡ (get_or l.initial.marks k false || among k (chained l.fn.chain)))
