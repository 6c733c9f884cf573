use Rattle.std.proofs.Common.{◌≡◌}
use Rattle.rules.specs.Children.{chained, each}
use Rattle.rules.proofs.children.all_of.Given as goal

abbrev pub invariant-loop-child : goal.invariant-loop-child
invariant-loop-child l =
    (l.child-iterator.over ≡ l.fn.chain.over) ×
    (each l.sort (chained l.fn.chain) ≡ each l.sort (chained l.child-iterator))
