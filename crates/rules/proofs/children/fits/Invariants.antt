use Rattle.std.proofs.Common.{◌≡◌, ◌+◌, ◌≤◌}
use Rattle.records.specs.Trees.{above}
use Rattle.rules.specs.Children.{chained, fit}
use Rattle.rules.proofs.children.fits.Given as goal

abbrev pub invariant-loop-child : goal.invariant-loop-child
invariant-loop-child l =
    (l.child-iterator.over ≡ l.fn.chain.over) ×
    (fit l.line 0 l.fn.kind (chained l.fn.chain) ≡ fit l.line l.count l.before (chained l.child-iterator)) ×
    (l.count + above l.child-iterator.at ≤ 2048)
