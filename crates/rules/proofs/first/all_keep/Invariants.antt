use Rattle.std.proofs.Common.{◌≡◌, ℕ, ◌<◌, ◌≤◌, Bool, true}
use Rattle.records.specs.declared.place.Place.{Place as Spot}
use Rattle.rules.proofs.first.all_keep.Given as goal

abbrev pub invariant-loop-place : goal.invariant-loop-place
invariant-loop-place g l =
    (l.place-iterator.over ≡ l.fn.places.over) ×
    (l.fn.places.next ≤ l.place-iterator.next) ×
    ((holds : ℕ → Bool) → ((p : Spot) (b : Bool) → p.over ≡ l.fn.places.over → goal.F-post g l.rule p b → holds p.r ≡ b) → (k : ℕ) → l.fn.places.next ≤ k → k < l.place-iterator.next → holds k ≡ true)
