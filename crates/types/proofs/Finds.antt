-- The search of a slice: its number is one more than its place.
use Rattle.std.proofs.Common.{◌≡◌, ℕ, ◌+◌, Bool, true, false, cond, ◌&&◌, eqb, List, [], ◌∷◌, Some, Option, refl, ap, sym, ◌∙◌, add-one}
use Rattle.std.specs.Option.{option_map}
use Rattle.std.specs.List.{position, position_from}
use Rattle.std.proofs.lemmas.Iterator.Adapters.{position_from-zero}
use Rattle.types.specs.declared.Entry.{Entry}
use Rattle.types.specs.Table.{is_slice, find_slice}

module _ (of : ℕ) where
  abbrev hit : Entry → Bool
  hit e = is_slice e.kind && eqb e.of of

  next : (b : Bool) (i : ℕ) (o p : Option ℕ) → o ≡ option_map (λ k. k + 1) p → cond b (Some (i + 1)) o ≡ option_map (λ k. k + 1) (cond b (Some i) p)
  next true i o p e = refl
  next false i o p e = e

  from : (i : ℕ) (xs : List Entry) → find_slice of (i + 1) xs ≡ option_map (λ k. k + 1) (position_from hit i xs)
  from i [] = refl
  from i (e ∷ es) = rw (← add-one (i + 1)) (next (hit e) i _ _ (from (i + 1) es))

  pub numbered : (xs : List Entry) → find_slice of 1 xs ≡ option_map (λ k. k + 1) (position (λ e. is_slice e.kind && eqb e.of of) xs)
  numbered xs = from 0 xs ∙ sym (ap (option_map (λ k. k + 1)) (position_from-zero hit xs))
