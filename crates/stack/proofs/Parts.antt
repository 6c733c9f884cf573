-- A list in two parts, its first n items and those past them, after a write or a cut.
use Rattle.std.proofs.Common.{◌≡◌, ℕ, ◌+◌, ◌<◌, ◌≤◌, List, ◌++◌, Some, None, min, length, set, take, drop, sym, ap, ◌∙◌, refl, arith, rules, drop-set-lt, length-take-le}
use lib.Seq.{paste, take-set-lt}
use Rattle.std.proofs.lemmas.List.{same_lists, places, drop-drop, set_past}
use Rattle.std.proofs.lemmas.Option.{slice_get_cases, slice_get_within}
use borrow.Rule.Slice.PartMut.{put_mid}
use Rattle.std.proofs.lemmas.Slice.{put_mid-paste, take-put_mid, drop-put_mid}
use Rattle.std.specs.List.{slice_get}

module _ {A : Type 0} where
  -- where there is no item at i, nothing is set there
  pub set_absent : (xs : List A) (i : ℕ) (x : A) → slice_get xs i ≡ None → set xs i x ≡ xs
  set_absent xs i x none = search (rules, set_past, slice_get_cases xs i)

  -- the first part is cut to its first m items
  pub used_cut : (xs : List A) (m n : ℕ) → take (min n m) xs ≡ take m (take n xs)
  used_cut xs m n = same_lists _ _ (search (rules, places)) (λ k d h. grind (arith, places))

  pub past_cut : (xs : List A) (m n : ℕ) → drop (min n m) xs ≡ drop m (take n xs) ++ drop n xs
  past_cut xs m n = same_lists _ _ (search (rules, places)) (λ k d h. grind (arith, places))

  -- a middle part of the first part is written
  used_paste : (xs ys : List A) (at n : ℕ) → at + length ys ≤ n → n ≤ length xs → take n (paste xs at ys (length ys)) ≡ paste (take n xs) at ys (length ys)
  used_paste xs ys at n inside within = same_lists _ _ (search (rules, places)) (λ k d h. grind (arith, places))

  pub used_pasted : (n at k : ℕ) (xs ys : List A) → at + length ys ≤ n → n ≤ length xs → k ≡ length ys → take n (put_mid at k xs ys) ≡ paste (take n xs) at ys (length ys)
  used_pasted n at k xs ys inside within all = ap (take n) (put_mid-paste at k xs ys ys (length ys) refl (sym all) refl) ∙ used_paste xs ys at n inside within

-- the part in use after a write of one item of it, of a middle part of it, or of the items just past it; and what is past it
pub ruleset written = (take-set-lt, drop-set-lt, length-take-le)

pub ruleset pasted = (used_pasted, drop-put_mid, length-take-le)

pub ruleset grown = (take-put_mid, drop-put_mid, drop-drop)

pub ruleset found = (set_absent, slice_get_within)
