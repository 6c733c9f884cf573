-- One more record's links, and how deep they lead.
use Rattle.std.proofs.Common.{◌≡◌, ℕ, suc, ◌+◌, ◌-◌, ◌<◌, ◌≤◌, max, true, false, cond, eqb, ◌⊎◌, List, length, get_or, set, replicate, sym, ◌∙◌, inl, inr, add-one, arith, length-set}
use Rattle.std.proofs.lemmas.List.{get_or-set_same, get_or-set_other, get_or-replicate, length-replicate}
use Rattle.std.proofs.lemmas.Bool.Decides.{nat_tests}
use Rattle.std.proofs.lemmas.Bool.{cases_eq}
use Rattle.records.specs.Bytes.{rec_at}
use Rattle.rules.specs.Depths.{depth_by, depth, deepened, passed, shallow}

deepened_at : (ds : List ℕ) (k d j : ℕ) → k < length ds → get_or (deepened ds k d) j 0 ≡ max (get_or ds j 0) (cond (eqb k j) d 0)
deepened_at ds k d j h = grind (arith, nat_tests, get_or-set_same, get_or-set_other, cases_eq j k)

start_at : (k : ℕ) → k < 2048 → (k ≡ 1) ⊎ (k ≡ 1 → ⊥) → get_or (set (replicate {A = ℕ} 2048 0) 1 1) k 0 ≡ cond (eqb k 1) 1 0
start_at k h c =
    let l : 1 < length (replicate {A = ℕ} 2048 0) = rw (length-replicate {A = ℕ} 2048 0) (omega arith) in
    elim c [
      | inl e ↦ (rw e (get_or-set_same (replicate 2048 0) 1 1 0 l))
      | inr ne ↦ (let z : eqb k 1 ≡ false = grind (arith, nat_tests) in rw z (get_or-set_other (replicate 2048 0) 1 k 1 0 ne ∙ get_or-replicate 2048 k 0 0 h))
    ]

-- the depths by the links of the records up to r
abbrev pub Depths : List ℕ → ℕ → List ℕ → Type 0
Depths f r ds = (k : ℕ) → k < 2048 → get_or ds k 0 ≡ depth_by f r k

pub depths_start : (f : List ℕ) → Depths f 0 (set (replicate 2048 0) 1 1)
depths_start f k h = start_at k h (cases_eq k 1)

pub passed_long : (f : List ℕ) (r : ℕ) (ds : List ℕ) → length (passed f r ds) ≡ length ds
passed_long f r ds = length-set (deepened ds (rec_at f r).first (get_or ds r 0 + 1)) (rec_at f r).next _ ∙ length-set ds (rec_at f r).first _

pub depths_more : (f ds : List ℕ) (r : ℕ) → r + 1 < 2048 → length ds ≡ 2048 → (rec_at f (r + 1)).first < 2048 → (rec_at f (r + 1)).next < 2048 → Depths f r ds → Depths f (r + 1) (passed f (r + 1) ds)
depths_more f ds r lt long hf hn inv k hk =
    let D : ℕ = depth_by f r (suc r) in
    let here : get_or ds (r + 1) 0 ≡ D = rw add-one (rw add-one at (inv (r + 1) lt)) in
    let a : ℕ = (rec_at f (r + 1)).first in
    let b : ℕ = (rec_at f (r + 1)).next in
    let two : List ℕ = deepened ds a (get_or ds (r + 1) 0 + 1) in
    let long2 : length two ≡ 2048 = length-set ds a _ ∙ long in
    let p : get_or two k 0 ≡ max (depth_by f r k) (cond (eqb a k) (D + 1) 0) = deepened_at ds a (get_or ds (r + 1) 0 + 1) k (omega arith) ∙ rw (inv k hk, here) in
    let q : get_or (passed f (r + 1) ds) k 0 ≡ max (max (depth_by f r k) (cond (eqb a k) (D + 1) 0)) (cond (eqb b k) D 0) = deepened_at two b (get_or ds (r + 1) 0) k (omega arith) ∙ rw (p, here) in
    q ∙ sym (rw add-one)

-- the depth of the next record is there to be read
pub depth_next : (f ds : List ℕ) (r : ℕ) → r + 1 < 2048 → Depths f r ds → get_or ds (r + 1) 0 ≡ depth f (r + 1)
depth_next f ds r lt inv = let d : r + 1 - 1 ≡ r = omega arith in rw d (inv (r + 1) lt)

-- one more record that is not too deep
pub shallow_more : (f ds : List ℕ) (r : ℕ) → r + 1 < 2048 → Depths f r ds → get_or ds (r + 1) 0 ≤ 64 → ((k : ℕ) → 1 ≤ k → k < r + 1 → shallow f k ≡ true) → (k : ℕ) → 1 ≤ k → k < r + 1 + 1 → shallow f k ≡ true
shallow_more f ds r lt inv le below k h l =
    elim (cases_eq k (r + 1)) [
      | inl e ↦ (let x : depth f (r + 1) ≤ 64 = omega (arith, depth_next f ds r lt inv) in rw e (grind (arith, nat_tests, x)))
      | inr ne ↦ below k h (omega arith)
    ]

-- the first one that is
pub deep_here : (f ds : List ℕ) (r : ℕ) → r + 1 < 2048 → Depths f r ds → 64 < get_or ds (r + 1) 0 → shallow f (r + 1) ≡ false
deep_here f ds r lt inv gt = let x : 64 < depth f (r + 1) = omega (arith, depth_next f ds r lt inv) in grind (arith, nat_tests, x)
