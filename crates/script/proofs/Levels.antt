-- A tree has no more levels than its deepest record.
use Rattle.std.proofs.Common.{◌≡◌, ℕ, zero, suc, ◌+◌, ◌-◌, ◌<◌, ◌≤◌, max, true, List, None, refl, ap, ◌∙◌, inl, inr, arith}
use Rattle.std.proofs.lemmas.Bool.Decides.{nat_tests}
use Rattle.std.proofs.lemmas.Bool.{cases_eq, leb-true}
use Rattle.records.specs.declared.bytes.Header.{Header}
use Rattle.records.specs.Bytes.{count, rec_at}
use Rattle.records.specs.Records.{said_at, link_up}
use Rattle.records.specs.Trees.{tree_at}
use Rattle.records.proofs.Grows.{said_up, by_tree, tree_none, cases_option}
use Rattle.rules.specs.Depths.{depth_by, depth, most_depth}
use Rattle.script.specs.Verdict.{Readable}
use Rattle.script.specs.Trees.{height}

-- more records lead to k no less deep
depth_grows : (f : List ℕ) (r d k : ℕ) → depth_by f r k ≤ depth_by f (d + r) k
depth_grows f r zero k = let e : 0 + r ≡ r = omega arith in rw e (omega arith)
depth_grows f r (suc d) k = let e : suc d + r ≡ suc (d + r) = omega arith in rw e (omega (arith, depth_grows f r d k))

-- the links of x, by what x adds
first_deep : (f : List ℕ) (j : ℕ) → depth_by f j (suc j) + 1 ≤ depth_by f (suc j) (rec_at f (suc j)).first
first_deep f j = grind (arith, nat_tests)

next_deep : (f : List ℕ) (j : ℕ) → depth_by f j (suc j) ≤ depth_by f (suc j) (rec_at f (suc j)).next
next_deep f j = grind (arith, nat_tests)

later : (f : List ℕ) (x l : ℕ) → x < l → depth_by f x l ≤ depth f l
later f x l h = let e : l - 1 ≡ (l - 1 - x) + x = omega arith in rw e (depth_grows f x (l - 1 - x) l)

pub first_deeper : (f : List ℕ) (x : ℕ) → 1 ≤ x → x < (rec_at f x).first → depth f x + 1 ≤ depth f (rec_at f x).first
first_deeper f zero a h = absurd (omega arith)
first_deeper f (suc j) a h = let e : suc j - 1 ≡ j = omega arith in rw e (omega (arith, first_deep f j, later f (suc j) (rec_at f (suc j)).first h))

pub next_deeper : (f : List ℕ) (x : ℕ) → 1 ≤ x → x < (rec_at f x).next → depth f x ≤ depth f (rec_at f x).next
next_deeper f zero a h = absurd (omega arith)
next_deeper f (suc j) a h = let e : suc j - 1 ≡ j = omega arith in rw e (omega (arith, next_deep f j, later f (suc j) (rec_at f (suc j)).next h))

zero_silent : (f : List ℕ) → said_at f 0 ≡ None
zero_silent f = elim (cases_option (said_at f 0)) [ inl e ↦ e | inr q ↦ absurd (omega (arith, (said_up f 0 q.0 q.1).here)) ]

module _ (f : List ℕ) (h : Header) (p : Readable f h) where
  depth_most : (x : ℕ) → 1 ≤ x → x ≤ count f → depth f x ≤ 64
  depth_most x a b = leb-true (depth f x) 64 (p.kept.shallows x a (omega (arith, p.heads.records_are)))

  depth_any : (x : ℕ) → x ≤ count f → depth f x ≤ 64
  depth_any zero b = omega arith
  depth_any (suc j) b = depth_most (suc j) (omega arith) b

  zero_high : height (tree_at f 0) ≡ 0
  zero_high = ap height (tree_none f 0 (zero_silent f))

  at_first : (x l : ℕ) → link_up (count f) x l ≡ true → l ≡ (rec_at f x).first → depth f x ≤ 64 → 1 ≤ x → (l ≤ count f → depth f l + height (tree_at f l) ≤ 65) → depth f x + (1 + height (tree_at f l)) ≤ 65
  at_first x l up e d here q =
      elim (cases_eq l 0) [
        | inl z ↦ (let w : height (tree_at f l) ≡ 0 = ap (λ y. height (tree_at f y)) z ∙ zero_high in omega (arith, w, d))
        | inr nz ↦ (
            let lo : x < l = grind (arith, nat_tests, up, nz) in
            let hi : l ≤ count f = grind (arith, nat_tests, up, nz) in
            let g : depth f x + 1 ≤ depth f l = rw e (first_deeper f x here (rw e at lo)) in
            omega (arith, g, q hi))
      ]

  at_next : (x l : ℕ) → link_up (count f) x l ≡ true → l ≡ (rec_at f x).next → depth f x ≤ 64 → 1 ≤ x → (l ≤ count f → depth f l + height (tree_at f l) ≤ 65) → depth f x + height (tree_at f l) ≤ 65
  at_next x l up e d here q =
      elim (cases_eq l 0) [
        | inl z ↦ (let w : height (tree_at f l) ≡ 0 = ap (λ y. height (tree_at f y)) z ∙ zero_high in omega (arith, w, d))
        | inr nz ↦ (
            let lo : x < l = grind (arith, nat_tests, up, nz) in
            let hi : l ≤ count f = grind (arith, nat_tests, up, nz) in
            let g : depth f x ≤ depth f l = rw e (next_deeper f x here (rw e at lo)) in
            omega (arith, g, q hi))
      ]

  -- no tree reaches lower than its top's depth and its own levels
  height_by : (x : ℕ) → x ≤ count f → depth f x + height (tree_at f x) ≤ 65
  height_by =
      by_tree f (λ x. x ≤ count f → depth f x + height (tree_at f x) ≤ 65)
      (λ x e n b. let z : height (tree_at f x) ≡ 0 = ap height n in omega (arith, z, depth_any x b))
      (λ x s e st pa pb b.
      let u = said_up f x s e in
      let d = depth_most x st.here st.inside in
      let t : height (tree_at f x) ≡ max (1 + height (tree_at f (rec_at f x).first)) (height (tree_at f (rec_at f x).next)) = ap height st.tree_is in
      let below = at_first x (rec_at f x).first u.first_up refl d st.here pa in
      let beside = at_next x (rec_at f x).next u.next_up refl d st.here pb in
      omega (arith, t, below, beside))

  pub levels : height (tree_at f 1) ≤ most_depth
  levels =
      let one : 1 ≤ count f = omega (arith, p.heads.some, p.heads.records_are) in
      let d : depth f 1 ≡ 1 = refl in
      omega (arith, height_by 1 one, d)
