-- Where each record is linked once, its depth is that of the one link to it.
use Rattle.std.proofs.Common.{◌≡◌, ℕ, zero, suc, ◌+◌, ◌-◌, ◌<◌, ◌≤◌, true, List, sym, refl, ap, ◌∙◌, arith}
use Rattle.std.proofs.lemmas.Bool.Decides.{nat_tests}
use Rattle.std.proofs.lemmas.Bool.{eqb-true}
use Rattle.records.specs.Bytes.{count, rec_at}
use Rattle.records.specs.Records.{links_up}
use Rattle.rules.specs.Links.{hits, links_from, links_to}
use Rattle.rules.specs.Depths.{depth_by, depth}
use Rattle.script.specs.Depths.{OneWay, DepthLaw}

-- a record that nothing leads to has no depth
unled : (f : List ℕ) (m k : ℕ) → (k ≡ 1 → ⊥) → links_to f m k ≡ 0 → depth_by f m k ≡ 0
unled f zero k ne e = grind (arith, nat_tests)
unled f (suc m) k ne e =
    let i = unled f m k ne (omega arith) in
    grind (arith, nat_tests, i, e)

-- links only add up
links_grow : (f : List ℕ) (m d k : ℕ) → links_to f m k ≤ links_to f (d + m) k
links_grow f m zero k = let e : 0 + m ≡ m = omega arith in rw e (omega arith)
links_grow f m (suc d) k = let e : suc d + m ≡ suc (d + m) = omega arith in rw e (omega (arith, links_grow f m d k))

-- a record that does not lead to k does not change its depth
same_depth : (f : List ℕ) (m k : ℕ) → links_from f (suc m) k ≡ 0 → depth_by f (suc m) k ≡ depth_by f m k
same_depth f m k e = grind (arith, nat_tests, e)

settled : (f : List ℕ) (m d k : ℕ) → links_to f (d + m) k ≡ links_to f m k → depth_by f (d + m) k ≡ depth_by f m k
settled f m zero k e = ap (λ x. depth_by f x k) (let z : 0 + m ≡ m = omega arith in z)
settled f m (suc d) k e =
    let s : suc d + m ≡ suc (d + m) = omega arith in
    let e' : links_to f (suc (d + m)) k ≡ links_to f m k = rw s at e in
    let g = links_grow f m d k in
    rw s (same_depth f (d + m) k (omega (arith, e', g)) ∙ settled f m d k (omega (arith, e', g)))

-- the one record that leads to k, and what it gives
pub record Led (f : List ℕ) (j k : ℕ) : Type 0 where
  pub none_before : links_to f j k ≡ 0
  pub one_here : links_from f (suc j) k ≡ 1
  pub none_after : depth f k ≡ depth_by f (suc j) k

module _ (f : List ℕ) (w : OneWay f) where
  led : (j k : ℕ) → suc j < k → k ≤ count f → 1 ≤ links_from f (suc j) k → Led f j k
  led j k lo hi l =
      let one : links_to f (count f) k ≡ 1 = eqb-true (links_to f (count f) k) 1 (w.once k (omega arith) hi) in
      let c : count f ≡ (count f - suc j) + suc j = omega arith in
      let g = links_grow f (suc j) (count f - suc j) k in
      let one' : links_to f ((count f - suc j) + suc j) k ≡ 1 = rw c at one in
      let b : links_to f j k ≡ 0 = omega (arith, g, one', l) in
      let h : links_from f (suc j) k ≡ 1 = omega (arith, g, one', l) in
      let d : k - 1 ≡ (k - 1 - suc j) + suc j = omega arith in
      let c2 : count f ≡ (count f - (k - 1)) + (k - 1) = omega arith in
      let g2 = links_grow f (k - 1) (count f - (k - 1)) k in
      let one2 : links_to f ((count f - (k - 1)) + (k - 1)) k ≡ 1 = rw c2 at one in
      let g3 = links_grow f (suc j) (k - 1 - suc j) k in
      let m : links_to f (k - 1) k ≡ 1 = (let q : links_to f (k - 1) k ≡ links_to f ((k - 1 - suc j) + suc j) k = ap (λ x. links_to f x k) d in omega (arith, g2, one2, g3, q, b, h)) in
      let same : links_to f ((k - 1 - suc j) + suc j) k ≡ links_to f (suc j) k = sym (ap (λ x. links_to f x k) d) ∙ omega (arith, m, b, h) in
      record { none_before = b; one_here = h; none_after = ap (λ x. depth_by f x k) d ∙ settled f (suc j) (k - 1 - suc j) k same }

  child_at : (j k : ℕ) → suc j < k → k ≤ count f → (rec_at f (suc j)).first ≡ k → depth f k ≡ depth_by f j (suc j) + 1
  child_at j k lo hi e =
      let t : hits (rec_at f (suc j)).first k ≡ 1 = grind (arith, nat_tests, e) in
      let l = led j k lo hi (omega (arith, t)) in
      let n : depth_by f j k ≡ 0 = unled f j k (λ o. omega arith) l.none_before in
      let o = l.one_here in
      let s : depth_by f (suc j) k ≡ depth_by f j (suc j) + 1 = grind (arith, nat_tests, n, o, e) in
      l.none_after ∙ s

  sibling_at : (j k : ℕ) → suc j < k → k ≤ count f → (rec_at f (suc j)).next ≡ k → depth f k ≡ depth_by f j (suc j)
  sibling_at j k lo hi e =
      let t : hits (rec_at f (suc j)).next k ≡ 1 = grind (arith, nat_tests, e) in
      let l = led j k lo hi (omega (arith, t)) in
      let n : depth_by f j k ≡ 0 = unled f j k (λ o. omega arith) l.none_before in
      let o = l.one_here in
      let s : depth_by f (suc j) k ≡ depth_by f j (suc j) = grind (arith, nat_tests, n, o, e) in
      l.none_after ∙ s

  up_to : (x : ℕ) → 1 ≤ x → x ≤ count f → links_up (count f) x (rec_at f x) ≡ true
  up_to x a b = w.up x a b

  pub child : (x : ℕ) → 1 ≤ x → x ≤ count f → 1 ≤ (rec_at f x).first → depth f (rec_at f x).first ≡ depth f x + 1
  child zero a b c = absurd (omega arith)
  child (suc j) a b c =
      let u = up_to (suc j) a b in
      let lo : suc j < (rec_at f (suc j)).first = grind (arith, nat_tests, u, c) in
      let hi : (rec_at f (suc j)).first ≤ count f = grind (arith, nat_tests, u, c) in
      let d : suc j - 1 ≡ j = omega arith in
      rw d (child_at j (rec_at f (suc j)).first lo hi refl)

  pub sibling : (x : ℕ) → 1 ≤ x → x ≤ count f → 1 ≤ (rec_at f x).next → depth f (rec_at f x).next ≡ depth f x
  sibling zero a b c = absurd (omega arith)
  sibling (suc j) a b c =
      let u = up_to (suc j) a b in
      let lo : suc j < (rec_at f (suc j)).next = grind (arith, nat_tests, u, c) in
      let hi : (rec_at f (suc j)).next ≤ count f = grind (arith, nat_tests, u, c) in
      let d : suc j - 1 ≡ j = omega arith in
      rw d (sibling_at j (rec_at f (suc j)).next lo hi refl)

pub depth_law : (f : List ℕ) → OneWay f → DepthLaw f
depth_law f w = record { root = refl; child = child f w; sibling = sibling f w }
