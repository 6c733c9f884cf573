-- A tree is its top record over the trees of that record's two links.
use Rattle.std.proofs.Common.{◌≡◌, ℕ, zero, suc, ◌+◌, ◌-◌, ◌<◌, ◌≤◌, Bool, true, false, cond, ◌⊎◌, List, Some, None, Option, sym, refl, ap, ◌∙◌, subst, inl, inr, arith}
use Rattle.std.proofs.lemmas.Bool.Decides.{nat_tests}
use Rattle.std.proofs.lemmas.Bool.{cases_eq}
use Rattle.records.specs.Bytes.{rec_at, count, text_size}
use Rattle.records.specs.Records.{Said, link_up, linked, said_at, kind_at, say_of, listed_kind, bare_by}
use Rattle.records.specs.Trees.{none, node, grow, tree_in, tree_by, tree_at, kind_tree, above, Step}

pub cases_option : {A : Type 0} (o : Option A) → (o ≡ None) ⊎ ((x : A) × (o ≡ Some x))
cases_option None = inl refl
cases_option (Some x) = inr (x, refl)

pub some_none : {A : Type 0} (o : Option A) (x : A) → o ≡ None → o ≡ Some x → ⊥
some_none o x p q = let z : ◌≡◌ {A = ℕ} 0 1 = cc in omega arith

-- what holds of a record that says something
pub record Up (f : List ℕ) (r : ℕ) : Type 0 where
  pub here : 1 ≤ r
  pub inside : r ≤ count f
  pub few : count f ≤ 2047
  pub first_up : link_up (count f) r (rec_at f r).first ≡ true
  pub next_up : link_up (count f) r (rec_at f r).next ≡ true

abbrev pub Upward : (ℕ → Option Said) → List ℕ → Type 0
Upward say f = (r : ℕ) (s : Said) → say r ≡ Some s → Up f r

-- a link is 0, or leads up
pub by_link : (P : ℕ → Type 0) (n r l : ℕ) → link_up n r l ≡ true → P 0 → ((x : ℕ) → r < x → x ≤ n → P x) → P l
by_link P n r l e z up =
    elim (cases_eq l 0) [
      | inl h ↦ subst P (sym h) z
      | inr h ↦ (let a : r < l = grind (arith, nat_tests, e, h) in let b : l ≤ n = grind (arith, nat_tests, e, h) in up l a b)
    ]

none_at : (say : ℕ → Option Said) (f : List ℕ) (m r : ℕ) → say r ≡ None → tree_in say f m r ≡ none
unfolding tree_in
none_at say f zero r e = refl
none_at say f (suc m) r e = rw e

some_at : (say : ℕ → Option Said) (f : List ℕ) (m r : ℕ) (s : Said) → say r ≡ Some s → tree_in say f (suc m) r ≡ node r s (tree_in say f m (rec_at f r).first) (tree_in say f m (rec_at f r).next)
unfolding tree_in
some_at say f m r s e = rw e

no_zero : (say : ℕ → Option Said) (f : List ℕ) → Upward say f → say 0 ≡ None
no_zero say f up = elim (cases_option (say 0)) [ inl e ↦ e | inr p ↦ absurd (omega (arith, (up 0 p.0 p.1).here)) ]

zero_none : (say : ℕ → Option Said) (f : List ℕ) → Upward say f → (m : ℕ) → tree_in say f m 0 ≡ none
zero_none say f up m = none_at say f m 0 (no_zero say f up)

-- any two bounds that are large enough give the same tree
same_bound : (say : ℕ → Option Said) (f : List ℕ) → Upward say f → (a b r : ℕ) → 2048 ≤ r + a → 2048 ≤ r + b → tree_in say f a r ≡ tree_in say f b r
same_bound say f up zero b r h k =
    elim (cases_option (say r)) [
      | inl e ↦ none_at say f zero r e ∙ sym (none_at say f b r e)
      | inr p ↦ (let u = up r p.0 p.1 in absurd (omega (arith, u.inside, u.few)))
    ]
same_bound say f up (suc a) zero r h k =
    elim (cases_option (say r)) [
      | inl e ↦ none_at say f (suc a) r e ∙ sym (none_at say f zero r e)
      | inr p ↦ (let u = up r p.0 p.1 in absurd (omega (arith, u.inside, u.few)))
    ]
same_bound say f up (suc a) (suc b) r h k =
    elim (cases_option (say r)) [
      | inl e ↦ none_at say f (suc a) r e ∙ sym (none_at say f (suc b) r e)
      | inr p ↦ (
          let u = up r p.0 p.1 in
          let same : (x : ℕ) → link_up (count f) r x ≡ true → tree_in say f a x ≡ tree_in say f b x = λ x e. by_link (λ y. tree_in say f a y ≡ tree_in say f b y) (count f) r x e (zero_none say f up a ∙ sym (zero_none say f up b)) (λ y lo hi. same_bound say f up a b y (omega arith) (omega arith)) in
          let i = same (rec_at f r).first u.first_up in
          let j = same (rec_at f r).next u.next_up in
          rw (some_at say f a r p.0 p.1, some_at say f b r p.0 p.1, i, j))
    ]

-- the one law of a tree, for any bytes and any number
pub grows : (say : ℕ → Option Said) (f : List ℕ) → Upward say f → (r : ℕ) → tree_by say f r ≡ grow r (say r) (tree_by say f (rec_at f r).first) (tree_by say f (rec_at f r).next)
unfolding tree_by
grows say f up r =
    elim (cases_option (say r)) [
      | inl e ↦ rw e (none_at say f (2048 - r) r e)
      | inr p ↦ (
          let u = up r p.0 p.1 in
          let m : ℕ = 2047 - r in
          let d : 2048 - r ≡ suc m = omega (arith, u.inside, u.few) in
          let same : (x : ℕ) → link_up (count f) r x ≡ true → tree_in say f m x ≡ tree_in say f (2048 - x) x = λ x e. by_link (λ y. tree_in say f m y ≡ tree_in say f (2048 - y) y) (count f) r x e (zero_none say f up m ∙ sym (zero_none say f up (2048 - 0))) (λ y lo hi. same_bound say f up m (2048 - y) y (omega (arith, u.few)) (omega arith)) in
          let i = same (rec_at f r).first u.first_up in
          let j = same (rec_at f r).next u.next_up in
          rw p.1 (rw (d, some_at say f m r p.0 p.1, i, j)))
    ]

pub above_less : (n r l : ℕ) → 1 ≤ r → r ≤ n → n ≤ 2047 → link_up n r l ≡ true → above l < above r
unfolding above
above_less n r l h i k e = grind (arith, nat_tests, e)

pub link_in : (n r l : ℕ) → link_up n r l ≡ true → l ≤ n
link_in n r l e = grind (arith, nat_tests, e)

pub step_by : (say : ℕ → Option Said) (f : List ℕ) → Upward say f → (r : ℕ) (s : Said) → say r ≡ Some s → Step (tree_by say f) (count f) r s (rec_at f r).first (rec_at f r).next
step_by say f up r s e =
    let u = up r s e in
    record {
      here = u.here;
      inside = u.inside;
      tree_is = grows say f up r ∙ ap (λ o. grow r o (tree_by say f (rec_at f r).first) (tree_by say f (rec_at f r).next)) e;
      first_less = above_less (count f) r _ u.here u.inside u.few u.first_up;
      first_in = link_in (count f) r _ u.first_up;
      next_less = above_less (count f) r _ u.here u.inside u.few u.next_up;
      next_in = link_in (count f) r _ u.next_up;
    }

pub up_linked : (f : List ℕ) (r : ℕ) → linked f r ≡ true → Up f r
unfolding linked
up_linked f r e = record { here = grind (arith, nat_tests, e); inside = grind (arith, nat_tests, e); few = grind (arith, nat_tests, e); first_up = grind (arith, nat_tests, e); next_up = grind (arith, nat_tests, e) }

-- what is some only under a test says that the test holds
under : {A : Type 0} (b : Bool) (o : Option A) (x : A) → cond b o None ≡ Some x → b ≡ true
under true o x e = refl
under false o x e = absurd (some_none {A = _} None x refl e)

pub said_up : (f : List ℕ) → Upward (said_at f) f
unfolding said_at
said_up f r s e = up_linked f r (under (linked f r) (say_of f (text_size f) (rec_at f r)) s e)

pub kind_up : (f : List ℕ) → Upward (kind_at f) f
unfolding kind_at
kind_up f r s e = up_linked f r (under (linked f r) (bare_by (listed_kind (rec_at f r))) s e)

pub tree_grows : (f : List ℕ) (r : ℕ) → tree_at f r ≡ grow r (said_at f r) (tree_at f (rec_at f r).first) (tree_at f (rec_at f r).next)
unfolding tree_at
tree_grows f r = grows (said_at f) f (said_up f) r

pub tree_step : (f : List ℕ) (r : ℕ) (s : Said) → said_at f r ≡ Some s → Step (tree_at f) (count f) r s (rec_at f r).first (rec_at f r).next
unfolding tree_at
tree_step f r s e = step_by (said_at f) f (said_up f) r s e

pub tree_none : (f : List ℕ) (r : ℕ) → said_at f r ≡ None → tree_at f r ≡ none
unfolding tree_at
tree_none f r e = grows (said_at f) f (said_up f) r ∙ ap (λ o. grow r o (tree_by (said_at f) f (rec_at f r).first) (tree_by (said_at f) f (rec_at f r).next)) e

pub kind_step : (f : List ℕ) (r : ℕ) (s : Said) → kind_at f r ≡ Some s → Step (kind_tree f) (count f) r s (rec_at f r).first (rec_at f r).next
unfolding kind_tree
kind_step f r s e = step_by (kind_at f) f (kind_up f) r s e

pub kind_none : (f : List ℕ) (r : ℕ) → kind_at f r ≡ None → kind_tree f r ≡ none
unfolding kind_tree
kind_none f r e = grows (kind_at f) f (kind_up f) r ∙ ap (λ o. grow r o (tree_by (kind_at f) f (rec_at f r).first) (tree_by (kind_at f) f (rec_at f r).next)) e

-- what holds where no record stands, and of a record once it holds of both its links, holds of every number
by_bound : (f : List ℕ) (P : ℕ → Type 0) → ((x : ℕ) → said_at f x ≡ None → tree_at f x ≡ none → P x) → ((x : ℕ) (s : Said) → said_at f x ≡ Some s → Step (tree_at f) (count f) x s (rec_at f x).first (rec_at f x).next → P (rec_at f x).first → P (rec_at f x).next → P x) → (m x : ℕ) → above x ≤ m → P x
by_bound f P base more zero x h =
    elim (cases_option (said_at f x)) [
      | inl e ↦ base x e (tree_none f x e)
      | inr p ↦ (let s = tree_step f x p.0 p.1 in absurd (omega (arith, s.first_less)))
    ]
by_bound f P base more (suc m) x h =
    elim (cases_option (said_at f x)) [
      | inl e ↦ base x e (tree_none f x e)
      | inr p ↦ (let s = tree_step f x p.0 p.1 in more x p.0 p.1 s (by_bound f P base more m (rec_at f x).first (omega (arith, s.first_less))) (by_bound f P base more m (rec_at f x).next (omega (arith, s.next_less))))
    ]

pub by_tree : (f : List ℕ) (P : ℕ → Type 0) → ((x : ℕ) → said_at f x ≡ None → tree_at f x ≡ none → P x) → ((x : ℕ) (s : Said) → said_at f x ≡ Some s → Step (tree_at f) (count f) x s (rec_at f x).first (rec_at f x).next → P (rec_at f x).first → P (rec_at f x).next → P x) → (x : ℕ) → P x
by_tree f P base more x = by_bound f P base more (above x) x (omega arith)
