-- Each record stands in the tree of the file exactly once.
use Rattle.std.proofs.Common.{◌≡◌, ℕ, zero, suc, ◌+◌, ◌*◌, ◌<◌, ◌≤◌, true, false, cond, eqb, leb, List, is_some, Some, None, Option, sym, refl, ap, ◌∙◌, inl, inr, add-mul, one-mul, zero-mul, arith}
use Rattle.std.proofs.lemmas.Bool.Decides.{nat_tests}
use Rattle.std.proofs.lemmas.Bool.{cases_eq, cases_lt, eqb-true}
use Rattle.records.specs.declared.kind.Kind.{Kind}
use Rattle.records.specs.declared.bytes.Rec.{Rec}
use Rattle.records.specs.declared.bytes.Header.{Header}
use Rattle.records.specs.Kinds.{about}
use Rattle.records.specs.Bytes.{count, text_size, rec_at}
use Rattle.records.specs.Records.{Said, said_at, linked, links_up, listed_kind, text_by, say_form, say_by}
use Rattle.records.specs.Trees.{Tree, none, node, tree_at}
use Rattle.records.proofs.Grows.{by_tree, some_none}
use Rattle.records.proofs.Views.{whole_true, linked_is, said_is}
use Rattle.rules.specs.Links.{lead_up, hits, links_from, links_to}
use Rattle.rules.specs.Rules.{kind_listed}
use Rattle.script.specs.Verdict.{Readable}
use Rattle.script.proofs.Bared.{inside_is}
use Rattle.script.specs.Trees.{times}

pub listed_is : (f : List ℕ) (r : ℕ) → kind_listed f r ≡ true → is_some (listed_kind (rec_at f r)) ≡ true
unfolding kind_listed
listed_is f r e = e

-- a listed kind and a text inside say something
speaks : (f : List ℕ) (t : ℕ) (rec : Rec) (o : Option Kind) → is_some o ≡ true → text_by t rec o ≡ true → (s : Said) × (say_by f t rec o ≡ Some s)
speaks f t rec None e d = absurd (let z : ◌≡◌ {A = ℕ} 0 1 = cc in omega arith)
speaks f t rec (Some k) e d = (say_form f rec k (about k).form, rw d)

-- how often the records up to m stand in a tree, each as many times as it links to k
abbrev came : Tree → List ℕ → ℕ → ℕ → ℕ
came t f zero k = 0
came t f (suc s) k = came t f s k + times (suc s) t * links_from f (suc s) k

came_none : (f : List ℕ) (m k : ℕ) → came none f m k ≡ 0
came_none f zero k = refl
came_none f (suc s) k = let z : 0 * links_from f (suc s) k ≡ 0 = zero-mul _ in omega (arith, came_none f s k, z)

-- what the top itself adds
abbrev own : List ℕ → ℕ → ℕ → ℕ → ℕ
own f x m k = cond (leb x m) (links_from f x k) 0

own_more : (f : List ℕ) (x s k : ℕ) → own f x (suc s) k ≡ own f x s k + hits x (suc s) * links_from f (suc s) k
own_more f x s k =
    elim (cases_eq x (suc s)) [
      | inl e ↦ (
          let a : leb x (suc s) ≡ true = grind (arith, nat_tests) in
          let b : leb x s ≡ false = grind (arith, nat_tests) in
          let c : eqb x (suc s) ≡ true = grind (arith, nat_tests) in
          rw (a, b, c) (ap (λ y. links_from f y k) e ∙ sym (one-mul _) ∙ omega arith))
      | inr ne ↦ (
          let c : eqb x (suc s) ≡ false = grind (arith, nat_tests) in
          let z : 0 * links_from f (suc s) k ≡ 0 = zero-mul _ in
          let d : leb x (suc s) ≡ leb x s = grind (arith, nat_tests) in
          rw (c, d, z) (omega arith))
    ]

came_node : (f : List ℕ) (x : ℕ) (said : Said) (a b : Tree) → 1 ≤ x → (m k : ℕ) → came (node x said a b) f m k ≡ own f x m k + (came a f m k + came b f m k)
came_node f x said a b h zero k = let e : leb x 0 ≡ false = grind (arith, nat_tests) in rw e refl
came_node f x said a b h (suc s) k =
    let L : ℕ = links_from f (suc s) k in
    let p : (hits x (suc s) + (times (suc s) a + times (suc s) b)) * L ≡ hits x (suc s) * L + (times (suc s) a * L + times (suc s) b * L) = add-mul (hits x (suc s)) (times (suc s) a + times (suc s) b) L ∙ ap (λ y. hits x (suc s) * L + y) (add-mul (times (suc s) a) (times (suc s) b) L) in
    omega (arith, p, own_more f x s k, came_node f x said a b h s k)

module _ (f : List ℕ) (h : Header) (p : Readable f h) where
  pub linked_at : (x : ℕ) → 1 ≤ x → x ≤ count f → linked f x ≡ true
  linked_at x a b =
      let hd = p.heads in
      let c : x ≤ h.records = omega (arith, hd.records_are) in
      let w = whole_true f h.records h.text hd.records_are hd.text_is hd.some hd.few hd.brief hd.fills in
      linked_is f h.records x (rec_at f x) hd.records_are w a c refl ∙ ap (λ n. links_up n x (rec_at f x)) hd.records_are ∙ p.kept.links x a c

  standing : (x : ℕ) → 1 ≤ x → x ≤ count f → (s : Said) × (said_at f x ≡ Some s)
  standing x a b =
      let c : x ≤ h.records = omega (arith, p.heads.records_are) in
      let q = speaks f (text_size f) (rec_at f x) (listed_kind (rec_at f x)) (listed_is f x (p.kept.kinds x a c)) (inside_is f x (p.kept.texts x a c)) in
      (q.0, said_is f (text_size f) x (rec_at f x) refl (linked_at x a b) refl ∙ q.1)

  -- a record stands in the tree of x as the top, and once for each time a record that links to it stands there
  abbrev Came : ℕ → Type 0
  Came x = (k : ℕ) → 1 ≤ k → x ≤ count f → times k (tree_at f x) ≡ hits x k + came (tree_at f x) f (count f) k

  came_at : (x : ℕ) → Came x
  came_at =
      by_tree f Came
      (λ x e n k hk hx.
      elim (cases_eq x 0) [
        | inl z ↦ (
            let y : eqb x k ≡ false = grind (arith, nat_tests) in
            let t : times k (tree_at f x) ≡ 0 = ap (times k) n in
            let c : came (tree_at f x) f (count f) k ≡ 0 = ap (λ u. came u f (count f) k) n ∙ came_none f (count f) k in
            rw (y, t, c))
        | inr nz ↦ (let q = standing x (omega arith) hx in absurd (some_none (said_at f x) q.0 e q.1))
      ])
      (λ x s e st pa pb k hk hx.
      let a : Tree = tree_at f (rec_at f x).first in
      let b : Tree = tree_at f (rec_at f x).next in
      let t : times k (tree_at f x) ≡ hits x k + (times k a + times k b) = ap (times k) st.tree_is in
      let c : came (tree_at f x) f (count f) k ≡ own f x (count f) k + (came a f (count f) k + came b f (count f) k) = ap (λ u. came u f (count f) k) st.tree_is ∙ came_node f x s a b st.here (count f) k in
      let o : own f x (count f) k ≡ links_from f x k = (let y : leb x (count f) ≡ true = grind (arith, nat_tests) in rw y refl) in
      omega (arith, t, c, o, pa k hk st.first_in, pb k hk st.next_in))

  -- links lead up, so a record is linked from below only
  no_link : (s k : ℕ) → 1 ≤ s → s ≤ count f → 1 ≤ k → k ≤ s → links_from f s k ≡ 0
  no_link s k a b c d =
      let u : lead_up f s ≡ true = p.kept.links s a (omega (arith, p.heads.records_are)) in
      grind (arith, nat_tests, u)

  -- if each record below k stands once in a tree, as many ways lead to k as it has links
  came_links : (t : Tree) (k : ℕ) → 1 ≤ k → ((j : ℕ) → 1 ≤ j → j < k → times j t ≡ 1) → (m : ℕ) → m ≤ count f → came t f m k ≡ links_to f m k
  came_links t k hk one zero hm = refl
  came_links t k hk one (suc s) hm =
      let i = came_links t k hk one s (omega arith) in
      elim (cases_lt (suc s) k) [
        | inl lt ↦ (
            let o : times (suc s) t ≡ 1 = one (suc s) (omega arith) lt in
            let q : times (suc s) t * links_from f (suc s) k ≡ links_from f (suc s) k = ap (λ y. y * links_from f (suc s) k) o ∙ one-mul _ in
            omega (arith, i, q))
        | inr ge ↦ (
            let z : links_from f (suc s) k ≡ 0 = no_link (suc s) k (omega arith) hm hk ge in
            let q : times (suc s) t * links_from f (suc s) k ≡ 0 = ap (λ y. times (suc s) t * y) z ∙ omega arith in
            omega (arith, i, q, z))
      ]

  links_of_one : (m : ℕ) → m ≤ count f → links_to f m 1 ≡ 0
  links_of_one zero hm = refl
  links_of_one (suc s) hm = omega (arith, links_of_one s (omega arith), no_link (suc s) 1 (omega arith) hm (omega arith) (omega arith))

  once_below : (b k : ℕ) → k ≤ b → 1 ≤ k → k ≤ count f → times k (tree_at f 1) ≡ 1
  once_below zero k l a c = absurd (omega arith)
  once_below (suc b) k l a c =
      let one : 1 ≤ count f = omega arith in
      let came_one = came_at 1 k a one in
      let links = came_links (tree_at f 1) k a (λ j ja jk. once_below b j (omega arith) ja (omega arith)) (count f) (omega arith) in
      elim (cases_eq k 1) [
        | inl e ↦ (
            let z : links_to f (count f) k ≡ 0 = ap (links_to f (count f)) e ∙ links_of_one (count f) (omega arith) in
            let y : eqb 1 k ≡ true = grind (arith, nat_tests) in
            came_one ∙ rw (y, links, z) refl)
        | inr ne ↦ (
            let z : links_to f (count f) k ≡ 1 = eqb-true _ 1 (p.kept.once k (omega arith) (omega (arith, p.heads.records_are))) in
            let y : eqb 1 k ≡ false = grind (arith, nat_tests) in
            came_one ∙ rw (y, links, z) refl)
      ]

  pub once : (k : ℕ) → 1 ≤ k → k ≤ count f → times k (tree_at f 1) ≡ 1
  once k a c = once_below k k (omega arith) a c
