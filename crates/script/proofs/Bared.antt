-- The tree of a file that can be read has the kinds of its tree of kinds, and so the listed children.
use Rattle.std.proofs.Common.{◌≡◌, ℕ, zero, suc, ◌+◌, ◌-◌, ◌≤◌, true, false, not, ◌&&◌, ◌||◌, eqb, List, Some, None, Option, sym, refl, ap, ◌∙◌, inl, inr, arith}
use Rattle.std.proofs.lemmas.Bool.{cases_Bool, and_parts}
use Rattle.std.specs.Option.{option_map}
use Rattle.records.specs.declared.bytes.Rec.{Rec}
use Rattle.records.specs.declared.bytes.Header.{Header}
use Rattle.records.specs.declared.kind.Kind.{Kind}
use Rattle.records.specs.declared.kind.Form.{Form}
use Rattle.records.specs.declared.kind.Form.TheVariants.{Bare, Int, Rune, Text, Name}
use Rattle.records.specs.Kinds.{about}
use Rattle.records.specs.Bytes.{count, text_size, rec_at}
use Rattle.records.specs.Records.{Said, bare, kind_in, linked, said_at, kind_at, say_form, say_by, say_of, bare_by, text_by, listed_kind}
use Rattle.records.specs.Trees.{Tree, none, node, grow, tree_in, tree_by, tree_at, kind_tree}
use Rattle.records.proofs.Grows.{up_linked, by_tree}
use Rattle.rules.specs.declared.grammar.Sort.{Sort}
use Rattle.rules.specs.declared.grammar.Children.{Children}
use Rattle.rules.specs.Grammar.{admits, contents, slot, children_of}
use Rattle.rules.specs.Children.{each, holds_by, fit, line_fits, is_none, is_root, children_fit, must_fill, filled}
use Rattle.rules.specs.Rules.{text_inside}
use Rattle.script.specs.Verdict.{Readable}
use Rattle.script.specs.Trees.{formed}

abbrev bare_of : Said → Said
bare_of s = bare (kind_in s)

form_kind : (f : List ℕ) (rec : Rec) (k : Kind) (form : Form) → kind_in (say_form f rec k form) ≡ k
form_kind f rec k Bare = refl
form_kind f rec k Int = refl
form_kind f rec k Rune = refl
form_kind f rec k Text = refl
form_kind f rec k Name = refl

alike_by : (f : List ℕ) (t : ℕ) (rec : Rec) (o : Option Kind) → text_by t rec o ≡ true → option_map bare_of (say_by f t rec o) ≡ bare_by o
alike_by f t rec None e = refl
alike_by f t rec (Some k) e = rw e (ap (λ (j : Kind). Some (bare j)) (form_kind f rec k (about k).form))

pub inside_is : (f : List ℕ) (r : ℕ) → text_inside f r ≡ true → text_by (text_size f) (rec_at f r) (listed_kind (rec_at f r)) ≡ true
unfolding text_inside
inside_is f r e = e

linked_says : (f : List ℕ) (r : ℕ) → linked f r ≡ true → (said_at f r ≡ say_of f (text_size f) (rec_at f r)) × (kind_at f r ≡ bare_by (listed_kind (rec_at f r)))
unfolding said_at kind_at
linked_says f r e = (rw e, rw e)

unlinked_says : (f : List ℕ) (r : ℕ) → linked f r ≡ false → (said_at f r ≡ None) × (kind_at f r ≡ None)
unfolding said_at kind_at
unlinked_says f r e = (rw e, rw e)

module _ (f : List ℕ) (h : Header) (p : Readable f h) where
  count_is : h.records ≡ count f
  count_is = p.heads.records_are

  -- a record says its kind in both trees, or stands in neither
  alike : (r : ℕ) → option_map bare_of (said_at f r) ≡ kind_at f r
  alike r =
      elim (cases_Bool (linked f r)) [
        | inl e ↦ (
            let u = up_linked f r e in
            let s = linked_says f r e in
            let t = inside_is f r (p.kept.texts r u.here (omega (arith, count_is, u.inside))) in
            ap (option_map bare_of) s.0 ∙ alike_by f (text_size f) (rec_at f r) (listed_kind (rec_at f r)) t ∙ sym s.1)
        | inr e ↦ (let s = unlinked_says f r e in ap (option_map bare_of) s.0 ∙ sym s.1)
      ]

abbrev bared : Tree → Tree
bared none = none
bared (node r s a b) = node r (bare_of s) (bared a) (bared b)

bared_grow : (r : ℕ) (o : Option Said) (a b : Tree) → bared (grow r o a b) ≡ grow r (option_map bare_of o) (bared a) (bared b)
bared_grow r None a b = refl
bared_grow r (Some s) a b = refl

bared_in : (f : List ℕ) (say kind : ℕ → Option Said) → ((r : ℕ) → option_map bare_of (say r) ≡ kind r) → (m r : ℕ) → bared (tree_in say f m r) ≡ tree_in kind f m r
unfolding tree_in
bared_in f say kind e zero r = refl
bared_in f say kind e (suc m) r =
    bared_grow r (say r) (tree_in say f m (rec_at f r).first) (tree_in say f m (rec_at f r).next)
    ∙ rw (e r, bared_in f say kind e m (rec_at f r).first, bared_in f say kind e m (rec_at f r).next)

pub bared_tree : (f : List ℕ) (h : Header) → Readable f h → (r : ℕ) → bared (tree_at f r) ≡ kind_tree f r
unfolding tree_at kind_tree tree_by
bared_tree f h p r = bared_in f (said_at f) (kind_at f) (alike f h p) (2048 - r) r

-- the rule on children looks at kinds alone
each_bared : (sort : Sort) (t : Tree) → each sort (bared t) ≡ each sort t
each_bared sort none = refl
each_bared sort (node r s a b) = ap (λ x. admits sort (kind_in s) (kind_in s) && x) (each_bared sort b)

holds_bared : (o : Option Sort) (t : Tree) → holds_by o (bared t) ≡ holds_by o t
holds_bared None t = refl
holds_bared (Some sort) t = each_bared sort t

fit_bared : (line : Children) (i : ℕ) (before : Kind) (t : Tree) → fit line i before (bared t) ≡ fit line i before t
fit_bared line i before none = refl
fit_bared line i before (node r s a b) =
    rw (holds_bared (contents (slot line i)) a, fit_bared line (i + 1) (kind_in s) b)

pub line_bared : (t : Tree) → line_fits (bared t) ≡ line_fits t
line_bared none = refl
line_bared (node r s a b) = fit_bared (children_of (kind_in s)) 0 (kind_in s) a

none_bared : (t : Tree) → is_none (bared t) ≡ is_none t
none_bared none = refl
none_bared (node r s a b) = refl

root_bared : (t : Tree) → is_root (bared t) ≡ is_root t
root_bared none = refl
root_bared (node r s a b) = rw (none_bared b)

has_parts : (f : List ℕ) (r : ℕ) → children_fit f r ≡ true → (line_fits (kind_tree f r) ≡ true) × ((not (eqb r 1) || is_root (kind_tree f r)) ≡ true)
unfolding children_fit
has_parts f r e =
    let a = and_parts (line_fits (kind_tree f r)) ((not (eqb r 1) || is_root (kind_tree f r)) && (not (must_fill f (count f) r) || filled (kind_tree f r))) e in
    (a.0, (and_parts (not (eqb r 1) || is_root (kind_tree f r)) (not (must_fill f (count f) r) || filled (kind_tree f r)) a.1).0)

module _ (f : List ℕ) (h : Header) (p : Readable f h) where
  pub line_at : (r : ℕ) → 1 ≤ r → r ≤ count f → line_fits (tree_at f r) ≡ true
  line_at r a b =
      sym (line_bared (tree_at f r)) ∙ ap line_fits (bared_tree f h p r) ∙ (has_parts f r (p.kept.children r a (omega (arith, count_is f h p)))).0

  pub formed_at : (r : ℕ) → formed (tree_at f r) ≡ true
  formed_at =
      by_tree f (λ r. formed (tree_at f r) ≡ true)
      (λ r e n. ap formed n)
      (λ r s e st a b.
      let t = st.tree_is in
      let l : line_fits (node r s (tree_at f (rec_at f r).first) (tree_at f (rec_at f r).next)) ≡ true = ap line_fits (sym t) ∙ line_at r st.here st.inside in
      ap formed t ∙ rw (l, a, b))

  pub root_at : is_root (tree_at f 1) ≡ true
  root_at =
      let one : 1 ≤ h.records = p.heads.some in
      sym (root_bared (tree_at f 1)) ∙ ap is_root (bared_tree f h p 1) ∙ (has_parts f 1 (p.kept.children 1 (omega arith) one)).1
