-- What the view of one record gives of the tree.
use Rattle.std.proofs.Common.{◌≡◌, ℕ, ◌+◌, ◌*◌, ◌<◌, ◌≤◌, Bool, true, false, leb, ◌⊎◌, List, length, Some, None, Option, sym, ap, ◌∙◌, inl, inr, arith}
use Rattle.std.proofs.lemmas.Bool.Decides.{nat_tests}
use Rattle.std.specs.Bool.{then_some}
use Rattle.records.specs.declared.bytes.Rec.{Rec}
use Rattle.records.specs.declared.kind.Kind.{Kind}
use Rattle.records.specs.Bytes.{rec_at, count, text_size}
use Rattle.records.specs.Records.{bare, links_up, linked, said_at, kind_at, say_by, listed_kind, bare_by, whole, LinkedRec}
use Rattle.records.specs.Trees.{none, grow, tree_at, kind_tree, Step}
use Rattle.records.proofs.Grows.{tree_none, tree_grows, kind_step, kind_none}

pub whole_true : (f : List ℕ) (n t : ℕ) → n ≡ count f → t ≡ text_size f → 1 ≤ n → n ≤ 2047 → t ≤ 16384 → length f ≡ 6 + 20 * n + t → whole f ≡ true
whole_true f n t en et a b d e = grind (arith, nat_tests, en, et, e)

pub linked_out : (f : List ℕ) (n r : ℕ) → n ≡ count f → (r ≡ 0) ⊎ (n < r) → linked f r ≡ false
unfolding linked
linked_out f n r en h = elim h [ inl a ↦ grind (arith, nat_tests, en, a) | inr a ↦ grind (arith, nat_tests, en, a) ]

pub linked_is : (f : List ℕ) (n r : ℕ) (rec : Rec) → n ≡ count f → whole f ≡ true → 1 ≤ r → r ≤ n → rec ≡ rec_at f r → linked f r ≡ links_up n r rec
unfolding linked
linked_is f n r rec en w a b e =
    let x : leb 1 r ≡ true = grind (arith, nat_tests) in
    let y : leb r (count f) ≡ true = grind (arith, nat_tests, en) in
    rw (w, x, y, e, en)

pub kind_is : (f : List ℕ) (r : ℕ) (rec : Rec) → linked f r ≡ true → rec ≡ rec_at f r → kind_at f r ≡ bare_by (listed_kind rec)
unfolding kind_at
kind_is f r rec l e = rw (l, e)

kind_unlinked : (f : List ℕ) (r : ℕ) → linked f r ≡ false → kind_at f r ≡ None
unfolding kind_at
kind_unlinked f r l = rw l

pub kind_out : (f : List ℕ) (r : ℕ) → linked f r ≡ false → kind_tree f r ≡ none
kind_out f r l = kind_none f r (kind_unlinked f r l)

pub kind_unlisted : (f : List ℕ) (r : ℕ) (rec : Rec) → linked f r ≡ true → rec ≡ rec_at f r → None ≡ listed_kind rec → kind_tree f r ≡ none
kind_unlisted f r rec l e k = kind_none f r (kind_is f r rec l e ∙ sym (ap bare_by k))

pub kind_top : (f : List ℕ) (n r : ℕ) (rec : Rec) (k : Kind) → n ≡ count f → linked f r ≡ true → rec ≡ rec_at f r → Some k ≡ listed_kind rec → Step (kind_tree f) n r (bare k) rec.first rec.next
kind_top f n r rec k en l e h = rw (en, e) (kind_step f r (bare k) (kind_is f r rec l e ∙ sym (ap bare_by h)))

-- the same with what a record holds
pub said_is : (f : List ℕ) (t r : ℕ) (rec : Rec) → t ≡ text_size f → linked f r ≡ true → rec ≡ rec_at f r → said_at f r ≡ say_by f t rec (listed_kind rec)
unfolding said_at
said_is f t r rec et l e = rw (l, e, et)

said_unlinked : (f : List ℕ) (r : ℕ) → linked f r ≡ false → said_at f r ≡ None
unfolding said_at
said_unlinked f r l = rw l

pub said_out : (f : List ℕ) (r : ℕ) → linked f r ≡ false → tree_at f r ≡ none
said_out f r l = tree_none f r (said_unlinked f r l)

pub said_unlisted : (f : List ℕ) (t r : ℕ) (rec : Rec) → t ≡ text_size f → linked f r ≡ true → rec ≡ rec_at f r → None ≡ listed_kind rec → tree_at f r ≡ none
said_unlisted f t r rec et l e k = tree_none f r (said_is f t r rec et l e ∙ sym (ap (say_by f t rec) k))

-- the tree at a record whose kind is known
pub says_by : (f : List ℕ) (t r : ℕ) (rec : Rec) (k : Kind) → t ≡ text_size f → linked f r ≡ true → rec ≡ rec_at f r → Some k ≡ listed_kind rec → tree_at f r ≡ grow r (say_by f t rec (Some k)) (tree_at f rec.first) (tree_at f rec.next)
says_by f t r rec k et l e h =
    let s : said_at f r ≡ say_by f t rec (Some k) = said_is f t r rec et l e ∙ sym (ap (say_by f t rec) h) in
    tree_grows f r ∙ ap (λ o. grow r o (tree_at f (rec_at f r).first) (tree_at f (rec_at f r).next)) s ∙ sym (ap (λ (x : Rec). grow r (say_by f t rec (Some k)) (tree_at f x.first) (tree_at f x.next)) e)

-- the fields of a record are handed on where its links lead up
pub linked_rec : (f : List ℕ) (r : ℕ) (rec : Rec) (b : Bool) (o : Option Rec) → linked f r ≡ b → rec ≡ rec_at f r → o ≡ then_some b rec → LinkedRec f r o
linked_rec f r rec true o l e eo = rw eo (l, e)
linked_rec f r rec false o l e eo = rw eo l
