-- The tree that the records of a file make.
use Rattle.std.specs.Prelude.{◌≡◌, ℕ, zero, suc, ◌-◌, ◌<◌, ◌≤◌, cond, List, Some, None, Option, ◌==◌}
use Rattle.records.specs.declared.record.Kinded.{Kinded}
use Rattle.records.specs.declared.record.Node.{Node}
use Rattle.records.specs.declared.record.Record.{Record}
use Rattle.records.specs.declared.kind.Kind.{Kind}
use Rattle.records.specs.Bytes.{rec_at}
use Rattle.records.specs.Records.{Said, bare, seen, say_by, said_at, kind_at}

-- nothing, or a record by its number with what it says, its first child and its next sibling
pub data Tree : Type 0 where
  none : Tree
  node : ℕ → Said → Tree → Tree → Tree

abbrev pub grow : ℕ → Option Said → Tree → Tree → Tree
grow r None first next = none
grow r (Some said) first next = node r said first next

-- the tree below r by what `say` has of each record, at most so many records long on any way down
unfoldable pub tree_in : (ℕ → Option Said) → List ℕ → ℕ → ℕ → Tree
tree_in say f zero r = none
tree_in say f (suc more) r = grow r (say r) (tree_in say f more (rec_at f r).first) (tree_in say f more (rec_at f r).next)

-- records are numbered below 2,048 and links lead up, so no way down from r is longer than this
unfoldable pub tree_by : (ℕ → Option Said) → List ℕ → ℕ → Tree
tree_by say f r = tree_in say f (2048 - r) r

-- the tree whose top is the record r, of any bytes: a record that does not stand is none
unfoldable pub tree_at : List ℕ → ℕ → Tree
tree_at f r = tree_by (said_at f) f r

-- the tree of kinds alone, which does not depend on the text
unfoldable pub kind_tree : List ℕ → ℕ → Tree
kind_tree f r = tree_by (kind_at f) f r

-- how many records can stand from r on: what a recursion over the records ends by
unfoldable pub above : ℕ → ℕ
above r = cond (r == 0) 0 (2048 - r)

-- what is known of a record r that says `said`, with its two links, in a tree of n records
pub record Step (tree : ℕ → Tree) (n r : ℕ) (said : Said) (first next : ℕ) : Type 0 where
  pub here : 1 ≤ r
  pub inside : r ≤ n
  pub tree_is : tree r ≡ node r said (tree first) (tree next)
  pub first_less : above first < above r
  pub first_in : first ≤ n
  pub next_less : above next < above r
  pub next_in : next ≤ n

-- the fields and the kind of the record r, where its links lead up and its kind is listed: it stands in the tree of
-- kinds, and in the tree if it says something
pub record Kinds (f : List ℕ) (n t r : ℕ) (k : Kinded) : Type 0 where
  pub kinds : Step (kind_tree f) n r (bare k.kind) k.rec.first k.rec.next
  pub says : tree_at f r ≡ grow r (say_by f t k.rec (Some k.kind)) (tree_at f k.rec.first) (tree_at f k.rec.next)

abbrev pub KindedAt : List ℕ → ℕ → ℕ → ℕ → Option Kinded → Type 0
KindedAt f n t r None = (kind_tree f r ≡ none) × (tree_at f r ≡ none)
KindedAt f n t r (Some k) = Kinds f n t r k

-- what stands at r: nothing, or a record
abbrev pub Top : (ℕ → Tree) → ℕ → ℕ → Option (Node Record) → Type 0
Top tree n r None = tree r ≡ none
Top tree n r (Some nd) = Step tree n r (seen nd.«record») nd.first nd.next

abbrev pub TopKind : (ℕ → Tree) → ℕ → ℕ → Option (Node Kind) → Type 0
TopKind tree n r None = tree r ≡ none
TopKind tree n r (Some s) = Step tree n r (bare s.«record») s.first s.next
