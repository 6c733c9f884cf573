-- What the tree of a file that can be read is like.
use Rattle.std.specs.Prelude.{◌≡◌, ℕ, ◌+◌, ◌≤◌, max, Bool, true, ◌&&◌, List, Some, None, Option}
use Rattle.records.specs.declared.record.Kinded.{Kinded}
use Rattle.records.specs.declared.record.Node.{Node}
use Rattle.records.specs.declared.record.Record.{Record}
use Rattle.records.specs.Bytes.{count}
use Rattle.records.specs.Kinds.{about}
use Rattle.records.specs.Records.{seen, say_form, text_fits}
use Rattle.records.specs.Trees.{Tree, none, node, tree_at, Step}
use Rattle.rules.specs.Links.{hits}
use Rattle.rules.specs.Depths.{most_depth}
use Rattle.rules.specs.Children.{line_fits, is_root}

-- how many levels a tree has
abbrev pub height : Tree → ℕ
height none = 0
height (node r said first next) = max (1 + height first) (height next)

-- how often the record k stands in a tree
abbrev pub times : ℕ → Tree → ℕ
times k none = 0
times k (node r said first next) = hits r k + (times k first + times k next)

-- each record of a tree has the children that are listed for its kind
abbrev pub formed : Tree → Bool
formed none = true
formed (node r said first next) = line_fits (node r said first next) && (formed first && formed next)

-- the tree of the whole file: a program beside which nothing stands, children as listed, at most 64 levels, and each
-- record of the file in it exactly once
pub record WellFormed (f : List ℕ) : Type 0 where
  pub root : is_root (tree_at f 1) ≡ true
  pub listed : formed (tree_at f 1) ≡ true
  pub levels : height (tree_at f 1) ≤ most_depth
  pub once : (k : ℕ) → 1 ≤ k → k ≤ count f → times k (tree_at f 1) ≡ 1

-- what stands at r in such a file: a record with its listed children, and none only past the ends
pub record Stands (f : List ℕ) (n r : ℕ) (nd : Node Record) : Type 0 where
  pub step : Step (tree_at f) n r (seen nd.«record») nd.first nd.next
  pub listed : formed (tree_at f r) ≡ true

-- the same before what the record holds is taken from the text: that lies inside
pub record Known (f : List ℕ) (n t r : ℕ) (k : Kinded) : Type 0 where
  pub inside : text_fits t k.rec (about k.kind).form ≡ true
  pub step : Step (tree_at f) n r (say_form f k.rec k.kind (about k.kind).form) k.rec.first k.rec.next
  pub listed : formed (tree_at f r) ≡ true

abbrev pub KnownAt : List ℕ → ℕ → ℕ → ℕ → Option Kinded → Type 0
KnownAt f n t r None = (tree_at f r ≡ none) × (1 ≤ r → r ≤ n → ⊥)
KnownAt f n t r (Some k) = Known f n t r k

abbrev pub At : List ℕ → ℕ → ℕ → Option (Node Record) → Type 0
At f n r None = (tree_at f r ≡ none) × (1 ≤ r → r ≤ n → ⊥)
At f n r (Some nd) = Stands f n r nd
