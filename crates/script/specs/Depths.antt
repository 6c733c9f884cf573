-- Depth in the words of the tree, for files whose records are linked as they should be.
use Rattle.std.specs.Prelude.{◌≡◌, ℕ, ◌+◌, ◌≤◌, true, List}
use Rattle.records.specs.Bytes.{count, rec_at}
use Rattle.rules.specs.Links.{lead_up, linked_once}
use Rattle.rules.specs.Depths.{depth}

-- links lead up, and each record from the second on is linked exactly once
pub record OneWay (f : List ℕ) : Type 0 where
  pub up : (k : ℕ) → 1 ≤ k → k ≤ count f → lead_up f k ≡ true
  pub once : (k : ℕ) → 2 ≤ k → k ≤ count f → linked_once f k ≡ true

-- the first record stands at 1, a first child one deeper than its parent, the next child as deep as the one before
pub record DepthLaw (f : List ℕ) : Type 0 where
  pub root : depth f 1 ≡ 1
  pub child : (x : ℕ) → 1 ≤ x → x ≤ count f → 1 ≤ (rec_at f x).first → depth f (rec_at f x).first ≡ depth f x + 1
  pub sibling : (x : ℕ) → 1 ≤ x → x ≤ count f → 1 ≤ (rec_at f x).next → depth f (rec_at f x).next ≡ depth f x
