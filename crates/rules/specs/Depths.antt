-- How deep a record stands: the program at 1, a child one deeper than its parent, the next child as deep as the one before.
use Rattle.std.specs.Prelude.{ℕ, zero, suc, ◌+◌, ◌-◌, max, Bool, cond, List, replicate, ◌==◌, nat_le, slice_index, slice_set}
use Rattle.records.specs.Bytes.{rec_at}

abbrev pub most_depth : ℕ
most_depth = 64

-- how deep k stands by the links of the records up to r: 0 where none of these leads there, else the deepest way
abbrev pub depth_by : List ℕ → ℕ → ℕ → ℕ
depth_by f zero k = cond (k == 1) 1 0
depth_by f (suc r) k = max (max (depth_by f r k) (cond ((rec_at f (suc r)).first == k) (depth_by f r (suc r) + 1) 0)) (cond ((rec_at f (suc r)).next == k) (depth_by f r (suc r)) 0)

-- links lead up, so the records before r are all that can lead to it
abbrev pub depth : List ℕ → ℕ → ℕ
depth f r = depth_by f (r - 1) r

abbrev pub shallow : List ℕ → ℕ → Bool
shallow f r = nat_le (depth f r) most_depth

-- a slot for each record, before any link is followed
abbrev pub start : List ℕ
start = slice_set (replicate 2048 0) 1 1

-- k stands at d or deeper
abbrev pub deepened : List ℕ → ℕ → ℕ → List ℕ
deepened depths k d = slice_set depths k (max (slice_index depths k) d)

-- the record r passes its own depth on: one more to its first child, the same to the next of its parent's
abbrev pub passed : List ℕ → ℕ → List ℕ → List ℕ
passed f r depths = deepened (deepened depths (rec_at f r).first (slice_index depths r + 1)) (rec_at f r).next (slice_index depths r)
