-- Two rules about links: they lead up, and each record from the second on is linked exactly once.
use Rattle.std.specs.Prelude.{◌≡◌, ℕ, zero, suc, ◌+◌, ◌≤◌, min, Bool, true, cond, List, ◌==◌, slice_index, slice_set}
use Rattle.records.specs.Bytes.{count, rec_at}
use Rattle.records.specs.Records.{links_up}

abbrev pub lead_up : List ℕ → ℕ → Bool
lead_up f r = links_up (count f) r (rec_at f r)

-- all links of the first n records lead up
abbrev pub AllLeadUp : List ℕ → ℕ → Type 0
AllLeadUp f n = (k : ℕ) → 1 ≤ k → k ≤ n → lead_up f k ≡ true

-- 1 where a link is to k
abbrev pub hits : ℕ → ℕ → ℕ
hits link k = cond (link == k) 1 0

-- how many links to k the record r has
abbrev pub links_from : List ℕ → ℕ → ℕ → ℕ
links_from f r k = hits (rec_at f r).first k + hits (rec_at f r).next k

-- how many links to k the records up to r have
abbrev pub links_to : List ℕ → ℕ → ℕ → ℕ
links_to f zero k = 0
links_to f (suc r) k = links_to f r k + links_from f (suc r) k

abbrev pub linked_once : List ℕ → ℕ → Bool
linked_once f k = links_to f (count f) k == 1

-- one more at k, as a byte that stays at 255
abbrev pub counted : List ℕ → ℕ → List ℕ
counted counts k = slice_set counts k (min 255 (slice_index counts k + 1))
