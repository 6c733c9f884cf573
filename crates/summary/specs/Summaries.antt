-- What the summary of a script file says, and the line of text that it is written as.
use Rattle.std.specs.Prelude.{◌≡◌, ℕ, zero, suc, ◌+◌, ◌<◌, ◌≤◌, Bool, false, cond, ◌||◌, List, ◌++◌, codes, decimal, ◌==◌}
use Rattle.records.specs.Bytes.{count, text_size, rec_at}
use Rattle.rules.specs.Depths.{depth as depth_at}
use Rattle.report.specs.Lines.{newline}
use Rattle.summary.specs.declared.Summary.{Summary}

-- whether one of the records up to r has the kind number k
abbrev pub appears : List ℕ → ℕ → ℕ → Bool
appears f zero k = false
appears f (suc r) k = appears f r k || (rec_at f (suc r)).kind == k

-- how many of the numbers below m pass a test
unfoldable pub passing : (ℕ → Bool) → ℕ → ℕ
passing test zero = 0
passing test (suc m) = passing test m + cond (test m) 1 0

-- how many different kind numbers the records of a file have; a kind number is a byte, the first of its record
unfoldable pub kind_count : List ℕ → ℕ
kind_count f = passing (appears f (count f)) 256

-- of the records from 1 to n, r is the lowest of those that stand deepest, and d is how deep it stands
pub record Deepest (f : List ℕ) (n r d : ℕ) : Type 0 where
  pub from : 1 ≤ r
  pub within : r ≤ n
  pub here : d ≡ depth_at f r
  pub most : (k : ℕ) → 1 ≤ k → k ≤ n → depth_at f k ≤ d
  pub lowest : (k : ℕ) → 1 ≤ k → k < r → depth_at f k < d

-- the summary of a file
pub record Summarizes (f : List ℕ) (m : Summary) : Type 0 where
  pub records_are : m.records ≡ count f
  pub kinds_are : m.kinds ≡ kind_count f
  pub deepest_is : Deepest f (count f) m.deepest m.depth
  pub text_is : m.text ≡ text_size f

-- as in: records 8, kinds 8, deepest record 8 at depth 5, text 9 bytes
abbrev pub summary_line : Summary → List ℕ
summary_line m =
    codes "records " ++ decimal m.records
    ++ codes ", kinds " ++ decimal m.kinds
    ++ codes ", deepest record " ++ decimal m.deepest
    ++ codes " at depth " ++ decimal m.depth
    ++ codes ", text " ++ decimal m.text
    ++ (codes " bytes" ++ newline)
