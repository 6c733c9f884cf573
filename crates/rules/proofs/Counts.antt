-- One more record's links, counted.
use Rattle.std.proofs.Common.{◌≡◌, ℕ, suc, ◌+◌, ◌<◌, ◌≤◌, min, true, List, length, get_or, add-one, arith}
use Rattle.std.proofs.lemmas.List.{get_or-set_same, get_or-set_other}
use Rattle.std.proofs.lemmas.Bool.Decides.{nat_tests}
use Rattle.std.proofs.lemmas.Bool.{cases_eq}
use Rattle.records.specs.Bytes.{rec_at, count}
use Rattle.records.specs.Records.{links_up}
use Rattle.records.specs.declared.bytes.Rec.{Rec}
use Rattle.rules.specs.Links.{counted, hits, links_to, AllLeadUp}

-- the fields of a record whose links lead up, which stay within the file
pub record Leads (f : List ℕ) (r : ℕ) (rec : Rec) : Type 0 where
  pub rec_is : rec ≡ rec_at f r
  pub first_in : rec.first < 2048
  pub next_in : rec.next < 2048

pub leads : (f : List ℕ) (n r : ℕ) (rec : Rec) → n ≡ count f → n ≤ 2047 → AllLeadUp f n → 1 ≤ r → r ≤ n → rec ≡ rec_at f r → Leads f r rec
leads f n r rec en few up h k e =
    let v : links_up n r rec ≡ true = rw (e, en) (up r h k) in
    record { rec_is = e; first_in = grind (arith, nat_tests, v); next_in = grind (arith, nat_tests, v) }

counted_at : (counts : List ℕ) (link k a : ℕ) → link < length counts → get_or counts k 0 ≡ min 255 a → get_or (counted counts link) k 0 ≡ min 255 (a + hits link k)
counted_at counts link k a h e = grind (arith, nat_tests, get_or-set_same, get_or-set_other, cases_eq k link)

-- the counts once the records up to r are counted
abbrev pub Counts : List ℕ → ℕ → List ℕ → Type 0
Counts f r counts = (k : ℕ) → k < 2048 → get_or counts k 0 ≡ min 255 (links_to f r k)

pub counts_more : (f one two three : List ℕ) (r : ℕ) (rec : Rec) → rec ≡ rec_at f (r + 1) → rec.first < length one → rec.next < length two → two ≡ counted one rec.first → three ≡ counted two rec.next → Counts f r one → Counts f (r + 1) three
counts_more f one two three r rec e hf hn e2 e3 inv k hk =
    let a = counted_at one rec.first k (links_to f r k) hf (inv k hk) in
    let b = counted_at two rec.next k (links_to f r k + hits rec.first k) hn (rw e2 a) in
    let e' : rec ≡ rec_at f (suc r) = rw add-one at e in
    let s : links_to f r k + (hits rec.first k + hits rec.next k) ≡ links_to f r k + hits rec.first k + hits rec.next k = omega arith in
    rw (add-one, e3, ← e', s) b
