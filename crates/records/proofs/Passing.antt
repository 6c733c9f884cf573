-- What a loop over the records of a file knows at each turn: those with numbers below `next` have been passed.
use Rattle.std.proofs.Common.{◌≡◌, ℕ, ◌+◌, ◌-◌, ◌≤◌, Some, None, ap, ◌∙◌, arith}
use Rattle.records.specs.Bytes.{rec_at}
use Rattle.records.specs.declared.bytes.Rec.{Rec}
use Rattle.records.specs.declared.opened.Opened.{Opened}
use Rattle.records.specs.declared.place.Place.{Place}
use Rattle.records.specs.declared.place.Places.{Places}
use Rattle.records.specs.Places.{Starts, Yields}

-- how many have been passed
abbrev pub behind : Places → ℕ
behind it = it.next - 1

pub record Passing (s : Opened) (it : Places) : Type 0 where
  pub over : it.over ≡ s
  pub most : it.next ≤ s.n + 1

pub at_start : (s : Opened) (made it : Places) → Starts s 1 made → it ≡ made → Passing s it
at_start s made it p i =
    let e : it.next ≡ 1 = ap (λ (x : Places). x.next) i ∙ p.1 in
    record { over = ap (λ (x : Places). x.over) i ∙ p.0; most = omega (arith, e) }

pub none_passed : (s : Opened) (made it : Places) → Starts s 1 made → it ≡ made → behind it ≡ 0
none_passed s made it p i = let e : it.next ≡ 1 = ap (λ (x : Places). x.next) i ∙ p.1 in omega (arith, e)

-- a turn of the loop: one more is passed, the record p
pub record Turn (s : Opened) (it : Places) (p : Place) (it' : Places) : Type 0 where
  pub goes_on : Passing s it'
  pub over : p.over ≡ s
  pub is : p.r ≡ behind it + 1
  pub one_more : behind it' ≡ behind it + 1
  pub within : behind it + 1 ≤ s.n

pub turn : (s : Opened) (it : Places) (p : Place) (it' : Places) → Passing s it → Yields it (Some p) it' → Turn s it p it'
turn s it p it' so_far y =
    let n = ap (λ (o : Opened). o.n) so_far.over in
    record {
      goes_on = record { over = y.3 ∙ so_far.over; most = omega (arith, y.4, y.2, n) };
      over = y.0 ∙ so_far.over;
      is = omega (arith, y.1, it.from);
      one_more = omega (arith, y.4, it.from);
      within = omega (arith, y.2, it.from, n);
    }

pub all_passed : (s : Opened) (it it' : Places) → Passing s it → Yields it None it' → behind it ≡ s.n
all_passed s it it' so_far y = omega (arith, y.0, so_far.most, ap (λ (o : Opened). o.n) so_far.over)

-- a place that was found in a file: the file has the record
pub record Has (s : Opened) (r : ℕ) : Type 0 where
  pub from : 1 ≤ r
  pub within : r ≤ s.n

pub found : (s : Opened) (r : ℕ) (p : Place) → p.over ≡ s → p.r ≡ r → Has s r
found s r p e i = record { from = omega (arith, i, p.from); within = omega (arith, i, p.within, ap (λ (o : Opened). o.n) e) }

-- and its fields are those of the record there
pub fields_in : (s : Opened) (p : Place) (rec : Rec) → p.over ≡ s → rec ≡ rec_at p.over.file.now p.r → rec ≡ rec_at s.file.now p.r
fields_in s p rec e h = h ∙ ap (λ (o : Opened). rec_at o.file.now p.r) e

pub fields_of : (s : Opened) (r : ℕ) (p : Place) (rec : Rec) → p.over ≡ s → p.r ≡ r → rec ≡ rec_at p.over.file.now p.r → rec ≡ rec_at s.file.now r
fields_of s r p rec e i h = fields_in s p rec e h ∙ ap (λ x. rec_at s.file.now x) i
