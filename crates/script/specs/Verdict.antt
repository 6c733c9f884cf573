-- The verdict of the reader: the lowest number whose rule is broken anywhere, then the lowest record that breaks it.
use Rattle.std.specs.Prelude.{◌≡◌, ℕ, ◌<◌, ◌≤◌, Bool, true, false, ◌&&◌, ◌⊎◌, List, Ok, Err, Result, nat_le}
use Rattle.faults.specs.declared.FileFault.{FileFault}
use Rattle.faults.specs.declared.FileFault.TheVariants.{Short, Size, Length, Lent, Link, Linked, Deep, Unlisted, Children, Text}
use Rattle.faults.specs.Numbers.{file_named}
use Rattle.records.specs.declared.bytes.Header.{Header}
use Rattle.records.specs.Bytes.{count}
use Rattle.records.specs.Records.{long_enough, sized, exact, Heads}
use Rattle.rules.specs.Links.{lead_up, linked_once}
use Rattle.rules.specs.Depths.{shallow}
use Rattle.rules.specs.Children.{children_fit}
use Rattle.rules.specs.Rules.{kind_listed, text_inside, Kept}
use Rattle.script.specs.declared.Lengths.{Lengths}

-- how many type entries and names are always to be lent; of notes as many as the file has records
abbrev pub least_entries : ℕ
least_entries = 2304

abbrev pub least_names : ℕ
least_names = 256

abbrev pub lent_for : ℕ → Lengths → Bool
lent_for n lent = nat_le n lent.notes && nat_le least_entries lent.entries && nat_le least_names lent.names

abbrev pub lent_enough : List ℕ → Lengths → Bool
lent_enough f lent = lent_for (count f) lent

-- the rule that a fault says is broken, at its record
abbrev pub holds : List ℕ → Lengths → FileFault → Bool
holds f lent Short = long_enough f
holds f lent Size = sized f
holds f lent Length = exact f
holds f lent Lent = lent_enough f lent
holds f lent (Link r) = lead_up f r
holds f lent (Linked r) = linked_once f r
holds f lent (Deep r) = shallow f r
holds f lent (Unlisted r) = kind_listed f r
holds f lent (Children r) = children_fit f r
holds f lent (Text r) = text_inside f r

-- the records at which a rule is sought: all of them, and from the second on for the one about being linked
pub record From (lo r n : ℕ) : Type 0 where
  pub low : lo ≤ r
  pub high : r ≤ n

abbrev pub Sought : List ℕ → FileFault → Type 0
Sought f Short = Unit {0}
Sought f Size = Unit {0}
Sought f Length = Unit {0}
Sought f Lent = Unit {0}
Sought f (Link r) = From 1 r (count f)
Sought f (Linked r) = From 2 r (count f)
Sought f (Deep r) = From 1 r (count f)
Sought f (Unlisted r) = From 1 r (count f)
Sought f (Children r) = From 1 r (count f)
Sought f (Text r) = From 1 r (count f)

-- a fault comes before number m at record r: a lower number, or the same number at a lower record
abbrev pub Before : FileFault → ℕ → ℕ → Type 0
Before a m r = ((file_named a).number < m) ⊎ (((file_named a).number ≡ m) × ((file_named a).at < r))

abbrev pub Earlier : FileFault → FileFault → Type 0
Earlier a e = Before a (file_named e).number (file_named e).at

-- a fault is named where its rule is broken and none is broken before; with no fault, no rule is broken
abbrev pub Verdict : List ℕ → Lengths → Result Header FileFault → Type 0
Verdict f lent (Ok h) = (a : FileFault) → Sought f a → holds f lent a ≡ true
Verdict f lent (Err e) = Sought f e × (holds f lent e ≡ false) × ((a : FileFault) → Sought f a → Earlier a e → holds f lent a ≡ true)

-- two answers with the same fault, or both with none
abbrev pub SameAnswer : Result Header FileFault → Result Header FileFault → Type 0
SameAnswer (Ok h) (Ok g) = Unit {0}
SameAnswer (Ok h) (Err e) = ⊥
SameAnswer (Err e) (Ok h) = ⊥
SameAnswer (Err e) (Err d) = e ≡ d

-- no other answer is a verdict of this file
abbrev pub OnlyVerdict : List ℕ → Lengths → Result Header FileFault → Type 0
OnlyVerdict f lent r = (q : Result Header FileFault) → Verdict f lent q → SameAnswer r q

-- what a file that can be read is known for
pub record Readable (f : List ℕ) (h : Header) : Type 0 where
  pub heads : Heads f h
  pub kept : Kept f h.records
