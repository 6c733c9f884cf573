-- The verdict as the reader comes to it, stage by stage: the header, what is lent, the records.
use Rattle.std.specs.Prelude.{◌≡◌, ℕ, true, false, List, Ok, Err, Result}
use Rattle.faults.specs.declared.FileFault.{FileFault}
use Rattle.faults.specs.declared.FileFault.TheVariants.{Short, Size, Length, Lent, Link, Linked, Deep, Unlisted, Children, Text}
use Rattle.records.specs.declared.bytes.Header.{Header}
use Rattle.records.specs.Records.{HeaderVerdict, Heads}
use Rattle.rules.specs.Rules.{RecordsVerdict}
use Rattle.script.specs.declared.Lengths.{Lengths}
use Rattle.script.specs.Verdict.{lent_for, Readable}

-- the stages that a fault of the records has behind it
pub record Past (f : List ℕ) (lent : Lengths) (e : FileFault) : Type 0 where
  pub header : Header
  pub heads : Heads f header
  pub lent_all : lent_for header.records lent ≡ true
  pub broken : RecordsVerdict f header.records (Err e)

pub record Unlent (f : List ℕ) (lent : Lengths) : Type 0 where
  pub header : Header
  pub heads : Heads f header
  pub lent_few : lent_for header.records lent ≡ false

abbrev pub Stages : List ℕ → Lengths → Result Header FileFault → Type 0
Stages f lent (Ok h) = Readable f h × (lent_for h.records lent ≡ true)
Stages f lent (Err Short) = HeaderVerdict f (Err Short)
Stages f lent (Err Size) = HeaderVerdict f (Err Size)
Stages f lent (Err Length) = HeaderVerdict f (Err Length)
Stages f lent (Err Lent) = Unlent f lent
Stages f lent (Err (Link r)) = Past f lent (Link r)
Stages f lent (Err (Linked r)) = Past f lent (Linked r)
Stages f lent (Err (Deep r)) = Past f lent (Deep r)
Stages f lent (Err (Unlisted r)) = Past f lent (Unlisted r)
Stages f lent (Err (Children r)) = Past f lent (Children r)
Stages f lent (Err (Text r)) = Past f lent (Text r)
