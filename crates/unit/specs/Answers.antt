-- What the public calls answer.
use Rattle.std.specs.Prelude.{◌≡◌, ℕ, true, List, Ok, Err, Result}
use Rattle.faults.specs.declared.CheckFault.{CheckFault}
use Rattle.faults.specs.declared.CheckFault.TheVariants.{File}
use Rattle.script.specs.declared.Lengths.{Lengths}
use Rattle.script.specs.Verdict.{Sought, holds, Verdict}
use Rattle.report.specs.Lines.{verdict_line}

-- the verdict on a file: no rule is broken, or the reader's fault, whole
abbrev pub CheckVerdict : List ℕ → Lengths → Result (Unit {0}) CheckFault → Type 0
CheckVerdict f lent (Ok u) = (a : _) → Sought f a → holds f lent a ≡ true
CheckVerdict f lent (Err (File e)) = Verdict f lent (Err e)
CheckVerdict f lent (Err _) = ⊥

-- the bytes are the line of the file's verdict
pub record Told (f : List ℕ) (lent : Lengths) (bytes : List ℕ) : Type 0 where
  pub answer : Result (Unit {0}) CheckFault
  pub right : CheckVerdict f lent answer
  pub line : bytes ≡ verdict_line answer
