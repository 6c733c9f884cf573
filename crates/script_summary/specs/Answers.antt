-- What the program answers to a file.
use Rattle.std.specs.Prelude.{◌≡◌, ℕ, true, List, Some, None, Ok, Err, Option, Result}
use Rattle.std.specs.Option.{option_map}
use Rattle.faults.specs.declared.FileFault.{FileFault}
use Rattle.faults.specs.declared.CheckFault.TheVariants.{File}
use Rattle.report.specs.Lines.{verdict_line}
use Rattle.script.specs.declared.Lengths.{Lengths}
use Rattle.script.specs.Verdict.{holds, Sought, Verdict}
use Rattle.summary.specs.declared.Summary.{Summary}
use Rattle.summary.specs.Summaries.{Summarizes, summary_line}
use Rattle.script_summary.specs.declared.Answer.{Answer}

-- what is lent: enough for the largest file
abbrev pub lent_all : Lengths
lent_all = record { notes = 2047; entries = 2304; names = 256 }

-- a summary where no rule is broken, else the reader's fault
abbrev pub Looked : List ℕ → Result Summary FileFault → Type 0
Looked f (Ok m) = ((a : FileFault) → Sought f a → holds f lent_all a ≡ true) × Summarizes f m
Looked f (Err e) = Verdict f lent_all (Err e)

abbrev pub verdict_text : Result Summary FileFault → List ℕ
verdict_text (Ok m) = verdict_line (Ok tt)
verdict_text (Err e) = verdict_line (Err (File e))

abbrev pub summary_text : Result Summary FileFault → Option (List ℕ)
summary_text (Ok m) = Some (summary_line m)
summary_text (Err e) = None

-- the lines to write
pub record Answers (f : List ℕ) (a : Answer) : Type 0 where
  pub look : Result Summary FileFault
  pub looked : Looked f look
  pub verdict_is : a.verdict.bytes ≡ verdict_text look
  pub summary_is : option_map (λ line. line.bytes) a.summary ≡ summary_text look
