-- All that the reader's answer says of a file.
use Rattle.std.specs.Prelude.{ℕ, List, IfOk, Result}
use Rattle.faults.specs.declared.FileFault.{FileFault}
use Rattle.records.specs.declared.bytes.Header.{Header}
use Rattle.script.specs.declared.Lengths.{Lengths}
use Rattle.script.specs.Verdict.{Verdict, OnlyVerdict, Readable}
use Rattle.script.specs.Trees.{WellFormed}
use Rattle.script.specs.Depths.{OneWay, DepthLaw}

pub record Judged (f : List ℕ) (lent : Lengths) (r : Result Header FileFault) : Type 0 where
  pub verdict : Verdict f lent r
  pub only : OnlyVerdict f lent r
  pub readable : IfOk r (λ h. Readable f h)
  pub tree : IfOk r (λ h. WellFormed f)
  pub depth : OneWay f → DepthLaw f
