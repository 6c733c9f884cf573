-- What a file that can be read is known for, from the rules it keeps.
use Rattle.std.proofs.Common.{ℕ, List, IfOk, Ok, Err, Result}
use Rattle.faults.specs.declared.FileFault.{FileFault}
use Rattle.records.specs.declared.bytes.Header.{Header}
use Rattle.script.specs.declared.Lengths.{Lengths}
use Rattle.script.specs.Verdict.{Readable}
use Rattle.script.specs.Stages.{Stages}
use Rattle.script.specs.Trees.{WellFormed}
use Rattle.script.proofs.Bared.{root_at, formed_at}
use Rattle.script.proofs.Levels.{levels}
use Rattle.script.proofs.Once.{once}

pub well_formed : (f : List ℕ) (h : Header) → Readable f h → WellFormed f
well_formed f h p = record { root = root_at f h p; listed = formed_at f h p 1; levels = levels f h p; once = once f h p }

pub readable_of : (f : List ℕ) (lent : Lengths) (r : Result Header FileFault) → Stages f lent r → IfOk r (λ h. Readable f h)
readable_of f lent (Ok h) p = p.0
readable_of f lent (Err e) p = tt

pub tree_of : (f : List ℕ) (r : Result Header FileFault) → IfOk r (λ h. Readable f h) → IfOk r (λ h. WellFormed f)
tree_of f (Ok h) p = well_formed f h p
tree_of f (Err e) p = tt
