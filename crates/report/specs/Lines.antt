-- What a line says.
use Rattle.std.specs.Prelude.{ℕ, List, [], ◌∷◌, ◌++◌, Ok, Err, codes, Result}
use Rattle.faults.specs.declared.CheckFault.{CheckFault}
use Rattle.faults.specs.Numbers.{check_named, refusal}

abbrev pub newline : List ℕ
newline = 10 ∷ []

-- what check says of a script: that it can be read, or the fault's number and the record where it was found
abbrev pub verdict_line : Result (Unit {0}) CheckFault → List ℕ
verdict_line (Ok _) = codes "readable" ++ newline
verdict_line (Err e) = refusal (check_named e) ++ newline
