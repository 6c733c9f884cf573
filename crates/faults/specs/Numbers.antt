-- Every fault's number, record and layer.
use Rattle.std.specs.Prelude.{ℕ, List, ◌++◌, codes, decimal}
use Rattle.faults.specs.declared.Layer.{Layer}
use Rattle.faults.specs.declared.Layer.TheVariants.{File as FileLayer, Check as CheckLayer}
use Rattle.faults.specs.declared.Named.{Named}
use Rattle.faults.specs.declared.FileFault.{FileFault}
use Rattle.faults.specs.declared.FileFault.TheVariants.{Short, Size, Length, Lent, Link, Linked, Deep, Unlisted, Children, Text}
use Rattle.faults.specs.declared.CheckFault.{CheckFault}
use Rattle.faults.specs.declared.CheckFault.TheVariants.{File, Undeclared, Again, WrongSort, Differs, NotTaken, NoValue, Counts, NoField, NotAssignable, NothingNew, NoReturn, NoLoop, Wide, Entries, Names}

abbrev pub named : Layer → ℕ → ℕ → Named
named layer number r = record { number = number; at = r; layer = layer }

abbrev pub in_file : ℕ → ℕ → Named
in_file = named FileLayer

abbrev pub in_check : ℕ → ℕ → Named
in_check = named CheckLayer

abbrev pub file_named : FileFault → Named
file_named Short = in_file 1 0
file_named Size = in_file 2 0
file_named Length = in_file 3 0
file_named Lent = in_file 4 0
file_named (Link r) = in_file 5 r
file_named (Linked r) = in_file 6 r
file_named (Deep r) = in_file 7 r
file_named (Unlisted r) = in_file 8 r
file_named (Children r) = in_file 9 r
file_named (Text r) = in_file 10 r

-- a file fault that check passes up keeps its number, record and layer
abbrev pub check_named : CheckFault → Named
check_named (File fault) = file_named fault
check_named (Undeclared r) = in_check 11 r
check_named (Again r) = in_check 12 r
check_named (WrongSort r) = in_check 13 r
check_named (Differs r) = in_check 14 r
check_named (NotTaken r) = in_check 15 r
check_named (NoValue r) = in_check 16 r
check_named (Counts r) = in_check 17 r
check_named (NoField r) = in_check 18 r
check_named (NotAssignable r) = in_check 19 r
check_named (NothingNew r) = in_check 20 r
check_named (NoReturn r) = in_check 21 r
check_named (NoLoop r) = in_check 22 r
check_named (Wide r) = in_check 23 r
check_named (Entries r) = in_check 24 r
check_named (Names r) = in_check 25 r

-- a fault as a line of text has it
abbrev pub refusal : Named → List ℕ
refusal n = codes "refused " ++ decimal n.number ++ codes " at " ++ decimal n.at
