-- The file that a line of the vectors stands for.
use Rattle.std.specs.Prelude.{◌≡◌, ℕ, Bool, true, false, ◌&&◌, ◌⊎◌, List, [], length, Some, Option, ◌==◌, slice_index}
use Rattle.host.specs.Hex.{Decoded}

-- a hyphen stands for the empty file, hexadecimal digits for their bytes
abbrev pub hyphen : List ℕ → Bool
hyphen line = length line == 1 && slice_index line 0 == 45

abbrev pub FileOf : List ℕ → ℕ → Option (List ℕ) → Type 0
FileOf line room file = ((hyphen line ≡ true) × (file ≡ Some [])) ⊎ ((hyphen line ≡ false) × Decoded line room file)
