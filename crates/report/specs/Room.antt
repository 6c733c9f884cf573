-- How many bytes a line can hold, what it holds, and how many bytes a number needs at most.
use Rattle.std.specs.Prelude.{ℕ, ◌≤◌, List, length}

abbrev pub line_size : ℕ
line_size = 160

abbrev pub number_size : ℕ
number_size = 20

-- what a line holds: some bytes, for which there is room
pub record Held : Type 0 where
  pub bytes : List ℕ
  pub short : length bytes ≤ line_size
