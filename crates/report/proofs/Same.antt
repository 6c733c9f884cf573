-- A line is its bytes.
use Rattle.std.proofs.Common.{◌≡◌, ◌≤◌, List, ℕ, length}
use Rattle.std.proofs.Math.Bridge.{le_prop}
use Rattle.std.proofs.Math.Path.{path_j}
use Rattle.report.specs.Room.{Held, line_size}

abbrev held : (bytes : List ℕ) → length bytes ≤ line_size → Held
held bytes short = record { bytes = bytes; short = short }

-- two lines with the same bytes are the same
pub same_bytes : (a b : Held) → a.bytes ≡ b.bytes → a ≡ b
same_bytes a b h = path_j (λ bytes _. (short : length bytes ≤ line_size) → a ≡ held bytes short) (λ short i. held a.bytes (le_prop a.short short i)) h b.short
