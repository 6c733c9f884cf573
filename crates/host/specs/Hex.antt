-- Hexadecimal text.
use Rattle.std.specs.Prelude.{◌≡◌, ℕ, ◌+◌, ◌-◌, ◌*◌, ◌%◌, ◌<◌, ◌≤◌, cond, ◌&&◌, ◌⊎◌, List, length, Some, None, Option, nat_le, slice_index}

-- 0 to 9, a to f, A to F
abbrev pub digit_of : ℕ → Option ℕ
digit_of b =
    cond (nat_le 48 b && nat_le b 57) (Some (b - 48)) (
    cond (nat_le 97 b && nat_le b 102) (Some (b - 97 + 10)) (
    cond (nat_le 65 b && nat_le b 70) (Some (b - 65 + 10)) None))

-- the byte v is the pair i of digits of the text
pub record Pair (text : List ℕ) (i v : ℕ) : Type 0 where
  pub high : ℕ
  pub low : ℕ
  pub high_is : digit_of (slice_index text (2 * i)) ≡ Some high
  pub low_is : digit_of (slice_index text (2 * i + 1)) ≡ Some low
  pub value : v ≡ 16 * high + low

-- the text is pairs of digits, and these are their bytes
abbrev pub Pairs : List ℕ → List ℕ → Type 0
Pairs text bytes = (2 * length bytes ≡ length text) × ((i : ℕ) → i < length bytes → Pair text i (slice_index bytes i))

-- there is an odd number of digits, or a byte that is no digit
abbrev pub NoPairs : List ℕ → Type 0
NoPairs text = (length text % 2 ≡ 1) ⊎ ((i : ℕ) × (i < length text) × (digit_of (slice_index text i) ≡ None))

-- the text is pairs of digits and out begins with their bytes; or there is an odd number of digits, or no room, or
-- a byte that is no digit
abbrev pub Unhexed : List ℕ → List ℕ → Option ℕ → Type 0
Unhexed text out (Some n) = (2 * n ≡ length text) × (n ≤ length out) × ((i : ℕ) → i < n → Pair text i (slice_index out i))
Unhexed text out None = (length text % 2 ≡ 1) ⊎ ((2 * length out < length text) ⊎ ((i : ℕ) × (i < length text) × (digit_of (slice_index text i) ≡ None)))

-- the bytes of a text that is pairs of digits; or it is not, or there is no room for them
abbrev pub Decoded : List ℕ → ℕ → Option (List ℕ) → Type 0
Decoded text room (Some bytes) = Pairs text bytes × (length bytes ≤ room)
Decoded text room None = NoPairs text ⊎ (2 * room < length text)
