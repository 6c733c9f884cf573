-- A number of the file is made of the bytes from its place on.
use Rattle.std.proofs.Common.{◌≡◌, ℕ, ◌+◌, ◌-◌, ◌<◌, List, slice_range, get_or, ◌∙◌, arith}
use Rattle.std.proofs.lemmas.List.{get_or-take, get_or-drop}
use Rattle.std.specs.Int.{from_be_bytes, w16, w32, w64}
use Rattle.records.specs.Bytes.{be16, be32, be64}

-- the byte j of n bytes from place i on
byte_of : (f : List ℕ) (i n j : ℕ) → j < n → get_or (slice_range f i (i + n)) j 0 ≡ get_or f (i + j) 0
byte_of f i n j h = get_or-take (i + n - i) _ j 0 (omega arith) ∙ get_or-drop i f j 0

pub be16_is : (f : List ℕ) (i : ℕ) → from_be_bytes w16 (slice_range f i (i + 2)) ≡ be16 f i
be16_is f i = let b = byte_of f i 2 in grind (arith, b 0 (omega arith), b 1 (omega arith))

pub be32_is : (f : List ℕ) (i : ℕ) → from_be_bytes w32 (slice_range f i (i + 4)) ≡ be32 f i
be32_is f i = let b = byte_of f i 4 in grind (arith, b 0 (omega arith), b 1 (omega arith), b 2 (omega arith), b 3 (omega arith))

pub be64_is : (f : List ℕ) (i : ℕ) → from_be_bytes w64 (slice_range f i (i + 8)) ≡ be64 f i
be64_is f i = let b = byte_of f i 8 in grind (arith, b 0 (omega arith), b 1 (omega arith), b 2 (omega arith), b 3 (omega arith), b 4 (omega arith), b 5 (omega arith), b 6 (omega arith), b 7 (omega arith))
