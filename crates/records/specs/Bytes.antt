-- How the bytes of a script file stand for its header and its records. All numbers are big-endian.
use Rattle.std.specs.Prelude.{ℕ, ◌+◌, ◌-◌, ◌*◌, List, take, drop, ℤ, slice_index}
use Rattle.std.specs.Int.{w64}
use Rattle.std.proofs.Common.{to_z}
use Rattle.records.specs.declared.bytes.Rec.{Rec}

abbrev pub be16 : List ℕ → ℕ → ℕ
be16 f i = slice_index f i * 256 + slice_index f (i + 1)

abbrev pub be32 : List ℕ → ℕ → ℕ
be32 f i = slice_index f i * 16777216 + slice_index f (i + 1) * 65536 + slice_index f (i + 2) * 256 + slice_index f (i + 3)

abbrev pub be64 : List ℕ → ℕ → ℕ
be64 f i = slice_index f i * 72057594037927936 + slice_index f (i + 1) * 281474976710656 + slice_index f (i + 2) * 1099511627776 + slice_index f (i + 3) * 4294967296 + slice_index f (i + 4) * 16777216 + slice_index f (i + 5) * 65536 + slice_index f (i + 6) * 256 + slice_index f (i + 7)

abbrev pub signed64 : List ℕ → ℕ → ℤ
signed64 f i = to_z w64 (be64 f i)

-- the header: how many records, and how many bytes of text
unfoldable pub count : List ℕ → ℕ
count f = be16 f 0

unfoldable pub text_size : List ℕ → ℕ
text_size f = be32 f 2

-- where the record r, counted from 1, begins
abbrev pub start : ℕ → ℕ
start r = 6 + 20 * (r - 1)

unfoldable pub rec_at : List ℕ → ℕ → Rec
rec_at f r = record {
  kind = slice_index f (start r);
  op = slice_index f (start r + 1);
  first = be16 f (start r + 2);
  next = be16 f (start r + 4);
  len = be16 f (start r + 6);
  at = be32 f (start r + 8);
  value = signed64 f (start r + 12);
}

-- the text comes after the records; a record's part of it is `len` bytes from place `at`
abbrev pub text_start : List ℕ → ℕ
text_start f = 6 + 20 * count f

-- bytes of the text: so many from a place on, or as many as there are
abbrev pub text_at : List ℕ → ℕ → ℕ → List ℕ
text_at f at len = take len (drop (text_start f + at) f)

abbrev pub part_of : List ℕ → Rec → List ℕ
part_of f rec = text_at f rec.at rec.len
