-- What a record says, and the rules that one record can break by itself.
use Rattle.std.specs.Prelude.{◌≡◌, ℕ, ◌+◌, ◌*◌, ◌≤◌, Bool, true, false, cond, ◌&&◌, ◌||◌, List, length, ℤ, pos, negsuc, Some, None, Ok, Err, Option, Result, ◌==◌, int_le, nat_le, nat_lt}
use Rattle.faults.specs.declared.FileFault.{FileFault}
use Rattle.faults.specs.declared.FileFault.TheVariants.{Short, Size, Length, Lent, Link, Linked, Deep, Unlisted, Children, Text as TextFault}
use Rattle.records.specs.declared.bytes.Header.{Header}
use Rattle.records.specs.declared.bytes.Rec.{Rec}
use Rattle.records.specs.declared.kind.Kind.{Kind}
use Rattle.records.specs.declared.kind.Form.{Form}
use Rattle.records.specs.declared.kind.Form.TheVariants.{Bare as BareForm, Int, Rune, Text, Name}
use Rattle.records.specs.declared.record.Record.{Record}
use Rattle.records.specs.declared.record.Record.TheVariants.{Number, Word, Bare}
use Rattle.records.specs.Kinds.{kind_of, about}
use Rattle.records.specs.Bytes.{count, text_size, rec_at, part_of}

-- the largest script: records, bytes of text
abbrev pub most_records : ℕ
most_records = 2047

abbrev pub most_text : ℕ
most_text = 16384

-- the three rules of the header
abbrev pub long_enough : List ℕ → Bool
long_enough f = nat_le 6 (length f)

abbrev pub sized : List ℕ → Bool
sized f = nat_le 1 (count f) && nat_le (count f) most_records && nat_le (text_size f) most_text

abbrev pub exact : List ℕ → Bool
exact f = length f == 6 + 20 * count f + text_size f

abbrev pub whole : List ℕ → Bool
whole f = long_enough f && sized f && exact f

-- what a header is known for once those three hold
pub record Heads (f : List ℕ) (h : Header) : Type 0 where
  pub records_are : h.records ≡ count f
  pub text_is : h.text ≡ text_size f
  pub some : 1 ≤ h.records
  pub few : h.records ≤ most_records
  pub brief : h.text ≤ most_text
  pub fills : length f ≡ 6 + 20 * h.records + h.text

abbrev pub HeaderVerdict : List ℕ → Result Header FileFault → Type 0
HeaderVerdict f (Ok h) = Heads f h
HeaderVerdict f (Err Short) = long_enough f ≡ false
HeaderVerdict f (Err Size) = (long_enough f ≡ true) × (sized f ≡ false)
HeaderVerdict f (Err Length) = (long_enough f ≡ true) × (sized f ≡ true) × (exact f ≡ false)
HeaderVerdict f (Err Lent) = ⊥
HeaderVerdict f (Err (Link r)) = ⊥
HeaderVerdict f (Err (Linked r)) = ⊥
HeaderVerdict f (Err (Deep r)) = ⊥
HeaderVerdict f (Err (Unlisted r)) = ⊥
HeaderVerdict f (Err (Children r)) = ⊥
HeaderVerdict f (Err (TextFault r)) = ⊥

-- a link is 0, or leads up to a record of the file
abbrev pub link_up : ℕ → ℕ → ℕ → Bool
link_up n r link = link == 0 || (nat_lt r link && nat_le link n)

abbrev pub links_up : ℕ → ℕ → Rec → Bool
links_up n r rec = link_up n r rec.first && link_up n r rec.next

-- a rune has 32 bits, signed
abbrev pub in_rune : ℤ → Bool
in_rune v = int_le (negsuc 2147483647) v && int_le v (pos 2147483647)

abbrev pub value_fits : Form → ℤ → Bool
value_fits BareForm v = true
value_fits Int v = true
value_fits Rune v = in_rune v
value_fits Text v = true
value_fits Name v = true

-- the kind of a record, where kind, operator and rune are listed
abbrev pub listed_by : Rec → Option Kind → Option Kind
listed_by rec None = None
listed_by rec (Some k) = cond (value_fits (about k).form rec.value) (Some k) None

unfoldable pub rec_kind : Rec → Option Kind
rec_kind rec = kind_of rec.kind rec.op

abbrev pub listed_kind : Rec → Option Kind
listed_kind rec = listed_by rec (rec_kind rec)

-- a text part lies inside the text, and a name is not empty
abbrev pub in_text : ℕ → Rec → Bool
in_text t rec = nat_le (rec.at + rec.len) t

abbrev pub text_fits : ℕ → Rec → Form → Bool
text_fits t rec BareForm = true
text_fits t rec Int = true
text_fits t rec Rune = true
text_fits t rec Text = in_text t rec
text_fits t rec Name = in_text t rec && nat_lt 0 rec.len

abbrev pub text_by : ℕ → Rec → Option Kind → Bool
text_by t rec None = true
text_by t rec (Some k) = text_fits t rec (about k).form

-- what a record says: a number, a word with its bytes, or its kind alone
pub data Said : Type 0 where
  number : Kind → ℤ → Said
  word : Kind → List ℕ → Said
  bare : Kind → Said

abbrev pub kind_in : Said → Kind
kind_in (number k v) = k
kind_in (word k w) = k
kind_in (bare k) = k

-- the same of the record that code hands on, whose word borrows its bytes
abbrev pub seen : Record → Said
seen (Number k v) = number k v
seen (Word k w) = word k w.now
seen (Bare k) = bare k

abbrev pub say_form : List ℕ → Rec → Kind → Form → Said
say_form f rec k BareForm = bare k
say_form f rec k Int = number k rec.value
say_form f rec k Rune = number k rec.value
say_form f rec k Text = word k (part_of f rec)
say_form f rec k Name = word k (part_of f rec)

abbrev pub say_by : List ℕ → ℕ → Rec → Option Kind → Option Said
say_by f t rec None = None
say_by f t rec (Some k) = cond (text_fits t rec (about k).form) (Some (say_form f rec k (about k).form)) None

-- what a record says, where its kind is listed and its text lies in the text
abbrev pub say_of : List ℕ → ℕ → Rec → Option Said
say_of f t rec = say_by f t rec (listed_kind rec)

abbrev pub bare_by : Option Kind → Option Said
bare_by None = None
bare_by (Some k) = Some (bare k)

-- a record of a file with a sound header whose links lead up
unfoldable pub linked : List ℕ → ℕ → Bool
linked f r = whole f && nat_le 1 r && nat_le r (count f) && links_up (count f) r (rec_at f r)

-- what the record r of any bytes says, if it stands: its links lead up, its kind is listed, its text is inside
unfoldable pub said_at : List ℕ → ℕ → Option Said
said_at f r = cond (linked f r) (say_of f (text_size f) (rec_at f r)) None

-- the same without what it holds: the text is not looked at
unfoldable pub kind_at : List ℕ → ℕ → Option Said
kind_at f r = cond (linked f r) (bare_by (listed_kind (rec_at f r))) None

-- the fields of the record r, where its links lead up
abbrev pub LinkedRec : List ℕ → ℕ → Option Rec → Type 0
LinkedRec f r None = linked f r ≡ false
LinkedRec f r (Some rec) = (linked f r ≡ true) × (rec ≡ rec_at f r)
