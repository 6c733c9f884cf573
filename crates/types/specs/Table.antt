-- The type table: entries 1 to 4 are int, bool, rune and string, then come the types of a script, each once, in the
-- order in which they are met. Types are equal where their numbers are.
use Rattle.std.specs.Prelude.{◌≡◌, ℕ, zero, suc, ◌+◌, ◌-◌, Bool, true, false, cond, ◌&&◌, ◌||◌, List, [], ◌∷◌, ◌++◌, map, length, take, drop, Some, None, Option, ◌==◌, nat_le, slice_index_or}
use Rattle.std.specs.Str.{bytes_eq}
use Rattle.records.specs.Bytes.{text_at}
use Rattle.types.specs.declared.Note.{Note}
use Rattle.types.specs.declared.Entry.{Entry}
use Rattle.types.specs.declared.kind.EntryKind.{EntryKind}
use Rattle.types.specs.declared.kind.EntryKind.TheVariants.{Nothing, Int as IntKind, Bool as BoolKind, Rune as RuneKind, Text as TextKind, Slice as SliceKind, Struct as StructKind, Field as FieldKind, Other as OtherKind}
use Rattle.types.specs.declared.kind.Home.{Home}
use Rattle.types.specs.declared.kind.Home.TheVariants.{Nowhere, Global, Local, Callee, Constant, Other as OtherHome}
use Rattle.types.specs.declared.Shape.{Shape}
use Rattle.types.specs.declared.Shape.TheVariants.{Int, Bool as BoolShape, Rune, Text, Slice, Struct, Other}

-- the kind of entry that a number stands for
abbrev pub kind_of_number : ℕ → EntryKind
kind_of_number n =
    cond (n == 0) Nothing (
    cond (n == 1) IntKind (
    cond (n == 2) BoolKind (
    cond (n == 3) RuneKind (
    cond (n == 4) TextKind (
    cond (n == 5) SliceKind (
    cond (n == 6) StructKind (
    cond (n == 7) FieldKind (OtherKind n))))))))

-- and the number that stands for a kind
abbrev pub number_of_kind : EntryKind → ℕ
number_of_kind Nothing = 0
number_of_kind IntKind = 1
number_of_kind BoolKind = 2
number_of_kind RuneKind = 3
number_of_kind TextKind = 4
number_of_kind SliceKind = 5
number_of_kind StructKind = 6
number_of_kind FieldKind = 7
number_of_kind (OtherKind n) = n

-- the kind made from a number, which has that number
pub record KindFrom (n : ℕ) (kind : EntryKind) : Type 0 where
  pub made : kind ≡ kind_of_number n
  pub number : number_of_kind kind ≡ n

-- the home that a number stands for: none, among the globals, in its function, as a callee, or as true or false
abbrev pub home_of_number : ℕ → Home
home_of_number n =
    cond (n == 0) Nowhere (
    cond (n == 1) Global (
    cond (n == 2) Local (
    cond (n == 3) Callee (
    cond (n == 4) Constant (OtherHome n)))))

-- and the number that stands for a home
abbrev pub number_of_home : Home → ℕ
number_of_home Nowhere = 0
number_of_home Global = 1
number_of_home Local = 2
number_of_home Callee = 3
number_of_home Constant = 4
number_of_home (OtherHome n) = n

-- the home made from a number, which has that number
pub record HomeFrom (n : ℕ) (home : Home) : Type 0 where
  pub made : home ≡ home_of_number n
  pub number : number_of_home home ≡ n

abbrev pub note_of : ℕ → Home → ℕ → Note
note_of ty home place = record { ty = ty; home = home; place = place }

abbrev pub blank : Note
blank = note_of 0 Nowhere 0

abbrev pub home_global : Home
home_global = Global

abbrev pub home_local : Home
home_local = Local

abbrev pub home_callee : Home
home_callee = Callee

abbrev pub home_constant : Home
home_constant = Constant

abbrev pub is_global : Home → Bool
is_global Global = true
is_global _ = false

abbrev pub is_local : Home → Bool
is_local Local = true
is_local _ = false

-- the numbers of the predeclared types
abbrev pub int_type : ℕ
int_type = 1

abbrev pub bool_type : ℕ
bool_type = 2

abbrev pub rune_type : ℕ
rune_type = 3

abbrev pub string_type : ℕ
string_type = 4

abbrev pub entry_of : EntryKind → ℕ → ℕ → ℕ → ℕ → Entry
entry_of kind cells of at len = record { kind = kind; cells = cells; of = of; at = at; len = len }

abbrev pub no_entry : Entry
no_entry = entry_of Nothing 0 0 0 0

-- the four predeclared types, one cell each
abbrev pub base : List Entry
base = entry_of IntKind 1 0 0 0 ∷ (entry_of BoolKind 1 0 0 0 ∷ (entry_of RuneKind 1 0 0 0 ∷ (entry_of TextKind 1 0 0 0 ∷ [])))

abbrev pub slice_kind : EntryKind
slice_kind = SliceKind

abbrev pub struct_kind : EntryKind
struct_kind = StructKind

abbrev pub field_kind : EntryKind
field_kind = FieldKind

abbrev pub is_slice : EntryKind → Bool
is_slice SliceKind = true
is_slice _ = false

abbrev pub is_struct : EntryKind → Bool
is_struct StructKind = true
is_struct _ = false

abbrev pub is_field : EntryKind → Bool
is_field FieldKind = true
is_field _ = false

-- the most cells of a type, and the most entries
abbrev pub most_cells : ℕ
most_cells = 64

abbrev pub most_entries : ℕ
most_entries = 2304

-- the entry of a type's number; 0 is the number of none
abbrev pub entry_at : List Entry → ℕ → Entry
entry_at table t = cond (t == 0) no_entry (slice_index_or table (t - 1) no_entry)

abbrev pub cells_of : List Entry → ℕ → ℕ
cells_of table t = (entry_at table t).cells

-- what kind of type an entry of this kind has; `of` is the type of its elements, or the count of its fields
abbrev pub kind_shape : EntryKind → ℕ → Shape
kind_shape Nothing of = Other
kind_shape IntKind of = Int
kind_shape BoolKind of = BoolShape
kind_shape RuneKind of = Rune
kind_shape TextKind of = Text
kind_shape SliceKind of = Slice of
kind_shape StructKind of = Struct of
kind_shape FieldKind of = Other
kind_shape (OtherKind n) of = Other

abbrev pub shape_by : Entry → Shape
shape_by e = kind_shape e.kind e.of

-- what kind of type a number stands for
abbrev pub shape_of : List Entry → ℕ → Shape
shape_of table t = shape_by (entry_at table t)

-- a field as it is written: where its name is in the text, and its type
pub record Field : Type 0 where
  pub at : ℕ
  pub len : ℕ
  pub ty : ℕ

abbrev pub field_word : List ℕ → Field → List ℕ
field_word f x = text_at f x.at x.len

abbrev pub field_entry : Field → Entry
field_entry x = entry_of field_kind 0 x.ty x.at x.len

abbrev pub same_field : List ℕ → Entry → Field → Bool
same_field f e x = is_field e.kind && (e.of == x.ty && bytes_eq (text_at f e.at e.len) (field_word f x))

-- the entries from a place on are these fields, in this order
abbrev pub same_fields : List ℕ → List Entry → List Field → Bool
same_fields f es [] = true
same_fields f [] (x ∷ xs) = false
same_fields f (e ∷ es) (x ∷ xs) = same_field f e x && same_fields f es xs

-- a struct of the same fields: names, types and order agree
abbrev pub same_struct : List ℕ → Entry → List Entry → List Field → Bool
same_struct f e rest xs = is_struct e.kind && (e.of == length xs && same_fields f rest xs)

-- the number of the first slice of this element type, the list beginning with entry i
abbrev pub find_slice : ℕ → ℕ → List Entry → Option ℕ
find_slice of i [] = None
find_slice of i (e ∷ es) = cond (is_slice e.kind && e.of == of) (Some i) (find_slice of (suc i) es)

abbrev pub find_struct : List ℕ → List Field → ℕ → List Entry → Option ℕ
find_struct f xs i [] = None
find_struct f xs i (e ∷ es) = cond (same_struct f e es xs) (Some i) (find_struct f xs (suc i) es)

-- a type's number, and the table with it
pub record Entered : Type 0 where
  pub ty : ℕ
  pub table : List Entry

-- the entries that a type adds where it is not there, or none where they do not fit
abbrev pub added : Option ℕ → List Entry → List Entry → Option Entered
added (Some t) new table = Some (record { ty = t; table = table })
added None new table = cond (nat_le (length table + length new) most_entries) (Some (record { ty = suc (length table); table = table ++ new })) None

abbrev pub enter_slice : ℕ → List Entry → Option Entered
enter_slice of table = added (find_slice of 1 table) (entry_of slice_kind 1 of 0 0 ∷ []) table

-- the cells of fields, which are a struct's
abbrev pub field_cells : List Entry → List Field → ℕ
field_cells table [] = 0
field_cells table (x ∷ xs) = cells_of table x.ty + field_cells table xs

abbrev pub struct_entries : List Entry → List Field → List Entry
struct_entries table xs = entry_of struct_kind (field_cells table xs) (length xs) 0 0 ∷ map field_entry xs

abbrev pub enter_struct : List ℕ → List Field → List Entry → Option Entered
enter_struct f xs table = added (find_struct f xs 1 table) (struct_entries table xs) table

-- the type of the field with this name among the n entries after a struct's
abbrev pub field_in : List ℕ → List ℕ → ℕ → List Entry → Option ℕ
field_in f w zero es = None
field_in f w (suc n) [] = None
field_in f w (suc n) (e ∷ es) = cond (bytes_eq (text_at f e.at e.len) w) (Some e.of) (field_in f w n es)

abbrev pub fields_of : List Entry → ℕ → ℕ → List Entry
fields_of table t n = take n (drop t table)

abbrev pub field_of : List ℕ → List Entry → ℕ → ℕ → List ℕ → Option ℕ
field_of f table t n w = field_in f w n (drop t table)

-- rows of the operators: which types each takes
abbrev pub numeric_shape : Shape → Bool
numeric_shape Int = true
numeric_shape BoolShape = false
numeric_shape Rune = true
numeric_shape Text = false
numeric_shape (Slice of) = false
numeric_shape (Struct n) = false
numeric_shape Other = false

abbrev pub is_bool : Shape → Bool
is_bool Int = false
is_bool BoolShape = true
is_bool Rune = false
is_bool Text = false
is_bool (Slice of) = false
is_bool (Struct n) = false
is_bool Other = false

abbrev pub is_text : Shape → Bool
is_text Int = false
is_text BoolShape = false
is_text Rune = false
is_text Text = true
is_text (Slice of) = false
is_text (Struct n) = false
is_text Other = false

abbrev pub ordered_shape : Shape → Bool
ordered_shape s = numeric_shape s || is_text s

abbrev pub base_shape : Shape → Bool
base_shape s = ordered_shape s || is_bool s

abbrev pub cast_shape : Shape → Bool
cast_shape s = numeric_shape s || is_bool s

-- a struct is comparable where all its fields are; slices are not. The parts of a type have lower numbers, so the
-- number itself bounds the walk
abbrev pub all_fields : (ℕ → Bool) → List Entry → Bool
all_fields p [] = true
all_fields p (e ∷ es) = p e.of && all_fields p es

abbrev pub comparable_shape : (ℕ → Bool) → List Entry → ℕ → Shape → Bool
comparable_shape p table t Int = true
comparable_shape p table t BoolShape = true
comparable_shape p table t Rune = true
comparable_shape p table t Text = true
comparable_shape p table t (Slice of) = false
comparable_shape p table t (Struct n) = all_fields p (fields_of table t n)
comparable_shape p table t Other = false

abbrev pub comparable_by : List Entry → ℕ → ℕ → Bool
comparable_by table zero t = false
comparable_by table (suc more) t = comparable_shape (λ u. comparable_by table more u) table t (shape_of table t)

abbrev pub comparable : List Entry → ℕ → Bool
comparable table t = comparable_by table t t
