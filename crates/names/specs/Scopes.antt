-- The names in scope and what they mean.
use Rattle.std.specs.Prelude.{◌≡◌, ℕ, zero, suc, ◌+◌, ◌-◌, ◌<◌, ◌≤◌, Bool, true, false, cond, List, [], ◌∷◌, ◌++◌, length, is_some, Some, None, codes, Option, nat_le, slice_index_or}
use Rattle.std.specs.Str.{bytes_eq}
use Rattle.records.specs.Bytes.{text_at}
use Rattle.types.specs.Table.{int_type, bool_type, rune_type, string_type}
use Rattle.names.specs.declared.name.Meaning.{Meaning}
use Rattle.names.specs.declared.name.Meaning.TheVariants.{Variable, TypeName, Constant}
use Rattle.names.specs.declared.name.Name.{Name}
use Rattle.names.specs.declared.name.Mark.{Mark}

-- a word with what it means
pub record Binding : Type 0 where
  pub word : List ℕ
  pub means : Meaning

-- the current scope and all around it, latest first, and the next variable's place
pub record Env : Type 0 where
  pub here : List Binding
  pub outer : List Binding
  pub place : ℕ

-- the latest binding of a word
abbrev pub seek : List ℕ → List Binding → Option Meaning
seek w [] = None
seek w (b ∷ bs) = cond (bytes_eq b.word w) (Some b.means) (seek w bs)

-- the names that are declared outside the globals
abbrev pub six : List Binding
six =
    record { word = codes "true"; means = Constant true }
    ∷ record { word = codes "false"; means = Constant false }
    ∷ record { word = codes "int"; means = TypeName int_type }
    ∷ record { word = codes "bool"; means = TypeName bool_type }
    ∷ record { word = codes "rune"; means = TypeName rune_type }
    ∷ record { word = codes "string"; means = TypeName string_type }
    ∷ []

-- what a word means outside every scope of the script
abbrev pub predeclared : List ℕ → Option Meaning
predeclared w = seek w six

-- the first of two meanings, where there is one
abbrev pub or_else : Option Meaning → Option Meaning → Option Meaning
or_else None o = o
or_else (Some m) o = Some m

-- what a word means: as the innermost scope has it
abbrev pub meaning : List ℕ → Env → Option Meaning
meaning w env = or_else (seek w env.here) (or_else (seek w env.outer) (predeclared w))

-- whether the current scope has the word
abbrev pub in_scope : List ℕ → Env → Bool
in_scope w env = is_some (seek w env.here)

-- a new scope with no names yet, whose variables have their places from p on
abbrev pub enter_at : ℕ → Env → Env
enter_at p env = record { here = []; outer = env.here ++ env.outer; place = p }

-- a block goes on from the places in use
abbrev pub enter : Env → Env
enter env = enter_at env.place env

-- how many names are in scope, the six included
abbrev pub count : Env → ℕ
count env = length six + (length env.here + length env.outer)

-- how many may be
abbrev pub most_names : ℕ
most_names = 256

-- and how many of them have slots
abbrev pub most_slots : ℕ
most_slots = most_names - length six

-- a name in the current scope, and the cells that it takes
abbrev pub join : List ℕ → Meaning → ℕ → Env → Env
join w m cells env = record { here = record { word = w; means = m } ∷ env.here; outer = env.outer; place = env.place + cells }

-- the bytes of a name in the file's text
abbrev pub word_of : List ℕ → Name → List ℕ
word_of f b = text_at f b.at b.len

-- what a slot stands for
abbrev pub binding_of : List ℕ → Name → Binding
binding_of f b = record { word = word_of f b; means = b.means }

-- what stands in a slot past the end
abbrev pub no_name : Name
no_name = record { at = 0; len = 0; means = Variable 0 false 0 }

-- the slots from lo up to hi, latest first
unfoldable pub bindings : List ℕ → List Name → ℕ → ℕ → List Binding
bindings f names lo zero = []
bindings f names lo (suc i) = cond (nat_le lo i) (binding_of f (slice_index_or names i no_name) ∷ bindings f names lo i) []

-- the names that the slots and their mark stand for
abbrev pub env_of : List ℕ → List Name → Mark → Env
env_of f names m = record { here = bindings f names m.floor m.top; outer = bindings f names 0 m.floor; place = m.place }

-- the mark of a new scope
abbrev pub opened : ℕ → Mark → Mark
opened p m = record { top = m.top; floor = m.top; place = p }

-- the mark once a name of that many cells has joined
abbrev pub moved : ℕ → Mark → Mark
moved cells m = record { top = m.top + 1; floor = m.floor; place = m.place + cells }

-- whether the slot i has the word
abbrev pub slot_is : List ℕ → List Name → List ℕ → ℕ → Bool
slot_is f names w i = bytes_eq (word_of f (slice_index_or names i no_name)) w

-- the slot i from lo up to hi has the word, and none after it
pub record LatestAt (f : List ℕ) (names : List Name) (lo hi : ℕ) (w : List ℕ) (i : ℕ) : Type 0 where
  pub from : lo ≤ i
  pub within : i < hi
  pub has : slot_is f names w i ≡ true
  pub after : (k : ℕ) → i < k → k < hi → slot_is f names w k ≡ false

-- the latest slot from lo up to hi that has the word, or none where no slot has it
abbrev pub Latest : List ℕ → List Name → ℕ → ℕ → List ℕ → Option ℕ → Type 0
Latest f names lo hi w None = (k : ℕ) → lo ≤ k → k < hi → slot_is f names w k ≡ false
Latest f names lo hi w (Some i) = LatestAt f names lo hi w i

-- a mark that the slots can have: with the six, no more names than may be
pub record Sound (names : List Name) (m : Mark) : Type 0 where
  pub slots : most_names ≤ length names
  pub few : m.top ≤ most_slots
  pub floor : m.floor ≤ m.top

-- names were only added to the current scope
pub record Frame (names : List Name) (m : Mark) (names' : List Name) (m' : Mark) : Type 0 where
  pub top : m.top ≤ m'.top
  pub floor : m'.floor ≡ m.floor
  pub below : (k : ℕ) → k < m.top → slice_index_or names' k no_name ≡ slice_index_or names k no_name
