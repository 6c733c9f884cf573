-- Types as they are written.
use Rattle.std.specs.Prelude.{ℕ, cond, List, [], ◌∷◌, map, Some, None, Ok, Err, Option, Result, nat_le}
use Rattle.faults.specs.declared.CheckFault.{CheckFault}
use Rattle.faults.specs.declared.CheckFault.TheVariants.{Undeclared, Again, WrongSort, Wide}
use Rattle.records.specs.declared.kind.Kind.TheVariants.{Name, TypeName, Slice, Struct}
use Rattle.records.specs.Kinds.{same_kind}
use Rattle.records.specs.Bytes.{rec_at}
use Rattle.records.specs.Records.{Said, number, word, bare}
use Rattle.records.specs.Trees.{Tree, none, node}
use Rattle.names.specs.declared.name.Meaning.{Meaning}
use Rattle.names.specs.declared.name.Meaning.TheVariants.{Variable, TypeName as TypeMeaning, Function, Constant}
use Rattle.names.specs.Scopes.{Env, meaning}
use Rattle.types.specs.Table.{Field, enter_slice, enter_struct, field_cells, most_cells}
use Rattle.checker.specs.Outcome.{St, Out, Label, done, and_then, bind, need, unless, malformed, typed, entered, repeated}

-- the type that a name means
abbrev pub type_meant : ℕ → Option Meaning → Result ℕ CheckFault
type_meant r None = Err (Undeclared r)
type_meant r (Some (TypeMeaning t)) = Ok t
type_meant r (Some (Variable ty global place)) = Err (WrongSort r)
type_meant r (Some (Function q)) = Err (WrongSort r)
type_meant r (Some (Constant b)) = Err (WrongSort r)

-- a field of a struct: its name, and what the table has of it
pub record Item : Type 0 where
  pub label : Label
  pub field : Field

abbrev pub label_of : Item → Label
label_of x = x.label

abbrev pub field_of_item : Item → Field
field_of_item x = x.field

-- a name record with its word
abbrev pub label_in : Tree → Option Label
label_in none = None
label_in (node r (number k v) a b) = None
label_in (node r (word k w) a b) = cond (same_kind k Name) (Some (record { at = r; word = w })) None
label_in (node r (bare k) a b) = None

abbrev pub item_by : List ℕ → Label → ℕ → Item
item_by f l t = record { label = l; field = record { at = (rec_at f l.at).at; len = (rec_at f l.at).len; ty = t } }

-- a field: its type, then its name
abbrev pub field_by : List ℕ → ℕ → Option Label → (St → Out ℕ) → St → Out Item
field_by f r None ty s = malformed r s
field_by f r (Some l) ty s = bind (ty s) (λ t s1. done (item_by f l t) s1)

-- a struct, once the types of its fields are known: no name twice, not too many cells, and then it is entered
abbrev pub struct_by : List ℕ → ℕ → List Item → St → Out ℕ
struct_by f r xs s =
    unless (repeated (map label_of xs)) Again s (
    need (nat_le (field_cells s.table (map field_of_item xs)) most_cells) (Wide r) s (
    entered r (enter_struct f (map field_of_item xs) s.table) s))

-- one type term, by what its element type and its fields come to
abbrev pub term_by : List ℕ → Env → ℕ → Said → (St → Out ℕ) → (St → Out (List Item)) → St → Out ℕ
term_by f env r (number k v) inner items s = malformed r s
term_by f env r (word k w) inner items s = cond (same_kind k TypeName) (and_then (type_meant r (meaning w env)) s (typed r)) (malformed r s)
term_by f env r (bare k) inner items s =
    cond (same_kind k Slice) (bind (inner s) (λ t s1. entered r (enter_slice t s1.table) s1)) (
    cond (same_kind k Struct) (bind (items s) (struct_by f r)) (malformed r s))

abbrev mutual
  pub term : List ℕ → Env → Tree → St → Out ℕ
  term f env none s = malformed 0 s
  term f env (node r said a b) s = term_by f env r said (λ m. term f env a m) (λ m. items f env a m) s

  -- the fields of a struct, in their order
  pub items : List ℕ → Env → Tree → St → Out (List Item)
  items f env none s = done [] s
  items f env (node r said a b) s = bind (field_by f r (label_in a) (λ m. term_next f env a m) s) (λ x s1. bind (items f env b s1) (λ xs s2. done (x ∷ xs) s2))

  -- the type term that stands next to a tree
  pub term_next : List ℕ → Env → Tree → St → Out ℕ
  term_next f env none s = malformed 0 s
  term_next f env (node r said a b) s = term f env b s
