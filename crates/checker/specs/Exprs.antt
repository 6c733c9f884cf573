-- Expressions: what each needs of its parts, the type it has and the notes it leaves.
use Rattle.std.specs.Prelude.{ℕ, Bool, true, false, cond, not, ◌&&◌, ◌||◌, List, [], ◌∷◌, length, Some, None, Option, ◌==◌}
use Rattle.faults.specs.declared.CheckFault.TheVariants.{Undeclared, WrongSort, Differs, NotTaken, NoValue, Counts, NoField}
use Rattle.records.specs.declared.kind.UnaryOp.{UnaryOp}
use Rattle.records.specs.declared.kind.UnaryOp.TheVariants.{Plus, Minus, Not, Complement}
use Rattle.records.specs.declared.kind.BinaryOp.{BinaryOp}
use Rattle.records.specs.declared.kind.BinaryOp.TheVariants.{Or, And, Equal, NotEqual, Less, AtMost, Greater, AtLeast, Add, Sub, Mul, Div, Rem, BitOr, BitAnd, Shl, Shr, BitClear, BitXor}
use Rattle.records.specs.declared.kind.Kind.{Kind}
use Rattle.records.specs.declared.kind.Kind.TheVariants.{Program, Var, TypeDecl, Func, Params, Param, Name as NameKind, Absent, TypeName as TypeNameKind, Slice as SliceKind, Struct as StructKind, Field, Empty, Block, ExprStmt, Return, ShortDecl, Assign, Print, Println, Loop, If, Break, Continue, List as ListKind, Int as IntKind, Rune as RuneKind, Str, Ident, Unary, Binary, Call, Index, Select, Append, Cast}
use Rattle.records.specs.Kinds.{same_kind}
use Rattle.records.specs.Records.{Said, number, word, bare}
use Rattle.records.specs.Trees.{Tree, none, node, tree_at}
use Rattle.names.specs.declared.name.Meaning.{Meaning}
use Rattle.names.specs.declared.name.Meaning.TheVariants.{Variable, TypeName, Function, Constant}
use Rattle.names.specs.Scopes.{Env, meaning}
use Rattle.types.specs.declared.kind.Home.{Home}
use Rattle.types.specs.declared.Note.{Note}
use Rattle.types.specs.declared.Entry.{Entry}
use Rattle.types.specs.declared.Shape.{Shape}
use Rattle.types.specs.declared.Shape.TheVariants.{Int, Bool as BoolShape, Rune, Text, Slice, Struct, Other}
use Rattle.types.specs.Table.{note_of, home_global, home_local, home_callee, home_constant, int_type, bool_type, rune_type, string_type, shape_of, field_of, numeric_shape, is_bool, is_text, ordered_shape, cast_shape, comparable}
use Rattle.checker.specs.Outcome.{St, Out, Label, done, fail, bind, need, malformed, note_at, put_note, typed}
use Rattle.checker.specs.Terms.{label_in, term}

abbrev pub home_of : Bool → Home
home_of global = cond global home_global home_local

abbrev pub bit_of : Bool → ℕ
bit_of b = cond b 1 0

-- an identifier as a value: a variable, or true or false
abbrev pub value_by : ℕ → Option Meaning → St → Out ℕ
value_by r None s = fail (Undeclared r) s
value_by r (Some (Variable ty global place)) s = done ty (put_note r (note_of ty (home_of global) place) s)
value_by r (Some (TypeName t)) s = fail (WrongSort r) s
value_by r (Some (Function q)) s = fail (WrongSort r) s
value_by r (Some (Constant b)) s = done bool_type (put_note r (note_of bool_type home_constant (bit_of b)) s)

-- which operands a unary operator takes
abbrev pub unary_takes : UnaryOp → Shape → Bool
unary_takes Plus x = numeric_shape x
unary_takes Minus x = numeric_shape x
unary_takes Not x = is_bool x
unary_takes Complement x = numeric_shape x

-- the operand is taken
abbrev pub unary_of : ℕ → UnaryOp → ℕ → St → Out ℕ
unary_of r op t s = need (unary_takes op (shape_of s.table t)) (NotTaken r) s (typed r t s)

abbrev pub unary_by : ℕ → UnaryOp → (St → Out ℕ) → St → Out ℕ
unary_by r op one s = bind (one s) (λ t s1. unary_of r op t s1)

-- which operands a binary operator takes
abbrev pub binary_takes : BinaryOp → List Entry → ℕ → Bool
binary_takes Or table t = is_bool (shape_of table t)
binary_takes And table t = is_bool (shape_of table t)
binary_takes Equal table t = comparable table t
binary_takes NotEqual table t = comparable table t
binary_takes Less table t = ordered_shape (shape_of table t)
binary_takes AtMost table t = ordered_shape (shape_of table t)
binary_takes Greater table t = ordered_shape (shape_of table t)
binary_takes AtLeast table t = ordered_shape (shape_of table t)
binary_takes Add table t = numeric_shape (shape_of table t) || is_text (shape_of table t)
binary_takes Sub table t = numeric_shape (shape_of table t)
binary_takes Mul table t = numeric_shape (shape_of table t)
binary_takes Div table t = numeric_shape (shape_of table t)
binary_takes Rem table t = numeric_shape (shape_of table t)
binary_takes BitOr table t = numeric_shape (shape_of table t)
binary_takes BitAnd table t = numeric_shape (shape_of table t)
binary_takes Shl table t = numeric_shape (shape_of table t)
binary_takes Shr table t = numeric_shape (shape_of table t)
binary_takes BitClear table t = numeric_shape (shape_of table t)
binary_takes BitXor table t = numeric_shape (shape_of table t)

-- what a binary operator gives: a truth value, or what its operands are
abbrev pub binary_gives : BinaryOp → ℕ → ℕ
binary_gives Or t = bool_type
binary_gives And t = bool_type
binary_gives Equal t = bool_type
binary_gives NotEqual t = bool_type
binary_gives Less t = bool_type
binary_gives AtMost t = bool_type
binary_gives Greater t = bool_type
binary_gives AtLeast t = bool_type
binary_gives Add t = t
binary_gives Sub t = t
binary_gives Mul t = t
binary_gives Div t = t
binary_gives Rem t = t
binary_gives BitOr t = t
binary_gives BitAnd t = t
binary_gives Shl t = t
binary_gives Shr t = t
binary_gives BitClear t = t
binary_gives BitXor t = t

-- both operands are taken, and they are of one type
abbrev pub binary_of : ℕ → BinaryOp → ℕ → ℕ → St → Out ℕ
binary_of r op t u s =
    need (binary_takes op s.table t && binary_takes op s.table u) (NotTaken r) s (
    need (t == u) (Differs r) s (typed r (binary_gives op t) s))

abbrev pub binary_by : ℕ → BinaryOp → (St → Out ℕ) → (St → Out ℕ) → St → Out ℕ
binary_by r op one two s = bind (one s) (λ t s1. bind (two s1) (λ u s2. binary_of r op t u s2))

-- the type of a slice's elements
abbrev pub element_of : Shape → Option ℕ
element_of Int = None
element_of BoolShape = None
element_of Rune = None
element_of Text = None
element_of (Slice of) = Some of
element_of (Struct n) = None
element_of Other = None

abbrev pub index_of : ℕ → Option ℕ → ℕ → St → Out ℕ
index_of r None u s = fail (NotTaken r) s
index_of r (Some t) u s = need (u == int_type) (Differs r) s (typed r t s)

-- what is indexed is a slice, and the index an int
abbrev pub index_by : ℕ → (St → Out ℕ) → (St → Out ℕ) → St → Out ℕ
index_by r one two s = bind (one s) (λ t s1. bind (two s1) (λ u s2. index_of r (element_of (shape_of s2.table t)) u s2))

abbrev pub append_of : ℕ → ℕ → Option ℕ → ℕ → St → Out ℕ
append_of r t None u s = fail (NotTaken r) s
append_of r t (Some of) u s = need (of == u) (Differs r) s (typed r t s)

-- what is appended to is a slice, and what is appended one of its elements
abbrev pub append_by : ℕ → (St → Out ℕ) → (St → Out ℕ) → St → Out ℕ
append_by r one two s = bind (one s) (λ t s1. bind (two s1) (λ u s2. append_of r t (element_of (shape_of s2.table t)) u s2))

abbrev pub field_found : ℕ → Option ℕ → St → Out ℕ
field_found r None s = fail (NoField r) s
field_found r (Some t) s = typed r t s

abbrev pub select_of : List ℕ → ℕ → ℕ → List ℕ → Shape → St → Out ℕ
select_of f r t w Int s = fail (NotTaken r) s
select_of f r t w BoolShape s = fail (NotTaken r) s
select_of f r t w Rune s = fail (NotTaken r) s
select_of f r t w Text s = fail (NotTaken r) s
select_of f r t w (Slice of) s = fail (NotTaken r) s
select_of f r t w (Struct n) s = field_found r (field_of f s.table t n w) s
select_of f r t w Other s = fail (NotTaken r) s

-- what is selected from is a struct, and it has the field
abbrev pub select_by : List ℕ → ℕ → Option Label → (St → Out ℕ) → St → Out ℕ
select_by f r None one s = malformed r s
select_by f r (Some l) one s = bind (one s) (λ t s1. select_of f r t l.word (shape_of s1.table t) s1)

-- a cast goes between int, bool and rune
abbrev pub cast_of : ℕ → ℕ → ℕ → St → Out ℕ
cast_of r t u s = need (cast_shape (shape_of s.table t) && cast_shape (shape_of s.table u)) (NotTaken r) s (typed r t s)

abbrev pub cast_by : ℕ → (St → Out ℕ) → (St → Out ℕ) → St → Out ℕ
cast_by r ty two s = bind (ty s) (λ t s1. bind (two s1) (λ u s2. cast_of r t u s2))

-- the parts of a func's record: its parameters, and the record after the one at the top of a tree
abbrev pub below : Tree → Tree
below none = none
below (node r said a b) = a

abbrev pub beside : Tree → Tree
beside none = none
beside (node r said a b) = b

abbrev pub record_of : Tree → ℕ
record_of none = 0
record_of (node r said a b) = r

-- the types of parameters, as they are noted
abbrev pub types_of : List Note → Tree → List ℕ
types_of notes none = []
types_of notes (node r said a b) = (note_at notes (record_of (beside a))).ty ∷ types_of notes b

abbrev pub param_types : List ℕ → List Note → ℕ → List ℕ
param_types f notes q = types_of notes (below (beside (below (tree_at f q))))

-- whether two lists of types agree
abbrev pub same_types : List ℕ → List ℕ → Bool
same_types [] [] = true
same_types [] (u ∷ us) = false
same_types (t ∷ ts) [] = false
same_types (t ∷ ts) (u ∷ us) = t == u && same_types ts us

-- a callee is a function; its note has the result type and the func's record
abbrev pub callee_by : ℕ → Option Meaning → St → Out ℕ
callee_by c None s = fail (Undeclared c) s
callee_by c (Some (Variable ty global place)) s = fail (WrongSort c) s
callee_by c (Some (TypeName t)) s = fail (WrongSort c) s
callee_by c (Some (Function q)) s = done q (put_note c (note_of (note_at s.notes q).ty home_callee q) s)
callee_by c (Some (Constant b)) s = fail (WrongSort c) s

-- a call, once the callee and the arguments are known; without a result it is no value
abbrev pub call_of : List ℕ → Bool → ℕ → ℕ → List ℕ → St → Out ℕ
call_of f alone r q args s =
    need (alone || not ((note_at s.notes q).ty == 0)) (NoValue r) s (
    need (length args == length (param_types f s.notes q)) (Counts r) s (
    need (same_types (param_types f s.notes q) args) (Differs r) s (
    typed r (note_at s.notes q).ty s)))

abbrev pub call_by : List ℕ → Env → Bool → ℕ → Tree → (St → Out (List ℕ)) → St → Out ℕ
call_by f env alone r none args s = malformed r s
call_by f env alone r (node c (number k v) a b) args s = malformed r s
call_by f env alone r (node c (bare k) a b) args s = malformed r s
call_by f env alone r (node c (word k w) a b) args s = bind (callee_by c (meaning w env) s) (λ q s1. bind (args s1) (λ ts s2. call_of f alone r q ts s2))

-- what the children of an expression come to
pub record Kids : Type 0 where
  pub one : St → Out ℕ
  pub two : St → Out ℕ
  pub ty : St → Out ℕ
  pub args : St → Out (List ℕ)

-- an expression whose record says its kind alone; `alone` where it is a statement
abbrev pub bare_by : List ℕ → Env → Bool → ℕ → Tree → Kids → Kind → St → Out ℕ
bare_by f env alone r a kids Program s = malformed r s
bare_by f env alone r a kids Var s = malformed r s
bare_by f env alone r a kids TypeDecl s = malformed r s
bare_by f env alone r a kids Func s = malformed r s
bare_by f env alone r a kids Params s = malformed r s
bare_by f env alone r a kids Param s = malformed r s
bare_by f env alone r a kids NameKind s = malformed r s
bare_by f env alone r a kids Absent s = malformed r s
bare_by f env alone r a kids TypeNameKind s = malformed r s
bare_by f env alone r a kids SliceKind s = malformed r s
bare_by f env alone r a kids StructKind s = malformed r s
bare_by f env alone r a kids Field s = malformed r s
bare_by f env alone r a kids Empty s = malformed r s
bare_by f env alone r a kids Block s = malformed r s
bare_by f env alone r a kids ExprStmt s = malformed r s
bare_by f env alone r a kids Return s = malformed r s
bare_by f env alone r a kids ShortDecl s = malformed r s
bare_by f env alone r a kids Assign s = malformed r s
bare_by f env alone r a kids Print s = malformed r s
bare_by f env alone r a kids Println s = malformed r s
bare_by f env alone r a kids Loop s = malformed r s
bare_by f env alone r a kids If s = malformed r s
bare_by f env alone r a kids Break s = malformed r s
bare_by f env alone r a kids Continue s = malformed r s
bare_by f env alone r a kids ListKind s = malformed r s
bare_by f env alone r a kids IntKind s = malformed r s
bare_by f env alone r a kids RuneKind s = malformed r s
bare_by f env alone r a kids Str s = malformed r s
bare_by f env alone r a kids Ident s = malformed r s
bare_by f env alone r a kids (Unary op) s = unary_by r op kids.one s
bare_by f env alone r a kids (Binary op) s = binary_by r op kids.one kids.two s
bare_by f env alone r a kids Call s = call_by f env alone r a kids.args s
bare_by f env alone r a kids Index s = index_by r kids.one kids.two s
bare_by f env alone r a kids Select s = select_by f r (label_in (beside a)) kids.one s
bare_by f env alone r a kids Append s = append_by r kids.one kids.two s
bare_by f env alone r a kids Cast s = cast_by r kids.ty kids.two s

abbrev pub expr_by : List ℕ → Env → Bool → ℕ → Said → Tree → Kids → St → Out ℕ
expr_by f env alone r (number k v) a kids s = cond (same_kind k IntKind) (typed r int_type s) (cond (same_kind k RuneKind) (typed r rune_type s) (malformed r s))
expr_by f env alone r (word k w) a kids s = cond (same_kind k Str) (typed r string_type s) (cond (same_kind k Ident) (value_by r (meaning w env) s) (malformed r s))
expr_by f env alone r (bare k) a kids s = bare_by f env alone r a kids k s

abbrev mutual
  pub expr_of : List ℕ → Env → Bool → Tree → St → Out ℕ
  expr_of f env alone none s = malformed 0 s
  expr_of f env alone (node r said a b) s =
      expr_by f env alone r said a (record { one = λ m. expr_of f env false a m; two = λ m. expr_next f env a m; ty = λ m. term f env a m; args = λ m. args_next f env a m }) s

  -- the expression that stands next to a tree
  pub expr_next : List ℕ → Env → Tree → St → Out ℕ
  expr_next f env none s = malformed 0 s
  expr_next f env (node r said a b) s = expr_of f env false b s

  -- the expressions of the list that stands next to a tree
  pub args_next : List ℕ → Env → Tree → St → Out (List ℕ)
  args_next f env none s = malformed 0 s
  args_next f env (node r said a b) s = list_of f env b s

  pub list_of : List ℕ → Env → Tree → St → Out (List ℕ)
  list_of f env none s = malformed 0 s
  list_of f env (node r said a b) s = exprs f env a s

  -- a chain of expressions
  pub exprs : List ℕ → Env → Tree → St → Out (List ℕ)
  exprs f env none s = done [] s
  exprs f env (node r said a b) s = bind (expr_by f env false r said a (record { one = λ m. expr_of f env false a m; two = λ m. expr_next f env a m; ty = λ m. term f env a m; args = λ m. args_next f env a m }) s) (λ t s1. bind (exprs f env b s1) (λ ts s2. done (t ∷ ts) s2))
