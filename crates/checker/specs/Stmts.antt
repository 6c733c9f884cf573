-- Statements: what each needs, the names that are in scope after it and the notes it leaves.
use Rattle.std.specs.Prelude.{ℕ, Bool, true, false, cond, not, ◌&&◌, ◌||◌, List, [], ◌∷◌, length, Some, None, Option, ◌==◌, nat_lt}
use Rattle.faults.specs.declared.CheckFault.TheVariants.{Again, WrongSort, Differs, NotTaken, Counts, NotAssignable, NothingNew, NoLoop, Names}
use Rattle.records.specs.declared.kind.Kind.{Kind}
use Rattle.records.specs.declared.kind.Kind.TheVariants.{Program, Var, TypeDecl, Func, Params, Param, Name, Absent, TypeName as TypeNameKind, Slice as SliceKind, Struct as StructKind, Field, Empty, Block, ExprStmt, Return, ShortDecl, Assign, Print, Println, Loop, If, Break, Continue, List as ListKind, Int, Rune, Str, Ident, Unary, Binary, Call, Index, Select, Append, Cast}
use Rattle.records.specs.Kinds.{same_kind}
use Rattle.records.specs.Records.{kind_in}
use Rattle.records.specs.Trees.{Tree, none, node}
use Rattle.names.specs.declared.name.Meaning.{Meaning}
use Rattle.names.specs.declared.name.Meaning.TheVariants.{Variable, TypeName, Function, Constant}
use Rattle.names.specs.Scopes.{Env, seek, in_scope, enter, count, most_names, join}
use Rattle.types.specs.declared.Note.{Note}
use Rattle.types.specs.declared.Entry.{Entry}
use Rattle.types.specs.Table.{note_of, is_global, is_local, bool_type, cells_of, shape_of, base_shape}
use Rattle.checker.specs.Outcome.{St, Out, Label, done, bind, need, unless, malformed, note_at, put_note, repeated}
use Rattle.checker.specs.Terms.{label_in, term_next}
use Rattle.checker.specs.Exprs.{home_of, below, beside, same_types, expr_of, expr_next, exprs}

-- where a statement stands: in which file, among the globals or in a function, with which result type (0: none), in a loop
pub record Ctx : Type 0 where
  pub file : List ℕ
  pub global : Bool
  pub result : ℕ
  pub looping : Bool

abbrev pub in_loop : Ctx → Ctx
in_loop c = record { file = c.file; global = c.global; result = c.result; looping = true }

abbrev pub has_room : Env → Bool
has_room env = nat_lt (count env) most_names

abbrev pub variable_next : Ctx → Env → ℕ → Meaning
variable_next c env t = Variable t c.global env.place

-- a variable joins the scope, and its name is noted
abbrev pub join_variable : Ctx → Label → ℕ → Env → St → Out Env
join_variable c l t env s =
    need (has_room env) (Names l.at) s (
    done (join l.word (variable_next c env t) (cells_of s.table t) env) (put_note l.at (note_of t (home_of c.global) env.place) s))

-- a type's or a func's name joins the scope
abbrev pub join_name : Label → Meaning → Env → St → Out Env
join_name l m env s = need (has_room env) (Names l.at) s (done (join l.word m 0 env) s)

-- a part that may be absent: what it comes to, if it is there
abbrev pub optional : Tree → (St → Out ℕ) → St → Out (Option ℕ)
optional none part s = malformed 0 s
optional (node r said a b) part s = cond (same_kind (kind_in said) Absent) (done None s) (bind (part s) (λ t s1. done (Some t) s1))

-- the type of a var by its written type and its value: where both are there they agree
abbrev pub var_type : ℕ → Option ℕ → Option ℕ → St → Out ℕ
var_type r None None s = malformed r s
var_type r (Some t) None s = done t s
var_type r None (Some u) s = done u s
var_type r (Some t) (Some u) s = need (t == u) (Differs r) s (done t s)

-- a var: its type and its value, and only then its name
abbrev pub var_by : Ctx → Env → ℕ → Option Label → (St → Out (Option ℕ)) → (St → Out (Option ℕ)) → St → Out Env
var_by c env r None ty value s = malformed r s
var_by c env r (Some l) ty value s =
    bind (ty s) (λ t s1. bind (value s1) (λ u s2.
    need (not (in_scope l.word env)) (Again l.at) s2 (
    bind (var_type r t u s2) (λ v s3. join_variable c l v env s3))))

abbrev pub var_of : Ctx → Env → ℕ → Tree → St → Out Env
var_of c env r a s =
    var_by c env r (label_in a) (λ m. optional (beside a) (λ n. term_next c.file env a n) m) (λ m. optional (beside (beside a)) (λ n. expr_next c.file env (beside a) n) m) s

abbrev pub type_decl_by : Env → ℕ → Option Label → (St → Out ℕ) → St → Out Env
type_decl_by env r None ty s = malformed r s
type_decl_by env r (Some l) ty s =
    bind (ty s) (λ t s1. need (not (in_scope l.word env)) (Again l.at) s1 (join_name l (TypeName t) env s1))

abbrev pub type_decl_of : Ctx → Env → ℕ → Tree → St → Out Env
type_decl_of c env r a s = type_decl_by env r (label_in a) (λ m. term_next c.file env a m) s

-- a return has a value of the result type, or none where there is no result
abbrev pub return_by : Ctx → Env → ℕ → Option ℕ → St → Out Env
return_by c env r None s = need (c.result == 0) (Differs r) s (done env s)
return_by c env r (Some t) s = need (not (c.result == 0) && c.result == t) (Differs r) s (done env s)

abbrev pub put_label : Option Label → List Label → List Label
put_label None xs = xs
put_label (Some l) xs = l ∷ xs

-- the names of a chain
abbrev pub labels : Tree → List Label
labels none = []
labels (node r said a b) = put_label (label_in (node r said a b)) (labels b)

-- whether a name that the current scope has is no variable
abbrev pub no_variable : Option Meaning → Bool
no_variable None = false
no_variable (Some (Variable ty global place)) = false
no_variable (Some (TypeName t)) = true
no_variable (Some (Function q)) = true
no_variable (Some (Constant b)) = true

abbrev pub first_other : Env → List Label → Option ℕ
first_other env [] = None
first_other env (l ∷ ls) = cond (no_variable (seek l.word env.here)) (Some l.at) (first_other env ls)

-- whether what is assigned to an old variable has its type
abbrev pub fits_old : Option Meaning → ℕ → Bool
fits_old None t = true
fits_old (Some (Variable ty global place)) t = ty == t
fits_old (Some (TypeName u)) t = true
fits_old (Some (Function q)) t = true
fits_old (Some (Constant b)) t = true

abbrev pub fit_old : Env → List Label → List ℕ → Bool
fit_old env [] ts = true
fit_old env (l ∷ ls) [] = true
fit_old env (l ∷ ls) (t ∷ ts) = fits_old (seek l.word env.here) t && fit_old env ls ts

abbrev pub any_new : Env → List Label → Bool
any_new env [] = false
any_new env (l ∷ ls) = not (in_scope l.word env) || any_new env ls

-- an old variable is noted as it is; a new one joins
abbrev pub join_or : Ctx → Option Meaning → Label → ℕ → Env → St → Out Env
join_or c None l t env s = join_variable c l t env s
join_or c (Some (Variable ty global place)) l t env s = done env (put_note l.at (note_of ty (home_of global) place) s)
join_or c (Some (TypeName u)) l t env s = malformed l.at s
join_or c (Some (Function q)) l t env s = malformed l.at s
join_or c (Some (Constant b)) l t env s = malformed l.at s

-- the names of a short declaration, one by one; `old` is the scope before it
abbrev pub join_all : Ctx → Env → List Label → List ℕ → Env → St → Out Env
join_all c old [] ts env s = done env s
join_all c old (l ∷ ls) [] env s = done env s
join_all c old (l ∷ ls) (t ∷ ts) env s = bind (join_or c (seek l.word old.here) l t env s) (λ e s1. join_all c old ls ts e s1)

-- a short declaration, once the types of its right side are known
abbrev pub short_of : Ctx → Env → ℕ → List Label → List ℕ → St → Out Env
short_of c env r ls ts s =
    unless (first_other env ls) WrongSort s (
    need (length ls == length ts) (Counts r) s (
    unless (repeated ls) Again s (
    need (fit_old env ls ts) (Differs r) s (
    need (any_new env ls) (NothingNew r) s (
    join_all c env ls ts env s)))))

abbrev pub short_by : Ctx → Env → ℕ → Tree → St → Out Env
short_by c env r a s = bind (exprs c.file env (below (beside a)) s) (λ ts s1. short_of c env r (labels (below a)) ts s1)

-- variables, indexed elements and selections of an assignable
abbrev pub is_variable : Note → Bool
is_variable n = is_global n.home || is_local n.home

abbrev pub assignable_by : List Note → ℕ → Kind → Bool → Bool
assignable_by notes r k inner = cond (same_kind k Ident) (is_variable (note_at notes r)) (cond (same_kind k Index) true (cond (same_kind k Select) inner false))

abbrev pub assignable : List Note → Tree → Bool
assignable notes none = false
assignable notes (node r said a b) = assignable_by notes r (kind_in said) (assignable notes a)

-- the first of a chain that is not
abbrev pub first_fixed : List Note → Tree → Option ℕ
first_fixed notes none = None
first_fixed notes (node r said a b) = cond (assignable_by notes r (kind_in said) (assignable notes a)) (first_fixed notes b) (Some r)

abbrev pub assign_of : Env → ℕ → Tree → List ℕ → List ℕ → St → Out Env
assign_of env r left ts us s =
    need (length ts == length us) (Counts r) s (
    unless (first_fixed s.notes left) NotAssignable s (
    need (same_types ts us) (Differs r) s (done env s)))

abbrev pub assign_by : Ctx → Env → ℕ → Tree → St → Out Env
assign_by c env r a s = bind (exprs c.file env (below a) s) (λ ts s1. bind (exprs c.file env (below (beside a)) s1) (λ us s2. assign_of env r (below a) ts us s2))

-- print takes the predeclared types
abbrev pub printable : List Entry → List ℕ → Bool
printable table [] = true
printable table (t ∷ ts) = base_shape (shape_of table t) && printable table ts

abbrev pub print_by : Ctx → Env → ℕ → Tree → St → Out Env
print_by c env r a s = bind (exprs c.file env (below a) s) (λ ts s1. need (printable s1.table ts) (NotTaken r) s1 (done env s1))

-- what the parts of a statement come to
pub record Parts : Type 0 where
  pub first : Env → St → Out Env
  pub third : Env → St → Out Env
  pub fourth : Ctx → Env → St → Out Env
  pub chain : Env → St → Out Env

-- the condition of a loop, if it has one
abbrev pub is_true_type : Option ℕ → Bool
is_true_type None = true
is_true_type (Some t) = t == bool_type

-- init, condition, post and body; the condition is judged last
abbrev pub loop_by : Ctx → Env → ℕ → Tree → Parts → St → Out Env
loop_by c env r a parts s =
    bind (parts.first (enter env) s) (λ e s1.
    bind (optional (beside a) (λ m. expr_next c.file e a m) s1) (λ t s2.
    bind (parts.third e s2) (λ x s3.
    bind (parts.fourth (in_loop c) e s3) (λ y s4.
    need (is_true_type t) (Differs r) s4 (done env s4)))))

-- init, condition and the two parts; the condition is judged last
abbrev pub if_by : Ctx → Env → ℕ → Tree → Parts → St → Out Env
if_by c env r a parts s =
    bind (parts.first (enter env) s) (λ e s1.
    bind (expr_next c.file e a s1) (λ t s2.
    bind (parts.third e s2) (λ x s3.
    bind (parts.fourth c e s3) (λ y s4.
    need (t == bool_type) (Differs r) s4 (done env s4)))))

-- one statement, by what its parts come to; an absent one does nothing
abbrev pub stmt_by : Ctx → Env → ℕ → Tree → Parts → Kind → St → Out Env
stmt_by c env r a parts Program s = malformed r s
stmt_by c env r a parts Var s = var_of c env r a s
stmt_by c env r a parts TypeDecl s = type_decl_of c env r a s
stmt_by c env r a parts Func s = malformed r s
stmt_by c env r a parts Params s = malformed r s
stmt_by c env r a parts Param s = malformed r s
stmt_by c env r a parts Name s = malformed r s
stmt_by c env r a parts Absent s = done env s
stmt_by c env r a parts TypeNameKind s = malformed r s
stmt_by c env r a parts SliceKind s = malformed r s
stmt_by c env r a parts StructKind s = malformed r s
stmt_by c env r a parts Field s = malformed r s
stmt_by c env r a parts Empty s = done env s
stmt_by c env r a parts Block s = bind (parts.chain (enter env) s) (λ e s1. done env s1)
stmt_by c env r a parts ExprStmt s = bind (expr_of c.file env true a s) (λ t s1. done env s1)
stmt_by c env r a parts Return s = bind (optional a (λ m. expr_of c.file env false a m) s) (λ t s1. return_by c env r t s1)
stmt_by c env r a parts ShortDecl s = short_by c env r a s
stmt_by c env r a parts Assign s = assign_by c env r a s
stmt_by c env r a parts Print s = print_by c env r a s
stmt_by c env r a parts Println s = print_by c env r a s
stmt_by c env r a parts Loop s = loop_by c env r a parts s
stmt_by c env r a parts If s = if_by c env r a parts s
stmt_by c env r a parts Break s = need c.looping (NoLoop r) s (done env s)
stmt_by c env r a parts Continue s = need c.looping (NoLoop r) s (done env s)
stmt_by c env r a parts ListKind s = malformed r s
stmt_by c env r a parts Int s = malformed r s
stmt_by c env r a parts Rune s = malformed r s
stmt_by c env r a parts Str s = malformed r s
stmt_by c env r a parts Ident s = malformed r s
stmt_by c env r a parts (Unary op) s = malformed r s
stmt_by c env r a parts (Binary op) s = malformed r s
stmt_by c env r a parts Call s = malformed r s
stmt_by c env r a parts Index s = malformed r s
stmt_by c env r a parts Select s = malformed r s
stmt_by c env r a parts Append s = malformed r s
stmt_by c env r a parts Cast s = malformed r s

abbrev mutual
  -- the statement at the top of a tree
  pub stmt : Ctx → Env → Tree → St → Out Env
  stmt c env none s = malformed 0 s
  stmt c env (node r said a b) s = stmt_by c env r a (record { first = λ e m. stmt c e a m; third = λ e m. stmt_third c e a m; fourth = λ d e m. stmt_fourth d e a m; chain = λ e m. stmts c e a m }) (kind_in said) s

  -- a chain of statements, each in the scope that the one before leaves
  pub stmts : Ctx → Env → Tree → St → Out Env
  stmts c env none s = done env s
  stmts c env (node r said a b) s = bind (stmt_by c env r a (record { first = λ e m. stmt c e a m; third = λ e m. stmt_third c e a m; fourth = λ d e m. stmt_fourth d e a m; chain = λ e m. stmts c e a m }) (kind_in said) s) (λ e s1. stmts c e b s1)

  -- the statements that stand second, third and fourth in a chain
  pub stmt_second : Ctx → Env → Tree → St → Out Env
  stmt_second c env none s = malformed 0 s
  stmt_second c env (node r said a b) s = stmt c env b s

  pub stmt_third : Ctx → Env → Tree → St → Out Env
  stmt_third c env none s = malformed 0 s
  stmt_third c env (node r said a b) s = stmt_second c env b s

  pub stmt_fourth : Ctx → Env → Tree → St → Out Env
  stmt_fourth c env none s = malformed 0 s
  stmt_fourth c env (node r said a b) s = stmt_third c env b s
