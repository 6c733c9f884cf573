-- Functions, the program, and what check answers.
use Rattle.std.specs.Prelude.{ℕ, true, false, cond, not, ◌||◌, List, [], ◌∷◌, map, length, replicate, Some, None, Ok, Err, Option, Result, ◌==◌}
use Rattle.faults.specs.declared.CheckFault.{CheckFault}
use Rattle.faults.specs.declared.CheckFault.TheVariants.{Again, NoReturn}
use Rattle.records.specs.declared.kind.Kind.{Kind}
use Rattle.records.specs.declared.kind.Kind.TheVariants.{Var, TypeDecl, Func}
use Rattle.records.specs.Kinds.{same_kind}
use Rattle.records.specs.Bytes.{count}
use Rattle.records.specs.Records.{kind_in}
use Rattle.records.specs.Trees.{Tree, none, node, tree_at}
use Rattle.names.specs.declared.name.Meaning.TheVariants.{Function}
use Rattle.names.specs.Scopes.{Env, in_scope, enter_at}
use Rattle.types.specs.declared.kind.Home.TheVariants.{Nowhere}
use Rattle.types.specs.Table.{note_of, blank, base}
use Rattle.checker.specs.Outcome.{St, Out, good, bad, Label, done, bind, need, unless, malformed, put_note, repeated}
use Rattle.checker.specs.Terms.{label_in, term, term_next}
use Rattle.checker.specs.Exprs.{below, beside}
use Rattle.checker.specs.Paths.{ends_chain}
use Rattle.checker.specs.Stmts.{Ctx, optional, join_variable, join_name, var_of, type_decl_of, stmts}

-- a parameter with its type
pub record Param : Type 0 where
  pub label : Label
  pub ty : ℕ

abbrev pub param_label : Param → Label
param_label p = p.label

abbrev pub param_by : ℕ → Option Label → (St → Out ℕ) → St → Out Param
param_by r None ty s = malformed r s
param_by r (Some l) ty s = bind (ty s) (λ t s1. done (record { label = l; ty = t }) s1)

-- the types of parameters, in their order
abbrev pub params : List ℕ → Env → Tree → St → Out (List Param)
params f env none s = done [] s
params f env (node r said a b) s = bind (param_by r (label_in a) (λ m. term_next f env a m) s) (λ p s1. bind (params f env b s1) (λ ps s2. done (p ∷ ps) s2))

-- the parameters join the scope of the body
abbrev pub join_params : Ctx → List Param → Env → St → Out Env
join_params c [] env s = done env s
join_params c (p ∷ ps) env s = bind (join_variable c p.label p.ty env s) (λ e s1. join_params c ps e s1)

abbrev pub result_type : Option ℕ → ℕ
result_type None = 0
result_type (Some t) = t

abbrev pub func_ctx : List ℕ → ℕ → Ctx
func_ctx f t = record { file = f; global = false; result = t; looping = false }

-- the body shares the scope of the parameters, whose places count from 0, and with a result type no path leads past its end
abbrev pub body_by : Ctx → ℕ → Tree → List Param → Env → St → Out (Unit {0})
body_by c r body ps env s =
    bind (join_params c ps (enter_at 0 env) s) (λ e s1.
    bind (stmts c e body s1) (λ e2 s2.
    need (c.result == 0 || ends_chain body) (NoReturn r) s2 (done tt s2)))

-- a func: its types, then its name, then its parameters and its body
abbrev pub func_by : List ℕ → Env → ℕ → Option Label → (St → Out (List Param)) → (St → Out (Option ℕ)) → Tree → St → Out Env
func_by f env r None ps result body s = malformed r s
func_by f env r (Some l) ps result body s =
    bind (ps s) (λ xs s1.
    unless (repeated (map param_label xs)) Again s1 (
    bind (result s1) (λ t s2.
    need (not (in_scope l.word env)) (Again l.at) s2 (
    bind (join_name l (Function r) env (put_note r (note_of (result_type t) Nowhere 0) s2)) (λ e s3.
    bind (body_by (func_ctx f (result_type t)) r body xs e s3) (λ u s4. done e s4))))))

abbrev pub func_of : List ℕ → Env → ℕ → Tree → St → Out Env
func_of f env r a s =
    func_by f env r (label_in a) (λ m. params f env (below (beside a)) m) (λ m. optional (beside (beside a)) (λ n. term f env (beside (beside a)) n) m) (below (beside (beside (beside a)))) s

abbrev pub global_ctx : List ℕ → Ctx
global_ctx f = record { file = f; global = true; result = 0; looping = false }

abbrev pub decl_by : List ℕ → Env → ℕ → Tree → Kind → St → Out Env
decl_by f env r a k s =
    cond (same_kind k Var) (var_of (global_ctx f) env r a s) (
    cond (same_kind k TypeDecl) (type_decl_of (global_ctx f) env r a s) (
    cond (same_kind k Func) (func_of f env r a s) (malformed r s)))

-- the declarations of a program, one after the other
abbrev pub decls : List ℕ → Env → Tree → St → Out Env
decls f env none s = done env s
decls f env (node r said a b) s = bind (decl_by f env r a (kind_in said) s) (λ e s1. decls f e b s1)

abbrev pub no_names : Env
no_names = record { here = []; outer = []; place = 0 }

-- no notes, and the predeclared types
abbrev pub start : ℕ → St
start n = record { notes = replicate n blank; table = base }

-- the check of a whole file
abbrev pub program : List ℕ → Out Env
program f = decls f no_names (below (tree_at f 1)) (start (count f))

-- the answer: how many entries the table has, or the first fault
abbrev pub entries_of : Out Env → Result ℕ CheckFault
entries_of (good e s) = Ok (length s.table)
entries_of (bad e s) = Err e

abbrev pub checked : List ℕ → Result ℕ CheckFault
checked f = entries_of (program f)
