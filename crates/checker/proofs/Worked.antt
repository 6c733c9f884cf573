-- The worked examples: the tree of each file, record by record, and then its check.
use Rattle.std.proofs.Common.{◌≡◌, ℕ, List, [], ◌∷◌, pos, Ok, Err, Result, refl, ap, ◌∙◌}
use Rattle.faults.specs.declared.CheckFault.{CheckFault}
use Rattle.faults.specs.declared.CheckFault.TheVariants.{Undeclared, Again, Differs, NothingNew, NoReturn}
use Rattle.records.specs.declared.kind.Kind.TheVariants.{Program, Var, Func, Params, Param, Name, Absent, TypeName, Block, ShortDecl, Loop, Break, List as ListKind, Int, Ident}
use Rattle.records.specs.Bytes.{count, text_size, rec_at}
use Rattle.records.specs.Records.{bare, word, number, rec_kind, linked, said_at}
use Rattle.records.specs.Trees.{Tree, none, node}
use Rattle.checker.specs.Exprs.{below}
use Rattle.checker.specs.Check.{decls, no_names, start, entries_of, checked}
use Rattle.checker.specs.Examples.{type_differs, own_value, param_as_func, param_again, nothing_new, endless, endless_break}
use Rattle.checker.proofs.Builds.{IsTree, tree_is}

-- the answer to a file whose tree and count of records are known
by_tree : (f : List ℕ) (t : Tree) (n : ℕ) (answer : Result ℕ CheckFault) → IsTree f 1 t → count f ≡ n → entries_of (decls f no_names (below t) (start n)) ≡ answer → checked f ≡ answer
by_tree f t n answer i c e =
    ap (λ (x : Tree). entries_of (decls f no_names (below x) (start (count f)))) (tree_is f 1 t i)
    ∙ ap (λ (m : ℕ). entries_of (decls f no_names (below t) (start m))) c
    ∙ e

-- `var x int = true`: types differ, at the var
abbrev type_differs_tree : Tree
type_differs_tree =
    (node 1 (bare Program)
    (node 2 (bare Var)
    (node 3 (word Name (120 ∷ ([])))
    none
    (node 4 (word TypeName (105 ∷ (110 ∷ (116 ∷ ([])))))
    none
    (node 5 (word Ident (116 ∷ (114 ∷ (117 ∷ (101 ∷ ([]))))))
    none
    none)))
    none)
    none)

type_differs_built : IsTree type_differs 1 type_differs_tree
unfolding type_differs count text_size rec_at rec_kind linked said_at
type_differs_built = (refl, refl, (refl, refl, (refl, refl, refl, (refl, refl, refl, (refl, refl, refl, refl))), refl), refl)

type_differs_count : count type_differs ≡ 5
unfolding type_differs count
type_differs_count = refl

pub type_differs_answer : checked type_differs ≡ Err (Differs 2)
type_differs_answer = by_tree type_differs type_differs_tree 5 (Err (Differs 2)) type_differs_built type_differs_count refl

-- `var x = x`: a name is not bound before its value
abbrev own_value_tree : Tree
own_value_tree =
    (node 1 (bare Program)
    (node 2 (bare Var)
    (node 3 (word Name (120 ∷ ([])))
    none
    (node 4 (bare Absent)
    none
    (node 5 (word Ident (120 ∷ ([])))
    none
    none)))
    none)
    none)

own_value_built : IsTree own_value 1 own_value_tree
unfolding own_value count text_size rec_at rec_kind linked said_at
own_value_built = (refl, refl, (refl, refl, (refl, refl, refl, (refl, refl, refl, (refl, refl, refl, refl))), refl), refl)

own_value_count : count own_value ≡ 5
unfolding own_value count
own_value_count = refl

pub own_value_answer : checked own_value ≡ Err (Undeclared 5)
own_value_answer = by_tree own_value own_value_tree 5 (Err (Undeclared 5)) own_value_built own_value_count refl

-- `func f(f int) { }`: a parameter may have the function's name
abbrev param_as_func_tree : Tree
param_as_func_tree =
    (node 1 (bare Program)
    (node 2 (bare Func)
    (node 3 (word Name (102 ∷ ([])))
    none
    (node 4 (bare Params)
    (node 5 (bare Param)
    (node 6 (word Name (102 ∷ ([])))
    none
    (node 7 (word TypeName (105 ∷ (110 ∷ (116 ∷ ([])))))
    none
    none))
    none)
    (node 8 (bare Absent)
    none
    (node 9 (bare Block)
    none
    none))))
    none)
    none)

param_as_func_built : IsTree param_as_func 1 param_as_func_tree
unfolding param_as_func count text_size rec_at rec_kind linked said_at
param_as_func_built = (refl, refl, (refl, refl, (refl, refl, refl, (refl, refl, (refl, refl, (refl, refl, refl, (refl, refl, refl, refl)), refl), (refl, refl, refl, (refl, refl, refl, refl)))), refl), refl)

param_as_func_count : count param_as_func ≡ 9
unfolding param_as_func count
param_as_func_count = refl

pub param_as_func_answer : checked param_as_func ≡ Ok 4
param_as_func_answer = by_tree param_as_func param_as_func_tree 9 (Ok 4) param_as_func_built param_as_func_count refl

-- the same with `var f int` inside: the body shares the parameters' scope
abbrev param_again_tree : Tree
param_again_tree =
    (node 1 (bare Program)
    (node 2 (bare Func)
    (node 3 (word Name (102 ∷ ([])))
    none
    (node 4 (bare Params)
    (node 5 (bare Param)
    (node 6 (word Name (102 ∷ ([])))
    none
    (node 7 (word TypeName (105 ∷ (110 ∷ (116 ∷ ([])))))
    none
    none))
    none)
    (node 8 (bare Absent)
    none
    (node 9 (bare Block)
    (node 10 (bare Var)
    (node 11 (word Name (102 ∷ ([])))
    none
    (node 12 (word TypeName (105 ∷ (110 ∷ (116 ∷ ([])))))
    none
    (node 13 (bare Absent)
    none
    none)))
    none)
    none))))
    none)
    none)

param_again_built : IsTree param_again 1 param_again_tree
unfolding param_again count text_size rec_at rec_kind linked said_at
param_again_built = (refl, refl, (refl, refl, (refl, refl, refl, (refl, refl, (refl, refl, (refl, refl, refl, (refl, refl, refl, refl)), refl), (refl, refl, refl, (refl, refl, (refl, refl, (refl, refl, refl, (refl, refl, refl, (refl, refl, refl, refl))), refl), refl)))), refl), refl)

param_again_count : count param_again ≡ 13
unfolding param_again count
param_again_count = refl

pub param_again_answer : checked param_again ≡ Err (Again 11)
param_again_answer = by_tree param_again param_again_tree 13 (Err (Again 11)) param_again_built param_again_count refl

-- `func h() { a := 1; a := 2 }`: the second declares nothing new
abbrev nothing_new_tree : Tree
nothing_new_tree =
    (node 1 (bare Program)
    (node 2 (bare Func)
    (node 3 (word Name (104 ∷ ([])))
    none
    (node 4 (bare Params)
    none
    (node 5 (bare Absent)
    none
    (node 6 (bare Block)
    (node 7 (bare ShortDecl)
    (node 8 (bare ListKind)
    (node 9 (word Name (97 ∷ ([])))
    none
    none)
    (node 10 (bare ListKind)
    (node 11 (number Int (pos 1))
    none
    none)
    none))
    (node 12 (bare ShortDecl)
    (node 13 (bare ListKind)
    (node 14 (word Name (97 ∷ ([])))
    none
    none)
    (node 15 (bare ListKind)
    (node 16 (number Int (pos 2))
    none
    none)
    none))
    none))
    none))))
    none)
    none)

nothing_new_built : IsTree nothing_new 1 nothing_new_tree
unfolding nothing_new count text_size rec_at rec_kind linked said_at
nothing_new_built = (refl, refl, (refl, refl, (refl, refl, refl, (refl, refl, refl, (refl, refl, refl, (refl, refl, (refl, refl, (refl, refl, (refl, refl, refl, refl), (refl, refl, (refl, refl, refl, refl), refl)), (refl, refl, (refl, refl, (refl, refl, refl, refl), (refl, refl, (refl, refl, refl, refl), refl)), refl)), refl)))), refl), refl)

nothing_new_count : count nothing_new ≡ 16
unfolding nothing_new count
nothing_new_count = refl

pub nothing_new_answer : checked nothing_new ≡ Err (NothingNew 12)
nothing_new_answer = by_tree nothing_new nothing_new_tree 16 (Err (NothingNew 12)) nothing_new_built nothing_new_count refl

-- `func g() int { for { } }`: an endless loop needs no return
abbrev endless_tree : Tree
endless_tree =
    (node 1 (bare Program)
    (node 2 (bare Func)
    (node 3 (word Name (103 ∷ ([])))
    none
    (node 4 (bare Params)
    none
    (node 5 (word TypeName (105 ∷ (110 ∷ (116 ∷ ([])))))
    none
    (node 6 (bare Block)
    (node 7 (bare Loop)
    (node 8 (bare Absent)
    none
    (node 9 (bare Absent)
    none
    (node 10 (bare Absent)
    none
    (node 11 (bare Block)
    none
    none))))
    none)
    none))))
    none)
    none)

endless_built : IsTree endless 1 endless_tree
unfolding endless count text_size rec_at rec_kind linked said_at
endless_built = (refl, refl, (refl, refl, (refl, refl, refl, (refl, refl, refl, (refl, refl, refl, (refl, refl, (refl, refl, (refl, refl, refl, (refl, refl, refl, (refl, refl, refl, (refl, refl, refl, refl)))), refl), refl)))), refl), refl)

endless_count : count endless ≡ 11
unfolding endless count
endless_count = refl

pub endless_answer : checked endless ≡ Ok 4
endless_answer = by_tree endless endless_tree 11 (Ok 4) endless_built endless_count refl

-- the same with a break inside: a path leads past the loop
abbrev endless_break_tree : Tree
endless_break_tree =
    (node 1 (bare Program)
    (node 2 (bare Func)
    (node 3 (word Name (103 ∷ ([])))
    none
    (node 4 (bare Params)
    none
    (node 5 (word TypeName (105 ∷ (110 ∷ (116 ∷ ([])))))
    none
    (node 6 (bare Block)
    (node 7 (bare Loop)
    (node 8 (bare Absent)
    none
    (node 9 (bare Absent)
    none
    (node 10 (bare Absent)
    none
    (node 11 (bare Block)
    (node 12 (bare Break)
    none
    none)
    none))))
    none)
    none))))
    none)
    none)

endless_break_built : IsTree endless_break 1 endless_break_tree
unfolding endless_break count text_size rec_at rec_kind linked said_at
endless_break_built = (refl, refl, (refl, refl, (refl, refl, refl, (refl, refl, refl, (refl, refl, refl, (refl, refl, (refl, refl, (refl, refl, refl, (refl, refl, refl, (refl, refl, refl, (refl, refl, (refl, refl, refl, refl), refl)))), refl), refl)))), refl), refl)

endless_break_count : count endless_break ≡ 12
unfolding endless_break count
endless_break_count = refl

pub endless_break_answer : checked endless_break ≡ Err (NoReturn 2)
endless_break_answer = by_tree endless_break endless_break_tree 12 (Err (NoReturn 2)) endless_break_built endless_break_count refl
