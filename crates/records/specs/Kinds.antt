-- The kinds of records, and the operators.
use Rattle.std.specs.Prelude.{ℕ, Bool, cond, Some, None, Option, ◌==◌}
use Rattle.std.specs.Option.{option_map}
use Rattle.records.specs.declared.kind.UnaryOp.{UnaryOp}
use Rattle.records.specs.declared.kind.UnaryOp.TheVariants.{Plus, Minus, Not, Complement}
use Rattle.records.specs.declared.kind.BinaryOp.{BinaryOp}
use Rattle.records.specs.declared.kind.BinaryOp.TheVariants.{Or, And, Equal, NotEqual, Less, AtMost, Greater, AtLeast, Add, Sub, Mul, Div, Rem, BitOr, BitAnd, Shl, Shr, BitClear, BitXor}
use Rattle.records.specs.declared.kind.Kind.{Kind}
use Rattle.records.specs.declared.kind.Kind.TheVariants.{Program, Var, TypeDecl, Func, Params, Param, Name as NameKind, Absent, TypeName, Slice, Struct, Field, Empty, Block, ExprStmt, Return, ShortDecl, Assign, Print, Println, Loop, If, Break, Continue, List as ListKind, Int as IntKind, Rune as RuneKind, Str, Ident, Unary, Binary, Call, Index, Select, Append, Cast}
use Rattle.records.specs.declared.kind.Form.{Form}
use Rattle.records.specs.declared.kind.Form.TheVariants.{Bare, Int, Rune, Text, Name}
use Rattle.records.specs.declared.kind.Class.{Class}
use Rattle.records.specs.declared.kind.Class.TheVariants.{Types, Statements, Expressions, Others}
use Rattle.records.specs.declared.kind.About.{About}

-- + - ! ^
abbrev pub unary_of : ℕ → Option UnaryOp
unary_of op =
    cond (op == 1) (Some Plus) (
    cond (op == 2) (Some Minus) (
    cond (op == 3) (Some Not) (
    cond (op == 4) (Some Complement) (None))))

-- || && == != < <= > >= + - * / % | & << >> &^ ^
abbrev pub binary_of : ℕ → Option BinaryOp
binary_of op =
    cond (op == 1) (Some Or) (
    cond (op == 2) (Some And) (
    cond (op == 3) (Some Equal) (
    cond (op == 4) (Some NotEqual) (
    cond (op == 5) (Some Less) (
    cond (op == 6) (Some AtMost) (
    cond (op == 7) (Some Greater) (
    cond (op == 8) (Some AtLeast) (
    cond (op == 9) (Some Add) (
    cond (op == 10) (Some Sub) (
    cond (op == 11) (Some Mul) (
    cond (op == 12) (Some Div) (
    cond (op == 13) (Some Rem) (
    cond (op == 14) (Some BitOr) (
    cond (op == 15) (Some BitAnd) (
    cond (op == 16) (Some Shl) (
    cond (op == 17) (Some Shr) (
    cond (op == 18) (Some BitClear) (
    cond (op == 19) (Some BitXor) (None)))))))))))))))))))

-- print, or println
abbrev pub print_of : ℕ → Option Kind
print_of op = cond (op == 0) (Some Print) (cond (op == 1) (Some Println) None)

-- the kind that a number and an operator stand for; the operator matters to print, unary and binary only
abbrev pub kind_of : ℕ → ℕ → Option Kind
kind_of number op =
    cond (number == 1) (Some Program) (
    cond (number == 2) (Some Var) (
    cond (number == 3) (Some TypeDecl) (
    cond (number == 4) (Some Func) (
    cond (number == 5) (Some Params) (
    cond (number == 6) (Some Param) (
    cond (number == 7) (Some NameKind) (
    cond (number == 8) (Some Absent) (
    cond (number == 10) (Some TypeName) (
    cond (number == 11) (Some Slice) (
    cond (number == 12) (Some Struct) (
    cond (number == 13) (Some Field) (
    cond (number == 20) (Some Empty) (
    cond (number == 21) (Some Block) (
    cond (number == 22) (Some ExprStmt) (
    cond (number == 23) (Some Return) (
    cond (number == 24) (Some ShortDecl) (
    cond (number == 25) (Some Assign) (
    cond (number == 26) (print_of op) (
    cond (number == 27) (Some Loop) (
    cond (number == 28) (Some If) (
    cond (number == 29) (Some Break) (
    cond (number == 30) (Some Continue) (
    cond (number == 40) (Some ListKind) (
    cond (number == 50) (Some IntKind) (
    cond (number == 51) (Some RuneKind) (
    cond (number == 52) (Some Str) (
    cond (number == 53) (Some Ident) (
    cond (number == 54) (option_map Unary (unary_of op)) (
    cond (number == 55) (option_map Binary (binary_of op)) (
    cond (number == 56) (Some Call) (
    cond (number == 57) (Some Index) (
    cond (number == 58) (Some Select) (
    cond (number == 59) (Some Append) (
    cond (number == 60) (Some Cast) (None)))))))))))))))))))))))))))))))))))

abbrev pub line : ℕ → Form → Class → About
line number form class = record { number = number; form = form; class = class }

-- the table of kinds: the number in the file, what a record of the kind holds, and the group it belongs to
abbrev pub about : Kind → About
about Program = line 1 Bare Others
about Var = line 2 Bare Statements
about TypeDecl = line 3 Bare Statements
about Func = line 4 Bare Others
about Params = line 5 Bare Others
about Param = line 6 Bare Others
about NameKind = line 7 Name Others
about Absent = line 8 Bare Others
about TypeName = line 10 Name Types
about Slice = line 11 Bare Types
about Struct = line 12 Bare Types
about Field = line 13 Bare Others
about Empty = line 20 Bare Statements
about Block = line 21 Bare Statements
about ExprStmt = line 22 Bare Statements
about Return = line 23 Bare Statements
about ShortDecl = line 24 Bare Statements
about Assign = line 25 Bare Statements
about Print = line 26 Bare Statements
about Println = line 26 Bare Statements
about Loop = line 27 Bare Statements
about If = line 28 Bare Statements
about Break = line 29 Bare Statements
about Continue = line 30 Bare Statements
about ListKind = line 40 Bare Others
about IntKind = line 50 Int Expressions
about RuneKind = line 51 Rune Expressions
about Str = line 52 Text Expressions
about Ident = line 53 Name Expressions
about (Unary op) = line 54 Bare Expressions
about (Binary op) = line 55 Bare Expressions
about Call = line 56 Bare Expressions
about Index = line 57 Bare Expressions
about Select = line 58 Bare Expressions
about Append = line 59 Bare Expressions
about Cast = line 60 Bare Expressions

-- whether two kinds have the same number
abbrev pub same_kind : Kind → Kind → Bool
same_kind a b = (about a).number == (about b).number
