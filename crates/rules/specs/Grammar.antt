-- Which children each kind of record has.
use Rattle.std.specs.Prelude.{ℕ, Bool, true, false, cond, not, ◌&&◌, ◌||◌, Some, None, Option, ◌==◌, nat_lt}
use Rattle.records.specs.Kinds.{about, same_kind}
use Rattle.records.specs.declared.kind.Class.{Class}
use Rattle.records.specs.declared.kind.Class.TheVariants.{Types, Statements, Expressions, Others}
use Rattle.records.specs.declared.kind.Kind.{Kind}
use Rattle.records.specs.declared.kind.Kind.TheVariants.{Program, Var, TypeDecl, Func, Params as ParamsKind, Param as ParamKind, Name as NameKind, Absent, TypeName, Slice, Struct, Field as FieldKind, Empty, Block as BlockKind, ExprStmt, Return, ShortDecl, Assign, Print, Println, Loop, If, Break, Continue, List as ListKind, Int, Rune, Str, Ident as IdentKind, Unary, Binary, Call, Index, Select, Append, Cast}
use Rattle.rules.specs.declared.grammar.Sort.{Sort}
use Rattle.rules.specs.declared.grammar.Sort.TheVariants.{Nothing, Anything, Declaration, Name, TypeTerm, TypeOrAbsent, Expr, ExprOrAbsent, Value, Params, Param, Field, Statement, Block, Init, Post, Else, Ident, Names, Exprs}
use Rattle.rules.specs.declared.grammar.Children.{Children}
use Rattle.rules.specs.declared.grammar.Children.TheVariants.{Leaf, One, Two, Three, Four, Any, Many}

-- whether two classes are the same
abbrev pub same_class : Class → Class → Bool
same_class Types Types = true
same_class Types Statements = false
same_class Types Expressions = false
same_class Types Others = false
same_class Statements Types = false
same_class Statements Statements = true
same_class Statements Expressions = false
same_class Statements Others = false
same_class Expressions Types = false
same_class Expressions Statements = false
same_class Expressions Expressions = true
same_class Expressions Others = false
same_class Others Types = false
same_class Others Statements = false
same_class Others Expressions = false
same_class Others Others = true

abbrev pub is_in : Class → Kind → Bool
is_in class k = same_class class (about k).class

abbrev pub is_type : Kind → Bool
is_type = is_in Types

abbrev pub is_expr : Kind → Bool
is_expr = is_in Expressions

abbrev pub is_statement : Kind → Bool
is_statement = is_in Statements

-- whether a record of kind k may stand at a place of the sort, after one of the kind `before`
abbrev pub admits : Sort → Kind → Kind → Bool
admits Nothing before k = false
admits Anything before k = true
admits Declaration before k = same_kind k Var || (same_kind k TypeDecl || same_kind k Func)
admits Name before k = same_kind k NameKind
admits TypeTerm before k = is_type k
admits TypeOrAbsent before k = is_type k || same_kind k Absent
admits Expr before k = is_expr k
admits ExprOrAbsent before k = is_expr k || same_kind k Absent
admits Value before k = is_expr k || (same_kind k Absent && not (same_kind before Absent))
admits Params before k = same_kind k ParamsKind
admits Param before k = same_kind k ParamKind
admits Field before k = same_kind k FieldKind
admits Statement before k = is_statement k
admits Block before k = same_kind k BlockKind
admits Init before k = same_kind k ExprStmt || (same_kind k ShortDecl || (same_kind k Assign || same_kind k Absent))
admits Post before k = same_kind k ExprStmt || (same_kind k Assign || same_kind k Absent)
admits Else before k = same_kind k BlockKind || (same_kind k If || same_kind k Absent)
admits Ident before k = same_kind k IdentKind
admits Names before k = same_kind k ListKind
admits Exprs before k = same_kind k ListKind

-- what a list at a place of the sort must hold
abbrev pub contents : Sort → Option Sort
contents Nothing = None
contents Anything = None
contents Declaration = None
contents Name = None
contents TypeTerm = None
contents TypeOrAbsent = None
contents Expr = None
contents ExprOrAbsent = None
contents Value = None
contents Params = None
contents Param = None
contents Field = None
contents Statement = None
contents Block = None
contents Init = None
contents Post = None
contents Else = None
contents Ident = None
contents Names = Some Name
contents Exprs = Some Expr

-- the children of each kind
abbrev pub children_of : Kind → Children
children_of Program = Any Declaration
children_of Var = Three Name TypeOrAbsent Value
children_of TypeDecl = Two Name TypeTerm
children_of Func = Four Name Params TypeOrAbsent Block
children_of ParamsKind = Any Param
children_of ParamKind = Two Name TypeTerm
children_of NameKind = Leaf
children_of Absent = Leaf
children_of TypeName = Leaf
children_of Slice = One TypeTerm
children_of Struct = Many Field
children_of FieldKind = Two Name TypeTerm
children_of Empty = Leaf
children_of BlockKind = Any Statement
children_of ExprStmt = One Expr
children_of Return = One ExprOrAbsent
children_of ShortDecl = Two Names Exprs
children_of Assign = Two Exprs Exprs
children_of Print = One Exprs
children_of Println = One Exprs
children_of Loop = Four Init ExprOrAbsent Post Block
children_of If = Four Init Expr Block Else
children_of Break = Leaf
children_of Continue = Leaf
children_of ListKind = Any Anything
children_of Int = Leaf
children_of Rune = Leaf
children_of Str = Leaf
children_of IdentKind = Leaf
children_of (Unary op) = One Expr
children_of (Binary op) = Two Expr Expr
children_of Call = Two Ident Exprs
children_of Index = Two Expr Expr
children_of Select = Two Expr Name
children_of Append = Two Ident Expr
children_of Cast = Two TypeTerm Expr

abbrev pub pick : ℕ → Sort → Sort → Sort → Sort → Sort
pick i a b c d = cond (i == 0) a (cond (i == 1) b (cond (i == 2) c (cond (i == 3) d Nothing)))

-- the sort of the child at the place i, which counts from 0
abbrev pub slot : Children → ℕ → Sort
slot Leaf i = Nothing
slot (One a) i = pick i a Nothing Nothing Nothing
slot (Two a b) i = pick i a b Nothing Nothing
slot (Three a b c) i = pick i a b c Nothing
slot (Four a b c d) i = pick i a b c d
slot (Any a) i = a
slot (Many a) i = a

-- whether there may be just i children
abbrev pub ends : Children → ℕ → Bool
ends Leaf i = i == 0
ends (One a) i = i == 1
ends (Two a b) i = i == 2
ends (Three a b c) i = i == 3
ends (Four a b c d) i = i == 4
ends (Any a) i = true
ends (Many a) i = nat_lt 0 i

-- the kinds whose lists must not be empty
abbrev pub fills : Kind → Bool
fills k = same_kind k ShortDecl || same_kind k Assign
