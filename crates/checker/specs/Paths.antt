-- Return on every path, and a loop's own break.
use Rattle.std.specs.Prelude.{Bool, true, false, cond, not, ◌&&◌, ◌||◌}
use Rattle.records.specs.declared.kind.Kind.{Kind}
use Rattle.records.specs.declared.kind.Kind.TheVariants.{Absent, Empty, Block, Return, Loop, If, Break}
use Rattle.records.specs.Kinds.{same_kind}
use Rattle.records.specs.Records.{kind_in}
use Rattle.records.specs.Trees.{Tree, none, node}

-- whether a chain of statements has only empty ones
abbrev pub only_empty : Tree → Bool
only_empty none = true
only_empty (node r said a b) = same_kind (kind_in said) Empty && only_empty b

abbrev pub is_absent : Tree → Bool
is_absent none = false
is_absent (node r said a b) = same_kind (kind_in said) Absent

-- whether the loop around a statement may be left by a break in it; the breaks of an inner loop are its own
abbrev pub breaks_by : Kind → Bool → Bool
breaks_by k inner = cond (same_kind k Loop) false (same_kind k Break || inner)

abbrev pub breaks_in : Tree → Bool
breaks_in none = false
breaks_in (node r said a b) = breaks_by (kind_in said) (breaks_in a) || breaks_in b

-- the tree after so many siblings
abbrev pub second : Tree → Tree
second none = none
second (node r said a b) = b

-- a loop ends where it has no condition and no break of its own; its children are init, condition, post and body
abbrev pub loop_ends : Tree → Bool
loop_ends init = is_absent (second init) && not (breaks_in (second (second (second init))))

-- whether a statement ends, by what its blocks do: the block of children, and the two parts of an if
abbrev pub ends_by : Kind → Tree → Bool → Bool → Bool → Bool
ends_by k a inner then else =
    cond (same_kind k Return) true (
    cond (same_kind k Block) inner (
    cond (same_kind k If) (then && else) (
    cond (same_kind k Loop) (loop_ends a) false)))

abbrev mutual
  -- whether the statement at the top ends: no path leads past it
  pub ends_top : Tree → Bool
  ends_top none = false
  ends_top (node r said a b) = ends_by (kind_in said) a (ends_chain a) (ends_third a) (ends_fourth a)

  -- a chain ends where its last statement that is not empty does
  pub ends_chain : Tree → Bool
  ends_chain none = false
  ends_chain (node r said a b) = cond (only_empty b) (ends_by (kind_in said) a (ends_chain a) (ends_third a) (ends_fourth a)) (ends_chain b)

  -- the third and the fourth of a chain: the two parts of an if
  pub ends_third : Tree → Bool
  ends_third none = false
  ends_third (node r said a b) = ends_second b

  pub ends_second : Tree → Bool
  ends_second none = false
  ends_second (node r said a b) = ends_top b

  pub ends_fourth : Tree → Bool
  ends_fourth none = false
  ends_fourth (node r said a b) = ends_third b
