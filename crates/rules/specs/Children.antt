-- The rule that each record has its listed children.
use Rattle.std.specs.Prelude.{◌≡◌, ℕ, zero, suc, ◌+◌, ◌<◌, Bool, true, false, not, ◌&&◌, ◌||◌, List, Some, None, Option, ◌==◌, slice_index_or}
use Rattle.records.specs.declared.kind.Kind.{Kind}
use Rattle.records.specs.declared.place.Chain.{Chain}
use Rattle.records.specs.declared.kind.Kind.TheVariants.{Program, List as ListKind}
use Rattle.records.specs.Kinds.{same_kind}
use Rattle.records.specs.Bytes.{count}
use Rattle.records.specs.Records.{kind_in}
use Rattle.records.specs.Trees.{Tree, none, node, kind_tree}
use Rattle.rules.specs.declared.grammar.Sort.{Sort}
use Rattle.rules.specs.declared.grammar.Children.{Children}
use Rattle.rules.specs.Grammar.{admits, contents, children_of, slot, ends, fills}

-- the tree of a chain's records
abbrev pub chained : Chain → Tree
chained c = kind_tree c.over.file.now c.at

-- each record of a chain is of the sort
abbrev pub each : Sort → Tree → Bool
each sort none = true
each sort (node r said first next) = admits sort (kind_in said) (kind_in said) && each sort next

abbrev pub holds_by : Option Sort → Tree → Bool
holds_by None t = true
holds_by (Some sort) t = each sort t

-- the chain below a record at a place of the sort: a list holds only what it may
abbrev pub within : Sort → Tree → Bool
within sort t = holds_by (contents sort) t

-- the chain of children from the place i on, where `before` is the kind of the child before (of the parent at first)
abbrev pub fit : Children → ℕ → Kind → Tree → Bool
fit line i before none = ends line i
fit line i before (node r said first next) = admits (slot line i) before (kind_in said) && (within (slot line i) first && fit line (i + 1) (kind_in said) next)

-- a record has the children of its kind
abbrev pub line_fits : Tree → Bool
line_fits none = false
line_fits (node r said first next) = fit (children_of (kind_in said)) 0 (kind_in said) first

abbrev pub is_none : Tree → Bool
is_none none = true
is_none (node r said first next) = false

-- the first record is the program, and nothing stands beside it
abbrev pub is_root : Tree → Bool
is_root none = false
is_root (node r said first next) = same_kind (kind_in said) Program && is_none next

-- a list that is not empty, or no list
abbrev pub filled : Tree → Bool
filled none = true
filled (node r said first next) = not (same_kind (kind_in said) ListKind) || not (is_none first)

-- whether k is the number of a record in a chain
abbrev pub among : ℕ → Tree → Bool
among k none = false
among k (node r said first next) = r == k || among k next

-- whether the record k is a child of one whose lists must not be empty
abbrev pub wants : ℕ → Tree → Bool
wants k none = false
wants k (node r said first next) = fills (kind_in said) && among k first

-- the marks of the records are those before, and those of which `more` says so
abbrev pub Marked : (ℕ → Bool) → List Bool → List Bool → Type 0
Marked more before after = (k : ℕ) → k < 2048 → slice_index_or after k false ≡ (slice_index_or before k false || more k)

-- whether one of the records up to p wants that of the record k
abbrev pub must_fill : List ℕ → ℕ → ℕ → Bool
must_fill f zero k = false
must_fill f (suc p) k = must_fill f p k || wants k (kind_tree f (suc p))

-- a record has the children of its kind; the first is the root; a list that must not be empty is filled
abbrev pub has_children : ℕ → Bool → Tree → Bool
has_children r full t = line_fits t && ((not (r == 1) || is_root t) && (not full || filled t))

unfoldable pub children_fit : List ℕ → ℕ → Bool
children_fit f r = has_children r (must_fill f (count f) r) (kind_tree f r)
