-- Which records a file has, and which follow a record.
use Rattle.std.specs.Prelude.{◌≡◌, ℕ, ◌+◌, ◌<◌, ◌≤◌, max, ◌⊎◌, Some, None, Option}
use Rattle.records.specs.declared.kind.Kind.{Kind}
use Rattle.records.specs.declared.opened.Opened.{Opened}
use Rattle.records.specs.declared.place.Place.{Place}
use Rattle.records.specs.declared.place.Places.{Places}
use Rattle.records.specs.declared.place.Chain.{Chain}
use Rattle.records.specs.declared.record.Node.{Node}
use Rattle.records.specs.Records.{bare}
use Rattle.records.specs.Trees.{none, kind_tree, Step}

-- the record of that number, or none where the file has none
abbrev pub Found : Opened → ℕ → Option Place → Type 0
Found s r None = (r ≡ 0) ⊎ (s.n < r)
Found s r (Some p) = (p.over ≡ s) × (p.r ≡ r)

-- the records from a number on
abbrev pub Starts : Opened → ℕ → Places → Type 0
Starts s from t = (t.over ≡ s) × (t.next ≡ max 1 from)

-- the next record and the ones after it, or none once the last has been given
abbrev pub Yields : Places → Option Place → Places → Type 0
Yields s None t = (s.over.n < s.next) × (t ≡ s)
Yields s (Some p) t = (p.over ≡ s.over) × (p.r ≡ s.next) × (s.next ≤ s.over.n) × (t.over ≡ s.over) × (t.next ≡ s.next + 1)

-- the chain from a record on
abbrev pub Begins : Opened → ℕ → Chain → Type 0
Begins s first t = (t.over ≡ s) × (t.at ≡ first)

-- the next record of the chain with its number, and the chain after it, or none where no record stands
abbrev pub Follows : Chain → Option (ℕ × Node Kind) → Chain → Type 0
Follows s None t = (kind_tree s.over.file.now s.at ≡ none) × (t ≡ s)
Follows s (Some p) t = (p.0 ≡ s.at) × Step (kind_tree s.over.file.now) s.over.n s.at (bare p.1.«record») p.1.first p.1.next × (t.over ≡ s.over) × (t.at ≡ p.1.next)
