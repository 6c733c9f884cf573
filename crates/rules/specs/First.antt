-- The first of a run of records that breaks a rule.
use Rattle.std.specs.Prelude.{◌≡◌, ℕ, ◌<◌, ◌≤◌, Bool, true, false, Some, None, Option}

-- the first number from lo to hi at which the rule does not hold, or none
abbrev pub First : (ℕ → Bool) → ℕ → ℕ → Option ℕ → Type 0
First rule lo hi None = (k : ℕ) → lo ≤ k → k ≤ hi → rule k ≡ true
First rule lo hi (Some r) = (lo ≤ r) × (r ≤ hi) × (rule r ≡ false) × ((k : ℕ) → lo ≤ k → k < r → rule k ≡ true)
