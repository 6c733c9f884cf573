-- A stack as its callers see it.
use Rattle.std.specs.Prelude.{◌≡◌, ℕ, ◌<◌, ◌≤◌, List, ◌++◌, length, take, drop}
use Rattle.std.specs.Borrow.{MutBor}
use Rattle.stack.specs.declared.stack.Stack.{Stack}

-- the items in use, lowest first
abbrev pub used : {T : Type 0} → Stack T → List T
used s = take s.top s.items.now

-- what the lent slice holds past them
abbrev pub past : {T : Type 0} → Stack T → List T
past s = drop s.top s.items.now

-- how many items the lent slice has
abbrev pub size : {T : Type 0} → Stack T → ℕ
size s = length s.items.now

-- which slice was lent, by its ghost name
abbrev pub lent : {T : Type 0} → Stack T → ℕ
lent s = s.items.ghost_name

-- a stack over the slice r as it is, with the items xs in use and ys past them
pub record Over {T : Type 0} (r : MutBor (List T)) (xs ys : List T) (s : Stack T) : Type 0 where
  pub in_use : used s ≡ xs
  pub beyond : past s ≡ ys
  pub slice : s.items ≡ r

-- s becomes t, with the items xs in use and ys past them, in the same slice
pub record Becomes {T : Type 0} (s : Stack T) (xs ys : List T) (t : Stack T) : Type 0 where
  pub in_use : used t ≡ xs
  pub beyond : past t ≡ ys
  pub same : lent t ≡ lent s

-- s has room for xs, and becomes t, with xs in use on top of the others
pub record Grows {T : Type 0} (s : Stack T) (xs : List T) (t : Stack T) : Type 0 where
  pub room : length xs ≤ length (past s)
  pub in_use : used t ≡ used s ++ xs
  pub beyond : past t ≡ drop (length xs) (past s)
  pub same : lent t ≡ lent s

-- s has not enough room for xs, and stays as it is
pub record Refuses {T : Type 0} (s : Stack T) (xs : List T) (t : Stack T) : Type 0 where
  pub full : length (past s) < length xs
  pub kept : t ≡ s
