-- What the lent slice holds, from what its stack says.
use Rattle.std.proofs.Common.{◌≡◌, ◌+◌, ◌++◌, length, take, drop, sym, ap, arith, length-take, length-drop, length-take-le}
use Rattle.std.proofs.lemmas.List.{take-append-drop}
use Rattle.stack.specs.declared.stack.Stack.{Stack}
use Rattle.stack.specs.Model.{used, past}

module _ {T : Type 0} (s : Stack T) where
  pub whole : s.items.now ≡ used s ++ past s
  whole = sym (take-append-drop s.top s.items.now)

  pub capacity : length (used s) + length (past s) ≡ length s.items.now
  capacity = omega (arith, length-take s.top s.items.now, length-drop s.top s.items.now)

  -- the same stack is found again from how many items are in use
  pub used_kept : take (length (used s)) s.items.now ≡ used s
  used_kept = ap (λ n. take n s.items.now) (length-take-le s.top s.items.now s.within)

  pub past_kept : drop (length (used s)) s.items.now ≡ past s
  past_kept = ap (λ n. drop n s.items.now) (length-take-le s.top s.items.now s.within)
