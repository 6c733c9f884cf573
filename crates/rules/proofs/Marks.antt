-- The lists that must not be empty, and what is tested of one record.
use Rattle.std.proofs.Common.{◌≡◌, ℕ, ◌+◌, ◌≤◌, Bool, false, ◌||◌, List, get_or, add-one, arith}
use Rattle.std.proofs.lemmas.Bool.Decides.{nat_tests}
use Rattle.records.specs.Trees.{kind_tree, above}
use Rattle.rules.specs.Children.{must_fill, wants}

pub marks_more : (f : List ℕ) (one two : List Bool) (p k : ℕ) → get_or one k false ≡ must_fill f p k → get_or two k false ≡ (get_or one k false || wants k (kind_tree f (p + 1))) → get_or two k false ≡ must_fill f (p + 1) k
marks_more f one two p k e d = rw (add-one, ← e) (rw add-one at d)

pub above_most : (r : ℕ) → above r ≤ 2048
unfolding above
above_most r = grind (arith, nat_tests)
