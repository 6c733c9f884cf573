-- That a file has a given tree, record by record.
use Rattle.std.proofs.Common.{◌≡◌, ℕ, List, Some, None, Option, ap, ◌∙◌}
use Rattle.records.specs.Bytes.{rec_at}
use Rattle.records.specs.Records.{Said, said_at}
use Rattle.records.specs.Trees.{Tree, none, node, grow, tree_at}
use Rattle.records.proofs.Grows.{tree_grows, tree_none}

-- each record of the tree says in the file what it says there, and its links lead to the trees below it
abbrev pub IsTree : List ℕ → ℕ → Tree → Type 0
IsTree f r none = said_at f r ≡ None
IsTree f r (node k said first next) = (r ≡ k) × (said_at f k ≡ Some said) × IsTree f (rec_at f k).first first × IsTree f (rec_at f k).next next

pub tree_is : (f : List ℕ) (r : ℕ) (t : Tree) → IsTree f r t → tree_at f r ≡ t
tree_is f r none i = tree_none f r i
tree_is f r (node k said first next) i =
    ap (tree_at f) i.0
    ∙ tree_grows f k
    ∙ ap (λ (o : Option Said). grow k o (tree_at f (rec_at f k).first) (tree_at f (rec_at f k).next)) i.1
    ∙ ap (λ (t : Tree). node k said t (tree_at f (rec_at f k).next)) (tree_is f (rec_at f k).first first i.2)
    ∙ ap (λ (t : Tree). node k said first t) (tree_is f (rec_at f k).next next i.3)
