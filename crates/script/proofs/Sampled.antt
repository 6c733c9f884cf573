-- The two sample files, by computation.
use Rattle.std.proofs.Common.{◌≡◌, ℕ, Bool, true, false, ◌||◌, Some, None, Err, refl, ap, ◌∙◌, subst, arith, lit≤}
use Rattle.faults.specs.declared.FileFault.TheVariants.{Link}
use Rattle.records.specs.Bytes.{count, text_size, rec_at}
use Rattle.records.specs.declared.kind.Kind.TheVariants.{Program}
use Rattle.records.specs.Records.{bare, rec_kind, linked, kind_at, Heads}
use Rattle.records.specs.Trees.{Tree, none, node, kind_tree}
use Rattle.records.proofs.Grows.{kind_step, kind_none}
use Rattle.rules.specs.First.{First}
use Rattle.rules.specs.Links.{lead_up}
use Rattle.rules.specs.Depths.{shallow}
use Rattle.rules.specs.Children.{wants, must_fill, has_children, children_fit}
use Rattle.rules.specs.Rules.{kind_listed, text_inside, Kept}
use Rattle.script.specs.Stages.{Past}
use Rattle.script.specs.Samples.{Samples, smallest, looped, one_header, lent_for_one}
use Rattle.script.proofs.Verdicts.{verdict}

-- a rule on the one record of a file
only_one : (rule : ℕ → Bool) → rule 1 ≡ true → First rule 1 1 None
only_one rule e k a b = let P : ℕ → Type 0 = λ n. rule n ≡ true in let i : 1 ≡ k = omega arith in subst P i e

smallest_heads : Heads smallest one_header
unfolding smallest count text_size
smallest_heads = record { records_are = refl; text_is = refl; some = lit≤ tt; few = lit≤ tt; brief = lit≤ tt; fills = refl }

looped_heads : Heads looped one_header
unfolding looped count text_size
looped_heads = record { records_are = refl; text_is = refl; some = lit≤ tt; few = lit≤ tt; brief = lit≤ tt; fills = refl }

leads : lead_up smallest 1 ≡ true
unfolding smallest count rec_at
leads = refl

low : shallow smallest 1 ≡ true
unfolding smallest rec_at
low = refl

listed : kind_listed smallest 1 ≡ true
unfolding smallest rec_at rec_kind kind_listed
listed = refl

kind_one : kind_at smallest 1 ≡ Some (bare Program)
unfolding smallest count text_size rec_at rec_kind linked kind_at
kind_one = refl

kind_zero : kind_at smallest 0 ≡ None
unfolding smallest count text_size rec_at rec_kind linked kind_at
kind_zero = refl

no_links : ((rec_at smallest 1).first ≡ 0) × ((rec_at smallest 1).next ≡ 0)
unfolding smallest rec_at
no_links = (refl, refl)

one : count smallest ≡ 1
unfolding smallest count
one = refl

tree_one : kind_tree smallest 1 ≡ node 1 (bare Program) none none
tree_one =
    let z = kind_none smallest 0 kind_zero in
    (kind_step smallest 1 (bare Program) kind_one).tree_is
    ∙ ap (λ (x : ℕ). node 1 (bare Program) (kind_tree smallest x) (kind_tree smallest (rec_at smallest 1).next)) no_links.0
    ∙ ap (λ (x : ℕ). node 1 (bare Program) (kind_tree smallest 0) (kind_tree smallest x)) no_links.1
    ∙ ap (λ (t : Tree). node 1 (bare Program) t t) z

childless : children_fit smallest 1 ≡ true
unfolding children_fit
childless =
    ap (λ (n : ℕ). has_children 1 (must_fill smallest n 1) (kind_tree smallest 1)) one
    ∙ ap (λ (t : Tree). has_children 1 (false || wants 1 t) t) tree_one

textless : text_inside smallest 1 ≡ true
unfolding smallest text_size rec_at rec_kind text_inside
textless = refl

leads_back : lead_up looped 1 ≡ false
unfolding looped count rec_at
leads_back = refl

smallest_kept : Kept smallest 1
smallest_kept = record {
  links = only_one (lead_up smallest) leads;
  once = λ k a b. absurd (omega arith);
  shallows = only_one (shallow smallest) low;
  kinds = only_one (kind_listed smallest) listed;
  children = only_one (children_fit smallest) childless;
  texts = only_one (text_inside smallest) textless;
}

looped_past : Past looped lent_for_one (Link 1)
looped_past = record { header = one_header; heads = looped_heads; lent_all = refl; broken = (lit≤ tt, lit≤ tt, leads_back, λ k a b. absurd (omega arith)) }

pub samples : Samples
samples = record { reads = record { heads = smallest_heads; kept = smallest_kept }; refuses = verdict looped lent_for_one (Err (Link 1)) looped_past }
