use Rattle.std.proofs.Common.{◌≡◌, ◌∙◌, rules}
use Rattle.rules.specs.Children.{children_fit}
use Rattle.rules.proofs.Runs.{run_over}
use Rattle.rules.proofs.children.all_have_children.Goals as goal

pub returns : goal.returns
unfolding children_fit
returns c =
    let s = c.args.s in
    let t = c.places in
    run_over s 1 t.result (children_fit s.file.now) _ t.ensures.0 t.ensures.1 (c.all_keep.ensures (children_fit s.file.now) (λ p b e h. let o : p.over ≡ s = e ∙ t.ensures.0 in search rules))
