use Rattle.std.proofs.Common.{◌≡◌, ◌∙◌, rules}
use Rattle.rules.specs.Links.{linked_once}
use Rattle.rules.proofs.Runs.{run_over}
use Rattle.rules.proofs.links.all_linked_once.Goals as goal

pub returns : goal.returns
returns c =
    let s = c.args.s.over in
    let t = c.places in
    run_over s 2 t.result (linked_once s.file.now) _ t.ensures.0 t.ensures.1 (c.all_keep.ensures (linked_once s.file.now) (λ p b e h. let o : p.over ≡ s = e ∙ t.ensures.0 in search rules))
