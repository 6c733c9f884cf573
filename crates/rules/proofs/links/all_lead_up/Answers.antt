use Rattle.std.proofs.Common.{◌∙◌}
use Rattle.rules.specs.Links.{lead_up}
use Rattle.rules.proofs.Runs.{at_over, run_over}
use Rattle.rules.proofs.links.all_lead_up.Goals as goal

pub returns : goal.returns
returns c =
    let s = c.args.s in
    let t = c.places in
    run_over s 1 t.result (lead_up s.file.now) _ t.ensures.0 t.ensures.1 (c.all_keep.ensures (lead_up s.file.now) (λ p b e h. at_over lead_up p.over s p.r b (e ∙ t.ensures.0) h.1))
