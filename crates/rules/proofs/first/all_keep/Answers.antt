use Rattle.std.proofs.Common.{◌≡◌, true, false, rules, arith, ap, ◌∙◌}
use Rattle.records.specs.declared.opened.Opened.{Opened}
use Rattle.rules.proofs.Runs.{keeps_more}
use Rattle.rules.proofs.first.all_keep.Goals as goal

pub returns-then-not-rule : goal.returns-then-not-rule
returns-then-not-rule g c = λ holds decides.
    let i = c.loop-place.invariant in
    let s = c.in-Some.ensures.steps in
    let n = ap (λ (o : Opened). o.n) i.0 in
    let e = decides c.in-Some.place c.rule.result (s.0 ∙ i.0) c.rule.ensures in
    let broken : c.rule.result ≡ false = search rules in
    (omega (arith, s.1, i.1), omega (arith, s.1, s.2, n), e ∙ broken, λ k a b. i.2 holds decides k a (omega (arith, s.1)))

pub loop-place-preserved : goal.loop-place-preserved
loop-place-preserved g c =
    let i = c.loop-place.invariant in
    let s = c.in-Some.ensures.steps in
    let kept : c.rule.result ≡ true = search rules in
    (s.3 ∙ i.0, omega (arith, s.4, i.1), λ holds decides k a b. keeps_more holds c.args.places.next c.loop-place.place-iterator.next c.in-Some.place.r s.1 (decides c.in-Some.place c.rule.result (s.0 ∙ i.0) c.rule.ensures ∙ kept) (i.2 holds decides) k a (omega (arith, s.4)))

pub returns : goal.returns
returns g c = λ holds decides k a b.
    let i = c.loop-place.invariant in
    let s = c.in-None.ensures.steps in
    let n = ap (λ (o : Opened). o.n) i.0 in
    i.2 holds decides k a (omega (arith, s.0, n))
