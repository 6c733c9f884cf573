use Rattle.std.proofs.Common.{◌≡◌, ap, refl, arith}
use Rattle.records.specs.declared.place.Chain.{Chain}
use Rattle.rules.proofs.Marks.{above_most}
use Rattle.rules.proofs.children.fits.Goals as goal

pub loop-child-init : goal.loop-child-init
loop-child-init c =
    let i = c.into_iter-child-iterator.ensures.into_iter_gives in
    let at : c.into_iter-child-iterator.result.at ≡ c.args.chain.at = ap (λ (x : Chain). x.at) i in
    (ap (λ (x : Chain). x.over) i, rw i refl, rw at (omega (arith, above_most c.args.chain.at)))
