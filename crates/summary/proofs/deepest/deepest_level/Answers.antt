use Rattle.std.proofs.Common.{◌≡◌, ◌+◌, ◌<◌, length, get_or, refl, ◌∙◌, rules, arith}
use Rattle.records.specs.Bytes.{rec_at}
use Rattle.records.proofs.Passing.{behind, at_start, none_passed, turn, all_passed}
use Rattle.rules.proofs.Counts.{leads}
use Rattle.rules.proofs.Deepens.{depths_start, depths_more, depth_next}
use Rattle.summary.specs.declared.deepest.Level.{Level}
use Rattle.summary.proofs.Deepens.{not_deep, best_start, best_more}
use Rattle.summary.proofs.deepest.deepest_level.Goals as goal

pub loop-place-init : goal.loop-place-init
loop-place-init c =
    let s = c.args.s.over in
    let made = c.places-place-items in
    let it = c.into_iter-place-iterator in
    let none = none_passed s made.result it.result made.ensures it.ensures.into_iter_gives in
    (at_start s made.result it.result made.ensures it.ensures.into_iter_gives, rw (none, c.start_depths-depths.ensures) (depths_start s.file.now), rw none (best_start s.file.now s.n s.some))

pub pass_depth-requires : goal.pass_depth-requires
pass_depth-requires c =
    let s = c.args.s.over in
    let it = c.loop-place.place-iterator in
    let i = c.loop-place.invariant in
    let t = turn s it c.in-Some.place c.next.new.self i.0 c.in-Some.ensures.steps in
    let d = depth_next s.file.now c.loop-place.depths (behind it) (omega (arith, t.within, s.few)) i.1 in
    let e = not_deep s.file.now (behind it + 1) (c.args.s.depth (behind it + 1) (omega arith) t.within) in
    record { here = t.over; low = rw t.is (omega (arith, d, e)) }

pub loop-place-preserved : goal.loop-place-preserved
loop-place-preserved c =
    let s = c.args.s.over in
    let f = s.file.now in
    let it = c.loop-place.place-iterator in
    let r = behind it in
    let ds = c.loop-place.depths in
    let i = c.loop-place.invariant in
    let t = turn s it c.in-Some.place c.next.new.self i.0 c.in-Some.ensures.steps in
    let lt : r + 1 < 2048 = omega (arith, t.within, s.few) in
    let at : c.from.result ≡ r + 1 = search rules in
    let two : Level = record { at = c.in-Some.place.r; depth = get_or ds c.from.result 0 } in
    let d : two.depth ≡ get_or ds (r + 1) 0 = rw at refl in
    let l = leads f s.n (r + 1) (rec_at f (r + 1)) s.records s.few c.args.s.links (omega arith) t.within refl in
    let long : length ds ≡ 2048 = search rules in (
      t.goes_on,
      rw (t.one_more, c.pass_depth.ensures, t.is) (depths_more f ds r lt long l.first_in l.next_in i.1),
      rw t.one_more (best_more f s.n r c.loop-place.best two c.deeper-best.result t.within t.is (d ∙ depth_next f ds r lt i.1) c.deeper-best.ensures i.2),
    )

pub returns : goal.returns
returns c =
    let all = all_passed c.args.s.over c.loop-place.place-iterator c.next.new.self c.loop-place.invariant.0 c.in-None.ensures.steps in
    let best = c.loop-place.invariant.2 in
    record { from = best.from; within = best.within; here = best.here; most = λ k u v. best.most k u (omega (arith, all)); lowest = best.lowest }
