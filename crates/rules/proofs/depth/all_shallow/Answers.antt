use Rattle.std.proofs.Common.{◌≡◌, ◌+◌, ◌<◌, ◌≤◌, length, get_or, refl, rules, arith, sym}
use Rattle.std.proofs.lemmas.Bool.{ltb-true, ltb-false}
use Rattle.records.specs.Bytes.{rec_at}
use Rattle.records.proofs.Passing.{behind, at_start, none_passed, turn, all_passed}
use Rattle.rules.proofs.Counts.{leads}
use Rattle.rules.proofs.Deepens.{depths_start, depths_more, shallow_more, deep_here}
use Rattle.rules.proofs.depth.all_shallow.Goals as goal

pub loop-place-init : goal.loop-place-init
loop-place-init c =
    let made = c.places-place-items in
    let it = c.into_iter-place-iterator in
    let none = none_passed c.args.s.over made.result it.result made.ensures it.ensures.into_iter_gives in
    (at_start c.args.s.over made.result it.result made.ensures it.ensures.into_iter_gives, rw (none, c.start_depths-depths.ensures) (depths_start c.args.s.over.file.now), λ k h l. absurd (omega (arith, none)))

pub returns-then-deep : goal.returns-then-deep
returns-then-deep c =
    let s = c.args.s.over in
    let it = c.loop-place.place-iterator in
    let i = c.loop-place.invariant in
    let t = turn s it c.in-Some.place c.next.new.self i.0 c.in-Some.ensures.steps in
    let at : c.from.result ≡ behind it + 1 = search rules in
    let gt = ltb-true 64 (get_or c.loop-place.depths c.from.result 0) (sym c.if-deep.ensures) in
    (omega (arith, t.is), omega (arith, t.is, t.within), rw t.is (deep_here s.file.now c.loop-place.depths (behind it) (omega (arith, t.within, s.few)) i.1 (rw (← at) gt)), λ k h l. i.2 k h (omega (arith, t.is)))

pub pass_depth-requires : goal.pass_depth-requires
pass_depth-requires c =
    let it = c.loop-place.place-iterator in
    let t = turn c.args.s.over it c.in-Some.place c.next.new.self c.loop-place.invariant.0 c.in-Some.ensures.steps in
    let at : c.in-Some.place.r ≡ c.from.result = search rules in
    let le = ltb-false 64 (get_or c.loop-place.depths c.from.result 0) (sym c.if-deep.ensures) in
    record { here = t.over; low = rw at (omega (arith, le)) }

pub loop-place-preserved : goal.loop-place-preserved
loop-place-preserved c =
    let s = c.args.s.over in
    let f = s.file.now in
    let it = c.loop-place.place-iterator in
    let r = behind it in
    let ds = c.loop-place.depths in
    let i = c.loop-place.invariant in
    let t = turn s it c.in-Some.place c.next.new.self i.0 c.in-Some.ensures.steps in
    let lt : r + 1 < 2048 = omega (arith, t.within, s.few) in
    let at : c.from.result ≡ r + 1 = search rules in
    let le : get_or ds (r + 1) 0 ≤ 64 = rw (← at) (ltb-false 64 (get_or ds c.from.result 0) (sym c.if-deep.ensures)) in
    let l = leads f s.n (r + 1) (rec_at f (r + 1)) s.records s.few c.args.s.up (omega arith) t.within refl in
    let long : length ds ≡ 2048 = search rules in (
      t.goes_on,
      rw (t.one_more, c.pass_depth.ensures, t.is) (depths_more f ds r lt long l.first_in l.next_in i.1),
      rw t.one_more (shallow_more f ds r lt i.1 le i.2),
    )

pub returns : goal.returns
returns c = λ k h l. c.loop-place.invariant.2 k h (omega (arith, all_passed c.args.s.over c.loop-place.place-iterator c.next.new.self c.loop-place.invariant.0 c.in-None.ensures.steps))
