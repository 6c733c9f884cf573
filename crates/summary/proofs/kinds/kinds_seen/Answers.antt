use Rattle.std.proofs.Common.{◌≡◌, false, length, ap, ◌∙◌, refl, rules}
use Rattle.std.proofs.lemmas.List.{get_or-replicate}
use Rattle.records.specs.Bytes.{rec_at}
use Rattle.records.proofs.Passing.{behind, at_start, none_passed, turn, all_passed, fields_in}
use Rattle.summary.proofs.Marks.{marks_more}
use Rattle.summary.proofs.kinds.kinds_seen.Goals as goal

pub loop-place-init : goal.loop-place-init
loop-place-init c =
    let made = c.places-place-items in
    let it = c.into_iter-place-iterator in
    let none = none_passed c.args.s made.result it.result made.ensures it.ensures.into_iter_gives in
    (at_start c.args.s made.result it.result made.ensures it.ensures.into_iter_gives, λ k h. rw none (get_or-replicate 256 k false false h))

pub loop-place-preserved : goal.loop-place-preserved
loop-place-preserved c =
    let it = c.loop-place.place-iterator in
    let i = c.loop-place.invariant in
    let t = turn c.args.s it c.in-Some.place c.next.new.self i.0 c.in-Some.ensures.steps in
    let p = c.in-Some.place in
    let e = fields_in c.args.s p (rec_at p.over.file.now p.r) t.over refl ∙ ap (λ x. rec_at c.args.s.file.now x) t.is in
    let long : length c.loop-place.seen ≡ 256 = search rules in
    (t.goes_on, λ k h. rw (t.one_more, c.mark_kind.ensures) (marks_more c.args.s.file.now c.loop-place.seen (behind it) (rec_at p.over.file.now p.r) e long i.1 k h))

pub returns : goal.returns
returns c = λ k h. rw (← all_passed c.args.s c.loop-place.place-iterator c.next.new.self c.loop-place.invariant.0 c.in-None.ensures.steps) (c.loop-place.invariant.1 k h)
