use Rattle.std.proofs.Common.{rules}
use Rattle.std.proofs.lemmas.List.{get_or-replicate}
use Rattle.records.proofs.Passing.{behind, at_start, none_passed, turn, all_passed, fields_in}
use Rattle.rules.proofs.Counts.{counts_more}
use Rattle.rules.proofs.links.count_links.Goals as goal

pub loop-place-init : goal.loop-place-init
loop-place-init c =
    let made = c.places-place-items in
    let it = c.into_iter-place-iterator in
    let none = none_passed c.args.s.over made.result it.result made.ensures it.ensures.into_iter_gives in
    (at_start c.args.s.over made.result it.result made.ensures it.ensures.into_iter_gives, λ k h. rw none (get_or-replicate 2048 k 0 0 h))

pub loop-place-preserved : goal.loop-place-preserved
loop-place-preserved c =
    let it = c.loop-place.place-iterator in
    let i = c.loop-place.invariant in
    let t = turn c.args.s.over it c.in-Some.place c.next.new.self i.0 c.in-Some.ensures.steps in
    let e = fields_in c.args.s.over c.in-Some.place c.fields-rec.result t.over c.fields-rec.ensures in
    (t.goes_on, λ k h. rw t.one_more (counts_more c.args.s.over.file.now c.loop-place.counts c.count_link.new.counts c.count_link-in-loop-place.new.counts (behind it) c.fields-rec.result (rw (← t.is) e) (search rules) (search rules) c.count_link.ensures c.count_link-in-loop-place.ensures i.1 k h))

pub returns : goal.returns
returns c = λ k h. rw (← all_passed c.args.s.over c.loop-place.place-iterator c.next.new.self c.loop-place.invariant.0 c.in-None.ensures.steps) (c.loop-place.invariant.1 k h)
