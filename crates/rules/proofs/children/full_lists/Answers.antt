use Rattle.std.proofs.Common.{false, ◌||◌, get_or, ap, ◌∙◌}
use Rattle.std.proofs.lemmas.List.{get_or-replicate}
use Rattle.records.proofs.Passing.{behind, at_start, none_passed, turn, all_passed}
use Rattle.records.specs.declared.opened.Opened.{Opened}
use Rattle.records.specs.Trees.{kind_tree}
use Rattle.rules.specs.Children.{wants}
use Rattle.rules.proofs.Marks.{marks_more}
use Rattle.rules.proofs.children.full_lists.Goals as goal

pub loop-place-init : goal.loop-place-init
loop-place-init c =
    let made = c.places-place-items in
    let it = c.into_iter-place-iterator in
    let none = none_passed c.args.s made.result it.result made.ensures it.ensures.into_iter_gives in
    (at_start c.args.s made.result it.result made.ensures it.ensures.into_iter_gives, λ k h. rw none (get_or-replicate 2048 k false false h))

pub loop-place-preserved : goal.loop-place-preserved
loop-place-preserved c =
    let it = c.loop-place.place-iterator in
    let i = c.loop-place.invariant in
    let t = turn c.args.s it c.in-Some.place c.next.new.self i.0 c.in-Some.ensures.steps in
    (t.goes_on, λ k h. rw t.one_more (marks_more c.args.s.file.now c.loop-place.marks c.mark_owned.new.marks (behind it) k (i.1 k h) (rw (← t.is) (c.mark_owned.ensures k h ∙ ap (λ (o : Opened). get_or c.loop-place.marks k false || wants k (kind_tree o.file.now c.in-Some.place.r)) t.over))))

pub returns : goal.returns
returns c = λ k h. rw (← all_passed c.args.s c.loop-place.place-iterator c.next.new.self c.loop-place.invariant.0 c.in-None.ensures.steps) (c.loop-place.invariant.1 k h)
