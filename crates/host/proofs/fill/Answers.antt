use Rattle.std.proofs.Common.{◌≡◌, ℕ, ◌+◌, ◌-◌, ◌≤◌, List, ◌++◌, length, take, sym, ap, ◌∙◌, subst, rules, length-take-le}
use Rattle.std.proofs.Math.Seq.{take-append-add}
use Rattle.std.proofs.lemmas.List.{take-append-le}
use Rattle.std.specs.Io.KnownBytes.{Consumes}
use Rattle.std.proofs.KnownBytes.{Consumes-trans}
use borrow.Rule.Slice.PartMut.{post_of}
use Rattle.host.proofs.fill.Goals as goal

-- a buffer whose part from `at` on was read into: what stood before, and then the n bytes that came
read_into : (at n : ℕ) (xs part rest : List ℕ) → at ≤ length xs → n ≤ length part → take (at + n) (take at xs ++ (part ++ rest)) ≡ take at xs ++ take n part
read_into at n xs part rest within came =
    subst (λ (i : ℕ). take (i + n) (take at xs ++ (part ++ rest)) ≡ take at xs ++ take n part) (length-take-le at xs within)
    (take-append-add (take at xs) (part ++ rest) n ∙ ap (λ (ys : List ℕ). take at xs ++ ys) (take-append-le n part rest came))

pub loop-len-preserved : goal.loop-len-preserved
loop-len-preserved g c =
    let xs = c.loop-len.buf in
    let at = c.loop-len.len in
    let i = c.loop-len.invariant in
    let e = c.in_ok-got.ensures in
    let filled = read_into at c.in_ok-got.got xs c.read.new.buf (post_of at (length xs - at) xs) i.0 e.bound.0 in
    (search rules, subst (Consumes _ _) (sym filled) (Consumes-trans _ _ _ _ _ i.1 e.bytes.0))
