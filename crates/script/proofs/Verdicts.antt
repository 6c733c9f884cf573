-- From the stages to the verdict.
use Rattle.std.proofs.Common.{◌≡◌, ℕ, ◌+◌, ◌<◌, ◌≤◌, Bool, true, false, cond, eqb, List, Some, None, Ok, Err, Result, sym, refl, ap, ◌∙◌, subst, inl, inr, arith, lit<, lit≤}
use Rattle.std.proofs.lemmas.Bool.Decides.{nat_tests}
use Rattle.std.proofs.lemmas.Bool.{cases_order, cases_lt, false≢true}
use Rattle.faults.specs.declared.FileFault.{FileFault}
use Rattle.faults.specs.declared.FileFault.TheVariants.{Short, Size, Length, Lent, Link, Linked, Deep, Unlisted, Children, Text}
use Rattle.faults.specs.Numbers.{file_named}
use Rattle.records.specs.declared.bytes.Header.{Header}
use Rattle.records.specs.Bytes.{count}
use Rattle.records.specs.Records.{long_enough, sized, exact, Heads}
use Rattle.rules.specs.First.{First}
use Rattle.rules.specs.Links.{lead_up, linked_once}
use Rattle.rules.specs.Depths.{shallow}
use Rattle.rules.specs.Children.{children_fit}
use Rattle.rules.specs.Rules.{kind_listed, text_inside, Kept}
use Rattle.script.specs.declared.Lengths.{Lengths}
use Rattle.script.specs.Verdict.{lent_for, lent_enough, holds, From, Sought, Before, Verdict, SameAnswer}
use Rattle.script.specs.Stages.{Stages}

-- the fault of a number at a record
abbrev fault_of : ℕ → ℕ → FileFault
fault_of m r = cond (eqb m 1) Short (cond (eqb m 2) Size (cond (eqb m 3) Length (cond (eqb m 4) Lent (cond (eqb m 5) (Link r) (cond (eqb m 6) (Linked r) (cond (eqb m 7) (Deep r) (cond (eqb m 8) (Unlisted r) (cond (eqb m 9) (Children r) (Text r)))))))))

by_number : (a : FileFault) → a ≡ fault_of (file_named a).number (file_named a).at
by_number Short = refl
by_number Size = refl
by_number Length = refl
by_number Lent = refl
by_number (Link r) = refl
by_number (Linked r) = refl
by_number (Deep r) = refl
by_number (Unlisted r) = refl
by_number (Children r) = refl
by_number (Text r) = refl

from_one : (a : FileFault) → 1 ≤ (file_named a).number
from_one Short = lit≤ tt
from_one Size = lit≤ tt
from_one Length = lit≤ tt
from_one Lent = lit≤ tt
from_one (Link r) = lit≤ tt
from_one (Linked r) = lit≤ tt
from_one (Deep r) = lit≤ tt
from_one (Unlisted r) = lit≤ tt
from_one (Children r) = lit≤ tt
from_one (Text r) = lit≤ tt

to_ten : (a : FileFault) → (file_named a).number < 11
to_ten Short = lit< tt
to_ten Size = lit< tt
to_ten Length = lit< tt
to_ten Lent = lit< tt
to_ten (Link r) = lit< tt
to_ten (Linked r) = lit< tt
to_ten (Deep r) = lit< tt
to_ten (Unlisted r) = lit< tt
to_ten (Children r) = lit< tt
to_ten (Text r) = lit< tt

module _ (f : List ℕ) (lent : Lengths) where
  -- the rule that the fault says is broken holds, wherever it is sought
  abbrev Fine : FileFault → Type 0
  Fine a = Sought f a → holds f lent a ≡ true

  -- all rules with numbers below m hold
  abbrev Below : ℕ → Type 0
  Below m = (a : FileFault) → (file_named a).number < m → Fine a

  below_one : Below 1
  below_one a h = absurd (omega (arith, from_one a))

  same_number : (m : ℕ) (a : FileFault) → (file_named a).number ≡ m → Fine (fault_of m (file_named a).at) → Fine a
  same_number m a e p = subst Fine (ap (λ n. fault_of n (file_named a).at) (sym e) ∙ sym (by_number a)) p

  below_more : (m : ℕ) → Below m → ((r : ℕ) → Fine (fault_of m r)) → Below (m + 1)
  below_more m b p a h =
      elim (cases_lt (file_named a).number m) [ inl l ↦ b a l | inr g ↦ same_number m a (omega arith) (p (file_named a).at) ]

  -- nothing before number m at record r is broken
  before : (m r : ℕ) → Below m → ((k : ℕ) → k < r → Fine (fault_of m k)) → (a : FileFault) → Sought f a → Before a m r → holds f lent a ≡ true
  before m r b p a s (inl l) = b a l s
  before m r b p a s (inr q) = same_number m a q.0 (p (file_named a).at q.1) s

  -- the rules of the header
  pub record Header_kept : Type 0 where
    pub long : long_enough f ≡ true
    pub size : sized f ≡ true
    pub length_is : exact f ≡ true

  header_kept : (h : Header) → Heads f h → Header_kept
  header_kept h e =
      let a = e.records_are in
      let b = e.text_is in
      let c = e.some in
      let d = e.few in
      let g = e.brief in
      let i = e.fills in
      record { long = grind (arith, nat_tests, i); size = grind (arith, nat_tests, a, b, c, d, g); length_is = grind (arith, nat_tests, a, b, i) }

  below_two : long_enough f ≡ true → Below 2
  below_two e = below_more 1 below_one (λ r s. e)

  below_three : long_enough f ≡ true → sized f ≡ true → Below 3
  below_three e d = below_more 2 (below_two e) (λ r s. d)

  below_four : Header_kept → Below 4
  below_four h = below_more 3 (below_three h.long h.size) (λ r s. h.length_is)

  lent_is : (h : Header) (b : Bool) → Heads f h → lent_for h.records lent ≡ b → lent_enough f lent ≡ b
  lent_is h b e l = ap (λ n. lent_for n lent) (sym e.records_are) ∙ l

  below_five : (h : Header) → Heads f h → lent_for h.records lent ≡ true → Below 5
  below_five h e l = below_more 4 (below_four (header_kept h e)) (λ r s. lent_is h true e l)

  -- a rule on records that holds of all of them
  all : (rule : ℕ → Bool) (lo : ℕ) (h : Header) → Heads f h → First rule lo h.records None → (r : ℕ) → From lo r (count f) → rule r ≡ true
  all rule lo h e p r s = p r s.low (omega (arith, s.high, e.records_are))

  -- one that is first broken at r
  pub record Broken (rule : ℕ → Bool) (lo r : ℕ) : Type 0 where
    pub here : From lo r (count f)
    pub fails : rule r ≡ false
    pub earlier : (k : ℕ) → k < r → From lo k (count f) → rule k ≡ true

  broken : (rule : ℕ → Bool) (lo : ℕ) (h : Header) → Heads f h → (r : ℕ) → First rule lo h.records (Some r) → Broken rule lo r
  broken rule lo h e r p = record { here = record { low = p.0; high = omega (arith, p.1, e.records_are) }; fails = p.2; earlier = λ k l s. p.3 k s.low l }

  module _ (h : Header) (e : Heads f h) (l : lent_for h.records lent ≡ true) where
    below_six : First (lead_up f) 1 h.records None → Below 6
    below_six a = below_more 5 (below_five h e l) (λ r s. all (lead_up f) 1 h e a r s)

    below_seven : First (lead_up f) 1 h.records None → First (linked_once f) 2 h.records None → Below 7
    below_seven a b = below_more 6 (below_six a) (λ r s. all (linked_once f) 2 h e b r s)

    below_eight : First (lead_up f) 1 h.records None → First (linked_once f) 2 h.records None → First (shallow f) 1 h.records None → Below 8
    below_eight a b c = below_more 7 (below_seven a b) (λ r s. all (shallow f) 1 h e c r s)

    below_nine : First (lead_up f) 1 h.records None → First (linked_once f) 2 h.records None → First (shallow f) 1 h.records None → First (kind_listed f) 1 h.records None → Below 9
    below_nine a b c d = below_more 8 (below_eight a b c) (λ r s. all (kind_listed f) 1 h e d r s)

    below_ten : First (lead_up f) 1 h.records None → First (linked_once f) 2 h.records None → First (shallow f) 1 h.records None → First (kind_listed f) 1 h.records None → First (children_fit f) 1 h.records None → Below 10
    below_ten a b c d g = below_more 9 (below_nine a b c d) (λ r s. all (children_fit f) 1 h e g r s)

    below_eleven : Kept f h.records → Below 11
    below_eleven k = below_more 10 (below_ten k.links k.once k.shallows k.kinds k.children) (λ r s. all (text_inside f) 1 h e k.texts r s)

  pub verdict : (r : Result Header FileFault) → Stages f lent r → Verdict f lent r
  verdict (Ok h) p = λ a s. below_eleven h p.0.heads p.1 p.0.kept a (to_ten a) s
  verdict (Err Short) p = (tt, p, before 1 0 below_one (λ k l. absurd (omega arith)))
  verdict (Err Size) p = (tt, p.1, before 2 0 (below_two p.0) (λ k l. absurd (omega arith)))
  verdict (Err Length) p = (tt, p.2, before 3 0 (below_three p.0 p.1) (λ k l. absurd (omega arith)))
  verdict (Err Lent) p = (tt, lent_is p.header false p.heads p.lent_few, before 4 0 (below_four (header_kept p.header p.heads)) (λ k l. absurd (omega arith)))
  verdict (Err (Link r)) p =
      let b = broken (lead_up f) 1 p.header p.heads r p.broken in
      (b.here, b.fails, before 5 r (below_five p.header p.heads p.lent_all) (λ k l s. b.earlier k l s))
  verdict (Err (Linked r)) p =
      let q = p.broken in
      let b = broken (linked_once f) 2 p.header p.heads r q.1 in
      (b.here, b.fails, before 6 r (below_six p.header p.heads p.lent_all q.0) (λ k l s. b.earlier k l s))
  verdict (Err (Deep r)) p =
      let q = p.broken in
      let b = broken (shallow f) 1 p.header p.heads r q.2 in
      (b.here, b.fails, before 7 r (below_seven p.header p.heads p.lent_all q.0 q.1) (λ k l s. b.earlier k l s))
  verdict (Err (Unlisted r)) p =
      let q = p.broken in
      let b = broken (kind_listed f) 1 p.header p.heads r q.3 in
      (b.here, b.fails, before 8 r (below_eight p.header p.heads p.lent_all q.0 q.1 q.2) (λ k l s. b.earlier k l s))
  verdict (Err (Children r)) p =
      let q = p.broken in
      let b = broken (children_fit f) 1 p.header p.heads r q.4 in
      (b.here, b.fails, before 9 r (below_nine p.header p.heads p.lent_all q.0 q.1 q.2 q.3) (λ k l s. b.earlier k l s))
  verdict (Err (Text r)) p =
      let q = p.broken in
      let b = broken (text_inside f) 1 p.header p.heads r q.5 in
      (b.here, b.fails, before 10 r (below_ten p.header p.heads p.lent_all q.0 q.1 q.2 q.3 q.4) (λ k l s. b.earlier k l s))

  -- no fault is both broken and not
  clash : (e : FileFault) → holds f lent e ≡ false → holds f lent e ≡ true → ⊥
  clash e a b = false≢true (sym a ∙ b)

  same_fault : (e d : FileFault) → (file_named e).number ≡ (file_named d).number → (file_named e).at ≡ (file_named d).at → e ≡ d
  same_fault e d n r = by_number e ∙ ap (λ m. fault_of m (file_named e).at) n ∙ ap (fault_of (file_named d).number) r ∙ sym (by_number d)

  pub only : (r q : Result Header FileFault) → Verdict f lent r → Verdict f lent q → SameAnswer r q
  only (Ok h) (Ok g) p s = tt
  only (Ok h) (Err e) p s = clash e s.1 (p e s.0)
  only (Err e) (Ok g) p s = clash e p.1 (s e p.0)
  only (Err e) (Err d) p s =
      elim (cases_order (file_named e).number (file_named d).number) [
        | inl n ↦ (
            elim (cases_order (file_named e).at (file_named d).at) [
              | inl r ↦ same_fault e d n r
              | inr r ↦ elim r [
                | inl l ↦ absurd (clash e p.1 (s.2 e p.0 (inr (n, l))))
                | inr g ↦ absurd (clash d s.1 (p.2 d s.0 (inr (sym n, g))))
              ]
            ])
        | inr c ↦ elim c [
          | inl l ↦ absurd (clash e p.1 (s.2 e p.0 (inl l)))
          | inr g ↦ absurd (clash d s.1 (p.2 d s.0 (inl g)))
        ]
      ]
