-- One more record that keeps a rule.
use Rattle.std.proofs.Common.{◌≡◌, ℕ, ◌+◌, ◌<◌, ◌≤◌, Bool, true, List, Option, inl, inr, arith, ◌∙◌, sym, ap, subst}
use Rattle.std.proofs.lemmas.Bool.{cases_eq}
use Rattle.records.specs.declared.opened.Opened.{Opened}
use Rattle.records.specs.declared.place.Places.{Places}
use Rattle.rules.specs.First.{First}

pub keeps_more : (holds : ℕ → Bool) (from next r : ℕ) → r ≡ next → holds r ≡ true → ((k : ℕ) → from ≤ k → k < next → holds k ≡ true) → (k : ℕ) → from ≤ k → k < next + 1 → holds k ≡ true
keeps_more holds from next r e here below k a b =
    elim (cases_eq k r) [
      | inl q ↦ (rw q here)
      | inr q ↦ below k a (omega (arith, e))
    ]

-- what a rule says of a record of one and the same file
pub at_over : (says : List ℕ → ℕ → Bool) (o s : Opened) (r : ℕ) (b : Bool) → o ≡ s → b ≡ says o.file.now r → says s.file.now r ≡ b
at_over says o s r b e h = ap (λ (x : Opened). says x.file.now r) (sym e) ∙ sym h

-- a run over the records of a file from a number on
pub run_over : (s : Opened) (lo : ℕ) (t : Places) (holds : ℕ → Bool) (r : Option ℕ) → t.over ≡ s → t.next ≡ lo → First holds t.next t.over.n r → First holds lo s.n r
run_over s lo t holds r e n h = subst (λ x. First holds x s.n r) n (subst (λ (o : Opened). First holds t.next o.n r) e h)
