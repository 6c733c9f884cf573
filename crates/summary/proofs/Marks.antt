-- Kind numbers, marked and counted.
use Rattle.std.proofs.Common.{◌≡◌, ℕ, zero, suc, ◌+◌, ◌<◌, Bool, true, false, cond, ◌||◌, eqb, List, [], ◌∷◌, length, get_or, set, sym, refl, ap, ◌∙◌, add-one, arith}
use Rattle.std.specs.List.{count_by}
use Rattle.std.proofs.lemmas.List.Sums.{sum_by-cons}
use Rattle.std.proofs.lemmas.List.{get_or-set_same, get_or-set_other}
use Rattle.std.proofs.lemmas.Bool.Decides.{nat_tests}
use Rattle.std.proofs.lemmas.Bool.{cases_eq}
use Rattle.records.specs.Bytes.{count, rec_at}
use Rattle.records.specs.declared.bytes.Rec.{Rec}
use Rattle.summary.specs.Summaries.{appears, passing, kind_count}

marked_at : (seen : List Bool) (i k : ℕ) → k < length seen → get_or (set seen i true) k false ≡ (get_or seen k false || eqb i k)
marked_at seen i k h = grind (arith, nat_tests, get_or-set_same, get_or-set_other, cases_eq k i)

-- the marks once the records up to r are passed
abbrev pub Marks : List ℕ → ℕ → List Bool → Type 0
Marks f r seen = (k : ℕ) → k < 256 → get_or seen k false ≡ appears f r k

pub marks_more : (f : List ℕ) (seen : List Bool) (r : ℕ) (rec : Rec) → rec ≡ rec_at f (r + 1) → length seen ≡ 256 → Marks f r seen → Marks f (r + 1) (set seen rec.kind true)
marks_more f seen r rec e long inv k hk =
    let e' : rec ≡ rec_at f (suc r) = rw add-one at e in
    let m = marked_at seen rec.kind k (omega (arith, long)) in
    rw (add-one, ← e', ← inv k hk) m

-- the first number tested before the others
passing_first : (test : ℕ → Bool) (m : ℕ) → passing test (suc m) ≡ cond (test 0) 1 0 + passing (λ k. test (suc k)) m
unfolding passing
passing_first test zero = omega arith
passing_first test (suc m) = let p = passing_first test m in omega (arith, p)

passing_none : (test : ℕ → Bool) → passing test 0 ≡ 0
unfolding passing
passing_none test = refl

-- the marks of a list, counted
counted : (seen : List Bool) → count_by (λ b. b) seen ≡ passing (λ k. get_or seen k false) (length seen)
counted [] = sym (passing_none (λ k. get_or [] k false))
counted (b ∷ seen) = sum_by-cons (λ x. cond x 1 0) b seen ∙ ap (λ n. cond b 1 0 + n) (counted seen) ∙ sym (passing_first (λ k. get_or (b ∷ seen) k false) (length seen))

-- alike below m
passing_same : (one two : ℕ → Bool) (m : ℕ) → ((k : ℕ) → k < m → one k ≡ two k) → passing one m ≡ passing two m
unfolding passing
passing_same one two zero h = refl
passing_same one two (suc m) h =
    let p = passing_same one two m (λ k l. h k (omega arith)) in
    let q : one m ≡ two m = h m (omega arith) in
    rw (p, q) refl

pub kinds_counted : (f : List ℕ) (n c : ℕ) (seen : List Bool) → n ≡ count f → length seen ≡ 256 → Marks f n seen → c ≡ count_by (λ b. b) seen → c ≡ kind_count f
unfolding kind_count
kinds_counted f n c seen en len inv e =
    e ∙ counted seen ∙ ap (passing (λ k. get_or seen k false)) len ∙ passing_same (λ k. get_or seen k false) (appears f n) 256 inv ∙ ap (λ x. passing (appears f x) 256) en
