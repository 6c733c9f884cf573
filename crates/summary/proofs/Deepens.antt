-- Which of the records passed so far stands deepest.
use Rattle.std.proofs.Common.{◌≡◌, ℕ, ◌+◌, ◌<◌, ◌≤◌, true, false, cond, ltb, List, refl, inl, inr, arith}
use Rattle.std.proofs.lemmas.Bool.Decides.{nat_tests}
use Rattle.std.proofs.lemmas.Bool.{cases_eq, cases_lt}
use Rattle.rules.specs.Depths.{depth, shallow}
use Rattle.summary.specs.declared.deepest.Level.{Level}

pub not_deep : (f : List ℕ) (r : ℕ) → shallow f r ≡ true → depth f r ≤ 64
not_deep f r e = grind (arith, nat_tests, e)

-- the deepest place of those up to r, in a file of n records; the first of them counts from the start
pub record Best (f : List ℕ) (n r : ℕ) (p : Level) : Type 0 where
  pub from : 1 ≤ p.at
  pub within : p.at ≤ n
  pub here : p.depth ≡ depth f p.at
  pub most : (k : ℕ) → 1 ≤ k → k ≤ r → depth f k ≤ p.depth
  pub lowest : (k : ℕ) → 1 ≤ k → k < p.at → depth f k < p.depth

pub best_start : (f : List ℕ) (n : ℕ) → 1 ≤ n → Best f n 0 (record { at = 1; depth = 1 })
best_start f n h = record { from = omega arith; within = h; here = refl; most = λ k a b. absurd (omega arith); lowest = λ k a b. absurd (omega arith) }

-- depths up to r + 1 are bounded by what bounds those up to r and the last
one_more : (f : List ℕ) (r d : ℕ) → ((k : ℕ) → 1 ≤ k → k ≤ r → depth f k ≤ d) → depth f (r + 1) ≤ d → (k : ℕ) → 1 ≤ k → k ≤ r + 1 → depth f k ≤ d
one_more f r d i h k a b = elim (cases_eq k (r + 1)) [ inl e ↦ rw e h | inr ne ↦ i k a (omega arith) ]

above : (f : List ℕ) (n r : ℕ) (one two : Level) → r + 1 ≤ n → two.at ≡ r + 1 → two.depth ≡ depth f (r + 1) → one.depth < two.depth → Best f n r one → Best f n (r + 1) two
above f n r one two h a d l i = record {
  from = omega arith;
  within = omega arith;
  here = rw a d;
  most = one_more f r two.depth (λ k u v. omega (arith, i.most k u v)) (omega arith);
  lowest = λ k u v. omega (arith, i.most k u (omega arith));
}

below : (f : List ℕ) (n r : ℕ) (one two : Level) → two.depth ≡ depth f (r + 1) → two.depth ≤ one.depth → Best f n r one → Best f n (r + 1) one
below f n r one two d g i = record {
  from = i.from;
  within = i.within;
  here = i.here;
  most = one_more f r one.depth i.most (omega arith);
  lowest = i.lowest;
}

-- the next place takes over only where it is deeper
pub best_more : (f : List ℕ) (n r : ℕ) (one two p : Level) → r + 1 ≤ n → two.at ≡ r + 1 → two.depth ≡ depth f (r + 1) → p ≡ cond (ltb one.depth two.depth) two one → Best f n r one → Best f n (r + 1) p
best_more f n r one two p h a d e i =
    elim (cases_lt one.depth two.depth) [
      | inl l ↦ (let t : ltb one.depth two.depth ≡ true = grind (arith, nat_tests) in rw (e, t) (above f n r one two h a d l i))
      | inr g ↦ (let t : ltb one.depth two.depth ≡ false = grind (arith, nat_tests) in rw (e, t) (below f n r one two d g i))
    ]
