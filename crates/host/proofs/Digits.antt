-- What the kit's decoder says of a text, in this crate's words.
use Rattle.std.proofs.Common.{◌≡◌, ℕ, suc, zero, ◌+◌, ◌*◌, ◌/◌, ◌%◌, ◌<◌, inl, inr, false, List, [], ◌∷◌, length, slice_index, Option, Some, None, Result, Ok, Err, is_some, refl, sym, ap, ◌∙◌, arith}
use Rattle.std.specs.Prelude.{MatchResult, MatchOption}
use Rattle.std.specs.Result.{result_ok, result_unwrap_or}
use Rattle.std.proofs.lemmas.Bool.{cases_eq}
use Rattle.std.proofs.lemmas.Bool.Decides.{nat_tests}
use Rattle.hex.specs.Hex.{decode_of, decode_pairs, decode_sized, digit_or_error, hex_digit_value, pair_value, value_at, ◌>>=◌}
use Rattle.hex.specs.declared.error.FromHexError.{FromHexError}
use Rattle.hex.proofs.HexLemmas.{decode_of-err, decode_of-even, decode_sized-odd, decode_sized-twice, decode_pairs-ok}
use Rattle.host.specs.Hex.{digit_of, Pair, Pairs, NoPairs}

same_digit : (c : ℕ) → hex_digit_value c ≡ digit_of c
same_digit c = grind (arith, nat_tests)

-- what a step that gave a value shows
bind_ok : {A B : Type 0} (r : Result A FromHexError) (f : A → Result B FromHexError) (y : B) → (r >>= f) ≡ Ok y → (x : A) × (r ≡ Ok x) × (f x ≡ Ok y)
bind_ok (Ok x) f y h = (x, refl, h)
bind_ok (Err e) f y h = cc h

-- a digit that was read
read : (c i : ℕ) (o : Option ℕ) (v : ℕ) → digit_or_error c i o ≡ Ok v → o ≡ Some v
read c i (Some w) v h = cc h
read c i None v h = cc h

-- a pair of digits that was read
pair : (a b i v : ℕ) (rest : List ℕ) → pair_value a b i ≡ Ok v → Pair (a ∷ b ∷ rest) 0 v
pair a b i v rest h =
    let high = bind_ok (value_at a i) _ v h in
    let low = bind_ok (value_at b (i + 1)) _ v high.2 in
    let byte : high.0 * 16 + low.0 ≡ v = ap (λ (r : Result ℕ FromHexError). result_unwrap_or r 0) low.2 in
    record {
      high = high.0;
      low = low.0;
      high_is = sym (same_digit a) ∙ read a i (hex_digit_value a) high.0 high.1;
      low_is = sym (same_digit b) ∙ read b (i + 1) (hex_digit_value b) low.0 low.1;
      value = omega (arith, byte);
    }

-- a pair that stands two places further on
further : (a b k v : ℕ) (rest : List ℕ) → Pair rest k v → Pair (a ∷ b ∷ rest) (suc k) v
further a b k v rest p =
    let two : 2 * suc k ≡ suc (suc (2 * k)) = omega arith in
    let three : 2 * suc k + 1 ≡ suc (suc (2 * k + 1)) = omega arith in
    record {
      high = p.high;
      low = p.low;
      high_is = ap (λ (n : ℕ). digit_of (slice_index (a ∷ b ∷ rest) n)) two ∙ p.high_is;
      low_is = ap (λ (n : ℕ). digit_of (slice_index (a ∷ b ∷ rest) n)) three ∙ p.low_is;
      value = p.value;
    }

-- each byte of a text that was decoded is its pair of digits
pairs : (i : ℕ) (text bytes : List ℕ) → decode_pairs i text ≡ Ok bytes → (k : ℕ) → k < length bytes → Pair text k (slice_index bytes k)
unfolding decode_pairs
pairs i [] bytes h k less =
    let none : [] ≡ bytes = ap (λ (r : Result (List ℕ) FromHexError). result_unwrap_or r []) h in
    absurd (omega (arith, ap length none))
pairs i (a ∷ []) bytes h k less = cc h
pairs i (a ∷ b ∷ rest) bytes h k less =
    let first = bind_ok (pair_value a b i) _ bytes h in
    let others = bind_ok (decode_pairs (i + 2) rest) _ bytes first.2 in
    let all : first.0 ∷ others.0 ≡ bytes = ap (λ (r : Result (List ℕ) FromHexError). result_unwrap_or r []) others.2 in
    rw (← all) (at_place a b rest first.0 others.0 k (omega (arith, ap length all)) (pair a b i first.0 rest first.1) (λ m small. pairs (i + 2) rest others.0 others.1 m small))
  where
    at_place : (a b : ℕ) (rest : List ℕ) (v : ℕ) (vs : List ℕ) (k : ℕ) → k < length vs + 1 → Pair (a ∷ b ∷ rest) 0 v → ((m : ℕ) → m < length vs → Pair rest m (slice_index vs m)) → Pair (a ∷ b ∷ rest) k (slice_index (v ∷ vs) k)
    at_place a b rest v vs zero less here later = here
    at_place a b rest v vs (suc k) less here later = further a b k (slice_index vs k) rest (later k (omega arith))

-- a text of even length that was refused has a byte that is no digit
no_digit : (text : List ℕ) (e : FromHexError) → decode_of text ≡ Err e → NoPairs text
no_digit text e h =
    elim (decode_of-err text e h) [
      | inl odd ↦ inl odd.0
      | inr at ↦ inr (at.0, at.2, sym (same_digit (slice_index text at.0)) ∙ none (hex_digit_value (slice_index text at.0)) at.3)
    ]
  where
    none : (o : Option ℕ) → is_some o ≡ false → o ≡ None
    none (Some v) h = cc h
    none None h = refl

-- the answer to a text of even length, or of odd length
pub decoded : (text out : List ℕ) (n : ℕ) (r : Result Unit FromHexError) → n ≡ length text / 2 → MatchResult (decode_sized text n) (λ bytes. (r ≡ Ok tt) × (out ≡ bytes)) (λ e. r ≡ Err e) → MatchOption (result_ok r) (NoPairs text) (λ _. Pairs text out)
decoded text out n r half h =
    elim (cases_eq (length text % 2) 1) [
      | inl odd ↦ let refused = rw (decode_sized-odd text n odd) at h in rw refused (inl odd)
      | inr even ↦
          let same = decode_sized-twice text n (omega arith) ∙ decode_of-even text (omega arith) in
          answer (decode_pairs 0 text) (λ bytes all. (sym (decode_pairs-ok 0 text bytes all).1, pairs 0 text bytes all)) (λ e all. no_digit text e (decode_of-even text (omega arith) ∙ all)) (rw same at h)
    ]
  where
    answer : (d : Result (List ℕ) FromHexError) → ((bytes : List ℕ) → d ≡ Ok bytes → Pairs text bytes) → ((e : FromHexError) → d ≡ Err e → NoPairs text)
        → MatchResult d (λ bytes. (r ≡ Ok tt) × (out ≡ bytes)) (λ e. r ≡ Err e) → MatchOption (result_ok r) (NoPairs text) (λ _. Pairs text out)
    answer (Ok bytes) good bad h = rw (h.0, h.1) (good bytes refl)
    answer (Err e) good bad h = rw h (bad e refl)
