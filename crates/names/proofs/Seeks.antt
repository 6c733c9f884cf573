-- The latest slot that has a word, and the list of what the slots stand for.
use Rattle.std.proofs.Common.{◌≡◌, ℕ, zero, suc, ◌+◌, ◌-◌, ◌<◌, ◌≤◌, Bool, true, false, cond, List, [], ◌∷◌, ◌++◌, refl, length, get_or, Some, None, Option, MatchOption, ap, sym, ◌∙◌, inl, inr, arith}
use Rattle.std.specs.List.{slice_range}
use Rattle.std.proofs.lemmas.List.{places}
use Rattle.std.specs.Option.{option_map}
use Rattle.std.proofs.lemmas.Bool.{cases_eq, cases_lt}
use Rattle.names.specs.declared.name.Name.{Name}
use Rattle.names.specs.declared.name.Meaning.{Meaning}
use Rattle.std.specs.Str.{bytes_eq}
use Rattle.names.specs.declared.name.Mark.{Mark}
use Rattle.names.specs.Scopes.{Binding, seek, or_else, predeclared, meaning, bindings, env_of, no_name, slot_is, Latest, LatestAt}
use Rattle.names.proofs.Laws.{bindings_none, bindings_more, bindings_split}

-- what the slot that was found means
abbrev pub means_at : List Name → Option ℕ → Option Meaning
means_at names o = option_map (λ i. (get_or names i no_name).means) o

module _ (f : List ℕ) (names : List Name) (lo : ℕ) (w : List ℕ) where
  hit : (i : ℕ) → lo ≤ i → slot_is f names w i ≡ true → seek w (bindings f names lo (suc i)) ≡ Some (get_or names i no_name).means
  hit i h e = let b = bindings_more f names lo i h in rw (b, e)

  miss : (i : ℕ) → lo ≤ i → slot_is f names w i ≡ false → seek w (bindings f names lo (suc i)) ≡ seek w (bindings f names lo i)
  miss i h e = let b = bindings_more f names lo i h in rw (b, e)

  end : (hi : ℕ) → hi ≤ lo → seek w (bindings f names lo hi) ≡ None
  end hi h = let b = bindings_none f names lo hi h in rw b

  none_seeks : (hi : ℕ) → ((k : ℕ) → lo ≤ k → k < hi → slot_is f names w k ≡ false) → seek w (bindings f names lo hi) ≡ None
  none_seeks zero h = end zero (omega arith)
  none_seeks (suc i) h = elim (cases_lt i lo) [
    | inl l ↦ end (suc i) (omega arith)
    | inr l ↦ miss i l (h i l (omega arith)) ∙ none_seeks i (λ k a b. h k a (omega arith))
  ]

  some_seeks : (hi i : ℕ) → LatestAt f names lo hi w i → seek w (bindings f names lo hi) ≡ Some (get_or names i no_name).means
  some_seeks zero i h = absurd (omega arith)
  some_seeks (suc j) i h = elim (cases_eq i j) [
    | inl e ↦ (let g = h.has in let l = h.from in rw (← e) (hit i l g))
    | inr e ↦ (let l : i < j = omega arith in
        miss j (omega arith) (h.after j l (omega arith)) ∙ some_seeks j i (record { from = h.from; within = l; has = h.has; after = λ k a b. h.after k a (omega arith) }))
  ]

  pub latest_seeks : (hi : ℕ) (o : Option ℕ) → Latest f names lo hi w o → means_at names o ≡ seek w (bindings f names lo hi)
  latest_seeks hi None h = sym (none_seeks hi h)
  latest_seeks hi (Some i) h = sym (some_seeks hi i h)

-- the latest slot of a part of the list
module _ (f : List ℕ) (names part : List Name) (lo hi : ℕ) (w : List ℕ) (is : part ≡ slice_range names lo hi) (long : length part + lo ≡ hi) where
  at : (j : ℕ) → j < length part → slot_is f part w j ≡ slot_is f names w (lo + j)
  at j h = let e : get_or part j no_name ≡ get_or names (lo + j) no_name = grind (arith, places) in rw e

  back : (k : ℕ) → lo ≤ k → k < hi → slot_is f part w (k - lo) ≡ slot_is f names w k
  back k a b = let e : lo + (k - lo) ≡ k = omega arith in at (k - lo) (omega arith) ∙ ap (slot_is f names w) e

  pub shifted : (o r : Option ℕ) → Latest f part 0 (length part) w o → MatchOption o (r ≡ None) (λ i. r ≡ Some (lo + i)) → Latest f names lo hi w r
  shifted None r h e = rw e (λ k a b. sym (back k a b) ∙ h (k - lo) (omega arith) (omega arith))
  shifted (Some i) r h e = rw e (record { from = omega arith; within = omega (arith, h.within); has = sym (at i h.within) ∙ h.has; after = λ k a b. sym (back k (omega arith) b) ∙ h.after (k - lo) (omega arith) (omega arith) })

-- a word's meaning in one list after another
seek_append : (w : List ℕ) (bs cs : List Binding) → seek w (bs ++ cs) ≡ or_else (seek w bs) (seek w cs)
seek_append w [] cs = refl
seek_append w (b ∷ bs) cs = first (bytes_eq b.word w) _ _ _ _ (seek_append w bs cs)
  where
    first : (t : Bool) (m : Meaning) (o p q : Option Meaning) → o ≡ or_else p q → cond t (Some m) o ≡ or_else (cond t (Some m) p) q
    first true m o p q e = refl
    first false m o p q e = e

in_turn : (a b d : Option Meaning) → or_else (or_else a b) d ≡ or_else a (or_else b d)
in_turn None b d = refl
in_turn (Some m) b d = refl

-- the latest of all slots has what the innermost scope has
pub innermost : (f : List ℕ) (names : List Name) (m : Mark) (w : List ℕ) → m.floor ≤ m.top → meaning w (env_of f names m) ≡ or_else (seek w (bindings f names 0 m.top)) (predeclared w)
innermost f names m w h =
    let s = bindings_split f names m.floor m.top h in
    let a = seek_append w (bindings f names m.floor m.top) (bindings f names 0 m.floor) in
    rw (s, a) (sym (in_turn (seek w (bindings f names m.floor m.top)) (seek w (bindings f names 0 m.floor)) (predeclared w)))
