-- What the slots stand for, as the list and its mark change.
use Rattle.std.proofs.Common.{◌≡◌, ℕ, zero, suc, ◌+◌, ◌<◌, ◌≤◌, true, false, ltb, leb, List, [], ◌∷◌, ◌++◌, length, get_or, set, sym, refl, ap, ◌∙◌, inl, inr, add-one, arith, length-append, length-set}
use Rattle.std.proofs.lemmas.List.{get_or-set_same, get_or-set_other}
use Rattle.std.proofs.lemmas.Bool.{cases_eq}
use Rattle.std.proofs.lemmas.Bool.Decides.{nat_tests}
use Rattle.names.specs.declared.name.Mark.{Mark}
use Rattle.names.specs.declared.name.Name.{Name}
use Rattle.names.specs.Scopes.{Binding, enter_at, count, most_names, most_slots, join, word_of, binding_of, no_name, bindings, env_of, opened, moved, Sound, Frame}

at_most : (a b : ℕ) → a ≤ b → leb a b ≡ true
at_most a b h = grind (arith, nat_tests)

more_than : (a b : ℕ) → b < a → leb a b ≡ false
more_than a b h = grind (arith, nat_tests)

module _ (f : List ℕ) (names : List Name) (lo : ℕ) where
  pub bindings_none : (hi : ℕ) → hi ≤ lo → bindings f names lo hi ≡ []
  unfolding bindings
  bindings_none zero h = refl
  bindings_none (suc i) h = let e = more_than lo i (omega arith) in rw e

  pub bindings_more : (i : ℕ) → lo ≤ i → bindings f names lo (suc i) ≡ binding_of f (get_or names i no_name) ∷ bindings f names lo i
  unfolding bindings
  bindings_more i h = let e = at_most lo i h in rw e

-- the slots from lo on, and those before it
pub bindings_split : (f : List ℕ) (names : List Name) (lo hi : ℕ) → lo ≤ hi → bindings f names 0 hi ≡ bindings f names lo hi ++ bindings f names 0 lo
bindings_split f names zero zero h = let z = bindings_none f names 0 0 (omega arith) in rw z
bindings_split f names (suc lo) zero h = absurd (omega arith)
bindings_split f names lo (suc i) h = elim (cases_eq lo (suc i)) [
  | inl e ↦ (let z = bindings_none f names (suc i) (suc i) (omega arith) in rw (e, z))
  | inr e ↦ (let l : lo ≤ i = omega arith in
      bindings_more f names 0 i (omega arith)
      ∙ ap (λ (bs : List Binding). binding_of f (get_or names i no_name) ∷ bs) (bindings_split f names lo i l)
      ∙ sym (ap (λ (bs : List Binding). bs ++ bindings f names 0 lo) (bindings_more f names lo i l)))
]

-- slots that are the same stand for the same
pub bindings_same : (f : List ℕ) (names names' : List Name) (lo hi : ℕ) → ((k : ℕ) → k < hi → get_or names' k no_name ≡ get_or names k no_name) → bindings f names' lo hi ≡ bindings f names lo hi
unfolding bindings
bindings_same f names names' lo zero h = refl
bindings_same f names names' lo (suc i) h =
    let e = h i (omega arith) in
    let s = bindings_same f names names' lo i (λ k l. h k (omega arith)) in
    rw (e, s)

pub length_bindings : (f : List ℕ) (names : List Name) (hi : ℕ) → length (bindings f names 0 hi) ≡ hi
length_bindings f names zero = let z = bindings_none f names 0 0 (omega arith) in rw z
length_bindings f names (suc i) = let e = bindings_more f names 0 i (omega arith) in let ih = length_bindings f names i in rw (e, ih)

module _ (f : List ℕ) (names : List Name) (m : Mark) (sound : m.floor ≤ m.top) where
  -- with the six, a name for each slot in use
  pub counted : count (env_of f names m) ≡ 6 + m.top
  counted =
      let s = ap length (bindings_split f names m.floor m.top sound) in
      let a = length-append (bindings f names m.floor m.top) (bindings f names 0 m.floor) in
      let l = length_bindings f names m.top in
      omega arith

  -- there is a slot for one more exactly where one more may be in scope
  pub room_counts : ltb m.top most_slots ≡ ltb (count (env_of f names m)) most_names
  room_counts = rw counted (grind (arith, nat_tests))

  -- a scope that is entered
  pub entered : (p : ℕ) → env_of f names (opened p m) ≡ enter_at p (env_of f names m)
  entered p = let z = bindings_none f names m.top m.top (omega arith) in let s = bindings_split f names m.floor m.top sound in rw (z, s)

  -- the old mark, where the slots below its top are as they were
  pub cut_back : (names' : List Name) → ((k : ℕ) → k < m.top → get_or names' k no_name ≡ get_or names k no_name) → env_of f names' m ≡ env_of f names m
  cut_back names' h =
      let a = bindings_same f names names' m.floor m.top h in
      let b = bindings_same f names names' 0 m.floor (λ k l. h k (omega arith)) in
      rw (a, b)

  -- a scope that is left: whatever was added in it, the mark is back
  pub left : (p : ℕ) (names' : List Name) (m' back : Mark) → back ≡ m → Frame names (opened p m) names' m' → env_of f names' back ≡ env_of f names m
  left p names' m' back e frame = rw e (cut_back names' frame.below)

-- so there are never more than may be
pub most : (f : List ℕ) (names : List Name) (m : Mark) → Sound names m → count (env_of f names m) ≤ most_names
most f names m sound = let e = counted f names m sound.floor in omega arith

-- nothing was added; what was added and then more; a scope that was entered and left
pub frame_same : (names : List Name) (m : Mark) → Frame names m names m
frame_same names m = record { top = omega arith; floor = refl; below = λ k l. refl }

pub frame_then : (names names' names'' : List Name) (m m' m'' : Mark) → Frame names m names' m' → Frame names' m' names'' m'' → Frame names m names'' m''
frame_then names names' names'' m m' m'' one two =
    record { top = omega (arith, one.top, two.top); floor = two.floor ∙ one.floor; below = λ k l. two.below k (omega (arith, one.top)) ∙ one.below k l }

pub frame_left : (names names' : List Name) (m m' back : Mark) (p : ℕ) → back ≡ m → Frame names (opened p m) names' m' → Frame names m names' back
frame_left names names' m m' back p e frame = rw e (record { top = omega arith; floor = refl; below = frame.below })

-- a slot that is written after those in use
module _ (f : List ℕ) (names : List Name) (lo : ℕ) where
  pub written_after : (hi at : ℕ) (b : Name) → hi ≤ at → bindings f (set names at b) lo hi ≡ bindings f names lo hi
  written_after hi at b h = bindings_same f names (set names at b) lo hi (λ k l. get_or-set_other names at k b no_name (omega arith))

  pub written_next : (top : ℕ) (b : Name) → lo ≤ top → top < length names → bindings f (set names top b) lo (top + 1) ≡ binding_of f b ∷ bindings f names lo top
  written_next top b l h =
      let more = bindings_more f (set names top b) lo top l in
      let last = get_or-set_same names top b no_name h in
      let before = written_after top top b (omega arith) in
      rw (add-one, more, last, before)

-- a name that joins
module _ (names : List Name) (m : Mark) (b : Name) (cells : ℕ) (names' : List Name) (m' : Mark) (written : names' ≡ set names m.top b) (next : m' ≡ moved cells m) where
  below : (k : ℕ) → k < m.top → get_or names' k no_name ≡ get_or names k no_name
  below k l = rw written (get_or-set_other names m.top k b no_name (omega arith))

  pub frame_joined : Frame names m names' m'
  frame_joined = rw next (record { top = omega arith; floor = refl; below = below })

  module _ (sound : Sound names m) (room : m.top < most_slots) where
    pub sound_joined : Sound names' m'
    sound_joined = rw (written, next) (record { slots = simp length-set sound.slots; few = omega arith; floor = omega (arith, sound.floor) })

    pub joined : (f : List ℕ) → env_of f names' m' ≡ join (word_of f b) b.means cells (env_of f names m)
    joined f =
        let here = written_next f names m.floor m.top b sound.floor (omega (arith, sound.slots)) in
        let outer = written_after f names 0 m.floor m.top b sound.floor in
        rw (written, next, here, outer)
