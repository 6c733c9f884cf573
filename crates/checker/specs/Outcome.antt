-- A check goes on from state to state until the first fault.
use Rattle.std.specs.Prelude.{ℕ, ◌-◌, Bool, false, cond, ◌||◌, List, [], ◌∷◌, Some, None, Ok, Err, Option, Result, slice_index_or, slice_set}
use Rattle.std.specs.Str.{bytes_eq}
use Rattle.faults.specs.declared.CheckFault.{CheckFault}
use Rattle.faults.specs.declared.CheckFault.TheVariants.{File, Entries}
use Rattle.faults.specs.declared.FileFault.TheVariants.{Children}
use Rattle.types.specs.declared.Note.{Note}
use Rattle.types.specs.declared.Entry.{Entry}
use Rattle.types.specs.declared.kind.Home.TheVariants.{Nowhere}
use Rattle.types.specs.Table.{note_of, blank, Entered}

-- the notes and the type table so far
pub record St : Type 0 where
  pub notes : List Note
  pub table : List Entry

-- a result, or the first fault, with the state then
pub data Out (A : Type 0) : Type 0 where
  good : A → St → Out A
  bad : CheckFault → St → Out A

abbrev pub done : {A : Type 0} → A → St → Out A
done x s = good x s

abbrev pub fail : {A : Type 0} → CheckFault → St → Out A
fail e s = bad e s

-- the outcome that code comes to: its result, with the notes and the table then
abbrev pub out_of : {A : Type 0} → Result A CheckFault → List Note → List Entry → Out A
out_of (Ok x) notes table = good x (record { notes = notes; table = table })
out_of (Err e) notes table = bad e (record { notes = notes; table = table })

abbrev pub state : List Note → List Entry → St
state notes table = record { notes = notes; table = table }

-- what follows where there was no fault
abbrev pub bind : {A B : Type 0} → Out A → (A → St → Out B) → Out B
bind (good x s) k = k x s
bind (bad e s) k = bad e s

-- the same of a result that leaves the state as it is
abbrev pub and_then : {A B : Type 0} → Result A CheckFault → St → (A → St → Out B) → Out B
and_then (Ok x) s k = k x s
and_then (Err e) s k = bad e s

-- goes on where a test holds
abbrev pub need : {B : Type 0} → Bool → CheckFault → St → Out B → Out B
need ok e s k = cond ok k (fail e s)

-- a record whose children are not as listed; no file that was read has one
abbrev pub malformed : {A : Type 0} → ℕ → St → Out A
malformed r s = fail (File (Children r)) s

-- the note of the record r, which counts from 1
abbrev pub note_at : List Note → ℕ → Note
note_at notes r = slice_index_or notes (r - 1) blank

abbrev pub put_note : ℕ → Note → St → St
put_note r n s = record { notes = slice_set s.notes (r - 1) n; table = s.table }

-- a type as the result, noted at the record
abbrev pub typed : ℕ → ℕ → St → Out ℕ
typed r t s = done t (put_note r (note_of t Nowhere 0) s)

-- a type that has been entered into the table, noted at the record
abbrev pub entered : ℕ → Option Entered → St → Out ℕ
entered r None s = fail (Entries r) s
entered r (Some e) s = typed r e.ty (record { notes = s.notes; table = e.table })

-- a word and the record where it stands
pub record Label : Type 0 where
  pub at : ℕ
  pub word : List ℕ

abbrev pub has_word : List ℕ → List Label → Bool
has_word w [] = false
has_word w (x ∷ xs) = bytes_eq x.word w || has_word w xs

-- the first label whose word stands before it in the list, where `before` are those already passed
abbrev pub again : List Label → List Label → Option ℕ
again before [] = None
again before (x ∷ xs) = cond (has_word x.word before) (Some x.at) (again (x ∷ before) xs)

abbrev pub repeated : List Label → Option ℕ
repeated xs = again [] xs

-- stops at a record if there is one
abbrev pub unless : {B : Type 0} → Option ℕ → (ℕ → CheckFault) → St → Out B → Out B
unless None e s k = k
unless (Some r) e s k = fail (e r) s
