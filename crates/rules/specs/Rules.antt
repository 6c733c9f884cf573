-- The rules about the kind and the text of a record, and the first of the rules on records that a file breaks.
use Rattle.std.specs.Prelude.{ℕ, Bool, List, is_some, Some, None, Ok, Err, Result}
use Rattle.faults.specs.declared.FileFault.{FileFault}
use Rattle.faults.specs.declared.FileFault.TheVariants.{Short, Size, Length, Lent, Link, Linked, Deep, Unlisted, Children, Text}
use Rattle.records.specs.Bytes.{rec_at, text_size}
use Rattle.records.specs.Records.{listed_kind, text_by}
use Rattle.rules.specs.First.{First}
use Rattle.rules.specs.Links.{lead_up, linked_once}
use Rattle.rules.specs.Depths.{shallow}
use Rattle.rules.specs.Children.{children_fit}

unfoldable pub kind_listed : List ℕ → ℕ → Bool
kind_listed f r = is_some (listed_kind (rec_at f r))

unfoldable pub text_inside : List ℕ → ℕ → Bool
text_inside f r = text_by (text_size f) (rec_at f r) (listed_kind (rec_at f r))

-- the six rules on records, each with the first record that breaks it or none
pub record Kept (f : List ℕ) (n : ℕ) : Type 0 where
  pub links : First (lead_up f) 1 n None
  pub once : First (linked_once f) 2 n None
  pub shallows : First (shallow f) 1 n None
  pub kinds : First (kind_listed f) 1 n None
  pub children : First (children_fit f) 1 n None
  pub texts : First (text_inside f) 1 n None

-- all six hold, or the first of them that does not, where those before it do
abbrev pub RecordsVerdict : List ℕ → ℕ → Result (Unit {0}) FileFault → Type 0
RecordsVerdict f n (Ok u) = Kept f n
RecordsVerdict f n (Err (Link r)) = First (lead_up f) 1 n (Some r)
RecordsVerdict f n (Err (Linked r)) = First (lead_up f) 1 n None × First (linked_once f) 2 n (Some r)
RecordsVerdict f n (Err (Deep r)) = First (lead_up f) 1 n None × First (linked_once f) 2 n None × First (shallow f) 1 n (Some r)
RecordsVerdict f n (Err (Unlisted r)) = First (lead_up f) 1 n None × First (linked_once f) 2 n None × First (shallow f) 1 n None × First (kind_listed f) 1 n (Some r)
RecordsVerdict f n (Err (Children r)) = First (lead_up f) 1 n None × First (linked_once f) 2 n None × First (shallow f) 1 n None × First (kind_listed f) 1 n None × First (children_fit f) 1 n (Some r)
RecordsVerdict f n (Err (Text r)) = First (lead_up f) 1 n None × First (linked_once f) 2 n None × First (shallow f) 1 n None × First (kind_listed f) 1 n None × First (children_fit f) 1 n None × First (text_inside f) 1 n (Some r)
RecordsVerdict f n (Err Short) = ⊥
RecordsVerdict f n (Err Size) = ⊥
RecordsVerdict f n (Err Length) = ⊥
RecordsVerdict f n (Err Lent) = ⊥
