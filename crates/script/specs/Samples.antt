-- That neither answer of the reader is empty: a file that can be read, and one that cannot.
use Rattle.std.specs.Prelude.{ℕ, List, [], ◌∷◌, ◌++◌, Err}
use Rattle.faults.specs.declared.FileFault.TheVariants.{Link}
use Rattle.records.specs.declared.bytes.Header.{Header}
use Rattle.script.specs.declared.Lengths.{Lengths}
use Rattle.script.specs.Verdict.{Verdict, Readable, least_entries, least_names}

-- one record and no text
abbrev pub one_record : List ℕ
one_record = 0 ∷ (1 ∷ (0 ∷ (0 ∷ (0 ∷ (0 ∷ [])))))

-- the rest of a record after its links
abbrev pub no_more : List ℕ
no_more = 0 ∷ (0 ∷ (0 ∷ (0 ∷ (0 ∷ (0 ∷ (0 ∷ (0 ∷ (0 ∷ (0 ∷ (0 ∷ (0 ∷ (0 ∷ (0 ∷ [])))))))))))))

-- a program without declarations
unfoldable pub smallest : List ℕ
smallest = one_record ++ (1 ∷ (0 ∷ (0 ∷ (0 ∷ (0 ∷ (0 ∷ no_more))))))

-- the same with a link to itself
unfoldable pub looped : List ℕ
looped = one_record ++ (1 ∷ (0 ∷ (0 ∷ (1 ∷ (0 ∷ (0 ∷ no_more))))))

abbrev pub one_header : Header
one_header = record { records = 1; text = 0 }

abbrev pub lent_for_one : Lengths
lent_for_one = record { notes = 1; entries = least_entries; names = least_names }

pub record Samples : Type 0 where
  pub reads : Readable smallest one_header
  pub refuses : Verdict looped lent_for_one (Err (Link 1))
