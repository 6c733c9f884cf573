-- What one record of a file that can be read gives.
use Rattle.std.proofs.Common.{◌≡◌, ℕ, ◌<◌, ◌≤◌, true, cond, ◌⊎◌, List, is_some, Some, None, sym, refl, ap, ◌∙◌, inl, inr, arith}
use Rattle.std.proofs.lemmas.Bool.{cases_Bool, false≢true}
use Rattle.records.specs.declared.bytes.Rec.{Rec}
use Rattle.records.specs.declared.bytes.Header.{Header}
use Rattle.records.specs.declared.kind.Kind.{Kind}
use Rattle.records.specs.Kinds.{about}
use Rattle.records.specs.Bytes.{count, text_size, rec_at}
use Rattle.records.specs.Records.{Said, said_at, rec_kind, listed_kind, listed_by, value_fits, text_fits, text_by, say_form, say_by}
use Rattle.records.specs.Trees.{none, tree_at}
use Rattle.records.proofs.Grows.{tree_none, tree_step, cases_option, said_up}
use Rattle.records.proofs.Views.{said_is}
use Rattle.script.specs.Verdict.{Readable}
use Rattle.script.specs.Trees.{Known}
use Rattle.script.proofs.Bared.{inside_is, formed_at}
use Rattle.script.proofs.Once.{listed_is, linked_at}

-- past the ends nothing stands
pub past : (f : List ℕ) (n r : ℕ) → n ≡ count f → (r ≡ 0) ⊎ (n < r) → (tree_at f r ≡ none) × (1 ≤ r → r ≤ n → ⊥)
past f n r e h =
    let out : 1 ≤ r → r ≤ n → ⊥ = λ a b. elim h [ inl z ↦ omega arith | inr q ↦ omega (arith, q) ] in
    let silent : said_at f r ≡ None = elim (cases_option (said_at f r)) [ inl s ↦ s | inr q ↦ (let u = said_up f r q.0 q.1 in absurd (out u.here (omega (arith, u.inside)))) ] in
    (tree_none f r silent, out)

module _ (f : List ℕ) (h : Header) (p : Readable f h) (r : ℕ) (a : 1 ≤ r) (b : r ≤ h.records) where
  some_kind : is_some (listed_kind (rec_at f r)) ≡ true
  some_kind = listed_is f r (p.kept.kinds r a b)

  -- its kind is listed
  pub never : (rec : Rec) → rec ≡ rec_at f r → None ≡ rec_kind rec → ⊥
  never rec e n =
      let l : is_some (listed_by rec (rec_kind rec)) ≡ true = rw e some_kind in
      false≢true (ap (λ o. is_some (listed_by rec o)) n ∙ l)

  only : (rec : Rec) (k : Kind) → is_some (cond (value_fits (about k).form rec.value) (Some k) None) ≡ true → cond (value_fits (about k).form rec.value) (Some k) None ≡ Some k
  only rec k e = elim (cases_Bool (value_fits (about k).form rec.value)) [ inl t ↦ rw t | inr t ↦ absurd (let d : is_some {T = Kind} None ≡ true = rw t at e in let z : ◌≡◌ {A = ℕ} 0 1 = cc in omega arith) ]

  -- and so is its rune
  kind_is : (rec : Rec) (k : Kind) → rec ≡ rec_at f r → Some k ≡ rec_kind rec → listed_kind rec ≡ Some k
  kind_is rec k e d =
      let l : is_some (listed_by rec (rec_kind rec)) ≡ true = rw e some_kind in
      ap (listed_by rec) (sym d) ∙ only rec k (rw (sym d) at l)

  -- its text is inside
  pub text_in : (t : ℕ) (rec : Rec) (k : Kind) → t ≡ text_size f → rec ≡ rec_at f r → Some k ≡ rec_kind rec → text_fits t rec (about k).form ≡ true
  text_in t rec k et e d =
      let x : text_by (text_size f) (rec_at f r) (listed_kind (rec_at f r)) ≡ true = inside_is f r (p.kept.texts r a b) in
      let y : text_by t rec (listed_kind rec) ≡ true = rw (et, e) x in
      rw (kind_is rec k e d) at y

  spoken : (rec : Rec) (k : Kind) → rec ≡ rec_at f r → Some k ≡ rec_kind rec → say_by f (text_size f) rec (listed_kind rec) ≡ Some (say_form f rec k (about k).form)
  spoken rec k e d = rw (kind_is rec k e d, text_in (text_size f) rec k refl e d)

  pub known : (n t : ℕ) (rec : Rec) (k : Kind) → n ≡ count f → t ≡ text_size f → rec ≡ rec_at f r → Some k ≡ rec_kind rec → Known f n t r (record { rec = rec; kind = k })
  known n t rec k en et e d =
      let l = linked_at f h p r a (omega (arith, p.heads.records_are)) in
      let said : Said = say_form f rec k (about k).form in
      let q : said_at f r ≡ Some said = said_is f (text_size f) r rec refl l e ∙ spoken rec k e d in
      record { inside = text_in t rec k et e d; step = rw (en, ap (λ (x : Rec). x.first) e, ap (λ (x : Rec). x.next) e) (tree_step f r said q); listed = formed_at f h p r }
