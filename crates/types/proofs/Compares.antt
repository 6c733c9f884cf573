-- What can be compared, one level of a type at a time.
use Rattle.std.proofs.Common.{◌≡◌, ℕ, zero, suc, ◌-◌, ◌<◌, Bool, ◌&&◌, List, [], ◌∷◌, sym, refl, ap, ◌∙◌, not-suc-le-zero}
use native.Mathlib.Numerals.{unary_clauses}
use Rattle.std.specs.List.{list_all}
use Rattle.types.specs.declared.Entry.{Entry}
use Rattle.types.specs.declared.Shape.{Shape}
use Rattle.types.specs.declared.Shape.TheVariants.{Int, Bool as BoolShape, Rune, Text, Slice, Struct, Other}
use Rattle.types.specs.Table.{shape_of, fields_of, base_shape, all_fields, comparable_shape, comparable_by}

listed : (p : ℕ → Bool) (es : List Entry) → all_fields p es ≡ list_all (λ e. p e.of) es
listed p [] = refl
listed p (e ∷ es) = ap (λ b. p e.of && b) (listed p es)

module _ (table : List Entry) (most t : ℕ) (s : Shape) (h : 0 < most) (is : s ≡ shape_of table t) where
  abbrev part : ℕ → Bool
  part u = comparable_by table (most - 1) u

  level : comparable_by table most t ≡ comparable_shape part table t s
  level = down most h ∙ ap (comparable_shape part table t) (sym is)
    where
      down : (m : ℕ) → 0 < m → comparable_by table m t ≡ comparable_shape (λ u. comparable_by table (m - 1) u) table t (shape_of table t)
      down zero l = absurd (not-suc-le-zero l)
      down (suc m) l = simp unary_clauses

  pub of_struct : (n : ℕ) (es : List Entry) → s ≡ Struct n → es ≡ fields_of table t n → comparable_by table most t ≡ list_all (λ e. part e.of) es
  of_struct n es e f = level ∙ (ap (comparable_shape part table t) e ∙ (ap (all_fields part) (sym f) ∙ listed part es))

  pub of_base : ((n : ℕ) → s ≡ Struct n → ⊥) → base_shape s ≡ comparable_by table most t
  of_base none = sym (level ∙ plain s none)
    where
      plain : (s : Shape) → ((n : ℕ) → s ≡ Struct n → ⊥) → comparable_shape part table t s ≡ base_shape s
      plain Int none = refl
      plain BoolShape none = refl
      plain Rune none = refl
      plain Text none = refl
      plain (Slice of) none = refl
      plain (Struct n) none = absurd (none n refl)
      plain Other none = refl
