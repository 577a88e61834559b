-- Rows that mirror what is live, when one of them comes, changes or goes.
use Rattle.std.proofs.Common.{◌≡◌, ℕ, Option, Some, None, option_map, refl, ap, sym, ◌∙◌, inl, inr}
use Rattle.std.specs.Ordering.{nat_cmp}
use Rattle.std.specs.FinMap.{FinMap, get, insert, remove}
use Rattle.reservation_tree.proofs.Maps.{get_same, get_other, removed_same, removed_other, same_or_other}
use Rattle.trace_follow.specs.Tables.{Mirrors}

-- what is live under a number has this row
pub record HasRow {X Y : Type 0} (told : X → Y) (live : Option X) (row : Y) : Type 0 where
  pub of : X
  pub lives : live ≡ Some of
  pub is : row ≡ told of

module _ {X Y : Type 0} (told : X → Y) where
  has_row : (o : Option X) (row : Y) → Some row ≡ option_map told o → HasRow told o row
  has_row None row is = cc
  has_row (Some x) row is = record { of = x; lives = refl; is = cc }

  has_none : (o : Option X) → None ≡ option_map told o → o ≡ None
  has_none None is = refl
  has_none (Some x) is = cc

  module _ (live : FinMap nat_cmp X) (rows : FinMap nat_cmp Y) (mirrors : Mirrors told live rows) (k : ℕ) where
    pub row_of : (row : Y) → get rows k ≡ Some row → HasRow told (get live k) row
    row_of row is = has_row (get live k) row (sym is ∙ mirrors k)

    pub none_of : get rows k ≡ None → get live k ≡ None
    none_of is = has_none (get live k) (sym is ∙ mirrors k)

    pub row_for : (x : X) → get live k ≡ Some x → get rows k ≡ Some (told x)
    row_for x lives = mirrors k ∙ ap (option_map told) lives

    pub none_for : get live k ≡ None → get rows k ≡ None
    none_for none = mirrors k ∙ ap (option_map told) none

    pub mirror_put : (x : X) (row : Y) → row ≡ told x → Mirrors told (insert live k x) (insert rows k row)
    mirror_put x row is q = elim (same_or_other q k) [
      | inl here ↦
          ap (get (insert rows k row)) here ∙ get_same rows k row ∙ ap (λ (y : Y). Some y) is
          ∙ sym (ap (λ (j : ℕ). option_map told (get (insert live k x) j)) here ∙ ap (option_map told) (get_same live k x))
      | inr there ↦ get_other rows k row q there ∙ mirrors q ∙ sym (ap (option_map told) (get_other live k x q there))
    ]

    pub mirror_gone : Mirrors told (remove live k) (remove rows k)
    mirror_gone q = elim (same_or_other q k) [
      | inl here ↦
          ap (get (remove rows k)) here ∙ removed_same rows k
          ∙ sym (ap (λ (j : ℕ). option_map told (get (remove live k) j)) here ∙ ap (option_map told) (removed_same live k))
      | inr there ↦ removed_other rows k q there ∙ mirrors q ∙ sym (ap (option_map told) (removed_other live k q there))
    ]

    -- what is live changes in what its row doesn't tell
    pub mirror_hidden : (x y : X) → get live k ≡ Some x → told y ≡ told x → Mirrors told (insert live k y) rows
    mirror_hidden x y lives same q = elim (same_or_other q k) [
      | inl here ↦
          ap (get rows) here ∙ row_for x lives ∙ ap (λ (z : Y). Some z) (sym same)
          ∙ sym (ap (λ (j : ℕ). option_map told (get (insert live k y) j)) here ∙ ap (option_map told) (get_same live k y))
      | inr there ↦ mirrors q ∙ sym (ap (option_map told) (get_other live k y q there))
    ]
