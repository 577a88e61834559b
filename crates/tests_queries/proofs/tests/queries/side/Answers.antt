use Rattle.std.proofs.Common.{◌≡◌, ◌≢◌, ◌⊎◌, inl, inr, [], ◌∷◌, codes, ℕ, List, arith, refl}
use Rattle.std.specs.Prelude.{All, pos}
use Rattle.std.proofs.lemmas.List.Elements.{All-cons, All-nil}
use Rattle.row_codec.specs.declared.values.Column.{Column}
use Rattle.row_codec.specs.declared.values.Kind.TheVariants.{Int, Text, Wide}
use Rattle.row_codec.specs.declared.values.Value.TheVariants as value
use Rattle.scan_filter.specs.declared.pred.Cmp.TheVariants.{Lt}
use Rattle.scan_filter.specs.declared.pred.Pred.{Pred}
use Rattle.query_run.specs.Plans.{IsAbout, IsSide}
use Rattle.tests_queries.proofs.tests.queries.side.Goals as goal

abbrev key : Column
key = record { name = codes "k"; kind = Text }

abbrev int : Column
int = record { name = codes "v"; kind = Int }

abbrev below : Pred
below = record { column = 1; op = Lt; value = value.Int (pos 5) }

none_wide : All (λ column. column.kind ≢ Wide) (key ∷ int ∷ [])
none_wide =
    let narrow : Column → Type 0 = λ column. column.kind ≢ Wide in
    All-cons narrow key (int ∷ []) (λ same. cc) (All-cons narrow int [] (λ same. cc) (All-nil narrow))

-- a text and an int are read, of all rows or of those whose int is low
two_read : (file : List ℕ) (columns : List Column) (preds : List Pred) → columns ≡ key ∷ int ∷ [] → (preds ≡ []) ⊎ (preds ≡ below ∷ []) → IsSide (record { file = file; columns = columns; preds = preds })
two_read file columns preds two (inl none) =
    rw (two, none) (record { some = omega arith; few = omega arith; narrow = none_wide; preds = All-nil (IsAbout (key ∷ int ∷ [])) })
two_read file columns preds two (inr one) =
    rw (two, one) (record { some = omega arith; few = omega arith; narrow = none_wide; preds = All-cons (IsAbout (key ∷ int ∷ [])) below [] refl (All-nil (IsAbout (key ∷ int ∷ []))) })

pub returns-clause-side : goal.returns-clause-side
returns-clause-side c =
    two_read c.from_string.result c.from_vec.result c.from_vec-2.result (rw c.from_vec.ensures.moved c.in_ok-columns.ensures) (rw c.from_vec-2.ensures.moved c.in_ok-preds_of.ensures)
