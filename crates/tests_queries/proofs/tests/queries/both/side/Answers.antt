use Rattle.std.proofs.Common.{◌≡◌, ◌≢◌, ◌⊎◌, inl, inr, [], ◌∷◌, codes, ℕ, List, arith, refl}
use Rattle.std.specs.Prelude.{All}
use Rattle.std.proofs.lemmas.List.Elements.{All-cons, All-nil}
use Rattle.row_codec.specs.declared.values.Column.{Column}
use Rattle.row_codec.specs.declared.values.Kind.TheVariants.{Int, Text, Wide}
use Rattle.row_codec.specs.declared.values.Value.TheVariants as value
use Rattle.scan_filter.specs.declared.pred.Cmp.TheVariants.{Ge}
use Rattle.scan_filter.specs.declared.pred.Pred.{Pred}
use Rattle.query_run.specs.Plans.{IsAbout, IsSide}
use Rattle.tests_queries.proofs.tests.queries.both.side.Goals as goal

abbrev key : Column
key = record { name = codes "k"; kind = Int }

abbrev text : List ℕ → Column
text name = record { name = name; kind = Text }

abbrev above : Pred
above = record { column = 1; op = Ge; value = value.Text (codes "b") }

none_wide : (name : List ℕ) → All (λ column. column.kind ≢ Wide) (key ∷ text name ∷ [])
none_wide name =
    let narrow : Column → Type 0 = λ column. column.kind ≢ Wide in
    All-cons narrow key (text name ∷ []) (λ same. cc) (All-cons narrow (text name) [] (λ same. cc) (All-nil narrow))

-- an int and a text are read, of all rows or of those whose text is high
two_read : (file name : List ℕ) (columns : List Column) (preds : List Pred) → columns ≡ key ∷ text name ∷ [] → (preds ≡ []) ⊎ (preds ≡ above ∷ []) → IsSide (record { file = file; columns = columns; preds = preds })
two_read file name columns preds two (inl none) =
    rw (two, none) (record { some = omega arith; few = omega arith; narrow = none_wide name; preds = All-nil (IsAbout (key ∷ text name ∷ [])) })
two_read file name columns preds two (inr one) =
    rw (two, one) (record { some = omega arith; few = omega arith; narrow = none_wide name; preds = All-cons (IsAbout (key ∷ text name ∷ [])) above [] refl (All-nil (IsAbout (key ∷ text name ∷ []))) })

pub returns-clause-side : goal.returns-clause-side
returns-clause-side c =
    two_read c.from_string.result c.args.second.now c.from_vec.result c.from_vec-2.result (rw c.from_vec.ensures.moved c.in_ok-columns.ensures) (rw c.from_vec-2.ensures.moved c.in_ok-preds.ensures)
