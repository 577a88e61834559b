-- The first column of a name, step by step along the columns.
use Rattle.std.proofs.Common.{◌≡◌, ℕ, zero, suc, ◌+◌, ◌<◌, List, [], ◌∷◌, length, drop, get_or, Some, cond, refl, arith}
use Rattle.row_codec.specs.declared.values.Column.{Column}
use Rattle.query_plan.specs.Columns.{is_named, named_from}

pub named_step : (name : List ℕ) (place : ℕ) (columns : List Column) (n : ℕ) (column : Column)
    → n < length columns → column ≡ get_or columns n column
    → named_from name place (drop n columns) ≡ cond (is_named name column) (Some (place, column.kind)) (named_from name (place + 1) (drop (suc n) columns))
named_step name place [] n column within is = absurd (omega arith)
named_step name place (x ∷ columns) zero column within is = rw is refl
named_step name place (x ∷ columns) (suc n) column within is = named_step name place columns n column (omega arith) is
