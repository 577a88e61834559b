-- The rows of a table are read in parts.
use Rattle.std.proofs.Common.{◌≡◌, ◌∙◌, ◌++◌, ℕ, List, Option, Some, None, ap}
use Rattle.std.specs.Option.{option_or}
use Rattle.toml.specs.Data.{Members}
use Rattle.query_plan.specs.declared.error.PlanErr.{PlanErr}
use Rattle.query_plan.specs.Faults.{Row, rows_fault, table_fault, unknown_fault}
use Rattle.query_plan.proofs.Faultless.{rows_split}

-- a fault in the first rows is told
pub told_here : (some more : List Row) (path : List ℕ) (entries : Members) (e : PlanErr) → rows_fault some path entries ≡ Some e → rows_fault (some ++ more) path entries ≡ Some e
told_here some more path entries e is = rows_split some more path entries ∙ ap (λ first. option_or first (rows_fault more path entries)) is

-- without one, what is wrong with the others is told
pub told_behind : (some more : List Row) (path : List ℕ) (entries : Members) (told : Option PlanErr) → rows_fault some path entries ≡ None → rows_fault more path entries ≡ told
    → rows_fault (some ++ more) path entries ≡ told
told_behind some more path entries told none is = rows_split some more path entries ∙ (ap (λ first. option_or first (rows_fault more path entries)) none ∙ is)

-- where all keys may stand there, what is wrong with the rows is told
pub table_told : (rows : List Row) (path : List ℕ) (entries : Members) (told : Option PlanErr) → unknown_fault rows path entries ≡ None → rows_fault rows path entries ≡ told
    → table_fault rows path entries ≡ told
table_told rows path entries told none is = ap (λ first. option_or first (rows_fault rows path entries)) none ∙ is
