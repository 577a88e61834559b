-- The generated table is accepted, and its rows are as many as were asked for.
use Rattle.std.proofs.Common.{◌≡◌, ◌∙◌, ap, refl, arith, true, zero, suc, ℕ, ◌+◌, [], ◌∷◌, None, length, map, pos}
use Rattle.std.specs.Prelude.{nat_le}
use Rattle.std.specs.List.{range_with_len}
use Rattle.std.proofs.lemmas.List.{length-map}
use Rattle.std.proofs.lemmas.List.FromFn.{length-range_with_len}
use Rattle.row_codec.specs.RowBytes.{row_bytes}
use Rattle.row_codec.specs.declared.values.Value.TheVariants.{Int}
use Rattle.csv_edge.specs.Typed.{Typed}
use Rattle.query_plan.specs.declared.plan.Side.TheVariants.{Left}
use Rattle.query_run.specs.Input.{IsAccepted, first_refusal, first_too_long, left_rows, weight_of}
use Rattle.spill_top.specs.CheckPlan.{IsInRange, checking, table_of}
use Rattle.spill_top.specs.Headline.{page_bytes}
use Rattle.spill_top.specs.declared.words.Check.{Check}
use Rattle.spill_top.proofs.TableRows.{table_few, table_row, table_typed}

-- a row of two numbers weighs far less than a page
light : (check : Check) (key number : ℕ) → nat_le (weight_of (checking check) (Int (pos key) ∷ Int (pos number) ∷ [])) page_bytes ≡ true
unfolding row_bytes
light check key number = refl

none-too-long : (check : Check) (row count number : ℕ) → first_too_long (checking check) Left page_bytes number (map (table_row check.start check.groups) (range_with_len row count)) ≡ None
none-too-long check row zero number = refl
none-too-long check row (suc count) number = rw (light check _ row) (none-too-long check (row + 1) count (number + 1))

pub table_accepted : (check : Check) → IsInRange check → IsAccepted (checking check) page_bytes (table_of check).left
table_accepted check range =
    let some = range.some_groups in
    record {
      whole = ap (first_refusal (checking check) Left page_bytes) (table_typed check.start check.groups (omega (arith, some)) range.groups check.rows range.rows)
          ∙ rw (none-too-long check 0 check.rows 1) refl;
      fits = table_few check.start check.groups (omega (arith, some)) range.groups check.rows range.rows;
    }

pub table_long : (check : Check) → IsInRange check → length (left_rows (checking check) (table_of check).left) ≡ check.rows
table_long check range =
    let some = range.some_groups in
    ap (λ (typed : Typed). length typed.rows) (table_typed check.start check.groups (omega (arith, some)) range.groups check.rows range.rows)
    ∙ (length-map (range_with_len 0 check.rows) (table_row check.start check.groups) ∙ length-range_with_len 0 check.rows)
