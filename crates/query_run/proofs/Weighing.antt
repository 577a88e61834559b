-- A row that is weighed, filtered and fed.
use Rattle.std.proofs.Common.{◌≡◌, ◌∙◌, ◌≤◌, ◌<◌, ◌+◌, ◌-◌, ◌*◌, ◌^◌, min, [], ◌∷◌, ℕ, zero, suc, List, All, Bool, true, false, ◌&&◌, if◌then◌else◌, length, nat_le, slice_get, sym, ap, arith, rules}
use Rattle.std.specs.Prelude.{IsSomeAnd, get_or}
use Rattle.row_codec.specs.declared.values.Column.{Column}
use Rattle.row_codec.specs.declared.values.Kind.{Kind}
use Rattle.row_codec.specs.declared.values.Value.{Value}
use Rattle.row_codec.specs.Row.{kind_of, kinds_of}
use Rattle.row_codec.specs.RowBytes.{row_bytes}
use Rattle.scan_filter.specs.Passes.{FitsRow}
use Rattle.scan_filter.specs.declared.pred.Pred.{Pred}
use Rattle.query_plan.specs.Sizes.{groups, joins, operators}
use Rattle.query_plan.specs.declared.plan.Query.{Query}
use Rattle.query_run.specs.FedRows.{IsFed}
use Rattle.query_run.specs.Input.{weight_of}
use Rattle.query_run.specs.Feeding.{MayBeTaken}
use Rattle.query_run.specs.Plans.{IsAbout, kinds_of_columns}

-- the row has a value of this kind where the columns have one
there : (columns : List Column) (row : List Value) (n : ℕ) (kind : Kind) → kinds_of row ≡ kinds_of_columns columns
    → IsSomeAnd (slice_get columns n) (λ c. kind ≡ c.kind) → IsSomeAnd (slice_get row n) (λ v. kind_of v ≡ kind)
there [] row n kind same is = absurd is
there (c ∷ columns) [] n kind same is = absurd (cc)
there (c ∷ columns) (v ∷ row) zero kind same is = let first : kind_of v ≡ c.kind = cc in first ∙ sym is
there (c ∷ columns) (v ∷ row) (suc n) kind same is = let rest : kinds_of row ≡ kinds_of_columns columns = cc in there columns row n kind rest is

-- predicates about the columns fit the row
pub fits_rows : (columns : List Column) (row : List Value) (preds : List Pred) → kinds_of row ≡ kinds_of_columns columns → All (IsAbout columns) preds → All (FitsRow row) preds
fits_rows columns row preds same about = λ k d below. there columns row (get_or preds k d).column (kind_of (get_or preds k d).value) same (about k d below)

-- a row weighs at least its encoding and what its aggregates add
once-or-twice : (twice : Bool) (n : ℕ) → n ≤ (if twice then 2 else 1) * n
once-or-twice true n = omega arith
once-or-twice false n = omega arith

pub weighs_more : (plan : Query) (row : List Value) → length (row_bytes row) + 16 * length plan.aggs ≤ weight_of plan row
weighs_more plan row = once-or-twice (joins plan && groups plan) (length (row_bytes row) + 16 * length plan.aggs)

-- the weight as it is counted in 64 bits
counted-so : (twice : Bool) (len encoded once counted many aggs times : ℕ) → times ≡ (if twice then 2 else 1) → many ≡ aggs
    → encoded ≡ min len (2 ^ 64 - 1) → once ≡ min (encoded + 16 * many) (2 ^ 64 - 1) → counted ≡ min (once * times) (2 ^ 64 - 1)
    → counted ≡ min ((if twice then 2 else 1) * (len + 16 * aggs)) (2 ^ 64 - 1)
counted-so true len encoded once counted many aggs times is same coded sum product =
    let two : once * times ≡ once * 2 = ap (λ (n : ℕ). once * n) is in omega (arith, two, same, coded, sum, product)
counted-so false len encoded once counted many aggs times is same coded sum product =
    let one : once * times ≡ once * 1 = ap (λ (n : ℕ). once * n) is in omega (arith, one, same, coded, sum, product)

pub counted_weight : (plan : Query) (row : List Value) (encoded once counted many times : ℕ) → times ≡ operators plan → many ≡ length plan.aggs
    → encoded ≡ min (length (row_bytes row)) (2 ^ 64 - 1) → once ≡ min (encoded + 16 * many) (2 ^ 64 - 1) → counted ≡ min (once * times) (2 ^ 64 - 1)
    → counted ≡ min (weight_of plan row) (2 ^ 64 - 1)
counted_weight plan row encoded once counted many times is same coded sum product =
    counted-so (joins plan && groups plan) (length (row_bytes row)) encoded once counted many (length plan.aggs) times is same coded sum product

-- a row whose weight, as it is counted, is no more than a page has bytes is light
pub counted_light : (plan : Query) (row : List Value) (counted page : ℕ) → counted ≡ min (weight_of plan row) (2 ^ 64 - 1) → counted ≤ page → page < 2 ^ 32 → weight_of plan row ≤ page
counted_light plan row counted page is fits short = omega (arith, is, fits, short)

pub is_light : (plan : Query) (row : List Value) (page : ℕ) → weight_of plan row ≤ page → nat_le (weight_of plan row) page ≡ true
is_light plan row page light = search (rules, light)

-- a light row of the side's kinds may be taken
pub may_be_taken : (plan : Query) (kinds own : List Kind) (extra page page_is : ℕ) (row : List Value) → own ≡ kinds → extra ≤ 16 * length plan.aggs → page ≡ page_is
    → kinds_of row ≡ kinds → weight_of plan row ≤ page → MayBeTaken own extra page_is row
may_be_taken plan kinds own extra page page_is row takes fits is same light =
    let weight = weighs_more plan row in
    record { kinds_are = same ∙ sym takes; short = omega (arith, weight, fits, is, light) }

-- and its encoding has a length of four bytes
pub is_fed : (plan : Query) (kinds : List Kind) (row : List Value) (page : ℕ) → kinds_of row ≡ kinds → weight_of plan row ≤ page → page < 2 ^ 32 → IsFed kinds row
is_fed plan kinds row page same light short =
    let weight = weighs_more plan row in
    record { kinds_are = same; short = omega (arith, weight, light, short) }
