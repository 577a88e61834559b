-- The first ones of some rows, one after the other.
use Rattle.std.proofs.Common.{◌≡◌, ◌∙◌, ◌≤◌, ◌<◌, ◌+◌, ◌++◌, ◌∷◌, ℕ, All, List, [], Vec, ap, append-nil, arith, length, map, rules, slice_index_or, slice_set, subst, take}
use Rattle.std.proofs.lemmas.List.{get_or-map, get_or-take, length-map, map-append, take-append-le, take-set-le, take_more, take_more_set}
use Rattle.std.proofs.lemmas.Grind.{flat_map-append}
use Rattle.std.proofs.lemmas.List.Concat.{flat_map-cons}
use Rattle.std.specs.List.{flat_map}
use Rattle.std.specs.declared.alloc.Global.{Global}
use Rattle.row_codec.specs.declared.values.Value.{Value}
use Rattle.query_run.specs.Batches.{first_rows, rows_in}
use Rattle.query_run.specs.declared.batches.Batch.{Batch}

abbrev items : Vec Value Global → List Value
items row = row.items

pub first_more : (n : ℕ) (rows : List (Vec Value Global)) (d : Vec Value Global) → n < length rows → first_rows (n + 1) rows ≡ first_rows n rows ++ (slice_index_or rows n d).items ∷ []
first_more n rows d below = ap (map items) (take_more rows n d below) ∙ map-append items (take n rows) (slice_index_or rows n d ∷ [])

-- what holds of the first ones holds of each of them
pub first_at : (P : List Value → Type 0) (len n : ℕ) (rows : List (Vec Value Global)) (d : Vec Value Global) → len ≤ length rows → n < len → All P (first_rows len rows) → P (slice_index_or rows n d).items
first_at P len n rows d has below all =
    let long : length (take len rows) ≡ len = search (rules, arith, has) in
    let here : slice_index_or (first_rows len rows) n d.items ≡ (slice_index_or (take len rows) n d).items = get_or-map items (take len rows) n d d.items (omega (arith, long, below)) in
    let there : slice_index_or (take len rows) n d ≡ slice_index_or rows n d = get_or-take len rows n d below in
    subst (λ r. P (items r)) there (subst P here (all n d.items (let l = length-map (take len rows) items in omega (arith, l, long, below))))

-- the rows of batches, and of one behind them
pub one_batch_more : {R : Type 0} (batches : List (Batch R)) (batch : Batch R) → flat_map rows_in (batches ++ batch ∷ []) ≡ flat_map rows_in batches ++ rows_in batch
one_batch_more batches batch = flat_map-append rows_in batches (batch ∷ []) ∙ ap (λ rows. flat_map rows_in batches ++ rows) (flat_map-cons rows_in batch [] ∙ append-nil (rows_in batch))

-- a row that is set behind the first ones is one more of them, and leaves them as they were
pub first_untouched : (n : ℕ) (rows : List (Vec Value Global)) (row : Vec Value Global) → n < length rows → first_rows n (slice_set rows n row) ≡ first_rows n rows
first_untouched n rows row below = ap (map items) (take-set-le n rows n row (omega arith))

pub first_set : (n : ℕ) (rows : List (Vec Value Global)) (row : Vec Value Global) → n < length rows → first_rows (n + 1) (slice_set rows n row) ≡ first_rows n rows ++ row.items ∷ []
first_set n rows row below = ap (map items) (take_more_set rows n row below) ∙ map-append items (take n rows) (row ∷ [])

-- and so does one that is pushed
pub first_pushed : (n : ℕ) (rows more : List (Vec Value Global)) → n ≤ length rows → first_rows n (rows ++ more) ≡ first_rows n rows
first_pushed n rows more below = ap (map items) (take-append-le n rows more below)
