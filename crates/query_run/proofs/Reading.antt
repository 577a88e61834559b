-- What is known of an input while its rows are read.
use Rattle.std.proofs.Common.{◌≡◌, ◌≢◌, ◌∙◌, ◌≤◌, ◌<◌, ◌+◌, ◌++◌, ◌∷◌, ◌⊎◌, inl, inr, [], ℕ, zero, suc, List, true, false, Option, Some, None, IfSome, All, filter, length, min, nat_le, ◌-◌, ◌^◌, slice_index_or, sym, ap, subst, refl, arith, rules}
use Rattle.std.specs.Option.{option_map}
use Rattle.std.proofs.lemmas.List.{append-nil, length-append}
use Rattle.std.proofs.lemmas.List.Elements.{All-append, filter-append}
use Rattle.row_codec.specs.declared.values.Value.{Value}
use Rattle.row_codec.specs.declared.values.Column.{Column}
use Rattle.row_codec.specs.declared.values.Kind.{Kind}
use Rattle.row_codec.specs.declared.values.Kind.TheVariants as kind
use Rattle.outside.specs.Counts.{Rose}
use Rattle.scan_filter.specs.Passes.{passes}
use Rattle.csv_edge.specs.Typed.{Typed, nothing_more, refused_here, row_then, rows_then}
use Rattle.csv_edge.specs.Rows.{Becomes, CountsBytes, FitsLimit, HasNoSums, IsOfRecord, PassesLimit}
use Rattle.csv_edge.specs.Rows as rows
use Rattle.csv_edge.specs.declared.refusal.InputErr.{InputErr}
use Rattle.csv_edge.specs.declared.refusal.InputErr.TheVariants as input
use Rattle.csv_edge.proofs.Steps.{none-handed, row-handed}
use Rattle.reservation_tree.specs.declared.errors.PoolErr.{PoolErr}
use Rattle.reservation_tree.specs.declared.errors.PoolErr.TheVariants.{Memory}
use Rattle.query_run.specs.Causes.{IsOfBytes, IsSourceFault, NamesInt, OfPool, cause_of_input, side_of}
use Rattle.query_run.specs.Feeding.{RefusesRow}
use Rattle.query_run.specs.Input.{IsAcceptedIn, IsRefusalIn, first_refusal, first_too_long, most_bytes, rows_of, rows_read, weight_of}
use Rattle.query_run.specs.FedRows.{IsFed}
use Rattle.query_run.specs.Plans.{kinds_of_columns}
use Rattle.query_run.specs.SoFar.{IsLight, IsReading, IsSoFar, fed_of}
use Rattle.query_run.specs.declared.feeding.Fed.{Fed}
use Rattle.query_plan.specs.declared.plan.Query.{Query}
use Rattle.query_plan.specs.declared.plan.Side.{Side}
use Rattle.query_plan.specs.declared.plan.SidePlan.{SidePlan}
use Rattle.query_plan.specs.declared.outcome.QueryErr.{QueryErr}
use Rattle.query_plan.specs.declared.outcome.QueryErr.TheVariants as query
use Rattle.query_plan.specs.declared.outcome.QueryErr.TheVariants.{TooLarge}

-- a row that weighs too much
pub record IsTooLong (plan : Query) (side : Side) (page : ℕ) (row : List Value) (number : ℕ) (why : QueryErr) : Type 0 where
  pub heavy : page < weight_of plan row
  pub names_it : why ≡ query.RowTooLong side number (min (weight_of plan row) (2 ^ 64 - 1))

-- no row so far weighs too much
first-behind : (plan : Query) (side : Side) (asked : SidePlan) (page : ℕ) (rows : List (List Value)) (number : ℕ) (rest : List (List Value)) → All (IsLight plan page) rows
    → first_too_long plan side page number (rows ++ rest) ≡ first_too_long plan side page (number + length rows) rest
first-behind plan side asked page [] number rest light = let same : number + 0 ≡ number = omega arith in rw same refl
first-behind plan side asked page (row ∷ rows) number rest light =
    let first : IsLight plan page row = light 0 row (omega arith) in
    let is : nat_le (weight_of plan row) page ≡ true = search (rules, first) in
    let later : All (IsLight plan page) rows = λ k d below. light (suc k) d (omega (arith, below)) in
    let same : number + 1 + length rows ≡ number + length (row ∷ rows) = omega arith in
    rw (is, first-behind plan side asked page rows (number + 1) rest later, same) refl

-- the refusal behind rows that are light is the first
refusal-behind : (plan : Query) (side : Side) (asked : SidePlan) (page : ℕ) (rows : List (List Value)) (e : InputErr) → All (IsLight plan page) rows
    → first_refusal plan side page (rows_then rows (refused_here e)) ≡ Some (cause_of_input side e)
refusal-behind plan side asked page rows e light = rw (first-behind plan side asked page rows 1 [] light) refl

none-behind : (plan : Query) (side : Side) (asked : SidePlan) (page : ℕ) (rows : List (List Value)) → All (IsLight plan page) rows → first_refusal plan side page (rows_then rows nothing_more) ≡ None
none-behind plan side asked page rows light = rw (first-behind plan side asked page rows 1 [] light) refl

-- so is a row that weighs too much
too-long-behind : (plan : Query) (side : Side) (asked : SidePlan) (page : ℕ) (rows : List (List Value)) (row : List Value) (more : Typed) (number : ℕ) (why : QueryErr) → All (IsLight plan page) rows → number ≡ length rows + 1 → IsTooLong plan side page row number why
    → first_refusal plan side page (rows_then rows (row_then row more)) ≡ Some why
too-long-behind plan side asked page rows row more number why light at long =
    let heavy : nat_le (weight_of plan row) page ≡ false = search (rules, long) in
    let place : 1 + length rows ≡ number = omega (arith, at) in
    let names = long.names_it in
    rw (first-behind plan side asked page rows 1 (row ∷ more.rows) light, heavy, place, names) refl

refused_at : (plan : Query) (side : Side) (asked : SidePlan) (page : ℕ) (told : Option (List ℕ)) (rows : List (List Value)) (rest : Option Typed) (e : InputErr) → All (IsLight plan page) rows
    → IsSoFar asked told rows rest → Becomes (λ t. t) rest (Some (refused_here e))
    → IfSome told (λ bytes. IsRefusalIn plan side asked page bytes (cause_of_input side e))
refused_at plan side asked page None rows rest e light so-far here = tt
refused_at plan side asked page (Some bytes) rows None e light so-far here = absurd so-far
refused_at plan side asked page (Some bytes) rows (Some rest) e light so-far here =
    let all : rows_of asked.columns bytes ≡ rows_then rows (refused_here e) = so-far ∙ ap (rows_then rows) here in
    inl (ap (first_refusal plan side page) all ∙ refusal-behind plan side asked page rows e light)

pub too_long_at : (plan : Query) (side : Side) (asked : SidePlan) (page : ℕ) (told : Option (List ℕ)) (rows : List (List Value)) (row : List Value) (old new : Option Typed) (number : ℕ) (why : QueryErr) → All (IsLight plan page) rows
    → IsSoFar asked told rows old → Becomes (row_then row) old new → number ≡ length rows + 1 → IsTooLong plan side page row number why
    → IfSome told (λ bytes. IsRefusalIn plan side asked page bytes why)
too_long_at plan side asked page None rows row old new number why light so-far next at long = tt
too_long_at plan side asked page (Some bytes) rows row None new number why light so-far next at long = absurd so-far
too_long_at plan side asked page (Some bytes) rows row (Some old) None number why light so-far next at long = absurd next
too_long_at plan side asked page (Some bytes) rows row (Some old) (Some new) number why light so-far next at long =
    let all : rows_of asked.columns bytes ≡ rows_then rows (row_then row new) = so-far ∙ ap (rows_then rows) next in
    inl (ap (first_refusal plan side page) all ∙ too-long-behind plan side asked page rows row new number why light at long)

-- told bytes that pass what is still allowed pass the whole limit
passes-limit : (told now : Option (List ℕ)) (allowed : ℕ) → CountsBytes most_bytes told allowed now → PassesLimit allowed now → IfSome told (λ bytes. most_bytes < length bytes)
passes-limit None now allowed counts more = tt
passes-limit (Some bytes) None allowed counts more = absurd counts
passes-limit (Some bytes) (Some left) allowed counts more = omega (arith, counts, more)

fits : (told now : Option (List ℕ)) (allowed : ℕ) → CountsBytes most_bytes told allowed now → FitsLimit allowed now → IfSome told (λ bytes. length bytes ≤ most_bytes)
fits None now allowed counts more = tt
fits (Some bytes) None allowed counts more = absurd counts
fits (Some bytes) (Some left) allowed counts more = omega (arith, counts, more)

large-if : (plan : Query) (side : Side) (asked : SidePlan) (page : ℕ) (told : Option (List ℕ)) → IfSome told (λ bytes. most_bytes < length bytes) → IfSome told (λ bytes. IsRefusalIn plan side asked page bytes (TooLarge side))
large-if plan side asked page None more = tt
large-if plan side asked page (Some bytes) more = inr (refl, more)

large_at : (plan : Query) (side : Side) (asked : SidePlan) (page : ℕ) (told now : Option (List ℕ)) (allowed : ℕ) (rows : List (List Value)) (rest : Option Typed) → All (IsLight plan page) rows
    → IsSoFar asked told rows rest → CountsBytes most_bytes told allowed now
    → Becomes (λ t. t) rest (Some (refused_here input.TooLarge)) ⊎ PassesLimit allowed now
    → IfSome told (λ bytes. IsRefusalIn plan side asked page bytes (TooLarge side))
large_at plan side asked page told now allowed rows rest light so-far counts (inl here) = refused_at plan side asked page told rows rest input.TooLarge light so-far here
large_at plan side asked page told now allowed rows rest light so-far counts (inr more) = large-if plan side asked page told (passes-limit told now allowed counts more)

-- what the bytes are refused for is the first refusal
pub refusal_of_input : (plan : Query) (side : Side) (asked : SidePlan) (page : ℕ) (told now : Option (List ℕ)) (allowed : ℕ) (rows : List (List Value)) (rest : Option Typed) (e : InputErr) → All (IsLight plan page) rows
    → IsSoFar asked told rows rest → CountsBytes most_bytes told allowed now
    → (IsOfRecord e → Becomes (λ t. t) rest (Some (refused_here e)))
    → (e ≡ input.TooLarge → Becomes (λ t. t) rest (Some (refused_here input.TooLarge)) ⊎ PassesLimit allowed now)
    → IsOfBytes (cause_of_input side e) → IfSome told (λ bytes. IsRefusalIn plan side asked page bytes (cause_of_input side e))
refusal_of_input plan side asked page told now allowed rows rest input.Fault light so-far counts refused large is = absurd is
refusal_of_input plan side asked page told now allowed rows rest input.Memory light so-far counts refused large is = absurd is
refusal_of_input plan side asked page told now allowed rows rest input.TooLarge light so-far counts refused large is = large_at plan side asked page told now allowed rows rest light so-far counts (large refl)
refusal_of_input plan side asked page told now allowed rows rest input.Header light so-far counts refused large is = refused_at plan side asked page told rows rest input.Header light so-far (refused tt)
refusal_of_input plan side asked page told now allowed rows rest (input.Csv number) light so-far counts refused large is = refused_at plan side asked page told rows rest (input.Csv number) light so-far (refused tt)
refusal_of_input plan side asked page told now allowed rows rest (input.Field number place) light so-far counts refused large is = refused_at plan side asked page told rows rest (input.Field number place) light so-far (refused tt)

-- a bad field is one of a column of ints
pub int_of_input : (side : Side) (e : InputErr) (kinds : List Kind) → HasNoSums kinds → rows.NamesInt e kinds → NamesInt kinds (cause_of_input side e)
int_of_input side input.Fault kinds none names = tt
int_of_input side input.Memory kinds none names = tt
int_of_input side input.TooLarge kinds none names = tt
int_of_input side input.Header kinds none names = tt
int_of_input side (input.Csv number) kinds none names = tt
int_of_input side (input.Field number place) kinds none names = names none

-- the columns of a side have no sums
pub no_sums : (columns : List Column) → All (λ c. c.kind ≢ kind.Wide) columns → HasNoSums (kinds_of_columns columns)
no_sums [] narrow = tt
no_sums (c ∷ columns) narrow = (narrow 0 c (omega arith), no_sums columns (λ k d below. narrow (suc k) d (omega (arith, below))))

-- where the header was refused, that is the first refusal
first-at : (plan : Query) (side : Side) (asked : SidePlan) (page : ℕ) (bytes : List ℕ) (e : InputErr) → rows_of asked.columns bytes ≡ refused_here e → IsRefusalIn plan side asked page bytes (cause_of_input side e)
first-at plan side asked page bytes e is = inl (ap (first_refusal plan side page) is)

header-at : (plan : Query) (side : Side) (asked : SidePlan) (page : ℕ) (told : Option (List ℕ)) (e : InputErr) → IfSome told (λ bytes. rows_of asked.columns bytes ≡ refused_here e)
    → IfSome told (λ bytes. IsRefusalIn plan side asked page bytes (cause_of_input side e))
header-at plan side asked page None e is = tt
header-at plan side asked page (Some bytes) e is = first-at plan side asked page bytes e is

large-at : (plan : Query) (side : Side) (asked : SidePlan) (page : ℕ) (told : Option (List ℕ)) → IfSome told (λ bytes. (rows_of asked.columns bytes ≡ refused_here input.TooLarge) ⊎ (most_bytes < length bytes))
    → IfSome told (λ bytes. IsRefusalIn plan side asked page bytes (TooLarge side))
large-at plan side asked page None is = tt
large-at plan side asked page (Some bytes) (inl is) = first-at plan side asked page bytes input.TooLarge is
large-at plan side asked page (Some bytes) (inr more) = inr (refl, more)

pub refusal_of_header : (plan : Query) (side : Side) (asked : SidePlan) (page : ℕ) (told : Option (List ℕ)) (e : InputErr)
    → (IsOfRecord e → IfSome told (λ bytes. rows_of asked.columns bytes ≡ refused_here e))
    → (e ≡ input.TooLarge → IfSome told (λ bytes. (rows_of asked.columns bytes ≡ refused_here input.TooLarge) ⊎ (most_bytes < length bytes)))
    → IsOfBytes (cause_of_input side e) → IfSome told (λ bytes. IsRefusalIn plan side asked page bytes (cause_of_input side e))
refusal_of_header plan side asked page told input.Fault refused large is = absurd is
refusal_of_header plan side asked page told input.Memory refused large is = absurd is
refusal_of_header plan side asked page told input.TooLarge refused large is = large-at plan side asked page told (large refl)
refusal_of_header plan side asked page told input.Header refused large is = header-at plan side asked page told input.Header (refused tt)
refusal_of_header plan side asked page told (input.Csv number) refused large is = header-at plan side asked page told (input.Csv number) (refused tt)
refusal_of_header plan side asked page told (input.Field number place) refused large is = header-at plan side asked page told (input.Field number place) (refused tt)

-- a row's refusal is of the input where it weighs too much
pub refusal_of_row : (plan : Query) (side : Side) (asked : SidePlan) (page : ℕ) (told : Option (List ℕ)) (rows : List (List Value)) (row : List Value) (old new : Option Typed) (number : ℕ) (why : QueryErr) → All (IsLight plan page) rows
    → IsSoFar asked told rows old → Becomes (row_then row) old new → number ≡ length rows + 1 → RefusesRow plan side page number row why
    → IsOfBytes why → IfSome told (λ bytes. IsRefusalIn plan side asked page bytes why)
refusal_of_row plan side asked page told rows row old new number why light so-far next at (inl long) of-bytes =
    too_long_at plan side asked page told rows row old new number why light so-far next at (record { heavy = long.0; names_it = long.1 })
refusal_of_row plan side asked page told rows row old new number why light so-far next at (inr pool) of-bytes = absurd (rw pool.1 at of-bytes)

pub row_side : (plan : Query) (side : Side) (asked : SidePlan) (page number : ℕ) (row : List Value) (why : QueryErr) → RefusesRow plan side page number row why → IfSome (side_of why) (λ other. other ≡ side)
row_side plan side asked page number row why (inl long) = rw long.1 refl
row_side plan side asked page number row why (inr pool) = rw pool.1 tt

pub row_field : (plan : Query) (side : Side) (asked : SidePlan) (page number : ℕ) (row : List Value) (kinds : List Kind) (why : QueryErr) → RefusesRow plan side page number row why → NamesInt kinds why
row_field plan side asked page number row kinds why (inl long) = rw long.1 tt
row_field plan side asked page number row kinds why (inr pool) = rw pool.1 tt

pub row_fault : (plan : Query) (side : Side) (asked : SidePlan) (page number : ℕ) (row : List Value) (faults faults_now : ℕ) (why : QueryErr) → RefusesRow plan side page number row why → IsSourceFault why → Rose faults faults_now
row_fault plan side asked page number row faults faults_now why (inl long) fault = let is = long.1 in let other = fault.1 in absurd (cc)
row_fault plan side asked page number row faults faults_now why (inr pool) fault = let is = pool.1 in let other = fault.1 in absurd (cc)

-- and whatever it is, it speaks of that input
pub side_of_input : (side : Side) (e : InputErr) → IfSome (side_of (cause_of_input side e)) (λ other. other ≡ side)
side_of_input side input.Fault = refl
side_of_input side input.Memory = tt
side_of_input side input.TooLarge = refl
side_of_input side input.Header = refl
side_of_input side (input.Csv number) = refl
side_of_input side (input.Field number place) = refl

-- of the store it says no more than want of memory
pub stops_input : (P : PoolErr → Type 0) → P Memory → (side : Side) (e : InputErr) → OfPool P (cause_of_input side e)
stops_input P memory side input.Fault = tt
stops_input P memory side input.Memory = memory
stops_input P memory side input.TooLarge = tt
stops_input P memory side input.Header = tt
stops_input P memory side (input.Csv number) = tt
stops_input P memory side (input.Field number place) = tt

-- at the end, the rows are those of the input
pub ended_at : (plan : Query) (side : Side) (asked : SidePlan) (page : ℕ) (told now : Option (List ℕ)) (allowed : ℕ) (rows : List (List Value)) (rest : Option Typed) → All (IsLight plan page) rows
    → IsSoFar asked told rows rest → CountsBytes most_bytes told allowed now → Becomes (λ t. t) rest (Some nothing_more) → FitsLimit allowed now
    → IfSome told (λ bytes. IsAcceptedIn plan side asked page bytes × (rows ≡ rows_read asked bytes))
ended_at plan side asked page None now allowed rows rest light so-far counts here few = tt
ended_at plan side asked page (Some bytes) now allowed rows None light so-far counts here few = absurd so-far
ended_at plan side asked page (Some bytes) now allowed rows (Some rest) light so-far counts here few =
    let all : rows_of asked.columns bytes ≡ rows_then rows nothing_more = so-far ∙ ap (rows_then rows) here in (
      record { whole = ap (first_refusal plan side page) all ∙ none-behind plan side asked page rows light; fits = fits (Some bytes) now allowed counts few },
      sym (ap (λ (t : Typed). t.rows) all ∙ append-nil rows),
    )

counts_on : (told now later : Option (List ℕ)) (most allowed left : ℕ) → CountsBytes most told allowed now → CountsBytes allowed now left later → CountsBytes most told left later
counts_on None now later most allowed left old new = tt
counts_on (Some bytes) None later most allowed left old new = absurd old
counts_on (Some bytes) (Some rest) None most allowed left old new = absurd new
counts_on (Some bytes) (Some rest) (Some more) most allowed left old new = omega (arith, old, new)

one_more : (P : List Value → Type 0) (rows : List (List Value)) (row : List Value) → All P rows → P row → All P (rows ++ row ∷ [])
one_more P rows row all is = All-append P rows (row ∷ []) all only where
  only : (k : ℕ) (d : List Value) → k < 1 → P (slice_index_or (row ∷ []) k d)
  only zero d below = is
  only (suc k) d below = absurd (omega (arith, below))

-- nothing was read yet but the header
pub started : (plan : Query) (side : Side) (asked : SidePlan) (page : ℕ) (told : Option (List ℕ)) (feeds : List (List Value) → Type 0) (rest : Option Typed) (now : Option (List ℕ)) (allowed : ℕ)
    → feeds [] → Becomes (λ t. t) (option_map (rows_of asked.columns) told) rest → CountsBytes most_bytes told allowed now
    → IsReading plan side asked page told (fed_of 0 0) feeds rest now allowed
started plan side asked page told feeds rest now allowed none ok counts = record {
  rows = [];
  read = refl;
  kept = refl;
  light = λ k d below. absurd (omega (arith, below));
  formed = λ k d below. absurd (omega (arith, below));
  came = none;
  so_far = none-handed (option_map (rows_of asked.columns) told) rest ok;
  counts = counts;
}

-- a row was read, and fed if it passed
pub went_on : (plan : Query) (side : Side) (asked : SidePlan) (page : ℕ) (told : Option (List ℕ)) (fed : Fed) (read kept : ℕ) (row : List Value) (feeds later_feeds : List (List Value) → Type 0) (rest later : Option Typed) (now then : Option (List ℕ)) (allowed left : ℕ)
    → IsReading plan side asked page told fed feeds rest now allowed → IsLight plan page row → IsFed (kinds_of_columns asked.columns) row
    → ((rows : List (List Value)) → feeds rows → later_feeds (rows ++ filter (passes asked.preds) (row ∷ [])))
    → read ≡ fed.read + 1 → kept ≡ fed.kept + length (filter (passes asked.preds) (row ∷ []))
    → Becomes (row_then row) rest later → CountsBytes allowed now left then
    → IsReading plan side asked page told (fed_of read kept) later_feeds later then left
went_on plan side asked page told fed read kept row feeds later_feeds rest later now then allowed left before is formed more reads keeps next counts =
    let test = passes asked.preds in
    let split : filter test (before.rows ++ row ∷ []) ≡ filter test before.rows ++ filter test (row ∷ []) = filter-append test before.rows (row ∷ []) in
    let long = length-append before.rows (row ∷ []) in
    let longer = length-append (filter test before.rows) (filter test (row ∷ [])) in
    let many : length (filter test (before.rows ++ row ∷ [])) ≡ length (filter test before.rows ++ filter test (row ∷ [])) = ap length split in
    let was-read = before.read in
    let was-kept = before.kept in
    record {
      rows = before.rows ++ row ∷ [];
      read = omega (arith, reads, was-read, long);
      kept = omega (arith, keeps, was-kept, longer, many);
      light = one_more (IsLight plan page) before.rows row before.light is;
      formed = one_more (IsFed (kinds_of_columns asked.columns)) before.rows row before.formed formed;
      came = subst later_feeds (sym split) (more (filter test before.rows) before.came);
      so_far = row-handed before.rows row (option_map (rows_of asked.columns) told) rest later before.so_far next;
      counts = counts_on told now then most_bytes allowed left before.counts counts;
    }
