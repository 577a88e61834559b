-- Rows of an input that pass a plan's filter, as they are given in batches. Rows run from the first to the last.
use Rattle.std.specs.Prelude.{◌≡◌, ◌≢◌, ◌+◌, ◌≤◌, ◌<◌, ◌^◌, ◌++◌, ◌∷◌, ℕ, List, [], None, Option, ⊤, length}
use Rattle.std.specs.Io.KnownBytes.{IsAtEnd}
use Rattle.outside.specs.declared.stream.Source.{Ghosts as SourceGhosts}
use Rattle.row_codec.specs.declared.values.Value.{Value}
use Rattle.reservation_tree.specs.declared.errors.PoolErr.TheVariants.{Memory}
use Rattle.csv_edge.specs.Rows.{IsOpen, Rows, bytes_allowed, kinds_in, records_allowed, rest_of}
use Rattle.query_plan.specs.declared.outcome.QueryErr.{QueryErr}
use Rattle.query_plan.specs.declared.outcome.QueryErr.TheVariants.{SinkFault}
use Rattle.query_plan.specs.declared.plan.Query.{Query}
use Rattle.query_plan.specs.declared.plan.Side.TheVariants.{Left}
use Rattle.query_run.specs.Causes.{OfPool}
use Rattle.query_run.specs.Feeding.{HasFed}
use Rattle.query_run.specs.Input.{most_records}
use Rattle.query_run.specs.Plans.{IsSide, kinds_of_columns}
use Rattle.query_run.specs.Refused.{SaysOfSide, source}
use Rattle.query_run.specs.SoFar.{IsReading, fed_of}
use Rattle.query_run.specs.declared.passing.Found.{Found}
use Rattle.query_run.specs.declared.passing.Found.TheVariants.{Passes, Fails, End}
use Rattle.query_run.specs.declared.passing.PassingRows.{PassingRows}
use Rattle.query_run.specs.declared.passing.Stage.{Stage}
use Rattle.query_run.specs.declared.passing.Stage.TheVariants.{Reading, Ended, Stopped}

-- what is read: the left input of a plan, whose pages have so many bytes; the bytes that it had, where they are told, and its faults
pub record Input : Type 0 where
  pub plan : Query
  pub page : ℕ
  pub told : Option (List ℕ)
  pub faults : ℕ

-- what is left of a source
abbrev pub input_of : {S : Type 0} → SourceGhosts S → Query → ℕ → S → Input
input_of src plan page s = record { plan = plan; page = page; told = src.remaining s; faults = src.faults s }

-- nothing
abbrev pub no_input : Input
no_input = record {
  plan = record {
    page_blocks = 0;
    limit = 0;
    quota = 0;
    output = [];
    left = record { file = []; columns = []; preds = [] };
    right = None;
    on = [];
    group = [];
    aggs = [];
    fragments = 1;
  };
  page = 0;
  told = None;
  faults = 0;
}

-- of a row that was read, what was given
abbrev pub given_of : Found → List Value → List (List Value)
given_of Passes row = row ∷ []
given_of Fails row = []
given_of End row = []

module _ {S R B : Type 0} (src : SourceGhosts S) (input : Input) where
  -- so many rows were read, and of them these pass; or the input has ended, and these are all; or something stopped it
  abbrev pub HasGivenAt : Stage → PassingRows S R B → List (List Value) → Type 0
  HasGivenAt Reading g passing =
      IsReading input.plan Left input.plan.left input.page input.told (fed_of g.read g.kept) (λ rows. rows ≡ passing)
      (rest_of src.remaining g.rows) (src.remaining g.rows.src.now) (bytes_allowed g.rows)
  HasGivenAt Ended g passing =
      HasFed input.plan Left input.plan.left input.page input.told (fed_of g.read g.kept) (λ rows. rows ≡ passing) × IsAtEnd (src.remaining g.rows.src.now)
  HasGivenAt Stopped g passing = ⊥

  abbrev pub HasGiven : PassingRows S R B → List (List Value) → Type 0
  HasGiven g passing = HasGivenAt g.stage g passing

  -- all that pass were given
  pub record HasGivenAll (g : PassingRows S R B) (passing : List (List Value)) : Type 0 where
    pub fed : HasFed input.plan Left input.plan.left input.page input.told (fed_of g.read g.kept) (λ rows. rows ≡ passing)
    pub at_end : IsAtEnd (src.remaining g.rows.src.now)

  -- as long as it is read, the input is open, with the kinds of the plan, and so many records are allowed still
  abbrev pub IsOpenAt : Stage → PassingRows S R B → Type 0
  IsOpenAt Reading g = IsOpen g.rows × (kinds_in g.rows ≡ kinds_of_columns input.plan.left.columns) × (g.read + records_allowed g.rows + 1 ≡ most_records)
  IsOpenAt Ended g = ⊤
  IsOpenAt Stopped g = ⊤

  -- it may be asked for more
  pub record MayGiveMore (g : PassingRows S R B) : Type 0 where
    pub plan_is : g.plan.now ≡ input.plan
    pub page_is : g.page ≡ input.page
    pub side : IsSide input.plan.left
    pub aggs : length input.plan.aggs ≤ 16
    pub short : input.page < 2 ^ 32
    pub kept_few : g.kept ≤ g.read
    pub is_open : IsOpenAt g.stage g

  -- some rows were given, if nothing stopped it; no count of faults fell, and it reads the source that it was made over
  pub record HasGone (from g : PassingRows S R B) : Type 0 where
    pub given : g.stage ≢ Stopped → (passing : List (List Value)) × HasGiven g passing
    pub faults : input.faults ≤ src.faults g.rows.src.now
    pub same : g.rows.src.ghost_name ≡ from.rows.src.ghost_name

  -- what stopped it is so of the input
  pub record StopsReading (g : PassingRows S R B) (e : QueryErr) : Type 0 where
    pub says : SaysOfSide input.plan Left input.plan.left input.page (source input.told (src.remaining g.rows.src.now) input.faults (src.faults g.rows.src.now)) e
    pub other : e ≢ SinkFault
    pub memory : OfPool (λ why. why ≡ Memory) e

  -- one step of the reading
  pub record HasStepped (old new : PassingRows S R B) (found : Found) (row : List Value) : Type 0 where
    pub given : (passing : List (List Value)) → HasGiven old passing → HasGiven new (passing ++ given_of found row)
    pub falls : found ≢ End → records_allowed new.rows < records_allowed old.rows
    pub goes_on : found ≢ End → new.stage ≡ Reading
    pub ended : found ≡ End → new.stage ≡ Ended

-- an input was opened: its header was read, and no row of it
pub record IsOpened {S : Type 0} (src : SourceGhosts S) (input : Input) (rows : Rows S) : Type 0 where
  pub reading : IsReading input.plan Left input.plan.left input.page input.told (fed_of 0 0) (λ passing. passing ≡ []) (rest_of src.remaining rows) (src.remaining rows.src.now) (bytes_allowed rows)
  pub is_open : IsOpen rows
  pub kinds : kinds_in rows ≡ kinds_of_columns input.plan.left.columns
  pub records : records_allowed rows + 1 ≡ most_records
  pub faults : input.faults ≤ src.faults rows.src.now
