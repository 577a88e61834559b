-- Steps of the reading of an input whose rows go to fragments.
use Rattle.std.proofs.Common.{◌≡◌, ◌≢◌, ◌∙◌, ◌≤◌, ◌<◌, ◌+◌, ◌-◌, ◌*◌, ◌^◌, ◌++◌, ◌∷◌, ◌⊎◌, ℕ, List, [], Some, ap, append-nil, arith, filter, inl, length, min, refl, subst, sym}
use Rattle.std.proofs.lemmas.List.Elements.{All-filter}
use Rattle.std.specs.Io.KnownBytes.{IsAtEnd}
use Rattle.std.specs.List.{flat_map}
use Rattle.std.specs.Option.{option_map}
use Rattle.outside.specs.Counts.{Rose}
use Rattle.outside.specs.declared.stream.Source.{Ghosts as SourceGhosts}
use Rattle.row_codec.specs.declared.values.Value.{Value}
use Rattle.scan_filter.specs.Passes.{passes}
use Rattle.csv_edge.specs.Rows.{Becomes, CountsBytes, FitsLimit, IsOfRecord, IsOpen, NamesInt, PassesLimit, bytes_allowed, kinds_in, records_allowed, rest_of}
use Rattle.csv_edge.specs.Typed.{nothing_more, refused_here, row_then}
use Rattle.csv_edge.specs.declared.refusal.InputErr.{InputErr}
use Rattle.csv_edge.specs.declared.refusal.InputErr.TheVariants as fault
use Rattle.reservation_tree.specs.declared.errors.PoolErr.TheVariants.{Memory}
use Rattle.query_plan.specs.declared.outcome.QueryErr.TheVariants.{RowTooLong, SinkFault}
use Rattle.query_plan.specs.declared.plan.Side.TheVariants.{Left}
use Rattle.fragments.specs.Causes.{MayGive}
use Rattle.query_run.specs.Batches.{MayBeFed, rows_in}
use Rattle.query_run.specs.Causes.{IsSourceFault, cause_of_input}
use Rattle.query_run.specs.FedRows.{IsFed}
use Rattle.query_run.specs.Feeding.{RefusesRow}
use Rattle.query_run.specs.Input.{most_bytes, most_records, rows_of, weight_of}
use Rattle.query_run.specs.Passing.{HasGiven, HasGivenAt, HasGone, Input, IsOpenAt, MayGiveMore, StopsReading}
use Rattle.query_run.specs.Plans.{IsSide, kinds_of_columns}
use Rattle.query_run.specs.SoFar.{IsLight, IsReading, fed_of}
use Rattle.query_run.specs.declared.passing.PassingRows.{PassingRows}
use Rattle.query_run.specs.declared.passing.Stage.{Stage}
use Rattle.query_run.specs.declared.passing.Stage.TheVariants.{Reading, Ended, Stopped}
use Rattle.query_run.proofs.Reading.{ended_at, int_of_input, no_sums, refusal_of_input, refusal_of_row, row_fault, row_field, row_side, side_of_input, started, stops_input, went_on}

pub reading_is_not_stopped : (s : Stage) → s ≡ Reading → s ≢ Stopped
reading_is_not_stopped s is = λ same. absurd (cc)

pub not_of_sink : (e : InputErr) → cause_of_input Left e ≢ SinkFault
not_of_sink fault.Fault = λ same. absurd (cc)
not_of_sink fault.Header = λ same. absurd (cc)
not_of_sink (fault.Csv number) = λ same. absurd (cc)
not_of_sink (fault.Field number column) = λ same. absurd (cc)
not_of_sink fault.TooLarge = λ same. absurd (cc)
not_of_sink fault.Memory = λ same. absurd (cc)

of_source : (e : InputErr) → IsSourceFault (cause_of_input Left e) → e ≡ fault.Fault
of_source fault.Fault is = refl
of_source fault.Header is = let same = is.1 in absurd (cc)
of_source (fault.Csv number) is = let same = is.1 in absurd (cc)
of_source (fault.Field number column) is = let same = is.1 in absurd (cc)
of_source fault.TooLarge is = let same = is.1 in absurd (cc)
of_source fault.Memory is = let same = is.1 in absurd (cc)

rose_from : (first before now : ℕ) → first ≤ before → Rose before now → Rose first now
rose_from first before now fell rose = λ below. let more = rose below in omega (arith, fell, more)

module _ {S R B : Type 0} (src : SourceGhosts S) (input : Input) where
  at-stage : (g : PassingRows S R B) (passing : List (List Value)) (s t : Stage) → s ≡ t → HasGivenAt src input s g passing → HasGivenAt src input t g passing
  at-stage g passing s t is has = subst (λ (u : Stage). HasGivenAt src input u g passing) is has

  -- a row was read, and given if it passes
  pub given_more : (a b : PassingRows S R B) (row : List Value) → a.stage ≡ Reading → b.stage ≡ Reading → b.read ≡ a.read + 1 → b.kept ≡ a.kept + length (filter (passes input.plan.left.preds) (row ∷ []))
      → IsLight input.plan input.page row → IsFed (kinds_of_columns input.plan.left.columns) row
      → Becomes (row_then row) (rest_of src.remaining a.rows) (rest_of src.remaining b.rows)
      → CountsBytes (bytes_allowed a.rows) (src.remaining a.rows.src.now) (bytes_allowed b.rows) (src.remaining b.rows.src.now)
      → (passing : List (List Value)) → HasGiven src input a passing → HasGiven src input b (passing ++ filter (passes input.plan.left.preds) (row ∷ []))
  given_more a b row was is read kept light formed next counts passing given =
      let more = filter (passes input.plan.left.preds) (row ∷ []) in
      let before = at-stage a passing a.stage Reading was given in
      at-stage b (passing ++ more) Reading b.stage (sym is)
      (went_on input.plan Left input.plan.left input.page input.told (fed_of a.read a.kept) b.read b.kept row (λ rows. rows ≡ passing) (λ rows. rows ≡ passing ++ more)
      (rest_of src.remaining a.rows) (rest_of src.remaining b.rows) (src.remaining a.rows.src.now) (src.remaining b.rows.src.now) (bytes_allowed a.rows) (bytes_allowed b.rows)
      before light formed (λ rows same. ap (λ (r : List (List Value)). r ++ more) same) read kept next counts)

  -- the input has ended
  pub given_whole : (a b : PassingRows S R B) → a.stage ≡ Reading → b.stage ≡ Ended → b.read ≡ a.read → b.kept ≡ a.kept → a.read < 2 ^ 32
      → Becomes (λ t. t) (rest_of src.remaining a.rows) (Some nothing_more) → FitsLimit (bytes_allowed a.rows) (src.remaining a.rows.src.now) → IsAtEnd (src.remaining b.rows.src.now)
      → (passing : List (List Value)) → HasGiven src input a passing → HasGiven src input b (passing ++ [])
  given_whole a b was is read kept few here fits end passing given =
      let before = at-stage a passing a.stage Reading was given in
      let count = before.read in
      at-stage b (passing ++ []) Ended b.stage (sym is) (
        record {
          rows = before.rows;
          read = read ∙ before.read;
          kept = kept ∙ before.kept;
          few = omega (arith, count, few);
          formed = All-filter (passes input.plan.left.preds) (IsFed (kinds_of_columns input.plan.left.columns)) before.rows before.formed;
          came = before.came ∙ sym (append-nil passing);
          are = ended_at input.plan Left input.plan.left input.page input.told _ _ before.rows _ before.light before.so_far before.counts here fits;
        },
        end,
      )

  -- it goes on as long as something is given behind what was
  pub gone_on : (from a b : PassingRows S R B) (more : List (List Value)) → a.stage ≢ Stopped → ((passing : List (List Value)) → HasGiven src input a passing → HasGiven src input b (passing ++ more))
      → src.faults a.rows.src.now ≤ src.faults b.rows.src.now → b.rows.src.ghost_name ≡ a.rows.src.ghost_name → HasGone src input from a → HasGone src input from b
  gone_on from a b more going given faults same gone =
      let was = gone.given going in
      let before = gone.faults in
      record { given = λ other. (was.0 ++ more, given was.0 was.1); faults = omega (arith, before, faults); same = same ∙ gone.same }

  -- it was stopped
  pub gone_and_stopped : (from a b : PassingRows S R B) → b.stage ≡ Stopped → src.faults a.rows.src.now ≤ src.faults b.rows.src.now → b.rows.src.ghost_name ≡ a.rows.src.ghost_name → HasGone src input from a → HasGone src input from b
  gone_and_stopped from a b is faults same gone =
      let before = gone.faults in
      record { given = λ other. absurd (other is); faults = omega (arith, before, faults); same = same ∙ gone.same }

  -- why an input is refused
  pub stopped_by_input : (a b : PassingRows S R B) (e : InputErr) → a.stage ≡ Reading → IsSide input.plan.left → kinds_in a.rows ≡ kinds_of_columns input.plan.left.columns
      → (IsOfRecord e → Becomes (λ t. t) (rest_of src.remaining a.rows) (Some (refused_here e))) → NamesInt e (kinds_in a.rows)
      → (e ≡ fault.TooLarge → Becomes (λ t. t) (rest_of src.remaining a.rows) (Some (refused_here fault.TooLarge)) ⊎ PassesLimit (bytes_allowed a.rows) (src.remaining a.rows.src.now))
      → (e ≡ fault.Fault → Rose (src.faults a.rows.src.now) (src.faults b.rows.src.now))
      → HasGone src input a a → StopsReading src input b (cause_of_input Left e)
  stopped_by_input a b e was side kinds refused names large rose gone =
      let some = gone.given (reading_is_not_stopped a.stage was) in
      let before = at-stage a some.0 a.stage Reading was some.1 in
      let faults = gone.faults in
      record {
        says = record {
          alone = side_of_input Left e;
          refused = refusal_of_input input.plan Left input.plan.left input.page input.told _ _ before.rows _ e before.light before.so_far before.counts refused large;
          field = int_of_input Left e (kinds_of_columns input.plan.left.columns) (no_sums input.plan.left.columns side.narrow) (subst (NamesInt e) kinds names);
          source_fault = λ is. rose_from input.faults _ _ faults (rose (of_source e is));
        };
        other = not_of_sink e;
        memory = stops_input (λ why. why ≡ Memory) refl Left e;
      }

  -- a row that weighs too much
  pub stopped_by_row : (a b : PassingRows S R B) (row : List Value) (bytes : ℕ) → a.stage ≡ Reading → bytes ≡ min (weight_of input.plan row) (2 ^ 64 - 1) → input.page < bytes
      → Becomes (row_then row) (rest_of src.remaining a.rows) (rest_of src.remaining b.rows)
      → HasGone src input a a → StopsReading src input b (RowTooLong Left (a.read + 1) bytes)
  stopped_by_row a b row bytes was is heavy next gone =
      let some = gone.given (reading_is_not_stopped a.stage was) in
      let before = at-stage a some.0 a.stage Reading was some.1 in
      let why = RowTooLong Left (a.read + 1) bytes in
      let count = before.read in
      let refuses : RefusesRow input.plan Left input.page (a.read + 1) row why = inl (omega (arith, is, heavy), ap (RowTooLong Left (a.read + 1)) is) in
      record {
        says = record {
          alone = row_side input.plan Left input.plan.left input.page (a.read + 1) row why refuses;
          refused = refusal_of_row input.plan Left input.plan.left input.page input.told before.rows row (rest_of src.remaining a.rows) (rest_of src.remaining b.rows) (a.read + 1) why before.light before.so_far next (omega (arith, count)) refuses;
          field = row_field input.plan Left input.plan.left input.page (a.read + 1) row (kinds_of_columns input.plan.left.columns) why refuses;
          source_fault = row_fault input.plan Left input.plan.left input.page (a.read + 1) row input.faults (src.faults b.rows.src.now) why refuses;
        };
        other = λ same. absurd (cc);
        memory = tt;
      }

  -- it may be asked once the header was read
  pub begins : (g : PassingRows S R B) → g.stage ≡ Reading → g.read ≡ 0 → g.kept ≡ 0 → g.plan.now ≡ input.plan → g.page ≡ input.page
      → IsSide input.plan.left → length input.plan.aggs ≤ 16 → input.page < 2 ^ 32
      → Becomes (λ t. t) (option_map (rows_of input.plan.left.columns) input.told) (rest_of src.remaining g.rows)
      → CountsBytes most_bytes input.told (bytes_allowed g.rows) (src.remaining g.rows.src.now)
      → IsOpen g.rows → kinds_in g.rows ≡ kinds_of_columns input.plan.left.columns → records_allowed g.rows + 1 ≡ most_records → input.faults ≤ src.faults g.rows.src.now
      → MayGive (MayBeFed {R = R} (kinds_of_columns input.plan.left.columns) (16 * length input.plan.aggs) input.page) (MayGiveMore src input)
      (λ (from : PassingRows S R B) batch. MayBeFed (kinds_of_columns input.plan.left.columns) (16 * length input.plan.aggs) input.page batch)
      (λ (from to : PassingRows S R B) batches. HasGiven src input to (flat_map rows_in batches)) (HasGone src input) g
  begins g is read kept plan page side aggs short first counts opened kinds records faults =
      let none : HasGiven src input g [] =
      at-stage g [] Reading g.stage (sym is)
      (subst (λ n. IsReading input.plan Left input.plan.left input.page input.told (fed_of n g.kept) (λ rows. rows ≡ []) (rest_of src.remaining g.rows) (src.remaining g.rows.src.now) (bytes_allowed g.rows)) (sym read)
      (subst (λ n. IsReading input.plan Left input.plan.left input.page input.told (fed_of 0 n) (λ rows. rows ≡ []) (rest_of src.remaining g.rows) (src.remaining g.rows.src.now) (bytes_allowed g.rows)) (sym kept)
      (started input.plan Left input.plan.left input.page input.told (λ rows. rows ≡ []) _ _ _ refl first counts))) in
      record {
        ready_is = record {
          plan_is = plan;
          page_is = page;
          side = side;
          aggs = aggs;
          short = short;
          kept_few = omega (arith, read, kept);
          is_open = subst (λ (s : Stage). IsOpenAt src input s g) (sym is) (opened, kinds, omega (arith, read, records));
        };
        admitted = λ x fits. fits;
        none = none;
        here = record { given = λ other. ([], none); faults = faults; same = refl };
      }
