use Rattle.std.proofs.Common.{rules, ◌≡◌, ◌∙◌, ◌⊎◌, ◌+◌, ◌<◌, ◌≤◌, ◌^◌, ◌∷◌, ◌++◌, [], List, Some, true, false, not, arith, filter, length, subst, sym, refl}
use Rattle.std.proofs.lemmas.List.Elements.{All-filter}
use Rattle.std.proofs.lemmas.List.Filters.{length-filter_both}
use Rattle.std.specs.Option.{option_map}
use Rattle.std.specs.Prelude.{IfSome}
use Rattle.csv_edge.specs.Rows.{Becomes, CountsBytes, FitsLimit, IsOfRecord, NamesInt, PassesLimit, bytes_allowed, kinds_in, rest_of}
use Rattle.csv_edge.specs.Typed.{nothing_more, refused_here, row_then}
use Rattle.csv_edge.specs.declared.refusal.InputErr.TheVariants as input
use Rattle.row_codec.specs.declared.values.Value.{Value}
use Rattle.row_codec.specs.Row.{kinds_of}
use Rattle.reservation_tree.specs.declared.errors.PoolErr.{PoolErr}
use Rattle.reservation_tree.specs.declared.errors.PoolErr.TheVariants.{Memory}
use Rattle.scan_filter.specs.Passes.{passes}
use Rattle.csv_edge.proofs.Steps.{row-handed}
use Rattle.query_run.specs.Causes.{OfPool}
use Rattle.query_run.specs.FedRows.{IsFed}
use Rattle.query_run.specs.Feeding.{AreFirstOf, OfTaken, RefusesRow}
use Rattle.query_run.specs.Input.{most_bytes, rows_of, weight_of}
use Rattle.query_run.specs.Plans.{kinds_of_columns}
use Rattle.query_run.specs.Refused.{SaysOfSide, source}
use Rattle.query_run.specs.Through.{taken_of}
use Rattle.query_run.proofs.Fronts.{next_taken, none_taken, so_far_taken}
use Rattle.query_run.proofs.Going.{of_pool_so}
use Rattle.query_run.proofs.Taken.{still_then}
use Rattle.query_run.proofs.Weighing.{is_fed}
use Rattle.query_run.proofs.Reading.{ended_at, int_of_input, no_sums, refusal_of_header, refusal_of_input, refusal_of_row, row_fault, row_field, row_side, side_of_input, started, stops_input, went_on}
use Rattle.query_run.proofs.feeding.feed_side.Goals as goal

pub returns-in-Err-clause-input : goal.returns-in-Err-clause-input
returns-in-Err-clause-input g c =
    let columns = c.args.asked.now.columns in
    let told = g.S.Source.remaining c.args.source.now in
    let refused : IsOfRecord c.in-Err.e → IfSome told (λ bytes. rows_of columns bytes ≡ refused_here c.in-Err.e) = search rules in
    let large : c.in-Err.e ≡ input.TooLarge → IfSome told (λ bytes. (rows_of columns bytes ≡ refused_here input.TooLarge) ⊎ (most_bytes < length bytes)) = search rules in
    let names : NamesInt c.in-Err.e (kinds_of_columns columns) = search rules in
    let why = c.cause_of.ensures in
    record {
      alone = rw why (side_of_input c.args.side c.in-Err.e);
      refused = rw why (refusal_of_header c.args.plan.now c.args.side c.args.asked.now c.args.page told c.in-Err.e refused large);
      field = rw why (int_of_input c.args.side c.in-Err.e (kinds_of_columns columns) (no_sums columns c.requires.asked.narrow) names);
      source_fault = search rules;
    }

pub returns-in-Err-clause-pool : goal.returns-in-Err-clause-pool
returns-in-Err-clause-pool g c = rw c.cause_of.ensures (stops_input _ (c.requires.memory _) c.args.side c.in-Err.e)

pub returns-in-Err-next_into-clause-pool : goal.returns-in-Err-next_into-clause-pool
returns-in-Err-next_into-clause-pool g c = rw c.cause_of-in-Err-next_into.ensures (stops_input _ (c.requires.memory _) c.args.side c.in-Err-next_into.e)

pub loop-rows-init : goal.loop-rows-init
loop-rows-init g c =
    let told = g.S.Source.remaining c.args.source.now in
    let ok : Becomes (λ t. t) (option_map (rows_of c.args.asked.now.columns) told) (rest_of g.S.Source.remaining c.start.new.self) = search rules in
    let counts : CountsBytes most_bytes told (bytes_allowed c.start.new.self) (g.S.Source.remaining c.start.new.self.src.now) = search rules in (
      started c.args.plan.now c.args.side c.args.asked.now c.args.page told _ _ _ _ (c.requires.feeds, c.requires.makes) ok counts,
      c.requires.stands,
      c.requires.goes,
      record { kinds_same = refl; extra_same = refl; page_same = refl },
      search rules,
      search rules,
      search rules,
      search rules,
      search rules,
    )

pub returns-in-Ok-false-clause-ok : goal.returns-in-Ok-false-clause-ok
returns-in-Ok-false-clause-ok g c =
    let before = c.loop-rows.invariant.0 in
    let here : Becomes (λ t. t) (rest_of g.S.Source.remaining c.loop-rows.rows) (Some nothing_more) = search rules in
    let few : FitsLimit (bytes_allowed c.loop-rows.rows) (g.S.Source.remaining c.loop-rows.rows.src.now) = search rules in
    let count = c.loop-rows.invariant.6 in
    let read = before.read in
    record {
      rows = before.rows;
      read = before.read;
      kept = before.kept;
      few = omega (arith, count, read);
      formed = All-filter (passes c.args.asked.now.preds) (IsFed (kinds_of_columns c.args.asked.now.columns)) before.rows before.formed;
      came = before.came.0;
      are = ended_at c.args.plan.now c.args.side c.args.asked.now c.args.page (g.S.Source.remaining c.args.source.now) _ _ before.rows _ before.light before.so_far before.counts here few;
    }

pub returns-in-Err-next_into-clause-input : goal.returns-in-Err-next_into-clause-input
returns-in-Err-next_into-clause-input g c =
    let columns = c.args.asked.now.columns in
    let e = c.in-Err-next_into.e in
    let before = c.loop-rows.invariant.0 in
    let refused : IsOfRecord e → Becomes (λ t. t) (rest_of g.S.Source.remaining c.loop-rows.rows) (Some (refused_here e)) = search rules in
    let large : e ≡ input.TooLarge → Becomes (λ t. t) (rest_of g.S.Source.remaining c.loop-rows.rows) (Some (refused_here input.TooLarge)) ⊎ PassesLimit (bytes_allowed c.loop-rows.rows) (g.S.Source.remaining c.loop-rows.rows.src.now) = search rules in
    let names : NamesInt e (kinds_in c.loop-rows.rows) = search rules in
    let why = c.cause_of-in-Err-next_into.ensures in
    record {
      alone = rw why (side_of_input c.args.side e);
      refused = rw why (refusal_of_input c.args.plan.now c.args.side c.args.asked.now c.args.page _ _ _ before.rows _ e before.light before.so_far before.counts refused large);
      field = rw why (int_of_input c.args.side e (kinds_of_columns columns) (no_sums columns c.requires.asked.narrow) (subst (NamesInt e) c.loop-rows.invariant.5 names));
      source_fault = search rules;
    }

pub feed_row-requires-clause-takes : goal.feed_row-requires-clause-takes
feed_row-requires-clause-takes g c = c.loop-rows.invariant.3.kinds_same ∙ c.requires.kinds

pub feed_row-requires-clause-extra : goal.feed_row-requires-clause-extra
feed_row-requires-clause-extra g c = rw c.loop-rows.invariant.3.extra_same c.requires.extra

pub feed_row-requires-clause-page : goal.feed_row-requires-clause-page
feed_row-requires-clause-page g c = c.requires.page ∙ sym c.loop-rows.invariant.3.page_same

pub returns-in_err-feed_row-clause-input : goal.returns-in_err-feed_row-clause-input
returns-in_err-feed_row-clause-input g c =
    let e = c.in_err-feed_row.field-0.0 in
    let before = c.loop-rows.invariant.0 in
    let row = c.next_into.new.row.items in
    let refuses : RefusesRow c.args.plan.now c.args.side c.args.page (c.loop-rows.fed.read + 1) row e = search rules in
    let next : Becomes (row_then row) (rest_of g.S.Source.remaining c.loop-rows.rows) (rest_of g.S.Source.remaining c.next_into.new.self) = search rules in
    let number : c.loop-rows.fed.read + 1 ≡ length before.rows + 1 = let read = before.read in omega (arith, read) in
    let says : SaysOfSide c.args.plan.now c.args.side c.args.asked.now c.args.page (source (g.S.Source.remaining c.args.source.now) (g.S.Source.remaining c.next_into.new.self.src.now) (g.S.Source.faults c.args.source.now) (g.S.Source.faults c.next_into.new.self.src.now)) e = record {
      alone = row_side c.args.plan.now c.args.side c.args.asked.now c.args.page _ row e refuses;
      refused = refusal_of_row c.args.plan.now c.args.side c.args.asked.now c.args.page (g.S.Source.remaining c.args.source.now) before.rows row _ _ _ e before.light before.so_far next number refuses;
      field = row_field c.args.plan.now c.args.side c.args.asked.now c.args.page _ row (kinds_of_columns c.args.asked.now.columns) e refuses;
      source_fault = row_fault c.args.plan.now c.args.side c.args.asked.now c.args.page _ row _ _ e refuses;
    } in
    search (rules, says)

pub returns-in_err-feed_row-clause-pool : goal.returns-in_err-feed_row-clause-pool
returns-in_err-feed_row-clause-pool g c =
    let e = c.in_err-feed_row.field-0.0 in
    let all : OfPool (g.T.Takes.stops c.args.op.now (g.St.Store.holds c.args.store.now) (g.St.Store.signs c.args.store.now) (g.St.Store.signs c.feed_row.new.store)) e =
    c.in_err-feed_row.ensures.pool c.args.op.now _ _ c.loop-rows.invariant.2 in
    search (rules, all)

pub returns-in_err-feed_row-clause-goes : goal.returns-in_err-feed_row-clause-goes
returns-in_err-feed_row-clause-goes g c = c.feed_row.ensures.goes c.args.op.now _ _ c.loop-rows.invariant.2

pub overflow_add-fed-then-branch : goal.overflow_add-fed-then-branch
overflow_add-fed-then-branch g c =
    let before = c.loop-rows.invariant.0 in
    let test = passes c.args.asked.now.preds in
    let few = length-filter_both test (λ (row : List Value). not (test row)) (λ row. refl) before.rows in
    let kept = before.kept in
    let read = before.read in
    let count = c.loop-rows.invariant.6 in
    let fits : c.loop-rows.fed.kept + 1 < 2 ^ 64 = omega (arith, few, kept, read, count) in
    search (rules, fits)

pub loop-rows-preserved-then-branch : goal.loop-rows-preserved-then-branch
loop-rows-preserved-then-branch g c =
    let row = c.next_into.new.row.items in
    let test = passes c.args.asked.now.preds in
    let next : Becomes (row_then row) (rest_of g.S.Source.remaining c.loop-rows.rows) (rest_of g.S.Source.remaining c.next_into.new.self) = search rules in
    let counts : CountsBytes (bytes_allowed c.loop-rows.rows) (g.S.Source.remaining c.loop-rows.rows.src.now) (bytes_allowed c.next_into.new.self) (g.S.Source.remaining c.next_into.new.self.src.now) = search rules in
    let light : weight_of c.args.plan.now row ≤ c.args.page = search rules in
    let kinds : kinds_of row ≡ kinds_of_columns c.args.asked.now.columns = search rules in
    let formed = is_fed c.args.plan.now (kinds_of_columns c.args.asked.now.columns) row c.args.page kinds light c.requires.short in
    let passed : test row ≡ true = search rules in
    let one : length (filter test (row ∷ [])) ≡ 1 = rw passed refl in
    let kept : c.loop-rows.fed.kept + 1 ≡ c.loop-rows.fed.kept + length (filter test (row ∷ [])) = omega (arith, one) in
    let h0 = g.St.Store.holds c.args.store.now in
    let s0 = g.St.Store.signs c.args.store.now in
    let h1 = g.St.Store.holds c.loop-rows.store in
    let s1 = g.St.Store.signs c.loop-rows.store in
    let h2 = g.St.Store.holds c.feed_row.new.store in
    let s2 = g.St.Store.signs c.feed_row.new.store in
    let feeds : (rows : List (List Value)) → g.T.Takes.feeds c.args.op.now c.loop-rows.op rows h0 h1 s0 s1 × g.T.Takes.makes c.args.op.now c.loop-rows.op rows h0 s0 s1
    → g.T.Takes.feeds c.args.op.now c.feed_row.new.op (rows ++ filter test (row ∷ [])) h0 h2 s0 s2 × g.T.Takes.makes c.args.op.now c.feed_row.new.op (rows ++ filter test (row ∷ [])) h0 s0 s2 =
    let row-is : c.deref.result.now ≡ row = search rules in
    λ rows came. subst (λ (r : List Value). g.T.Takes.feeds c.args.op.now c.feed_row.new.op (rows ++ filter test (r ∷ [])) h0 h2 s0 s2 × g.T.Takes.makes c.args.op.now c.feed_row.new.op (rows ++ filter test (r ∷ [])) h0 s0 s2) row-is
    (c.in_ok-feed_row.ensures.feeds.1 c.args.op.now rows h0 s0 came.0, c.in_ok-feed_row.ensures.few c.args.op.now rows h0 s0 came.0 came.1) in (
      went_on c.args.plan.now c.args.side c.args.asked.now c.args.page _ c.loop-rows.fed _ _ row _ _ _ _ _ _ _ _ c.loop-rows.invariant.0 light formed
          feeds refl kept next counts,
      c.feed_row.ensures.stands,
      c.feed_row.ensures.goes c.args.op.now _ _ c.loop-rows.invariant.2,
      still_then _ _ _ _ _ _ _ _ _ c.loop-rows.invariant.3 c.feed_row.ensures.still,
      search rules,
      search rules,
      search rules,
      search rules,
      search rules,
    )

pub loop-rows-preserved : goal.loop-rows-preserved
loop-rows-preserved g c =
    let row = c.next_into.new.row.items in
    let test = passes c.args.asked.now.preds in
    let next : Becomes (row_then row) (rest_of g.S.Source.remaining c.loop-rows.rows) (rest_of g.S.Source.remaining c.next_into.new.self) = search rules in
    let counts : CountsBytes (bytes_allowed c.loop-rows.rows) (g.S.Source.remaining c.loop-rows.rows.src.now) (bytes_allowed c.next_into.new.self) (g.S.Source.remaining c.next_into.new.self.src.now) = search rules in
    let light : weight_of c.args.plan.now row ≤ c.args.page = search rules in
    let kinds : kinds_of row ≡ kinds_of_columns c.args.asked.now.columns = search rules in
    let formed = is_fed c.args.plan.now (kinds_of_columns c.args.asked.now.columns) row c.args.page kinds light c.requires.short in
    let passed : test row ≡ false = search rules in
    let none : length (filter test (row ∷ [])) ≡ 0 = rw passed refl in
    let kept : c.loop-rows.fed.kept ≡ c.loop-rows.fed.kept + length (filter test (row ∷ [])) = omega (arith, none) in
    let h0 = g.St.Store.holds c.args.store.now in
    let s0 = g.St.Store.signs c.args.store.now in
    let h1 = g.St.Store.holds c.loop-rows.store in
    let s1 = g.St.Store.signs c.loop-rows.store in
    let h2 = g.St.Store.holds c.feed_row.new.store in
    let s2 = g.St.Store.signs c.feed_row.new.store in
    let feeds : (rows : List (List Value)) → g.T.Takes.feeds c.args.op.now c.loop-rows.op rows h0 h1 s0 s1 × g.T.Takes.makes c.args.op.now c.loop-rows.op rows h0 s0 s1
    → g.T.Takes.feeds c.args.op.now c.feed_row.new.op (rows ++ filter test (row ∷ [])) h0 h2 s0 s2 × g.T.Takes.makes c.args.op.now c.feed_row.new.op (rows ++ filter test (row ∷ [])) h0 s0 s2 =
    let row-is : c.deref.result.now ≡ row = search rules in
    λ rows came. subst (λ (r : List Value). g.T.Takes.feeds c.args.op.now c.feed_row.new.op (rows ++ filter test (r ∷ [])) h0 h2 s0 s2 × g.T.Takes.makes c.args.op.now c.feed_row.new.op (rows ++ filter test (r ∷ [])) h0 s0 s2) row-is
    (c.in_ok-feed_row.ensures.feeds.1 c.args.op.now rows h0 s0 came.0, c.in_ok-feed_row.ensures.few c.args.op.now rows h0 s0 came.0 came.1) in (
      went_on c.args.plan.now c.args.side c.args.asked.now c.args.page _ c.loop-rows.fed _ _ row _ _ _ _ _ _ _ _ c.loop-rows.invariant.0 light formed
          feeds refl kept next counts,
      c.feed_row.ensures.stands,
      c.feed_row.ensures.goes c.args.op.now _ _ c.loop-rows.invariant.2,
      still_then _ _ _ _ _ _ _ _ _ c.loop-rows.invariant.3 c.feed_row.ensures.still,
      search rules,
      search rules,
      search rules,
      search rules,
      search rules,
    )

pub returns-in-Err-clause-enough : goal.returns-in-Err-clause-enough
returns-in-Err-clause-enough g c =
    let plan = c.args.plan.now in
    let asked = c.args.asked.now in
    let page = c.args.page in
    let told = g.S.Source.remaining c.args.source.now in
    let h = g.St.Store.holds c.args.store.now in
    let s = g.St.Store.signs c.args.store.now in
    let none = none_taken plan asked page told (λ rows. g.T.Takes.wants c.args.op.now rows h s Memory) c.requires.none in
    rw c.cause_of.ensures (stops_input (λ (why : PoolErr). OfTaken plan asked page told
    (λ rows. g.T.Takes.wants c.args.op.now rows h s why)) none c.args.side c.in-Err.e)

pub returns-in-Err-clause-few : goal.returns-in-Err-clause-few
returns-in-Err-clause-few g c = none_taken c.args.plan.now c.args.asked.now c.args.page (g.S.Source.remaining c.args.source.now) _ c.requires.makes

pub returns-in-Ok-false-clause-few : goal.returns-in-Ok-false-clause-few
returns-in-Ok-false-clause-few g c =
    let before = c.loop-rows.invariant.0 in
    so_far_taken c.args.plan.now c.args.asked.now c.args.page (g.S.Source.remaining c.args.source.now) before.rows _ _ before.light before.so_far before.came.1

pub returns-in-Err-next_into-clause-enough : goal.returns-in-Err-next_into-clause-enough
returns-in-Err-next_into-clause-enough g c =
    let plan = c.args.plan.now in
    let asked = c.args.asked.now in
    let page = c.args.page in
    let told = g.S.Source.remaining c.args.source.now in
    let h = g.St.Store.holds c.args.store.now in
    let s = g.St.Store.signs c.args.store.now in
    let none = none_taken plan asked page told (λ rows. g.T.Takes.wants c.args.op.now rows h s Memory) c.requires.none in
    rw c.cause_of-in-Err-next_into.ensures
    (stops_input (λ (why : PoolErr). OfTaken plan asked page told (λ rows. g.T.Takes.wants c.args.op.now rows h s why)) none c.args.side c.in-Err-next_into.e)

pub returns-in-Err-next_into-clause-few : goal.returns-in-Err-next_into-clause-few
returns-in-Err-next_into-clause-few g c =
    let before = c.loop-rows.invariant.0 in
    so_far_taken c.args.plan.now c.args.asked.now c.args.page (g.S.Source.remaining c.args.source.now) before.rows _ _ before.light before.so_far before.came.1

pub returns-in_err-feed_row-clause-few : goal.returns-in_err-feed_row-clause-few
returns-in_err-feed_row-clause-few g c =
    let before = c.loop-rows.invariant.0 in
    let plan = c.args.plan.now in
    let asked = c.args.asked.now in
    let page = c.args.page in
    let told = g.S.Source.remaining c.args.source.now in
    let row = c.next_into.new.row.items in
    let row-is : c.deref.result.now ≡ row = search rules in
    let next : Becomes (row_then row) (rest_of g.S.Source.remaining c.loop-rows.rows) (rest_of g.S.Source.remaining c.next_into.new.self) = search rules in
    let some = c.in_err-feed_row.ensures.few_then c.args.op.now (filter (passes asked.preds) before.rows) _ _ before.came.0 before.came.1 in
    let part : AreFirstOf some.0 (taken_of plan asked page (row ∷ [])) =
    subst (λ (r : List Value). AreFirstOf some.0 (taken_of plan asked page (r ∷ []))) row-is some.1 in
    next_taken plan asked page told before.rows some.0 row _ _ before.light
    (row-handed before.rows row (option_map (rows_of asked.columns) told) _ _ before.so_far next) part some.2

pub returns-in_err-feed_row-clause-enough : goal.returns-in_err-feed_row-clause-enough
returns-in_err-feed_row-clause-enough g c =
    let e = c.in_err-feed_row.field-0.0 in
    let before = c.loop-rows.invariant.0 in
    let plan = c.args.plan.now in
    let asked = c.args.asked.now in
    let page = c.args.page in
    let test = passes asked.preds in
    let told = g.S.Source.remaining c.args.source.now in
    let row = c.next_into.new.row.items in
    let row-is : c.deref.result.now ≡ row = search rules in
    let next : Becomes (row_then row) (rest_of g.S.Source.remaining c.loop-rows.rows) (rest_of g.S.Source.remaining c.next_into.new.self) = search rules in
    let handed = row-handed before.rows row (option_map (rows_of asked.columns) told) _ _ before.so_far next in
    let wants : List (List Value) → PoolErr → Type 0 = λ rows why. g.T.Takes.wants c.args.op.now rows (g.St.Store.holds c.args.store.now) (g.St.Store.signs c.args.store.now) why in
    let all : OfPool (λ why. OfTaken plan asked page told (λ rows. wants rows why)) e =
    of_pool_so (λ why. (some : List (List Value)) × AreFirstOf some (taken_of plan asked page (c.deref.result.now ∷ [])) × wants
    (filter test before.rows ++ some) why)
    (λ why. OfTaken plan asked page told (λ rows. wants rows why))
    (λ why some. next_taken plan asked page told before.rows some.0 row _ _ before.light handed
    (subst (λ (r : List Value). AreFirstOf some.0 (taken_of plan asked page (r ∷ []))) row-is some.1) some.2) e
    (c.in_err-feed_row.ensures.enough c.args.op.now (filter test before.rows) _ _ before.came.0 c.loop-rows.invariant.2) in
    search (rules, all)
