use Rattle.std.proofs.Common.{◌≡◌, ◌<◌, ◌⊎◌, [], IfSome, arith, length, refl, rules, subst}
use Rattle.std.specs.Option.{option_map}
use Rattle.query_plan.specs.declared.plan.Side.TheVariants.{Left}
use Rattle.query_run.specs.Parallel.{FedParallel}
use Rattle.csv_edge.specs.Rows.{Becomes, CountsBytes, IsOfRecord, NamesInt, bytes_allowed, rest_of}
use Rattle.csv_edge.specs.Typed.{refused_here}
use Rattle.csv_edge.specs.declared.refusal.InputErr.TheVariants as input
use Rattle.query_run.specs.Input.{most_bytes, rows_of}
use Rattle.query_run.specs.Passing.{Input}
use Rattle.query_run.specs.Plans.{kinds_of_columns}
use Rattle.query_run.specs.Refused.{source}
use Rattle.query_run.specs.Several.{AnsweredByOne}
use Rattle.query_run.proofs.Gives.{not_of_sink}
use Rattle.query_run.proofs.Reading.{int_of_input, no_sums, refusal_of_header, side_of_input, started, stops_input}
use Rattle.query_run.proofs.Shared.{all_still}
use Rattle.query_run.proofs.Stores.{may_end}
use Rattle.query_run.proofs.parallel.feed_all.Goals as goal

pub feed_rows-result-requires-clause-input : goal.feed_rows-result-requires-clause-input
feed_rows-result-requires-clause-input g c κs within = rw c.requires.input (refl, refl)

pub feed_rows-result-requires-clause-opened : goal.feed_rows-result-requires-clause-opened
feed_rows-result-requires-clause-opened g c κs within =
    let columns = c.args.plan.now.left.columns in
    let told = g.S.Source.remaining c.args.left.now in
    let first : Becomes (λ t. t) (option_map (rows_of columns) told) (rest_of g.S.Source.remaining c.start.new.self) = search rules in
    let counts : CountsBytes most_bytes told (bytes_allowed c.start.new.self) (g.S.Source.remaining c.start.new.self.src.now) = search rules in
    rw c.requires.input (record {
      reading = started c.args.plan.now Left c.args.plan.now.left c.args.page told (λ passing. passing ≡ []) _ _ _ refl first counts;
      is_open = search rules;
      kinds = search rules;
      records = search rules;
      faults = search rules;
    })

pub returns-in-Err : goal.returns-in-Err
returns-in-Err g c =
    let columns = c.args.plan.now.left.columns in
    let told = g.S.Source.remaining c.args.left.now in
    let e = c.in-Err.e in
    let refused : IsOfRecord e → IfSome told (λ bytes. rows_of columns bytes ≡ refused_here e) = search rules in
    let large : e ≡ input.TooLarge → IfSome told (λ bytes. (rows_of columns bytes ≡ refused_here input.TooLarge) ⊎ (most_bytes < length bytes)) = search rules in
    let names : NamesInt e (kinds_of_columns columns) = search rules in
    let why = c.cause_of.ensures in
    let some = c.requires.ops.some in
    record {
      shared = tt;
      read = tt;
      says = record {
        alone = rw why (side_of_input Left e);
        refused = rw why (refusal_of_header c.args.plan.now Left c.args.plan.now.left _ told e refused large);
        field = rw why (int_of_input Left e (kinds_of_columns columns) (no_sums columns c.requires.plan.left.narrow) names);
        source_fault = search rules;
      };
      cause = rw why (not_of_sink e);
      pool = rw why (stops_input (AnsweredByOne g.St.Store c.args.stores.now c.args.stores.now) (record { at = 0; below = omega (arith, some); answered = λ d. tt }) Left e);
      go = all_still g.St.Store c.args.plan.now c.args.stores.now c.args.ops.now c.requires.ops;
      ends = may_end g.St.Store c.args.stores.now c.args.stores.now c.args.ops.now c.args.ops.now c.requires.ops.many (all_still g.St.Store c.args.plan.now c.args.stores.now c.args.ops.now c.requires.ops);
      works = λ first works. works;
      faults = search rules;
    }

pub returns : goal.returns
returns g c =
    let is = c.requires.input in
    let rows = c.feed_rows-result.result.1 in
    let all : FedParallel g.St.Store c.args.plan.now (source (g.S.Source.remaining c.args.left.now) (g.S.Source.remaining rows.src.now) (g.S.Source.faults c.args.left.now) (g.S.Source.faults rows.src.now)) c.feed_rows-result.result.0 c.args.stores.now c.feed_rows-result.new.stores c.args.ops.now c.feed_rows-result.new.ops =
    subst (λ (i : Input). FedParallel g.St.Store c.args.plan.now (source i.told (g.S.Source.remaining rows.src.now) i.faults (g.S.Source.faults rows.src.now)) c.feed_rows-result.result.0 c.args.stores.now c.feed_rows-result.new.stores c.args.ops.now c.feed_rows-result.new.ops) is c.feed_rows-result.ensures.fed in
    search (rules, all)
