-- Rows that were shared among groupings, as they write one answer.
use Rattle.std.proofs.Common.{◌≡◌, ◌∙◌, ◌<◌, List, [], arith, length, slice_index_or, sym, true}
use Rattle.reservation_tree.specs.declared.errors.PoolErr.{PoolErr}
use Rattle.row_codec.specs.declared.values.Value.{Value}
use Rattle.store_api.proofs.Answered.{answered_after, answered_before}
use Rattle.store_api.specs.declared.store.Store.{Ghosts as StoreGhosts}
use Rattle.group_op.specs.Operator.{Operator, started}
use Rattle.query_plan.specs.declared.plan.Query.{Query}
use Rattle.query_run.specs.Gathering.{HoldLists}
use Rattle.query_run.specs.Parallel.{AllGo, AreShared, MayFeed}
use Rattle.query_run.specs.Plans.{shape_of}
use Rattle.query_run.specs.Several.{AllBegin, AllGrow, AllWork, AnsweredByOne, MayEnd, all_tell}
use Rattle.query_run.specs.Together.{AllWentOn}
use Rattle.query_run.proofs.Stores.{each_tells, works_alike, works_then}

module _ {St : Type 0} (under : StoreGhosts St) (plan : Query) where
  -- a grouping, as it doesn't matter which
  abbrev some_op : Operator
  some_op = started (record { session = 0; tracker = 0 }) plan.page_blocks (shape_of plan)

  -- what was fed to groupings that had begun
  pub hold_lists : (old now : List St) (ops ops' : List Operator) (rows : List (List Value)) → MayFeed under plan old ops → AllBegin under plan old ops → AllGo under old now ops ops' → all_tell under old ≡ true
      → (shared : AreShared under old now ops ops' rows) → HoldLists under now ops' shared.lists
  hold_lists old now ops ops' rows may begin go tell shared =
      let many = may.many in
      let more = go.many in
      record {
        len = shared.len ∙ sym go.many;
        each = λ k d f below.
            let inside : k < length ops = omega (arith, below, more) in
            let at : k < length old = omega (arith, inside, many) in
            let keeps = (begin.each k d f at).keeps in
            ((go.each k d f inside).went.leaves.others.told ∙ each_tells under old tell k d at, (shared.each k d f inside _ [] keeps).holds);
      }

  -- an answer of a later call is one of both
  pub answered_later : (old now after : List St) (ops ops' : List Operator) (e : PoolErr) → MayFeed under plan old ops → AllGo under old now ops ops' → AnsweredByOne under now after e → AnsweredByOne under old after e
  answered_later old now after ops ops' e may go one =
      let many = may.many in
      let len = go.len in
      let below = one.below in
      record {
        at = one.at;
        below = omega (arith, below, len);
        answered = λ d. answered_before e _ _ _ (go.each one.at d some_op (omega (arith, below, len, many))).went.leaves.grows (one.answered d);
      }

  -- calls left each grouping one that may end
  pub ends_then : (now after : List St) (ops ops' : List Operator) → length ops ≡ length now → AllWentOn under now after ops ops' → MayEnd under after ops'
  ends_then now after ops ops' same went =
      let len = went.len in
      let many = went.many in
      record { many = omega (arith, len, many, same); are = λ k d f below. (went.each k d f (omega (arith, below, many))).op }

  -- and of the same client
  pub works_on : (first now after : List St) (ops ops' : List Operator) → AllWentOn under now after ops ops' → AllWork under plan first now ops → AllWork under plan first after ops'
  works_on first now after ops ops' went works =
      let many = works.many in
      record {
        len = went.len ∙ works.len;
        many = went.many ∙ works.many;
        each = λ k d f below. works_then plan (slice_index_or ops k f) (slice_index_or ops' k f) _ _ _ _ _ _ (works.each k d f below) (went.each k d f (omega (arith, below, many)));
      }

  -- an answer between the start of groupings and their end is one of both
  pub answered_around : (old started after last : List St) (ops : List Operator) (e : PoolErr) → AllWork under plan old started ops → AllGrow under after last → length after ≡ length started → AnsweredByOne under started after e → AnsweredByOne under old last e
  answered_around old started after last ops e works grow same one =
      let len = works.len in
      let below = one.below in
      record {
        at = one.at;
        below = omega (arith, below, len);
        answered = λ d.
            let first = works_alike under plan old started ops works one.at d (omega (arith, below, len)) in
            answered_after e _ _ _ (answered_before e _ _ _ first.2 (one.answered d)) (grow.each one.at d (omega (arith, below, same)));
      }
