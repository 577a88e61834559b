use Rattle.std.proofs.Common.{◌≡◌, [], ◌∷◌, ◌++◌, List, rules}
use Rattle.partition_stack.specs.Leaving.{CameOfStore}
use Rattle.partition_stack.specs.Slots.{IsWantBelowOf, IsWantOf}
use Rattle.partition_stack.specs.Stack.{over}
use Rattle.tuple_stream.specs.Families.{slots_in}
use Rattle.store_api.specs.declared.op_err.OpErr.TheVariants as op
use Rattle.row_codec.specs.declared.values.Value.{Value}
use Rattle.group_op.specs.Operator.{Holds, slots_for}
use Rattle.query_run.specs.Taking.{GroupGoes}
use Rattle.query_run.proofs.Going.{feeds_still}
use Rattle.query_run.proofs.Made.{group_makes_then, group_wants}
use Rattle.query_run.proofs.Taken.{group_feeds_then, group_goes_then, pool_stops, group_still, group_stops}
use Rattle.query_run.proofs.takes.GroupOpTakes.take.Goals as goal

pub feed-requires-clause-op : goal.feed-requires-clause-op
feed-requires-clause-op g c = c.requires.stands.is

pub feed-requires-clause-feeding : goal.feed-requires-clause-feeding
feed-requires-clause-feeding g c = c.requires.stands.feeding

pub feed-requires-clause-row : goal.feed-requires-clause-row
feed-requires-clause-row g c = record { kinds = c.requires.row.kinds_are; short = c.requires.row.short }

pub returns-in-Ok-clause-ok : goal.returns-in-Ok-clause-ok
returns-in-Ok-clause-ok g c = λ first rows h s fed. group_feeds_then _ _ _ rows (c.args.row.now ∷ []) h _ _ s _ _ fed c.in-Ok.ensures.keeps

pub returns-in-Ok-clause-stands : goal.returns-in-Ok-clause-stands
returns-in-Ok-clause-stands g c = record { is = c.feed.ensures.op; feeding = feeds_still c.args.self.now c.feed.new.self c.requires.stands.feeding c.feed.ensures.same }

pub returns-in-Ok-clause-goes : goal.returns-in-Ok-clause-goes
returns-in-Ok-clause-goes g c = λ first h s before.
    let goes : GroupGoes c.args.self.now c.feed.new.self (g.St.Store.holds c.args.store.now) (g.St.Store.holds c.feed.new.store) (g.St.Store.signs c.args.store.now) (g.St.Store.signs c.feed.new.store) = record { went = record { op = c.feed.ensures.op; client = c.feed.ensures.same.client; leaves = c.feed.ensures.leaves; slots = c.feed.ensures.slots }; same = c.feed.ensures.same } in
    group_goes_then first _ _ h _ _ s _ _ before goes

pub returns-in-Ok-clause-still : goal.returns-in-Ok-clause-still
returns-in-Ok-clause-still g c =
    let goes : GroupGoes c.args.self.now c.feed.new.self (g.St.Store.holds c.args.store.now) (g.St.Store.holds c.feed.new.store) (g.St.Store.signs c.args.store.now) (g.St.Store.signs c.feed.new.store) = record { went = record { op = c.feed.ensures.op; client = c.feed.ensures.same.client; leaves = c.feed.ensures.leaves; slots = c.feed.ensures.slots }; same = c.feed.ensures.same } in
    group_still _ _ _ _ _ _ goes

pub returns-in-Err-Pool-clause-stands : goal.returns-in-Err-Pool-clause-stands
returns-in-Err-Pool-clause-stands g c = record { is = c.feed.ensures.op; feeding = feeds_still c.args.self.now c.feed.new.self c.requires.stands.feeding c.feed.ensures.same }

pub returns-in-Err-Pool-clause-goes : goal.returns-in-Err-Pool-clause-goes
returns-in-Err-Pool-clause-goes g c = λ first h s before.
    let goes : GroupGoes c.args.self.now c.feed.new.self (g.St.Store.holds c.args.store.now) (g.St.Store.holds c.feed.new.store) (g.St.Store.signs c.args.store.now) (g.St.Store.signs c.feed.new.store) = record { went = record { op = c.feed.ensures.op; client = c.feed.ensures.same.client; leaves = c.feed.ensures.leaves; slots = c.feed.ensures.slots }; same = c.feed.ensures.same } in
    group_goes_then first _ _ h _ _ s _ _ before goes

pub returns-in-Err-Pool-clause-still : goal.returns-in-Err-Pool-clause-still
returns-in-Err-Pool-clause-still g c =
    let goes : GroupGoes c.args.self.now c.feed.new.self (g.St.Store.holds c.args.store.now) (g.St.Store.holds c.feed.new.store) (g.St.Store.signs c.args.store.now) (g.St.Store.signs c.feed.new.store) = record { went = record { op = c.feed.ensures.op; client = c.feed.ensures.same.client; leaves = c.feed.ensures.leaves; slots = c.feed.ensures.slots }; same = c.feed.ensures.same } in
    group_still _ _ _ _ _ _ goes

pub returns-in-Err-Pool-clause-cause : goal.returns-in-Err-Pool-clause-cause
returns-in-Err-Pool-clause-cause g c = λ first h s before.
    let is : c.in-Err-Pool.field-0 ≡ op.Pool c.in-Err-Pool.e = search rules in
    let came : CameOfStore c.args.self.now.parts.page_blocks (g.St.Store.holds c.feed.new.store) (g.St.Store.signs c.args.store.now) (g.St.Store.signs c.feed.new.store) c.in-Err-Pool.field-0 = search rules in
    let want : IsWantOf c.args.self.now.parts.page_blocks (slots_in (over c.args.self.now.parts (g.St.Store.holds c.args.store.now) (g.St.Store.signs c.args.store.now))) c.in-Err-Pool.field-0 = search rules in
    group_stops first c.args.self.now h _ s _ _ c.in-Err-Pool.e before (pool_stops _ _ (g.St.Store.holds c.feed.new.store) _ _ _ c.in-Err-Pool.e is came want)

pub returns-in-Ok-clause-few : goal.returns-in-Ok-clause-few
returns-in-Ok-clause-few g c = λ first rows h s fed made. group_makes_then first _ _ rows c.args.row.now h _ s _ _ fed made c.feed.ensures.makes

pub returns-in-Err-Pool-clause-few : goal.returns-in-Err-Pool-clause-few
returns-in-Err-Pool-clause-few g c = λ first rows h s fed made. group_makes_then first _ _ rows c.args.row.now h _ s _ _ fed made c.feed.ensures.makes

pub returns-in-Err-Pool-clause-enough : goal.returns-in-Err-Pool-clause-enough
returns-in-Err-Pool-clause-enough g c = λ first rows h s fed goes.
    let is : c.in-Err-Pool.field-0 ≡ op.Pool c.in-Err-Pool.e = search rules in
    let enough : (all : List (List Value)) → Holds all c.args.self.now (g.St.Store.holds c.args.store.now) (g.St.Store.signs c.args.store.now)
    → IsWantBelowOf (slots_for 16 c.args.self.now (g.St.Store.holds c.args.store.now) (all ++ c.args.row.now ∷ [])) (slots_in (over c.args.self.now.parts (g.St.Store.holds c.args.store.now) (g.St.Store.signs c.args.store.now))) c.in-Err-Pool.field-0 =
    search rules in
    group_wants first c.args.self.now rows c.args.row.now h _ s _ c.in-Err-Pool.field-0 c.in-Err-Pool.e is fed goes enough
