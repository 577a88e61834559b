use Rattle.std.proofs.Common.{◌≡◌, ◌++◌, List, [], ◌∷◌, Option, arith, rules}
use Rattle.pool_model.specs.declared.entry.Entry.{Entry}
use Rattle.row_codec.specs.declared.values.Value.{Value}
use Rattle.partition_stack.specs.Leaving.{CameOfStore}
use Rattle.store_api.specs.declared.op_err.OpErr.TheVariants as op
use Rattle.partition_stack.specs.Slots.{IsWantBelowOf, IsWantOf}
use Rattle.join_op.specs.Operator.{Keeps, slots_for}
use Rattle.query_run.specs.Taking.{JoinGoes, join_slots}
use Rattle.query_run.proofs.Made.{join_makes_then, left_wants}
use Rattle.query_run.proofs.Taken.{join_goes_then, join_stops, left_feeds_then, left_still, no_right, pool_stops}
use Rattle.query_run.proofs.takes.LeftsTakes.take.Goals as goal

pub feed_left-requires-clause-op : goal.feed_left-requires-clause-op
feed_left-requires-clause-op g c = c.requires.stands.stands.is

pub feed_left-requires-clause-feeding : goal.feed_left-requires-clause-feeding
feed_left-requires-clause-feeding g c = c.requires.stands.stands.feeding

pub feed_left-requires-clause-row : goal.feed_left-requires-clause-row
feed_left-requires-clause-row g c = let short = c.requires.row.short in record { kinds = c.requires.row.kinds_are; short = omega (arith, short) }

pub feed_left-requires-clause-first : goal.feed_left-requires-clause-first
feed_left-requires-clause-first g c = c.requires.stands.first

pub returns-in-Ok-clause-ok : goal.returns-in-Ok-clause-ok
returns-in-Ok-clause-ok g c = λ first rows h s fed. left_feeds_then first.op _ _ rows (c.args.row.now ∷ []) h _ _ s _ _ fed (λ start lefts keeps. c.in-Ok.ensures.takes.keeps start lefts [] keeps)

pub returns-in-Ok-clause-stands : goal.returns-in-Ok-clause-stands
returns-in-Ok-clause-stands g c = record { stands = record { is = c.feed_left.ensures.takes.op; feeding = c.feed_left.ensures.takes.feeding }; first = no_right c.args.self.now.op c.feed_left.new.self c.requires.stands.first c.feed_left.ensures.right }

pub returns-in-Ok-clause-goes : goal.returns-in-Ok-clause-goes
returns-in-Ok-clause-goes g c = λ first h s before.
    let goes : JoinGoes c.args.self.now.op c.feed_left.new.self (g.St.Store.holds c.args.store.now) (g.St.Store.holds c.feed_left.new.store) (g.St.Store.signs c.args.store.now) (g.St.Store.signs c.feed_left.new.store) = record { leaves = c.feed_left.ensures.takes.leaves; slots = c.feed_left.ensures.takes.slots; same = c.feed_left.ensures.takes.same } in
    join_goes_then first.op _ _ h _ _ s _ _ before goes

pub returns-in-Ok-clause-still : goal.returns-in-Ok-clause-still
returns-in-Ok-clause-still g c =
    let goes : JoinGoes c.args.self.now.op c.feed_left.new.self (g.St.Store.holds c.args.store.now) (g.St.Store.holds c.feed_left.new.store) (g.St.Store.signs c.args.store.now) (g.St.Store.signs c.feed_left.new.store) = record { leaves = c.feed_left.ensures.takes.leaves; slots = c.feed_left.ensures.takes.slots; same = c.feed_left.ensures.takes.same } in
    left_still _ _ _ _ _ _ goes

pub returns-in-Err-Pool-clause-stands : goal.returns-in-Err-Pool-clause-stands
returns-in-Err-Pool-clause-stands g c = record { stands = record { is = c.feed_left.ensures.takes.op; feeding = c.feed_left.ensures.takes.feeding }; first = no_right c.args.self.now.op c.feed_left.new.self c.requires.stands.first c.feed_left.ensures.right }

pub returns-in-Err-Pool-clause-goes : goal.returns-in-Err-Pool-clause-goes
returns-in-Err-Pool-clause-goes g c = λ first h s before.
    let goes : JoinGoes c.args.self.now.op c.feed_left.new.self (g.St.Store.holds c.args.store.now) (g.St.Store.holds c.feed_left.new.store) (g.St.Store.signs c.args.store.now) (g.St.Store.signs c.feed_left.new.store) = record { leaves = c.feed_left.ensures.takes.leaves; slots = c.feed_left.ensures.takes.slots; same = c.feed_left.ensures.takes.same } in
    join_goes_then first.op _ _ h _ _ s _ _ before goes

pub returns-in-Err-Pool-clause-still : goal.returns-in-Err-Pool-clause-still
returns-in-Err-Pool-clause-still g c =
    let goes : JoinGoes c.args.self.now.op c.feed_left.new.self (g.St.Store.holds c.args.store.now) (g.St.Store.holds c.feed_left.new.store) (g.St.Store.signs c.args.store.now) (g.St.Store.signs c.feed_left.new.store) = record { leaves = c.feed_left.ensures.takes.leaves; slots = c.feed_left.ensures.takes.slots; same = c.feed_left.ensures.takes.same } in
    left_still _ _ _ _ _ _ goes

pub returns-in-Err-Pool-clause-cause : goal.returns-in-Err-Pool-clause-cause
returns-in-Err-Pool-clause-cause g c = λ first h s before.
    let is : c.in-Err-Pool.field-0 ≡ op.Pool c.in-Err-Pool.e = search rules in
    let came : CameOfStore c.args.self.now.op.left.page_blocks (g.St.Store.holds c.feed_left.new.store) (g.St.Store.signs c.args.store.now) (g.St.Store.signs c.feed_left.new.store) c.in-Err-Pool.field-0 = search rules in
    let want : IsWantOf c.args.self.now.op.left.page_blocks (join_slots c.args.self.now.op (g.St.Store.holds c.args.store.now) (g.St.Store.signs c.args.store.now)) c.in-Err-Pool.field-0 = search rules in
    join_stops first.op c.args.self.now.op h _ s _ _ c.in-Err-Pool.e before (pool_stops _ _ (g.St.Store.holds c.feed_left.new.store) _ _ _ c.in-Err-Pool.e is came want)

pub returns-in-Ok-clause-few : goal.returns-in-Ok-clause-few
returns-in-Ok-clause-few g c = λ first rows h s fed made. join_makes_then rows c.args.row.now s (g.St.Store.signs c.args.store.now) (g.St.Store.signs c.feed_left.new.store) made c.feed_left.ensures.takes.few

pub returns-in-Err-Pool-clause-few : goal.returns-in-Err-Pool-clause-few
returns-in-Err-Pool-clause-few g c = λ first rows h s fed made. join_makes_then rows c.args.row.now s (g.St.Store.signs c.args.store.now) (g.St.Store.signs c.feed_left.new.store) made c.feed_left.ensures.takes.few

pub returns-in-Err-Pool-clause-enough : goal.returns-in-Err-Pool-clause-enough
returns-in-Err-Pool-clause-enough g c = λ first rows h s fed goes.
    let join = c.args.self.now.op in
    let h1 = g.St.Store.holds c.args.store.now in
    let s1 = g.St.Store.signs c.args.store.now in
    let is : c.in-Err-Pool.field-0 ≡ op.Pool c.in-Err-Pool.e = search rules in
    let enough : (start : Option (List Entry)) (lefts rights : List (List Value)) → Keeps start lefts rights join h1 s1 → IsWantBelowOf (slots_for join h1 (lefts ++ c.args.row.now ∷ []) rights) (join_slots join h1 s1) c.in-Err-Pool.field-0 = search rules in
    left_wants first.op join rows c.args.row.now h h1 s s1 c.in-Err-Pool.field-0 c.in-Err-Pool.e is fed goes enough
