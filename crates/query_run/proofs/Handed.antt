-- What a grouping that handed its rows on leaves, where the emitter has no client.
use Rattle.std.proofs.Common.{◌≡◌, ℕ, Some, None, sym, ap, refl}
use Rattle.store_api.specs.Holdings.{Holdings}
use Rattle.store_api.specs.Signs.{Signs}
use Rattle.partition_stack.specs.Emitting.{LeavesBeside}
use Rattle.partition_stack.specs.Leaving.{LeavesOthers}
use Rattle.partition_stack.specs.Stack.{over}
use Rattle.group_op.specs.Finishing.{LeavesWith}
use Rattle.group_op.specs.Operator.{IsOperator, Operator}
use Rattle.query_run.specs.Inside.{GoesOn}

pub left_others : (t : ℕ) (old new : Holdings) (before after : Signs) → LeavesBeside t None old new before after → LeavesOthers t old new before after
left_others t old new before after left = record {
  others = record {
    block_len = left.block_len;
    session = left.session;
    query = left.query;
    limit = left.limit;
    live_clients = left.live_clients;
    told = left.told;
    reservation = left.reservation;
    others = λ u other. left.others u (λ same. other (ap Some (sym same))) (λ is. absurd cc);
    alone = λ is. absurd cc;
  };
  grows = left.grows;
  reserved = left.reserved;
  room = left.room;
}

pub goes_handed : (was now : Operator) (old new : Holdings) (before after : Signs) (n0 n1 : ℕ) → IsOperator now new after → now.client ≡ was.client
    → LeavesWith was.client.tracker None n0 n1 (over was.parts old before) (over now.parts new after) → GoesOn was now old new before after
goes_handed was now old new before after n0 n1 is client left = record {
  op = is;
  client = client;
  leaves = left_others was.client.tracker old new before after left.others;
  slots = left.slots.alone refl;
}
