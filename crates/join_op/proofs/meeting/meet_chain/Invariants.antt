use Rattle.std.proofs.Common.{◌%◌}
use Rattle.std.specs.Prelude.{IfSome}
use Rattle.row_codec.specs.Order.{hash_of}
use Rattle.bucket_table.specs.Spreading.{spread}
use Rattle.bucket_table.specs.Tables.{HasNode}
use Rattle.store_api.specs.Handing.{StandsBeside}
use Rattle.join_op.specs.PairCalls.{took_by}
use Rattle.join_op.proofs.ChainWalks.{IsWalking, left_on}
use Rattle.join_op.proofs.meeting.meet_chain.Given as goal

abbrev pub invariant-chain : goal.invariant-chain
invariant-chain g l = record {
  walking : IsWalking l.fn.turned l.fn.shape l.fn.row.row.items (spread (hash_of l.fn.row.key.items) % l.fn.table.heads) (took_by g.St.Store g.E.Emit l.fn.emit l.fn.store) (took_by g.St.Store g.E.Emit l.emit l.store) l.fn.table.nodes l.next;
  there : IfSome l.next (λ p. HasNode p l.fn.table.nodes);
  stands : StandsBeside g.St.Store g.E.Emit l.fn.emit l.emit l.fn.store l.store;
}

abbrev pub decreases-chain : goal.decreases-chain
decreases-chain g l = left_on l.next
