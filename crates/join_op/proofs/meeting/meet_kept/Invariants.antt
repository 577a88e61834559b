use Rattle.std.proofs.Common.{[], ◌∷◌, take}
use Rattle.store_api.specs.Handing.{StandsBeside}
use Rattle.join_op.specs.Chunks.{kept_rows}
use Rattle.join_op.specs.Handing.{Emitted}
use Rattle.join_op.specs.Holding.{pairs_with}
use Rattle.join_op.specs.PairCalls.{took_by}
use Rattle.join_op.proofs.meeting.meet_kept.Given as goal

abbrev pub invariant-loop-right : goal.invariant-loop-right
invariant-loop-right g l = record {
  emitted : Emitted (took_by g.St.Store g.E.Emit l.fn.emit l.fn.store) (took_by g.St.Store g.E.Emit l.emit l.store) (pairs_with l.fn.turned l.fn.shape (l.fn.row.row.items ∷ []) (kept_rows (take l.right-index l.fn.kept)));
  stands : StandsBeside g.St.Store g.E.Emit l.fn.emit l.emit l.fn.store l.store;
}
