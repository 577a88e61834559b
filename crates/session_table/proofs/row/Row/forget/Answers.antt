-- One member after the other.
use Rattle.session_table.specs.Seats.{forgetting}
use Rattle.session_table.proofs.Rows.{map_more}
use Rattle.session_table.proofs.row.Row.forget.Goals as goal

pub loop-member-preserved : goal.loop-member-preserved
loop-member-preserved c = map_more forgetting c.deref_mut-member-items.result.now c.loop-member.member-items c.loop-member.member-index _ c.forget.new.self c.loop-member-test.true c.loop-member.auto.member-items c.loop-member.invariant c.forget.ensures
