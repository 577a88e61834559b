use Rattle.tuple_stream.proofs.FamilyHolds.{hold_all}
use Rattle.tuple_stream.proofs.FamilyLawsHold.{calls_are_steps, keep_themselves}
use Rattle.tuple_stream.proofs.laws.law_streams_beside.Goals as goal

pub returns : goal.returns
returns c = record { calls = calls_are_steps; none = keep_themselves; hold = hold_all }
