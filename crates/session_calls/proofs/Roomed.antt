-- A call that is no pin names no page that is stored.
use Rattle.pool_model.specs.declared.call.Call.{Call}
use Rattle.pool_model.specs.declared.call.Call.TheVariants.{Pin}
use Rattle.pool_model.specs.State.{State}
use Rattle.session_calls.specs.Wanting.{IsRoomCall, IsStoredFor}

pub stored_for : (s : State) (call : Call) → IsRoomCall call → IsStoredFor s call
stored_for s (Pin p) is = absurd is
stored_for s _ is = tt
