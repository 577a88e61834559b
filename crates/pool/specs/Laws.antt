-- What a session shows at any time. The laws of the store cite this.
use Rattle.std.specs.Prelude.{Bool}
use Rattle.pool_model.specs.LookingBack.{made_by}
use Rattle.pool_model.specs.State.{Opening}
use Rattle.store_api.specs.Entries.{TellsLeft}
use Rattle.own_entries.proofs.LeftTold.{left_is_told}
use Rattle.session_calls.specs.Told.{held_in, signs_in}
use Rattle.pool.specs.Items.{history}
use Rattle.pool.specs.Sitting.{Sitting, held_by, shared, signs_by}

-- what is left in a page that rests is what the session left in it last
pub tells_left : (o : Opening) (told : Bool) (s : Sitting) → TellsLeft (held_by o told s) (signs_by o s).trail
unfolding held_in signs_in
tells_left o told s = left_is_told o.block_len s.number (shared told) (made_by (history s.spot.knows.seen) s.number)
