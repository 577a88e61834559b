-- How a session of a shared pool sees its calls.
use Rattle.std.specs.Prelude.{Bool, []}
use Rattle.pool_model.specs.State.{Opening}
use Rattle.session_calls.specs.Calls.{View}
use Rattle.pool.specs.Items.{history}
use Rattle.pool.specs.Seating.{state_in}
use Rattle.pool.specs.Sitting.{Did, DidThese, Sitting, WasDeclined, held_by, signs_by}

-- a call, by the session's seat before and after, whatever others did meanwhile
abbrev pub seated : Opening → Bool → Sitting → Sitting → View
seated o told old new = record {
  holds = held_by o told old;
  signs = signs_by o old;
  opening = o;
  history = history new.spot.knows.seen;
  state = state_in o new.spot.knows.seen;
  did = λ P. Did P old new;
  same = DidThese [] old new;
  refused = λ t what. WasDeclined o told t what old new;
}
