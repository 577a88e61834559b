-- A session's turn: what is true while the session has the value in hand, what it needs to end, and what is true then.
use Rattle.std.specs.Prelude.{◌≡◌, ℕ, List, [], ◌∷◌, ◌++◌, Bool}
use Rattle.std.specs.FinMap.{get}
use Rattle.std.specs.List.{AllByRecursion}
use Rattle.outside.specs.declared.slot.Slot.{Ghosts}
use Rattle.pool_model.specs.declared.entry.Entry.{Entry}
use Rattle.pool_model.specs.State.{Opening}
use Rattle.pool_model.specs.LookingBack.{made_by}
use Rattle.own_entries.specs.ClientLaws.{IsWholeIdle}
use Rattle.own_entries.specs.FitLaws.{FitsHeld}
use Rattle.pin_core.specs.StateOf.{state_of}
use Rattle.turn_table.specs.Knowledge.{HasTurn}
use Rattle.turn_table.specs.Face.{Spot}
use Rattle.session_calls.specs.declared.hand.Hand.{Hand}
use Rattle.session_calls.specs.Moving.{quota_at}
use Rattle.pin_core.specs.declared.tally.Tally.{Tally}
use Rattle.session_calls.specs.Having.{AllBeside, sight_of}
use Rattle.session_calls.specs.Ready.{IsReady}
use Rattle.session_calls.specs.Acting.{held_by as held_in_hand}
use Rattle.pool.specs.declared.item.Item.{Item}
use Rattle.pool.specs.declared.ledger.Ledger.{Ledger}
use Rattle.pool.specs.Items.{history, sight_in}
use Rattle.pool.specs.Seats.{quotas_in}
use Rattle.pool.specs.Standing.{IsMarked}
use Rattle.pool.specs.Taking.{Gives}
use Rattle.pool.specs.Sitting.{Sitting, Sits, held_by, shared}
use Rattle.pool.specs.Ledgers.{HasClients, TellsHeld}

module _ {D : Type 0} (slot : Ghosts D) (o : Opening) (told : Bool) (first : Tally) where
  -- a session that sat so has the value in hand, and its seat is here now: others alone entered items since
  pub record IsInTurn (was : Sitting) (spot : Spot Item) (hand : Hand D) : Type 0 where
    pub turn : HasTurn spot.knows
    pub rights : spot.knows.rights ≡ was.number ∷ []
    pub session : hand.session ≡ was.number
    pub ready : IsReady slot o (shared told) hand
    pub held : held_in_hand o (shared told) hand ≡ held_by o told was
    pub sight : sight_of hand ≡ sight_in first spot.knows.seen
    pub marked : AllByRecursion IsMarked spot.knows.seen
    pub quotas : (k : ℕ) → quota_at (state_of hand.state) k ≡ get (quotas_in spot.knows.seen) k
    pub own : made_by hand.trail was.number ≡ made_by (history was.spot.knows.seen) was.number
    pub more : List Entry
    pub grew : hand.trail ≡ history was.spot.knows.seen ++ more
    pub beside : AllBeside was.number more

  -- the turn may end: the session entered what came since it took the value, and its ledger has its clients
  pub record MayEndTurn (spot : Spot Item) (ledger : Ledger) (hand : Hand D) : Type 0 where
    pub turn : HasTurn spot.knows
    pub rights : spot.knows.rights ≡ hand.session ∷ []
    pub ready : IsReady slot o (shared told) hand
    pub gives : Gives slot o told first spot hand
    pub clients : HasClients ledger.accounts (held_in_hand o (shared told) hand)

module _ {D : Type 0} (o : Opening) (told : Bool) where
  -- the session sits again, and has seen what it entered; its ledger tells what it holds
  pub record SitsAgain (ledger : Ledger) (hand : Hand D) (s : Sitting) : Type 0 where
    pub seen : history s.spot.knows.seen ≡ hand.trail
    pub sits : Sits o told s
    pub tells : TellsHeld ledger (held_by o told s)
    pub fits : FitsHeld (held_by o told s)
    pub whole : IsWholeIdle (held_by o told s)
