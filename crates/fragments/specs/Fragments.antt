-- One fragment before and behind its work.
use Rattle.std.specs.Prelude.{◌≡◌, List, [], Option}
use Rattle.crossbeam_queue.specs.Passes.{IsPassOf, IsSamePass, view}
use Rattle.crossbeam_queue.specs.declared.array_queue.Doing.{Doing}
use Rattle.crossbeam_queue.specs.declared.array_queue.Slotted.{Slotted}
use Rattle.fragments.specs.declared.rule.Tally.{Tally}
use Rattle.fragments.specs.declared.place.Place.{Place}
use Rattle.fragments.specs.Balance.{tally}
use Rattle.fragments.specs.Running.{HasRun, MayRun}

module _ {T F C E Q A : Type 0} where
  -- a fragment may begin: its pass did nothing yet, and its feeder may be given what the queue admits
  pub record MayAt (queue : Slotted (Option T) (Doing T (Tally T)) Q A) (admits : T → Type 0) (ready : F → C → Type 0) (takes : F → C → T → Type 0)
      (took : F → C → F → C → List T → Type 0) (went : F → C → F → C → Type 0) (place : Place T E) (op : F) (beside : C) : Type 0 where
    pub pass : IsPassOf queue place.pass
    pub new : view place.pass ≡ tally 1 [] []
    pub may : MayRun admits ready takes op beside
    pub none : took op beside op beside []
    pub here : went op beside op beside

module _ {T F C E : Type 0} where
  -- a fragment has ended: its feeder took what its pass took, or was stopped
  pub record DidAt (took : F → C → F → C → List T → Type 0) (went : F → C → F → C → Type 0) (stops : F → C → C → E → Type 0)
      (place : Place T E) (op : F) (beside : C) (place' : Place T E) (op' : F) (beside' : C) : Type 0 where
    pub pass : IsSamePass place.pass place'.pass
    pub put : view place'.pass ≡ tally 1 [] (view place'.pass).taken
    pub run : HasRun took went stops op beside op' beside' (view place'.pass).taken place'.outcome
