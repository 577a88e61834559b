-- What is promised of a plan's queries, once the pool over which they ran has closed.
use Rattle.std.proofs.Common.{◌≡◌, ◌∙◌, ◌*◌, ℕ, Bool, List, Option, Result, Ok, Err, IfOk, refl, sym, ap, subst}
use Rattle.outside.specs.Names.{Written}
use Rattle.outside.specs.declared.slot.Slot.{Ghosts}
use Rattle.pool_model.specs.State.{Opening}
use Rattle.pin_core.specs.calls.Setup.{IsOpeningOf}
use Rattle.pin_core.specs.declared.conf.PoolConf.{PoolConf}
use Rattle.pin_core.specs.Tallies.{tally_of}
use Rattle.pin_core.specs.declared.tally.Tally.{Tally}
use Rattle.turn_table.specs.Face.{Spot}
use Rattle.pool.specs.Opening.{ClosesWith}
use Rattle.pool.specs.declared.item.Item.{Item}
use Rattle.session_shares.specs.Shares.{LaidIsStored, NamesFit, PartsFit}
use Rattle.query_plan.specs.Rules.{KeepsRules}
use Rattle.query_plan.specs.declared.plan.Plan.{Plan}
use Rattle.query_run.specs.Spilling.{KeptIsLaid}
use Rattle.spill_top.specs.declared.ending.Ending.{Ending}
use Rattle.spill_top.specs.Pooled.{all_tell}
use Rattle.spill_top.specs.Reserving.{refusals_of}
use Rattle.spill_top.specs.Running.{HaveEnded, Seen, seen}
use Rattle.spill_top.specs.Storing.{HaveStored, all_owed}
use Rattle.spill_top.specs.Together.{RanTogether}
use Rattle.spill_top.proofs.Plans.{few_queries}
use Rattle.spill_top.proofs.Shared.{have_ended, have_stored}
use Rattle.spill_top.proofs.SharedStored.{each_runnable}

-- an opening has as many slots as it has
pub opening_so : (conf : PoolConf) (count : ℕ) (o : Opening) → IsOpeningOf conf count o → IsOpeningOf conf o.slots o
opening_so conf count o is = record { blocks = is.blocks; block_len = is.block_len; first_name = is.first_name; marked = is.marked; slots = refl }

module _ {D : Type 0} (slot : Ghosts D) (o : Opening) (told : Bool) (first : Tally) (pass : Spot Item) (slots : List D) (closed : ClosesWith slot o told first pass slots) (count : ℕ) (plan : Plan) (rules : KeepsRules count plan)
    (many : ℕ) (opening : IsOpeningOf (record { blocks = plan.blocks; block_len = plan.block_len; first_name = 0; profile = 1; trace = 0 }) many o) (before : Tally) (tell : told ≡ all_tell before) (same : first ≡ before)
    (files : List ℕ → Option (List ℕ)) (reads : List ℕ → ℕ) (written : List ℕ → Option Written) (created : List ℕ → Bool) (writes : List ℕ → ℕ)
    (files_now : List ℕ → Option (List ℕ)) (reads_now : List ℕ → ℕ) (written_now : List ℕ → Option Written) (created_now : List ℕ → Bool) (writes_now : List ℕ → ℕ)
    {V : Type 0} (items : V → List Ending) where
  abbrev start : Tally → Seen
  start slots = seen files reads written created writes slots

  abbrev now : Tally → Seen
  now slots = seen files_now reads_now written_now created_now writes_now slots

  -- how they ended
  pub ended_so : {E : Type 0} → (result : Result V E) → IfOk result (λ ends. RanTogether o told (refusals_of plan) (start first) (now first) plan.queries pass (items ends))
      → NamesFit → IfOk result (λ ends. HaveEnded (start before) (now (tally_of slot slots)) plan.block_len (refusals_of plan) plan.queries (items ends))
  ended_so (Err e) ran law = tt
  ended_so (Ok ends) ran law =
      subst (λ (n : ℕ). HaveEnded (start before) (now (tally_of slot slots)) n (refusals_of plan) plan.queries (items ends)) opening.block_len
      (subst (λ (t : Tally). HaveEnded (start t) (now (tally_of slot slots)) o.block_len (refusals_of plan) plan.queries (items ends)) same
      (have_ended slot o told first pass slots closed (start first) (now first) refl (refusals_of plan) plan.queries (items ends) ran law (tell ∙ ap all_tell (sym same)) opening.first_name (few_queries count plan rules) ran.as_many))

  -- and what the slots stored
  pub stored_so : {E : Type 0} → (result : Result V E) → IfOk result (λ ends. RanTogether o told (refusals_of plan) (start first) (now first) plan.queries pass (items ends)) → KeptIsLaid → LaidIsStored → PartsFit
      → IfOk result (λ ends. HaveStored plan.block_len (all_owed (plan.blocks * plan.block_len) files plan.queries (items ends)) before (tally_of slot slots))
  stored_so (Err e) ran spills law parts = tt
  stored_so (Ok ends) ran spills law parts =
      subst (λ (n : ℕ). HaveStored plan.block_len (all_owed (n * plan.block_len) files plan.queries (items ends)) before (tally_of slot slots)) opening.blocks
      (subst (λ (n : ℕ). HaveStored n (all_owed (o.blocks * n) files plan.queries (items ends)) before (tally_of slot slots)) opening.block_len
      (subst (λ (t : Tally). HaveStored o.block_len (all_owed (o.blocks * o.block_len) files plan.queries (items ends)) t (tally_of slot slots)) same
      (have_stored slot o told first pass slots closed (start first) (now first) refl (refusals_of plan) plan.queries (items ends) ran spills law parts (each_runnable plan.queries rules.queries))))
