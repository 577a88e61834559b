-- What the slots of a pool tell of a query over its one session, once the pool closed.
use Rattle.std.proofs.Common.{◌≡◌, ◌∙◌, ◌++◌, ℕ, Bool, true, List, Option, Result, IfErr, OnOk, inl, inr, refl, sym, ap, subst}
use Rattle.std.proofs.lemmas.Result.{IfErr-weaker, on_ok_weaker}
use Rattle.outside.specs.declared.slot.Slot.{Ghosts}
use Rattle.turn_table.specs.Face.{Spot}
use Rattle.pool_model.specs.LookingBack.{made_by}
use Rattle.pool_model.specs.Bytes.{bytes_of}
use Rattle.pool_model.specs.State.{Opening}
use Rattle.pool_model.specs.declared.entry.Entry.{Entry}
use Rattle.pin_core.specs.calls.Setup.{IsOpeningOf}
use Rattle.pin_core.specs.declared.conf.PoolConf.{PoolConf}
use Rattle.pin_core.specs.Tallies.{all_failures, all_stale, tally_of, written_blocks}
use Rattle.pin_core.specs.declared.tally.Tally.{Tally}
use Rattle.pool.specs.declared.item.Item.{Item}
use Rattle.pool.specs.Items.{history, own_in}
use Rattle.pool.specs.Opening.{ClosesWith}
use Rattle.pool.specs.Seating.{beginning_items}
use Rattle.pool.specs.Sitting.{held_by, signs_by}
use Rattle.pool.proofs.Beside.{own_beside}
use Rattle.session_shares.specs.Shares.{LaidIsStored, NamesFit, PartsFit}
use Rattle.query_plan.specs.Sizes.{least_of, page_len}
use Rattle.query_plan.specs.declared.plan.Query.{Query}
use Rattle.query_run.specs.Both.{both_told}
use Rattle.query_run.specs.Causes.{OfPool}
use Rattle.query_run.specs.Plans.{IsRunnable}
use Rattle.query_run.specs.Spilling.{KeptIsLaid}
use Rattle.query_plan.specs.declared.outcome.QueryErr.{QueryErr}
use Rattle.query_plan.specs.declared.outcome.Ran.{Ran}
use Rattle.spill_top.specs.Pooled.{ComeBack, HaveFailed, IsPoolStop, MaySpendNames, all_tell, memory_of}
use Rattle.spill_top.specs.Seated.{RanIfSeated, SatAlone}
use Rattle.spill_top.specs.Sides.{if_told}
use Rattle.spill_top.specs.Storing.{HaveStored, owed}
use Rattle.spill_top.proofs.Alone.{behind, made_alone, whole_on}
use Rattle.spill_top.proofs.Pools.{less, pool_stop, spent_names}
use Rattle.spill_top.proofs.Showing.{failures_told}
use Rattle.spill_top.proofs.Stored.{have_stored}

module _ {D : Type 0} (slot : Ghosts D) (o : Opening) (told : Bool) (first : Tally) (pass : Spot Item) (slots : List D) (closed : ClosesWith slot o told first pass slots) where
  abbrev whole : List Entry
  whole = history closed.items

  -- all slots are there again
  pub slots_back : ComeBack first (tally_of slot slots)
  slots_back = less (all_failures whole) (written_blocks whole) (all_stale whole) first (tally_of slot slots) closed.counted

  module _ (limit quota least : ℕ) (sat : SatAlone o told limit quota least pass) where
    -- the pool's history has the session's entries
    own_whole : made_by whole sat.last.number ≡ made_by (history sat.last.spot.knows.seen) sat.last.number ++ sat.went
    own_whole =
        subst (λ (m : ℕ). own_in m closed.items ≡ own_in m sat.last.spot.knows.seen ++ sat.went) (sym sat.number)
        (own_beside pass.knows.rights pass.knows.seen closed.items closed.grew sat.first.number sat.right ∙ sat.own)

  module _ (plan : Query) (quota : ℕ) (lefts rights : Option (List ℕ)) (result : Result Ran QueryErr) (ran : RanIfSeated o told plan quota pass lefts rights result) where
    -- why the pool stopped the query
    pub stopped_by : NamesFit → told ≡ all_tell first → o.first_name ≡ 0
        → IfErr result (OfPool (IsPoolStop plan (page_len plan o.block_len) (if_told (all_tell first) (both_told lefts rights)) quota (HaveFailed first (tally_of slot slots))))
    stopped_by law tell zero = elim ran [
      | inl memory ↦ subst (λ (r : Result Ran QueryErr). IfErr r (OfPool (IsPoolStop plan (page_len plan o.block_len) (if_told (all_tell first) (both_told lefts rights)) quota (HaveFailed first (tally_of slot slots))))) (sym memory) tt
      | inr alone ↦
          let sat : SatAlone o told plan.limit quota (least_of plan o.block_len) pass = alone.sat in
          let tells : all_tell first ≡ true → (held_by o told sat.first).told ≡ true = λ is. sat.begun.told ∙ tell ∙ is in
          let names : (signs_by o sat.last).spent ≡ true → MaySpendNames plan (if_told (all_tell first) (both_told lefts rights)) =
          spent_names plan (both_told lefts rights) (all_tell first) o sat.last.number sat.first.number (history sat.first.spot.knows.seen) (history sat.last.spot.knows.seen) (history (beginning_items sat.first.number sat.query plan.limit quota (least_of plan o.block_len)))
          (made_by (history sat.last.spot.knows.seen) sat.last.number) zero sat.came refl refl
          (made_alone slot o told first pass slots closed plan.limit quota (least_of plan o.block_len) sat law)
          (λ is. alone.over.made (tells is)) in
          IfErr-weaker result _ _
          (λ e may. pool_stop plan (page_len plan o.block_len) quota (both_told lefts rights) (held_by o told sat.first) (signs_by o sat.first) (signs_by o sat.last) (all_failures whole) (written_blocks whole) (all_stale whole) first (tally_of slot slots) e closed.counted
          (failures_told o sat.last.number (history sat.last.spot.knows.seen) (history (behind slot o told first pass slots closed plan.limit quota (least_of plan o.block_len) sat)) whole (whole_on slot o told first pass slots closed plan.limit quota (least_of plan o.block_len) sat))
          sat.begun.free_slots (ap (page_len plan) sat.begun.block_len) tells names may) alone.stop
    ]

    kept : KeptIsLaid → LaidIsStored → PartsFit → IsRunnable plan → OnOk result (HaveStored o.block_len (owed plan (bytes_of o.block_len o.blocks) (both_told lefts rights)) first (tally_of slot slots))
    kept spills law parts runs = elim ran [
      | inl memory ↦ subst (λ (r : Result Ran QueryErr). OnOk r (HaveStored o.block_len (owed plan (bytes_of o.block_len o.blocks) (both_told lefts rights)) first (tally_of slot slots))) (sym memory) tt
      | inr alone ↦
          let sat : SatAlone o told plan.limit quota (least_of plan o.block_len) pass = alone.sat in
          on_ok_weaker result
          (have_stored plan (page_len plan o.block_len) lefts rights o sat.first.number sat.last.number sat.query quota (least_of plan o.block_len) (history sat.first.spot.knows.seen) (history sat.last.spot.knows.seen) sat.went whole first (tally_of slot slots)
          spills law parts runs closed.legal
          (sat.came ∙ ap (λ (m : ℕ). history (beginning_items m sat.query plan.limit quota (least_of plan o.block_len))) (sym sat.number))
          (own_whole plan.limit quota (least_of plan o.block_len) sat) closed.counted)
          alone.kept
    ]

    -- what the slots stored, by the numbers that the pool opened with
    pub have_kept : (conf : PoolConf) (count : ℕ) → IsOpeningOf conf count o → KeptIsLaid → LaidIsStored → PartsFit → IsRunnable plan
        → OnOk result (HaveStored conf.block_len (owed plan (memory_of conf) (both_told lefts rights)) first (tally_of slot slots))
    have_kept conf count opening spills law parts runs =
        subst (λ (n : ℕ). OnOk result (HaveStored conf.block_len (owed plan (bytes_of conf.block_len n) (both_told lefts rights)) first (tally_of slot slots))) opening.blocks
        (subst (λ (n : ℕ). OnOk result (HaveStored n (owed plan (bytes_of n o.blocks) (both_told lefts rights)) first (tally_of slot slots))) opening.block_len (kept spills law parts runs))
