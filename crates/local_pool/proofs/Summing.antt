-- What the slots of one owner's pool count between calls: all of them are home, and count what the trail tells.
use Rattle.std.proofs.Common.{◌≡◌, ◌<◌, ◌+◌, ℕ, List, [], ◌∷◌, ◌++◌, length, Bool, false, if◌then◌else◌, Option, Some, None, refl, ap, subst, arith}
use Rattle.std.specs.FinMap.{get}
use Rattle.outside.specs.declared.slot.Slot.{Ghosts}
use Rattle.reservation_tree.proofs.Sums.{total-none}
use Rattle.pool_model.specs.State.{Opening as AnOpening, Page}
use Rattle.own_entries.specs.OwnHoldings.{Outset}
use Rattle.own_entries.specs.AboveLaws.{AllBy}
use Rattle.pin_core.specs.declared.parts.Parts.{Parts}
use Rattle.pin_core.specs.declared.tally.Tally.{Tally}
use Rattle.pin_core.specs.StateOf.{state_of}
use Rattle.pin_core.specs.Tallies.{Counted, all_failures, all_stale, tally_in, written_blocks}
use Rattle.session_calls.specs.declared.count.Count.{Count}
use Rattle.session_calls.specs.declared.count.Count.TheVariants.{Opening, Out}
use Rattle.session_calls.specs.declared.hand.Hand.{Hand}
use Rattle.session_calls.specs.Moving.{is_moving}
use Rattle.session_calls.specs.Outgoing.{no_tally, number_out, opening_tally, tally_or, tally_whole}
use Rattle.session_calls.specs.Ready.{IsReady}
use Rattle.session_calls.proofs.Alone.{none_moving}
use Rattle.local_pool.specs.Counting.{AtOpening, SumsHold}
use Rattle.local_pool.specs.Told.{opening_of, outset_of}
use Rattle.local_pool.specs.Standing.{Stands}

-- counts that follow leave what was counted first
pub opening_stays : (counts went : List Count) → 0 < length counts → opening_tally (counts ++ went) ≡ opening_tally counts
opening_stays [] went some = let never : 0 < 0 = some in absurd (let no : ⊥ = omega (arith, never) in no)
opening_stays (Opening t ∷ counts) went some = refl
opening_stays (Out p t ∷ counts) went some = refl

-- where no page is in a job
module _ {D : Type 0} (slot : Ghosts D) (counts : List Count) (v : Parts D) (rests : (p : ℕ) (x : Page) → get (state_of v).pages p ≡ Some x → is_moving x.place ≡ false) where
  at_home : (number : Tally → ℕ) (n : ℕ) → n + number_out number counts (state_of v).pages ≡ n
  at_home number n =
      let none : number_out number counts (state_of v).pages ≡ 0 =
      total-none (λ p x. if is_moving x.place then number (tally_or no_tally p counts) else 0) (state_of v).pages
      (λ p x is. ap (λ (b : Bool). if b then number (tally_or no_tally p counts) else 0) (rests p x is)) in
      omega (arith, none)

  pub all_home : tally_whole slot counts v ≡ tally_in slot v
  all_home = λ i. record {
    faults = at_home (λ t. t.faults) (tally_in slot v).faults i;
    stuck = at_home (λ t. t.stuck) (tally_in slot v).stuck i;
    stores = at_home (λ t. t.stores) (tally_in slot v).stores i;
    uncounted = at_home (λ t. t.uncounted) (tally_in slot v).uncounted i;
    strays = at_home (λ t. t.strays) (tally_in slot v).strays i;
    unstrayed = at_home (λ t. t.unstrayed) (tally_in slot v).unstrayed i;
    silent = at_home (λ t. t.silent) (tally_in slot v).silent i;
    slots = at_home (λ t. t.slots) (tally_in slot v).slots i;
  }

-- so it is of a session that is ready, and made the history alone
pub counted_home : {D : Type 0} (slot : Ghosts D) (o : AnOpening) (u : Outset) (own : Hand D) → IsReady slot o u own → AllBy own.session own.trail
    → Counted (all_failures own.trail) (written_blocks own.trail) (all_stale own.trail) (opening_tally own.counts) (tally_in slot own.state)
counted_home slot o u own ready all =
    subst (Counted (all_failures own.trail) (written_blocks own.trail) (all_stale own.trail) (opening_tally own.counts)) (all_home slot own.counts own.state (none_moving slot o u own ready all)) ready.whole.sums.counted

pub sums_hold : {D : Type 0} (slot : Ghosts D) (first : Option AtOpening) (own : Hand D) → Stands slot first own → SumsHold first own.trail (tally_in slot own.state)
sums_hold slot None own is = tt
sums_hold slot (Some first) own is =
    subst (λ (t : Tally). Counted (all_failures own.trail) (written_blocks own.trail) (all_stale own.trail) t (tally_in slot own.state)) is.sums (counted_home slot (opening_of slot own) (outset_of slot own.state) own is.ready is.alone)
