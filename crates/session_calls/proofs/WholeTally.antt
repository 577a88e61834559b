-- What all slots count, number by number.
use Rattle.std.proofs.Common.{◌≡◌, ℕ, ◌+◌, List, refl, ap, arith}
use Rattle.std.specs.List.{sum_by}
use Rattle.outside.specs.declared.slot.Slot.{Ghosts}
use Rattle.scratch_dev.specs.Rows.{stores_at, uncounted}
use Rattle.pin_core.specs.declared.parts.Parts.{Parts}
use Rattle.pin_core.specs.declared.tally.Tally.{Tally}
use Rattle.pin_core.specs.StateOf.{state_of}
use Rattle.pin_core.specs.calls.Runs.{strays_at, stuck, unstrayed}
use Rattle.pin_core.specs.Standing.{slots_home}
use Rattle.pin_core.specs.Tallies.{silence, Counted, tally_of}
use Rattle.session_calls.specs.declared.count.Count.{Count}
use Rattle.session_calls.specs.Outgoing.{number_out, tally_plus}

-- the same slots beside both count nothing more
pub counted_beside : (failures blocks stale : ℕ) (x y z : Tally) → Counted failures blocks stale x y → Counted failures blocks stale (tally_plus x z) (tally_plus y z)
counted_beside failures blocks stale x y z it =
    let loose = it.loose in
    let fall = it.never_fall in
    let stays = it.stays in
    let short = it.short in record {
      never_fall = omega (arith, fall);
      failed = λ free. let more = it.failed (omega (arith, free)) in omega (arith, more);
      stays = omega (arith, stays);
      stores = λ all. let more = it.stores (omega (arith, all)) in omega (arith, more);
      short = omega (arith, short);
      strays = λ all. let more = it.strays (omega (arith, all)) in omega (arith, more);
      loose = omega (arith, loose);
      silent = ap (λ (n : ℕ). n + z.silent) it.silent;
      slots = ap (λ (n : ℕ). n + z.slots) it.slots;
    }

module _ {D : Type 0} (slot : Ghosts D) where
  -- a number of a tally, and the measure of a slot of which it is the sum
  abbrev pub Sums : (Tally → ℕ) → (D → ℕ) → Type 0
  Sums number measure = (row : List D) → number (tally_of slot row) ≡ sum_by measure row

  -- the tally of these numbers
  abbrev pub tally_told : ((Tally → ℕ) → (D → ℕ) → ℕ) → Tally
  tally_told f = record {
    faults = f (λ t. t.faults) slot.faults;
    stuck = f (λ t. t.stuck) (stuck slot);
    stores = f (λ t. t.stores) (stores_at slot);
    uncounted = f (λ t. t.uncounted) (uncounted slot);
    strays = f (λ t. t.strays) (strays_at slot);
    unstrayed = f (λ t. t.unstrayed) (unstrayed slot);
    silent = f (λ t. t.silent) (silence slot);
    slots = f (λ t. t.slots) (λ d. 1);
  }

  pub told_same : (f g : (Tally → ℕ) → (D → ℕ) → ℕ) → ((number : Tally → ℕ) (measure : D → ℕ) → Sums number measure → f number measure ≡ g number measure) → tally_told f ≡ tally_told g
  told_same f g same = λ i. record {
    faults = same (λ t. t.faults) slot.faults (λ row. refl) i;
    stuck = same (λ t. t.stuck) (stuck slot) (λ row. refl) i;
    stores = same (λ t. t.stores) (stores_at slot) (λ row. refl) i;
    uncounted = same (λ t. t.uncounted) (uncounted slot) (λ row. refl) i;
    strays = same (λ t. t.strays) (strays_at slot) (λ row. refl) i;
    unstrayed = same (λ t. t.unstrayed) (unstrayed slot) (λ row. refl) i;
    silent = same (λ t. t.silent) (silence slot) (λ row. refl) i;
    slots = same (λ t. t.slots) (λ d. 1) (λ row. refl) i;
  }

  -- a number of all slots
  abbrev pub whole_by : List Count → Parts D → (Tally → ℕ) → (D → ℕ) → ℕ
  whole_by counts v number measure = slots_home measure v + number_out number counts (state_of v).pages
