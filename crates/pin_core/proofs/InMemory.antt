-- Pages that are in memory, and neither pinned nor charged.
use Rattle.std.proofs.Common.{◌≡◌, ℕ, true, false, refl, sym, ◌∙◌}
use Rattle.std.proofs.lemmas.Bool.{false≢true}
use Rattle.page_table.specs.declared.entry.Place.{Place as Spot}
use Rattle.page_table.specs.declared.entry.Place.TheVariants as spot
use Rattle.page_table.specs.declared.entry.Mem.{Mem}
use Rattle.page_table.specs.declared.entry.Mem.TheVariants as mem
use Rattle.pool_model.specs.Sums.{times_charged, is_in_memory}
use Rattle.pin_core.specs.declared.kept.Kept.{Kept}
use Rattle.pin_core.specs.declared.kept.Kept.TheVariants as kept
use Rattle.pin_core.specs.StateOf.{place_in}
use Rattle.pin_core.specs.Invariant.{is_home, is_pinned_spot, IsHeld, IsKeptOf}
use Rattle.pin_core.specs.parts.Flights.{is_held_mem}

pub held_mem : (len blocks : ℕ) (m : Mem) → IsHeld len blocks m → is_held_mem m ≡ true
held_mem len blocks (mem.Held buf) is = refl
held_mem len blocks (mem.Empty shell) is = absurd is
held_mem len blocks mem.Out is = absurd is

-- a page that is neither pinned nor charged, but in memory and with its slots at home
pub record IsHere (at : Spot) : Type 0 where
  pub free : times_charged (place_in at) ≡ 0
  pub inside : is_in_memory (place_in at) ≡ true
  pub home : is_home at ≡ true
  pub unpinned : is_pinned_spot at ≡ false

pub dirty_here : IsHere spot.Dirty
dirty_here = record { free = refl; inside = refl; home = refl; unpinned = refl }

pub clean_here : IsHere spot.Clean
clean_here = record { free = refl; inside = refl; home = refl; unpinned = refl }

pub home_kept : {D : Type 0} (at : Spot) → IsHere at → (blocks : ℕ) (k : Kept D) → IsKeptOf blocks at k → IsKeptOf blocks (spot.Pinned 1) k
home_kept at here blocks (kept.Empty shell) is = absurd (false≢true (sym here.unpinned ∙ is.0))
home_kept at here blocks (kept.Held row) is = (refl, is.1)
home_kept at here blocks kept.Out is = absurd (false≢true (sym is ∙ here.home))
