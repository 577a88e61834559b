-- What the slots of a pool count while some are out with jobs: those at home as they are, and those of a page that is
-- written or loaded as they went.
use Rattle.std.specs.Prelude.{◌≡◌, ℕ, ◌+◌, ◌==◌, if◌then◌else◌, List, [], ◌∷◌, ◌++◌}
use Rattle.outside.specs.declared.slot.Slot.{Ghosts}
use Rattle.reservation_tree.specs.Total.{total}
use Rattle.pool_model.specs.declared.event.Event.{Event}
use Rattle.pool_model.specs.declared.event.Event.TheVariants.{PinLoad, StartWrite}
use Rattle.pool_model.specs.declared.entry.Entry.{Entry}
use Rattle.pool_model.specs.State.{Pages}
use Rattle.pin_core.specs.declared.parts.Parts.{Parts}
use Rattle.pin_core.specs.declared.tally.Tally.{Tally}
use Rattle.pin_core.specs.StateOf.{state_of}
use Rattle.pin_core.specs.Tallies.{Counted, all_failures, all_stale, tally_in, written_blocks}
use Rattle.session_calls.specs.declared.count.Count.{Count}
use Rattle.session_calls.specs.declared.count.Count.TheVariants.{Opening, Out}
use Rattle.session_calls.specs.Moving.{is_moving}

abbrev pub no_tally : Tally
no_tally = record { faults = 0; stuck = 0; stores = 0; uncounted = 0; strays = 0; unstrayed = 0; silent = 0; slots = 0 }

-- what all slots counted when the pool opened
abbrev pub opening_tally : List Count → Tally
opening_tally (Opening t ∷ counts) = t
opening_tally _ = no_tally

-- what the slots of this page counted when they went out last, or this
abbrev pub tally_or : Tally → ℕ → List Count → Tally
tally_or t p [] = t
tally_or t p (Opening u ∷ counts) = tally_or t p counts
tally_or t p (Out q u ∷ counts) = tally_or (if q == p then u else t) p counts

-- of all pages in jobs, one of the numbers that their slots counted when they went out
abbrev pub number_out : (Tally → ℕ) → List Count → Pages → ℕ
number_out number counts pages = total (λ p x. if is_moving x.place then number (tally_or no_tally p counts) else 0) pages

-- and all of them
abbrev pub tally_out : List Count → Pages → Tally
tally_out counts pages = record {
  faults = number_out (λ t. t.faults) counts pages;
  stuck = number_out (λ t. t.stuck) counts pages;
  stores = number_out (λ t. t.stores) counts pages;
  uncounted = number_out (λ t. t.uncounted) counts pages;
  strays = number_out (λ t. t.strays) counts pages;
  unstrayed = number_out (λ t. t.unstrayed) counts pages;
  silent = number_out (λ t. t.silent) counts pages;
  slots = number_out (λ t. t.slots) counts pages;
}

abbrev pub tally_plus : Tally → Tally → Tally
tally_plus t u = record {
  faults = t.faults + u.faults;
  stuck = t.stuck + u.stuck;
  stores = t.stores + u.stores;
  uncounted = t.uncounted + u.uncounted;
  strays = t.strays + u.strays;
  unstrayed = t.unstrayed + u.unstrayed;
  silent = t.silent + u.silent;
  slots = t.slots + u.slots;
}

-- what all slots count, those in jobs as they went out
abbrev pub tally_whole : {D : Type 0} → Ghosts D → List Count → Parts D → Tally
tally_whole slot counts v = tally_plus (tally_in slot v) (tally_out counts (state_of v).pages)

-- the pages whose slots went out, in their order, as counts tell it, and as a history does
abbrev pub pages_counted : List Count → List ℕ
pages_counted [] = []
pages_counted (Opening t ∷ counts) = pages_counted counts
pages_counted (Out p t ∷ counts) = p ∷ pages_counted counts

abbrev pub page_out : Event → List ℕ
page_out (StartWrite p) = p ∷ []
page_out (PinLoad p) = p ∷ []
page_out _ = []

abbrev pub pages_out : List Entry → List ℕ
pages_out [] = []
pages_out (e ∷ h) = page_out e.event ++ pages_out h

-- it was counted each time that slots went out; and all slots count what the history tells, beside what they counted
-- when the pool opened
pub record CountsWhole {D : Type 0} (slot : Ghosts D) (h : List Entry) (counts : List Count) (v : Parts D) : Type 0 where
  pub pages : pages_counted counts ≡ pages_out h
  pub counted : Counted (all_failures h) (written_blocks h) (all_stale h) (opening_tally counts) (tally_whole slot counts v)
