-- A page of a session ends, once it isn't written by another.
use Rattle.std.proofs.Common.{◌≡◌, ℕ, ◌+◌, ◌<◌, ◌≤◌, Bool, true, false, List, [], ◌∷◌, ◌++◌, refl, sym, ap, ◌∙◌, subst, arith}
use Rattle.std.proofs.lemmas.Bool.{false≢true}
use Rattle.std.proofs.lemmas.List.{append-nil}
use Rattle.outside.specs.declared.slot.Slot.{Ghosts}
use Rattle.block_arena.specs.Memory.{Buffer}
use Rattle.pool_model.specs.declared.event.Event.{Event}
use Rattle.pool_model.specs.declared.event.Event.TheVariants.{Destroy}
use Rattle.pool_model.specs.State.{Place, Pinned, Dirty, Flying, Loading, Clean, Evicted, Opening, page_at}
use Rattle.store_api.specs.Tokens.{PageToken}
use Rattle.store_api.specs.Holdings.{Holdings, page_of}
use Rattle.store_api.specs.Changes.{after_destroy}
use Rattle.store_api.specs.Conditions.{Fits, IsPage}
use Rattle.store_api.specs.Entries.{by}
use Rattle.own_entries.specs.OwnHoldings.{Outset, after_events}
use Rattle.own_entries.specs.AboveLaws.{AllBy}
use Rattle.pin_core.specs.declared.parts.Parts.{Parts}
use Rattle.pin_core.specs.StateOf.{state_of}
use Rattle.pin_core.specs.Standing.{Enters}
use Rattle.pin_core.specs.calls.Ending.{IsPinnedWith, IsUnpinned, destroy_entry, is_flying}
use Rattle.session_calls.proofs.Freed.{given_live}
use Rattle.session_calls.proofs.Pages.{is_there, pinned_with, rests_there}
use Rattle.session_calls.specs.declared.hand.Hand.{Hand}
use Rattle.session_calls.specs.Moving.{is_moving}
use Rattle.session_calls.specs.Acting.{Goes, held_by}
use Rattle.session_calls.specs.Having.{Sight, IsAtWork}
use Rattle.session_calls.specs.Jobs.{DoesIn}
use Rattle.session_calls.proofs.Alone.{none_moving}
use Rattle.session_calls.proofs.AtWork.{one_works, one_did}
use Rattle.session_calls.proofs.Did.{did_more, did_held}
use Rattle.session_calls.proofs.Doing.{does_none}
use Rattle.session_calls.proofs.Idle.{not_loading}
use Rattle.session_calls.proofs.Knowing.{Knows, knows}

-- a page that is written is in a job
flying_moves : (place : Place) → is_flying place ≡ true → is_moving place ≡ true
flying_moves (Flying writer) flies = refl
flying_moves (Pinned n) flies = flies
flying_moves Dirty flies = flies
flying_moves Loading flies = refl
flying_moves Clean flies = flies
flying_moves Evicted flies = flies

-- what is left goes down with each round, where a session that is alone has no second one
pub comes_down : (alone : Bool) (less left : ℕ) → (alone ≡ true → ⊥) → (alone ≡ false → less + 1 ≡ left) → less < left
comes_down true less left never beside = absurd (never refl)
comes_down false less left never beside = let one = beside refl in omega (arith, one)

module _ {D : Type 0} (slot : Ghosts D) (o : Opening) (u : Outset) (seen : Sight) (hand : Hand D) (is : IsAtWork slot o u seen hand) (p : PageToken) (held : IsPage p (held_by o u hand)) where
  abbrev h : Holdings
  h = held_by o u hand

  its : Knows o u hand
  its = knows slot o u hand is.ready

  pub pinned_whole : (buf : Buffer) → (1 ≤ (page_of p.name h).pins) × Fits (page_of p.name h).blocks h buf → IsPinnedWith (state_of hand.state) p buf
  pinned_whole buf pinned = pinned_with its p held buf pinned.0 pinned.1

  pub unpinned : (page_of p.name h).pins ≡ 0 → IsUnpinned (state_of hand.state) p
  unpinned none = rests_there its p held none (not_loading slot o u hand is.ready p held)

  module _ (new : Hand D) (trail : new.trail ≡ hand.trail ++ by hand.session (Destroy p.name ∷ [])) (session : new.session ≡ hand.session) (counts : new.counts ≡ hand.counts)
      (enters : Enters slot (destroy_entry (state_of hand.state) p.name ∷ []) [] [] hand.state new.state) where
    went_ended : Goes slot (Destroy p.name ∷ []) hand new
    went_ended = record {
      trail = trail;
      session = session;
      counts = counts;
      enters = subst (λ (m : ℕ). Enters slot (by m (Destroy p.name ∷ [])) [] [] hand.state new.state) (is_there its p held).whose enters;
    }

    pub works_ended : IsAtWork slot o u seen new
    works_ended = one_works slot o u seen hand new is (Destroy p.name) went_ended refl refl (after_destroy p.name h) refl (given_live (page_of p.name h) h.free_slots is.ready.rests.live) is.ready.rests.few

    pub did_ended : DoesIn (λ events. events ≡ Destroy p.name ∷ []) hand new
    did_ended = one_did slot o u seen hand new is (Destroy p.name) went_ended refl refl refl

  -- where the session is alone, no page of it is written
  pub flies_never : AllBy hand.session hand.trail → is_flying (page_at (state_of hand.state) p.name).place ≡ true → ⊥
  flies_never all flies =
      false≢true (sym (none_moving slot o u hand is.ready all p.name (page_at (state_of hand.state) p.name) (is_there its p held).page.lives) ∙ flying_moves (page_at (state_of hand.state) p.name).place flies)

-- while a session only waited
module _ {D : Type 0} (o : Opening) (u : Outset) (start now : Hand D) (none : DoesIn (λ events. events ≡ []) start now) where
  pub still_held : held_by o u now ≡ held_by o u start
  still_held = did_held o u start now none ∙ ap (after_events (held_by o u start)) none.does.is

  pub then_did : (events : List Event) (new : Hand D) → DoesIn (λ made. made ≡ events) now new → DoesIn (λ made. made ≡ events) start new
  then_did events new did = did_more start now new none did (ap (λ (es : List Event). es ++ did.does.events) none.does.is ∙ did.does.is)

  pub page_still : (p q : PageToken) → q ≡ p → IsPage p (held_by o u start) → IsPage q (held_by o u now)
  page_still p q same held = subst (λ (r : PageToken). IsPage r (held_by o u now)) (sym same) (subst (IsPage p) (sym still_held) held)

  pub pins_still : (p q : PageToken) → q ≡ p → (page_of p.name (held_by o u start)).pins ≡ 0 → (page_of q.name (held_by o u now)).pins ≡ 0
  pins_still p q same rests = subst (λ (r : PageToken). (page_of r.name (held_by o u now)).pins ≡ 0) (sym same) (subst (λ (h : Holdings). (page_of p.name h).pins ≡ 0) (sym still_held) rests)

  -- it waited once more, with the same value
  pub waits_more : (v : Parts D) (new : Hand D) → DoesIn (λ events. events ≡ []) (record now { state = v }) new → DoesIn (λ events. events ≡ []) start new
  waits_more v new did = then_did [] new (record { session = did.session; went = did.went; counts = did.counts; does = did.does })

pub waits_none : {D : Type 0} (hand : Hand D) → DoesIn (λ events. events ≡ []) hand hand
waits_none hand = record { session = refl; went = []; counts = sym (append-nil hand.counts); does = does_none hand.session hand.trail }

-- the same value in hand
pub same_hand : {D : Type 0} (hand : Hand D) (v : Parts D) (gone : List ℕ) → v ≡ hand.state → gone ≡ hand.gone → record hand { state = v; gone = gone } ≡ hand
same_hand hand v gone same told = λ i. record hand { state = same i; gone = told i }

pub same_works : {D : Type 0} (slot : Ghosts D) (o : Opening) (u : Outset) (seen : Sight) (hand : Hand D) (v : Parts D) (gone : List ℕ) → IsAtWork slot o u seen hand → v ≡ hand.state → gone ≡ hand.gone
    → IsAtWork slot o u seen (record hand { state = v; gone = gone })
same_works slot o u seen hand v gone is same told = subst (IsAtWork slot o u seen) (sym (same_hand hand v gone same told)) is
