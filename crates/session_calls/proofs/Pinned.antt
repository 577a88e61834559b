-- A turn of a pin: the page is here, or its client lacks room for it.
use Rattle.std.proofs.Common.{◌≡◌, ◌⊎◌, ℕ, List, [], ◌∷◌, ◌++◌, Option, None, IsSome, refl, sym, ap, ◌∙◌, subst, inl, inr}
use Rattle.std.proofs.lemmas.Bool.{false≢true}
use Rattle.outside.specs.declared.slot.Slot.{Ghosts}
use Rattle.block_arena.specs.Memory.{Buffer}
use Rattle.pool_model.specs.declared.event.Event.{Event}
use Rattle.pool_model.specs.declared.entry.Entry.{Entry}
use Rattle.pool_model.specs.declared.event.Event.TheVariants.{PinHere}
use Rattle.pool_model.specs.State.{Opening, Flying, Page, State, page_at}
use Rattle.store_api.specs.Tokens.{PageToken}
use Rattle.store_api.specs.Holdings.{Holdings, page_of, page_len}
use Rattle.store_api.specs.Changes.{after_pin}
use Rattle.store_api.specs.Conditions.{ShowsLeft}
use Rattle.own_entries.specs.OwnHoldings.{Outset}
use Rattle.own_entries.specs.AboveLaws.{AllBy}
use Rattle.pin_core.specs.declared.parts.Parts.{Parts}
use Rattle.pin_core.specs.declared.jobs.WriteJob.{WriteJob}
use Rattle.pin_core.specs.StateOf.{state_of}
use Rattle.pin_core.specs.Standing.{Enters}
use Rattle.pin_core.specs.calls.PinTurns.{CanPin, LacksRoomFor, IsContent as HasContent}
use Rattle.pin_core.specs.calls.Turns.{LacksRoom, IsStarted, IsWriting}
use Rattle.session_calls.specs.Pinning.{CanBePinned, IsPinned}
use Rattle.session_calls.specs.Moving.{is_moving}
use Rattle.session_calls.specs.Needing.{EntersNeeded}
use Rattle.session_calls.specs.Showing.{ShowsStored}
use Rattle.session_calls.proofs.Contents.{content_left, shows_left}
use Rattle.session_calls.proofs.Pages.{is_there, page_client_lives, can_pin as may_pin, lacks_room}
use Rattle.session_calls.specs.declared.hand.Hand.{Hand}
use Rattle.session_calls.specs.Acting.{Goes, held_by}
use Rattle.session_calls.specs.Having.{Sight, IsAtWork}
use Rattle.session_calls.specs.Jobs.{DoesIn}
use Rattle.session_calls.proofs.Alone.{none_moving, none_written}
use Rattle.session_calls.proofs.AtWork.{one_works, one_did}
use Rattle.session_calls.proofs.Needed.{needs_goes}
use Rattle.session_calls.proofs.Idle.{not_loading}
use Rattle.session_calls.proofs.Knowing.{Knows, knows}

module _ {D : Type 0} (slot : Ghosts D) (o : Opening) (u : Outset) (seen : Sight) (hand : Hand D) (is : IsAtWork slot o u seen hand) (p : PageToken) (can : CanBePinned p (held_by o u hand)) where
  abbrev s : State
  s = state_of hand.state

  abbrev h : Holdings
  h = held_by o u hand

  abbrev x : Page
  x = page_at s p.name

  its : Knows o u hand
  its = knows slot o u hand is.ready

  pub can_pin : CanPin s hand.session p
  can_pin = may_pin its p can.page can.rests (not_loading slot o u hand is.ready p can.page) can.unused

  pub client_lives : IsSome (h.clients p.client)
  client_lives = page_client_lives its p can.page

  pub shows_here : (buf : Buffer) → HasContent slot p.name buf hand.state → ShowsLeft (page_of p.name h) h buf
  shows_here = shows_left slot hand.state o hand.trail is.ready.whole.stands its p can.page can.rests

  pub stored_here : (buf : Buffer) → HasContent slot p.name buf hand.state → (now : List Entry) → ShowsStored o now p.name (page_of p.name h) buf
  stored_here buf content now = λ began marked ended few stored.
      content.content o hand.trail is.ready.whole.stands ∙ content_left slot hand.state o hand.trail is.ready.whole.stands its p can.page can.rests

  -- the page is pinned where it is
  module _ (new : Hand D) (trail : new.trail ≡ hand.trail ++ record { maker = hand.session; event = PinHere p.name } ∷ []) (session : new.session ≡ hand.session) (counts : new.counts ≡ hand.counts)
      (enters : Enters slot (record { maker = hand.session; event = PinHere p.name } ∷ []) [] [] hand.state new.state) where
    went_here : Goes slot (PinHere p.name ∷ []) hand new
    went_here = record { trail = trail; session = session; counts = counts; enters = enters }

    pub works_here : IsAtWork slot o u seen new
    works_here = one_works slot o u seen hand new is (PinHere p.name) went_here refl refl (after_pin p.name h) refl is.ready.rests.live is.ready.rests.few

    pub did_here : DoesIn (IsPinned p.name) hand new
    did_here = one_did slot o u seen hand new is (PinHere p.name) went_here refl refl (inl refl)

    pub needed_here : EntersNeeded p.client (page_len p.name h) hand new
    needed_here = needs_goes p.client (page_len p.name h) slot hand new (PinHere p.name ∷ []) went_here (λ own. tt, tt)

  -- its client lacks the room, so another page of the client goes out
  pub lacks_here : (failure : Option ℕ) → LacksRoomFor s hand.session p.name failure → LacksRoom s hand.session p.client (page_len p.name h) failure
  lacks_here = lacks_room its p can.page

  pub starts_here : (job : WriteJob D) (v : Parts D) → IsStarted slot hand.session x.client job hand.state v → IsStarted slot hand.session p.client job hand.state v
  starts_here job v started = subst (λ (c : ℕ). IsStarted slot hand.session c job hand.state v) (is_there its p can.page).client started

  -- where the session is alone, it waits for nobody
  pub waits_never : AllBy hand.session hand.trail → ((writer : ℕ) × (x.place ≡ Flying writer)) ⊎ (LacksRoomFor s hand.session p.name None × IsWriting s x.client) → ⊥
  waits_never all (inl flies) = false≢true (sym (none_moving slot o u hand is.ready all p.name x (is_there its p can.page).page.lives) ∙ ap is_moving flies.1)
  waits_never all (inr other) = none_written slot o u hand is.ready all x.client other.1

-- the value was given back and taken again, as it was found
pub waited_here : {D : Type 0} {P : List Event → Type 0} (hand new : Hand D) (v : Parts D) (gone : List ℕ) → DoesIn (λ events. events ≡ []) (record hand { state = v; gone = gone }) new → DoesIn (λ events. (events ≡ []) ⊎ P events) hand new
waited_here hand new v gone did = record {
  session = did.session;
  went = did.went;
  counts = did.counts;
  does = record { events = did.does.events; is = inl did.does.is; own = did.does.own; more = did.does.more; grew = did.does.grew; mine = did.does.mine };
}
