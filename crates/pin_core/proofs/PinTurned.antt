-- What a call that pins a page leaves, and what its answer says of the state.
use Rattle.std.proofs.Common.{◌≡◌, ℕ, ◌≤◌, List, [], ◌∷◌, Option, Some, None, refl, ap, sym, ◌∙◌, subst, inl, inr, arith}
use Rattle.outside.specs.declared.slot.Slot.{Ghosts}
use Rattle.block_arena.specs.Memory.{Buffer, IsBufferOf}
use Rattle.page_table.specs.declared.page_id.PageId.{PageId}
use Rattle.page_table.specs.declared.entry.Entry.{Entry}
use Rattle.reservation_tree.specs.Tracker.{unused}
use Rattle.pool_model.specs.declared.entry.Entry.{Entry as Event}
use Rattle.pool_model.specs.declared.event.Event.TheVariants as event
use Rattle.pool_model.specs.State.{Page, page_at}
use Rattle.pool_model.specs.Sums.{HasRoom, charge_of, length_of}
use Rattle.store_api.specs.Tokens.{PageToken}
use Rattle.pin_core.specs.declared.kept.Kept.{Kept}
use Rattle.pin_core.specs.declared.jobs.ReadJob.{ReadJob}
use Rattle.pin_core.specs.declared.parts.Parts.{Parts}
use Rattle.pin_core.specs.declared.pin.PinTurn.{PinTurn}
use Rattle.pin_core.specs.declared.pin.PinTurn.TheVariants.{Here, Load, Refused, Write, Wait}
use Rattle.pin_core.specs.declared.room.RoomTurn.{RoomTurn}
use Rattle.pin_core.specs.declared.room.RoomTurn.TheVariants as turn
use Rattle.pin_core.specs.StateOf.{page_of, place_in, state_of}
use Rattle.pin_core.specs.Lawful.{Lawful}
use Rattle.pin_core.specs.Invariant.{IsKept, IsHeld}
use Rattle.pin_core.specs.Standing.{Enters}
use Rattle.pin_core.specs.calls.Needs.{id_in}
use Rattle.pin_core.specs.parts.Changes.{entry_at}
use Rattle.pin_core.specs.calls.Evictions.{names_gone}
use Rattle.pin_core.specs.parts.Flights.{buffer_in}
use Rattle.pin_core.specs.calls.Pins.{HasRoomFor}
use Rattle.pin_core.specs.parts.Pinning.{pinned_dirty, pinned_clean}
use Rattle.pin_core.specs.calls.Turns.{LacksRoom, IsStarted, IsWriting, TurnIs}
use Rattle.pin_core.specs.calls.PinTurns.{CanPin, CanPinHere, LacksRoomFor, IsContent, PinAnswer, pin_entries, pin_gone, pin_slots}
use Rattle.pin_core.specs.parts.PinSteps.{CanPinAt, IsAway, IsPinnedDirty, IsPinnedClean, IsLoaded, PinIs, bytes_at, told_gone}
use Rattle.pin_core.proofs.Found.{Found, found_page}
use Rattle.pin_core.proofs.Entered.{Done}
use Rattle.pin_core.proofs.InMemory.{IsHere}
use Rattle.pin_core.proofs.Pinned.{here_whole, here_content}
use Rattle.pin_core.proofs.FromMemory.{held_dirty, is_dirty_here, dirty_done, held_clean, is_clean_here, clean_done}
use Rattle.pin_core.proofs.Started.{unchanged}
use Rattle.pin_core.proofs.Turned.{RoomTurned, turn_done}
use Rattle.pin_core.proofs.PinReady.{owned}
use Rattle.pin_core.proofs.PinLoads.{LoadTurned, load_turned}

module _ {D : Type 0} where
  -- what a call leaves
  pub record PinTurned (v new : Parts D) (session : ℕ) (p : PageToken) (r : PinTurn D) : Type 1 where
    pub kept : IsKept new
    pub turn : (slot : Ghosts D) → PinAnswer slot v new session p r
    pub enters : (slot : Ghosts D) → Enters slot (pin_entries session p.name v r) (pin_slots r) [] v new

  module _ (v : Parts D) (is_kept : IsKept v) (laws : Lawful v) (session : ℕ) (p : PageToken) (can : CanPin (state_of v) session p) where
    abbrev x : Entry (Kept D)
    x = entry_at v p.name

    abbrev id : PageId
    id = id_in p

    f : Found v p x
    f = found_page v laws.proper p can.page

    page : page_at (state_of v) p.name ≡ page_of v.pages p.name x
    page = f.is

    own : x.session ≡ session
    own = ap (λ (y : Page). y.session) (sym page) ∙ can.own

    place : (page_at (state_of v) p.name).place ≡ place_in x.place
    place = ap (λ (y : Page). y.place) page

    left : length_of (state_of v) x.blocks ≤ unused (charge_of (state_of v)) v.tree.trackers x.client
    left = subst (λ (y : Page). length_of (state_of v) y.blocks ≤ unused (charge_of (state_of v)) v.tree.trackers y.client) page can.unused

    pub can_pin_at : CanPinAt v session id x
    can_pin_at = record {
      live = f.live;
      there = f.there;
      own = own;
      unpinned = λ count is. can.unpinned count (place ∙ ap place_in is);
      unloaded = λ is. can.unloaded (place ∙ ap place_in is);
      unused = let le = left in let same = is_kept.counted.charges x.client in omega (arith, le, same);
    }

    -- who lacks room, by the page
    lacks_for : (failure : Option ℕ) → IsAway x.place → LacksRoom (state_of v) session x.client (bytes_at v x) failure → LacksRoomFor (state_of v) session p.name failure
    lacks_for failure away lacks = record {
      stored = elim away [ inl clean ↦ inl (place ∙ ap place_in clean) | inr evicted ↦ inr (place ∙ ap place_in evicted) ];
      lacks = subst (λ (y : Page). LacksRoom (state_of v) session y.client (length_of (state_of v) y.blocks) failure) (sym page) lacks;
    }

    room_for : HasRoom (state_of v) x.client (bytes_at v x) → HasRoomFor (state_of v) p.name
    room_for room = subst (λ (y : Page). HasRoom (state_of v) y.client (length_of (state_of v) y.blocks)) (sym page) room

    abbrev pinned : ℕ → Event
    pinned maker = record { maker = maker; event = event.PinHere p.name }

    module _ (here : IsHere x.place) (held : IsHeld v.arena.block_len x.blocks x.mem) (buf : Buffer) (is : buf ≡ buffer_in x.mem) where
      content : (slot : Ghosts D) → IsContent slot p.name buf v
      content slot = subst (λ (b : Buffer). IsContent slot p.name b v) (sym is) (record {
        whole = subst (λ (y : Page). IsBufferOf y.blocks v.arena.block_len (buffer_in x.mem)) (sym page) (here_whole v is_kept laws id x f.live f.there here held);
        content = here_content v is_kept laws id x f.live f.there here held slot;
      })

      pinned_turn : (new after : Parts D) → new ≡ after → Done (pinned x.session ∷ []) [] [] v after → CanPinHere (state_of v) p.name → PinTurned v new session p (Here buf)
      pinned_turn new after same done may =
          subst (λ (z : Parts D). PinTurned v z session p (Here buf)) (sym same) (record {
            kept = done.kept;
            turn = λ slot. (may, content slot);
            enters = λ slot. subst (λ (s : ℕ). Enters slot (pinned s ∷ []) [] [] v after) own (done.enters slot);
          })

    pinned_dirty_turn : (new : Parts D) (buf : Buffer) → IsPinnedDirty v new id x buf → PinTurned v new session p (Here buf)
    pinned_dirty_turn new buf is =
        pinned_turn (is_dirty_here v is_kept laws id x f.live f.there is.dirty) (held_dirty v is_kept laws id x f.live f.there is.dirty) buf is.buffer
        new (pinned_dirty id x v) is.parts (dirty_done v is_kept laws id x f.live f.there is.dirty) (inl (place ∙ ap place_in is.dirty))

    pinned_clean_turn : (new : Parts D) (buf : Buffer) → IsPinnedClean v new id x buf → PinTurned v new session p (Here buf)
    pinned_clean_turn new buf is =
        pinned_turn (is_clean_here v is_kept laws id x f.live f.there is.clean is.room) (held_clean v is_kept laws id x f.live f.there is.clean is.room) buf is.buffer
        new (pinned_clean id x v) is.parts (clean_done v is_kept laws id x f.live f.there is.clean is.room) (inr (record { clean = place ∙ ap place_in is.clean; room = room_for is.room }))

    loaded_turn : (new : Parts D) (job : ReadJob D) → IsLoaded v new id x job → PinTurned v new session p (Load job)
    loaded_turn new job is =
        let l : LoadTurned v new session p job = load_turned v is_kept laws session p f.live f.there own page new job is in
        record { kept = l.done.kept; turn = λ slot. (place ∙ ap place_in is.evicted, room_for is.room, l.load slot); enters = l.done.enters }

    -- the answers of a call that wants room
    roomed : (r : RoomTurn D) (new : Parts D) → TurnIs v new session x.client (bytes_at v x) r → RoomTurned v new session x.client (bytes_at v x) r
    roomed r new is = turn_done v is_kept laws session x.client (owned v is_kept laws session id x can_pin_at) (bytes_at v x) left r new is

    pub pin_done : (r : PinTurn D) (new : Parts D) → PinIs v new session id x r → PinTurned v new session p r
    pin_done (Here buf) new (inl is) = pinned_dirty_turn new buf is
    pin_done (Here buf) new (inr is) = pinned_clean_turn new buf is
    pin_done (Load job) new is = loaded_turn new job is
    pin_done (Refused entry) new is =
        let t : RoomTurned v new session x.client (bytes_at v x) (turn.Refused entry) = roomed (turn.Refused entry) new is.1 in
        record { kept = t.kept; turn = λ slot. let a = t.turn slot in (lacks_for (Some entry) is.0 a.0, a.1); enters = t.enters }
    pin_done (Write job) new is =
        let t : RoomTurned v new session x.client (bytes_at v x) (turn.Write job) = roomed (turn.Write job) new is.1 in
        record {
          kept = t.kept;
          turn = λ slot. let a = t.turn slot in (lacks_for None is.0 a.0, subst (λ (y : Page). IsStarted slot session y.client job v new) (sym page) a.1);
          enters = t.enters;
        }
    pin_done Wait new (inl is) =
        subst (λ (z : Parts D). PinTurned v z session p Wait) (sym is.1) (record {
          kept = is_kept;
          turn = λ slot. (inl (is.0.0, place ∙ ap place_in is.0.1), refl);
          enters = λ slot. unchanged v slot;
        })
    pin_done Wait new (inr is) =
        let t : RoomTurned v new session x.client (bytes_at v x) turn.Wait = roomed turn.Wait new is.1 in
        record {
          kept = t.kept;
          turn = λ slot. let a = t.turn slot in (inr (lacks_for None is.0 a.0, subst (λ (y : Page). IsWriting (state_of v) y.client) (sym page) a.1), a.2);
          enters = t.enters;
        }

    -- which pages went, by the page
    pub gone_told : (before : List ℕ) (r : PinTurn D) → told_gone before x v r ≡ pin_gone before p.name v r
    gone_told before (Here buf) = refl
    gone_told before (Load job) = ap (λ (y : Page). names_gone y.blocks v) (sym page)
    gone_told before (Refused entry) = refl
    gone_told before (Write job) = refl
    gone_told before Wait = refl

  -- the same, where the parts and the page are known by equations
  module _ (v old : Parts D) (id : PageId) (p : PageToken) (same : v ≡ old) (named : id ≡ id_in p) (is_kept : IsKept v) (laws : Lawful v) (session : ℕ) (can : CanPin (state_of old) session p) where
    pub pin_can : CanPinAt v session id (entry_at v id.name)
    pin_can =
        subst (λ (i : PageId). CanPinAt v session i (entry_at v i.name)) (sym named)
        (can_pin_at v is_kept laws session p (subst (λ (z : Parts D). CanPin (state_of z) session p) (sym same) can))

    pub pin_told : (r : PinTurn D) (new : Parts D) → PinIs v new session id (entry_at v id.name) r → PinTurned old new session p r
    pin_told r new is =
        subst (λ (z : Parts D). PinTurned z new session p r) same
        (pin_done v is_kept laws session p (subst (λ (z : Parts D). CanPin (state_of z) session p) (sym same) can) r new
        (subst (λ (i : PageId). PinIs v new session i (entry_at v i.name) r) named is))

    pub pin_told_gone : (before : List ℕ) (r : PinTurn D) → told_gone before (entry_at v id.name) v r ≡ pin_gone before p.name old r
    pin_told_gone before r =
        subst (λ (z : Parts D). told_gone before (entry_at v id.name) v r ≡ pin_gone before p.name z r) same
        (subst (λ (i : PageId). told_gone before (entry_at v i.name) v r ≡ pin_gone before p.name v r) (sym named)
        (gone_told v is_kept laws session p (subst (λ (z : Parts D). CanPin (state_of z) session p) (sym same) can) before r))
