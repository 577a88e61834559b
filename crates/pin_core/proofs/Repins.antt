-- A pinned page has another number of pins.
use Rattle.std.proofs.Common.{Option, ◌≡◌, ◌≢◌, ℕ, ◌+◌, ◌-◌, ◌*◌, ◌≤◌, ◌==◌, Bool, true, false, List, [], ◌∷◌, ◌++◌, Some, refl, ap, sym, ◌∙◌, subst, arith, add-mul}
use Rattle.std.specs.FinMap.{get, insert}
use Rattle.std.proofs.lemmas.Bool.{false≢true}
use Rattle.outside.specs.declared.slot.Slot.{Ghosts}
use Rattle.page_table.specs.declared.page_id.PageId.{PageId}
use Rattle.page_table.specs.declared.entry.Place.TheVariants as spot
use Rattle.page_table.specs.declared.entry.Entry.{Entry}
use Rattle.reservation_tree.specs.Tree.{charge_of as charge_in}
use Rattle.pool_model.specs.declared.event.Event.TheVariants as event
use Rattle.pool_model.specs.declared.entry.Entry.{Entry as Event}
use Rattle.pool_model.specs.Bytes.{bytes_of, only_if}
use Rattle.pool_model.specs.State.{Pinned}
use Rattle.pool_model.specs.Sums.{times_charged, is_in_memory, once, HasRoom, page_bytes, pages_for}
use Rattle.pool_model.specs.MayFollow.{MayFollow}
use Rattle.pool_model.specs.Effects.{after}
use Rattle.pool_model.specs.LookingBack.{left_in, content_of}
use Rattle.pool_model.proofs.Weights.{one_time}
use Rattle.pin_core.specs.declared.kept.Kept.{Kept}
use Rattle.pin_core.specs.declared.kept.Kept.TheVariants as kept
use Rattle.pin_core.specs.declared.parts.Parts.{Parts}
use Rattle.pin_core.specs.StateOf.{page_of, pages_in, place_in, state_of}
use Rattle.pin_core.specs.Lawful.{Lawful}
use Rattle.pin_core.specs.Invariant.{list_at, is_clean_spot, IsMem, IsKeptOf, IsPlaced, IsKept}
use Rattle.pin_core.specs.Standing.{MemHolds, KeptHolds}
use Rattle.pin_core.specs.Marking.{under_of}
use Rattle.pin_core.specs.calls.Pins.{CanRepin, pins_in, with_pins, repinned, pinned_again, unpinned_once}
use Rattle.pin_core.proofs.Moving.{Moves, moved_pages}
use Rattle.pin_core.proofs.Moved.{Tells, page_known, quiet_quotas, told_kept, told_stands, told_slots}
use Rattle.pin_core.proofs.Queued.{dirty_same}
use Rattle.pin_core.proofs.Amounts.{fell, rose, charge_covers}
use Rattle.pin_core.proofs.Effects.{same_state, again_effect, once_effect}
use Rattle.pin_core.proofs.Charged.{own_low, has_pins}
use Rattle.pin_core.proofs.Entered.{Done}

only_more : (b : Bool) (m n : ℕ) → only_if b (m + n) ≡ only_if b m + only_if b n
only_more true m n = refl
only_more false m n = omega arith

-- a count of pins and one more
more_pins : (b : Bool) (count bytes : ℕ) → only_if b ((count + 1) * bytes) ≡ only_if b (count * bytes) + only_if b bytes
more_pins b count bytes = ap (only_if b) (add-mul count 1 bytes) ∙ only_more b (count * bytes) (1 * bytes) ∙ ap (λ (n : ℕ). only_if b (count * bytes) + only_if b n) (one_time bytes)

module _ {D : Type 0} where
  pinned_kept : (blocks count now : ℕ) (k : Kept D) → IsKeptOf blocks (spot.Pinned count) k → IsKeptOf blocks (spot.Pinned now) k
  pinned_kept blocks count now (kept.Empty shell) is = is
  pinned_kept blocks count now (kept.Held row) is = is
  pinned_kept blocks count now kept.Out is = is

  pub pinned_holds : (slot : Ghosts D) (under : Option ℕ) (name len : ℕ) (bytes : List ℕ) (count : ℕ) (k : Kept D) → KeptHolds slot under name len bytes (spot.Pinned count) k
  pinned_holds slot under name len bytes count (kept.Empty shell) = tt
  pinned_holds slot under name len bytes count (kept.Held row) = λ stored. absurd (false≢true stored)
  pinned_holds slot under name len bytes count kept.Out = tt

  module _ (v : Parts D) (is_kept : IsKept v) (laws : Lawful v) (id : PageId) (x : Entry (Kept D)) (can : CanRepin v id x) where
    at_x : IsPlaced v id.key x
    at_x = is_kept.placed id.key id.name x can.live can.there

    was : get (pages_in v.pages) id.name ≡ Some (page_of v.pages id.name x)
    was = page_known v id.name x can.there

    abbrev len : ℕ
    len = v.arena.block_len

    -- so many pins, so great a charge, and the event that tells it
    module _ (now charge : ℕ) (e : Event) where
      abbrev new : Parts D
      new = repinned now charge id x v

      abbrev w : Entry (Kept D)
      w = with_pins now x

      moves : Moves id.key id.name x w v new
      moves = record {
        live = can.live;
        there = can.there;
        pages = refl;
        lists = λ k apart. refl;
        clean = λ k apart. refl;
        block_len = refl;
        form = refl;
        opens = refl;
        lens = λ k apart. refl;
      }

      placed_w : IsPlaced new id.key w
      placed_w = record {
        on = at_x.on ∙ ap (list_at x.client) can.pinned;
        opened = at_x.opened;
        size = at_x.size;
        clean = at_x.clean ∙ ap is_clean_spot can.pinned;
        blocks = at_x.blocks;
        mem = subst (λ p. IsMem len x.blocks p x.mem) can.pinned at_x.mem;
        kept = pinned_kept x.blocks (pins_in x.place) now x.scratch (subst (λ p. IsKeptOf x.blocks p x.scratch) can.pinned at_x.kept);
      }

      -- the state that the entry makes has the page with so many pins
      pub repin_state : after (state_of v) e ≡ record (state_of v) { pages = insert (pages_in v.pages) id.name (record (page_of v.pages id.name x) { place = Pinned now }); entries = new.entries }
          → state_of new ≡ after (state_of v) e
      repin_state effect =
          same_state (state_of new) _ refl refl refl refl refl (moved_pages id.key id.name x w v new moves laws.proper) refl
          (dirty_same v.pages new.pages v.lists new.lists refl refl (λ d. refl)) refl refl refl
          ∙ sym effect

      module _ (state : state_of new ≡ after (state_of v) e) (may : (h : List Event) → MayFollow h (state_of v) e)
          (charges : (t : ℕ) → charge_in new.tree t + only_if (x.client == t) (pins_in x.place * bytes_of len x.blocks) ≡ charge_in v.tree t + only_if (x.client == t) (now * bytes_of len x.blocks))
          (others : (q : ℕ) (old : List ℕ) → q ≢ id.name → left_in q e.event old ≡ old) where
        tells : Tells id.key id.name x w v new e
        tells = record {
          moves = moves;
          placed = placed_w;
          charges = record {
            client = refl;
            blocks = refl;
            arena_blocks = refl;
            buffers = refl;
            charge = λ t.
                let many : only_if (x.client == t) (times_charged (place_in x.place) * bytes_of len x.blocks) ≡ only_if (x.client == t) (pins_in x.place * bytes_of len x.blocks) =
                ap (λ p. only_if (x.client == t) (times_charged (place_in p) * bytes_of len x.blocks)) can.pinned in
                let change = charges t in
                omega (arith, many, change);
            free = ap (λ p. bytes_of len v.arena.free + once is_in_memory (place_in p) * bytes_of len x.blocks) (sym can.pinned);
            stock = refl;
          };
          quotas = quiet_quotas id.key id.name x w v new moves laws.proper is_kept refl refl refl refl (λ q n is. is);
          seated = let s = is_kept.seated in record { clients = s.clients; opens = s.opens; few = s.few };
          sized = let s = is_kept.sized in record { len = s.len; some = s.some; short = s.short; memory = s.memory; clients = s.clients; sessions = s.sessions; nodes = s.nodes; cleans = s.cleans; book = s.book };
          state = state;
          may = may;
        }

        pub repin_done : Done (e ∷ []) [] [] v new
        repin_done = record {
          kept = told_kept id.key id.name x w v new e is_kept laws.proper tells;
          enters = λ slot. record {
            state = state;
            stands = λ o h stood. told_stands id.key id.name x w v new e is_kept laws.proper tells slot o h stood others (record {
              mem = subst (MemHolds (content_of o (h ++ e ∷ []) id.name)) (sym (subst (λ p. IsMem len x.blocks p x.mem) can.pinned at_x.mem)) tt;
              kept = pinned_holds slot (under_of v.marked x.version) id.name len (content_of o (h ++ e ∷ []) id.name) now x.scratch;
            });
            slots = λ measure. let told = told_slots id.key id.name x w v new e is_kept laws.proper tells measure in omega (arith, told);
          };
        }

    abbrev again : Event
    again = record { maker = x.session; event = event.PinAgain id.name }

    abbrev ended : Event
    ended = record { maker = x.session; event = event.UnpinOnce id.name }

    pub again_done : HasRoom (state_of v) x.client (bytes_of len x.blocks) → Done (again ∷ []) [] [] v (pinned_again id x v)
    again_done room =
        let now = pins_in x.place + 1 in
        let charge = charge_in v.tree x.client + bytes_of len x.blocks in
        repin_done now charge again (repin_state now charge again (again_effect (state_of v) x.session id.name (page_of v.pages id.name x) was))
        (λ h. record {
          makes = own_low v is_kept id.name x can.there;
          allows = record {
            page = page_of v.pages id.name x;
            own = record { lives = was; own = refl };
            count = pins_in x.place;
            pinned = ap place_in can.pinned;
            room = room;
          };
        })
        (λ t. let rise = rose v.tree x.client (bytes_of len x.blocks) t in let more = more_pins (x.client == t) (pins_in x.place) (bytes_of len x.blocks) in omega (arith, rise, more))
        (λ q old other. refl)

    pub covered : bytes_of len x.blocks ≤ charge_in v.tree x.client
    covered =
        let part : page_bytes times_charged len (page_of v.pages id.name x) ≤ pages_for times_charged len (pages_in v.pages) x.client = charge_covers times_charged len (pages_in v.pages) id.name (page_of v.pages id.name x) was in
        let all : times_charged (place_in x.place) * bytes_of len x.blocks ≡ pins_in x.place * bytes_of len x.blocks = ap (λ p. times_charged (place_in p) * bytes_of len x.blocks) can.pinned in
        let some = has_pins v is_kept id.name x can.there (pins_in x.place) (ap place_in can.pinned) in
        let less : (pins_in x.place - 1) + 1 ≡ pins_in x.place = omega (arith, some) in
        let split = ap (λ (n : ℕ). n * bytes_of len x.blocks) (sym less) ∙ add-mul (pins_in x.place - 1) 1 (bytes_of len x.blocks) in
        let one = one_time (bytes_of len x.blocks) in
        let tie = is_kept.counted.charges x.client in
        omega (arith, part, all, split, one, tie)

    pub once_done : 2 ≤ pins_in x.place → Done (ended ∷ []) [] [] v (unpinned_once id x v)
    once_done several =
        let now = pins_in x.place - 1 in
        let charge = charge_in v.tree x.client - bytes_of len x.blocks in
        repin_done now charge ended (repin_state now charge ended (once_effect (state_of v) x.session id.name (page_of v.pages id.name x) was))
        (λ h. record {
          makes = own_low v is_kept id.name x can.there;
          allows = record {
            page = page_of v.pages id.name x;
            own = record { lives = was; own = refl };
            count = pins_in x.place;
            pinned = ap place_in can.pinned;
            several = several;
          };
        })
        (λ t.
        let fall = fell v.tree x.client (bytes_of len x.blocks) covered t in
        let less : (pins_in x.place - 1) + 1 ≡ pins_in x.place = omega (arith, several) in
        let more = more_pins (x.client == t) (pins_in x.place - 1) (bytes_of len x.blocks) in
        let same : only_if (x.client == t) (((pins_in x.place - 1) + 1) * bytes_of len x.blocks) ≡ only_if (x.client == t) (pins_in x.place * bytes_of len x.blocks) = ap (λ (n : ℕ). only_if (x.client == t) (n * bytes_of len x.blocks)) less in
        omega (arith, fall, more, same))
        (λ q old other. refl)
