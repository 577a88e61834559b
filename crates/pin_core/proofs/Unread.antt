-- A page whose load failed comes back, and is evicted again.
use Rattle.std.proofs.Common.{◌≡◌, ℕ, ◌+◌, ◌*◌, ◌≤◌, ◌==◌, Bool, true, List, [], ◌∷◌, ◌++◌, length, Some, refl, ap, sym, ◌∙◌, subst, arith, zero-mul}
use Rattle.std.specs.FinMap.{get, insert}
use Rattle.std.specs.List.{sum_by}
use Rattle.outside.specs.declared.slot.Slot.{Ghosts}
use Rattle.block_arena.specs.Memory.{Buffer}
use Rattle.index_list.specs.Listing.{list_with}
use Rattle.page_table.specs.declared.page_id.PageId.{PageId}
use Rattle.page_table.specs.declared.entry.Place.TheVariants as spot
use Rattle.page_table.specs.declared.entry.Entry.{Entry}
use Rattle.client_lists.specs.declared.which.Which.TheVariants as which
use Rattle.client_lists.specs.Clients.{place}
use Rattle.client_lists.proofs.Nodes.{list-without_node, list-without_node_other, nodes-without_node_other}
use Rattle.reservation_tree.specs.Tree.{charge_of as charge_in}
use Rattle.pool_model.specs.declared.event.Event.TheVariants as event
use Rattle.pool_model.specs.declared.entry.Entry.{Entry as Event}
use Rattle.pool_model.specs.Bytes.{bytes_of, only_if}
use Rattle.pool_model.specs.ScratchRows.{IsFault}
use Rattle.pool_model.specs.State.{Opening}
use Rattle.pool_model.specs.Sums.{times_charged, is_in_memory, once, page_bytes, pages_for}
use Rattle.pool_model.specs.Effects.{after}
use Rattle.pool_model.specs.LookingBack.{content_of}
use Rattle.pool_model.specs.HistoryLaws.{made}
use Rattle.pool_model.proofs.Weights.{only_none, one_time}
use Rattle.pin_core.specs.declared.kept.Kept.{Kept}
use Rattle.pin_core.specs.declared.parts.Parts.{Parts}
use Rattle.pin_core.specs.parts.Keeping.{has_slots}
use Rattle.pin_core.specs.StateOf.{page_of, pages_in, place_in, state_of}
use Rattle.pin_core.specs.Invariant.{list_at, is_clean_spot, IsPlaced, IsKept}
use Rattle.pin_core.specs.Lawful.{Lawful}
use Rattle.pin_core.specs.Standing.{StandsFor, AreHeld, slots_home}
use Rattle.pin_core.specs.Marking.{under_of}
use Rattle.pin_core.specs.parts.Ends.{ComesBack, back_evicted, unread}
use Rattle.pin_core.proofs.Back.{slots_had, none_home}
use Rattle.pin_core.proofs.Histories.{content_grows}
use Rattle.pin_core.proofs.Moving.{Moves, moved_pages}
use Rattle.pin_core.proofs.Moved.{Tells, page_known, quiet_quotas, told_kept, told_stands, told_slots}
use Rattle.pin_core.proofs.Noting.{noted_sessions, noted_quotas, noted_clients, noted_few}
use Rattle.pin_core.proofs.Queued.{dirty_same}
use Rattle.pin_core.proofs.Amounts.{fell, charge_covers}
use Rattle.pin_core.proofs.Effects.{same_state, unread_effect}
use Rattle.pin_core.proofs.Places.{HasQuota, has_quota}
use Rattle.pin_core.proofs.Listed.{bytes_plus}
use Rattle.pin_core.proofs.Stands.{was_made}

module _ {D : Type 0} (v : Parts D) (is_kept : IsKept v) (laws : Lawful v) (id : PageId) (x : Entry (Kept D)) (buf : Buffer) (row : List D) (back : ComesBack v spot.Loading id x buf row) where
  at_x : IsPlaced v id.key x
  at_x = is_kept.placed id.key id.name x back.live back.there

  on : list_with id.key v.lists.pages.lists ≡ Some (place x.client which.Pinned)
  on = at_x.on ∙ ap (list_at x.client) back.place

  was : get (pages_in v.pages) id.name ≡ Some (page_of v.pages id.name x)
  was = page_known v id.name x back.there

  had : has_slots x.scratch ≡ true
  had = slots_had v is_kept spot.Loading id x buf row back refl

  quota : HasQuota v x
  quota = has_quota v is_kept id.name x was

  pub covered : bytes_of v.arena.block_len x.blocks ≤ charge_in v.tree x.client
  covered =
      let part : page_bytes times_charged v.arena.block_len (page_of v.pages id.name x) ≤ pages_for times_charged v.arena.block_len (pages_in v.pages) x.client = charge_covers times_charged v.arena.block_len (pages_in v.pages) id.name (page_of v.pages id.name x) was in
      let all : times_charged (place_in x.place) * bytes_of v.arena.block_len x.blocks ≡ 1 * bytes_of v.arena.block_len x.blocks = ap (λ p. times_charged (place_in p) * bytes_of v.arena.block_len x.blocks) back.place in
      let tie = is_kept.counted.charges x.client in
      omega (arith, part, all, tie)

  abbrev new : Parts D
  new = unread id x row v

  module _ (before now : ℕ) (fault : IsFault before now) where
    abbrev failed : Event
    failed = record { maker = x.session; event = event.ReadFailed id.name before now }

    unread_moves : Moves id.key id.name x (back_evicted row x) v new
    unread_moves = record { live = back.live; there = back.there; pages = refl; lists = list-without_node_other v.lists laws.whole x.client id.key which.Pinned on; clean = λ k apart. refl; block_len = refl; form = refl; opens = refl; lens = λ k apart. refl }

    pub unread_state : state_of new ≡ after (state_of v) failed
    unread_state =
        let pages = moved_pages id.key id.name x (back_evicted row x) v new unread_moves laws.proper ∙ ap (λ (b : Bool). insert (pages_in v.pages) id.name (record (page_of v.pages id.name (back_evicted row x)) { has_slots = b })) (sym had) in
        let dirties = dirty_same v.pages new.pages v.lists new.lists refl refl (λ d. nodes-without_node_other v.lists laws.whole x.client id.key which.Pinned on d which.Dirty (λ e. absurd (omega arith))) in
        same_state (state_of new) _ refl refl refl refl (noted_sessions v is_kept laws id.name x back.there v.entries) pages refl dirties refl refl refl
        ∙ sym (unread_effect (state_of v) x.session id.name (page_of v.pages id.name x) was before now)

    unread_tells : Tells id.key id.name x (back_evicted row x) v new failed
    unread_tells = record {
      moves = unread_moves;
      placed = record {
        on = list-without_node v.lists laws.whole x.client id.key which.Pinned on;
        opened = at_x.opened;
        size = at_x.size;
        clean = at_x.clean ∙ ap is_clean_spot back.place;
        blocks = at_x.blocks;
        mem = refl;
        kept = (refl, back.slots);
      };
      charges = record {
        client = refl;
        blocks = refl;
        arena_blocks = refl;
        buffers = refl;
        charge = λ t.
            let fall = fell v.tree x.client (bytes_of v.arena.block_len x.blocks) covered t in
            let all : only_if (x.client == t) (times_charged (place_in x.place) * bytes_of v.arena.block_len x.blocks) ≡ only_if (x.client == t) (bytes_of v.arena.block_len x.blocks) =
            ap (λ p. only_if (x.client == t) (times_charged (place_in p) * bytes_of v.arena.block_len x.blocks)) back.place ∙ ap (only_if (x.client == t)) (one_time (bytes_of v.arena.block_len x.blocks)) in
            let none : only_if (x.client == t) (0 * bytes_of v.arena.block_len x.blocks) ≡ 0 = ap (only_if (x.client == t)) (zero-mul (bytes_of v.arena.block_len x.blocks)) ∙ only_none (x.client == t) in
            omega (arith, fall, all, none);
        free =
            let sum = bytes_plus v.arena.block_len v.arena.free x.blocks in
            let in_it : once is_in_memory (place_in x.place) * bytes_of v.arena.block_len x.blocks ≡ 1 * bytes_of v.arena.block_len x.blocks = ap (λ p. once is_in_memory (place_in p) * bytes_of v.arena.block_len x.blocks) back.place in
            omega (arith, sum, in_it);
        stock = ap (λ (b : Bool). length v.slots.free + only_if b x.blocks) (sym had);
      };
      quotas = quiet_quotas id.key id.name x (back_evicted row x) v new unread_moves laws.proper is_kept refl refl (sym had) refl
          (λ q n is. noted_quotas v is_kept laws id.name x back.there v.entries q _ n is);
      seated = record {
        clients = noted_clients v is_kept laws id.name x back.there v.entries;
        opens = is_kept.seated.opens;
        few = noted_few v is_kept laws id.name x back.there v.entries;
      };
      sized = let s = is_kept.sized in record { len = s.len; some = s.some; short = s.short; clients = s.clients; sessions = s.sessions; nodes = s.nodes; cleans = s.cleans; memory = s.memory; book = s.book };
      state = unread_state;
      may = λ h. record { makes = quota.low; allows = record { ends = record { page = page_of v.pages id.name x; own = record { lives = was; own = refl }; loading = ap place_in back.place }; fault = fault } };
    }

    pub unread_kept : IsKept new
    unread_kept = told_kept id.key id.name x (back_evicted row x) v new failed is_kept laws.proper unread_tells

    -- the slots of a failed load still hold what they held
    pub unread_stands : (slot : Ghosts D) (o : Opening) (h : List Event) → StandsFor slot o h v → AreHeld slot (under_of v.marked x.version) id.name v.arena.block_len row (content_of o h id.name) → StandsFor slot o (h ++ failed ∷ []) new
    unread_stands slot o h stands held =
        let same : content_of o (h ++ failed ∷ []) id.name ≡ content_of o h id.name = content_grows o h failed id.name (made (page_of v.pages id.name x)) (was_made slot o h v stands id.name x back.there) in
        told_stands id.key id.name x (back_evicted row x) v new failed is_kept laws.proper unread_tells slot o h stands (λ q old other. refl)
        (record { mem = tt; kept = λ stored. subst (AreHeld slot (under_of v.marked x.version) id.name v.arena.block_len row) (sym same) held })

    pub unread_slots : (measure : D → ℕ) → slots_home measure new ≡ slots_home measure v + sum_by measure row
    unread_slots measure =
        let told = told_slots id.key id.name x (back_evicted row x) v new failed is_kept laws.proper unread_tells measure in
        let none = none_home v is_kept spot.Loading id x buf row back refl measure in
        omega (arith, told, none)
