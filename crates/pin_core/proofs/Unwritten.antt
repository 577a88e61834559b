-- A page whose write failed comes back, and is dirty again.
use Rattle.std.proofs.Common.{◌≡◌, ℕ, ◌+◌, ◌*◌, ◌==◌, ◌⊎◌, Bool, true, List, [], ◌∷◌, ◌++◌, length, Option, Some, unwrap_or, refl, ap, sym, ◌∙◌, arith}
use Rattle.std.specs.FinMap.{get, insert}
use Rattle.std.specs.List.{sum_by}
use Rattle.std.proofs.lemmas.Bool.{false≢true}
use Rattle.outside.specs.declared.slot.Slot.{Ghosts}
use Rattle.block_arena.specs.Memory.{Buffer}
use Rattle.index_list.specs.Listing.{list_with}
use Rattle.page_table.specs.declared.page_id.PageId.{PageId}
use Rattle.page_table.specs.declared.entry.Place.TheVariants as spot
use Rattle.page_table.specs.declared.entry.Entry.{Entry}
use Rattle.client_lists.specs.declared.which.Which.TheVariants as which
use Rattle.client_lists.specs.Clients.{place, nodes_of}
use Rattle.client_lists.proofs.Nodes.{list-shifted, list-shifted_other, nodes-shifted_to, nodes-shifted_other, len-shifted}
use Rattle.clean_evict.specs.Eviction.{names_of}
use Rattle.reservation_tree.specs.Tree.{charge_of as charge_in}
use Rattle.pool_model.specs.declared.event.Event.TheVariants as event
use Rattle.pool_model.specs.declared.entry.Entry.{Entry as Event}
use Rattle.pool_model.specs.Bytes.{bytes_of, only_if}
use Rattle.pool_model.specs.Makers.{IsSession, IsWriter}
use Rattle.pool_model.specs.ScratchRows.{IsFault}
use Rattle.pool_model.specs.State.{Opening, dirty_of}
use Rattle.pool_model.specs.Sums.{times_charged, is_in_memory, once}
use Rattle.pool_model.specs.Effects.{after}
use Rattle.pool_model.specs.LookingBack.{content_of}
use Rattle.pool_model.specs.HistoryLaws.{made}
use Rattle.pin_core.specs.declared.kept.Kept.{Kept}
use Rattle.pin_core.specs.declared.parts.Parts.{Parts}
use Rattle.pin_core.specs.parts.Keeping.{has_slots}
use Rattle.pin_core.specs.StateOf.{page_of, pages_in, place_in, state_of}
use Rattle.pin_core.specs.Invariant.{list_at, is_clean_spot, IsPlaced, IsKept}
use Rattle.pin_core.specs.Lawful.{Lawful}
use Rattle.pin_core.specs.Standing.{StandsFor, slots_home}
use Rattle.pin_core.specs.parts.Ends.{ComesBack, back_dirty, unwritten}
use Rattle.pin_core.proofs.Back.{slots_had, none_home}
use Rattle.pin_core.proofs.Histories.{content_grows}
use Rattle.pin_core.proofs.Moving.{Moves, moved_pages}
use Rattle.pin_core.proofs.Moved.{Tells, page_known, quiet_quotas, told_kept, told_stands, told_slots}
use Rattle.pin_core.proofs.Noting.{noted_sessions, noted_quotas, noted_clients, noted_few}
use Rattle.pin_core.proofs.Queued.{dirty_changed, dirty_open, names_more}
use Rattle.pin_core.proofs.Effects.{same_state, failed_effect}
use Rattle.pin_core.proofs.Stands.{was_made}

module _ {D : Type 0} (v : Parts D) (is_kept : IsKept v) (laws : Lawful v) (who : ℕ) (makes : IsSession who ⊎ IsWriter who) (id : PageId) (x : Entry (Kept D)) (buf : Buffer) (row : List D)
    (back : ComesBack v (spot.Flying who) id x buf row) where
  at_x : IsPlaced v id.key x
  at_x = is_kept.placed id.key id.name x back.live back.there

  on : list_with id.key v.lists.pages.lists ≡ Some (place x.client which.Flying)
  on = at_x.on ∙ ap (list_at x.client) back.place

  was : get (pages_in v.pages) id.name ≡ Some (page_of v.pages id.name x)
  was = page_known v id.name x back.there

  had : has_slots x.scratch ≡ true
  had = slots_had v is_kept (spot.Flying who) id x buf row back refl

  abbrev new : Parts D
  new = unwritten id x buf row v

  module _ (before now : ℕ) (fault : IsFault before now) where
    abbrev failed : Event
    failed = record { maker = who; event = event.WriteFailed id.name before now }

    unwritten_moves : Moves id.key id.name x (back_dirty buf row x) v new
    unwritten_moves = record {
      live = back.live;
      there = back.there;
      pages = refl;
      lists = list-shifted_other v.lists laws.whole x.client id.key which.Flying on which.Dirty;
      clean = λ k apart. refl;
      block_len = refl;
      form = refl;
      opens = refl;
      lens = λ k apart. len-shifted v.lists x.client id.key which.Dirty k;
    }

    pub unwritten_state : state_of new ≡ after (state_of v) failed
    unwritten_state =
        let pages = moved_pages id.key id.name x (back_dirty buf row x) v new unwritten_moves laws.proper ∙ ap (λ (b : Bool). insert (pages_in v.pages) id.name (record (page_of v.pages id.name (back_dirty buf row x)) { has_slots = b })) (sym had) in
        let queue : names_of v.pages (nodes_of x.client which.Dirty new.lists) ≡ dirty_of (state_of v) x.client ++ id.name ∷ [] =
        ap (names_of v.pages) (nodes-shifted_to v.lists laws.whole x.client id.key which.Flying on which.Dirty (λ e. absurd (omega arith)))
        ∙ names_more v.pages id.key id.name (nodes_of x.client which.Dirty v.lists) back.live
        ∙ sym (ap (λ (r : Option (List ℕ)). unwrap_or r [] ++ id.name ∷ []) (dirty_open v.pages v.lists x.client at_x.opened)) in
        let dirties = dirty_changed v.pages new.pages v.lists new.lists x.client (dirty_of (state_of v) x.client ++ id.name ∷ []) refl refl at_x.opened queue
        (λ d other. nodes-shifted_other v.lists laws.whole x.client id.key which.Flying on which.Dirty d which.Dirty (λ e. absurd (omega arith)) (λ e. other (omega arith))) in
        same_state (state_of new) _ refl refl refl refl (noted_sessions v is_kept laws id.name x back.there v.entries) pages refl dirties refl refl refl
        ∙ sym (failed_effect (state_of v) who id.name (page_of v.pages id.name x) was before now)

    unwritten_tells : Tells id.key id.name x (back_dirty buf row x) v new failed
    unwritten_tells = record {
      moves = unwritten_moves;
      placed = record {
        on = list-shifted v.lists laws.whole x.client id.key which.Flying on which.Dirty;
        opened = at_x.opened;
        size = len-shifted v.lists x.client id.key which.Dirty id.key ∙ at_x.size;
        clean = at_x.clean ∙ ap is_clean_spot back.place;
        blocks = at_x.blocks;
        mem = back.buffer;
        kept = (refl, back.slots);
      };
      charges = record {
        client = refl;
        blocks = refl;
        arena_blocks = refl;
        buffers = refl;
        charge = λ t. ap (λ p. charge_in v.tree t + only_if (x.client == t) (times_charged (place_in p) * bytes_of v.arena.block_len x.blocks)) back.place;
        free = ap (λ p. bytes_of v.arena.block_len v.arena.free + once is_in_memory (place_in p) * bytes_of v.arena.block_len x.blocks) (sym back.place);
        stock = ap (λ (b : Bool). length v.slots.free + only_if b x.blocks) (sym had);
      };
      quotas = quiet_quotas id.key id.name x (back_dirty buf row x) v new unwritten_moves laws.proper is_kept refl refl (sym had) refl
          (λ q n is. noted_quotas v is_kept laws id.name x back.there v.entries q _ n is);
      seated = record {
        clients = noted_clients v is_kept laws id.name x back.there v.entries;
        opens = is_kept.seated.opens;
        few = noted_few v is_kept laws id.name x back.there v.entries;
      };
      sized = let s = is_kept.sized in record { len = s.len; some = s.some; short = s.short; clients = s.clients; sessions = s.sessions; nodes = s.nodes; cleans = s.cleans; memory = s.memory; book = s.book };
      state = unwritten_state;
      may = λ h. record { makes = makes; allows = record { ends = record { page = page_of v.pages id.name x; lives = was; flying = ap place_in back.place }; fault = fault } };
    }

    pub unwritten_kept : IsKept new
    unwritten_kept = told_kept id.key id.name x (back_dirty buf row x) v new failed is_kept laws.proper unwritten_tells

    pub unwritten_stands : (slot : Ghosts D) (o : Opening) (h : List Event) → StandsFor slot o h v → buf.bytes ≡ content_of o h id.name → StandsFor slot o (h ++ failed ∷ []) new
    unwritten_stands slot o h stands bytes =
        let same : content_of o (h ++ failed ∷ []) id.name ≡ content_of o h id.name = content_grows o h failed id.name (made (page_of v.pages id.name x)) (was_made slot o h v stands id.name x back.there) in
        told_stands id.key id.name x (back_dirty buf row x) v new failed is_kept laws.proper unwritten_tells slot o h stands (λ q old other. refl)
        (record { mem = bytes ∙ sym same; kept = λ stored. absurd (false≢true stored) })

    pub unwritten_slots : (measure : D → ℕ) → slots_home measure new ≡ slots_home measure v + sum_by measure row
    unwritten_slots measure =
        let told = told_slots id.key id.name x (back_dirty buf row x) v new failed is_kept laws.proper unwritten_tells measure in
        let none = none_home v is_kept (spot.Flying who) id x buf row back refl measure in
        omega (arith, told, none)
