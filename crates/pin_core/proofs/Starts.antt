-- A dirty page goes out to be written.
use Rattle.std.proofs.Common.{◌≡◌, ℕ, ◌+◌, ◌*◌, ◌==◌, ◌⊎◌, Bool, true, false, List, [], ◌∷◌, ◌++◌, length, Option, Some, unwrap_or, refl, ap, sym, ◌∙◌, subst, arith}
use Rattle.std.specs.FinMap.{get, insert}
use Rattle.std.proofs.lemmas.Bool.{false≢true}
use Rattle.outside.specs.declared.slot.Slot.{Ghosts}
use Rattle.index_list.specs.Listing.{list_with, stands_in}
use Rattle.page_table.specs.declared.page_id.PageId.{PageId}
use Rattle.page_table.specs.declared.entry.Place.TheVariants as spot
use Rattle.page_table.specs.declared.entry.Entry.{Entry}
use Rattle.client_lists.specs.declared.which.Which.TheVariants as which
use Rattle.client_lists.specs.Clients.{place, nodes_of}
use Rattle.client_lists.proofs.Nodes.{list-shifted, list-shifted_other, nodes-shifted_from, nodes-shifted_other, len-shifted}
use Rattle.clean_evict.specs.Eviction.{names_of}
use Rattle.reservation_tree.specs.Tree.{charge_of as charge_in}
use Rattle.pool_model.specs.declared.event.Event.TheVariants.{StartWrite}
use Rattle.pool_model.specs.declared.entry.Entry.{Entry as Event}
use Rattle.pool_model.specs.Bytes.{bytes_of, only_if}
use Rattle.pool_model.specs.Makers.{IsSession, IsWriter}
use Rattle.pool_model.specs.State.{Opening, dirty_of}
use Rattle.pool_model.specs.Sums.{times_charged, is_in_memory, once}
use Rattle.pool_model.specs.MayFollow.{MayFollow}
use Rattle.pool_model.specs.Effects.{after}
use Rattle.pool_model.specs.Parts.{without}
use Rattle.pin_core.specs.declared.kept.Kept.{Kept}
use Rattle.pin_core.specs.declared.kept.Kept.TheVariants as kept
use Rattle.pin_core.specs.declared.parts.Parts.{Parts}
use Rattle.pin_core.specs.parts.Keeping.{has_slots, row_in}
use Rattle.pin_core.specs.StateOf.{page_of, pages_in, place_in, state_of}
use Rattle.pin_core.specs.Invariant.{list_at, is_clean_spot, IsKeptOf, IsPlaced, IsKept}
use Rattle.pin_core.specs.Lawful.{Lawful}
use Rattle.pin_core.specs.Standing.{StandsFor, Enters}
use Rattle.pin_core.specs.parts.Flights.{flying, flown}
use Rattle.pin_core.proofs.Moving.{Moves, moved_pages}
use Rattle.pin_core.proofs.Moved.{Tells, page_known, quiet_quotas, told_kept, told_stands, told_slots}
use Rattle.pin_core.proofs.OnLists.{on_list_live, one_key, not_clean}
use Rattle.pin_core.proofs.Queued.{dirty_changed, dirty_open, names_more, names_without}
use Rattle.pin_core.proofs.Effects.{same_state, start_effect}

module _ {D : Type 0} where
  slots_kept : (blocks : ℕ) (k : Kept D) → IsKeptOf blocks spot.Dirty k → has_slots k ≡ true
  slots_kept blocks (kept.Empty shell) is = absurd (false≢true is.0)
  slots_kept blocks (kept.Held row) is = refl
  slots_kept blocks kept.Out is = refl

  module _ (v : Parts D) (is_kept : IsKept v) (laws : Lawful v) (who : ℕ) (id : PageId) (x : Entry (Kept D))
      (live : get v.pages.names id.key ≡ Some id.name) (there : get v.pages.entries id.name ≡ Some x) (dirty : x.place ≡ spot.Dirty)
      (makes : IsSession who ⊎ IsWriter who) (own : IsSession who → x.session ≡ who)
      (older : List ℕ) (newest : nodes_of x.client which.Dirty v.lists ≡ older ++ id.key ∷ []) where
    abbrev new : Parts D
    new = flown who id x v

    abbrev w : Entry (Kept D)
    w = flying who v.entries x

    abbrev event : Event
    event = record { maker = who; event = StartWrite id.name }

    at_x : IsPlaced v id.key x
    at_x = is_kept.placed id.key id.name x live there

    on : list_with id.key v.lists.pages.lists ≡ Some (place x.client which.Dirty)
    on = at_x.on ∙ ap (list_at x.client) dirty

    out : stands_in id.key v.clean.keys ≡ false
    out = at_x.clean ∙ ap is_clean_spot dirty

    moves : Moves id.key id.name x w v new
    moves = record {
      live = live;
      there = there;
      pages = refl;
      lists = list-shifted_other v.lists laws.whole x.client id.key which.Dirty on which.Flying;
      clean = λ k apart. refl;
      block_len = refl;
      form = refl;
      opens = refl;
      lens = λ k apart. len-shifted v.lists x.client id.key which.Flying k;
    }

    was : get (pages_in v.pages) id.name ≡ Some (page_of v.pages id.name x)
    was = page_known v id.name x there

    had : has_slots x.scratch ≡ true
    had = slots_kept x.blocks x.scratch (subst (λ p. IsKeptOf x.blocks p x.scratch) dirty at_x.kept)

    placed_w : IsPlaced new id.key w
    placed_w = record {
      on = list-shifted v.lists laws.whole x.client id.key which.Dirty on which.Flying;
      opened = at_x.opened;
      size = len-shifted v.lists x.client id.key which.Flying id.key ∙ at_x.size;
      clean = out;
      blocks = at_x.blocks;
      mem = refl;
      kept = refl;
    }

    start_state : state_of new ≡ after (state_of v) event
    start_state =
        let pages = moved_pages id.key id.name x w v new moves laws.proper ∙ ap (λ (b : Bool). insert (pages_in v.pages) id.name (record (page_of v.pages id.name w) { has_slots = b })) (sym had) in
        let names : dirty_of (state_of v) x.client ≡ names_of v.pages (nodes_of x.client which.Dirty v.lists) = ap (λ (r : Option (List ℕ)). unwrap_or r []) (dirty_open v.pages v.lists x.client at_x.opened) in
        let queue : names_of v.pages (nodes_of x.client which.Dirty new.lists) ≡ without id.name (dirty_of (state_of v) x.client) =
        ap (names_of v.pages) (nodes-shifted_from v.lists laws.whole x.client id.key which.Dirty on which.Flying (λ e. absurd (omega arith)))
        ∙ names_without v.pages id.key id.name live (one_key v.pages laws.proper id.key id.name live) (nodes_of x.client which.Dirty v.lists) (on_list_live v is_kept laws.whole (place x.client which.Dirty))
        ∙ ap (without id.name) (sym names) in
        let dirties = dirty_changed v.pages new.pages v.lists new.lists x.client (without id.name (dirty_of (state_of v) x.client)) refl refl at_x.opened queue
        (λ d other. nodes-shifted_other v.lists laws.whole x.client id.key which.Dirty on which.Flying d which.Dirty (λ e. other (omega arith)) (λ e. absurd (omega arith))) in
        same_state (state_of new) _ refl refl refl refl refl pages refl dirties (sym (not_clean v is_kept laws.proper id.key id.name live out)) refl refl
        ∙ sym (start_effect (state_of v) who id.name (page_of v.pages id.name x) was)

    start_may : (h : List Event) → MayFollow h (state_of v) event
    start_may h = record {
      makes = makes;
      allows = record {
        page = page_of v.pages id.name x;
        lives = was;
        own = own;
        dirty = ap place_in dirty;
        older = names_of v.pages older;
        newest = ap (λ (r : Option (List ℕ)). unwrap_or r []) (dirty_open v.pages v.lists x.client at_x.opened)
            ∙ ap (names_of v.pages) newest ∙ names_more v.pages id.key id.name older live;
      };
    }

    start_tells : Tells id.key id.name x w v new event
    start_tells = record {
      moves = moves;
      placed = placed_w;
      charges = record {
        client = refl;
        blocks = refl;
        arena_blocks = refl;
        buffers = refl;
        charge = λ t. ap (λ p. charge_in v.tree t + only_if (x.client == t) (times_charged (place_in p) * bytes_of v.arena.block_len x.blocks)) dirty;
        free = ap (λ p. bytes_of v.arena.block_len v.arena.free + once is_in_memory (place_in p) * bytes_of v.arena.block_len x.blocks) (sym dirty);
        stock = ap (λ (b : Bool). length v.slots.free + only_if b x.blocks) (sym had);
      };
      quotas = quiet_quotas id.key id.name x w v new moves laws.proper is_kept refl refl (sym had) refl (λ q n is. is);
      seated = let s = is_kept.seated in record { clients = s.clients; opens = s.opens; few = s.few };
      sized = let s = is_kept.sized in record { len = s.len; some = s.some; short = s.short; clients = s.clients; sessions = s.sessions; nodes = s.nodes; cleans = s.cleans; memory = s.memory; book = s.book };
      state = start_state;
      may = start_may;
    }

    pub start_kept : IsKept new
    start_kept = told_kept id.key id.name x w v new event is_kept laws.proper start_tells

    start_stands : (slot : Ghosts D) (o : Opening) (h : List Event) → StandsFor slot o h v → StandsFor slot o (h ++ event ∷ []) new
    start_stands slot o h stands = told_stands id.key id.name x w v new event is_kept laws.proper start_tells slot o h stands (λ q old other. refl) (record { mem = tt; kept = tt })

    pub start_enters : (slot : Ghosts D) → Enters slot (event ∷ []) (row_in x.scratch) [] v new
    start_enters slot = record {
      state = start_state;
      stands = start_stands slot;
      slots = λ measure. let told = told_slots id.key id.name x w v new event is_kept laws.proper start_tells measure in omega (arith, told);
    }
