-- A page that is in memory is pinned: what a dirty and a clean one have in common.
use Rattle.std.proofs.Common.{◌≡◌, ◌≢◌, ℕ, ◌+◌, ◌*◌, ◌≤◌, ◌==◌, ◌⊎◌, Bool, false, List, [], ◌∷◌, ◌++◌, get_or, length, Some, refl, ap, sym, ◌∙◌, subst, inl, inr, arith}
use Rattle.std.specs.FinMap.{get, insert}
use Rattle.outside.specs.declared.slot.Slot.{Ghosts}
use Rattle.block_arena.specs.Memory.{IsBufferOf}
use Rattle.index_list.specs.Listing.{list_with, stands_in}
use Rattle.page_table.specs.declared.page_id.PageId.{PageId}
use Rattle.page_table.specs.declared.entry.Place.TheVariants as spot
use Rattle.page_table.specs.declared.entry.Entry.{Entry}
use Rattle.client_lists.specs.declared.which.Which.TheVariants as which
use Rattle.client_lists.specs.Clients.{Clients, place, len_of}
use Rattle.clean_evict.specs.Cleans.{Cleans}
use Rattle.clean_evict.specs.Eviction.{names_of}
use Rattle.reservation_tree.specs.Tree.{charge_of as charge_in}
use Rattle.reservation_tree.specs.Tracker.{unused}
use Rattle.pool_model.specs.declared.event.Event.TheVariants as event
use Rattle.pool_model.specs.declared.entry.Entry.{Entry as Event}
use Rattle.pool_model.specs.Bytes.{bytes_of, only_if}
use Rattle.pool_model.specs.State.{Opening, dirty_of}
use Rattle.pool_model.specs.Sums.{times_charged, HasRoom}
use Rattle.pool_model.specs.Parts.{without}
use Rattle.pool_model.specs.MayFollow.{MayFollow}
use Rattle.pool_model.specs.Effects.{after}
use Rattle.pool_model.specs.LookingBack.{content_of}
use Rattle.pin_core.specs.declared.kept.Kept.{Kept}
use Rattle.pin_core.specs.declared.parts.Parts.{Parts}
use Rattle.pin_core.specs.StateOf.{page_of, pages_in, place_in, dirty_in, state_of}
use Rattle.pin_core.specs.Lawful.{Lawful}
use Rattle.pin_core.specs.Invariant.{IsHeld, IsKeptOf, IsPlaced, IsKept}
use Rattle.pin_core.specs.Standing.{StandsFor, Holds}
use Rattle.pin_core.specs.Marking.{form_of, under_of}
use Rattle.pin_core.specs.parts.Flights.{buffer_in}
use Rattle.pin_core.specs.parts.Pinning.{ReadyHere, with_client, pinned_here}
use Rattle.pin_core.proofs.Moving.{Moves, moved_pages}
use Rattle.pin_core.proofs.Moved.{Tells, page_known, quiet_quotas, told_kept, told_stands, told_slots}
use Rattle.pin_core.proofs.Amounts.{rose}
use Rattle.pin_core.proofs.Effects.{same_state, here_effect}
use Rattle.pin_core.proofs.Charged.{own_low, own_live}
use Rattle.pin_core.proofs.Entered.{Done}
use Rattle.pin_core.proofs.Repins.{pinned_holds}
use Rattle.pin_core.proofs.Loaded.{charged_none, charged_once}
use Rattle.pin_core.proofs.InMemory.{held_mem, IsHere, home_kept}
use Rattle.pin_core.proofs.Taken.{taken_buffer, taken_bytes}

module _ {D : Type 0} (v : Parts D) (is_kept : IsKept v) (laws : Lawful v) (id : PageId) (x : Entry (Kept D))
    (live : get v.pages.names id.key ≡ Some id.name) (there : get v.pages.entries id.name ≡ Some x) (here : IsHere x.place) (held : IsHeld v.arena.block_len x.blocks x.mem) where
  abbrev len : ℕ
  len = v.arena.block_len

  abbrev bytes : ℕ
  bytes = bytes_of v.arena.block_len x.blocks

  abbrev w : Entry (Kept D)
  w = with_client x

  abbrev e : Event
  e = record { maker = x.session; event = event.PinHere id.name }

  at_x : IsPlaced v id.key x
  at_x = is_kept.placed id.key id.name x live there

  was : get (pages_in v.pages) id.name ≡ Some (page_of v.pages id.name x)
  was = page_known v id.name x there

  kept_w : IsKeptOf x.blocks (spot.Pinned 1) x.scratch
  kept_w = home_kept x.place here x.blocks x.scratch at_x.kept

  pub in_code : (n : ℕ) → bytes ≤ n → bytes_of v.block_len x.blocks ≤ n
  in_code n le = subst (λ (l : ℕ). bytes_of l x.blocks ≤ n) (sym is_kept.sized.len) le

  pub here_ready : bytes ≤ unused (charge_in v.tree) v.tree.trackers x.client → ReadyHere v id x
  here_ready unused = record {
    live = live;
    held = held_mem len x.blocks x.mem held;
    tracker = own_live v is_kept id.name x there;
    unused = in_code _ unused;
    len = is_kept.sized.len;
  }

  -- the buffer is the page's, with its bytes
  pub here_whole : IsBufferOf x.blocks len (buffer_in x.mem)
  here_whole = taken_buffer len x.blocks x.mem held

  pub here_content : (slot : Ghosts D) (o : Opening) (h : List Event) → StandsFor slot o h v → (buffer_in x.mem).bytes ≡ content_of o h id.name
  here_content slot o h stood = let holds : Holds slot (form_of v) id.name (content_of o h id.name) x = stood.holds id.name x there in taken_bytes len x.blocks x.mem (content_of o h id.name) held holds.mem

  module _ (lists : Clients) (clean : Cleans) where
    abbrev new : Parts D
    new = pinned_here lists clean id x v

    -- what the lists have to be
    pub record Lists : Type 0 where
      pub on : list_with id.key lists.pages.lists ≡ Some (place x.client which.Pinned)
      pub others : (k : ℕ) → k ≢ id.key → list_with k lists.pages.lists ≡ list_with k v.lists.pages.lists
      pub opens : lists.is_open ≡ v.lists.is_open
      pub size : len_of id.key lists.pages ≡ bytes
      pub lens : (k : ℕ) → k ≢ id.key → len_of k lists.pages ≡ len_of k v.lists.pages
      pub nodes : lists.pages.lists.nodes ≡ v.lists.pages.lists.nodes
      pub off : stands_in id.key clean.keys ≡ false
      pub cleans : (k : ℕ) → k ≢ id.key → stands_in k clean.keys ≡ stands_in k v.clean.keys
      pub clean_nodes : clean.nodes ≡ v.clean.nodes

    module _ (are : Lists) where
      pub moves : Moves id.key id.name x w v new
      moves = record {
        live = live;
        there = there;
        pages = refl;
        lists = are.others;
        clean = are.cleans;
        block_len = refl;
        form = refl;
        opens = are.opens;
        lens = are.lens;
      }

      placed_w : IsPlaced new id.key w
      placed_w = record {
        on = are.on;
        opened = ap (λ (o : List Bool). get_or o x.client false) are.opens ∙ at_x.opened;
        size = are.size;
        clean = are.off;
        blocks = at_x.blocks;
        mem = refl;
        kept = kept_w;
      }

      module _ (state : state_of new ≡ after (state_of v) e) (may : (x.place ≡ spot.Dirty) ⊎ ((x.place ≡ spot.Clean) × HasRoom (state_of v) x.client bytes)) where
        may_here : (h : List Event) → MayFollow h (state_of v) e
        may_here h = record {
          makes = own_low v is_kept id.name x there;
          allows = record {
            page = page_of v.pages id.name x;
            own = record { lives = was; own = refl };
            here = elim may [ inl dirty ↦ inl (ap place_in dirty) | inr clean ↦ inr (record { clean = ap place_in clean.0; room = clean.1 }) ];
          };
        }

        tells : Tells id.key id.name x w v new e
        tells = record {
          moves = moves;
          placed = placed_w;
          charges = record {
            client = refl;
            blocks = refl;
            arena_blocks = refl;
            buffers = refl;
            charge = λ t.
                let rise = rose v.tree x.client bytes t in
                let none : only_if (x.client == t) (times_charged (place_in x.place) * bytes) ≡ only_if (x.client == t) (0 * bytes) = ap (λ (n : ℕ). only_if (x.client == t) (n * bytes)) here.free in
                let zero = charged_none (x.client == t) bytes in
                let one = charged_once (x.client == t) bytes in
                omega (arith, rise, none, zero, one);
            free = ap (λ (b : Bool). bytes_of len v.arena.free + only_if b 1 * bytes) (sym here.inside);
            stock = refl;
          };
          quotas = quiet_quotas id.key id.name x w v new moves laws.proper is_kept refl refl refl refl (λ q n is. is);
          seated = let s = is_kept.seated in record { clients = s.clients; opens = λ c. ap (λ (o : List Bool). get_or o c false) are.opens ∙ s.opens c; few = s.few };
          sized = let s = is_kept.sized in record {
            len = s.len;
            some = s.some;
            short = s.short;
            memory = s.memory;
            sessions = s.sessions;
            book = s.book;
            clients = ap (λ (o : List Bool). length o) are.opens ∙ s.clients;
            nodes = subst (λ (n : ℕ). v.pages.room ≤ n) (sym are.nodes) s.nodes;
            cleans = subst (λ (n : ℕ). v.pages.room ≤ n) (sym are.clean_nodes) s.cleans;
          };
          state = state;
          may = may_here;
        }

        pub here_done : Done (e ∷ []) [] [] v new
        here_done = record {
          kept = told_kept id.key id.name x w v new e is_kept laws.proper tells;
          enters = λ slot. record {
            state = state;
            stands = λ o h stood. told_stands id.key id.name x w v new e is_kept laws.proper tells slot o h stood (λ q old other. refl) (record {
              mem = tt;
              kept = pinned_holds slot (under_of v.marked x.version) id.name len (content_of o (h ++ e ∷ []) id.name) 1 x.scratch;
            });
            slots = λ measure. let told = told_slots id.key id.name x w v new e is_kept laws.proper tells measure in omega (arith, told);
          };
        }

      -- the state, by its lists of dirty and of clean pages
      pub here_state : dirty_in new.pages lists ≡ insert (dirty_in v.pages v.lists) x.client (without id.name (dirty_of (state_of v) x.client))
          → names_of v.pages clean.keys ≡ without id.name (names_of v.pages v.clean.keys)
          → state_of new ≡ after (state_of v) e
      here_state dirties cleans =
          same_state (state_of new) _ refl refl refl refl refl (moved_pages id.key id.name x w v new moves laws.proper) refl dirties cleans refl refl
          ∙ sym (here_effect (state_of v) x.session id.name (page_of v.pages id.name x) was)
