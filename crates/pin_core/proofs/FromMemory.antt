-- A dirty page is pinned, and a clean one.
use Rattle.std.proofs.Common.{◌≡◌, ℕ, ◌<◌, ◌≤◌, false, List, [], ◌∷◌, Option, Some, None, unwrap_or, refl, ap, sym, ◌∙◌, subst, inl, inr, arith}
use Rattle.std.specs.FinMap.{get, insert}
use Rattle.index_list.specs.Listing.{list_with, stands_in, others}
use Rattle.index_list.proofs.Places.{nowhere}
use Rattle.index_list.proofs.Members.{others-all, others-not, stands_in-others}
use Rattle.page_table.specs.declared.page_id.PageId.{PageId}
use Rattle.page_table.specs.declared.entry.Place.TheVariants as spot
use Rattle.page_table.specs.declared.entry.Entry.{Entry}
use Rattle.client_lists.specs.declared.which.Which.TheVariants as which
use Rattle.client_lists.specs.Clients.{place, nodes_of, longest}
use Rattle.client_lists.proofs.Nodes.{list-shifted, list-shifted_other, nodes-shifted_from, nodes-shifted_other, len-shifted, list-with_node, list-with_node_other, nodes-with_node_other, len-with_node, len-with_node_other}
use Rattle.clean_evict.specs.Eviction.{names_of}
use Rattle.reservation_tree.specs.Tree.{charge_of as charge_in}
use Rattle.reservation_tree.specs.Tracker.{unused}
use Rattle.pool_model.specs.declared.event.Event.TheVariants as event
use Rattle.pool_model.specs.declared.entry.Entry.{Entry as Event}
use Rattle.pool_model.specs.Bytes.{bytes_of}
use Rattle.pool_model.specs.State.{dirty_of}
use Rattle.pool_model.specs.Sums.{HasRoom}
use Rattle.pool_model.specs.Parts.{without}
use Rattle.pin_core.specs.declared.kept.Kept.{Kept}
use Rattle.pin_core.specs.declared.parts.Parts.{Parts}
use Rattle.pin_core.specs.StateOf.{dirty_in, state_of}
use Rattle.pin_core.specs.Lawful.{Lawful}
use Rattle.pin_core.specs.Invariant.{list_at, is_clean_spot, IsHeld, IsMem, IsPlaced, IsKept}
use Rattle.pin_core.specs.parts.Pinning.{ReadyDirty, ReadyClean, pinned_dirty, pinned_clean}
use Rattle.pin_core.proofs.Mapped.{put_again}
use Rattle.pin_core.proofs.Queued.{dirty_changed, dirty_same, dirty_open, names_without}
use Rattle.pin_core.proofs.OnLists.{on_list_live, clean_key_live, one_key, not_clean}
use Rattle.pin_core.proofs.Charged.{own_is, room_unused}
use Rattle.pin_core.proofs.Entered.{Done}
use Rattle.pin_core.proofs.Loaded.{bytes_most}
use Rattle.pin_core.proofs.InMemory.{IsHere, dirty_here, clean_here}
use Rattle.pin_core.proofs.Pinned.{Lists, in_code, here_ready, here_done, here_state}

module _ {D : Type 0} (v : Parts D) (is_kept : IsKept v) (laws : Lawful v) (id : PageId) (x : Entry (Kept D))
    (live : get v.pages.names id.key ≡ Some id.name) (there : get v.pages.entries id.name ≡ Some x) where
  abbrev len : ℕ
  len = v.arena.block_len

  abbrev bytes : ℕ
  bytes = bytes_of v.arena.block_len x.blocks

  at_x : IsPlaced v id.key x
  at_x = is_kept.placed id.key id.name x live there

  abbrev pin : Event
  pin = record { maker = x.session; event = event.PinHere id.name }

  dirties_are : get (dirty_in v.pages v.lists) x.client ≡ Some (names_of v.pages (nodes_of x.client which.Dirty v.lists))
  dirties_are = dirty_open v.pages v.lists x.client at_x.opened

  dirty_names : dirty_of (state_of v) x.client ≡ names_of v.pages (nodes_of x.client which.Dirty v.lists)
  dirty_names = ap (λ (r : Option (List ℕ)). unwrap_or r []) dirties_are

  less_dirty : names_of v.pages (others id.key (nodes_of x.client which.Dirty v.lists)) ≡ without id.name (dirty_of (state_of v) x.client)
  less_dirty =
      names_without v.pages id.key id.name live (one_key v.pages laws.proper id.key id.name live) (nodes_of x.client which.Dirty v.lists) (on_list_live v is_kept laws.whole (place x.client which.Dirty))
      ∙ ap (without id.name) (sym dirty_names)

  module _ (dirty : x.place ≡ spot.Dirty) where
    abbrev new : Parts D
    new = pinned_dirty id x v

    pub held_dirty : IsHeld len x.blocks x.mem
    held_dirty = subst (λ p. IsMem len x.blocks p x.mem) dirty at_x.mem

    pub is_dirty_here : IsHere x.place
    is_dirty_here = subst IsHere (sym dirty) dirty_here

    on : list_with id.key v.lists.pages.lists ≡ Some (place x.client which.Dirty)
    on = at_x.on ∙ ap (list_at x.client) dirty

    out : stands_in id.key v.clean.keys ≡ false
    out = at_x.clean ∙ ap is_clean_spot dirty

    pub dirty_ready : bytes ≤ unused (charge_in v.tree) v.tree.trackers x.client → ReadyDirty v id x
    dirty_ready unused = record {
      here = here_ready v is_kept laws id x live there is_dirty_here held_dirty unused;
      on = record { which = which.Dirty; there = on };
    }

    lists : Lists v is_kept laws id x live there is_dirty_here held_dirty new.lists new.clean
    lists = record {
      on = list-shifted v.lists laws.whole x.client id.key which.Dirty on which.Pinned;
      others = λ k apart. list-shifted_other v.lists laws.whole x.client id.key which.Dirty on which.Pinned k apart;
      opens = refl;
      size = len-shifted v.lists x.client id.key which.Pinned id.key ∙ at_x.size;
      lens = λ k apart. len-shifted v.lists x.client id.key which.Pinned k;
      nodes = refl;
      off = out;
      cleans = λ k apart. refl;
      clean_nodes = refl;
    }

    queue : dirty_in new.pages new.lists ≡ insert (dirty_in v.pages v.lists) x.client (without id.name (dirty_of (state_of v) x.client))
    queue = dirty_changed v.pages new.pages v.lists new.lists x.client (without id.name (dirty_of (state_of v) x.client)) refl refl at_x.opened
        (ap (names_of v.pages) (nodes-shifted_from v.lists laws.whole x.client id.key which.Dirty on which.Pinned (λ e. absurd (omega arith))) ∙ less_dirty)
        (λ d other. nodes-shifted_other v.lists laws.whole x.client id.key which.Dirty on which.Pinned d which.Dirty (λ e. other (omega arith)) (λ e. absurd (omega arith)))

    pub dirty_done : Done (pin ∷ []) [] [] v new
    dirty_done =
        here_done v is_kept laws id x live there is_dirty_here held_dirty new.lists new.clean lists
        (here_state v is_kept laws id x live there is_dirty_here held_dirty new.lists new.clean lists queue (sym (not_clean v is_kept laws.proper id.key id.name live out)))
        (inl dirty)

  module _ (clean : x.place ≡ spot.Clean) (room : HasRoom (state_of v) x.client bytes) where
    abbrev now : Parts D
    now = pinned_clean id x v

    pub held_clean : IsHeld len x.blocks x.mem
    held_clean = subst (λ p. IsMem len x.blocks p x.mem) clean at_x.mem

    pub is_clean_here : IsHere x.place
    is_clean_here = subst IsHere (sym clean) clean_here

    off : list_with id.key v.lists.pages.lists ≡ None
    off = at_x.on ∙ ap (list_at x.client) clean

    node_in : id.key < v.lists.pages.lists.nodes
    node_in =
        let key = laws.proper.keys id.key id.name live in
        let nodes = is_kept.sized.nodes in
        omega (arith, key, nodes)

    pub clean_ready : ReadyClean v id x
    clean_ready = record {
      here = here_ready v is_kept laws id x live there is_clean_here held_clean (room_unused v is_kept x.client bytes (own_is v is_kept id.name x there) room);
      clean = at_x.clean ∙ ap is_clean_spot clean;
      opened = at_x.opened;
      node = node_in;
      nowhere = off;
      short = in_code v is_kept laws id x live there is_clean_here held_clean longest (bytes_most len x.blocks at_x.blocks.1 is_kept.sized.short);
    }

    lists_now : Lists v is_kept laws id x live there is_clean_here held_clean now.lists now.clean
    lists_now = record {
      on = list-with_node v.lists laws.whole x.client id.key bytes which.Pinned at_x.opened off;
      others = λ k apart. list-with_node_other v.lists laws.whole x.client id.key bytes which.Pinned k apart;
      opens = refl;
      size = len-with_node v.lists laws.whole x.client id.key bytes which.Pinned node_in;
      lens = λ k apart. len-with_node_other v.lists x.client id.key bytes which.Pinned k apart;
      nodes = refl;
      off = others-not id.key v.clean.keys;
      cleans = λ k apart. stands_in-others k id.key v.clean.keys (λ same. apart (sym same));
      clean_nodes = refl;
    }

    -- it was not among the dirty ones
    none_less : without id.name (dirty_of (state_of v) x.client) ≡ names_of v.pages (nodes_of x.client which.Dirty v.lists)
    none_less = sym less_dirty ∙ ap (names_of v.pages) (others-all id.key _ (nowhere v.lists.pages.lists id.key off (place x.client which.Dirty)))

    queue_now : dirty_in now.pages now.lists ≡ insert (dirty_in v.pages v.lists) x.client (without id.name (dirty_of (state_of v) x.client))
    queue_now =
        dirty_same v.pages now.pages v.lists now.lists refl refl (λ d. nodes-with_node_other v.lists laws.whole x.client id.key bytes which.Pinned d which.Dirty (λ same. absurd (omega arith)))
        ∙ sym (ap (λ (xs : List ℕ). insert (dirty_in v.pages v.lists) x.client xs) none_less ∙ put_again (dirty_in v.pages v.lists) x.client _ dirties_are)

    pub clean_done : Done (pin ∷ []) [] [] v now
    clean_done =
        here_done v is_kept laws id x live there is_clean_here held_clean now.lists now.clean lists_now
        (here_state v is_kept laws id x live there is_clean_here held_clean now.lists now.clean lists_now queue_now
        (names_without v.pages id.key id.name live (one_key v.pages laws.proper id.key id.name live) v.clean.keys (clean_key_live v is_kept)))
        (inr (clean, room))
