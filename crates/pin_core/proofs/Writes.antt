-- A page that was written comes back, and is clean.
use Rattle.std.proofs.Common.{◌≡◌, ℕ, ◌+◌, ◌*◌, ◌==◌, ◌⊎◌, Bool, true, List, [], ◌∷◌, ◌++◌, length, Some, refl, ap, sym, ◌∙◌, subst, arith}
use Rattle.std.specs.FinMap.{get, insert}
use Rattle.std.specs.List.{sum_by}
use Rattle.outside.specs.declared.slot.Slot.{Ghosts}
use Rattle.block_arena.specs.Memory.{Buffer}
use Rattle.index_list.specs.Listing.{list_with}
use Rattle.index_list.proofs.Members.{stands_in-same, stands_in-last}
use Rattle.page_table.specs.declared.page_id.PageId.{PageId}
use Rattle.page_table.specs.declared.entry.Place.TheVariants as spot
use Rattle.page_table.specs.declared.entry.Entry.{Entry}
use Rattle.client_lists.specs.declared.which.Which.TheVariants as which
use Rattle.client_lists.specs.Clients.{place}
use Rattle.client_lists.proofs.Nodes.{list-without_node, list-without_node_other, nodes-without_node_other}
use Rattle.reservation_tree.specs.Tree.{charge_of as charge_in}
use Rattle.pool_model.specs.declared.event.Event.TheVariants as event
use Rattle.pool_model.specs.declared.entry.Entry.{Entry as Event}
use Rattle.pool_model.specs.Bytes.{bytes_of, only_if}
use Rattle.pool_model.specs.Makers.{IsSession, IsWriter}
use Rattle.pool_model.specs.State.{Opening}
use Rattle.pool_model.specs.Sums.{times_charged, is_in_memory, once}
use Rattle.pool_model.specs.Effects.{after}
use Rattle.pool_model.specs.LookingBack.{content_of}
use Rattle.pool_model.specs.HistoryLaws.{made}
use Rattle.pin_core.specs.declared.kept.Kept.{Kept}
use Rattle.pin_core.specs.declared.parts.Parts.{Parts}
use Rattle.pin_core.specs.parts.Keeping.{has_slots}
use Rattle.pin_core.specs.StateOf.{page_of, pages_in, place_in, state_of}
use Rattle.pin_core.specs.Invariant.{list_at, IsPlaced, IsKept}
use Rattle.pin_core.specs.Lawful.{Lawful}
use Rattle.pin_core.specs.Standing.{StandsFor, AreHeld, slots_home}
use Rattle.pin_core.specs.Marking.{under_of}
use Rattle.pin_core.specs.parts.Ends.{ComesBack, back_clean, written}
use Rattle.pin_core.proofs.Back.{slots_had, none_home}
use Rattle.pin_core.proofs.Histories.{content_grows}
use Rattle.pin_core.proofs.Moving.{Moves, moved_pages}
use Rattle.pin_core.proofs.Moved.{Tells, page_known, quiet_quotas, told_kept, told_stands, told_slots}
use Rattle.pin_core.proofs.Queued.{dirty_same, names_more}
use Rattle.pin_core.proofs.Effects.{same_state, written_effect}
use Rattle.pin_core.proofs.Stands.{was_made}

module _ {D : Type 0} (v : Parts D) (is_kept : IsKept v) (laws : Lawful v) (who : ℕ) (makes : IsSession who ⊎ IsWriter who) (id : PageId) (x : Entry (Kept D)) (buf : Buffer) (row : List D)
    (back : ComesBack v (spot.Flying who) id x buf row) where
  at_x : IsPlaced v id.key x
  at_x = is_kept.placed id.key id.name x back.live back.there

  on : list_with id.key v.lists.pages.lists ≡ Some (place x.client which.Flying)
  on = at_x.on ∙ ap (list_at x.client) back.place

  was : get (pages_in v.pages) id.name ≡ Some (page_of v.pages id.name x)
  was = page_known v id.name x back.there

  had : has_slots x.scratch ≡ true
  had = slots_had v is_kept (spot.Flying who) id x buf row back refl

  abbrev new : Parts D
  new = written id x buf row v

  abbrev ok : Event
  ok = record { maker = who; event = event.WriteOk id.name }

  written_moves : Moves id.key id.name x (back_clean buf row x) v new
  written_moves = record {
    live = back.live;
    there = back.there;
    pages = refl;
    lists = list-without_node_other v.lists laws.whole x.client id.key which.Flying on;
    clean = λ k apart. stands_in-same k id.key v.clean.keys (λ same. apart (sym same));
    block_len = refl;
    form = refl;
    opens = refl;
    lens = λ k apart. refl;
  }

  pub written_state : state_of new ≡ after (state_of v) ok
  written_state =
      let pages = moved_pages id.key id.name x (back_clean buf row x) v new written_moves laws.proper ∙ ap (λ (b : Bool). insert (pages_in v.pages) id.name (record (page_of v.pages id.name (back_clean buf row x)) { has_slots = b })) (sym had) in
      let dirties = dirty_same v.pages new.pages v.lists new.lists refl refl (λ d. nodes-without_node_other v.lists laws.whole x.client id.key which.Flying on d which.Dirty (λ e. absurd (omega arith))) in
      same_state (state_of new) _ refl refl refl refl refl pages refl dirties (names_more v.pages id.key id.name v.clean.keys back.live) refl refl
      ∙ sym (written_effect (state_of v) who id.name (page_of v.pages id.name x) was)

  written_tells : Tells id.key id.name x (back_clean buf row x) v new ok
  written_tells = record {
    moves = written_moves;
    placed = record {
      on = list-without_node v.lists laws.whole x.client id.key which.Flying on;
      opened = at_x.opened;
      size = at_x.size;
      clean = stands_in-last id.key v.clean.keys;
      blocks = at_x.blocks;
      mem = back.buffer;
      kept = (refl, back.slots);
    };
    charges = record {
      client = refl;
      blocks = refl;
      arena_blocks = refl;
      buffers = refl;
      charge = λ t. ap (λ p. charge_in v.tree t + only_if (x.client == t) (times_charged (place_in p) * bytes_of v.arena.block_len x.blocks)) back.place;
      free = ap (λ p. bytes_of v.arena.block_len v.arena.free + once is_in_memory (place_in p) * bytes_of v.arena.block_len x.blocks) (sym back.place);
      stock = ap (λ (b : Bool). length v.slots.free + only_if b x.blocks) (sym had);
    };
    quotas = quiet_quotas id.key id.name x (back_clean buf row x) v new written_moves laws.proper is_kept refl refl (sym had) refl (λ q n is. is);
    seated = let s = is_kept.seated in record { clients = s.clients; opens = s.opens; few = s.few };
    sized = let s = is_kept.sized in record { len = s.len; some = s.some; short = s.short; clients = s.clients; sessions = s.sessions; nodes = s.nodes; cleans = s.cleans; memory = s.memory; book = s.book };
    state = written_state;
    may = λ h. record { makes = makes; allows = record { page = page_of v.pages id.name x; lives = was; flying = ap place_in back.place } };
  }

  pub written_kept : IsKept new
  written_kept = told_kept id.key id.name x (back_clean buf row x) v new ok is_kept laws.proper written_tells

  pub written_stands : (slot : Ghosts D) (o : Opening) (h : List Event) → StandsFor slot o h v → buf.bytes ≡ content_of o h id.name → AreHeld slot (under_of v.marked x.version) id.name v.arena.block_len row buf.bytes → StandsFor slot o (h ++ ok ∷ []) new
  written_stands slot o h stands bytes held =
      let same : content_of o (h ++ ok ∷ []) id.name ≡ content_of o h id.name = content_grows o h ok id.name (made (page_of v.pages id.name x)) (was_made slot o h v stands id.name x back.there) in
      let now : buf.bytes ≡ content_of o (h ++ ok ∷ []) id.name = bytes ∙ sym same in
      told_stands id.key id.name x (back_clean buf row x) v new ok is_kept laws.proper written_tells slot o h stands (λ q old other. refl)
      (record { mem = now; kept = λ stored. subst (AreHeld slot (under_of v.marked x.version) id.name v.arena.block_len row) now held })

  pub written_slots : (measure : D → ℕ) → slots_home measure new ≡ slots_home measure v + sum_by measure row
  written_slots measure =
      let told = told_slots id.key id.name x (back_clean buf row x) v new ok is_kept laws.proper written_tells measure in
      let none = none_home v is_kept (spot.Flying who) id x buf row back refl measure in
      omega (arith, told, none)
