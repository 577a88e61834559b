-- A page that was loaded comes back, and is pinned once.
use Rattle.std.proofs.Common.{◌≡◌, ℕ, ◌+◌, ◌*◌, ◌==◌, Bool, true, List, [], ◌∷◌, ◌++◌, length, Some, refl, ap, sym, ◌∙◌, arith}
use Rattle.std.specs.FinMap.{get, insert}
use Rattle.std.specs.List.{sum_by}
use Rattle.std.proofs.lemmas.Bool.{false≢true}
use Rattle.outside.specs.declared.slot.Slot.{Ghosts}
use Rattle.block_arena.specs.Memory.{Buffer}
use Rattle.index_list.specs.Listing.{list_with}
use Rattle.page_table.specs.declared.page_id.PageId.{PageId}
use Rattle.page_table.specs.declared.entry.Place.TheVariants as spot
use Rattle.page_table.specs.declared.entry.Entry.{Entry}
use Rattle.client_lists.specs.declared.which.Which.TheVariants as which
use Rattle.client_lists.specs.Clients.{place}
use Rattle.reservation_tree.specs.Tree.{charge_of as charge_in}
use Rattle.pool_model.specs.declared.event.Event.TheVariants as event
use Rattle.pool_model.specs.declared.entry.Entry.{Entry as Event}
use Rattle.pool_model.specs.Bytes.{bytes_of, only_if}
use Rattle.pool_model.specs.State.{Opening}
use Rattle.pool_model.specs.Sums.{times_charged, is_in_memory, once}
use Rattle.pool_model.specs.Effects.{after}
use Rattle.pin_core.specs.declared.kept.Kept.{Kept}
use Rattle.pin_core.specs.declared.parts.Parts.{Parts}
use Rattle.pin_core.specs.parts.Keeping.{has_slots}
use Rattle.pin_core.specs.StateOf.{page_of, pages_in, place_in, state_of}
use Rattle.pin_core.specs.Invariant.{list_at, is_clean_spot, IsPlaced, IsKept}
use Rattle.pin_core.specs.Lawful.{Lawful}
use Rattle.pin_core.specs.Standing.{StandsFor, slots_home}
use Rattle.pin_core.specs.parts.Ends.{ComesBack, back_pinned, read}
use Rattle.pin_core.proofs.Back.{slots_had, none_home}
use Rattle.pin_core.proofs.Moving.{Moves, moved_pages}
use Rattle.pin_core.proofs.Moved.{Tells, page_known, quiet_quotas, told_kept, told_stands, told_slots}
use Rattle.pin_core.proofs.Queued.{dirty_same}
use Rattle.pin_core.proofs.Effects.{same_state, read_effect}
use Rattle.pin_core.proofs.Places.{HasQuota, has_quota}

module _ {D : Type 0} (v : Parts D) (is_kept : IsKept v) (laws : Lawful v) (id : PageId) (x : Entry (Kept D)) (buf : Buffer) (row : List D) (back : ComesBack v spot.Loading id x buf row) where
  at_x : IsPlaced v id.key x
  at_x = is_kept.placed id.key id.name x back.live back.there

  on : list_with id.key v.lists.pages.lists ≡ Some (place x.client which.Pinned)
  on = at_x.on ∙ ap (list_at x.client) back.place

  was : get (pages_in v.pages) id.name ≡ Some (page_of v.pages id.name x)
  was = page_known v id.name x back.there

  had : has_slots x.scratch ≡ true
  had = slots_had v is_kept spot.Loading id x buf row back refl

  quota : HasQuota v x
  quota = has_quota v is_kept id.name x was

  abbrev new : Parts D
  new = read id x row v

  abbrev ok : Event
  ok = record { maker = x.session; event = event.ReadOk id.name }

  read_moves : Moves id.key id.name x (back_pinned row x) v new
  read_moves = record { live = back.live; there = back.there; pages = refl; lists = λ k apart. refl; clean = λ k apart. refl; block_len = refl; form = refl; opens = refl; lens = λ k apart. refl }

  pub read_state : state_of new ≡ after (state_of v) ok
  read_state =
      let pages = moved_pages id.key id.name x (back_pinned row x) v new read_moves laws.proper ∙ ap (λ (b : Bool). insert (pages_in v.pages) id.name (record (page_of v.pages id.name (back_pinned row x)) { has_slots = b })) (sym had) in
      let dirties = dirty_same v.pages new.pages v.lists new.lists refl refl (λ d. refl) in
      same_state (state_of new) _ refl refl refl refl refl pages refl dirties refl refl refl
      ∙ sym (read_effect (state_of v) x.session id.name (page_of v.pages id.name x) was)

  read_tells : Tells id.key id.name x (back_pinned row x) v new ok
  read_tells = record {
    moves = read_moves;
    placed = record { on = on; opened = at_x.opened; size = at_x.size; clean = at_x.clean ∙ ap is_clean_spot back.place; blocks = at_x.blocks; mem = refl; kept = (refl, back.slots) };
    charges = record {
      client = refl;
      blocks = refl;
      arena_blocks = refl;
      buffers = refl;
      charge = λ t. ap (λ p. charge_in v.tree t + only_if (x.client == t) (times_charged (place_in p) * bytes_of v.arena.block_len x.blocks)) back.place;
      free = ap (λ p. bytes_of v.arena.block_len v.arena.free + once is_in_memory (place_in p) * bytes_of v.arena.block_len x.blocks) (sym back.place);
      stock = ap (λ (b : Bool). length v.slots.free + only_if b x.blocks) (sym had);
    };
    quotas = quiet_quotas id.key id.name x (back_pinned row x) v new read_moves laws.proper is_kept refl refl (sym had) refl (λ q n is. is);
    seated = let s = is_kept.seated in record { clients = s.clients; opens = s.opens; few = s.few };
    sized = let s = is_kept.sized in record { len = s.len; some = s.some; short = s.short; clients = s.clients; sessions = s.sessions; nodes = s.nodes; cleans = s.cleans; memory = s.memory; book = s.book };
    state = read_state;
    may = λ h. record { makes = quota.low; allows = record { page = page_of v.pages id.name x; own = record { lives = was; own = refl }; loading = ap place_in back.place } };
  }

  pub read_kept : IsKept new
  read_kept = told_kept id.key id.name x (back_pinned row x) v new ok is_kept laws.proper read_tells

  pub read_stands : (slot : Ghosts D) (o : Opening) (h : List Event) → StandsFor slot o h v → StandsFor slot o (h ++ ok ∷ []) new
  read_stands slot o h stands = told_stands id.key id.name x (back_pinned row x) v new ok is_kept laws.proper read_tells slot o h stands (λ q old other. refl)
      (record { mem = tt; kept = λ stored. absurd (false≢true stored) })

  pub read_slots : (measure : D → ℕ) → slots_home measure new ≡ slots_home measure v + sum_by measure row
  read_slots measure =
      let told = told_slots id.key id.name x (back_pinned row x) v new ok is_kept laws.proper read_tells measure in
      let none = none_home v is_kept spot.Loading id x buf row back refl measure in
      omega (arith, told, none)
