-- The page that has been clean longest goes out of memory.
use Rattle.std.proofs.Common.{◌≡◌, ℕ, ◌+◌, ◌*◌, ◌<◌, ◌==◌, ◌||◌, Bool, true, false, List, [], ◌∷◌, ◌++◌, drop, Option, Some, None, unwrap_or, refl, ap, sym, ◌∙◌, subst, arith, eqb, ne_eqb}
use Rattle.std.specs.FinMap.{get, insert}
use Rattle.std.proofs.lemmas.Bool.{false≢true, eq-eqb}
use Rattle.std.specs.List.{IsDistinct}
use Rattle.pool_model.specs.LookingBack.{content_of}
use Rattle.pool_model.specs.HistoryLaws.{made}
use Rattle.pin_core.proofs.Histories.{content_grows}
use Rattle.pin_core.proofs.Stands.{was_made}
use Rattle.outside.specs.declared.slot.Slot.{Ghosts}
use Rattle.index_list.specs.Listing.{list_with, stands_in, others}
use Rattle.index_list.proofs.Places.{nowhere}
use Rattle.index_list.proofs.Members.{others-all}
use Rattle.page_table.specs.declared.entry.Place.TheVariants as spot
use Rattle.page_table.specs.declared.entry.Entry.{Entry}
use Rattle.client_lists.specs.declared.which.Which.TheVariants as which
use Rattle.client_lists.specs.Clients.{place, nodes_of}
use Rattle.clean_evict.specs.Eviction.{name_at, names_of, blocks_at, evicted, evicted_if, evicted_at}
use Rattle.clean_evict.proofs.Kept.{blocks-there}
use Rattle.reservation_tree.specs.Tree.{charge_of as charge_in}
use Rattle.pool_model.specs.declared.event.Event.TheVariants as event
use Rattle.pool_model.specs.declared.entry.Entry.{Entry as Event}
use Rattle.pool_model.specs.Bytes.{bytes_of, only_if}
use Rattle.pool_model.specs.State.{Opening, dirty_of}
use Rattle.pool_model.specs.Sums.{times_charged, times_held, is_in_memory, once, pages_for, held_by}
use Rattle.pool_model.proofs.PageSums.{pages_put}
use Rattle.pool_model.specs.MayFollow.{MayFollow}
use Rattle.pool_model.specs.Effects.{after}
use Rattle.pool_model.specs.Parts.{without}
use Rattle.pin_core.specs.declared.kept.Kept.{Kept}
use Rattle.pin_core.specs.declared.kept.Kept.TheVariants as kept
use Rattle.pin_core.specs.declared.parts.Parts.{Parts}
use Rattle.pin_core.specs.StateOf.{page_of, pages_in, place_in, dirty_in, state_of}
use Rattle.pin_core.specs.Lawful.{Lawful}
use Rattle.pin_core.specs.Invariant.{list_at, IsKeptOf, IsPlaced, IsKept}
use Rattle.pin_core.specs.Standing.{StandsFor, Holds, KeptHolds, slots_home}
use Rattle.pin_core.specs.Marking.{form_of, under_of}
use Rattle.pin_core.specs.calls.Evictions.{evict_one}
use Rattle.pin_core.proofs.Mapped.{put_again}
use Rattle.pin_core.proofs.Moving.{Moves, moved_pages}
use Rattle.pin_core.proofs.Moved.{Tells, page_known, quiet_quotas, told_kept, told_stands, told_slots}
use Rattle.pin_core.proofs.Queued.{dirty_open, dirty_same, names_without}
use Rattle.pin_core.proofs.Effects.{same_state, evict_effect}
use Rattle.pin_core.proofs.Cleaned.{IsCleanAt, clean_page}
use Rattle.pin_core.proofs.OnLists.{on_list_live, clean_key_live, one_key}
use Rattle.pin_core.proofs.Listed.{distinct_head, head_stands, bytes_plus}

drop_head : (key : ℕ) (rest : List ℕ) → stands_in key rest ≡ false → others key (key ∷ rest) ≡ rest
drop_head key rest once = rw (eq-eqb key key refl) (others-all key rest once)

module _ {D : Type 0} where
  stored_kept : (blocks : ℕ) (k : Kept D) → IsKeptOf blocks spot.Clean k → IsKeptOf blocks spot.Evicted k
  stored_kept blocks (kept.Empty shell) is = absurd (false≢true is.0)
  stored_kept blocks (kept.Held row) is = is
  stored_kept blocks kept.Out is = let no : true ≡ false = is in cc

  stored_holds : (slot : Ghosts D) (under : Option ℕ) (name len : ℕ) (bytes : List ℕ) (k : Kept D) → KeptHolds slot under name len bytes spot.Clean k → KeptHolds slot under name len bytes spot.Evicted k
  stored_holds slot under name len bytes (kept.Empty shell) is = tt
  stored_holds slot under name len bytes (kept.Held row) is = is
  stored_holds slot under name len bytes kept.Out is = tt

  module _ (v : Parts D) (is_kept : IsKept v) (laws : Lawful v) (maker : ℕ) (makes : maker < 240) (key : ℕ) (rest : List ℕ) (first : v.clean.keys ≡ key ∷ rest) where
    pub stands : stands_in key v.clean.keys ≡ true
    stands = ap (stands_in key) first ∙ head_stands key rest

    abbrev c : IsCleanAt v key
    c = clean_page v is_kept laws.proper key stands

    alone : stands_in key rest ≡ false
    alone = distinct_head key rest (subst (IsDistinct eqb) first laws.once)

    abbrev new : Parts D
    new = evict_one key v

    abbrev w : Entry (Kept D)
    w = evicted c.page

    abbrev e : Event
    e = record { maker = maker; event = event.Evict c.name }

    left : new.clean.keys ≡ rest
    left = ap (drop 1) first

    pub moves : Moves key c.name c.page w v new
    moves = record {
      live = c.live;
      there = c.there;
      pages = ap (λ (n : ℕ). evicted_at n v.pages) c.named
          ∙ ap (λ (o : Option (Entry (Kept D))). record v.pages { entries = evicted_if o c.name v.pages.entries }) c.there;
      lists = λ k apart. refl;
      clean = λ k apart. ap (stands_in k) left ∙ sym (ap (stands_in k) first ∙ ap (λ (b : Bool). b || stands_in k rest) (ne_eqb k key apart));
      block_len = refl;
      form = refl;
      opens = refl;
      lens = λ k apart. refl;
    }

    off : list_with key v.lists.pages.lists ≡ None
    off = c.at.on ∙ ap (list_at c.page.client) c.clean

    was_kept : IsKeptOf c.page.blocks spot.Clean c.page.scratch
    was_kept = subst (λ p. IsKeptOf c.page.blocks p c.page.scratch) c.clean c.at.kept

    placed_w : IsPlaced new key w
    placed_w = record {
      on = off;
      opened = c.at.opened;
      size = c.at.size;
      clean = ap (stands_in key) left ∙ alone;
      blocks = c.at.blocks;
      mem = refl;
      kept = stored_kept c.page.blocks c.page.scratch was_kept;
    }

    was : get (pages_in v.pages) c.name ≡ Some (page_of v.pages c.name c.page)
    was = page_known v c.name c.page c.there

    evict_state : state_of new ≡ after (state_of v) e
    evict_state =
        let pages = moved_pages key c.name c.page w v new moves laws.proper in
        let dirty_there : get (dirty_in v.pages v.lists) c.page.client ≡ Some (names_of v.pages (nodes_of c.page.client which.Dirty v.lists)) = dirty_open v.pages v.lists c.page.client c.at.opened in
        let not_dirty : without c.name (dirty_of (state_of v) c.page.client) ≡ names_of v.pages (nodes_of c.page.client which.Dirty v.lists) =
        ap (λ (r : Option (List ℕ)). without c.name (unwrap_or r [])) dirty_there
        ∙ sym (names_without v.pages key c.name c.live (one_key v.pages laws.proper key c.name c.live) (nodes_of c.page.client which.Dirty v.lists) (on_list_live v is_kept laws.whole (place c.page.client which.Dirty)))
        ∙ ap (names_of v.pages) (others-all key _ (nowhere v.lists.pages.lists key off (place c.page.client which.Dirty))) in
        let dirty_eq : dirty_in new.pages new.lists ≡ insert (dirty_in v.pages v.lists) c.page.client (without c.name (dirty_of (state_of v) c.page.client)) =
        dirty_same v.pages new.pages v.lists new.lists refl refl (λ d. refl)
        ∙ sym (ap (λ (xs : List ℕ). insert (dirty_in v.pages v.lists) c.page.client xs) not_dirty ∙ put_again (dirty_in v.pages v.lists) c.page.client _ dirty_there) in
        let clean_eq : names_of new.pages new.clean.keys ≡ without c.name (names_of v.pages v.clean.keys) =
        ap (names_of v.pages) left
        ∙ sym (ap (names_of v.pages) (ap (others key) first ∙ drop_head key rest alone))
        ∙ names_without v.pages key c.name c.live (one_key v.pages laws.proper key c.name c.live) v.clean.keys (clean_key_live v is_kept) in
        same_state (state_of new) _ refl refl refl refl refl pages refl dirty_eq clean_eq refl refl
        ∙ sym (evict_effect (state_of v) maker c.name (page_of v.pages c.name c.page) was)

    evict_may : (h : List Event) → MayFollow h (state_of v) e
    evict_may h = record {
      makes = makes;
      allows = record {
        page = page_of v.pages c.name c.page;
        lives = was;
        clean = ap place_in c.clean;
        newer = names_of v.pages rest;
        oldest = ap (names_of v.pages) first ∙ ap (λ (n : ℕ). n ∷ names_of v.pages rest) c.named;
      };
    }

    blocks_are : blocks_at v.pages key ≡ c.page.blocks
    blocks_are = blocks-there v.pages key c.name c.page c.live c.there

    pub evict_tells : Tells key c.name c.page w v new e
    evict_tells = record {
      moves = moves;
      placed = placed_w;
      charges = record {
        client = refl;
        blocks = refl;
        arena_blocks = refl;
        buffers = refl;
        charge = λ t. ap (λ p. charge_in v.tree t + only_if (c.page.client == t) (times_charged (place_in p) * bytes_of v.arena.block_len c.page.blocks)) c.clean;
        free =
            let sum = bytes_plus v.arena.block_len v.arena.free (blocks_at v.pages key) in
            let mine = ap (bytes_of v.arena.block_len) blocks_are in
            let in_it : once is_in_memory (place_in c.page.place) * bytes_of v.arena.block_len c.page.blocks ≡ 1 * bytes_of v.arena.block_len c.page.blocks = ap (λ p. once is_in_memory (place_in p) * bytes_of v.arena.block_len c.page.blocks) c.clean in
            omega (arith, sum, mine, in_it);
        stock = refl;
      };
      quotas = quiet_quotas key c.name c.page w v new moves laws.proper is_kept refl refl refl refl (λ q n is. is);
      seated = let z = is_kept.seated in record { clients = z.clients; opens = z.opens; few = z.few };
      sized = let s = is_kept.sized in record { len = s.len; some = s.some; short = s.short; memory = s.memory; clients = s.clients; sessions = s.sessions; nodes = s.nodes; cleans = s.cleans; book = s.book };
      state = evict_state;
      may = evict_may;
    }

    pub evict_kept : IsKept new
    evict_kept = told_kept key c.name c.page w v new e is_kept laws.proper evict_tells

    same_content : (slot : Ghosts D) (o : Opening) (h : List Event) → StandsFor slot o h v → KeptHolds slot (under_of v.marked c.page.version) c.name v.arena.block_len (content_of o (h ++ e ∷ []) c.name) spot.Evicted c.page.scratch
    same_content slot o h stood =
        let held : Holds slot (form_of v) c.name (content_of o h c.name) c.page = stood.holds c.name c.page c.there in
        let bytes : content_of o (h ++ e ∷ []) c.name ≡ content_of o h c.name = content_grows o h e c.name (made (page_of v.pages c.name c.page)) (was_made slot o h v stood c.name c.page c.there) in
        subst (λ (b : List ℕ). KeptHolds slot (under_of v.marked c.page.version) c.name v.arena.block_len b spot.Evicted c.page.scratch) (sym bytes)
        (stored_holds slot (under_of v.marked c.page.version) c.name v.arena.block_len (content_of o h c.name) c.page.scratch (subst (λ p. KeptHolds slot (under_of v.marked c.page.version) c.name v.arena.block_len (content_of o h c.name) p c.page.scratch) c.clean held.kept))

    pub evict_stands : (slot : Ghosts D) (o : Opening) (h : List Event) → StandsFor slot o h v → StandsFor slot o (h ++ record { maker = maker; event = event.Evict (name_at v.pages key) } ∷ []) new
    evict_stands slot o h stood =
        subst (λ (n : ℕ). StandsFor slot o (h ++ record { maker = maker; event = event.Evict n } ∷ []) new) (sym c.named)
        (told_stands key c.name c.page w v new e is_kept laws.proper evict_tells slot o h stood (λ q old other. refl) (record {
          mem = tt;
          kept = same_content slot o h stood;
        }))

    pub evict_ran : state_of new ≡ after (state_of v) (record { maker = maker; event = event.Evict (name_at v.pages key) })
    evict_ran = evict_state ∙ ap (λ (n : ℕ). after (state_of v) (record { maker = maker; event = event.Evict n })) (sym c.named)

    pub evict_slots : (measure : D → ℕ) → slots_home measure new ≡ slots_home measure v
    evict_slots measure = let told = told_slots key c.name c.page w v new e is_kept laws.proper evict_tells measure in omega (arith, told)

    -- no client holds less
    pub evict_held : (t : ℕ) → held_by (state_of new) t ≡ held_by (state_of v) t
    evict_held t =
        let len = v.arena.block_len in
        let sum = pages_put times_held len (pages_in v.pages) c.name (page_of v.pages c.name c.page) was (page_of v.pages c.name w) t in
        let zero : only_if (c.page.client == t) (times_held (place_in c.page.place) * bytes_of len c.page.blocks) ≡ only_if (c.page.client == t) (0 * bytes_of len c.page.blocks) =
        ap (λ p. only_if (c.page.client == t) (times_held (place_in p) * bytes_of len c.page.blocks)) c.clean in
        let pages : pages_for times_held len (pages_in new.pages) t ≡ pages_for times_held len (insert (pages_in v.pages) c.name (page_of v.pages c.name w)) t = ap (λ m. pages_for times_held len m t) (moved_pages key c.name c.page w v new moves laws.proper) in
        omega (arith, sum, zero, pages)
