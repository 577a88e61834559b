-- An evicted page gets free blocks.
use Rattle.std.proofs.Common.{◌≡◌, ℕ, ◌+◌, ◌-◌, ◌*◌, ◌<◌, ◌≤◌, ◌==◌, Bool, true, List, [], ◌∷◌, length, Some, None, refl, ap, sym, ◌∙◌, subst, arith, zero-mul, mul-le-mul_right, mul-le-mul}
use Rattle.std.specs.FinMap.{get, insert}
use Rattle.std.proofs.lemmas.Bool.{false≢true}
use Rattle.index_list.specs.Listing.{list_with}
use Rattle.page_table.specs.declared.page_id.PageId.{PageId}
use Rattle.page_table.specs.declared.entry.Place.TheVariants as spot
use Rattle.page_table.specs.declared.entry.Entry.{Entry}
use Rattle.client_lists.specs.declared.which.Which.TheVariants as which
use Rattle.client_lists.specs.Clients.{longest}
use Rattle.client_lists.proofs.Nodes.{list-with_node, list-with_node_other, nodes-with_node_other, len-with_node, len-with_node_other}
use Rattle.pool_model.specs.declared.event.Event.TheVariants as event
use Rattle.pool_model.specs.declared.entry.Entry.{Entry as Event}
use Rattle.pool_model.specs.Bytes.{bytes_of, only_if}
use Rattle.pool_model.specs.Sums.{times_charged, is_in_memory, once}
use Rattle.pool_model.specs.MayFollow.{MayFollow}
use Rattle.pool_model.specs.Effects.{after}
use Rattle.pool_model.proofs.Weights.{only_none, one_time}
use Rattle.pin_core.specs.declared.kept.Kept.{Kept}
use Rattle.pin_core.specs.declared.kept.Kept.TheVariants as kept
use Rattle.pin_core.specs.declared.parts.Parts.{Parts}
use Rattle.pin_core.specs.parts.Keeping.{has_slots, row_in}
use Rattle.pin_core.specs.StateOf.{page_of, pages_in, place_in, state_of}
use Rattle.pin_core.specs.Lawful.{Lawful}
use Rattle.pin_core.specs.Invariant.{list_at, is_clean_spot, IsKeptOf, IsMem, IsPlaced, IsKept}
use Rattle.pin_core.specs.parts.Loads.{CanLoad, ReadyLoad, loading, loaded}
use Rattle.pin_core.proofs.Moving.{Moves, moved_pages}
use Rattle.pin_core.proofs.Moved.{Tells, page_known, quiet_quotas, told_kept, told_stands, told_slots}
use Rattle.pin_core.proofs.Queued.{dirty_same}
use Rattle.pin_core.proofs.Amounts.{rose}
use Rattle.pin_core.proofs.Effects.{same_state, load_effect}
use Rattle.pin_core.proofs.Listed.{bytes_plus}
use Rattle.pin_core.proofs.CleanRoom.{free_bytes_are}
use Rattle.pin_core.proofs.Charged.{own_low, own_live, own_is, room_unused}
use Rattle.pin_core.proofs.Entered.{Done}

pub bytes_mono : (len a b : ℕ) → a ≤ b → bytes_of len a ≤ bytes_of len b
unfolding bytes_of
bytes_mono len a b le = mul-le-mul_right len le

pub bytes_most : (len blocks : ℕ) → blocks ≤ 256 → len ≤ 65536 → bytes_of len blocks ≤ longest
unfolding bytes_of
bytes_most len blocks few short = mul-le-mul few short

-- a page that isn't charged, and one that is charged once
pub charged_none : (b : Bool) (bytes : ℕ) → only_if b (0 * bytes) ≡ 0
charged_none b bytes = ap (only_if b) (zero-mul bytes) ∙ only_none b

pub charged_once : (b : Bool) (bytes : ℕ) → only_if b (1 * bytes) ≡ only_if b bytes
charged_once b bytes = ap (only_if b) (one_time bytes)

module _ {D : Type 0} where
  evicted_kept : (blocks : ℕ) (k : Kept D) → IsKeptOf blocks spot.Evicted k → has_slots k ≡ true
  evicted_kept blocks (kept.Empty shell) is = absurd (false≢true is.0)
  evicted_kept blocks (kept.Held row) is = refl
  evicted_kept blocks kept.Out is = refl

  module _ (v : Parts D) (is_kept : IsKept v) (laws : Lawful v) (id : PageId) (x : Entry (Kept D)) (can : CanLoad v id x) (free : x.blocks ≤ v.arena.free) where
    abbrev new : Parts D
    new = loaded id x v

    abbrev w : Entry (Kept D)
    w = loading x

    abbrev len : ℕ
    len = v.arena.block_len

    abbrev bytes : ℕ
    bytes = bytes_of v.arena.block_len x.blocks

    abbrev e : Event
    e = record { maker = x.session; event = event.PinLoad id.name }

    at_x : IsPlaced v id.key x
    at_x = is_kept.placed id.key id.name x can.live can.there

    off : list_with id.key v.lists.pages.lists ≡ None
    off = at_x.on ∙ ap (list_at x.client) can.evicted

    node_in : id.key < v.lists.pages.lists.nodes
    node_in =
        let key = laws.proper.keys id.key id.name can.live in
        let nodes = is_kept.sized.nodes in
        omega (arith, key, nodes)

    moves : Moves id.key id.name x w v new
    moves = record {
      live = can.live;
      there = can.there;
      pages = refl;
      lists = λ k apart. list-with_node_other v.lists laws.whole x.client id.key bytes which.Pinned k apart;
      clean = λ k apart. refl;
      block_len = refl;
      form = refl;
      opens = refl;
      lens = λ k apart. len-with_node_other v.lists x.client id.key bytes which.Pinned k apart;
    }

    was : get (pages_in v.pages) id.name ≡ Some (page_of v.pages id.name x)
    was = page_known v id.name x can.there

    kept_at : IsKeptOf x.blocks spot.Evicted x.scratch
    kept_at = subst (λ p. IsKeptOf x.blocks p x.scratch) can.evicted at_x.kept

    had : has_slots x.scratch ≡ true
    had = evicted_kept x.blocks x.scratch kept_at

    in_code : (n : ℕ) → bytes ≤ n → bytes_of v.block_len x.blocks ≤ n
    in_code n le = subst (λ (l : ℕ). bytes_of l x.blocks ≤ n) (sym is_kept.sized.len) le

    pub load_ready : ReadyLoad v id x
    load_ready = record {
      live = can.live;
      room = subst (λ p. IsMem len x.blocks p x.mem) can.evicted at_x.mem;
      slots = kept_at;
      free = free;
      opened = at_x.opened;
      node = node_in;
      nowhere = off;
      short = in_code longest (bytes_most len x.blocks at_x.blocks.1 is_kept.sized.short);
      tracker = own_live v is_kept id.name x can.there;
      unused = in_code _ (room_unused v is_kept x.client bytes (own_is v is_kept id.name x can.there) can.room);
      len = is_kept.sized.len;
    }

    placed_w : IsPlaced new id.key w
    placed_w = record {
      on = list-with_node v.lists laws.whole x.client id.key bytes which.Pinned at_x.opened off;
      opened = at_x.opened;
      size = len-with_node v.lists laws.whole x.client id.key bytes which.Pinned node_in;
      clean = at_x.clean ∙ ap is_clean_spot can.evicted;
      blocks = at_x.blocks;
      mem = refl;
      kept = refl;
    }

    load_state : state_of new ≡ after (state_of v) e
    load_state =
        let pages = moved_pages id.key id.name x w v new moves laws.proper ∙ ap (λ (b : Bool). insert (pages_in v.pages) id.name (record (page_of v.pages id.name w) { has_slots = b })) (sym had) in
        let dirties = dirty_same v.pages new.pages v.lists new.lists refl refl
        (λ d. nodes-with_node_other v.lists laws.whole x.client id.key bytes which.Pinned d which.Dirty (λ same. absurd (omega arith))) in
        same_state (state_of new) _ refl refl refl refl refl pages refl dirties refl refl refl
        ∙ sym (load_effect (state_of v) x.session id.name (page_of v.pages id.name x) was)

    load_may : (h : List Event) → MayFollow h (state_of v) e
    load_may h = record {
      makes = own_low v is_kept id.name x can.there;
      allows = record {
        page = page_of v.pages id.name x;
        own = record { lives = was; own = refl };
        evicted = ap place_in can.evicted;
        takes = record {
          room = can.room;
          free = let less = bytes_mono len x.blocks v.arena.free free in let same = free_bytes_are v is_kept in omega (arith, less, same);
        };
      };
    }

    load_tells : Tells id.key id.name x w v new e
    load_tells = record {
      moves = moves;
      placed = placed_w;
      charges = record {
        client = refl;
        blocks = refl;
        arena_blocks = refl;
        buffers = refl;
        charge = λ t.
            let rise = rose v.tree x.client bytes t in
            let none : only_if (x.client == t) (times_charged (place_in x.place) * bytes) ≡ only_if (x.client == t) (0 * bytes) = ap (λ p. only_if (x.client == t) (times_charged (place_in p) * bytes)) can.evicted in
            let zero = charged_none (x.client == t) bytes in
            let one = charged_once (x.client == t) bytes in
            omega (arith, rise, none, zero, one);
        free =
            let less : (v.arena.free - x.blocks) + x.blocks ≡ v.arena.free = omega (arith, free) in
            let sum = bytes_plus len (v.arena.free - x.blocks) x.blocks in
            let whole = ap (bytes_of len) less in
            let none : once is_in_memory (place_in x.place) * bytes ≡ 0 * bytes = ap (λ p. once is_in_memory (place_in p) * bytes) can.evicted in
            let one = one_time bytes in
            omega (arith, sum, whole, none, one);
        stock = ap (λ (b : Bool). length v.slots.free + only_if b x.blocks) (sym had);
      };
      quotas = quiet_quotas id.key id.name x w v new moves laws.proper is_kept refl refl (sym had) refl (λ q n is. is);
      seated = let s = is_kept.seated in record { clients = s.clients; opens = s.opens; few = s.few };
      sized = let s = is_kept.sized in record { len = s.len; some = s.some; short = s.short; memory = s.memory; clients = s.clients; sessions = s.sessions; nodes = s.nodes; cleans = s.cleans; book = s.book };
      state = load_state;
      may = load_may;
    }

    pub load_done : Done (e ∷ []) (row_in x.scratch) [] v new
    load_done = record {
      kept = told_kept id.key id.name x w v new e is_kept laws.proper load_tells;
      enters = λ slot. record {
        state = load_state;
        stands = λ o h stood. told_stands id.key id.name x w v new e is_kept laws.proper load_tells slot o h stood (λ q old other. refl) (record { mem = tt; kept = tt });
        slots = λ measure. let told = told_slots id.key id.name x w v new e is_kept laws.proper load_tells measure in omega (arith, told);
      };
    }
