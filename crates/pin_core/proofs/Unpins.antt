-- A pinned page is left with its bytes.
use Rattle.std.proofs.Common.{◌≡◌, ℕ, ◌+◌, ◌-◌, ◌*◌, ◌<◌, ◌≤◌, ◌==◌, ◌⊎◌, Bool, true, List, [], ◌∷◌, ◌++◌, length, Option, Some, None, unwrap_or, refl, ap, sym, ◌∙◌, subst, inl, inr, arith, ne_eqb, zero-mul, if◌then◌else◌}
use Rattle.std.specs.FinMap.{get, insert}
use Rattle.std.proofs.lemmas.Bool.{false≢true}
use Rattle.std.proofs.lemmas.List.{get_or-set_same, get_or-set_other, length-take, length-drop, length-set}
use Rattle.std.proofs.lemmas.List.Sums.{sum_by-take-drop}
use Rattle.std.specs.List.{sum_by}
use Rattle.outside.specs.declared.slot.Slot.{Ghosts}
use Rattle.block_arena.specs.Memory.{Buffer}
use Rattle.index_list.specs.Listing.{list_with}
use Rattle.page_table.specs.declared.page_id.PageId.{PageId}
use Rattle.page_table.specs.declared.entry.Place.TheVariants as spot
use Rattle.page_table.specs.declared.entry.Entry.{Entry}
use Rattle.page_table.specs.Pages.{IsProper}
use Rattle.client_lists.specs.declared.which.Which.TheVariants as which
use Rattle.client_lists.specs.Clients.{IsWhole, IsOpen, place, nodes_of}
use Rattle.clean_evict.specs.Eviction.{names_of}
use Rattle.scratch_dev.specs.declared.quota.Quota.{Quota}
use Rattle.scratch_dev.specs.Pool.{Scratch, quota_of, free_of, free_in, lent_in}
use Rattle.reservation_tree.specs.Tree.{charge_of as charge_in}
use Rattle.reservation_tree.proofs.Maps.{same_or_other}
use Rattle.pool_model.specs.declared.event.Event.TheVariants.{Unpin}
use Rattle.pool_model.specs.declared.entry.Entry.{Entry as Event}
use Rattle.pool_model.specs.Bytes.{bytes_of, only_if}
use Rattle.pool_model.specs.State.{Opening, Session, Sessions, Dirty, dirty_of}
use Rattle.pool_model.specs.Sums.{times_charged, is_in_memory, once, slots_of, free_slots, page_bytes, pages_for}
use Rattle.pool_model.specs.MayFollow.{MayFollow}
use Rattle.pool_model.specs.Effects.{after}
use Rattle.pool_model.proofs.Weights.{only_none, one_time, mine, not_mine}
use Rattle.pin_core.specs.declared.kept.Kept.{Kept}
use Rattle.pin_core.specs.declared.kept.Kept.TheVariants as kept
use Rattle.pin_core.specs.declared.parts.Parts.{Parts}
use Rattle.pin_core.specs.parts.Keeping.{need_of, kept_then, slots_then, has_slots, row_in}
use Rattle.pin_core.specs.StateOf.{page_of, pages_in, place_in, state_of}
use Rattle.pin_core.specs.Invariant.{IsSized, list_at, is_clean_spot, IsKeptOf, IsPlaced, IsQuota, IsKept}
use Rattle.pin_core.specs.Standing.{KeptHolds, StandsFor, slots_home}
use Rattle.pin_core.specs.Marking.{under_of}
use Rattle.pin_core.specs.calls.Unpinning.{CanUnpin, left_dirty, unpinned}
use Rattle.pin_core.proofs.Histories.{content_unpinned}
use Rattle.pin_core.proofs.Moved.{Tells, told_kept, told_slots}
use Rattle.pin_core.proofs.Moving.{Moves, moved_pages, page_there}
use Rattle.client_lists.proofs.Nodes.{list-shifted, list-shifted_other, nodes-shifted_to, nodes-shifted_other, len-shifted}
use Rattle.pin_core.proofs.Queued.{dirty_changed, dirty_open, names_more}
use Rattle.pin_core.proofs.Amounts.{fell, charge_covers, slots_put, free_is, Charges}
use Rattle.pin_core.proofs.Effects.{same_state, unpin_effect}
use Rattle.pin_core.proofs.Places.{HasQuota, has_quota}
use Rattle.pin_core.proofs.Stands.{stands_moved, was_made}
use Rattle.pool_model.specs.HistoryLaws.{made}

pub bytes_is : (len blocks : ℕ) → bytes_of len blocks ≡ blocks * len
unfolding bytes_of
bytes_is len blocks = refl

quota_after : (o : Option Session) (quota now : Quota) (need old new : ℕ) → IsQuota o (Some quota) old → need ≤ quota.free → new ≡ old + need
    → now.free ≡ quota.free - need → now.lent ≡ quota.lent + need → IsQuota o (Some now) new
quota_after (Some x) quota now need old new is enough sum free lent = let a = is.0 in let b = is.1 in (omega (arith, a, sum, lent), omega (arith, a, b, sum, free, enough))
quota_after None quota now need old new is enough sum free lent = absurd is

module _ {D : Type 0} where
  slots_now : (slots : Scratch D) (k : Kept D) → has_slots (kept_then slots k) ≡ true
  slots_now slots (kept.Empty shell) = refl
  slots_now slots (kept.Held row) = refl
  slots_now slots kept.Out = refl

  kept_dirty : (slots : Scratch D) (blocks : ℕ) (k : Kept D) → IsKeptOf blocks (spot.Pinned 1) k → need_of k ≤ length slots.free → IsKeptOf blocks spot.Dirty (kept_then slots k)
  kept_dirty slots blocks (kept.Empty shell) is enough =
      let cut = length-take shell slots.free in
      let same : shell ≡ blocks = is.1 in
      (refl, omega (arith, cut, same, enough))
  kept_dirty slots blocks (kept.Held row) is enough = (refl, is.1)
  kept_dirty slots blocks kept.Out is enough = absurd (false≢true (sym is))

  no_store : (slot : Ghosts D) (under : Option ℕ) (name len : ℕ) (bytes : List ℕ) (k : Kept D) → KeptHolds slot under name len bytes spot.Dirty k
  no_store slot under name len bytes (kept.Empty shell) = tt
  no_store slot under name len bytes (kept.Held row) = λ stored. absurd (false≢true stored)
  no_store slot under name len bytes kept.Out = tt

  may_slots : (blocks free : ℕ) (k : Kept D) → IsKeptOf blocks (spot.Pinned 1) k → need_of k ≤ free → (has_slots k ≡ true) ⊎ (blocks ≤ free)
  may_slots blocks free (kept.Empty shell) is enough = let same : shell ≡ blocks = is.1 in inr (omega (arith, same, enough))
  may_slots blocks free (kept.Held row) is enough = inl refl
  may_slots blocks free kept.Out is enough = inl refl

  quota_then : (k : Kept D) (slots : Scratch D) (seats : Sessions) (session blocks q old new : ℕ) (quota : Quota)
      → IsKeptOf blocks (spot.Pinned 1) k → quota_of slots session ≡ Some quota → session < length slots.quotas → need_of k ≤ free_of slots session
      → IsQuota (get seats q) (quota_of slots q) old
      → new + only_if (session == q) (only_if (has_slots k) blocks) ≡ old + only_if (session == q) (only_if (has_slots (kept_then slots k)) blocks)
      → IsQuota (get seats q) (quota_of (slots_then session k slots) q) new
  quota_then (kept.Held row) slots seats session blocks q old new quota is opened low enough was sum =
      let same : old ≡ new = omega (arith, sum) in subst (IsQuota (get seats q) (quota_of slots q)) same was
  quota_then kept.Out slots seats session blocks q old new quota is opened low enough was sum = absurd (false≢true (sym is))
  quota_then (kept.Empty shell) slots seats session blocks q old new quota is opened low enough was sum =
      let now : Quota = record { free = free_of slots session - shell; lent = lent_in (quota_of slots session) + shell } in
      let size : shell ≡ blocks = is.1 in
      elim (same_or_other q session) [
        | inl here ↦
            let free : free_of slots session ≡ quota.free = ap (λ (r : Option Quota). free_in r) opened in
            let lent : lent_in (quota_of slots session) ≡ quota.lent = ap (λ (r : Option Quota). lent_in r) opened in
            let before : IsQuota (get seats q) (Some quota) old = subst (λ (r : Option Quota). IsQuota (get seats q) r old) (ap (quota_of slots) here ∙ opened) was in
            let all : only_if (session == q) blocks ≡ blocks = ap (λ (n : ℕ). only_if (session == n) blocks) here ∙ mine session blocks in
            let none : only_if (session == q) 0 ≡ 0 = only_none (session == q) in
            let after_it : IsQuota (get seats q) (Some now) new = quota_after (get seats q) quota now shell old new before (omega (arith, enough, free)) (omega (arith, sum, all, none, size)) (omega (arith, free)) (omega (arith, lent)) in
            subst (λ (r : Option Quota). IsQuota (get seats q) r new) (sym (ap (λ (n : ℕ). quota_of (slots_then session (kept.Empty shell) slots) n) here ∙ get_or-set_same slots.quotas session (Some now) None low)) after_it
        | inr other ↦
            let none : only_if (session == q) blocks ≡ 0 = not_mine session q blocks (λ same. other (sym same)) in
            let zero : only_if (session == q) 0 ≡ 0 = only_none (session == q) in
            let same : old ≡ new = omega (arith, sum, none, zero) in
            subst (λ (r : Option Quota). IsQuota (get seats q) r new) (sym (get_or-set_other slots.quotas session q (Some now) None other)) (subst (IsQuota (get seats q) (quota_of slots q)) same was)
      ]

  -- the slots that are free are fewer by those that the page took
  stock_then : (k : Kept D) (slots : Scratch D) (session blocks : ℕ) → IsKeptOf blocks (spot.Pinned 1) k → need_of k ≤ length slots.free
      → length (slots_then session k slots).free + only_if (has_slots (kept_then slots k)) blocks ≡ length slots.free + only_if (has_slots k) blocks
  stock_then (kept.Empty shell) slots session blocks is enough =
      let cut = length-drop shell slots.free in
      let size : shell ≡ blocks = is.1 in
      omega (arith, cut, size, enough)
  stock_then (kept.Held row) slots session blocks is enough = refl
  stock_then kept.Out slots session blocks is enough = absurd (false≢true (sym is))

  -- and the slots at home are the same
  taken_slots : (measure : D → ℕ) (k : Kept D) (slots : Scratch D) (session : ℕ)
      → sum_by measure (row_in (kept_then slots k)) + sum_by measure (slots_then session k slots).free ≡ sum_by measure (row_in k) + sum_by measure slots.free
  taken_slots measure (kept.Empty shell) slots session =
      let both = sum_by-take-drop measure slots.free shell in omega (arith, both)
  taken_slots measure (kept.Held row) slots session = refl
  taken_slots measure kept.Out slots session = refl

  taken_quotas : (q : ℕ) (k : Kept D) (slots : Scratch D) → length (slots_then q k slots).quotas ≡ length slots.quotas
  taken_quotas q (kept.Empty shell) slots = length-set slots.quotas q _
  taken_quotas q (kept.Held row) slots = refl
  taken_quotas q kept.Out slots = refl

  module _ (v : Parts D) (is_kept : IsKept v) (proper : IsProper v.pages) (whole : IsWhole v.lists) (id : PageId) (x : Entry (Kept D)) (buf : Buffer)
      (can : CanUnpin v id x buf) where
    abbrev new : Parts D
    new = unpinned id x buf v

    abbrev w : Entry (Kept D)
    w = left_dirty v.slots buf x

    abbrev event : Event
    event = record { maker = x.session; event = Unpin id.name buf.bytes }

    at_x : IsPlaced v id.key x
    at_x = is_kept.placed id.key id.name x can.live can.there

    on : list_with id.key v.lists.pages.lists ≡ Some (place x.client which.Pinned)
    on = at_x.on ∙ ap (list_at x.client) can.pinned

    opened : IsOpen x.client v.lists
    opened = at_x.opened

    moves : Moves id.key id.name x w v new
    moves = record {
      live = can.live;
      there = can.there;
      pages = refl;
      lists = list-shifted_other v.lists whole x.client id.key which.Pinned on which.Dirty;
      clean = λ k apart. refl;
      block_len = refl;
      form = refl;
      opens = refl;
      lens = λ k apart. len-shifted v.lists x.client id.key which.Dirty k;
    }

    was : get (pages_in v.pages) id.name ≡ Some (page_of v.pages id.name x)
    was = page_there id.key id.name x w v new moves proper

    quota : HasQuota v x
    quota = has_quota v is_kept id.name x was

    pub covered : bytes_of v.arena.block_len x.blocks ≤ charge_in v.tree x.client
    covered =
        let part : page_bytes times_charged v.arena.block_len (page_of v.pages id.name x) ≤ pages_for times_charged v.arena.block_len (pages_in v.pages) x.client = charge_covers times_charged v.arena.block_len (pages_in v.pages) id.name (page_of v.pages id.name x) was in
        let all : times_charged (place_in x.place) * bytes_of v.arena.block_len x.blocks ≡ 1 * bytes_of v.arena.block_len x.blocks = ap (λ p. times_charged (place_in p) * bytes_of v.arena.block_len x.blocks) can.pinned in
        let tie = is_kept.counted.charges x.client in
        omega (arith, part, all, tie)

    module _ (enough : need_of x.scratch ≤ free_of v.slots x.session) (stock : need_of x.scratch ≤ length v.slots.free) where
      placed_w : IsPlaced new id.key w
      placed_w = record {
        on = list-shifted v.lists whole x.client id.key which.Pinned on which.Dirty;
        opened = at_x.opened;
        size = len-shifted v.lists x.client id.key which.Dirty id.key ∙ at_x.size;
        clean = at_x.clean ∙ ap is_clean_spot can.pinned;
        blocks = at_x.blocks;
        mem = can.buffer;
        kept = kept_dirty v.slots x.blocks x.scratch (subst (λ p. IsKeptOf x.blocks p x.scratch) can.pinned at_x.kept) stock;
      }

      charges : Charges v.arena.block_len x w v new
      charges = record {
        client = refl;
        blocks = refl;
        arena_blocks = refl;
        buffers = refl;
        charge = λ t.
            let fall = fell v.tree x.client (bytes_of v.arena.block_len x.blocks) covered t in
            let all : only_if (x.client == t) (times_charged (place_in x.place) * bytes_of v.arena.block_len x.blocks) ≡ only_if (x.client == t) (bytes_of v.arena.block_len x.blocks) =
            ap (λ p. only_if (x.client == t) (times_charged (place_in p) * bytes_of v.arena.block_len x.blocks)) can.pinned ∙ ap (only_if (x.client == t)) (one_time (bytes_of v.arena.block_len x.blocks)) in
            let none : only_if (x.client == t) (times_charged (place_in w.place) * bytes_of v.arena.block_len x.blocks) ≡ 0 = ap (only_if (x.client == t)) (zero-mul (bytes_of v.arena.block_len x.blocks)) ∙ only_none (x.client == t) in
            omega (arith, fall, all, none);
        free = ap (λ p. bytes_of v.arena.block_len v.arena.free + once is_in_memory (place_in p) * bytes_of v.arena.block_len x.blocks) (sym can.pinned);
        stock = stock_then x.scratch v.slots x.session x.blocks (subst (λ p. IsKeptOf x.blocks p x.scratch) can.pinned at_x.kept) stock;
      }

      quotas : (q : ℕ) → IsQuota (get (state_of new).sessions q) (quota_of new.slots q) (slots_of (pages_in new.pages) q)
      quotas q =
          let pages = moved_pages id.key id.name x w v new moves proper in
          let sum = slots_put (pages_in v.pages) id.name (page_of v.pages id.name x) (page_of v.pages id.name w) was q in
          let low : x.session < length v.slots.quotas = let a = quota.low in let b = is_kept.sized.sessions in omega (arith, a, b) in
          subst (λ m. IsQuota (get (state_of v).sessions q) (quota_of new.slots q) (slots_of m q)) (sym pages)
          (quota_then x.scratch v.slots (state_of v).sessions x.session x.blocks q (slots_of (pages_in v.pages) q) (slots_of (insert (pages_in v.pages) id.name (page_of v.pages id.name w)) q) quota.quota
          (subst (λ p. IsKeptOf x.blocks p x.scratch) can.pinned at_x.kept) quota.opened low enough (is_kept.counted.quotas q) sum)

      pub unpin_state : state_of new ≡ after (state_of v) event
      unpin_state =
          let pages = moved_pages id.key id.name x w v new moves proper ∙ ap (λ (b : Bool). insert (pages_in v.pages) id.name (record (page_of v.pages id.name x) { place = Dirty; has_slots = b })) (slots_now v.slots x.scratch) in
          let queue : names_of v.pages (nodes_of x.client which.Dirty new.lists) ≡ dirty_of (state_of v) x.client ++ id.name ∷ [] =
          ap (names_of v.pages) (nodes-shifted_to v.lists whole x.client id.key which.Pinned on which.Dirty (λ e. absurd (omega arith)))
          ∙ names_more v.pages id.key id.name (nodes_of x.client which.Dirty v.lists) can.live
          ∙ sym (ap (λ (r : Option (List ℕ)). unwrap_or r [] ++ id.name ∷ []) (dirty_open v.pages v.lists x.client opened)) in
          let dirty = dirty_changed v.pages new.pages v.lists new.lists x.client (dirty_of (state_of v) x.client ++ id.name ∷ []) refl refl opened queue
          (λ d other. nodes-shifted_other v.lists whole x.client id.key which.Pinned on which.Dirty d which.Dirty (λ e. other (omega arith)) (λ e. other (omega arith))) in
          same_state (state_of new) _ refl refl refl refl refl pages refl dirty refl refl refl
          ∙ sym (unpin_effect (state_of v) x.session id.name (page_of v.pages id.name x) was buf.bytes)

      pub unpin_may : (h : List Event) → MayFollow h (state_of v) event
      unpin_may h = record {
        makes = quota.low;
        allows = record {
          page = page_of v.pages id.name x;
          own = record { lives = was; own = refl };
          pinned = ap place_in can.pinned;
          whole = can.buffer.whole ∙ sym (bytes_is v.arena.block_len x.blocks);
          slots = may_slots x.blocks (free_slots (state_of v) x.session) x.scratch (subst (λ p. IsKeptOf x.blocks p x.scratch) can.pinned at_x.kept)
              (let same = free_is v is_kept.counted x.session in omega (arith, enough, same));
        };
      }

      sized_then : IsSized new
      sized_then =
          let s = is_kept.sized in
          record { len = s.len; some = s.some; short = s.short; clients = s.clients; sessions = taken_quotas x.session x.scratch v.slots ∙ s.sessions; nodes = s.nodes; cleans = s.cleans; memory = s.memory; book = s.book }

      pub unpin_tells : Tells id.key id.name x w v new event
      unpin_tells = record {
        moves = moves;
        placed = placed_w;
        charges = charges;
        quotas = quotas;
        seated = let s = is_kept.seated in record { clients = s.clients; opens = s.opens; few = s.few };
        sized = sized_then;
        state = unpin_state;
        may = unpin_may;
      }

      pub unpin_kept : IsKept new
      unpin_kept = told_kept id.key id.name x w v new event is_kept proper unpin_tells

      pub unpin_slots : (measure : D → ℕ) → slots_home measure new ≡ slots_home measure v
      unpin_slots measure =
          let told = told_slots id.key id.name x w v new event is_kept proper unpin_tells measure in
          let same = taken_slots measure x.scratch v.slots x.session in
          omega (arith, told, same)

      pub unpin_stands : (slot : Ghosts D) (o : Opening) (h : List Event) → StandsFor slot o h v → StandsFor slot o (h ++ event ∷ []) new
      unpin_stands slot o h stands =
          stands_moved slot o h v stands id.key id.name x w new moves proper event (unpin_may h) unpin_state
          (λ q old other. ap (λ (b : Bool). if b then buf.bytes else old) (ne_eqb id.name q (λ same. other (sym same))))
          (record {
            mem = sym (content_unpinned o h x.session id.name buf.bytes (made (page_of v.pages id.name x)) (was_made slot o h v stands id.name x can.there));
            kept = no_store slot (under_of v.marked x.version) id.name v.arena.block_len _ (kept_then v.slots x.scratch);
          })
