-- A page's blocks become a buffer.
use Rattle.std.proofs.Common.{◌≡◌, ℕ, ◌*◌, ◌==◌, false, List, [], ◌∷◌, Some, None, refl, ap, sym, ◌∙◌, subst, inl, inr, arith, one-mul}
use Rattle.std.specs.FinMap.{get, insert, remove}
use Rattle.std.proofs.lemmas.Bool.{cases_Bool}
use Rattle.outside.specs.declared.slot.Slot.{Ghosts}
use Rattle.block_arena.specs.Memory.{Buffer}
use Rattle.index_list.specs.Listing.{list_with, stands_in}
use Rattle.index_list.proofs.Members.{others-all}
use Rattle.index_list.proofs.Places.{list-from_stands, nodes_on-without}
use Rattle.page_table.specs.declared.page_id.PageId.{PageId}
use Rattle.page_table.specs.declared.entry.Entry.{Entry}
use Rattle.client_lists.specs.declared.which.Which.TheVariants as which
use Rattle.client_lists.specs.Clients.{place, nodes_of}
use Rattle.client_lists.proofs.Nodes.{list-without_node, list-without_node_other}
use Rattle.scratch_dev.specs.Pool.{quota_of}
use Rattle.pool_model.specs.declared.event.Event.TheVariants.{Extract}
use Rattle.pool_model.specs.declared.entry.Entry.{Entry as Event}
use Rattle.pool_model.specs.Bytes.{bytes_of, only_if}
use Rattle.pool_model.specs.State.{Pages, Buffer as Lending, Buffers}
use Rattle.pool_model.specs.Sums.{times_charged, is_in_memory, once, slots_of, buffers_for, buffer_bytes}
use Rattle.pool_model.specs.MayFollow.{MayFollow}
use Rattle.pool_model.specs.Effects.{after}
use Rattle.pool_model.proofs.Seats.{some_is}
use Rattle.pin_core.specs.declared.kept.Kept.{Kept}
use Rattle.pin_core.specs.declared.parts.Parts.{Parts}
use Rattle.pin_core.specs.StateOf.{page_of, pages_in, place_in, buffers_in, state_of}
use Rattle.pin_core.specs.Invariant.{IsPlaced, IsQuota, IsKept, is_home, list_at, is_clean_spot}
use Rattle.pin_core.specs.Lawful.{Lawful}
use Rattle.pin_core.specs.Standing.{Enters}
use Rattle.pin_core.specs.calls.Unpinning.{CanUnpin}
use Rattle.pin_core.specs.parts.Ended.{ReadyExtract, extracted}
use Rattle.pin_core.proofs.Crowds.{buffer_room, own_blocks}
use Rattle.pin_core.proofs.Effects.{same_state, extract_effect}
use Rattle.pin_core.proofs.Gone.{Ends, ended_kept, ended_stands, ended_slots}
use Rattle.pin_core.proofs.Lends.{buffers_come, all_come, buffer_of, not_lent, small_put}
use Rattle.pin_core.proofs.Mapped.{mapped_put}
use Rattle.pin_core.proofs.Moved.{page_known}
use Rattle.pin_core.proofs.Returned.{SlotsBack, slots_back_is}
use Rattle.pin_core.proofs.Without.{Goes, gone_pages, kept_clean, kept_dirty}

module _ {D : Type 0} (v : Parts D) (is_kept : IsKept v) (laws : Lawful v) (id : PageId) (x : Entry (Kept D)) (buf : Buffer) (can : CanUnpin v id x buf) where
  abbrev len : ℕ
  len = v.arena.block_len

  at_x : IsPlaced v id.key x
  at_x = is_kept.placed id.key id.name x can.live can.there

  on : list_with id.key v.lists.pages.lists ≡ Some (place x.client which.Pinned)
  on = at_x.on ∙ ap (list_at x.client) can.pinned

  was : get (pages_in v.pages) id.name ≡ Some (page_of v.pages id.name x)
  was = page_known v id.name x can.there

  back : SlotsBack v id.name x
  back = slots_back_is v is_kept id.name x can.there at_x.kept (ap is_home can.pinned)

  out : stands_in id.key v.clean.keys ≡ false
  out = at_x.clean ∙ ap is_clean_spot can.pinned

  off : (d : ℕ) → stands_in id.key (nodes_of d which.Dirty v.lists) ≡ false
  off d = elim (cases_Bool (stands_in id.key (nodes_of d which.Dirty v.lists))) [
    | inl stands ↦
        let same = some_is (place x.client which.Pinned) (place d which.Dirty) (sym on ∙ list-from_stands v.lists.pages.lists laws.whole.measured.proper id.key (place d which.Dirty) stands) in
        absurd (omega (arith, same))
    | inr away ↦ away
  ]

  pub extract_ready : ReadyExtract v id x
  extract_ready = record {
    number = back.number;
    quota = back.opened;
    lent = back.lent;
    on = record { which = which.Pinned; there = on };
    room =
        let part = own_blocks v is_kept id.name (page_of v.pages id.name x) was in
        let some = at_x.blocks.0 in
        let here : once is_in_memory (place_in x.place) * x.blocks ≡ 1 * x.blocks = ap (λ p. once is_in_memory (place_in p) * x.blocks) can.pinned in
        buffer_room v is_kept (omega (arith, part, some, here));
  }

  module _ (f : ℕ) (fresh : get v.buffers.buffers f ≡ None) where
    abbrev new : Parts D
    new = extracted id x f v

    abbrev lending : Lending
    lending = record { client = x.client; blocks = x.blocks }

    abbrev entry : Event
    entry = record { maker = x.session; event = Extract id.name f }

    goes : Goes id.key id.name x v new
    goes = record {
      live = can.live;
      there = can.there;
      pages = refl;
      gone = list-without_node v.lists laws.whole x.client id.key which.Pinned on;
      lists = list-without_node_other v.lists laws.whole x.client id.key which.Pinned on;
      queues = λ d. nodes_on-without v.lists.pages.lists (place d which.Dirty) id.key;
      clean = sym (others-all id.key v.clean.keys out);
      block_len = refl;
      form = refl;
      opens = refl;
      lens = λ k. refl;
    }

    pages : pages_in new.pages ≡ remove (pages_in v.pages) id.name
    pages = gone_pages id.key id.name x v new goes laws.proper

    lent : buffers_in new.buffers ≡ insert (buffers_in v.buffers) f lending
    lent = mapped_put buffer_of v.buffers.buffers f (record { client = x.client; blocks = x.blocks })

    free_number : get (buffers_in v.buffers) f ≡ None
    free_number = not_lent v.buffers f fresh

    extract_state : state_of new ≡ after (state_of v) entry
    extract_state =
        same_state (state_of new) _ refl refl refl refl refl pages lent (kept_dirty id.key id.name x v new goes laws.proper is_kept laws.whole off)
        (kept_clean id.key id.name x v new goes laws.proper is_kept laws.whole out) refl refl
        ∙ sym (extract_effect (state_of v) x.session id.name (page_of v.pages id.name x) was f)

    extract_may : (h : List Event) → MayFollow h (state_of v) entry
    extract_may h = record {
      makes = back.quota.low;
      allows = record {
        page = page_of v.pages id.name x;
        own = record { lives = was; own = refl };
        pinned = ap place_in can.pinned;
        fresh = free_number;
      };
    }

    extract_ends : Ends id.key id.name x v new entry
    extract_ends = record {
      goes = goes;
      releases = record {
        arena_blocks = refl;
        charge = λ t.
            let come = buffers_come len (buffers_in v.buffers) f lending free_number t in
            let once_charged : only_if (x.client == t) (times_charged (place_in x.place) * bytes_of len x.blocks) ≡ only_if (x.client == t) (bytes_of len x.blocks) =
            ap (λ p. only_if (x.client == t) (times_charged (place_in p) * bytes_of len x.blocks)) can.pinned ∙ ap (only_if (x.client == t)) (one-mul (bytes_of len x.blocks)) in
            let same = ap (λ (b : Buffers). buffers_for len b t) lent in
            omega (arith, come, once_charged, same);
        free =
            let come = all_come len (buffers_in v.buffers) f lending free_number in
            let here : once is_in_memory (place_in x.place) * bytes_of len x.blocks ≡ bytes_of len x.blocks = ap (λ p. once is_in_memory (place_in p) * bytes_of len x.blocks) can.pinned ∙ one-mul (bytes_of len x.blocks) in
            let same = ap (λ (b : Buffers). buffer_bytes len b) lent in
            omega (arith, come, here, same);
        stock = back.stock;
      };
      quotas = λ q. subst (λ (m : Pages). IsQuota (get (state_of v).sessions q) (quota_of new.slots q) (slots_of m q)) (sym pages) (back.quotas q);
      seated = let z = is_kept.seated in record { clients = z.clients; opens = z.opens; few = z.few };
      lent = small_put v.buffers.buffers f (record { client = x.client; blocks = x.blocks }) is_kept.lent at_x.blocks;
      sized =
          let s = is_kept.sized in
          record { len = s.len; some = s.some; short = s.short; memory = s.memory; clients = s.clients; sessions = back.count ∙ s.sessions; nodes = s.nodes; cleans = s.cleans; book = s.book };
      state = extract_state;
      may = extract_may;
    }

    pub extract_kept : IsKept new
    extract_kept = ended_kept id.key id.name x v new entry is_kept laws.proper extract_ends

    pub extract_enters : (slot : Ghosts D) → Enters slot (entry ∷ []) [] [] v new
    extract_enters slot = record {
      state = extract_state;
      stands = ended_stands id.key id.name x v new entry is_kept laws.proper extract_ends (λ q old. refl) slot;
      slots = λ measure.
          let told = ended_slots id.key id.name x v new entry is_kept laws.proper extract_ends measure in
          let same = back.slots measure in
          omega (arith, told, same);
    }
