-- A page ends, and what it had is free.
use Rattle.std.proofs.Common.{◌≡◌, ◌≢◌, ℕ, ◌+◌, ◌*◌, ◌≤◌, ◌==◌, Bool, true, false, List, [], ◌∷◌, length, get_or, Option, Some, refl, ap, sym, ◌∙◌, subst, inl, inr, arith}
use Rattle.std.specs.FinMap.{get, remove}
use Rattle.std.proofs.lemmas.Bool.{cases_Bool}
use Rattle.outside.specs.declared.slot.Slot.{Ghosts}
use Rattle.block_arena.specs.Memory.{Buffer}
use Rattle.index_list.specs.Listing.{stands_in}
use Rattle.index_list.proofs.Places.{list-from_stands}
use Rattle.page_table.specs.declared.page_id.PageId.{PageId}
use Rattle.page_table.specs.declared.entry.Entry.{Entry}
use Rattle.client_lists.specs.declared.which.Which.TheVariants as which
use Rattle.client_lists.specs.Clients.{place, nodes_of}
use Rattle.scratch_dev.specs.Pool.{quota_of}
use Rattle.reservation_tree.specs.Tree.{charge_of as charge_in}
use Rattle.reservation_tree.proofs.Maps.{is_there}
use Rattle.pool_model.specs.declared.event.Event.TheVariants.{Destroy}
use Rattle.pool_model.specs.declared.entry.Entry.{Entry as Event}
use Rattle.pool_model.specs.Bytes.{bytes_of, only_if}
use Rattle.pool_model.specs.State.{Pages}
use Rattle.pool_model.specs.Sums.{times_charged, is_in_memory, once, pages_for, page_bytes, slots_of}
use Rattle.pool_model.specs.MayFollow.{MayFollow}
use Rattle.pool_model.specs.Effects.{after}
use Rattle.pool_model.proofs.PageSums.{bytes_gone}
use Rattle.pin_core.specs.declared.kept.Kept.{Kept}
use Rattle.pin_core.specs.declared.parts.Parts.{Parts}
use Rattle.pin_core.specs.StateOf.{page_of, pages_in, place_in, state_of}
use Rattle.pin_core.specs.Invariant.{IsPlaced, IsQuota, IsKept, is_home, is_clean_spot, IsSized}
use Rattle.pin_core.specs.Lawful.{Lawful}
use Rattle.pin_core.specs.Standing.{Enters}
use Rattle.pin_core.specs.parts.Leavings.{blocks_in, held_in}
use Rattle.pin_core.specs.parts.Ended.{CanDestroy, ReadyDestroy, destroyed}
use Rattle.pin_core.specs.calls.Pins.{pins_in}
use Rattle.pin_core.proofs.Amounts.{fell, charge_covers}
use Rattle.pin_core.proofs.Effects.{same_state, destroy_effect}
use Rattle.pin_core.proofs.Gone.{Releases, Ends, ended_kept, ended_stands, ended_slots}
use Rattle.pin_core.proofs.LeavesHome.{given_home, home_charged, blocks_held, held_back, not_flown, not_loaded}
use Rattle.pin_core.proofs.LeftLists.{left_gone, left_others, left_queues, left_lens, left_opens, left_nodes, left_keys, left_cleans, off_others, listed_on}
use Rattle.pin_core.proofs.Totals.{short_bytes}
use Rattle.pin_core.proofs.Returned.{SlotsBack, slots_back_is}
use Rattle.pin_core.proofs.Listed.{bytes_plus, bytes_le}
use Rattle.pin_core.proofs.Crowds.{times_bytes}
use Rattle.pin_core.proofs.Moved.{page_known}
use Rattle.pin_core.proofs.Places.{page_owned}
use Rattle.pin_core.proofs.Without.{Goes, gone_pages, gone_clean, gone_dirty}

module _ {D : Type 0} (v : Parts D) (is_kept : IsKept v) (laws : Lawful v) (id : PageId) (x : Entry (Kept D)) (buf : Option Buffer) (can : CanDestroy v id x buf) where
  abbrev new : Parts D
  new = destroyed id x buf v

  abbrev len : ℕ
  len = v.arena.block_len

  abbrev entry : Event
  entry = record { maker = x.session; event = Destroy id.name }

  at_x : IsPlaced v id.key x
  at_x = is_kept.placed id.key id.name x can.live can.there

  home : is_home x.place ≡ true
  home = given_home len x.blocks x.place buf can.given

  was : get (pages_in v.pages) id.name ≡ Some (page_of v.pages id.name x)
  was = page_known v id.name x can.there

  back : SlotsBack v id.name x
  back = slots_back_is v is_kept id.name x can.there at_x.kept home

  goes : Goes id.key id.name x v new
  goes = record {
    live = can.live;
    there = can.there;
    pages = refl;
    gone = left_gone v.lists laws.whole x.client id.key x.place home at_x.on;
    lists = left_others v.lists laws.whole x.client id.key x.place at_x.on;
    queues = left_queues v.lists laws.whole x.client id.key x.place home at_x.on;
    clean = left_keys v.clean id.key x.place at_x.clean;
    block_len = refl;
    form = refl;
    opens = left_opens v.lists id.key x.place;
    lens = left_lens v.lists id.key x.place;
  }

  pages : pages_in new.pages ≡ remove (pages_in v.pages) id.name
  pages = gone_pages id.key id.name x v new goes laws.proper

  quotas : (q : ℕ) → IsQuota (get (state_of new).sessions q) (quota_of new.slots q) (slots_of (pages_in new.pages) q)
  quotas q = subst (λ (m : Pages). IsQuota (get (state_of v).sessions q) (quota_of new.slots q) (slots_of m q)) (sym pages) (back.quotas q)

  charged : times_charged (place_in x.place) * bytes_of len x.blocks ≡ pins_in x.place * bytes_of len x.blocks
  charged = ap (λ (n : ℕ). n * bytes_of len x.blocks) (home_charged x.place home)

  used : pins_in x.place * bytes_of len x.blocks ≤ charge_in v.tree x.client
  used =
      let part : page_bytes times_charged len (page_of v.pages id.name x) ≤ pages_for times_charged len (pages_in v.pages) x.client = charge_covers times_charged len (pages_in v.pages) id.name (page_of v.pages id.name x) was in
      let tie = is_kept.counted.charges x.client in
      let same = charged in
      omega (arith, part, tie, same)

  freed : bytes_of len (blocks_in (held_in x.mem buf)) ≡ once is_in_memory (place_in x.place) * bytes_of len x.blocks
  freed = ap (bytes_of len) (blocks_held len x.blocks x.place x.mem buf at_x.mem can.given) ∙ times_bytes len x.blocks (is_in_memory (place_in x.place))

  releases : Releases len x v new
  releases = record {
    arena_blocks = refl;
    charge = λ t.
        let fall = fell v.tree x.client (pins_in x.place * bytes_of len x.blocks) used t in
        let same = ap (only_if (x.client == t)) charged in
        omega (arith, fall, same);
    free =
        let plus = bytes_plus len v.arena.free (blocks_in (held_in x.mem buf)) in
        let own = freed in
        omega (arith, plus, own);
    stock = back.stock;
  }

  off : (d : ℕ) → d ≢ x.client → stands_in id.key (nodes_of d which.Dirty v.lists) ≡ false
  off d other = elim (cases_Bool (stands_in id.key (nodes_of d which.Dirty v.lists))) [
    | inl stands ↦
        absurd (off_others x.client x.place d other (sym at_x.on ∙ list-from_stands v.lists.pages.lists laws.whole.measured.proper id.key (place d which.Dirty) stands))
    | inr out ↦ out
  ]

  pub destroy_state : state_of new ≡ after (state_of v) entry
  destroy_state =
      same_state (state_of new) _ refl refl refl refl refl pages refl (gone_dirty id.key id.name x v new goes laws.proper is_kept laws.whole x.client at_x.opened off)
      (gone_clean id.key id.name x v new goes laws.proper is_kept laws.whole) refl refl
      ∙ sym (destroy_effect (state_of v) x.session id.name (page_of v.pages id.name x) was)

  destroy_may : (h : List Event) → MayFollow h (state_of v) entry
  destroy_may h = record {
    makes = back.quota.low;
    allows = record {
      page = page_of v.pages id.name x;
      own = record { lives = was; own = refl };
      not_flying = not_flown x.place home;
      not_loading = not_loaded x.place home;
    };
  }

  sized_then : IsSized new
  sized_then =
      let s = is_kept.sized in
      let nodes = left_nodes v.lists id.key x.place in
      let cleans = left_cleans v.clean id.key x.place in
      record {
        len = s.len;
        some = s.some;
        short = s.short;
        memory = s.memory;
        clients = ap length (left_opens v.lists id.key x.place) ∙ s.clients;
        sessions = back.count ∙ s.sessions;
        nodes = let n = s.nodes in omega (arith, n, nodes);
        cleans = let n = s.cleans in omega (arith, n, cleans);
        book = s.book;
      }

  destroy_ends : Ends id.key id.name x v new entry
  destroy_ends = record {
    goes = goes;
    releases = releases;
    quotas = quotas;
    seated =
        let s = is_kept.seated in
        record { clients = s.clients; opens = λ c. ap (λ (o : List Bool). get_or o c false) (left_opens v.lists id.key x.place) ∙ s.opens c; few = s.few };
    lent = is_kept.lent;
    sized = sized_then;
    state = destroy_state;
    may = destroy_may;
  }

  pub destroy_kept : IsKept new
  destroy_kept = ended_kept id.key id.name x v new entry is_kept laws.proper destroy_ends

  pub destroy_enters : (slot : Ghosts D) → Enters slot (entry ∷ []) [] [] v new
  destroy_enters slot = record {
    state = destroy_state;
    stands = ended_stands id.key id.name x v new entry is_kept laws.proper destroy_ends (λ q old. refl) slot;
    slots = λ measure.
        let told = ended_slots id.key id.name x v new entry is_kept laws.proper destroy_ends measure in
        let same = back.slots measure in
        omega (arith, told, same);
  }

  -- its blocks are none of the free ones
  room : v.arena.free + once is_in_memory (place_in x.place) * x.blocks ≤ v.arena.blocks
  room =
      let part = bytes_gone (once is_in_memory) len (pages_in v.pages) id.name (page_of v.pages id.name x) was in
      let all = is_kept.counted.free in
      let plus = bytes_plus len v.arena.free (once is_in_memory (place_in x.place) * x.blocks) in
      let times = times_bytes len x.blocks (is_in_memory (place_in x.place)) in
      bytes_le len (v.arena.free + once is_in_memory (place_in x.place) * x.blocks) v.arena.blocks is_kept.sized.some (omega (arith, part, all, plus, times))

  pub destroy_ready : ReadyDestroy v id x buf
  destroy_ready = record {
    number = back.number;
    quota = back.opened;
    lent = back.lent;
    on = listed_on v.lists x.client id.key x.place at_x.on;
    clean = λ is. at_x.clean ∙ ap is_clean_spot is;
    live = let owned = page_owned (state_of v) is_kept.legal id.name (page_of v.pages id.name x) was in is_there _ owned.tracker owned.lives;
    used = used;
    short = short_bytes len x.blocks at_x.blocks.1 is_kept.sized.short;
    len = is_kept.sized.len;
    held = held_back v.arena x.blocks x.place x.mem buf at_x.mem can.given room;
  }
