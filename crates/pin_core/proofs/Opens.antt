-- A pool as it opens keeps what a pool keeps, and stands for the empty history.
use Rattle.std.proofs.Common.{◌≡◌, ℕ, zero, suc, ◌+◌, ◌*◌, ◌<◌, ◌≤◌, Bool, true, false, List, [], length, replicate, Option, Some, None, option_map, refl, ap, sym, ◌∙◌, subst, inl, inr, arith, get_or, cond, unwrap_or}
use Rattle.std.specs.FinMap.{get, len, empty, get-empty, len-empty}
use Rattle.std.specs.List.{sum_by}
use Rattle.std.specs.Ordering.{nat_cmp}
use Rattle.std.proofs.lemmas.Bool.{cases_lt, false≢true}
use Rattle.std.proofs.lemmas.List.{length-replicate, get_or-replicate, get_or_past}
use Rattle.std.proofs.lemmas.List.Sums.{sum_by-cons}
use Rattle.outside.specs.declared.slot.Slot.{Ghosts}
use Rattle.index_list.specs.Listing.{list_with, nodes_on, stands_in}
use Rattle.index_list.proofs.Places.{stands-from_list}
use Rattle.scratch_dev.specs.declared.quota.Quota.{Quota}
use Rattle.scratch_dev.specs.Pool.{quota_of, free_in, IsCounted}
use Rattle.client_lists.specs.Clients as clients
use Rattle.client_lists.specs.declared.which.Which.TheVariants as which
use Rattle.client_lists.proofs.Proper.{nodes_on-empty}
use Rattle.clean_evict.specs.Cleans as cleans
use Rattle.clean_evict.specs.Eviction.{names_of}
use Rattle.buffer_transfer.specs.Buffers as book
use Rattle.buffer_transfer.specs.declared.lent.Lent.{Lent}
use Rattle.page_table.specs.declared.entry.Entry.{Entry}
use Rattle.page_table.specs.Pages as table
use Rattle.reservation_tree.specs.Change.{new_root}
use Rattle.reservation_tree.specs.Tree as trees
use Rattle.reservation_tree.specs.Total.{total}
use Rattle.reservation_tree.proofs.Maps.{alike, get_same, get_other, same_or_other, len_more}
use Rattle.reservation_tree.proofs.Sums.{total-none}
use Rattle.session_table.specs.Seats.{Seat, seat_of, vacant, trackers_in}
use Rattle.session_table.specs.Sessions.{session_in, sessions_in}
use Rattle.session_table.proofs.Found.{get_sessions}
use Rattle.pool_model.specs.Bytes.{bytes_of}
use Rattle.pool_model.specs.State.{Opening, opened, Pages, Buffers, Session}
use Rattle.pool_model.specs.Sums.{pages_for, buffers_for, bytes_in, buffer_bytes, times_charged, is_in_memory, once}
use Rattle.pin_core.specs.declared.kept.Kept.{Kept}
use Rattle.pin_core.specs.declared.parts.Parts.{Parts}
use Rattle.pin_core.specs.parts.Keeping.{row_in}
use Rattle.pin_core.specs.StateOf.{page_of, pages_in, buffers_in, dirty_in, state_of}
use Rattle.pin_core.specs.Invariant.{IsQuota, IsKept, is_live_client, slots_in}
use Rattle.pin_core.specs.Standing.{StandsFor, slots_home}
use Rattle.pin_core.proofs.Mapped.{get_mapped}
use Rattle.pin_core.proofs.Queued.{get_dirty}
use Rattle.pin_core.proofs.Effects.{same_state}
use Rattle.pin_core.proofs.Queries.{client_is, client_none}

none_found : {X : Type 0} (x : X) (k : ℕ) → get (empty {X = X} {R = nat_cmp}) k ≡ Some x → ⊥
none_found x k is = let never : None ≡ Some x = sym (get-empty nat_cmp k) ∙ is in cc

no_pages : (len t : ℕ) → pages_for times_charged len empty t ≡ 0
unfolding pages_for
no_pages len t = total-none _ empty (λ k x is. absurd (none_found x k is))

no_bytes : (len : ℕ) → bytes_in (once is_in_memory) len empty ≡ 0
unfolding bytes_in
no_bytes len = total-none _ empty (λ k x is. absurd (none_found x k is))

no_loans : (len t : ℕ) → buffers_for len empty t ≡ 0
unfolding buffers_for
no_loans len t = total-none _ empty (λ k x is. absurd (none_found x k is))

no_buffers : (len : ℕ) → buffer_bytes len empty ≡ 0
unfolding buffer_bytes
no_buffers len = total-none _ empty (λ k x is. absurd (none_found x k is))

no_slots : slots_in empty ≡ 0
no_slots = total-none _ empty (λ k x is. absurd (none_found x k is))

all_closed : (n c : ℕ) → get_or (replicate n false) c false ≡ false
all_closed n c = elim (cases_lt c n) [
  | inl lt ↦ get_or-replicate n c false false lt
  | inr le ↦ get_or_past (replicate n false) c false (let z = length-replicate {A = Bool} n false in omega (arith, z, le))
]

no_seat : (s : ℕ) → seat_of vacant s ≡ None
no_seat s = elim (cases_lt s 240) [
  | inl lt ↦ get_or-replicate {A = Option Seat} 240 s None None lt
  | inr le ↦ get_or_past vacant s None (let z = length-replicate {A = Option Seat} 240 None in omega (arith, z, le))
]

no_sessions : sessions_in vacant ≡ empty
no_sessions = alike _ _ (λ s. get_sessions vacant s ∙ ap (option_map session_in) (no_seat s) ∙ sym (get-empty nat_cmp s))

no_trackers : (n : ℕ) → sum_by trackers_in (replicate n None) ≡ 0
no_trackers zero = refl
no_trackers (suc n) = let rest = no_trackers n in let one = sum_by-cons trackers_in None (replicate n None) in omega (arith, rest, one)

none_free : (n : ℕ) → sum_by free_in (replicate n None) ≡ 0
none_free zero = refl
none_free (suc n) = let rest = none_free n in let one = sum_by-cons free_in None (replicate n None) in omega (arith, rest, one)

root_closed : (bytes c : ℕ) → is_live_client (trees.opened bytes).trackers c ≡ false
root_closed bytes c = elim (same_or_other c 0) [
  | inl here ↦ ap (is_live_client (trees.opened bytes).trackers) here ∙ client_is (trees.opened bytes).trackers 0 (new_root bytes) (get_same empty 0 (new_root bytes))
  | inr other ↦ client_none (trees.opened bytes).trackers c (get_other empty 0 (new_root bytes) c other ∙ get-empty nat_cmp c)
]

root_alone_counts : (bytes : ℕ) → len (trees.opened bytes).trackers ≡ 1
root_alone_counts bytes = len_more empty 0 (new_root bytes) (get-empty nat_cmp 0) ∙ ap (λ (n : ℕ). n + 1) (len-empty nat_cmp _)

module _ {D : Type 0} (block_len blocks first room : ℕ) (marked : Bool) (slots : List D) (spare : ℕ) where
  -- the parts as they open
  abbrev pub start : Parts D
  start = record {
    block_len = block_len;
    marked = marked;
    tree = trees.opened (bytes_of block_len blocks);
    pages = table.opened room first;
    lists = clients.fresh 4096 room;
    clean = cleans.empty room;
    arena = record { block_len = block_len; blocks = blocks; free = blocks };
    slots = record { free = slots; quotas = replicate 240 None; spare = spare };
    buffers = book.opened blocks;
    seats = vacant;
    entries = 0;
  }

  abbrev o : Opening
  o = record { blocks = blocks; block_len = block_len; marked = marked; first_name = first; slots = length slots; faults = 0; stores = 0 }

  start_pages : pages_in start.pages ≡ empty
  start_pages = alike _ _ (λ q. get_mapped (page_of start.pages) empty q ∙ ap (λ (r : Option (Entry (Kept D))). option_map (page_of start.pages q) r) (get-empty nat_cmp q) ∙ sym (get-empty nat_cmp q))

  start_buffers : buffers_in start.buffers ≡ empty
  start_buffers = alike _ _ (λ q. get_mapped (λ _ (lent : Lent). record { client = lent.client; blocks = lent.blocks }) empty q
      ∙ ap (λ (r : Option Lent). option_map (λ lent. record { client = lent.client; blocks = lent.blocks }) r) (get-empty nat_cmp q) ∙ sym (get-empty nat_cmp q))

  start_dirty : dirty_in start.pages start.lists ≡ empty
  start_dirty = alike _ _ (λ q. get_dirty start.pages start.lists q
      ∙ ap (λ (b : Bool). cond b (Some (names_of start.pages (clients.nodes_of q which.Dirty start.lists))) None) (all_closed 4096 q)
      ∙ sym (get-empty nat_cmp q))

  start_state : state_of start ≡ opened o
  start_state = same_state (state_of start) (opened o) refl refl refl refl no_sessions start_pages start_buffers start_dirty refl refl refl

  start_off : (key : ℕ) → list_with key start.lists.pages.lists ≡ None
  start_off key = elim (list_with key start.lists.pages.lists) as (λ r. list_with key start.lists.pages.lists ≡ r → list_with key start.lists.pages.lists ≡ None) [
    | None ↦ λ is. is
    | Some list ↦ λ is.
        let stands : stands_in key (nodes_on list start.lists.pages.lists) ≡ true = (stands-from_list start.lists.pages.lists key list is).1 in
        absurd (false≢true (sym (ap (stands_in key) (nodes_on-empty room (3 * 4096) list)) ∙ stands))
  ] refl

  none_charged : (t : ℕ) → trees.charge_of start.tree t ≡ 0
  none_charged t = elim (same_or_other t 0) [
    | inl here ↦ ap (trees.charge_of start.tree) here ∙ ap (λ (r : Option ℕ). unwrap_or r 0) (get_same empty 0 0)
    | inr other ↦ ap (λ (r : Option ℕ). unwrap_or r 0) (get_other empty 0 0 t other ∙ get-empty nat_cmp t)
  ]

  no_quota : (q : ℕ) → quota_of start.slots q ≡ None
  no_quota q = elim (cases_lt q 240) [
    | inl lt ↦ get_or-replicate 240 q None None lt
    | inr le ↦ get_or_past (replicate {A = Option Quota} 240 None) q None (let z = length-replicate {A = Option Quota} 240 None in omega (arith, z, le))
  ]

  unquoted : (r : Option Session) (q : Option Quota) (n : ℕ) → r ≡ None → q ≡ None → IsQuota r q n
  unquoted r q n a b = subst (λ s. IsQuota s q n) (sym a) (subst (λ s. IsQuota None s n) (sym b) tt)

  pub opens_kept : 0 < block_len → block_len ≤ 65536 → bytes_of block_len blocks ≤ 2147483648 → room ≡ blocks + length slots → IsKept start
  opens_kept some short memory enough = record {
    legal = record { opening = o; history = []; legal = tt; after = start_state };
    placed = λ key name page live there. absurd (none_found page name there);
    stray = λ key none. (start_off key, refl);
    counted = record {
      charges = λ t.
          let charge = none_charged t in
          let pages : pages_for times_charged block_len (pages_in start.pages) t ≡ 0 = ap (λ (m : Pages). pages_for times_charged block_len m t) start_pages ∙ no_pages block_len t in
          let loans : buffers_for block_len (buffers_in start.buffers) t ≡ 0 = ap (λ (m : Buffers). buffers_for block_len m t) start_buffers ∙ no_loans block_len t in
          omega (arith, charge, pages, loans);
      free =
          let pages : bytes_in (once is_in_memory) block_len (pages_in start.pages) ≡ 0 = ap (λ (m : Pages). bytes_in (once is_in_memory) block_len m) start_pages ∙ no_bytes block_len in
          let loans : buffer_bytes block_len (buffers_in start.buffers) ≡ 0 = ap (λ (m : Buffers). buffer_bytes block_len m) start_buffers ∙ no_buffers block_len in
          omega (arith, pages, loans);
      quotas = λ q. unquoted (get (sessions_in vacant) q) (quota_of start.slots q) _ (ap (λ m. get m q) no_sessions ∙ get-empty nat_cmp q) (no_quota q);
      room =
          let none : slots_in (pages_in start.pages) ≡ 0 = ap (λ (m : Pages). slots_in m) start_pages ∙ no_slots in
          omega (arith, none, enough);
    };
    seated = record {
      clients = λ s x is. let both : None ≡ Some x = sym (no_seat s) ∙ is in cc;
      opens = λ c. all_closed 4096 c ∙ sym (root_closed (bytes_of block_len blocks) c);
      few = root_alone_counts (bytes_of block_len blocks) ∙ ap (λ (n : ℕ). 1 + n) (sym (no_trackers 240));
    };
    lent = λ f x is. absurd (none_found x f is);
    sized = record {
      len = refl;
      some = some;
      short = short;
      memory = memory;
      clients = length-replicate 4096 false;
      sessions = length-replicate {A = Option Quota} 240 None;
      nodes = omega arith;
      cleans = omega arith;
      book = refl;
    };
  }

  pub opens_standing : (slot : Ghosts D) (other : Opening) → other.blocks ≡ blocks → other.block_len ≡ block_len → other.first_name ≡ first → other.marked ≡ marked → StandsFor slot other [] start
  opens_standing slot other same_blocks same_len same_first same_marked = record {
    legal = tt;
    state = start_state ∙ sym (λ i. opened (record { blocks = same_blocks i; block_len = same_len i; marked = same_marked i; first_name = same_first i; slots = length slots; faults = 0; stores = 0 }));
    holds = λ name page there. absurd (none_found page name there);
  }

  pub opens_slots : (measure : D → ℕ) → slots_home measure start ≡ sum_by measure slots
  opens_slots measure =
      let none : total (λ _ (page : Entry (Kept D)). sum_by measure (row_in page.scratch)) empty ≡ 0 = total-none _ empty (λ k x is. absurd (none_found x k is)) in
      omega (arith, none)

  -- as many slots are spare as there are
  pub opens_spare : IsCounted start.slots → length slots ≡ spare
  opens_spare counted = let free = none_free 240 in omega (arith, counted, free)
