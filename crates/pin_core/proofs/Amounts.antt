-- The numbers that the code keeps, when one page goes to another place.
use Rattle.std.proofs.Common.{◌≡◌, ℕ, ◌+◌, ◌-◌, ◌*◌, ◌≤◌, ◌==◌, length, Option, Some, None, unwrap_or, option_map, ap, sym, ◌∙◌, subst, inl, inr, arith}
use Rattle.std.specs.FinMap.{get, insert}
use Rattle.page_table.specs.declared.entry.Entry.{Entry}
use Rattle.page_table.specs.Pages.{IsProper}
use Rattle.reservation_tree.proofs.Maps.{get_same, get_other, same_or_other}
use Rattle.reservation_tree.specs.Total.{total, weight_at}
use Rattle.reservation_tree.proofs.Sums.{total-insert, weight-le-total}
use Rattle.reservation_tree.specs.Tree.{TreeState, charge_of as charge_in, set_charge}
use Rattle.scratch_dev.specs.declared.quota.Quota.{Quota}
use Rattle.scratch_dev.specs.Pool.{quota_of, free_of, free_in}
use Rattle.pool_model.specs.Bytes.{bytes_of, only_if}
use Rattle.pool_model.specs.State.{Place, Page, Pages, Session}
use Rattle.pool_model.specs.Sums.{times_charged, is_in_memory, once, charge_of, pages_for, buffers_for, bytes_in, buffer_bytes, bytes_in_memory, memory, page_bytes, slots_of, free_slots}
use Rattle.pool_model.proofs.PageSums.{pages_put, bytes_put}
use Rattle.pool_model.proofs.Weights.{mine, not_mine}
use Rattle.pin_core.specs.declared.kept.Kept.{Kept}
use Rattle.pin_core.specs.declared.parts.Parts.{Parts}
use Rattle.pin_core.specs.parts.Keeping.{has_slots}
use Rattle.pin_core.specs.StateOf.{page_of, pages_in, place_in, buffers_in, state_of}
use Rattle.pin_core.specs.Invariant.{IsQuota, AreCounted, slots_in}
use Rattle.pin_core.proofs.Moving.{Moves, moved_pages, page_there}

-- what a charge is after it fell or rose
pub fell : (tree : TreeState) (c bytes : ℕ) → bytes ≤ charge_in tree c → (t : ℕ) → charge_in (set_charge (charge_in tree c - bytes) c tree) t + only_if (c == t) bytes ≡ charge_in tree t
fell tree c bytes le t = elim (same_or_other c t) [
  | inl here ↦
      let now : charge_in (set_charge (charge_in tree c - bytes) c tree) c ≡ charge_in tree c - bytes = ap (λ (o : Option ℕ). unwrap_or o 0) (get_same tree.charges c (charge_in tree c - bytes)) in
      let all : only_if (c == c) bytes ≡ bytes = mine c bytes in
      subst (λ (d : ℕ). charge_in (set_charge (charge_in tree c - bytes) c tree) d + only_if (c == d) bytes ≡ charge_in tree d) here (omega (arith, now, all, le))
  | inr other ↦
      let now : charge_in (set_charge (charge_in tree c - bytes) c tree) t ≡ charge_in tree t = ap (λ (o : Option ℕ). unwrap_or o 0) (get_other tree.charges c (charge_in tree c - bytes) t (λ same. other (sym same))) in
      let none : only_if (c == t) bytes ≡ 0 = not_mine c t bytes other in
      omega (arith, now, none)
]

pub rose : (tree : TreeState) (c bytes t : ℕ) → charge_in (set_charge (charge_in tree c + bytes) c tree) t ≡ charge_in tree t + only_if (c == t) bytes
rose tree c bytes t = elim (same_or_other c t) [
  | inl here ↦
      let now : charge_in (set_charge (charge_in tree c + bytes) c tree) c ≡ charge_in tree c + bytes = ap (λ (o : Option ℕ). unwrap_or o 0) (get_same tree.charges c (charge_in tree c + bytes)) in
      let all : only_if (c == c) bytes ≡ bytes = mine c bytes in
      subst (λ (d : ℕ). charge_in (set_charge (charge_in tree c + bytes) c tree) d ≡ charge_in tree d + only_if (c == d) bytes) here (omega (arith, now, all))
  | inr other ↦
      let now : charge_in (set_charge (charge_in tree c + bytes) c tree) t ≡ charge_in tree t = ap (λ (o : Option ℕ). unwrap_or o 0) (get_other tree.charges c (charge_in tree c + bytes) t (λ same. other (sym same))) in
      let none : only_if (c == t) bytes ≡ 0 = not_mine c t bytes other in
      omega (arith, now, none)
]

-- a page's charge is part of its client's
pub charge_covers : (times : Place → ℕ) (len : ℕ) (pages : Pages) (p : ℕ) (x : Page) → get pages p ≡ Some x → page_bytes times len x ≤ pages_for times len pages x.client
unfolding pages_for
charge_covers times len pages p x is =
    let part : only_if (x.client == x.client) (page_bytes times len x) ≤ total (λ _ z. only_if (z.client == x.client) (page_bytes times len z)) pages =
    weight-le-total (λ _ z. only_if (z.client == x.client) (page_bytes times len z)) pages p x is in
    let all : only_if (x.client == x.client) (page_bytes times len x) ≡ page_bytes times len x = mine x.client _ in
    omega (arith, part, all)

pub slots_put : (pages : Pages) (p : ℕ) (x y : Page) → get pages p ≡ Some x → (q : ℕ)
    → slots_of (insert pages p y) q + only_if (x.session == q) (only_if x.has_slots x.blocks) ≡ slots_of pages q + only_if (y.session == q) (only_if y.has_slots y.blocks)
unfolding slots_of
slots_put pages p x y is q =
    let w : ℕ → Page → ℕ = λ _ z. only_if (z.session == q) (only_if z.has_slots z.blocks) in
    let sum : total w (insert pages p y) + weight_at w p (get pages p) ≡ total w pages + w p y = total-insert w pages p y in
    let old : weight_at w p (get pages p) ≡ w p x = ap (weight_at w p) is in
    omega (arith, sum, old)

pub all_slots_put : (pages : Pages) (p : ℕ) (x y : Page) → get pages p ≡ Some x
    → slots_in (insert pages p y) + only_if x.has_slots x.blocks ≡ slots_in pages + only_if y.has_slots y.blocks
all_slots_put pages p x y is =
    let w : ℕ → Page → ℕ = λ _ z. only_if z.has_slots z.blocks in
    let sum : total w (insert pages p y) + weight_at w p (get pages p) ≡ total w pages + w p y = total-insert w pages p y in
    let old : weight_at w p (get pages p) ≡ w p x = ap (weight_at w p) is in
    omega (arith, sum, old)

-- what is free of a quota is what the model finds free
quota_free : (o : Option Session) (q : Option Quota) (lent : ℕ) → IsQuota o q lent → free_in q ≡ unwrap_or (option_map (λ x. x.quota) o) 0 - lent
quota_free None None lent is = omega arith
quota_free (Some x) (Some quota) lent is = omega (arith, is.0, is.1)
quota_free None (Some quota) lent is = absurd is
quota_free (Some x) None lent is = absurd is

module _ {D : Type 0} where
  pub free_is : (v : Parts D) → AreCounted v → (q : ℕ) → free_of v.slots q ≡ free_slots (state_of v) q
  free_is v counted q = quota_free (get (state_of v).sessions q) (quota_of v.slots q) (slots_of (pages_in v.pages) q) (counted.quotas q)

  -- the page's part of a client's charge, of the memory and of the slots changes as its place says
  pub record Charges (len : ℕ) (x w : Entry (Kept D)) (v new : Parts D) : Type 0 where
    pub client : w.client ≡ x.client
    pub blocks : w.blocks ≡ x.blocks
    pub arena_blocks : new.arena.blocks ≡ v.arena.blocks
    pub buffers : new.buffers ≡ v.buffers
    pub charge : (t : ℕ) → charge_in new.tree t + only_if (x.client == t) (times_charged (place_in x.place) * bytes_of len x.blocks)
        ≡ charge_in v.tree t + only_if (x.client == t) (times_charged (place_in w.place) * bytes_of len x.blocks)
    pub free : bytes_of len new.arena.free + once is_in_memory (place_in w.place) * bytes_of len x.blocks
        ≡ bytes_of len v.arena.free + once is_in_memory (place_in x.place) * bytes_of len x.blocks
    pub stock : length new.slots.free + only_if (has_slots w.scratch) x.blocks ≡ length v.slots.free + only_if (has_slots x.scratch) x.blocks

  module _ (key name : ℕ) (x w : Entry (Kept D)) (v new : Parts D) (moves : Moves key name x w v new) (proper : IsProper v.pages) (counted : AreCounted v)
      (c : Charges v.arena.block_len x w v new) where
    abbrev len : ℕ
    len = v.arena.block_len

    abbrev old_page : Page
    old_page = page_of v.pages name x

    abbrev now_page : Page
    now_page = page_of v.pages name w

    abbrev put : Pages
    put = insert (pages_in v.pages) name now_page

    pages : pages_in new.pages ≡ put
    pages = moved_pages key name x w v new moves proper

    was : get (pages_in v.pages) name ≡ Some old_page
    was = page_there key name x w v new moves proper

    charges_then : (t : ℕ) → charge_in new.tree t ≡ charge_of (state_of new) t
    charges_then t =
        let sum = pages_put times_charged len (pages_in v.pages) name old_page was now_page t in
        let before : charge_in v.tree t ≡ pages_for times_charged len (pages_in v.pages) t + buffers_for len (buffers_in v.buffers) t = counted.charges t in
        let change = c.charge t in
        let mine_now : only_if (w.client == t) (page_bytes times_charged len now_page) ≡ only_if (x.client == t) (times_charged (place_in w.place) * bytes_of len x.blocks) =
        ap (λ (k : ℕ). only_if (k == t) (page_bytes times_charged len now_page)) c.client ∙ ap (λ (b : ℕ). only_if (x.client == t) (times_charged (place_in w.place) * bytes_of len b)) c.blocks in
        let here : charge_in new.tree t ≡ pages_for times_charged len put t + buffers_for len (buffers_in v.buffers) t = omega (arith, sum, before, change, mine_now) in
        here ∙ (λ i. pages_for times_charged (sym moves.block_len i) (sym pages i) t + buffers_for (sym moves.block_len i) (buffers_in (sym c.buffers i)) t)

    free_then : bytes_of new.arena.block_len new.arena.free + bytes_in_memory (state_of new) ≡ memory (state_of new)
    free_then =
        let sum = bytes_put (once is_in_memory) len (pages_in v.pages) name old_page was now_page in
        let before = counted.free in
        let change = c.free in
        let mine_now : page_bytes (once is_in_memory) len now_page ≡ once is_in_memory (place_in w.place) * bytes_of len x.blocks = ap (λ (b : ℕ). once is_in_memory (place_in w.place) * bytes_of len b) c.blocks in
        let here : bytes_of len new.arena.free + (bytes_in (once is_in_memory) len put + buffer_bytes len (buffers_in v.buffers)) ≡ bytes_of len v.arena.blocks = omega (arith, sum, before, change, mine_now) in
        (λ i. bytes_of (moves.block_len i) new.arena.free + (bytes_in (once is_in_memory) (moves.block_len i) (pages i) + buffer_bytes (moves.block_len i) (buffers_in (c.buffers i))))
        ∙ here ∙ (λ i. bytes_of (sym moves.block_len i) (sym c.arena_blocks i))

    room_then : new.arena.blocks + (length new.slots.free + slots_in (pages_in new.pages)) ≡ new.pages.room
    room_then =
        let sum = all_slots_put (pages_in v.pages) name old_page now_page was in
        let before = counted.room in
        let change = c.stock in
        let mine_now : only_if (has_slots w.scratch) w.blocks ≡ only_if (has_slots w.scratch) x.blocks = ap (only_if (has_slots w.scratch)) c.blocks in
        let blocks = c.arena_blocks in
        let same : slots_in (pages_in new.pages) ≡ slots_in put = ap (λ (m : Pages). slots_in m) pages in
        let here : new.arena.blocks + (length new.slots.free + slots_in (pages_in new.pages)) ≡ v.pages.room = omega (arith, sum, before, change, mine_now, blocks, same) in
        here ∙ ap (λ t. t.room) (sym moves.pages)

    pub moved_counted : ((q : ℕ) → IsQuota (get (state_of new).sessions q) (quota_of new.slots q) (slots_of (pages_in new.pages) q)) → AreCounted new
    moved_counted quotas = record { charges = charges_then; free = free_then; quotas = quotas; room = room_then }
