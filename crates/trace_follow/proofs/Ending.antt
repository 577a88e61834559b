-- A page ends: what the follower keeps loses it.
use Rattle.std.proofs.Common.{◌≡◌, ◌≢◌, ℕ, ◌+◌, ◌-◌, ◌*◌, ◌≤◌, ◌==◌, Some, Option, unwrap_or, ap, sym, ◌∙◌, subst, arith, inl, inr}
use Rattle.std.specs.Ordering.{nat_cmp}
use Rattle.std.specs.FinMap.{FinMap, get, insert, remove}
use Rattle.reservation_tree.proofs.Maps.{get_same, get_other, same_or_other}
use Rattle.reservation_tree.proofs.Sums.{total-remove}
use Rattle.pool_model.specs.Bytes.{bytes_of, only_if}
use Rattle.pool_model.specs.State.{Page, Pages, State}
use Rattle.pool_model.specs.State as model
use Rattle.pool_model.specs.Sums.{times_charged, times_held, is_in_memory, once, page_bytes, bytes_in, pages_for, buffers_for, buffer_bytes, bytes_in_memory, memory, slots_of}
use Rattle.pool_model.specs.Parts.{end_page}
use Rattle.pool_model.proofs.Weights.{mine, not_mine}
use Rattle.pool_model.proofs.PageSums.{pages_gone, bytes_gone}
use Rattle.trace_follow.specs.declared.rows.Place.{Place}
use Rattle.trace_follow.specs.declared.rows.Load.{Load}
use Rattle.trace_follow.specs.declared.rows.PageRow.{PageRow}
use Rattle.trace_follow.specs.declared.follower.Follower.{Follower}
use Rattle.trace_follow.specs.Tables.{amount_at}
use Rattle.trace_follow.specs.Rows.{place_row, page_row, pages_on, buffers_on, load_of, load_at}
use Rattle.trace_follow.specs.Showing.{Shows}
use Rattle.trace_follow.specs.Moving.{charges_of, holds_of, blocks_of}
use Rattle.trace_follow.specs.Ending.{EndsPage}
use Rattle.trace_follow.proofs.Mirrored.{HasRow, row_of, mirror_gone}
use Rattle.trace_follow.proofs.Rooms.{bytes_are}
use Rattle.trace_follow.proofs.Places.{charges_told, holds_told, blocks_told, same_load, load_put, load_beside}

pages_on_gone : (pages : Pages) (p : ℕ) (x : Page) (c : ℕ) → get pages p ≡ Some x → pages_on (remove pages p) c + only_if (x.client == c) 1 ≡ pages_on pages c
unfolding pages_on
pages_on_gone pages p x c is = total-remove (λ _ z. only_if (z.client == c) 1) pages p (Some x) is

slots_gone : (pages : Pages) (p : ℕ) (x : Page) (m : ℕ) → get pages p ≡ Some x → slots_of (remove pages p) m + only_if (x.session == m) (only_if x.has_slots x.blocks) ≡ slots_of pages m
unfolding slots_of
slots_gone pages p x m is = total-remove (λ _ z. only_if (z.session == m) (only_if z.has_slots z.blocks)) pages p (Some x) is

-- the amount that is read after one was put
pub amount_put : (amounts : FinMap nat_cmp ℕ) (k n : ℕ) → amount_at (insert amounts k n) k ≡ n
amount_put amounts k n = ap (λ (o : Option ℕ). unwrap_or o 0) (get_same amounts k n)

pub amount_beside : (amounts : FinMap nat_cmp ℕ) (k n q : ℕ) → q ≢ k → amount_at (insert amounts k n) q ≡ amount_at amounts q
amount_beside amounts k n q other = ap (λ (o : Option ℕ). unwrap_or o 0) (get_other amounts k n q other)

module _ (v w : Follower) (s : State) (p : ℕ) (x : Page) (shows : Shows v s) (is : get s.pages p ≡ Some x) (ends : EndsPage v w p (page_row x)) where
  length_is : x.blocks * v.block_len ≡ bytes_of s.block_len x.blocks
  length_is = ap (λ (n : ℕ). x.blocks * n) shows.block_len ∙ sym (bytes_are s.block_len x.blocks)

  module _ (times : model.Place → ℕ) (count : Place → ℕ) (told : (q : model.Place) → count (place_row q) ≡ times q) where
    amount : count (place_row x.place) * (x.blocks * v.block_len) ≡ times x.place * bytes_of s.block_len x.blocks
    amount = ap (λ (n : ℕ). n * (x.blocks * v.block_len)) (told x.place) ∙ ap (λ (n : ℕ). times x.place * n) length_is

    mine_gone : (before after : ℕ) → before ≡ after + count (place_row x.place) * (x.blocks * v.block_len) → before ≡ pages_for times s.block_len s.pages x.client + buffers_for s.block_len s.buffers x.client
        → after ≡ pages_for times s.block_len (remove s.pages p) x.client + buffers_for s.block_len s.buffers x.client
    mine_gone before after step was =
        let sum : pages_for times s.block_len (remove s.pages p) x.client + only_if (x.client == x.client) (page_bytes times s.block_len x) ≡ pages_for times s.block_len s.pages x.client = pages_gone times s.block_len s.pages p x is x.client in
        let old : only_if (x.client == x.client) (page_bytes times s.block_len x) ≡ times x.place * bytes_of s.block_len x.blocks = mine x.client _ in
        omega (arith, sum, old, step, was, amount)

    others_stay : (c : ℕ) → x.client ≢ c → pages_for times s.block_len (remove s.pages p) c ≡ pages_for times s.block_len s.pages c
    others_stay c other =
        let sum : pages_for times s.block_len (remove s.pages p) c + only_if (x.client == c) (page_bytes times s.block_len x) ≡ pages_for times s.block_len s.pages c = pages_gone times s.block_len s.pages p x is c in
        let old : only_if (x.client == c) (page_bytes times s.block_len x) ≡ 0 = not_mine x.client c _ other in
        omega (arith, sum, old)

  loads_gone : (c : ℕ) → load_at (insert v.loads x.client ends.load) c ≡ load_of s.block_len (remove s.pages p) s.buffers c
  loads_gone c = elim (same_or_other c x.client) [
    | inl here ↦
        let was : load_at v.loads x.client ≡ load_of s.block_len s.pages s.buffers x.client = shows.things.loads x.client in
        let one : only_if (x.client == x.client) 1 ≡ 1 = mine x.client 1 in
        let gone : pages_on (remove s.pages p) x.client + only_if (x.client == x.client) 1 ≡ pages_on s.pages x.client = pages_on_gone s.pages p x x.client is in
        let count_was : (load_at v.loads x.client).count ≡ pages_on s.pages x.client + buffers_on s.buffers x.client = ap (λ (l : Load). l.count) was in
        let count_now : (load_at v.loads x.client).count ≡ ends.load.count + 1 = ends.loads.count in
        ap (load_at (insert v.loads x.client ends.load)) here ∙ load_put v x.client ends.load
        ∙ same_load ends.load (load_of s.block_len (remove s.pages p) s.buffers x.client)
        (mine_gone times_charged charges_of charges_told (load_at v.loads x.client).charge ends.load.charge ends.loads.charge (ap (λ (l : Load). l.charge) was))
        (mine_gone times_held holds_of holds_told (load_at v.loads x.client).held ends.load.held ends.loads.held (ap (λ (l : Load). l.held) was))
        (omega (arith, one, gone, count_was, count_now))
        ∙ ap (load_of s.block_len (remove s.pages p) s.buffers) (sym here)
    | inr other ↦
        let apart : x.client ≢ c = λ same. other (sym same) in
        let gone : pages_on (remove s.pages p) c + only_if (x.client == c) 1 ≡ pages_on s.pages c = pages_on_gone s.pages p x c is in
        let none : only_if (x.client == c) 1 ≡ 0 = not_mine x.client c 1 apart in
        let on_same : pages_on s.pages c ≡ pages_on (remove s.pages p) c = omega (arith, gone, none) in
        load_beside v x.client ends.load c other ∙ shows.things.loads c
        ∙ same_load (load_of s.block_len s.pages s.buffers c) (load_of s.block_len (remove s.pages p) s.buffers c)
        (ap (λ (n : ℕ). n + buffers_for s.block_len s.buffers c) (sym (others_stay times_charged charges_of charges_told c apart)))
        (ap (λ (n : ℕ). n + buffers_for s.block_len s.buffers c) (sym (others_stay times_held holds_of holds_told c apart)))
        (ap (λ (n : ℕ). n + buffers_on s.buffers c) on_same)
  ]

  lent_gone : (m : ℕ) → amount_at (insert v.lent x.session ends.lent) m ≡ slots_of (remove s.pages p) m
  lent_gone m = elim (same_or_other m x.session) [
    | inl here ↦
        let was : amount_at v.lent x.session ≡ slots_of s.pages x.session = shows.things.lent x.session in
        let step : ends.lent + only_if x.has_slots x.blocks ≡ amount_at v.lent x.session = ends.slots in
        let gone : slots_of (remove s.pages p) x.session + only_if (x.session == x.session) (only_if x.has_slots x.blocks) ≡ slots_of s.pages x.session = slots_gone s.pages p x x.session is in
        let all : only_if (x.session == x.session) (only_if x.has_slots x.blocks) ≡ only_if x.has_slots x.blocks = mine x.session _ in
        let now : ends.lent ≡ slots_of (remove s.pages p) x.session = omega (arith, was, step, gone, all) in
        ap (amount_at (insert v.lent x.session ends.lent)) here ∙ amount_put v.lent x.session ends.lent ∙ now ∙ ap (slots_of (remove s.pages p)) (sym here)
    | inr other ↦
        let gone : slots_of (remove s.pages p) m + only_if (x.session == m) (only_if x.has_slots x.blocks) ≡ slots_of s.pages m = slots_gone s.pages p x m is in
        let none : only_if (x.session == m) (only_if x.has_slots x.blocks) ≡ 0 = not_mine x.session m _ (λ same. other (sym same)) in
        let now : slots_of s.pages m ≡ slots_of (remove s.pages p) m = omega (arith, gone, none) in
        amount_beside v.lent x.session ends.lent m other ∙ shows.things.lent m ∙ now
  ]

  free_gone : bytes_in_memory s ≤ memory s → ends.free ≡ memory s - (bytes_in (once is_in_memory) s.block_len (remove s.pages p) + buffer_bytes s.block_len s.buffers)
  free_gone fits =
      let sum : bytes_in (once is_in_memory) s.block_len (remove s.pages p) + once is_in_memory x.place * bytes_of s.block_len x.blocks ≡ bytes_in (once is_in_memory) s.block_len s.pages =
      bytes_gone (once is_in_memory) s.block_len s.pages p x is in
      let was : v.free ≡ memory s - bytes_in_memory s = shows.free in
      let step : ends.free ≡ v.free + blocks_of (place_row x.place) * (x.blocks * v.block_len) = ends.frees in
      omega (arith, sum, was, step, fits, amount (once is_in_memory) blocks_of blocks_told)

  pub shows_gone : bytes_in_memory s ≤ memory s → Shows w (end_page p s)
  shows_gone fits =
      let new : Follower = record v { pages = remove v.pages p; loads = insert v.loads x.client ends.load; lent = insert v.lent x.session ends.lent; free = ends.free } in
      let gone : Shows new (end_page p s) = record {
        block_len = shows.block_len;
        trackers = shows.trackers;
        sessions = shows.sessions;
        things = record { pages = mirror_gone page_row s.pages v.pages shows.things.pages p; buffers = shows.things.buffers; loads = loads_gone; lent = lent_gone };
        free = free_gone fits;
        queues = record {
          dirty_names = shows.queues.dirty_names;
          clean_names = shows.queues.clean_names;
          dirty_stamped = shows.queues.dirty_stamped;
          clean_stamped = shows.queues.clean_stamped;
          earlier = shows.queues.earlier;
          own = shows.queues.own;
        };
        next_name = shows.next_name;
        entries = shows.entries;
        few = shows.few;
      } in
      subst (λ (u : Follower). Shows u (end_page p s)) (sym ends.is) gone

-- a live page ends in the state too
pub page_ended : (v w : Follower) (s : State) (p : ℕ) (row : PageRow) → Shows v s → bytes_in_memory s ≤ memory s → get v.pages p ≡ Some row → EndsPage v w p row → Shows w (end_page p s)
page_ended v w s p row shows fits live ends =
    let x : HasRow page_row (get s.pages p) row = row_of page_row s.pages v.pages shows.things.pages p row live in
    shows_gone v w s p x.of shows x.lives (subst (EndsPage v w p) x.is ends) fits
