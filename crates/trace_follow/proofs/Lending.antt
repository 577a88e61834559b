-- Buffers come and go: what the follower keeps gains and loses them.
use Rattle.std.proofs.Common.{◌≡◌, ◌≢◌, ℕ, ◌+◌, ◌-◌, ◌*◌, ◌≤◌, ◌==◌, Some, None, Option, option_map, unwrap_or, refl, ap, sym, ◌∙◌, subst, arith, inl, inr}
use Rattle.std.specs.Ordering.{nat_cmp}
use Rattle.std.specs.FinMap.{FinMap, get, insert, remove}
use Rattle.reservation_tree.specs.Total.{total, weight_at}
use Rattle.reservation_tree.proofs.Maps.{alike, get_same, get_other, removed_same, removed_other, same_or_other}
use Rattle.reservation_tree.proofs.Sums.{total-insert, total-remove}
use Rattle.pool_model.specs.Bytes.{bytes_of, only_if}
use Rattle.pool_model.specs.State.{Page, page_at, Buffer, Buffers, no_buffer, buffer_at, State}
use Rattle.pool_model.specs.Sums.{times_charged, times_held, is_in_memory, once, bytes_in, pages_for, buffers_for, buffer_bytes, bytes_in_memory, memory}
use Rattle.pool_model.specs.Parts.{put_buffer, end_page}
use Rattle.pool_model.proofs.Pages.{page_is}
use Rattle.pool_model.proofs.Weights.{mine, not_mine}
use Rattle.pool_model.proofs.PageSums.{buffers_gone, all_gone}
use Rattle.trace_follow.specs.declared.rows.Load.{Load}
use Rattle.trace_follow.specs.declared.rows.PageRow.{PageRow}
use Rattle.trace_follow.specs.declared.rows.BufferRow.{BufferRow}
use Rattle.trace_follow.specs.declared.follower.Follower.{Follower}
use Rattle.trace_follow.specs.Rows.{page_row, buffer_row, pages_on, buffers_on, load_of, load_at}
use Rattle.trace_follow.specs.Showing.{Shows}
use Rattle.trace_follow.specs.Ending.{EndsPage, AddsBuffer, EndsBuffer}
use Rattle.trace_follow.proofs.Mirrored.{HasRow, row_of, none_of, mirror_put, mirror_gone}
use Rattle.trace_follow.proofs.Rooms.{bytes_are}
use Rattle.trace_follow.proofs.Ending.{page_ended}
use Rattle.trace_follow.proofs.Places.{same_load, load_put, load_beside}

buffers_added : (block_len : ℕ) (buffers : Buffers) (f : ℕ) (y : Buffer) (t : ℕ) → get buffers f ≡ None → buffers_for block_len (insert buffers f y) t ≡ buffers_for block_len buffers t + only_if (y.client == t) (bytes_of block_len y.blocks)
unfolding buffers_for
buffers_added block_len buffers f y t none =
    let w : ℕ → Buffer → ℕ = λ _ z. only_if (z.client == t) (bytes_of block_len z.blocks) in
    let sum : total w (insert buffers f y) + weight_at w f (get buffers f) ≡ total w buffers + w f y = total-insert w buffers f y in
    let old : weight_at w f (get buffers f) ≡ 0 = ap (weight_at w f) none in
    omega (arith, sum, old)

all_added : (block_len : ℕ) (buffers : Buffers) (f : ℕ) (y : Buffer) → get buffers f ≡ None → buffer_bytes block_len (insert buffers f y) ≡ buffer_bytes block_len buffers + bytes_of block_len y.blocks
unfolding buffer_bytes
all_added block_len buffers f y none =
    let w : ℕ → Buffer → ℕ = λ _ z. bytes_of block_len z.blocks in
    let sum : total w (insert buffers f y) + weight_at w f (get buffers f) ≡ total w buffers + w f y = total-insert w buffers f y in
    let old : weight_at w f (get buffers f) ≡ 0 = ap (weight_at w f) none in
    omega (arith, sum, old)

on_added : (buffers : Buffers) (f : ℕ) (y : Buffer) (t : ℕ) → get buffers f ≡ None → buffers_on (insert buffers f y) t ≡ buffers_on buffers t + only_if (y.client == t) 1
unfolding buffers_on
on_added buffers f y t none =
    let w : ℕ → Buffer → ℕ = λ _ z. only_if (z.client == t) 1 in
    let sum : total w (insert buffers f y) + weight_at w f (get buffers f) ≡ total w buffers + w f y = total-insert w buffers f y in
    let old : weight_at w f (get buffers f) ≡ 0 = ap (weight_at w f) none in
    omega (arith, sum, old)

on_gone : (buffers : Buffers) (f : ℕ) (x : Buffer) (t : ℕ) → get buffers f ≡ Some x → buffers_on (remove buffers f) t + only_if (x.client == t) 1 ≡ buffers_on buffers t
unfolding buffers_on
on_gone buffers f x t is = total-remove (λ _ z. only_if (z.client == t) 1) buffers f (Some x) is

module _ (v w : Follower) (s : State) (f : ℕ) (x : Buffer) (shows : Shows v s) where
  length_is : x.blocks * v.block_len ≡ bytes_of s.block_len x.blocks
  length_is = ap (λ (n : ℕ). x.blocks * n) shows.block_len ∙ sym (bytes_are s.block_len x.blocks)

  was : load_at v.loads x.client ≡ load_of s.block_len s.pages s.buffers x.client
  was = shows.things.loads x.client

  -- what a client has where a buffer is more, or less, than the state had
  loads_with : (buffers : Buffers) (load : Load)
      → load.charge ≡ pages_for times_charged s.block_len s.pages x.client + buffers_for s.block_len buffers x.client
      → load.held ≡ pages_for times_held s.block_len s.pages x.client + buffers_for s.block_len buffers x.client
      → load.count ≡ pages_on s.pages x.client + buffers_on buffers x.client
      → ((c : ℕ) → x.client ≢ c → buffers_for s.block_len buffers c ≡ buffers_for s.block_len s.buffers c)
      → ((c : ℕ) → x.client ≢ c → buffers_on buffers c ≡ buffers_on s.buffers c)
      → (c : ℕ) → load_at (insert v.loads x.client load) c ≡ load_of s.block_len s.pages buffers c
  loads_with buffers load charge held count bytes_stay count_stays c = elim (same_or_other c x.client) [
    | inl here ↦
        ap (load_at (insert v.loads x.client load)) here ∙ load_put v x.client load
        ∙ same_load load (load_of s.block_len s.pages buffers x.client) charge held count ∙ ap (load_of s.block_len s.pages buffers) (sym here)
    | inr other ↦
        let apart : x.client ≢ c = λ same. other (sym same) in
        load_beside v x.client load c other ∙ shows.things.loads c
        ∙ same_load (load_of s.block_len s.pages s.buffers c) (load_of s.block_len s.pages buffers c)
        (ap (λ (n : ℕ). pages_for times_charged s.block_len s.pages c + n) (sym (bytes_stay c apart)))
        (ap (λ (n : ℕ). pages_for times_held s.block_len s.pages c + n) (sym (bytes_stay c apart)))
        (ap (λ (n : ℕ). pages_on s.pages c + n) (sym (count_stays c apart)))
  ]

  with_buffers : (live : Buffers) (buffers : _) (load : Load) (free : ℕ) → ((k : ℕ) → get buffers k ≡ option_map buffer_row (get live k))
      → ((c : ℕ) → load_at (insert v.loads x.client load) c ≡ load_of s.block_len s.pages live c)
      → free ≡ memory s - (bytes_in (once is_in_memory) s.block_len s.pages + buffer_bytes s.block_len live)
      → Shows (record v { buffers = buffers; loads = insert v.loads x.client load; free = free }) (record s { buffers = live })
  with_buffers live buffers load free mirrors loads is_free = record {
    block_len = shows.block_len;
    trackers = shows.trackers;
    sessions = shows.sessions;
    things = record { pages = shows.things.pages; buffers = mirrors; loads = loads; lent = shows.things.lent };
    free = is_free;
    queues = record {
      dirty_names = shows.queues.dirty_names;
      clean_names = shows.queues.clean_names;
      dirty_stamped = shows.queues.dirty_stamped;
      clean_stamped = shows.queues.clean_stamped;
      earlier = shows.queues.earlier;
      own = shows.queues.own;
    };
    next_name = shows.next_name;
    entries = shows.entries;
    few = shows.few;
  }

  pub buffer_added : get s.buffers f ≡ None → AddsBuffer v w f (buffer_row x) → Shows w (put_buffer f x s)
  buffer_added none adds =
      let live : Buffers = insert s.buffers f x in
      let more : buffers_for s.block_len live x.client ≡ buffers_for s.block_len s.buffers x.client + only_if (x.client == x.client) (bytes_of s.block_len x.blocks) = buffers_added s.block_len s.buffers f x x.client none in
      let all : only_if (x.client == x.client) (bytes_of s.block_len x.blocks) ≡ bytes_of s.block_len x.blocks = mine x.client _ in
      let one_more : buffers_on live x.client ≡ buffers_on s.buffers x.client + only_if (x.client == x.client) 1 = on_added s.buffers f x x.client none in
      let one : only_if (x.client == x.client) 1 ≡ 1 = mine x.client 1 in
      let charge : adds.load.charge ≡ pages_for times_charged s.block_len s.pages x.client + buffers_for s.block_len live x.client =
      let old : (load_at v.loads x.client).charge ≡ pages_for times_charged s.block_len s.pages x.client + buffers_for s.block_len s.buffers x.client = ap (λ (l : Load). l.charge) was in
      let step : adds.load.charge ≡ (load_at v.loads x.client).charge + 1 * (x.blocks * v.block_len) = adds.loads.charge in
      omega (arith, more, all, old, step, length_is)
      in
      let held : adds.load.held ≡ pages_for times_held s.block_len s.pages x.client + buffers_for s.block_len live x.client =
      let old : (load_at v.loads x.client).held ≡ pages_for times_held s.block_len s.pages x.client + buffers_for s.block_len s.buffers x.client = ap (λ (l : Load). l.held) was in
      let step : adds.load.held ≡ (load_at v.loads x.client).held + 1 * (x.blocks * v.block_len) = adds.loads.held in
      omega (arith, more, all, old, step, length_is)
      in
      let count : adds.load.count ≡ pages_on s.pages x.client + buffers_on live x.client =
      let old : (load_at v.loads x.client).count ≡ pages_on s.pages x.client + buffers_on s.buffers x.client = ap (λ (l : Load). l.count) was in
      let step : adds.load.count ≡ (load_at v.loads x.client).count + 1 = adds.loads.count in
      omega (arith, one_more, one, old, step)
      in
      let stays : (c : ℕ) → x.client ≢ c → buffers_for s.block_len live c ≡ buffers_for s.block_len s.buffers c = λ c apart.
      let sum : buffers_for s.block_len live c ≡ buffers_for s.block_len s.buffers c + only_if (x.client == c) (bytes_of s.block_len x.blocks) = buffers_added s.block_len s.buffers f x c none in
      let zero : only_if (x.client == c) (bytes_of s.block_len x.blocks) ≡ 0 = not_mine x.client c _ apart in
      omega (arith, sum, zero)
      in
      let count_stays : (c : ℕ) → x.client ≢ c → buffers_on live c ≡ buffers_on s.buffers c = λ c apart.
      let sum : buffers_on live c ≡ buffers_on s.buffers c + only_if (x.client == c) 1 = on_added s.buffers f x c none in
      let zero : only_if (x.client == c) 1 ≡ 0 = not_mine x.client c 1 apart in
      omega (arith, sum, zero)
      in
      let free : adds.free ≡ memory s - (bytes_in (once is_in_memory) s.block_len s.pages + buffer_bytes s.block_len live) =
      let sum : buffer_bytes s.block_len live ≡ buffer_bytes s.block_len s.buffers + bytes_of s.block_len x.blocks = all_added s.block_len s.buffers f x none in
      let old : v.free ≡ memory s - bytes_in_memory s = shows.free in
      let step : adds.free + x.blocks * v.block_len ≡ v.free = adds.takes in
      omega (arith, sum, old, step, length_is)
      in
      subst (λ (u : Follower). Shows u (put_buffer f x s)) (sym adds.is)
      (with_buffers live (insert v.buffers f (buffer_row x)) adds.load adds.free (mirror_put buffer_row s.buffers v.buffers shows.things.buffers f x (buffer_row x) refl) (loads_with live adds.load charge held count stays count_stays) free)

  pub buffer_gone : bytes_in_memory s ≤ memory s → get s.buffers f ≡ Some x → EndsBuffer v w f (buffer_row x) → Shows w (record s { buffers = remove s.buffers f })
  buffer_gone fits is ends =
      let live : Buffers = remove s.buffers f in
      let less : buffers_for s.block_len live x.client + only_if (x.client == x.client) (bytes_of s.block_len x.blocks) ≡ buffers_for s.block_len s.buffers x.client = buffers_gone s.block_len s.buffers f x is x.client in
      let all : only_if (x.client == x.client) (bytes_of s.block_len x.blocks) ≡ bytes_of s.block_len x.blocks = mine x.client _ in
      let one_less : buffers_on live x.client + only_if (x.client == x.client) 1 ≡ buffers_on s.buffers x.client = on_gone s.buffers f x x.client is in
      let one : only_if (x.client == x.client) 1 ≡ 1 = mine x.client 1 in
      let charge : ends.load.charge ≡ pages_for times_charged s.block_len s.pages x.client + buffers_for s.block_len live x.client =
      let old : (load_at v.loads x.client).charge ≡ pages_for times_charged s.block_len s.pages x.client + buffers_for s.block_len s.buffers x.client = ap (λ (l : Load). l.charge) was in
      let step : (load_at v.loads x.client).charge ≡ ends.load.charge + 1 * (x.blocks * v.block_len) = ends.loads.charge in
      omega (arith, less, all, old, step, length_is)
      in
      let held : ends.load.held ≡ pages_for times_held s.block_len s.pages x.client + buffers_for s.block_len live x.client =
      let old : (load_at v.loads x.client).held ≡ pages_for times_held s.block_len s.pages x.client + buffers_for s.block_len s.buffers x.client = ap (λ (l : Load). l.held) was in
      let step : (load_at v.loads x.client).held ≡ ends.load.held + 1 * (x.blocks * v.block_len) = ends.loads.held in
      omega (arith, less, all, old, step, length_is)
      in
      let count : ends.load.count ≡ pages_on s.pages x.client + buffers_on live x.client =
      let old : (load_at v.loads x.client).count ≡ pages_on s.pages x.client + buffers_on s.buffers x.client = ap (λ (l : Load). l.count) was in
      let step : (load_at v.loads x.client).count ≡ ends.load.count + 1 = ends.loads.count in
      omega (arith, one_less, one, old, step)
      in
      let stays : (c : ℕ) → x.client ≢ c → buffers_for s.block_len live c ≡ buffers_for s.block_len s.buffers c = λ c apart.
      let sum : buffers_for s.block_len live c + only_if (x.client == c) (bytes_of s.block_len x.blocks) ≡ buffers_for s.block_len s.buffers c = buffers_gone s.block_len s.buffers f x is c in
      let zero : only_if (x.client == c) (bytes_of s.block_len x.blocks) ≡ 0 = not_mine x.client c _ apart in
      omega (arith, sum, zero)
      in
      let count_stays : (c : ℕ) → x.client ≢ c → buffers_on live c ≡ buffers_on s.buffers c = λ c apart.
      let sum : buffers_on live c + only_if (x.client == c) 1 ≡ buffers_on s.buffers c = on_gone s.buffers f x c is in
      let zero : only_if (x.client == c) 1 ≡ 0 = not_mine x.client c 1 apart in
      omega (arith, sum, zero)
      in
      let free : ends.free ≡ memory s - (bytes_in (once is_in_memory) s.block_len s.pages + buffer_bytes s.block_len live) =
      let sum : buffer_bytes s.block_len live + bytes_of s.block_len x.blocks ≡ buffer_bytes s.block_len s.buffers = all_gone s.block_len s.buffers f x is in
      let old : v.free ≡ memory s - bytes_in_memory s = shows.free in
      let step : ends.free ≡ v.free + x.blocks * v.block_len = ends.frees in
      omega (arith, sum, old, step, length_is, fits)
      in
      subst (λ (u : Follower). Shows u (record s { buffers = live })) (sym ends.is)
      (with_buffers live (remove v.buffers f) ends.load ends.free (mirror_gone buffer_row s.buffers v.buffers shows.things.buffers f) (loads_with live ends.load charge held count stays count_stays) free)

-- a buffer of which a row is told ends
pub buffer_ended : (v w : Follower) (s : State) (f : ℕ) (row : BufferRow) → Shows v s → bytes_in_memory s ≤ memory s → get v.buffers f ≡ Some row → EndsBuffer v w f row → Shows w (record s { buffers = remove s.buffers f })
buffer_ended v w s f row shows fits live ends =
    let x : HasRow buffer_row (get s.buffers f) row = row_of buffer_row s.buffers v.buffers shows.things.buffers f row live in
    buffer_gone v w s f x.of shows fits x.lives (subst (EndsBuffer v w f) x.is ends)

-- a buffer comes where none was
pub buffer_came : (v w : Follower) (s : State) (f : ℕ) (x : Buffer) → Shows v s → get v.buffers f ≡ None → AddsBuffer v w f (buffer_row x) → Shows w (put_buffer f x s)
buffer_came v w s f x shows fresh adds = buffer_added v w s f x shows (none_of buffer_row s.buffers v.buffers shows.things.buffers f fresh) adds

-- what was removed is put again
put_over : {X : Type 0} (m : FinMap nat_cmp X) (k : ℕ) (y : X) → insert (remove m k) k y ≡ insert m k y
put_over m k y = alike _ _ (λ q. elim (same_or_other q k) [
  | inl here ↦ ap (get (insert (remove m k) k y)) here ∙ get_same (remove m k) k y ∙ sym (ap (get (insert m k y)) here ∙ get_same m k y)
  | inr other ↦ get_other (remove m k) k y q other ∙ removed_other m k q other ∙ sym (get_other m k y q other)
])

-- a buffer ends and comes again for another client
pub buffer_moved : (v mid w : Follower) (s : State) (f to : ℕ) (row : BufferRow) → Shows v s → bytes_in_memory s ≤ memory s → get v.buffers f ≡ Some row → EndsBuffer v mid f row
    → AddsBuffer mid w f (record { client = to; blocks = row.blocks }) → Shows w (put_buffer f (record (buffer_at s f) { client = to }) s)
buffer_moved v mid w s f to row shows fits live ends adds =
    let x : HasRow buffer_row (get s.buffers f) row = row_of buffer_row s.buffers v.buffers shows.things.buffers f row live in
    let y : Buffer = record { client = to; blocks = row.blocks } in
    let gone : Shows mid (record s { buffers = remove s.buffers f }) = buffer_ended v mid s f row shows fits live ends in
    let none : get mid.buffers f ≡ None = ap (λ (u : Follower). get u.buffers f) ends.is ∙ removed_same v.buffers f in
    let came : Shows w (record s { buffers = insert (remove s.buffers f) f y }) = buffer_came mid w (record s { buffers = remove s.buffers f }) f y gone none adds in
    let over : Shows w (record s { buffers = insert s.buffers f y }) = subst (λ (b : Buffers). Shows w (record s { buffers = b })) (put_over s.buffers f y) came in
    let at : buffer_at s f ≡ x.of = ap (λ (o : Option Buffer). unwrap_or o no_buffer) x.lives in
    let blocks : row.blocks ≡ (buffer_at s f).blocks = ap (λ (r : BufferRow). r.blocks) x.is ∙ sym (ap (λ (b : Buffer). b.blocks) at) in
    subst (λ (n : ℕ). Shows w (put_buffer f (record { client = to; blocks = n }) s)) blocks over

-- a page ends, and its blocks are a buffer
pub page_lent : (v mid w : Follower) (s : State) (p f : ℕ) (row : PageRow) → Shows v s → bytes_in_memory s ≤ memory s → get v.pages p ≡ Some row → get v.buffers f ≡ None → EndsPage v mid p row
    → AddsBuffer mid w f (record { client = row.client; blocks = row.blocks }) → Shows w (end_page p (put_buffer f (record { client = (page_at s p).client; blocks = (page_at s p).blocks }) s))
page_lent v mid w s p f row shows fits live fresh ends adds =
    let x : HasRow page_row (get s.pages p) row = row_of page_row s.pages v.pages shows.things.pages p row live in
    let y : Buffer = record { client = row.client; blocks = row.blocks } in
    let gone : Shows mid (end_page p s) = page_ended v mid s p row shows fits live ends in
    let none : get mid.buffers f ≡ None = ap (λ (u : Follower). get u.buffers f) ends.is ∙ fresh in
    let came : Shows w (put_buffer f y (end_page p s)) = buffer_came mid w (end_page p s) f y gone none adds in
    let at : page_at s p ≡ x.of = page_is s p x.of x.lives in
    let client : row.client ≡ (page_at s p).client = ap (λ (r : PageRow). r.client) x.is ∙ sym (ap (λ (b : Page). b.client) at) in
    let blocks : row.blocks ≡ (page_at s p).blocks = ap (λ (r : PageRow). r.blocks) x.is ∙ sym (ap (λ (b : Page). b.blocks) at) in
    subst (λ (n : ℕ). Shows w (end_page p (put_buffer f (record { client = (page_at s p).client; blocks = n }) s))) blocks
    (subst (λ (c : ℕ). Shows w (end_page p (put_buffer f (record { client = c; blocks = row.blocks }) s))) client came)
