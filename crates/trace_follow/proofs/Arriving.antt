-- A page comes: what the follower keeps gains it.
use Rattle.std.proofs.Common.{◌≡◌, ◌≢◌, ℕ, ◌+◌, ◌-◌, ◌*◌, ◌<◌, ◌==◌, Some, None, Option, refl, ap, sym, ◌∙◌, subst, arith, false, inl, inr}
use Rattle.std.specs.FinMap.{get, insert}
use Rattle.reservation_tree.specs.Total.{total, weight_at}
use Rattle.reservation_tree.proofs.Maps.{same_or_other}
use Rattle.reservation_tree.proofs.Sums.{total-insert}
use Rattle.pool_model.specs.Bytes.{bytes_of, only_if}
use Rattle.pool_model.specs.State.{Page, Pages, State}
use Rattle.pool_model.specs.State as model
use Rattle.pool_model.specs.Sums.{times_charged, times_held, is_in_memory, once, page_bytes, bytes_in, pages_for, buffers_for, buffer_bytes, bytes_in_memory, memory, slots_of}
use Rattle.pool_model.specs.Parts.{create_page}
use Rattle.pool_model.specs.Sound.{IsSound}
use Rattle.pool_model.proofs.Weights.{mine, not_mine, only_none}
use Rattle.trace_follow.specs.declared.rows.Load.{Load}
use Rattle.trace_follow.specs.declared.follower.Follower.{Follower}
use Rattle.trace_follow.specs.Rows.{page_row, pages_on, buffers_on, load_of, load_at}
use Rattle.trace_follow.specs.Showing.{Shows}
use Rattle.trace_follow.specs.Ending.{AddsPage}
use Rattle.trace_follow.proofs.Mirrored.{mirror_put}
use Rattle.trace_follow.proofs.Rooms.{bytes_are}
use Rattle.trace_follow.proofs.Places.{same_load, load_put, load_beside}

-- a name that is given next is nobody's
pub unnamed : (s : State) → IsSound s → (o : Option Page) → get s.pages s.next_name ≡ o → o ≡ None
unnamed s sound None is = refl
unnamed s sound (Some x) is = let low : s.next_name < s.next_name = sound.owned.names s.next_name x is in absurd (omega (arith, low))

module _ (v w : Follower) (s : State) (p maker client blocks key : ℕ) (shows : Shows v s) (none : get s.pages p ≡ None) where
  abbrev pub new_page : Page
  new_page = record { key = key; session = maker; client = client; blocks = blocks; place = model.Pinned 1; has_slots = false; version = 0 }

  abbrev pub live : Pages
  live = insert s.pages p new_page

  length_is : blocks * v.block_len ≡ bytes_of s.block_len blocks
  length_is = ap (λ (n : ℕ). blocks * n) shows.block_len ∙ sym (bytes_are s.block_len blocks)

  bytes_added : (times : model.Place → ℕ) → times (model.Pinned 1) ≡ 1 → (t : ℕ) → pages_for times s.block_len live t ≡ pages_for times s.block_len s.pages t + only_if (client == t) (bytes_of s.block_len blocks)
  unfolding pages_for
  bytes_added times one t =
      let weight : ℕ → Page → ℕ = λ _ z. only_if (z.client == t) (page_bytes times s.block_len z) in
      let sum : total weight live + weight_at weight p (get s.pages p) ≡ total weight s.pages + weight p new_page = total-insert weight s.pages p new_page in
      let old : weight_at weight p (get s.pages p) ≡ 0 = ap (weight_at weight p) none in
      let once_its : times (model.Pinned 1) * bytes_of s.block_len blocks ≡ bytes_of s.block_len blocks = ap (λ (n : ℕ). n * bytes_of s.block_len blocks) one ∙ omega arith in
      let its : weight p new_page ≡ only_if (client == t) (bytes_of s.block_len blocks) = ap (only_if (client == t)) once_its in
      omega (arith, sum, old, its)

  on_added : (t : ℕ) → pages_on live t ≡ pages_on s.pages t + only_if (client == t) 1
  unfolding pages_on
  on_added t =
      let weight : ℕ → Page → ℕ = λ _ z. only_if (z.client == t) 1 in
      let sum : total weight live + weight_at weight p (get s.pages p) ≡ total weight s.pages + weight p new_page = total-insert weight s.pages p new_page in
      let old : weight_at weight p (get s.pages p) ≡ 0 = ap (weight_at weight p) none in
      omega (arith, sum, old)

  slots_stay : (m : ℕ) → slots_of live m ≡ slots_of s.pages m
  unfolding slots_of
  slots_stay m =
      let weight : ℕ → Page → ℕ = λ _ z. only_if (z.session == m) (only_if z.has_slots z.blocks) in
      let sum : total weight live + weight_at weight p (get s.pages p) ≡ total weight s.pages + weight p new_page = total-insert weight s.pages p new_page in
      let old : weight_at weight p (get s.pages p) ≡ 0 = ap (weight_at weight p) none in
      let its : weight p new_page ≡ 0 = only_none (maker == m) in
      omega (arith, sum, old, its)

  all_added : bytes_in (once is_in_memory) s.block_len live ≡ bytes_in (once is_in_memory) s.block_len s.pages + bytes_of s.block_len blocks
  unfolding bytes_in
  all_added =
      let weight : ℕ → Page → ℕ = λ _ z. page_bytes (once is_in_memory) s.block_len z in
      let sum : total weight live + weight_at weight p (get s.pages p) ≡ total weight s.pages + weight p new_page = total-insert weight s.pages p new_page in
      let old : weight_at weight p (get s.pages p) ≡ 0 = ap (weight_at weight p) none in
      let its : weight p new_page ≡ bytes_of s.block_len blocks = omega arith in
      omega (arith, sum, old, its)

  module _ (adds : AddsPage v w p (page_row new_page)) where
    amount : (times : model.Place → ℕ) → times (model.Pinned 1) ≡ 1 → (before after : ℕ) → after ≡ before + 1 * (blocks * v.block_len) → before ≡ pages_for times s.block_len s.pages client + buffers_for s.block_len s.buffers client
        → after ≡ pages_for times s.block_len live client + buffers_for s.block_len s.buffers client
    amount times one before after step was =
        let sum : pages_for times s.block_len live client ≡ pages_for times s.block_len s.pages client + only_if (client == client) (bytes_of s.block_len blocks) = bytes_added times one client in
        let all : only_if (client == client) (bytes_of s.block_len blocks) ≡ bytes_of s.block_len blocks = mine client _ in
        omega (arith, sum, all, step, was, length_is)

    others_stay : (times : model.Place → ℕ) → times (model.Pinned 1) ≡ 1 → (c : ℕ) → client ≢ c → pages_for times s.block_len live c ≡ pages_for times s.block_len s.pages c
    others_stay times one c apart =
        let sum : pages_for times s.block_len live c ≡ pages_for times s.block_len s.pages c + only_if (client == c) (bytes_of s.block_len blocks) = bytes_added times one c in
        let zero : only_if (client == c) (bytes_of s.block_len blocks) ≡ 0 = not_mine client c _ apart in
        omega (arith, sum, zero)

    loads_added : (c : ℕ) → load_at (insert v.loads client adds.load) c ≡ load_of s.block_len live s.buffers c
    loads_added c = elim (same_or_other c client) [
      | inl here ↦
          let was : load_at v.loads client ≡ load_of s.block_len s.pages s.buffers client = shows.things.loads client in
          let count_was : (load_at v.loads client).count ≡ pages_on s.pages client + buffers_on s.buffers client = ap (λ (l : Load). l.count) was in
          let count_now : adds.load.count ≡ (load_at v.loads client).count + 1 = adds.loads.count in
          let sum : pages_on live client ≡ pages_on s.pages client + only_if (client == client) 1 = on_added client in
          let one : only_if (client == client) 1 ≡ 1 = mine client 1 in
          ap (load_at (insert v.loads client adds.load)) here ∙ load_put v client adds.load
          ∙ same_load adds.load (load_of s.block_len live s.buffers client)
          (amount times_charged refl (load_at v.loads client).charge adds.load.charge adds.loads.charge (ap (λ (l : Load). l.charge) was))
          (amount times_held refl (load_at v.loads client).held adds.load.held adds.loads.held (ap (λ (l : Load). l.held) was))
          (omega (arith, count_was, count_now, sum, one)) ∙ ap (load_of s.block_len live s.buffers) (sym here)
      | inr other ↦
          let apart : client ≢ c = λ same. other (sym same) in
          let sum : pages_on live c ≡ pages_on s.pages c + only_if (client == c) 1 = on_added c in
          let zero : only_if (client == c) 1 ≡ 0 = not_mine client c 1 apart in
          let stays : pages_on s.pages c ≡ pages_on live c = omega (arith, sum, zero) in
          load_beside v client adds.load c other ∙ shows.things.loads c
          ∙ same_load (load_of s.block_len s.pages s.buffers c) (load_of s.block_len live s.buffers c)
          (ap (λ (n : ℕ). n + buffers_for s.block_len s.buffers c) (sym (others_stay times_charged refl c apart)))
          (ap (λ (n : ℕ). n + buffers_for s.block_len s.buffers c) (sym (others_stay times_held refl c apart)))
          (ap (λ (n : ℕ). n + buffers_on s.buffers c) stays)
    ]

    free_taken : adds.free ≡ memory s - (bytes_in (once is_in_memory) s.block_len live + buffer_bytes s.block_len s.buffers)
    free_taken =
        let was : v.free ≡ memory s - bytes_in_memory s = shows.free in
        let step : adds.free + blocks * v.block_len ≡ v.free = adds.takes in
        omega (arith, all_added, was, step, length_is)

    -- and the next name is the one behind
    pub page_came : (next : ℕ) → next ≡ s.next_name + 1 → Shows (record w { next_name = next }) (create_page maker p client blocks key s)
    page_came next is =
        let new : Follower = record v { pages = insert v.pages p (page_row new_page); loads = insert v.loads client adds.load; free = adds.free; next_name = next } in
        let came : Shows new (create_page maker p client blocks key s) = record {
          block_len = shows.block_len;
          trackers = shows.trackers;
          sessions = shows.sessions;
          things = record {
            pages = mirror_put page_row s.pages v.pages shows.things.pages p new_page (page_row new_page) refl;
            buffers = shows.things.buffers;
            loads = loads_added;
            lent = λ m. shows.things.lent m ∙ sym (slots_stay m);
          };
          free = free_taken;
          queues = record {
            dirty_names = shows.queues.dirty_names;
            clean_names = shows.queues.clean_names;
            dirty_stamped = shows.queues.dirty_stamped;
            clean_stamped = shows.queues.clean_stamped;
            earlier = shows.queues.earlier;
            own = shows.queues.own;
          };
          next_name = is;
          entries = shows.entries;
          few = shows.few;
        } in
        subst (λ (u : Follower). Shows (record u { next_name = next }) (create_page maker p client blocks key s)) (sym adds.is) came
