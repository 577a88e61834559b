-- A page is left by its only pin: it has slots, is dirty, and waits as the newest of its client's.
use Rattle.std.proofs.Common.{◌≡◌, ◌≢◌, ℕ, ◌+◌, ◌-◌, ◌<◌, ◌≤◌, ◌^◌, ◌==◌, true, Some, option_map, refl, ap, sym, ◌∙◌, subst, arith, List, [], ◌∷◌, ◌++◌, inl, inr}
use Rattle.std.specs.Ordering.{nat_cmp}
use Rattle.std.specs.FinMap.{FinMap, get, insert}
use Rattle.reservation_tree.specs.Total.{total, weight_at}
use Rattle.reservation_tree.proofs.Maps.{get_same, get_other, same_or_other, alike}
use Rattle.reservation_tree.proofs.Sums.{total-insert}
use Rattle.pool_model.specs.Bytes.{only_if}
use Rattle.pool_model.specs.declared.entry.Entry.{Entry}
use Rattle.pool_model.specs.State.{Opening, Page, Pages, page_at, State, dirty_of}
use Rattle.pool_model.specs.State as model
use Rattle.pool_model.specs.Sums.{times_charged, times_held, is_clean, is_in_memory, once, page_bytes, bytes_in, pages_for, buffers_for, buffer_bytes, bytes_in_memory, memory, slots_of}
use Rattle.pool_model.specs.Parts.{put_in, give_slots, queue_dirty}
use Rattle.pool_model.specs.Effects.{count_entry}
use Rattle.pool_model.specs.Legal.{state_after}
use Rattle.pool_model.specs.Orders.{is_dirty}
use Rattle.pool_model.specs.Sound.{IsSound}
use Rattle.pool_model.proofs.Weights.{mine, not_mine}
use Rattle.pool_model.proofs.PageSums.{pages_put, bytes_put}
use Rattle.pool_model.proofs.Pages.{page_is}
use Rattle.trace_follow.specs.declared.rows.Asked.{Asked}
use Rattle.trace_follow.specs.declared.rows.Place.TheVariants as spot
use Rattle.trace_follow.specs.declared.rows.PageRow.{PageRow}
use Rattle.trace_follow.specs.declared.follower.Follower.{Follower}
use Rattle.trace_follow.specs.Tables.{amount_at}
use Rattle.trace_follow.specs.Rows.{page_row, pages_on, buffers_on, load_of}
use Rattle.trace_follow.specs.Showing.{Shows}
use Rattle.trace_follow.specs.Following.{StandsFor}
use Rattle.trace_follow.specs.Moving.{Moves}
use Rattle.trace_follow.specs.Waiting.{QueuesDirty}
use Rattle.trace_follow.specs.Unpinning.{LendsSlots}
use Rattle.trace_follow.proofs.Mirrored.{HasRow, row_of, mirror_put}
use Rattle.trace_follow.proofs.Standing.{SameReads}
use Rattle.trace_follow.proofs.Places.{same_load, placed}
use Rattle.trace_follow.proofs.Ending.{amount_put, amount_beside}
use Rattle.trace_follow.proofs.Pushing.{IsUnwaited, pushed_dirty}
use Rattle.trace_follow.proofs.Pushed.{unwaited_after}

module _ (pages : Pages) (p : ℕ) (x : Page) (is : get pages p ≡ Some x) where
  abbrev pub with_slots : Page
  with_slots = record x { has_slots = true }

  on_same : (c : ℕ) → pages_on (insert pages p with_slots) c ≡ pages_on pages c
  unfolding pages_on
  on_same c =
      let w : ℕ → Page → ℕ = λ _ z. only_if (z.client == c) 1 in
      let sum : total w (insert pages p with_slots) + weight_at w p (get pages p) ≡ total w pages + w p with_slots = total-insert w pages p with_slots in
      let old : weight_at w p (get pages p) ≡ w p x = ap (weight_at w p) is in
      omega (arith, sum, old)

  slots_more : (m : ℕ) → slots_of (insert pages p with_slots) m + only_if (x.session == m) (only_if x.has_slots x.blocks) ≡ slots_of pages m + only_if (x.session == m) x.blocks
  unfolding slots_of
  slots_more m =
      let w : ℕ → Page → ℕ = λ _ z. only_if (z.session == m) (only_if z.has_slots z.blocks) in
      let sum : total w (insert pages p with_slots) + weight_at w p (get pages p) ≡ total w pages + w p with_slots = total-insert w pages p with_slots in
      let old : weight_at w p (get pages p) ≡ w p x = ap (weight_at w p) is in
      omega (arith, sum, old)

  for_same : (times : model.Place → ℕ) (block_len c : ℕ) → pages_for times block_len (insert pages p with_slots) c ≡ pages_for times block_len pages c
  for_same times block_len c =
      let sum : pages_for times block_len (insert pages p with_slots) c + only_if (x.client == c) (page_bytes times block_len x)
      ≡ pages_for times block_len pages c + only_if (x.client == c) (page_bytes times block_len x) = pages_put times block_len pages p x is with_slots c in
      omega (arith, sum)

  in_same : (block_len : ℕ) → bytes_in (once is_in_memory) block_len (insert pages p with_slots) ≡ bytes_in (once is_in_memory) block_len pages
  in_same block_len =
      let sum : bytes_in (once is_in_memory) block_len (insert pages p with_slots) + page_bytes (once is_in_memory) block_len x
      ≡ bytes_in (once is_in_memory) block_len pages + page_bytes (once is_in_memory) block_len x = bytes_put (once is_in_memory) block_len pages p x is with_slots in
      omega (arith, sum)

-- the page has slots, in its row and in those of its session
-- the page has slots from now on
record GivesSlots (old new : Follower) (p : ℕ) (row : PageRow) : Type 0 where
  lent : ℕ
  is : new ≡ record old { pages = insert old.pages p (record row { has_slots = true }); lent = insert old.lent row.session lent }
  slots : lent + only_if row.has_slots row.blocks ≡ amount_at old.lent row.session + row.blocks

-- of two rows that are put one after the other the second stands
put_twice : (rows : FinMap nat_cmp PageRow) (p : ℕ) (x y : PageRow) → insert (insert rows p x) p y ≡ insert rows p y
put_twice rows p x y = alike _ _ (λ q. elim (same_or_other q p) [
  | inl here ↦ ap (get (insert (insert rows p x) p y)) here ∙ get_same (insert rows p x) p y ∙ sym (get_same rows p y) ∙ ap (get (insert rows p y)) (sym here)
  | inr other ↦ get_other (insert rows p x) p y q other ∙ get_other rows p x q other ∙ sym (get_other rows p y q other)
])

slots_given : (v w : Follower) (s : State) (p : ℕ) (x : Page) → Shows v s → get s.pages p ≡ Some x → GivesSlots v w p (page_row x) → Shows w (record s { pages = insert s.pages p (record x { has_slots = true }) })
slots_given v w s p x shows is gives =
    let y : Page = record x { has_slots = true } in
    let live : Pages = insert s.pages p y in
    let new : Follower = record v { pages = insert v.pages p (page_row y); lent = insert v.lent x.session gives.lent } in
    let lent : (m : ℕ) → amount_at (insert v.lent x.session gives.lent) m ≡ slots_of live m = λ m. elim (same_or_other m x.session) [
      | inl here ↦
          let was : amount_at v.lent x.session ≡ slots_of s.pages x.session = shows.things.lent x.session in
          let step : gives.lent + only_if x.has_slots x.blocks ≡ amount_at v.lent x.session + x.blocks = gives.slots in
          let sum : slots_of live x.session + only_if (x.session == x.session) (only_if x.has_slots x.blocks) ≡ slots_of s.pages x.session + only_if (x.session == x.session) x.blocks = slots_more s.pages p x is x.session in
          let old : only_if (x.session == x.session) (only_if x.has_slots x.blocks) ≡ only_if x.has_slots x.blocks = mine x.session _ in
          let all : only_if (x.session == x.session) x.blocks ≡ x.blocks = mine x.session _ in
          let now : gives.lent ≡ slots_of live x.session = omega (arith, was, step, sum, old, all) in
          ap (amount_at (insert v.lent x.session gives.lent)) here ∙ amount_put v.lent x.session gives.lent ∙ now ∙ ap (slots_of live) (sym here)
      | inr other ↦
          let apart : x.session ≢ m = λ same. other (sym same) in
          let sum : slots_of live m + only_if (x.session == m) (only_if x.has_slots x.blocks) ≡ slots_of s.pages m + only_if (x.session == m) x.blocks = slots_more s.pages p x is m in
          let old : only_if (x.session == m) (only_if x.has_slots x.blocks) ≡ 0 = not_mine x.session m _ apart in
          let all : only_if (x.session == m) x.blocks ≡ 0 = not_mine x.session m _ apart in
          let now : slots_of s.pages m ≡ slots_of live m = omega (arith, sum, old, all) in
          amount_beside v.lent x.session gives.lent m other ∙ shows.things.lent m ∙ now
    ] in
    let given : Shows new (record s { pages = live }) = record {
      block_len = shows.block_len;
      trackers = shows.trackers;
      sessions = shows.sessions;
      things = record {
        pages = mirror_put page_row s.pages v.pages shows.things.pages p y (page_row y) refl;
        buffers = shows.things.buffers;
        loads = λ c.
            shows.things.loads c
            ∙ same_load (load_of s.block_len s.pages s.buffers c) (load_of s.block_len live s.buffers c)
            (ap (λ (n : ℕ). n + buffers_for s.block_len s.buffers c) (sym (for_same s.pages p x is times_charged s.block_len c)))
            (ap (λ (n : ℕ). n + buffers_for s.block_len s.buffers c) (sym (for_same s.pages p x is times_held s.block_len c)))
            (ap (λ (n : ℕ). n + buffers_on s.buffers c) (sym (on_same s.pages p x is c)));
        lent = lent;
      };
      free = shows.free ∙ ap (λ (n : ℕ). memory s - (n + buffer_bytes s.block_len s.buffers)) (sym (in_same s.pages p x is s.block_len));
      queues = record {
        dirty_names = shows.queues.dirty_names;
        clean_names = shows.queues.clean_names;
        dirty_stamped = shows.queues.dirty_stamped;
        clean_stamped = shows.queues.clean_stamped;
        earlier = shows.queues.earlier;
        own = shows.queues.own;
      };
      next_name = shows.next_name;
      entries = shows.entries;
      few = shows.few;
    } in
    subst (λ (u : Follower). Shows u (record s { pages = live })) (sym gives.is) given

module _ (old lends mid new : Follower) (p : ℕ) (row : PageRow) (live : get old.pages p ≡ Some row) (slots : LendsSlots old lends row)
    (goes : Moves lends mid p row (record row { has_slots = true; place = spot.Dirty })) (queues : QueuesDirty mid new row.client p) where
  -- as if the page had its slots before it goes
  abbrev lent : Follower
  lent = record lends { pages = insert old.pages p (record row { has_slots = true }) }

  gives : GivesSlots old lent p row
  gives = record {
    lent = slots.lent;
    is = ap (λ (u : Follower). record u { pages = insert old.pages p (record row { has_slots = true }) }) slots.is;
    slots = slots.slots;
  }

  moves : Moves lent mid p (record row { has_slots = true }) (record row { has_slots = true; place = spot.Dirty })
  moves =
      let to : PageRow = record row { has_slots = true; place = spot.Dirty } in
      let rows : insert lends.pages p to ≡ insert lent.pages p to = ap (λ (u : Follower). insert u.pages p to) slots.is ∙ sym (put_twice old.pages p (record row { has_slots = true }) to) in
      record {
        load = goes.load;
        free = goes.free;
        is = goes.is ∙ ap (λ (pages : FinMap nat_cmp PageRow). record lends { pages = pages; loads = insert lends.loads row.client goes.load; free = goes.free }) rows;
        loads = goes.loads;
        frees = goes.frees;
      }

  pub unpin_entries : new.entries ≡ old.entries
  unpin_entries = ap (λ (u : Follower). u.entries) queues.is ∙ ap (λ (u : Follower). u.entries) moves.is ∙ ap (λ (u : Follower). u.entries) gives.is

  pub unpin_reads : SameReads old.asked new.asked
  unpin_reads maker =
      ap (λ (u : Follower). option_map (λ (x : Asked). x.reads) (get u.asked maker)) queues.is ∙ ap (λ (u : Follower). option_map (λ (x : Asked). x.reads) (get u.asked maker)) moves.is
      ∙ ap (λ (u : Follower). option_map (λ (x : Asked). x.reads) (get u.asked maker)) gives.is

  pub unpin_shown : (o : Opening) (h : List Entry) (x : Page) → StandsFor old o h → IsSound (state_after o h) → get (state_after o h).pages p ≡ Some x → x.place ≡ model.Pinned 1 → new.entries + 1 < 2 ^ 64
      → Shows (record new { entries = new.entries + 1 }) (count_entry (put_in model.Dirty p (give_slots p (queue_dirty p (state_after o h)))))
  unpin_shown o h x stands sound lives pinned few =
      let s : State = state_after o h in
      let its : HasRow page_row (get s.pages p) row = row_of page_row s.pages old.pages stands.shows.things.pages p row live in
      let at : page_at s p ≡ its.of = page_is s p its.of its.lives in
      let with : Shows lent (give_slots p s) =
      subst (λ (y : Page). Shows lent (record s { pages = insert s.pages p (record y { has_slots = true }) })) (sym at)
      (slots_given old lent s p its.of stands.shows its.lives (subst (GivesSlots old lent p) its.is gives)) in
      let fits : bytes_in_memory (give_slots p s) ≤ memory (give_slots p s) =
      let kept : bytes_in (once is_in_memory) s.block_len (insert s.pages p (record (page_at s p) { has_slots = true })) ≡ bytes_in (once is_in_memory) s.block_len s.pages =
      subst (λ (y : Page). bytes_in (once is_in_memory) s.block_len (insert s.pages p (record y { has_slots = true })) ≡ bytes_in (once is_in_memory) s.block_len s.pages) (sym at) (in_same s.pages p its.of its.lives s.block_len) in
      let was : bytes_in_memory s ≤ memory s = sound.within.memory in
      omega (arith, kept, was)
      in
      let there : get lent.pages p ≡ Some (record row { has_slots = true }) = ap (λ (u : Follower). get u.pages p) gives.is ∙ get_same old.pages p (record row { has_slots = true }) in
      let dirty : Shows mid (put_in model.Dirty p (give_slots p s)) = placed lent mid (give_slots p s) p (record row { has_slots = true }) with fits there spot.Dirty model.Dirty refl moves in
      let none : IsUnwaited s p = unwaited_after o h p x stands.legal lives (ap is_dirty pinned) (ap is_clean pinned) in
      let client : row.client ≡ (page_at s p).client = ap (λ (r : PageRow). r.client) its.is ∙ sym (ap (λ (y : Page). y.client) at) in
      subst (λ (c : ℕ). Shows (record new { entries = new.entries + 1 }) (count_entry (put_in model.Dirty p (give_slots p (record s { dirty = insert s.dirty c (dirty_of s c ++ p ∷ []) }))))) client
      (pushed_dirty mid (put_in model.Dirty p (give_slots p s)) p dirty (record { dirty = none.dirty; clean = none.clean }) new row.client queues few)
