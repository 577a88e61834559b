-- A page goes: all that follows.
use Rattle.std.proofs.Common.{◌≡◌, ℕ, ◌+◌, ◌*◌, ◌==◌, List, [], ◌∷◌, ◌++◌, length, Some, ap, sym, ◌∙◌, subst, arith}
use Rattle.std.specs.FinMap.{get, remove}
use Rattle.std.specs.List.{sum_by}
use Rattle.reservation_tree.specs.Total.{total}
use Rattle.reservation_tree.proofs.Sums.{total-remove}
use Rattle.reservation_tree.specs.Tree.{charge_of as charge_in}
use Rattle.outside.specs.declared.slot.Slot.{Ghosts}
use Rattle.page_table.specs.declared.entry.Entry.{Entry}
use Rattle.page_table.specs.Pages.{Pages as Table, IsProper}
use Rattle.scratch_dev.specs.Pool.{quota_of}
use Rattle.pool_model.specs.declared.entry.Entry.{Entry as Event}
use Rattle.pool_model.specs.Bytes.{bytes_of, only_if}
use Rattle.pool_model.specs.State.{Opening, Page, Pages}
use Rattle.pool_model.specs.Sums.{times_charged, is_in_memory, once, charge_of, pages_for, buffers_for, bytes_in, buffer_bytes, bytes_in_memory, memory, slots_of}
use Rattle.pool_model.specs.MayFollow.{MayFollow}
use Rattle.pool_model.specs.Effects.{after}
use Rattle.pool_model.specs.LookingBack.{left_in, content_of}
use Rattle.pool_model.specs.HistoryLaws.{made}
use Rattle.pool_model.proofs.PageSums.{pages_gone, bytes_gone}
use Rattle.pin_core.specs.declared.kept.Kept.{Kept}
use Rattle.pin_core.specs.declared.parts.Parts.{Parts}
use Rattle.pin_core.specs.parts.Keeping.{has_slots, row_in}
use Rattle.pin_core.specs.StateOf.{page_of, pages_in, place_in, buffers_in, state_of}
use Rattle.pin_core.specs.Invariant.{HasHistory, IsQuota, IsSized, AreSeated, AreLent, IsKept, slots_in}
use Rattle.pin_core.specs.Standing.{Holds, StandsFor, slots_home}
use Rattle.pin_core.specs.Marking.{Form, form_of}
use Rattle.pin_core.proofs.Histories.{GrewBy, grew, history_grows, content_grows}
use Rattle.pin_core.proofs.Stands.{was_made}
use Rattle.pin_core.proofs.Without.{Goes, gone_placed, gone_stray, gone_pages, page_gone, page_before}

pub slots_gone : (pages : Pages) (p : ℕ) (x : Page) → get pages p ≡ Some x → (q : ℕ)
    → slots_of (remove pages p) q + only_if (x.session == q) (only_if x.has_slots x.blocks) ≡ slots_of pages q
unfolding slots_of
slots_gone pages p x is q = total-remove (λ _ z. only_if (z.session == q) (only_if z.has_slots z.blocks)) pages p (Some x) is

all_slots_gone : (pages : Pages) (p : ℕ) (x : Page) → get pages p ≡ Some x → slots_in (remove pages p) + only_if x.has_slots x.blocks ≡ slots_in pages
all_slots_gone pages p x is = total-remove (λ _ z. only_if z.has_slots z.blocks) pages p (Some x) is

module _ {D : Type 0} where
  -- what the page had is no more counted with the pages, but with the buffers, or it is free
  pub record Releases (len : ℕ) (x : Entry (Kept D)) (v new : Parts D) : Type 0 where
    pub arena_blocks : new.arena.blocks ≡ v.arena.blocks
    pub charge : (t : ℕ) → charge_in new.tree t + (only_if (x.client == t) (times_charged (place_in x.place) * bytes_of len x.blocks) + buffers_for len (buffers_in v.buffers) t)
        ≡ charge_in v.tree t + buffers_for len (buffers_in new.buffers) t
    pub free : bytes_of len new.arena.free + buffer_bytes len (buffers_in new.buffers)
        ≡ bytes_of len v.arena.free + (once is_in_memory (place_in x.place) * bytes_of len x.blocks + buffer_bytes len (buffers_in v.buffers))
    pub stock : length new.slots.free ≡ length v.slots.free + only_if (has_slots x.scratch) x.blocks

  -- the page's end is the one that this entry tells
  pub record Ends (key name : ℕ) (x : Entry (Kept D)) (v new : Parts D) (e : Event) : Type 0 where
    pub goes : Goes key name x v new
    pub releases : Releases v.arena.block_len x v new
    pub quotas : (q : ℕ) → IsQuota (get (state_of new).sessions q) (quota_of new.slots q) (slots_of (pages_in new.pages) q)
    pub seated : AreSeated new
    pub lent : AreLent new
    pub sized : IsSized new
    pub state : state_of new ≡ after (state_of v) e
    pub may : (h : List Event) → MayFollow h (state_of v) e

  module _ (key name : ℕ) (x : Entry (Kept D)) (v new : Parts D) (e : Event) (is_kept : IsKept v) (proper : IsProper v.pages) (ends : Ends key name x v new e) where
    abbrev len : ℕ
    len = v.arena.block_len

    abbrev left : Pages
    left = remove (pages_in v.pages) name

    pages : pages_in new.pages ≡ left
    pages = gone_pages key name x v new ends.goes proper

    was : get (pages_in v.pages) name ≡ Some (page_of v.pages name x)
    was = page_gone key name x v new ends.goes proper

    charges_then : (t : ℕ) → charge_in new.tree t ≡ charge_of (state_of new) t
    charges_then t =
        let sum = pages_gone times_charged len (pages_in v.pages) name (page_of v.pages name x) was t in
        let before : charge_in v.tree t ≡ pages_for times_charged len (pages_in v.pages) t + buffers_for len (buffers_in v.buffers) t = is_kept.counted.charges t in
        let change = ends.releases.charge t in
        let here : charge_in new.tree t ≡ pages_for times_charged len left t + buffers_for len (buffers_in new.buffers) t = omega (arith, sum, before, change) in
        here ∙ (λ i. pages_for times_charged (sym ends.goes.block_len i) (sym pages i) t + buffers_for (sym ends.goes.block_len i) (buffers_in new.buffers) t)

    free_then : bytes_of new.arena.block_len new.arena.free + bytes_in_memory (state_of new) ≡ memory (state_of new)
    free_then =
        let sum = bytes_gone (once is_in_memory) len (pages_in v.pages) name (page_of v.pages name x) was in
        let before = is_kept.counted.free in
        let change = ends.releases.free in
        let here : bytes_of len new.arena.free + (bytes_in (once is_in_memory) len left + buffer_bytes len (buffers_in new.buffers)) ≡ bytes_of len v.arena.blocks = omega (arith, sum, before, change) in
        (λ i. bytes_of (ends.goes.block_len i) new.arena.free + (bytes_in (once is_in_memory) (ends.goes.block_len i) (pages i) + buffer_bytes (ends.goes.block_len i) (buffers_in new.buffers)))
        ∙ here ∙ (λ i. bytes_of (sym ends.goes.block_len i) (sym ends.releases.arena_blocks i))

    room_then : new.arena.blocks + (length new.slots.free + slots_in (pages_in new.pages)) ≡ new.pages.room
    room_then =
        let sum = all_slots_gone (pages_in v.pages) name (page_of v.pages name x) was in
        let before = is_kept.counted.room in
        let change = ends.releases.stock in
        let blocks = ends.releases.arena_blocks in
        let same : slots_in (pages_in new.pages) ≡ slots_in left = ap (λ (m : Pages). slots_in m) pages in
        let here : new.arena.blocks + (length new.slots.free + slots_in (pages_in new.pages)) ≡ v.pages.room = omega (arith, sum, before, change, blocks, same) in
        here ∙ ap (λ (t : Table (Entry (Kept D))). t.room) (sym ends.goes.pages)

    pub ended_kept : IsKept new
    ended_kept = record {
      legal = subst HasHistory (sym ends.state) (history_grows (state_of v) e is_kept.legal ends.may);
      placed = gone_placed key name x v new ends.goes proper is_kept.placed;
      stray = gone_stray key name x v new ends.goes proper is_kept.stray;
      counted = record { charges = charges_then; free = free_then; quotas = ends.quotas; room = room_then };
      seated = ends.seated;
      lent = ends.lent;
      sized = ends.sized;
    }

    pub ended_stands : ((q : ℕ) (old : List ℕ) → left_in q e.event old ≡ old) → (slot : Ghosts D) (o : Opening) (h : List Event) → StandsFor slot o h v → StandsFor slot o (h ++ e ∷ []) new
    ended_stands leaves slot o h stands =
        let more : GrewBy o h (state_of v) e = grew o h (state_of v) e stands.legal stands.state (ends.may h) in
        record {
          legal = more.legal;
          state = ends.state ∙ more.state;
          holds = λ q page there.
              let before = page_before key name x v new ends.goes proper q page there in
              let bytes : content_of o (h ++ e ∷ []) q ≡ content_of o h q = content_grows o h e q (made (page_of v.pages q page)) (was_made slot o h v stands q page before) ∙ leaves q (content_of o h q) in
              subst (λ (f : Form). Holds slot f q (content_of o (h ++ e ∷ []) q) page) (sym ends.goes.form)
              (subst (λ (b : List ℕ). Holds slot (form_of v) q b page) (sym bytes) (stands.holds q page before));
        }

    -- the slots at home change by those of this page, and by those that are free
    pub ended_slots : (measure : D → ℕ) → slots_home measure new + (sum_by measure (row_in x.scratch) + sum_by measure v.slots.free)
        ≡ slots_home measure v + sum_by measure new.slots.free
    ended_slots measure =
        let weigh : ℕ → Entry (Kept D) → ℕ = λ _ page. sum_by measure (row_in page.scratch) in
        let sum : total weigh (remove v.pages.entries name) + weigh name x ≡ total weigh v.pages.entries = total-remove weigh v.pages.entries name (Some x) ends.goes.there in
        let same : total weigh new.pages.entries ≡ total weigh (remove v.pages.entries name) = ap (λ t. total weigh t.entries) ends.goes.pages in
        omega (arith, sum, same)
