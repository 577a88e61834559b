-- No more pages and buffers are live than there is room for.
use Rattle.std.proofs.Common.{◌≡◌, ℕ, ◌+◌, ◌*◌, ◌<◌, ◌≤◌, Bool, true, false, Some, ap, sym, ◌∙◌, arith, one-mul, zero-mul}
use Rattle.std.specs.FinMap.{get, len}
use Rattle.std.proofs.lemmas.Bool.{false≢true}
use Rattle.reservation_tree.specs.Total.{total}
use Rattle.reservation_tree.proofs.Maps.{is_there}
use Rattle.reservation_tree.proofs.Sums.{total-le, total-same, total-one, total-plus, weight-le-total}
use Rattle.page_table.specs.declared.entry.Entry.{Entry}
use Rattle.page_table.specs.declared.entry.Place.{Place as Spot}
use Rattle.page_table.specs.declared.entry.Place.TheVariants as spot
use Rattle.page_table.specs.Pages.{HasRoom as HasPageRoom}
use Rattle.buffer_transfer.specs.Buffers.{HasRoom as HasBufferRoom}
use Rattle.pool_model.specs.Bytes.{bytes_of, only_if}
use Rattle.pool_model.specs.State.{Page, Pages, Buffer, Buffers}
use Rattle.pool_model.specs.Sums.{is_in_memory, once, bytes_in, buffer_bytes}
use Rattle.pin_core.specs.declared.kept.Kept.{Kept}
use Rattle.pin_core.specs.declared.kept.Kept.TheVariants as kept
use Rattle.pin_core.specs.declared.parts.Parts.{Parts}
use Rattle.pin_core.specs.parts.Keeping.{has_slots}
use Rattle.pin_core.specs.StateOf.{page_of, pages_in, place_in, buffers_in}
use Rattle.pin_core.specs.Invariant.{IsPlaced, IsKept, IsKeptOf, slots_in}
use Rattle.pin_core.specs.Lawful.{Lawful}
use Rattle.pin_core.proofs.Listed.{bytes_plus, bytes_le}
use Rattle.pin_core.proofs.Totals.{total_mapped, total_bytes}

-- bytes as often as they count
pub times_bytes : (len blocks : ℕ) (b : Bool) → bytes_of len (only_if b 1 * blocks) ≡ only_if b 1 * bytes_of len blocks
unfolding bytes_of
times_bytes len blocks true = ap (λ (n : ℕ). n * len) (one-mul blocks) ∙ sym (one-mul (blocks * len))
times_bytes len blocks false = ap (λ (n : ℕ). n * len) (zero-mul blocks) ∙ zero-mul len ∙ sym (zero-mul (blocks * len))

-- the blocks of the pages in memory, and those of the buffers
pub memory_blocks : Pages → ℕ
memory_blocks pages = total (λ _ x. once is_in_memory x.place * x.blocks) pages

pub lent_blocks : Buffers → ℕ
lent_blocks buffers = total (λ _ x. x.blocks) buffers

memory_bytes : (len : ℕ) (pages : Pages) → bytes_in (once is_in_memory) len pages ≡ bytes_of len (memory_blocks pages)
unfolding bytes_in memory_blocks
memory_bytes len pages =
    total-same (λ _ x. once is_in_memory x.place * bytes_of len x.blocks) (λ _ x. bytes_of len (once is_in_memory x.place * x.blocks)) pages (λ p x is. sym (times_bytes len x.blocks (is_in_memory x.place)))
    ∙ total_bytes len (λ _ x. once is_in_memory x.place * x.blocks) pages

lent_bytes : (len : ℕ) (buffers : Buffers) → buffer_bytes len buffers ≡ bytes_of len (lent_blocks buffers)
unfolding buffer_bytes lent_blocks
lent_bytes len buffers = total_bytes len (λ _ x. x.blocks) buffers

-- a page has a block in memory, or slots
has_some : {D : Type 0} (blocks : ℕ) (at : Spot) (k : Kept D) → IsKeptOf blocks at k → 0 < blocks → 1 ≤ once is_in_memory (place_in at) * blocks + only_if (has_slots k) blocks
has_some blocks (spot.Pinned count) k is some = omega (arith, some)
has_some blocks spot.Dirty k is some = omega (arith, some)
has_some blocks (spot.Flying writer) k is some = omega (arith, some)
has_some blocks spot.Loading k is some = omega (arith, some)
has_some blocks spot.Clean k is some = omega (arith, some)
has_some blocks spot.Evicted (kept.Empty shell) is some = absurd (false≢true is.0)
has_some blocks spot.Evicted (kept.Held row) is some = omega (arith, some)
has_some blocks spot.Evicted kept.Out is some = omega (arith, some)

module _ {D : Type 0} (v : Parts D) (is_kept : IsKept v) where
  -- the blocks in use and those that are free
  pub all_blocks : v.arena.free + (memory_blocks (pages_in v.pages) + lent_blocks (buffers_in v.buffers)) ≤ v.arena.blocks
  all_blocks =
      let b = v.arena.block_len in
      let pages = memory_bytes b (pages_in v.pages) in
      let lent = lent_bytes b (buffers_in v.buffers) in
      let used = memory_blocks (pages_in v.pages) in
      let out = lent_blocks (buffers_in v.buffers) in
      let more = bytes_plus b v.arena.free (used + out) in
      let both = bytes_plus b used out in
      let all = is_kept.counted.free in
      bytes_le b (v.arena.free + (used + out)) v.arena.blocks is_kept.sized.some (omega (arith, pages, lent, more, both, all))

  -- each buffer has a block
  few_lent : len v.buffers.buffers ≤ lent_blocks (buffers_in v.buffers)
  unfolding lent_blocks
  few_lent =
      let one = total-one v.buffers.buffers in
      let less : total (λ _ _. 1) v.buffers.buffers ≤ total (λ _ x. x.blocks) v.buffers.buffers = total-le (λ _ _. 1) (λ _ x. x.blocks) v.buffers.buffers (λ f x is. (is_kept.lent f x is).0) in
      let same = total_mapped (λ _ lent. record { client = lent.client; blocks = lent.blocks }) (λ _ (x : Buffer). x.blocks) v.buffers.buffers in
      omega (arith, one, less, same)

  -- one more may be live where a block is free, or a page has one
  pub buffer_room : 0 < v.arena.free + memory_blocks (pages_in v.pages) → HasBufferRoom v.buffers
  buffer_room some =
      let all = all_blocks in
      let few = few_lent in
      let book = is_kept.sized.book in
      omega (arith, some, all, few, book)

  few_pages : Lawful v → len v.pages.entries ≤ memory_blocks (pages_in v.pages) + slots_in (pages_in v.pages)
  unfolding memory_blocks
  few_pages laws =
      let in_memory : ℕ → Entry (Kept D) → ℕ = λ _ x. once is_in_memory (place_in x.place) * x.blocks in
      let with_slots : ℕ → Entry (Kept D) → ℕ = λ _ x. only_if (has_slots x.scratch) x.blocks in
      let one = total-one v.pages.entries in
      let less : total (λ _ _. 1) v.pages.entries ≤ total (λ n x. in_memory n x + with_slots n x) v.pages.entries =
      total-le (λ _ _. 1) (λ n x. in_memory n x + with_slots n x) v.pages.entries (λ n x is.
      let keyed = laws.proper.keyed n (is_there (get v.pages.entries n) x is) in
      let at : IsPlaced v keyed.0 x = is_kept.placed keyed.0 n x keyed.1 is in
      has_some x.blocks x.place x.scratch at.kept at.blocks.0) in
      let plus = total-plus in_memory with_slots v.pages.entries in
      let used = total_mapped (page_of v.pages) (λ _ (x : Page). once is_in_memory x.place * x.blocks) v.pages.entries in
      let slots = total_mapped (page_of v.pages) (λ _ (x : Page). only_if x.has_slots x.blocks) v.pages.entries in
      omega (arith, one, less, plus, used, slots)

  -- one more page may be live where a block is free
  pub page_room : Lawful v → 0 < v.arena.free → HasPageRoom v.pages
  page_room laws some =
      let all = all_blocks in
      let few = few_pages laws in
      let room = is_kept.counted.room in
      omega (arith, some, all, few, room)

  -- a page in memory has its blocks there
  pub own_blocks : (p : ℕ) (y : Page) → get (pages_in v.pages) p ≡ Some y → once is_in_memory y.place * y.blocks ≤ memory_blocks (pages_in v.pages)
  unfolding memory_blocks
  own_blocks p y is = weight-le-total (λ _ x. once is_in_memory x.place * x.blocks) (pages_in v.pages) p y is
