-- What is clean, and that a client with room finds as many blocks free or clean.
use Rattle.std.proofs.Common.{◌≡◌, ℕ, ◌+◌, ◌*◌, ◌≤◌, Bool, true, false, Option, Some, option_map, refl, ap, sym, ◌∙◌, subst, arith, zero-mul}
use Rattle.std.specs.FinMap.{get}
use Rattle.index_list.specs.Listing.{stands_in}
use Rattle.block_arena.specs.Memory.{Buffer, IsBufferOf}
use Rattle.page_table.specs.declared.entry.Entry.{Entry}
use Rattle.page_table.specs.declared.entry.Place.{Place as Spot}
use Rattle.page_table.specs.declared.entry.Place.TheVariants as spot
use Rattle.page_table.specs.declared.entry.Mem.{Mem}
use Rattle.page_table.specs.declared.entry.Mem.TheVariants as mem
use Rattle.clean_evict.specs.Eviction.{name_at, blocks_at, blocks_of, IsCleanList}
use Rattle.clean_evict.proofs.Kept.{blocks-there}
use Rattle.reservation_tree.proofs.Maps.{is_there}
use Rattle.pool_model.specs.Bytes.{bytes_of, only_if}
use Rattle.pool_model.specs.State.{State, Page, Pages, Place, Pinned, Dirty, Flying, Loading, Clean, Evicted}
use Rattle.pool_model.proofs.Weights.{one_time}
use Rattle.pool_model.specs.Sums.{is_clean, once, bytes_in, page_bytes, HasRoom, IsClient, free_bytes}
use Rattle.pool_model.specs.PoolLaws.{FindsRoom}
use Rattle.pool_model.specs.Sums.{is_in_memory}
use Rattle.pool_model.proofs.Names.{counts_entries}
use Rattle.reservation_tree.proofs.Sums.{total-le}
use Rattle.pool_model.proofs.Kept.{legal_finds_room}
use Rattle.pin_core.specs.declared.kept.Kept.{Kept}
use Rattle.pin_core.specs.declared.parts.Parts.{Parts}
use Rattle.pin_core.specs.StateOf.{page_of, pages_in, place_in, state_of}
use Rattle.pin_core.specs.Lawful.{Lawful}
use Rattle.pin_core.specs.Invariant.{IsHeld, IsMem, IsPlaced, IsKept, is_clean_spot}
use Rattle.pin_core.proofs.Mapped.{get_mapped}
use Rattle.pin_core.proofs.Known.{known_now, HasEntry, has_entry}
use Rattle.pin_core.proofs.Cleaned.{IsCleanAt, clean_page}
use Rattle.pin_core.proofs.Queued.{name_is}
use Rattle.pin_core.proofs.Listed.{listed_total, bytes_plus, bytes_sum, bytes_le}

same_clean : (at : Spot) → is_clean (place_in at) ≡ is_clean_spot at
same_clean (spot.Pinned count) = refl
same_clean spot.Dirty = refl
same_clean (spot.Flying writer) = refl
same_clean spot.Loading = refl
same_clean spot.Clean = refl
same_clean spot.Evicted = refl

held_buffer : (len blocks : ℕ) (m : Mem) → IsHeld len blocks m → (b : Buffer) × (m ≡ mem.Held b) × IsBufferOf blocks len b
held_buffer len blocks (mem.Held b) is = (b, refl, is)
held_buffer len blocks (mem.Empty shell) is = absurd is
held_buffer len blocks mem.Out is = absurd is

none_of : (b : Bool) (n : ℕ) → b ≡ false → only_if b 1 * n ≡ 0
none_of b n is = ap (λ (c : Bool). only_if c 1 * n) is ∙ zero-mul n

once_clean : (at : Place) (n : ℕ) → once is_clean at * n ≤ once is_in_memory at * n
once_clean (Pinned count) n = omega arith
once_clean Dirty n = omega arith
once_clean (Flying writer) n = omega arith
once_clean Loading n = omega arith
once_clean Clean n = omega arith
once_clean Evicted n = omega arith

-- clean pages are in memory
clean_in_memory : (len : ℕ) (pages : Pages) → bytes_in (once is_clean) len pages ≤ bytes_in (once is_in_memory) len pages
unfolding bytes_in
clean_in_memory len pages = total-le (λ _ x. page_bytes (once is_clean) len x) (λ _ x. page_bytes (once is_in_memory) len x) pages (λ p x is. once_clean x.place (bytes_of len x.blocks))

module _ {D : Type 0} where
  -- the blocks of the clean list are those of the clean pages
  pub clean_are : (v : Parts D) → IsKept v → Lawful v → bytes_in (once is_clean) v.arena.block_len (pages_in v.pages) ≡ bytes_of v.arena.block_len (blocks_of v.pages v.clean.keys)
  unfolding bytes_in
  clean_are v is_kept laws =
      let b = v.arena.block_len in
      listed_total (λ _ x. page_bytes (once is_clean) b x) (λ k. bytes_of b (blocks_at v.pages k)) (name_at v.pages) v.clean.keys (pages_in v.pages) laws.once
      (λ k s. let c : IsCleanAt v k = clean_page v is_kept laws.proper k s in record {
        value = page_of v.pages c.name c.page;
        there = ap (get (pages_in v.pages)) c.named ∙ get_mapped (page_of v.pages) v.pages.entries c.name ∙ ap (λ (o : Option (Entry (Kept D))). option_map (page_of v.pages c.name) o) c.there;
        weight = ap (λ (t : Bool). only_if t 1 * bytes_of b c.page.blocks) (same_clean c.page.place ∙ ap is_clean_spot c.clean) ∙ one_time (bytes_of b c.page.blocks)
            ∙ ap (bytes_of b) (sym (blocks-there v.pages k c.name c.page c.live c.there));
      })
      (λ k j s t same.
      let c : IsCleanAt v k = clean_page v is_kept laws.proper k s in
      let d : IsCleanAt v j = clean_page v is_kept laws.proper j t in
      laws.proper.apart k j c.name c.live (d.live ∙ ap Some (sym d.named ∙ sym same ∙ c.named)))
      (λ p y is none.
      let e : HasEntry v p y = has_entry v p y is in
      let key = laws.proper.keyed p (is_there (get v.pages.entries p) e.entry e.there) in
      let at : IsPlaced v key.0 e.entry = is_kept.placed key.0 p e.entry key.1 e.there in
      let off : stands_in key.0 v.clean.keys ≡ false = elim (stands_in key.0 v.clean.keys) as (λ t. stands_in key.0 v.clean.keys ≡ t → stands_in key.0 v.clean.keys ≡ false) [
        | true ↦ λ stands. absurd (none key.0 stands (name_is v.pages key.0 p key.1))
        | false ↦ λ out. out
      ] refl in
      subst (λ (z : Page). page_bytes (once is_clean) b z ≡ 0) e.is
      (none_of (is_clean (place_in e.entry.place)) (bytes_of b e.entry.blocks) (same_clean e.entry.place ∙ sym at.clean ∙ off)))
      ∙ bytes_sum b (λ k. blocks_at v.pages k) v.clean.keys

  -- the list is fit to make room
  pub clean_list : (v : Parts D) → IsKept v → Lawful v → IsCleanList v.arena v.pages v.clean.keys
  clean_list v is_kept laws = record {
    clean = λ key s.
        let c : IsCleanAt v key = clean_page v is_kept laws.proper key s in
        let m = held_buffer v.arena.block_len c.page.blocks c.page.mem (subst (λ p. IsMem v.arena.block_len c.page.blocks p c.page.mem) c.clean c.at.mem) in
        record { name = c.name; page = c.page; buffer = m.0; live = c.live; there = c.there; clean = c.clean; held = m.1; whole = m.2 };
    fits =
        let b = v.arena.block_len in
        let are = clean_are v is_kept laws in
        let sum = is_kept.counted.free in
        let both = clean_in_memory b (pages_in v.pages) in
        let plus = bytes_plus b v.arena.free (blocks_of v.pages v.clean.keys) in
        bytes_le b (v.arena.free + blocks_of v.pages v.clean.keys) v.arena.blocks is_kept.sized.some (omega (arith, are, sum, both, plus));
  }

  -- what is free in the model is what the arena has free
  pub free_bytes_are : (v : Parts D) → IsKept v → free_bytes (state_of v) ≡ bytes_of v.arena.block_len v.arena.free
  free_bytes_are v is_kept =
      let sum = is_kept.counted.free in omega (arith, sum)

  -- a client with room for so many blocks finds them
  pub finds_blocks : (v : Parts D) → IsKept v → Lawful v → (c blocks : ℕ) → IsClient v.tree.trackers c → HasRoom (state_of v) c (bytes_of v.arena.block_len blocks)
      → blocks ≤ v.arena.free + blocks_of v.pages v.clean.keys
  finds_blocks v is_kept laws c blocks client room =
      let b = v.arena.block_len in
      let finds = known_now FindsRoom legal_finds_room (state_of v) is_kept.legal c (bytes_of b blocks) client room in
      let free = free_bytes_are v is_kept in
      let are = clean_are v is_kept laws in
      let plus = bytes_plus b v.arena.free (blocks_of v.pages v.clean.keys) in
      bytes_le b blocks (v.arena.free + blocks_of v.pages v.clean.keys) is_kept.sized.some (omega (arith, finds, free, are, plus))

  -- the count of entries is a u64
  pub entries_small : (v : Parts D) → IsKept v → v.entries ≤ 18446744073709551615
  entries_small v is_kept =
      let has = is_kept.legal in
      let count = counts_entries has.opening has.history in
      let same = ap (λ (s : State). s.entries) has.after in
      omega (arith, count, same)
