-- What the end of a load needs of the parts.
use Rattle.std.proofs.Common.{◌≡◌, ◌+◌, ◌*◌, ◌≤◌, ℕ, List, Some, ap, sym, ◌∙◌, subst, arith}
use Rattle.std.specs.FinMap.{get}
use Rattle.block_arena.specs.Memory.{Buffer}
use Rattle.page_table.specs.declared.page_id.PageId.{PageId}
use Rattle.page_table.specs.declared.entry.Entry.{Entry}
use Rattle.page_table.specs.declared.entry.Place.TheVariants as spot
use Rattle.reservation_tree.specs.Tree.{charge_of as charge_in}
use Rattle.reservation_tree.specs.Tracker.{IsLive}
use Rattle.reservation_tree.proofs.Maps.{is_there}
use Rattle.reservation_tree.proofs.Sums.{weight-le-total}
use Rattle.pool_model.specs.Bytes.{bytes_of}
use Rattle.pool_model.specs.State.{Page, Pages, Place}
use Rattle.pool_model.specs.Sums.{page_bytes, bytes_in, is_in_memory, once}
use Rattle.pool_model.specs.Owning.{IsClientOf}
use Rattle.pin_core.specs.declared.kept.Kept.{Kept}
use Rattle.pin_core.specs.declared.parts.Parts.{Parts}
use Rattle.pin_core.specs.StateOf.{page_of, pages_in, place_in, state_of}
use Rattle.pin_core.specs.Invariant.{IsKept}
use Rattle.pin_core.specs.Lawful.{Lawful}
use Rattle.pin_core.specs.parts.Ends.{ComesBack}
use Rattle.pin_core.proofs.Moved.{page_known}
use Rattle.pin_core.proofs.Places.{page_owned}
use Rattle.pin_core.proofs.Listed.{bytes_plus, bytes_le}
use Rattle.pin_core.proofs.Unread.{covered}

-- a page's bytes are part of the sum
part_of : (times : Place → ℕ) (len : ℕ) (pages : Pages) (p : ℕ) (y : Page) → get pages p ≡ Some y → page_bytes times len y ≤ bytes_in times len pages
unfolding bytes_in
part_of times len pages p y is = weight-le-total (λ _ z. page_bytes times len z) pages p y is

module _ {D : Type 0} (v : Parts D) (is_kept : IsKept v) (laws : Lawful v) (id : PageId) (x : Entry (Kept D)) (buf : Buffer) (row : List D) (back : ComesBack v spot.Loading id x buf row) where
  pub read_room : v.arena.free + buf.blocks ≤ v.arena.blocks
  read_room =
      let len = v.arena.block_len in
      let part = part_of (once is_in_memory) len (pages_in v.pages) id.name (page_of v.pages id.name x) (page_known v id.name x back.there) in
      let all : once is_in_memory (place_in x.place) * bytes_of len x.blocks ≡ 1 * bytes_of len x.blocks = ap (λ p. once is_in_memory (place_in p) * bytes_of len x.blocks) back.place in
      let sum = is_kept.counted.free in
      let plus = bytes_plus len v.arena.free x.blocks in
      let fits : v.arena.free + x.blocks ≤ v.arena.blocks = bytes_le len (v.arena.free + x.blocks) v.arena.blocks is_kept.sized.some (omega (arith, part, all, sum, plus)) in
      let same = back.buffer.blocks in
      omega (arith, fits, same)

  pub read_live : (t client : ℕ) → t ≡ client → client ≡ x.client → IsLive v.tree.trackers t
  read_live t client of same =
      let owned : IsClientOf (state_of v) x.session x.client = page_owned (state_of v) is_kept.legal id.name (page_of v.pages id.name x) (page_known v id.name x back.there) in
      subst (IsLive v.tree.trackers) (sym (of ∙ same)) (is_there _ owned.tracker owned.lives)

  pub read_used : (t client room bytes : ℕ) → t ≡ client → client ≡ x.client → room ≡ buf.blocks → bytes ≡ bytes_of v.block_len room → bytes ≤ charge_in v.tree t
  read_used t client room bytes of same room_is bytes_are =
      let used = covered v is_kept laws id x buf row back in
      let here = ap (charge_in v.tree) (of ∙ same) in
      let long = bytes_are ∙ ap (λ (n : ℕ). bytes_of n room) is_kept.sized.len ∙ ap (bytes_of v.arena.block_len) (room_is ∙ back.buffer.blocks) in
      omega (arith, used, here, long)
