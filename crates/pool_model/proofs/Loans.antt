-- Buffers change hands, and a page's blocks become one: a sound state stays sound.
use Rattle.std.proofs.Common.{◌≡◌, ℕ, ◌+◌, ◌*◌, ◌≤◌, ◌==◌, Option, Some, None, unwrap_or, ap, sym, ◌∙◌, subst, arith, inl, inr}
use Rattle.std.specs.FinMap.{get, insert, remove}
use Rattle.reservation_tree.specs.Tracker.{reservation_of}
use Rattle.reservation_tree.proofs.Maps.{removed_same, removed_other, same_or_other}
use Rattle.pool_model.specs.Bytes.{only_if}
use Rattle.pool_model.specs.State.{Place, Page, Buffer, no_buffer, buffer_at, page_at, State}
use Rattle.pool_model.specs.Sums.{times_held, is_in_memory, once, length_of, page_bytes, bytes_in, pages_for, buffers_for, buffer_bytes, held_by, IsClient, memory}
use Rattle.pool_model.specs.PageRows.{MayExtract, MayFree, MayMoveBuffer}
use Rattle.pool_model.specs.Parts.{put_buffer, end_page}
use Rattle.pool_model.specs.Sound.{IsSound}
use Rattle.pool_model.proofs.Weights.{one_time}
use Rattle.pool_model.proofs.PageSums.{pages_gone, bytes_gone, buffers_new, all_new, all_put, buffers_gone, all_gone}
use Rattle.pool_model.proofs.Seats.{own_client}
use Rattle.pool_model.proofs.Pages.{page_is, end_sound}
use Rattle.pool_model.proofs.Blocks.{owned_buffer, held_buffer}

-- a buffer is charged to another client
pub move_buffer_sound : (s : State) → IsSound s → (maker f to : ℕ) → MayMoveBuffer s maker f to → IsSound (put_buffer f (record (buffer_at s f) { client = to }) s)
move_buffer_sound s sound maker f to may =
    let x : Buffer = may.buffer in
    let y : Buffer = record x { client = to } in
    let is : buffer_at s f ≡ x = ap (λ (o : Option Buffer). unwrap_or o no_buffer) may.lives in
    let moved : IsSound (put_buffer f y s) = record {
      seated = sound.seated;
      owned = owned_buffer s sound f y (own_client s sound.seated maker to may.own_to);
      within = record {
        held = held_buffer s sound f y (own_client s sound.seated maker to may.own_to) may.room;
        memory =
            let sum : buffer_bytes s.block_len (insert s.buffers f y) + length_of s x.blocks ≡ buffer_bytes s.block_len s.buffers + length_of s x.blocks = all_put s.block_len s.buffers f x may.lives y in
            let fits : bytes_in (once is_in_memory) s.block_len s.pages + buffer_bytes s.block_len s.buffers ≤ memory s = sound.within.memory in
            omega (arith, sum, fits);
      };
    } in
    subst (λ (z : Buffer). IsSound (put_buffer f (record z { client = to }) s)) (sym is) moved

-- a buffer goes
pub free_sound : (s : State) → IsSound s → (maker f : ℕ) → MayFree s maker f → IsSound (record s { buffers = remove s.buffers f })
free_sound s sound maker f may =
    let x : Buffer = may.buffer in
    record {
      seated = sound.seated;
      owned = record {
        page_clients = sound.owned.page_clients;
        buffer_clients = λ g z is. elim (same_or_other g f) [
          | inl here ↦ let none : None ≡ Some z = sym (removed_same s.buffers f) ∙ ap (get (remove s.buffers f)) (sym here) ∙ is in cc
          | inr other ↦ sound.owned.buffer_clients g z (sym (removed_other s.buffers f g other) ∙ is)
        ];
        names = sound.owned.names;
        pins = sound.owned.pins;
      };
      within = record {
        held = λ t.
            let sum : buffers_for s.block_len (remove s.buffers f) t + only_if (x.client == t) (length_of s x.blocks) ≡ buffers_for s.block_len s.buffers t = buffers_gone s.block_len s.buffers f x may.lives t in
            let was : held_by s t ≤ reservation_of s.trackers t = sound.within.held t in
            omega (arith, sum, was);
        memory =
            let sum : buffer_bytes s.block_len (remove s.buffers f) + length_of s x.blocks ≡ buffer_bytes s.block_len s.buffers = all_gone s.block_len s.buffers f x may.lives in
            let fits : bytes_in (once is_in_memory) s.block_len s.pages + buffer_bytes s.block_len s.buffers ≤ memory s = sound.within.memory in
            omega (arith, sum, fits);
      };
    }

-- a pinned page's blocks are a buffer now
pub extract_sound : (s : State) → IsSound s → (maker p f : ℕ) → MayExtract s maker p f
    → IsSound (end_page p (put_buffer f (record { client = (page_at s p).client; blocks = (page_at s p).blocks }) s))
extract_sound s sound maker p f may =
    let x : Page = may.page in
    let y : Buffer = record { client = x.client; blocks = x.blocks } in
    let pinned : (t : ℕ) → page_bytes times_held s.block_len x ≡ length_of s x.blocks = λ t. ap (λ (place : Place). times_held place * length_of s x.blocks) may.pinned ∙ one_time (length_of s x.blocks) in
    let client : IsClient s.trackers x.client = sound.owned.page_clients p x may.own.lives in
    let ended : IsSound (end_page p s) = end_sound s sound p x may.own.lives in
    let extracted : IsSound (end_page p (put_buffer f y s)) = record {
      seated = sound.seated;
      owned = owned_buffer (end_page p s) ended f y client;
      within = record {
        held = λ t.
            let of_pages : pages_for times_held s.block_len (remove s.pages p) t + only_if (x.client == t) (page_bytes times_held s.block_len x) ≡ pages_for times_held s.block_len s.pages t = pages_gone times_held s.block_len s.pages p x may.own.lives t in
            let of_buffers : buffers_for s.block_len (insert s.buffers f y) t ≤ buffers_for s.block_len s.buffers t + only_if (x.client == t) (length_of s x.blocks) = buffers_new s.block_len s.buffers f y t in
            let same : only_if (x.client == t) (page_bytes times_held s.block_len x) ≡ only_if (x.client == t) (length_of s x.blocks) = ap (only_if (x.client == t)) (pinned t) in
            let was : held_by s t ≤ reservation_of s.trackers t = sound.within.held t in
            omega (arith, of_pages, of_buffers, same, was);
        memory =
            let of_pages : bytes_in (once is_in_memory) s.block_len (remove s.pages p) + page_bytes (once is_in_memory) s.block_len x ≡ bytes_in (once is_in_memory) s.block_len s.pages = bytes_gone (once is_in_memory) s.block_len s.pages p x may.own.lives in
            let of_buffers : buffer_bytes s.block_len (insert s.buffers f y) ≤ buffer_bytes s.block_len s.buffers + length_of s x.blocks = all_new s.block_len s.buffers f y in
            let same : page_bytes (once is_in_memory) s.block_len x ≡ length_of s x.blocks = ap (λ (place : Place). once is_in_memory place * length_of s x.blocks) may.pinned ∙ one_time (length_of s x.blocks) in
            let fits : bytes_in (once is_in_memory) s.block_len s.pages + buffer_bytes s.block_len s.buffers ≤ memory s = sound.within.memory in
            omega (arith, of_pages, of_buffers, same, fits);
      };
    } in
    subst (λ (z : Page). IsSound (end_page p (put_buffer f (record { client = z.client; blocks = z.blocks }) s))) (sym (page_is s p x may.own.lives)) extracted
