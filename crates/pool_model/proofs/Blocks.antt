-- Pages and buffers get blocks, and blocks change hands: a sound state stays sound.
use Rattle.std.proofs.Common.{◌≡◌, ℕ, ◌+◌, ◌≤◌, ◌<◌, ◌==◌, false, ap, sym, ◌∙◌, subst, arith, inl, inr}
use Rattle.std.specs.FinMap.{get, insert}
use Rattle.reservation_tree.specs.Tracker.{reservation_of}
use Rattle.reservation_tree.proofs.Maps.{get_same, get_other, same_or_other}
use Rattle.pool_model.specs.Bytes.{only_if}
use Rattle.pool_model.specs.State.{Pinned, Page, Buffer, State}
use Rattle.pool_model.specs.Sums.{times_held, is_in_memory, once, length_of, page_bytes, bytes_in, pages_for, buffers_for, buffer_bytes, held_by, HasRoom, IsClient, memory}
use Rattle.pool_model.specs.PageRows.{MayCreate, MayAlloc}
use Rattle.pool_model.specs.Parts.{create_page, put_buffer}
use Rattle.pool_model.specs.Sound.{HasPins, IsOwned, IsSound}
use Rattle.pool_model.proofs.Weights.{one_time, mine, not_mine}
use Rattle.pool_model.proofs.PageSums.{pages_new, bytes_new, buffers_new, all_new}
use Rattle.pool_model.proofs.Seats.{own_client, some_is}
use Rattle.pool_model.proofs.Pages.{space}

-- what a client takes fits, and for others nothing changes
taken : (s : State) → IsSound s → (c bytes : ℕ) → HasRoom s c bytes → (t : ℕ) → held_by s t + only_if (c == t) bytes ≤ reservation_of s.trackers t
taken s sound c bytes room t = elim (same_or_other c t) [
  | inl here ↦
      let all : only_if (c == t) bytes ≡ bytes = ap (λ (d : ℕ). only_if (d == t) bytes) here ∙ mine t bytes in
      let fits : held_by s t + bytes ≤ reservation_of s.trackers t = subst (λ (d : ℕ). held_by s d + bytes ≤ reservation_of s.trackers d) here room in
      omega (arith, all, fits)
  | inr other ↦
      let none : only_if (c == t) bytes ≡ 0 = not_mine c t bytes other in
      let was : held_by s t ≤ reservation_of s.trackers t = sound.within.held t in
      omega (arith, none, was)
]

-- a page comes
pub create_sound : (s : State) → IsSound s → (maker p client blocks key : ℕ) → MayCreate s maker p client blocks → IsSound (create_page maker p client blocks key s)
create_sound s sound maker p client blocks key may =
    let y : Page = record { key = key; session = maker; client = client; blocks = blocks; place = Pinned 1; has_slots = false; version = 0 } in
    record {
      seated = sound.seated;
      owned = record {
        page_clients = λ q x is. elim (same_or_other q p) [
          | inl here ↦
              let same : y ≡ x = some_is y x (sym (get_same s.pages p y) ∙ ap (get (insert s.pages p y)) (sym here) ∙ is) in
              subst (λ (z : Page). IsClient s.trackers z.client) same (own_client s sound.seated maker client may.own)
          | inr other ↦ sound.owned.page_clients q x (sym (get_other s.pages p y q other) ∙ is)
        ];
        buffer_clients = sound.owned.buffer_clients;
        names = λ q x is. elim (same_or_other q p) [
          | inl here ↦ let next : q ≡ s.next_name = here ∙ may.next in omega (arith, next)
          | inr other ↦ let low : q < s.next_name = sound.owned.names q x (sym (get_other s.pages p y q other) ∙ is) in omega (arith, low)
        ];
        pins = λ q x is. elim (same_or_other q p) [
          | inl here ↦
              let same : y ≡ x = some_is y x (sym (get_same s.pages p y) ∙ ap (get (insert s.pages p y)) (sym here) ∙ is) in
              subst (λ (z : Page). HasPins z.place) same (omega arith)
          | inr other ↦ sound.owned.pins q x (sym (get_other s.pages p y q other) ∙ is)
        ];
      };
      within = record {
        held = λ t.
            let sum : pages_for times_held s.block_len (insert s.pages p y) t ≤ pages_for times_held s.block_len s.pages t + only_if (client == t) (page_bytes times_held s.block_len y) = pages_new times_held s.block_len s.pages p y t in
            let all : only_if (client == t) (page_bytes times_held s.block_len y) ≡ only_if (client == t) (length_of s blocks) = ap (only_if (client == t)) (one_time (length_of s blocks)) in
            let room : held_by s t + only_if (client == t) (length_of s blocks) ≤ reservation_of s.trackers t = taken s sound client (length_of s blocks) may.takes.room t in
            omega (arith, sum, all, room);
        memory =
            let sum : bytes_in (once is_in_memory) s.block_len (insert s.pages p y) ≤ bytes_in (once is_in_memory) s.block_len s.pages + page_bytes (once is_in_memory) s.block_len y = bytes_new (once is_in_memory) s.block_len s.pages p y in
            let fits : bytes_in (once is_in_memory) s.block_len s.pages + buffer_bytes s.block_len s.buffers + length_of s blocks ≤ memory s = space s sound (length_of s blocks) may.takes.free in
            let all : page_bytes (once is_in_memory) s.block_len y ≡ length_of s blocks = one_time (length_of s blocks) in
            omega (arith, sum, all, fits);
      };
    }

module _ (s : State) (sound : IsSound s) (f : ℕ) (y : Buffer) (client : IsClient s.trackers y.client) where
  pub owned_buffer : IsOwned s.trackers s.pages (insert s.buffers f y) s.next_name
  owned_buffer = record {
    page_clients = sound.owned.page_clients;
    buffer_clients = λ g x is. elim (same_or_other g f) [
      | inl here ↦
          let same : y ≡ x = some_is y x (sym (get_same s.buffers f y) ∙ ap (get (insert s.buffers f y)) (sym here) ∙ is) in
          subst (λ (z : Buffer). IsClient s.trackers z.client) same client
      | inr other ↦ sound.owned.buffer_clients g x (sym (get_other s.buffers f y g other) ∙ is)
    ];
    names = sound.owned.names;
    pins = sound.owned.pins;
  }

  pub held_buffer : HasRoom s y.client (length_of s y.blocks) → (t : ℕ) → pages_for times_held s.block_len s.pages t + buffers_for s.block_len (insert s.buffers f y) t ≤ reservation_of s.trackers t
  held_buffer has_room t =
      let sum : buffers_for s.block_len (insert s.buffers f y) t ≤ buffers_for s.block_len s.buffers t + only_if (y.client == t) (length_of s y.blocks) = buffers_new s.block_len s.buffers f y t in
      let room : held_by s t + only_if (y.client == t) (length_of s y.blocks) ≤ reservation_of s.trackers t = taken s sound y.client (length_of s y.blocks) has_room t in
      omega (arith, sum, room)

-- a buffer comes
pub alloc_sound : (s : State) → IsSound s → (maker f client blocks : ℕ) → MayAlloc s maker f client blocks → IsSound (put_buffer f (record { client = client; blocks = blocks }) s)
alloc_sound s sound maker f client blocks may =
    let y : Buffer = record { client = client; blocks = blocks } in
    record {
      seated = sound.seated;
      owned = owned_buffer s sound f y (own_client s sound.seated maker client may.own);
      within = record {
        held = held_buffer s sound f y (own_client s sound.seated maker client may.own) may.takes.room;
        memory =
            let sum : buffer_bytes s.block_len (insert s.buffers f y) ≤ buffer_bytes s.block_len s.buffers + length_of s blocks = all_new s.block_len s.buffers f y in
            let fits : bytes_in (once is_in_memory) s.block_len s.pages + buffer_bytes s.block_len s.buffers + length_of s blocks ≤ memory s = space s sound (length_of s blocks) may.takes.free in
            omega (arith, sum, fits);
      };
    }
