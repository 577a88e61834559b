-- One page comes, changes its place or goes: a sound state stays sound.
use Rattle.std.proofs.Common.{◌≡◌, ℕ, ◌+◌, ◌*◌, ◌≤◌, ◌<◌, ◌==◌, Bool, true, Option, Some, None, unwrap_or, ap, sym, ◌∙◌, subst, arith, inl, inr}
use Rattle.std.specs.FinMap.{get, insert, remove}
use Rattle.reservation_tree.specs.Tracker.{reservation_of}
use Rattle.reservation_tree.proofs.Maps.{get_same, get_other, removed_same, removed_other, same_or_other}
use Rattle.pool_model.specs.Bytes.{only_if}
use Rattle.pool_model.specs.State.{Place, Flying, Page, no_page, page_at, State}
use Rattle.pool_model.specs.Sums.{times_held, is_in_memory, once, length_of, page_bytes, bytes_in, pages_for, buffers_for, buffer_bytes, held_by, HasRoom, IsClient, bytes_in_memory, memory, free_bytes}
use Rattle.pool_model.specs.Parts.{put_in, put_flying, give_slots, end_page, unqueue, queue_dirty, queue_clean, note_failure, keep_first}
use Rattle.pool_model.specs.Effects.{count_entry}
use Rattle.pool_model.specs.Sound.{HasPins, IsOwned, IsSound}
use Rattle.pool_model.proofs.Weights.{mine, not_mine}
use Rattle.pool_model.proofs.Fits.{in_memory}
use Rattle.pool_model.proofs.PageSums.{pages_put, bytes_put, pages_gone, bytes_gone}
use Rattle.pool_model.proofs.Seats.{failures_seats, keep_seats, some_is}

pub page_is : (s : State) (p : ℕ) (x : Page) → get s.pages p ≡ Some x → page_at s p ≡ x
page_is s p x is = ap (λ (o : Option Page). unwrap_or o no_page) is

-- what is free has room
pub space : (s : State) → IsSound s → (bytes : ℕ) → bytes ≤ free_bytes s → bytes_in (once is_in_memory) s.block_len s.pages + buffer_bytes s.block_len s.buffers + bytes ≤ memory s
space s sound bytes free =
    let fits : bytes_in_memory s ≤ memory s = in_memory s sound in
    omega (arith, fits, free)

-- what a page needs more of, to go to another place
pub record Grants (s : State) (x : Page) (place : Place) : Type 0 where
  pub held_more : ℕ
  pub memory_more : ℕ
  pub held : times_held place * length_of s x.blocks ≤ times_held x.place * length_of s x.blocks + held_more
  pub room : HasRoom s x.client held_more
  pub memory : once is_in_memory place * length_of s x.blocks ≤ once is_in_memory x.place * length_of s x.blocks + memory_more
  pub free : memory_more ≤ free_bytes s
  pub pins : HasPins place

module _ (s : State) (sound : IsSound s) (p : ℕ) (x : Page) (is : get s.pages p ≡ Some x) where
  -- a page of the same client, with the same blocks and name
  owned_put : (place : Place) (has_slots : Bool) (version : ℕ) → HasPins place → IsOwned s.trackers (insert s.pages p (record x { place = place; has_slots = has_slots; version = version })) s.buffers s.next_name
  owned_put place has_slots version has =
      let y : Page = record x { place = place; has_slots = has_slots; version = version } in record {
        page_clients = λ q z there. elim (same_or_other q p) [
          | inl here ↦
              let same : y ≡ z = some_is y z (sym (get_same s.pages p y) ∙ ap (get (insert s.pages p y)) (sym here) ∙ there) in
              subst (λ (v : Page). IsClient s.trackers v.client) same (sound.owned.page_clients p x is)
          | inr other ↦ sound.owned.page_clients q z (sym (get_other s.pages p y q other) ∙ there)
        ];
        buffer_clients = sound.owned.buffer_clients;
        names = λ q z there. elim (same_or_other q p) [
          | inl here ↦ subst (λ (r : ℕ). r < s.next_name) (sym here) (sound.owned.names p x is)
          | inr other ↦ sound.owned.names q z (sym (get_other s.pages p y q other) ∙ there)
        ];
        pins = λ q z there. elim (same_or_other q p) [
          | inl here ↦
              let same : y ≡ z = some_is y z (sym (get_same s.pages p y) ∙ ap (get (insert s.pages p y)) (sym here) ∙ there) in
              subst (λ (v : Page). HasPins v.place) same has
          | inr other ↦ sound.owned.pins q z (sym (get_other s.pages p y q other) ∙ there)
        ];
      }

  held_put : (place : Place) (has_slots : Bool) (version : ℕ) → Grants s x place → (t : ℕ)
      → pages_for times_held s.block_len (insert s.pages p (record x { place = place; has_slots = has_slots; version = version })) t + buffers_for s.block_len s.buffers t ≤ reservation_of s.trackers t
  held_put place has_slots version grants t =
      let y : Page = record x { place = place; has_slots = has_slots; version = version } in
      let sum : pages_for times_held s.block_len (insert s.pages p y) t + only_if (x.client == t) (page_bytes times_held s.block_len x) ≡ pages_for times_held s.block_len s.pages t + only_if (x.client == t) (page_bytes times_held s.block_len y) =
      pages_put times_held s.block_len s.pages p x is y t in
      let was : held_by s t ≤ reservation_of s.trackers t = sound.within.held t in
      elim (same_or_other x.client t) [
        | inl here ↦
            let old : only_if (x.client == t) (page_bytes times_held s.block_len x) ≡ page_bytes times_held s.block_len x = ap (λ (c : ℕ). only_if (c == t) (page_bytes times_held s.block_len x)) here ∙ mine t _ in
            let now : only_if (x.client == t) (page_bytes times_held s.block_len y) ≡ page_bytes times_held s.block_len y = ap (λ (c : ℕ). only_if (c == t) (page_bytes times_held s.block_len y)) here ∙ mine t _ in
            let room : held_by s t + grants.held_more ≤ reservation_of s.trackers t = subst (λ (c : ℕ). held_by s c + grants.held_more ≤ reservation_of s.trackers c) here grants.room in
            let more : times_held place * length_of s x.blocks ≤ times_held x.place * length_of s x.blocks + grants.held_more = grants.held in
            omega (arith, sum, old, now, room, more)
        | inr other ↦
            let old : only_if (x.client == t) (page_bytes times_held s.block_len x) ≡ 0 = not_mine x.client t _ other in
            let now : only_if (x.client == t) (page_bytes times_held s.block_len y) ≡ 0 = not_mine x.client t _ other in
            omega (arith, sum, old, now, was)
      ]

  -- the page goes to another place, with or without slots
  pub placed : (place : Place) (has_slots : Bool) (version : ℕ) → Grants s x place → IsSound (record s { pages = insert s.pages p (record x { place = place; has_slots = has_slots; version = version }) })
  placed place has_slots version grants =
      let y : Page = record x { place = place; has_slots = has_slots; version = version } in record {
        seated = sound.seated;
        owned = owned_put place has_slots version grants.pins;
        within = record {
          held = held_put place has_slots version grants;
          memory =
              let sum : bytes_in (once is_in_memory) s.block_len (insert s.pages p y) + page_bytes (once is_in_memory) s.block_len x ≡ bytes_in (once is_in_memory) s.block_len s.pages + page_bytes (once is_in_memory) s.block_len y =
              bytes_put (once is_in_memory) s.block_len s.pages p x is y in
              let fits : bytes_in (once is_in_memory) s.block_len s.pages + buffer_bytes s.block_len s.buffers + grants.memory_more ≤ memory s = space s sound grants.memory_more grants.free in
              let more : once is_in_memory place * length_of s x.blocks ≤ once is_in_memory x.place * length_of s x.blocks + grants.memory_more = grants.memory in
              omega (arith, sum, fits, more);
        };
      }

  pub put_sound : (place : Place) → Grants s x place → IsSound (put_in place p s)
  put_sound place grants = subst (λ (z : Page). IsSound (record s { pages = insert s.pages p (record z { place = place }) })) (sym (page_is s p x is)) (placed place x.has_slots x.version grants)

  -- the page is written from now on
  pub flying_sound : (writer : ℕ) → Grants s x (Flying writer) → IsSound (put_flying writer p s)
  flying_sound writer grants =
      subst (λ (z : Page). IsSound (record s { pages = insert s.pages p (record z { place = Flying writer; version = s.entries }) })) (sym (page_is s p x is)) (placed (Flying writer) x.has_slots s.entries grants)

  -- the page has slots now
  pub slots_sound : IsSound (give_slots p s)
  slots_sound =
      let room : held_by s x.client + 0 ≤ reservation_of s.trackers x.client = let was : held_by s x.client ≤ reservation_of s.trackers x.client = sound.within.held x.client in omega (arith, was) in
      subst (λ (z : Page). IsSound (record s { pages = insert s.pages p (record z { has_slots = true }) })) (sym (page_is s p x is))
      (placed x.place true x.version (record { held_more = 0; memory_more = 0; held = omega arith; room = room; memory = omega arith; free = omega arith; pins = sound.owned.pins p x is }))

  -- the page ends
  pub end_sound : IsSound (end_page p s)
  end_sound = record {
    seated = sound.seated;
    owned = record {
      page_clients = λ q z there. elim (same_or_other q p) [
        | inl here ↦ let none : None ≡ Some z = sym (removed_same s.pages p) ∙ ap (get (remove s.pages p)) (sym here) ∙ there in cc
        | inr other ↦ sound.owned.page_clients q z (sym (removed_other s.pages p q other) ∙ there)
      ];
      buffer_clients = sound.owned.buffer_clients;
      names = λ q z there. elim (same_or_other q p) [
        | inl here ↦ let none : None ≡ Some z = sym (removed_same s.pages p) ∙ ap (get (remove s.pages p)) (sym here) ∙ there in cc
        | inr other ↦ sound.owned.names q z (sym (removed_other s.pages p q other) ∙ there)
      ];
      pins = λ q z there. elim (same_or_other q p) [
        | inl here ↦ let none : None ≡ Some z = sym (removed_same s.pages p) ∙ ap (get (remove s.pages p)) (sym here) ∙ there in cc
        | inr other ↦ sound.owned.pins q z (sym (removed_other s.pages p q other) ∙ there)
      ];
    };
    within = record {
      held = λ t.
          let sum : pages_for times_held s.block_len (remove s.pages p) t + only_if (x.client == t) (page_bytes times_held s.block_len x) ≡ pages_for times_held s.block_len s.pages t = pages_gone times_held s.block_len s.pages p x is t in
          let was : held_by s t ≤ reservation_of s.trackers t = sound.within.held t in
          omega (arith, sum, was);
      memory =
          let sum : bytes_in (once is_in_memory) s.block_len (remove s.pages p) + page_bytes (once is_in_memory) s.block_len x ≡ bytes_in (once is_in_memory) s.block_len s.pages = bytes_gone (once is_in_memory) s.block_len s.pages p x is in
          let fits : bytes_in (once is_in_memory) s.block_len s.pages + buffer_bytes s.block_len s.buffers ≤ memory s = sound.within.memory in
          omega (arith, sum, fits);
    };
  }

-- what the sums don't read may change
pub unqueue_sound : (s : State) → IsSound s → (p : ℕ) → IsSound (unqueue p s)
unqueue_sound s sound p = record { seated = sound.seated; owned = sound.owned; within = sound.within }

pub dirty_sound : (s : State) → IsSound s → (p : ℕ) → IsSound (queue_dirty p s)
dirty_sound s sound p = record { seated = sound.seated; owned = sound.owned; within = sound.within }

pub clean_sound : (s : State) → IsSound s → (p : ℕ) → IsSound (queue_clean p s)
clean_sound s sound p = record { seated = sound.seated; owned = sound.owned; within = sound.within }

pub counted_sound : (s : State) → IsSound s → IsSound (count_entry s)
counted_sound s sound = record { seated = sound.seated; owned = sound.owned; within = sound.within }

pub noted_sound : (s : State) → IsSound s → (p : ℕ) → IsSound (note_failure p s)
noted_sound s sound p = record {
  seated = keep_seats (memory s) s.trackers s.sessions _ (failures_seats (keep_first (page_at s p).client s.entries) (page_at s p).session s.sessions) sound.seated;
  owned = sound.owned;
  within = sound.within;
}
