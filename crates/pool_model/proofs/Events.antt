-- The events of pages: each keeps a sound state sound.
use Rattle.std.proofs.Common.{◌≡◌, ℕ, ◌+◌, ◌-◌, ◌*◌, ◌≤◌, List, Some, true, ap, sym, ◌∙◌, subst, arith, inl, inr, mul-le-mul}
use Rattle.std.specs.FinMap.{get, insert}
use Rattle.reservation_tree.specs.Tracker.{reservation_of}
use Rattle.reservation_tree.proofs.Maps.{get_same}
use Rattle.pool_model.specs.State.{Place, Pinned, Dirty, Flying, Loading, Clean, Evicted, Page, page_at, pins_of, State}
use Rattle.pool_model.specs.Sums.{times_held, is_in_memory, once, length_of, held_by, HasRoom, free_bytes}
use Rattle.pool_model.specs.PageRows.{MayPinHere, MayPinLoad, MayPinAgain, MayUnpinOnce, MayUnpin, MayDestroy}
use Rattle.pool_model.specs.ScratchRows.{MayEndRead, MayStartWrite, MayEndWrite, MayEvict}
use Rattle.pool_model.specs.Parts.{pins_at, put_in, put_flying, give_slots, end_page, unqueue, queue_dirty, queue_clean, note_failure}
use Rattle.pool_model.specs.Sound.{HasPins, IsSound}
use Rattle.pool_model.proofs.Pages.{page_is, Grants, put_sound, flying_sound, slots_sound, end_sound, unqueue_sound, dirty_sound, clean_sound, noted_sound}

-- from this place the other needs so much
from : (s : State) (x : Page) (old place : Place) (held_more memory_more : ℕ) → x.place ≡ old
    → times_held place * length_of s x.blocks ≤ times_held old * length_of s x.blocks + held_more → HasRoom s x.client held_more
    → once is_in_memory place * length_of s x.blocks ≤ once is_in_memory old * length_of s x.blocks + memory_more → memory_more ≤ free_bytes s → HasPins place → Grants s x place
from s x old place held_more memory_more is held room memory free pins = record {
  held_more = held_more;
  memory_more = memory_more;
  held = subst (λ (a : Place). times_held place * length_of s x.blocks ≤ times_held a * length_of s x.blocks + held_more) (sym is) held;
  room = room;
  memory = subst (λ (a : Place). once is_in_memory place * length_of s x.blocks ≤ once is_in_memory a * length_of s x.blocks + memory_more) (sym is) memory;
  free = free;
  pins = pins;
}

-- and here nothing
at_once : (s : State) → IsSound s → (x : Page) (old place : Place) → x.place ≡ old
    → times_held place * length_of s x.blocks ≤ times_held old * length_of s x.blocks
    → once is_in_memory place * length_of s x.blocks ≤ once is_in_memory old * length_of s x.blocks → HasPins place → Grants s x place
at_once s sound x old place is held memory pins =
    let was : held_by s x.client ≤ reservation_of s.trackers x.client = sound.within.held x.client in
    from s x old place 0 0 is (omega (arith, held)) (omega (arith, was)) (omega (arith, memory)) (omega arith) pins

module _ (s : State) (sound : IsSound s) (maker p : ℕ) where
  pub pin_here : MayPinHere s maker p → IsSound (put_in (Pinned 1) p (unqueue p s))
  pin_here may =
      let t : State = unqueue p s in
      let next : IsSound t = unqueue_sound s sound p in
      put_sound t next p may.page may.own.lives (Pinned 1) (elim may.here [
        | inl dirty ↦ at_once t next may.page Dirty (Pinned 1) dirty (omega arith) (omega arith) (omega arith)
        | inr clean ↦ from t may.page Clean (Pinned 1) (length_of s may.page.blocks) 0 clean.clean (omega arith) clean.room (omega arith) (omega arith) (omega arith)
      ])

  pub pin_load : MayPinLoad s maker p → IsSound (put_in Loading p s)
  pin_load may = put_sound s sound p may.page may.own.lives Loading
      (from s may.page Evicted Loading (length_of s may.page.blocks) (length_of s may.page.blocks) may.evicted (omega arith) may.takes.room (omega arith) may.takes.free tt)

  pub read_ok : MayEndRead s maker p → IsSound (put_in (Pinned 1) p s)
  read_ok may = put_sound s sound p may.page may.own.lives (Pinned 1) (at_once s sound may.page Loading (Pinned 1) may.loading (omega arith) (omega arith) (omega arith))

  pub read_failed : MayEndRead s maker p → IsSound (put_in Evicted p (note_failure p s))
  read_failed may =
      let t : State = note_failure p s in
      let next : IsSound t = noted_sound s sound p in
      put_sound t next p may.page may.own.lives Evicted (at_once t next may.page Loading Evicted may.loading (omega arith) (omega arith) tt)

  pub read_stale : MayEndRead s maker p → IsSound (put_in Evicted p s)
  read_stale may = put_sound s sound p may.page may.own.lives Evicted (at_once s sound may.page Loading Evicted may.loading (omega arith) (omega arith) tt)

  pub pin_again : MayPinAgain s maker p → IsSound (put_in (Pinned (pins_at s p + 1)) p s)
  pin_again may =
      let count : ℕ = may.count in
      let pins : pins_at s p ≡ count = ap (λ (x : Page). pins_of x.place) (page_is s p may.page may.own.lives) ∙ ap pins_of may.pinned in
      subst (λ (n : ℕ). IsSound (put_in (Pinned (n + 1)) p s)) (sym pins)
      (put_sound s sound p may.page may.own.lives (Pinned (count + 1))
      (from s may.page (Pinned count) (Pinned (count + 1)) (length_of s may.page.blocks) 0 may.pinned (omega arith) may.room (omega arith) (omega arith) (omega arith)))

  pub unpin_once : MayUnpinOnce s maker p → IsSound (put_in (Pinned (pins_at s p - 1)) p s)
  unpin_once may =
      let count : ℕ = may.count in
      let pins : pins_at s p ≡ count = ap (λ (x : Page). pins_of x.place) (page_is s p may.page may.own.lives) ∙ ap pins_of may.pinned in
      let several : 2 ≤ count = may.several in
      let less : (count - 1) * length_of s may.page.blocks ≤ count * length_of s may.page.blocks = mul-le-mul (omega arith) (omega arith) in
      subst (λ (n : ℕ). IsSound (put_in (Pinned (n - 1)) p s)) (sym pins)
      (put_sound s sound p may.page may.own.lives (Pinned (count - 1))
      (at_once s sound may.page (Pinned count) (Pinned (count - 1)) may.pinned less (omega arith) (omega (arith, several))))

  pub unpin : (content : List ℕ) → MayUnpin s maker p content → IsSound (put_in Dirty p (give_slots p (queue_dirty p s)))
  unpin content may =
      let x : Page = may.page in
      let y : Page = record x { has_slots = true } in
      let t : State = queue_dirty p s in
      let given : IsSound (give_slots p t) = slots_sound t (dirty_sound s sound p) p x may.own.lives in
      let now : get (insert s.pages p (record (page_at s p) { has_slots = true })) p ≡ Some y = get_same s.pages p _ ∙ ap (λ (z : Page). Some (record z { has_slots = true })) (page_is s p x may.own.lives) in
      put_sound (give_slots p t) given p y now Dirty (at_once (give_slots p t) given y (Pinned 1) Dirty may.pinned (omega arith) (omega arith) tt)

  pub destroy : MayDestroy s maker p → IsSound (end_page p (unqueue p s))
  destroy may = end_sound (unqueue p s) (unqueue_sound s sound p) p may.page may.own.lives

  pub start_write : MayStartWrite s maker p → IsSound (put_flying maker p (unqueue p s))
  start_write may =
      let t : State = unqueue p s in
      let next : IsSound t = unqueue_sound s sound p in
      flying_sound t next p may.page may.lives maker (at_once t next may.page Dirty (Flying maker) may.dirty (omega arith) (omega arith) tt)

  pub write_ok : MayEndWrite s maker p → IsSound (put_in Clean p (queue_clean p s))
  write_ok may =
      let t : State = queue_clean p s in
      let next : IsSound t = clean_sound s sound p in
      put_sound t next p may.page may.lives Clean (at_once t next may.page (Flying maker) Clean may.flying (omega arith) (omega arith) tt)

  pub write_failed : MayEndWrite s maker p → IsSound (put_in Dirty p (queue_dirty p (note_failure p s)))
  write_failed may =
      let t : State = queue_dirty p (note_failure p s) in
      let next : IsSound t = dirty_sound (note_failure p s) (noted_sound s sound p) p in
      put_sound t next p may.page may.lives Dirty (at_once t next may.page (Flying maker) Dirty may.flying (omega arith) (omega arith) tt)

  pub evict : MayEvict s p → IsSound (put_in Evicted p (unqueue p s))
  evict may =
      let t : State = unqueue p s in
      let next : IsSound t = unqueue_sound s sound p in
      put_sound t next p may.page may.lives Evicted (at_once t next may.page Clean Evicted may.clean (omega arith) (omega arith) tt)
