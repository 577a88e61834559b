-- A page stays pinned that couldn't be left.
use Rattle.std.proofs.Common.{◌≡◌, ℕ, ◌+◌, ◌<◌, List, [], ◌∷◌, ◌++◌, length, length-append, filter, Option, Some, None, Result, Ok, Err, IfErr, OnOk, OnErr, sym, ap, ◌∙◌, subst, arith}
use Rattle.std.proofs.lemmas.List.Elements.{filter-append}
use Rattle.block_arena.specs.Memory.{Buffer}
use Rattle.outside.specs.declared.slot.Slot.{Ghosts}
use Rattle.reservation_tree.specs.declared.errors.PoolErr.{PoolErr}
use Rattle.pool_model.specs.declared.event.Event.{Event}
use Rattle.pool_model.specs.declared.event.Event.TheVariants.{UnpinRefused}
use Rattle.pool_model.specs.declared.entry.Entry.{Entry}
use Rattle.store_api.specs.Holdings.{page_of}
use Rattle.store_api.specs.Refusals.{IsScratchFull, StaysPinned}
use Rattle.store_api.specs.Signs.{Grows, Signs, refuses_unpin, WasAnswered}
use Rattle.store_api.specs.Entries.{by}
use Rattle.own_entries.specs.OwnHoldings.{after_events}
use Rattle.session_calls.specs.declared.hand.Hand.{Hand}
use Rattle.local_pool.specs.Told.{held_of, signs_of}
use Rattle.local_pool.specs.Making.{Makes}
use Rattle.local_pool.proofs.Making.{makes_held, makes_grows, makes_made}

full_answered : (blocks : ℕ) (free : Option ℕ) (e : PoolErr) (old new : Signs) → IsScratchFull blocks free e → old.refused_unpins < new.refused_unpins → WasAnswered e old new
full_answered blocks None e old new full rose = absurd full
full_answered blocks (Some free) e old new full rose = subst (λ (r : PoolErr). WasAnswered r old new) (sym full) rose

module _ {D : Type 0} (slot : Ghosts D) (old new : Hand D) (p : ℕ) where
  abbrev Refused : Type 0
  Refused = Makes slot (λ events. events ≡ UnpinRefused p ∷ []) old new

  unpins_rose : Refused → (signs_of old).refused_unpins < (signs_of new).refused_unpins
  unfolding signs_of
  unpins_rose made =
      let more : length (filter (λ d. refuses_unpin d.event) new.trail) ≡ length (filter (λ d. refuses_unpin d.event) old.trail) + 1 =
      ap (λ (es : List Entry). length (filter (λ d. refuses_unpin d.event) es)) (made.trail ∙ ap (λ (events : List Event). old.trail ++ by old.session events) made.is)
      ∙ ap length (filter-append (λ (d : Entry). refuses_unpin d.event) old.trail (by old.session (UnpinRefused p ∷ [])))
      ∙ length-append (filter (λ d. refuses_unpin d.event) old.trail) (filter (λ d. refuses_unpin d.event) (by old.session (UnpinRefused p ∷ []))) in
      omega (arith, more)

  -- an unpin was refused
  pub stays_pinned : {A : Type 0} (buf : Buffer) (r : Result A (Buffer × PoolErr)) → OnErr r Refused → IfErr r (λ e. e.0 ≡ buf)
      → IfErr r (λ e. IsScratchFull (page_of p (held_of slot old)).blocks (held_of slot old).free_slots e.1)
      → IfErr r (StaysPinned p buf (held_of slot old) (held_of slot new) (signs_of old) (signs_of new))
  stays_pinned buf (Ok x) made back full = tt
  stays_pinned buf (Err e) made back full = record {
    held = makes_held slot old new made ∙ ap (after_events (held_of slot old)) made.is;
    back = back;
    cause = full;
    answered = full_answered (page_of p (held_of slot old)).blocks (held_of slot old).free_slots e.1 (signs_of old) (signs_of new) full (unpins_rose made);
    entries = makes_made slot old new made;
  }

  pub either_grows : {A E : Type 0} (P : List Event → Type 0) (r : Result A E) → OnOk r (Makes slot P old new) → OnErr r Refused → Grows (signs_of old) (signs_of new)
  either_grows P (Ok x) made refused = makes_grows slot old new made
  either_grows P (Err e) made refused = makes_grows slot old new refused
