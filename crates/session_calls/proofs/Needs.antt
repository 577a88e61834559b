-- What a session entered was needed, whatever others entered meanwhile.
use Rattle.std.proofs.Common.{◌≡◌, ℕ, ◌==◌, List, [], ◌∷◌, ◌++◌, true, false, cond, filter, refl, sym, ap, ◌∙◌, subst, eq-eqb}
use Rattle.std.proofs.lemmas.Bool.{false≢true}
use Rattle.std.specs.List.{AllByRecursion}
use Rattle.outside.specs.declared.slot.Slot.{Ghosts}
use Rattle.pool_model.specs.declared.event.Event.{Event}
use Rattle.pool_model.specs.declared.event.Event.TheVariants.{WriteOk, WriteFailed}
use Rattle.pool_model.specs.declared.entry.Entry.{Entry}
use Rattle.pool_model.specs.LookingBack.{is_by}
use Rattle.pool_model.specs.State.{Opening, State}
use Rattle.pool_model.specs.Sums.{HasRoom}
use Rattle.pool_model.specs.Effects.{after}
use Rattle.pool_model.specs.Legal.{run, state_after}
use Rattle.pool_model.proofs.Fronts.{state_runs_on}
use Rattle.store_api.specs.Entries.{by}
use Rattle.pin_core.specs.StateOf.{state_of}
use Rattle.pin_core.specs.Standing.{StandsFor}
use Rattle.pin_core.specs.calls.Turns.{start_entry}
use Rattle.session_calls.specs.Writing.{IsEnd}
use Rattle.session_calls.specs.declared.hand.Hand.{Hand}
use Rattle.session_calls.specs.Acting.{ActsThese}
use Rattle.session_calls.specs.Jobs.{DoesIn}
use Rattle.session_calls.specs.Needing.{IsNeeded, AreNeeded, EntersNeeded}
use Rattle.session_calls.proofs.Needed.{needs_more}

module _ (t amount : ℕ) where
  -- a call may enter such an event in any state
  abbrev pub IsFree : Event → Type 0
  IsFree e = (s : State) → IsNeeded t amount s e

  abbrev pub AreFree : List Event → Type 0
  AreFree events = AllByRecursion (λ e. IsFree e) events

  pub end_free : (p : ℕ) (end : Event) → IsEnd p end → AreFree (end ∷ [])
  end_free p (WriteOk q) is = (λ s. tt, tt)
  end_free p (WriteFailed q before now) is = (λ s. tt, tt)
  end_free p _ is = absurd is

  free_by : (m : ℕ) (events : List Event) → AreFree events → AllByRecursion (λ e. IsFree e.event) (by m events)
  free_by m [] free = tt
  free_by m (e ∷ events) free = (free.0, free_by m events free.1)

  -- of others' entries nothing is asked
  free_all : (m : ℕ) (es : List Entry) → AllByRecursion (λ e. IsFree e.event) (filter (is_by m) es) → (s : State) → AreNeeded m t amount s es
  free_all m [] free s = tt
  free_all m (e ∷ es) free s =
      elim (e.maker == m) as (λ b. (e.maker == m) ≡ b → AllByRecursion (λ d. IsFree d.event) (cond b (e ∷ filter (is_by m) es) (filter (is_by m) es)) → AreNeeded m t amount s (e ∷ es)) [
        | true ↦ λ is rest. (λ own. rest.0 s, free_all m es rest.1 (after s e))
        | false ↦ λ is rest. (λ own. absurd (false≢true (sym is ∙ eq-eqb e.maker m own)), free_all m es rest (after s e))
      ] refl free

  module _ {D : Type 0} where
    -- the session entered these, and nobody else any
    pub needs_own : (old new : Hand D) (events : List Event) → new.trail ≡ old.trail ++ by old.session events → state_of new.state ≡ run (state_of old.state) (by old.session events)
        → AreNeeded old.session t amount (state_of old.state) (by old.session events) → EntersNeeded t amount old new
    needs_own old new events trail state needed = record { entries = by old.session events; trail = trail; state = state; needed = needed }

    module _ (slot : Ghosts D) (o : Opening) where
      -- where the value stands for both histories, entries made the state of it
      pub state_grew : (old new : Hand D) (more : List Entry) → StandsFor slot o old.trail old.state → StandsFor slot o new.trail new.state → new.trail ≡ old.trail ++ more
          → state_of new.state ≡ run (state_of old.state) more
      state_grew old new more was now grew =
          now.state ∙ ap (state_after o) grew ∙ state_runs_on o old.trail more ∙ ap (λ (s : State). run s more) (sym was.state)

      -- a step of one event that may be entered in any state
      pub needs_step : (old new : Hand D) → StandsFor slot o old.trail old.state → StandsFor slot o new.trail new.state → (e : Event) → IsFree e → ActsThese (e ∷ []) old new → EntersNeeded t amount old new
      needs_step old new was now e free acts =
          needs_own old new acts.events acts.trail (state_grew old new (by old.session acts.events) was now acts.trail)
          (subst (λ (events : List Event). AreNeeded old.session t amount (state_of old.state) (by old.session events)) (sym acts.is) (λ own. free (state_of old.state), tt))

      -- a call asked, and then there was such a step
      pub needs_then : {P : List Event → Type 0} (start now new : Hand D) → DoesIn P start now → EntersNeeded t amount start now → StandsFor slot o now.trail now.state → StandsFor slot o new.trail new.state
          → (e : Event) → IsFree e → ActsThese (e ∷ []) now new → EntersNeeded t amount start new
      needs_then start now new asked before was back e free acts = needs_more t amount start now new asked.session before (needs_step now new was back e free acts)

      -- what the session did may be entered in any state
      pub needs_does : {P : List Event → Type 0} (old new : Hand D) → StandsFor slot o old.trail old.state → StandsFor slot o new.trail new.state → (did : DoesIn P old new) → AreFree did.does.events → EntersNeeded t amount old new
      needs_does old new was now did free = record {
        entries = did.does.more;
        trail = did.does.grew;
        state = state_grew old new did.does.more was now did.does.grew;
        needed =
            free_all old.session did.does.more
            (subst (λ (es : List Entry). AllByRecursion (λ e. IsFree e.event) es) (sym did.does.mine) (free_by old.session did.does.events free)) (state_of old.state);
      }

      -- it waited
      pub needs_waited : (old went new : Hand D) → went ≡ old → StandsFor slot o old.trail old.state → StandsFor slot o new.trail new.state → DoesIn (λ events. events ≡ []) went new → EntersNeeded t amount old new
      needs_waited old went new same was now did =
          let waited : DoesIn (λ events. events ≡ []) old new = subst (λ (hand : Hand D). DoesIn (λ events. events ≡ []) hand new) same did in
          needs_does old new was now waited (subst AreFree (sym waited.does.is) tt)

      -- a write began while room lacked, and ended
      pub needs_write : (old went new : Hand D) (p : ℕ) (end : Event) → went.trail ≡ old.trail ++ start_entry old.session p ∷ [] → went.session ≡ old.session
          → state_of went.state ≡ after (state_of old.state) (start_entry old.session p) → (HasRoom (state_of old.state) t amount → ⊥)
          → StandsFor slot o went.trail went.state → StandsFor slot o new.trail new.state → IsEnd p end → DoesIn (λ events. events ≡ end ∷ []) went new → EntersNeeded t amount old new
      needs_write old went new p end trail session state full was now ended did =
          needs_more t amount old went new session
          (record { entries = start_entry old.session p ∷ []; trail = trail; state = state; needed = (λ own. full, tt) })
          (needs_does went new was now did (subst AreFree (sym did.does.is) (end_free p end ended)))
