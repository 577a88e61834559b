-- What calls leave that enter events, and calls one after the other.
use Rattle.std.proofs.Common.{◌≡◌, List, [], ◌∷◌, ◌++◌, Result, Ok, Err, OnOk, OnErr, IsErr, refl, ap, sym, ◌∙◌, subst, arith}
use Rattle.std.proofs.lemmas.Bool.{false≢true}
use Rattle.std.proofs.lemmas.List.{append_assoc}
use Rattle.outside.specs.declared.slot.Slot.{Ghosts}
use Rattle.pool_model.specs.declared.entry.Entry.{Entry as Event}
use Rattle.pool_model.specs.State.{State}
use Rattle.pool_model.specs.Effects.{after}
use Rattle.pool_model.specs.Legal.{run}
use Rattle.pin_core.specs.declared.parts.Parts.{Parts}
use Rattle.pin_core.specs.StateOf.{state_of}
use Rattle.pin_core.specs.Invariant.{IsKept}
use Rattle.pin_core.specs.Standing.{StandsFor, Enters}

runs_on : (s : State) (a b : List Event) → run s (a ++ b) ≡ run (run s a) b
runs_on s [] b = refl
runs_on s (e ∷ a) b = runs_on (after s e) a b

module _ {D : Type 0} where
  -- all is kept, and the parts stand for these entries more
  pub record Done (events : List Event) (gone come : List D) (old new : Parts D) : Type 1 where
    pub kept : IsKept new
    pub enters : (slot : Ghosts D) → Enters slot events gone come old new

  -- some entries that move no slots, and then others
  pub done_then : (a b : List Event) (gone come : List D) (old mid new : Parts D) → Done a [] [] old mid → Done b gone come mid new → Done (a ++ b) gone come old new
  done_then a b gone come old mid new first second = record {
    kept = second.kept;
    enters = λ slot. let one = first.enters slot in let two = second.enters slot in record {
      state = two.state ∙ ap (λ (s : State). run s b) one.state ∙ sym (runs_on (state_of old) a b);
      stands = λ o h stands. subst (λ (l : List Event). StandsFor slot o l new) (append_assoc h a b) (two.stands o (h ++ a) (one.stands o h stands));
      slots = λ measure. let x = one.slots measure in let y = two.slots measure in omega (arith, x, y);
    };
  }

  -- what a call leaves that enters these where it answers Ok, and else changes nothing
  pub record Answered {A E : Type 0} (r : Result A E) (events : List Event) (old new : Parts D) : Type 1 where
    pub kept : IsKept new
    pub ok : (slot : Ghosts D) → OnOk r (Enters slot events [] [] old new)

  pub answered : {A E : Type 0} (r : Result A E) (events : List Event) (v made new : Parts D) → IsKept v → OnOk r (new ≡ made) → OnErr r (new ≡ v)
      → ((IsErr r → ⊥) → Done events [] [] v made) → Answered r events v new
  answered (Ok a) events v made new is_kept is none done =
      let d : Done events [] [] v made = done (λ err. false≢true err) in
      record {
        kept = subst IsKept (sym is) d.kept;
        ok = λ slot. subst (λ (z : Parts D). Enters slot events [] [] v z) (sym is) (d.enters slot);
      }
  answered {A} {E} (Err e) events v made new is_kept is none done = record { kept = subst IsKept (sym none) is_kept; ok = λ slot. tt }
