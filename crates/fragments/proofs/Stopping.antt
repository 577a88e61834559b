-- Which feeder was stopped first.
use Rattle.std.proofs.Common.{◌≡◌, ◌<◌, ℕ, zero, suc, List, [], ◌∷◌, Err, IfErr, Result, length, slice_index_or, subst, arith}
use Rattle.crossbeam_queue.specs.Passes.{view}
use Rattle.fragments.specs.declared.place.Place.{Place}
use Rattle.fragments.specs.Causes.{HasFed, IsFirstStopped, failed_by}
use Rattle.fragments.specs.declared.dealing.Failure.{Failure}
use Rattle.fragments.specs.declared.dealing.Failure.TheVariants.{Reading, Feeding}
use Rattle.fragments.specs.declared.reading.Stop.{Stop}
use Rattle.fragments.specs.declared.reading.Stop.TheVariants as half
use Rattle.fragments.specs.Fragments.{DidAt}
use Rattle.fragments.specs.Places.{IsFirstFrom}
use Rattle.fragments.specs.Running.{StopsAt}
use Rattle.fragments.proofs.Dealt.{on_ok}
use Rattle.lanes.specs.Lanes.{DidAll}

module _ {T F C E : Type 0} (took : F → C → F → C → List T → Type 0) (went : F → C → F → C → Type 0) (stops : F → C → C → E → Type 0) where
  -- the caller's own feeder is the first of all
  pub own_stopped : (op op' : F) (beside beside' : C) (ops ops' : List F) (besides besides' : List C) (e : E) → stops op beside beside' e
      → IsFirstStopped took stops (op ∷ ops) (beside ∷ besides) (op' ∷ ops') (beside' ∷ besides') e
  own_stopped op op' beside beside' ops ops' besides besides' e why = record { at = 0; below = omega arith; so = λ f c. why; before = λ k f c below. absurd (omega arith) }

  -- where it has taken something, the first of the others is the first of all
  pub other_stopped : (items : List T) (op op' : F) (beside beside' : C) (places places' : List (Place T E)) (ops ops' : List F) (besides besides' : List C) (e : E)
      → took op beside op' beside' items → DidAll (DidAt took went stops) places ops besides places' ops' besides' → length places ≡ length ops → IsFirstFrom 0 e places'
      → IsFirstStopped took stops (op ∷ ops) (beside ∷ besides) (op' ∷ ops') (beside' ∷ besides') e
  other_stopped items op op' beside beside' places [] ops ops' besides besides' e own did len first = let b = first.below in absurd (omega arith)
  other_stopped items op op' beside beside' places (p ∷ ps) ops ops' besides besides' e own did len first =
      let sizes = did.places_len in
      let b = first.below in
      record {
        at = suc first.at;
        below = omega arith;
        so = λ f c.
            let here = did.each first.at p f c (omega arith) in
            subst (λ r. IfErr r (stops (slice_index_or ops first.at f) (slice_index_or besides first.at c) (slice_index_or besides' first.at c))) (first.so p) here.run.cause;
        before = before;
      }
    where
      before : (k : ℕ) (f : F) (c : C) → k < suc first.at
          → HasFed took (slice_index_or (op ∷ ops) k f) (slice_index_or (beside ∷ besides) k c) (slice_index_or (op' ∷ ops') k f) (slice_index_or (beside' ∷ besides') k c)
      before zero f c below = record { items = items; fed = own }
      before (suc k) f c below =
          let sizes = did.places_len in
          let b = first.below in
          let here = did.each k p f c (omega arith) in
          record {
            items = (view (slice_index_or (p ∷ ps) k p).pass).taken;
            fed = on_ok (slice_index_or (p ∷ ps) k p).outcome (first.before k p (omega arith) (omega arith)) here.run.fed;
          }

-- what holds of the giver's refusal, and of its feeder's, holds of what stopped the deal
module _ {S Q E : Type 0} (went : S → S → Type 0) (why : S → S → Q → Type 0) (giver giver' : S) (feeding : E → Type 0) (P : Failure Q E → Type 0) where
  pub stop_is_cause : (s : Stop Q E) → StopsAt went why giver giver' feeding s → went giver giver → ((q : Q) → why giver giver' q → P (Reading q))
      → ((e : E) → feeding e → P (Feeding e)) → P (failed_by s)
  stop_is_cause (half.Reading q) at here reading own = reading q (at giver here)
  stop_is_cause (half.Feeding e) at here reading own = own e at
