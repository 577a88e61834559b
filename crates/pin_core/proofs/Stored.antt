-- What writes stored, as a history tells of their pages, stays when it grows.
use Rattle.std.proofs.Common.{◌≡◌, ℕ, List, [], ◌∷◌, ◌++◌, Some, refl, sym, ap, ◌∙◌, ◌+◌, arith}
use Rattle.std.proofs.lemmas.List.Sums.{sum_by-cons, sum_by-append}
use Rattle.std.specs.List.{sum_by, AllByRecursion}
use Rattle.std.specs.Bool.{⊤}
use Rattle.pool_model.specs.declared.event.Event.{Event as What}
use Rattle.pool_model.specs.declared.event.Event.TheVariants.{WriteOk}
use Rattle.pool_model.specs.declared.entry.Entry.{Entry as Event}
use Rattle.pool_model.specs.State.{Opening, State}
use Rattle.pool_model.specs.LookingBack.{Made, maker_of}
use Rattle.pool_model.specs.HistoryLaws.{made}
use Rattle.pool_model.specs.MayFollow.{Allows, MayFollow}
use Rattle.pool_model.specs.Effects.{after}
use Rattle.pool_model.specs.Legal.{IsLegal}
use Rattle.pool_model.specs.Sound.{IsSound}
use Rattle.pool_model.proofs.Made.{TellsPages, tells_on, still_made, legal_tells}
use Rattle.pool_model.proofs.Fronts.{holds_after}
use Rattle.pin_core.specs.Tallies.{blocks_of, stored_by, written_blocks}

-- a page that was written was made
abbrev IsKnown : List Event → What → Type 0
IsKnown h (WriteOk p) = (m : Made) × (maker_of h p ≡ Some m)
IsKnown h _ = ⊤

abbrev AllKnown : List Event → List Event → Type 0
AllKnown h es = AllByRecursion (λ e. IsKnown h e.event) es

known_more : (h more : List Event) (e : What) → IsKnown h e → IsKnown (h ++ more) e
known_more h more (WriteOk p) known = (known.0, still_made h more p known.0 known.1)
known_more h more _ known = tt

all_more : (h more es : List Event) (e : Event) → AllKnown h es → IsKnown (h ++ more) e.event → AllKnown (h ++ more) (es ++ e ∷ [])
all_more h more [] e all last = (last, tt)
all_more h more (d ∷ es) e all last = (known_more h more d.event all.0, all_more h more es e all.1 last)

record Knows (h : List Event) (s : State) : Type 0 where
  tells : TellsPages h s
  known : AllKnown h h

known_next : (before more : List Event) (s : State) (maker : ℕ) (e : What) → TellsPages before s → Allows before s maker e → IsKnown (before ++ more) e
known_next before more s maker (WriteOk p) tells may = (made may.page, still_made before more p (made may.page) (tells.as_made p may.page may.lives))
known_next before more s maker _ tells may = tt

step : (before : List Event) (s : State) → IsSound s → Knows before s → (e : Event) → MayFollow before s e → Knows (before ++ e ∷ []) (after s e)
step before s sound knows e may = record {
  tells = tells_on before s sound knows.tells e may;
  known = all_more before (e ∷ []) before e knows.known (known_next before (e ∷ []) s e.maker e.event knows.tells may.allows);
}

all_known : (o : Opening) (h : List Event) → IsLegal o h → AllKnown h h
all_known o h legal = (holds_after Knows step o (record { tells = legal_tells o [] tt; known = tt }) h legal).known

stored_still : (h more : List Event) (e : What) → IsKnown h e → stored_by (h ++ more) e ≡ stored_by h e
stored_still h more (WriteOk p) known = ap blocks_of (still_made h more p known.0 known.1) ∙ sym (ap blocks_of known.1)
stored_still h more _ known = refl

sums_still : (h more es : List Event) → AllKnown h es → sum_by (λ e. stored_by (h ++ more) e.event) es ≡ sum_by (λ e. stored_by h e.event) es
sums_still h more [] known = refl
sums_still h more (e ∷ es) known =
    let one = sum_by-cons (λ (e : Event). stored_by (h ++ more) e.event) e es in
    let two = sum_by-cons (λ (e : Event). stored_by h e.event) e es in
    let first = stored_still h more e.event known.0 in
    let rest = sums_still h more es known.1 in
    omega (arith, one, two, first, rest)

-- the blocks that were written, and those of more entries
pub written_more : (o : Opening) (h more : List Event) → IsLegal o h → written_blocks (h ++ more) ≡ written_blocks h + sum_by (λ e. stored_by (h ++ more) e.event) more
written_more o h more legal =
    let both = sum_by-append (λ (e : Event). stored_by (h ++ more) e.event) h more in
    let still = sums_still h more h (all_known o h legal) in
    omega (arith, both, still)
