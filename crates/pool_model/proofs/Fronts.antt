-- Histories one after the other.
use Rattle.std.proofs.Common.{◌≡◌, List, [], ◌∷◌, ◌++◌, refl, sym, subst}
use Rattle.std.proofs.lemmas.List.{append_assoc, append-nil}
use Rattle.pool_model.specs.declared.entry.Entry.{Entry}
use Rattle.pool_model.specs.State.{Opening, opened, State}
use Rattle.pool_model.specs.MayFollow.{MayFollow}
use Rattle.pool_model.specs.Effects.{after}
use Rattle.pool_model.specs.Legal.{run, Follow, state_after, IsLegal}
use Rattle.pool_model.specs.Sound.{IsSound}
use Rattle.pool_model.specs.HistoryLaws.{LegalFronts, LegalGrows, LegalGrowsSo, StateRunsOn}
use Rattle.pool_model.proofs.Opened.{opened_sound}
use Rattle.pool_model.proofs.Kept.{entry_sound}

run_append : (s : State) (a b : List Entry) → run s (a ++ b) ≡ run (run s a) b
run_append s [] b = refl
run_append s (e ∷ a) b = run_append (after s e) a b

front_follows : (before : List Entry) (s : State) (a b : List Entry) → Follow before s (a ++ b) → Follow before s a
front_follows before s [] b follow = tt
front_follows before s (e ∷ a) b follow = (follow.0, front_follows (before ++ e ∷ []) (after s e) a b follow.1)

-- what stands behind an entry that came stands behind the rest
shifted : (before : List Entry) (e : Entry) (a : List Entry) (s : State) (b : List Entry) → Follow ((before ++ e ∷ []) ++ a) s b → Follow (before ++ e ∷ a) s b
shifted before e a s b = subst (λ (h : List Entry). Follow h s b) (append_assoc before (e ∷ []) a)

shifted_back : (before : List Entry) (e : Entry) (a : List Entry) (s : State) (b : List Entry) → Follow (before ++ e ∷ a) s b → Follow ((before ++ e ∷ []) ++ a) s b
shifted_back before e a s b = subst (λ (h : List Entry). Follow h s b) (sym (append_assoc before (e ∷ []) a))

rest_follows : (before : List Entry) (s : State) (a b : List Entry) → Follow before s (a ++ b) → Follow (before ++ a) (run s a) b
rest_follows before s [] b follow = subst (λ (h : List Entry). Follow h s b) (sym (append-nil before)) follow
rest_follows before s (e ∷ a) b follow = shifted before e a (run (after s e) a) b (rest_follows (before ++ e ∷ []) (after s e) a b follow.1)

both_follow : (before : List Entry) (s : State) (a b : List Entry) → Follow before s a → Follow (before ++ a) (run s a) b → Follow before s (a ++ b)
both_follow before s [] b first rest = subst (λ (h : List Entry). Follow h s b) (append-nil before) rest
both_follow before s (e ∷ a) b first rest = (first.0, both_follow (before ++ e ∷ []) (after s e) a b first.1 (shifted_back before e a (run (after s e) a) b rest))

pub legal_fronts : LegalFronts
legal_fronts o front more legal = front_follows [] (opened o) front more legal

pub legal_grows : LegalGrows
legal_grows o h more legal follow = both_follow [] (opened o) h more legal follow

pub legal_grows_so : LegalGrowsSo
legal_grows_so o h more legal = rest_follows [] (opened o) h more legal

pub state_runs_on : StateRunsOn
state_runs_on o h more = run_append (opened o) h more

-- what an opened pool has and each entry keeps holds after every legal history
module _ (Keeps : List Entry → State → Type 0)
    (step : (before : List Entry) (s : State) → IsSound s → Keeps before s → (e : Entry) → MayFollow before s e → Keeps (before ++ e ∷ []) (after s e)) where
  kept_on : (before : List Entry) (s : State) → IsSound s → Keeps before s → (es : List Entry) → Follow before s es → Keeps (before ++ es) (run s es)
  kept_on before s sound kept [] follow = subst (λ (h : List Entry). Keeps h s) (sym (append-nil before)) kept
  kept_on before s sound kept (e ∷ es) follow =
      subst (λ (h : List Entry). Keeps h (run (after s e) es)) (append_assoc before (e ∷ []) es)
      (kept_on (before ++ e ∷ []) (after s e) (entry_sound before s sound e follow.0) (step before s sound kept e follow.0) es follow.1)

  pub holds_after : (o : Opening) → Keeps [] (opened o) → (h : List Entry) → IsLegal o h → Keeps h (state_after o h)
  holds_after o first h legal = kept_on [] (opened o) (opened_sound o) first h legal
