-- After each entry, sessions keep the failures that the history tells.
use Rattle.std.proofs.Common.{◌≡◌, ◌≢◌, ℕ, ◌+◌, ◌==◌, false, ◌||◌, Some, None, List, [], ◌∷◌, ◌++◌, length, refl, ap, sym, ◌∙◌, subst, arith, inl, inr, eq-eqb, ne_eqb}
use Rattle.std.proofs.lemmas.List.{append_assoc, append-nil, length-append}
use Rattle.std.specs.Ordering.{nat_cmp}
use Rattle.std.specs.FinMap.{get, insert, remove, empty, get-empty}
use Rattle.reservation_tree.proofs.Maps.{get_same, get_other, removed_same, removed_other, same_or_other}
use Rattle.pool_model.specs.declared.event.Event.{Event}
use Rattle.pool_model.specs.declared.event.Event.TheVariants.{Ask, AddTracker, CloseTracker, ReadFailed, WriteFailed}
use Rattle.pool_model.specs.declared.entry.Entry.{Entry}
use Rattle.pool_model.specs.State.{opened, Session, State, shown}
use Rattle.pool_model.specs.Owning.{IsClientOf}
use Rattle.pool_model.specs.LookingBack.{Made, maker_of}
use Rattle.pool_model.specs.MayFollow.{Allows, MayFollow}
use Rattle.pool_model.specs.Effects.{effect, after}
use Rattle.pool_model.specs.Sound.{IsSound}
use Rattle.pool_model.specs.HistoryLaws.{LegalKeepsFailures}
use Rattle.pool_model.proofs.Seats.{some_is}
use Rattle.pool_model.proofs.Fronts.{holds_after}
use Rattle.pool_model.proofs.Names.{same_count}
use Rattle.pool_model.proofs.Made.{still_made, TellsPages, tells_on}
use Rattle.pool_model.proofs.Owners.{still_client}
use Rattle.pool_model.proofs.Keeping.{changed_session, left_session, Keeps, calm, cleared, but_one}
use Rattle.pool_model.proofs.Failures.{counted_client, PagesOwned, owned_on, of_one, fault, no_number, fresh_number}

module _ (all before : List Entry) (s : State) (sound : IsSound s) (owned : PagesOwned s) (told : TellsPages before s) (count : s.entries ≡ shown (length before))
    (extends : (p : ℕ) (m : Made) → maker_of before p ≡ Some m → maker_of all p ≡ Some m)
    (kept : (m : ℕ) (x : Session) → get s.sessions m ≡ Some x → Keeps all before s m x) where
  -- a session after an event
  step : (maker : ℕ) (event : Event) → Allows before s maker event → (m : ℕ) (y : Session) → get (effect maker event s).sessions m ≡ Some y
      → Keeps all (before ++ record { maker = maker; event = event } ∷ []) (effect maker event s) m y
  step maker Ask may m y there = elim (changed_session (λ failures. empty) maker s.sessions m y there) [
    | inl other ↦ calm all before s (effect maker Ask s) _ m y (kept m y other.1) (λ c client. still_client before s sound maker Ask may m c client refl)
        (λ c. ap (λ b. b || (false || false)) (ne_eqb maker m (λ same. other.0 (sym same)))) (λ c. refl)
    | inr own ↦ subst (Keeps all (before ++ record { maker = maker; event = Ask } ∷ []) (effect maker Ask s) m) own.3
        (cleared all before s (effect maker Ask s) _ m (record own.1 { failures = empty }) (λ c. get-empty nat_cmp c)
        (λ c. ap (λ b. b || (false || false)) (eq-eqb maker m (sym own.0))) (λ c. refl))
  ]
  step maker (AddTracker t parent limit (Some quota)) may m y there =
      let new : Session = record { query = t; quota = quota; failures = empty } in
      elim (same_or_other m maker) [
        | inl here ↦
            let same : new ≡ y = some_is new y (sym (get_same s.sessions maker new) ∙ ap (get (insert s.sessions maker new)) (sym here) ∙ there) in
            subst (Keeps all (before ++ record { maker = maker; event = AddTracker t parent limit (Some quota) } ∷ []) (effect maker (AddTracker t parent limit (Some quota)) s) m) same
            (cleared all before s (effect maker (AddTracker t parent limit (Some quota)) s) _ m new (λ c. get-empty nat_cmp c)
            (λ c. ap (λ b. b || ((t == c) || false)) (eq-eqb maker m (sym here))) (λ c. refl))
        | inr other ↦
            let old : get s.sessions m ≡ Some y = sym (get_other s.sessions maker new m other) ∙ there in
            let not_by : (c : ℕ) → ((maker == m) || ((t == c) || false)) ≡ ((t == c) || false) = λ c. ap (λ b. b || ((t == c) || false)) (ne_eqb maker m (λ same. other (sym same))) in
            but_one all before s (effect maker (AddTracker t parent limit (Some quota)) s) _ m y y t (kept m y old)
            (fresh_number all before s sound owned told count extends kept m y old t may.fresh) (λ c apart. refl)
            (λ c apart client. still_client before s sound maker (AddTracker t parent limit (Some quota)) may m c client refl)
            (λ c same. not_by c ∙ ap (λ b. b || false) (eq-eqb t c (sym same)))
            (λ c apart. not_by c ∙ ap (λ b. b || false) (ne_eqb t c (λ same. apart (sym same)))) (λ c. refl)
      ]
  step maker (AddTracker t parent limit None) may m y there =
      but_one all before s (effect maker (AddTracker t parent limit None) s) _ m y y t (kept m y there)
      (fresh_number all before s sound owned told count extends kept m y there t may.fresh) (λ c apart. refl)
      (λ c apart client. still_client before s sound maker (AddTracker t parent limit None) may m c client refl)
      (λ c same. ap (λ b. b || false) (eq-eqb t c (sym same)))
      (λ c apart. ap (λ b. b || false) (ne_eqb t c (λ same. apart (sym same)))) (λ c. refl)
  step maker (CloseTracker t) may m y there =
      let still : (c : ℕ) → c ≢ t → IsClientOf s m c → IsClientOf (effect maker (CloseTracker t) s) m c = λ c apart client.
      still_client before s sound maker (CloseTracker t) may m c client (ne_eqb t c (λ same. apart (sym same))) in
      elim (left_session maker t s.sessions m y there) [
        | inl other ↦ but_one all before s (effect maker (CloseTracker t) s) _ m y y t (kept m y other.1)
            (no_number all before s sound owned told count extends kept m y other.1 t (of_one s sound maker m t other.0 may.own)) (λ c apart. refl) still
            (λ c same. eq-eqb t c (sym same)) (λ c apart. ne_eqb t c (λ same. apart (sym same))) (λ c. refl)
        | inr own ↦ subst (Keeps all (before ++ record { maker = maker; event = CloseTracker t } ∷ []) (effect maker (CloseTracker t) s) m) own.3
            (but_one all before s (effect maker (CloseTracker t) s) _ m own.1 (record own.1 { failures = remove own.1.failures t }) t (kept m own.1 own.2)
            (removed_same own.1.failures t) (λ c apart. removed_other own.1.failures t c apart) still
            (λ c same. eq-eqb t c (sym same)) (λ c apart. ne_eqb t c (λ same. apart (sym same))) (λ c. refl))
      ]
  step maker (ReadFailed p sum_before sum_after) may m y there =
      fault all before s sound owned told count extends kept maker (ReadFailed p sum_before sum_after) may p may.ends.page may.ends.own.lives (effect maker (ReadFailed p sum_before sum_after) s)
      (λ n c client. still_client before s sound maker (ReadFailed p sum_before sum_after) may n c client refl) (λ n c. refl) (λ n c. refl) m y there
  step maker (WriteFailed p sum_before sum_after) may m y there =
      fault all before s sound owned told count extends kept maker (WriteFailed p sum_before sum_after) may p may.ends.page may.ends.lives (effect maker (WriteFailed p sum_before sum_after) s)
      (λ n c client. still_client before s sound maker (WriteFailed p sum_before sum_after) may n c client refl) (λ n c. refl) (λ n c. refl) m y there
  step maker event may m y there = calm all before s (effect maker event s) (record { maker = maker; event = event }) m y (kept m y there) (λ c client. still_client before s sound maker event may m c client refl) (λ c. refl) (λ c. refl)

-- what is kept along a history that is part of a longer one
record Noted (all h : List Entry) (s : State) : Type 0 where
  count : s.entries ≡ shown (length h)
  owned : PagesOwned s
  told : TellsPages h s
  kept : (rest : List Entry) → h ++ rest ≡ all → (m : ℕ) (x : Session) → get s.sessions m ≡ Some x → Keeps all h s m x

noted_on : (all before : List Entry) (s : State) → IsSound s → Noted all before s → (e : Entry) → MayFollow before s e → Noted all (before ++ e ∷ []) (after s e)
noted_on all before s sound noted e may = record {
  count =
      let here : (effect e.maker e.event s).entries ≡ s.entries = same_count e.maker e.event s in
      let was : s.entries ≡ shown (length before) = noted.count in
      let more : length (before ++ e ∷ []) ≡ length before + 1 = length-append before (e ∷ []) in
      omega (arith, here, was, more);
  owned = owned_on before s sound noted.owned e may;
  told = tells_on before s sound noted.told e may;
  kept = λ rest whole m y there.
      let longer : before ++ e ∷ rest ≡ all = sym (append_assoc before (e ∷ []) rest) ∙ whole in
      let keeps : Keeps all (before ++ e ∷ []) (effect e.maker e.event s) m y =
      step all before s sound noted.owned noted.told noted.count (λ p made is. subst (λ (h : List Entry). maker_of h p ≡ Some made) longer (still_made before (e ∷ rest) p made is))
      (noted.kept (e ∷ rest) longer) e.maker e.event may.allows m y there in
      record { kept = λ c j is. counted_client (effect e.maker e.event s) m c (keeps.kept c j is); noted = keeps.noted };
}

pub legal_keeps_failures : LegalKeepsFailures
legal_keeps_failures o h legal m x is =
    let start : Noted h [] (opened o) = record {
      count = refl;
      owned = λ p y there. let none : None ≡ Some y = sym (get-empty nat_cmp p) ∙ there in cc;
      told = record { as_made = λ p y there. let none : None ≡ Some y = sym (get-empty nat_cmp p) ∙ there in cc; fresh = λ p above. refl };
      kept = λ rest whole n y there. let none : None ≡ Some y = sym (get-empty nat_cmp n) ∙ there in cc;
    } in
    ((holds_after (Noted h) (noted_on h) o start h legal).kept [] (append-nil h) m x is).noted
