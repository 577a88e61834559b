-- A session's own entries tell whether it is live, and its query tracker.
use Rattle.std.proofs.Common.{◌≡◌, ◌≢◌, ℕ, ◌==◌, true, false, if◌then◌else◌, Option, Some, None, option_map, List, [], ◌∷◌, ◌++◌, refl, ap, sym, ◌∙◌, inl, inr}
use Rattle.std.specs.Ordering.{nat_cmp}
use Rattle.std.specs.FinMap.{FinMap, get, insert, remove, empty, get-empty}
use Rattle.reservation_tree.proofs.Maps.{get_same, get_other, removed_same, removed_other, same_or_other}
use Rattle.pool_model.specs.declared.event.Event.{Event}
use Rattle.pool_model.specs.declared.event.Event.TheVariants.{Ask, AddTracker, CloseTracker, ReadFailed, WriteFailed}
use Rattle.pool_model.specs.declared.entry.Entry.{Entry}
use Rattle.pool_model.specs.State.{Session, Sessions, State, page_at}
use Rattle.pool_model.specs.LookingBack.{opens, made_by}
use Rattle.pool_model.specs.Parts.{with_failures, keep_first, without_tracker}
use Rattle.pool_model.specs.MayFollow.{MayFollow}
use Rattle.pool_model.specs.Effects.{effect, after}
use Rattle.pool_model.specs.Sound.{IsSound}
use Rattle.pool_model.specs.OwnLaws.{query_after, query_from, LegalSessionsAreTold}
use Rattle.pool_model.proofs.Fronts.{holds_after}
use Rattle.pool_model.proofs.OwnEntries.{made_by_other, made_more, made_first}

-- the query tracker of a session, if it is live
abbrev query_in : Option Session → Option ℕ
query_in o = option_map (λ x. x.query) o

failures_query : (change : FinMap nat_cmp ℕ → FinMap nat_cmp ℕ) (k : ℕ) (old : Sessions) (m : ℕ) → query_in (get (with_failures change k old) m) ≡ query_in (get old m)
failures_query change k old m =
    elim (get old k) as (λ o. get old k ≡ o → query_in (get (elim o [ None ↦ old | Some x ↦ insert old k (record x { failures = change x.failures }) ]) m) ≡ query_in (get old m)) [
      | None ↦ λ is. refl
      | Some x ↦ λ is. elim (same_or_other m k) [
        | inl here ↦ ap (λ (q : ℕ). query_in (get (insert old k (record x { failures = change x.failures })) q)) here ∙ ap query_in (get_same old k _) ∙ sym (ap query_in (ap (get old) here ∙ is))
        | inr other ↦ ap query_in (get_other old k _ m other)
      ]
    ] refl

other_closes : (maker t : ℕ) (old : Sessions) (m : ℕ) → m ≢ maker → query_in (get (without_tracker maker t old) m) ≡ query_in (get old m)
other_closes maker t old m other =
    elim (get old maker) as (λ o. query_in (get (elim o [ None ↦ old | Some x ↦ if x.query == t then remove old maker else insert old maker (record x { failures = remove x.failures t }) ]) m) ≡ query_in (get old m)) [
      | None ↦ refl
      | Some x ↦ elim (x.query == t) as (λ b. query_in (get (if b then remove old maker else insert old maker (record x { failures = remove x.failures t })) m) ≡ query_in (get old m)) [
        | true ↦ ap query_in (removed_other old maker m other)
        | false ↦ ap query_in (get_other old maker _ m other)
      ]
    ]

own_closes : (m t : ℕ) (old : Sessions) → query_in (get (without_tracker m t old) m) ≡ query_after (CloseTracker t) (query_in (get old m))
own_closes m t old =
    elim (get old m) as (λ o. get old m ≡ o → query_in (get (elim o [ None ↦ old | Some x ↦ if x.query == t then remove old m else insert old m (record x { failures = remove x.failures t }) ]) m) ≡ query_after (CloseTracker t) (query_in o)) [
      | None ↦ λ is. ap query_in is
      | Some x ↦ λ is. elim (x.query == t) as (λ b. query_in (get (if b then remove old m else insert old m (record x { failures = remove x.failures t })) m) ≡ (if b then None else Some x.query)) [
        | true ↦ ap query_in (removed_same old m)
        | false ↦ ap query_in (get_same old m _)
      ]
    ] refl

-- another maker neither begins nor ends the session
other_query : (s : State) (maker m : ℕ) → m ≢ maker → (event : Event) → query_in (get (effect maker event s).sessions m) ≡ query_in (get s.sessions m)
other_query s maker m other Ask = failures_query (λ failures. empty) maker s.sessions m
other_query s maker m other (AddTracker t parent limit (Some quota)) = ap query_in (get_other s.sessions maker _ m other)
other_query s maker m other (AddTracker t parent limit None) = refl
other_query s maker m other (CloseTracker t) = other_closes maker t s.sessions m other
other_query s maker m other (ReadFailed p sum_before sum_after) = failures_query (keep_first (page_at s p).client s.entries) (page_at s p).session s.sessions m
other_query s maker m other (WriteFailed p sum_before sum_after) = failures_query (keep_first (page_at s p).client s.entries) (page_at s p).session s.sessions m
other_query s maker m other _ = refl

own_query : (s : State) (m : ℕ) (event : Event) → query_in (get (effect m event s).sessions m) ≡ query_after event (query_in (get s.sessions m))
own_query s m Ask = failures_query (λ failures. empty) m s.sessions m
own_query s m (AddTracker t parent limit (Some quota)) = ap query_in (get_same s.sessions m _)
own_query s m (AddTracker t parent limit None) = refl
own_query s m (CloseTracker t) = own_closes m t s.sessions
own_query s m (ReadFailed p sum_before sum_after) = failures_query (keep_first (page_at s p).client s.entries) (page_at s p).session s.sessions m
own_query s m (WriteFailed p sum_before sum_after) = failures_query (keep_first (page_at s p).client s.entries) (page_at s p).session s.sessions m
own_query s m _ = refl

query_more : (query : Option ℕ) (es : List Entry) (e : Entry) → query_from query (es ++ e ∷ []) ≡ query_after e.event (query_from query es)
query_more query [] e = refl
query_more query (d ∷ es) e = query_more (query_after d.event query) es e

-- what was before an opening doesn't count
anew : (event : Event) (query : Option ℕ) → opens event ≡ true → query_after event query ≡ query_after event None
anew (AddTracker t parent limit (Some quota)) query new = refl
anew _ query new = let never : false ≡ true = new in cc

-- each session's query tracker is the one that its own entries tell
abbrev AreTold : List Entry → State → Type 0
AreTold h s = (m : ℕ) → query_in (get s.sessions m) ≡ query_from None (made_by h m)

told_on : (before : List Entry) (s : State) → IsSound s → AreTold before s → (e : Entry) → MayFollow before s e → AreTold (before ++ e ∷ []) (after s e)
told_on before s sound told e may m = elim (same_or_other m e.maker) [
  | inr other ↦ other_query s e.maker m other e.event ∙ told m ∙ ap (query_from None) (sym (made_by_other before e m (λ same. other (sym same))))
  | inl here ↦
      let own : e.maker ≡ m = sym here in
      ap (λ (k : ℕ). query_in (get (effect k e.event s).sessions m)) own ∙ own_query s m e.event ∙ ap (query_after e.event) (told m)
      ∙ elim (opens e.event) as (λ b. opens e.event ≡ b → query_after e.event (query_from None (made_by before m)) ≡ query_from None (made_by (before ++ e ∷ []) m)) [
        | true ↦ λ new. anew e.event (query_from None (made_by before m)) new ∙ ap (query_from None) (sym (made_first before e m own new))
        | false ↦ λ old. sym (query_more None (made_by before m) e) ∙ ap (query_from None) (sym (made_more before e m own old))
      ] refl
]

pub legal_sessions_are_told : LegalSessionsAreTold
legal_sessions_are_told o h legal = holds_after AreTold told_on o (λ m. ap query_in (get-empty nat_cmp m)) h legal
