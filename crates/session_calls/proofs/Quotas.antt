-- The quotas of sessions, from one entry to the next.
use Rattle.std.proofs.Common.{◌≡◌, ◌≢◌, ℕ, ◌==◌, List, [], ◌∷◌, Bool, true, false, if◌then◌else◌, Option, Some, None, option_map, refl, ap, sym, ◌∙◌, inl, inr, ne_eqb}
use Rattle.std.specs.Ordering.{nat_cmp}
use Rattle.std.specs.List.{AllByRecursion}
use Rattle.std.specs.FinMap.{FinMap, get, insert, remove, empty}
use Rattle.reservation_tree.proofs.Maps.{get_same, get_other, same_or_other}
use Rattle.pool_model.specs.declared.event.Event.{Event}
use Rattle.pool_model.specs.declared.event.Event.TheVariants.{Ask, AddTracker, CloseTracker, ReadFailed, WriteFailed}
use Rattle.pool_model.specs.declared.entry.Entry.{Entry}
use Rattle.pool_model.specs.State.{Session, Sessions, State, page_at}
use Rattle.pool_model.specs.Parts.{with_failures, keep_first, without_tracker}
use Rattle.pool_model.specs.Effects.{effect, after}
use Rattle.pool_model.specs.Legal.{run}
use Rattle.session_calls.specs.Moving.{quota_at, keeps_seats}

-- the quota of a session, if it is live
abbrev quota_in : Option Session → Option ℕ
quota_in o = option_map (λ x. x.quota) o

-- a session that stands in place of one with the same quota
put_quota : (old : Sessions) (m : ℕ) (x new : Session) → get old m ≡ Some x → new.quota ≡ x.quota → (k : ℕ) → quota_in (get (insert old m new) k) ≡ quota_in (get old k)
put_quota old m x new is same k = elim (same_or_other k m) [
  | inl here ↦
      ap (λ (j : ℕ). quota_in (get (insert old m new) j)) here ∙ ap quota_in (get_same old m new) ∙ ap Some same
      ∙ sym (ap quota_in (ap (get old) here ∙ is))
  | inr other ↦ ap quota_in (get_other old m new k other)
]

failures_quota : (change : FinMap nat_cmp ℕ → FinMap nat_cmp ℕ) (m : ℕ) (old : Sessions) (k : ℕ) → quota_in (get (with_failures change m old) k) ≡ quota_in (get old k)
failures_quota change m old k =
    elim (get old m) as (λ o. get old m ≡ o → quota_in (get (elim o [ None ↦ old | Some x ↦ insert old m (record x { failures = change x.failures }) ]) k) ≡ quota_in (get old k)) [
      | None ↦ λ is. refl
      | Some x ↦ λ is. put_quota old m x (record x { failures = change x.failures }) is refl k
    ] refl

-- a tracker ends that isn't its session's query tracker
client_closes : (m t : ℕ) (old : Sessions) (x : Session) (k : ℕ) → get old m ≡ Some x → x.query ≢ t → quota_in (get (without_tracker m t old) k) ≡ quota_in (get old k)
client_closes m t old x k is other =
    ap (λ (o : Option Session). quota_in (get (elim o [ None ↦ old | Some y ↦ if y.query == t then remove old m else insert old m (record y { failures = remove y.failures t }) ]) k)) is
    ∙ ap (λ (b : Bool). quota_in (get (if b then remove old m else insert old m (record x { failures = remove x.failures t })) k)) (ne_eqb x.query t other)
    ∙ put_quota old m x (record x { failures = remove x.failures t }) is refl k

event_keeps : (s : State) (m : ℕ) (event : Event) (k : ℕ) → keeps_seats event ≡ true → quota_at (effect m event s) k ≡ quota_at s k
event_keeps s m Ask k keeps = failures_quota (λ failures. empty) m s.sessions k
event_keeps s m (AddTracker t parent limit (Some quota)) k keeps = let never : false ≡ true = keeps in cc
event_keeps s m (AddTracker t parent limit None) k keeps = refl
event_keeps s m (CloseTracker t) k keeps = let never : false ≡ true = keeps in cc
event_keeps s m (ReadFailed p sum_before sum_after) k keeps = failures_quota (keep_first (page_at s p).client s.entries) (page_at s p).session s.sessions k
event_keeps s m (WriteFailed p sum_before sum_after) k keeps = failures_quota (keep_first (page_at s p).client s.entries) (page_at s p).session s.sessions k
event_keeps s m _ k keeps = refl

-- where no session comes or goes, the quotas stay
pub quota_stays : (s : State) (e : Entry) (k : ℕ) → keeps_seats e.event ≡ true → quota_at (after s e) k ≡ quota_at s k
quota_stays s e k keeps = event_keeps s e.maker e.event k keeps

pub quotas_run : (s : State) (es : List Entry) (k : ℕ) → AllByRecursion (λ e. keeps_seats e.event ≡ true) es → quota_at (run s es) k ≡ quota_at s k
quotas_run s [] k keep = refl
quotas_run s (e ∷ es) k keep = quotas_run (after s e) es k keep.1 ∙ quota_stays s e k keep.0

-- and where a client's tracker ends
pub quota_closed : (s : State) (m t : ℕ) (x : Session) (k : ℕ) → get s.sessions m ≡ Some x → x.query ≢ t → quota_at (after s (record { maker = m; event = CloseTracker t })) k ≡ quota_at s k
quota_closed s m t x k is other = client_closes m t s.sessions x k is other
