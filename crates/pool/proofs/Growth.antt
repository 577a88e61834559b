-- What is left behind a session that came.
use Rattle.std.proofs.Common.{◌≡◌, ◌≢◌, ℕ, ◌+◌, ◌-◌, ◌<◌, List, [], ◌∷◌, ◌++◌, Option, None, unwrap_or, refl, sym, ap, ◌∙◌, subst, arith}
use Rattle.std.proofs.lemmas.List.{append_assoc}
use Rattle.std.specs.FinMap.{get, insert, empty}
use Rattle.reservation_tree.specs.Tracker.{Tracker, Trackers, children_of, limit_of, no_tracker, reservation_of, room_of, unused}
use Rattle.reservation_tree.specs.Change.{grow, raise}
use Rattle.reservation_tree.proofs.Maps.{get_same, get_other}
use Rattle.pool_model.specs.declared.entry.Entry.{Entry}
use Rattle.pool_model.specs.State.{Opening, State}
use Rattle.pool_model.specs.Sums.{charge_of}
use Rattle.pool_model.specs.Effects.{after}
use Rattle.pool_model.specs.Legal.{IsLegal, run, state_after}
use Rattle.pool_model.specs.Sound.{IsQuery, IsSound}
use Rattle.pool_model.proofs.Fronts.{legal_fronts, state_runs_on}
use Rattle.pool_model.proofs.Kept.{legal_sound}
use Rattle.own_entries.proofs.Facts.{high, not_root}
use Rattle.own_entries.proofs.RootTight.{legal_root_is_tight}
use Rattle.own_entries.proofs.Setting.{limit_stays, reservation_here, reservation_there}
use Rattle.reservation_tree.proofs.Ways.{query_grows}
use Rattle.pin_core.specs.calls.Entering.{session_entry, increase_entry}
use Rattle.pin_core.specs.calls.Opening.{opening_entries}
use Rattle.pool.specs.declared.ask.Ask.{Ask}
use Rattle.pool.specs.Remaining.{left_in, less, vacancies}
use Rattle.pool.proofs.Vacant.{one_fewer}

module _ (o : Opening) (h : List Entry) (m t limit quota least : ℕ) (legal : IsLegal o (h ++ opening_entries m t limit quota least)) (vacant : get (state_after o h).sessions m ≡ None) (low : m < 240) where
  abbrev s : State
  s = state_after o h

  abbrev seated : State
  seated = after (state_after o h) (session_entry m limit quota t)

  front : IsLegal o (h ++ session_entry m limit quota t ∷ [])
  front = legal_fronts o (h ++ session_entry m limit quota t ∷ []) (increase_entry m t least ∷ []) (subst (IsLegal o) (sym (append_assoc h (session_entry m limit quota t ∷ []) (increase_entry m t least ∷ []))) legal)

  seated_is : state_after o (h ++ session_entry m limit quota t ∷ []) ≡ seated
  seated_is = state_runs_on o h (session_entry m limit quota t ∷ [])

  sound : IsSound seated
  sound = subst IsSound seated_is (legal_sound o (h ++ session_entry m limit quota t ∷ []) front)

  tight : reservation_of seated.trackers 0 ≡ children_of seated.trackers 0
  tight = subst (λ (x : State). reservation_of x.trackers 0 ≡ children_of x.trackers 0) seated_is (legal_root_is_tight o (h ++ session_entry m limit quota t ∷ []) front)

  its : IsQuery seated.trackers t
  its = record { tracker = _; lives = get_same s.trackers t _; under = refl }

  apart : 0 ≢ t
  apart same = not_root seated sound t its same

  abbrev growth : ℕ
  growth = least - unused (charge_of seated) seated.trackers 0

  whole : growth ≡ least
  whole = let is = tight in omega (arith, is)

  abbrev raised : Trackers
  raised = raise growth 0 seated.trackers

  grown_is : grow (charge_of seated) least t seated.trackers ≡ raise least t raised
  grown_is = query_grows (charge_of seated) seated.trackers least t (high seated sound t its)

  root_same : get seated.trackers 0 ≡ get s.trackers 0
  root_same = get_other s.trackers t _ 0 apart

  reserved : reservation_of (raise least t raised) 0 ≡ reservation_of s.trackers 0 + least
  reserved =
      let there : reservation_of (raise least t raised) 0 ≡ reservation_of raised 0 = reservation_there raised t (reservation_of raised t + least) 0 apart in
      let here : reservation_of raised 0 ≡ reservation_of seated.trackers 0 + growth = reservation_here seated.trackers 0 (reservation_of seated.trackers 0 + growth) in
      let was : reservation_of seated.trackers 0 ≡ reservation_of s.trackers 0 = ap (λ (x : Option Tracker). (unwrap_or x no_tracker).reservation) root_same in
      let all = whole in
      omega (arith, there, here, was, all)

  limited : limit_of (raise least t raised) 0 ≡ limit_of s.trackers 0
  limited = limit_stays raised t (reservation_of raised t + least) 0 ∙ limit_stays seated.trackers 0 (reservation_of seated.trackers 0 + growth) 0 ∙ ap (λ (x : Option Tracker). (unwrap_or x no_tracker).limit) root_same

  room : room_of (grow (charge_of seated) least t seated.trackers) 0 ≡ room_of s.trackers 0 - least
  room =
      let same : room_of (grow (charge_of seated) least t seated.trackers) 0 ≡ room_of (raise least t raised) 0 = ap (λ (ts : Trackers). room_of ts 0) grown_is in
      let a = reserved in
      let b = limited in
      omega (arith, same, a, b)

  numbers : vacancies (insert s.sessions m (record { query = t; quota = quota; failures = empty })) 240 ≡ vacancies s.sessions 240 - 1
  numbers = let is = one_fewer s.sessions m (record { query = t; quota = quota; failures = empty }) vacant 240 low in omega (arith, is)

  pub left_after : (ask : Ask) → ask.least ≡ least → left_in (run (state_after o h) (opening_entries m t limit quota least)) ≡ less ask (left_in (state_after o h))
  left_after ask is =
      ap (λ (n : ℕ). record { numbers = n; bytes = room_of (grow (charge_of seated) least t seated.trackers) 0 }) numbers
      ∙ ap (λ (n : ℕ). record { numbers = vacancies s.sessions 240 - 1; bytes = n }) (room ∙ ap (λ (n : ℕ). room_of s.trackers 0 - n) (sym is))
