-- Trackers come: a sound state stays sound.
use Rattle.std.proofs.Common.{◌≡◌, ◌≢◌, ℕ, ◌+◌, ◌≤◌, Option, Some, None, is_some, refl, ap, sym, ◌∙◌, subst, arith, unwrap_or, inl, inr, ◌⊎◌}
use Rattle.std.specs.FinMap.{get, insert, empty}
use Rattle.reservation_tree.specs.Tracker.{Tracker, Trackers, no_tracker, IsLive, reservation_of, depth_of}
use Rattle.reservation_tree.specs.Change.{with_child}
use Rattle.reservation_tree.proofs.Maps.{get_same, get_other, same_or_other, is_there, found}
use Rattle.reservation_tree.proofs.Members.{live_apart, child_tree, child_fits}
use Rattle.pool_model.specs.State.{Session, State}
use Rattle.pool_model.specs.Sums.{held_by, IsClient, memory}
use Rattle.pool_model.specs.TrackerRows.{MayAddClient}
use Rattle.pool_model.specs.Parts.{open_session, add_client, forget_failures}
use Rattle.pool_model.specs.Sound.{IsQuery, IsSeated, IsOwned, IsSound}
use Rattle.pool_model.proofs.ByClients.{not_client}
use Rattle.pool_model.proofs.Seats.{failures_seats, keep_seats, root_depth, query_depth, some_is}

-- a tracker that stays
pub same_here : (old new : Trackers) (c : ℕ) → get new c ≡ get old c → IsClient old c → IsClient new c
same_here old new c same client = record {
  live = ap is_some same ∙ client.live;
  deep = ap (λ (o : Option Tracker). (unwrap_or o no_tracker).depth) same ∙ client.deep;
}

pub query_here : (old new : Trackers) (t : ℕ) → get new t ≡ get old t → IsQuery old t → IsQuery new t
query_here old new t same query = record { tracker = query.tracker; lives = same ∙ query.lives; under = query.under }

pub reservation_here : (old new : Trackers) (t : ℕ) → get new t ≡ get old t → reservation_of new t ≡ reservation_of old t
reservation_here old new t same = ap (λ (o : Option Tracker). (unwrap_or o no_tracker).reservation) same

module _ (s : State) (sound : IsSound s) (t p limit : ℕ) (fresh : get s.trackers t ≡ None) (live : IsLive s.trackers p) (low : depth_of s.trackers p ≤ 1) where
  new : Trackers
  new = with_child t p limit s.trackers

  new_one : Tracker
  new_one = record { parent = Some p; depth = depth_of s.trackers p + 1; limit = limit; reservation = 0 }

  pub came : get (with_child t p limit s.trackers) t ≡ Some (record { parent = Some p; depth = depth_of s.trackers p + 1; limit = limit; reservation = 0 })
  came = get_same s.trackers t _

  pub stayed : (q : ℕ) → IsLive s.trackers q → get (with_child t p limit s.trackers) q ≡ get s.trackers q
  stayed q is = get_other s.trackers t _ q (live_apart s.trackers q t is fresh)

  low_too : (q : ℕ) (x : Tracker) → get (with_child t p limit s.trackers) q ≡ Some x → x.depth ≤ 2
  low_too q x is = elim (same_or_other q t) [
    | inl here ↦
        let one : Tracker = record { parent = Some p; depth = depth_of s.trackers p + 1; limit = limit; reservation = 0 } in
        let same : one ≡ x = some_is one x (sym came ∙ ap (get (with_child t p limit s.trackers)) (sym here) ∙ is) in
        let deep : depth_of s.trackers p + 1 ≡ x.depth = ap (λ (y : Tracker). y.depth) same in
        omega (arith, deep, low)
    | inr other ↦ sound.seated.low q x (sym (get_other s.trackers t _ q other) ∙ is)
  ]

  -- the seats of other sessions
  pub seated_too : IsSeated (memory s) (with_child t p limit s.trackers) s.sessions
  seated_too = record {
    tree = child_tree (λ _. 0) (λ _. 0) s.trackers sound.seated.tree t p limit fresh live;
    children_fit = child_fits (λ _. 0) (λ _. 0) s.trackers sound.seated.tree t p limit fresh live sound.seated.children_fit refl (λ q other. refl);
    low = low_too;
    top = ap (λ (o : Option Tracker). (unwrap_or o no_tracker).limit) (stayed 0 sound.seated.tree.root) ∙ sound.seated.top;
    seats = λ m x is.
        let query : IsQuery s.trackers x.query = sound.seated.seats m x is in
        query_here s.trackers (with_child t p limit s.trackers) x.query (stayed x.query (is_there (get s.trackers x.query) query.tracker query.lives)) query;
    apart = sound.seated.apart;
  }

  pub owned_too : IsOwned (with_child t p limit s.trackers) s.pages s.buffers s.next_name
  owned_too = record {
    page_clients = λ q x is. let client : IsClient s.trackers x.client = sound.owned.page_clients q x is in same_here s.trackers _ x.client (stayed x.client client.live) client;
    buffer_clients = λ f x is. let client : IsClient s.trackers x.client = sound.owned.buffer_clients f x is in same_here s.trackers _ x.client (stayed x.client client.live) client;
    names = sound.owned.names;
    pins = sound.owned.pins;
  }

  pub held_too : (q : ℕ) → held_by s q ≤ reservation_of (with_child t p limit s.trackers) q
  held_too q = elim (same_or_other q t) [
    | inl here ↦
        let none : held_by s q ≡ 0 = not_client s.trackers s.pages s.buffers s.next_name s.block_len q sound.owned (λ client. live_apart s.trackers q t client.live fresh here) in
        omega (arith, none)
    | inr other ↦
        let same : reservation_of (with_child t p limit s.trackers) q ≡ reservation_of s.trackers q = reservation_here s.trackers (with_child t p limit s.trackers) q (get_other s.trackers t _ q other) in
        let was : held_by s q ≤ reservation_of s.trackers q = sound.within.held q in
        omega (arith, same, was)
  ]

at_most_one : (ts : Trackers) (t n : ℕ) → depth_of ts t ≡ n → n ≤ 1 → depth_of ts t ≤ 1
at_most_one ts t n is few = omega (arith, is, few)

-- a client's tracker comes
pub add_sound : (s : State) → IsSound s → (maker t parent limit : ℕ) → MayAddClient s maker t parent → IsSound (add_client t parent limit s)
add_sound s sound maker t parent limit may =
    let query : IsQuery s.trackers parent = subst (IsQuery s.trackers) (sym may.query) (sound.seated.seats maker may.session may.opened) in
    let live : IsLive s.trackers parent = is_there (get s.trackers parent) query.tracker query.lives in
    let low : depth_of s.trackers parent ≤ 1 = at_most_one s.trackers parent 1 (query_depth s.trackers sound.seated.tree parent query) (omega arith) in
    record {
      seated = seated_too s sound t parent limit may.fresh live low;
      owned = owned_too s sound t parent limit may.fresh live low;
      within = record { held = held_too s sound t parent limit may.fresh live low; memory = sound.within.memory };
    }

-- a session's query tracker comes, and the session with it
pub open_sound : (s : State) → IsSound s → (maker t limit quota : ℕ) → get s.trackers t ≡ None → get s.sessions maker ≡ None → IsSound (open_session maker t limit quota s)
open_sound s sound maker t limit quota fresh none =
    let live : IsLive s.trackers 0 = sound.seated.tree.root in
    let root : (y : Tracker) × (get s.trackers 0 ≡ Some y) = found (get s.trackers 0) live in
    let low : depth_of s.trackers 0 ≤ 1 = at_most_one s.trackers 0 0 (root_depth s.trackers sound.seated.tree (depth_of s.trackers 0) 0 root.0 root.1 refl) (omega arith) in
    let seated : IsSeated (memory s) (with_child t 0 limit s.trackers) s.sessions = seated_too s sound t 0 limit fresh live low in
    let new : Session = record { query = t; quota = quota; failures = empty } in
    let other_query : (m : ℕ) (y : Session) → get s.sessions m ≡ Some y → y.query ≢ t = λ m y is.
    let query : IsQuery s.trackers y.query = sound.seated.seats m y is in live_apart s.trackers y.query t (is_there (get s.trackers y.query) query.tracker query.lives) fresh in
    let split : (m : ℕ) (y : Session) → get (insert s.sessions maker new) m ≡ Some y → ((m ≡ maker) × (new ≡ y)) ⊎ (get s.sessions m ≡ Some y) = λ m y is. elim (same_or_other m maker) [
      | inl here ↦ inl (here, some_is new y (sym (get_same s.sessions maker new) ∙ ap (get (insert s.sessions maker new)) (sym here) ∙ is))
      | inr other ↦ inr (sym (get_other s.sessions maker new m other) ∙ is)
    ] in
    record {
      seated = record {
        tree = seated.tree;
        children_fit = seated.children_fit;
        low = seated.low;
        top = seated.top;
        seats = λ m y is. elim (split m y is) [
          | inl it ↦ subst (IsQuery (with_child t 0 limit s.trackers)) (ap (λ (z : Session). z.query) it.1) (record { tracker = _; lives = came s sound t 0 limit fresh live low; under = refl })
          | inr old ↦ seated.seats m y old
        ];
        apart = λ m n x y is_m is_n same. elim (split m x is_m) [
          | inl it ↦ elim (split n y is_n) [
            | inl its ↦ it.0 ∙ sym its.0
            | inr old ↦ absurd (other_query n y old (sym same ∙ sym (ap (λ (z : Session). z.query) it.1)))
          ]
          | inr old ↦ elim (split n y is_n) [
            | inl its ↦ absurd (other_query m x old (same ∙ sym (ap (λ (z : Session). z.query) its.1)))
            | inr older ↦ sound.seated.apart m n x y old older same
          ]
        ];
      };
      owned = owned_too s sound t 0 limit fresh live low;
      within = record { held = held_too s sound t 0 limit fresh live low; memory = sound.within.memory };
    }

-- failures are forgotten
pub forget_sound : (s : State) → IsSound s → (maker : ℕ) → IsSound (forget_failures maker s)
forget_sound s sound maker = record {
  seated = keep_seats (memory s) s.trackers s.sessions _ (failures_seats (λ failures. empty) maker s.sessions) sound.seated;
  owned = sound.owned;
  within = sound.within;
}
