-- Other sessions change their trackers: what is held is still told.
use Rattle.std.proofs.Common.{◌≡◌, ◌≢◌, ℕ, ◌+◌, ◌-◌, List, false, sym, ◌∙◌, subst}
use Rattle.std.specs.FinMap.{get}
use Rattle.reservation_tree.specs.Tracker.{Trackers, reservation_of}
use Rattle.reservation_tree.specs.Change.{lacking, set_reservation, lower, grow, shrink, move_to}
use Rattle.reservation_tree.proofs.Climbs.{no_move}
use Rattle.pool_model.specs.State.{Pages, Buffers}
use Rattle.store_api.specs.Holdings.{Holdings}
use Rattle.own_entries.specs.LiveParts.{is_under, Tells}
use Rattle.own_entries.proofs.Setting.{under_stays}
use Rattle.reservation_tree.specs.Ways.{IsUnderRoot, IsUnderQuery}
use Rattle.reservation_tree.proofs.Ways.{query_grows, query_falls, client_grows, client_falls, moves_up, moves_down, moves_beside}
use Rattle.own_entries.proofs.TrackersTold.{foreign_set}

-- neither the query nor a client of it
pub record IsForeign (ts : Trackers) (query t : ℕ) : Type 0 where
  pub apart : t ≢ query
  pub not : is_under query (get ts t) ≡ false

foreign_still : (ts : Trackers) (query u bytes t : ℕ) → IsForeign ts query t → IsForeign (set_reservation bytes u ts) query t
foreign_still ts query u bytes t it = record { apart = it.apart; not = under_stays ts u bytes query t ∙ it.not }

module _ (left : ℕ → List ℕ) (len : ℕ) (pages : Pages) (buffers : Buffers) (m query quota : ℕ) (h : Holdings) where
  abbrev Told : Trackers → Type 0
  Told ts = Tells left len ts pages buffers m query quota h

  set : (ts : Trackers) → Told ts → (t bytes : ℕ) → IsForeign ts query t → Told (set_reservation bytes t ts)
  set ts told t bytes it = foreign_set left len ts pages buffers m query quota h told t bytes it.apart it.not

  module _ (charge : ℕ → ℕ) (ts : Trackers) (told : Told ts) (root : IsForeign ts query 0) (n q : ℕ) (high : IsUnderRoot ts q) (q_foreign : IsForeign ts query q) where
    two : (a b : ℕ) → Told (set_reservation a q (set_reservation b 0 ts))
    two a b = set (set_reservation b 0 ts) (set ts told 0 b root) q a (foreign_still ts query 0 b q q_foreign)

    pub foreign_query_grows : Told (grow charge n q ts)
    foreign_query_grows = subst Told (sym (query_grows charge ts n q high)) (two _ _)

    pub foreign_query_falls : Told (shrink n q ts)
    foreign_query_falls = subst Told (sym (query_falls charge ts n q high))
        (set (lower n q ts) (set ts told q (reservation_of ts q - n) q_foreign) 0 _ (foreign_still ts query q (reservation_of ts q - n) 0 root))

    module _ (t : ℕ) (low : IsUnderQuery ts t q) (t_foreign : IsForeign ts query t) where
      pub foreign_client_grows : Told (grow charge n t ts)
      foreign_client_grows =
          let g : ℕ = lacking charge n q ts in
          let b : ℕ = reservation_of ts 0 + lacking charge g 0 ts in
          let a : ℕ = reservation_of (set_reservation b 0 ts) q + g in
          subst Told (sym (client_grows charge ts n q high t low))
          (set (set_reservation a q (set_reservation b 0 ts)) (two a b) t _ (foreign_still (set_reservation b 0 ts) query q a t (foreign_still ts query 0 b t t_foreign)))

      pub foreign_client_falls : Told (shrink n t ts)
      foreign_client_falls =
          let a : ℕ = reservation_of ts t - n in
          let ts1 : Trackers = lower n t ts in
          let b : ℕ = reservation_of ts1 q - n in
          subst Told (sym (client_falls charge ts n q high t low))
          (set (lower n q ts1) (set ts1 (set ts told t a t_foreign) q b (foreign_still ts query t a q q_foreign)) 0 _ (foreign_still ts1 query q b 0 (foreign_still ts query t a 0 root)))

      pub foreign_up : Told (move_to n t q ts)
      foreign_up = subst Told (sym (moves_up charge ts n q high t low)) (set ts told t _ t_foreign)

      pub foreign_down : Told (move_to n q t ts)
      foreign_down = subst Told (sym (moves_down charge ts n q high t low)) (set ts told t _ t_foreign)

      pub foreign_beside : (b : ℕ) → IsUnderQuery ts b q → IsForeign ts query b → t ≢ b → Told (move_to n t b ts)
      foreign_beside b low_b b_foreign apart =
          let a : ℕ = reservation_of ts t - n in
          subst Told (sym (moves_beside charge ts n q t b high low low_b apart)) (set (lower n t ts) (set ts told t a t_foreign) b _ (foreign_still ts query t a b b_foreign))

    pub foreign_itself : (a b : ℕ) → a ≡ b → Told (move_to n a b ts)
    foreign_itself a b same = subst Told (sym (no_move ts n a b same)) told
