-- Where one maker alone made a history, its growths are refused as a store refuses them with so much room above.
use Rattle.std.proofs.Common.{◌≡◌, ℕ, ◌-◌, leb, true, false, if◌then◌else◌, Option, Some, None, option_map, refl, sym, ap, ◌∙◌, arith}
use Rattle.std.specs.Option.{option_or}
use Rattle.reservation_tree.specs.declared.errors.PoolErr.{PoolErr}
use Rattle.reservation_tree.specs.Tracker.{unused, reservation_of, limit_of, children_of}
use Rattle.reservation_tree.specs.Tracker.{room_of as tree_room}
use Rattle.reservation_tree.specs.Change.{over}
use Rattle.reservation_tree.specs.Answer.{no_reservation}
use Rattle.pool_model.specs.State.{State}
use Rattle.pool_model.specs.Sums.{charge_of, memory}
use Rattle.pool_model.specs.Legal.{state_after}
use Rattle.pool_model.specs.Sound.{IsSound}
use Rattle.pool_model.proofs.Kept.{legal_sound}
use Rattle.store_api.specs.Holdings.{Room, Holdings}
use Rattle.store_api.specs.Changes.{query_growth}
use Rattle.store_api.specs.Refusals.{client_room, unless_fits, refusal_above}
use Rattle.own_entries.specs.OwnHoldings.{Outset}
use Rattle.own_entries.specs.AboveLaws.{held_alone, LegalRefusesAlone}
use Rattle.own_entries.proofs.Held.{legal_holdings_are_told}
use Rattle.own_entries.proofs.Refused.{told_over, legal_refuses_as_told}
use Rattle.own_entries.proofs.AboveTold.{legal_above_is_told}
use Rattle.own_entries.proofs.RootTight.{legal_root_is_tight}
use Rattle.own_entries.proofs.Alone.{legal_alone_under_root}

-- a refusal behind two others
behind_two : (t n r u k q : ℕ) (o : Option PoolErr) → option_or (unless_fits t n r (unless_fits u k q None)) o ≡ unless_fits t n r (unless_fits u k q o)
behind_two t n r u k q o = elim (leb n r) as (λ b. option_or (if b then unless_fits u k q None else Some (no_reservation (record { tracker = t; wanted = n; room = r }))) o ≡ (if b then unless_fits u k q o else Some (no_reservation (record { tracker = t; wanted = n; room = r })))) [
  | false ↦ refl
  | true ↦ elim (leb k q) as (λ b. option_or (if b then None else Some (no_reservation (record { tracker = u; wanted = k; room = q }))) o ≡ (if b then o else Some (no_reservation (record { tracker = u; wanted = k; room = q })))) [ false ↦ refl | true ↦ refl ]
]

as_above : (n r : ℕ) → option_map no_reservation (told_over 0 n r) ≡ refusal_above n (Room r)
as_above n r =
    elim (leb n r) as (λ b. option_map no_reservation (if b then None else Some (record { tracker = 0; wanted = n; room = r })) ≡ (if b then None else Some (no_reservation (record { tracker = 0; wanted = n; room = r })))) [ false ↦ refl | true ↦ refl ]

pub legal_refuses_alone : LegalRefusesAlone
legal_refuses_alone o told h legal m by_it x is t bytes some =
    let s : State = state_after o h in
    let sound : IsSound s = legal_sound o h legal in
    let outset : Outset = record { above = Room (memory (state_after o h)); told = told } in
    let held : Holdings = held_alone o told h m in
    let tells = legal_holdings_are_told o outset h legal m x is in
    let growth : ℕ = query_growth bytes held in
    let tight : reservation_of s.trackers 0 ≡ children_of s.trackers 0 = legal_root_is_tight o h legal in
    let alone : children_of s.trackers 0 ≡ reservation_of s.trackers x.query = legal_alone_under_root o h legal m by_it x is in
    let has : held.reservation ≡ reservation_of s.trackers x.query = tells.reservation in
    let all : growth - unused (charge_of s) s.trackers 0 ≡ growth = omega (arith, tight) in
    let room : tree_room s.trackers 0 ≡ memory s - held.reservation =
    let top : limit_of s.trackers 0 ≡ memory s = sound.seated.top in omega (arith, top, tight, alone, has) in
    let above : held.above ≡ Room (memory s - held.reservation) = legal_above_is_told o told h legal m x is in
    let root : option_map no_reservation (over s.trackers (growth - unused (charge_of s) s.trackers 0) 0) ≡ refusal_above growth held.above =
    ap (λ (n : ℕ). option_map no_reservation (over s.trackers n 0)) all ∙ ap (λ (r : ℕ). option_map no_reservation (told_over 0 growth r)) room
    ∙ as_above growth (memory s - held.reservation) ∙ sym (ap (refusal_above growth) above) in
    (legal_refuses_as_told o outset h legal m x is).growth t bytes some
    ∙ ap (option_or (unless_fits t bytes (client_room t held) (unless_fits held.query growth (held.limit - held.reservation) None))) root
    ∙ behind_two t bytes (client_room t held) held.query growth (held.limit - held.reservation) (refusal_above growth held.above)
