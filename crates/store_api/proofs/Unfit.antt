-- A move of reservation that is refused tells a room that is less than what was wanted, or what the store answered.
use Rattle.std.proofs.Common.{◌≡◌, ℕ, ◌==◌, leb, Option, Some, None, Result, Ok, Err, IfErr, IfSome, IfNone, sym, subst, inl, inr}
use Rattle.std.proofs.lemmas.Bool.{cases_Bool}
use Rattle.reservation_tree.specs.declared.errors.PoolErr.{PoolErr}
use Rattle.store_api.specs.Holdings.{Holdings}
use Rattle.store_api.specs.Signs.{Signs}
use Rattle.pool_model.specs.declared.call.Call.{Call}
use Rattle.store_api.specs.Refusals.{unless_fits, client_room, move_refusal, WasRefused}
use Rattle.store_api.specs.Walks.{StoppedRound}
use Rattle.store_api.proofs.Stopping.{answered_stops, too_great}

module _ (old new : Signs) where
  unless_stops : (tracker wanted room : ℕ) (others : Option PoolErr) → IfSome others (StoppedRound old new) → IfSome (unless_fits tracker wanted room others) (StoppedRound old new)
  unless_stops tracker wanted room others rest = elim (cases_Bool (leb wanted room)) [
    | inl fits ↦ rw fits rest
    | inr passes ↦ rw passes (too_great wanted room passes)
  ]

  move_stops : (from to bytes : ℕ) (h : Holdings) → IfSome (move_refusal from to bytes h) (StoppedRound old new)
  move_stops from to bytes h = elim (cases_Bool (from == to)) [
    | inl same ↦ rw same tt
    | inr apart ↦ rw apart (unless_stops to bytes (client_room to h) None tt)
  ]

  -- a refusal that is told beforehand, or another one
  refused_stops : (refusal : Option PoolErr) (result : Result Unit PoolErr) → IfSome refusal (StoppedRound old new) → IfSome refusal (λ e. result ≡ Err e) → IfNone refusal (IfErr result (StoppedRound old new)) → IfErr result (StoppedRound old new)
  refused_stops None result stops told other = other
  refused_stops (Some e) result stops told other = subst (λ (r : Result Unit PoolErr). IfErr r (StoppedRound old new)) (sym told) stops

  if_refused : (refusal : Option PoolErr) (result : Result Unit PoolErr) (t : ℕ) (what : Call) (a b : Holdings) → IfNone refusal (IfErr result (WasRefused t what a b old new)) → IfNone refusal (IfErr result (StoppedRound old new))
  if_refused (Some e) result t what a b was = tt
  if_refused None (Ok done) t what a b was = tt
  if_refused None (Err e) t what a b was = answered_stops e old new was.answered

  -- a move that was refused
  pub shift_stops : (from to bytes : ℕ) (h : Holdings) (result : Result Unit PoolErr) (others : Type 0) (what : Call) (b : Holdings) → IfSome (move_refusal from to bytes h) (λ e. (result ≡ Err e) × others) → IfNone (move_refusal from to bytes h) (IfErr result (WasRefused from what h b old new)) → IfErr result (StoppedRound old new)
  shift_stops from to bytes h result others what b refused was =
      refused_stops (move_refusal from to bytes h) result (move_stops from to bytes h) (alone (move_refusal from to bytes h) refused)
      (if_refused (move_refusal from to bytes h) result from what h b was)
    where
      alone : (refusal : Option PoolErr) → IfSome refusal (λ e. (result ≡ Err e) × others) → IfSome refusal (λ e. result ≡ Err e)
      alone None both = tt
      alone (Some e) both = both.0
