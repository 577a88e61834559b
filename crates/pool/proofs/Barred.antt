-- A session that nothing is against is turned away for want of memory alone.
use Rattle.std.proofs.Common.{◌≡◌, ℕ, None, inl, inr, refl}
use Rattle.reservation_tree.specs.declared.errors.PoolErr.{PoolErr}
use Rattle.reservation_tree.specs.declared.errors.PoolErr.TheVariants.{Memory, NoReservation, TooManyTrackers}
use Rattle.pool_model.specs.State.{State}
use Rattle.pool.specs.declared.ask.Ask.{Ask}
use Rattle.pool.specs.Seating.{IsSessionRefusal, MustTurnAway}
use Rattle.pool.specs.Remaining.{left_in, refusal_of}
use Rattle.pool.proofs.Admitted.{not_turned}
use Rattle.pool.proofs.Asked.{granted, later}

memory_left : (s : State) (limit least : ℕ) → (MustTurnAway s limit least → ⊥) → (e : PoolErr) → IsSessionRefusal s limit least e → e ≡ Memory
memory_left s limit least never (TooManyTrackers count) is = absurd (never (inl is.0))
memory_left s limit least never (NoReservation tracker wanted room) (none, inl own) = absurd (never (inr (inl own.0)))
memory_left s limit least never (NoReservation tracker wanted room) (none, inr root) = absurd (never (inr (inr root.1)))
memory_left s limit least never Memory is = refl
memory_left s limit least never _ is = absurd is

pub only_memory : (s : State) (ask : Ask) → refusal_of ask (left_in s) ≡ None → (e : PoolErr) → IsSessionRefusal s ask.limit ask.least e → e ≡ Memory
only_memory s ask free = memory_left s ask.limit ask.least (not_turned s ask 0 (granted ask (left_in s) 0 (later ask (left_in s) 0 free)))
