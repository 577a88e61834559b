-- What is so of the end of a load that ended badly.
use Rattle.std.proofs.Common.{ℕ, sym, subst}
use Rattle.reservation_tree.specs.declared.mark.Mark.{Mark}
use Rattle.reservation_tree.specs.declared.errors.PoolErr.{PoolErr}
use Rattle.reservation_tree.specs.declared.errors.PoolErr.TheVariants.{ReadFault, Stale}
use Rattle.pool_model.specs.declared.event.Event.{Event}
use Rattle.pool_model.specs.declared.event.Event.TheVariants.{ReadFailed, ReadStale}
use Rattle.session_calls.specs.Jobs.{EndsWith}

-- what holds of a failed read of the page, and of one that gave another mark
pub of_bad : (p entry : ℕ) (P : Event → Type 0) → ((before now : ℕ) → P (ReadFailed p before now)) → ((wanted found : Mark) → P (ReadStale p wanted found)) → (err : PoolErr) (end : Event) → EndsWith p entry err end → P end
of_bad p entry P failed stale (ReadFault failure) end ends = subst P (sym ends.3) (failed ends.0 ends.1)
of_bad p entry P failed stale (Stale wanted found) end ends = subst P (sym ends.1) (stale wanted found)
of_bad p entry P failed stale _ end ends = absurd ends
