-- What stops a query that is no refusal: a fault of its report, or want of memory.
use Rattle.std.proofs.Common.{◌≡◌, ◌⊎◌, ℕ, zero, suc, [], ◌∷◌, IsSome, Option, Some, None, slice_get, inl, inr, ap, refl, subst}
use Rattle.std.proofs.lemmas.Bool.{false≢true}
use Rattle.reservation_tree.specs.declared.errors.PoolErr.{PoolErr}
use Rattle.reservation_tree.specs.declared.errors.PoolErr.TheVariants.{Memory}
use Rattle.row_codec.specs.declared.values.Kind.{Kind}
use Rattle.row_codec.specs.declared.values.Kind.TheVariants.{Int, Text}
use Rattle.query_run.specs.Causes.{NamesInt, OfPool}
use Rattle.query_plan.specs.declared.outcome.QueryErr.{QueryErr}
use Rattle.query_plan.specs.declared.outcome.QueryErr.TheVariants as query
use Rattle.spill_top.specs.Refusals.{refusal_for, refusal_of_pool}
use Rattle.spill_top.specs.declared.report.Refusal.{Refusal}

no-int : (column : ℕ) → slice_get {X = Kind} (Text ∷ []) column ≡ Some Int → ⊥
no-int zero is = cc
no-int (suc column) is = cc

-- what is no refusal, of a pool that answers so
pub unrefused : (e : QueryErr) → refusal_for e ≡ None → NamesInt (Text ∷ []) e → OfPool (λ why. (why ≡ Memory) ⊎ IsSome (refusal_of_pool why)) e → (e ≡ query.SinkFault) ⊎ (e ≡ query.Pool Memory)
unrefused (query.SourceFault side) free text answers = cc
unrefused (query.BadHeader side) free text answers = cc
unrefused (query.BadCsv side number) free text answers = cc
unrefused (query.BadField side number column) free text answers = absurd (no-int column text)
unrefused (query.TooLarge side) free text answers = cc
unrefused (query.RowTooLong side number bytes) free text answers = cc
unrefused query.SinkFault free text answers = inl refl
unrefused (query.Pool why) free text answers =
    elim answers [
      | inl memory ↦ inr (ap (λ (e : PoolErr). query.Pool e) memory)
      | inr some ↦ absurd (false≢true (subst (λ (o : Option Refusal). IsSome o) free some))
    ]
