-- Quotas that are all closed.
use Rattle.std.proofs.Common.{◌≡◌, ℕ, suc, ◌+◌, List, [], ◌∷◌, ap, ◌∙◌, refl, slice_index_or}
use Rattle.std.specs.Prelude.{Option, None}
use Rattle.std.specs.List.{sum_by}
use Rattle.std.proofs.lemmas.List.Sums.{sum_by-cons}
use Rattle.scratch_dev.specs.declared.quota.Quota.{Quota}
use Rattle.scratch_dev.specs.Pool.{free_in}

-- none has a free slot
pub none_free : (quotas : List (Option Quota)) → ((q : ℕ) → slice_index_or quotas q None ≡ None) → sum_by free_in quotas ≡ 0
none_free [] closed = refl
none_free (quota ∷ quotas) closed =
    let first : free_in quota ≡ 0 = ap free_in (closed 0) in
    let rest : sum_by free_in quotas ≡ 0 = none_free quotas (λ q. closed (suc q)) in
    sum_by-cons free_in quota quotas ∙ ap (λ n. n + sum_by free_in quotas) first ∙ ap (λ n. 0 + n) rest
