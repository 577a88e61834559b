-- What a history tells of slots, as it grows.
use Rattle.std.proofs.Common.{◌≡◌, ℕ, ◌+◌, List, ◌++◌, sym, ap, ◌∙◌, arith}
use Rattle.std.specs.List.{sum_by}
use Rattle.pool_model.specs.declared.entry.Entry.{Entry}
use Rattle.pool_model.specs.State.{Opening}
use Rattle.pool_model.specs.Legal.{IsLegal}
use Rattle.pin_core.specs.declared.tally.Tally.{Tally}
use Rattle.pin_core.specs.Tallies.{Counted, all_failures, all_stale, stored_by, written_blocks}
use Rattle.pin_core.proofs.Tallied.{counted_more, counted_as, failures_append, stale_append}
use Rattle.pin_core.proofs.Stored.{written_more}

-- the history grew by so many failures, by writes of so many blocks, and by so many stale loads
pub counts_grew : (o : Opening) (h more now : List Entry) → IsLegal o h → now ≡ h ++ more → (failures blocks stale : ℕ) → all_failures more ≡ failures → sum_by (λ e. stored_by now e.event) more ≡ blocks → all_stale more ≡ stale
    → (first before after : Tally) → Counted failures blocks stale before after → Counted (all_failures h) (written_blocks h) (all_stale h) first before → Counted (all_failures now) (written_blocks now) (all_stale now) first after
counts_grew o h more now legal grew failures blocks stale fails stores strays first before after counts was =
    let failed : all_failures h + failures ≡ all_failures now =
    let both = failures_append h more in
    let same : all_failures now ≡ all_failures (h ++ more) = ap all_failures grew in
    omega (arith, both, same, fails) in
    let stored : written_blocks h + blocks ≡ written_blocks now =
    let both = written_more o h more legal in
    let last : sum_by (λ e. stored_by (h ++ more) e.event) more ≡ blocks = ap (λ (l : List Entry). sum_by (λ e. stored_by l e.event) more) (sym grew) ∙ stores in
    let same : written_blocks now ≡ written_blocks (h ++ more) = ap written_blocks grew in
    omega (arith, both, same, last) in
    let other : all_stale h + stale ≡ all_stale now =
    let both = stale_append h more in
    let same : all_stale now ≡ all_stale (h ++ more) = ap all_stale grew in
    omega (arith, both, same, strays) in
    counted_as (all_failures h + failures) (all_failures now) (written_blocks h + blocks) (written_blocks now) (all_stale h + stale) (all_stale now) first after failed stored other
    (counted_more (all_failures h) failures (written_blocks h) blocks (all_stale h) stale first before after was counts)
