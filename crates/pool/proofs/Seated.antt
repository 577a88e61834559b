-- How the quotas of live sessions change when one comes or goes.
use Rattle.std.proofs.Common.{◌≡◌, ℕ, ◌+◌, List, ◌++◌, Some, None, sym, ap, ◌∙◌, arith}
use Rattle.std.specs.FinMap.{empty, get, insert, remove}
use Rattle.reservation_tree.specs.Total.{total, weight_at}
use Rattle.reservation_tree.proofs.Sums.{total-insert, total-remove, total-one}
use Rattle.pool_model.specs.State.{State}
use Rattle.pool.specs.declared.item.Item.{Item}
use Rattle.pool.specs.Seats.{Quotas, live_in, quotas_in, taken_in}
use Rattle.pool.specs.Seating.{beginning_items, ending_items}
use Rattle.pool.proofs.Beside.{quotas_more}

-- any sum over the live sessions
abbrev sum : (ℕ → ℕ → ℕ) → Quotas → ℕ
sum w q = total w q

module _ (items : List Item) (m query limit quota least : ℕ) (fresh : get (quotas_in items) m ≡ None) where
  abbrev begun : List Item
  begun = items ++ beginning_items m query limit quota least

  pub quotas_begun : quotas_in begun ≡ insert (quotas_in items) m quota
  quotas_begun = quotas_more empty items (beginning_items m query limit quota least)

  sum_begun : (w : ℕ → ℕ → ℕ) → sum w (quotas_in begun) ≡ sum w (quotas_in items) + w m quota
  sum_begun w =
      let now : sum w (quotas_in begun) ≡ sum w (insert (quotas_in items) m quota) = ap (sum w) quotas_begun in
      let none : weight_at w m (get (quotas_in items) m) ≡ 0 = ap (weight_at w m) fresh in
      let both : sum w (insert (quotas_in items) m quota) + weight_at w m (get (quotas_in items) m) ≡ sum w (quotas_in items) + w m quota = total-insert w (quotas_in items) m quota in
      omega (arith, now, none, both)

  pub taken_begun : taken_in begun ≡ taken_in items + quota
  taken_begun = sum_begun (λ k x. x)

  pub live_begun : live_in begun ≡ live_in items + 1
  live_begun = sym (total-one (quotas_in begun)) ∙ sum_begun (λ k x. 1) ∙ ap (λ (n : ℕ). n + 1) (total-one (quotas_in items))

module _ (items : List Item) (s : State) (m quota : ℕ) (was : get (quotas_in items) m ≡ Some quota) where
  abbrev ended : List Item
  ended = items ++ ending_items s m

  pub quotas_ended : quotas_in ended ≡ remove (quotas_in items) m
  quotas_ended = quotas_more empty items (ending_items s m)

  sum_ended : (w : ℕ → ℕ → ℕ) → sum w (quotas_in ended) + w m quota ≡ sum w (quotas_in items)
  sum_ended w =
      let now : sum w (quotas_in ended) ≡ sum w (remove (quotas_in items) m) = ap (sum w) quotas_ended in
      let both : sum w (remove (quotas_in items) m) + w m quota ≡ sum w (quotas_in items) = total-remove w (quotas_in items) m (Some quota) was in
      omega (arith, now, both)

  pub taken_ended : taken_in ended + quota ≡ taken_in items
  taken_ended = sum_ended (λ k x. x)

  pub live_ended : live_in ended + 1 ≡ live_in items
  live_ended =
      let gone : sum (λ k x. 1) (quotas_in ended) + 1 ≡ sum (λ k x. 1) (quotas_in items) = sum_ended (λ k x. 1) in
      let now : sum (λ k x. 1) (quotas_in ended) ≡ live_in ended = total-one (quotas_in ended) in
      let then_was : sum (λ k x. 1) (quotas_in items) ≡ live_in items = total-one (quotas_in items) in
      omega (arith, gone, now, then_was)
