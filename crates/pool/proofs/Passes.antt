-- What the pass of a pool knows behind a turn of its own.
use Rattle.std.proofs.Common.{◌≡◌, ◌≢◌, ℕ, ◌+◌, ◌<◌, ◌==◌, Bool, true, false, cond, List, [], ◌∷◌, ◌++◌, Some, None, refl, sym, ap, ◌∙◌, subst, arith, ne_eqb, eqb-true}
use Rattle.std.specs.FinMap.{get, insert}
use Rattle.reservation_tree.proofs.Maps.{get_same, get_other}
use Rattle.turn_table.specs.Lists.{same, times, without}
use Rattle.pool.specs.declared.item.Item.{Item}
use Rattle.pool.specs.Items.{door}
use Rattle.pool.specs.Seats.{Quotas, quotas_in}
use Rattle.pool.specs.Seating.{beginning_items}
use Rattle.pool.proofs.Seated.{quotas_begun}

same_other : (k r : ℕ) → k ≢ r → same k r ≡ 0
same_other k r apart = ap (λ (b : Bool). cond b 1 0) (ne_eqb k r apart)

-- a right that isn't handed out is as often there as before
pub without_other : (m k : ℕ) → k ≢ m → (rights : List ℕ) → times k (without m rights) ≡ times k rights
without_other m k apart [] = refl
without_other m k apart (r ∷ rs) = elim (m == r) as (λ b. (m == r) ≡ b → times k (cond b rs (r ∷ without m rs)) ≡ same k r + times k rs) [
  | true ↦ λ is.
      let none : same k r ≡ 0 = same_other k r (λ kr. apart (kr ∙ sym (eqb-true m r is))) in
      omega (arith, none)
  | false ↦ λ is. let rest : times k (without m rs) ≡ times k rs = without_other m k apart rs in omega (arith, rest)
] refl

number_apart : (m : ℕ) → m < 240 → door ≢ m
number_apart m few is = omega (arith, few, is)

none_some : (q : ℕ) → Some q ≡ None → ⊥
none_some q is = cc

-- a session of this number begins, and its number is handed out
module _ (items : List Item) (m query limit quota least : ℕ) (rights : List ℕ) (few : m < 240) (fresh : get (quotas_in items) m ≡ None) where
  pub door_stays : 0 < times door rights → 0 < times door (without m rights)
  door_stays has = subst (λ (n : ℕ). 0 < n) (sym (without_other m door (number_apart m few) rights)) has

  other_number : (k : ℕ) → get (quotas_in (items ++ beginning_items m query limit quota least)) k ≡ None → k ≢ m
  other_number k none is =
      let there : get (quotas_in (items ++ beginning_items m query limit quota least)) k ≡ Some quota =
      ap (λ (q : Quotas). get q k) (quotas_begun items m query limit quota least fresh) ∙ ap (get (insert (quotas_in items) m quota)) is ∙ get_same (quotas_in items) m quota in
      none_some quota (sym there ∙ none)

  pub numbers_stay : ((k : ℕ) → k < 240 → get (quotas_in items) k ≡ None → 0 < times k rights)
      → (k : ℕ) → k < 240 → get (quotas_in (items ++ beginning_items m query limit quota least)) k ≡ None → 0 < times k (without m rights)
  numbers_stay have k small none =
      let apart : k ≢ m = other_number k none in
      let still : get (quotas_in items) k ≡ None =
      sym (get_other (quotas_in items) m quota k apart) ∙ sym (ap (λ (q : Quotas). get q k) (quotas_begun items m query limit quota least fresh)) ∙ none in
      subst (λ (n : ℕ). 0 < n) (sym (without_other m k apart rights)) (have k small still)
