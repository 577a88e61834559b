-- Which rights the items need by which a session comes or goes, and those that it enters between.
use Rattle.std.proofs.Common.{◌≡◌, ◌≢◌, ℕ, ◌<◌, List, [], ◌∷◌, ◌++◌, map, inl, inr, refl, sym, subst, arith}
use Rattle.reservation_tree.proofs.Maps.{same_or_other}
use Rattle.pool_model.specs.declared.event.Event.{Event}
use Rattle.pool_model.specs.State.{State}
use Rattle.store_api.specs.Entries.{by}
use Rattle.session_calls.specs.declared.count.Count.{Count}
use Rattle.turn_table.specs.Lists.{needed, same, times}
use Rattle.turn_table.specs.Knowledge.{NeedsOnly}
use Rattle.pool.specs.declared.item.Item.TheVariants.{Made, Went}
use Rattle.pool.specs.Items.{door, needs_of}
use Rattle.pool.specs.Seating.{beginning_items, ending_items}
use Rattle.pool.proofs.AllRights.{same_none}

-- what stands among the door and a number is one of them
among : (rights : List ℕ) (m r n : ℕ) → 0 < times door rights → 0 < times m rights → (r ≢ door → r ≢ m → n ≡ 0) → 0 < n → 0 < times r rights
among rights m r n has own none some = elim (same_or_other r door) [
  | inl is ↦ subst (λ (k : ℕ). 0 < times k rights) (sym is) has
  | inr no_door ↦ elim (same_or_other r m) [
    | inl is ↦ subst (λ (k : ℕ). 0 < times k rights) (sym is) own
    | inr other ↦ let never : n ≡ 0 = none no_door other in absurd (omega (arith, never, some))
  ]
]

module _ (rights : List ℕ) (has : 0 < times door rights) (m : ℕ) (own : 0 < times m rights) where
  pub beginning_needs : (query limit quota least : ℕ) → NeedsOnly needs_of rights (beginning_items m query limit quota least)
  beginning_needs query limit quota least r some =
      among rights m r (needed needs_of r (beginning_items m query limit quota least)) has own
      (λ no_door other. let a : same r door ≡ 0 = same_none r door no_door in let b : same r m ≡ 0 = same_none r m other in omega (arith, a, b)) some

  pub ending_needs : (s : State) → NeedsOnly needs_of rights (ending_items s m)
  ending_needs s r some =
      among rights m r (needed needs_of r (ending_items s m)) has own
      (λ no_door other. let a : same r door ≡ 0 = same_none r door no_door in let b : same r m ≡ 0 = same_none r m other in omega (arith, a, b)) some

-- what a maker enters in one turn needs its number alone
module _ (m r : ℕ) (other : r ≢ m) where
  none_went : (cs : List Count) → needed needs_of r (map (Went m) cs) ≡ 0
  none_went [] = refl
  none_went (c ∷ cs) =
      let here : same r m ≡ 0 = same_none r m other in
      let rest : needed needs_of r (map (Went m) cs) ≡ 0 = none_went cs in
      omega (arith, here, rest)

  none_needed : (events : List Event) (cs : List Count) → needed needs_of r (map Made (by m events) ++ map (Went m) cs) ≡ 0
  none_needed [] cs = none_went cs
  none_needed (e ∷ events) cs =
      let here : same r m ≡ 0 = same_none r m other in
      let rest : needed needs_of r (map Made (by m events) ++ map (Went m) cs) ≡ 0 = none_needed events cs in
      omega (arith, here, rest)

pub worked_needs : (rights : List ℕ) (m : ℕ) → 0 < times m rights → (events : List Event) (cs : List Count) → NeedsOnly needs_of rights (map Made (by m events) ++ map (Went m) cs)
worked_needs rights m own events cs r some = elim (same_or_other r m) [
  | inl is ↦ subst (λ (k : ℕ). 0 < times k rights) (sym is) own
  | inr other ↦ let none : needed needs_of r (map Made (by m events) ++ map (Went m) cs) ≡ 0 = none_needed m r other events cs in absurd (omega (arith, none, some))
]
