-- The rights that a pool's pass has when the pool opens: each stands once among them.
use Rattle.std.proofs.Common.{◌≡◌, ◌≢◌, ℕ, zero, suc, ◌+◌, ◌<◌, ◌≤◌, Bool, cond, List, ◌∷◌, inl, inr, refl, sym, ap, ◌∙◌, subst, arith, eq-eqb, ne_eqb}
use Rattle.std.proofs.lemmas.Bool.{cases_lt}
use Rattle.std.specs.Ordering.{nat_cmp}
use Rattle.std.specs.FinMap.{len-empty}
use Rattle.turn_table.specs.declared.view.Role.TheVariants.{First}
use Rattle.turn_table.specs.declared.view.View.{View}
use Rattle.turn_table.specs.Lists.{same, times}
use Rattle.turn_table.specs.Steps.{opened}
use Rattle.turn_table.specs.Face.{Spot}
use Rattle.reservation_tree.proofs.Maps.{same_or_other}
use Rattle.pool.specs.declared.item.Item.{Item}
use Rattle.pool.specs.Items.{all_rights, below, door}
use Rattle.pool.specs.Seats.{live_in, taken_in}
use Rattle.pool.specs.Passing.{IsPass}
use Rattle.pool.proofs.AtOpen.{none_taken}
use Rattle.pool.proofs.Out.{out_role}

pub same_one : (a b : ℕ) → a ≡ b → same a b ≡ 1
same_one a b is = ap (λ (t : Bool). cond t 1 0) (eq-eqb a b is)

pub same_none : (a b : ℕ) → a ≢ b → same a b ≡ 0
same_none a b apart = ap (λ (t : Bool). cond t 1 0) (ne_eqb a b apart)

past : (r n : ℕ) → n ≤ r → times r (below n) ≡ 0
past r zero le = refl
past r (suc n) le =
    let here : same r n ≡ 0 = same_none r n (λ is. omega (arith, is, le)) in
    let rest : times r (below n) ≡ 0 = past r n (omega (arith, le)) in
    omega (arith, here, rest)

within : (r n : ℕ) → r < n → times r (below n) ≡ 1
within r zero lt = absurd (omega (arith, lt))
within r (suc n) lt = elim (cases_lt r n) [
  | inl low ↦
      let here : same r n ≡ 0 = same_none r n (λ is. omega (arith, is, low)) in
      let rest : times r (below n) ≡ 1 = within r n low in
      omega (arith, here, rest)
  | inr high ↦
      let here : same r n ≡ 1 = same_one r n (omega (arith, high, lt)) in
      let rest : times r (below n) ≡ 0 = past r n high in
      omega (arith, here, rest)
]

at_most : (r n : ℕ) → times r (below n) ≤ 1
at_most r n = elim (cases_lt r n) [
  | inl low ↦ let is = within r n low in omega (arith, is)
  | inr high ↦ let is = past r n high in omega (arith, is)
]

once_of : (n r : ℕ) → n ≤ door → times r (door ∷ below n) ≤ 1
once_of n r fits = elim (same_or_other r door) [
  | inl is ↦
      let here : same r door ≡ 1 = same_one r door is in
      let rest : times r (below n) ≡ 0 = past r n (omega (arith, fits, is)) in
      omega (arith, here, rest)
  | inr apart ↦
      let here : same r door ≡ 0 = same_none r door apart in
      let rest : times r (below n) ≤ 1 = at_most r n in
      omega (arith, here, rest)
]

door_of : (n : ℕ) → 0 < times door (door ∷ below n)
door_of n = let here : same door door ≡ 1 = same_one door door refl in omega (arith, here)

number_of : (n m : ℕ) → m < n → 0 < times m (door ∷ below n)
number_of n m low = let is : times m (below n) ≡ 1 = within m n low in omega (arith, is)

pub once : (r : ℕ) → times r all_rights ≤ 1
once r = once_of 1008 r (omega arith)

-- where a pool opens, no seat is out
none_out : (spot : Spot Item) → spot.knows ≡ opened all_rights → spot.knows.role ≡ First (live_in spot.knows.seen + 0)
none_out spot is =
    let none : live_in spot.knows.seen ≡ 0 = ap (λ (k : View Item). live_in k.seen) is ∙ len-empty nat_cmp ℕ in
    let all : 0 ≡ live_in spot.knows.seen + 0 = omega (arith, none) in
    ap (λ (k : View Item). k.role) is ∙ ap First all

-- the seat with which a pool opens is its pass
pub is_pass : (slots spare : ℕ) (spot : Spot Item) → spot.knows ≡ opened all_rights → spare ≡ slots → IsPass slots spare spot
is_pass slots spare spot is count = record {
  idle = ap (λ (k : View Item). k.stage) is;
  role = out_role spot 0 (none_out spot is);
  opens = subst (λ (rights : List ℕ). 0 < times door rights) (sym (ap (λ (k : View Item). k.rights) is)) (door_of 1008);
  numbers = λ m low none. subst (λ (rights : List ℕ). 0 < times m rights) (sym (ap (λ (k : View Item). k.rights) is)) (number_of 1008 m (omega (arith, low)));
  spare = let none : taken_in spot.knows.seen ≡ 0 = ap (λ (k : View Item). taken_in k.seen) is ∙ none_taken in omega (arith, none, count);
}
