-- Nodes that stand one behind the other.
use Rattle.std.proofs.Common.{◌≡◌, ◌≢◌, ◌∙◌, ℕ, ◌-◌, ◌<◌, ◌≤◌, List, [], ◌∷◌, ◌++◌, length, Option, Some, None, refl, ap, sym, subst, arith, append_assoc, eq-eqb, ne_eqb}
use Rattle.std.proofs.lemmas.Option.{none-some, same_Some}
use Rattle.bucket_table.specs.Tables.{Node, first_row, from_node, newer_than, oldest, row_of, used_by}
use Rattle.group_op.specs.Held.{StandBehind}

behind_all : (front back : List Node) → StandBehind (front ++ back) → StandBehind back
behind_all [] back stand = stand
behind_all (m ∷ front) back stand = behind_all front back stand.1

used_grows : (front back : List Node) → StandBehind (front ++ back) → used_by back ≤ used_by (front ++ back)
used_grows [] back stand = omega arith
used_grows (m ∷ front) back stand =
    let rest = used_grows front back stand.1 in
    let place : m.place ≡ used_by (front ++ back) = stand.0 in
    omega (arith, rest, place)

place_above : (m : Node) (front back : List Node) → StandBehind (m ∷ front ++ back) → used_by back ≤ m.place
place_above m front back stand = let rest = used_grows front back stand.1 in let place : m.place ≡ used_by (front ++ back) = stand.0 in omega (arith, rest, place)

-- the node at its place, and the older ones
pub from_there : (front older : List Node) (n : Node) → StandBehind (front ++ n ∷ older) → from_node n.place (front ++ n ∷ older) ≡ n ∷ older
from_there [] older n stand = rw (eq-eqb n.place n.place refl) refl
from_there (m ∷ front) older n stand =
    let above : used_by (n ∷ older) ≤ m.place = place_above m front (n ∷ older) stand in
    let apart : m.place ≢ n.place = λ same. omega (arith, above, same) in
    rw (ne_eqb m.place n.place apart) (from_there front older n stand.1)

pub row_there : (front older : List Node) (n : Node) → StandBehind (front ++ n ∷ older) → row_of n.place (front ++ n ∷ older) ≡ n.row
row_there front older n stand = ap first_row (from_there front older n stand)

none_newer : (p : ℕ) (nodes : List Node) → StandBehind nodes → used_by nodes ≤ p → newer_than p nodes ≡ None
none_newer p [] stand under = refl
none_newer p (n ∷ []) stand under = refl
none_newer p (n ∷ m ∷ older) stand under =
    let place : n.place ≡ used_by (m ∷ older) = stand.0 in
    let apart : m.place ≢ p = λ same. omega (arith, place, under, same) in
    rw (ne_eqb m.place p apart) (none_newer p (m ∷ older) stand.1 (omega (arith, place, under)))

newest_last : (n : Node) (older : List Node) → StandBehind (n ∷ older) → newer_than n.place (n ∷ older) ≡ None
newest_last n [] stand = refl
newest_last n (m ∷ older) stand =
    let place : n.place ≡ used_by (m ∷ older) = stand.0 in
    let apart : m.place ≢ n.place = λ same. omega (arith, place, same) in
    rw (ne_eqb m.place n.place apart) (none_newer n.place (m ∷ older) stand.1 (omega (arith, place)))

-- the one that came after it
pub newer_there : (front older : List Node) (n : Node) → StandBehind (front ++ n ∷ older) → newer_than n.place (front ++ n ∷ older) ≡ oldest front
newer_there [] older n stand = newest_last n older stand
newer_there (x ∷ []) older n stand = rw (eq-eqb n.place n.place refl) refl
newer_there (x ∷ y ∷ front) older n stand =
    let above : used_by (n ∷ older) ≤ y.place = place_above y front (n ∷ older) stand.1 in
    let apart : y.place ≢ n.place = λ same. omega (arith, above, same) in
    rw (ne_eqb y.place n.place apart) (newer_there (y ∷ front) older n stand.1)

-- the oldest of some nodes stands last
pub record Ends (newer : List Node) (p : ℕ) : Type 0 where
  pub front : List Node
  pub last : Node
  pub split : newer ≡ front ++ last ∷ []
  pub place : last.place ≡ p

pub ends : (newer : List Node) (p : ℕ) → oldest newer ≡ Some p → Ends newer p
ends [] p is = absurd (none-some p is)
ends (n ∷ []) p is = record { front = []; last = n; split = refl; place = same_Some n.place p is }
ends (n ∷ m ∷ older) p is =
    let rest = ends (m ∷ older) p is in
    record { front = n ∷ rest.front; last = rest.last; split = ap (λ (ms : List Node). n ∷ ms) rest.split; place = rest.place }

pub none_left : (newer : List Node) → oldest newer ≡ None → newer ≡ []
none_left [] is = refl
none_left (n ∷ []) is = absurd (none-some n.place (sym is))
none_left (n ∷ m ∷ older) is = absurd (let none : m ∷ older ≡ [] = none_left (m ∷ older) is in none_some m older none)
  where
    none_some : (x : Node) (xs : List Node) → x ∷ xs ≡ [] → ⊥
    none_some x xs same = let long = ap length same in omega (arith, long)

-- how far it is to the end of the node area
abbrev pub left_from : List Node → Option ℕ → ℕ
left_from nodes None = 0
left_from nodes (Some p) = used_by nodes - p

pub nearer : (front older : List Node) (n : Node) → StandBehind (front ++ n ∷ older) → left_from (front ++ n ∷ older) (oldest front) < left_from (front ++ n ∷ older) (Some n.place)
nearer front older n stand =
    let grows = used_grows front (n ∷ older) stand in
    next (oldest front) refl grows
  where
    next : (o : Option ℕ) → oldest front ≡ o → used_by (n ∷ older) ≤ used_by (front ++ n ∷ older) → left_from (front ++ n ∷ older) o < left_from (front ++ n ∷ older) (Some n.place)
    next None is grows = omega (arith, grows)
    next (Some q) is grows =
        let last = ends front q is in
        let above : used_by (n ∷ older) ≤ last.last.place = above_last front (n ∷ older) stand last in
        let place = last.place in
        omega (arith, grows, above, place)
      where
        above_last : (front back : List Node) → StandBehind (front ++ back) → (last : Ends front q) → used_by back ≤ last.last.place
        above_last front back stand last = place_above last.last [] back (behind_all last.front (last.last ∷ back) (subst StandBehind (ap (λ (ms : List Node). ms ++ back) last.split ∙ append_assoc last.front (last.last ∷ []) back) stand))
