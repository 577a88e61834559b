-- Blocks that a slot in memory gives in the place of the one that it holds.
use Rattle.std.proofs.Common.{◌≡◌, ◌==◌, ◌&&◌, ◌+◌, ◌<◌, ◌≤◌, ℕ, suc, Bool, true, false, if◌then◌else◌, List, [], ◌∷◌, Option, Some, None, length, map, take, drop, ◌++◌, zero, get_or, refl, sym, ap, ◌∙◌, subst, inl, inr, arith}
use Rattle.std.specs.Prelude.{Contains}
use Rattle.std.proofs.lemmas.List.{drop_more, take_more, map-append, length-map}
use Rattle.outside.specs.Counts.{Rose, last_count}
use Rattle.outside.specs.Slots.{KeepsStrays, Gave}
use Rattle.outside.specs.InMemory.{SlotState, further_of, lie_at, ShowsLie, Loaded, strays_of}

some_same : (a b : List ℕ) → Some a ≡ Some b → a ≡ b
some_same a b same = cc

-- one more of the list was looked at, and isn't the one
pub lie_past : (call len i : ℕ) (lies : List (ℕ × List ℕ)) (lie : ℕ × List ℕ) → i < length lies → lie ≡ get_or lies i lie → ((lie.0 == call) && (length lie.1 == len)) ≡ false
    → lie_at call len (drop (i + 1) lies) ≡ lie_at call len (drop i lies)
lie_past call len i lies lie inside is not_it =
    ap (λ (b : Bool). if b then Some lie.1 else lie_at call len (drop (i + 1) lies)) (sym not_it)
    ∙ ap (λ (x : ℕ × List ℕ). lie_at call len (x ∷ drop (i + 1) lies)) is
    ∙ ap (lie_at call len) (sym (drop_more lies i lie inside))

-- it is the one
pub lie_here : (call len i : ℕ) (lies : List (ℕ × List ℕ)) (lie : ℕ × List ℕ) → i < length lies → lie ≡ get_or lies i lie → ((lie.0 == call) && (length lie.1 == len)) ≡ true → Some lie.1 ≡ lie_at call len (drop i lies)
lie_here call len i lies lie inside is it =
    ap (λ (b : Bool). if b then Some lie.1 else lie_at call len (drop (i + 1) lies)) (sym it)
    ∙ ap (λ (x : ℕ × List ℕ). lie_at call len (x ∷ drop (i + 1) lies)) is
    ∙ ap (lie_at call len) (sym (drop_more lies i lie inside))

-- the block that is listed is one of those that are
pub lie_listed : (call len : ℕ) (lies : List (ℕ × List ℕ)) (lie : List ℕ) → lie_at call len lies ≡ Some lie → Contains (further_of lies) lie
lie_listed call len [] lie is = let none : None ≡ Some lie = is in cc
lie_listed call len (x ∷ lies) lie is =
    elim ((x.0 == call) && (length x.1 == len)) as (λ (b : Bool). (if b then Some x.1 else lie_at call len lies) ≡ Some lie → Contains (further_of (x ∷ lies)) lie) [
      | true ↦ λ first. (0, omega arith, some_same x.1 lie first)
      | false ↦ λ later. let rest = lie_listed call len lies lie later in (suc rest.0, omega (arith, rest.1), rest.2)
    ] is

gave : (found : Option (List ℕ)) (old new : SlotState) (shown : List ℕ) → lie_at old.plan.calls (length shown) old.lies ≡ found → ShowsLie found old shown new → Gave old.held (Some (strays_of old)) (Some (strays_of new)) shown
gave None old new shown is shows = inl shows.0
gave (Some lie) old new shown is shows = inr (
  subst (Contains (further_of old.lies)) (sym shows.0) (lie_listed old.plan.calls (length shown) old.lies lie is),
  subst (λ (s : SlotState). Rose old.strays s.strays) (sym shows.1) (λ below. omega (arith, below)),
)

pub loaded_gave : (old new : SlotState) (shown : List ℕ) → Loaded old shown new → Gave old.held (Some (strays_of old)) (Some (strays_of new)) shown
loaded_gave old new shown loaded = gave (lie_at old.plan.calls (length shown) old.lies) old new shown refl loaded

keeps : (found : Option (List ℕ)) (old new : SlotState) (shown : List ℕ) → old.strays ≤ last_count → ShowsLie found old shown new → KeepsStrays (Some (strays_of old)) (Some (strays_of new))
keeps None old new shown low shows = subst (λ (s : SlotState). KeepsStrays (Some (strays_of old)) (Some (strays_of s))) (sym shows.1) (refl, omega arith)
keeps (Some lie) old new shown low shows = subst (λ (s : SlotState). KeepsStrays (Some (strays_of old)) (Some (strays_of s))) (sym shows.1) (refl, omega (arith, low))

pub loaded_keeps : (old new : SlotState) (shown : List ℕ) → old.strays ≤ last_count → Loaded old shown new → KeepsStrays (Some (strays_of old)) (Some (strays_of new))
loaded_keeps old new shown low loaded = keeps (lie_at old.plan.calls (length shown) old.lies) old new shown low loaded

-- what is read of a list is read of its image
pub read_map : {X Y : Type 0} (f : X → Y) (xs : List X) (i : ℕ) (x : X) → x ≡ get_or xs i x → f x ≡ get_or (map f xs) i (f x)
read_map f [] i x is = refl
read_map f (y ∷ xs) zero x is = ap f is
read_map f (y ∷ xs) (suc i) x is = read_map f xs i x is

-- one more of a list was copied
pub copy_more : {X Y : Type 0} (f : X → Y) (done rest : List X) (i : ℕ) (x y : X) → map f done ≡ take i (map f rest) → i < length rest → x ≡ get_or rest i x → f y ≡ f x → map f (done ++ y ∷ []) ≡ take (i + 1) (map f rest)
copy_more f done rest i x y so_far inside is same =
    map-append f done (y ∷ [])
    ∙ ap (λ l. l ++ f y ∷ []) so_far
    ∙ ap (λ z. take i (map f rest) ++ z ∷ []) (same ∙ read_map f rest i x is)
    ∙ sym (take_more (map f rest) i (f x) (omega (arith, inside, length-map rest f)))
