-- How the writers of a call begin, store pages, and end: a turn of each loop.
use denote.Param.Members.{Shared}
use Rattle.std.proofs.Common.{MutBor, ◌≡◌, ℕ, zero, suc, ◌+◌, ◌<◌, ◌≤◌, List, [], ◌∷◌, All, drop, length, map, get_or, inl, inr, refl, sym, ap, ◌∙◌, subst, arith}
use Rattle.std.specs.Fork.{ChangesEach}
use Rattle.std.specs.List.{slice_get}
use Rattle.std.proofs.lemmas.Bool.{cases_lt}
use Rattle.std.proofs.lemmas.List.Elements.{All-cons, All-head, All-nil, All-tail}
use Rattle.std.proofs.lemmas.Option.{same_Some}
use Rattle.turn_table.specs.Face.{Spot}
use Rattle.turn_table.specs.Lists.{same, times}
use Rattle.pool.specs.declared.item.Item.{Item}
use Rattle.pool.specs.Items.{all_rights, below, door}
use Rattle.pool.specs.Sitting.{Sitting}
use Rattle.pool.specs.Writers.{Lends}
use Rattle.pool.proofs.AllRights.{same_one}
use Rattle.spill_top.specs.Beside.{Begin, Changes}

-- no writer began, or one more did
pub begin_none : (spot : Spot Item) → Begin 0 spot spot
begin_none spot = record { table = refl; seen = refl; out = omega arith }

pub begin_more : (count who : ℕ) (first old new : Spot Item) (w : Sitting) → Begin count first old → Lends who old new w → Begin (count + 1) first new
begin_more count who first old new w begin lends = record {
  table = lends.keeps.table ∙ begin.table;
  seen = lends.same ∙ begin.seen;
  out = omega (arith, lends.writers, begin.out);
}

-- the pass has the numbers of the writers behind so many
abbrev pub HasNumbers : ℕ → Spot Item → Type 0
HasNumbers count spot = (k : ℕ) → 1000 + count ≤ k → k < 1008 → 0 < times k spot.knows.rights

has_below : (k n : ℕ) → k < n → 0 < times k (below n)
has_below k zero low = absurd (omega (arith, low))
has_below k (suc n) low = elim (cases_lt k n) [
  | inl less ↦ let rest = has_below k n less in omega (arith, rest)
  | inr high ↦ let here : same k n ≡ 1 = same_one k n (omega (arith, high, low)) in omega (arith, here)
]

has_number : (n k : ℕ) → k < n → 0 < times k (door ∷ below n)
has_number n k low = let rest = has_below k n low in omega (arith, rest)

pub numbers_all : (spot : Spot Item) → spot.knows.rights ≡ all_rights → HasNumbers 0 spot
numbers_all spot is = λ k high low. subst (λ (rights : List ℕ). 0 < times k rights) (sym is) (has_number 1008 k low)

pub numbers_left : (count who : ℕ) (old new : Spot Item) (w : Sitting) → who ≡ 1000 + count → HasNumbers count old → Lends who old new w → HasNumbers (count + 1) new
numbers_left count who old new w is has lends = λ k high low.
    let more = has k (omega (arith, high)) low in
    let apart : times k new.knows.rights ≡ times k old.knows.rights = lends.others k (λ here. omega (arith, here, is, high)) in
    omega (arith, more, apart)

-- what stays the same at each place stays so along the list
pub same_along : {X Y : Type 0} (f : X → Y) (xs ys : List X) → length ys ≡ length xs → ((i : ℕ) (d : X) → i < length xs → f (get_or ys i d) ≡ f (get_or xs i d)) → map f ys ≡ map f xs
same_along f [] [] many each = refl
same_along f [] (y ∷ ys) many each = absurd (omega (arith, many))
same_along f (x ∷ xs) [] many each = absurd (omega (arith, many))
same_along {Y = Y} f (x ∷ xs) (y ∷ ys) many each =
    ap (λ (z : Y). z ∷ map f ys) (each 0 x (omega arith))
    ∙ ap (λ (zs : List Y). f x ∷ zs) (same_along f xs ys (omega (arith, many)) (λ i d less. each (suc i) d (omega (arith, less))))

-- what a call changed is what stands there, by what name it may go
module _ {F T : Type 0} (g : Shared F (ℕ × (MutBor T × Unit {0})) (Unit {0} × (MutBor T × Unit {0}))) (f : F) where
  pub changes_same : (xs ys zs : List T) → ys ≡ zs → ChangesEach g f xs ys → ChangesEach g f xs zs
  changes_same xs ys zs is each = subst (ChangesEach g f xs) is each

module _ {F T : Type 0} (g : Shared F (MutBor T × Unit {0}) (Unit {0} × (MutBor T × Unit {0}))) (f : F) where
  pub change_same : (x y z : T) → y ≡ z → Changes g f x y → Changes g f x z
  change_same x y z is change = subst (Changes g f x) is change

-- what holds of how each is seen holds of all that are seen so
pub all_seen_so : {X Y : Type 0} (f : X → Y) (t u : Y) (xs ys : List X) → map f ys ≡ map f xs → t ≡ u → All (λ x. f x ≡ t) xs → All (λ x. f x ≡ u) ys
all_seen_so f t u [] [] same is all = All-nil (λ x. f x ≡ u)
all_seen_so {Y = Y} f t u [] (y ∷ ys) same is all = absurd (let long : suc (length (map f ys)) ≡ 0 = ap length same in omega (arith, long))
all_seen_so {Y = Y} f t u (x ∷ xs) [] same is all = absurd (let long : 0 ≡ suc (length (map f xs)) = ap length same in omega (arith, long))
all_seen_so {X = X} {Y = Y} f t u (x ∷ xs) (y ∷ ys) same is all =
    let first : f y ≡ f x = same_Some (f y) (f x) (ap (λ (zs : List Y). slice_get zs 0) same) in
    All-cons (λ z. f z ≡ u) y ys (first ∙ All-head (λ z. f z ≡ t) x xs all ∙ is)
    (all_seen_so f t u xs ys (ap (λ (zs : List Y). drop 1 zs) same) is (All-tail (λ z. f z ≡ t) x xs all))
