-- Elements of lists by their places.
use Rattle.std.proofs.Common.{◌≡◌, ◌⊎◌, inl, inr, ℕ, zero, suc, ◌-◌, ◌≤◌, List, [], ◌∷◌, ◌++◌, length, replicate, set, Some, refl, ap, sym, ◌∙◌, arith, map}
use Rattle.std.specs.List.{slice_get}
use Rattle.std.proofs.lemmas.List.{get_or-replicate, length-replicate}
use Rattle.std.proofs.lemmas.Option.{get_or_from_slice_get, none-some, same_Some, slice_get_within}
use Rattle.tuple_stream.specs.Streamed.{Streamed}
use Rattle.tuple_stream.proofs.PageLists.{at_end, still_at}

less_none : (n : ℕ) → n - 0 ≡ n
less_none n = omega arith

less_suc : (n m : ℕ) → suc n - suc m ≡ n - m
less_suc n m = omega arith

module _ {X : Type 0} where
  -- all are the one that was repeated
  pub of_replicate : (n : ℕ) (x : X) (i : ℕ) (y : X) → slice_get (replicate n x) i ≡ Some y → y ≡ x
  of_replicate n x i y at =
      let inside = slice_get_within (replicate n x) i y at in
      let long = length-replicate n x in
      sym (get_or_from_slice_get (replicate n x) i y x at) ∙ get_or-replicate n i x x (omega (arith, inside, long))

  -- an element stands in the front list or in the one behind it
  pub front_or_behind : (xs ys : List X) (i : ℕ) (z : X) → slice_get (xs ++ ys) i ≡ Some z → (slice_get xs i ≡ Some z) ⊎ ((length xs ≤ i) × (slice_get ys (i - length xs) ≡ Some z))
  front_or_behind [] ys i z at = inr (omega arith, ap (slice_get ys) (less_none i) ∙ at)
  front_or_behind (x ∷ xs) ys zero z at = inl at
  front_or_behind (x ∷ xs) ys (suc i) z at =
      elim (front_or_behind xs ys i z at) [
        | inl there ↦ inl there
        | inr behind ↦ inr (omega (arith, behind.0), ap (slice_get ys) (less_suc i (length xs)) ∙ behind.1)
      ]

  pub in_front : (xs ys : List X) (i : ℕ) (z : X) → slice_get xs i ≡ Some z → slice_get (xs ++ ys) i ≡ Some z
  in_front [] ys i z at = absurd (none-some z at)
  in_front (x ∷ xs) ys zero z at = at
  in_front (x ∷ xs) ys (suc i) z at = in_front xs ys i z at

  -- an element put where it stands
  pub set_same : (xs : List X) (i : ℕ) (x : X) → slice_get xs i ≡ Some x → set xs i x ≡ xs
  set_same [] i x at = refl
  set_same (y ∷ xs) zero x at = ap (λ (z : X). z ∷ xs) (sym (same_Some y x at))
  set_same (y ∷ xs) (suc i) x at = ap (λ (zs : List X). y ∷ zs) (set_same xs i x at)

  -- one element changed, and a function of it didn't
  pub map_set_same : {Y : Type 0} (f : X → Y) (xs : List X) (i : ℕ) (x y : X) → slice_get xs i ≡ Some x → f y ≡ f x → map f (set xs i y) ≡ map f xs
  map_set_same f [] i x y at is = refl
  map_set_same f (z ∷ xs) zero x y at is = ap (λ w. w ∷ map f xs) (is ∙ sym (ap f (same_Some z x at)))
  map_set_same f (z ∷ xs) (suc i) x y at is = ap (λ ws. f z ∷ ws) (map_set_same f xs i x y at is)

-- ---- one stream stands for another with the same pages

-- what stood at this place
pub record Was (ss : List Streamed) (x : Streamed) (i : ℕ) (a : Streamed) : Type 0 where
  pub was : Streamed
  pub place : slice_get (ss ++ x ∷ []) i ≡ Some was
  pub pages : was.pages ≡ a.pages

pub only_one : (y : Streamed) (k : ℕ) (a : Streamed) → slice_get (y ∷ []) k ≡ Some a → (k ≡ 0) × (y ≡ a)
only_one y zero a at = (refl, same_Some y a at)
only_one y (suc k) a at = absurd (none-some a at)

pub was_at : (ss : List Streamed) (x y : Streamed) → x.pages ≡ y.pages → (i : ℕ) (a : Streamed) → slice_get (ss ++ y ∷ []) i ≡ Some a → Was ss x i a
was_at ss x y same i a at =
    elim (front_or_behind ss (y ∷ []) i a at) [
      | inl front ↦ record { was = a; place = still_at ss x a i front; pages = refl }
      | inr behind ↦
          let one = only_one y (i - length ss) a behind.1 in
          let here : i ≡ length ss = let first = one.0 in let far = behind.0 in omega (arith, first, far) in
          record {
            was = x;
            place = ap (slice_get (ss ++ x ∷ [])) here ∙ at_end ss x;
            pages = same ∙ ap (λ (r : Streamed). r.pages) one.1;
          }
    ]
