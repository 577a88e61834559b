-- What was stored of the pages of several sessions is no more than all that was.
use Rattle.std.proofs.Common.{◌≡◌, ℕ, ◌+◌, ◌≤◌, ◌==◌, eqb, if◌then◌else◌, Bool, true, false, List, [], ◌∷◌, Some, None, refl, ap, ◌∙◌, arith}
use Rattle.std.specs.List.{IsDistinct, AllByRecursion, sum_by}
use Rattle.std.proofs.Math.Path.{fun_ext}
use Rattle.std.proofs.lemmas.Bool.{eqb-true}
use Rattle.std.proofs.lemmas.List.Sums.{sum_by-cons}
use Rattle.std.proofs.lemmas.Map.Keys.{IsDistinct-head, IsDistinct-tail}
use Rattle.pool_model.specs.declared.event.Event.{Event}
use Rattle.pool_model.specs.declared.event.Event.TheVariants.{WriteOk}
use Rattle.pool_model.specs.declared.entry.Entry.{Entry}
use Rattle.pool_model.specs.Failures.{is_own}
use Rattle.pool_model.specs.LookingBack.{Made, maker_of}
use Rattle.pin_core.specs.Tallies.{blocks_of, stored_by}
use Rattle.session_shares.specs.Shares.{stored_for, PartsFit}

-- a sum of nothing
all_none : {X : Type 0} (f : X → ℕ) (xs : List X) → AllByRecursion (λ x. f x ≡ 0) xs → sum_by f xs ≡ 0
all_none f [] none = refl
all_none f (x ∷ xs) none =
    let both = sum_by-cons f x xs in
    let first = none.0 in
    let rest = all_none f xs none.1 in
    omega (arith, both, first, rest)

-- a sum of sums
pub both_sums : {X : Type 0} (f g : X → ℕ) (xs : List X) → sum_by (λ x. f x + g x) xs ≡ sum_by f xs + sum_by g xs
both_sums f g [] = refl
both_sums f g (x ∷ xs) =
    let all = sum_by-cons (λ y. f y + g y) x xs in
    let one = sum_by-cons f x xs in
    let other = sum_by-cons g x xs in
    let rest = both_sums f g xs in
    omega (arith, all, one, other, rest)

-- who stands first stands no more behind
others_none : (session m blocks : ℕ) (ms : List ℕ) → (session == m) ≡ true → AllByRecursion (λ k. eqb m k ≡ false) ms → AllByRecursion (λ k. (if session == k then blocks else 0) ≡ 0) ms
others_none session m blocks [] is apart = tt
others_none session m blocks (k ∷ ms) is apart =
    (ap (λ (n : ℕ). if n == k then blocks else 0) (eqb-true session m is) ∙ ap (λ (b : Bool). if b then blocks else 0) apart.0, others_none session m blocks ms is apart.1)

-- a page counts for at most one of them
module _ (made : Made) where
  abbrev part : ℕ → ℕ
  part m = if is_own m (Some made) then made.blocks else 0

  one_of : (ms : List ℕ) → IsDistinct eqb ms → sum_by part ms ≤ made.blocks
  one_of [] once = omega arith
  one_of (m ∷ ms) once =
      let both = sum_by-cons part m ms in
      let rest = one_of ms (IsDistinct-tail eqb m ms once) in
      elim (made.session == m) as (λ b. (made.session == m) ≡ b → sum_by part (m ∷ ms) ≤ made.blocks) [
        | true ↦ λ is.
            let first : part m ≡ made.blocks = ap (λ (b : Bool). if b then made.blocks else 0) is in
            let none : sum_by part ms ≡ 0 = all_none part ms (others_none made.session m made.blocks ms is (IsDistinct-head eqb m ms once)) in
            omega (arith, both, first, none)
        | false ↦ λ is.
            let first : part m ≡ 0 = ap (λ (b : Bool). if b then made.blocks else 0) is in
            omega (arith, both, first, rest)
      ] refl

no_part : (ms : List ℕ) → sum_by (λ (m : ℕ). 0) ms ≡ 0
no_part [] = refl
no_part (m ∷ ms) = let both = sum_by-cons (λ (k : ℕ). 0) m ms in let rest = no_part ms in omega (arith, both, rest)

module _ (h : List Entry) (ms : List ℕ) (once : IsDistinct eqb ms) where
  -- what one event stored
  by_one : (e : Event) → sum_by (λ m. stored_for m h e) ms ≤ stored_by h e
  by_one (WriteOk p) = elim (maker_of h p) as (λ o. sum_by (λ m. if is_own m o then blocks_of o else 0) ms ≤ blocks_of o) [
    | None ↦ let none = no_part ms in omega (arith, none)
    | Some made ↦ one_of made ms once
  ]
  by_one _ = let none = no_part ms in omega (arith, none)

  by_all : (es : List Entry) → sum_by (λ m. sum_by (λ e. stored_for m h e.event) es) ms ≤ sum_by (λ e. stored_by h e.event) es
  by_all [] = let none = no_part ms in omega (arith, none)
  by_all (e ∷ es) =
      let each : sum_by (λ m. sum_by (λ d. stored_for m h d.event) (e ∷ es)) ms ≡ sum_by (λ m. stored_for m h e.event + sum_by (λ d. stored_for m h d.event) es) ms =
      ap (λ (f : ℕ → ℕ). sum_by f ms) (fun_ext (λ m. sum_by-cons (λ (d : Entry). stored_for m h d.event) e es)) in
      let split = both_sums (λ (m : ℕ). stored_for m h e.event) (λ (m : ℕ). sum_by (λ (d : Entry). stored_for m h d.event) es) ms in
      let first = by_one e.event in
      let rest = by_all es in
      let all = sum_by-cons (λ (d : Entry). stored_by h d.event) e es in
      omega (arith, each, split, first, rest, all)

pub parts_fit : PartsFit
parts_fit h ms once = by_all h ms once h
