-- What the rows at some places say, place by place.
use Rattle.std.proofs.Common.{◌≡◌, ℕ, zero, suc, ◌+◌, ◌<◌, List, [], ◌∷◌, ◌++◌, length, take, drop, refl, ap, subst, ◌∙◌, arith}
use Rattle.std.specs.Prelude.{All, slice_index_or}
use Rattle.std.proofs.Math.Seq.{take-suc}
use Rattle.std.proofs.lemmas.List.{map-append}
use Rattle.std.proofs.lemmas.List.Elements.{All-cons, All-head, All-nil, All-tail}
use Rattle.store_api.specs.declared.shapes.Shape.{Shape}
use Rattle.bucket_table.specs.Tables.{HasNode, Node, row_of}
use Rattle.group_rows.specs.Partials.{Partial}
use Rattle.group_op.specs.InOrder.{said_at}
use Rattle.group_op.specs.Stored.{partial_at}

pub none_inside : (xs : List ℕ) (i : ℕ) → xs ≡ [] → i < length xs → ⊥
none_inside xs i none inside = let long = ap length none in omega (arith, long, inside)

-- a list of nodes that aren't there has none
pub no_places : (nodes : List Node) (places : List ℕ) → nodes ≡ [] → All (λ place. HasNode place nodes) places → places ≡ []
no_places nodes [] none has = refl
no_places nodes (place ∷ places) none has =
    let here : HasNode place [] = subst (λ (ns : List Node). HasNode place ns) none (All-head (λ place. HasNode place nodes) place places has) in
    absurd cc

split_at : (xs : List ℕ) (i : ℕ) → i < length xs → xs ≡ take i xs ++ (slice_index_or xs i 0 ∷ drop (suc i) xs)
split_at [] i inside = absurd (omega (arith, inside))
split_at (x ∷ xs) zero inside = refl
split_at (x ∷ xs) (suc i) inside = ap (λ (ys : List ℕ). x ∷ ys) (split_at xs i (omega (arith, inside)))

module _ (shape : Shape) (nodes : List Node) where
  pub said_more : (places : List ℕ) (i : ℕ) → i < length places → said_at shape nodes (take (i + 1) places) ≡ said_at shape nodes (take i places) ++ partial_at shape (row_of (slice_index_or places i 0) nodes) ∷ []
  said_more places i inside =
      let next : i + 1 ≡ suc i = omega arith in
      ap (λ (n : ℕ). said_at shape nodes (take n places)) next ∙ ap (said_at shape nodes) (take-suc places i 0 inside)
      ∙ map-append (λ (place : ℕ). partial_at shape (row_of place nodes)) (take i places) (slice_index_or places i 0 ∷ [])

  pub said_split : (places : List ℕ) (i : ℕ) → i < length places → said_at shape nodes places ≡ said_at shape nodes (take i places) ++ ((partial_at shape (row_of (slice_index_or places i 0) nodes) ∷ []) ++ said_at shape nodes (drop (suc i) places))
  said_split places i inside =
      ap (said_at shape nodes) (split_at places i inside)
      ∙ map-append (λ (place : ℕ). partial_at shape (row_of place nodes)) (take i places) (slice_index_or places i 0 ∷ drop (suc i) places)

  pub said_there : (P : Partial → Type 0) (places : List ℕ) (i : ℕ) → i < length places → All P (said_at shape nodes places) → P (partial_at shape (row_of (slice_index_or places i 0) nodes))
  said_there P [] i inside all = absurd (omega (arith, inside))
  said_there P (place ∷ places) zero inside all = All-head P (partial_at shape (row_of place nodes)) (said_at shape nodes places) all
  said_there P (place ∷ places) (suc i) inside all = said_there P places i (omega (arith, inside)) (All-tail P (partial_at shape (row_of place nodes)) (said_at shape nodes places) all)

pub all_one : {X : Type 0} (P : X → Type 0) (x : X) → P x → All P (x ∷ [])
all_one P x is = All-cons P x [] is (All-nil P)
