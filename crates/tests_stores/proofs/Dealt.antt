-- Rows are dealt to streams, each by the parity of its length.
use Rattle.std.proofs.Common.{◌≡◌, ◌∙◌, ℕ, ◌%◌, ◌==◌, List, [], ◌∷◌, ◌++◌, Bool, true, false, length, filter, cond, if◌then◌else◌, refl, ap, sym, inl, inr, append-nil, append_assoc, ne_eqb, eq-eqb, ◌*◌, ◌≤◌, subst, ◌+◌, arith}
use Rattle.std.specs.List.{All}
use Rattle.std.proofs.lemmas.Bool.{cases_eq}
use Rattle.std.proofs.lemmas.List.Elements.{filter-append}
use Rattle.pool_model.specs.declared.event.Event.{Event}
use Rattle.store_api.specs.Holdings.{length_of, unused_of}
use Rattle.tuple_stream.specs.Families.{AllSized, AreShaped, Family, FamilySteps, held_in}
use Rattle.tuple_stream.specs.FamilyCalls.{AreEmpty, HasKept, HasRooms, ReadsIn, ReadsOne, with_rows}
use Rattle.tuple_stream.proofs.Chosen.{at_place}
use Rattle.tuple_stream.proofs.Empty.{empty}
use Rattle.tuple_stream.proofs.FamilyKept.{new_family}

-- those that go to this one
abbrev pub share : ℕ → List (List ℕ) → List (List ℕ)
share i rows = filter (λ row. length row % 2 == i) rows

cond_is : {X : Type 0} (b : Bool) (x y : X) → cond b x y ≡ (if b then x else y)
cond_is true x y = refl
cond_is false x y = refl

one_share : (i : ℕ) (row : List ℕ) → share i (row ∷ []) ≡ (if length row % 2 == i then row ∷ [] else [])
one_share i row = cond_is (length row % 2 == i) (row ∷ []) []

pub shared_more : (i : ℕ) (fed : List (List ℕ)) (row : List ℕ) → i ≡ length row % 2 → (rows : ℕ → List (List ℕ)) (j : ℕ) → with_rows i ((rows i ++ share i fed) ++ row ∷ []) (λ k. rows k ++ share k fed) j ≡ rows j ++ share j (fed ++ row ∷ [])
shared_more i fed row is rows j =
    let all : share j (fed ++ row ∷ []) ≡ share j fed ++ share j (row ∷ []) = filter-append (λ (r : List ℕ). length r % 2 == j) fed (row ∷ []) in
    elim (cases_eq j i) [
      | inl same ↦
          let one : share j (row ∷ []) ≡ row ∷ [] = one_share j row ∙ rw (eq-eqb (length row % 2) j (sym is ∙ sym same)) refl in
          rw (eq-eqb j i same) (ap (λ (k : ℕ). (rows k ++ share k fed) ++ row ∷ []) (sym same) ∙ append_assoc (rows j) (share j fed) (row ∷ []) ∙ ap (λ (rs : List (List ℕ)). rows j ++ (share j fed ++ rs)) (sym one) ∙ ap (λ (rs : List (List ℕ)). rows j ++ rs) (sym all))
      | inr apart ↦
          let none : share j (row ∷ []) ≡ [] = one_share j row ∙ rw (ne_eqb (length row % 2) j (λ same. apart (sym same ∙ sym is))) refl in
          rw (ne_eqb j i apart) (ap (λ (rs : List (List ℕ)). rows j ++ rs) (sym (append-nil (share j fed)) ∙ ap (λ (rs : List (List ℕ)). share j fed ++ rs) (sym none) ∙ sym all))
    ]

-- what was kept came back
pub came_back : {laid : List Event → Type 0} (t : ℕ) (rows : ℕ → List (List ℕ)) (before between after : List (List ℕ)) (f g h : Family) → FamilySteps laid t f g → HasKept t rows f g → ReadsOne 0 before between g → ReadsIn t g h → ReadsOne 1 between after h → f.held.told ≡ true → after ≡ before ++ (rows 0 ++ rows 1)
came_back t rows before between after f g h steps kept one went two tells =
    let mid = steps.touches.told ∙ tells in
    two.rows_are rows (went.steps.touches.told ∙ mid) (went.rows rows mid kept.shows)
    ∙ ap (λ (rs : List (List ℕ)). rs ++ rows 1) (one.rows_are rows mid kept.shows)
    ∙ append_assoc before (rows 0) (rows 1)

-- two streams of one block have room
pub two_rooms : (t : ℕ) (f : Family) → AllSized 1 f → length f.streams ≡ 2 → 2 * length_of 1 f.held ≤ unused_of t f.held → HasRooms t 1 f
two_rooms t f sized two room =
    record { sized = sized; room = subst (λ (n : ℕ). n * (1 * f.held.block_len) ≤ unused_of t f.held + held_in f) (sym two) (omega (arith, room)) }

-- two new streams of a client with room for a page of each
pub record AreNewTwo (t : ℕ) (f : Family) : Type 0 where
  pub shaped : AreShaped t f
  pub empty_all : AreEmpty f
  pub rooms : HasRooms t 1 f

pub new_two : (t : ℕ) (f : Family) → (length f.streams ≡ 2) × All (λ s. s ≡ empty 1) f.streams → 2 * length_of 1 f.held ≤ unused_of t f.held → AreNewTwo t f
new_two t f new room =
    let all = new_family t 1 f refl (λ i s there. at_place (λ r. r ≡ empty 1) f.streams i s new.1 there) in
    record { shaped = all.0; empty_all = all.1; rooms = two_rooms t f all.2 new.0 room }
