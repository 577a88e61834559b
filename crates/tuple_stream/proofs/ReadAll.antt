-- A stream is read from its start to its end.
use Rattle.std.proofs.Common.{◌≡◌, ◌∙◌, ℕ, zero, suc, ◌+◌, List, [], ◌∷◌, ◌++◌, length, take, Some, refl, ap, sym, subst, arith, append-nil, append_assoc, length-append, add-one}
use Rattle.std.specs.List.{slice_get}
use Rattle.std.proofs.lemmas.List.{take_all}
use Rattle.std.proofs.lemmas.Option.{none-some, same_Some}
use Rattle.tuple_stream.specs.Streamed.{Streamed}
use Rattle.tuple_stream.specs.Places.{Place, first}
use Rattle.tuple_stream.specs.Reading.{HasRead, ReadsAll, ReadsRow}
use Rattle.tuple_stream.specs.Steps.{Reads, Scene, Shaped, Shows}
use Rattle.tuple_stream.proofs.Going.{went_refl}
use Rattle.tuple_stream.proofs.Placed.{first_stands}
use Rattle.tuple_stream.proofs.ReadRow.{reads_trans, still_shows}

take_next : (rows : List (List ℕ)) (n : ℕ) (row : List ℕ) → slice_get rows n ≡ Some row → take (suc n) rows ≡ take n rows ++ row ∷ []
take_next [] n row at = absurd (none-some row at)
take_next (r ∷ rows) zero row at = ap (λ (x : List ℕ). x ∷ []) (same_Some r row at)
take_next (r ∷ rows) (suc n) row at = ap (λ (xs : List (List ℕ)). r ∷ xs) (take_next rows n row at)

pub read_first : (t : ℕ) (before : List (List ℕ)) (place : Place) (a : Scene) → place ≡ first → Shaped t a → HasRead t before before place a a
read_first t before place a start is =
    subst (λ (p : Place). HasRead t before before p a a) (sym start)
    (record {
      went = went_refl t a.stream a.stream a.held a.signs is refl;
      same = refl;
      within = record { page_is = omega arith; row_is = omega arith };
      counted = omega arith;
      rows_are = λ rows tells shows. (first_stands a.stream a.held rows shows, sym (append-nil before));
    })

pub read_more : (t : ℕ) (before now : List (List ℕ)) (row : List ℕ) (place behind : Place) (a b c : Scene) → HasRead t before now place a b → Reads t b c → c.stream ≡ record b.stream { pinned = c.stream.pinned } → ReadsRow place behind row b c → HasRead t before (now ++ row ∷ []) behind a c
read_more t before now row place behind a b c has went same one =
    record {
      went = reads_trans t a b c has.went went;
      same = same ∙ ap (λ (s : Streamed). record s { pinned = c.stream.pinned }) has.same;
      within = one.within;
      counted = let long : length (now ++ row ∷ []) ≡ length now + 1 = length-append now (row ∷ []) in omega (arith, long, has.counted, one.moved);
      rows_are = λ rows tells shows.
          let was = has.rows_are rows tells shows in
          let mid : Shows b rows = still_shows has.went rows tells shows in
          let found = one.row_is rows (has.went.step.touches.told ∙ tells) mid was.0 in
          let next : behind.row ≡ suc place.row = one.moved ∙ add-one place.row in (
            found.1,
            ap (λ (rs : List (List ℕ)). rs ++ row ∷ []) was.1
                ∙ append_assoc before (take place.row rows) (row ∷ [])
                ∙ ap (λ (rs : List (List ℕ)). before ++ rs) (sym (take_next rows place.row row found.0) ∙ ap (λ (n : ℕ). take n rows) (sym next)),
          );
    }

pub read_none : (t : ℕ) (before now : List (List ℕ)) (place : Place) (a b : Scene) → HasRead t before now place a b → place.row ≡ b.stream.count → ReadsAll before now a
read_none t before now place a b has ends =
    let count : b.stream.count ≡ a.stream.count = ap (λ (s : Streamed). s.count) has.same in
    record {
      counted = has.counted ∙ ap (λ (n : ℕ). length before + n) (ends ∙ count);
      rows_are = λ rows tells shows.
          (has.rows_are rows tells shows).1
          ∙ ap (λ (rs : List (List ℕ)). before ++ rs) (take_all place.row rows (let long = shows.counted in omega (arith, ends, count, long)));
    }
