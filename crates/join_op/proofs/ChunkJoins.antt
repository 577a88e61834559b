-- Left rows are joined with a chunk, one after the other.
use Rattle.std.proofs.Common.{◌≡◌, ◌∙◌, ℕ, zero, suc, ◌+◌, true, Bool, false, List, [], ◌∷◌, ◌++◌, take, drop, Some, None, if◌then◌else◌, ap, sym, subst, add-one, append_assoc, arith}
use Rattle.std.specs.List.{slice_get, sum_by}
use Rattle.std.proofs.lemmas.List.{take-append-drop, take_all}
use Rattle.std.proofs.lemmas.List.Sums.{sum_by-append}
use Rattle.std.proofs.lemmas.Option.{none-some, same_Some}
use Rattle.row_codec.specs.declared.values.Value.{Value}
use Rattle.store_api.specs.declared.shapes.JoinShape.{JoinShape}
use Rattle.store_api.specs.Holdings.{Holdings}
use Rattle.store_api.specs.Signs.{Signs}
use Rattle.tuple_stream.specs.Places.{IsPlace, IsWithin, Place, first}
use Rattle.tuple_stream.specs.Reading.{Keeps, ReadsRow}
use Rattle.tuple_stream.specs.Steps.{Scene, scene}
use Rattle.tuple_stream.specs.Streamed.{Streamed}
use Rattle.tuple_stream.specs.Streams.{HasRows, IsShaped}
use Rattle.tuple_stream.proofs.ReadAll.{read_first}
use Rattle.partition_stack.specs.Emitting.{WentOn}
use Rattle.join_op.specs.Handing.{Emitted, EmittedSome}
use Rattle.join_op.specs.Holding.{pairs_with}
use Rattle.join_op.specs.Pairs.{SameRows}
use Rattle.join_op.proofs.ChunkPairs.{emitted_still, emitted_then, none_read, some_first, some_then, with_reads}
use Rattle.join_op.proofs.Handed.{emitted_as, emitted_none}

pub take_one : (rows : List (List ℕ)) (n m : ℕ) (row : List ℕ) → m ≡ n + 1 → slice_get rows n ≡ Some row → take m rows ≡ take n rows ++ row ∷ []
take_one rows n m row is at = ap (λ (k : ℕ). take k rows) (is ∙ add-one n) ∙ next rows n row at
  where
    next : (rows : List (List ℕ)) (n : ℕ) (row : List ℕ) → slice_get rows n ≡ Some row → take (suc n) rows ≡ take n rows ++ row ∷ []
    next [] n row at = absurd (none-some row at)
    next (r ∷ rows) zero row at = ap (λ (x : List ℕ). x ∷ []) (same_Some r row at)
    next (r ∷ rows) (suc n) row at = ap (λ (xs : List (List ℕ)). r ∷ xs) (next rows n row at)

-- the rows before a place were joined with these, and the place is one still
pub record HasJoined (b : Bool) (shape : JoinShape) (kept : List (List ℕ)) (s0 s : Streamed) (h0 h : Holdings) (took0 took : List (List Value) → Type 0) (place : Place) : Type 0 where
  pub within : IsWithin place s
  pub stands : (lefts : List (List ℕ)) → h0.told ≡ true → HasRows lefts s0 h0 → IsPlace place s h
  pub emitted : (lefts : List (List ℕ)) → h0.told ≡ true → HasRows lefts s0 h0 → Emitted took0 took (pairs_with b shape (take place.row lefts) kept)

pub joined_none : (b : Bool) (shape : JoinShape) (kept : List (List ℕ)) (t : ℕ) (s : Streamed) (h : Holdings) (signs : Signs) (took : List (List Value) → Type 0) (place : Place) → place ≡ first → IsShaped t s h → HasJoined b shape kept s s h h took took place
joined_none b shape kept t s h signs took place start is =
    record {
      within = (read_first t [] place (scene s h signs) start is).within;
      stands = λ lefts told has. ((read_first t [] place (scene s h signs) start is).rows_are lefts told has).0;
      emitted = λ lefts told has. subst (λ (p : Place). Emitted took took (pairs_with b shape (take p.row lefts) kept)) (sym start) (subst (Emitted took took) (sym (none_read b shape kept)) (emitted_none took));
    }

module _ (b : Bool) (shape : JoinShape) (kept : List (List ℕ)) (s0 s : Streamed) (h0 h : Holdings) (took0 took : List (List Value) → Type 0) (place : Place) (so : HasJoined b shape kept s0 s h0 h took0 took place) where
  -- what was taken stays, and is a part of all
  pub joined_some : (now : List (List Value) → Type 0) → ((rows : List (List Value)) → took rows → now rows) → (lefts : List (List ℕ)) → h0.told ≡ true → HasRows lefts s0 h0 → EmittedSome took0 now (pairs_with b shape lefts kept)
  joined_some now still lefts told has =
      some_first took0 now (pairs_with b shape (take place.row lefts) kept) (pairs_with b shape (drop place.row lefts) kept) (pairs_with b shape lefts kept)
      (emitted_still took0 took now (pairs_with b shape (take place.row lefts) kept) (so.emitted lefts told has) still)
      (λ count. sym (with_reads b shape (take place.row lefts) (drop place.row lefts) kept count) ∙ ap (λ (ls : List (List ℕ)). sum_by count (pairs_with b shape ls kept)) (take-append-drop place.row lefts))

  pub joined_all : place.row ≡ s.count → s.count ≡ s0.count → (now : List (List Value) → Type 0) → ((rows : List (List Value)) → took rows → now rows) → (lefts : List (List ℕ)) → h0.told ≡ true → HasRows lefts s0 h0 → Emitted took0 now (pairs_with b shape lefts kept)
  joined_all ends same now still lefts told has =
      emitted_still took0 took now (pairs_with b shape lefts kept)
      (subst (λ (ls : List (List ℕ)). Emitted took0 took (pairs_with b shape ls kept)) (take_all place.row lefts (let long = has.counted in omega (arith, ends, same, long))) (so.emitted lefts told has))
      still

  module _ (now : Streamed) (h1 : Holdings) (before mid : Signs) (t : ℕ) (behind : Place) (row : List ℕ) (told_same : h.told ≡ h0.told) (rows_same : (lefts : List (List ℕ)) → h0.told ≡ true → HasRows lefts s0 h0 → HasRows lefts s h) (reads : ReadsRow place behind row (scene s h before) (scene now h1 mid))
      (took1 : List (List Value) → Type 0) (still : (rows : List (List Value)) → took rows → took1 rows) where
    split : (lefts : List (List ℕ)) → h0.told ≡ true → HasRows lefts s0 h0 → SameRows (pairs_with b shape (take place.row lefts) kept ++ pairs_with b shape (row ∷ []) kept) (pairs_with b shape (take behind.row lefts) kept)
    split lefts told has count =
        let found = reads.row_is lefts (told_same ∙ told) (rows_same lefts told has) (so.stands lefts told has) in
        sym (with_reads b shape (take place.row lefts) (row ∷ []) kept count)
        ∙ sym (ap (λ (ls : List (List ℕ)). sum_by count (pairs_with b shape ls kept)) (take_one lefts place.row behind.row row reads.moved found.0))

    pub joined_more : (h2 : Holdings) (took2 : List (List Value) → Type 0) → ((p : Place) → IsPlace p now h1 → IsPlace p now h2) → Emitted took1 took2 (pairs_with b shape (row ∷ []) kept) → HasJoined b shape kept s0 now h0 h2 took0 took2 behind
    joined_more h2 took2 stay handed =
        record {
          within = reads.within;
          stands = λ lefts told has. stay behind (reads.row_is lefts (told_same ∙ told) (rows_same lefts told has) (so.stands lefts told has)).1;
          emitted = λ lefts told has.
              emitted_as took0 took2 (pairs_with b shape (take place.row lefts) kept ++ pairs_with b shape (row ∷ []) kept) (pairs_with b shape (take behind.row lefts) kept) (split lefts told has)
              (emitted_then took0 took1 took2 (pairs_with b shape (take place.row lefts) kept) (emitted_still took0 took took1 (pairs_with b shape (take place.row lefts) kept) (so.emitted lefts told has) still) (pairs_with b shape (row ∷ []) kept) handed);
        }

    -- the row that was read was joined in part
    pub joined_part : (took2 : List (List Value) → Type 0) → EmittedSome took1 took2 (pairs_with b shape (row ∷ []) kept) → (lefts : List (List ℕ)) → h0.told ≡ true → HasRows lefts s0 h0 → EmittedSome took0 took2 (pairs_with b shape lefts kept)
    joined_part took2 handed lefts told has =
        let front : List (List Value) = pairs_with b shape (take place.row lefts) kept in
        let one : List (List Value) = pairs_with b shape (row ∷ []) kept in
        let rest : List (List Value) = pairs_with b shape (drop behind.row lefts) kept in
        let whole : List (List Value) = pairs_with b shape (take behind.row lefts) kept in
        let all : SameRows (front ++ (one ++ rest)) (pairs_with b shape lefts kept) = λ count.
        ap (sum_by count) (sym (append_assoc front one rest)) ∙ sum_by-append count (front ++ one) rest ∙ ap (λ (n : ℕ). n + sum_by count rest) (split lefts told has count) ∙ sym (sum_by-append count whole rest)
        ∙ sym (with_reads b shape (take behind.row lefts) (drop behind.row lefts) kept count) ∙ ap (λ (ls : List (List ℕ)). sum_by count (pairs_with b shape ls kept)) (take-append-drop behind.row lefts) in
        some_then took0 took1 took2 front (emitted_still took0 took took1 front (so.emitted lefts told has) still) one rest (pairs_with b shape lefts kept) all handed

-- ---- what a call answered

pub row_found : (found : Bool) (row : List ℕ) (place behind : Place) (a b : Scene) → found ≡ true → Keeps (if found then Some row else None) place behind a b → ReadsRow place behind row a b
row_found true row place behind a b is keeps = keeps
row_found false row place behind a b is keeps = cc

pub none_found : (found : Bool) (row : List ℕ) (place behind : Place) (a b : Scene) → found ≡ false → Keeps (if found then Some row else None) place behind a b → (place.row ≡ a.stream.count) × (behind ≡ place)
none_found true row place behind a b is keeps = cc
none_found false row place behind a b is keeps = keeps

pub went_all : {was now : List (List Value) → Type 0} {pairs : List (List Value)} → Emitted was now pairs → WentOn was now
went_all emitted = λ taken took. (emitted.rows, emitted.came taken took)

pub went_some : {was now : List (List Value) → Type 0} {pairs : List (List Value)} → EmittedSome was now pairs → WentOn was now
went_some emitted = λ taken took. let came = emitted taken took in (came.some, came.came)
