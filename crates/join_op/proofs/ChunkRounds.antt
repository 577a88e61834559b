-- Chunks of right rows are joined with all left rows, one after the other.
use Rattle.std.proofs.Common.{◌≡◌, ◌∙◌, ℕ, ◌+◌, ◌-◌, ◌≤◌, ◌<◌, Bool, true, false, List, [], ◌∷◌, ◌++◌, length, map, take, drop, None, option_map, refl, ap, sym, subst, arith, append-nil, append_assoc, length-append}
use Rattle.std.specs.Prelude.{All}
use Rattle.std.specs.List.{sum_by}
use Rattle.std.proofs.lemmas.List.{length-map, take-append-drop, take_all}
use Rattle.std.proofs.lemmas.List.Sums.{sum_by-append}
use Rattle.std.proofs.lemmas.Option.{none-some}
use Rattle.row_codec.specs.declared.values.Value.{Value}
use Rattle.store_api.specs.declared.shapes.JoinShape.{JoinShape}
use Rattle.row_reading.specs.Reading.{IsKeyColumn}
use Rattle.store_api.specs.Holdings.{Holdings}
use Rattle.store_api.specs.Shapes.{IsJoinShape}
use Rattle.store_api.specs.Signs.{Signs}
use Rattle.store_api.proofs.Growing.{grows_refl}
use Rattle.tuple_stream.specs.Places.{IsPlace, IsWithin, Place, first}
use Rattle.tuple_stream.specs.Reading.{ReadsRow}
use Rattle.tuple_stream.specs.Steps.{Reads, Scene, Shaped, Shows, scene}
use Rattle.tuple_stream.specs.Streamed.{OpenPage, Streamed}
use Rattle.tuple_stream.specs.Streams.{HasRows, IsOpenAt, IsShaped}
use Rattle.tuple_stream.proofs.ReadAll.{read_first}
use Rattle.tuple_stream.proofs.ReadRow.{reads_trans, still_shows}
use Rattle.join_op.specs.declared.feeding.Spare.{Spare}
use Rattle.join_op.specs.Chunks.{AreColumns, IsKept, ReadsMore, kept_rows}
use Rattle.join_op.specs.Handing.{Emitted, EmittedSome}
use Rattle.join_op.specs.Holding.{held_side, pairs_with, read_side}
use Rattle.join_op.specs.Pairs.{SameRows}
use Rattle.join_op.specs.Stored.{Side, left_side, right_side}
use Rattle.join_op.proofs.ChunkPairs.{emitted_still, emitted_then, none_held, some_first, some_then, with_helds}
use Rattle.join_op.proofs.ChunkJoins.{take_one}
use Rattle.join_op.proofs.Dealing.{pinned_then}
use Rattle.join_op.proofs.PinsRows.{pins_read}
use Rattle.join_op.proofs.Spellable.{left_keyed, right_keyed}
use Rattle.join_op.proofs.Handed.{emitted_as, emitted_none}

-- ---- a chunk is read

pub record IsKeeping (t chunk : ℕ) (side : Side) (kept : List Spare) (start place : Place) (a b : Scene) : Type 0 where
  pub each : All (IsKept side) kept
  pub few : length kept ≤ chunk
  pub reads : ReadsMore (kept_rows kept) start place a b
  pub went : Reads t a b
  pub same : b.stream ≡ record a.stream { pinned = b.stream.pinned }

pub keeping_none : (t chunk : ℕ) (side : Side) (kept : List Spare) (place : Place) (a : Scene) → kept ≡ [] → Shaped t a → IsWithin place a.stream → IsKeeping t chunk side kept place place a a
keeping_none t chunk side kept place a none is within =
    subst (λ (es : List Spare). IsKeeping t chunk side es place place a a) (sym none)
    (record {
      each = λ k d inside. absurd (omega (arith, inside));
      few = omega arith;
      reads = record { moved = omega arith; within = within; pins = λ some closed. absurd (omega (arith, some)); rows_are = λ rows tells shows stands. (sym (append-nil (take place.row rows)), stands) };
      went = (read_first t [] first a refl is).went;
      same = refl;
    })

not_open : (s : Streamed) (place : ℕ) → s.pinned ≡ None → IsOpenAt place s → ⊥
not_open s place closed open_is = none-some place (sym (ap (option_map (λ (p : OpenPage). p.place)) closed) ∙ open_is)

module _ (more : List (List ℕ)) (start place : Place) (t : ℕ) (a b c : Scene) (one : ReadsMore more start place a b) (went : Reads t a b) (next : Reads t b c) where
  pub more_row : (behind : Place) (row : List ℕ) → ReadsRow place behind row b c → ReadsMore (more ++ row ∷ []) start behind a c
  more_row behind row reads =
      record {
        moved = let long : length (more ++ row ∷ []) ≡ length more + 1 = length-append more (row ∷ []) in let first = one.moved in let second = reads.moved in omega (arith, long, first, second);
        within = reads.within;
        pins = λ some closed. pins_read t a c c.signs (reads_trans t a b c went next) (grows_refl c.signs) closed (λ none. not_open c.stream behind.page none reads.open_page.pinned);
        rows_are = λ rows tells shows stands.
            let was = one.rows_are rows tells shows stands in
            let mid : Shows b rows = still_shows went rows tells shows in
            let found = reads.row_is rows (went.step.touches.told ∙ tells) mid was.1 in
            (take_one rows place.row behind.row row reads.moved found.0 ∙ ap (λ (rs : List (List ℕ)). rs ++ row ∷ []) was.0 ∙ append_assoc (take start.row rows) more (row ∷ []), found.1);
      }

  -- or there was none
  pub no_row : (behind : Place) → (place.row ≡ b.stream.count) × (behind ≡ place) → ReadsMore more start behind a c
  no_row behind none =
      subst (λ (p : Place). ReadsMore more start p a c) (sym none.1)
      (record {
        moved = one.moved;
        within = next.within place one.within;
        pins = λ some closed. pinned_then a.signs.trail b.signs.trail c.signs.trail (one.pins some closed) next.step.grows.trail;
        rows_are = λ rows tells shows stands.
            let was = one.rows_are rows tells shows stands in
            (was.0, (next.places rows (went.step.touches.told ∙ tells) (still_shows went rows tells shows) place was.1).0);
      })

pub keeping_more : (t chunk : ℕ) (side : Side) (kept now : List Spare) (start place behind : Place) (row : List ℕ) (a b c : Scene) → IsKeeping t chunk side kept start place a b → length kept < chunk → Reads t b c → c.stream ≡ record b.stream { pinned = c.stream.pinned } → ReadsRow place behind row b c
    → All (IsKept side) now → kept_rows now ≡ kept_rows kept ++ row ∷ [] → IsKeeping t chunk side now start behind a c
keeping_more t chunk side kept now start place behind row a b c is less went same reads each rows =
    record {
      each = each;
      few =
          let long : length (kept_rows kept ++ row ∷ []) ≡ length (kept_rows kept) + 1 = length-append (kept_rows kept) (row ∷ []) in
          let one : length (kept_rows kept) ≡ length kept = length-map kept (λ (e : Spare). e.row.items) in
          let two : length (kept_rows now) ≡ length now = length-map now (λ (e : Spare). e.row.items) in
          let all : length (kept_rows now) ≡ length (kept_rows kept ++ row ∷ []) = ap length rows in
          omega (arith, long, one, two, all, less);
      reads = subst (λ (rs : List (List ℕ)). ReadsMore rs start behind a c) (sym rows) (more_row (kept_rows kept) start place t a b c is.reads is.went went behind row reads);
      went = reads_trans t a b c is.went went;
      same = same ∙ ap (λ (s : Streamed). record s { pinned = c.stream.pinned }) is.same;
    }

-- ---- and joined

-- all left rows were joined with the right ones before a place, which is one still; so many right ones wait
pub record HasMet (b : Bool) (shape : JoinShape) (l0 r0 r : Streamed) (h0 h : Holdings) (took0 took : List (List Value) → Type 0) (place : Place) (waiting : ℕ) : Type 0 where
  pub within : IsWithin place r
  pub waits : place.row + waiting ≡ r.count
  pub stands : (rights : List (List ℕ)) → h0.told ≡ true → HasRows rights r0 h0 → IsPlace place r h
  pub emitted : (lefts rights : List (List ℕ)) → h0.told ≡ true → HasRows lefts l0 h0 → HasRows rights r0 h0 → Emitted took0 took (pairs_with b shape lefts (take place.row rights))

pub met_none : (b : Bool) (shape : JoinShape) (t : ℕ) (l r : Streamed) (h : Holdings) (signs : Signs) (took : List (List Value) → Type 0) (place : Place) (waiting : ℕ) → place ≡ first → waiting ≡ r.count → IsShaped t r h → HasMet b shape l r r h h took took place waiting
met_none b shape t l r h signs took place waiting start all is =
    record {
      within = (read_first t [] place (scene r h signs) start is).within;
      waits = let none : place.row ≡ 0 = ap (λ (p : Place). p.row) start in omega (arith, none, all);
      stands = λ rights told has. ((read_first t [] place (scene r h signs) start is).rows_are rights told has).0;
      emitted = λ lefts rights told one two.
          subst (λ (p : Place). Emitted took took (pairs_with b shape lefts (take p.row rights))) (sym start)
          (subst (Emitted took took) (sym (none_held b shape lefts)) (emitted_none took));
    }

cut_right : (b : Bool) (shape : JoinShape) (lefts all xs ys : List (List ℕ)) → all ≡ xs ++ ys → SameRows (pairs_with b shape lefts xs ++ pairs_with b shape lefts ys) (pairs_with b shape lefts all)
cut_right b shape lefts all xs ys is count = sym (with_helds b shape lefts xs ys count) ∙ sym (ap (λ (rs : List (List ℕ)). sum_by count (pairs_with b shape lefts rs)) is)

module _ (b : Bool) (shape : JoinShape) (l0 r0 r : Streamed) (h0 h : Holdings) (took0 took : List (List Value) → Type 0) (place : Place) (waiting : ℕ) (so : HasMet b shape l0 r0 r h0 h took0 took place waiting) where
  pub met_some : (now : List (List Value) → Type 0) → ((rows : List (List Value)) → took rows → now rows) → (lefts rights : List (List ℕ)) → h0.told ≡ true → HasRows lefts l0 h0 → HasRows rights r0 h0 → EmittedSome took0 now (pairs_with b shape lefts rights)
  met_some now still lefts rights told one two =
      some_first took0 now (pairs_with b shape lefts (take place.row rights)) (pairs_with b shape lefts (drop place.row rights)) (pairs_with b shape lefts rights)
      (emitted_still took0 took now (pairs_with b shape lefts (take place.row rights)) (so.emitted lefts rights told one two) still)
      (cut_right b shape lefts rights (take place.row rights) (drop place.row rights) (sym (take-append-drop place.row rights)))

  pub met_all : waiting ≡ 0 → r.count ≡ r0.count → (lefts rights : List (List ℕ)) → h0.told ≡ true → HasRows lefts l0 h0 → HasRows rights r0 h0 → Emitted took0 took (pairs_with b shape lefts rights)
  met_all end same lefts rights told one two =
      subst (λ (rs : List (List ℕ)). Emitted took0 took (pairs_with b shape lefts rs)) (take_all place.row rights (let long = two.counted in let waits = so.waits in omega (arith, end, same, long, waits)))
      (so.emitted lefts rights told one two)

  module _ (now : Streamed) (h1 : Holdings) (before mid : Signs) (behind : Place) (more : List (List ℕ)) (told_same : h.told ≡ h0.told) (rows_same : (rights : List (List ℕ)) → h0.told ≡ true → HasRows rights r0 h0 → HasRows rights r h)
      (reads : ReadsMore more place behind (scene r h before) (scene now h1 mid)) (took1 : List (List Value) → Type 0) (still : (rows : List (List Value)) → took rows → took1 rows) (told_now : h1.told ≡ h0.told) (l : Streamed)
      (lefts_same : (lefts : List (List ℕ)) → h0.told ≡ true → HasRows lefts l0 h0 → HasRows lefts l h1) where
    next : (rights : List (List ℕ)) → h0.told ≡ true → HasRows rights r0 h0 → (take behind.row rights ≡ take place.row rights ++ more) × IsPlace behind now h1
    next rights told has = reads.rows_are rights (told_same ∙ told) (rows_same rights told has) (so.stands rights told has)

    pub met_more : (h2 : Holdings) (took2 : List (List Value) → Type 0) (less : ℕ) → ((p : Place) → IsPlace p now h1 → IsPlace p now h2) → now.count ≡ r.count → less ≡ waiting - length more
        → ((lefts : List (List ℕ)) → h1.told ≡ true → HasRows lefts l h1 → Emitted took1 took2 (pairs_with b shape lefts more)) → HasMet b shape l0 r0 now h0 h2 took0 took2 behind less
    met_more h2 took2 less stay counted fewer handed =
        record {
          within = reads.within;
          waits = let waits = so.waits in let moved = reads.moved in let most = reads.within.row_is in omega (arith, waits, moved, most, counted, fewer);
          stands = λ rights told has. stay behind (next rights told has).1;
          emitted = λ lefts rights told one two.
              emitted_as took0 took2 (pairs_with b shape lefts (take place.row rights) ++ pairs_with b shape lefts more) (pairs_with b shape lefts (take behind.row rights))
              (cut_right b shape lefts (take behind.row rights) (take place.row rights) more (next rights told two).0)
              (emitted_then took0 took1 took2 (pairs_with b shape lefts (take place.row rights)) (emitted_still took0 took took1 (pairs_with b shape lefts (take place.row rights)) (so.emitted lefts rights told one two) still)
              (pairs_with b shape lefts more) (handed lefts (told_now ∙ told) (lefts_same lefts told one)));
        }

    pub met_part : (took2 : List (List Value) → Type 0) → ((lefts : List (List ℕ)) → h1.told ≡ true → HasRows lefts l h1 → EmittedSome took1 took2 (pairs_with b shape lefts more))
        → (lefts rights : List (List ℕ)) → h0.told ≡ true → HasRows lefts l0 h0 → HasRows rights r0 h0 → EmittedSome took0 took2 (pairs_with b shape lefts rights)
    met_part took2 handed lefts rights told one two =
        let front : List (List Value) = pairs_with b shape lefts (take place.row rights) in
        let mine : List (List Value) = pairs_with b shape lefts more in
        let rest : List (List Value) = pairs_with b shape lefts (drop behind.row rights) in
        some_then took0 took1 took2 front (emitted_still took0 took took1 front (so.emitted lefts rights told one two) still) mine rest (pairs_with b shape lefts rights)
        (λ count.
        ap (sum_by count) (sym (append_assoc front mine rest)) ∙ sum_by-append count (front ++ mine) rest
        ∙ ap (λ (n : ℕ). n + sum_by count rest) (cut_right b shape lefts (take behind.row rights) (take place.row rights) more (next rights told two).0 count)
        ∙ sym (sum_by-append count (pairs_with b shape lefts (take behind.row rights)) rest)
        ∙ cut_right b shape lefts rights (take behind.row rights) (drop behind.row rights) (sym (take-append-drop behind.row rights)) count)
        (handed lefts (told_now ∙ told) (lefts_same lefts told one))

-- ---- the columns of the keys

module _ (shape : JoinShape) (on : List (ℕ × ℕ)) (columns : List ℕ) (same : on ≡ shape.on) (is : IsJoinShape shape) where
  pub left_are : columns ≡ map (λ pair. pair.0) on → AreColumns (left_side shape) columns
  left_are of =
      let are : columns ≡ (left_side shape).columns = of ∙ ap (map (λ (pair : ℕ × ℕ). pair.0)) same in
      record { keyed = subst (All (IsKeyColumn shape.left)) (sym are) (left_keyed shape is); are = are }

  pub right_are : columns ≡ map (λ pair. pair.1) on → AreColumns (right_side shape) columns
  right_are of =
      let are : columns ≡ (right_side shape).columns = of ∙ ap (map (λ (pair : ℕ × ℕ). pair.1)) same in
      record { keyed = subst (All (IsKeyColumn shape.right)) (sym are) (right_keyed shape is); are = are }

-- which side is which
pub read_turned : (b : Bool) (shape : JoinShape) → b ≡ true → read_side b shape ≡ right_side shape
read_turned true shape is = refl
read_turned false shape is = cc

pub held_turned : (b : Bool) (shape : JoinShape) → b ≡ true → held_side b shape ≡ left_side shape
held_turned true shape is = refl
held_turned false shape is = cc

pub read_straight : (b : Bool) (shape : JoinShape) → b ≡ false → read_side b shape ≡ left_side shape
read_straight true shape is = cc
read_straight false shape is = refl

pub held_straight : (b : Bool) (shape : JoinShape) → b ≡ false → held_side b shape ≡ right_side shape
held_straight true shape is = cc
held_straight false shape is = refl
