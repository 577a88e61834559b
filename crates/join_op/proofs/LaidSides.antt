-- What a join leaves on pages once all of them rest.
use Rattle.std.proofs.Common.{◌≡◌, ◌≢◌, ◌∙◌, inl, inr, ℕ, zero, suc, ◌+◌, ◌-◌, ◌≤◌, List, [], ◌∷◌, ◌++◌, length, map, Option, Some, None, refl, ap, sym, arith, append_assoc}
use Rattle.std.specs.Prelude.{All, flat_map, slice_get}
use Rattle.std.specs.List.{sum_by}
use Rattle.std.proofs.lemmas.List.Elements.{All-append, All-nil, filter_map-append}
use Rattle.std.proofs.lemmas.List.Sorted.{All-permutation}
use Rattle.std.proofs.lemmas.List.Sums.{sum_by-append, sum_by-cons}
use Rattle.pool_model.specs.declared.entry.Entry.{Entry}
use Rattle.pool_model.specs.declared.event.Event.{Event}
use Rattle.row_codec.specs.declared.values.Value.{Value}
use Rattle.store_api.specs.declared.shapes.JoinShape.{JoinShape}
use Rattle.store_api.specs.Holdings.{Holdings}
use Rattle.store_api.specs.Signs.{Signs}
use Rattle.row_reading.specs.Reading.{IsRowOf, values_at}
use Rattle.tuple_stream.specs.PageRows.{rows_on}
use Rattle.tuple_stream.specs.Streamed.{OpenPage, Streamed}
use Rattle.tuple_stream.specs.Families.{AllClosed, AreDisjoint, AreShaped, Family, pages_in}
use Rattle.tuple_stream.specs.FamilyCalls.{HaveLaid, HoldAll, shares}
use Rattle.tuple_stream.specs.Trails.{EnteredEvents, Left, PinsFirst, all_left, creates_in, left_by, left_page, rested, resting_in}
use Rattle.tuple_stream.proofs.FamilyHolds.{hold_all}
use Rattle.tuple_stream.proofs.PinsFirst.{both_pin_first, has_pin_front}
use Rattle.tuple_stream.proofs.Sinces.{since_joined}
use Rattle.partition_stack.specs.Sides.{OwnBoth}
use Rattle.partition_stack.specs.Stack.{over}
use Rattle.partition_stack.proofs.ListPlaces.{front_or_behind}
use Rattle.partition_stack.proofs.Sides.{disjoint_back}
use Rattle.join_op.specs.Joining.{Both, IsBetween, PinsBefore}
use Rattle.join_op.specs.Laid.{HoldsSides, LeavesSide}
use Rattle.join_op.specs.Operator.{KeepsSide, LaidBoth}
use Rattle.join_op.specs.Rested.{KeepsRested}
use Rattle.join_op.specs.Stored.{Side, left_side, right_side}
use Rattle.partition_stack.proofs.PagesOnce.{distinct_left, left_named, marks_permute, named, once_in}
use Rattle.join_op.proofs.Sums.{sum_flat, sum_map}

-- ---- how many were left

ones : {X : Type 0} (xs : List X) → sum_by (λ x. 1) xs ≡ length xs
ones [] = refl
ones {X} (x ∷ xs) = let all : sum_by (λ (y : X). 1) (x ∷ xs) ≡ 1 + sum_by (λ y. 1) xs = sum_by-cons (λ (y : X). 1) x xs in let rest = ones xs in omega (arith, all, rest)

length_mapped : {X Y : Type 0} (f : X → Y) (xs : List X) → length (map f xs) ≡ length xs
length_mapped f [] = refl
length_mapped f (x ∷ xs) = ap suc (length_mapped f xs)

closed_ones : (h : Holdings) (s : Streamed) → s.pinned ≡ None → sum_by (λ (l : Left). 1) (rested s h) ≡ length s.pages
closed_ones h s closed =
    ones (rested s h) ∙ length_mapped (left_page h) (resting_in s.pinned s.pages) ∙ ap (λ (o : Option OpenPage). length (resting_in o s.pages)) closed

all_ones : (h : Holdings) (streams : List Streamed) → ((i : ℕ) (s : Streamed) → slice_get streams i ≡ Some s → s.pinned ≡ None) → sum_by (λ s. sum_by (λ (l : Left). 1) (rested s h)) streams ≡ sum_by (λ s. length s.pages) streams
all_ones h [] closed = refl
all_ones h (s ∷ streams) closed =
    let one : sum_by (λ r. sum_by (λ (l : Left). 1) (rested r h)) (s ∷ streams) ≡ sum_by (λ (l : Left). 1) (rested s h) + sum_by (λ r. sum_by (λ (l : Left). 1) (rested r h)) streams = sum_by-cons (λ (r : Streamed). sum_by (λ (l : Left). 1) (rested r h)) s streams in
    let two : sum_by (λ r. length r.pages) (s ∷ streams) ≡ length s.pages + sum_by (λ r. length r.pages) streams = sum_by-cons (λ (r : Streamed). length r.pages) s streams in
    let here = closed_ones h s (closed 0 s refl) in
    let rest = all_ones h streams (λ i r there. closed (suc i) r there) in
    omega (arith, one, two, here, rest)

made_left : (f : Family) (events : List Event) → AllClosed f → HaveLaid f events → creates_in events ≡ pages_in f → creates_in events ≡ length (all_left events)
made_left f events closed laid made =
    made ∙ sym (sym (ones (all_left events)) ∙ laid.left (λ l. 1) ∙ all_ones f.held f.streams closed)

-- ---- one side

module _ (t : ℕ) (side : Side) (fed : List (List Value)) (f : Family) (events : List Event) (shaped : AreShaped t f) (closed : AllClosed f) (keeps : KeepsSide side fed f) (laid : HaveLaid f events) (made : creates_in events ≡ pages_in f) (sixteen : length f.streams ≡ 16) where
  holds : HoldAll keeps.rows f events
  holds = hold_all t f keeps.rows events shaped closed keeps.whole keeps.shows laid

  abbrev these : List (List ℕ)
  these = flat_map (λ l. rows_on l.bytes) (all_left events)

  marks : (mark : List ℕ → ℕ) → sum_by mark (shares 16 keeps.rows) ≡ sum_by mark these
  marks mark = sym (sum_flat mark (λ l. rows_on l.bytes) (all_left events) ∙ holds.rows_are mark ∙ ap (λ (n : ℕ). sum_by mark (shares n keeps.rows)) sixteen)

  formed_shares : (n : ℕ) (rows : ℕ → List (List ℕ)) → ((i : ℕ) → All (IsRowOf side.kinds) (rows i)) → All (IsRowOf side.kinds) (shares n rows)
  formed_shares zero rows formed = All-nil (IsRowOf side.kinds)
  formed_shares (suc n) rows formed = All-append (IsRowOf side.kinds) (rows 0) (shares n (λ i. rows (suc i))) (formed 0) (formed_shares n (λ i. rows (suc i)) (λ i. formed (suc i)))

  pub side_left : ((name : ℕ) → sum_by (left_named name) (all_left events) ≤ 1) → LeavesSide side fed events
  side_left once =
      record {
        rows = these;
        leaves = record { building = holds.building; once = distinct_left (all_left events) once; rows_are = refl };
        made = made_left f events closed laid made;
        formed = All-permutation (IsRowOf side.kinds) (shares 16 keeps.rows) these (marks_permute (shares 16 keeps.rows) these marks) (formed_shares 16 keeps.rows keeps.formed);
        same = λ count. sum_map count (values_at side.kinds) these ∙ sym (marks (λ bytes. count (values_at side.kinds bytes))) ∙ sym (sum_map count (values_at side.kinds) (shares 16 keeps.rows)) ∙ keeps.same count;
      }

-- ---- both sides

module _ (t : ℕ) (left right : List Streamed) (h : Holdings) (s : Signs) (own : OwnBoth t 0 left right h s) where
  abbrev count : ℕ → List Streamed → ℕ
  count name streams = sum_by (λ r. sum_by (named name) r.pages) streams

  both_apart : (i j : ℕ) (a b : Streamed) → i ≢ j → slice_get (left ++ right) i ≡ Some a → slice_get (left ++ right) j ≡ Some b → AreDisjoint a b
  both_apart i j a b differ first second = elim (front_or_behind left right i a first) [
    | inl here ↦ elim (front_or_behind left right j b second) [
      | inl there ↦ own.left_shaped.apart i j a b differ here there
      | inr behind ↦ own.apart i (j - length left) a b here behind.1
    ]
    | inr beyond ↦ elim (front_or_behind left right j b second) [
      | inl there ↦ disjoint_back b a (own.apart j (i - length left) b a there beyond.1)
      | inr behind ↦ own.right_shaped.apart (i - length left) (j - length left) a b (λ same. differ (let far = beyond.0 in let high = behind.0 in omega (arith, same, far, high))) beyond.1 behind.1
    ]
  ]

  both_once : (name : ℕ) → count name left + count name right ≤ 1
  both_once name =
      let all : count name (left ++ right) ≡ count name left + count name right = sum_by-append (λ (r : Streamed). sum_by (named name) r.pages) left right in
      let once = once_in name (left ++ right) (λ i r there. elim (front_or_behind left right i r there) [
        | inl here ↦ (own.left_shaped.each i r here).apart
        | inr behind ↦ (own.right_shaped.each (i - length left) r behind.1).apart
      ]) both_apart in
      omega (arith, all, once)

module _ (t : ℕ) (shape : JoinShape) (lefts rights : List (List Value)) (start : Option (List Entry)) (b : Both) (own : OwnBoth t 0 b.left.streams b.right.streams b.held b.signs) (between : IsBetween b) (sixteen : length b.left.streams ≡ 16) (keeps : KeepsRested start shape lefts rights b) where
  abbrev f : Family
  f = over b.left b.held b.signs

  abbrev g : Family
  g = over b.right b.held b.signs

  module _ (still : Type 0) (p q : Family) (after : Option (List Entry)) (closed_p : AllClosed p) (closed_q : AllClosed q) where
    together : (first later : List Event) → LaidBoth f g first → PinsBefore still later → HoldsSides shape lefts rights p q still (first ++ later)
    together first later laid pins =
        let left_holds = holds t (left_side shape) lefts f laid.lefts own.left_shaped between.left_closed keeps.left laid.left laid.left_made sixteen in
        let right_holds = holds t (right_side shape) rights g laid.rights own.right_shaped between.right_closed keeps.right laid.right laid.right_made (between.many ∙ sixteen) in
        let both = both_once t b.left.streams b.right.streams b.held b.signs own in
        record {
          lefts_laid = laid.lefts;
          rights_laid = laid.rights;
          later = later;
          split = ap (λ (es : List Event). es ++ later) laid.are ∙ append_assoc laid.lefts laid.rights later;
          left = side_left t (left_side shape) lefts f laid.lefts own.left_shaped between.left_closed keeps.left laid.left laid.left_made sixteen (λ name. let one = left_holds.pages name in let all = both name in omega (arith, one, all));
          right = side_left t (right_side shape) rights g laid.rights own.right_shaped between.right_closed keeps.right laid.right laid.right_made (between.many ∙ sixteen) (λ name. let one = right_holds.pages name in let all = both name in omega (arith, one, all));
          once = distinct_left (all_left (laid.lefts ++ laid.rights)) (λ name.
              let sum : sum_by (left_named name) (all_left (laid.lefts ++ laid.rights)) ≡ sum_by (left_named name) (all_left laid.lefts) + sum_by (left_named name) (all_left laid.rights) =
              ap (sum_by (left_named name)) (filter_map-append left_by laid.lefts laid.rights) ∙ sum_by-append (left_named name) (all_left laid.lefts) (all_left laid.rights) in
              let one = left_holds.pages name in
              let two = right_holds.pages name in
              let all = both name in
              omega (arith, sum, one, two, all));
          reads = record { first = pins.first; pinned = elim pins.pinned [ inl pin ↦ inl pin | inr so ↦ inr (closed_p, closed_q, so) ] };
        }

    pub holds_sides : EnteredEvents (PinsBefore still) b.signs.trail after → EnteredEvents (HoldsSides shape lefts rights p q still) start after
    holds_sides pins = since_joined (LaidBoth f g) (PinsBefore still) (HoldsSides shape lefts rights p q still) start b.signs.trail after together keeps.laid pins

-- later events that pin a page before one is left, where none is pinned
pub holds_more : (still : Type 0) (shape : JoinShape) (lefts rights : List (List Value)) (p q k r : Family) (t0 t1 t2 : Option (List Entry)) → AllClosed k → AllClosed r → EnteredEvents (HoldsSides shape lefts rights p q still) t0 t1 → EnteredEvents PinsFirst t1 t2 → EnteredEvents (HoldsSides shape lefts rights k r still) t0 t2
holds_more still shape lefts rights p q k r t0 t1 t2 closed_k closed_r was next =
    since_joined (HoldsSides shape lefts rights p q still) PinsFirst (HoldsSides shape lefts rights k r still) t0 t1 t2
    (λ x y held pins. record {
      lefts_laid = held.lefts_laid;
      rights_laid = held.rights_laid;
      later = held.later ++ y;
      split = ap (λ (es : List Event). es ++ y) held.split ∙ append_assoc held.lefts_laid (held.rights_laid ++ held.later) y ∙ ap (λ (es : List Event). held.lefts_laid ++ es) (append_assoc held.rights_laid held.later y);
      left = held.left;
      right = held.right;
      once = held.once;
      reads = record {
        first = both_pin_first held.later y held.reads.first pins;
        pinned = elim held.reads.pinned [ inl pin ↦ inl (has_pin_front held.later y pin) | inr closed ↦ inr (closed_k, closed_r, closed.2) ];
      };
    })
    was next
