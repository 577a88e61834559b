-- What a join keeps once a row was fed.
use Rattle.std.proofs.Common.{◌≡◌, ◌∙◌, inl, inr, ℕ, zero, suc, ◌+◌, ◌-◌, ◌<◌, List, [], ◌∷◌, ◌++◌, length, replicate, Option, Some, refl, ap, sym, subst, arith, append-nil, append_assoc, length-append}
use Rattle.std.specs.Prelude.{⊤, All, filter_map, slice_get}
use Rattle.std.specs.List.{sum_by}
use Rattle.std.proofs.lemmas.List.Elements.{All-append, All-nil, filter_map-append}
use Rattle.std.proofs.lemmas.List.Sums.{sum_by-append, sum_by_push}
use Rattle.pool_model.specs.declared.entry.Entry.{Entry}
use Rattle.pool_model.specs.declared.event.Event.{Event}
use Rattle.row_codec.specs.declared.values.Value.{Value}
use Rattle.row_codec.specs.Row.{kinds_of}
use Rattle.row_codec.specs.RowBytes.{key_bytes, row_bytes}
use Rattle.row_codec.specs.RowLaws.{IsRow}
use Rattle.row_codec.specs.Order.{hash_of, nibble_of}
use Rattle.store_api.specs.Holdings.{Holdings}
use Rattle.store_api.specs.Signs.{Signs}
use Rattle.store_api.specs.Tokens.{ClientToken}
use Rattle.store_api.specs.declared.shapes.JoinShape.{JoinShape}
use Rattle.tuple_stream.specs.Families.{Family, LaysAll, pages_in, weight}
use Rattle.tuple_stream.specs.FamilyCalls.{AllAtEnd, AreSteady, Feeds, HaveLaid, RestsSome, shares}
use Rattle.pool_model.specs.LookingBack.{name_in}
use Rattle.tuple_stream.specs.Trails.{EnteredEvents, IsBuilding, Left, all_left, creates_in, left_by}
use Rattle.tuple_stream.proofs.PageLists.{no_length}
use Rattle.tuple_stream.proofs.Sinces.{since_joined}
use Rattle.partition_stack.specs.Stack.{Stack, empty, first_sixteen, over}
use Rattle.join_op.specs.Beside.{CallsBeside, first_place}
use Rattle.join_op.specs.Operator.{HasNoRight, Keeps, KeepsSide, LaidBoth, operator}
use Rattle.join_op.specs.Stored.{Side, left_side, place_of, right_side, rows_in}
use Rattle.join_op.proofs.FedSide.{side_fed}
use Rattle.join_op.proofs.OneRow.{row_back}

left_sum : (w : Left → ℕ) (xs ys : List Event) → sum_by w (all_left (xs ++ ys)) ≡ sum_by w (all_left xs) + sum_by w (all_left ys)
left_sum w xs ys = ap (sum_by w) (filter_map-append left_by xs ys) ∙ sum_by-append w (all_left xs) (all_left ys)

-- a side that goes on laying its pages
pub lays_on : {K R : Type 0} (f g : Family) (first next : List Event) → K → HaveLaid f first → LaysAll K R f g next → HaveLaid g (first ++ next)
lays_on f g first next steady laid lays =
    record {
      building = All-append IsBuilding first next laid.building (lays.building steady);
      left = λ w. let all = left_sum w first next in let was = laid.left w in let more = lays.left steady w in omega (arith, all, was, more);
    }

made_sum : (xs ys : List Event) → creates_in (xs ++ ys) ≡ creates_in xs + creates_in ys
made_sum xs ys = ap length (filter_map-append name_in xs ys) ∙ length-append (filter_map name_in xs) (filter_map name_in ys)

-- and goes on making them
pub makes_on : {K R : Type 0} (f g : Family) (first next : List Event) → creates_in first ≡ pages_in f → LaysAll K R f g next → creates_in (first ++ next) ≡ pages_in g
makes_on f g first next made lays = let all = made_sum first next in let more = lays.creates in omega (arith, all, made, more)

-- before the right side has a page, all entries are of the left one
left_alone : (f g : Family) (events : List Event) → ((w : Left → ℕ) → weight w g ≡ 0) → LaidBoth f g events → HaveLaid f events
left_alone f g events none laid =
    record {
      building = subst (All IsBuilding) (sym laid.are) (All-append IsBuilding laid.lefts laid.rights laid.left.building laid.right.building);
      left = λ w.
          let all : sum_by w (all_left events) ≡ sum_by w (all_left (laid.lefts ++ laid.rights)) = ap (λ (es : List Event). sum_by w (all_left es)) laid.are in
          let sum = left_sum w laid.lefts laid.rights in
          let one = laid.left.left w in
          let two = laid.right.left w in
          let zero_right = none w in
          omega (arith, all, sum, one, two, zero_right);
    }

made_alone : (f g : Family) (events : List Event) → pages_in g ≡ 0 → LaidBoth f g events → creates_in events ≡ pages_in f
made_alone f g events none laid =
    let all : creates_in events ≡ creates_in (laid.lefts ++ laid.rights) = ap creates_in laid.are in
    let sum = made_sum laid.lefts laid.rights in
    let one = laid.left_made in
    let two = laid.right_made in
    omega (arith, all, sum, one, two, none)

no_pages : (blocks : ℕ) (h : Holdings) (signs : Signs) → pages_in (over (first_sixteen blocks) h signs) ≡ 0
no_pages blocks h signs = refl

none_left : (w : Left → ℕ) (blocks : ℕ) (h : Holdings) (signs : Signs) → weight w (over (first_sixteen blocks) h signs) ≡ 0
none_left w blocks h signs = refl

module _ (row : List Value) (side : Side) (kinds : kinds_of row ≡ side.kinds) (fed_is_row : IsRow row) where
  pub first_is : 0 + (15 - nibble_of (hash_of (key_bytes side.columns row)) 0) ≡ first_place side.columns row → place_of side 0 0 (row_bytes row) ≡ first_place side.columns row
  first_is same = ap (λ (r : List Value). 0 + (15 - nibble_of (hash_of (key_bytes side.columns r)) 0)) (row_back side.kinds row fed_is_row kinds) ∙ same

  few : (n : ℕ) → 15 - n < 16
  few n = omega arith

  plain : (n : ℕ) → 0 + n ≡ n
  plain n = omega arith

  pub fed_to : (t : ℕ) (fed : List (List Value)) (f g : Family) → KeepsSide side fed f → AllAtEnd f → Feeds t (first_place side.columns row) (row_bytes row ∷ []) f g → KeepsSide side (fed ++ row ∷ []) g
  fed_to t fed f g keeps ends feeds =
      side_fed side t row f g fed (first_place side.columns row) keeps (inr ends) feeds
      (first_is (plain (first_place side.columns row))) (few (nibble_of (hash_of (key_bytes side.columns row)) 0)) fed_is_row kinds

-- the side that wasn't called keeps what it kept
pub kept_beside : (t : ℕ) (side : Side) (fed : List (List Value)) (p now other : Stack) (old new : Holdings) (before after : Signs) → CallsBeside t p now other old new before after → KeepsSide side fed (over other old before) → KeepsSide side fed (over other new after)
kept_beside t side fed p now other old new before after called keeps =
    record { rows = keeps.rows; shows = called.shows keeps.rows keeps.shows; formed = keeps.formed; placed = keeps.placed; same = keeps.same; whole = keeps.whole }

module _ (c : ClientToken) (shape : JoinShape) (left right : Stack) (h : Holdings) (signs : Signs) (start : Option (List Entry)) (lefts rights : List (List Value)) (keeps : Keeps start lefts rights (operator c shape left right) h signs) where
  -- a left row was fed
  pub keeps_left : (now : Stack) (new : Holdings) (after : Signs) (row : List Value) → HasNoRight (operator c shape left right) → CallsBeside c.tracker left now right h new signs after
      → Feeds c.tracker (first_place (left_side shape).columns row) (row_bytes row ∷ []) (over left h signs) (over now new after) → (AllAtEnd (over left h signs) → AllAtEnd (over now new after))
      → kinds_of row ≡ shape.left → IsRow row
      → Keeps start (lefts ++ row ∷ []) rights (operator c shape now right) new after
  keeps_left now new after row none called feeds ends kinds is =
      let at_end = ends (keeps.left_ends none) in
      record {
        left = fed_to row (left_side shape) kinds is c.tracker lefts (over left h signs) (over now new after) keeps.left (keeps.left_ends none) feeds;
        right = kept_beside c.tracker (right_side shape) rights left now right h new signs after called keeps.right;
        left_steady = λ i s at. inl (at_end i s at);
        left_ends = λ same. at_end;
        right_ends = keeps.right_ends;
        laid = since_joined (LaidBoth (over left h signs) (over right h signs)) (LaysAll (AllAtEnd (over left h signs)) ⊥ (over left h signs) (over now new after)) (LaidBoth (over now new after) (over right new after)) start signs.trail after.trail
            (λ first next laid lays.
            let none_yet : (w : Left → ℕ) → weight w (over right h signs) ≡ 0 = λ w. ap (λ (s : Stack). weight w (over s h signs)) none ∙ none_left w right.page_blocks h signs in
            record {
              lefts = first ++ next;
              rights = [];
              are = sym (append-nil (first ++ next));
              left = lays_on (over left h signs) (over now new after) first next (keeps.left_ends none) (left_alone (over left h signs) (over right h signs) first none_yet laid) lays;
              right = record {
                building = All-nil IsBuilding;
                left = λ w. sym (ap (λ (s : Stack). weight w (over s new after)) none ∙ none_left w right.page_blocks new after);
              };
              left_made = makes_on (over left h signs) (over now new after) first next (made_alone (over left h signs) (over right h signs) first (ap (λ (s : Stack). pages_in (over s h signs)) none ∙ no_pages right.page_blocks h signs) laid) lays;
              right_made = sym (ap (λ (s : Stack). pages_in (over s new after)) none ∙ no_pages right.page_blocks new after);
            })
            keeps.laid feeds.steps.trail;
      }

-- a side that was let rest
pub rested : (t many : ℕ) (side : Side) (fed : List (List Value)) (f g : Family) → RestsSome t many f g → KeepsSide side fed f → KeepsSide side fed g
rested t many side fed f g rests keeps =
    record { rows = keeps.rows; shows = rests.rows keeps.rows keeps.shows; formed = keeps.formed; placed = keeps.placed; same = keeps.same; whole = rests.whole keeps.whole }

in_replicate : {X : Type 0} (n : ℕ) (x : X) (i : ℕ) → i < n → slice_get (replicate n x) i ≡ Some x
in_replicate zero x i below = absurd (omega (arith, below))
in_replicate (suc n) x zero below = refl
in_replicate (suc n) x (suc i) below = in_replicate n x i (omega (arith, below))

none_shared : (n : ℕ) (rows : ℕ → List (List ℕ)) → ((i : ℕ) → i < n → rows i ≡ []) → shares n rows ≡ []
none_shared zero rows none = refl
none_shared (suc n) rows none = ap (λ (xs : List (List ℕ)). xs ++ shares n (λ i. rows (suc i))) (none 0 (omega arith)) ∙ none_shared n (λ i. rows (suc i)) (λ i below. none (suc i) (omega (arith, below)))

-- a side that was fed has a page
some_fed : (side : Side) (fed : List (List Value)) (row : List Value) (p : Stack) (h : Holdings) (signs : Signs) → KeepsSide side (fed ++ row ∷ []) (over p h signs) → p ≡ first_sixteen p.page_blocks → ⊥
some_fed side fed row p h signs keeps none =
    let each : (i : ℕ) → i < 16 → keeps.rows i ≡ [] = λ i below.
    no_length (keeps.rows i) (sym (keeps.shows i (empty p.page_blocks) (ap (λ (s : Stack). slice_get s.streams i) none ∙ in_replicate 16 (empty p.page_blocks) i below)).counted) in
    let nothing : sum_by (λ (r : List Value). 1) (rows_in side (shares 16 keeps.rows)) ≡ 0 = ap (λ (rows : List (List ℕ)). sum_by (λ (r : List Value). 1) (rows_in side rows)) (none_shared 16 keeps.rows each) in
    let same = keeps.same (λ r. 1) in
    let more : sum_by (λ (r : List Value). 1) (fed ++ row ∷ []) ≡ sum_by (λ r. 1) fed + 1 = sum_by_push (λ r. 1) fed row in
    omega (arith, nothing, same, more)

module _ (c : ClientToken) (shape : JoinShape) (left now right : Stack) (h h1 : Holdings) (s s1 : Signs) (start : Option (List Entry)) (lefts rights : List (List Value)) (keeps : Keeps start lefts rights (operator c shape left right) h s)
    (called : CallsBeside c.tracker left now right h h1 s s1) (rests : RestsSome c.tracker (length left.streams) (over left h s) (over now h1 s1)) where
  -- the left side was let rest before a right row came
  pub laid_rested : HasNoRight (operator c shape left right) → EnteredEvents (LaidBoth (over now h1 s1) (over right h1 s1)) start s1.trail
  laid_rested none =
      since_joined (LaidBoth (over left h s) (over right h s)) (LaysAll (AreSteady (over left h s)) ⊤ (over left h s) (over now h1 s1)) (LaidBoth (over now h1 s1) (over right h1 s1)) start s.trail s1.trail
      (λ first next laid lays.
      let none_yet : (w : Left → ℕ) → weight w (over right h s) ≡ 0 = λ w. ap (λ (p : Stack). weight w (over p h s)) none ∙ none_left w right.page_blocks h s in
      record {
        lefts = first ++ next;
        rights = [];
        are = sym (append-nil (first ++ next));
        left = lays_on (over left h s) (over now h1 s1) first next keeps.left_steady (left_alone (over left h s) (over right h s) first none_yet laid) lays;
        right = record {
          building = All-nil IsBuilding;
          left = λ w. sym (ap (λ (p : Stack). weight w (over p h1 s1)) none ∙ none_left w right.page_blocks h1 s1);
        };
        left_made = makes_on (over left h s) (over now h1 s1) first next (made_alone (over left h s) (over right h s) first (ap (λ (p : Stack). pages_in (over p h s)) none ∙ no_pages right.page_blocks h s) laid) lays;
        right_made = sym (ap (λ (p : Stack). pages_in (over p h1 s1)) none ∙ no_pages right.page_blocks h1 s1);
      })
      keeps.laid rests.steps.trail

  -- and then a right row was fed
  pub keeps_right : (last : Stack) (h2 : Holdings) (s2 : Signs) (row : List Value) → EnteredEvents (LaidBoth (over now h1 s1) (over right h1 s1)) start s1.trail → CallsBeside c.tracker right last now h1 h2 s1 s2
      → Feeds c.tracker (first_place (right_side shape).columns row) (row_bytes row ∷ []) (over right h1 s1) (over last h2 s2) → (AllAtEnd (over right h1 s1) → AllAtEnd (over last h2 s2))
      → kinds_of row ≡ shape.right → IsRow row
      → Keeps start lefts (rights ++ row ∷ []) (operator c shape now last) h2 s2
  keeps_right last h2 s2 row entered beside feeds ends kinds is =
      let right_now : KeepsSide (right_side shape) (rights ++ row ∷ []) (over last h2 s2) =
      fed_to row (right_side shape) kinds is c.tracker rights (over right h1 s1) (over last h2 s2) (kept_beside c.tracker (right_side shape) rights left now right h h1 s s1 called keeps.right) keeps.right_ends feeds in
      record {
        left = kept_beside c.tracker (left_side shape) lefts right last now h1 h2 s1 s2 beside (rested c.tracker (length left.streams) (left_side shape) lefts (over left h s) (over now h1 s1) rests keeps.left);
        right = right_now;
        left_steady = rests.steady keeps.left_steady;
        left_ends = λ none. absurd (some_fed (right_side shape) rights row last h2 s2 right_now none);
        right_ends = ends keeps.right_ends;
        laid =
            since_joined (LaidBoth (over now h1 s1) (over right h1 s1)) (LaysAll (AllAtEnd (over right h1 s1)) ⊥ (over right h1 s1) (over last h2 s2)) (LaidBoth (over now h2 s2) (over last h2 s2)) start s1.trail s2.trail
            (λ first next laid lays. record {
              lefts = laid.lefts;
              rights = laid.rights ++ next;
              are = ap (λ (es : List Event). es ++ next) laid.are ∙ append_assoc laid.lefts laid.rights next;
              left = record { building = laid.left.building; left = λ w. laid.left.left w ∙ sym (beside.weighs w) };
              right = lays_on (over right h1 s1) (over last h2 s2) laid.rights next keeps.right_ends laid.right lays;
              left_made = laid.left_made;
              right_made = makes_on (over right h1 s1) (over last h2 s2) laid.rights next laid.right_made lays;
            })
            entered feeds.steps.trail;
      }

  pub keeps_right_first : HasNoRight (operator c shape left right) → (last : Stack) (h2 : Holdings) (s2 : Signs) (row : List Value) → CallsBeside c.tracker right last now h1 h2 s1 s2
      → Feeds c.tracker (first_place (right_side shape).columns row) (row_bytes row ∷ []) (over right h1 s1) (over last h2 s2) → (AllAtEnd (over right h1 s1) → AllAtEnd (over last h2 s2))
      → kinds_of row ≡ shape.right → IsRow row
      → Keeps start lefts (rights ++ row ∷ []) (operator c shape now last) h2 s2
  keeps_right_first none last h2 s2 row beside feeds ends kinds is = keeps_right last h2 s2 row (laid_rested none) beside feeds ends kinds is
