-- Rows of one partition are dealt to sixteen above it, one after the other.
use Rattle.std.proofs.Common.{◌≡◌, ◌∙◌, ◌⊎◌, inl, inr, ℕ, zero, suc, ◌+◌, ◌-◌, ◌<◌, ◌≤◌, ◌==◌, Bool, true, false, if◌then◌else◌, List, [], ◌∷◌, ◌++◌, length, drop, Option, Some, None, IfSome, IsSome, Result, Ok, Err, OnErr, refl, ap, sym, subst, arith, append-nil, append_assoc, ne_eqb, eq-eqb, leb}
use Rattle.std.specs.Prelude.{slice_get, sum_by, map}
use Rattle.std.proofs.lemmas.List.Sums.{sum_by-append, sum_by-cons}
use Rattle.std.proofs.lemmas.Bool.{cases_eq, le-leb, lt-leb}
use Rattle.std.proofs.lemmas.Option.{slice_get_within}
use Rattle.reservation_tree.specs.declared.errors.PoolErr.{PoolErr}
use Rattle.pool_model.specs.declared.entry.Entry.{Entry}
use Rattle.pool_model.specs.declared.event.Event.{Event}
use Rattle.store_api.proofs.Growing.{grows_trans}
use Rattle.store_api.specs.Holdings.{Holdings}
use Rattle.store_api.specs.Signs.{Prolongs, Signs}
use Rattle.tuple_stream.specs.Spending.{PinsAgain}
use Rattle.tuple_stream.specs.Streamed.{Streamed}
use Rattle.tuple_stream.specs.Streams.{HasRows}
use Rattle.tuple_stream.specs.Families.{AllClosed, Family, FamilySteps, GoesAll, ShowAll}
use Rattle.tuple_stream.specs.FamilyCalls.{AllWhole, Feeds, ReadsIn, RestsSome, SpendsIn, with_rows}
use Rattle.tuple_stream.specs.Steps.{came}
use Rattle.tuple_stream.specs.Trails.{EnteredEvents, HasPin, PinsFirst, events_of}
use Rattle.tuple_stream.proofs.FamilyChains.{goes_none}
use Rattle.tuple_stream.proofs.PageLists.{no_length}
use Rattle.tuple_stream.proofs.PinsFirst.{both_pin_first, has_pin_back, has_pin_front, pins_first_join}
use Rattle.tuple_stream.proofs.Sinces.{since_any, since_joined, since_now, since_so}
use Rattle.partition_stack.specs.Changes.{ChangesAt, SpendsAt}
use Rattle.partition_stack.specs.Laws.{NoneFrom}
use Rattle.partition_stack.specs.Making.{MakesFew}
use Rattle.partition_stack.specs.Stack.{IsStack, Stack, divided, over}
use Rattle.partition_stack.proofs.Coming.{sixteen_come}
use Rattle.partition_stack.proofs.Making.{few_both, few_less, few_none, going_makes}
use Rattle.join_op.specs.Beside.{CallsBeside}
use Rattle.join_op.specs.Dividing.{DealsAll, DealsNew, HasDealt, HasPart, IsFan, WholeBut}
use Rattle.join_op.specs.Stored.{Side, dealt, place_of}
use Rattle.join_op.proofs.Calls.{calls_beside}
use Rattle.join_op.proofs.Fans.{beside_then, fan_kept}
use Rattle.join_op.proofs.Shares.{no_more}
use Rattle.join_op.proofs.Spent.{whole_called, whole_sent}
use Rattle.std.specs.Bool.{⊤}

-- ---- where rows are dealt

-- none goes below the sixteen
pub none_below : (side : Side) (level base i : ℕ) (rows : List (List ℕ)) → i < base → dealt side level base rows i ≡ []
none_below side level base i [] below = refl
none_below side level base i (r ∷ rows) below =
    let apart : (place_of side level base r == i) ≡ false = ne_eqb (place_of side level base r) i (λ same. omega (arith, same, below)) in
    rw apart (none_below side level base i rows below)

dealt_first : (side : Side) (level base i : ℕ) (x : List ℕ) (xs ys : List (List ℕ)) (b : Bool) → (place_of side level base x == i) ≡ b → dealt side level base (xs ++ ys) i ≡ dealt side level base xs i ++ dealt side level base ys i
    → dealt side level base (x ∷ (xs ++ ys)) i ≡ dealt side level base (x ∷ xs) i ++ dealt side level base ys i
dealt_first side level base i x xs ys true is rest = rw is (ap (λ (zs : List (List ℕ)). x ∷ zs) rest)
dealt_first side level base i x xs ys false is rest = rw is rest

dealt_both : (side : Side) (level base i : ℕ) (xs ys : List (List ℕ)) → dealt side level base (xs ++ ys) i ≡ dealt side level base xs i ++ dealt side level base ys i
dealt_both side level base i [] ys = refl
dealt_both side level base i (x ∷ xs) ys = dealt_first side level base i x xs ys (place_of side level base x == i) refl (dealt_both side level base i xs ys)

high_place : (side : Side) (level at : ℕ) (row : List ℕ) → at < place_of side level (at + 1) row
high_place side level at row = omega arith

-- ---- a row goes from its partition to another

module _ (side : Side) (level at : ℕ) (rows : ℕ → List (List ℕ)) (some rest : List (List ℕ)) (row : List ℕ) (f g : Family) (has : HasDealt side level at rows some rest f) (told : f.held.told ≡ true) where
  -- it is taken out
  pub dealt_spent : (t : ℕ) → SpendsIn t at row f g → (rest ≡ row ∷ drop 1 rest) × HasDealt side level at rows some (drop 1 rest) g
  dealt_spent t spends =
      let first = spends.rows has.now (inl told) has.shows in (
        subst (λ (rs : List (List ℕ)). rs ≡ row ∷ drop 1 rs) has.here first.0,
        record {
          now = with_rows at (drop 1 (has.now at)) has.now;
          shows = first.1;
          below = λ i low. rw (ne_eqb i at (λ same. omega (arith, same, low))) (has.below i low);
          here = rw (eq-eqb at at refl) (ap (drop 1) has.here);
          above = λ i high. rw (ne_eqb i at (λ same. omega (arith, same, high))) (has.above i high);
        },
      )

  abbrev k : ℕ
  k = place_of side level (at + 1) row

  one_there : dealt side level (at + 1) (row ∷ []) k ≡ row ∷ []
  one_there = rw (eq-eqb k k refl) refl

  none_there : (i : ℕ) → (i ≡ k → ⊥) → dealt side level (at + 1) (row ∷ []) i ≡ []
  none_there i apart = rw (ne_eqb k i (λ same. apart (sym same))) refl

  -- and it is appended
  pub dealt_sent : (t : ℕ) → Feeds t k (row ∷ []) f g → HasDealt side level at rows (some ++ row ∷ []) rest g
  dealt_sent t feeds =
      let far = high_place side level at row in
      record {
        now = with_rows k (has.now k ++ row ∷ []) has.now;
        shows = feeds.rows has.now (inl told) has.shows;
        below = λ i low. rw (ne_eqb i k (λ same. omega (arith, same, low, far))) (has.below i low);
        here = rw (ne_eqb at k (λ same. omega (arith, same, far))) has.here;
        above = λ i high. elim (cases_eq i k) [
          | inl same ↦
              rw (eq-eqb i k same)
              (ap (λ (xs : List (List ℕ)). xs ++ row ∷ []) (has.above k far)
              ∙ ap (λ (xs : List (List ℕ)). dealt side level (at + 1) some k ++ xs) (sym one_there)
              ∙ sym (dealt_both side level (at + 1) k some (row ∷ []))
              ∙ ap (dealt side level (at + 1) (some ++ row ∷ [])) (sym same))
          | inr apart ↦
              rw (ne_eqb i k apart)
              (has.above i high
              ∙ sym (append-nil (dealt side level (at + 1) some i))
              ∙ ap (λ (xs : List (List ℕ)). dealt side level (at + 1) some i ++ xs) (sym (none_there i apart))
              ∙ sym (dealt_both side level (at + 1) i some (row ∷ [])))
        ];
      }

-- ---- a page is pinned again

-- of a span either a page was pinned in it, and anything may follow, or what is so then tells of the next span
pub pinned_or : (C : Type 0) (P Q R : List Event → Type 0) (a m b : Option (List Entry)) → ((x : List Event) → P x → HasPin x ⊎ C)
    → ((x y : List Event) → P x → HasPin x → R (x ++ y)) → ((x y : List Event) → P x → Q y → R (x ++ y))
    → EnteredEvents P a m → Prolongs m b → (C → EnteredEvents Q m b) → EnteredEvents R a b
pinned_or C P Q R None m b so pinned still was more next = subst (λ (o : Option (List Entry)). Prolongs o b) was more
pinned_or C P Q R (Some before) m b so pinned still was more next = by (so (events_of was.0) was.2) where
  by : HasPin (events_of was.0) ⊎ C → EnteredEvents R (Some before) b
  by (inl pin) =
      since_joined (λ x. P x × HasPin x) (λ _. ⊤) R (Some before) m b (λ x y both any. pinned x y both.0 both.1) (was.0, was.1, (was.2, pin)) (since_any m b more)
  by (inr c) = since_joined P Q R (Some before) m b still was (next c)

-- once a page was pinned, whatever comes may come
pub pinned_then : (t0 t1 t2 : Option (List Entry)) → EnteredEvents PinsAgain t0 t1 → Prolongs t1 t2 → EnteredEvents PinsAgain t0 t2
pinned_then t0 t1 t2 was more =
    since_joined PinsAgain (λ _. ⊤) PinsAgain t0 t1 t2 (λ x y pins any. record { first = pins_first_join x y pins.first (inl pins.pinned); pinned = has_pin_front x y pins.pinned }) was (since_any t1 t2 more)

-- no page was left before one was pinned again; and while none was, nothing was taken out
pub record Begun (left all : ℕ) (p now : Stack) (events : List Event) : Type 0 where
  pub first : PinsFirst events
  pub pinned : HasPin events ⊎ ((left ≡ all) × (now.streams ≡ p.streams))

-- a row that wasn't taken leaves those that are there
pub fed_still : {X : Type 0} (r : Result X PoolErr) (t k : ℕ) (row : List ℕ) (f g : Family) → Feeds t k (came r row) f g → OnErr r ((rows : ℕ → List (List ℕ)) → f.held.told ≡ true → ShowAll rows f → ShowAll rows g)
fed_still (Ok x) t k row f g feeds = tt
fed_still (Err e) t k row f g feeds = λ rows told shows i s there. subst (λ (rs : List (List ℕ)). HasRows rs s g.held) (no_more k rows i) (feeds.rows rows (inl told) shows i s there)

parts_weigh : (w : List ℕ → ℕ) (all some rest : List (List ℕ)) → all ≡ some ++ rest → sum_by w some + sum_by w rest ≤ sum_by w all
parts_weigh w all some rest split =
    let same = ap (sum_by w) split in
    let sum = sum_by-append w some rest in
    omega (arith, same, sum)

-- ---- the loop

-- some rows were dealt, and so many are left
pub record HasSome (side : Side) (level at left : ℕ) (rows : ℕ → List (List ℕ)) (f : Family) : Type 0 where
  pub some : List (List ℕ)
  pub rest : List (List ℕ)
  pub split : rows at ≡ some ++ rest
  pub many : left ≡ length rest
  pub dealt : HasDealt side level at rows some rest f

-- no more pages were made than rows of so many were taken out, of which so many are left
pub record HasMade (all left : ℕ) (a b : Signs) : Type 0 where
  pub made : ℕ
  pub short : made + left ≤ all
  pub few : MakesFew made a b

pub record Deals (t : ℕ) (side : Side) (level at all left : ℕ) (p now other : Stack) (h0 h : Holdings) (s0 s : Signs) : Type 0 where
  pub beside : CallsBeside t p now other h0 h s0 s
  pub fan : IsFan level at now
  pub first : AllClosed (over p h0 s0) → EnteredEvents (Begun left all p now) s0.trail s.trail
  pub made : HasMade all left s0 s
  pub whole : AllWhole (over p h0 s0) → WholeBut at (over now h s)
  pub rows : (rows : ℕ → List (List ℕ)) → h0.told ≡ true → NoneFrom (at + 1) rows → ShowAll rows (over p h0 s0) → HasSome side level at left rows (over now h s)

there_is : {X : Type 0} (xs : List X) (k : ℕ) → k < length xs → IsSome (slice_get xs k)
there_is [] k inside = absurd (omega (arith, inside))
there_is (x ∷ xs) zero inside = refl
there_is (x ∷ xs) (suc k) inside = there_is xs k (omega (arith, inside))

count_there : (left : ℕ) (h : Holdings) (o : Option Streamed) → IfSome o (λ s. left ≡ s.count) → (rows : List (List ℕ)) → ((s : Streamed) → o ≡ Some s → HasRows rows s h) → IsSome o → left ≡ length rows
count_there left h None counted rows has some = absurd cc
count_there left h (Some s) counted rows has some = counted ∙ (has s refl).counted

is_there : (o : Option Streamed) → IsSome o → (s : Streamed) × (o ≡ Some s)
is_there None some = absurd cc
is_there (Some s) some = (s, refl)

-- how many rows the partition at a place has
abbrev pub count_in : Option Streamed → ℕ
count_in None = 0
count_in (Some s) = s.count

abbrev pub count_at : ℕ → Stack → ℕ
count_at at p = count_in (slice_get p.streams at)

all_counted : (o : Option Streamed) → IfSome o (λ r. count_in o ≡ r.count)
all_counted None = tt
all_counted (Some s) = refl

left_all : (left : ℕ) (o : Option Streamed) → IfSome o (λ r. left ≡ r.count) → IsSome o → left ≡ count_in o
left_all left None counted some = absurd cc
left_all left (Some s) counted some = counted

some_in : (o : Option Streamed) → IfSome o (λ r. 0 < r.count) → IsSome o → 0 < count_in o
some_in None rows some = absurd cc
some_in (Some s) rows some = rows

pub some_all : (level at : ℕ) (p : Stack) → IsFan level at p → IfSome (slice_get p.streams at) (λ r. 0 < r.count) → 0 < count_at at p
some_all level at p fan rows = some_in (slice_get p.streams at) rows (there_is p.streams at (let many = fan.sixteen in omega (arith, many)))

pub deals_none : (t : ℕ) (side : Side) (level at left : ℕ) (p other : Stack) (h : Holdings) (s : Signs) → CallsBeside t p p other h h s s → IsFan level at p → IfSome (slice_get p.streams at) (λ r. left ≡ r.count) → Deals t side level at (count_at at p) left p p other h h s s
deals_none t side level at left p other h s beside fan counted =
    record {
      beside = beside;
      fan = fan;
      first = λ closed. since_now (Begun left (count_at at p) p p) s.trail (record { first = tt; pinned = inr (left_all left (slice_get p.streams at) counted (there_is p.streams at (let many = fan.sixteen in omega (arith, many))), refl) });
      made = let counted_all = left_all left (slice_get p.streams at) counted (there_is p.streams at (let many = fan.sixteen in omega (arith, many))) in record { made = 0; short = omega (arith, counted_all); few = few_none s };
      whole = λ all i x there apart. all i x there;
      rows = λ rows told none shows. record {
        some = [];
        rest = rows at;
        split = refl;
        many = count_there left h (slice_get p.streams at) counted (rows at) (λ r there. shows at r there) (there_is p.streams at (let many = fan.sixteen in omega (arith, many)));
        dealt = record { now = rows; shows = shows; below = λ i low. refl; here = refl; above = λ i high. none i (omega (arith, high)) };
      };
    }

module _ (t : ℕ) (side : Side) (level at left : ℕ) (p0 p q other : Stack) (h0 h h1 : Holdings) (s0 s s1 : Signs) (deals : Deals t side level at (count_at at p0) left p0 p other h0 h s0 s) where
  abbrev all : ℕ
  all = count_at at p0

  -- the partition was called
  pub calls_more : {laid : List Event → Type 0} → FamilySteps laid t (over p h s) (over q h1 s1) → ChangesAt at p q → CallsBeside t p0 q other h0 h1 s0 s1
  calls_more steps changes =
      beside_then t p0 p q other h0 h h1 s0 s s1 deals.beside (calls_beside t p q other h h1 s s1 deals.beside.own steps changes.blocks changes.levels)

  pub fan_more : ChangesAt at p q → length q.streams ≡ length p.streams → IsFan level at q
  fan_more changes long = fan_kept level at at p q deals.fan (omega arith) changes long

  -- nothing of the others is spent
  pub whole_more : ChangesAt at p q → AllWhole (over p0 h0 s0) → WholeBut at (over q h1 s1)
  whole_more changes none = whole_called at p q h h1 s s1 changes (deals.whole none)

  -- which made no page
  made_till : FamilySteps (GoesAll (over p h s) (over q h1 s1)) t (over p h s) (over q h1 s1) → MakesFew deals.made.made s0 s1
  made_till steps = few_both deals.made.made 0 deals.made.made s0 s s1 (omega arith) deals.made.few (going_makes t (over p h s) (over q h1 s1) steps)

  here_counted : (x : Streamed) → slice_get p0.streams at ≡ Some x → all ≡ x.count
  here_counted x there = ap count_in there

  -- all that were taken out, whatever came of the last one
  pub made_unspent : FamilySteps (GoesAll (over p h s) (over q h1 s1)) t (over p h s) (over q h1 s1) → (x : Streamed) → slice_get p0.streams at ≡ Some x → MakesFew x.count s0 s1
  made_unspent steps x there = let short = deals.made.short in let counted = here_counted x there in few_less deals.made.made x.count s0 s1 (omega (arith, short, counted)) (made_till steps)

  pub made_sent : FamilySteps (GoesAll (over p h s) (over q h1 s1)) t (over p h s) (over q h1 s1) → 0 < left → (s2 : Signs) → MakesFew 1 s1 s2 → (x : Streamed) → slice_get p0.streams at ≡ Some x → MakesFew x.count s0 s2
  made_sent steps some s2 more x there = let short = deals.made.short in let counted = here_counted x there in few_both deals.made.made 1 x.count s0 s1 s2 (omega (arith, short, counted, some)) (made_till steps) more

  pub made_all : (x : Streamed) → slice_get p0.streams at ≡ Some x → MakesFew x.count s0 s
  made_all x there = let short = deals.made.short in let counted = here_counted x there in few_less deals.made.made x.count s0 s (omega (arith, short, counted)) deals.made.few

  pub made_none : SpendsAt t at None (over p h s) (over q h1 s1) → (x : Streamed) → slice_get p0.streams at ≡ Some x → MakesFew x.count s0 s1
  made_none none x there = subst (λ (f : Family). MakesFew x.count s0 f.signs) (sym none.1) (made_all x there)

  -- whether there was a row
  pub spent_row : (found : Bool) (row : List ℕ) → SpendsAt t at (if found then Some row else None) (over p h s) (over q h1 s1) → found ≡ true → SpendsIn t at row (over p h s) (over q h1 s1)
  spent_row found row spends is = subst (λ (b : Bool). SpendsAt t at (if b then Some row else None) (over p h s) (over q h1 s1)) is spends

  pub spent_none : (found : Bool) (row : List ℕ) → SpendsAt t at (if found then Some row else None) (over p h s) (over q h1 s1) → found ≡ false → SpendsAt t at None (over p h s) (over q h1 s1)
  spent_none found row spends is = subst (λ (b : Bool). SpendsAt t at (if b then Some row else None) (over p h s) (over q h1 s1)) is spends

  none_left : (rows : ℕ → List (List ℕ)) (some rest : List (List ℕ)) → rows at ≡ some ++ rest → HasDealt side level at rows some rest (over p h s) → rest ≡ [] → HasDealt side level at rows (rows at) [] (over p h s)
  none_left rows some rest split dealt is =
      subst (λ (xs : List (List ℕ)). HasDealt side level at rows xs [] (over p h s)) (sym (split ∙ ap (λ (ys : List (List ℕ)). some ++ ys) is ∙ append-nil some))
      (subst (λ (ys : List (List ℕ)). HasDealt side level at rows some ys (over p h s)) is dealt)

  -- all were dealt
  pub all_dealt : left ≡ 0 → DealsNew side level at (over p0 h0 s0) (over p h s)
  all_dealt none rows told high shows =
      let has = deals.rows rows told high shows in
      let many = has.many in
      none_left rows has.some has.rest has.split has.dealt (no_length has.rest (omega (arith, many, none)))

  -- no row was there
  pub none_dealt : SpendsAt t at None (over p h s) (over q h1 s1) → DealsNew side level at (over p0 h0 s0) (over q h1 s1)
  none_dealt none rows told high shows =
      let has = deals.rows rows told high shows in
      let there = is_there (slice_get p.streams at) (there_is p.streams at (let many = deals.fan.sixteen in omega (arith, many))) in
      let counted : length has.rest ≡ 0 = sym (ap length has.dealt.here) ∙ sym (has.dealt.shows at there.0 there.1).counted ∙ none.0 there.0 there.1 in
      subst (HasDealt side level at rows (rows at) []) (sym none.1) (none_left rows has.some has.rest has.split has.dealt (no_length has.rest counted))

  is_pinned : 0 < all → (left ≡ all → p.streams ≡ p0.streams → ⊥) → AllClosed (over p0 h0 s0) → EnteredEvents PinsAgain s0.trail s.trail
  is_pinned some never closed =
      since_so (Begun left all p0 p) PinsAgain s0.trail s.trail (λ x begun. record { first = begun.first; pinned = elim begun.pinned [ inl pin ↦ pin | inr still ↦ absurd (never still.0 still.1) ] }) (deals.first closed)

  pub all_first : 0 < all → left ≡ 0 → AllClosed (over p0 h0 s0) → EnteredEvents PinsAgain s0.trail s.trail
  all_first some none = is_pinned some (λ same _. omega (arith, same, some, none))

  pub none_first : 0 < all → SpendsAt t at None (over p h s) (over q h1 s1) → AllClosed (over p0 h0 s0) → EnteredEvents PinsAgain s0.trail s1.trail
  none_first some none closed =
      subst (λ (f : Family). EnteredEvents PinsAgain s0.trail f.signs.trail) (sym none.1)
      (is_pinned some (λ _ same.
      let there = is_there (slice_get p.streams at) (there_is p.streams at (let many = deals.fan.sixteen in omega (arith, many))) in
      let was : slice_get p0.streams at ≡ Some there.0 = ap (λ (ss : List Streamed). slice_get ss at) (sym same) ∙ there.1 in
      let count : all ≡ there.0.count = subst (λ (o : Option Streamed). IfSome o (λ r. all ≡ r.count)) was (all_counted (slice_get p0.streams at)) in
      let zero_count = none.0 there.0 there.1 in
      omega (arith, count, zero_count, some)) closed)

  pub none_fan : SpendsAt t at None (over p h s) (over q h1 s1) → ChangesAt at p q → IsFan level at q
  none_fan none changes = fan_more changes (ap (λ (f : Family). length f.streams) none.1)

  -- nothing of the store changed then
  pub none_beside : SpendsAt t at None (over p h s) (over q h1 s1) → ChangesAt at p q → CallsBeside t p0 q other h0 h1 s0 s1
  none_beside none changes =
      beside_then t p0 p q other h0 h h1 s0 s s1 deals.beside (calls_beside t p q other h h1 s s1 deals.beside.own (subst (λ (f : Family). FamilySteps (GoesAll (over p h s) f) t (over p h s) f) (sym none.1) (goes_none t (over p h s) deals.beside.own.left_shaped)) changes.blocks changes.levels)

  -- where reading on failed, some are dealt
  pub part_read : ReadsIn t (over p h s) (over q h1 s1) → (rows : ℕ → List (List ℕ)) → h0.told ≡ true → NoneFrom (at + 1) rows → ShowAll rows (over p0 h0 s0) → HasPart side level at rows (over q h1 s1)
  part_read reads rows told none shows =
      let has = deals.rows rows told none shows in
      record {
        some = has.some;
        rest = has.rest;
        lighter = λ w. parts_weigh w (rows at) has.some has.rest has.split;
        dealt = record {
          now = has.dealt.now;
          shows = reads.rows has.dealt.now (deals.beside.leaves.others.told ∙ told) has.dealt.shows;
          below = has.dealt.below;
          here = has.dealt.here;
          above = has.dealt.above;
        };
      }

  -- and where a row was taken out, which couldn't be sent on
  pub part_sent : (row : List ℕ) → SpendsIn t at row (over p h s) (over q h1 s1) → (r : Stack) (h2 : Holdings) (s2 : Signs) → ((rows : ℕ → List (List ℕ)) → h1.told ≡ true → ShowAll rows (over q h1 s1) → ShowAll rows (over r h2 s2))
      → (rows : ℕ → List (List ℕ)) → h0.told ≡ true → NoneFrom (at + 1) rows → ShowAll rows (over p0 h0 s0) → HasPart side level at rows (over r h2 s2)
  part_sent row spends r h2 s2 stays rows told none shows =
      let has = deals.rows rows told none shows in
      let tells : h.told ≡ true = deals.beside.leaves.others.told ∙ told in
      let spent = dealt_spent side level at rows has.some has.rest row (over p h s) (over q h1 s1) has.dealt tells t spends in
      record {
        some = has.some;
        rest = drop 1 has.rest;
        lighter = λ w.
            let all = parts_weigh w (rows at) has.some has.rest has.split in
            let first : sum_by w has.rest ≡ sum_by w (row ∷ drop 1 has.rest) = ap (sum_by w) spent.0 in
            let one : sum_by w (row ∷ drop 1 has.rest) ≡ w row + sum_by w (drop 1 has.rest) = sum_by-cons w row (drop 1 has.rest) in
            omega (arith, all, first, one);
        dealt = record {
          now = spent.1.now;
          shows = stays spent.1.now (spends.steps.touches.told ∙ tells) spent.1.shows;
          below = spent.1.below;
          here = spent.1.here;
          above = spent.1.above;
        };
      }

  -- a row was taken out, and then sent on
  pub more_deals : (row : List ℕ) → (spends : SpendsIn t at row (over p h s) (over q h1 s1)) → (changes : ChangesAt at p q) → (r : Stack) (h2 : Holdings) (s2 : Signs) → CallsBeside t q r other h1 h2 s1 s2 → IsFan level at r
      → Feeds t (place_of side level (at + 1) row) (row ∷ []) (over q h1 s1) (over r h2 s2) → MakesFew 1 s1 s2 → map (λ x. x.spent) r.streams ≡ map (λ x. x.spent) q.streams → 0 < left → Deals t side level at all (left - 1) p0 r other h0 h2 s0 s2
  more_deals row spends changes r h2 s2 sent fan feeds more same some_left =
      record {
        beside = beside_then t p0 q r other h0 h1 h2 s0 s1 s2 (calls_more spends.steps changes) sent;
        fan = fan;
        first = λ closed.
            let closed_now : p.streams ≡ p0.streams → AllClosed (over p h s) = λ same i x there. closed i x (ap (λ (ss : List Streamed). slice_get ss i) (sym same) ∙ there) in
            let grows : Prolongs s.trail s2.trail = (grows_trans s s1 s2 spends.steps.grows sent.leaves.grows).trail in
            pinned_or ((left ≡ all) × (p.streams ≡ p0.streams)) (Begun left all p0 p) PinsAgain (Begun (left - 1) all p0 r) s0.trail s.trail s2.trail (λ x begun. begun.pinned)
            (λ x y begun pin. record { first = pins_first_join x y begun.first (inl pin); pinned = inl (has_pin_front x y pin) })
            (λ x y begun next. record { first = both_pin_first x y begun.first next.first; pinned = inl (has_pin_back x y next.pinned) })
            (deals.first closed) grows (λ still. pinned_then s.trail s1.trail s2.trail (spends.pins (closed_now still.1)) sent.leaves.grows.trail);
        made = let short = deals.made.short in record { made = deals.made.made + 1; short = omega (arith, short, some_left); few = few_both deals.made.made 1 (deals.made.made + 1) s0 s1 s2 (omega arith) (made_till spends.steps) more };
        whole = λ none. whole_sent at q r h1 h2 s1 s2 same (whole_more changes none);
        rows = λ rows told none shows.
            let has = deals.rows rows told none shows in
            let tells : h.told ≡ true = deals.beside.leaves.others.told ∙ told in
            let spent = dealt_spent side level at rows has.some has.rest row (over p h s) (over q h1 s1) has.dealt tells t spends in
            record {
              some = has.some ++ row ∷ [];
              rest = drop 1 has.rest;
              split = has.split ∙ ap (λ (ys : List (List ℕ)). has.some ++ ys) spent.0 ∙ sym (append_assoc has.some (row ∷ []) (drop 1 has.rest));
              many = let many = has.many in let long = ap length spent.0 in omega (arith, many, long);
              dealt = dealt_sent side level at rows has.some (drop 1 has.rest) row (over q h1 s1) (over r h2 s2) spent.1 (spends.steps.touches.told ∙ tells) t feeds;
            };
      }

-- ---- a partition that was divided

module _ (t : ℕ) (side : Side) (level at : ℕ) (p : Stack) (h : Holdings) (s : Signs) (is : IsStack p) (top : length p.streams ≡ at + 1) (g : Family) where
  first_rows : (ℕ → List (List ℕ)) → ℕ → List (List ℕ)
  first_rows rows i = if leb i at then rows i else []

  here_row : (rows : ℕ → List (List ℕ)) (i : ℕ) → i ≤ at → first_rows rows i ≡ rows i
  unfolding first_rows
  here_row rows i low = rw (le-leb i at low) refl

  high_row : (rows : ℕ → List (List ℕ)) (i : ℕ) → at < i → first_rows rows i ≡ []
  unfolding first_rows
  high_row rows i high = rw (lt-leb i at high) refl

  deals_new : DealsNew side level at (over (divided at level p) h s) g → DealsAll side level at (over p h s) g
  deals_new new rows told shows =
      let these : ShowAll (first_rows rows) (over p h s) = λ i r there. subst (λ (rs : List (List ℕ)). HasRows rs r h) (sym (here_row rows i (let inside = slice_get_within p.streams i r there in omega (arith, inside, top)))) (shows i r there) in
      let has = new (first_rows rows) told (λ i high. high_row rows i (omega (arith, high))) ((sixteen_come t 0 at level p h s is).rows (first_rows rows) (λ i high. high_row rows i (omega (arith, high, top))) these) in
      record {
        now = has.now;
        shows = has.shows;
        below = λ i low. has.below i low ∙ here_row rows i (omega (arith, low));
        here = has.here;
        above = λ i high. has.above i high ∙ ap (λ (rs : List (List ℕ)). dealt side level (at + 1) rs i) (here_row rows at (omega arith));
      }

  -- of those of which some were dealt
  pub part_all : (q : Stack) → q ≡ divided at level p → ((rows : ℕ → List (List ℕ)) → h.told ≡ true → NoneFrom (at + 1) rows → ShowAll rows (over q h s) → HasPart side level at rows g) → (rows : ℕ → List (List ℕ)) → h.told ≡ true → ShowAll rows (over p h s)
      → HasPart side level at rows g
  part_all q same new rows told shows =
      let these : ShowAll (first_rows rows) (over p h s) = λ i r there. subst (λ (rs : List (List ℕ)). HasRows rs r h) (sym (here_row rows i (let inside = slice_get_within p.streams i r there in omega (arith, inside, top)))) (shows i r there) in
      let come : ShowAll (first_rows rows) (over (divided at level p) h s) = (sixteen_come t 0 at level p h s is).rows (first_rows rows) (λ i high. high_row rows i (omega (arith, high, top))) these in
      let has = new (first_rows rows) told (λ i high. high_row rows i (omega (arith, high))) (subst (λ (r : Stack). ShowAll (first_rows rows) (over r h s)) (sym same) come) in
      record {
        some = has.some;
        rest = has.rest;
        lighter = λ w. subst (λ (rs : List (List ℕ)). sum_by w has.some + sum_by w has.rest ≤ sum_by w rs) (here_row rows at (omega arith)) (has.lighter w);
        dealt = record {
          now = has.dealt.now;
          shows = has.dealt.shows;
          below = λ i low. has.dealt.below i low ∙ here_row rows i (omega (arith, low));
          here = has.dealt.here;
          above = has.dealt.above;
        };
      }

  pub deals_all : (q : Stack) → q ≡ divided at level p → DealsNew side level at (over q h s) g → DealsAll side level at (over p h s) g
  deals_all q same dealt = deals_new (subst (λ (r : Stack). DealsNew side level at (over r h s) g) same dealt)

-- and whose pages were let rest
pub deals_rested : (t many : ℕ) (side : Side) (level at : ℕ) (f g k : Family) → DealsAll side level at f g → RestsSome t many g k → DealsAll side level at f k
deals_rested t many side level at f g k deals rests rows told shows =
    let has = deals rows told shows in
    record { now = has.now; shows = rests.rows has.now has.shows; below = has.below; here = has.here; above = has.above }
