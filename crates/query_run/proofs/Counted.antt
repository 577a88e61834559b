-- How many pages a query makes in all.
use Rattle.std.proofs.Common.{◌≡◌, ◌+◌, ◌*◌, ◌≤◌, ◌++◌, ◌∷◌, ℕ, List, [], true, Option, Some, None, IfSome, Result, Ok, Err, OnErr, OnOk, length, ap, subst, refl, arith}
use Rattle.std.proofs.lemmas.List.{length-append}
use Rattle.pool_model.specs.LookingBack.{names_in}
use Rattle.pool_model.specs.declared.entry.Entry.{Entry}
use Rattle.pool_model.specs.declared.event.Event.TheVariants.{CloseTracker, MoveReservation}
use Rattle.row_codec.specs.declared.values.Value.{Value}
use Rattle.store_api.proofs.Names.{these_make}
use Rattle.store_api.specs.Entries.{MadeThese}
use Rattle.store_api.specs.Holdings.{Holdings}
use Rattle.store_api.specs.Signs.{Entered, Signs}
use Rattle.store_api.specs.declared.op_err.OpErr.{OpErr}
use Rattle.partition_stack.specs.Making.{MakesBeside, MakesFew}
use Rattle.partition_stack.proofs.Making.{few_both, few_less}
use Rattle.group_op.specs.Making.{FewPages, pages_on}
use Rattle.group_op.specs.Operator as group
use Rattle.join_op.specs.Handing.{CameSome}
use Rattle.join_op.specs.Pairs.{pairs_of}
use Rattle.query_plan.specs.Sizes.{groups}
use Rattle.query_plan.specs.declared.plan.Query.{Query}
use Rattle.query_plan.specs.declared.plan.SidePlan.{SidePlan}
use Rattle.query_run.specs.Both.{Told, answered, both_told, passing_of_both, right_passing}
use Rattle.query_run.specs.Feeder.{pages_made}
use Rattle.query_run.specs.Feeding.{OfTaken}
use Rattle.query_run.specs.Input.{IsAccepted, passing, passing_in}
use Rattle.query_run.specs.Joined.{HasFedBoth}
use Rattle.query_run.specs.Plans.{join_shape_of}
use Rattle.query_run.specs.Taking.{GroupMakes}
use Rattle.query_run.specs.Through.{pairs_in, rows_through}
use Rattle.query_run.specs.declared.feeding.Fed.{Fed}
use Rattle.query_run.proofs.Fronts.{first_few, first_passing}
use Rattle.query_run.proofs.KeptFirst.{coming}
use Rattle.query_run.proofs.Made.{entered_so, entered_then, names_sum}
use Rattle.query_run.proofs.Orders.{same_many}
use Rattle.query_run.proofs.Sides.{fed_many, shows}

-- ---- one span, and the next

pub names_none : (a b : Signs) → Entered (λ more. names_in more ≡ []) a.trail b.trail → MakesFew 0 a b
names_none a b none = entered_so (λ more. names_in more ≡ []) (λ more. length (names_in more) ≤ 0) (λ more is. let zero : length (names_in more) ≡ 0 = ap length is in omega (arith, zero)) a.trail b.trail none

-- a client that comes, and one that ends, make none
pub coming_makes : (maker c query limit bytes : ℕ) (a b : Signs) → MadeThese maker (coming c query limit bytes) a b → MakesFew 0 a b
coming_makes maker c query limit bytes a b made = these_make maker 0 (coming c query limit bytes) a b (omega arith) made

pub ending_makes : (maker c query bytes : ℕ) (a b : Signs) → MadeThese maker (MoveReservation c query bytes ∷ CloseTracker c ∷ []) a b → MakesFew 0 a b
ending_makes maker c query bytes a b made = these_make maker 0 (MoveReservation c query bytes ∷ CloseTracker c ∷ []) a b (omega arith) made

pub counted_from_none : (most creates now : ℕ) (a b : Signs) → MakesBeside most creates now a b → MakesBeside most 0 now a b
counted_from_none most creates now a b beside = entered_so (λ more. creates + length (names_in more) ≤ now + most) (λ more. 0 + length (names_in more) ≤ now + most) (λ more one. omega (arith, one)) a.trail b.trail beside

pub counted_few : (most : ℕ) (a b : Signs) → MakesBeside most 0 0 a b → MakesFew most a b
counted_few most a b beside = entered_so (λ more. 0 + length (names_in more) ≤ 0 + most) (λ more. length (names_in more) ≤ most) (λ more one. omega (arith, one)) a.trail b.trail beside

-- behind what an emitter counts
pub counted_then : (m n now : ℕ) (a b c : Signs) → MakesBeside m 0 now a b → MakesFew n b c → MakesBeside (m + n) 0 now a c
counted_then m n now a b c first next =
    entered_then (λ more. 0 + length (names_in more) ≤ now + m) (λ more. length (names_in more) ≤ n) (λ more. 0 + length (names_in more) ≤ now + (m + n)) (λ x y one two. let sum = names_sum x y in omega (arith, sum, one, two)) a.trail b.trail c.trail first next

pub counted_all : (m now most : ℕ) (a b : Signs) → now + m ≤ most → MakesBeside m 0 now a b → MakesFew most a b
counted_all m now most a b few beside = entered_so (λ more. 0 + length (names_in more) ≤ now + m) (λ more. length (names_in more) ≤ most) (λ more one. omega (arith, few, one)) a.trail b.trail beside

-- ---- pairs that were handed on

came_few : (took : List (List Value) → Type 0) (pairs : List (List Value)) → CameSome [] took pairs → (rows : List (List Value)) × took rows × (length rows ≤ length pairs)
came_few took pairs came =
    let all = same_many (came.some ++ came.rest) pairs came.same in
    let sum = length-append came.some came.rest in
    (came.some, came.came, omega (arith, all, sum))

pub took_of : (took : List (List Value) → Type 0) (pairs : List (List Value)) (r : Result Unit OpErr) → OnOk r (CameSome [] took pairs) → OnErr r (CameSome [] took pairs) → (rows : List (List Value)) × took rows × (length rows ≤ length pairs)
took_of took pairs (Ok done) ok err = came_few took pairs ok
took_of took pairs (Err e) ok err = came_few took pairs err

pub counted_on : (most taken : ℕ) (o : Option group.Operator) (op : group.Operator) (a b c : Signs) → o ≡ Some op → MakesBeside most 0 (pages_made o taken) a b → MakesFew 0 b c → MakesBeside most 0 (pages_on op) a c
counted_on most taken o op a b c is made none =
    let same : most + 0 ≡ most = omega arith in
    subst (λ (n : ℕ). MakesBeside n 0 (pages_on op) a c) same (counted_then most 0 (pages_on op) a b c (rw is at made) none)

-- ---- a grouping that was fed

made_exact : (a b : group.Operator) (rows : List (List Value)) (h : Holdings) (s0 s1 : Signs) → GroupMakes a b rows h s0 s1 → MakesBeside 0 0 (pages_on b) s0 s1
made_exact a b rows h s0 s1 makes =
    entered_so (λ more. pages_on b ≡ pages_on a + length (names_in more)) (λ more. 0 + length (names_in more) ≤ pages_on b + 0) (λ more one. omega (arith, one)) s0.trail s1.trail makes.exact

-- it made no more pages than it took rows
pub fed_makes : (a b : group.Operator) (rows : List (List Value)) (h : Holdings) (start : Option (List Entry)) (s0 s1 : Signs) → group.Keeps start [] a h s0 → GroupMakes a b rows h s0 s1 → MakesFew (length rows) s0 s1
fed_makes a b rows h start s0 s1 keeps makes = let few = makes.few start [] keeps in counted_all 0 (pages_on b) (length rows) s0 s1 (omega (arith, few)) (made_exact a b rows h s0 s1 makes)

-- and when it handed its groups on, at most fifteen more for each, and those of the rows of its table
pub whole_makes : (a b : group.Operator) (rows fed : List (List Value)) (h h1 : Holdings) (s0 s1 s2 : Signs) → FewPages → group.IsFeeding b → group.Holds fed b h1 s1 → GroupMakes a b rows h s0 s1
    → MakesFew (15 * length fed + length (group.entries_in b.table)) s1 s2 → MakesFew (16 * length fed) s0 s2
whole_makes a b rows fed h h1 s0 s1 s2 few feeding holds makes later =
    let most = few fed b h1 s1 feeding holds in
    counted_all (0 + (15 * length fed + length (group.entries_in b.table))) (pages_on b) (16 * length fed) s0 s2 (omega (arith, most))
    (counted_then 0 (15 * length fed + length (group.entries_in b.table)) (pages_on b) s0 s1 s2 (made_exact a b rows h s0 s1 makes) later)

-- so it is of one that was fed pairs
pub pairs_make : (joined : ℕ) (op : group.Operator) (fed : List (List Value)) (h1 : Holdings) (s0 s1 s2 : Signs) → FewPages → group.IsFeeding op → group.Holds fed op h1 s1 → MakesBeside joined 0 (pages_on op) s0 s1
    → MakesFew (15 * length fed + length (group.entries_in op.table)) s1 s2 → MakesFew (joined + 16 * length fed) s0 s2
pairs_make joined op fed h1 s0 s1 s2 few feeding holds made later =
    let most = few fed op h1 s1 feeding holds in
    counted_all (joined + (15 * length fed + length (group.entries_in op.table))) (pages_on op) (joined + 16 * length fed) s0 s2 (omega (arith, most))
    (counted_then joined (15 * length fed + length (group.entries_in op.table)) (pages_on op) s0 s1 s2 made later)

-- ---- by the rows of the inputs

-- where nothing was made
pub none_through : (plan : Query) (o : Option Told) (a b : Signs) → MakesFew 0 a b → IfSome o (λ both. MakesFew (16 * rows_through plan both) a b)
none_through plan None a b none = tt
none_through plan (Some both) a b none = few_less 0 (16 * rows_through plan both) a b (omega arith) none

-- or before, and behind
pub through_around : (plan : Query) (o : Option Told) (a b c d : Signs) → MakesFew 0 a b → IfSome o (λ both. MakesFew (16 * rows_through plan both) b c) → MakesFew 0 c d → IfSome o (λ both. MakesFew (16 * rows_through plan both) a d)
through_around plan None a b c d first makes last = tt
through_around plan (Some both) a b c d first makes last =
    few_both 0 (16 * rows_through plan both) (16 * rows_through plan both) a b d (omega arith) first (few_both (16 * rows_through plan both) 0 (16 * rows_through plan both) b c d (omega arith) makes last)

-- what holds of bytes that are told
pub told_so : (P Q : Told → Type 0) → ((told : Told) → P told → Q told) → (o : Option Told) → IfSome o P → IfSome o Q
told_so P Q so None holds = tt
told_so P Q so (Some told) holds = so told holds

passing-through : (plan : Query) (told : Told) → length (passing plan told.left) ≤ rows_through plan told
passing-through plan told = let sum = length-append (passing plan told.left) (right_passing plan.right told.right) in omega (arith, sum)

-- rows of an input that doesn't join
pub alone_taken : (plan : Query) (page : ℕ) (told : Option (List ℕ)) (s0 s1 : Signs) → OfTaken plan plan.left page told (λ rows. MakesFew (length rows) s0 s1)
    → IfSome (both_told told (Some [])) (λ both. MakesFew (16 * rows_through plan both) s0 s1)
alone_taken plan page None s0 s1 taken = tt
alone_taken plan page (Some bytes) s0 s1 taken =
    let fewer = first_few taken.rows (passing plan bytes) (first_passing plan plan.left page bytes taken.rows taken.first) in
    let most = passing-through plan (record { left = bytes; right = [] }) in
    few_less (length taken.rows) (16 * rows_through plan (record { left = bytes; right = [] })) s0 s1 (omega (arith, fewer, most)) taken.so

pub alone_whole : (plan : Query) (page : ℕ) (told : Option (List ℕ)) (rows : List (List Value)) (s0 s1 : Signs) → IfSome told (λ bytes. IsAccepted plan page bytes × (rows ≡ passing plan bytes)) → MakesFew (16 * length rows) s0 s1 → IfSome (both_told told (Some [])) (λ both. MakesFew (16 * rows_through plan both) s0 s1)
alone_whole plan page None rows s0 s1 are makes = tt
alone_whole plan page (Some bytes) rows s0 s1 are makes =
    let same : length rows ≡ length (passing plan bytes) = ap length are.1 in
    let most = passing-through plan (record { left = bytes; right = [] }) in
    few_less (16 * length rows) (16 * rows_through plan (record { left = bytes; right = [] })) s0 s1 (omega (arith, same, most)) makes

module _ (plan : Query) (right : SidePlan) (planned : plan.right ≡ Some right) where
  both-many : (l r : List ℕ) → length (passing_of_both plan (record { left = l; right = r })) ≡ length (passing plan l) + length (passing_in right r)
  both-many l r = rw planned (length-append (passing plan l) (passing_in right r))

  -- rows of the left input alone, and of both
  pub left_taken : (page : ℕ) (lefts rights : Option (List ℕ)) (s0 s1 : Signs) → OfTaken plan plan.left page lefts (λ rows. MakesFew (length rows) s0 s1)
      → IfSome (both_told lefts rights) (λ both. MakesFew (length (passing_of_both plan both)) s0 s1)
  left_taken page None rights s0 s1 taken = tt
  left_taken page (Some l) None s0 s1 taken = tt
  left_taken page (Some l) (Some r) s0 s1 taken =
      let fewer = first_few taken.rows (passing plan l) (first_passing plan plan.left page l taken.rows taken.first) in
      let sum = both-many l r in
      few_less (length taken.rows) (length (passing_of_both plan (record { left = l; right = r }))) s0 s1 (omega (arith, fewer, sum)) taken.so

  pub both_taken : (page : ℕ) (lefts rights : Option (List ℕ)) (s0 s1 s2 : Signs) → OfTaken plan plan.left page lefts (λ rows. MakesFew (length rows) s0 s1)
      → OfTaken plan right page rights (λ rows. MakesFew (length rows) s1 s2)
      → IfSome (both_told lefts rights) (λ both. MakesFew (length (passing_of_both plan both)) s0 s2)
  both_taken page None rights s0 s1 s2 first next = tt
  both_taken page (Some l) None s0 s1 s2 first next = tt
  both_taken page (Some l) (Some r) s0 s1 s2 first next =
      let one = first_few first.rows (passing plan l) (first_passing plan plan.left page l first.rows first.first) in
      let two = first_few next.rows (passing_in right r) (first_passing plan right page r next.rows next.first) in
      let sum = both-many l r in
      few_both (length first.rows) (length next.rows) (length (passing_of_both plan (record { left = l; right = r }))) s0 s1 s2 (omega (arith, one, two, sum)) first.so next.so

  -- the first rows of both, where none was handed on
  pub both_fed : (lefts rights : Option (List ℕ)) (s0 s1 s2 : Signs) → IfSome (both_told lefts rights) (λ both. MakesFew (length (passing_of_both plan both)) s0 s1) → MakesFew 0 s1 s2
      → IfSome (both_told lefts rights) (λ both. MakesFew (16 * rows_through plan both) s0 s2)
  both_fed lefts rights s0 s1 s2 fed none =
      told_so (λ both. MakesFew (length (passing_of_both plan both)) s0 s1) (λ both. MakesFew (16 * rows_through plan both) s0 s2)
      (λ both few. few_both (length (passing_of_both plan both)) 0 (16 * rows_through plan both) s0 s1 s2 (omega arith) few none) (both_told lefts rights) fed

  module _ (page : ℕ) (left_fed right_fed : Fed) (keeps : List (List Value) → List (List Value) → Type 0) where
    -- the pairs became an answer
    pub joined_whole : (lefts rights : Option (List ℕ)) (has : HasFedBoth plan right page lefts rights left_fed right_fed keeps) (s0 s1 s2 : Signs) → IfSome (both_told lefts rights) (λ both. MakesFew (length (passing_of_both plan both)) s0 s1)
        → MakesFew (15 * (length has.lefts + length has.rights)) s1 s2 → IfSome (both_told lefts rights) (λ both. MakesFew (16 * rows_through plan both) s0 s2)
    joined_whole None rights has s0 s1 s2 fed later = tt
    joined_whole (Some l) None has s0 s1 s2 fed later = tt
    joined_whole (Some l) (Some r) has s0 s1 s2 fed later =
        let both : Told = record { left = l; right = r } in
        let many = fed_many plan right page planned l r left_fed right_fed keeps has in
        few_both (length (passing_of_both plan both)) (15 * (length has.lefts + length has.rights)) (16 * rows_through plan both) s0 s1 s2 (omega (arith, many)) fed later

    -- the pairs were grouped
    pub grouped_whole : groups plan ≡ true → (lefts rights : Option (List ℕ)) (has : HasFedBoth plan right page lefts rights left_fed right_fed keeps) (s0 s1 s2 : Signs) → IfSome (both_told lefts rights) (λ both. MakesFew (length (passing_of_both plan both)) s0 s1)
        → MakesFew (15 * (length has.lefts + length has.rights) + 16 * length (pairs_of (join_shape_of plan right) has.lefts has.rights)) s1 s2 → IfSome (both_told lefts rights) (λ both. MakesFew (16 * rows_through plan both) s0 s2)
    grouped_whole grouped None rights has s0 s1 s2 fed later = tt
    grouped_whole grouped (Some l) None has s0 s1 s2 fed later = tt
    grouped_whole grouped (Some l) (Some r) has s0 s1 s2 fed later =
        let both : Told = record { left = l; right = r } in
        let many = fed_many plan right page planned l r left_fed right_fed keeps has in
        let are : length (pairs_of (join_shape_of plan right) has.lefts has.rights) ≡ length (answered plan both) = ap length (shows plan right page planned l r left_fed right_fed keeps has) in
        let pairs : length (pairs_in plan both) ≡ length (answered plan both) = rw (grouped, planned) refl in
        few_both (length (passing_of_both plan both)) (15 * (length has.lefts + length has.rights) + 16 * length (pairs_of (join_shape_of plan right) has.lefts has.rights)) (16 * rows_through plan both) s0 s1 s2 (omega (arith, many, are, pairs)) fed later
