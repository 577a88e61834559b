-- What the feeding of a row makes, and how few the pages are for the rows that were fed.
use Rattle.std.proofs.Common.{◌≡◌, ◌∙◌, inr, ℕ, suc, ◌+◌, ◌*◌, ◌≤◌, Bool, true, false, if◌then◌else◌, List, [], ◌∷◌, ◌++◌, length, Option, Some, None, refl, ap, subst, arith}
use Rattle.std.specs.Prelude.{All, slice_get}
use Rattle.std.specs.List.{sum_by}
use Rattle.std.proofs.Math.Nat.{mul-le-mul_right}
use Rattle.std.proofs.lemmas.List.{nil_from_length}
use Rattle.std.proofs.lemmas.List.Sums.{sum_by-cons}
use Rattle.pool_model.specs.LookingBack.{names_in}
use Rattle.pool_model.specs.declared.entry.Entry.{Entry}
use Rattle.row_codec.specs.declared.values.Value.{Value}
use Rattle.store_api.specs.Holdings.{Holdings, page_of}
use Rattle.store_api.specs.Signs.{Entered, Signs}
use Rattle.store_api.specs.Tokens.{ClientToken, PageToken}
use Rattle.store_api.specs.declared.shapes.Shape.{Shape}
use Rattle.tuple_stream.specs.Families.{Family}
use Rattle.tuple_stream.specs.FamilyCalls.{shares}
use Rattle.tuple_stream.specs.Streamed.{Streamed}
use Rattle.tuple_stream.specs.Touches.{slots_of}
use Rattle.tuple_stream.specs.Trails.{EnteredEvents, creates_in}
use Rattle.tuple_stream.proofs.BuildingQuiet.{creates_join}
use Rattle.tuple_stream.proofs.Sinces.{since_joined, since_so}
use Rattle.bucket_table.specs.Entering.{EnteredLoans, IsOfLoans}
use Rattle.bucket_table.specs.Tables.{Table}
use Rattle.partition_stack.specs.Changes.{HaveEnded}
use Rattle.partition_stack.specs.Stack.{Stack, over}
use Rattle.partition_stack.proofs.Making.{names_are}
use Rattle.group_op.specs.Asking.{FewSlots, slots_on}
use Rattle.group_op.specs.Feeding.{HasOpened}
use Rattle.group_op.specs.Held.{rows_of, state}
use Rattle.group_op.specs.Making.{FewPages, Makes, pages_on}
use Rattle.group_op.specs.Operator.{Holds, IsFeeding, Operator, entries_in, operator}
use Rattle.group_op.specs.Putting.{HasFew, HaveMade}
use Rattle.group_op.proofs.Deals.{loans_apart}
use Rattle.group_op.proofs.Paging.{all_few, shares_nil}

-- ---- the entries that make pages

exact_of : (was is : ℕ) (a b : Option (List Entry)) → EnteredEvents (λ events. is ≡ was + creates_in events) a b → Entered (λ more. is ≡ was + length (names_in more)) a b
exact_of was is None b made = made
exact_of was is (Some before) b made = (made.0, made.1, (let same = names_are made.0 in let all = made.2 in omega (arith, same, all)))

none_of : (a b : Option (List Entry)) → EnteredEvents (λ events. creates_in events ≡ 0) a b → Entered (λ more. names_in more ≡ []) a b
none_of None b made = made
none_of (Some before) b made = (made.0, made.1, nil_from_length (names_in made.0) (names_are made.0 ∙ made.2))

-- pages ended, and then loans
pub ended_none : (f : Family) (a b : Option (List Entry)) → EnteredEvents (HaveEnded f) a b → Entered (λ more. names_in more ≡ []) a b
ended_none f a b ended = none_of a b (since_so (HaveEnded f) (λ events. creates_in events ≡ 0) a b (λ events has. has.creates) ended)

pub closed_none : (f : Family) (a m b : Option (List Entry)) → EnteredEvents (HaveEnded f) a m → EnteredLoans m b → Entered (λ more. names_in more ≡ []) a b
closed_none f a m b ended loans =
    none_of a b
    (since_joined (HaveEnded f) (All IsOfLoans) (λ events. creates_in events ≡ 0) a m b
    (λ first next has are. let all = creates_join first next in let one = has.creates in let two = (loans_apart next are).creates in omega (arith, all, one, two)) ended loans)

pub makes_of : (old new : Operator) (h k : Holdings) (before after : Signs) → HaveMade (over old.parts h before) (over new.parts k after) → ((fed : List (List Value)) → Holds fed old h before → pages_on new ≤ length fed) → Makes old new h before after
makes_of old new h k before after made few =
    record {
      exact = exact_of (pages_on old) (pages_on new) before.trail after.trail made;
      few = few;
    }

-- ---- few pages for the rows that were fed

-- what it held
held_few : (n : ℕ) (op : Operator) (fed : List (List Value)) (h : Holdings) (signs : Signs) → n ≡ 16 → length op.parts.streams ≡ n → (holds : Holds fed op h signs) → pages_on op + length (entries_in op.table) ≤ length fed
held_few n op fed h signs sixteen many holds =
    let all : pages_on op ≤ length (shares (length op.parts.streams) holds.rows) = all_few holds.rows (over op.parts h signs) holds.shows in
    let same = ap (λ (k : ℕ). length (shares k holds.rows)) (many ∙ sixteen) in
    let few = holds.few in
    omega (arith, all, same, few)

pub few_pages : FewPages
few_pages fed op h signs feeding holds = held_few 16 op fed h signs refl feeding.sixteen holds

module _ (c : ClientToken) (shape : Shape) (was : Option Table) (p : Stack) (h0 : Holdings) (s0 : Signs) (feeding : IsFeeding (operator c shape p was)) where
  -- no row was put
  pub makes_unput : (now : Option Table) (h1 : Holdings) (s1 : Signs) → HaveMade (over p h0 s0) (over p h1 s1) → Makes (operator c shape p was) (operator c shape p now) h0 s0 s1
  makes_unput now h1 s1 made =
      makes_of (operator c shape p was) (operator c shape p now) h0 h1 s0 s1 made
      (λ fed holds. let few = few_pages fed (operator c shape p was) h0 s0 feeding holds in omega (arith, few))

  -- one was, or refused
  pub makes_put : (own now : Table) (later : Option Table) (q : Stack) (h1 h2 : Holdings) (s1 s2 : Signs) → HasOpened shape was own (state own p h0 s0) (state own p h1 s1) → HaveMade (over p h0 s0) (over q h2 s2) → HasFew (state own p h1 s1) (state now q h2 s2)
      → Makes (operator c shape p was) (operator c shape q later) h0 s0 s2
  makes_put own now later q h1 h2 s1 s2 opened made few =
      makes_of (operator c shape p was) (operator c shape q later) h0 h2 s0 s2 made
      (λ fed holds.
      let most : pages_on (operator c shape q later) ≤ length (shares (length p.streams) (λ i. holds.rows i ++ [])) + length (rows_of own) =
      few (λ i. holds.rows i ++ []) (opened.deals.at_end holds.at_end) (opened.deals.rows holds.rows (inr holds.at_end) holds.shows) in
      let same = shares_nil (length p.streams) holds.rows in
      let many = ap (λ (k : ℕ). length (shares k holds.rows)) feeding.sixteen in
      let entries = ap length opened.rows in
      let all = holds.few in
      omega (arith, most, same, many, entries, all))

-- ---- and few slots

at_most : (has : Bool) (n : ℕ) → (if has then n else 0) ≤ n
at_most true n = omega arith
at_most false n = omega arith

page_slots : (s : Streamed) (h : Holdings) (pages : List PageToken) → sum_by (slots_of s h) pages ≤ length pages * s.page_blocks
page_slots s h [] = omega arith
page_slots s h (p ∷ pages) =
    let rest = page_slots s h pages in
    let one : slots_of s h p ≤ s.page_blocks = at_most (page_of p.name h).has_slots s.page_blocks in
    let sum = sum_by-cons (slots_of s h) p pages in
    let more : suc (length pages) * s.page_blocks ≡ s.page_blocks + length pages * s.page_blocks = omega arith in
    omega (arith, rest, one, sum, more)

pub stream_slots : (blocks : ℕ) (streams : List Streamed) (h : Holdings) → ((i : ℕ) (s : Streamed) → slice_get streams i ≡ Some s → s.page_blocks ≡ blocks) → sum_by (λ s. sum_by (slots_of s h) s.pages) streams ≤ sum_by (λ s. length s.pages) streams * blocks
stream_slots blocks [] h sized = omega arith
stream_slots blocks (s ∷ streams) h sized =
    let rest = stream_slots blocks streams h (λ i r at. sized (suc i) r at) in
    let one : sum_by (slots_of s h) s.pages ≤ length s.pages * blocks = subst (λ (n : ℕ). sum_by (slots_of s h) s.pages ≤ length s.pages * n) (sized 0 s refl) (page_slots s h s.pages) in
    let more = two_products (length s.pages) (sum_by (λ s. length s.pages) streams) blocks in
    let pages : sum_by (λ s. length s.pages) (s ∷ streams) ≡ length s.pages + sum_by (λ s. length s.pages) streams = sum_by-cons (λ (s : Streamed). length s.pages) s streams in
    let slots : sum_by (λ s. sum_by (slots_of s h) s.pages) (s ∷ streams) ≡ sum_by (slots_of s h) s.pages + sum_by (λ s. sum_by (slots_of s h) s.pages) streams = sum_by-cons (λ (s : Streamed). sum_by (slots_of s h) s.pages) s streams in
    rw (pages, slots) (omega (arith, rest, one, more))
  where
    two_products : (a b n : ℕ) → (a + b) * n ≡ a * n + b * n
    two_products a b n = omega arith

more_rows : (pages entries many blocks slots : ℕ) → slots ≤ pages * blocks → pages + entries ≤ many → slots ≤ blocks * many
more_rows pages entries many blocks slots most few =
    let wide : pages * blocks ≤ many * blocks = mul-le-mul_right blocks (let less : pages ≤ many = omega (arith, few) in less) in
    let turned : many * blocks ≡ blocks * many = omega arith in
    omega (arith, most, wide, turned)

pub few_slots : FewSlots
few_slots fed op h signs stack feeding holds =
    more_rows (pages_on op) (length (entries_in op.table)) (length fed) op.parts.page_blocks (slots_on op h) (stream_slots op.parts.page_blocks op.parts.streams h stack.each) (few_pages fed op h signs feeding holds)
