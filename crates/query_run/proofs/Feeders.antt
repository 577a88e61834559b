-- One row goes to a grouping of an emitter.
use Rattle.std.proofs.Common.{◌≡◌, ◌∙◌, ◌+◌, ◌*◌, ◌^◌, ◌<◌, ◌≤◌, ◌==◌, ℕ, suc, List, [], ◌∷◌, ◌++◌, All, length, true, Option, Some, None, Result, Ok, Err, IfErr, option_map, refl, ap, sym, subst, arith, append_assoc, eq-eqb}
use Rattle.std.specs.Prelude.{slice_get}
use Rattle.std.specs.List.{concat, sum_by}
use Rattle.std.proofs.lemmas.List.{length-append}
use Rattle.std.proofs.lemmas.List.Elements.{All-head, All-nil, All-push, All-tail}
use Rattle.std.proofs.lemmas.List.Sums.{sum_by-cons}
use Rattle.pool_model.specs.LookingBack.{names_in}
use Rattle.pool_model.specs.declared.entry.Entry.{Entry}
use Rattle.row_codec.specs.declared.values.Value.{Value}
use Rattle.row_codec.specs.Row.{kinds_of}
use Rattle.row_codec.specs.RowBytes.{row_bytes}
use Rattle.store_api.proofs.Answered.{answered_after}
use Rattle.store_api.proofs.Growing.{grows_trans}
use Rattle.store_api.proofs.Names.{names_both}
use Rattle.store_api.specs.Emitters.{CameOf, GrowsBy, OthersStay, SameOwn, WantsSlots, slots_with}
use Rattle.store_api.specs.Holdings.{Holdings, length_of, page_of}
use Rattle.store_api.specs.Signs.{Entered, Grows, Signs}
use Rattle.store_api.specs.Tokens.{ClientToken, PageToken}
use Rattle.store_api.specs.declared.op_err.OpErr.{OpErr}
use Rattle.store_api.specs.declared.op_err.OpErr.TheVariants as op_err
use Rattle.store_api.specs.declared.shapes.Shape.{Shape}
use Rattle.tuple_stream.specs.Families.{AreShaped, slots_in as all_slots_in}
use Rattle.tuple_stream.specs.FamilyCalls.{shares}
use Rattle.tuple_stream.specs.Streamed.{Streamed}
use Rattle.tuple_stream.specs.Streams.{IsOwnPage}
use Rattle.tuple_stream.specs.Touches.{slots_of}
use Rattle.partition_stack.specs.Leaving.{CameOfStore, LeavesOthers}
use Rattle.partition_stack.specs.Laws.{PagesAreFew}
use Rattle.partition_stack.specs.Slots.{IsWantBelowOf, IsWantOf, most_pages}
use Rattle.partition_stack.specs.Stack.{IsStack, Stack, over}
use Rattle.partition_stack.proofs.Left.{leaves_both}
use Rattle.group_op.specs.Asking.{AsksOwn, StaysSame, slots_on}
use Rattle.group_op.specs.Making.{FewPages, Makes, pages_on}
use Rattle.group_op.specs.Operator.{HasTable, Holds, IsFeeding, IsOperator, IsSame, MayBeFed, Operator, bytes_for, slots_for as group_slots, started}
use Rattle.group_op.specs.Starting.{HasStarted}
use Rattle.join_op.specs.Pairs.{SameRows}
use Rattle.partition_stack.proofs.Scratch.{counts_once}
use Rattle.partition_stack.proofs.Slots.{more_taken}
use Rattle.partition_stack.proofs.Stacking.{first_is_stack}
use Rattle.outside.specs.Counts.{Rose}
use Rattle.reservation_tree.specs.declared.errors.PoolErr.TheVariants.{NoReservation, ScratchFull, WriteFault, ReadFault, TooManyTrackers, NamesSpent, Memory, Stale}
use Rattle.query_run.specs.Ending.{cause_of_handed}
use Rattle.query_run.specs.FedRows.{AreFed, IsFed}
use Rattle.query_run.specs.Feeder.{Feeds, HasEnded, HasStopped, Took, TookOf, own_slots, pages_made, slots_for_rows, slots_in}
use Rattle.query_run.specs.Inside.{IsOfStore}
use Rattle.query_run.specs.Writing.{HoldsFor}
use Rattle.query_plan.specs.declared.outcome.QueryErr.{QueryErr}
use Rattle.query_run.specs.declared.feeder.Feeder.{Feeder}
use Rattle.query_run.proofs.EndedFirst.{some_page}
use Rattle.query_run.proofs.Going.{feeds_still}
use Rattle.query_run.proofs.Orders.{holds_ordered}

-- ---- while there is a grouping

pub same_own : (client : Option ℕ) (h : Holdings) → SameOwn client h h
same_own client h = record { block_len = refl; told = refl; own = λ t is. record { account = refl; pages = λ q page own. (λ is. is, λ is. is); loans = λ q loan own. (λ is. is, λ is. is) } }

-- what it took while there is one
pub it_feeds : (o : Option Operator) (back : Option ClientToken) (op : Operator) (c : ClientToken) (shape : Shape) (blocks : ℕ) (e : Feeder) (h : Holdings) (rows : List (List Value))
    → o ≡ Some op → TookOf o back c shape blocks e h rows → (back ≡ None) × Feeds c shape blocks op e h rows
it_feeds None back op c shape blocks e h rows is took = absurd cc
it_feeds (Some other) None op c shape blocks e h rows is took =
    let same : other ≡ op = cc in (refl, subst (λ (x : Operator). Feeds c shape blocks x e h rows) same took)
it_feeds (Some other) (Some back) op c shape blocks e h rows is took = absurd took

module _ (c : ClientToken) (shape : Shape) (blocks : ℕ) (op : Operator) (e : Feeder) (h : Holdings) (signs : Signs) (asks : AsksOwn) (rows : List (List Value)) (feeds : Feeds c shape blocks op e h rows) where
  stays : StaysSame op feeds.at h feeds.signs signs
  stays = asks op feeds.at h feeds.signs signs (subst (λ (x : ClientToken). SameOwn (Some x.tracker) feeds.at h) (sym feeds.client) feeds.alike) feeds.is

  -- it is one over the store, and holds what it took
  pub feeds_here : IsOperator op h signs
  feeds_here = stays.is

  pub holds_here : Holds rows op h signs
  holds_here = stays.holds rows feeds.holds

  -- a row that fits may be fed
  pub may_feed : (row : List Value) → kinds_of row ≡ shape.kinds → length (row_bytes row) + e.extra ≤ e.page → MayBeFed op h row
  may_feed row kinds fits =
      let extra : e.extra ≡ 16 * length op.shape.aggs = feeds.extra ∙ sym (ap (λ (s : Shape). 16 * length s.aggs) feeds.shape_is) in
      let page : e.page ≡ op.parts.page_blocks * h.block_len = feeds.page ∙ sym (ap (λ (n : ℕ). n * h.block_len) feeds.blocks_are) in
      record { kinds = kinds ∙ sym (ap (λ (s : Shape). s.kinds) feeds.shape_is); short = omega (arith, extra, page, fits) }

-- ---- slots

own-all : (t : ℕ) (s : Streamed) (h : Holdings) (pages : List PageToken) → All (IsOwnPage t s.page_blocks h) pages → sum_by (own_slots t s h) pages ≡ sum_by (slots_of s h) pages
own-all t s h [] own = refl
own-all t s h (p ∷ pages) own =
    let here = All-head (IsOwnPage t s.page_blocks h) p pages own in
    let is : ((page_of p.name h).client == t) ≡ true = eq-eqb (page_of p.name h).client t (here.page.client ∙ here.client) in
    let one : own_slots t s h p ≡ slots_of s h p = rw is refl in
    let rest = own-all t s h pages (All-tail (IsOwnPage t s.page_blocks h) p pages own) in
    let left : sum_by (own_slots t s h) (p ∷ pages) ≡ own_slots t s h p + sum_by (own_slots t s h) pages = sum_by-cons (own_slots t s h) p pages in
    let right : sum_by (slots_of s h) (p ∷ pages) ≡ slots_of s h p + sum_by (slots_of s h) pages = sum_by-cons (slots_of s h) p pages in
    omega (arith, one, rest, left, right)

own-streams : (t : ℕ) (h : Holdings) (streams : List Streamed) → ((i : ℕ) (s : Streamed) → slice_get streams i ≡ Some s → All (IsOwnPage t s.page_blocks h) s.pages)
    → sum_by (λ s. sum_by (own_slots t s h) s.pages) streams ≡ sum_by (λ s. sum_by (slots_of s h) s.pages) streams
own-streams t h [] own = refl
own-streams t h (s ∷ streams) own =
    let one = own-all t s h s.pages (own 0 s refl) in
    let rest = own-streams t h streams (λ i r there. own (suc i) r there) in
    let left : sum_by (λ s. sum_by (own_slots t s h) s.pages) (s ∷ streams) ≡ sum_by (own_slots t s h) s.pages + sum_by (λ s. sum_by (own_slots t s h) s.pages) streams = sum_by-cons (λ (s : Streamed). sum_by (own_slots t s h) s.pages) s streams in
    let right : sum_by (λ s. sum_by (slots_of s h) s.pages) (s ∷ streams) ≡ sum_by (slots_of s h) s.pages + sum_by (λ s. sum_by (slots_of s h) s.pages) streams = sum_by-cons (λ (s : Streamed). sum_by (slots_of s h) s.pages) s streams in
    omega (arith, one, rest, left, right)

shaped : (c : ClientToken) (shape : Shape) (parts : Stack) (table : Option _) (h : Holdings) (signs : Signs) → HasTable c shape parts table h signs → AreShaped c.tracker (over parts h signs)
shaped c shape parts None h signs has = has.0.shaped
shaped c shape parts (Some table) h signs has =
    let own = has.0.owns.shaped in let client = has.0.client in own

-- all its pages are its client's
pub own_slots_all : (op : Operator) (h : Holdings) (signs : Signs) → IsOperator op h signs → slots_in (Some op) op.client.tracker h ≡ slots_on op h
own_slots_all op h signs is = own-streams op.client.tracker h op.parts.streams (λ i s there. ((shaped op.client op.shape op.parts op.table h signs is.has).each i s there).own)

pub slots_mine : (c : ClientToken) (op : Operator) (h : Holdings) (signs : Signs) → op.client ≡ c → IsOperator op h signs → slots_in (Some op) c.tracker h ≡ slots_on op h
slots_mine c op h signs same is = subst (λ (x : ClientToken). slots_in (Some op) x.tracker h ≡ slots_on op h) same (own_slots_all op h signs is)

with-same : (m n : ℕ) (free : Option ℕ) → m ≡ n → option_map (λ (x : ℕ). x + m) free ≡ option_map (λ (x : ℕ). x + n) free
with-same m n free same = ap (λ (k : ℕ). option_map (λ (x : ℕ). x + k) free) same

-- no more slots
pub none_with : (free : Option ℕ) → option_map (λ (x : ℕ). x + 0) free ≡ free
none_with None = refl
none_with (Some n) = let same : n + 0 ≡ n = omega arith in ap Some same

-- the free slots, and with them its pages', are as many
module _ (c : ClientToken) (a b : Operator) (h0 h1 : Holdings) (s0 s1 : Signs) (first : a.client ≡ c) (is : IsOperator a h0 s0) where
  pub slots_fed : (o : Option Operator) → o ≡ Some a → b.client ≡ c → IsOperator b h1 s1 → all_slots_in (over b.parts h1 s1) ≡ all_slots_in (over a.parts h0 s0) → slots_with (slots_in (Some b) c.tracker h1) h1 ≡ slots_with (slots_in o c.tracker h0) h0
  slots_fed o there second so same =
      rw there (with-same _ _ h1.free_slots (slots_mine c b h1 s1 second so) ∙ same ∙ sym (with-same _ _ h0.free_slots (slots_mine c a h0 s0 first is)))

  -- so they are once it ended
  pub slots_ended : (o op : Option Operator) → o ≡ Some a → op ≡ None → h1.free_slots ≡ all_slots_in (over a.parts h0 s0) → slots_with (slots_in op c.tracker h1) h1 ≡ slots_with (slots_in o c.tracker h0) h0
  slots_ended o op there none same = rw (there, none) (none_with h1.free_slots ∙ same ∙ sym (with-same _ _ h0.free_slots (slots_mine c a h0 s0 first is)))

-- those of a grouping that is there are all slots of its client
pub slots_here : (c : ClientToken) (a : Operator) (h : Holdings) (signs : Signs) → a.client ≡ c → IsOperator a h signs → (o : Option Operator) → o ≡ Some a → all_slots_in (over a.parts h signs) ≡ slots_with (slots_in o c.tracker h) h
slots_here c a h signs same is o there = rw there (sym (with-same _ _ h.free_slots (slots_mine c a h signs same is)))

-- ---- the row was taken

-- its pages are few for the rows that it was fed
few_pages : PagesAreFew → (fed : List (List Value)) (op : Operator) (h : Holdings) (signs : Signs) → IsStack op.parts → IsFeeding op → IsOperator op h signs → Holds fed op h signs → 0 < length_of op.parts.page_blocks h
    → pages_on op ≤ most_pages (length_of op.parts.page_blocks h) 16 (length fed) (bytes_for op.shape fed)
few_pages pages fed op h signs stack feeding is holds some =
    let few = holds.few in
    let light = holds.light in
    let sixteen = feeding.sixteen in
    let many = ap (λ (n : ℕ). length (shares n holds.rows)) feeding.sixteen in
    let heavy = ap (λ (n : ℕ). length (concat (shares n holds.rows))) feeding.sixteen in
    pages op.client.tracker op.parts.page_blocks 16 (length fed) (bytes_for op.shape fed) holds.rows (over op.parts h signs) (shaped op.client op.shape op.parts op.table h signs is.has) stack.each holds.shows some
    (counts_once 16 (over op.parts h signs) holds.whole (omega (arith, sixteen))) (omega (arith, few, many)) (omega (arith, light, heavy))

module _ (c : ClientToken) (shape : Shape) (blocks : ℕ) (a b : Operator) (e e' : Feeder) (h h' : Holdings) (s s' : Signs) (row : List Value) (asks : AsksOwn) (few : PagesAreFew) where
  pub took_one : 0 < h.block_len → kinds_of row ≡ shape.kinds → length (row_bytes row) + e.extra ≤ e.page → e'.taken ≡ e.taken + 1 → e'.extra ≡ e.extra → e'.page ≡ e.page
      → IsSame a b → LeavesOthers a.client.tracker h h' s s' → IsOperator b h' s' → IsStack b.parts → ((fed : List (List Value)) → Holds fed a h s → Holds (fed ++ row ∷ []) b h' s')
      → (rows : List (List Value)) → Feeds c shape blocks a e h rows → Feeds c shape blocks b e' h' (rows ++ row ∷ [])
  took_one long kinds fits next same_extra same_page same leaves is stack holds rows feeds =
      let feeding = feeds_still a b feeds.feeding same in
      let client : b.client ≡ c = same.client ∙ feeds.client in
      let sized : b.parts.page_blocks ≡ blocks = same.blocks ∙ feeds.blocks_are in
      let held = holds rows (holds_here c shape blocks a e h s asks rows feeds) in
      let more = length-append rows (row ∷ []) in
      let so-far = feeds.counted in
      let short = feeds.short in
      record {
        client = client;
        shape_is = same.shape ∙ feeds.shape_is;
        blocks_are = sized;
        feeding = feeding;
        formed = All-push (IsFed shape.kinds) rows row feeds.formed (record { kinds_are = kinds; short = omega (arith, fits, short) });
        counted = omega (arith, next, so-far, more);
        extra = same_extra ∙ feeds.extra;
        page = same_page ∙ feeds.page ∙ sym (ap (λ (n : ℕ). blocks * n) leaves.others.block_len);
        short = omega (arith, short, same_page);
        at = h';
        signs = s';
        alike = same_own (Some c.tracker) h';
        is = is;
        holds = held;
        stack = stack;
        few =
            let some : 0 < length_of b.parts.page_blocks h' = some_page b.parts.page_blocks h' stack.sized (subst (λ (n : ℕ). 0 < n) (sym leaves.others.block_len) long) in
            let long_is : length_of b.parts.page_blocks h' ≡ e'.page = ap (λ (n : ℕ). n * h'.block_len) sized ∙ ap (λ (n : ℕ). blocks * n) leaves.others.block_len ∙ sym (same_page ∙ feeds.page) in
            let shape_is : b.shape ≡ shape = same.shape ∙ feeds.shape_is in
            subst (λ (n : ℕ). pages_on b ≤ most_pages n 16 (length (rows ++ row ∷ [])) (bytes_for shape (rows ++ row ∷ []))) long_is
            (subst (λ (x : Shape). pages_on b ≤ most_pages (length_of b.parts.page_blocks h') 16 (length (rows ++ row ∷ [])) (bytes_for x (rows ++ row ∷ []))) shape_is
            (few_pages few (rows ++ row ∷ []) b h' s' stack feeding is held some));
      }

-- ---- what the calls showed

-- a count that rose by the pages that were made stands above those of both calls
entered-more : (n m k : ℕ) (a b d : Option (List Entry)) → m ≤ k → Entered (λ more. m ≡ n + length (names_in more)) a b → Entered (λ more. names_in more ≡ []) b d → Entered (λ more. n + length (names_in more) ≤ k) a d
entered-more n m k None b d less first second = subst (λ (o : Option (List Entry)). Entered (λ more. names_in more ≡ []) o d) first second
entered-more n m k (Some before) b d less first second =
    let next : Entered (λ more. names_in more ≡ []) (Some (before ++ first.0)) d = subst (λ (o : Option (List Entry)). Entered (λ more. names_in more ≡ []) o d) first.1 second in
    let sum : length (names_in (first.0 ++ next.0)) ≡ length (names_in first.0) + length (names_in next.0) = ap length (names_both first.0 next.0) ∙ length-append (names_in first.0) (names_in next.0) in
    let none : length (names_in next.0) ≡ 0 = ap length next.2 in
    let exact = first.2 in
    (first.0 ++ next.0, next.1 ∙ ap Some (append_assoc before first.0 next.0), omega (arith, sum, none, exact, less))

entered-exact : (n m : ℕ) (a b : Option (List Entry)) → Entered (λ more. m ≡ n + length (names_in more)) a b → Entered (λ more. n + length (names_in more) ≤ m) a b
entered-exact n m None b entered = entered
entered-exact n m (Some before) b entered = let exact = entered.2 in (entered.0, entered.1, omega (arith, exact))

-- so it is of the emitter, which has the grouping, and of one that has none any more
pub grew_with : (client : Option ℕ) (o : Option Operator) (a : Operator) (t n : ℕ) (s s' : Signs) → o ≡ Some a → GrowsBy client (pages_on a) n s s' → GrowsBy client (pages_made o t) n s s'
grew_with client o a t n s s' is grew = rw is grew

pub grew_without : (client : Option ℕ) (o : Option Operator) (n t t' : ℕ) (s s' : Signs) → o ≡ None → t' ≡ t → GrowsBy client n t s s' → GrowsBy client n (pages_made o t') s s'
grew_without client o n t t' s s' is same grew = rw (is, same) grew

module _ (c : ClientToken) (shape : Shape) (blocks : ℕ) (a b : Operator) (e : Feeder) (h h' : Holdings) (s s' : Signs) (asks : AsksOwn) (rows : List (List Value)) (feeds : Feeds c shape blocks a e h rows) where
  pub grew_by : LeavesOthers a.client.tracker h h' s s' → Makes a b h s s' → GrowsBy (Some c.tracker) (pages_on a) (pages_on b) s s'
  grew_by leaves makes = record { grows = leaves.grows; alone = λ none. absurd cc; pages = entered-exact (pages_on a) (pages_on b) s.trail s'.trail makes.exact }

  pub grew_ended : (h2 : Holdings) (s2 : Signs) → LeavesOthers a.client.tracker h h' s s' → Makes a b h s s' → HasEnded b h' h2 s' s2 → GrowsBy (Some c.tracker) (pages_on a) e.taken s s2
  grew_ended h2 s2 leaves makes ended =
      let counted = feeds.counted in
      let few = makes.few rows (holds_here c shape blocks a e h s asks rows feeds) in
      let less : pages_on b ≤ e.taken = omega (arith, counted, few) in
      record {
        grows = grows_trans s s' s2 leaves.grows ended.leaves.grows;
        alone = λ none. absurd cc;
        pages = entered-more (pages_on a) (pages_on b) e.taken s.trail s'.trail s2.trail less makes.exact ended.names;
      }

  pub others_fed : LeavesOthers a.client.tracker h h' s s' → OthersStay (Some c.tracker) h h'
  others_fed leaves = subst (λ (x : ClientToken). OthersStay (Some x.tracker) h h') feeds.client leaves.others

  pub leaves_ended : (h2 : Holdings) (s2 : Signs) → b.client ≡ a.client → LeavesOthers a.client.tracker h h' s s' → HasEnded b h' h2 s' s2 → LeavesOthers c.tracker h h2 s s2
  leaves_ended h2 s2 same leaves ended =
      subst (λ (x : ClientToken). LeavesOthers x.tracker h h2 s s2) feeds.client
      (leaves_both a.client.tracker h h' h2 s s' s2 leaves (subst (λ (x : ClientToken). LeavesOthers x.tracker h' h2 s' s2) same ended.leaves))

-- once it ended, it stopped
pub took_ended : (o : Option Operator) (back : Option ClientToken) (op : Operator) (c : ClientToken) (shape : Shape) (blocks : ℕ) (e : Feeder) (h h2 : Holdings) (s s2 : Signs) (rows : List (List Value)) → o ≡ None → back ≡ Some op.client → op.client ≡ c
    → HasEnded op h h2 s s2 → e.taken ≤ length rows → TookOf o back c shape blocks e h2 rows
took_ended o back op c shape blocks e h h2 s s2 rows none there same ended few =
    let stopped : HasStopped c op.client h2 = record { same = same; lives = ended.lives; idle = ended.idle } in
    subst (λ (x : Option Operator). TookOf x back c shape blocks e h2 rows) (sym none)
    (subst (λ (b : Option ClientToken). TookOf None b c shape blocks e h2 rows) (sym there) (stopped, few))

-- the pages that it is known to have made are no more than the rows that it took
pub made_few : (o : Option Operator) (back : Option ClientToken) (c : ClientToken) (shape : Shape) (blocks : ℕ) (e : Feeder) (h : Holdings) (rows : List (List Value)) → FewPages → TookOf o back c shape blocks e h rows → pages_made o e.taken ≤ length rows
made_few (Some op) None c shape blocks e h rows few took = let most = few rows op took.at took.signs took.feeding took.holds in omega (arith, most)
made_few None (Some back) c shape blocks e h rows few took = took.1
made_few (Some op) (Some back) c shape blocks e h rows few took = absurd took
made_few None None c shape blocks e h rows few took = absurd took

-- an error is one of the store
pub came_so : (blocks : ℕ) (h : Holdings) (s0 s1 s2 : Signs) (e : OpErr) → Grows s1 s2 → CameOfStore blocks h s0 s1 e → CameOf 0 0 s0 s2 e
came_so blocks h s0 s1 s2 (op_err.Pool e) grows came = answered_after e s0 s1 s2 came.0 grows
came_so blocks h s0 s1 s2 op_err.Sink grows came = absurd came

-- a want of slots is told with what pages leave over, where there are too few
wants_slots : (blocks most : ℕ) (total : Option ℕ) (e : OpErr) → IsWantOf blocks total e → IsWantBelowOf most total e → WantsSlots blocks most total e
wants_slots blocks most None (op_err.Pool (ScratchFull need free)) want below = absurd want.1
wants_slots blocks most (Some n) (op_err.Pool (ScratchFull need free)) want below = (want.0, (want.1, below))
wants_slots blocks most total (op_err.Pool (NoReservation tracker wanted room)) want below = tt
wants_slots blocks most total (op_err.Pool (WriteFault entry)) want below = tt
wants_slots blocks most total (op_err.Pool (ReadFault entry)) want below = tt
wants_slots blocks most total (op_err.Pool (TooManyTrackers count)) want below = tt
wants_slots blocks most total (op_err.Pool NamesSpent) want below = tt
wants_slots blocks most total (op_err.Pool Memory) want below = tt
wants_slots blocks most total (op_err.Pool (Stale wanted found)) want below = tt
wants_slots blocks most total op_err.Sink want below = tt

-- so it is of what stopped the grouping
pub row_wants : (c : ClientToken) (shape : Shape) (blocks : ℕ) (a : Operator) (e : Feeder) (h : Holdings) (signs : Signs) (row : List Value) (o : Option ℕ) (why : OpErr) → AsksOwn → (rows : List (List Value)) → Feeds c shape blocks a e h rows
    → o ≡ all_slots_in (over a.parts h signs) → IsWantOf a.parts.page_blocks (all_slots_in (over a.parts h signs)) why
    → ((fed : List (List Value)) → Holds fed a h signs → IsWantBelowOf (group_slots 16 a h (fed ++ row ∷ [])) (all_slots_in (over a.parts h signs)) why)
    → WantsSlots blocks (slots_for_rows shape blocks e.page (rows ++ row ∷ [])) o why
row_wants c shape blocks a e h signs row o why asks rows feeds total want enough =
    let all = rows ++ row ∷ [] in
    let most : group_slots 16 a h all ≡ slots_for_rows shape blocks e.page all = rw (feeds.shape_is, feeds.page, feeds.blocks_are) refl in
    subst (λ (t : Option ℕ). WantsSlots blocks (slots_for_rows shape blocks e.page all) t why) (sym total)
    (wants_slots blocks (slots_for_rows shape blocks e.page all) (all_slots_in (over a.parts h signs)) why
    (subst (λ (n : ℕ). IsWantOf n (all_slots_in (over a.parts h signs)) why) feeds.blocks_are want)
    (subst (λ (n : ℕ). IsWantBelowOf n (all_slots_in (over a.parts h signs)) why) most (enough rows (holds_here c shape blocks a e h signs asks rows feeds))))

-- ---- a grouping that took nothing yet, and one that went through

-- none of the slots are its pages'
pub none_slots : (c : ClientToken) (shape : Shape) (blocks : ℕ) (h : Holdings) (signs : Signs) → IsOperator (started c blocks shape) h signs → slots_in (Some (started c blocks shape)) c.tracker h ≡ 0
none_slots c shape blocks h signs is = slots_mine c (started c blocks shape) h signs refl is ∙ more_taken [] blocks 16 h

pub took_none : (c : ClientToken) (shape : Shape) (blocks : ℕ) (e : Feeder) (h : Holdings) (signs : Signs) → HasStarted c blocks shape h signs → e.op ≡ Some (started c blocks shape) → e.client ≡ None
    → e.page ≡ length_of blocks h → e.page < 2 ^ 32 → e.extra ≡ 16 * length shape.aggs → e.taken ≡ 0 → Took c shape blocks e h []
took_none c shape blocks e h signs has there none page short extra taken =
    let feeds : Feeds c shape blocks (started c blocks shape) e h [] = record {
      client = refl;
      shape_is = refl;
      blocks_are = refl;
      feeding = has.feeding;
      formed = All-nil (IsFed shape.kinds);
      counted = taken;
      extra = extra;
      page = page;
      short = short;
      at = h;
      signs = signs;
      alike = same_own (Some c.tracker) h;
      is = has.op;
      holds = has.keeps.holds;
      stack = first_is_stack blocks has.op.sized;
      few = let none : pages_on (started c blocks shape) ≡ 0 = refl in omega (arith, none);
    } in
    subst (λ (o : Option Operator). TookOf o e.client c shape blocks e h []) (sym there)
    (subst (λ (b : Option ClientToken). TookOf (Some (started c blocks shape)) b c shape blocks e h []) (sym none) feeds)

-- it holds the groups of rows that it took in any order
pub holds_taken : (c : ClientToken) (shape : Shape) (blocks : ℕ) (op : Operator) (e : Feeder) (h : Holdings) (signs : Signs) → AsksOwn → (rows others : List (List Value)) → SameRows rows others → Feeds c shape blocks op e h rows → HoldsFor others op h signs
holds_taken c shape blocks op e h signs asks rows others same feeds =
    holds_ordered rows others op h signs (holds_here c shape blocks op e h signs asks rows feeds) (subst (λ (s : Shape). AreFed s.kinds rows) (sym feeds.shape_is) feeds.formed) same

-- what stopped it is an answer of the store
rose-none : Rose 0 0 → ⊥
rose-none rose = let less : 0 < 0 = rose (omega arith) in omega (arith, less)

pub of_handed : {T : Type 0} (handed : Result T OpErr) (e : QueryErr) (s0 s1 s2 : Signs) → IfErr handed (CameOf 0 0 s0 s1) → Grows s1 s2 → e ≡ cause_of_handed handed → IsOfStore e s0 s2
of_handed (Ok x) e s0 s1 s2 came grows is = record { why = Memory; is = is; answered = tt }
of_handed (Err (op_err.Pool why)) e s0 s1 s2 came grows is = record { why = why; is = is; answered = answered_after why s0 s1 s2 came grows }
of_handed (Err op_err.Sink) e s0 s1 s2 came grows is = absurd (rose-none came)
