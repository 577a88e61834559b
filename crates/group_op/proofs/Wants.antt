-- Want of slots, by the pages that rows have at most.
use Rattle.std.proofs.Common.{◌≡◌, ◌∙◌, inr, ℕ, zero, suc, ◌+◌, ◌*◌, ◌<◌, ◌≤◌, List, [], ◌∷◌, ◌++◌, length, length-append, append-nil, Option, Some, None, IfSome, option_map, true, Result, Ok, Err, IfErr, OnErr, refl, ap, ap₂, sym, subst, arith}
use Rattle.std.specs.Prelude.{slice_get}
use Rattle.std.specs.List.{concat, sum_by}
use Rattle.std.proofs.lemmas.List.Sums.{sum_by-append, sum_by-cons}
use Rattle.std.proofs.lemmas.Option.{none-some, same_Some}
use Rattle.std.proofs.Math.Nat.{mul-le-mul_right}
use Rattle.reservation_tree.specs.declared.errors.PoolErr.{PoolErr}
use Rattle.reservation_tree.specs.declared.errors.PoolErr.TheVariants.{NoReservation, ScratchFull, WriteFault, ReadFault, TooManyTrackers, NamesSpent, Memory, Stale}
use Rattle.row_codec.specs.RowBytes.{row_bytes}
use Rattle.row_codec.specs.declared.values.Value.{Value}
use Rattle.store_api.specs.Conditions.{IsBlockCount}
use Rattle.store_api.specs.Emitters.{CameOf}
use Rattle.store_api.specs.Holdings.{Holdings, length_of}
use Rattle.store_api.specs.Signs.{Signs}
use Rattle.store_api.specs.declared.op_err.OpErr.{OpErr}
use Rattle.store_api.specs.declared.op_err.OpErr.TheVariants.{Pool, Sink}
use Rattle.store_api.specs.declared.shapes.Shape.{Shape}
use Rattle.store_api.specs.Tokens.{ClientToken}
use Rattle.tuple_stream.specs.Families.{AllSized, AreShaped, Family, ShowAll, family, pages_in, slots_in}
use Rattle.tuple_stream.specs.FamilyCalls.{shares}
use Rattle.tuple_stream.specs.Touches.{IsFull, slots_of, slots_with}
use Rattle.tuple_stream.specs.Steps.{Reads, scene}
use Rattle.tuple_stream.specs.Streamed.{Streamed}
use Rattle.tuple_stream.proofs.PageLists.{still_at}
use Rattle.bucket_table.specs.Tables.{Table}
use Rattle.partition_stack.specs.Laws.{CountFor, PagesAreFew, WantComesLate}
use Rattle.partition_stack.specs.Slots.{IsWantBelow, IsWantBelowOf, SameSlots, most_pages}
use Rattle.partition_stack.specs.Stack.{IsStack, Stack, over}
use Rattle.partition_stack.proofs.Scratch.{counts_once, counts_twice, most_more}
use Rattle.partition_stack.proofs.SharedRows.{shares_same}
use Rattle.partition_stack.proofs.Slots.{slots_none, taken}
use Rattle.group_op.specs.Finished.{ShowsFirst}
use Rattle.group_op.specs.Finishing.{Serves}
use Rattle.group_op.specs.Feeding.{HasOpened}
use Rattle.group_op.specs.Held.{State, page_len, rows_of, state, streams_of}
use Rattle.group_op.specs.Operator.{HasTable, Holds, IsFeeding, Operator, bytes_for, entries_in, operator, page_of, slots_for}
use Rattle.group_op.specs.Putting.{Deals, Works}
use Rattle.group_op.specs.Wanting.{AreNoMore, IsWantAmong, IsWantAmongOf, ShowNoMore, StandNoMore, slots_among}
use Rattle.group_op.proofs.Deals.{sure_dealt}
use Rattle.group_op.proofs.Fewer.{concat_both}
use Rattle.group_op.proofs.Made.{stream_slots}

pub some_blocks : (n : ℕ) → IsBlockCount n → 0 < n
some_blocks zero is = absurd cc
some_blocks (suc n) is = omega arith

some_product : (a b : ℕ) → 0 < a → 0 < b → 0 < a * b
some_product zero b some more = absurd (omega (arith, some))
some_product (suc a) b some more = let all : suc a * b ≡ b + a * b = omega arith in omega (arith, more, all)

pub some_page : (blocks : ℕ) (h : Holdings) → IsBlockCount blocks → 0 < h.block_len → 0 < length_of blocks h
some_page blocks h sized long = some_product blocks h.block_len (some_blocks blocks sized) long

less_later : (m n : ℕ) (total : Option ℕ) → m ≤ n → IfSome total (λ k. k < m) → IfSome total (λ k. k < n)
less_later m n None more less = tt
less_later m n (Some k) more less = omega (arith, more, less)

pub below_more : (m n : ℕ) (total : Option ℕ) (e : PoolErr) → m ≤ n → IsWantBelow m total e → IsWantBelow n total e
below_more m n total (ScratchFull need few) more want = less_later m n total more want
below_more m n total (NoReservation tracker wanted room) more want = tt
below_more m n total (WriteFault entry) more want = tt
below_more m n total (ReadFault entry) more want = tt
below_more m n total (TooManyTrackers count) more want = tt
below_more m n total NamesSpent more want = tt
below_more m n total Memory more want = tt
below_more m n total (Stale wanted found) more want = tt

pub below_more_of : (m n : ℕ) (total : Option ℕ) (e : OpErr) → m ≤ n → IsWantBelowOf m total e → IsWantBelowOf n total e
below_more_of m n total (Pool e) more want = below_more m n total e more want
below_more_of m n total Sink more want = tt

pub one_more_page : (len more count bytes rows heavy blocks : ℕ) → 0 < len → count ≤ rows → bytes ≤ heavy → (most_pages len more count bytes + 1) * blocks ≤ (most_pages len more rows heavy + 1) * blocks
one_more_page len more count bytes rows heavy blocks some few light =
    let most = most_more len more count bytes rows heavy some few light in
    mul-le-mul_right blocks (let next : most_pages len more count bytes + 1 ≤ most_pages len more rows heavy + 1 = omega (arith, most) in next)

-- among more rows
pub among_more : (more : ℕ) (some most : List (List ℕ)) (a : State) (e : PoolErr) → AreNoMore some most → IsWantAmong more some a e → IsWantAmong more most a e
among_more more some most a e less want long =
    below_more (slots_among more some a) (slots_among more most a) (slots_in (streams_of a)) e
    (one_more_page (page_len a) more (length some) (length (concat some)) (length most) (length (concat most)) a.parts.page_blocks long less.fewer less.lighter) (want long)

pub among_more_of : (more : ℕ) (some most : List (List ℕ)) (a : State) (e : OpErr) → AreNoMore some most → IsWantAmongOf more some a e → IsWantAmongOf more most a e
among_more_of more some most a e less want long =
    below_more_of (slots_among more some a) (slots_among more most a) (slots_in (streams_of a)) e
    (one_more_page (page_len a) more (length some) (length (concat some)) (length most) (length (concat most)) a.parts.page_blocks long less.fewer less.lighter) (want long)

-- by the slots of an earlier start
pub among_since : (more : ℕ) (most : List (List ℕ)) (a b : State) (e : OpErr) → b.parts.page_blocks ≡ a.parts.page_blocks → b.held.block_len ≡ a.held.block_len → slots_in (streams_of b) ≡ slots_in (streams_of a) → IsWantAmongOf more most b e → IsWantAmongOf more most a e
among_since more most a b e blocks len slots want long =
    let page : page_len b ≡ page_len a = ap (λ (n : ℕ). n * b.held.block_len) blocks ∙ ap (λ (n : ℕ). a.parts.page_blocks * n) len in
    let all : slots_among more most b ≡ slots_among more most a =
    ap (λ (n : ℕ). (most_pages n more (length most) (length (concat most)) + 1) * b.parts.page_blocks) page
    ∙ ap (λ (n : ℕ). (most_pages (page_len a) more (length most) (length (concat most)) + 1) * n) blocks in
    subst (λ (n : ℕ). IsWantBelowOf n (slots_in (streams_of a)) e) all
    (subst (λ (o : Option ℕ). IsWantBelowOf (slots_among more most b) o e) slots (want (let some : 0 < page_len b = subst (λ (n : ℕ). 0 < n) (sym page) long in some)))

-- ---- what stopped a call

-- rows showed at `g`, and at `c`, with as many pages, slots were wanting
pub want_late : PagesAreFew → WantComesLate → (t blocks more count bytes : ℕ) (rows : ℕ → List (List ℕ)) (f g c : Family) (e : PoolErr) → AllSized blocks f → SameSlots blocks f g → SameSlots blocks f c → AreShaped t g → ShowAll rows g → CountFor more g
    → length (shares (length g.streams) rows) ≤ count → length (concat (shares (length g.streams) rows)) ≤ bytes → g.held.block_len ≡ f.held.block_len → pages_in c ≡ pages_in g → IsFull blocks c.held.free_slots e
    → 0 < length_of blocks f.held → IsWantBelow ((most_pages (length_of blocks f.held) more count bytes + 1) * blocks) (slots_in f) e
want_late pages want t blocks more count bytes rows f g c e sized first last shaped shows counts few light len same full some =
    let long : length_of blocks g.held ≡ length_of blocks f.held = ap (λ (n : ℕ). blocks * n) len in
    let most : pages_in g ≤ most_pages (length_of blocks f.held) more count bytes =
    subst (λ (n : ℕ). pages_in g ≤ most_pages n more count bytes) long
    (pages t blocks more count bytes rows g shaped (first.sized sized) shows (subst (λ (n : ℕ). 0 < n) (sym long) some) counts few light) in
    subst (λ (o : Option ℕ). IsWantBelow ((most_pages (length_of blocks f.held) more count bytes + 1) * blocks) o e) last.sum
    (want blocks (most_pages (length_of blocks f.held) more count bytes) c e (last.sized sized) (omega (arith, most, same)) full)

pub counts_272 : (f : Family) → length f.streams ≤ 272 → CountFor 544 f
counts_272 f many = counts_twice 544 f (omega (arith, many))

pub want_shown : PagesAreFew → WantComesLate → (t : ℕ) (shape : Shape) (most : List (List ℕ)) (a b c : State) (now : ℕ) (e : PoolErr) → AllSized a.parts.page_blocks (streams_of a) → Serves t shape a b → SameSlots a.parts.page_blocks (streams_of a) (streams_of c)
    → ShowNoMore most b → pages_in (streams_of c) ≡ pages_in (streams_of b) → now ≡ a.parts.page_blocks → IsFull now c.held.free_slots e → IsWantAmong 544 most a e
want_shown pages want t shape most a b c now e sized serves last show same is full long =
    want_late pages want t a.parts.page_blocks 544 (length most) (length (concat most)) show.rows (streams_of a) (streams_of b) (streams_of c) e sized serves.slots last serves.held.owns.shaped show.shows (counts_272 (streams_of b) show.many)
    show.no_more.fewer show.no_more.lighter serves.leaves.others.block_len same (subst (λ (n : ℕ). IsFull n c.held.free_slots e) is full) long

-- ---- what an emitter answers that asks nothing of the store

not_wanting : (most : ℕ) (total : Option ℕ) (before after : Signs) (e : PoolErr) → after ≡ before → CameOf 0 0 before after (Pool e) → IsWantBelow most total e
not_wanting most total before after (ScratchFull need few) same came = let still = ap (λ (s : Signs). s.refused_unpins) same in absurd (omega (arith, still, came))
not_wanting most total before after (NoReservation tracker wanted room) same came = tt
not_wanting most total before after (WriteFault entry) same came = tt
not_wanting most total before after (ReadFault entry) same came = tt
not_wanting most total before after (TooManyTrackers count) same came = tt
not_wanting most total before after NamesSpent same came = tt
not_wanting most total before after Memory same came = tt
not_wanting most total before after (Stale wanted found) same came = tt

pub alone_below : (f g most : ℕ) (total : Option ℕ) (before after : Signs) (e : OpErr) → after ≡ before → CameOf f g before after e → IsWantBelowOf most total e
alone_below f g most total before after (Pool e) same came = not_wanting most total before after e same came
alone_below f g most total before after Sink same came = tt

-- ---- rows that are fed

-- the table grew before
pub stand_after : (a m b : State) → rows_of m.table ≡ rows_of a.table → length m.parts.streams ≡ length a.parts.streams → Deals (λ i. []) (streams_of a) (streams_of m) → StandNoMore m b → StandNoMore a b
stand_after a m b rows many deals stand =
    record {
      whole = λ all. stand.whole (deals.whole all);
      show = λ these sure shows.
          subst (λ (rs : List (List ℕ)). ShowNoMore rs b)
          (ap₂ (λ (x y : List (List ℕ)). x ++ y) rows (ap (λ (n : ℕ). shares n (λ i. these i ++ [])) many ∙ shares_same (length a.parts.streams) (λ i. these i ++ []) these (λ i. append-nil (these i))))
          (stand.show (λ i. these i ++ []) (sure_dealt (λ i. []) (streams_of a) (streams_of m) deals sure) (deals.rows these sure shows));
    }

pub op_shaped : (c : ClientToken) (shape : Shape) (p : Stack) (table : Option Table) (h : Holdings) (signs : Signs) → HasTable c shape p table h signs → AreShaped c.tracker (over p h signs)
op_shaped c shape p None h signs has = has.0.shaped
op_shaped c shape p (Some table) h signs has = has.0.owns.shaped

module _ (pages : PagesAreFew) (want : WantComesLate) (c : ClientToken) (shape : Shape) (was : Option Table) (p : Stack) (h0 : Holdings) (s0 : Signs) (stack : IsStack p) (feeding : IsFeeding (operator c shape p was)) where
  -- what the store answered before the row was put
  pub want_unput : (h1 : Holdings) (s1 : Signs) (e : PoolErr) → HasTable c shape p was h0 s0 → SameSlots p.page_blocks (over p h0 s0) (over p h1 s1) → IsFull p.page_blocks h1.free_slots e
      → (rows : List (List Value)) → Holds rows (operator c shape p was) h0 s0 → 0 < length_of p.page_blocks h0 → IsWantBelow (slots_for 16 (operator c shape p was) h0 rows) (slots_in (over p h0 s0)) e
  want_unput h1 s1 e has slots full rows holds some =
      let few = holds.few in
      let light = holds.light in
      let many = ap (λ (n : ℕ). length (shares n holds.rows)) feeding.sixteen in
      let heavy = ap (λ (n : ℕ). length (concat (shares n holds.rows))) feeding.sixteen in
      want_late pages want c.tracker p.page_blocks 16 (length rows) (bytes_for shape rows) holds.rows (over p h0 s0) (over p h0 s0) (over p h1 s1) e stack.each (slots_none p.page_blocks (over p h0 s0)) slots
      (op_shaped c shape p was h0 s0 has) holds.shows (counts_once 16 (over p h0 s0) holds.whole (let sixteen = feeding.sixteen in omega (arith, sixteen))) (omega (arith, few, many)) (omega (arith, light, heavy)) refl refl full some

  -- and what it answered then
  pub want_put : (own now : Table) (q : Stack) (h1 h2 : Holdings) (s1 s2 : Signs) (r : Result Unit PoolErr) → HasOpened shape was own (state own p h0 s0) (state own p h1 s1) → SameSlots p.page_blocks (over p h0 s0) (over q h2 s2)
      → Works c.tracker shape (state own p h1 s1) (state now q h2 s2) → h1.block_len ≡ h0.block_len → OnErr r (StandNoMore (state own p h1 s1) (state now q h2 s2)) → IfErr r (IsFull p.page_blocks h2.free_slots)
      → IfErr r (λ e. (rows : List (List Value)) → Holds rows (operator c shape p was) h0 s0 → 0 < length_of p.page_blocks h0 → IsWantBelow (slots_for 16 (operator c shape p was) h0 rows) (slots_in (over p h0 s0)) e)
  want_put own now q h1 h2 s1 s2 (Ok done) opened slots works len stand full = tt
  want_put own now q h1 h2 s1 s2 (Err e) opened slots works len stand full = λ rows holds some.
      let few = holds.few in
      let light = holds.light in
      let shown = stand.show (λ i. holds.rows i ++ []) (inr (opened.deals.at_end holds.at_end)) (opened.deals.rows holds.rows (inr holds.at_end) holds.shows) in
      let are : rows_of own ++ shares (length p.streams) (λ i. holds.rows i ++ []) ≡ entries_in was ++ shares 16 holds.rows =
      ap₂ (λ (x y : List (List ℕ)). x ++ y) opened.rows (ap (λ (n : ℕ). shares n (λ i. holds.rows i ++ [])) feeding.sixteen ∙ shares_same 16 (λ i. holds.rows i ++ []) holds.rows (λ i. append-nil (holds.rows i))) in
      let many = ap length are in
      let heavy = ap (λ (rs : List (List ℕ)). length (concat rs)) are in
      let both = length-append (entries_in was) (shares 16 holds.rows) in
      let sum = concat_both (entries_in was) (shares 16 holds.rows) in
      let less = shown.no_more.fewer in
      let lighter = shown.no_more.lighter in
      want_late pages want c.tracker p.page_blocks 16 (length rows) (bytes_for shape rows) shown.rows (over p h0 s0) (over q h2 s2) (over q h2 s2) e stack.each slots slots
      works.held.owns.shaped shown.shows (counts_once 16 (over q h2 s2) (stand.whole (opened.deals.whole holds.whole)) (let sixteen = feeding.sixteen in let same = works.many in omega (arith, sixteen, same)))
      (omega (arith, few, many, both, less)) (omega (arith, light, heavy, sum, lighter)) (works.leaves.others.block_len ∙ len) refl full some

-- with more rows there may be as many
pub fed_below : (op : Operator) (h : Holdings) (fed more : List (List Value)) (total : Option ℕ) (e : PoolErr) → 0 < page_of op h → IsWantBelow (slots_for 16 op h fed) total e → IsWantBelow (slots_for 16 op h (fed ++ more)) total e
fed_below op h fed more total e some want =
    let long = length-append fed more in
    let heavy : bytes_for op.shape (fed ++ more) ≡ bytes_for op.shape fed + bytes_for op.shape more = sum_by-append (λ (r : List Value). length (row_bytes r) + 16 * length op.shape.aggs) fed more in
    below_more (slots_for 16 op h fed) (slots_for 16 op h (fed ++ more)) total e
    (one_more_page (page_of op h) 16 (length fed) (bytes_for op.shape fed) (length (fed ++ more)) (bytes_for op.shape (fed ++ more)) op.parts.page_blocks some (omega (arith, long)) (omega (arith, heavy))) want

-- ---- a stream that is read beside others

-- what stopped it, by its slots at the start
pub below_read : WantComesLate → (t blocks : ℕ) (s now : Streamed) (old new : Holdings) (before after : Signs) (e : PoolErr) → Reads t (scene s old before) (scene now new after) → now ≡ record s { pinned = now.pinned } → blocks ≡ s.page_blocks → IsFull blocks new.free_slots e
    → IsWantBelow ((length s.pages + 1) * s.page_blocks) (slots_with s old) e
below_read want t blocks s now old new before after e went same is full =
    let alone : Family = family (now ∷ []) new after in
    let pages : sum_by (λ (r : Streamed). length r.pages) (now ∷ []) ≡ length now.pages + 0 = sum_by-cons (λ (r : Streamed). length r.pages) now [] in
    let long = ap (λ (r : Streamed). length r.pages) same in
    let slots : sum_by (λ (r : Streamed). sum_by (slots_of r new) r.pages) (now ∷ []) ≡ sum_by (slots_of now new) now.pages + 0 = sum_by-cons (λ (r : Streamed). sum_by (slots_of r new) r.pages) now [] in
    let mine : sum_by (λ (r : Streamed). sum_by (slots_of r new) r.pages) (now ∷ []) ≡ sum_by (slots_of now new) now.pages = omega (arith, slots) in
    let all : slots_in (family (now ∷ []) new after) ≡ slots_with s old = ap (λ (m : ℕ). option_map (λ n. n + m) new.free_slots) mine ∙ went.step.touches.slots in
    subst (λ (o : Option ℕ). IsWantBelow ((length s.pages + 1) * s.page_blocks) o e) all
    (want s.page_blocks (length s.pages) (family (now ∷ []) new after) e (alone_sized s now same) (omega (arith, pages, long)) (subst (λ (n : ℕ). IsFull n new.free_slots e) is full))
  where
    alone_sized : (s now : Streamed) → now ≡ record s { pinned = now.pinned } → (i : ℕ) (r : Streamed) → slice_get (now ∷ []) i ≡ Some r → r.page_blocks ≡ s.page_blocks
    alone_sized s now same zero r there = ap (λ (x : Streamed). x.page_blocks) (sym (same_Some now r there)) ∙ ap (λ (x : Streamed). x.page_blocks) same
    alone_sized s now same (suc i) r there = absurd (none-some r there)

-- the same want by the slots of all, of which it is the top one
below_wide : (blocks most mine pages others : ℕ) (free own : ℕ) → others ≤ pages * blocks → pages + mine ≤ most → free + own < (mine + 1) * blocks → free + (others + own) < (most + 1) * blocks
below_wide blocks most mine pages others free own low few less =
    let wide : (pages + (mine + 1)) * blocks ≤ (most + 1) * blocks = mul-le-mul_right blocks (omega (arith, few)) in
    let apart : (pages + (mine + 1)) * blocks ≡ pages * blocks + (mine + 1) * blocks = omega arith in
    omega (arith, low, less, wide, apart)

wide_free : (blocks most mine pages others own all : ℕ) (free : Option ℕ) → others ≤ pages * blocks → pages + mine ≤ most → all ≡ others + own → IfSome (option_map (λ n. n + own) free) (λ n. n < (mine + 1) * blocks) → IfSome (option_map (λ n. n + all) free) (λ n. n < (most + 1) * blocks)
wide_free blocks most mine pages others own all None low few sum less = tt
wide_free blocks most mine pages others own all (Some free) low few sum less =
    let wide = below_wide blocks most mine pages others free own low few less in
    omega (arith, wide, sum)

wide_want : (blocks most mine pages others own all : ℕ) (free : Option ℕ) (e : OpErr) → others ≤ pages * blocks → pages + mine ≤ most → all ≡ others + own → IsWantBelowOf ((mine + 1) * blocks) (option_map (λ n. n + own) free) e → IsWantBelowOf ((most + 1) * blocks) (option_map (λ n. n + all) free) e
wide_want blocks most mine pages others own all free (Pool (ScratchFull need few)) low many sum want = wide_free blocks most mine pages others own all free low many sum want
wide_want blocks most mine pages others own all free (Pool (NoReservation tracker wanted room)) low many sum want = tt
wide_want blocks most mine pages others own all free (Pool (WriteFault entry)) low many sum want = tt
wide_want blocks most mine pages others own all free (Pool (ReadFault entry)) low many sum want = tt
wide_want blocks most mine pages others own all free (Pool (TooManyTrackers count)) low many sum want = tt
wide_want blocks most mine pages others own all free (Pool NamesSpent) low many sum want = tt
wide_want blocks most mine pages others own all free (Pool Memory) low many sum want = tt
wide_want blocks most mine pages others own all free (Pool (Stale wanted found)) low many sum want = tt
wide_want blocks most mine pages others own all free Sink low many sum want = tt

pub below_top : (p : Stack) (ss : List Streamed) (s : Streamed) (most : ℕ) (h : Holdings) (signs : Signs) (e : OpErr) → p.streams ≡ ss ++ s ∷ [] → IsStack p → s.page_blocks ≡ p.page_blocks → pages_in (over p h signs) ≤ most
    → IsWantBelowOf ((length s.pages + 1) * s.page_blocks) (slots_with s h) e → IsWantBelowOf ((most + 1) * p.page_blocks) (slots_in (over p h signs)) e
below_top p ss s most h signs e split stack sized few want =
    let low = stream_slots p.page_blocks ss h (λ i r at. stack.each i r (ap (λ (rs : List Streamed). slice_get rs i) split ∙ still_at ss s r i at)) in
    let one : taken (s ∷ []) h ≡ sum_by (slots_of s h) s.pages + 0 = sum_by-cons (λ (r : Streamed). sum_by (slots_of r h) r.pages) s [] in
    let all : taken (ss ++ s ∷ []) h ≡ taken ss h + taken (s ∷ []) h = sum_by-append (λ (r : Streamed). sum_by (slots_of r h) r.pages) ss (s ∷ []) in
    let whole : taken p.streams h ≡ taken (ss ++ s ∷ []) h = ap (λ (rs : List Streamed). taken rs h) split in
    let own : sum_by (λ (r : Streamed). length r.pages) (s ∷ []) ≡ length s.pages + 0 = sum_by-cons (λ (r : Streamed). length r.pages) s [] in
    let both : sum_by (λ (r : Streamed). length r.pages) (ss ++ s ∷ []) ≡ sum_by (λ (r : Streamed). length r.pages) ss + sum_by (λ (r : Streamed). length r.pages) (s ∷ []) = sum_by-append (λ (r : Streamed). length r.pages) ss (s ∷ []) in
    let pages : pages_in (over p h signs) ≡ sum_by (λ (r : Streamed). length r.pages) (ss ++ s ∷ []) = ap (sum_by (λ (r : Streamed). length r.pages)) split in
    wide_want p.page_blocks most (length s.pages) (sum_by (λ (r : Streamed). length r.pages) ss) (taken ss h) (sum_by (slots_of s h) s.pages) (taken p.streams h) h.free_slots e low (omega (arith, few, own, both, pages)) (omega (arith, one, all, whole))
    (subst (λ (n : ℕ). IsWantBelowOf ((length s.pages + 1) * n) (slots_with s h) e) sized want)

-- so it is while partitions show rows
pub top_among : PagesAreFew → (t : ℕ) (shape : Shape) (table : Table) (at : ℕ) (p : Stack) (ss : List Streamed) (s : Streamed) (h : Holdings) (signs : Signs) (e : OpErr) → p.streams ≡ ss ++ s ∷ [] → IsStack p → length p.streams ≤ 272 → s.page_blocks ≡ p.page_blocks
    → AreShaped t (over p h signs) → length p.streams ≡ at + 1 → (rows : ℕ → List (List ℕ)) → ShowAll rows (over p h signs) → IsWantBelowOf ((length s.pages + 1) * s.page_blocks) (slots_with s h) e → IsWantAmongOf 544 (shares (at + 1) rows) (state table p h signs) e
top_among pages t shape table at p ss s h signs e split stack many sized shaped top rows shows want long =
    below_top p ss s (most_pages (length_of p.page_blocks h) 544 (length (shares (at + 1) rows)) (length (concat (shares (at + 1) rows)))) h signs e split stack sized
    (subst (λ (n : ℕ). pages_in (over p h signs) ≤ most_pages (length_of p.page_blocks h) 544 (length (shares n rows)) (length (concat (shares n rows)))) top
    (pages t p.page_blocks 544 (length (shares (length p.streams) rows)) (length (concat (shares (length p.streams) rows))) rows (over p h signs) shaped stack.each shows long (counts_272 (over p h signs) many) (omega arith) (omega arith)))
    want

-- ---- all that was fed is handed on

pub finished_below : (c : ClientToken) (shape : Shape) (fed : List (List Value)) (p : Stack) (was : Option Table) (own : Table) (h : Holdings) (signs : Signs) (e : OpErr) → was ≡ Some own
    → ((rows : ℕ → List (List ℕ)) → ShowsFirst shape rows (state own p h signs) → IsWantAmongOf 544 (rows_of own ++ shares 16 rows) (state own p h signs) e)
    → Holds fed (operator c shape p was) h signs → h.told ≡ true → 0 < page_of (operator c shape p was) h → IsWantBelowOf (slots_for 544 (operator c shape p was) h fed) (slots_in (over p h signs)) e
finished_below c shape fed p was own h signs e is want holds told some =
    let few = holds.few in
    let light = holds.light in
    let same = ap (λ (o : Option Table). length (entries_in o)) is in
    let heavy = ap (λ (o : Option Table). length (concat (entries_in o))) is in
    let both = length-append (rows_of own) (shares 16 holds.rows) in
    let sum = concat_both (rows_of own) (shares 16 holds.rows) in
    below_more_of (slots_among 544 (rows_of own ++ shares 16 holds.rows) (state own p h signs)) (slots_for 544 (operator c shape p was) h fed) (slots_in (over p h signs)) e
    (one_more_page (length_of p.page_blocks h) 544 (length (rows_of own ++ shares 16 holds.rows)) (length (concat (rows_of own ++ shares 16 holds.rows))) (length fed) (bytes_for shape fed) p.page_blocks some
    (omega (arith, few, same, both)) (omega (arith, light, heavy, sum)))
    (want holds.rows (record { told = told; shows = holds.shows; formed = holds.formed; placed = holds.placed }) some)
