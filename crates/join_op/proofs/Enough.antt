-- How many pages both sides have at most, by their rows, and what a want of slots tells of them.
use Rattle.std.proofs.Common.{◌≡◌, ◌∙◌, ℕ, zero, suc, ◌+◌, ◌*◌, ◌<◌, ◌≤◌, Bool, true, false, List, [], ◌∷◌, ◌++◌, length, Option, Some, if◌then◌else◌, refl, ap, sym, subst, arith, length-append}
use Rattle.std.specs.Prelude.{All}
use Rattle.std.specs.List.{concat, slice_get, sum_by}
use Rattle.std.proofs.Math.Nat.{mul-le-mul_right}
use Rattle.std.proofs.lemmas.List.Elements.{All-append, All-head, All-nil, All-tail}
use Rattle.std.proofs.lemmas.List.Sums.{sum_by-append, sum_by-cons, sum_by_push}
use Rattle.reservation_tree.specs.declared.errors.PoolErr.{PoolErr}
use Rattle.pool_model.specs.declared.entry.Entry.{Entry}
use Rattle.row_codec.specs.declared.values.Value.{Value}
use Rattle.row_codec.specs.RowBytes.{row_bytes}
use Rattle.row_reading.specs.Reading.{IsRowOf, values_at}
use Rattle.store_api.specs.Conditions.{IsBlockCount}
use Rattle.store_api.specs.Holdings.{Holdings, length_of, page_of}
use Rattle.store_api.specs.Signs.{Signs}
use Rattle.store_api.specs.Tokens.{ClientToken, PageToken}
use Rattle.store_api.specs.declared.shapes.JoinShape.{JoinShape}
use Rattle.store_api.specs.declared.op_err.OpErr.{OpErr}
use Rattle.tuple_stream.specs.Families.{AllSized, AreShaped, Family, ShowAll, pages_in, slots_in}
use Rattle.tuple_stream.specs.FamilyCalls.{AllWhole, AreSure, Feeds, shares}
use Rattle.tuple_stream.specs.Streamed.{Streamed}
use Rattle.tuple_stream.specs.Streams.{HasRows}
use Rattle.tuple_stream.specs.Touches.{IsFull, slots_of}
use Rattle.bucket_table.proofs.Opened.{some_blocks}
use Rattle.partition_stack.specs.Laws.{AllFewInAll, begun_in}
use Rattle.partition_stack.specs.Sides.{OwnBoth}
use Rattle.partition_stack.specs.Slots.{IsWantBelow, IsWantBelowOf, SameSlots, most_pages}
use Rattle.partition_stack.specs.Stack.{IsStack, Stack, over}
use Rattle.partition_stack.proofs.Scratch.{by_both, most_more, want_comes_late}
use Rattle.partition_stack.proofs.Slots.{taken}
use Rattle.join_op.specs.Dividing.{AreFewPages, HasDealt, WholeBut}
use Rattle.join_op.specs.Joining.{Both, both, rows_weigh, slots_both, slots_by}
use Rattle.join_op.specs.Operator.{Keeps, KeepsSide, Operator, bytes_of, operator, over_both, slots_for}
use Rattle.join_op.specs.Rested.{KeepsRested}
use Rattle.join_op.specs.Stored.{Side, left_side, right_side, rows_in}
use Rattle.join_op.proofs.BothSlots.{sized_behind, sized_both, sized_front}
use Rattle.join_op.proofs.Shares.{no_more}
use Rattle.join_op.proofs.Moved.{sum_lengths, sum_ones, weigh_dealt}
use Rattle.join_op.proofs.Spent.{none_is_begun, one_begun}
use Rattle.join_op.proofs.Sums.{sum_map}
use Rattle.join_op.proofs.Wholes.{side_many}

-- ---- want of slots

two_sums : (a b len : ℕ) → (a + b) * len ≡ a * len + b * len
two_sums a b len = omega arith

at_most : (has : Bool) (n : ℕ) → (if has then n else 0) ≤ n
at_most true n = omega arith
at_most false n = omega arith

slots_most : (s : Streamed) (h : Holdings) (pages : List PageToken) → sum_by (slots_of s h) pages ≤ length pages * s.page_blocks
slots_most s h [] = omega arith
slots_most s h (p ∷ pages) =
    let rest = slots_most s h pages in
    let one : slots_of s h p ≤ s.page_blocks = at_most (page_of p.name h).has_slots s.page_blocks in
    let sum = sum_by-cons (slots_of s h) p pages in
    let more : suc (length pages) * s.page_blocks ≡ s.page_blocks + length pages * s.page_blocks = omega arith in
    omega (arith, rest, one, sum, more)

pub slots_few : (blocks : ℕ) (streams : List Streamed) (h : Holdings) → ((i : ℕ) (s : Streamed) → slice_get streams i ≡ Some s → s.page_blocks ≡ blocks) → taken streams h ≤ sum_by (λ s. length s.pages) streams * blocks
slots_few blocks [] h sized = omega arith
slots_few blocks (s ∷ streams) h sized =
    let rest = slots_few blocks streams h (λ i r at. sized (suc i) r at) in
    let one : sum_by (slots_of s h) s.pages ≤ length s.pages * blocks = subst (λ (n : ℕ). sum_by (slots_of s h) s.pages ≤ length s.pages * n) (sized 0 s refl) (slots_most s h s.pages) in
    let more = two_sums (length s.pages) (sum_by (λ s. length s.pages) streams) blocks in
    let pages : sum_by (λ s. length s.pages) (s ∷ streams) ≡ length s.pages + sum_by (λ s. length s.pages) streams = sum_by-cons (λ (s : Streamed). length s.pages) s streams in
    let slots : taken (s ∷ streams) h ≡ sum_by (slots_of s h) s.pages + taken streams h = sum_by-cons (λ (s : Streamed). sum_by (slots_of s h) s.pages) s streams in
    rw (pages, slots) (omega (arith, rest, one, more))

-- it comes only where there are fewer than those of one page more than there are, by the slots at the start of the calls
pub late_since : (blocks now most : ℕ) (f g : Family) → SameSlots blocks f g → AllSized blocks f → now ≡ blocks → pages_in g ≤ most → (e : PoolErr) → IsFull now g.held.free_slots e → IsWantBelow ((most + 1) * blocks) (slots_in f) e
late_since blocks now most f g same sized is many e full =
    subst (λ (o : Option ℕ). IsWantBelow ((most + 1) * blocks) o e) same.sum (want_comes_late blocks most g e (same.sized sized) many (subst (λ (n : ℕ). IsFull n g.held.free_slots e) is full))

-- ---- both sides

widened : (len pages bytes many more : ℕ) → pages * len ≤ 2 * bytes + many * len → many ≤ more → pages * len ≤ 2 * bytes + more * len
widened len pages bytes many more low few =
    let wide : many * len ≤ more * len = mul-le-mul_right len few in
    omega (arith, low, wide)

-- the pages of a side's rows, of which at most one partition is being spent
few_begun : (laws : AllFewInAll) (t blocks : ℕ) (rows : ℕ → List (List ℕ)) (f : Family) → AreShaped t f → AllSized blocks f → ShowAll rows f → length f.streams ≤ 272 → begun_in f.streams ≤ 1 → AreFewPages blocks 273 (shares (length f.streams) rows) f
few_begun laws t blocks rows f shaped sized shows many one =
    let few = laws t blocks rows f shaped sized shows in
    record {
      by_rows = few.by_rows;
      by_bytes =
          widened (length_of blocks f.held) (pages_in f) (length (concat (shares (length f.streams) rows))) (length f.streams + begun_in f.streams) 273 few.by_bytes
          (omega (arith, many, one));
    }

-- and where none is
pub few_whole : (laws : AllFewInAll) (t blocks : ℕ) (rows : ℕ → List (List ℕ)) (f : Family) → AreShaped t f → AllSized blocks f → ShowAll rows f → length f.streams ≤ 272 → AllWhole f → AreFewPages blocks 273 (shares (length f.streams) rows) f
few_whole laws t blocks rows f shaped sized shows many whole = few_begun laws t blocks rows f shaped sized shows many (none_is_begun f whole)

-- and of rows that are no fewer, and no lighter
pub few_heavier : (blocks more : ℕ) (xs ys : List (List ℕ)) (f : Family) → ((w : List ℕ → ℕ) → sum_by w xs ≤ sum_by w ys) → AreFewPages blocks more xs f → AreFewPages blocks more ys f
few_heavier blocks more xs ys f lighter few =
    let count = lighter (λ _. 1) in
    let count_x = sum_ones xs in
    let count_y = sum_ones ys in
    let heavy = lighter length in
    let heavy_x = sum_lengths xs in
    let heavy_y = sum_lengths ys in
    let rows = few.by_rows in
    let bytes = few.by_bytes in
    record { by_rows = omega (arith, rows, count, count_x, count_y); by_bytes = omega (arith, bytes, heavy, heavy_x, heavy_y) }

-- and where calls made no page
pub few_stay : (blocks more : ℕ) (xs : List (List ℕ)) (f g : Family) → pages_in g ≡ pages_in f → g.held.block_len ≡ f.held.block_len → AreFewPages blocks more xs f → AreFewPages blocks more xs g
few_stay blocks more xs f g same len few =
    let rows = few.by_rows in
    record {
      by_rows = omega (arith, rows, same);
      by_bytes =
          subst (λ (n : ℕ). n * length_of blocks g.held ≤ 2 * length (concat xs) + more * length_of blocks g.held) (sym same)
          (subst (λ (n : ℕ). pages_in f * (blocks * n) ≤ 2 * length (concat xs) + more * (blocks * n)) (sym len) few.by_bytes);
    }

-- the pages of a side of which a partition is dealt
pub few_dealt : (laws : AllFewInAll) (t blocks : ℕ) (side : Side) (level at : ℕ) (rows : ℕ → List (List ℕ)) (some rest : List (List ℕ)) (f : Family) → AreShaped t f → AllSized blocks f → length f.streams ≡ at + 17 → at + 17 ≤ 272 → WholeBut at f → HasDealt side level at rows some rest f
    → ((w : List ℕ → ℕ) → sum_by w some + sum_by w rest ≤ sum_by w (rows at)) → AreFewPages blocks 273 (shares (at + 1) rows) f
few_dealt laws t blocks side level at rows some rest f shaped sized sixteen many whole has lighter =
    few_heavier blocks 273 (shares (at + 17) has.now) (shares (at + 1) rows) f (λ w. weigh_dealt w side level at rows some rest f has (lighter w))
    (subst (λ (n : ℕ). AreFewPages blocks 273 (shares n has.now) f) sixteen (few_begun laws t blocks has.now f shaped sized has.shows (omega (arith, sixteen, many)) (one_begun at f.streams whole)))

both_bounds : (len more all a b m n v w : ℕ) → 0 < len → all ≡ more + more → a ≤ m → b ≤ n → a * len ≤ 2 * v + more * len → b * len ≤ 2 * w + more * len → a + b ≤ most_pages len all (m + n) (v + w)
both_bounds len more all a b m n v w some is one two left right =
    let sum = two_sums a b len in
    let twice : all * len ≡ more * len + more * len = ap (λ (k : ℕ). k * len) is ∙ two_sums more more len in
    by_both len all (m + n) (v + w) (a + b) some (omega (arith, one, two)) (let low : (a + b) * len ≤ 2 * (v + w) + all * len = omega (arith, sum, twice, left, right) in low)

pub pages_both : (blocks more all : ℕ) → all ≡ more + more → (left right : Stack) (h : Holdings) (signs : Signs) (xs ys : List (List ℕ)) → AreFewPages blocks more xs (over left h signs) → AreFewPages blocks more ys (over right h signs) → 0 < length_of blocks h
    → pages_in (over_both left right h signs) ≤ most_pages (length_of blocks h) all (length xs + length ys) (length (concat xs) + length (concat ys))
pages_both blocks more all is left right h signs xs ys one two some =
    let sum : pages_in (over_both left right h signs) ≡ pages_in (over left h signs) + pages_in (over right h signs) = sum_by-append (λ (s : Streamed). length s.pages) left.streams right.streams in
    subst (λ (k : ℕ). k ≤ most_pages (length_of blocks h) all (length xs + length ys) (length (concat xs) + length (concat ys))) (sym sum)
    (both_bounds (length_of blocks h) more all (pages_in (over left h signs)) (pages_in (over right h signs)) (length xs) (length ys) (length (concat xs)) (length (concat ys)) some is one.by_rows two.by_rows one.by_bytes two.by_bytes)

-- ---- as rows are fed

-- stored rows are spelled as they were fed
sum_spelled : (side : Side) (xs : List (List ℕ)) → All (IsRowOf side.kinds) xs → sum_by (λ b. length (row_bytes (values_at side.kinds b))) xs ≡ sum_by length xs
sum_spelled side [] all = refl
sum_spelled side (x ∷ xs) all =
    let one : sum_by (λ b. length (row_bytes (values_at side.kinds b))) (x ∷ xs) ≡ length (row_bytes (values_at side.kinds x)) + sum_by (λ b. length (row_bytes (values_at side.kinds b))) xs = sum_by-cons (λ b. length (row_bytes (values_at side.kinds b))) x xs in
    let two : sum_by length (x ∷ xs) ≡ length x + sum_by length xs = sum_by-cons length x xs in
    let rest = sum_spelled side xs (All-tail (IsRowOf side.kinds) x xs all) in
    let same : length (row_bytes (values_at side.kinds x)) ≡ length x = ap length (All-head (IsRowOf side.kinds) x xs all).spelled in
    omega (arith, one, two, rest, same)

formed_all : (P : List ℕ → Type 0) (n : ℕ) (rows : ℕ → List (List ℕ)) → ((i : ℕ) → All P (rows i)) → All P (shares n rows)
formed_all P zero rows formed = All-nil P
formed_all P (suc n) rows formed = All-append P (rows 0) (shares n (λ i. rows (suc i))) (formed 0) (formed_all P n (λ i. rows (suc i)) (λ i. formed (suc i)))

pub side_bytes : (side : Side) (fed : List (List Value)) (f : Family) → (keeps : KeepsSide side fed f) → length (concat (shares 16 keeps.rows)) ≡ bytes_of fed
side_bytes side fed f keeps =
    let xs : List (List ℕ) = shares 16 keeps.rows in
    let same : sum_by (λ row. length (row_bytes row)) (rows_in side xs) ≡ bytes_of fed = keeps.same (λ row. length (row_bytes row)) in
    let mine : sum_by (λ row. length (row_bytes row)) (rows_in side xs) ≡ sum_by (λ b. length (row_bytes (values_at side.kinds b))) xs = sum_map (λ row. length (row_bytes row)) (values_at side.kinds) xs in
    let spelled = sum_spelled side xs (formed_all (IsRowOf side.kinds) 16 keeps.rows keeps.formed) in
    let lengths = sum_lengths xs in
    omega (arith, same, mine, spelled, lengths)

pub few_kept : (laws : AllFewInAll) (t blocks : ℕ) (side : Side) (fed : List (List Value)) (p : Stack) (h : Holdings) (signs : Signs) → AreShaped t (over p h signs) → AllSized blocks (over p h signs) → (keeps : KeepsSide side fed (over p h signs)) → length p.streams ≡ 16
    → AreFewPages blocks 273 (shares 16 keeps.rows) (over p h signs)
few_kept laws t blocks side fed p h signs shaped sized keeps sixteen =
    subst (λ (n : ℕ). AreFewPages blocks 273 (shares n keeps.rows) (over p h signs)) sixteen (few_whole laws t blocks keeps.rows (over p h signs) shaped sized keeps.shows (omega (arith, sixteen)) keeps.whole)

-- a row that wasn't taken leaves a side what it kept
pub kept_still : (t k : ℕ) (side : Side) (fed : List (List Value)) (f g : Family) → AreSure f → Feeds t k [] f g → KeepsSide side fed f → KeepsSide side fed g
kept_still t k side fed f g sure feeds keeps =
    record {
      rows = keeps.rows;
      shows = λ i s at. subst (λ (rs : List (List ℕ)). HasRows rs s g.held) (no_more k keeps.rows i) (feeds.rows keeps.rows sure keeps.shows i s at);
      formed = keeps.formed;
      placed = keeps.placed;
      same = keeps.same;
      whole = feeds.whole keeps.whole;
    }

-- the pages of both sides are those of few rows
pages_few : (blocks more all : ℕ) → all ≡ more + more → (l1 r1 : Stack) (h h1 : Holdings) (s1 : Signs) → h1.block_len ≡ h.block_len → 0 < length_of blocks h → (rows heavy : ℕ) (xs ys : List (List ℕ)) → AreFewPages blocks more xs (over l1 h1 s1) → AreFewPages blocks more ys (over r1 h1 s1)
    → length xs + length ys ≤ rows → length (concat xs) + length (concat ys) ≤ heavy → pages_in (over_both l1 r1 h1 s1) ≤ most_pages (length_of blocks h) all rows heavy
pages_few blocks more all twice l1 r1 h h1 s1 len some rows heavy xs ys one two many light =
    let lens : length_of blocks h1 ≡ length_of blocks h = ap (λ (k : ℕ). blocks * k) len in
    let few : pages_in (over_both l1 r1 h1 s1) ≤ most_pages (length_of blocks h) all (length xs + length ys) (length (concat xs) + length (concat ys)) =
    subst (λ (k : ℕ). pages_in (over_both l1 r1 h1 s1) ≤ most_pages k all (length xs + length ys) (length (concat xs) + length (concat ys))) lens (pages_both blocks more all twice l1 r1 h1 s1 xs ys one two (subst (λ (k : ℕ). 0 < k) (sym lens) some)) in
    let most = most_more (length_of blocks h) all (length xs + length ys) (length (concat xs) + length (concat ys)) rows heavy some many light in
    omega (arith, few, most)

-- what stopped calls then
pub below_few : (blocks more all now : ℕ) → all ≡ more + more → (left right : Stack) (l1 r1 : Stack) (h h1 : Holdings) (s s1 : Signs) → SameSlots blocks (over_both left right h s) (over_both l1 r1 h1 s1) → AllSized blocks (over_both left right h s) → h1.block_len ≡ h.block_len → 0 < length_of blocks h → now ≡ blocks
    → (rows heavy : ℕ) (xs ys : List (List ℕ)) → AreFewPages blocks more xs (over l1 h1 s1) → AreFewPages blocks more ys (over r1 h1 s1) → length xs + length ys ≤ rows → length (concat xs) + length (concat ys) ≤ heavy
    → (e : PoolErr) → IsFull now h1.free_slots e → IsWantBelow ((most_pages (length_of blocks h) all rows heavy + 1) * blocks) (slots_in (over_both left right h s)) e
below_few blocks more all now twice left right l1 r1 h h1 s s1 same sized len some is rows heavy xs ys one two many light e full =
    late_since blocks now (most_pages (length_of blocks h) all rows heavy) (over_both left right h s) (over_both l1 r1 h1 s1) same sized is (pages_few blocks more all twice l1 r1 h h1 s1 len some rows heavy xs ys one two many light) e full

-- the rows of both sides, weighed
pub pages_rows : (left right l1 r1 : Stack) (h h1 : Holdings) (s s1 : Signs) → h1.block_len ≡ h.block_len → 0 < length_of left.page_blocks h → (lefts rights : ℕ → List (List ℕ)) → AreFewPages left.page_blocks 273 (shares (length left.streams) lefts) (over l1 h1 s1)
    → AreFewPages left.page_blocks 273 (shares (length right.streams) rights) (over r1 h1 s1)
    → pages_in (over_both l1 r1 h1 s1) ≤ most_pages (length_of left.page_blocks h) 546 (rows_weigh (λ _. 1) (both left right h s) lefts rights) (rows_weigh length (both left right h s) lefts rights)
pages_rows left right l1 r1 h h1 s s1 len some lefts rights one two =
    let xs : List (List ℕ) = shares (length left.streams) lefts in
    let ys : List (List ℕ) = shares (length right.streams) rights in
    let count_x = sum_ones xs in
    let count_y = sum_ones ys in
    let bytes_x = sum_lengths xs in
    let bytes_y = sum_lengths ys in
    pages_few left.page_blocks 273 546 refl l1 r1 h h1 s1 len some (rows_weigh (λ _. 1) (both left right h s) lefts rights) (rows_weigh length (both left right h s) lefts rights) xs ys one two (omega (arith, count_x, count_y)) (omega (arith, bytes_x, bytes_y))

pub below_rows : (now : ℕ) (left right l1 r1 : Stack) (h h1 : Holdings) (s s1 : Signs) → SameSlots left.page_blocks (over_both left right h s) (over_both l1 r1 h1 s1) → AllSized left.page_blocks (over_both left right h s) → h1.block_len ≡ h.block_len → 0 < length_of left.page_blocks h → now ≡ left.page_blocks
    → (lefts rights : ℕ → List (List ℕ)) → AreFewPages left.page_blocks 273 (shares (length left.streams) lefts) (over l1 h1 s1) → AreFewPages left.page_blocks 273 (shares (length right.streams) rights) (over r1 h1 s1)
    → (e : PoolErr) → IsFull now h1.free_slots e → IsWantBelow (slots_by (both left right h s) lefts rights) (slots_both (both left right h s)) e
below_rows now left right l1 r1 h h1 s s1 same sized len some is lefts rights one two e full =
    late_since left.page_blocks now (most_pages (length_of left.page_blocks h) 546 (rows_weigh (λ _. 1) (both left right h s) lefts rights) (rows_weigh length (both left right h s) lefts rights)) (over_both left right h s) (over_both l1 r1 h1 s1) same sized is
    (pages_rows left right l1 r1 h h1 s s1 len some lefts rights one two) e full

slots_as : (a b : Both) (count heavy : ℕ) → b.left.page_blocks ≡ a.left.page_blocks → b.held.block_len ≡ a.held.block_len
    → (most_pages (length_of b.left.page_blocks b.held) 546 count heavy + 1) * b.left.page_blocks ≡ (most_pages (length_of a.left.page_blocks a.held) 546 count heavy + 1) * a.left.page_blocks
slots_as a b count heavy blocks len =
    ap (λ (n : ℕ). (most_pages (n * b.held.block_len) 546 count heavy + 1) * n) blocks ∙ ap (λ (n : ℕ). (most_pages (a.left.page_blocks * n) 546 count heavy + 1) * a.left.page_blocks) len

-- there were no fewer rows before
pub by_fewer : (a b : Both) (lefts rights lefts_now rights_now : ℕ → List (List ℕ)) → b.left.page_blocks ≡ a.left.page_blocks → b.held.block_len ≡ a.held.block_len → 0 < length_of a.left.page_blocks a.held
    → ((w : List ℕ → ℕ) → rows_weigh w b lefts_now rights_now ≤ rows_weigh w a lefts rights) → slots_by b lefts_now rights_now ≤ slots_by a lefts rights
by_fewer a b lefts rights lefts_now rights_now blocks len some lighter =
    let count : ℕ = rows_weigh (λ _. 1) b lefts_now rights_now in
    let heavy : ℕ = rows_weigh length b lefts_now rights_now in
    let more : ℕ = most_pages (length_of a.left.page_blocks a.held) 546 (rows_weigh (λ _. 1) a lefts rights) (rows_weigh length a lefts rights) in
    let most : most_pages (length_of a.left.page_blocks a.held) 546 count heavy ≤ more = most_more (length_of a.left.page_blocks a.held) 546 count heavy (rows_weigh (λ _. 1) a lefts rights) (rows_weigh length a lefts rights) some (lighter (λ _. 1)) (lighter length) in
    subst (λ (n : ℕ). n ≤ slots_by a lefts rights) (sym (slots_as a b count heavy blocks len))
    (mul-le-mul_right a.left.page_blocks (let up : most_pages (length_of a.left.page_blocks a.held) 546 count heavy + 1 ≤ more + 1 = omega (arith, most) in up))

pub all_sized : (left right : Stack) (h : Holdings) (s : Signs) → IsStack left → IsStack right → right.page_blocks ≡ left.page_blocks → AllSized left.page_blocks (over_both left right h s)
all_sized left right h s left_is right_is alike = sized_both left.page_blocks left.streams right.streams h s left_is.each (λ i x at. right_is.each i x at ∙ alike)

module _ (laws : AllFewInAll) (t now : ℕ) (left right l1 r1 : Stack) (h h1 : Holdings) (s s1 : Signs) (same : SameSlots left.page_blocks (over_both left right h s) (over_both l1 r1 h1 s1)) (left_is : IsStack left) (right_is : IsStack right) (alike : right.page_blocks ≡ left.page_blocks)
    (len : h1.block_len ≡ h.block_len) (some : 0 < length_of left.page_blocks h) (is : now ≡ left.page_blocks) (e : PoolErr) (full : IsFull now h1.free_slots e) where
  -- and where the rows are those that were fed
  pub below_fed : (one two : Side) (lefts rights : List (List Value)) (rows heavy : ℕ) → OwnBoth t 0 l1.streams r1.streams h1 s1 → KeepsSide one lefts (over l1 h1 s1) → KeepsSide two rights (over r1 h1 s1) → length l1.streams ≡ 16 → length r1.streams ≡ 16
      → length lefts + length rights ≤ rows → bytes_of lefts + bytes_of rights ≤ heavy → IsWantBelow ((most_pages (length_of left.page_blocks h) 546 rows heavy + 1) * left.page_blocks) (slots_in (over_both left right h s)) e
  below_fed one two lefts rights rows heavy own keeps_l keeps_r sixteen also many light =
      let sized : AllSized left.page_blocks (over_both left right h s) = all_sized left right h s left_is right_is alike in
      let sized_now = same.sized sized in
      let count_l = side_many one lefts (over l1 h1 s1) keeps_l in
      let count_r = side_many two rights (over r1 h1 s1) keeps_r in
      let bytes_l = side_bytes one lefts (over l1 h1 s1) keeps_l in
      let bytes_r = side_bytes two rights (over r1 h1 s1) keeps_r in
      below_few left.page_blocks 273 546 now refl left right l1 r1 h h1 s s1 same sized len some is rows heavy (shares 16 keeps_l.rows) (shares 16 keeps_r.rows)
      (few_kept laws t left.page_blocks one lefts l1 h1 s1 own.left_shaped (sized_front left.page_blocks l1.streams r1.streams h1 s1 sized_now) keeps_l sixteen)
      (few_kept laws t left.page_blocks two rights r1 h1 s1 own.right_shaped (sized_behind left.page_blocks l1.streams r1.streams h1 s1 sized_now) keeps_r also)
      (omega (arith, count_l, count_r, many)) (omega (arith, bytes_l, bytes_r, light)) e full

  -- and calls made no page since
  pub below_rested : (one two : Side) (lefts rights : List (List Value)) (rows heavy : ℕ) → OwnBoth t 0 left.streams right.streams h s → KeepsSide one lefts (over left h s) → KeepsSide two rights (over right h s) → length left.streams ≡ 16 → length right.streams ≡ 16
      → pages_in (over l1 h1 s1) ≡ pages_in (over left h s) → pages_in (over r1 h1 s1) ≡ pages_in (over right h s)
      → length lefts + length rights ≤ rows → bytes_of lefts + bytes_of rights ≤ heavy → IsWantBelow ((most_pages (length_of left.page_blocks h) 546 rows heavy + 1) * left.page_blocks) (slots_in (over_both left right h s)) e
  below_rested one two lefts rights rows heavy own keeps_l keeps_r sixteen also still_l still_r many light =
      let sized : AllSized left.page_blocks (over_both left right h s) = all_sized left right h s left_is right_is alike in
      let count_l = side_many one lefts (over left h s) keeps_l in
      let count_r = side_many two rights (over right h s) keeps_r in
      let bytes_l = side_bytes one lefts (over left h s) keeps_l in
      let bytes_r = side_bytes two rights (over right h s) keeps_r in
      below_few left.page_blocks 273 546 now refl left right l1 r1 h h1 s s1 same sized len some is rows heavy (shares 16 keeps_l.rows) (shares 16 keeps_r.rows)
      (few_stay left.page_blocks 273 (shares 16 keeps_l.rows) (over left h s) (over l1 h1 s1) still_l len (few_kept laws t left.page_blocks one lefts left h s own.left_shaped (sized_front left.page_blocks left.streams right.streams h s sized) keeps_l sixteen))
      (few_stay left.page_blocks 273 (shares 16 keeps_r.rows) (over right h s) (over r1 h1 s1) still_r len (few_kept laws t left.page_blocks two rights right h s own.right_shaped (sized_behind left.page_blocks left.streams right.streams h s sized) keeps_r also))
      (omega (arith, count_l, count_r, many)) (omega (arith, bytes_l, bytes_r, light)) e full

-- what want of slots tells where rows were fed, and may be more now
abbrev pub IsBelowFed : Operator → Holdings → Signs → (List (List Value) → List (List Value)) → (List (List Value) → List (List Value)) → OpErr → Type 0
IsBelowFed op h signs left right e =
    (start : Option (List Entry)) (lefts rights : List (List Value)) → Keeps start lefts rights op h signs → IsWantBelowOf (slots_for op h (left lefts) (right rights)) (slots_in (over_both op.left op.right h signs)) e

-- one row more is no fewer rows, and no fewer bytes
pub more_fed : (fed : List (List Value)) (row : List Value) → (length fed ≤ length (fed ++ row ∷ [])) × (bytes_of fed ≤ bytes_of (fed ++ row ∷ []))
more_fed fed row =
    let long : length (fed ++ row ∷ []) ≡ length fed + 1 = length-append fed (row ∷ []) in
    let heavy : bytes_of (fed ++ row ∷ []) ≡ bytes_of fed + length (row_bytes row) = sum_by_push (λ r. length (row_bytes r)) fed row in
    (omega (arith, long), omega (arith, heavy))

pub some_len : (blocks len : ℕ) → IsBlockCount blocks → 64 ≤ len → 0 < blocks * len
some_len blocks len is least =
    let some = some_blocks blocks is in
    let wide : 1 * len ≤ blocks * len = mul-le-mul_right len some in
    omega (arith, wide, least)

-- ---- once all pages rest

module _ (c : ClientToken) (shape : JoinShape) (left right l1 r1 : Stack) (h h1 : Holdings) (s s1 : Signs) (start : Option (List Entry)) (lefts rights : List (List Value)) (rested : KeepsRested start shape lefts rights (both l1 r1 h1 s1)) (sixteen : length l1.streams ≡ 16) (also : length r1.streams ≡ 16) where
  rested_count : rows_weigh (λ _. 1) (both l1 r1 h1 s1) rested.left.rows rested.right.rows ≡ length lefts + length rights
  rested_count =
      let one = sum_ones (shares (length l1.streams) rested.left.rows) in
      let two = sum_ones (shares (length r1.streams) rested.right.rows) in
      let left_is = ap (λ (n : ℕ). length (shares n rested.left.rows)) sixteen in
      let right_is = ap (λ (n : ℕ). length (shares n rested.right.rows)) also in
      let left_many = side_many (left_side shape) lefts (over l1 h1 s1) rested.left in
      let right_many = side_many (right_side shape) rights (over r1 h1 s1) rested.right in
      omega (arith, one, two, left_is, right_is, left_many, right_many)

  rested_bytes : rows_weigh length (both l1 r1 h1 s1) rested.left.rows rested.right.rows ≡ bytes_of lefts + bytes_of rights
  rested_bytes =
      let one = sum_lengths (shares (length l1.streams) rested.left.rows) in
      let two = sum_lengths (shares (length r1.streams) rested.right.rows) in
      let left_is = ap (λ (n : ℕ). length (concat (shares n rested.left.rows))) sixteen in
      let right_is = ap (λ (n : ℕ). length (concat (shares n rested.right.rows))) also in
      let left_heavy = side_bytes (left_side shape) lefts (over l1 h1 s1) rested.left in
      let right_heavy = side_bytes (right_side shape) rights (over r1 h1 s1) rested.right in
      omega (arith, one, two, left_is, right_is, left_heavy, right_heavy)

  -- the rows are those that were fed
  pub by_rested : l1.page_blocks ≡ left.page_blocks → h1.block_len ≡ h.block_len → slots_by (both l1 r1 h1 s1) rested.left.rows rested.right.rows ≡ slots_for (operator c shape left right) h lefts rights
  by_rested blocks len =
      let most : ℕ → ℕ → ℕ = λ count heavy. (most_pages (length_of left.page_blocks h) 546 count heavy + 1) * left.page_blocks in
      slots_as (both left right h s) (both l1 r1 h1 s1) (rows_weigh (λ _. 1) (both l1 r1 h1 s1) rested.left.rows rested.right.rows) (rows_weigh length (both l1 r1 h1 s1) rested.left.rows rested.right.rows) blocks len
      ∙ ap (λ (n : ℕ). most n (rows_weigh length (both l1 r1 h1 s1) rested.left.rows rested.right.rows)) rested_count ∙ ap (most (length lefts + length rights)) rested_bytes
