-- The pairs of the top partitions were handed on, and these went.
use Rattle.std.proofs.Common.{◌≡◌, ◌∙◌, ℕ, ◌+◌, ◌*◌, ◌≤◌, List, [], ◌∷◌, ◌++◌, length, length-append, take, ◌<◌, Option, Some, None, Result, Ok, Err, IfErr, IfSome, ap, sym, subst, arith}
use Rattle.std.specs.Prelude.{slice_get, sum_by}
use Rattle.std.proofs.lemmas.List.Sums.{sum_by-append, sum_by-cons}
use Rattle.row_codec.specs.declared.values.Value.{Value}
use Rattle.store_api.specs.Conditions.{IsBlockCount}
use Rattle.store_api.specs.declared.op_err.OpErr.{OpErr}
use Rattle.store_api.specs.declared.op_err.OpErr.TheVariants.{Pool, Sink}
use Rattle.store_api.specs.declared.shapes.JoinShape.{JoinShape}
use Rattle.store_api.specs.Emitters.{CameOf, HasClient}
use Rattle.store_api.specs.Holdings.{Holdings, LiveLoan, account_of, length_of, unused_of}
use Rattle.store_api.specs.Signs.{Grows, Signs}
use Rattle.store_api.specs.Tokens.{ClientToken, PageToken}
use Rattle.store_api.proofs.Answered.{answered_after}
use Rattle.tuple_stream.specs.Families.{AllClosed, AllSized, ShowAll, family, held_in, pages_in, slots_in}
use Rattle.tuple_stream.specs.FamilyCalls.{AllWhole, shares}
use Rattle.tuple_stream.specs.Spending.{Empties}
use Rattle.tuple_stream.specs.Steps.{Scene, scene}
use Rattle.tuple_stream.specs.Streamed.{Streamed, len_in}
use Rattle.tuple_stream.specs.Streams.{HasRows, IsShaped}
use Rattle.tuple_stream.specs.Touches.{held}
use Rattle.tuple_stream.proofs.Empty.{empty}
use Rattle.tuple_stream.proofs.PageLists.{at_end}
use Rattle.partition_stack.specs.Emitting.{IsBeside, LeavesBeside, StandsStill, StaysEmitter, WentOn}
use Rattle.partition_stack.specs.Laws.{AllFewInAll}
use Rattle.partition_stack.specs.Leaving.{HasNoLoan, LeavesOthers}
use Rattle.partition_stack.specs.Sides.{OwnBoth}
use Rattle.partition_stack.specs.Slots.{IsWantOf, KeepSlots, SameSlots, most_pages, with_more}
use Rattle.partition_stack.specs.Stack.{IsStack, Stack, over}
use Rattle.partition_stack.proofs.Emitters.{beside_then, left_beside}
use Rattle.partition_stack.proofs.Left.{leaves_both}
use Rattle.partition_stack.proofs.Sides.{own_turned}
use Rattle.partition_stack.proofs.Slots.{keep_own, keep_then, taken, times_all}
use Rattle.partition_stack.proofs.Stacking.{few_partitions}
use Rattle.std.proofs.Math.Nat.{mul-le-mul_right}
use Rattle.join_op.proofs.Crowding.{crowd_beside, want_beside}
use Rattle.join_op.specs.Chunks.{AreReadable, IsResting, ReadBoth}
use Rattle.join_op.specs.Joining.{HasPopped, HasRowsAt, IsBetween, ShowBoth, both, rows_weigh, slots_both, slots_by}
use Rattle.join_op.specs.Operator.{IsOperator, operator, over_both}
use Rattle.join_op.specs.Slots.{Crowds, IsFullOf, slots_of_two}
use Rattle.join_op.proofs.Spent.{whole_front}
use Rattle.join_op.proofs.BothRead.{read_leaves, read_left_shows, read_loans, read_own, read_right_shows}
use Rattle.join_op.proofs.BothSlots.{sized_behind, sized_both, sized_front, slots_turned}
use Rattle.join_op.proofs.Calls.{all_rest}
use Rattle.join_op.proofs.Going.{closed_front, gone_leaves, gone_loans, gone_other, gone_own, gone_shows, gone_slots}
use Rattle.join_op.proofs.Enough.{all_sized, few_stay, few_whole, pages_rows, slots_few}
use Rattle.join_op.proofs.PairedSlots.{read_slots, sized_late, want_read}

pub came_till : {X : Type 0} (r : Result X OpErr) (f g : ℕ) (a b k : Signs) → Grows b k → IfErr r (CameOf f g a b) → IfErr r (CameOf f g a k)
came_till (Ok x) f g a b k grows came = tt
came_till (Err (Pool e)) f g a b k grows came = answered_after e a b k came grows
came_till (Err Sink) f g a b k grows came = came

last_at : (at : ℕ) (all front : List Streamed) (x : Streamed) → all ≡ front ++ x ∷ [] → length all ≡ at + 1 → length front ≡ at
last_at at all front x split top =
    let long : length (front ++ x ∷ []) ≡ length front + 1 = length-append front (x ∷ []) in
    let same = ap length split in
    omega (arith, long, same, top)

pub none_after : (u : ℕ) (x y : Holdings) → y.loans ≡ x.loans → (z : Holdings) → z.loans ≡ y.loans → HasNoLoan u x → HasNoLoan u z
none_after u x y one z two none q loan lives = none q loan (sym (ap (λ (f : ℕ → Option LiveLoan). f q) (two ∙ one)) ∙ lives)

-- a stream of the same pages stands for the top one
pages_late : (ss : List Streamed) (x now : Streamed) → now.pages ≡ x.pages → sum_by (λ s. length s.pages) (ss ++ now ∷ []) ≡ sum_by (λ s. length s.pages) (ss ++ x ∷ [])
pages_late ss x now same =
    let w : Streamed → ℕ = λ s. length s.pages in
    let late : sum_by w (ss ++ now ∷ []) ≡ sum_by w ss + sum_by w (now ∷ []) = sum_by-append w ss (now ∷ []) in
    let was : sum_by w (ss ++ x ∷ []) ≡ sum_by w ss + sum_by w (x ∷ []) = sum_by-append w ss (x ∷ []) in
    let one : sum_by w (now ∷ []) ≡ w now + 0 = sum_by-cons w now [] in
    let two : sum_by w (x ∷ []) ≡ w x + 0 = sum_by-cons w x [] in
    let pages : w now ≡ w x = ap (λ (ps : List PageToken). length ps) same in
    omega (arith, late, was, one, two, pages)

module _ (c : ClientToken) (shape : JoinShape) (at : ℕ) (left right ql qr : Stack) (l r : Streamed) (h : Holdings) (s : Signs)
    (op : IsOperator (operator c shape left right) h s) (between : IsBetween (both left right h s)) (top : length left.streams ≡ at + 1)
    (split_l : left.streams ≡ ql.streams ++ l ∷ []) (split_r : right.streams ≡ qr.streams ++ r ∷ []) where
  -- all that the client has, with the top ones apart
  own : OwnBoth c.tracker 0 (ql.streams ++ l ∷ []) (qr.streams ++ r ∷ []) h s
  own = subst (λ (ss : List Streamed). OwnBoth c.tracker 0 (ql.streams ++ l ∷ []) ss h s) split_r (subst (λ (ss : List Streamed). OwnBoth c.tracker 0 ss right.streams h s) split_l op.owns)

  left_low : length ql.streams ≡ at
  left_low = last_at at left.streams ql.streams l split_l top

  right_low : length qr.streams ≡ at
  right_low = last_at at right.streams qr.streams r split_r (between.many ∙ top)

  pub left_there : slice_get left.streams at ≡ Some l
  left_there = ap (λ (ss : List Streamed). slice_get ss at) split_l ∙ ap (slice_get (ql.streams ++ l ∷ [])) (sym left_low) ∙ at_end ql.streams l

  right_there : slice_get right.streams at ≡ Some r
  right_there = ap (λ (ss : List Streamed). slice_get ss at) split_r ∙ ap (slice_get (qr.streams ++ r ∷ [])) (sym right_low) ∙ at_end qr.streams r

  pub left_rests : HasRowsAt at left → IsResting l
  left_rests some = record { some = subst (λ (o : Option Streamed). IfSome o (λ x. 0 < x.count)) left_there some; closed = between.left_closed at l left_there }

  pub right_rests : HasRowsAt at right → IsResting r
  right_rests some = record { some = subst (λ (o : Option Streamed). IfSome o (λ x. 0 < x.count)) right_there some; closed = between.right_closed at r right_there }

  pub left_rows : (lefts rights : ℕ → List (List ℕ)) → ShowBoth lefts rights (both left right h s) → HasRows (lefts at) l h
  left_rows lefts rights shows = shows.left at l left_there

  pub right_rows : (lefts rights : ℕ → List (List ℕ)) → ShowBoth lefts rights (both left right h s) → HasRows (rights at) r h
  right_rows lefts rights shows = shows.right at r right_there

  pub readable : IsStack left → IsStack right → AreReadable c l r h
  readable left_is right_is =
      record {
        client = op.client;
        left_shape = own.left_shaped.each (length ql.streams) l (at_end ql.streams l);
        right_shape = own.right_shaped.each (length qr.streams) r (at_end qr.streams r);
        apart = own.apart (length ql.streams) (length qr.streams) l r (at_end ql.streams l) (at_end qr.streams r);
        alike = right_is.each at r right_there ∙ op.alike ∙ sym (left_is.each at l left_there);
        room =
            let none : held_in (over left h s) ≡ 0 = all_rest left.streams h (λ i x there inside. between.left_closed i x there) in
            let none_right : held_in (over right h s) ≡ 0 = all_rest right.streams h (λ i x there inside. between.right_closed i x there) in
            let even = op.owns.even in
            let least = op.least in
            let len : len_in l h ≡ length_of left.page_blocks h = ap (λ (n : ℕ). n * h.block_len) (left_is.each at l left_there) in
            enough (len_in l h) (length_of left.page_blocks h) (unused_of c.tracker h) (held_in (over left h s)) (held_in (over right h s)) (held l h) (held r h) (account_of c.tracker h).reservation none none_right even least len;
      }
    where
      enough : (n len u a b x y v : ℕ) → a ≡ 0 → b ≡ 0 → u + a + b + 0 ≡ v → 20 * len ≤ v → n ≡ len → 2 * n ≤ u + x + y
      enough n len u a b x y v none none_right even least same = omega (arith, none, none_right, even, least, same)

  -- the top ones stand behind those below them
  both_apart : slots_both (both left right h s) ≡ slots_in (family ((ql.streams ++ l ∷ []) ++ (qr.streams ++ r ∷ [])) h s)
  both_apart = ap (λ (ss : List Streamed). slots_in (family (ss ++ right.streams) h s)) split_l ∙ ap (λ (ss : List Streamed). slots_in (family ((ql.streams ++ l ∷ []) ++ ss) h s)) split_r

  module _ (client : Option ℕ) (l1 r1 : Streamed) (h1 : Holdings) (s1 : Signs) (read : ReadBoth c.tracker client l l1 r r1 h h1) (grows : Grows s s1) (b2 : Scene)
      (drop_l : Empties c.tracker (scene l1 h1 s1) b2) (gone_l : b2.stream ≡ empty l1.page_blocks) where
    own_read : OwnBoth c.tracker 0 (ql.streams ++ l1 ∷ []) (qr.streams ++ r1 ∷ []) h1 s1
    own_read = read_own c.tracker client ql.streams qr.streams l r l1 r1 h h1 s s1 own read

    own_half : OwnBoth c.tracker 0 (qr.streams ++ r1 ∷ []) ql.streams b2.held b2.signs
    own_half = own_turned c.tracker 0 ql.streams (qr.streams ++ r1 ∷ []) b2.held b2.signs (gone_own c.tracker ql.streams l1 (qr.streams ++ r1 ∷ []) h1 s1 b2 own_read drop_l gone_l)

    leaves_half : LeavesOthers c.tracker h1 b2.held s1 b2.signs
    leaves_half = gone_leaves c.tracker ql.streams l1 (qr.streams ++ r1 ∷ []) h1 s1 b2 own_read drop_l gone_l

    pub right_still : IsShaped c.tracker r1 b2.held
    right_still = own_half.left_shaped.each (length qr.streams) r1 (at_end qr.streams r1)

    -- what stopped the calls that read them, where the emitter has no client
    pub want_paired : (n0 n1 : ℕ) → KeepSlots client (slots_of_two l r h) (slots_of_two l1 r1 h1) n0 n1 → client ≡ None → IsStack left → IsStack right → (e : OpErr) → IsFullOf l.page_blocks h1.free_slots e → IsWantOf left.page_blocks (slots_both (both left right h s)) e
    want_paired n0 n1 keep none left_is right_is e full =
        subst (λ (o : Option ℕ). IsWantOf left.page_blocks o e) (sym both_apart)
        (want_read c.tracker client ql.streams qr.streams l r l1 r1 h h1 s s1 own read n0 n1 keep left.page_blocks none
        (subst (λ (ss : List Streamed). AllSized left.page_blocks (family ss h s)) split_l left_is.each)
        (subst (λ (ss : List Streamed). AllSized left.page_blocks (family ss h s)) split_r (λ i x at. right_is.each i x at ∙ op.alike))
        e (subst (λ (n : ℕ). IsFullOf n h1.free_slots e) (left_is.each at l left_there) full))

    -- the pages of both sides have their length still, and their slots
    sized_paired : IsStack left → IsStack right → AllSized left.page_blocks (family ((ql.streams ++ l1 ∷ []) ++ (qr.streams ++ r1 ∷ [])) h1 s1)
    sized_paired left_is right_is =
        sized_both left.page_blocks (ql.streams ++ l1 ∷ []) (qr.streams ++ r1 ∷ []) h1 s1
        (sized_late left.page_blocks ql.streams l l1 h h1 s s1 (ap (λ (x : Streamed). x.page_blocks) read.left_same) (subst (λ (ss : List Streamed). AllSized left.page_blocks (family ss h s)) split_l left_is.each))
        (sized_late left.page_blocks qr.streams r r1 h h1 s s1 (ap (λ (x : Streamed). x.page_blocks) read.right_same) (subst (λ (ss : List Streamed). AllSized left.page_blocks (family ss h s)) split_r (λ i x there. right_is.each i x there ∙ op.alike)))

    total_paired : (n0 n1 : ℕ) → KeepSlots client (slots_of_two l r h) (slots_of_two l1 r1 h1) n0 n1 → with_more n1 (slots_in (family ((ql.streams ++ l1 ∷ []) ++ (qr.streams ++ r1 ∷ [])) h1 s1)) ≡ with_more n0 (slots_both (both left right h s))
    total_paired n0 n1 keep = (read_slots c.tracker client ql.streams qr.streams l r l1 r1 h h1 s s1 own read n0 n1 keep).sum ∙ ap (with_more n0) (sym both_apart)

    -- what is wanting, where the emitter's pages have as many blocks
    pub want_beside_paired : (n0 n1 : ℕ) → KeepSlots client (slots_of_two l r h) (slots_of_two l1 r1 h1) n0 n1 → IsStack left → IsStack right → (e : OpErr) → IsWantOf l.page_blocks (with_more n1 h1.free_slots) e → IsWantOf left.page_blocks (with_more n0 (slots_both (both left right h s))) e
    want_beside_paired n0 n1 keep left_is right_is e want =
        let streams : List Streamed = (ql.streams ++ l1 ∷ []) ++ (qr.streams ++ r1 ∷ []) in
        let times = times_all left.page_blocks streams h1 (sized_paired left_is right_is) in
        subst (λ (o : Option ℕ). IsWantOf left.page_blocks o e) (total_paired n0 n1 keep)
        (want_beside left.page_blocks times.0 (taken streams h1) n1 h1.free_slots e times.1 (subst (λ (n : ℕ). IsWantOf n (with_more n1 h1.free_slots) e) (left_is.each at l left_there) want))

    -- and where there are few rows
    pub crowd_paired : (laws : AllFewInAll) (n0 n1 : ℕ) → KeepSlots client (slots_of_two l r h) (slots_of_two l1 r1 h1) n0 n1 → IsStack left → IsStack right → 0 < length_of left.page_blocks h → (lefts rights : ℕ → List (List ℕ)) → ShowBoth lefts rights (both left right h s)
        → (slots_for : List (List Value) → ℕ) (e : OpErr) (rows : List (List Value)) → Crowds slots_for l.page_blocks (with_more n1 h1.free_slots) e rows → Crowds slots_for (slots_by (both left right h s) lefts rights) (with_more n0 (slots_both (both left right h s))) e rows
    crowd_paired laws n0 n1 keep left_is right_is some lefts rights shows slots_for e rows crowds =
        let blocks : ℕ = left.page_blocks in
        let streams : List Streamed = (ql.streams ++ l1 ∷ []) ++ (qr.streams ++ r1 ∷ []) in
        let left_now : Stack = record left { streams = ql.streams ++ l1 ∷ [] } in
        let right_now : Stack = record right { streams = qr.streams ++ r1 ∷ [] } in
        let most : ℕ = most_pages (length_of blocks h) 546 (rows_weigh (λ _. 1) (both left right h s) lefts rights) (rows_weigh length (both left right h s) lefts rights) in
        let sized : AllSized blocks (over_both left right h s) = all_sized left right h s left_is right_is op.alike in
        let still_l : pages_in (over left_now h1 s1) ≡ pages_in (over left h s) = pages_late ql.streams l l1 (ap (λ (x : Streamed). x.pages) read.left_same) ∙ ap (λ (ss : List Streamed). sum_by (λ x. length x.pages) ss) (sym split_l) in
        let still_r : pages_in (over right_now h1 s1) ≡ pages_in (over right h s) = pages_late qr.streams r r1 (ap (λ (x : Streamed). x.pages) read.right_same) ∙ ap (λ (ss : List Streamed). sum_by (λ x. length x.pages) ss) (sym split_r) in
        let pages : pages_in (over_both left_now right_now h1 s1) ≤ most =
        pages_rows left right left_now right_now h h1 s s1 read.query.block_len some lefts rights
        (few_stay blocks 273 (shares (length left.streams) lefts) (over left h s) (over left_now h1 s1) still_l read.query.block_len
        (few_whole laws c.tracker blocks lefts (over left h s) op.owns.left_shaped (sized_front blocks left.streams right.streams h s sized) shows.left (few_partitions left left_is) shows.left_whole))
        (few_stay blocks 273 (shares (length right.streams) rights) (over right h s) (over right_now h1 s1) still_r read.query.block_len
        (few_whole laws c.tracker blocks rights (over right h s) op.owns.right_shaped (sized_behind blocks left.streams right.streams h s sized) shows.right (few_partitions right right_is) shows.right_whole)) in
        let slots : taken streams h1 ≤ pages_in (over_both left_now right_now h1 s1) * blocks = slots_few blocks streams h1 (sized_paired left_is right_is) in
        let wide : pages_in (over_both left_now right_now h1 s1) * blocks ≤ most * blocks = mul-le-mul_right blocks pages in
        let low : taken streams h1 ≤ most * blocks = omega (arith, slots, wide) in
        subst (λ (o : Option ℕ). Crowds slots_for ((most + 1) * blocks) o e rows) (total_paired n0 n1 keep)
        (crowd_beside slots_for blocks most (taken streams h1) n1 h1.free_slots e low rows (subst (λ (n : ℕ). Crowds slots_for n (with_more n1 h1.free_slots) e rows) (left_is.each at l left_there) crowds))

    module _ (b3 : Scene) (drop_r : Empties c.tracker (scene r1 b2.held b2.signs) b3) (gone_r : b3.stream ≡ empty r1.page_blocks) (blocks_l : ql.page_blocks ≡ left.page_blocks) (blocks_r : qr.page_blocks ≡ right.page_blocks)
        (levels_l : ql.levels ≡ take (length ql.streams) left.levels) (levels_r : qr.levels ≡ take (length qr.streams) right.levels) where
      -- what the two that went leave
      pub leaves_gone : LeavesOthers c.tracker h1 b3.held s1 b3.signs
      leaves_gone = leaves_both c.tracker h1 b2.held b3.held s1 b2.signs b3.signs leaves_half (gone_leaves c.tracker qr.streams r1 ql.streams b2.held b2.signs b3 own_half drop_r gone_r)

      pub leaves_paired : LeavesBeside c.tracker client h b3.held s b3.signs
      leaves_paired =
          beside_then c.tracker client h h1 b3.held s s1 b3.signs (read_leaves c.tracker client ql.streams qr.streams l r l1 r1 h h1 s s1 own read grows)
          (left_beside c.tracker client h1 b3.held s1 b3.signs leaves_gone)

      own_gone : OwnBoth c.tracker 0 ql.streams qr.streams b3.held b3.signs
      own_gone = own_turned c.tracker 0 qr.streams ql.streams b3.held b3.signs (gone_own c.tracker qr.streams r1 ql.streams b2.held b2.signs b3 own_half drop_r gone_r)

      pub op_paired : IsOperator (operator c shape ql qr) b3.held b3.signs
      op_paired =
          record {
            shape = op.shape;
            sized = subst IsBlockCount (sym blocks_l) op.sized;
            alike = blocks_r ∙ op.alike ∙ sym blocks_l;
            client = own_gone.lives;
            least =
                let len : length_of ql.page_blocks b3.held ≡ length_of left.page_blocks h = ap (λ (n : ℕ). n * b3.held.block_len) blocks_l ∙ ap (λ (n : ℕ). left.page_blocks * n) leaves_paired.block_len in
                let least = op.least in
                let kept = leaves_paired.reserved in
                omega (arith, kept, least, ap (λ (n : ℕ). 20 * n) len);
            owns = own_gone;
            loans =
                none_after c.tracker h1 b2.held (gone_loans c.tracker ql.streams l1 (qr.streams ++ r1 ∷ []) h1 s1 b2 own_read drop_l gone_l) b3.held (gone_loans c.tracker qr.streams r1 ql.streams b2.held b2.signs b3 own_half drop_r gone_r)
                (read_loans c.tracker client ql.streams qr.streams l r l1 r1 h h1 s s1 own read op.loans);
          }

      pub popped : HasPopped at left ql × IsBetween (both ql qr b3.held b3.signs)
      popped = (
        record { many = left_low; levels = levels_l ∙ ap (λ (n : ℕ). take n left.levels) left_low },
        record {
          levels = levels_r ∙ ap (λ (n : ℕ). take n right.levels) right_low ∙ ap (take at) between.levels ∙ sym (levels_l ∙ ap (λ (n : ℕ). take n left.levels) left_low);
          many = right_low ∙ sym left_low;
          left_closed = closed_front ql.streams l h b3.held s b3.signs (subst (λ (ss : List Streamed). AllClosed (family ss h s)) split_l between.left_closed);
          right_closed = closed_front qr.streams r h b3.held s b3.signs (subst (λ (ss : List Streamed). AllClosed (family ss h s)) split_r between.right_closed);
        },
      )

      pub slots_paired : (n0 n1 n3 : ℕ) → KeepSlots client (slots_of_two l r h) (slots_of_two l1 r1 h1) n0 n1 → n3 ≡ n1 → KeepSlots client (slots_both (both left right h s)) (slots_both (both ql qr b3.held b3.signs)) n0 n3
      slots_paired n0 n1 n3 keep same =
          let first : SameSlots 0 (family ((ql.streams ++ l1 ∷ []) ++ (qr.streams ++ r1 ∷ [])) h1 s1) (family (ql.streams ++ (qr.streams ++ r1 ∷ [])) b2.held b2.signs) = gone_slots c.tracker ql.streams l1 (qr.streams ++ r1 ∷ []) h1 s1 b2 own_read drop_l gone_l 0 in
          let next : SameSlots 0 (family (ql.streams ++ (qr.streams ++ r1 ∷ [])) b2.held b2.signs) (family (ql.streams ++ qr.streams) b3.held b3.signs) =
          slots_turned 0 (qr.streams ++ r1 ∷ []) ql.streams qr.streams ql.streams b2.held b3.held b2.signs b3.signs (gone_slots c.tracker qr.streams r1 ql.streams b2.held b2.signs b3 own_half drop_r gone_r 0) in
          subst (λ (o : Option ℕ). KeepSlots client o (slots_both (both ql qr b3.held b3.signs)) n0 n3) (sym both_apart)
          (keep_then client (slots_in (family ((ql.streams ++ l ∷ []) ++ (qr.streams ++ r ∷ [])) h s)) (slots_in (family ((ql.streams ++ l1 ∷ []) ++ (qr.streams ++ r1 ∷ [])) h1 s1)) (slots_both (both ql qr b3.held b3.signs)) n0 n1 n3
          (read_slots c.tracker client ql.streams qr.streams l r l1 r1 h h1 s s1 own read n0 n1 keep)
          (keep_own client (slots_in (family ((ql.streams ++ l1 ∷ []) ++ (qr.streams ++ r1 ∷ [])) h1 s1)) (slots_both (both ql qr b3.held b3.signs)) n1 n3 (next.sum ∙ first.sum) same))

      pub shows_paired : (lefts rights : ℕ → List (List ℕ)) → ShowBoth lefts rights (both left right h s) → ShowBoth lefts rights (both ql qr b3.held b3.signs)
      shows_paired lefts rights shows =
          let one : ShowAll lefts (family (ql.streams ++ l1 ∷ []) h1 s1) = read_left_shows c.tracker client ql.streams qr.streams l r l1 r1 h h1 s s1 own read shows.told lefts (subst (λ (ss : List Streamed). ShowAll lefts (family ss h s)) split_l shows.left) in
          let two : ShowAll rights (family (qr.streams ++ r1 ∷ []) h1 s1) = read_right_shows c.tracker client ql.streams qr.streams l r l1 r1 h h1 s s1 own read shows.told rights (subst (λ (ss : List Streamed). ShowAll rights (family ss h s)) split_r shows.right) in
          record {
            told = leaves_paired.told ∙ shows.told;
            left = gone_other c.tracker qr.streams r1 ql.streams b2.held b2.signs b3 own_half drop_r gone_r lefts (gone_shows c.tracker ql.streams l1 (qr.streams ++ r1 ∷ []) h1 s1 b2 own_read drop_l gone_l lefts one);
            right = gone_shows c.tracker qr.streams r1 ql.streams b2.held b2.signs b3 own_half drop_r gone_r rights (gone_other c.tracker ql.streams l1 (qr.streams ++ r1 ∷ []) h1 s1 b2 own_read drop_l gone_l rights two);
            left_whole = whole_front ql.streams l h b3.held s b3.signs (subst (λ (ss : List Streamed). AllWhole (family ss h s)) split_l shows.left_whole);
            right_whole = whole_front qr.streams r h b3.held s b3.signs (subst (λ (ss : List Streamed). AllWhole (family ss h s)) split_r shows.right_whole);
          }

-- an emitter that stayed and took rows stands
pub stands_read : {m n : ℕ} (admits_old admits : List Value → Type 0) (client_old client : Option ℕ) (faults_old faults : ℕ) (was now : List (List Value) → Type 0) (new : Holdings) (before after : Signs) → StaysEmitter admits_old admits client_old client faults_old faults m n new before after → WentOn was now → StandsStill admits_old admits client_old client faults_old faults was now new
stands_read admits_old admits client_old client faults_old faults was now new before after stays went =
    record { admits_same = stays.admits_same; client_same = stays.client_same; lives = stays.lives; never_falls = stays.never_falls; took = went }

pub beside_read : {m n : ℕ} (t : ℕ) (admits_old admits : List Value → Type 0) (client_old client : Option ℕ) (faults_old faults : ℕ) (old new : Holdings) (before after : Signs) → IsBeside t client_old old → StaysEmitter admits_old admits client_old client faults_old faults m n new before after → IsBeside t client new
beside_read t admits_old admits client_old client faults_old faults old new before after beside stays =
    record {
      apart = λ same. beside.apart (sym stays.client_same ∙ same);
      lives = subst (λ (o : Option ℕ). HasClient o new) (sym stays.client_same) stays.lives;
    }
