-- Calls of the partitions of one side, one after the other, while the other side rests.
use Rattle.std.proofs.Common.{◌≡◌, ◌∙◌, inl, inr, refl, ℕ, zero, suc, Option, Some, None, IsSome, IfSome, ◌∷◌, ◌+◌, ◌-◌, ◌*◌, ◌<◌, ◌≤◌, List, [], ◌++◌, length, replicate, ap, sym, subst, arith, length-append}
use Rattle.std.specs.Prelude.{slice_get}
use Rattle.std.proofs.lemmas.Option.{none-some}
use Rattle.store_api.specs.Holdings.{Holdings, account_of, length_of, unused_of}
use Rattle.store_api.specs.Signs.{Signs}
use Rattle.store_api.specs.Tokens.{ClientToken}
use Rattle.tuple_stream.specs.Streamed.{Streamed}
use Rattle.tuple_stream.specs.Families.{AllClosed, held_in}
use Rattle.partition_stack.specs.Changes.{ChangesAt}
use Rattle.partition_stack.specs.Sides.{OwnBoth}
use Rattle.partition_stack.specs.Stack.{HasRoomFrom, IsStack, Stack, divided, empty, over}
use Rattle.partition_stack.proofs.Coming.{all_shaped, none_held, none_after}
use Rattle.partition_stack.proofs.Left.{leaves_both}
use Rattle.partition_stack.proofs.ListPlaces.{front_or_behind, in_front, of_replicate}
use Rattle.std.proofs.lemmas.List.Sums.{sum_by-append}
use Rattle.std.specs.List.{sum_by}
use Rattle.tuple_stream.specs.Touches.{held}
use Rattle.partition_stack.proofs.Slots.{slots_then}
use Rattle.join_op.specs.Beside.{CallsBeside, MayCall}
use Rattle.join_op.specs.Operator.{over_both}
use Rattle.join_op.specs.Dividing.{HasCalled, IsFan}
use Rattle.join_op.specs.Joining.{HasRowsAt}
use Rattle.join_op.proofs.BothSlots.{slots_divided}
use Rattle.join_op.proofs.Calls.{all_rest, calls_none}

pub room_of_fan : (c : ClientToken) (level at : ℕ) (p other : Stack) (h : Holdings) (signs : Signs) → MayCall c p other h signs → IsFan level at p → HasRoomFrom c.tracker at p h signs
room_of_fan c level at p other h signs may fan =
    record {
      rests = fan.rests;
      room =
          let even = may.own.even in
          let none : held_in (over other h signs) ≡ 0 = all_rest other.streams h may.rests in
          let least = may.least in
          let len : ℕ = length_of p.page_blocks h in
          let sixteen = fan.sixteen in
          let many : length p.streams - at ≡ 17 = omega (arith, sixteen) in
          let all : (length p.streams - at) * len ≡ 17 * len = ap (λ (n : ℕ). n * len) many in
          enough len (length p.streams - at) (unused_of c.tracker h) (held_in (over p h signs)) (held_in (over other h signs)) (account_of c.tracker h).reservation all none even least;
    }
  where
    enough : (len n a b d r : ℕ) → n * len ≡ 17 * len → d ≡ 0 → a + b + d + 0 ≡ r → 20 * len ≤ r → n * len ≤ a + b
    enough len n a b d r all none even least = omega (arith, all, none, even, least)

pub fan_kept : (level at k : ℕ) (p q : Stack) → IsFan level at p → at ≤ k → ChangesAt k p q → length q.streams ≡ length p.streams → IsFan level at q
fan_kept level at k p q fan high changes long =
    record {
      deep = fan.deep;
      low = fan.low;
      sixteen = long ∙ fan.sixteen;
      rests = λ i s there below. fan.rests i s (sym (changes.others i (λ same. omega (arith, same, below, high))) ∙ there) below;
    }

pub called_then : (t : ℕ) (p q r other : Stack) (h0 h1 h2 : Holdings) (s0 s1 s2 : Signs) → HasCalled t p q other h0 h1 s0 s1 → HasCalled t q r other h1 h2 s1 s2 → HasCalled t p r other h0 h2 s0 s2
called_then t p q r other h0 h1 h2 s0 s1 s2 one two =
    record {
      own = two.own;
      shows = λ rows shows. two.shows rows (one.shows rows shows);
      leaves = leaves_both t h0 h1 h2 s0 s1 s2 one.leaves two.leaves;
      loans = two.loans ∙ one.loans;
      lives = λ c is live. two.lives c is (one.lives c is live);
      blocks = two.blocks ∙ one.blocks;
      slots = slots_then p.page_blocks q.page_blocks (over_both p other h0 s0) (over_both q other h1 s1) (over_both r other h2 s2) one.blocks one.slots two.slots;
    }

pub beside_then : (t : ℕ) (p q r other : Stack) (h0 h1 h2 : Holdings) (s0 s1 s2 : Signs) → CallsBeside t p q other h0 h1 s0 s1 → CallsBeside t q r other h1 h2 s1 s2 → CallsBeside t p r other h0 h2 s0 s2
beside_then t p q r other h0 h1 h2 s0 s1 s2 one two =
    record {
      own = two.own;
      shows = λ rows shows. two.shows rows (one.shows rows shows);
      weighs = λ w. two.weighs w ∙ one.weighs w;
      leaves = leaves_both t h0 h1 h2 s0 s1 s2 one.leaves two.leaves;
      loans = two.loans ∙ one.loans;
      lives = λ c is live. two.lives c is (one.lives c is live);
      blocks = two.blocks ∙ one.blocks;
      levels = two.levels ∙ one.levels;
      many = two.many ∙ one.many;
      slots = slots_then p.page_blocks q.page_blocks (over_both p other h0 s0) (over_both q other h1 s1) (over_both r other h2 s2) one.blocks one.slots two.slots;
    }

pub may_after : (c : ClientToken) (p now other : Stack) (old new : Holdings) (before after : Signs) → MayCall c p other old before → HasCalled c.tracker p now other old new before after → MayCall c now other new after
may_after c p now other old new before after may called =
    record {
      client = called.lives c refl may.client;
      own = called.own;
      rests = may.rests;
      least =
          let len : length_of now.page_blocks new ≡ length_of p.page_blocks old = ap (λ (n : ℕ). n * new.block_len) called.blocks ∙ ap (λ (n : ℕ). p.page_blocks * n) called.leaves.others.block_len in
          let least = may.least in
          let kept = called.leaves.reserved in
          omega (arith, kept, least, ap (λ (n : ℕ). 20 * n) len);
    }

-- ---- sixteen come

pub own_divided : (t at level : ℕ) (p : Stack) (other : List Streamed) (h : Holdings) (signs : Signs) → IsStack p → OwnBoth t 0 p.streams other h signs → OwnBoth t 0 (divided at level p).streams other h signs
own_divided t at level p other h signs is own =
    record {
      lives = own.lives;
      left_shaped = all_shaped t p.page_blocks 16 p.streams h signs is.sized own.left_shaped;
      right_shaped = own.right_shaped;
      apart = λ i j a b here there. elim (front_or_behind p.streams (replicate 16 (empty p.page_blocks)) i a here) [
        | inl front ↦ own.apart i j a b front there
        | inr behind ↦ none_after p.page_blocks a b (of_replicate 16 (empty p.page_blocks) (i - length p.streams) a behind.1)
      ];
      only = λ q page lives outside beside. own.only q page lives (λ i s at. outside i s (in_front p.streams (replicate 16 (empty p.page_blocks)) i s at)) beside;
      even =
          let all : sum_by (λ s. held s h) (p.streams ++ replicate 16 (empty p.page_blocks)) ≡ sum_by (λ s. held s h) p.streams + sum_by (λ s. held s h) (replicate 16 (empty p.page_blocks)) = sum_by-append (λ (s : Streamed). held s h) p.streams (replicate 16 (empty p.page_blocks)) in
          let none = none_held t p.page_blocks 16 p.streams h signs is.sized 16 in
          let even = own.even in
          omega (arith, all, none, even);
    }

pub may_divided : (c : ClientToken) (at level : ℕ) (p q other : Stack) (h : Holdings) (signs : Signs) → q ≡ divided at level p → IsStack p → MayCall c p other h signs → MayCall c q other h signs
may_divided c at level p q other h signs same is may =
    subst (λ (r : Stack). MayCall c r other h signs) (sym same) (record { client = may.client; own = own_divided c.tracker at level p other.streams h signs is may.own; rests = may.rests; least = may.least })

pub fan_divided : (level at : ℕ) (p : Stack) (h : Holdings) (signs : Signs) → length p.streams ≡ at + 1 → level < 16 → at < 272 → AllClosed (over p h signs) → IsFan level at (divided at level p)
fan_divided level at p h signs top deep low closed =
    record {
      deep = deep;
      low = low;
      sixteen = long_divided level at p top;
      rests = λ i s there below. elim (front_or_behind p.streams (replicate 16 (empty p.page_blocks)) i s there) [
        | inl front ↦ closed i s front
        | inr behind ↦ absurd (let far = behind.0 in omega (arith, far, below, top))
      ];
    }
  where
    long_divided : (level at : ℕ) (p : Stack) → length p.streams ≡ at + 1 → length (divided at level p).streams ≡ at + 17
    long_divided level at p top =
        let all : length (p.streams ++ replicate 16 (empty p.page_blocks)) ≡ length p.streams + 16 = length-append p.streams (replicate 16 (empty p.page_blocks)) in
        omega (arith, all, top)

pub closed_divided : (level at : ℕ) (p : Stack) (h : Holdings) (signs : Signs) → AllClosed (over p h signs) → AllClosed (over (divided at level p) h signs)
closed_divided level at p h signs closed = λ i s there. elim (front_or_behind p.streams (replicate 16 (empty p.page_blocks)) i s there) [
  | inl front ↦ closed i s front
  | inr behind ↦ ap (λ (r : Streamed). r.pinned) (of_replicate 16 (empty p.page_blocks) (i - length p.streams) s behind.1)
]

pub called_divided : (t at level : ℕ) (p other : Stack) (h : Holdings) (signs : Signs) → IsStack p → OwnBoth t 0 p.streams other.streams h signs → HasCalled t p (divided at level p) other h h signs signs
called_divided t at level p other h signs is own =
    record {
      own = own_divided t at level p other.streams h signs is own;
      shows = λ rows shows. shows;
      leaves = (calls_none t p other h signs own).leaves;
      loans = refl;
      lives = λ c is live. live;
      blocks = refl;
      slots = slots_divided at level p other h signs;
    }

none_is : (o : Option Streamed) → o ≡ None → IsSome o → ⊥
none_is None is some = cc
none_is (Some s) is some = none-some s (sym is)

there_is : (xs : List Streamed) (k : ℕ) → k < length xs → IsSome (slice_get xs k)
there_is [] k inside = absurd (omega (arith, inside))
there_is (x ∷ xs) zero inside = refl
there_is (x ∷ xs) (suc k) inside = there_is xs k (omega (arith, inside))

rows_there : (level at : ℕ) (p : Stack) (o : Option Streamed) → length p.streams ≡ at + 1 → slice_get p.streams at ≡ o → IfSome o (λ s. 0 < s.count) → HasRowsAt at (divided at level p)
rows_there level at p None top is some = absurd (none_is (slice_get p.streams at) is (there_is p.streams at (omega (arith, top))))
rows_there level at p (Some s) top is some = subst (λ (o : Option Streamed). IfSome o (λ s. 0 < s.count)) (sym (in_front p.streams (replicate 16 (empty p.page_blocks)) at s is)) some

pub rows_divided : (level at : ℕ) (p : Stack) → length p.streams ≡ at + 1 → HasRowsAt at p → HasRowsAt at (divided at level p)
rows_divided level at p top rows = rows_there level at p (slice_get p.streams at) top refl rows

-- and the partition is the one that it was
pub still_there : (at level : ℕ) (p q : Stack) (x : Streamed) → q ≡ divided at level p → slice_get p.streams at ≡ Some x → slice_get q.streams at ≡ Some x
still_there at level p q x same there = ap (λ (r : Stack). slice_get r.streams at) same ∙ in_front p.streams (replicate 16 (empty p.page_blocks)) at x there
