-- One side is called while the other rests.
use Rattle.std.proofs.Common.{◌≡◌, ◌∙◌, ℕ, suc, ◌+◌, ◌-◌, ◌*◌, ◌<◌, ◌≤◌, List, [], ◌∷◌, length, Option, Some, None, is_some, if◌then◌else◌, refl, ap, sym, subst, arith}
use Rattle.std.specs.List.{slice_get, sum_by}
use Rattle.std.proofs.lemmas.List.Sums.{sum_by-cons}
use Rattle.pool_model.specs.declared.event.Event.{Event}
use Rattle.store_api.specs.Conditions.{IsBlockCount}
use Rattle.store_api.specs.Holdings.{Holdings, LiveLoan, account_of, length_of, unused_of}
use Rattle.store_api.specs.Signs.{Signs}
use Rattle.store_api.specs.Tokens.{ClientToken}
use Rattle.store_api.specs.declared.shapes.JoinShape.{JoinShape}
use Rattle.tuple_stream.specs.Streamed.{OpenPage, Streamed, len_in}
use Rattle.tuple_stream.specs.Touches.{held}
use Rattle.tuple_stream.specs.Families.{FamilySteps, held_in}
use Rattle.tuple_stream.proofs.FamilyChains.{client_stays, goes_none}
use Rattle.partition_stack.specs.Leaving.{HasNoLoan}
use Rattle.partition_stack.specs.Sides.{OwnBoth}
use Rattle.partition_stack.specs.Stack.{HasRoomFrom, Stack, over}
use Rattle.partition_stack.proofs.Left.{touched_leaves}
use Rattle.partition_stack.proofs.Sides.{other_shows, other_weighs, own_called, own_turned}
use Rattle.join_op.specs.Beside.{CallsBeside, MayCall}
use Rattle.join_op.specs.Dividing.{HasCalled}
use Rattle.join_op.specs.Operator.{IsOperator, operator}
use Rattle.join_op.proofs.BothSlots.{slots_stepped}

none_held : (s : Streamed) (h : Holdings) → s.pinned ≡ None → held s h ≡ 0
none_held s h closed = ap (λ (o : Option OpenPage). if is_some o then len_in s h else 0) closed

pub all_rest : (streams : List Streamed) (h : Holdings) → ((i : ℕ) (s : Streamed) → slice_get streams i ≡ Some s → i < length streams → s.pinned ≡ None) → sum_by (λ s. held s h) streams ≡ 0
all_rest [] h rests = refl
all_rest (s ∷ streams) h rests =
    let head = none_held s h (rests 0 s refl (omega arith)) in
    let rest = all_rest streams h (λ i r there inside. rests (suc i) r there (omega (arith, inside))) in
    let now : sum_by (λ r. held r h) (s ∷ streams) ≡ held s h + sum_by (λ r. held r h) streams = sum_by-cons (λ (r : Streamed). held r h) s streams in
    omega (arith, head, rest, now)

-- while the other side rests there is room for a page of each partition
pub room_first : (c : ClientToken) (p other : Stack) (h : Holdings) (signs : Signs) → MayCall c p other h signs → length p.streams ≡ 16 → HasRoomFrom c.tracker 0 p h signs
room_first c p other h signs may sixteen =
    record {
      rests = λ i s there below. absurd (omega (arith, below));
      room =
          let even = may.own.even in
          let none : held_in (over other h signs) ≡ 0 = all_rest other.streams h may.rests in
          let least = may.least in
          let len : ℕ = length_of p.page_blocks h in
          let all : (length p.streams - 0) * len ≡ 16 * len = ap (λ (n : ℕ). (n - 0) * len) sixteen in
          enough len (length p.streams - 0) (unused_of c.tracker h) (held_in (over p h signs)) (held_in (over other h signs)) (account_of c.tracker h).reservation all none even least;
    }
  where
    enough : (len n a b d r : ℕ) → n * len ≡ 16 * len → d ≡ 0 → a + b + d + 0 ≡ r → 20 * len ≤ r → n * len ≤ a + b
    enough len n a b d r all none even least = omega (arith, all, none, even, least)

pub calls_beside : {laid : List Event → Type 0} (t : ℕ) (p now other : Stack) (old new : Holdings) (before after : Signs) → OwnBoth t 0 p.streams other.streams old before → FamilySteps laid t (over p old before) (over now new after) → now.page_blocks ≡ p.page_blocks → now.levels ≡ p.levels → CallsBeside t p now other old new before after
calls_beside {laid} t p now other old new before after own steps blocks levels =
    record {
      own = own_called t 0 p.streams now.streams other.streams old new before after own steps.touches steps.shaped;
      shows = other_shows t 0 p.streams now.streams other.streams old new before after own steps.touches steps.shaped;
      weighs = other_weighs t 0 p.streams now.streams other.streams old new before after own steps.touches steps.shaped;
      leaves = touched_leaves t (over p old before) (over now new after) own.left_shaped steps.shaped steps.touches own.lives steps.grows;
      loans = steps.touches.loans;
      lives = λ c is live. client_stays c (over p old before) (over now new after) (subst (λ (k : ℕ). FamilySteps laid k (over p old before) (over now new after)) (sym is) steps) live;
      blocks = blocks;
      levels = levels;
      many = steps.long;
      slots = slots_stepped t p now other old new before after own steps;
    }

pub calls_none : (t : ℕ) (p other : Stack) (h : Holdings) (signs : Signs) → OwnBoth t 0 p.streams other.streams h signs → CallsBeside t p p other h h signs signs
calls_none t p other h signs own = calls_beside t p p other h h signs signs own (goes_none t (over p h signs) own.left_shaped) refl refl

-- of what is known of calls, what is known of a division
pub called_of : (t : ℕ) (p now other : Stack) (old new : Holdings) (before after : Signs) → CallsBeside t p now other old new before after → HasCalled t p now other old new before after
called_of t p now other old new before after called =
    record { own = called.own; shows = called.shows; leaves = called.leaves; loans = called.loans; lives = called.lives; blocks = called.blocks; slots = called.slots }

module _ (c : ClientToken) (shape : JoinShape) (left right : Stack) (old new : Holdings) (before after : Signs) (is : IsOperator (operator c shape left right) old before) where
  no_loan : new.loans ≡ old.loans → HasNoLoan c.tracker new
  no_loan loans q loan there = is.loans q loan (sym (ap (λ (f : ℕ → Option LiveLoan). f q) loans) ∙ there)

  same_len : (blocks now : ℕ) → now ≡ blocks → new.block_len ≡ old.block_len → length_of now new ≡ length_of blocks old
  same_len blocks now same block_len = ap (λ (n : ℕ). n * new.block_len) same ∙ ap (λ (n : ℕ). blocks * n) block_len

  -- a join stays one where its left side was called
  pub left_has : (now : Stack) → HasCalled c.tracker left now right old new before after → IsOperator (operator c shape now right) new after
  left_has now called =
      record {
        shape = is.shape;
        sized = subst IsBlockCount (sym called.blocks) is.sized;
        alike = is.alike ∙ sym called.blocks;
        client = called.lives c refl is.client;
        least =
            let len = same_len left.page_blocks now.page_blocks called.blocks called.leaves.others.block_len in
            let least = is.least in
            let kept = called.leaves.reserved in
            omega (arith, kept, least, ap (λ (n : ℕ). 20 * n) len);
        owns = called.own;
        loans = no_loan called.loans;
      }

  pub left_called : (now : Stack) → CallsBeside c.tracker left now right old new before after → IsOperator (operator c shape now right) new after
  left_called now called = left_has now (called_of c.tracker left now right old new before after called)

  -- and where its right side was
  pub right_has : (now : Stack) → HasCalled c.tracker right now left old new before after → IsOperator (operator c shape left now) new after
  right_has now called =
      record {
        shape = is.shape;
        sized = is.sized;
        alike = called.blocks ∙ is.alike;
        client = called.lives c refl is.client;
        least =
            let len = same_len left.page_blocks left.page_blocks refl called.leaves.others.block_len in
            let least = is.least in
            let kept = called.leaves.reserved in
            omega (arith, kept, least, ap (λ (n : ℕ). 20 * n) len);
        owns = own_turned c.tracker 0 now.streams left.streams new after called.own;
        loans = no_loan called.loans;
      }

  pub right_called : (now : Stack) → CallsBeside c.tracker right now left old new before after → IsOperator (operator c shape left now) new after
  right_called now called = right_has now (called_of c.tracker right now left old new before after called)
