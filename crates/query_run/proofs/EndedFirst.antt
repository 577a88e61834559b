-- The first client of a query ends, while the second one has its grouping.
use Rattle.std.proofs.Common.{◌≡◌, ◌≢◌, ◌∙◌, ◌-◌, ◌*◌, ◌<◌, ◌≤◌, ℕ, zero, suc, Option, Some, None, IsSome, refl, ap, sym, subst, arith, ne_eqb}
use Rattle.std.proofs.lemmas.Bool.{false≢true}
use Rattle.store_api.proofs.Growing.{grows_trans}
use Rattle.store_api.specs.Changes.{after_end_client}
use Rattle.store_api.specs.Conditions.{IsBlockCount}
use Rattle.store_api.specs.Emitters.{SameFor, SameOwn}
use Rattle.store_api.specs.Holdings.{Account, Holdings, account_of, length_of, no_account, or_else}
use Rattle.store_api.specs.OwnLaws.{still_idle}
use Rattle.store_api.specs.Signs.{Grows, Signs}
use Rattle.store_api.specs.Tokens.{ClientToken}
use Rattle.partition_stack.specs.Emitting.{LeavesBeside}
use Rattle.partition_stack.specs.Leaving.{LeavesOthers, MayStart}
use Rattle.partition_stack.proofs.Emitters.{left_beside}
use Rattle.partition_stack.proofs.Left.{same_then}
use Rattle.join_op.specs.Operator.{IsOperator, Operator}
use Rattle.query_run.specs.Feeder.{HasStopped}
use Rattle.query_run.specs.Inside.{HasEndedFirst}

-- ---- a client with something reserved is live

some_blocks : (blocks : ℕ) → IsBlockCount blocks → 0 < blocks
some_blocks zero is = absurd (false≢true is)
some_blocks (suc n) is = omega arith

pub some_product : (a b : ℕ) → 0 < a → 0 < b → 0 < a * b
some_product zero b some more = absurd (omega (arith, some))
some_product (suc a) b some more = omega (arith, more)

-- so a page has some bytes
pub some_page : (blocks : ℕ) (h : Holdings) → IsBlockCount blocks → 0 < h.block_len → 0 < length_of blocks h
some_page blocks h is long = some_product blocks h.block_len (some_blocks blocks is) long

has-account : (o : Option Account) (least : ℕ) → 0 < least → least ≤ (or_else no_account o).reservation → IsSome o
has-account None least some fits = absurd (omega (arith, some, fits))
has-account (Some account) least some fits = refl

pub lives_ended : (op : Operator) (h h1 : Holdings) (s s1 : Signs) → IsOperator op h s → 0 < h.block_len → LeavesOthers op.client.tracker h h1 s s1 → IsSome (h1.clients op.client.tracker)
lives_ended op h h1 s s1 is long leaves =
    let page = some_page op.left.page_blocks h is.sized long in
    let least = is.least in
    let reserved = leaves.reserved in
    has-account (h1.clients op.client.tracker) (length_of op.left.page_blocks h) page (omega (arith, least, reserved))

-- ---- what is the second one's

own-number : (u v : ℕ) → Some v ≡ Some u → u ≡ v
own-number u v same = cc

module _ (t u : ℕ) (apart : u ≢ t) where
  same_after : (h : Holdings) → SameFor u h (after_end_client t h)
  same_after h = record { account = rw (ne_eqb u t apart) refl; pages = λ q page own. (λ is. is, λ is. is); loans = λ q loan own. (λ is. is, λ is. is) }

  pub own_left : (h h1 : Holdings) (s s1 : Signs) → LeavesOthers t h h1 s s1 → SameOwn (Some u) h h1
  own_left h h1 s s1 leaves = record {
    block_len = leaves.others.block_len;
    told = leaves.others.told;
    own = λ x is. leaves.others.others x (λ same. apart (own-number u x (sym is) ∙ own-number x t same));
  }

  pub own_after : (h h1 : Holdings) (s s1 : Signs) → LeavesOthers t h h1 s s1 → SameOwn (Some u) h (after_end_client t h1)
  own_after h h1 s s1 leaves =
      let left = own_left h h1 s s1 leaves in
      record {
        block_len = left.block_len;
        told = left.told;
        own = λ x is. same_then x h h1 (after_end_client t h1) (left.own x is) (subst (λ (y : ℕ). SameFor y h1 (after_end_client t h1)) (own-number u x (sym is)) (same_after h1));
      }

  -- it ended, behind calls of its join and of the second one's grouping
  pub ended_first : (h0 h1 : Holdings) (s0 s1 s2 : Signs) → LeavesBeside t (Some u) h0 h1 s0 s1 → Grows s1 s2 → HasEndedFirst t u h0 (after_end_client t h1) s0 s2
  ended_first h0 h1 s0 s1 s2 leaves grows =
      let same : (account_of u (after_end_client t h1)).reservation ≡ (account_of u h1).reservation = ap (λ (o : Option Account). (or_else no_account o).reservation) (same_after h1).account in
      let room = leaves.room in
      record {
        live_clients = ap (λ (n : ℕ). n - 1) leaves.live_clients;
        room = omega (arith, room, same);
        reservation = leaves.reservation;
        limit = leaves.limit;
        query = leaves.query;
        session = leaves.session;
        block_len = leaves.block_len;
        told = leaves.told;
        grows = grows_trans s0 s1 s2 leaves.grows grows;
      }

  -- and more came of the second one
  pub ended_more : (h0 h1 h2 : Holdings) (s0 s1 s2 : Signs) → HasEndedFirst t u h0 h1 s0 s1 → LeavesOthers u h1 h2 s1 s2 → HasEndedFirst t u h0 h2 s0 s2
  ended_more h0 h1 h2 s0 s1 s2 ended leaves =
      let room = ended.room in
      let more = leaves.room in
      let reservation = ended.reservation in
      let raised = leaves.others.reservation in
      record {
        live_clients = leaves.others.live_clients ∙ ended.live_clients;
        room = omega (arith, room, more);
        reservation = omega (arith, reservation, raised);
        limit = leaves.others.limit ∙ ended.limit;
        query = leaves.others.query ∙ ended.query;
        session = leaves.others.session ∙ ended.session;
        block_len = leaves.others.block_len ∙ ended.block_len;
        told = leaves.others.told ∙ ended.told;
        grows = grows_trans s0 s1 s2 ended.grows leaves.grows;
      }

  -- calls of the join came before
  pub ended_behind : (h0 h1 h2 : Holdings) (s0 s1 s2 : Signs) → LeavesOthers t h0 h1 s0 s1 → HasEndedFirst t u h1 h2 s1 s2 → HasEndedFirst t u h0 h2 s0 s2
  ended_behind h0 h1 h2 s0 s1 s2 leaves ended =
      let beside = left_beside t (Some u) h0 h1 s0 s1 leaves in
      let more = beside.room in
      let room = ended.room in
      let raised = leaves.others.reservation in
      let reservation = ended.reservation in
      record {
        live_clients = ended.live_clients ∙ ap (λ (n : ℕ). n - 1) leaves.others.live_clients;
        room = omega (arith, room, more);
        reservation = omega (arith, reservation, raised);
        limit = ended.limit ∙ leaves.others.limit;
        query = ended.query ∙ leaves.others.query;
        session = ended.session ∙ leaves.others.session;
        block_len = ended.block_len ∙ leaves.others.block_len;
        told = ended.told ∙ leaves.others.told;
        grows = grows_trans s0 s1 s2 leaves.grows ended.grows;
      }

-- a client that may start is live and has nothing, and so it stays while others call
pub stopped_still : (second back : ClientToken) (blocks : ℕ) (h h1 : Holdings) → MayStart second blocks h → back ≡ second → SameOwn (Some second.tracker) h h1 → HasStopped second back h1
stopped_still second back blocks h h1 may same own =
    subst (λ (c : ClientToken). HasStopped second c h1) (sym same)
    (record { same = refl; lives = rw (own.own second.tracker refl).account (may.lives); idle = still_idle second.tracker h h1 own may.idle })

-- and may start still
pub may_start_still : (second : ClientToken) (blocks : ℕ) (h h1 : Holdings) → MayStart second blocks h → SameOwn (Some second.tracker) h h1 → MayStart second blocks h1
may_start_still second blocks h h1 may own =
    let account : account_of second.tracker h1 ≡ account_of second.tracker h = ap (λ (o : Option Account). or_else no_account o) (own.own second.tracker refl).account in
    let reserved : (account_of second.tracker h1).reservation ≡ (account_of second.tracker h).reservation = ap (λ (a : Account). a.reservation) account in
    let unused : (account_of second.tracker h1).unused ≡ (account_of second.tracker h).unused = ap (λ (a : Account). a.unused) account in
    let least = may.least in
    let len : length_of blocks h1 ≡ length_of blocks h = ap (λ (n : ℕ). blocks * n) own.block_len in
    record {
      lives = rw (own.own second.tracker refl).account (may.lives);
      idle = still_idle second.tracker h h1 own may.idle;
      least = omega (arith, least, reserved, len);
      free = unused ∙ may.free ∙ sym reserved;
    }
