-- A table comes to a grouping that has none.
use Rattle.std.proofs.Common.{◌≡◌, ◌∙◌, ℕ, ◌*◌, [], map, Option, Some, None, IsSome, Result, Ok, Err, IfOk, IfErr, IfSome, OnErr, refl, ap, sym, subst, arith}
use Rattle.std.specs.Bool.{⊤}
use Rattle.std.specs.List.{sum_by}
use Rattle.std.specs.Prelude.{All, is_some, if◌then◌else◌}
use Rattle.std.proofs.lemmas.List.Elements.{All-nil}
use Rattle.reservation_tree.specs.declared.errors.PoolErr.{PoolErr}
use Rattle.reservation_tree.specs.declared.errors.PoolErr.TheVariants.{NoReservation, ScratchFull, WriteFault, ReadFault, TooManyTrackers, NamesSpent, Memory, Stale}
use Rattle.store_api.specs.Alike.{Alike}
use Rattle.store_api.specs.Emitters.{OthersStay}
use Rattle.store_api.specs.Holdings.{Account, Holdings, account_of, length_of, no_account, or_else, unused_of}
use Rattle.store_api.specs.Signs.{Grows, Signs, WasAnswered}
use Rattle.store_api.specs.Tokens.{ClientToken}
use Rattle.store_api.specs.declared.shapes.Shape.{Shape}
use Rattle.store_api.proofs.Growing.{grows_refl}
use Rattle.store_api.proofs.Untouched.{others_stay}
use Rattle.tuple_stream.specs.Streamed.{Streamed}
use Rattle.tuple_stream.specs.Touches.{IsFull}
use Rattle.tuple_stream.proofs.FamilyWords.{feeds_none}
use Rattle.tuple_stream.proofs.Sinces.{since_so}
use Rattle.bucket_table.specs.Entering.{EnteredLoans, IsOfLoans}
use Rattle.bucket_table.specs.Lending.{IsOpened, IsTableOf, WasShort, loans_of}
use Rattle.bucket_table.specs.Tables.{Node, Table}
use Rattle.partition_stack.specs.Stack.{Stack, over}
use Rattle.partition_stack.proofs.Agreeing.{agreeing_shape}
use Rattle.group_op.specs.Held.{IsEntry, IsHeld, LeavesOthers, lent, state}
use Rattle.group_op.specs.Feeding.{HasOpened}
use Rattle.group_op.specs.Operator.{IsOperator, operator}
use Rattle.group_op.proofs.Deals.{AreApart, deals_beside, deals_fed, loans_apart}
use Rattle.group_op.proofs.Growth.{Turns, lent_reservation, lent_room, lent_unused, others_turned, owns_turned, page_lens, slots_turned, turns_lent}
use Rattle.partition_stack.specs.Slots.{SameSlots}
use Rattle.partition_stack.proofs.Slots.{slots_stay}

-- a lack of a loan is one of the store's
pub short_full : (t blocks : ℕ) (free : Option ℕ) (before after : Signs) (e : PoolErr) → WasShort t blocks before after e → IsFull blocks free e
short_full t blocks free before after (NoReservation tracker wanted room) was = absurd was.cause
short_full t blocks free before after (ScratchFull need few) was = absurd was.cause
short_full t blocks free before after (WriteFault entry) was = tt
short_full t blocks free before after (ReadFault entry) was = tt
short_full t blocks free before after (TooManyTrackers count) was = tt
short_full t blocks free before after NamesSpent was = tt
short_full t blocks free before after Memory was = tt
short_full t blocks free before after (Stale wanted found) was = tt

pub short_cause : {X : Type 0} (t blocks : ℕ) (before after : Signs) (result : Result X PoolErr) → IfErr result (WasShort t blocks before after) → IfErr result (λ e. WasAnswered e before after)
short_cause t blocks before after (Ok x) was = tt
short_cause t blocks before after (Err e) was = was.answered

pub short_fulls : {X : Type 0} (t blocks : ℕ) (free : Option ℕ) (before after : Signs) (result : Result X PoolErr) → IfErr result (WasShort t blocks before after) → IfErr result (IsFull blocks free)
short_fulls t blocks free before after (Ok x) was = tt
short_fulls t blocks free before after (Err e) was = short_full t blocks free before after e was

-- where all is as before
pub alike_others : (t : ℕ) (old new : Holdings) → Alike old new → OthersStay (Some t) old new
alike_others t old new same =
    record {
      block_len = same.rest.block_len;
      session = same.rest.session;
      query = same.rest.query;
      limit = same.rest.limit;
      live_clients = same.rest.live_clients;
      told = same.rest.told;
      reservation = let more = same.reservation in omega (arith, more);
      others = λ u other. record {
        account = same.clients u;
        pages = λ q page own. ((λ is. sym (same.rest.pages q) ∙ is), (λ is. same.rest.pages q ∙ is));
        loans = λ q loan own. ((λ is. sym (same.rest.loans q) ∙ is), (λ is. same.rest.loans q ∙ is));
      };
      alone = λ none. same;
    }

-- the table that was there
pub had_leaves : (t : ℕ) (h : Holdings) (signs : Signs) → LeavesOthers t h h signs signs
had_leaves t h signs = record { others = others_stay (Some t) h; grows = grows_refl signs; reserved = omega arith; room = omega arith }

pub had_table : (c : ClientToken) (shape : Shape) (p : Stack) (table : Table) (h : Holdings) (signs : Signs) → IsOperator (operator c shape p (Some table)) h signs → HasOpened shape (Some table) table (state table p h signs) (state table p h signs)
had_table c shape p table h signs is =
    record {
      rows = refl;
      entries = is.has.1;
      deals = deals_fed c.tracker (λ i. []) (over p h signs) (over p h signs) (feeds_none c.tracker (over p h signs) is.has.0.owns.shaped);
    }

-- the one that is there
pub had_opened : (c : ClientToken) (shape : Shape) (p : Stack) (table : Option Table) (h : Holdings) (signs : Signs) → IsOperator (operator c shape p table) h signs → IfSome table (λ own. HasOpened shape table own (state own p h signs) (state own p h signs))
had_opened c shape p None h signs is = tt
had_opened c shape p (Some table) h signs is = had_table c shape p table h signs is

module _ (c : ClientToken) (shape : Shape) (p : Stack) (old new : Holdings) (before after : Signs) (is : IsOperator (operator c shape p None) old before) where
  -- a new one
  module _ (table : Table) (opened : IsOpened c.tracker p.page_blocks 1 2 old new table) where
    turns : Turns c.tracker old new
    turns = turns_lent c.tracker (loans_of table) old new opened.lends

    lent_three : lent (state table p new after) ≡ 3 * length_of p.page_blocks old
    lent_three = opened.bytes

    pub opened_held : IsTableOf table new → IsHeld c.tracker (state table p new after)
    opened_held here =
        let own = lent_reservation c.tracker (loans_of table) old new opened.lends in
        let unused = lent_unused c.tracker (loans_of table) old new opened.lends in
        let three = lent_three in
        record {
          owns = owns_turned c.tracker old new turns p before after 0 (lent (state table p new after)) is.has.0 (omega (arith, own, unused));
          table = here;
          client = opened.client;
          blocks = opened.page_blocks;
          loans = λ q loan lives apart. is.has.1 q loan (sym (opened.lends.others q apart) ∙ lives);
          room =
              let least = is.least in
              let same = page_lens p old new turns.block_len in
              omega (arith, least, own, three, ap (λ (n : ℕ). 17 * n) same);
        }

    pub opened_has : EnteredLoans before.trail after.trail → HasOpened shape None table (state table p old before) (state table p new after)
    opened_has entered =
        record {
          rows = ap (map (λ (n : Node). n.row)) opened.nodes;
          entries =
              let same = page_lens p old new turns.block_len in
              let room = opened.room in
              record {
                each = subst (All (IsEntry shape (length_of p.page_blocks new) table.heads)) (sym opened.nodes) (All-nil (IsEntry shape (length_of p.page_blocks new) table.heads));
                behind = rw opened.nodes tt;
                roomy = omega (arith, room, ap (λ (n : ℕ). 2 * n) same);
              };
          deals = deals_beside c.tracker p.streams old new before after is.has.0.shaped turns.block_len turns.told turns.pages (since_so (All IsOfLoans) AreApart before.trail after.trail loans_apart entered);
        }

    pub opened_leaves : Grows before after → LeavesOthers c.tracker old new before after
    opened_leaves grows =
        let own = lent_reservation c.tracker (loans_of table) old new opened.lends in
        let room = lent_room c.tracker (loans_of table) old new opened.lends in
        record { others = others_turned c.tracker old new turns; grows = grows; reserved = omega (arith, own); room = omega (arith, own, room) }

  -- none
  pub none_leaves : Alike old new → Grows before after → LeavesOthers c.tracker old new before after
  none_leaves same grows =
      let own = ap (or_else no_account) (same.clients c.tracker) in
      let reservation : (account_of c.tracker new).reservation ≡ (account_of c.tracker old).reservation = ap (λ (a : Account). a.reservation) own in
      let room = same.room in
      record { others = alike_others c.tracker old new same; grows = grows; reserved = omega (arith, reservation); room = omega (arith, reservation, room) }

  pub none_opened : Alike old new → IsOperator (operator c shape p None) new after
  none_opened same =
      let own = ap (or_else no_account) (same.clients c.tracker) in
      let reservation : (account_of c.tracker new).reservation ≡ (account_of c.tracker old).reservation = ap (λ (a : Account). a.reservation) own in
      let unused : unused_of c.tracker new ≡ unused_of c.tracker old = ap (λ (a : Account). a.unused) own in
      let len = page_lens p old new same.rest.block_len in
      record {
        shape = is.shape;
        sized = is.sized;
        client = subst IsSome (sym (same.clients c.tracker)) is.client;
        least = let least = is.least in omega (arith, least, reservation, ap (λ (n : ℕ). 20 * n) len);
        has = (
          record {
            lives = subst IsSome (sym (same.clients c.tracker)) is.has.0.lives;
            shaped = record {
              each = λ i s there. agreeing_shape c.tracker s old new (is.has.0.shaped.each i s there) same.rest.block_len (λ k q at. same.rest.pages q.name);
              apart = is.has.0.shaped.apart;
            };
            only = λ q page lives outside. is.has.0.only q page (sym (same.rest.pages q) ∙ lives) outside;
            even =
                let held = ap (λ (n : ℕ). sum_by (λ (s : Streamed). if is_some s.pinned then s.page_blocks * n else 0) p.streams) same.rest.block_len in
                let even = is.has.0.even in
                omega (arith, held, even, reservation, unused);
          },
          λ q loan lives. is.has.1 q loan (sym (same.rest.loans q) ∙ lives),
          (let free = is.has.2 in omega (arith, free, reservation, unused)),
        );
      }

-- ---- whichever it is

both : {X : Type 0} (P Q R : X → Type 0) (result : Result X PoolErr) → ((x : X) → P x → Q x → R x) → IfOk result P → IfOk result Q → IfOk result R
both P Q R (Ok x) so p q = so x p q
both P Q R (Err e) so p q = tt

module _ (c : ClientToken) (shape : Shape) (p : Stack) (old new : Holdings) (before after : Signs) (result : Result Table PoolErr) (blocks : ℕ) (sized : blocks ≡ p.page_blocks) where
  as_sized : IfOk result (IsOpened c.tracker blocks 1 2 old new) → IfOk result (IsOpened c.tracker p.page_blocks 1 2 old new)
  as_sized ok = subst (λ (n : ℕ). IfOk result (IsOpened c.tracker n 1 2 old new)) sized ok

  module _ (was : Option Table) (none : was ≡ None) (is : IsOperator (operator c shape p was) old before) where
    is_none : IsOperator (operator c shape p None) old before
    is_none = subst (λ (o : Option Table). IsOperator (operator c shape p o) old before) none is

    pub new_has : IfOk result (IsOpened c.tracker blocks 1 2 old new) → EnteredLoans before.trail after.trail → IfOk result (λ own. HasOpened shape was own (state own p old before) (state own p new after))
    new_has ok entered =
        both (IsOpened c.tracker p.page_blocks 1 2 old new) (λ own. ⊤) (λ own. HasOpened shape was own (state own p old before) (state own p new after)) result
        (λ own opened any. subst (λ (o : Option Table). HasOpened shape o own (state own p old before) (state own p new after)) (sym none) (opened_has c shape p old new before after is_none own opened entered))
        (as_sized ok) (any_of result)
      where
        any_of : (r : Result Table PoolErr) → IfOk r (λ own. ⊤)
        any_of (Ok x) = tt
        any_of (Err e) = tt

    pub new_held : IfOk result (IsOpened c.tracker blocks 1 2 old new) → IfOk result (λ own. IsTableOf own new) → IfOk result (λ own. IsHeld c.tracker (state own p new after))
    new_held ok here =
        both (IsOpened c.tracker p.page_blocks 1 2 old new) (λ own. IsTableOf own new) (λ own. IsHeld c.tracker (state own p new after)) result
        (λ own opened table. opened_held c shape p old new before after is_none own opened table) (as_sized ok) here

    pub new_slots : IfOk result (IsOpened c.tracker blocks 1 2 old new) → OnErr result (Alike old new) → SameSlots p.page_blocks (over p old before) (over p new after)
    new_slots = go result
      where
        go : (r : Result Table PoolErr) → IfOk r (IsOpened c.tracker blocks 1 2 old new) → OnErr r (Alike old new) → SameSlots p.page_blocks (over p old before) (over p new after)
        go (Ok own) opened same = slots_turned c.tracker old new (turns_lent c.tracker (loans_of own) old new opened.lends) p before after
        go (Err e) opened same = slots_stay p.page_blocks p.streams old new before after same.rest.free_slots (λ i s at k q there. same.rest.pages q.name)

    pub new_none : OnErr result (Alike old new) → OnErr result (IsOperator (operator c shape p None) new after)
    new_none = go result
      where
        go : (r : Result Table PoolErr) → OnErr r (Alike old new) → OnErr r (IsOperator (operator c shape p None) new after)
        go (Ok x) same = tt
        go (Err e) same = none_opened c shape p old new before after is_none same
