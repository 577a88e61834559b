use Rattle.std.proofs.Common.{rules, ◌≡◌, refl, ◌∙◌, ◌++◌, ℕ, ◌<◌, List, Option, length, subst, arith, sym}
use Rattle.row_codec.specs.declared.values.Value.{Value}
use Rattle.store_api.specs.Emitters.{CameOf}
use Rattle.store_api.specs.Holdings.{length_of}
use Rattle.partition_stack.specs.Emitting.{IsBeside}
use Rattle.partition_stack.specs.Slots.{IsWantOf, KeepSlots, with_more}
use Rattle.partition_stack.proofs.Emitters.{beside_stands, came_behind, same_beside, stands_then}
use Rattle.partition_stack.proofs.Results.{any_err}
use Rattle.partition_stack.proofs.Slots.{keep_after, keep_none, keep_own, keep_then}
use Rattle.join_op.proofs.Crowding.{some_more_of}
use Rattle.join_op.specs.Slots.{Crowds}
use Rattle.join_op.specs.Handing.{EmittedSome}
use Rattle.join_op.specs.Joining.{ShowBoth, both, pairs_down, slots_both, slots_by}
use Rattle.join_op.proofs.Advances.{advances_all, advances_few, advances_made, advances_some}
use Rattle.join_op.proofs.Besides.{beside_more}
use Rattle.join_op.proofs.Downward.{HasGoneDown, down_beside, down_reserved, down_stepped, gone_none}
use Rattle.join_op.proofs.Enough.{by_fewer, some_len}
use Rattle.join_op.proofs.Handed.{handed_err}
use Rattle.join_op.proofs.joining.join_parts.Goals as goal

pub down-init : goal.down-init
down-init g c =
    record {
      slots = keep_none _ _ _;
      most = λ rows. refl;
      gone = gone_none (c.args.emit.now ≡ c.args.emit.now) refl c.args.c.now c.args.shape.now _ (g.E.Emit.client c.args.emit.now) _ (g.E.Emit.took c.args.emit.now (g.St.Store.holds c.args.store.now)) (both c.args.left.now c.args.right.now (g.St.Store.holds c.args.store.now) (g.St.Store.signs c.args.store.now))
          c.requires.may.between c.requires.may.op c.requires.may.emits.emitter.lives;
    }

pub reserve_top-requires-clause-op : goal.reserve_top-requires-clause-op
reserve_top-requires-clause-op g c = c.down.invariant.gone.op

pub reserve_top-requires-clause-between : goal.reserve_top-requires-clause-between
reserve_top-requires-clause-between g c = c.down.invariant.gone.between

pub advance-requires-clause-may : goal.advance-requires-clause-may
advance-requires-clause-may g c =
    let h0 = g.St.Store.holds c.args.store.now in
    let s0 = g.St.Store.signs c.args.store.now in
    let h = g.St.Store.holds c.down.store in
    let s = g.St.Store.signs c.down.store in
    let hm = g.St.Store.holds c.reserve_top.new.store in
    let sm = g.St.Store.signs c.reserve_top.new.store in
    let beside : IsBeside c.args.c.now.tracker (g.E.Emit.client c.down.emit) h = down_beside (c.down.emit ≡ c.args.emit.now) c.args.c.now c.args.shape.now _ _ _ _ _ _ _ _ (both c.args.left.now c.args.right.now h0 s0) (both c.down.left c.down.right h s) c.down.invariant.gone c.requires.may.emits.emitter in
    let still : (taken : List (List Value)) → g.E.Emit.took c.down.emit h taken → g.E.Emit.took c.down.emit hm taken =
    λ taken. g.met.E.Emit.asks_own c.down.emit h hm taken (same_beside c.args.c.now.tracker (g.E.Emit.client c.down.emit) h hm s sm beside.apart c.reserve_top.ensures.leaves) in
    let mid : HasGoneDown (c.down.emit ≡ c.args.emit.now) c.args.c.now c.args.shape.now (g.E.Emit.admits c.args.emit.now) (g.E.Emit.admits c.down.emit) (g.E.Emit.client c.args.emit.now) (g.E.Emit.client c.down.emit) (g.E.Emit.faults c.args.emit.now) (g.E.Emit.faults c.down.emit) (g.E.Emit.creates c.args.emit.now) (g.E.Emit.creates c.down.emit) (g.E.Emit.took c.args.emit.now h0) (g.E.Emit.took c.down.emit hm) (both c.args.left.now c.args.right.now h0 s0) (both c.down.left c.down.right hm sm) =
    down_reserved (c.down.emit ≡ c.args.emit.now) c.args.c.now c.args.shape.now _ _ _ _ _ _ _ (g.E.Emit.took c.down.emit h) (both c.args.left.now c.args.right.now h0 s0) (both c.down.left c.down.right h s) c.down.invariant.gone (g.E.Emit.took c.down.emit hm) hm sm c.requires.may.emits.emitter c.reserve_top.ensures.leaves still
    c.reserve_top.ensures.between c.reserve_top.ensures.op c.reserve_top.ensures.first c.reserve_top.ensures.shows c.reserve_top.ensures.made in
    let more = mid.stands.took c.requires.may.emits.stands.0 c.requires.may.emits.stands.1 in
    record {
      op = search rules;
      between = search rules;
      emits = record {
        emitter = beside_stands c.args.c.now.tracker _ _ _ _ _ _ _ _ h0 hm c.requires.may.emits.emitter mid.stands;
        stands = (c.requires.may.emits.stands.0 ++ more.0, more.1);
        admits = λ left right one left_kinds other right_kinds. (c.down.invariant.gone.stands.admits_same (left ++ right)).0 (c.requires.may.emits.admits left right one left_kinds other right_kinds);
      };
    }

pub down-smaller : goal.down-smaller
down-smaller g c = c.in_ok-advance.ensures.less

pub down-preserved : goal.down-preserved
down-preserved g c =
    let h0 = g.St.Store.holds c.args.store.now in
    let s0 = g.St.Store.signs c.args.store.now in
    let h = g.St.Store.holds c.down.store in
    let s = g.St.Store.signs c.down.store in
    let hm = g.St.Store.holds c.reserve_top.new.store in
    let sm = g.St.Store.signs c.reserve_top.new.store in
    let beside : IsBeside c.args.c.now.tracker (g.E.Emit.client c.down.emit) h = down_beside (c.down.emit ≡ c.args.emit.now) c.args.c.now c.args.shape.now _ _ _ _ _ _ _ _ (both c.args.left.now c.args.right.now h0 s0) (both c.down.left c.down.right h s) c.down.invariant.gone c.requires.may.emits.emitter in
    let still : (taken : List (List Value)) → g.E.Emit.took c.down.emit h taken → g.E.Emit.took c.down.emit hm taken =
    λ taken. g.met.E.Emit.asks_own c.down.emit h hm taken (same_beside c.args.c.now.tracker (g.E.Emit.client c.down.emit) h hm s sm beside.apart c.reserve_top.ensures.leaves) in
    let mid : HasGoneDown (c.down.emit ≡ c.args.emit.now) c.args.c.now c.args.shape.now (g.E.Emit.admits c.args.emit.now) (g.E.Emit.admits c.down.emit) (g.E.Emit.client c.args.emit.now) (g.E.Emit.client c.down.emit) (g.E.Emit.faults c.args.emit.now) (g.E.Emit.faults c.down.emit) (g.E.Emit.creates c.args.emit.now) (g.E.Emit.creates c.down.emit) (g.E.Emit.took c.args.emit.now h0) (g.E.Emit.took c.down.emit hm) (both c.args.left.now c.args.right.now h0 s0) (both c.down.left c.down.right hm sm) =
    down_reserved (c.down.emit ≡ c.args.emit.now) c.args.c.now c.args.shape.now _ _ _ _ _ _ _ (g.E.Emit.took c.down.emit h) (both c.args.left.now c.args.right.now h0 s0) (both c.down.left c.down.right h s) c.down.invariant.gone (g.E.Emit.took c.down.emit hm) hm sm c.requires.may.emits.emitter c.reserve_top.ensures.leaves still
    c.reserve_top.ensures.between c.reserve_top.ensures.op c.reserve_top.ensures.first c.reserve_top.ensures.shows c.reserve_top.ensures.made in
    let h1 = g.St.Store.holds c.advance.new.store in
    let s1 = g.St.Store.signs c.advance.new.store in
    let steps = down_stepped (c.down.emit ≡ c.args.emit.now) c.args.c.now c.args.shape.now _ _ _ _ _ _ _ (g.E.Emit.took c.down.emit hm) (both c.args.left.now c.args.right.now h0 s0) (both c.down.left c.down.right hm sm) mid (c.advance.new.emit ≡ c.down.emit) (c.advance.new.emit ≡ c.args.emit.now) (λ so next. next ∙ so) (g.E.Emit.admits c.advance.new.emit) (g.E.Emit.client c.advance.new.emit) (g.E.Emit.faults c.advance.new.emit) (g.E.Emit.took c.advance.new.emit h1)
    (both c.advance.new.left c.advance.new.right h1 s1) c.in_ok-advance.ensures.ok c.advance.ensures.hands.op c.advance.ensures.hands.leaves c.advance.ensures.blocks c.advance.ensures.hands.emitter c.in_ok-advance.ensures.first in
    let still_slots : g.E.Emit.slots c.down.emit hm ≡ g.E.Emit.slots c.down.emit h = g.met.E.Emit.slots_own c.down.emit h hm (same_beside c.args.c.now.tracker (g.E.Emit.client c.down.emit) h hm s sm beside.apart c.reserve_top.ensures.leaves) in
    let reserved : KeepSlots (g.E.Emit.client c.args.emit.now) (slots_both (both c.args.left.now c.args.right.now h0 s0)) (slots_both (both c.down.left c.down.right hm sm)) (g.E.Emit.slots c.args.emit.now h0) (g.E.Emit.slots c.down.emit hm) =
    keep_then _ _ _ _ _ _ _ c.down.invariant.slots (keep_own (g.E.Emit.client c.args.emit.now) _ _ _ _ c.reserve_top.ensures.slots still_slots) in
    record { most = λ rows. c.advance.ensures.hands.most rows ∙ c.down.invariant.most rows; gone = steps; slots = keep_after _ _ _ _ _ _ _ _ c.down.invariant.gone.stands.client_same reserved c.advance.ensures.hands.slots }

pub returns-in_err-advance-clause-hands : goal.returns-in_err-advance-clause-hands
returns-in_err-advance-clause-hands g c =
    let h0 = g.St.Store.holds c.args.store.now in
    let s0 = g.St.Store.signs c.args.store.now in
    let h = g.St.Store.holds c.down.store in
    let s = g.St.Store.signs c.down.store in
    let hm = g.St.Store.holds c.reserve_top.new.store in
    let sm = g.St.Store.signs c.reserve_top.new.store in
    let beside : IsBeside c.args.c.now.tracker (g.E.Emit.client c.down.emit) h = down_beside (c.down.emit ≡ c.args.emit.now) c.args.c.now c.args.shape.now _ _ _ _ _ _ _ _ (both c.args.left.now c.args.right.now h0 s0) (both c.down.left c.down.right h s) c.down.invariant.gone c.requires.may.emits.emitter in
    let still : (taken : List (List Value)) → g.E.Emit.took c.down.emit h taken → g.E.Emit.took c.down.emit hm taken =
    λ taken. g.met.E.Emit.asks_own c.down.emit h hm taken (same_beside c.args.c.now.tracker (g.E.Emit.client c.down.emit) h hm s sm beside.apart c.reserve_top.ensures.leaves) in
    let mid : HasGoneDown (c.down.emit ≡ c.args.emit.now) c.args.c.now c.args.shape.now (g.E.Emit.admits c.args.emit.now) (g.E.Emit.admits c.down.emit) (g.E.Emit.client c.args.emit.now) (g.E.Emit.client c.down.emit) (g.E.Emit.faults c.args.emit.now) (g.E.Emit.faults c.down.emit) (g.E.Emit.creates c.args.emit.now) (g.E.Emit.creates c.down.emit) (g.E.Emit.took c.args.emit.now h0) (g.E.Emit.took c.down.emit hm) (both c.args.left.now c.args.right.now h0 s0) (both c.down.left c.down.right hm sm) =
    down_reserved (c.down.emit ≡ c.args.emit.now) c.args.c.now c.args.shape.now _ _ _ _ _ _ _ (g.E.Emit.took c.down.emit h) (both c.args.left.now c.args.right.now h0 s0) (both c.down.left c.down.right h s) c.down.invariant.gone (g.E.Emit.took c.down.emit hm) hm sm c.requires.may.emits.emitter c.reserve_top.ensures.leaves still
    c.reserve_top.ensures.between c.reserve_top.ensures.op c.reserve_top.ensures.first c.reserve_top.ensures.shows c.reserve_top.ensures.made in
    let h1 = g.St.Store.holds c.advance.new.store in
    let some : (lefts rights : ℕ → List (List ℕ)) → ShowBoth lefts rights (both c.args.left.now c.args.right.now h0 s0) → EmittedSome (g.E.Emit.took c.args.emit.now h0) (g.E.Emit.took c.advance.new.emit h1) (pairs_down c.args.shape.now (length c.args.left.now.streams) lefts rights) =
    λ lefts rights shows.
    let first = mid.rows lefts rights shows in
    advances_some c.args.shape.now (g.E.Emit.took c.args.emit.now h0) (g.E.Emit.took c.down.emit hm) (g.E.Emit.took c.advance.new.emit h1) lefts rights (both c.args.left.now c.args.right.now h0 s0) (both c.down.left c.down.right hm sm) first
    (c.in_err-advance.ensures.hands.err first.lefts_now first.rights_now first.shows) in
    let came : CameOf (g.E.Emit.faults c.args.emit.now) (g.E.Emit.faults c.advance.new.emit) (g.St.Store.signs c.args.store.now) (g.St.Store.signs c.advance.new.store) c.in_err-advance.field-0.0 =
    came_behind _ _ _ _ _ _ _ mid.stands.never_falls mid.leaves.grows c.in_err-advance.ensures.hands.cause in
    let still_slots : g.E.Emit.slots c.down.emit hm ≡ g.E.Emit.slots c.down.emit h = g.met.E.Emit.slots_own c.down.emit h hm (same_beside c.args.c.now.tracker (g.E.Emit.client c.down.emit) h hm s sm beside.apart c.reserve_top.ensures.leaves) in
    let reserved : KeepSlots (g.E.Emit.client c.args.emit.now) (slots_both (both c.args.left.now c.args.right.now h0 s0)) (slots_both (both c.down.left c.down.right hm sm)) (g.E.Emit.slots c.args.emit.now h0) (g.E.Emit.slots c.down.emit hm) =
    keep_then _ _ _ _ _ _ _ c.down.invariant.slots (keep_own (g.E.Emit.client c.args.emit.now) _ _ _ _ c.reserve_top.ensures.slots still_slots) in
    record {
      err = any_err c.from_residual.result some;
      op = c.advance.ensures.hands.op;
      leaves = beside_more c.args.c.now.tracker _ _ _ _ _ _ _ _ mid.stands.client_same mid.leaves c.advance.ensures.hands.leaves;
      emitter = stands_then _ _ _ _ _ _ _ _ _ _ _ _ _ _ mid.stands c.advance.ensures.hands.emitter;
      slots = keep_after _ _ _ _ _ _ _ _ c.down.invariant.gone.stands.client_same reserved c.advance.ensures.hands.slots;
      alone = λ none.
          let h0 = g.St.Store.holds c.args.store.now in
          let s0 = g.St.Store.signs c.args.store.now in
          let h = g.St.Store.holds c.down.store in
          let s = g.St.Store.signs c.down.store in
          let hm = g.St.Store.holds c.reserve_top.new.store in
          let sm = g.St.Store.signs c.reserve_top.new.store in
          let was = c.down.invariant.gone in
          let sums : slots_both (both c.down.left c.down.right hm sm) ≡ slots_both (both c.args.left.now c.args.right.now h0 s0) = c.reserve_top.ensures.slots ∙ c.down.invariant.slots.alone none in
          let want : IsWantOf c.args.left.now.page_blocks (slots_both (both c.args.left.now c.args.right.now h0 s0)) c.in_err-advance.field-0.0 =
          subst (λ (n : ℕ). IsWantOf n (slots_both (both c.args.left.now c.args.right.now h0 s0)) c.in_err-advance.field-0.0) was.blocks
          (subst (λ (o : Option ℕ). IsWantOf c.down.left.page_blocks o c.in_err-advance.field-0.0) sums (c.in_err-advance.ensures.hands.alone (was.stands.client_same ∙ none))) in
          handed_err _ c.from_residual.result c.in_err-advance.field-0.0 c.from_residual.ensures want;
      want = λ same.
          let h0 = g.St.Store.holds c.args.store.now in
          let s0 = g.St.Store.signs c.args.store.now in
          let h = g.St.Store.holds c.down.store in
          let s = g.St.Store.signs c.down.store in
          let hm = g.St.Store.holds c.reserve_top.new.store in
          let sm = g.St.Store.signs c.reserve_top.new.store in
          let beside : IsBeside c.args.c.now.tracker (g.E.Emit.client c.down.emit) h = down_beside (c.down.emit ≡ c.args.emit.now) c.args.c.now c.args.shape.now _ _ _ _ _ _ _ _ (both c.args.left.now c.args.right.now h0 s0) (both c.down.left c.down.right h s) c.down.invariant.gone c.requires.may.emits.emitter in
          let still : (taken : List (List Value)) → g.E.Emit.took c.down.emit h taken → g.E.Emit.took c.down.emit hm taken =
          λ taken. g.met.E.Emit.asks_own c.down.emit h hm taken (same_beside c.args.c.now.tracker (g.E.Emit.client c.down.emit) h hm s sm beside.apart c.reserve_top.ensures.leaves) in
          let mid : HasGoneDown (c.down.emit ≡ c.args.emit.now) c.args.c.now c.args.shape.now (g.E.Emit.admits c.args.emit.now) (g.E.Emit.admits c.down.emit) (g.E.Emit.client c.args.emit.now) (g.E.Emit.client c.down.emit) (g.E.Emit.faults c.args.emit.now) (g.E.Emit.faults c.down.emit) (g.E.Emit.creates c.args.emit.now) (g.E.Emit.creates c.down.emit) (g.E.Emit.took c.args.emit.now h0) (g.E.Emit.took c.down.emit hm) (both c.args.left.now c.args.right.now h0 s0) (both c.down.left c.down.right hm sm) =
          down_reserved (c.down.emit ≡ c.args.emit.now) c.args.c.now c.args.shape.now _ _ _ _ _ _ _ (g.E.Emit.took c.down.emit h) (both c.args.left.now c.args.right.now h0 s0) (both c.down.left c.down.right h s) c.down.invariant.gone (g.E.Emit.took c.down.emit hm) hm sm c.requires.may.emits.emitter c.reserve_top.ensures.leaves still
          c.reserve_top.ensures.between c.reserve_top.ensures.op c.reserve_top.ensures.first c.reserve_top.ensures.shows c.reserve_top.ensures.made in
          let still_slots : g.E.Emit.slots c.down.emit hm ≡ g.E.Emit.slots c.down.emit h = g.met.E.Emit.slots_own c.down.emit h hm (same_beside c.args.c.now.tracker (g.E.Emit.client c.down.emit) h hm s sm beside.apart c.reserve_top.ensures.leaves) in
          let reserved : KeepSlots (g.E.Emit.client c.args.emit.now) (slots_both (both c.args.left.now c.args.right.now h0 s0)) (slots_both (both c.down.left c.down.right hm sm)) (g.E.Emit.slots c.args.emit.now h0) (g.E.Emit.slots c.down.emit hm) =
          keep_then _ _ _ _ _ _ _ c.down.invariant.slots (keep_own (g.E.Emit.client c.args.emit.now) _ _ _ _ c.reserve_top.ensures.slots still_slots) in
          handed_err _ c.from_residual.result c.in_err-advance.field-0.0 c.from_residual.ensures
          (subst (λ (o : Option ℕ). IsWantOf c.args.left.now.page_blocks o c.in_err-advance.field-0.0) reserved.sum (subst (λ (n : ℕ). IsWantOf n (with_more (g.E.Emit.slots c.down.emit hm) (slots_both (both c.down.left c.down.right hm sm))) c.in_err-advance.field-0.0) mid.blocks (c.in_err-advance.ensures.hands.want (same ∙ sym mid.blocks))));
      enough = (let some : 0 < length_of c.args.left.now.page_blocks h0 = some_len c.args.left.now.page_blocks h0.block_len c.requires.may.op.sized (let least = c.block_len-len.ensures.least in let value = c.block_len-len.ensures.value in omega (arith, least, value)) in
          handed_err _ c.from_residual.result c.in_err-advance.field-0.0 c.from_residual.ensures
          (λ lefts rights shows.
          let first = mid.rows lefts rights shows in
          advances_some c.args.shape.now (g.E.Emit.took c.args.emit.now h0) (g.E.Emit.took c.down.emit hm) (Crowds (g.E.Emit.slots_for c.args.emit.now) (slots_by (both c.args.left.now c.args.right.now h0 s0) lefts rights) (with_more (g.E.Emit.slots c.args.emit.now h0) (slots_both (both c.args.left.now c.args.right.now h0 s0))) c.in_err-advance.field-0.0) lefts rights (both c.args.left.now c.args.right.now h0 s0) (both c.down.left c.down.right hm sm) first
          (some_more_of (g.E.Emit.took c.down.emit hm) (pairs_down c.args.shape.now (length c.down.left.streams) first.lefts_now first.rights_now) (g.E.Emit.slots_for c.args.emit.now) (g.E.Emit.slots_for c.down.emit) (slots_by (both c.down.left c.down.right hm sm) first.lefts_now first.rights_now) (slots_by (both c.args.left.now c.args.right.now h0 s0) lefts rights) _ _ c.in_err-advance.field-0.0 c.down.invariant.most
          (by_fewer (both c.args.left.now c.args.right.now h0 s0) (both c.down.left c.down.right hm sm) lefts rights first.lefts_now first.rights_now mid.blocks mid.leaves.block_len some first.lighter) reserved.sum (c.in_err-advance.ensures.hands.enough first.lefts_now first.rights_now first.shows))));
      most = λ rows. c.advance.ensures.hands.most rows ∙ c.down.invariant.most rows;
      cause = handed_err _ c.from_residual.result c.in_err-advance.field-0.0 c.from_residual.ensures came;
    }

pub returns-clause-hands : goal.returns-clause-hands
returns-clause-hands g c =
    record {
      err = search rules;
      op = c.down.invariant.gone.op;
      leaves = c.down.invariant.gone.leaves;
      emitter = c.down.invariant.gone.stands;
      slots = c.down.invariant.slots;
      alone = search rules;
      want = search rules;
      enough = search rules;
      most = search rules;
      cause = search rules;
    }

pub returns-clause-ok : goal.returns-clause-ok
returns-clause-ok g c =
    λ lefts rights shows.
    let end = c.down-test.false in
    let len = c.len.ensures in
    let h0 = g.St.Store.holds c.args.store.now in
    let s0 = g.St.Store.signs c.args.store.now in
    let h = g.St.Store.holds c.down.store in
    let s = g.St.Store.signs c.down.store in
    advances_all c.args.shape.now (g.E.Emit.took c.args.emit.now h0) (g.E.Emit.took c.down.emit h) lefts rights (both c.args.left.now c.args.right.now h0 s0) (both c.down.left c.down.right h s) (omega (arith, end, len)) (c.down.invariant.gone.rows lefts rights shows)

pub returns-clause-first : goal.returns-clause-first
returns-clause-first g c = c.down.invariant.gone.first

pub returns-clause-closed : goal.returns-clause-closed
returns-clause-closed g c = c.down.invariant.gone.between

pub returns-in_err-advance-clause-made : goal.returns-in_err-advance-clause-made
returns-in_err-advance-clause-made g c =
    λ lefts rights shows.
    let h0 = g.St.Store.holds c.args.store.now in
    let s0 = g.St.Store.signs c.args.store.now in
    let h = g.St.Store.holds c.down.store in
    let s = g.St.Store.signs c.down.store in
    let hm = g.St.Store.holds c.reserve_top.new.store in
    let sm = g.St.Store.signs c.reserve_top.new.store in
    let beside : IsBeside c.args.c.now.tracker (g.E.Emit.client c.down.emit) h = down_beside (c.down.emit ≡ c.args.emit.now) c.args.c.now c.args.shape.now _ _ _ _ _ _ _ _ (both c.args.left.now c.args.right.now h0 s0) (both c.down.left c.down.right h s) c.down.invariant.gone c.requires.may.emits.emitter in
    let still : (taken : List (List Value)) → g.E.Emit.took c.down.emit h taken → g.E.Emit.took c.down.emit hm taken =
    λ taken. g.met.E.Emit.asks_own c.down.emit h hm taken (same_beside c.args.c.now.tracker (g.E.Emit.client c.down.emit) h hm s sm beside.apart c.reserve_top.ensures.leaves) in
    let mid : HasGoneDown (c.down.emit ≡ c.args.emit.now) c.args.c.now c.args.shape.now (g.E.Emit.admits c.args.emit.now) (g.E.Emit.admits c.down.emit) (g.E.Emit.client c.args.emit.now) (g.E.Emit.client c.down.emit) (g.E.Emit.faults c.args.emit.now) (g.E.Emit.faults c.down.emit) (g.E.Emit.creates c.args.emit.now) (g.E.Emit.creates c.down.emit) (g.E.Emit.took c.args.emit.now h0) (g.E.Emit.took c.down.emit hm) (both c.args.left.now c.args.right.now h0 s0) (both c.down.left c.down.right hm sm) =
    down_reserved (c.down.emit ≡ c.args.emit.now) c.args.c.now c.args.shape.now _ _ _ _ _ _ _ (g.E.Emit.took c.down.emit h) (both c.args.left.now c.args.right.now h0 s0) (both c.down.left c.down.right h s) c.down.invariant.gone (g.E.Emit.took c.down.emit hm) hm sm c.requires.may.emits.emitter c.reserve_top.ensures.leaves still
    c.reserve_top.ensures.between c.reserve_top.ensures.op c.reserve_top.ensures.first c.reserve_top.ensures.shows c.reserve_top.ensures.made in
    let first = mid.rows lefts rights shows in
    advances_made (g.E.Emit.creates c.advance.new.emit) c.args.shape.now (g.E.Emit.took c.args.emit.now h0) (g.E.Emit.took c.down.emit hm) lefts rights (both c.args.left.now c.args.right.now h0 s0) (both c.down.left c.down.right hm sm) (g.St.Store.signs c.advance.new.store) first
    (c.advance.ensures.made first.lefts_now first.rights_now first.shows)

pub returns-clause-made : goal.returns-clause-made
returns-clause-made g c =
    λ lefts rights shows.
    advances_few c.args.shape.now (g.E.Emit.took c.args.emit.now (g.St.Store.holds c.args.store.now)) (g.E.Emit.took c.down.emit (g.St.Store.holds c.down.store)) lefts rights (both c.args.left.now c.args.right.now (g.St.Store.holds c.args.store.now) (g.St.Store.signs c.args.store.now)) (both c.down.left c.down.right (g.St.Store.holds c.down.store) (g.St.Store.signs c.down.store)) (c.down.invariant.gone.rows lefts rights shows)
