-- A grouping takes partial rows through an inlet, one by one.
use Rattle.std.proofs.Common.{◌≡◌, ◌∙◌, Option, Some, None, List, [], ◌∷◌, ◌++◌, ap, refl, subst, sym, append_assoc, append-nil}
use Rattle.std.specs.Prelude.{All, IfSome, flat_map}
use Rattle.std.proofs.lemmas.List.Concat.{flat_map-append}
use Rattle.std.proofs.lemmas.List.Elements.{All-cons, All-head, All-nil, All-tail}
use Rattle.row_codec.specs.declared.values.Value.{Value}
use Rattle.reservation_tree.specs.declared.errors.PoolErr.{PoolErr}
use Rattle.store_api.specs.Holdings.{Holdings}
use Rattle.store_api.specs.Signs.{Grows, Signs, WasAnswered}
use Rattle.store_api.specs.Tokens.{ClientToken}
use Rattle.store_api.proofs.Answered.{answered_after, answered_before}
use Rattle.partition_stack.specs.Emitting.{LeavesBeside}
use Rattle.partition_stack.specs.Stack.{over}
use Rattle.partition_stack.proofs.Left.{leaves_both}
use Rattle.group_op.specs.Feeding.{IsPartOf}
use Rattle.group_op.specs.Finishing.{LeavesWith}
use Rattle.group_op.specs.Held.{LeavesOthers}
use Rattle.group_op.specs.Operator.{Holds, IsFeeding, IsOperator, IsSame, Operator}
use Rattle.group_op.specs.Pouring.{HasPoured, LeavesStore, Lent, TakesRow}
use Rattle.group_op.proofs.Opened.{had_leaves}

same_none : (op : Operator) → IsSame op op
same_none op = record { client = refl; shape = refl; blocks = refl; levels = refl; many = refl }

same_then : (a b c : Operator) → IsSame a b → IsSame b c → IsSame a c
same_then a b c first then = record {
  client = then.client ∙ first.client;
  shape = then.shape ∙ first.shape;
  blocks = then.blocks ∙ first.blocks;
  levels = then.levels ∙ first.levels;
  many = then.many ∙ first.many;
}

pub feeds_still : (a b : Operator) → IsFeeding a → IsSame a b → IsFeeding b
feeds_still a b feeding same = record { sixteen = same.many ∙ feeding.sixteen; first = same.levels ∙ feeding.first }

stays_left : (op : Operator) (h : Holdings) (s : Signs) → IsOperator op h s → LeavesStore op op h h s s
stays_left op h s is = record { op = is; others = had_leaves op.client.tracker h s; slots = refl }

left_then : (a b c : Operator) (h0 h1 h2 : Holdings) (s0 s1 s2 : Signs) → b.client ≡ a.client → LeavesStore a b h0 h1 s0 s1 → LeavesStore b c h1 h2 s1 s2 → LeavesStore a c h0 h2 s0 s2
left_then a b c h0 h1 h2 s0 s1 s2 client first then = record {
  op = then.op;
  others = leaves_both a.client.tracker h0 h1 h2 s0 s1 s2 first.others (subst (λ (t : ClientToken). LeavesOthers t.tracker h1 h2 s1 s2) client then.others);
  slots = then.slots ∙ first.slots;
}

-- what an operator leaves whose emitter has no client
left_others : (t : _) (old new : Holdings) (before after : Signs) → LeavesBeside t None old new before after → LeavesOthers t old new before after
left_others t old new before after left = record {
  others = record {
    block_len = left.block_len;
    session = left.session;
    query = left.query;
    limit = left.limit;
    live_clients = left.live_clients;
    told = left.told;
    reservation = left.reservation;
    others = λ u other. left.others u (λ same. other (ap Some (sym same))) (λ is. absurd cc);
    alone = λ is. absurd cc;
  };
  grows = left.grows;
  reserved = left.reserved;
  room = left.room;
}

pub left_store : (was now : Operator) (old new : Holdings) (before after : Signs) → IsOperator now new after → LeavesWith was.client.tracker None 0 0 (over was.parts old before) (over now.parts new after) → LeavesStore was now old new before after
left_store was now old new before after is left = record {
  op = is;
  others = left_others was.client.tracker old new before after left.others;
  slots = left.slots.alone refl;
}

-- ---- row by row

-- it took none yet
pub none_poured : (now : Lent) → IsFeeding now.op → IsOperator now.op now.held now.signs → HasPoured [] now now None
none_poured now feeding is = record {
  op_named = refl;
  store_named = refl;
  feeding = feeding;
  same = same_none now.op;
  leaves = stays_left now.op now.held now.signs is;
  cause = tt;
  holds = λ going of mine all holds. subst (λ (rows : List (List Value)). Holds rows now.op now.held now.signs) (sym (append-nil mine)) holds;
}

module _ {X : Type 0} (P : X → Type 0) where
  in_front : (xs : List X) (x : X) → All P (xs ++ x ∷ []) → All P xs
  in_front [] x all = All-nil P
  in_front (y ∷ xs) x all = All-cons P y xs (All-head P y (xs ++ x ∷ []) all) (in_front xs x (All-tail P y (xs ++ x ∷ []) all))

  at_last : (xs : List X) (x : X) → All P (xs ++ x ∷ []) → P x
  at_last [] x all = All-head P x [] all
  at_last (y ∷ xs) x all = at_last xs x (All-tail P y (xs ++ x ∷ []) all)

cause_later : (o : Option PoolErr) (a b c : Signs) → Grows b c → IfSome o (λ e. WasAnswered e a b) → IfSome o (λ e. WasAnswered e a c)
cause_later None a b c grows so = tt
cause_later (Some e) a b c grows so = answered_after e a b c so grows

module _ (was old new : Lent) (op_named : new.op_name ≡ old.op_name) (store_named : new.store_name ≡ old.store_name) (same : IsSame old.op new.op) (left : LeavesStore old.op new.op old.held new.held old.signs new.signs) where
  leaves_on : IsSame was.op old.op → LeavesStore was.op old.op was.held old.held was.signs old.signs → LeavesStore was.op new.op was.held new.held was.signs new.signs
  leaves_on before first = left_then was.op old.op new.op was.held old.held new.held was.signs old.signs new.signs before.client first left

  -- one more
  pub one_poured : (rows : List (List Value)) (row : List Value) (stopped : Option PoolErr) → TakesRow row old.op old.held old.signs new.op new.held new.signs → HasPoured rows was old stopped → HasPoured (rows ++ row ∷ []) was new stopped
  one_poured rows row stopped takes poured = record {
    op_named = op_named ∙ poured.op_named;
    store_named = store_named ∙ poured.store_named;
    feeding = feeds_still old.op new.op poured.feeding same;
    same = same_then was.op old.op new.op poured.same same;
    leaves = leaves_on poured.same poured.leaves;
    cause = cause_later stopped was.signs old.signs new.signs left.others.grows poured.cause;
    holds = λ going of mine all holds.
        let before = poured.holds going of mine (in_front (λ r. IsPartOf was.op.shape r (of r)) rows row all) holds in
        let part : IsPartOf old.op.shape row (of row) = subst (λ shape. IsPartOf shape row (of row)) (sym poured.same.shape) (at_last (λ r. IsPartOf was.op.shape r (of r)) rows row all) in
        let more : (mine ++ flat_map of rows) ++ of row ≡ mine ++ flat_map of (rows ++ row ∷ []) =
        append_assoc mine (flat_map of rows) (of row)
        ∙ ap (λ (rs : List (List Value)). mine ++ (flat_map of rows ++ rs)) (sym (append-nil (of row)))
        ∙ ap (λ (rs : List (List Value)). mine ++ rs) (sym (flat_map-append of rows (row ∷ []))) in
        subst (λ (rs : List (List Value)). Holds rs new.op new.held new.signs) more (takes (mine ++ flat_map of rows) (of row) part before);
  }

  -- it was stopped
  pub stopped_so : (rows : List (List Value)) (e : PoolErr) (stopped : Option PoolErr) → stopped ≡ None → WasAnswered e old.signs new.signs → HasPoured rows was old stopped → HasPoured rows was new (Some e)
  stopped_so rows e stopped none answered poured = record {
    op_named = op_named ∙ poured.op_named;
    store_named = store_named ∙ poured.store_named;
    feeding = feeds_still old.op new.op poured.feeding same;
    same = same_then was.op old.op new.op poured.same same;
    leaves = leaves_on poured.same poured.leaves;
    cause = answered_before e was.signs old.signs new.signs poured.leaves.others.grows answered;
    holds = λ going. absurd cc;
  }
