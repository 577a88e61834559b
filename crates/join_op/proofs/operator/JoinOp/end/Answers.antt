use Rattle.std.proofs.Common.{◌≡◌, ℕ, [], ap, sym, subst, arith}
use Rattle.store_api.specs.Conditions.{IsIdle}
use Rattle.store_api.specs.Holdings.{Holdings}
use Rattle.store_api.specs.Signs.{Signs}
use Rattle.partition_stack.specs.Leaving.{LeavesOthers}
use Rattle.join_op.specs.Operator.{IsOperator, Operator, operator, over_both}
use Rattle.tuple_stream.specs.Families.{AllClosed, family, slots_in}
use Rattle.partition_stack.specs.Stack.{over}
use Rattle.partition_stack.proofs.Making.{ending_makes, few_both}
use Rattle.join_op.proofs.BothSlots.{ended_slots}
use Rattle.join_op.proofs.Ended.{ended_first, ended_idle, ended_leaves, left_ended}
use Rattle.join_op.proofs.operator.JoinOp.end.Goals as goal

pub end-requires-2 : goal.end-requires-2
end-requires-2 g c =
    let me = c.self.inside in
    let h : Holdings = g.St.Store.holds c.args.store.now in
    let s : Signs = g.St.Store.signs c.args.store.now in
    let is : IsOperator (operator me.client me.shape me.left me.right) h s = subst (λ (o : Operator). IsOperator o h s) (sym c.self.view_is) c.requires in
    (left_ended me.client.tracker me.left.streams me.right.streams h (g.St.Store.holds c.end.new.store) (g.St.Store.holds c.end.new.store) s (g.St.Store.signs c.end.new.store) (g.St.Store.signs c.end.new.store) is.owns c.end.ensures).left_shaped

pub returns-clause-idle : goal.returns-clause-idle
returns-clause-idle g c =
    let me = c.self.inside in
    let h : Holdings = g.St.Store.holds c.args.store.now in
    let s : Signs = g.St.Store.signs c.args.store.now in
    let is : IsOperator (operator me.client me.shape me.left me.right) h s = subst (λ (o : Operator). IsOperator o h s) (sym c.self.view_is) c.requires in
    subst (λ (t : ℕ). IsIdle t (g.St.Store.holds c.end-2.new.store)) (ap (λ (o : Operator). o.client.tracker) c.self.view_is)
    (ended_idle me.client.tracker me.left.streams me.right.streams h (g.St.Store.holds c.end.new.store) (g.St.Store.holds c.end-2.new.store) s (g.St.Store.signs c.end.new.store) (g.St.Store.signs c.end-2.new.store) is.owns c.end.ensures c.end-2.ensures is.loans)

pub returns-clause-leaves : goal.returns-clause-leaves
returns-clause-leaves g c =
    let me = c.self.inside in
    let h : Holdings = g.St.Store.holds c.args.store.now in
    let s : Signs = g.St.Store.signs c.args.store.now in
    let is : IsOperator (operator me.client me.shape me.left me.right) h s = subst (λ (o : Operator). IsOperator o h s) (sym c.self.view_is) c.requires in
    subst (λ (t : ℕ). LeavesOthers t h (g.St.Store.holds c.end-2.new.store) s (g.St.Store.signs c.end-2.new.store)) (ap (λ (o : Operator). o.client.tracker) c.self.view_is)
    (ended_leaves me.client.tracker me.left.streams me.right.streams h (g.St.Store.holds c.end.new.store) (g.St.Store.holds c.end-2.new.store) s (g.St.Store.signs c.end.new.store) (g.St.Store.signs c.end-2.new.store) is.owns c.end.ensures c.end-2.ensures)

pub returns-clause-first : goal.returns-clause-first
returns-clause-first g c = λ left right.
    let me = c.self.inside in
    let h : Holdings = g.St.Store.holds c.args.store.now in
    let s : Signs = g.St.Store.signs c.args.store.now in
    let left_closed : AllClosed (over me.left h s) = subst (λ (o : Operator). AllClosed (over o.left h s)) (sym c.self.view_is) left in
    let right_closed : AllClosed (over me.right h s) = subst (λ (o : Operator). AllClosed (over o.right h s)) (sym c.self.view_is) right in
    ended_first (over me.left h s) (over me.right (g.St.Store.holds c.end.new.store) (g.St.Store.signs c.end.new.store)) s.trail (g.St.Store.signs c.end.new.store).trail (g.St.Store.signs c.end-2.new.store).trail left_closed right_closed c.end.ensures.trail c.end-2.ensures.trail

pub returns-clause-slots : goal.returns-clause-slots
returns-clause-slots g c =
    let me = c.self.inside in
    let h : Holdings = g.St.Store.holds c.args.store.now in
    let s : Signs = g.St.Store.signs c.args.store.now in
    let h2 : Holdings = g.St.Store.holds c.end-2.new.store in
    let is : IsOperator (operator me.client me.shape me.left me.right) h s = subst (λ (o : Operator). IsOperator o h s) (sym c.self.view_is) c.requires in
    subst (λ (o : Operator). h2.free_slots ≡ slots_in (over_both o.left o.right h s)) c.self.view_is
    (ended_slots me.client.tracker me.left.streams me.right.streams h (g.St.Store.holds c.end.new.store) h2 s (g.St.Store.signs c.end.new.store) (g.St.Store.signs c.end-2.new.store) is.owns c.end.ensures.touches c.end-2.ensures.touches)

pub returns-clause-few : goal.returns-clause-few
returns-clause-few g c =
    let me = c.self.inside in
    let h = g.St.Store.holds c.args.store.now in
    let s = g.St.Store.signs c.args.store.now in
    let h1 = g.St.Store.holds c.end.new.store in
    let s1 = g.St.Store.signs c.end.new.store in
    let s2 = g.St.Store.signs c.end-2.new.store in
    few_both 0 0 0 s s1 s2 (omega arith) (ending_makes me.client.tracker (over me.left h s) (family [] h1 s1) c.end.ensures) (ending_makes me.client.tracker (over me.right h1 s1) (family [] (g.St.Store.holds c.end-2.new.store) s2) c.end-2.ensures)
