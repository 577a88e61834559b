use Rattle.std.proofs.Common.{◌≡◌, ◌∙◌, ℕ, Option, Some, None, refl, ap, sym, subst, arith}
use Rattle.store_api.specs.Conditions.{IsIdle}
use Rattle.store_api.specs.Holdings.{Holdings}
use Rattle.store_api.specs.Signs.{Signs}
use Rattle.bucket_table.specs.Tables.{Table}
use Rattle.group_op.specs.Held.{LeavesOthers, lent, state}
use Rattle.group_op.specs.Operator.{IsOperator, Operator, operator}
use Rattle.tuple_stream.specs.Families.{AllClosed, slots_in}
use Rattle.partition_stack.specs.Leaving.{MayStart}
use Rattle.partition_stack.specs.Stack.{over}
use Rattle.group_op.proofs.Begun.{closed_first, ended_first}
use Rattle.group_op.proofs.Ended.{again_of, ended_even, ended_idle, ended_leaves, ended_lives, ended_slots, freed_all, freed_even, freed_idle, freed_lives, freed_slots}
use Rattle.group_op.proofs.Made.{closed_none, ended_none}
use Rattle.group_op.proofs.operator.GroupOp.end.Goals as goal

pub returns-in-Some-clause-idle : goal.returns-in-Some-clause-idle
returns-in-Some-clause-idle g c =
    let me = c.self.inside in
    let h : Holdings = g.St.Store.holds c.args.store.now in
    let s : Signs = g.St.Store.signs c.args.store.now in
    let is : IsOperator (operator me.client me.shape me.parts (Some c.in-Some.table)) h s =
    subst (λ (o : Operator). IsOperator o h s) (sym c.self.view_is ∙ ap (λ (x : Option Table). operator me.client me.shape me.parts x) c.in-Some.is) c.requires in
    let held = is.has.0 in
    subst (λ (t : ℕ). IsIdle t (g.St.Store.holds c.close.new.store)) (ap (λ (o : Operator). o.client.tracker) c.self.view_is)
    (freed_idle me.client.tracker (lent (state c.in-Some.table me.parts h s)) me.parts h (g.St.Store.holds c.end.new.store) s (g.St.Store.signs c.end.new.store) held.owns c.end.ensures
    c.in-Some.table (g.St.Store.holds c.close.new.store) s (g.St.Store.signs c.close.new.store) held.client held.loans c.close.ensures.lends)

pub returns-in-Some-clause-leaves : goal.returns-in-Some-clause-leaves
returns-in-Some-clause-leaves g c =
    let me = c.self.inside in
    let h : Holdings = g.St.Store.holds c.args.store.now in
    let s : Signs = g.St.Store.signs c.args.store.now in
    let is : IsOperator (operator me.client me.shape me.parts (Some c.in-Some.table)) h s =
    subst (λ (o : Operator). IsOperator o h s) (sym c.self.view_is ∙ ap (λ (x : Option Table). operator me.client me.shape me.parts x) c.in-Some.is) c.requires in
    let held = is.has.0 in
    subst (λ (t : ℕ). LeavesOthers t h (g.St.Store.holds c.close.new.store) s (g.St.Store.signs c.close.new.store)) (ap (λ (o : Operator). o.client.tracker) c.self.view_is)
    (freed_all me.client.tracker (lent (state c.in-Some.table me.parts h s)) me.parts h (g.St.Store.holds c.end.new.store) s (g.St.Store.signs c.end.new.store) held.owns c.end.ensures
    c.in-Some.table (g.St.Store.holds c.close.new.store) s (g.St.Store.signs c.close.new.store) held.client held.loans c.close.ensures.lends c.close.ensures.grows)

pub returns-in_default-clause-idle : goal.returns-in_default-clause-idle
returns-in_default-clause-idle g c =
    let me = c.self.inside in
    let h : Holdings = g.St.Store.holds c.args.store.now in
    let s : Signs = g.St.Store.signs c.args.store.now in
    let is : IsOperator (operator me.client me.shape me.parts None) h s =
    subst (λ (o : Operator). IsOperator o h s) (sym c.self.view_is ∙ ap (λ (x : Option Table). operator me.client me.shape me.parts x) c.in_default.is) c.requires in
    subst (λ (t : ℕ). IsIdle t (g.St.Store.holds c.end.new.store)) (ap (λ (o : Operator). o.client.tracker) c.self.view_is)
    (ended_idle me.client.tracker 0 me.parts h (g.St.Store.holds c.end.new.store) s (g.St.Store.signs c.end.new.store) is.has.0 c.end.ensures is.has.1)

pub returns-in_default-clause-leaves : goal.returns-in_default-clause-leaves
returns-in_default-clause-leaves g c =
    let me = c.self.inside in
    let h : Holdings = g.St.Store.holds c.args.store.now in
    let s : Signs = g.St.Store.signs c.args.store.now in
    let is : IsOperator (operator me.client me.shape me.parts None) h s =
    subst (λ (o : Operator). IsOperator o h s) (sym c.self.view_is ∙ ap (λ (x : Option Table). operator me.client me.shape me.parts x) c.in_default.is) c.requires in
    subst (λ (t : ℕ). LeavesOthers t h (g.St.Store.holds c.end.new.store) s (g.St.Store.signs c.end.new.store)) (ap (λ (o : Operator). o.client.tracker) c.self.view_is)
    (ended_leaves me.client.tracker 0 me.parts h (g.St.Store.holds c.end.new.store) s (g.St.Store.signs c.end.new.store) is.has.0 c.end.ensures)

pub returns-in-Some-clause-first : goal.returns-in-Some-clause-first
returns-in-Some-clause-first g c = λ closed.
    let h : Holdings = g.St.Store.holds c.args.store.now in
    let s : Signs = g.St.Store.signs c.args.store.now in
    let own : AllClosed (over c.self.inside.parts h s) = subst (λ (o : Operator). AllClosed (over o.parts h s)) (sym c.self.view_is) closed in
    closed_first (over c.self.inside.parts h s) s.trail (g.St.Store.signs c.end.new.store).trail (g.St.Store.signs c.close.new.store).trail own c.end.ensures.trail c.close.ensures.entries

pub returns-in_default-clause-first : goal.returns-in_default-clause-first
returns-in_default-clause-first g c = λ closed.
    let h : Holdings = g.St.Store.holds c.args.store.now in
    let s : Signs = g.St.Store.signs c.args.store.now in
    let own : AllClosed (over c.self.inside.parts h s) = subst (λ (o : Operator). AllClosed (over o.parts h s)) (sym c.self.view_is) closed in
    ended_first (over c.self.inside.parts h s) s.trail (g.St.Store.signs c.end.new.store).trail own c.end.ensures.trail

pub returns-in-Some-clause-slots : goal.returns-in-Some-clause-slots
returns-in-Some-clause-slots g c =
    let me = c.self.inside in
    let h : Holdings = g.St.Store.holds c.args.store.now in
    let s : Signs = g.St.Store.signs c.args.store.now in
    let is : IsOperator (operator me.client me.shape me.parts (Some c.in-Some.table)) h s =
    subst (λ (o : Operator). IsOperator o h s) (sym c.self.view_is ∙ ap (λ (x : Option Table). operator me.client me.shape me.parts x) c.in-Some.is) c.requires in
    let held = is.has.0 in
    subst (λ (o : Operator). (g.St.Store.holds c.close.new.store).free_slots ≡ slots_in (over o.parts h s)) c.self.view_is
    (freed_slots me.client.tracker (lent (state c.in-Some.table me.parts h s)) me.parts h (g.St.Store.holds c.end.new.store) s (g.St.Store.signs c.end.new.store) held.owns c.end.ensures
    c.in-Some.table (g.St.Store.holds c.close.new.store) s (g.St.Store.signs c.close.new.store) held.client held.loans c.close.ensures.lends)

pub returns-in_default-clause-slots : goal.returns-in_default-clause-slots
returns-in_default-clause-slots g c =
    let me = c.self.inside in
    let h : Holdings = g.St.Store.holds c.args.store.now in
    let s : Signs = g.St.Store.signs c.args.store.now in
    let is : IsOperator (operator me.client me.shape me.parts None) h s =
    subst (λ (o : Operator). IsOperator o h s) (sym c.self.view_is ∙ ap (λ (x : Option Table). operator me.client me.shape me.parts x) c.in_default.is) c.requires in
    subst (λ (o : Operator). (g.St.Store.holds c.end.new.store).free_slots ≡ slots_in (over o.parts h s)) c.self.view_is
    (ended_slots me.client.tracker 0 me.parts h (g.St.Store.holds c.end.new.store) s (g.St.Store.signs c.end.new.store) is.has.0 c.end.ensures)

pub returns-in-Some-clause-again : goal.returns-in-Some-clause-again
returns-in-Some-clause-again g c =
    let me = c.self.inside in
    let h : Holdings = g.St.Store.holds c.args.store.now in
    let s : Signs = g.St.Store.signs c.args.store.now in
    let is : IsOperator (operator me.client me.shape me.parts (Some c.in-Some.table)) h s =
    subst (λ (o : Operator). IsOperator o h s) (sym c.self.view_is ∙ ap (λ (x : Option Table). operator me.client me.shape me.parts x) c.in-Some.is) c.requires in
    let held = is.has.0 in
    subst (λ (o : Operator). MayStart o.client o.parts.page_blocks (g.St.Store.holds c.close.new.store)) c.self.view_is
    (again_of me.client me.parts.page_blocks h (g.St.Store.holds c.close.new.store) s (g.St.Store.signs c.close.new.store) is.least
    (freed_all me.client.tracker (lent (state c.in-Some.table me.parts h s)) me.parts h (g.St.Store.holds c.end.new.store) s (g.St.Store.signs c.end.new.store) held.owns c.end.ensures
    c.in-Some.table (g.St.Store.holds c.close.new.store) s (g.St.Store.signs c.close.new.store) held.client held.loans c.close.ensures.lends c.close.ensures.grows)
    (freed_lives me.client.tracker (lent (state c.in-Some.table me.parts h s)) me.parts h (g.St.Store.holds c.end.new.store) s (g.St.Store.signs c.end.new.store) held.owns c.end.ensures
    c.in-Some.table (g.St.Store.holds c.close.new.store) s (g.St.Store.signs c.close.new.store) held.client held.loans c.close.ensures.lends)
    (freed_idle me.client.tracker (lent (state c.in-Some.table me.parts h s)) me.parts h (g.St.Store.holds c.end.new.store) s (g.St.Store.signs c.end.new.store) held.owns c.end.ensures
    c.in-Some.table (g.St.Store.holds c.close.new.store) s (g.St.Store.signs c.close.new.store) held.client held.loans c.close.ensures.lends)
    (freed_even me.client.tracker (lent (state c.in-Some.table me.parts h s)) me.parts h (g.St.Store.holds c.end.new.store) s (g.St.Store.signs c.end.new.store) held.owns c.end.ensures
    c.in-Some.table (g.St.Store.holds c.close.new.store) s (g.St.Store.signs c.close.new.store) held.client held.loans c.close.ensures.lends refl))

pub returns-in_default-clause-again : goal.returns-in_default-clause-again
returns-in_default-clause-again g c =
    let me = c.self.inside in
    let h : Holdings = g.St.Store.holds c.args.store.now in
    let s : Signs = g.St.Store.signs c.args.store.now in
    let is : IsOperator (operator me.client me.shape me.parts None) h s =
    subst (λ (o : Operator). IsOperator o h s) (sym c.self.view_is ∙ ap (λ (x : Option Table). operator me.client me.shape me.parts x) c.in_default.is) c.requires in
    let even = ended_even me.client.tracker 0 me.parts h (g.St.Store.holds c.end.new.store) s (g.St.Store.signs c.end.new.store) is.has.0 c.end.ensures in
    subst (λ (o : Operator). MayStart o.client o.parts.page_blocks (g.St.Store.holds c.end.new.store)) c.self.view_is
    (again_of me.client me.parts.page_blocks h (g.St.Store.holds c.end.new.store) s (g.St.Store.signs c.end.new.store) is.least
    (ended_leaves me.client.tracker 0 me.parts h (g.St.Store.holds c.end.new.store) s (g.St.Store.signs c.end.new.store) is.has.0 c.end.ensures)
    (ended_lives me.client.tracker 0 me.parts h (g.St.Store.holds c.end.new.store) s (g.St.Store.signs c.end.new.store) is.has.0 c.end.ensures)
    (ended_idle me.client.tracker 0 me.parts h (g.St.Store.holds c.end.new.store) s (g.St.Store.signs c.end.new.store) is.has.0 c.end.ensures is.has.1)
    (omega (arith, even)))

pub returns-in-Some-clause-entries : goal.returns-in-Some-clause-entries
returns-in-Some-clause-entries g c =
    let h : Holdings = g.St.Store.holds c.args.store.now in
    let s : Signs = g.St.Store.signs c.args.store.now in
    closed_none (over c.self.inside.parts h s) s.trail (g.St.Store.signs c.end.new.store).trail (g.St.Store.signs c.close.new.store).trail c.end.ensures.trail c.close.ensures.entries

pub returns-in_default-clause-entries : goal.returns-in_default-clause-entries
returns-in_default-clause-entries g c =
    let h : Holdings = g.St.Store.holds c.args.store.now in
    let s : Signs = g.St.Store.signs c.args.store.now in
    ended_none (over c.self.inside.parts h s) s.trail (g.St.Store.signs c.end.new.store).trail c.end.ensures.trail
