use Rattle.std.proofs.Common.{◌∙◌, ap, sym, subst, true≢false}
use Rattle.std.specs.Prelude.{slice_get}
use Rattle.std.proofs.lemmas.Option.{none-some}
use Rattle.partition_stack.specs.Stack.{Stack}
use Rattle.join_op.specs.FinishCalls.{Finishes, MayFinish}
use Rattle.join_op.specs.Operator.{Operator, operator}
use Rattle.join_op.proofs.operator.JoinOp.finish.Goals as goal

pub invariant_of-self : goal.invariant_of-self
invariant_of-self g c =
    record {
      on_left = c.self.invariant.on_left;
      on_right = c.self.invariant.on_right;
      rests = λ set i s there below. absurd (none-some s (sym (ap (λ (p : Stack). slice_get p.streams i) c.finish_sides.ensures.none.0) ∙ there));
      before = λ unset. absurd (true≢false (sym c.finish_sides.ensures.none.1 ∙ unset));
    }

pub finish_sides-requires-clause-may : goal.finish_sides-requires-clause-may
finish_sides-requires-clause-may g c =
    subst (λ (join : Operator). MayFinish g.St.Store g.E.Emit join c.args.emit.now c.args.store.now) (sym c.self.view_is)
    (record {
      op = c.requires.op;
      feeding = c.requires.feeding;
      emits = record { emitter = c.requires.emitter; stands = c.requires.stands; admits = c.requires.admits };
    })

pub returns : goal.returns
returns g c =
    subst (λ (join : Operator). Finishes g.St.Store g.E.Emit join (operator c.self.inside.client c.self.inside.shape c.finish_sides.new.left c.finish_sides.new.right) c.args.emit.now c.finish_sides.new.emit c.args.store.now c.finish_sides.new.store c.finish_sides.result)
    c.self.view_is c.finish_sides.ensures.finishes
