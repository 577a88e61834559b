use Rattle.std.proofs.Common.{◌≡◌, true, false, refl, sym, ◌∙◌, subst, Option}
use Rattle.pool_model.specs.Legal.{state_after}
use Rattle.trace_follow.specs.declared.rows.Want.{Want}
use Rattle.trace_follow.specs.Wanting.{Wants}
use Rattle.trace_follow.proofs.Refusing.{lacking_room, read_failed}
use Rattle.trace_follow.proofs.follower.Follower.may_refuse.Goals as goal

pub returns-then-lacks_room : goal.returns-then-lacks_room
returns-then-lacks_room c o h stands sound = (
  λ is. lacking_room c.args.self.now o h stands c.args.maker c.args.call.now c.args.entry (sym c.has_asked.ensures ∙ c.if-not-has_asked.false) c.in-Some.want
      (subst (λ (w : Option Want). Wants (state_after o h) c.args.maker c.args.call.now w) c.in-Some.is (c.wants.ensures o h stands sound)) (c.lacks_room.ensures.0 c.if-lacks_room.true),
  λ may. refl,
)

pub returns : goal.returns
returns c o h stands sound =
    read_failed c.args.self.now o h stands c.args.maker c.args.call.now c.args.entry (sym c.has_asked.ensures ∙ c.if-not-has_asked.false) c.in-Some.want
    (subst (λ (w : Option Want). Wants (state_after o h) c.args.maker c.args.call.now w) c.in-Some.is (c.wants.ensures o h stands sound))
    c.failed_to_load.result c.failed_to_load.ensures
    (λ lacks. let on : c.lacks_room.result ≡ true = c.lacks_room.ensures.1 lacks in let both : false ≡ true = sym c.if-lacks_room.false ∙ on in cc)
