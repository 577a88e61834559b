use Rattle.std.proofs.Common.{◌≡◌, ◌<◌, ◌∙◌, arith, rules}
use Rattle.trace_follow.proofs.follower.Follower.may_create.Goals as goal

pub returns : goal.returns
returns c = λ s shows.
    let next : c.args.p ≡ c.args.self.now.next_name = search rules in
    let left : c.args.p < 18446744073709551615 = omega arith in (
      λ is. record { next = next ∙ shows.next_name; left = left; own = (c.owns_client.ensures s shows).0 c.if-not-owns_client.false; takes = (c.can_take.ensures s shows).0 is },
      λ may. (c.can_take.ensures s shows).1 may.takes,
    )
