use Rattle.std.proofs.Common.{is_some, ap}
use Rattle.trace_follow.proofs.Noting.{failed_answers}
use Rattle.trace_follow.proofs.follower.Follower.read_failed.Goals as goal

pub returns : goal.returns
returns c =
    failed_answers c.args.self.now c.note_failure.new.self c.note_read.new.self c.put_page.new.self c.enter.new.self c.args.maker c.args.p c.in-Some.row c.in-Some.ensures.row c.requires
    c.note_read.ensures.rest c.in_ok-note_read.ensures.asked c.in_ok-put_page.ensures c.enter.result (λ s shows. (c.loading.ensures.judges s shows).0 (ap is_some c.in-Some.is))
    c.note_failure.ensures.rest c.in_ok-note_failure.ensures.asked c.enter.ensures.followed c.enter.ensures.counted c.enter.ensures.few
