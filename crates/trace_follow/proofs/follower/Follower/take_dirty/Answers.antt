use Rattle.std.proofs.Common.{◌≡◌, None, ap, rules}
use Rattle.std.specs.Ordering.{nat_cmp}
use Rattle.std.specs.FinMap.{FinMap, get, remove}
use Rattle.trace_follow.specs.Queues.{Queue}
use Rattle.trace_follow.proofs.Taking.{none_taken}
use Rattle.trace_follow.proofs.follower.Follower.take_dirty.Goals as goal

pub returns-in_default : goal.returns-in_default
returns-in_default c =
    let none : get c.args.self.now.dirty c.args.client ≡ None = search rules in
    let gone : c.take.new.self ≡ remove c.args.self.now.dirty c.args.client = search rules in
    let same : record c.args.self.now { dirty = c.take.new.self } ≡ record c.args.self.now { dirty = remove c.args.self.now.dirty c.args.client } =
    ap (λ (d : FinMap nat_cmp Queue). record c.args.self.now { dirty = d }) gone in
    none_taken c.args.self.now (record c.args.self.now { dirty = c.take.new.self }) c.args.client c.args.stamp none same
