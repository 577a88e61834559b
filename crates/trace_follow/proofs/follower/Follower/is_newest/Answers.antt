use Rattle.std.proofs.Common.{◌≡◌, ◌↔◌, IsTrue, Some, subst, ℕ, Option, rules}
use Rattle.std.specs.FinMap.{get}
use Rattle.trace_follow.proofs.Ends.{newest_told}
use Rattle.trace_follow.proofs.follower.Follower.is_newest.Goals as goal

pub returns-in-Some : goal.returns-in-Some
returns-in-Some c = λ s shows.
    let has : get c.args.self.now.dirty c.args.client ≡ Some c.in-Some.queue.now = search rules in
    newest_told c.args.self.now s shows c.args.p c.is_page.result c.args.client c.in-Some.queue.now has
    (subst (λ (found : Option ℕ). IsTrue c.is_page.result ↔ (found ≡ Some c.args.p)) c.newest.ensures c.is_page.ensures)
