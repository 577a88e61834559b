use Rattle.std.proofs.Common.{◌≡◌, ◌↔◌, IsTrue, Some, subst, ℕ, Option}
use Rattle.trace_follow.proofs.Ends.{oldest_told}
use Rattle.trace_follow.proofs.follower.Follower.is_oldest.Goals as goal

pub returns : goal.returns
returns c = λ s shows. oldest_told c.args.self.now s shows c.args.p c.is_page.result (subst (λ (found : Option ℕ). IsTrue c.is_page.result ↔ (found ≡ Some c.args.p)) c.oldest.ensures c.is_page.ensures)
