use Rattle.std.proofs.Common.{◌≡◌, true, false, is_some, ap, refl, sym, ◌∙◌}
use Rattle.trace_follow.proofs.Noting.{stale_answers, stale_refused}
use Rattle.trace_follow.proofs.follower.Follower.read_stale.Goals as goal

pub returns-in_default : goal.returns-in_default
returns-in_default c =
    stale_refused c.args.self.now c.args.maker c.args.wanted c.args.found
    (λ s shows stale. let is : is_some c.stale.result ≡ true = (c.stale.ensures.judges s shows).1 stale in let none : is_some c.stale.result ≡ false = ap is_some c.in_default.is in let both : false ≡ true = sym none ∙ is in cc)

pub returns : goal.returns
returns c =
    stale_answers c.args.self.now c.args.self.now c.note_read.new.self c.put_page.new.self c.enter.new.self c.args.maker c.args.wanted.name c.in-Some.row c.in-Some.ensures.row c.requires
    c.note_read.ensures.rest c.in_ok-note_read.ensures.asked c.in_ok-put_page.ensures c.enter.result c.args.wanted c.args.found refl refl (λ s shows. (c.stale.ensures.judges s shows).0 (ap is_some c.in-Some.is))
    c.enter.ensures.followed c.enter.ensures.counted c.enter.ensures.few
