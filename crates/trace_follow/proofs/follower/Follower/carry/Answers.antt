use Rattle.std.proofs.Common.{◌≡◌, sym, ◌∙◌, false, true}
use Rattle.trace_follow.proofs.Reserving.{then_ok}
use Rattle.trace_follow.proofs.Moving.{moved_up, moved_down, moved_over, moved_nowhere}
use Rattle.trace_follow.proofs.follower.Follower.carry.Goals as goal

pub returns-then-from-to-clause-shows : goal.returns-then-from-to-clause-shows
returns-then-from-to-clause-shows c s shows sound may = moved_nowhere s c.args.self.now c.args.bytes c.args.from c.args.to c.if-from-to.true shows.trackers

pub returns-then-owns_query-clause-shows : goal.returns-then-owns_query-clause-shows
returns-then-owns_query-clause-shows c =
    then_ok c.lower.result c.lower.ensures.shows (λ step s shows sound may.
    moved_up s sound c.args.maker c.args.bytes c.args.from c.args.to may.own may.own_to c.args.self.now c.lower.new.self c.lower.new.self shows.trackers may.spare c.if-from-to.false
    ((c.owns_query.ensures s shows).0 c.if-owns_query.true) step)

pub returns-then-owns_query-2-clause-shows : goal.returns-then-owns_query-2-clause-shows
returns-then-owns_query-2-clause-shows c =
    then_ok c.raise.result c.raise.ensures.shows (λ step s shows sound may.
    moved_down s sound c.args.maker c.args.bytes c.args.from c.args.to may.own may.own_to c.args.self.now c.raise.new.self c.raise.new.self shows.trackers may.spare c.if-from-to.false
    ((c.owns_query-2.ensures s shows).0 c.if-owns_query-2.true) step)

pub returns-clause-shows : goal.returns-clause-shows
returns-clause-shows c =
    then_ok c.raise-2.result c.raise-2.ensures.shows (λ second s shows sound may.
    moved_over s sound c.args.maker c.args.bytes c.args.from c.args.to may.own may.own_to c.args.self.now c.lower-2.new.self c.raise-2.new.self shows.trackers may.spare c.if-from-to.false
    (λ own. let is : c.owns_query-2.result ≡ true = (c.owns_query-2.ensures s shows).1 own in let no : false ≡ true = sym c.if-owns_query-2.false ∙ is in cc)
    (λ own. let is : c.owns_query.result ≡ true = (c.owns_query.ensures s shows).1 own in let no : false ≡ true = sym c.if-owns_query.false ∙ is in cc)
    c.in_ok-lower.ensures.shows second)
