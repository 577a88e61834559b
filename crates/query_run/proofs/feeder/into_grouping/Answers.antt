use Rattle.std.proofs.Common.{◌≡◌, ◌∙◌, Option, subst, sym}
use Rattle.store_api.specs.Emitters.{slots_with}
use Rattle.partition_stack.proofs.Making.{few_none}
use Rattle.group_op.specs.Operator.{Operator}
use Rattle.query_run.specs.Feeder.{slots_in}
use Rattle.query_run.proofs.Counted.{names_none}
use Rattle.query_run.proofs.Feeders.{feeds_here, it_feeds, none_with, slots_here}
use Rattle.query_run.proofs.feeder.into_grouping.Goals as goal

pub end-client-requires : goal.end-client-requires
end-client-requires g c =
    let feeds = (it_feeds c.args.feeder.op c.args.feeder.client c.in-Ok.op g.B.Whose.client g.B.Whose.shape g.B.Whose.blocks c.args.feeder _ _ c.in-Ok.ensures.ok.0 c.requires.took.1).1 in
    feeds_here g.B.Whose.client g.B.Whose.shape g.B.Whose.blocks c.in-Ok.op _ _ _ c.law_asks_own.ensures.law _ feeds

pub returns-in_default-clause-made : goal.returns-in_default-clause-made
returns-in_default-clause-made g c = few_none (g.St.Store.signs c.args.store.now)

pub returns-clause-made : goal.returns-clause-made
returns-clause-made g c = names_none (g.St.Store.signs c.args.store.now) (g.St.Store.signs c.end-client.new.store) c.end-client.ensures.entries

pub returns-in_default-clause-slots : goal.returns-in_default-clause-slots
returns-in_default-clause-slots g c =
    let feeder = c.args.feeder in
    let h = g.St.Store.holds c.args.store.now in
    let s = g.St.Store.signs c.args.store.now in
    let feeds = (it_feeds feeder.op feeder.client c.in-Ok.op g.B.Whose.client g.B.Whose.shape g.B.Whose.blocks feeder _ _ c.in-Ok.ensures.ok.0 c.requires.took.1).1 in
    slots_here g.B.Whose.client c.in-Ok.op h s feeds.client (feeds_here g.B.Whose.client g.B.Whose.shape g.B.Whose.blocks c.in-Ok.op feeder h s c.law_asks_own.ensures.law _ feeds) feeder.op c.in-Ok.ensures.ok.0

pub returns-in-Err-clause-free : goal.returns-in-Err-clause-free
returns-in-Err-clause-free g c =
    let h = g.St.Store.holds c.args.store.now in
    subst (λ (o : Option Operator). h.free_slots ≡ slots_with (slots_in o g.B.Whose.client.tracker h) h) (sym c.in-Err.ensures.err.0) (sym (none_with h.free_slots))

pub returns-clause-free : goal.returns-clause-free
returns-clause-free g c =
    let feeder = c.args.feeder in
    let h = g.St.Store.holds c.args.store.now in
    let s = g.St.Store.signs c.args.store.now in
    let feeds = (it_feeds feeder.op feeder.client c.in-Ok.op g.B.Whose.client g.B.Whose.shape g.B.Whose.blocks feeder _ _ c.in-Ok.ensures.ok.0 c.requires.took.1).1 in
    c.end-client.ensures.slots ∙ slots_here g.B.Whose.client c.in-Ok.op h s feeds.client (feeds_here g.B.Whose.client g.B.Whose.shape g.B.Whose.blocks c.in-Ok.op feeder h s c.law_asks_own.ensures.law _ feeds) feeder.op c.in-Ok.ensures.ok.0
