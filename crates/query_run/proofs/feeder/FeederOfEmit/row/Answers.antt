use Rattle.std.proofs.Common.{◌≡◌, ◌∙◌, ◌+◌, ◌++◌, [], ◌∷◌, List, Option, Some, inl, refl, subst, sym, arith, rules}
use Rattle.partition_stack.specs.Leaving.{CameOfStore}
use Rattle.store_api.specs.Tokens.{ClientToken}
use Rattle.row_codec.specs.declared.values.Value.{Value}
use Rattle.store_api.specs.Emitters.{slots_with}
use Rattle.tuple_stream.specs.Families.{slots_in as all_slots_in}
use Rattle.partition_stack.specs.Slots.{IsWantBelowOf, IsWantOf}
use Rattle.partition_stack.specs.Stack.{over}
use Rattle.group_op.specs.Operator.{Holds, Operator, slots_for}
use Rattle.query_run.specs.Feeder.{TookOf, slots_in}
use Rattle.query_run.proofs.Feeders.{came_so, feeds_here, grew_by, grew_ended, grew_with, grew_without, it_feeds, leaves_ended, none_with, others_fed, row_wants, slots_ended, slots_fed, took_ended, took_one}
use Rattle.query_run.proofs.feeder.FeederOfEmit.row.Goals as goal

pub feed-fed-requires-clause-op : goal.feed-fed-requires-clause-op
feed-fed-requires-clause-op g c =
    let feeds = (it_feeds _ c.args.self.now.feeder.client c.in-Some.op g.B.Whose.client g.B.Whose.shape g.B.Whose.blocks c.args.self.now.feeder _ _ c.in-Some.is c.requires.stands.1).1 in
    feeds_here g.B.Whose.client g.B.Whose.shape g.B.Whose.blocks c.in-Some.op _ _ _ c.law_asks_own.ensures.law _ feeds

pub returns-in_default-fed-clause-ok : goal.returns-in_default-fed-clause-ok
returns-in_default-fed-clause-ok g c = λ rows took.
    let both = it_feeds _ c.args.self.now.feeder.client c.in-Some.op g.B.Whose.client g.B.Whose.shape g.B.Whose.blocks c.args.self.now.feeder _ rows c.in-Some.is took in
    let fits = c.may_take.ensures c.if-not-may_take.false both.1.short in
    let now = took_one g.B.Whose.client g.B.Whose.shape g.B.Whose.blocks c.in-Some.op c.feed-fed.new.self c.args.self.now.feeder (record c.args.self.now.feeder { op = Some c.feed-fed.new.self; taken = c.args.self.now.feeder.taken + 1 }) _ (g.St.Store.holds c.feed-fed.new.store) _ (g.St.Store.signs c.feed-fed.new.store) c.args.row.now c.law_asks_own.ensures.law c.law_scratch.ensures.pages
    (let least = c.block_len-len.ensures.least in let value = c.block_len-len.ensures.value in omega (arith, least, value)) c.requires.admits fits.1 refl refl refl c.feed-fed.ensures.same c.feed-fed.ensures.leaves c.feed-fed.ensures.op c.law_stack.ensures c.in_default-fed.ensures.holds rows both.1 in
    subst (λ (b : Option ClientToken). TookOf (Some c.feed-fed.new.self) b g.B.Whose.client g.B.Whose.shape g.B.Whose.blocks (record c.args.self.now.feeder { op = Some c.feed-fed.new.self; taken = c.args.self.now.feeder.taken + 1 }) (g.St.Store.holds c.feed-fed.new.store) (rows ++ c.args.row.now ∷ [])) (sym both.0) now

pub returns-in_default-fed-clause-others : goal.returns-in_default-fed-clause-others
returns-in_default-fed-clause-others g c =
    let feeds = (it_feeds _ c.args.self.now.feeder.client c.in-Some.op g.B.Whose.client g.B.Whose.shape g.B.Whose.blocks c.args.self.now.feeder _ _ c.in-Some.is c.requires.stands.1).1 in
    others_fed g.B.Whose.client g.B.Whose.shape g.B.Whose.blocks c.in-Some.op c.feed-fed.new.self _ _ _ _ _ c.law_asks_own.ensures.law _ feeds c.feed-fed.ensures.leaves

pub returns-in_default-fed-clause-slots : goal.returns-in_default-fed-clause-slots
returns-in_default-fed-clause-slots g c =
    let feeds = (it_feeds _ c.args.self.now.feeder.client c.in-Some.op g.B.Whose.client g.B.Whose.shape g.B.Whose.blocks c.args.self.now.feeder _ _ c.in-Some.is c.requires.stands.1).1 in
    slots_fed g.B.Whose.client c.in-Some.op c.feed-fed.new.self (g.St.Store.holds c.args.store.now) (g.St.Store.holds c.feed-fed.new.store) (g.St.Store.signs c.args.store.now) (g.St.Store.signs c.feed-fed.new.store) feeds.client (feeds_here g.B.Whose.client g.B.Whose.shape g.B.Whose.blocks c.in-Some.op _ _ _ c.law_asks_own.ensures.law _ feeds)
    c.args.self.now.feeder.op c.in-Some.is (c.feed-fed.ensures.same.client ∙ feeds.client) c.feed-fed.ensures.op c.feed-fed.ensures.slots

pub returns-in_default-fed-clause-grows : goal.returns-in_default-fed-clause-grows
returns-in_default-fed-clause-grows g c =
    let feeds = (it_feeds _ c.args.self.now.feeder.client c.in-Some.op g.B.Whose.client g.B.Whose.shape g.B.Whose.blocks c.args.self.now.feeder _ _ c.in-Some.is c.requires.stands.1).1 in
    grew_with (Some g.B.Whose.client.tracker) c.args.self.now.feeder.op c.in-Some.op c.args.self.now.feeder.taken _ _ _ c.in-Some.is
    (grew_by g.B.Whose.client g.B.Whose.shape g.B.Whose.blocks c.in-Some.op c.feed-fed.new.self _ _ _ _ _ c.law_asks_own.ensures.law _ feeds c.feed-fed.ensures.leaves c.feed-fed.ensures.makes)

pub returns-clause-cause : goal.returns-clause-cause
returns-clause-cause g c =
    let came : CameOfStore c.in-Some.op.parts.page_blocks (g.St.Store.holds c.feed-fed.new.store) (g.St.Store.signs c.args.store.now) (g.St.Store.signs c.feed-fed.new.store) c.in-Err.e = search rules in
    came_so c.in-Some.op.parts.page_blocks (g.St.Store.holds c.feed-fed.new.store) (g.St.Store.signs c.args.store.now) (g.St.Store.signs c.feed-fed.new.store) (g.St.Store.signs c.stop.new.store) c.in-Err.e c.stop.ensures.ended.leaves.grows came

pub returns-clause-others : goal.returns-clause-others
returns-clause-others g c =
    let feeds = (it_feeds _ c.args.self.now.feeder.client c.in-Some.op g.B.Whose.client g.B.Whose.shape g.B.Whose.blocks c.args.self.now.feeder _ _ c.in-Some.is c.requires.stands.1).1 in
    (leaves_ended g.B.Whose.client g.B.Whose.shape g.B.Whose.blocks c.in-Some.op c.feed-fed.new.self _ _ _ _ _ c.law_asks_own.ensures.law _ feeds _ _ c.feed-fed.ensures.same.client c.feed-fed.ensures.leaves c.stop.ensures.ended).others

pub returns-clause-slots : goal.returns-clause-slots
returns-clause-slots g c =
    let feeds = (it_feeds _ c.args.self.now.feeder.client c.in-Some.op g.B.Whose.client g.B.Whose.shape g.B.Whose.blocks c.args.self.now.feeder _ _ c.in-Some.is c.requires.stands.1).1 in
    slots_ended g.B.Whose.client c.in-Some.op c.feed-fed.new.self (g.St.Store.holds c.args.store.now) (g.St.Store.holds c.stop.new.store) (g.St.Store.signs c.args.store.now) (g.St.Store.signs c.stop.new.store) feeds.client (feeds_here g.B.Whose.client g.B.Whose.shape g.B.Whose.blocks c.in-Some.op _ _ _ c.law_asks_own.ensures.law _ feeds)
    c.args.self.now.feeder.op c.stop.new.self.op c.in-Some.is c.stop.ensures.none (c.stop.ensures.ended.slots ∙ c.feed-fed.ensures.slots)

pub returns-clause-grows : goal.returns-clause-grows
returns-clause-grows g c =
    let feeds = (it_feeds _ c.args.self.now.feeder.client c.in-Some.op g.B.Whose.client g.B.Whose.shape g.B.Whose.blocks c.args.self.now.feeder _ _ c.in-Some.is c.requires.stands.1).1 in
    grew_without (Some g.B.Whose.client.tracker) c.stop.new.self.op _ c.args.self.now.feeder.taken c.stop.new.self.taken _ _ c.stop.ensures.none c.stop.ensures.numbers.0
    (grew_with (Some g.B.Whose.client.tracker) c.args.self.now.feeder.op c.in-Some.op c.args.self.now.feeder.taken _ _ _ c.in-Some.is
    (grew_ended g.B.Whose.client g.B.Whose.shape g.B.Whose.blocks c.in-Some.op c.feed-fed.new.self _ _ _ _ _ c.law_asks_own.ensures.law _ feeds _ _ c.feed-fed.ensures.leaves c.feed-fed.ensures.makes c.stop.ensures.ended))

pub returns-clause-err : goal.returns-clause-err
returns-clause-err g c = λ rows took.
    let feeds = (it_feeds _ c.args.self.now.feeder.client c.in-Some.op g.B.Whose.client g.B.Whose.shape g.B.Whose.blocks c.args.self.now.feeder _ rows c.in-Some.is took).1 in
    let client : c.feed-fed.new.self.client ≡ g.B.Whose.client = c.feed-fed.ensures.same.client ∙ feeds.client in
    let counted = feeds.counted in
    let taken = c.stop.ensures.numbers.0 in
    inl (took_ended c.stop.new.self.op c.stop.new.self.client c.feed-fed.new.self g.B.Whose.client g.B.Whose.shape g.B.Whose.blocks c.stop.new.self (g.St.Store.holds c.feed-fed.new.store) (g.St.Store.holds c.stop.new.store) (g.St.Store.signs c.feed-fed.new.store) (g.St.Store.signs c.stop.new.store) rows
    c.stop.ensures.none c.stop.ensures.client client c.stop.ensures.ended (omega (arith, counted, taken)))

pub returns-clause-want : goal.returns-clause-want
returns-clause-want g c = λ rows took.
    let a = c.in-Some.op in
    let h0 = g.St.Store.holds c.args.store.now in
    let s0 = g.St.Store.signs c.args.store.now in
    let h2 = g.St.Store.holds c.stop.new.store in
    let u = g.B.Whose.client.tracker in
    let total = all_slots_in (over a.parts h0 s0) in
    let feeds = (it_feeds _ c.args.self.now.feeder.client a g.B.Whose.client g.B.Whose.shape g.B.Whose.blocks c.args.self.now.feeder _ rows c.in-Some.is took).1 in
    let want : IsWantOf a.parts.page_blocks total c.in-Err.e = search rules in
    let enough : (fed : List (List Value)) → Holds fed a h0 s0 → IsWantBelowOf (slots_for 16 a h0 (fed ++ c.args.row.now ∷ [])) total c.in-Err.e = search rules in
    let free : slots_with (slots_in c.stop.new.self.op u h2) h2 ≡ total = subst (λ (o : Option Operator). slots_with (slots_in o u h2) h2 ≡ total) (sym c.stop.ensures.none) (none_with h2.free_slots ∙ c.stop.ensures.ended.slots ∙ c.feed-fed.ensures.slots) in
    row_wants g.B.Whose.client g.B.Whose.shape g.B.Whose.blocks a c.args.self.now.feeder h0 s0 c.args.row.now (slots_with (slots_in c.stop.new.self.op u h2) h2) c.in-Err.e c.law_asks_own.ensures.law rows feeds free want enough
