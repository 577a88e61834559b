use Rattle.std.proofs.Common.{rules}
use Rattle.tuple_stream.proofs.Readying.{any_err}
use Rattle.tuple_stream.proofs.NewPage.{Comes}
use Rattle.tuple_stream.proofs.NewOne.{new_readies, no_new}
use Rattle.tuple_stream.proofs.stream.Stream.add_page.Given as given
use Rattle.tuple_stream.proofs.stream.Stream.add_page.Goals as goal

comes : (g : given.Over) (c : goal.After-set_pinned g) → Comes c.args.c.now c.args.self.now c.in_ok-page.page c.in_ok-page.buf (g.St.Store.holds c.args.store.now) (g.St.Store.holds c.create.new.self)
comes g c = record { stream = c.requires.stream; closed = c.requires.closed; made = search rules }

pub returns-clause-ok : goal.returns-clause-ok
returns-clause-ok g c =
    new_readies (comes g c) _ (g.St.Store.holds c.args.store.now).session c.args.bytes (g.St.Store.signs c.args.store.now) (g.St.Store.signs c.create.new.self) (search rules) c.requires.room (search rules) (search rules) (search rules) c.create.ensures.grows

pub returns-in_err-page-clause-err : goal.returns-in_err-page-clause-err
returns-in_err-page-clause-err g c =
    any_err c.from_residual.result
    (no_new c.args.c.now.tracker _ c.self.inside.page_blocks c.args.self.now _ (g.St.Store.holds c.args.store.now) (g.St.Store.holds c.create.new.self) _ (g.St.Store.signs c.args.store.now) (g.St.Store.signs c.create.new.self) c.requires.stream (search rules) c.in_err-page.ensures.err c.create.ensures.grows)
