use Rattle.tuple_stream.specs.Families.{family}
use Rattle.tests_stores.proofs.Dealt.{new_two}
use Rattle.tests_stores.proofs.tests.streams.pair.go_through_new.Goals as goal

pub go_through-answer-requires-clause-shaped : goal.go_through-answer-requires-clause-shaped
go_through-answer-requires-clause-shaped g c =
    (new_two c.args.c.now.tracker (family c.in_ok-streams.streams.items (g.St.Store.holds c.args.store.now) (g.St.Store.signs c.args.store.now)) c.in_ok-streams.ensures c.requires.room).shaped

pub go_through-answer-requires-clause-empty : goal.go_through-answer-requires-clause-empty
go_through-answer-requires-clause-empty g c =
    (new_two c.args.c.now.tracker (family c.in_ok-streams.streams.items (g.St.Store.holds c.args.store.now) (g.St.Store.signs c.args.store.now)) c.in_ok-streams.ensures c.requires.room).empty_all

pub go_through-answer-requires-clause-rooms : goal.go_through-answer-requires-clause-rooms
go_through-answer-requires-clause-rooms g c =
    (1, (new_two c.args.c.now.tracker (family c.in_ok-streams.streams.items (g.St.Store.holds c.args.store.now) (g.St.Store.signs c.args.store.now)) c.in_ok-streams.ensures c.requires.room).rooms)
