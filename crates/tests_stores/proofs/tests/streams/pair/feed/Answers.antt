use Rattle.std.proofs.Common.{rules, ◌≡◌, Some, length, refl}
use Rattle.std.specs.List.{slice_get}
use Rattle.std.proofs.lemmas.Option.{slice_get_read}
use Rattle.tuple_stream.specs.Steps.{scene}
use Rattle.tuple_stream.specs.Families.{family}
use Rattle.tuple_stream.proofs.FamilyWords.{at_end_kept, feeds}
use Rattle.tuple_stream.proofs.FamilyRooms.{room_for}
use Rattle.std.proofs.lemmas.Result.{on_ok_weaker}
use Rattle.tests_stores.proofs.tests.streams.pair.feed.Goals as goal

pub append-requires-clause-stream : goal.append-requires-clause-stream
append-requires-clause-stream g c =
    let at : slice_get c.args.streams.now.items c.args.at ≡ Some c.index_mut.result.now = slice_get_read c.args.streams.now.items (length c.args.streams.now.items) c.args.at c.index_mut.result.now refl c.requires.inside (search rules) in
    c.requires.shaped.each c.args.at c.index_mut.result.now at

pub append-requires-clause-room : goal.append-requires-clause-room
append-requires-clause-room g c =
    let at : slice_get c.args.streams.now.items c.args.at ≡ Some c.index_mut.result.now = slice_get_read c.args.streams.now.items (length c.args.streams.now.items) c.args.at c.index_mut.result.now refl c.requires.inside (search rules) in
    room_for c.args.c.now.tracker c.requires.rooms.0 c.args.at (family c.args.streams.now.items (g.St.Store.holds c.args.store.now) (g.St.Store.signs c.args.store.now)) c.index_mut.result.now c.requires.rooms.1 at

pub returns-clause-went : goal.returns-clause-went
returns-clause-went g c =
    let at : slice_get c.args.streams.now.items c.args.at ≡ Some c.index_mut.result.now = slice_get_read c.args.streams.now.items (length c.args.streams.now.items) c.args.at c.index_mut.result.now refl c.requires.inside (search rules) in
    let f = family c.args.streams.now.items (g.St.Store.holds c.args.store.now) (g.St.Store.signs c.args.store.now) in
    let b = scene c.append.new.self (g.St.Store.holds c.append.new.store) (g.St.Store.signs c.append.new.store) in
    feeds c.args.c.now.tracker c.args.at f c.index_mut.result.now b c.requires.shaped at _ c.append.ensures.went

pub returns-clause-at_end : goal.returns-clause-at_end
returns-clause-at_end g c =
    let at : slice_get c.args.streams.now.items c.args.at ≡ Some c.index_mut.result.now = slice_get_read c.args.streams.now.items (length c.args.streams.now.items) c.args.at c.index_mut.result.now refl c.requires.inside (search rules) in
    let f = family c.args.streams.now.items (g.St.Store.holds c.args.store.now) (g.St.Store.signs c.args.store.now) in
    let b = scene c.append.new.self (g.St.Store.holds c.append.new.store) (g.St.Store.signs c.append.new.store) in
    on_ok_weaker c.append.result (λ pinned. at_end_kept c.args.c.now.tracker c.args.at f c.index_mut.result.now b c.requires.shaped at pinned.0) c.append.ensures.pinned
