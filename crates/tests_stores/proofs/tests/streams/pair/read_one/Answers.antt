use Rattle.std.proofs.Common.{rules, ◌≡◌, Some, length, refl}
use Rattle.std.specs.List.{slice_get}
use Rattle.std.proofs.lemmas.Option.{slice_get_read}
use Rattle.tuple_stream.specs.Steps.{scene}
use Rattle.tuple_stream.specs.Families.{family}
use Rattle.tuple_stream.proofs.FamilyWords.{reads_in, reads_one}
use Rattle.tuple_stream.proofs.FamilyRooms.{room_for}
use Rattle.std.proofs.lemmas.Result.{on_ok_weaker}
use Rattle.tests_stores.proofs.tests.streams.pair.read_one.Goals as goal

pub read_all-requires-clause-stream : goal.read_all-requires-clause-stream
read_all-requires-clause-stream g c =
    let at : slice_get c.args.streams.now.items c.args.at ≡ Some c.index_mut.result.now = slice_get_read c.args.streams.now.items (length c.args.streams.now.items) c.args.at c.index_mut.result.now refl c.requires.inside (search rules) in
    c.requires.shaped.each c.args.at c.index_mut.result.now at

pub read_all-requires-clause-room : goal.read_all-requires-clause-room
read_all-requires-clause-room g c =
    let at : slice_get c.args.streams.now.items c.args.at ≡ Some c.index_mut.result.now = slice_get_read c.args.streams.now.items (length c.args.streams.now.items) c.args.at c.index_mut.result.now refl c.requires.inside (search rules) in
    room_for c.args.c.now.tracker c.requires.rooms.0 c.args.at (family c.args.streams.now.items (g.St.Store.holds c.args.store.now) (g.St.Store.signs c.args.store.now)) c.index_mut.result.now c.requires.rooms.1 at

pub returns-clause-went : goal.returns-clause-went
returns-clause-went g c =
    let at : slice_get c.args.streams.now.items c.args.at ≡ Some c.index_mut.result.now = slice_get_read c.args.streams.now.items (length c.args.streams.now.items) c.args.at c.index_mut.result.now refl c.requires.inside (search rules) in
    let f = family c.args.streams.now.items (g.St.Store.holds c.args.store.now) (g.St.Store.signs c.args.store.now) in
    let b = scene c.read_all.new.stream (g.St.Store.holds c.read_all.new.store) (g.St.Store.signs c.read_all.new.store) in
    reads_in c.args.c.now.tracker c.args.at f c.index_mut.result.now b c.requires.shaped at c.read_all.ensures.went c.read_all.ensures.same

pub returns-clause-ok : goal.returns-clause-ok
returns-clause-ok g c =
    let at : slice_get c.args.streams.now.items c.args.at ≡ Some c.index_mut.result.now = slice_get_read c.args.streams.now.items (length c.args.streams.now.items) c.args.at c.index_mut.result.now refl c.requires.inside (search rules) in
    let f = family c.args.streams.now.items (g.St.Store.holds c.args.store.now) (g.St.Store.signs c.args.store.now) in
    let b = scene c.read_all.new.stream (g.St.Store.holds c.read_all.new.store) (g.St.Store.signs c.read_all.new.store) in
    on_ok_weaker c.read_all.result (reads_one c.args.c.now.tracker c.args.at f c.index_mut.result.now b c.requires.shaped at _ _) c.read_all.ensures.ok
