use Rattle.std.proofs.Common.{map}
use Rattle.tests_stores.proofs.Dealt.{came_back, share}
use Rattle.tuple_stream.proofs.FamilyChains.{client_stays}
use Rattle.tuple_stream.proofs.FamilyRooms.{rooms_kept}
use Rattle.tests_stores.proofs.tests.streams.pair.go_through.Goals as goal

pub read_one-requires-clause-client : goal.read_one-requires-clause-client
read_one-requires-clause-client g c = client_stays c.args.c.now _ _ c.keep_all.ensures.went c.requires.client

pub read_one-requires-clause-rooms : goal.read_one-requires-clause-rooms
read_one-requires-clause-rooms g c = (c.requires.rooms.0, rooms_kept c.args.c.now.tracker c.requires.rooms.0 _ _ c.requires.rooms.1 c.keep_all.ensures.went)

pub read_one-requires-2-clause-client : goal.read_one-requires-2-clause-client
read_one-requires-2-clause-client g c = client_stays c.args.c.now _ _ c.read_one.ensures.went.steps (client_stays c.args.c.now _ _ c.keep_all.ensures.went c.requires.client)

pub read_one-requires-2-clause-rooms : goal.read_one-requires-2-clause-rooms
read_one-requires-2-clause-rooms g c =
    let t = c.args.c.now.tracker in
    let n = c.requires.rooms.0 in
    (n, rooms_kept t n _ _ (rooms_kept t n _ _ c.requires.rooms.1 c.keep_all.ensures.went) c.read_one.ensures.went.steps)

pub returns-clause-ok : goal.returns-clause-ok
returns-clause-ok g c =
    came_back c.args.c.now.tracker (λ i. share i (map (λ r. r.items) c.args.rows.now)) _ (map (λ r. r.items) c.read_one.new.out.items) _ _ _ _ c.keep_all.ensures.went c.in_ok-keep_all.ensures.ok c.in_ok-read_one.ensures.ok c.read_one.ensures.went c.in_ok-read_one-2.ensures.ok
