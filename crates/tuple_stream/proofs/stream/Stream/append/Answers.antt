use Rattle.std.proofs.Common.{rules}
use Rattle.tuple_stream.proofs.Readying.{written_went}
use Rattle.tuple_stream.proofs.stream.Stream.append.Goals as goal

pub returns-clause-went : goal.returns-clause-went
returns-clause-went g c =
    written_went c.args.c.now.tracker c.args.row.now c.in-Some.count _ _ _ c.put_row.ensures c.requires.row (search rules) c.in_ok-make_room.ensures.ok
