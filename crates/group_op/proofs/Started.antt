-- What a grouping that was started has and keeps.
use Rattle.std.proofs.Common.{◌≡◌, [], refl, ap, arith}
use Rattle.std.specs.Prelude.{All}
use Rattle.std.proofs.lemmas.List.Elements.{All-nil}
use Rattle.row_codec.specs.Order.{path_order}
use Rattle.row_codec.specs.Row.{IsValue}
use Rattle.tuple_stream.specs.Streamed.{Streamed}
use Rattle.tuple_stream.specs.Trails.{IsBuilding}
use Rattle.tuple_stream.specs.FamilyCalls.{HaveLaid}
use Rattle.tuple_stream.proofs.Empty.{empty_at_end}
use Rattle.tuple_stream.proofs.Sinces.{since_now}
use Rattle.partition_stack.specs.Stack.{first_sixteen, over}
use Rattle.partition_stack.proofs.First.{each_empty, first_owned, first_shows}
use Rattle.group_rows.proofs.Paths.{path_is_order}
use Rattle.group_rows.proofs.Standing.{keeps_standing}
use Rattle.group_op.specs.Starting.{AllStart}
use Rattle.group_op.specs.Stored.{IsPartialRow, grouping_of, place_of}
use Rattle.group_op.proofs.Entering.{none_distinct}

pub all_start : AllStart
all_start c blocks shape h signs is sized may =
    record {
      op = record {
        shape = is;
        sized = sized;
        client = may.lives;
        least = may.least;
        has = (first_owned c blocks h signs sized may, may.idle.loans, may.free);
      };
      feeding = record { sixteen = refl; first = refl };
      keeps = record {
        holds = record {
          fresh = λ none. refl;
          rows = λ i. [];
          shows = first_shows blocks h signs sized;
          formed = λ i. All-nil (IsPartialRow shape);
          placed = λ i. All-nil (λ row. place_of shape 0 0 row ≡ i);
          values = All-nil (λ row. All IsValue row);
          stand = (keeps_standing path_order path_is_order (grouping_of shape)).none;
          distinct = none_distinct;
          few = omega arith;
          light = omega arith;
          small = λ low. refl;
          at_end = λ i s there. empty_at_end blocks s (each_empty blocks i s there);
          whole = λ i s there. ap (λ (r : Streamed). r.spent) (each_empty blocks i s there);
        };
        laid = since_now (HaveLaid (over (first_sixteen blocks) h signs)) signs.trail (record { building = All-nil IsBuilding; left = λ w. refl });
      };
    }
