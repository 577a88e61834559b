-- What a join that was started has and keeps.
use Rattle.std.proofs.Common.{◌≡◌, inl, ℕ, [], refl, ap, sym, subst, arith}
use Rattle.std.proofs.lemmas.List.Elements.{All-nil}
use Rattle.tuple_stream.specs.Streamed.{Streamed}
use Rattle.tuple_stream.specs.Streams.{IsApart}
use Rattle.tuple_stream.specs.Trails.{IsBuilding}
use Rattle.tuple_stream.specs.Families.{AreDisjoint}
use Rattle.tuple_stream.proofs.Empty.{empty_at_end}
use Rattle.tuple_stream.proofs.Sinces.{since_now}
use Rattle.partition_stack.specs.Changes.{Owns}
use Rattle.partition_stack.specs.Stack.{empty, first_sixteen, over}
use Rattle.partition_stack.proofs.First.{each_empty, first_owned, first_shows}
use Rattle.row_reading.specs.Reading.{IsRowOf}
use Rattle.join_op.specs.Operator.{KeepsSide, LaidBoth}
use Rattle.join_op.specs.Starting.{AllStart}
use Rattle.join_op.specs.Stored.{Side, left_side, place_of, right_side}

apart_from : (blocks : ℕ) (a b : Streamed) → b ≡ empty blocks → AreDisjoint a b
apart_from blocks a b is = subst (AreDisjoint a) (sym is) (All-nil (λ p. IsApart p.name a.pages))

pub all_start : AllStart
all_start c blocks shape h signs is sized may =
    let owns : Owns c.tracker 0 (over (first_sixteen blocks) h signs) = first_owned c blocks h signs sized may in
    let side : (side : Side) → KeepsSide side [] (over (first_sixteen blocks) h signs) = λ side. record {
      rows = λ i. [];
      shows = first_shows blocks h signs sized;
      formed = λ i. All-nil (IsRowOf side.kinds);
      placed = λ i. All-nil (λ row. place_of side 0 0 row ≡ i);
      same = λ count. refl;
      whole = λ i s there. ap (λ (r : Streamed). r.spent) (each_empty blocks i s there);
    } in
    record {
      op = record {
        shape = is;
        sized = sized;
        alike = refl;
        client = may.lives;
        least = may.least;
        owns = record {
          lives = owns.lives;
          left_shaped = owns.shaped;
          right_shaped = owns.shaped;
          apart = λ i j a b at there. apart_from blocks a b (each_empty blocks j b there);
          only = λ q page lives outside beside. may.idle.pages q page lives;
          even = let even = owns.even in let free = may.free in omega (arith, even, free);
        };
        loans = may.idle.loans;
      };
      feeding = record { left = record { sixteen = refl; first = refl }; right = record { sixteen = refl; first = refl } };
      keeps = record {
        left = side (left_side shape);
        right = side (right_side shape);
        left_steady = λ i s there. inl (empty_at_end blocks s (each_empty blocks i s there));
        left_ends = λ none i s there. empty_at_end blocks s (each_empty blocks i s there);
        right_ends = λ i s there. empty_at_end blocks s (each_empty blocks i s there);
        laid = since_now (LaidBoth (over (first_sixteen blocks) h signs) (over (first_sixteen blocks) h signs)) signs.trail
            (record { lefts = []; rights = []; are = refl; left = record { building = All-nil IsBuilding; left = λ w. refl }; right = record { building = All-nil IsBuilding; left = λ w. refl }; left_made = refl; right_made = refl });
      };
    }
