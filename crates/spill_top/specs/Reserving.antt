-- The least reservations of the queries of a plan, which are asked in their order before any query runs. Bytes are whole numbers without end.
use Rattle.std.specs.Prelude.{ℕ, ◌-◌, ◌*◌, true, false, List, [], ◌∷◌, Option, Some, None, nat_le, if◌then◌else◌}
use Rattle.query_plan.specs.declared.plan.Plan.{Plan}
use Rattle.query_plan.specs.declared.plan.Query.{Query}
use Rattle.query_plan.specs.Sizes.{least_of}
use Rattle.spill_top.specs.declared.ending.Ending.{Ending}
use Rattle.spill_top.specs.declared.ending.Ending.TheVariants.{Reservation}

-- why a tracker with this limit, whose root has so much room, can't reserve so many bytes: the lower of the two is named
abbrev pub refusal : ℕ → ℕ → ℕ → Option Ending
refusal limit wanted room =
    if nat_le wanted limit then (if nat_le wanted room then None else Some (Reservation true wanted room))
    else Some (Reservation false wanted limit)

-- the room behind it
abbrev pub room_behind : Option Ending → ℕ → ℕ → ℕ
room_behind None wanted room = room - wanted
room_behind (Some refused) wanted room = room

-- the refusals of the queries, each under the root with what those before it left of this room
abbrev pub refusals : ℕ → ℕ → List Query → List (Option Ending)
refusals block_len room [] = []
refusals block_len room (query ∷ queries) =
    let refused = refusal query.limit (least_of query block_len) room in
    refused ∷ refusals block_len (room_behind refused (least_of query block_len) room) queries

-- those of a plan, whose root has all its memory
abbrev pub refusals_of : Plan → List (Option Ending)
refusals_of plan = refusals plan.block_len (plan.blocks * plan.block_len) plan.queries
