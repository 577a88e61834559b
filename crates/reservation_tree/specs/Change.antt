-- How reservations change along the tree. A way runs from a tracker up to the root, and `levels` is how
-- many trackers of it are meant, from the lowest on.
use Rattle.std.specs.Prelude.{ℕ, zero, suc, ◌+◌, ◌-◌, ◌==◌, leb, if◌then◌else◌, Option, Some, None}
use Rattle.std.specs.FinMap.{insert, empty}
use Rattle.reservation_tree.specs.Tracker.{Tracker, Trackers, tracker_at, reservation_of, depth_of, parent_of, room_of, unused}

-- a root as it begins
abbrev pub new_root : ℕ → Tracker
new_root limit = record { parent = None; depth = 0; limit = limit; reservation = 0 }

-- a root and no other tracker
abbrev pub root_alone : ℕ → Trackers
root_alone limit = insert empty 0 (new_root limit)

-- a child has come under a live tracker
abbrev pub with_child : ℕ → ℕ → ℕ → Trackers → Trackers
with_child t parent limit ts =
    insert ts t (record { parent = Some parent; depth = depth_of ts parent + 1; limit = limit; reservation = 0 })

-- the tracker's reservation is this, and nothing else changes
abbrev pub set_reservation : ℕ → ℕ → Trackers → Trackers
set_reservation bytes t ts = insert ts t (record (tracker_at ts t) { reservation = bytes })

abbrev pub raise : ℕ → ℕ → Trackers → Trackers
raise bytes t ts = set_reservation (reservation_of ts t + bytes) t ts

abbrev pub lower : ℕ → ℕ → Trackers → Trackers
lower bytes t ts = set_reservation (reservation_of ts t - bytes) t ts

-- the tracker whose limit would be passed, by which growth, and its room
pub record Refusal : Type 0 where
  pub tracker : ℕ
  pub wanted : ℕ
  pub room : ℕ

-- the refusal of a growth by the tracker's own limit
abbrev pub over : Trackers → ℕ → ℕ → Option Refusal
over ts bytes t = if leb bytes (room_of ts t) then None else Some (record { tracker = t; wanted = bytes; room = room_of ts t })

-- the first refusal, if there is one, and else the second
abbrev pub or_else : Option Refusal → Option Refusal → Option Refusal
or_else (Some lower_one) higher_one = Some lower_one
or_else None higher_one = higher_one

-- the growth of a parent: what its unused bytes don't cover of the growth below it
abbrev pub growth_above : (ℕ → ℕ) → Trackers → ℕ → ℕ → ℕ
growth_above charge ts bytes t = bytes - unused charge ts (parent_of ts t)

-- each tracker on the way rises by its growth
abbrev pub grown : (ℕ → ℕ) → Trackers → ℕ → ℕ → ℕ → Trackers
grown charge ts zero bytes t = ts
grown charge ts (suc levels) bytes t =
    raise bytes t (grown charge ts levels (growth_above charge ts bytes t) (parent_of ts t))

-- the lowest tracker on the way whose limit its growth would pass
abbrev pub grown_refusal : (ℕ → ℕ) → Trackers → ℕ → ℕ → ℕ → Option Refusal
grown_refusal charge ts zero bytes t = None
grown_refusal charge ts (suc levels) bytes t =
    or_else (over ts bytes t) (grown_refusal charge ts levels (growth_above charge ts bytes t) (parent_of ts t))

-- the tracker so many levels up
abbrev pub up : Trackers → ℕ → ℕ → ℕ
up ts zero t = t
up ts (suc levels) t = up ts levels (parent_of ts t)

-- each tracker on the way falls by as much
abbrev pub fallen : ℕ → ℕ → ℕ → Trackers → Trackers
fallen zero bytes t ts = ts
fallen (suc levels) bytes t ts = fallen levels bytes (parent_of ts t) (lower bytes t ts)

-- each tracker on the way rises by as much
abbrev pub risen : ℕ → ℕ → ℕ → Trackers → Trackers
risen zero bytes t ts = ts
risen (suc levels) bytes t ts = raise bytes t (risen levels bytes (parent_of ts t) ts)

-- the lowest tracker on the way whose limit that would pass
abbrev pub risen_refusal : ℕ → ℕ → ℕ → Trackers → Option Refusal
risen_refusal zero bytes t ts = None
risen_refusal (suc levels) bytes t ts = or_else (over ts bytes t) (risen_refusal levels bytes (parent_of ts t) ts)

-- where two ways meet: the deeper of the two trackers goes up, so many times at most
abbrev pub meeting : Trackers → ℕ → ℕ → ℕ → ℕ
meeting ts zero a b = a
meeting ts (suc steps) a b =
    if a == b then a else
    (if leb (depth_of ts b) (depth_of ts a) then meeting ts steps (parent_of ts a) b
    else meeting ts steps a (parent_of ts b))

-- the nearest common ancestor, where a tracker is its own ancestor
unfoldable pub ancestor_of : Trackers → ℕ → ℕ → ℕ
ancestor_of ts a b = meeting ts (depth_of ts a + depth_of ts b) a b

-- how many trackers stand from this one up to below that ancestor
abbrev pub levels_below : Trackers → ℕ → ℕ → ℕ
levels_below ts ancestor t = depth_of ts t - depth_of ts ancestor

-- the tracker grows, and each ancestor by what its unused bytes don't cover
unfoldable pub grow : (ℕ → ℕ) → ℕ → ℕ → Trackers → Trackers
grow charge bytes t ts = grown charge ts (suc (depth_of ts t)) bytes t

unfoldable pub grow_refusal : (ℕ → ℕ) → ℕ → ℕ → Trackers → Option Refusal
grow_refusal charge bytes t ts = grown_refusal charge ts (suc (depth_of ts t)) bytes t

-- what is to be added until so much is unused
abbrev pub lacking : (ℕ → ℕ) → ℕ → ℕ → Trackers → ℕ
lacking charge bytes t ts = bytes - unused charge ts t

-- the tracker and all its ancestors fall
unfoldable pub shrink : ℕ → ℕ → Trackers → Trackers
shrink bytes t ts = fallen (suc (depth_of ts t)) bytes t ts

-- those from `a` up to below the nearest common ancestor fall, and those from `b` up to below it rise
unfoldable pub move_to : ℕ → ℕ → ℕ → Trackers → Trackers
move_to bytes a b ts =
    let top = ancestor_of ts a b in
    risen (levels_below ts top b) bytes b (fallen (levels_below ts top a) bytes a ts)

unfoldable pub move_refusal : ℕ → ℕ → ℕ → Trackers → Option Refusal
move_refusal bytes a b ts = risen_refusal (levels_below ts (ancestor_of ts a b) b) bytes b ts
