-- What a query asks of its pool: it isn't refused there, and then there is room for it.
use Rattle.std.proofs.Common.{◌≡◌, ◌≤◌, ℕ, Bool, Some, None, if◌then◌else◌, sym, ap, ◌∙◌, arith, nat_lt}
use Rattle.std.proofs.lemmas.Bool.{le-ltb}
use Rattle.reservation_tree.specs.declared.errors.PoolErr.TheVariants.{NoReservation}
use Rattle.pool_model.specs.Bytes.{bytes_of}
use Rattle.pool_model.specs.State.{Opening}
use Rattle.store_api.specs.Holdings.{Holdings}
use Rattle.pool.specs.Remaining.{all_left, refusal_of}
use Rattle.pool.specs.Seating.{HasBegun}
use Rattle.query_plan.specs.Sizes.{least_of}
use Rattle.query_plan.specs.declared.plan.Query.{Query}
use Rattle.query_run.specs.Stopped.{HasRoomFor}

-- what fits the limit and all memory isn't refused
pub isnt_refused : (o : Opening) (limit quota least : ℕ) → least ≤ bytes_of o.block_len o.blocks → least ≤ limit
    → refusal_of (record { limit = limit; quota = quota; least = least; count = 1 }) (all_left o) ≡ None
isnt_refused o limit quota least fits allowed =
    ap (λ (b : Bool). if b then Some (NoReservation 4294967295 least limit) else (if nat_lt (bytes_of o.block_len o.blocks) least then Some (NoReservation 0 least (bytes_of o.block_len o.blocks)) else None)) (le-ltb limit least allowed)
    ∙ ap (λ (b : Bool). if b then Some (NoReservation 0 least (bytes_of o.block_len o.blocks)) else None) (le-ltb (bytes_of o.block_len o.blocks) least fits)

-- what a query needs where it began with its least reservation
pub room_for : (plan : Query) (len block_len : ℕ) (told : Bool) (limit quota least : ℕ) (h : Holdings) → HasBegun len told limit quota least h → block_len ≡ len → least ≡ least_of plan block_len → HasRoomFor plan h
room_for plan len block_len told limit quota least h begun same is =
    let room = begun.room in
    let asked : least_of plan h.block_len ≡ least = ap (least_of plan) (begun.block_len ∙ sym same) ∙ sym is in
    record { idle = begun.live_clients; room = omega (arith, room, asked) }

-- so a query isn't that asks for its least reservation
pub may_come : (o : Opening) (plan : Query) (block_len quota least : ℕ) → least ≡ least_of plan block_len
    → (block_len ≡ o.block_len) × (least_of plan block_len ≤ bytes_of o.block_len o.blocks) × (least_of plan block_len ≤ plan.limit)
    → refusal_of (record { limit = plan.limit; quota = quota; least = least; count = 1 }) (all_left o) ≡ None
may_come o plan block_len quota least is memory =
    let fits = memory.1 in
    let allowed = memory.2 in
    isnt_refused o plan.limit quota least (omega (arith, is, fits)) (omega (arith, is, allowed))
