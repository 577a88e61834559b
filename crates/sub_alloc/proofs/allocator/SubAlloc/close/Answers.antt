use Rattle.std.proofs.Common.{◌≡◌, ◌<◌, ◌-◌, Option, None, Some, vec_len, refl}
use Rattle.store_api.specs.Tokens.{LoanToken}
use Rattle.sub_alloc.specs.Pieces.{Division, HasNoLive}
use Rattle.sub_alloc.proofs.Shut.{none_open, then_idle}
use Rattle.sub_alloc.proofs.allocator.SubAlloc.close.Goals as goal

pub loop-slot-init : goal.loop-slot-init
loop-slot-init c =
    let a = c.self.inside in
    let d : Division = record { block_len = a.block_len; page_blocks = a.page_blocks; classes = a.classes; buffers = a.buffers.items; free = a.free; live = a.live.items } in
    let idle : HasNoLive d = rw (← c.self.view_is) at c.requires in
    none_open d c.self.invariant idle

clash : (slot other : Option LoanToken) (x : LoanToken) → Some slot ≡ Some other → other ≡ None → slot ≡ Some x → ⊥
clash slot other x same none some = cc

pub unreachable-requires : goal.unreachable-requires
unreachable-requires c =
    let some : 0 < vec_len c.loop-slot.buffers = c.in-Some.ensures.variant.0 refl in
    clash c.in-Some.slot _ c.in-Some-slot.field-0 (c.in-Some.ensures.value None some) (c.loop-slot.invariant (vec_len c.loop-slot.buffers - 1)) c.in-Some-slot.is

pub returns-clause-closed : goal.returns-clause-closed
returns-clause-closed c =
    let a = c.self.inside in
    let d : Division = record { block_len = a.block_len; page_blocks = a.page_blocks; classes = a.classes; buffers = a.buffers.items; free = a.free; live = a.live.items } in
    let idle : HasNoLive d = rw (← c.self.view_is) at c.requires in
    rw (← c.self.view_is) (none_open d c.self.invariant idle)

pub returns-clause-idle : goal.returns-clause-idle
returns-clause-idle c =
    let a = c.self.inside in
    let d : Division = record { block_len = a.block_len; page_blocks = a.page_blocks; classes = a.classes; buffers = a.buffers.items; free = a.free; live = a.live.items } in
    let idle : HasNoLive d = rw (← c.self.view_is) at c.requires in
    rw (← c.self.view_is) (then_idle d c.self.invariant idle)
