use Rattle.std.proofs.Common.{◌≡◌, ◌+◌, ◌<◌, ◌≤◌, ℕ, Some, length, refl, ap, subst, arith}
use Rattle.std.specs.List.{slice_get}
use Rattle.std.proofs.lemmas.Option.{slice_get_read}
use Rattle.store_api.specs.Holdings.{length_of}
use Rattle.tuple_stream.specs.Streamed.{len_in}
use Rattle.tuple_stream.specs.Touches.{IsFull}
use Rattle.tuple_stream.specs.Steps.{Scene, scene}
use Rattle.tuple_stream.specs.Families.{AreShaped, Family, changed, family, pages_in}
use Rattle.tuple_stream.specs.Streamed.{Streamed}
use Rattle.tuple_stream.proofs.FamilyStep.{pages_changed}
use Rattle.tuple_stream.proofs.FamilyWords.{at_end_kept, feeds}
use Rattle.partition_stack.proofs.Stacking.{changed_is_stack}
use Rattle.partition_stack.proofs.Room.{room_for_each}
use Rattle.partition_stack.proofs.Called.{changes_at}
use Rattle.partition_stack.proofs.ListPlaces.{map_set_same}
use Rattle.partition_stack.proofs.stack.Partitions.append.Goals as goal

-- one page more of one stream is one more of all
one_more : (i : ℕ) (f : Family) (a : Streamed) (b : Scene) → slice_get f.streams i ≡ Some a → length b.stream.pages ≤ length a.pages + 1 → pages_in (changed i b f) ≤ pages_in f + 1
one_more i f a b at few = let sum = pages_changed i f a b at in omega (arith, sum, few)

pub append-requires-clause-stream : goal.append-requires-clause-stream
append-requires-clause-stream g c =
    let shaped : AreShaped c.args.c.now.tracker (family c.self.inside.streams.items (g.St.Store.holds c.args.store.now) (g.St.Store.signs c.args.store.now)) = rw (← c.self.view_is) at c.requires.shaped in
    let inside : c.args.at < length c.self.inside.streams.items = rw (← c.self.view_is) at c.requires.inside in
    let at : slice_get c.self.inside.streams.items c.args.at ≡ Some c.index_mut.result.now = slice_get_read c.self.inside.streams.items (length c.self.inside.streams.items) c.args.at c.index_mut.result.now refl inside c.index_mut.ensures.value in
    shaped.each c.args.at c.index_mut.result.now at

pub append-requires-clause-room : goal.append-requires-clause-room
append-requires-clause-room g c =
    let inside : c.args.at < length c.self.inside.streams.items = rw (← c.self.view_is) at c.requires.inside in
    let at : slice_get c.self.inside.streams.items c.args.at ≡ Some c.index_mut.result.now = slice_get_read c.self.inside.streams.items (length c.self.inside.streams.items) c.args.at c.index_mut.result.now refl inside c.index_mut.ensures.value in
    let room = rw (← c.self.view_is) at c.requires.room in
    room_for_each c.args.c.now.tracker room.0 c.args.at _ _ _ c.index_mut.result.now c.self.invariant room.2 room.1 at

pub unreachable-requires : goal.unreachable-requires
unreachable-requires g c =
    let inside : c.args.at < length c.self.inside.streams.items = rw (← c.self.view_is) at c.requires.inside in
    let at : slice_get c.self.inside.streams.items c.args.at ≡ Some c.index_mut.result.now = slice_get_read c.self.inside.streams.items (length c.self.inside.streams.items) c.args.at c.index_mut.result.now refl inside c.index_mut.ensures.value in
    let cause = rw c.in-RowTooLong.is at c.in-Err.ensures.cause in
    let long : len_in c.index_mut.result.now (g.St.Store.holds c.args.store.now) < length c.args.row.now = cause.1 in
    let short : length c.args.row.now ≤ length_of c.self.inside.page_blocks (g.St.Store.holds c.args.store.now) = rw (← c.self.view_is) at c.requires.short in
    let len : len_in c.index_mut.result.now (g.St.Store.holds c.args.store.now) ≡ length_of c.self.inside.page_blocks (g.St.Store.holds c.args.store.now) =
    ap (λ (n : ℕ). length_of n (g.St.Store.holds c.args.store.now)) (c.self.invariant.each c.args.at c.index_mut.result.now at) in
    omega (arith, long, short, len)

pub invariant_of-self : goal.invariant_of-self
invariant_of-self g c =
    let inside : c.args.at < length c.self.inside.streams.items = rw (← c.self.view_is) at c.requires.inside in
    let at : slice_get c.self.inside.streams.items c.args.at ≡ Some c.index_mut.result.now = slice_get_read c.self.inside.streams.items (length c.self.inside.streams.items) c.args.at c.index_mut.result.now refl inside c.index_mut.ensures.value in
    changed_is_stack _ c.args.at c.index_mut.result.now c.append.new.self c.self.invariant at c.append.ensures.went.step.sized

pub invariant_of-self-2 : goal.invariant_of-self-2
invariant_of-self-2 g c =
    let inside : c.args.at < length c.self.inside.streams.items = rw (← c.self.view_is) at c.requires.inside in
    let at : slice_get c.self.inside.streams.items c.args.at ≡ Some c.index_mut.result.now = slice_get_read c.self.inside.streams.items (length c.self.inside.streams.items) c.args.at c.index_mut.result.now refl inside c.index_mut.ensures.value in
    changed_is_stack _ c.args.at c.index_mut.result.now c.append.new.self c.self.invariant at c.append.ensures.went.step.sized

pub returns-in_default-clause-went : goal.returns-in_default-clause-went
returns-in_default-clause-went g c =
    let shaped : AreShaped c.args.c.now.tracker (family c.self.inside.streams.items (g.St.Store.holds c.args.store.now) (g.St.Store.signs c.args.store.now)) = rw (← c.self.view_is) at c.requires.shaped in
    let inside : c.args.at < length c.self.inside.streams.items = rw (← c.self.view_is) at c.requires.inside in
    let at : slice_get c.self.inside.streams.items c.args.at ≡ Some c.index_mut.result.now = slice_get_read c.self.inside.streams.items (length c.self.inside.streams.items) c.args.at c.index_mut.result.now refl inside c.index_mut.ensures.value in
    rw (← c.self.view_is) (feeds c.args.c.now.tracker c.args.at (family c.self.inside.streams.items (g.St.Store.holds c.args.store.now) (g.St.Store.signs c.args.store.now)) c.index_mut.result.now (scene c.append.new.self (g.St.Store.holds c.append.new.store) (g.St.Store.signs c.append.new.store)) shaped at _ c.in_default.ensures.went)

pub returns-in_default-clause-at_end : goal.returns-in_default-clause-at_end
returns-in_default-clause-at_end g c =
    let shaped : AreShaped c.args.c.now.tracker (family c.self.inside.streams.items (g.St.Store.holds c.args.store.now) (g.St.Store.signs c.args.store.now)) = rw (← c.self.view_is) at c.requires.shaped in
    let inside : c.args.at < length c.self.inside.streams.items = rw (← c.self.view_is) at c.requires.inside in
    let at : slice_get c.self.inside.streams.items c.args.at ≡ Some c.index_mut.result.now = slice_get_read c.self.inside.streams.items (length c.self.inside.streams.items) c.args.at c.index_mut.result.now refl inside c.index_mut.ensures.value in
    rw (← c.self.view_is) (at_end_kept c.args.c.now.tracker c.args.at (family c.self.inside.streams.items (g.St.Store.holds c.args.store.now) (g.St.Store.signs c.args.store.now)) c.index_mut.result.now (scene c.append.new.self (g.St.Store.holds c.append.new.store) (g.St.Store.signs c.append.new.store)) shaped at c.in_default.ensures.pinned.0)

pub returns-in_default-clause-changes : goal.returns-in_default-clause-changes
returns-in_default-clause-changes g c =
    rw (← c.self.view_is) (changes_at c.args.at (record { page_blocks = c.self.inside.page_blocks; streams = c.self.inside.streams.items; levels = c.self.inside.levels.items }) c.append.new.self)

pub returns-clause-went : goal.returns-clause-went
returns-clause-went g c =
    let shaped : AreShaped c.args.c.now.tracker (family c.self.inside.streams.items (g.St.Store.holds c.args.store.now) (g.St.Store.signs c.args.store.now)) = rw (← c.self.view_is) at c.requires.shaped in
    let inside : c.args.at < length c.self.inside.streams.items = rw (← c.self.view_is) at c.requires.inside in
    let at : slice_get c.self.inside.streams.items c.args.at ≡ Some c.index_mut.result.now = slice_get_read c.self.inside.streams.items (length c.self.inside.streams.items) c.args.at c.index_mut.result.now refl inside c.index_mut.ensures.value in
    rw (← c.self.view_is) (feeds c.args.c.now.tracker c.args.at (family c.self.inside.streams.items (g.St.Store.holds c.args.store.now) (g.St.Store.signs c.args.store.now)) c.index_mut.result.now (scene c.append.new.self (g.St.Store.holds c.append.new.store) (g.St.Store.signs c.append.new.store)) shaped at _ c.in-Err.ensures.went)

pub returns-clause-changes : goal.returns-clause-changes
returns-clause-changes g c =
    rw (← c.self.view_is) (changes_at c.args.at (record { page_blocks = c.self.inside.page_blocks; streams = c.self.inside.streams.items; levels = c.self.inside.levels.items }) c.append.new.self)

pub returns-clause-full : goal.returns-clause-full
returns-clause-full g c =
    let inside : c.args.at < length c.self.inside.streams.items = rw (← c.self.view_is) at c.requires.inside in
    let at : slice_get c.self.inside.streams.items c.args.at ≡ Some c.index_mut.result.now = slice_get_read c.self.inside.streams.items (length c.self.inside.streams.items) c.args.at c.index_mut.result.now refl inside c.index_mut.ensures.value in
    let cause = rw c.in-Pool.is at c.in-Err.ensures.cause in
    rw (← c.self.view_is) (subst (λ (n : ℕ). IsFull n (g.St.Store.holds c.append.new.store).free_slots c.in-Pool.e) (c.self.invariant.each c.args.at c.index_mut.result.now at) cause.full)

pub returns-in_default-clause-few : goal.returns-in_default-clause-few
returns-in_default-clause-few g c =
    let inside : c.args.at < length c.self.inside.streams.items = rw (← c.self.view_is) at c.requires.inside in
    let at : slice_get c.self.inside.streams.items c.args.at ≡ Some c.index_mut.result.now = slice_get_read c.self.inside.streams.items (length c.self.inside.streams.items) c.args.at c.index_mut.result.now refl inside c.index_mut.ensures.value in
    rw (← c.self.view_is) (one_more c.args.at (family c.self.inside.streams.items (g.St.Store.holds c.args.store.now) (g.St.Store.signs c.args.store.now)) c.index_mut.result.now (scene c.append.new.self (g.St.Store.holds c.append.new.store) (g.St.Store.signs c.append.new.store)) at c.append.ensures.few)

pub returns-clause-few : goal.returns-clause-few
returns-clause-few g c =
    let inside : c.args.at < length c.self.inside.streams.items = rw (← c.self.view_is) at c.requires.inside in
    let at : slice_get c.self.inside.streams.items c.args.at ≡ Some c.index_mut.result.now = slice_get_read c.self.inside.streams.items (length c.self.inside.streams.items) c.args.at c.index_mut.result.now refl inside c.index_mut.ensures.value in
    rw (← c.self.view_is) (one_more c.args.at (family c.self.inside.streams.items (g.St.Store.holds c.args.store.now) (g.St.Store.signs c.args.store.now)) c.index_mut.result.now (scene c.append.new.self (g.St.Store.holds c.append.new.store) (g.St.Store.signs c.append.new.store)) at c.append.ensures.few)

pub returns-clause-spent : goal.returns-clause-spent
returns-clause-spent g c =
    let inside : c.args.at < length c.self.inside.streams.items = rw (← c.self.view_is) at c.requires.inside in
    let at : slice_get c.self.inside.streams.items c.args.at ≡ Some c.index_mut.result.now = slice_get_read c.self.inside.streams.items (length c.self.inside.streams.items) c.args.at c.index_mut.result.now refl inside c.index_mut.ensures.value in
    rw (← c.self.view_is) (map_set_same (λ (s : Streamed). s.spent) c.self.inside.streams.items c.args.at c.index_mut.result.now c.append.new.self at c.append.ensures.went.spent)

pub returns-in_default-clause-spent : goal.returns-in_default-clause-spent
returns-in_default-clause-spent g c =
    let inside : c.args.at < length c.self.inside.streams.items = rw (← c.self.view_is) at c.requires.inside in
    let at : slice_get c.self.inside.streams.items c.args.at ≡ Some c.index_mut.result.now = slice_get_read c.self.inside.streams.items (length c.self.inside.streams.items) c.args.at c.index_mut.result.now refl inside c.index_mut.ensures.value in
    rw (← c.self.view_is) (map_set_same (λ (s : Streamed). s.spent) c.self.inside.streams.items c.args.at c.index_mut.result.now c.append.new.self at c.append.ensures.went.spent)
