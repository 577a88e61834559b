use Rattle.std.proofs.Common.{◌≡◌, ◌<◌, ℕ, Some, length, refl, subst}
use Rattle.std.specs.List.{slice_get}
use Rattle.std.proofs.lemmas.Option.{slice_get_read}
use Rattle.tuple_stream.specs.Touches.{IsFull}
use Rattle.tuple_stream.specs.Steps.{scene}
use Rattle.tuple_stream.specs.Families.{AreShaped, family}
use Rattle.std.proofs.lemmas.Result.{IfErr-weaker, IfOk-weaker}
use Rattle.partition_stack.proofs.Stacking.{changed_is_stack}
use Rattle.partition_stack.proofs.Room.{room_for_each}
use Rattle.partition_stack.proofs.Called.{changes_at, read_again, sized_spent, spends_at}
use Rattle.partition_stack.proofs.stack.Partitions.spend.Goals as goal

pub spend_into-requires-clause-stream : goal.spend_into-requires-clause-stream
spend_into-requires-clause-stream g c =
    let shaped : AreShaped c.args.c.now.tracker (family c.self.inside.streams.items (g.St.Store.holds c.args.store.now) (g.St.Store.signs c.args.store.now)) = rw (← c.self.view_is) at c.requires.shaped in
    let inside : c.args.at < length c.self.inside.streams.items = rw (← c.self.view_is) at c.requires.inside in
    let at : slice_get c.self.inside.streams.items c.args.at ≡ Some c.index_mut.result.now = slice_get_read c.self.inside.streams.items (length c.self.inside.streams.items) c.args.at c.index_mut.result.now refl inside c.index_mut.ensures.value in
    shaped.each c.args.at c.index_mut.result.now at

pub spend_into-requires-clause-room : goal.spend_into-requires-clause-room
spend_into-requires-clause-room g c =
    let inside : c.args.at < length c.self.inside.streams.items = rw (← c.self.view_is) at c.requires.inside in
    let at : slice_get c.self.inside.streams.items c.args.at ≡ Some c.index_mut.result.now = slice_get_read c.self.inside.streams.items (length c.self.inside.streams.items) c.args.at c.index_mut.result.now refl inside c.index_mut.ensures.value in
    let room = rw (← c.self.view_is) at c.requires.room in
    room_for_each c.args.c.now.tracker room.0 c.args.at _ _ _ c.index_mut.result.now c.self.invariant room.2 room.1 at

pub invariant_of-self : goal.invariant_of-self
invariant_of-self g c =
    let inside : c.args.at < length c.self.inside.streams.items = rw (← c.self.view_is) at c.requires.inside in
    let at : slice_get c.self.inside.streams.items c.args.at ≡ Some c.index_mut.result.now = slice_get_read c.self.inside.streams.items (length c.self.inside.streams.items) c.args.at c.index_mut.result.now refl inside c.index_mut.ensures.value in
    changed_is_stack _ c.args.at c.index_mut.result.now c.spend_into.new.self c.self.invariant at
    (sized_spent c.args.c.now.tracker c.spend_into.result c.spend_into.new.out.items (scene c.index_mut.result.now (g.St.Store.holds c.args.store.now) (g.St.Store.signs c.args.store.now)) (scene c.spend_into.new.self (g.St.Store.holds c.spend_into.new.store) (g.St.Store.signs c.spend_into.new.store)) c.spend_into.ensures.ok c.spend_into.ensures.err)

pub returns-clause-ok : goal.returns-clause-ok
returns-clause-ok g c =
    let shaped : AreShaped c.args.c.now.tracker (family c.self.inside.streams.items (g.St.Store.holds c.args.store.now) (g.St.Store.signs c.args.store.now)) = rw (← c.self.view_is) at c.requires.shaped in
    let inside : c.args.at < length c.self.inside.streams.items = rw (← c.self.view_is) at c.requires.inside in
    let at : slice_get c.self.inside.streams.items c.args.at ≡ Some c.index_mut.result.now = slice_get_read c.self.inside.streams.items (length c.self.inside.streams.items) c.args.at c.index_mut.result.now refl inside c.index_mut.ensures.value in
    rw (← c.self.view_is)
    (IfOk-weaker c.spend_into.result _ _ (λ found spends. spends_at c.args.c.now.tracker c.args.at c.self.inside.streams.items _ _ c.index_mut.result.now (scene c.spend_into.new.self (g.St.Store.holds c.spend_into.new.store) (g.St.Store.signs c.spend_into.new.store)) shaped at found c.spend_into.new.out.items spends) c.spend_into.ensures.ok)

pub returns-clause-err : goal.returns-clause-err
returns-clause-err g c =
    let shaped : AreShaped c.args.c.now.tracker (family c.self.inside.streams.items (g.St.Store.holds c.args.store.now) (g.St.Store.signs c.args.store.now)) = rw (← c.self.view_is) at c.requires.shaped in
    let inside : c.args.at < length c.self.inside.streams.items = rw (← c.self.view_is) at c.requires.inside in
    let at : slice_get c.self.inside.streams.items c.args.at ≡ Some c.index_mut.result.now = slice_get_read c.self.inside.streams.items (length c.self.inside.streams.items) c.args.at c.index_mut.result.now refl inside c.index_mut.ensures.value in
    rw (← c.self.view_is) (read_again c.args.c.now.tracker c.args.at c.self.inside.streams.items _ _ c.index_mut.result.now (scene c.spend_into.new.self (g.St.Store.holds c.spend_into.new.store) (g.St.Store.signs c.spend_into.new.store)) shaped at c.spend_into.result c.spend_into.ensures.err c.spend_into.ensures.same)

pub returns-clause-changes : goal.returns-clause-changes
returns-clause-changes g c =
    rw (← c.self.view_is) (changes_at c.args.at (record { page_blocks = c.self.inside.page_blocks; streams = c.self.inside.streams.items; levels = c.self.inside.levels.items }) c.spend_into.new.self)

pub returns-clause-full : goal.returns-clause-full
returns-clause-full g c =
    let inside : c.args.at < length c.self.inside.streams.items = rw (← c.self.view_is) at c.requires.inside in
    let at : slice_get c.self.inside.streams.items c.args.at ≡ Some c.index_mut.result.now = slice_get_read c.self.inside.streams.items (length c.self.inside.streams.items) c.args.at c.index_mut.result.now refl inside c.index_mut.ensures.value in
    rw (← c.self.view_is)
    (IfErr-weaker c.spend_into.result _ _ (λ e cause. subst (λ (n : ℕ). IsFull n (g.St.Store.holds c.spend_into.new.store).free_slots e) (c.self.invariant.each c.args.at c.index_mut.result.now at) cause.full) c.spend_into.ensures.cause)
