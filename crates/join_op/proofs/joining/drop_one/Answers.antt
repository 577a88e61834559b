use Rattle.std.proofs.Common.{[], ◌∷◌, ◌++◌, List, length, sym, subst}
use Rattle.tuple_stream.specs.Families.{AllClosed, ShowAll, family}
use Rattle.tuple_stream.specs.FamilyCalls.{AllWhole}
use Rattle.tuple_stream.specs.Steps.{scene}
use Rattle.tuple_stream.specs.Streamed.{Streamed}
use Rattle.tuple_stream.proofs.PageLists.{at_end}
use Rattle.partition_stack.specs.Sides.{OwnBoth}
use Rattle.partition_stack.specs.Slots.{SameSlots}
use Rattle.partition_stack.proofs.Making.{emptied_makes}
use Rattle.join_op.proofs.Going.{closed_front, gone_first, gone_leaves, gone_lives, gone_loans, gone_other, gone_own, gone_shows, gone_slots}
use Rattle.join_op.proofs.Spent.{whole_front}
use Rattle.join_op.proofs.joining.drop_one.Goals as goal

pub drop_all-requires : goal.drop_all-requires
drop_all-requires g c =
    let h = g.St.Store.holds c.args.store.now in
    let s = g.St.Store.signs c.args.store.now in
    let front = c.pop-top.new.self.streams in
    let own : OwnBoth c.args.c.now.tracker 0 (front ++ c.pop-top.result ∷ []) c.args._other.now.streams h s = subst (λ (ss : List Streamed). OwnBoth c.args.c.now.tracker 0 ss c.args._other.now.streams h s) c.pop-top.ensures.streams c.requires.own in
    (c.args.c.now.tracker, own.left_shaped.each (length front) c.pop-top.result (at_end front c.pop-top.result))

pub returns-clause-called : goal.returns-clause-called
returns-clause-called g c =
    let t = c.args.c.now.tracker in
    let h = g.St.Store.holds c.args.store.now in
    let s = g.St.Store.signs c.args.store.now in
    let b = scene c.drop_all.new.self (g.St.Store.holds c.drop_all.new.store) (g.St.Store.signs c.drop_all.new.store) in
    let front = c.pop-top.new.self.streams in
    let other = c.args._other.now.streams in
    let own : OwnBoth t 0 (front ++ c.pop-top.result ∷ []) other h s = subst (λ (ss : List Streamed). OwnBoth t 0 ss other h s) c.pop-top.ensures.streams c.requires.own in
    let empties = c.drop_all.ensures.went t (own.left_shaped.each (length front) c.pop-top.result (at_end front c.pop-top.result)) in
    record {
      own = gone_own t front c.pop-top.result other h s b own empties c.drop_all.ensures.value;
      shows = gone_other t front c.pop-top.result other h s b own empties c.drop_all.ensures.value;
      leaves = gone_leaves t front c.pop-top.result other h s b own empties c.drop_all.ensures.value;
      loans = gone_loans t front c.pop-top.result other h s b own empties c.drop_all.ensures.value;
      lives = gone_lives t front c.pop-top.result other h s b own empties c.drop_all.ensures.value;
      blocks = c.pop-top.ensures.blocks;
      slots = subst (λ (ss : List Streamed). SameSlots c.args.parts.now.page_blocks (family (ss ++ other) h s) (family (front ++ other) b.held b.signs)) (sym c.pop-top.ensures.streams)
          (gone_slots t front c.pop-top.result other h s b own empties c.drop_all.ensures.value c.args.parts.now.page_blocks);
    }

pub returns-clause-shows : goal.returns-clause-shows
returns-clause-shows g c = λ rows shows.
    let t = c.args.c.now.tracker in
    let h = g.St.Store.holds c.args.store.now in
    let s = g.St.Store.signs c.args.store.now in
    let b = scene c.drop_all.new.self (g.St.Store.holds c.drop_all.new.store) (g.St.Store.signs c.drop_all.new.store) in
    let front = c.pop-top.new.self.streams in
    let other = c.args._other.now.streams in
    let own : OwnBoth t 0 (front ++ c.pop-top.result ∷ []) other h s = subst (λ (ss : List Streamed). OwnBoth t 0 ss other h s) c.pop-top.ensures.streams c.requires.own in
    let empties = c.drop_all.ensures.went t (own.left_shaped.each (length front) c.pop-top.result (at_end front c.pop-top.result)) in
    gone_shows t front c.pop-top.result other h s b own empties c.drop_all.ensures.value rows (subst (λ (ss : List Streamed). ShowAll rows (family ss h s)) c.pop-top.ensures.streams shows)

pub returns-clause-closed : goal.returns-clause-closed
returns-clause-closed g c = λ closed.
    let h = g.St.Store.holds c.args.store.now in
    let s = g.St.Store.signs c.args.store.now in
    closed_front c.pop-top.new.self.streams c.pop-top.result h (g.St.Store.holds c.drop_all.new.store) s (g.St.Store.signs c.drop_all.new.store) (subst (λ (ss : List Streamed). AllClosed (family ss h s)) c.pop-top.ensures.streams closed)

pub returns-clause-first : goal.returns-clause-first
returns-clause-first g c = λ closed.
    let t = c.args.c.now.tracker in
    let h = g.St.Store.holds c.args.store.now in
    let s = g.St.Store.signs c.args.store.now in
    let b = scene c.drop_all.new.self (g.St.Store.holds c.drop_all.new.store) (g.St.Store.signs c.drop_all.new.store) in
    let front = c.pop-top.new.self.streams in
    let other = c.args._other.now.streams in
    let own : OwnBoth t 0 (front ++ c.pop-top.result ∷ []) other h s = subst (λ (ss : List Streamed). OwnBoth t 0 ss other h s) c.pop-top.ensures.streams c.requires.own in
    let empties = c.drop_all.ensures.went t (own.left_shaped.each (length front) c.pop-top.result (at_end front c.pop-top.result)) in
    gone_first t front c.pop-top.result other h s b own empties c.drop_all.ensures.value (subst (λ (ss : List Streamed). AllClosed (family ss h s)) c.pop-top.ensures.streams closed)

pub returns-clause-made : goal.returns-clause-made
returns-clause-made g c =
    let t = c.args.c.now.tracker in
    let h = g.St.Store.holds c.args.store.now in
    let s = g.St.Store.signs c.args.store.now in
    let front = c.pop-top.new.self.streams in
    let other = c.args._other.now.streams in
    let own : OwnBoth t 0 (front ++ c.pop-top.result ∷ []) other h s = subst (λ (ss : List Streamed). OwnBoth t 0 ss other h s) c.pop-top.ensures.streams c.requires.own in
    emptied_makes t (scene c.pop-top.result h s) (scene c.drop_all.new.self (g.St.Store.holds c.drop_all.new.store) (g.St.Store.signs c.drop_all.new.store)) (c.drop_all.ensures.went t (own.left_shaped.each (length front) c.pop-top.result (at_end front c.pop-top.result)))

pub returns-clause-whole : goal.returns-clause-whole
returns-clause-whole g c = λ whole.
    let h = g.St.Store.holds c.args.store.now in
    let s = g.St.Store.signs c.args.store.now in
    whole_front c.pop-top.new.self.streams c.pop-top.result h (g.St.Store.holds c.drop_all.new.store) s (g.St.Store.signs c.drop_all.new.store) (subst (λ (ss : List Streamed). AllWhole (family ss h s)) c.pop-top.ensures.streams whole)
