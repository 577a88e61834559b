use Rattle.std.proofs.Common.{rules, [], ◌∷◌, ◌++◌, List, length, ap, subst}
use Rattle.tuple_stream.specs.Streamed.{Streamed}
use Rattle.tuple_stream.specs.Steps.{scene}
use Rattle.tuple_stream.specs.Families.{AreShaped, family}
use Rattle.tuple_stream.proofs.PageLists.{at_end, no_length}
use Rattle.partition_stack.proofs.Away.{all_left, none_left, one_left}
use Rattle.partition_stack.proofs.streams.end_streams.Goals as goal

pub loop-streams-init : goal.loop-streams-init
loop-streams-init g c = none_left c.args.c.now.tracker _ c.requires

pub drop_all-requires : goal.drop_all-requires
drop_all-requires g c =
    let t = c.args.c.now.tracker in
    let last = c.take_last-stream.result in
    let h = g.St.Store.holds c.loop-streams.store in
    let signs = g.St.Store.signs c.loop-streams.store in
    let others = c.take_last-stream.new.self.items in
    let is : AreShaped t (family (others ++ last ∷ []) h signs) = subst (λ (streams : List Streamed). AreShaped t (family streams h signs)) c.take_last-stream.ensures.items c.loop-streams.invariant.shaped in
    (t, is.each (length others) last (at_end others last))

pub loop-streams-preserved : goal.loop-streams-preserved
loop-streams-preserved g c =
    let t = c.args.c.now.tracker in
    let last = c.take_last-stream.result in
    let h = g.St.Store.holds c.loop-streams.store in
    let signs = g.St.Store.signs c.loop-streams.store in
    let others = c.take_last-stream.new.self.items in
    let is : AreShaped t (family (others ++ last ∷ []) h signs) = subst (λ (streams : List Streamed). AreShaped t (family streams h signs)) c.take_last-stream.ensures.items c.loop-streams.invariant.shaped in
    one_left t _ _ others last h signs (scene c.drop_all.new.self (g.St.Store.holds c.drop_all.new.store) (g.St.Store.signs c.drop_all.new.store))
    c.take_last-stream.ensures.items c.loop-streams.invariant (c.drop_all.ensures.went t (is.each (length others) last (at_end others last)))
    (ap (λ (s : Streamed). s.pages) c.drop_all.ensures.value) (ap (λ (s : Streamed). s.pinned) c.drop_all.ensures.value)

pub returns : goal.returns
returns g c = all_left c.args.c.now.tracker _ c.loop-streams.streams.items _ _ (no_length c.loop-streams.streams.items (search rules)) c.loop-streams.invariant
