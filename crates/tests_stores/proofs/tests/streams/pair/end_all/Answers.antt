use Rattle.std.proofs.Common.{[], ◌∷◌, ◌++◌, List, length, subst}
use Rattle.tuple_stream.specs.Streamed.{Streamed}
use Rattle.tuple_stream.specs.Families.{AreShaped, family}
use Rattle.tuple_stream.proofs.FamilyStep.{last_gone}
use Rattle.tuple_stream.proofs.PageLists.{at_end}
use Rattle.tests_stores.proofs.tests.streams.pair.end_all.Goals as goal

pub drop_all-requires : goal.drop_all-requires
drop_all-requires g c =
    let t = c.args.c.now.tracker in
    let last = c.take_last-stream.result in
    let h = g.St.Store.holds c.loop-streams.store in
    let signs = g.St.Store.signs c.loop-streams.store in
    let others = c.take_last-stream.new.self.items in
    let is : AreShaped t (family (others ++ last ∷ []) h signs) = subst (λ (streams : List Streamed). AreShaped t (family streams h signs)) c.take_last-stream.ensures.items c.loop-streams.invariant in
    (t, is.each (length others) last (at_end others last))

pub loop-streams-preserved : goal.loop-streams-preserved
loop-streams-preserved g c =
    let t = c.args.c.now.tracker in
    let last = c.take_last-stream.result in
    let h = g.St.Store.holds c.loop-streams.store in
    let signs = g.St.Store.signs c.loop-streams.store in
    let others = c.take_last-stream.new.self.items in
    let is : AreShaped t (family (others ++ last ∷ []) h signs) = subst (λ (streams : List Streamed). AreShaped t (family streams h signs)) c.take_last-stream.ensures.items c.loop-streams.invariant in
    last_gone t others last c.drop_all.new.self h _ signs _ is (c.drop_all.ensures.went t (is.each (length others) last (at_end others last))).touches
