use Rattle.std.proofs.Common.{rules, ◌≡◌, ◌<◌, Some, length, refl}
use Rattle.std.specs.List.{slice_get}
use Rattle.std.proofs.lemmas.Option.{slice_get_read}
use Rattle.tuple_stream.specs.Steps.{scene}
use Rattle.tuple_stream.specs.Families.{family}
use Rattle.tuple_stream.proofs.FamilyWords.{rests_cut, rests_more, rests_none}
use Rattle.tests_stores.proofs.tests.streams.pair.rest_all.Goals as goal

pub loop-at-init : goal.loop-at-init
loop-at-init g c = rests_none c.args.c.now.tracker _ c.requires.shaped

pub rest-requires : goal.rest-requires
rest-requires g c =
    let long = c.loop-at.invariant.steps.long in
    let inside : c.loop-at.at < length c.loop-at.streams.items = search (rules, long) in
    let at : slice_get c.loop-at.streams.items c.loop-at.at ≡ Some c.index_mut.result.now = slice_get_read c.loop-at.streams.items (length c.loop-at.streams.items) c.loop-at.at c.index_mut.result.now refl inside (search rules) in
    (c.args.c.now.tracker, c.loop-at.invariant.steps.shaped.each c.loop-at.at c.index_mut.result.now at)

pub loop-at-preserved : goal.loop-at-preserved
loop-at-preserved g c =
    let long = c.loop-at.invariant.steps.long in
    let inside : c.loop-at.at < length c.loop-at.streams.items = search (rules, long) in
    let at : slice_get c.loop-at.streams.items c.loop-at.at ≡ Some c.index_mut.result.now = slice_get_read c.loop-at.streams.items (length c.loop-at.streams.items) c.loop-at.at c.index_mut.result.now refl inside (search rules) in
    let is = c.loop-at.invariant.steps.shaped.each c.loop-at.at c.index_mut.result.now at in
    let b = scene c.rest.new.self (g.St.Store.holds c.rest.new.store) (g.St.Store.signs c.rest.new.store) in
    let f = family c.loop-at.streams.items (g.St.Store.holds c.loop-at.store) (g.St.Store.signs c.loop-at.store) in
    rests_more c.args.c.now.tracker c.loop-at.at _ f c.index_mut.result.now b c.loop-at.invariant at (c.rest.ensures.went c.args.c.now.tracker is) (search rules)

pub returns-in_err-rest-clause-went : goal.returns-in_err-rest-clause-went
returns-in_err-rest-clause-went g c =
    let long = c.loop-at.invariant.steps.long in
    let inside : c.loop-at.at < length c.loop-at.streams.items = search (rules, long) in
    let at : slice_get c.loop-at.streams.items c.loop-at.at ≡ Some c.index_mut.result.now = slice_get_read c.loop-at.streams.items (length c.loop-at.streams.items) c.loop-at.at c.index_mut.result.now refl inside (search rules) in
    let is = c.loop-at.invariant.steps.shaped.each c.loop-at.at c.index_mut.result.now at in
    let b = scene c.rest.new.self (g.St.Store.holds c.rest.new.store) (g.St.Store.signs c.rest.new.store) in
    let f = family c.loop-at.streams.items (g.St.Store.holds c.loop-at.store) (g.St.Store.signs c.loop-at.store) in
    rests_cut c.args.c.now.tracker c.loop-at.at _ f c.index_mut.result.now b c.loop-at.invariant at (c.rest.ensures.went c.args.c.now.tracker is)
