use Rattle.std.proofs.Common.{rules, ◌≡◌, ◌∙◌, ◌<◌, ℕ, Some, length, refl, ap, subst}
use Rattle.tuple_stream.specs.Touches.{IsFull}
use Rattle.std.specs.List.{slice_get}
use Rattle.std.proofs.lemmas.Option.{slice_get_read}
use Rattle.tuple_stream.specs.Steps.{scene}
use Rattle.tuple_stream.specs.Streamed.{Streamed}
use Rattle.tuple_stream.specs.Families.{family}
use Rattle.tuple_stream.proofs.FamilyWords.{rests_cut, rests_more}
use Rattle.partition_stack.proofs.Resting.{pages_rested, rests_before}
use Rattle.partition_stack.proofs.streams.rest_streams.Goals as goal

pub loop-at-init : goal.loop-at-init
loop-at-init g c = record { rests = rests_before c.args.c.now.tracker c.args.from _ c.requires.shaped c.requires.rests; pages = refl }

pub rest-requires : goal.rest-requires
rest-requires g c =
    let long = c.loop-at.invariant.rests.steps.long in
    let inside : c.loop-at.at < length c.loop-at.streams.items = search (rules, long) in
    let at : slice_get c.loop-at.streams.items c.loop-at.at ≡ Some c.index_mut.result.now = slice_get_read c.loop-at.streams.items (length c.loop-at.streams.items) c.loop-at.at c.index_mut.result.now refl inside (search rules) in
    (c.args.c.now.tracker, c.loop-at.invariant.rests.steps.shaped.each c.loop-at.at c.index_mut.result.now at)

pub loop-at-preserved : goal.loop-at-preserved
loop-at-preserved g c =
    let long = c.loop-at.invariant.rests.steps.long in
    let inside : c.loop-at.at < length c.loop-at.streams.items = search (rules, long) in
    let at : slice_get c.loop-at.streams.items c.loop-at.at ≡ Some c.index_mut.result.now = slice_get_read c.loop-at.streams.items (length c.loop-at.streams.items) c.loop-at.at c.index_mut.result.now refl inside (search rules) in
    let is = c.loop-at.invariant.rests.steps.shaped.each c.loop-at.at c.index_mut.result.now at in
    let b = scene c.rest.new.self (g.St.Store.holds c.rest.new.store) (g.St.Store.signs c.rest.new.store) in
    let f = family c.loop-at.streams.items (g.St.Store.holds c.loop-at.store) (g.St.Store.signs c.loop-at.store) in
    record {
      rests = rests_more c.args.c.now.tracker c.loop-at.at _ f c.index_mut.result.now b c.loop-at.invariant.rests at (c.rest.ensures.went c.args.c.now.tracker is) (search rules);
      pages = pages_rested c.loop-at.at f c.index_mut.result.now b at (ap (λ (s : Streamed). length s.pages) c.rest.ensures.same) ∙ c.loop-at.invariant.pages;
    }

pub returns-in_err-rest-clause-went : goal.returns-in_err-rest-clause-went
returns-in_err-rest-clause-went g c =
    let long = c.loop-at.invariant.rests.steps.long in
    let inside : c.loop-at.at < length c.loop-at.streams.items = search (rules, long) in
    let at : slice_get c.loop-at.streams.items c.loop-at.at ≡ Some c.index_mut.result.now = slice_get_read c.loop-at.streams.items (length c.loop-at.streams.items) c.loop-at.at c.index_mut.result.now refl inside (search rules) in
    let is = c.loop-at.invariant.rests.steps.shaped.each c.loop-at.at c.index_mut.result.now at in
    let b = scene c.rest.new.self (g.St.Store.holds c.rest.new.store) (g.St.Store.signs c.rest.new.store) in
    let f = family c.loop-at.streams.items (g.St.Store.holds c.loop-at.store) (g.St.Store.signs c.loop-at.store) in
    rests_cut c.args.c.now.tracker c.loop-at.at _ f c.index_mut.result.now b c.loop-at.invariant.rests at (c.rest.ensures.went c.args.c.now.tracker is)

pub returns-in_err-rest-clause-full : goal.returns-in_err-rest-clause-full
returns-in_err-rest-clause-full g c =
    let long = c.loop-at.invariant.rests.steps.long in
    let inside : c.loop-at.at < length c.loop-at.streams.items = search (rules, long) in
    let at : slice_get c.loop-at.streams.items c.loop-at.at ≡ Some c.index_mut.result.now = slice_get_read c.loop-at.streams.items (length c.loop-at.streams.items) c.loop-at.at c.index_mut.result.now refl inside (search rules) in
    λ blocks sized.
    let same : c.index_mut.result.now.page_blocks ≡ blocks = c.loop-at.invariant.rests.steps.sized blocks sized c.loop-at.at c.index_mut.result.now at in
    let full : IsFull blocks (g.St.Store.holds c.rest.new.store).free_slots c.in_err-rest.field-0.0 = subst (λ (n : ℕ). IsFull n (g.St.Store.holds c.rest.new.store).free_slots c.in_err-rest.field-0.0) same c.in_err-rest.ensures.cause.full in
    search (rules, full)

pub returns-in_err-rest-clause-pages : goal.returns-in_err-rest-clause-pages
returns-in_err-rest-clause-pages g c =
    let long = c.loop-at.invariant.rests.steps.long in
    let inside : c.loop-at.at < length c.loop-at.streams.items = search (rules, long) in
    let at : slice_get c.loop-at.streams.items c.loop-at.at ≡ Some c.index_mut.result.now = slice_get_read c.loop-at.streams.items (length c.loop-at.streams.items) c.loop-at.at c.index_mut.result.now refl inside (search rules) in
    let b = scene c.rest.new.self (g.St.Store.holds c.rest.new.store) (g.St.Store.signs c.rest.new.store) in
    let f = family c.loop-at.streams.items (g.St.Store.holds c.loop-at.store) (g.St.Store.signs c.loop-at.store) in
    pages_rested c.loop-at.at f c.index_mut.result.now b at (ap (λ (s : Streamed). length s.pages) c.rest.ensures.same) ∙ c.loop-at.invariant.pages

pub returns-clause-pages : goal.returns-clause-pages
returns-clause-pages g c = c.loop-at.invariant.pages
