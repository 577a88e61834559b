use Rattle.std.proofs.Common.{rules, ◌≡◌, ℕ, [], ◌∷◌, None, refl, subst}
use Rattle.pool_model.specs.declared.event.Event.TheVariants.{UnpinRefused}
use Rattle.store_api.specs.Changes.{after_unpin}
use Rattle.store_api.specs.Refusals.{LacksSlots}
use Rattle.store_api.specs.Holdings.{page_of}
use Rattle.tuple_stream.specs.Streamed.{OpenPage, Streamed}
use Rattle.tuple_stream.proofs.BuildingQuiet.{unpin_quiet}
use Rattle.tuple_stream.proofs.Going.{made_quiet, went_refl, went_still}
use Rattle.tuple_stream.proofs.RestedPage.{rested_went}
use Rattle.tuple_stream.proofs.Pinned.{IsPinned, is_pinned, pinned_once}
use Rattle.tuple_stream.proofs.Told.{tells_rows}
use Rattle.tuple_stream.specs.contracts.stream.Stream.{the_view}
use Rattle.tuple_stream.specs.Streams.{IsShaped}
use Rattle.tuple_stream.specs.Touches.{TellsRows}
use Rattle.tuple_stream.specs.Steps.{Rests, scene}
use Rattle.tuple_stream.proofs.Turned.{with_pinned}
use Rattle.tuple_stream.proofs.stream.Stream.rest.Given as given
use Rattle.tuple_stream.proofs.stream.Stream.rest.Goals as goal

pub unpin-requires-clause-pinned : goal.unpin-requires-clause-pinned
unpin-requires-clause-pinned g c =
    let h = g.St.Store.holds c.args.store.now in
    let page : OpenPage = record { place = c.in-Some.place; buf = c.in-Some.buf } in
    let pinned : IsPinned c.args.self.now page c.index.result.now = is_pinned c.requires.0 c.args.self.now h page c.index.result.now c.requires.1 (search rules) (search rules) in
    pinned_once c.requires.0 c.args.self.now h page c.index.result.now c.requires.1 pinned

pub returns-in_default-clause-went : goal.returns-in_default-clause-went
returns-in_default-clause-went g c = λ t is. went_refl t _ _ _ _ is (search rules)

-- the stream that is left
now_is : (g : given.Over) (c : goal.In-Ok g) → with_pinned None c.args.self.now ≡ the_view (record { page_blocks = c.self.inside.page_blocks; pages = c.self.inside.pages; pinned = c.take.new.self; spent = c.self.inside.spent; used = c.self.inside.used; count = c.self.inside.count })
now_is g c = search rules

rest_ok : (g : given.Over) (c : goal.In-Ok g) (t : ℕ) → IsShaped t c.args.self.now (g.St.Store.holds c.args.store.now)
    → Rests t (scene c.args.self.now (g.St.Store.holds c.args.store.now) (g.St.Store.signs c.args.store.now)) (scene (with_pinned None c.args.self.now) (g.St.Store.holds c.unpin.new.self) (g.St.Store.signs c.unpin.new.self))
rest_ok g c t is =
    let h = g.St.Store.holds c.args.store.now in
    let page : OpenPage = record { place = c.in-Some.place; buf = c.in-Some.buf } in
    let pinned : IsPinned c.args.self.now page c.index.result.now = is_pinned t c.args.self.now h page c.index.result.now is (search rules) (search rules) in
    let enough : LacksSlots (page_of c.index.result.now.name h) h.free_slots → ⊥ = search rules in
    let unpinned : g.St.Store.holds c.unpin.new.self ≡ after_unpin c.index.result.now.name c.in-Some.buf.bytes h = search rules in
    rested_went is pinned unpinned _ h.session _ _ refl enough (search rules) c.unpin.ensures.grows

pub returns-in-Ok-clause-went : goal.returns-in-Ok-clause-went
returns-in-Ok-clause-went g c = λ t is.
    subst (λ (s : Streamed). Rests t (scene c.args.self.now (g.St.Store.holds c.args.store.now) (g.St.Store.signs c.args.store.now)) (scene s (g.St.Store.holds c.unpin.new.self) (g.St.Store.signs c.unpin.new.self))) (now_is g c) (rest_ok g c t is)

pub returns-in-Err-clause-went : goal.returns-in-Err-clause-went
returns-in-Err-clause-went g c = λ t is.
    let p = c.index.result.now.name in
    went_still t _ _ is (search rules) c.in-Err.ensures.err.held (made_quiet _ _ (λ events. events ≡ UnpinRefused p ∷ []) _ (g.St.Store.signs c.args.store.now) (g.St.Store.signs c.unpin.new.self) (unpin_quiet p) c.in-Err.ensures.err.entries) c.unpin.ensures.grows

pub returns-in_default-clause-told : goal.returns-in_default-clause-told
returns-in_default-clause-told g c =
    let h = g.St.Store.holds c.args.store.now in
    let trail = (g.St.Store.signs c.args.store.now).trail in
    let none : c.args.self.now.pinned ≡ None = search rules in
    let now : c.args.self.now ≡ the_view (record { page_blocks = c.self.inside.page_blocks; pages = c.self.inside.pages; pinned = c.take.new.self; spent = c.self.inside.spent; used = c.self.inside.used; count = c.self.inside.count }) = search rules in
    subst (λ (s : Streamed). TellsRows s h trail) now
    (tells_rows c.requires.0 c.args.self.now h trail c.requires.1 none (g.met.St.Store.tells_left c.args.store.now))

pub returns-in-Ok-clause-told : goal.returns-in-Ok-clause-told
returns-in-Ok-clause-told g c =
    let new = g.St.Store.holds c.unpin.new.self in
    let trail = (g.St.Store.signs c.unpin.new.self).trail in
    let went = rest_ok g c c.requires.0 c.requires.1 in
    subst (λ (s : Streamed). TellsRows s new trail) (now_is g c)
    (tells_rows c.requires.0 (with_pinned None c.args.self.now) new trail went.step.shape refl (g.met.St.Store.tells_left c.unpin.new.self))
