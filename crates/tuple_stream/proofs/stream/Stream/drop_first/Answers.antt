use Rattle.std.proofs.Common.{◌≡◌, List, ◌∷◌, slice_get, ap, sym, ◌∙◌, subst}
use Rattle.std.specs.Prelude.{Option}
use Rattle.block_arena.specs.Memory.{Buffer}
use Rattle.std.proofs.lemmas.Option.{same_Some}
use Rattle.store_api.specs.Tokens.{PageToken}
use Rattle.store_api.specs.Changes.{after_destroy}
use Rattle.store_api.specs.Conditions.{IsHeld}
use Rattle.tuple_stream.specs.Streamed.{Streamed}
use Rattle.tuple_stream.specs.Ending.{behind_first}
use Rattle.tuple_stream.specs.contracts.stream.Stream.{the_view}
use Rattle.tuple_stream.proofs.Endings.{front_is_held, front_gone, front_touches}
use Rattle.tuple_stream.proofs.stream.Stream.drop_first.Goals as goal

pub destroy-requires-clause-buffer : goal.destroy-requires-clause-buffer
destroy-requires-clause-buffer g c =
    let s = c.args.self.now in
    let starts : s.pages ≡ c.in-Some.page ∷ c.pop_front.new.self.items =
    sym (ap (λ (x : Streamed). x.pages) (c.self.view_is ∙ c.leave_first-buf.ensures.value)) ∙ c.in-Some.ensures.items in
    subst (λ (buf : Option Buffer). IsHeld c.in-Some.page (g.St.Store.holds c.args.store.now) buf) (sym c.leave_first-buf.ensures.buffer)
    (front_is_held s (g.St.Store.holds c.args.store.now) c.in-Some.page c.pop_front.new.self.items starts c.requires.pages)

pub returns-clause-pages : goal.returns-clause-pages
returns-clause-pages g c =
    let s = c.args.self.now in
    let left : the_view c.self.inside ≡ record s { pinned = behind_first s.pinned } = c.self.view_is ∙ c.leave_first-buf.ensures.value in
    let starts : s.pages ≡ c.in-Some.page ∷ c.pop_front.new.self.items = sym (ap (λ (x : Streamed). x.pages) left) ∙ c.in-Some.ensures.items in
    front_gone s (g.St.Store.holds c.args.store.now) c.in-Some.page c.pop_front.new.self.items starts _ _
    (ap (λ (x : Streamed). record x { pages = c.pop_front.new.self.items }) left) c.destroy.ensures.value

pub returns-clause-touches : goal.returns-clause-touches
returns-clause-touches g c =
    let s = c.args.self.now in
    let left : the_view c.self.inside ≡ record s { pinned = behind_first s.pinned } = c.self.view_is ∙ c.leave_first-buf.ensures.value in
    let starts : s.pages ≡ c.in-Some.page ∷ c.pop_front.new.self.items = sym (ap (λ (x : Streamed). x.pages) left) ∙ c.in-Some.ensures.items in
    front_touches s (g.St.Store.holds c.args.store.now) c.in-Some.page c.pop_front.new.self.items starts _ _
    (ap (λ (x : Streamed). record x { pages = c.pop_front.new.self.items }) left) c.destroy.ensures.value

pub returns-clause-holds : goal.returns-clause-holds
returns-clause-holds g c =
    let s = c.args.self.now in
    let left : the_view c.self.inside ≡ record s { pinned = behind_first s.pinned } = c.self.view_is ∙ c.leave_first-buf.ensures.value in
    let starts : s.pages ≡ c.in-Some.page ∷ c.pop_front.new.self.items = sym (ap (λ (x : Streamed). x.pages) left) ∙ c.in-Some.ensures.items in
    λ p at. c.destroy.ensures.value ∙ ap (λ (q : PageToken). after_destroy q.name (g.St.Store.holds c.args.store.now)) (same_Some c.in-Some.page p (ap (λ (pages : List PageToken). slice_get pages 0) (sym starts) ∙ at))
