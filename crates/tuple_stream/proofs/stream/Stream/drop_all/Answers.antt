use Rattle.std.proofs.Common.{rules, ◌≡◌, ◌<◌, length, refl, ap, sym, ◌∙◌, eqb-true}
use Rattle.tuple_stream.specs.Streamed.{Streamed}
use Rattle.tuple_stream.specs.Steps.{scene}
use Rattle.tuple_stream.specs.contracts.stream.Stream.{the_view}
use Rattle.store_api.proofs.Growing.{grows_refl, grows_trans}
use Rattle.tuple_stream.proofs.Chains.{touches_refl, touches_trans}
use Rattle.tuple_stream.proofs.Endings.{has_pages}
use Rattle.tuple_stream.proofs.Empty.{empty, empty_shaped}
use Rattle.tuple_stream.proofs.Emptied.{emptied}
use Rattle.tuple_stream.proofs.Ends.{first_goes, gone_counted, gone_joined, none_gone}
use Rattle.tuple_stream.proofs.stream.Stream.drop_all.Goals as goal

pub loop-self-init : goal.loop-self-init
loop-self-init g c =
    let old = g.St.Store.holds c.args.store.now in
    record {
      sized = refl;
      pages = λ t is. has_pages t c.args.self.now old is;
      touches = λ t is. touches_refl t c.args.self.now old;
      gone = none_gone (scene c.args.self.now old (g.St.Store.signs c.args.store.now));
      grows = grows_refl (g.St.Store.signs c.args.store.now);
    }

pub drop_first-requires-clause-pages : goal.drop_first-requires-clause-pages
drop_first-requires-clause-pages g c = (c.requires.0, c.loop-self.invariant.pages c.requires.0 c.requires.1)

pub loop-self-preserved : goal.loop-self-preserved
loop-self-preserved g c =
    let old = g.St.Store.holds c.args.store.now in
    let before = g.St.Store.holds c.loop-self.store in
    let after = g.St.Store.holds c.drop_first.new.store in
    let a = scene c.args.self.now old (g.St.Store.signs c.args.store.now) in
    let mid = scene c.loop-self.self before (g.St.Store.signs c.loop-self.store) in
    let b = scene c.drop_first.new.self after (g.St.Store.signs c.drop_first.new.store) in
    record {
      sized = ap (λ (s : Streamed). s.page_blocks) c.drop_first.ensures.value ∙ c.loop-self.invariant.sized;
      pages = λ t is. c.drop_first.ensures.pages t (c.loop-self.invariant.pages t is);
      touches = λ t is. touches_trans t a.stream mid.stream b.stream old before after (c.loop-self.invariant.touches t is) (c.drop_first.ensures.touches t (c.loop-self.invariant.pages t is));
      gone =
          let some : 0 < length c.loop-self.self.pages = search rules in
          gone_joined a mid b c.loop-self.invariant.gone (first_goes mid b before.session some (ap (λ (s : Streamed). s.pinned) c.drop_first.ensures.value) c.drop_first.ensures.entries);
      grows = grows_trans a.signs mid.signs b.signs c.loop-self.invariant.grows c.drop_first.ensures.grows;
    }

pub returns-clause-value : goal.returns-clause-value
returns-clause-value g c =
    let none : length c.loop-self.self.pages ≡ 0 =
    sym (ap (λ (s : Streamed). length s.pages) c.self.view_is) ∙ sym c.self.inside.pages.ok.0 ∙ eqb-true c.self.inside.pages.len 0 (sym c.is_empty.ensures ∙ c.loop-self-test.false) in
    let last : record (the_view c.self-2.inside) { spent = 0; used = 0; count = 0 } ≡ empty c.args.self.now.page_blocks =
    emptied c.args.self.now c.loop-self.self (the_view c.self-2.inside) (g.St.Store.holds c.loop-self.store) (c.requires.0, c.loop-self.invariant.pages c.requires.0 c.requires.1) c.self-2.view_is none c.loop-self.invariant.sized in
    last

pub returns-clause-went : goal.returns-clause-went
returns-clause-went g c =
    let none : length c.loop-self.self.pages ≡ 0 =
    sym (ap (λ (s : Streamed). length s.pages) c.self.view_is) ∙ sym c.self.inside.pages.ok.0 ∙ eqb-true c.self.inside.pages.len 0 (sym c.is_empty.ensures ∙ c.loop-self-test.false) in
    let last : record (the_view c.self-2.inside) { spent = 0; used = 0; count = 0 } ≡ empty c.args.self.now.page_blocks =
    emptied c.args.self.now c.loop-self.self (the_view c.self-2.inside) (g.St.Store.holds c.loop-self.store) (c.requires.0, c.loop-self.invariant.pages c.requires.0 c.requires.1) c.self-2.view_is none c.loop-self.invariant.sized in
    let now = g.St.Store.holds c.loop-self.store in
    let was = c.loop-self.invariant in
    λ t is.
    gone_counted t (scene c.args.self.now (g.St.Store.holds c.args.store.now) (g.St.Store.signs c.args.store.now)) (scene c.loop-self.self now (g.St.Store.signs c.loop-self.store)) _ 0 0 0
    (ap (λ (s : Streamed). record s { spent = 0; used = 0; count = 0 }) c.self-2.view_is)
    (empty_shaped t c.args.self.now.page_blocks _ now last is.sized)
    was.sized (was.touches t is) was.gone was.grows
