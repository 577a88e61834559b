use Rattle.std.proofs.Common.{rules, ◌≡◌, ◌≢◌, ℕ, ◌+◌, ◌-◌, ◌<◌, ◌≤◌, Some, None, length, ap, sym, ◌∙◌, arith}
use Rattle.std.proofs.lemmas.Bool.{eqb-false}
use Rattle.tuple_stream.specs.Streamed.{Streamed}
use Rattle.tuple_stream.specs.Places.{Place}
use Rattle.tuple_stream.specs.Reading.{IsFoundAt, behind_row, next_page}
use Rattle.tuple_stream.specs.Steps.{scene}
use Rattle.tuple_stream.proofs.Going.{came_later}
use Rattle.tuple_stream.proofs.ReadRow.{next_ok, reads_here, reads_next, reads_trans}
use Rattle.tuple_stream.proofs.stream.Stream.keep_next.Goals as goal

next_below : {len now was result page place : ℕ} → len ≡ now → len ≡ result → was ≡ now → was ≢ 0 → page ≡ place → page + 1 ≢ result → place ≤ now - 1 → place + 1 < len
next_below same is old some page apart within = omega arith

pub returns-in-Some-clause-ok : goal.returns-in-Some-clause-ok
returns-in-Some-clause-ok g c =
    let b = scene c.keep_at.new.self (g.St.Store.holds c.keep_at.new.store) (g.St.Store.signs c.keep_at.new.store) in
    let found : IsFoundAt (Some c.in-Some.byte) c.args.place c.keep_at.new.out.items b = search rules in
    reads_here _ _ c.args.place _ c.in-Some.byte _ c.args.c.now.tracker (ap (λ (q : Place). behind_row q c.in-Some.byte) c.place.view_is) c.keep_at.ensures.went found c.keep_at.ensures.same c.requires.place c.requires.some (search rules) c.keep_at.ensures.still

pub returns-clause-ok : goal.returns-clause-ok
returns-clause-ok g c =
    let b = scene c.keep_at.new.self (g.St.Store.holds c.keep_at.new.store) (g.St.Store.signs c.keep_at.new.store) in
    let none : IsFoundAt None c.args.place c.keep_at.new.out.items b = search rules in
    let same : length c.keep_at.new.self.pages ≡ length c.args.self.now.pages = ap (λ (s : Streamed). length s.pages) c.keep_at.ensures.same in
    let now : length c.keep_at.new.self.pages ≡ c.len.result = sym (ap (λ (s : Streamed). length s.pages) c.self-2.view_is) ∙ sym c.self-2.inside.pages.ok.0 ∙ sym c.len.ensures in
    let was : c.self.inside.pages.len ≡ length c.args.self.now.pages = c.self.inside.pages.ok.0 ∙ ap (λ (s : Streamed). length s.pages) c.self.view_is in
    let some : c.self.inside.pages.len ≢ 0 = eqb-false c.self.inside.pages.len 0 (sym c.is_empty.ensures ∙ c.if-is_empty.false) in
    let page : c.place.inside.page ≡ c.args.place.page = ap (λ (p : Place). p.page) c.place.view_is in
    let apart : c.place.inside.page + 1 ≢ c.len.result = c.if-place-len.false in
    let below = next_below same now was some page apart c.requires.place.page_is in
    next_ok c.keep_first.result (λ behind. reads_next _ _ _ c.args.place _ behind c.keep_first.new.out.items c.keep_at.new.out.items c.args.c.now.tracker (ap next_page c.place.view_is) c.keep_at.ensures.went none c.keep_at.ensures.same below) c.keep_first.ensures.page c.keep_first.ensures.ok

pub returns-clause-went : goal.returns-clause-went
returns-clause-went g c = reads_trans c.args.c.now.tracker _ _ _ c.keep_at.ensures.went c.keep_first.ensures.went

pub returns-clause-cause : goal.returns-clause-cause
returns-clause-cause g c = came_later _ _ _ c.keep_first.result c.keep_at.ensures.went.step.grows c.keep_at.ensures.went.step.sized c.keep_first.ensures.cause
