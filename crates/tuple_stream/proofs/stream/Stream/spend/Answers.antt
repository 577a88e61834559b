use Rattle.std.proofs.Common.{◌≡◌, ◌≢◌, ◌+◌, drop, slice_get, Some, ap, sym, ◌∙◌, subst}
use Rattle.store_api.specs.Tokens.{PageToken}
use Rattle.tuple_stream.specs.PageRows.{row_len}
use Rattle.tuple_stream.specs.Streamed.{Streamed, open_bytes}
use Rattle.tuple_stream.specs.Touches.{Touches}
use Rattle.tuple_stream.specs.Steps.{scene}
use Rattle.tuple_stream.specs.Ending.{HasPages, with_next}
use Rattle.tuple_stream.specs.contracts.stream.Stream.{the_view}
use Rattle.tuple_stream.proofs.SpentRows.{last_went, pages_left, row_went, spent_to}
use Rattle.tuple_stream.proofs.stream.Stream.spend.Goals as goal

pub end_first-requires-clause-pages : goal.end_first-requires-clause-pages
end_first-requires-clause-pages g c =
    let s = c.args.self.now in
    let h = g.St.Store.holds c.args.store.now in
    let t = c.requires.stream.0 in
    let mid : record (the_view c.self.inside) { spent = c.self.inside.spent + c.args.len; count = c.args.count } ≡ spent_to (s.spent + c.args.len) c.args.count s =
    ap (λ (x : Streamed). record x { spent = x.spent + c.args.len; count = c.args.count }) c.self.view_is in
    (t, subst (λ (x : Streamed). HasPages t x h) (sym mid) (pages_left t s h (s.spent + c.args.len) c.args.count c.requires.stream.1))

pub returns-then-len_in_open-eq0 : goal.returns-then-len_in_open-eq0
returns-then-len_in_open-eq0 g c =
    let s = c.args.self.now in
    let n = c.args.len in
    let count = c.args.count in
    let h = g.St.Store.holds c.args.store.now in
    let new = g.St.Store.holds c.end_first.new.store in
    let mid : record (the_view c.self.inside) { spent = c.self.inside.spent + n; count = count } ≡ spent_to (s.spent + n) count s =
    ap (λ (x : Streamed). record x { spent = x.spent + n; count = count }) c.self.view_is in
    let last : row_len (drop (s.spent + n) (open_bytes s.pinned)) ≡ 0 =
    sym (ap (λ (x : Streamed). row_len (drop (x.spent + n) (open_bytes x.pinned))) c.self.view_is) ∙ sym c.len_in_open.ensures.value ∙ c.if-len_in_open-eq0.true in
    let first : (p : PageToken) → slice_get s.pages 0 ≡ Some p → slice_get (the_view c.self.inside).pages 0 ≡ Some p = λ p at. ap (λ (x : Streamed). slice_get x.pages 0) c.self.view_is ∙ at in
    record {
      went = λ t is.
          let pages : HasPages t (spent_to (s.spent + n) count s) h = pages_left t s h (s.spent + n) count is in
          last_went t n count (scene s h (g.St.Store.signs c.args.store.now)) is c.requires.pinned c.requires.len c.requires.some c.requires.count
          (scene c.end_first.new.self new (g.St.Store.signs c.end_first.new.store)) h.session (c.end_first.ensures.value ∙ ap with_next mid) (λ p at. c.end_first.ensures.holds p (first p at))
          (subst (λ (x : Streamed). Touches t x c.end_first.new.self h new) mid (c.end_first.ensures.touches t (subst (λ (x : Streamed). HasPages t x h) (sym mid) pages)))
          (λ p at. c.end_first.ensures.entries p (first p at)) c.end_first.ensures.grows last;
    }

pub returns-else-len_in_open-eq0 : goal.returns-else-len_in_open-eq0
returns-else-len_in_open-eq0 g c =
    let s = c.args.self.now in
    let n = c.args.len in
    let another : row_len (drop (s.spent + n) (open_bytes s.pinned)) ≢ 0 =
    λ none. c.if-len_in_open-eq0.false (c.len_in_open.ensures.value ∙ ap (λ (x : Streamed). row_len (drop (x.spent + n) (open_bytes x.pinned))) c.self.view_is ∙ none) in
    record {
      went = λ t is.
          row_went t n c.args.count (scene s (g.St.Store.holds c.args.store.now) (g.St.Store.signs c.args.store.now)) is c.requires.pinned c.requires.len c.requires.some c.requires.count _
          (ap (λ (x : Streamed). record x { spent = x.spent + n; count = c.args.count }) c.self.view_is) another;
    }
