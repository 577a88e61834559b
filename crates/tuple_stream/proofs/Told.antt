-- Where nothing is pinned the trail tells the rows of a stream.
use Rattle.std.proofs.Common.{◌≡◌, ℕ, List, [], Option, Some, None, IsSome, refl, ap, sym, ◌∙◌}
use Rattle.store_api.specs.Tokens.{PageToken}
use Rattle.store_api.specs.Holdings.{LivePage, Holdings, or_else, no_page, page_of}
use Rattle.store_api.specs.Entries.{TellsLeft}
use Rattle.pool_model.specs.LookingBack.{content_from}
use Rattle.pool_model.specs.declared.entry.Entry.{Entry}
use Rattle.tuple_stream.specs.PageRows.{rows_on}
use Rattle.tuple_stream.specs.Streamed.{OpenPage, Streamed, bytes_of}
use Rattle.tuple_stream.specs.Streams.{IsOwnPage, IsShaped, pins_at}
use Rattle.tuple_stream.specs.Touches.{TellsRows}
use Rattle.tuple_stream.proofs.Chosen.{at_place, all_placed, map_agrees}
use Rattle.tuple_stream.proofs.Turned.{resting_bytes}

some_slot : (slot : Option LivePage) → IsSome slot → slot ≡ Some (or_else no_page slot)
some_slot None lives = absurd cc
some_slot (Some page) lives = refl

-- where nothing is pinned the trail tells the rows
pub tells_rows : (t : ℕ) (s : Streamed) (h : Holdings) (trail : Option (List Entry)) → IsShaped t s h → s.pinned ≡ None → TellsLeft h trail → TellsRows s h trail
tells_rows t s h None is none told = tt
tells_rows t s h (Some trail) is none told =
    map_agrees (λ (p : PageToken). rows_on (content_from p.name [] trail)) (λ (p : PageToken). rows_on (bytes_of s h p)) s.pages
    (all_placed (λ p. rows_on (content_from p.name [] trail) ≡ rows_on (bytes_of s h p)) s.pages (λ k p there.
    let own : IsOwnPage t s.page_blocks h p = at_place (IsOwnPage t s.page_blocks h) s.pages k p is.own there in
    let rests : (page_of p.name h).pins ≡ 0 = is.pins k p there ∙ ap (λ (o : Option OpenPage). pins_at o k) none in
    let left : (page_of p.name h).left ≡ content_from p.name [] trail = told p.name (page_of p.name h) (some_slot (h.pages p.name) own.page.lives) rests in
    ap rows_on (sym left ∙ sym (resting_bytes s h p rests))))
