-- The last page of a stream is gone.
use Rattle.std.proofs.Common.{◌≡◌, ℕ, List, [], length, Option, Some, None, IfSome, refl, ap, ◌∙◌, arith}
use Rattle.store_api.specs.Tokens.{PageToken}
use Rattle.store_api.specs.Holdings.{Holdings}
use Rattle.tuple_stream.specs.Streamed.{OpenPage, Streamed}
use Rattle.tuple_stream.specs.Streams.{IsOpen}
use Rattle.tuple_stream.specs.Ending.{HasPages}
use Rattle.tuple_stream.proofs.Empty.{empty}
use Rattle.tuple_stream.proofs.PageLists.{no_length}

-- where there are no pages, none is pinned
none_open : (s : Streamed) (h : Holdings) (o : Option OpenPage) → s.pages ≡ [] → IfSome o (IsOpen s h) → o ≡ None
none_open s h None empty opened = refl
none_open s h (Some page) empty opened = let below = opened.inside in absurd (omega (arith, ap length empty))

empty_closed : (t : ℕ) (s : Streamed) (h : Holdings) → s.pages ≡ [] → HasPages t s h → s.pinned ≡ None
empty_closed t s h empty has = none_open s h s.pinned empty has.opened

is_empty : (s : Streamed) (blocks : ℕ) → s.page_blocks ≡ blocks → s.pages ≡ [] → s.pinned ≡ None → record s { spent = 0; used = 0; count = 0 } ≡ empty blocks
is_empty s blocks sized empty closed =
    ap (λ (n : ℕ). record s { page_blocks = n; spent = 0; used = 0; count = 0 }) sized
    ∙ ap (λ (pages : List PageToken). record s { page_blocks = blocks; pages = pages; spent = 0; used = 0; count = 0 }) empty
    ∙ ap (λ (o : Option OpenPage). record s { page_blocks = blocks; pages = []; pinned = o; spent = 0; used = 0; count = 0 }) closed

-- what a stream is whose last page went
pub emptied : (s now x : Streamed) (new : Holdings) → (t : ℕ) × HasPages t now new → x ≡ now → length now.pages ≡ 0 → now.page_blocks ≡ s.page_blocks → record x { spent = 0; used = 0; count = 0 } ≡ empty s.page_blocks
emptied s now x new has is none sized =
    let empty : now.pages ≡ [] = no_length now.pages none in
    ap (λ (y : Streamed). record y { spent = 0; used = 0; count = 0 }) is
    ∙ is_empty now s.page_blocks sized empty (empty_closed has.0 now new empty has.1)
