-- A stream whose last page is pinned, with room for a row, is ready for it.
use Rattle.std.proofs.Common.{◌≡◌, ℕ, zero, suc, ◌+◌, ◌<◌, ◌≤◌, ◌==◌, List, [], ◌∷◌, ◌++◌, length, take, drop, Option, Some, None, option_map, refl, ap, sym, ◌∙◌, subst, arith}
use Rattle.std.specs.Prelude.{All, slice_get}
use Rattle.std.proofs.lemmas.Option.{same_Some}
use Rattle.std.specs.Option.{IfSome}
use Rattle.std.proofs.Math.Seq.{take-append_seam}
use Rattle.std.proofs.lemmas.List.Elements.{All-take}
use Rattle.store_api.specs.Tokens.{PageToken}
use Rattle.store_api.specs.Holdings.{Holdings}
use Rattle.tuple_stream.specs.PageRows.{rows_on}
use Rattle.tuple_stream.specs.Streamed.{OpenPage, Streamed, len_in, bytes_of, all_bytes, rows_by_page, page_rows}
use Rattle.tuple_stream.specs.Streams.{IsFilled, IsOpen, IsPacked, IsShaped, HasRows, start_of, unspent}
use Rattle.tuple_stream.specs.Ready.{IsReady}
use Rattle.tuple_stream.proofs.Pinned.{IsPinned, pinned_bytes, pinned_once}
use Rattle.tuple_stream.proofs.PageLists.{split_last}
use Rattle.tuple_stream.proofs.Packing.{rows_split, row_more, packed_more_if}

module _ (t bytes : ℕ) (s : Streamed) (h : Holdings) (page : OpenPage) (p : PageToken) (is : IsShaped t s h) (pinned : IsPinned s page p) (ends : page.place + 1 ≡ length s.pages) (room : s.used + bytes ≤ len_in s h) (rows : List (List ℕ)) (has : HasRows rows s h) where
  pages_are : s.pages ≡ take page.place s.pages ++ p ∷ []
  pages_are = (split_last s.pages page.place p pinned.at ends).0

  place_is : length (take page.place s.pages) ≡ page.place
  place_is = (split_last s.pages page.place p pinned.at ends).1

  opened : IsOpen s h page
  opened = subst (λ (o : Option OpenPage). IfSome o (IsOpen s h)) pinned.pinned is.opened

  bytes_are : bytes_of s h p ≡ page.buf.bytes
  bytes_are = pinned_bytes s h p page (pinned_once t s h page p is pinned) pinned.pinned

  rows_are : page_rows s h ≡ rows_by_page s.spent (all_bytes s h (take page.place s.pages)) ++ rows_on (drop (start_of s (length (take page.place s.pages))) page.buf.bytes) ∷ []
  rows_are =
      rows_split s h (take page.place s.pages) p pages_are
      ∙ ap (λ (bs : List ℕ). rows_by_page s.spent (all_bytes s h (take page.place s.pages)) ++ rows_on (drop (start_of s (length (take page.place s.pages))) bs) ∷ []) bytes_are

  pub ready_here : IsReady bytes s h
  ready_here =
      let before = take page.place s.pages in
      let front = rows_by_page s.spent (all_bytes s h before) in
      let last = rows_on (drop (start_of s (length before)) page.buf.bytes) in
      record {
        before = take page.place s.pages;
        last = p;
        buf = page.buf;
        pages_are = pages_are;
        pinned_is = pinned.pinned ∙ ap (λ (n : ℕ). Some (record { place = n; buf = page.buf })) (sym place_is);
        pins = is.pins;
        filled =
            subst (λ (n : ℕ). IsFilled (start_of s n) s.used page.buf.bytes) (sym place_is)
            (subst (IsFilled (start_of s page.place) s.used) bytes_are (has.filled page.place p pinned.at ends));
        room = omega (arith, room, opened.fits.whole);
        each = subst (All (λ (rows : List (List ℕ)). 0 < length rows)) (take-append_seam front (last ∷ []))
            (All-take (λ (rows : List (List ℕ)). 0 < length rows) (length front) (front ++ last ∷ []) (subst (All (λ (rows : List (List ℕ)). 0 < length rows)) rows_are has.each));
        counted = has.counted ∙ ap length (sym has.are);
        packed = λ row long.
            packed_more_if (len_in s h) (s.spent == 0) front last (last ++ row ∷ []) (omega (arith, row_more last row))
            (subst (λ (rows : List (List (List ℕ))). IsPacked (len_in s h) (unspent s rows)) rows_are has.packed);
      }

place_of : (pinned : Option OpenPage) (place : ℕ) → option_map (λ (page : OpenPage). page.place) pinned ≡ Some place → (page : OpenPage) × (pinned ≡ Some page) × (page.place ≡ place)
place_of None place is = absurd cc
place_of (Some page) place is = (page, refl, same_Some page.place place is)

page_at : (pages : List PageToken) (place : ℕ) → place < length pages → (p : PageToken) × (slice_get pages place ≡ Some p)
page_at [] place inside = absurd (omega (arith, inside))
page_at (p ∷ pages) zero inside = (p, refl)
page_at (p ∷ pages) (suc place) inside = page_at pages place (omega (arith, inside))

-- a stream whose last page was pinned, where it has room
pub ready_opened : (t bytes place : ℕ) (s : Streamed) (h : Holdings) (rows : List (List ℕ)) → IsShaped t s h → HasRows rows s h → option_map (λ page. page.place) s.pinned ≡ Some place → place + 1 ≡ length s.pages → s.used + bytes ≤ len_in s h → IsReady bytes s h
ready_opened t bytes place s h rows is has opened ends room =
    let page = place_of s.pinned place opened in
    let at = page_at s.pages page.0.place (omega (arith, ends, page.2)) in
    ready_here t bytes s h page.0 at.0 is (record { pinned = page.1; at = at.1 }) (omega (arith, ends, page.2)) room rows has
