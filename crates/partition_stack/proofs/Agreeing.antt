-- A stream over two states of a store that agree on its pages.
use Rattle.std.proofs.Common.{◌≡◌, ℕ, ◌+◌, ◌*◌, ◌<◌, ◌==◌, if◌then◌else◌, List, ◌++◌, drop, length, Option, Some, IsSome, ap, sym, ◌∙◌, subst}
use Rattle.std.specs.Prelude.{All, slice_get}
use Rattle.std.specs.List.{concat}
use Rattle.std.proofs.lemmas.List.Elements.{All-drop}
use Rattle.std.proofs.lemmas.Option.{IfSome_then}
use Rattle.store_api.specs.Tokens.{PageToken}
use Rattle.store_api.specs.Holdings.{LivePage, Holdings, or_else, no_page, page_of}
use Rattle.tuple_stream.specs.Places.{IsPlace, Place, rows_from, start_in}
use Rattle.tuple_stream.specs.Streamed.{Streamed, all_bytes, bytes_of, open_bytes, rows_by_page, page_rows, joined}
use Rattle.tuple_stream.specs.Streams.{IsOwnPage, IsPacked, IsShaped, HasRows, IsFilled, start_of, unspent}
use Rattle.tuple_stream.proofs.Chosen.{at_place, all_placed, map_agrees}

module _ (t : ℕ) (s : Streamed) (old new : Holdings) (is : IsShaped t s old) (block_len : new.block_len ≡ old.block_len) (agree : (k : ℕ) (p : PageToken) → slice_get s.pages k ≡ Some p → new.pages p.name ≡ old.pages p.name) where
  page_agrees : (k : ℕ) (p : PageToken) → slice_get s.pages k ≡ Some p → page_of p.name new ≡ page_of p.name old
  page_agrees k p there = ap (or_else no_page) (agree k p there)

  bytes_agree : (k : ℕ) (p : PageToken) → slice_get s.pages k ≡ Some p → bytes_of s new p ≡ bytes_of s old p
  bytes_agree k p there = ap (λ (page : LivePage). if page.pins == 0 then page.left else open_bytes s.pinned) (page_agrees k p there)

  rows_agree : page_rows s new ≡ page_rows s old
  rows_agree = ap (rows_by_page s.spent) (map_agrees (bytes_of s new) (bytes_of s old) s.pages (all_placed (λ p. bytes_of s new p ≡ bytes_of s old p) s.pages bytes_agree))

  pub agreeing_places : (place : Place) → IsPlace place s old → IsPlace place s new
  agreeing_places place stands =
      let bytes : all_bytes s new (drop place.page s.pages) ≡ all_bytes s old (drop place.page s.pages) =
      map_agrees (bytes_of s new) (bytes_of s old) (drop place.page s.pages) (All-drop (λ p. bytes_of s new p ≡ bytes_of s old p) place.page s.pages (all_placed (λ p. bytes_of s new p ≡ bytes_of s old p) s.pages bytes_agree)) in
      let from : rows_from place s new ≡ rows_from place s old = ap (λ (bytes : List (List ℕ)). joined (rows_by_page (start_in s place) bytes)) bytes in
      record {
        before = stands.before;
        behind = stands.behind;
        rows = ap joined rows_agree ∙ stands.rows ∙ ap (λ (rows : List (List ℕ)). stands.before ++ rows) (sym from);
        page_is = stands.page_is;
        first = stands.first;
        last = λ ends. ap (λ (rows : List (List ℕ)). start_in s place + length (concat rows)) from ∙ stands.last ends;
      }

  own_agrees : (k : ℕ) (p : PageToken) → slice_get s.pages k ≡ Some p → IsOwnPage t s.page_blocks new p
  own_agrees k p there =
      let own : IsOwnPage t s.page_blocks old p = at_place (IsOwnPage t s.page_blocks old) s.pages k p is.own there in
      let page : page_of p.name new ≡ page_of p.name old = page_agrees k p there in
      record {
        page = record {
          lives = subst (λ (slot : Option LivePage). IsSome slot) (sym (agree k p there)) own.page.lives;
          key = ap (λ (q : LivePage). q.key) page ∙ own.page.key;
          client = ap (λ (q : LivePage). q.client) page ∙ own.page.client;
        };
        client = own.client;
        blocks_are = ap (λ (q : LivePage). q.blocks) page ∙ own.blocks_are;
      }

  pub agreeing_shape : IsShaped t s new
  agreeing_shape =
      record {
        sized = is.sized;
        apart = is.apart;
        own = all_placed (IsOwnPage t s.page_blocks new) s.pages own_agrees;
        pins = λ k p there. ap (λ (q : LivePage). q.pins) (page_agrees k p there) ∙ is.pins k p there;
        opened = IfSome_then s.pinned is.opened (λ page opened. record {
          inside = opened.inside;
          fits = record {
            blocks = opened.fits.blocks;
            block_len = opened.fits.block_len ∙ sym block_len;
            whole = opened.fits.whole ∙ ap (λ (n : ℕ). s.page_blocks * n) (sym block_len);
          };
        });
        begins = is.begins;
      }

  pub agreeing_rows : (rows : List (List ℕ)) → HasRows rows s old → HasRows rows s new
  agreeing_rows rows has =
      record {
        are = ap joined rows_agree ∙ has.are;
        counted = has.counted;
        filled = λ k p there last. subst (IsFilled (start_of s k) s.used) (sym (bytes_agree k p there)) (has.filled k p there last);
        each = subst (All (λ (rows : List (List ℕ)). 0 < length rows)) (sym rows_agree) has.each;
        packed =
            subst (λ (rows : List (List (List ℕ))). IsPacked (s.page_blocks * new.block_len) (unspent s rows)) (sym rows_agree)
            (subst (λ (len : ℕ). IsPacked (s.page_blocks * len) (unspent s (page_rows s old))) (sym block_len) has.packed);
      }
