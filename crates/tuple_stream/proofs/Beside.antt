-- A call of one stream leaves the others of its store as they were.
use Rattle.std.proofs.Common.{◌≡◌, ℕ, ◌+◌, ◌*◌, ◌<◌, ◌==◌, if◌then◌else◌, List, [], ◌++◌, drop, length, Option, Some, IsSome, ap, sym, ◌∙◌, subst, append-nil}
use Rattle.std.specs.Prelude.{All, slice_get}
use Rattle.std.specs.List.{concat}
use Rattle.std.proofs.lemmas.List.Elements.{All-drop}
use Rattle.std.proofs.lemmas.Option.{IfSome_then}
use Rattle.store_api.specs.Tokens.{PageToken}
use Rattle.store_api.specs.Holdings.{LivePage, Holdings, or_else, no_page, page_of}
use Rattle.tuple_stream.specs.Streamed.{Streamed, bytes_of, open_bytes, all_bytes, rows_by_page, page_rows, rows_of, joined}
use Rattle.tuple_stream.specs.Streams.{IsApart, IsOwnPage, IsPacked, IsShaped, HasRows, IsFilled, start_of, unspent}
use Rattle.tuple_stream.specs.Places.{KeepsPlaces, rows_from, start_in}
use Rattle.tuple_stream.specs.Touches.{Touches}
use Rattle.tuple_stream.specs.Families.{AreDisjoint}
use Rattle.tuple_stream.proofs.Chosen.{at_place, all_placed, map_agrees}

module _ {t u : ℕ} {a now b : Streamed} {old new : Holdings} (touches : Touches t a now old new) (is : IsShaped u b old) (disjoint : AreDisjoint a b) where
  own_was : (k : ℕ) (p : PageToken) → slice_get b.pages k ≡ Some p → IsOwnPage u b.page_blocks old p
  own_was k p there = at_place (IsOwnPage u b.page_blocks old) b.pages k p is.own there

  stays : (k : ℕ) (p : PageToken) → slice_get b.pages k ≡ Some p → (new.pages p.name ≡ old.pages p.name) × IsApart p.name now.pages
  stays k p there = touches.pages p.name (own_was k p there).page.lives (at_place (λ q. IsApart q.name a.pages) b.pages k p disjoint there)

  page_stays : (k : ℕ) (p : PageToken) → slice_get b.pages k ≡ Some p → page_of p.name new ≡ page_of p.name old
  page_stays k p there = ap (or_else no_page) (stays k p there).0

  bytes_stay_at : (k : ℕ) (p : PageToken) → slice_get b.pages k ≡ Some p → bytes_of b new p ≡ bytes_of b old p
  bytes_stay_at k p there = ap (λ (page : LivePage). if page.pins == 0 then page.left else open_bytes b.pinned) (page_stays k p there)

  bytes_stay : All (λ p. bytes_of b new p ≡ bytes_of b old p) b.pages
  bytes_stay = all_placed (λ p. bytes_of b new p ≡ bytes_of b old p) b.pages bytes_stay_at

  bytes_from : (n : ℕ) → all_bytes b new (drop n b.pages) ≡ all_bytes b old (drop n b.pages)
  bytes_from n = map_agrees (bytes_of b new) (bytes_of b old) (drop n b.pages) (All-drop (λ p. bytes_of b new p ≡ bytes_of b old p) n b.pages bytes_stay)

  pages_stay : page_rows b new ≡ page_rows b old
  pages_stay = ap (rows_by_page b.spent) (map_agrees (bytes_of b new) (bytes_of b old) b.pages bytes_stay)

  -- they stay disjoint
  pub beside_disjoint : AreDisjoint now b
  beside_disjoint = all_placed (λ p. IsApart p.name now.pages) b.pages (λ k p there. (stays k p there).1)

  pub beside_rows : rows_of b new ≡ rows_of b old
  beside_rows = ap joined pages_stay

  pub beside_places : KeepsPlaces [] b b old new
  beside_places = λ place there.
      let from : rows_from place b new ≡ rows_from place b old = ap (λ (bytes : List (List ℕ)). joined (rows_by_page (start_in b place) bytes)) (bytes_from place.page) in (
        record {
          before = there.before;
          behind = there.behind;
          rows = beside_rows ∙ there.rows ∙ ap (λ (rows : List (List ℕ)). there.before ++ rows) (sym from);
          page_is = there.page_is;
          first = there.first;
          last = λ ends. ap (λ (rows : List (List ℕ)). start_in b place + length (concat rows)) from ∙ there.last ends;
        },
        from ∙ sym (append-nil (rows_from place b old)),
      )

  own_now : (k : ℕ) (p : PageToken) → slice_get b.pages k ≡ Some p → IsOwnPage u b.page_blocks new p
  own_now k p there =
      let own : IsOwnPage u b.page_blocks old p = own_was k p there in
      let page : page_of p.name new ≡ page_of p.name old = page_stays k p there in
      record {
        page = record {
          lives = subst (λ (slot : Option LivePage). IsSome slot) (sym (stays k p there).0) own.page.lives;
          key = ap (λ (q : LivePage). q.key) page ∙ own.page.key;
          client = ap (λ (q : LivePage). q.client) page ∙ own.page.client;
        };
        client = own.client;
        blocks_are = ap (λ (q : LivePage). q.blocks) page ∙ own.blocks_are;
      }

  pub beside_shape : IsShaped u b new
  beside_shape =
      record {
        sized = is.sized;
        apart = is.apart;
        own = all_placed (IsOwnPage u b.page_blocks new) b.pages own_now;
        pins = λ k p there. ap (λ (q : LivePage). q.pins) (page_stays k p there) ∙ is.pins k p there;
        opened = IfSome_then b.pinned is.opened (λ page opened. record {
          inside = opened.inside;
          fits = record {
            blocks = opened.fits.blocks;
            block_len = opened.fits.block_len ∙ sym touches.block_len;
            whole = opened.fits.whole ∙ ap (λ (n : ℕ). b.page_blocks * n) (sym touches.block_len);
          };
        });
        begins = is.begins;
      }

  -- and so do its rows, whether pins are told or not
  pub beside_has : (rows : List (List ℕ)) → HasRows rows b old → HasRows rows b new
  beside_has rows has =
      record {
        are = beside_rows ∙ has.are;
        counted = has.counted;
        filled = λ k p there last. subst (IsFilled (start_of b k) b.used) (sym (bytes_stay_at k p there)) (has.filled k p there last);
        each = subst (All (λ (rows : List (List ℕ)). 0 < length rows)) (sym pages_stay) has.each;
        packed =
            subst (λ (rows : List (List (List ℕ))). IsPacked (b.page_blocks * new.block_len) (unspent b rows)) (sym pages_stay)
            (subst (λ (len : ℕ). IsPacked (b.page_blocks * len) (unspent b (page_rows b old))) (sym touches.block_len) has.packed);
      }
