-- A stream with a new page is ready for a row.
use Rattle.std.proofs.Common.{◌≡◌, ◌≢◌, ℕ, ◌+◌, ◌*◌, ◌<◌, ◌≤◌, ◌==◌, Bool, true, false, List, [], ◌∷◌, ◌++◌, length, drop, Option, Some, IsSome, if◌then◌else◌, refl, ap, sym, ◌∙◌, subst, inl, inr, arith, length-append, append-nil, ne_eqb, eqb-true}
use Rattle.std.specs.Prelude.{All, slice_get, replicate}
use Rattle.std.specs.List.{concat}
use Rattle.std.proofs.lemmas.Bool.{cases_lt, cases_eq}
use Rattle.std.proofs.lemmas.List.{length-map, length-replicate}
use Rattle.std.proofs.lemmas.List.Elements.{All-push}
use Rattle.std.proofs.lemmas.Option.{slice_get_within, same_Some}
use Rattle.block_arena.specs.Memory.{Buffer}
use Rattle.store_api.specs.Tokens.{ClientToken, PageToken}
use Rattle.store_api.specs.Holdings.{LivePage, Holdings, page_of, length_of}
use Rattle.store_api.specs.Conditions.{Fits}
use Rattle.tuple_stream.specs.PageRows.{rows_on}
use Rattle.tuple_stream.specs.Streamed.{Streamed, len_in, bytes_of, all_bytes, rows_by_page, page_rows}
use Rattle.tuple_stream.specs.Streams.{IsOwnPage, IsShaped, HasRows, IsFilled, IsPacked, pins_at, start_of, unspent}
use Rattle.tuple_stream.specs.Ready.{IsReady, rows_then}
use Rattle.tuple_stream.proofs.Chosen.{all_placed, map_agrees}
use Rattle.tuple_stream.proofs.Pinned.{pins_here, pins_elsewhere}
use Rattle.tuple_stream.proofs.PageLists.{rows_count, at_end, at_front}
use Rattle.tuple_stream.proofs.Packing.{rows_split, packed_push_if, packed_alone_if}
use Rattle.tuple_stream.proofs.NewPage.{with_new, Comes, new_slot, new_page, same_block, same_bytes, new_pins, longer, its_own, apart_now, same_slot, same_page, rests, zeros_from}
use Rattle.tuple_stream.proofs.NewRows.{new_rows}
use Rattle.tuple_stream.proofs.PageLists.{snoc, no_length}
use Rattle.tuple_stream.proofs.Chosen.{apart_push}

first_start : (first : Bool) (spent : ℕ) → spent ≡ 0 → (if first then spent else 0) ≡ 0
first_start true spent none = none
first_start false spent none = refl

module _ {c : ClientToken} {s : Streamed} {p : PageToken} {buf : Buffer} {old new : Holdings} (comes : Comes c s p buf old new) where
  own_now : (k : ℕ) (r : PageToken) → slice_get s.pages k ≡ Some r → IsOwnPage c.tracker s.page_blocks new r
  own_now k r there =
      let own : IsOwnPage c.tracker s.page_blocks old r = its_own comes k r there in
      let page : page_of r.name new ≡ page_of r.name old = same_page comes k r there in
      record {
        page = record {
          lives = subst (λ (o : Option LivePage). IsSome o) (sym (same_slot comes k r there)) own.page.lives;
          key = ap (λ (q : LivePage). q.key) page ∙ own.page.key;
          client = ap (λ (q : LivePage). q.client) page ∙ own.page.client;
        };
        client = own.client;
        blocks_are = ap (λ (q : LivePage). q.blocks) page ∙ own.blocks_are;
      }

  own_new : IsOwnPage c.tracker s.page_blocks new p
  own_new =
      record {
        page = record {
          lives = subst (λ (o : Option LivePage). IsSome o) (sym (new_slot comes)) refl;
          key = ap (λ (q : LivePage). q.key) (new_page comes);
          client = ap (λ (q : LivePage). q.client) (new_page comes) ∙ sym comes.made.client;
        };
        client = comes.made.client;
        blocks_are = ap (λ (q : LivePage). q.blocks) (new_page comes);
      }

  pins_now : (k : ℕ) (r : PageToken) → slice_get (s.pages ++ p ∷ []) k ≡ Some r → (page_of r.name new).pins ≡ pins_at (Some (record { place = length s.pages; buf = buf })) k
  pins_now k r there =
      elim (cases_lt k (length s.pages)) [
        | inl front ↦
            rests comes k r (at_front s.pages p r k front there)
            ∙ sym (pins_elsewhere (record { place = length s.pages; buf = buf }) k (λ same. omega (arith, same, front)))
        | inr behind ↦
            let last : k ≡ length s.pages = omega (arith, behind, (longer comes), slice_get_within (s.pages ++ p ∷ []) k r there) in
            let one : p ≡ r = same_Some p r (sym (at_end s.pages p) ∙ ap (slice_get (s.pages ++ p ∷ [])) (sym last) ∙ there) in
            subst (λ (q : PageToken). (page_of q.name new).pins ≡ pins_at (Some (record { place = length s.pages; buf = buf })) k) one
            ((new_pins comes) ∙ sym (pins_here (record { place = length s.pages; buf = buf }) k last))
      ]

  rows_before : rows_by_page s.spent (all_bytes (with_new p buf s) new s.pages) ≡ page_rows s old
  rows_before = ap (rows_by_page s.spent) (map_agrees (bytes_of (with_new p buf s) new) (bytes_of s old) s.pages (same_bytes comes))

  -- the new page begins with its first byte
  new_start : start_of s (length s.pages) ≡ 0
  new_start =
      elim (cases_eq (length s.pages) 0) [
        | inl none ↦ first_start (length s.pages == 0) s.spent (comes.stream.begins (no_length s.pages none)).0
        | inr some ↦ rw (ne_eqb (length s.pages) 0 some) refl
      ]

  new_filled : IsFilled (start_of s (length s.pages)) 0 buf.bytes
  new_filled =
      subst (λ (n : ℕ). IsFilled n 0 buf.bytes) (sym new_start)
      (record {
        rows = ap (λ (rows : List (List ℕ)). 0 + length (concat rows)) (zeros_from comes 0);
        zeros = comes.made.buffer.zeros ∙ ap (λ (n : ℕ). replicate n 0) (omega (arith, ap length comes.made.buffer.zeros, length-replicate {A = ℕ} (length_of s.page_blocks old) 0));
      })

  new_fits : Fits s.page_blocks new buf
  new_fits =
      record {
        blocks = comes.made.buffer.fits.blocks;
        block_len = comes.made.buffer.fits.block_len ∙ sym (same_block comes);
        whole = comes.made.buffer.fits.whole ∙ ap (λ (n : ℕ). s.page_blocks * n) (sym (same_block comes));
      }

  pub new_shape : IsShaped c.tracker (with_new p buf s) new
  new_shape =
      record {
        sized = comes.stream.sized;
        apart = apart_push s.pages p comes.stream.apart (all_placed (λ r. r.name ≢ p.name) s.pages (apart_now comes));
        own = All-push (IsOwnPage c.tracker s.page_blocks new) s.pages p (all_placed (IsOwnPage c.tracker s.page_blocks new) s.pages own_now) own_new;
        pins = pins_now;
        opened = record { inside = omega (arith, (longer comes)); fits = new_fits };
        begins = λ none. absurd (let long : length (s.pages ++ p ∷ []) ≡ 0 = ap length none in omega (arith, long, (longer comes)));
      }

module _ {c : ClientToken} {s : Streamed} {p : PageToken} {buf : Buffer} {old new : Holdings} (comes : Comes c s p buf old new) (rows : List (List ℕ)) (has : HasRows rows s old) where
  -- a full page before it keeps neighbours packed
  packed_behind : (row : List ℕ) → (0 < length s.pages → len_in s old < s.used + length row) → IsPacked (len_in s old) (unspent s (page_rows s old ++ (row ∷ []) ∷ []))
  packed_behind row full =
      elim (snoc s.pages) [
        | inl none ↦
            subst (λ (pages : List PageToken). IsPacked (len_in s old) (unspent s (rows_by_page s.spent (all_bytes s old pages) ++ (row ∷ []) ∷ []))) (sym none)
            (packed_alone_if (len_in s old) (s.spent == 0) (row ∷ []))
        | inr some ↦
            let front = rows_by_page s.spent (all_bytes s old some.0) in
            let last = rows_on (drop (start_of s (length some.0)) (bytes_of s old some.1)) in
            let rows : page_rows s old ≡ front ++ last ∷ [] = rows_split s old some.0 some.1 some.2 in
            let long : length s.pages ≡ length some.0 + 1 = ap length some.2 ∙ length-append some.0 (some.1 ∷ []) in
            let at : slice_get s.pages (length some.0) ≡ Some some.1 = subst (λ (pages : List PageToken). slice_get pages (length some.0) ≡ Some some.1) (sym some.2) (at_end some.0 some.1) in
            let filled : IsFilled (start_of s (length some.0)) s.used (bytes_of s old some.1) = has.filled (length some.0) some.1 at (omega (arith, long)) in
            let more : length (concat (row ∷ [])) ≡ length row = ap length (append-nil row) in
            let passed : len_in s old < s.used + length row = full (omega (arith, long)) in
            subst (λ (rs : List (List (List ℕ))). IsPacked (len_in s old) (unspent s (rs ++ (row ∷ []) ∷ []))) (sym rows)
            (packed_push_if (len_in s old) (s.spent == 0) front last (row ∷ [])
            (λ none. let start : start_of s (length some.0) ≡ 0 = first_start (length some.0 == 0) s.spent (eqb-true s.spent 0 none) in omega (arith, start, filled.rows, more, passed))
            (λ behind.
            let count : length front ≡ length some.0 = rows_count s.spent (all_bytes s old some.0) ∙ length-map some.0 (bytes_of s old) in
            let apart : length some.0 ≢ 0 = λ zero. omega (arith, zero, count, behind) in
            let start : start_of s (length some.0) ≡ 0 = rw (ne_eqb (length some.0) 0 apart) refl in
            omega (arith, start, filled.rows, more, passed))
            (subst (λ (rs : List (List (List ℕ))). IsPacked (len_in s old) (unspent s rs)) rows has.packed))
      ]

  pub new_ready : (bytes : ℕ) → bytes ≤ len_in s old → (0 < length s.pages → len_in s old < s.used + bytes) → IsReady bytes (with_new p buf s) new
  new_ready bytes fits full =
      record {
        before = s.pages;
        last = p;
        buf = buf;
        pages_are = refl;
        pinned_is = refl;
        pins = pins_now comes;
        filled = new_filled comes;
        room = omega (arith, fits, comes.made.buffer.fits.whole);
        each = subst (All (λ (rows : List (List ℕ)). 0 < length rows)) (sym (rows_before comes)) has.each;
        counted = has.counted ∙ ap length (sym has.are) ∙ ap length (sym (new_rows comes));
        packed = λ row long.
            subst (λ (len : ℕ). IsPacked (s.page_blocks * len) (unspent s (rows_then (rows_by_page s.spent (all_bytes (with_new p buf s) new s.pages)) (rows_on (drop (start_of s (length s.pages)) buf.bytes)) row))) (sym (same_block comes))
            (subst (λ (rows : List (List (List ℕ))). IsPacked (len_in s old) (unspent s (rows_then rows (rows_on (drop (start_of s (length s.pages)) buf.bytes)) row))) (sym (rows_before comes))
            (subst (λ (rows : List (List ℕ)). IsPacked (len_in s old) (unspent s (rows_then (page_rows s old) rows row))) (sym (zeros_from comes (start_of s (length s.pages))))
            (packed_behind row (λ some. let passed = full some in omega (arith, passed, long)))));
      }
