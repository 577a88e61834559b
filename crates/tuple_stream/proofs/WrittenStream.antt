-- A stream stays one where a row is written at its end.
use Rattle.std.proofs.Common.{◌≡◌, ℕ, ◌+◌, ◌<◌, List, [], ◌∷◌, ◌++◌, length, drop, Some, refl, sym, ap, ◌∙◌, subst, arith, length-append}
use Rattle.std.specs.Prelude.{All, slice_get}
use Rattle.std.proofs.lemmas.List.Elements.{All-push}
use Rattle.std.proofs.lemmas.Option.{same_Some}
use Rattle.block_arena.specs.Bytes.{written}
use Rattle.store_api.specs.Tokens.{PageToken}
use Rattle.store_api.specs.Holdings.{Holdings}
use Rattle.tuple_stream.specs.PageRows.{rows_on, IsOneRow}
use Rattle.tuple_stream.specs.Streamed.{Streamed, len_in, bytes_of, all_bytes, rows_by_page, rows_of}
use Rattle.tuple_stream.specs.Streams.{IsFilled, IsPacked, HasRows, start_of, unspent}
use Rattle.tuple_stream.specs.Ready.{IsReady, with_row}
use Rattle.tuple_stream.proofs.Filling.{written_filled}
use Rattle.tuple_stream.proofs.Writing.{pages_long, last_at, last_now, whole_rows, written_rows}

module _ {s : Streamed} {h : Holdings} {row : List ℕ} (count : ℕ) (is : IsReady (length row) s h) (one : IsOneRow row) where
  last_filled : (place : ℕ) (p : PageToken) → slice_get s.pages place ≡ Some p → place + 1 ≡ length s.pages → IsFilled (start_of s place) (s.used + length row) (bytes_of (with_row row count s) h p)
  last_filled place p there ends =
      let at : place ≡ length is.before = omega (arith, ends, (pages_long count is one)) in
      let same : is.last ≡ p = same_Some is.last p (sym (last_at count is one) ∙ ap (slice_get s.pages) (sym at) ∙ there) in
      let bytes : bytes_of (with_row row count s) h p ≡ written s.used row is.buf.bytes = ap (bytes_of (with_row row count s) h) (sym same) ∙ (last_now count is one) in
      subst (λ (n : ℕ). IsFilled (start_of s n) (s.used + length row) (bytes_of (with_row row count s) h p)) (sym at)
      (subst (λ (bs : List ℕ). IsFilled (start_of s (length is.before)) (s.used + length row) bs) (sym bytes)
      (written_filled (start_of s (length is.before)) s.used is.buf.bytes row is.filled one is.room))

  pub written_has : (rows : List (List ℕ)) → count ≡ s.count + 1 → rows_of s h ≡ rows → HasRows (rows ++ row ∷ []) (with_row row count s) h
  written_has rows counts are =
      let all : rows_of (with_row row count s) h ≡ rows ++ row ∷ [] = written_rows count is one ∙ ap (λ (rs : List (List ℕ)). rs ++ row ∷ []) are in
      record {
        are = all;
        counted =
            let long : length (rows ++ row ∷ []) ≡ length rows + 1 = length-append rows (row ∷ []) in
            let was : length (rows_of s h) ≡ length rows = ap length are in
            omega (arith, counts, long, was, is.counted);
        filled = last_filled;
        each = subst (All (λ (rows : List (List ℕ)). 0 < length rows)) (sym (whole_rows count is one))
            (All-push (λ (rows : List (List ℕ)). 0 < length rows) (rows_by_page s.spent (all_bytes s h is.before)) (rows_on (drop (start_of s (length is.before)) is.buf.bytes) ++ row ∷ []) is.each
            (omega (arith, length-append (rows_on (drop (start_of s (length is.before)) is.buf.bytes)) (row ∷ []))));
        packed = subst (λ (rows : List (List (List ℕ))). IsPacked (len_in s h) (unspent s rows)) (sym (whole_rows count is one)) (is.packed row refl);
      }
