-- Pieces, one after the other, are the pieces of an input.
use Rattle.std.proofs.Common.{◌≡◌, ◌∙◌, ◌≤◌, ap, sym, refl, ℕ, zero, suc, List, [], ◌∷◌, ◌++◌, Option, Some, None, IfSome, take, drop, length, option_map, arith}
use Rattle.std.proofs.lemmas.List.{length-drop, drop_at, take_at}
use Rattle.std.specs.Io.KnownBytes.{prepend_known}
use Rattle.csv.specs.Machine.{next_record}
use Rattle.csv.specs.Reading.{records_from, strip_bom}
use Rattle.csv_edge.specs.Inside.{Cuts, Fills, later_records, records_told}
use Rattle.csv_edge.specs.Pieces.{next_len, pieces_left}
use Rattle.csv_edge.specs.Rows.{Becomes}
use Rattle.csv_edge.specs.Typed.{records_in}
use Rattle.csv_edge.specs.Unread.{Feed}

-- a piece has at least a byte, where there is one, so that as many turns as there are bytes cut all of them
turns-same : (n m : ℕ) (bytes : List ℕ) → length bytes ≤ n → length bytes ≤ m → pieces_left n bytes ≡ pieces_left m bytes
turns-same zero zero bytes lt lt2 = refl
turns-same zero (suc m) [] lt lt2 = refl
turns-same zero (suc m) (byte ∷ rest) lt lt2 = absurd (omega arith)
turns-same (suc n) zero [] lt lt2 = refl
turns-same (suc n) zero (byte ∷ rest) lt lt2 = absurd (omega arith)
turns-same (suc n) (suc m) [] lt lt2 = refl
turns-same (suc n) (suc m) (byte ∷ rest) lt lt2 =
    let size = length-drop (next_len (byte ∷ rest)) (byte ∷ rest) in
    rw (turns-same n m (drop (next_len (byte ∷ rest)) (byte ∷ rest)) (omega (arith, size)) (omega (arith, size))) refl

empty-piece : records_in [] ≡ []
unfolding strip_bom records_from next_record
empty-piece = refl

-- the records behind a cut are those of the next piece, and then those of the pieces behind it
records-next : (bytes : List ℕ) → later_records bytes ≡ records_in (take (next_len bytes) bytes) ++ later_records (drop (next_len bytes) bytes)
records-next [] = rw empty-piece refl
records-next (byte ∷ rest) =
    let size = length-drop (next_len (byte ∷ rest)) (byte ∷ rest) in
    rw (turns-same (length rest) (length (drop (next_len (byte ∷ rest)) (byte ∷ rest))) (drop (next_len (byte ∷ rest)) (byte ∷ rest)) (omega (arith, size)) (omega arith)) refl

-- a piece that was filled from nothing is cut off
pub cuts_next : (before now : Option (List ℕ)) (old piece : List ℕ) → old ≡ [] → Fills before now old piece → Cuts next_len before now piece
cuts_next None now old piece none h = tt
cuts_next (Some bytes) None old piece none h = absurd h.taken
cuts_next (Some bytes) (Some rest) old piece none h =
    let len : length h.front ≡ next_len bytes = rw none at h.len in
    let grown : piece ≡ h.front = h.grown ∙ rw none refl in (
      grown ∙ sym (rw (← len, h.taken) (take_at h.front rest (length h.front) refl)),
      ap Some (sym (rw (← len, h.taken) (drop_at h.front rest (length h.front) refl))),
    )

pub becomes_next : (feed : Feed) (before rem : Option (List ℕ)) (piece : List ℕ) → feed.records ≡ records_in piece → Cuts next_len before (prepend_known feed.taken.ahead rem) piece
    → Becomes (λ rs. rs) (option_map later_records before) (records_told feed rem)
becomes_next feed None rem piece e h = tt
becomes_next feed (Some bytes) None piece e h = cc h.1
becomes_next feed (Some bytes) (Some xs) piece e h =
    let same : feed.taken.ahead ++ xs ≡ drop (next_len bytes) bytes = cc h.1 in
    records-next bytes ∙ rw (e, h.0, same) refl

pub no_bytes : (len : ℕ) (bytes : List ℕ) → len ≡ length bytes → len ≡ 0 → bytes ≡ []
no_bytes len [] e none = refl
no_bytes len (byte ∷ rest) e none = absurd (omega arith)

taken-none : (bytes : List ℕ) → take (next_len bytes) bytes ≡ [] → bytes ≡ []
taken-none [] e = refl
taken-none (byte ∷ rest) e = cc e

-- where the next piece is empty no byte is left
pub none_left : (before now : Option (List ℕ)) (piece : List ℕ) → Cuts next_len before now piece → piece ≡ [] → IfSome before (λ bytes. bytes ≡ [])
none_left None now piece h none = tt
none_left (Some bytes) now piece h none = taken-none bytes (sym h.0 ∙ none)
