-- A piece that is being filled.
use Rattle.std.proofs.Common.{◌≡◌, ◌∙◌, ◌+◌, ◌-◌, ap, sym, refl, ℕ, List, ◌++◌, Option, Some, None, IfSome, take, drop, length, length-append, append_assoc, take-append-drop, arith}
use Rattle.std.proofs.lemmas.List.{length-take}
use Rattle.std.specs.Io.KnownBytes.{Consumes, Keeps, prepend_known}
use Rattle.std.proofs.KnownBytes.{Consumes-kept, Consumes-trans}
use Rattle.csv_edge.specs.Cutting.{FrontIs}
use Rattle.csv_edge.specs.Inside.{Fills}
use Rattle.csv_edge.specs.Pieces.{front_len, piece_bytes}
use Rattle.csv_edge.specs.declared.scan.Front.TheVariants.{Cut}
use Rattle.csv_edge.specs.declared.scan.Scan.{Scan}
use Rattle.csv_edge.specs.declared.scan.Scan.TheVariants.{Start}

-- bytes moved to the end of a piece, and the scan stands here behind them
pub record Filling (before now : Option (List ℕ)) (old piece : List ℕ) (scan : Scan) : Type 0 where
  pub gone : List ℕ
  pub grown : piece ≡ old ++ gone
  pub taken : Consumes before now gone
  pub scanned : (more : List ℕ) → front_len Start (piece_bytes - length old) (gone ++ more) ≡ length gone + front_len scan (piece_bytes - length piece) more

pub filling_kept : (before now next : Option (List ℕ)) (old piece : List ℕ) (scan : Scan) → Filling before now old piece scan → Keeps now next → Filling before next old piece scan
filling_kept before now next old piece scan h k = record {
  gone = h.gone;
  grown = h.grown;
  taken = Consumes-kept before now next h.gone h.taken k;
  scanned = h.scanned;
}

front-taken : (rem : Option (List ℕ)) (ahead : List ℕ) (n : ℕ) → Consumes (prepend_known ahead rem) (prepend_known (drop n ahead) rem) (take n ahead)
front-taken None ahead n = tt
front-taken (Some xs) ahead n = ap (λ (t : List ℕ). t ++ xs) (sym (take-append-drop n ahead)) ∙ append_assoc (take n ahead) (drop n ahead) xs

-- the length of a piece, where the scan tells how much of the bytes that are left belongs to it
piece-len : (before rem : Option (List ℕ)) (ahead gone : List ℕ) (scan : Scan) (least least_now n : ℕ) → Consumes before (prepend_known ahead rem) gone
    → ((more : List ℕ) → front_len Start least (gone ++ more) ≡ length gone + front_len scan least_now more)
    → ((xs : List ℕ) → rem ≡ Some xs → front_len scan least_now (ahead ++ xs) ≡ n)
    → IfSome before (λ bytes. length gone + n ≡ front_len Start least bytes)
piece-len None rem ahead gone scan least least_now n h scanned f = tt
piece-len (Some bytes) None ahead gone scan least least_now n h scanned f = absurd h
piece-len (Some bytes) (Some xs) ahead gone scan least least_now n h scanned f = rw (h, scanned (ahead ++ xs), f xs refl) refl

if-some : (o : Option (List ℕ)) (a b : ℕ) (f : List ℕ → ℕ) → a ≡ b → IfSome o (λ bytes. a ≡ f bytes) → IfSome o (λ bytes. b ≡ f bytes)
if-some None a b f e h = tt
if-some (Some bytes) a b f e h = sym e ∙ h

-- the piece ends behind so many of the bytes that are ahead
pub fills_cut : (before rem : Option (List ℕ)) (ahead old piece longer left : List ℕ) (scan : Scan) (len : ℕ) → Filling before (prepend_known ahead rem) old piece scan
    → FrontIs scan (piece_bytes - length piece) ahead (Cut len) → longer ≡ piece ++ take len ahead → left ≡ drop len ahead
    → Fills before (prepend_known left rem) old longer
fills_cut before rem ahead old piece longer left scan len h f e g =
    let size = length-take len ahead in
    let both = length-append h.gone (take len ahead) in
    let count : length h.gone + len ≡ length (h.gone ++ take len ahead) = omega (arith, size, both, f.1) in record {
      front = h.gone ++ take len ahead;
      grown = e ∙ ap (λ (t : List ℕ). t ++ take len ahead) h.grown ∙ append_assoc old h.gone (take len ahead);
      taken = Consumes-trans before (prepend_known ahead rem) (prepend_known left rem) h.gone (take len ahead) h.taken (rw g (front-taken rem ahead len));
      len = if-some before (length h.gone + len) (length (h.gone ++ take len ahead)) (front_len Start (piece_bytes - length old)) count
          (piece-len before rem ahead h.gone scan (piece_bytes - length old) (piece_bytes - length piece) len h.taken h.scanned (λ xs _. f.2 xs));
    }
