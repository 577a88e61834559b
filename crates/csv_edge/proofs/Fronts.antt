-- Bytes without quotes, scanned from outside quotes.
use Rattle.std.proofs.Common.{◌≡◌, ◌∙◌, ◌≤◌, ◌<◌, ◌+◌, ◌-◌, ap, sym, refl, arith, Bool, true, false, ℕ, zero, suc, List, [], ◌∷◌, ◌++◌, drop, get_or, length, min, Some, None}
use Rattle.std.proofs.lemmas.List.{get_or-drop, length-drop}
use Rattle.memchr.specs.Find.{IsFirstByte, is_byte}
use Rattle.std.specs.Prelude.{◌==◌, ◌&&◌, ◌≢◌, if◌then◌else◌, nat_le}
use Rattle.csv_edge.specs.Pieces.{after_byte, ends_field, front_len, is_cut}
use Rattle.csv_edge.specs.Cutting.{HasNone, after_bytes}
use Rattle.csv_edge.specs.declared.scan.Scan.{Scan}
use Rattle.csv_edge.specs.declared.scan.Scan.TheVariants as scan

not-true : (b : Bool) → (b ≡ true → ⊥) → b ≡ false
not-true true h = absurd (h refl)
not-true false h = refl

and-false : (a b : Bool) → (b ≡ true → a ≡ false) → (a && b) ≡ false
and-false true true h = h refl
and-false true false h = refl
and-false false b h = refl

first-none : (a : ℕ) (byte : ℕ) (rest : List ℕ) (to : ℕ) → HasNone a (byte ∷ rest) 0 (suc to) → (byte == a) ≡ false
first-none a byte rest to h = not-true (byte == a) (λ is. h 0 (omega arith) (omega arith) is)

rest-none : (a : ℕ) (byte : ℕ) (rest : List ℕ) (least to : ℕ) → HasNone a (byte ∷ rest) (least - 1) (suc to) → HasNone a rest ((least - 1) - 1) to
rest-none a byte rest least to h = λ k low high is. h (suc k) (omega arith) (omega arith) is

rest-clear : (a : ℕ) (byte : ℕ) (rest : List ℕ) → HasNone a (byte ∷ rest) 0 (suc (length rest)) → HasNone a rest 0 (length rest)
rest-clear a byte rest h = λ k low high is. h (suc k) (omega arith) (omega arith) is

outside-if : (b : Bool) → ((if b then scan.Start else scan.Plain) ≡ scan.Quoted) → ⊥
outside-if true e = cc e
outside-if false e = cc e

stays-outside : (s : Scan) (byte : ℕ) → s ≢ scan.Quoted → (byte == 34) ≡ false → after_byte s byte ≢ scan.Quoted
stays-outside scan.Start byte out plain = λ e. outside-if (ends_field byte) (rw plain at e)
stays-outside scan.Plain byte out plain = λ e. outside-if (ends_field byte) e
stays-outside scan.Quoted byte out plain = absurd (out refl)
stays-outside scan.Closing byte out plain = λ e. outside-if (ends_field byte) (rw plain at e)

cuts-outside : (s : Scan) (byte : ℕ) → s ≢ scan.Quoted → is_cut s byte ≡ (byte == 10)
cuts-outside scan.Start byte out = refl
cuts-outside scan.Plain byte out = refl
cuts-outside scan.Quoted byte out = absurd (out refl)
cuts-outside scan.Closing byte out = refl

plain-after : (s : Scan) (byte : ℕ) → s ≢ scan.Quoted → (byte == 34) ≡ false → after_byte s byte ≡ (if ends_field byte then scan.Start else scan.Plain)
plain-after scan.Start byte out plain = rw plain refl
plain-after scan.Plain byte out plain = refl
plain-after scan.Quoted byte out plain = absurd (out refl)
plain-after scan.Closing byte out plain = rw plain refl

le-least : (least : ℕ) → nat_le least 1 ≡ true → least - 1 ≤ 0
le-least least e = grind arith

no-cut : (s : Scan) (least byte : ℕ) (rest : List ℕ) (to : ℕ) → s ≢ scan.Quoted → HasNone 10 (byte ∷ rest) (least - 1) (suc to) → (is_cut s byte && nat_le least 1) ≡ false
no-cut s least byte rest to out lines =
    and-false (is_cut s byte) (nat_le least 1) (λ few. cuts-outside s byte out ∙ not-true (byte == 10) (λ is. let low = le-least least few in lines 0 low (omega arith) is))

-- no cut among them
pub all_at : (s : Scan) (least : ℕ) (bytes more : List ℕ) → s ≢ scan.Quoted → HasNone 34 bytes 0 (length bytes) → HasNone 10 bytes (least - 1) (length bytes)
    → front_len s least (bytes ++ more) ≡ length bytes + front_len (after_bytes s bytes) (least - length bytes) more
all_at s least [] more out quotes lines =
    let all : least - 0 ≡ least = omega arith in
    rw all (omega arith)
all_at s least (byte ∷ rest) more out quotes lines =
    let plain = first-none 34 byte rest (length rest) quotes in
    let next = all_at (after_byte s byte) (least - 1) rest more (stays-outside s byte out plain) (rest-clear 34 byte rest quotes) (rest-none 10 byte rest least (length rest) lines) in
    let left : (least - 1) - length rest ≡ least - suc (length rest) = omega arith in
    rw (no-cut s least byte rest (length rest) out lines, next, left) (omega arith)

least-1 : (least : ℕ) → least ≤ 1 → nat_le least 1 ≡ true
least-1 least le = grind arith

-- the first cut
pub cut_at : (s : Scan) (least : ℕ) (bytes more : List ℕ) (k : ℕ) → s ≢ scan.Quoted → HasNone 34 bytes 0 (length bytes) → k < length bytes → (get_or bytes k 0 == 10) ≡ true
    → HasNone 10 bytes (least - 1) k → least ≤ k + 1 → front_len s least (bytes ++ more) ≡ k + 1
cut_at s least [] more k out quotes within is lines few = absurd (omega arith)
cut_at s least (byte ∷ rest) more zero out quotes within is lines few =
    let le : nat_le least 1 ≡ true = least-1 least (omega arith) in
    rw (cuts-outside s byte out, is, le) refl
cut_at s least (byte ∷ rest) more (suc k) out quotes within is lines few =
    let plain = first-none 34 byte rest (length rest) quotes in
    let next = cut_at (after_byte s byte) (least - 1) rest more k (stays-outside s byte out plain) (rest-clear 34 byte rest quotes) (omega arith) is (rest-none 10 byte rest least k lines) (omega arith) in
    rw (no-cut s least byte rest k out lines, next) (omega arith)

-- the last of them tells where the scan stands
pub after_last : (s : Scan) (bytes : List ℕ) → s ≢ scan.Quoted → HasNone 34 bytes 0 (length bytes) → 0 < length bytes → after_bytes s bytes ≡ after_byte s (get_or bytes (length bytes - 1) 0)
after_last s [] out quotes some = absurd (omega arith)
after_last s (byte ∷ []) out quotes some = refl
after_last s (byte ∷ next ∷ rest) out quotes some =
    let plain = first-none 34 byte (next ∷ rest) (suc (length rest)) quotes in
    let here = stays-outside s byte out plain in
    let clear = rest-clear 34 byte (next ∷ rest) quotes in
    let last : (get_or (next ∷ rest) (length rest) 0 == 34) ≡ false = not-true _ (λ is. clear (length rest) (omega arith) (omega arith) is) in
    let inner : length (next ∷ rest) - 1 ≡ length rest = omega arith in
    let outer : length (byte ∷ next ∷ rest) - 1 ≡ suc (length rest) = omega arith in
    let step = after_last (after_byte s byte) (next ∷ rest) here clear (omega arith) in
    rw outer (step
    ∙ (ap (λ (n : ℕ). after_byte (after_byte s byte) (get_or (next ∷ rest) n 0)) inner
    ∙ (plain-after (after_byte s byte) (get_or (next ∷ rest) (length rest) 0) here last ∙ sym (plain-after s (get_or (next ∷ rest) (length rest) 0) out last))))

-- a byte of what stands behind some others
in-rest : (from k : ℕ) (bytes : List ℕ) → from ≤ k → get_or (drop from bytes) (k - from) 0 ≡ get_or bytes k 0
in-rest from k bytes le =
    let back : from + (k - from) ≡ k = omega arith in
    get_or-drop from bytes (k - from) 0 ∙ ap (λ (n : ℕ). get_or bytes n 0) back

-- what a search behind the bytes that can't be cut tells
pub plain_cut : (s : Scan) (least from at : ℕ) (bytes : List ℕ) → s ≢ scan.Quoted → HasNone 34 bytes 0 (length bytes) → from ≡ min (least - 1) (length bytes)
    → IsFirstByte (is_byte 10) (drop from bytes) (Some at)
    → (0 < from + at + 1) × (from + at + 1 ≤ length bytes) × ((more : List ℕ) → front_len s least (bytes ++ more) ≡ from + at + 1)
plain_cut s least from at bytes out quotes e h =
    let size = length-drop from bytes in
    let high = h.0.high in
    let within : from + at < length bytes = omega (arith, size, high) in
    let first : from ≡ least - 1 = omega (arith, e, within) in
    let few : least ≤ from + at + 1 = omega (arith, first) in
    let is : (get_or bytes (from + at) 0 == 10) ≡ true = ap (λ (x : ℕ). x == 10) (sym (get_or-drop from bytes at 0)) ∙ h.1 in
    let lines : HasNone 10 bytes (least - 1) (from + at) =
    λ k low below newline. h.0.before (k - from) (omega arith) (omega (arith, first, low, below)) (ap (λ (x : ℕ). x == 10) (in-rest from k bytes (omega (arith, first, low))) ∙ newline) in
    (omega arith, omega (arith, within), λ more. cut_at s least bytes more (from + at) out quotes within is lines few)

pub plain_all : (s : Scan) (least from : ℕ) (bytes : List ℕ) → s ≢ scan.Quoted → HasNone 34 bytes 0 (length bytes) → from ≡ min (least - 1) (length bytes)
    → IsFirstByte (is_byte 10) (drop from bytes) None
    → (more : List ℕ) → front_len s least (bytes ++ more) ≡ length bytes + front_len (after_bytes s bytes) (least - length bytes) more
plain_all s least from bytes out quotes e h more =
    let size = length-drop from bytes in
    let lines : HasNone 10 bytes (least - 1) (length bytes) =
    λ k low below newline.
    let le : from ≤ k = omega (arith, e, low) in
    h (k - from) (omega arith) (omega (arith, size, le, below)) (ap (λ (x : ℕ). x == 10) (in-rest from k bytes le) ∙ newline) in
    all_at s least bytes more out quotes lines
