-- Lines of two plain fields as `csv` reads them: a record for each, whatever the pieces.
use Rattle.std.proofs.Common.{◌≡◌, ◌⊎◌, inl, inr, ◌∙◌, ◌≤◌, ◌<◌, ◌+◌, ◌-◌, ◌++◌, ap, ap₂, sym, subst, refl, arith, false, ℕ, zero, suc, List, [], ◌∷◌, Some, map, take, drop, length, flat_map}
use Rattle.std.specs.Prelude.{⊤, ◌==◌, ◌&&◌, if◌then◌else◌, nat_le}
use Rattle.std.proofs.lemmas.Bool.{cases_Bool}
use Rattle.std.proofs.lemmas.List.{append_assoc, append-nil, drop_at, length-append, map-append, take_at}
use Rattle.std.proofs.lemmas.List.Concat.{flat_map-append}
use Rattle.csv.specs.Machine.{next_record}
use Rattle.csv.specs.Reading.{default_config, records_from, strip_bom}
use Rattle.csv.specs.declared.parser.State.TheVariants as st
use Rattle.csv_edge.specs.Pieces.{after_byte, first_len, front_len, is_cut, later_pieces, next_len, piece_bytes, pieces_left}
use Rattle.csv_edge.specs.Typed.{records_in, records_of}

-- a byte that is no mark of the format, and begins no byte order mark
pub record IsPlainByte (b : ℕ) : Type 0 where
  pub comma : (b == 44) ≡ false
  pub quote : (b == 34) ≡ false
  pub return : (b == 13) ≡ false
  pub newline : (b == 10) ≡ false
  pub mark : (b == 239) ≡ false

abbrev pub IsPlain : List ℕ → Type 0
IsPlain [] = ⊤
IsPlain (b ∷ rest) = IsPlainByte b × IsPlain rest

-- a line of two fields, its text, and its record
pub record Line : Type 0 where
  pub first : List ℕ
  pub second : List ℕ

abbrev pub front_of : Line → List ℕ
front_of line = line.first ++ (44 ∷ line.second)

abbrev pub text_of : Line → List ℕ
text_of line = front_of line ++ (10 ∷ [])

abbrev pub fields_of : Line → List (List ℕ)
fields_of line = line.first ∷ line.second ∷ []

abbrev pub ArePlain : List Line → Type 0
ArePlain [] = ⊤
ArePlain (line ∷ lines) = IsPlain line.first × IsPlain line.second × ArePlain lines

abbrev pub texts : List Line → List ℕ
texts lines = flat_map text_of lines

-- ---- records

run : (fields : List (List ℕ)) (field x tail : List ℕ) → IsPlain x → next_record default_config st.InField fields field (x ++ tail) ≡ next_record default_config st.InField fields (field ++ x) tail
unfolding next_record
run fields field [] tail plain = rw (append-nil field) refl
run fields field (b ∷ rest) tail plain =
    let p = plain.0 in
    rw (p.comma, p.return, p.newline) (run fields (field ++ (b ∷ [])) rest tail plain.1
    ∙ ap (λ (f : List ℕ). next_record default_config st.InField fields f tail) (append_assoc field (b ∷ []) rest))

-- from the start of a record, and of a field, up to the byte that ends the field
first-run : (x : List ℕ) (tail : List ℕ) → IsPlain x → next_record default_config st.StartRecord [] [] (x ++ (44 ∷ tail)) ≡ next_record default_config st.StartField (x ∷ []) [] tail
unfolding next_record
first-run [] tail plain = refl
first-run (b ∷ rest) tail plain =
    let p = plain.0 in
    rw (p.comma, p.quote, p.return, p.newline) (run [] (b ∷ []) rest (44 ∷ tail) plain.1)

second-run : (fields : List (List ℕ)) (x tail : List ℕ) → IsPlain x → next_record default_config st.StartField fields [] (x ++ (10 ∷ tail)) ≡ Some (fields ++ (x ∷ []), st.StartRecord, tail)
unfolding next_record
second-run fields [] tail plain = refl
second-run fields (b ∷ rest) tail plain =
    let p = plain.0 in
    rw (p.comma, p.quote, p.return, p.newline) (run fields (b ∷ []) rest (10 ∷ tail) plain.1)

text-split : (line : Line) (tail : List ℕ) → text_of line ++ tail ≡ line.first ++ (44 ∷ (line.second ++ (10 ∷ tail)))
text-split line tail =
    append_assoc (front_of line) (10 ∷ []) tail ∙ append_assoc line.first (44 ∷ line.second) (10 ∷ tail)

line-read : (line : Line) (tail : List ℕ) → IsPlain line.first → IsPlain line.second → next_record default_config st.StartRecord [] [] (text_of line ++ tail) ≡ Some (fields_of line, st.StartRecord, tail)
line-read line tail first second = rw (text-split line tail) (first-run line.first (line.second ++ (10 ∷ tail)) first ∙ second-run (line.first ∷ []) line.second tail second)

-- as many turns as there are lines read all of them
lines-read : (lines : List Line) (n : ℕ) → ArePlain lines → length lines < n → records_from default_config n st.StartRecord (texts lines) ≡ map fields_of lines
unfolding records_from next_record
lines-read [] zero plain more = refl
lines-read [] (suc n) plain more = refl
lines-read (line ∷ lines) zero plain more = absurd (omega (arith, more))
lines-read (line ∷ lines) (suc n) plain more =
    rw (line-read line (texts lines) plain.0 plain.1) (ap (λ (rows : List (List (List ℕ))). fields_of line ∷ rows) (lines-read lines n plain.2 (omega (arith, more))))

text-long : (line : Line) → 1 < length (text_of line)
text-long line =
    let inner = length-append line.first (44 ∷ line.second) in
    let outer = length-append (front_of line) (10 ∷ []) in
    omega (arith, inner, outer)

texts-long : (lines : List Line) → length lines ≤ length (texts lines)
texts-long [] = omega arith
texts-long (line ∷ lines) =
    let here = text-long line in
    let more = texts-long lines in
    let both = length-append (text_of line) (texts lines) in
    omega (arith, here, more, both)

unmarked : (b : ℕ) (rest : List ℕ) → (b == 239) ≡ false → strip_bom (b ∷ rest) ≡ b ∷ rest
unfolding strip_bom
unmarked b [] plain = refl
unmarked b (c ∷ []) plain = refl
unmarked b (c ∷ d ∷ rest) plain = rw plain refl

no-mark : (lines : List Line) → ArePlain lines → strip_bom (texts lines) ≡ texts lines
unfolding strip_bom
no-mark [] plain = refl
no-mark (line ∷ lines) plain = rw (text-split line (texts lines)) (starts line.first (line.second ++ (10 ∷ texts lines)) plain.0)
  where
    starts : (x tail : List ℕ) → IsPlain x → strip_bom (x ++ (44 ∷ tail)) ≡ x ++ (44 ∷ tail)
    starts [] tail plain = unmarked 44 tail refl
    starts (b ∷ rest) tail plain = unmarked b (rest ++ (44 ∷ tail)) plain.0.mark

piece-read : (lines : List Line) → ArePlain lines → records_in (texts lines) ≡ map fields_of lines
piece-read lines plain =
    let long = texts-long lines in
    rw (no-mark lines plain) (lines-read lines (length (texts lines) + 1) plain (omega (arith, long)))

-- ---- pieces

-- how a scan stands outside quotes: at the start of a field, or in one
pub record Scans (start inside : _) : Type 0 where
  pub start_cut : (byte : ℕ) → is_cut start byte ≡ (byte == 10)
  pub inside_cut : (byte : ℕ) → is_cut inside byte ≡ (byte == 10)
  pub start_comma : after_byte start 44 ≡ start
  pub start_newline : after_byte start 10 ≡ start
  pub inside_comma : after_byte inside 44 ≡ start
  pub inside_newline : after_byte inside 10 ≡ start
  pub start_plain : (byte : ℕ) → IsPlainByte byte → after_byte start byte ≡ inside
  pub inside_plain : (byte : ℕ) → IsPlainByte byte → after_byte inside byte ≡ inside

module _ (start : _) (is : Scans start (after_byte start 48)) where
  start-ends : (byte : ℕ) → (byte ≡ 44) ⊎ (byte ≡ 10) → after_byte start byte ≡ start
  start-ends byte (inl same) = rw same is.start_comma
  start-ends byte (inr same) = rw same is.start_newline

  inside-ends : (byte : ℕ) → (byte ≡ 44) ⊎ (byte ≡ 10) → after_byte (after_byte start 48) byte ≡ start
  inside-ends byte (inl same) = rw same is.inside_comma
  inside-ends byte (inr same) = rw same is.inside_newline

  -- the length of the front behind the byte that ends a field
  abbrev behind : ℕ → ℕ → List ℕ → ℕ
  behind least byte rest = suc (if (byte == 10) && nat_le least 1 then 0 else front_len start (least - 1) rest)

  inside-front : (least byte : ℕ) (x rest : List ℕ) → IsPlain x → (byte ≡ 44) ⊎ (byte ≡ 10) → front_len (after_byte start 48) least (x ++ (byte ∷ rest)) ≡ length x + behind (least - length x) byte rest
  inside-front least byte [] rest plain ends =
      let all : least - 0 ≡ least = omega arith in
      rw (is.inside_cut byte, inside-ends byte ends, all) (omega arith)
  inside-front least byte (b ∷ x) rest plain ends =
      let p = plain.0 in
      let left : (least - 1) - length x ≡ least - suc (length x) = omega arith in
      rw (is.inside_cut b, p.newline, is.inside_plain b p, inside-front (least - 1) byte x rest plain.1 ends, left) (omega arith)

  field-front : (least byte : ℕ) (x rest : List ℕ) → IsPlain x → (byte ≡ 44) ⊎ (byte ≡ 10) → front_len start least (x ++ (byte ∷ rest)) ≡ length x + behind (least - length x) byte rest
  field-front least byte [] rest plain ends =
      let all : least - 0 ≡ least = omega arith in
      rw (is.start_cut byte, start-ends byte ends, all) (omega arith)
  field-front least byte (b ∷ x) rest plain ends =
      let p = plain.0 in
      let left : (least - 1) - length x ≡ least - suc (length x) = omega arith in
      rw (is.start_cut b, p.newline, is.start_plain b p, inside-front (least - 1) byte x rest plain.1 ends, left) (omega arith)

  -- a front ends with a line
  line-front : (least : ℕ) (line : Line) (rest : List ℕ) → IsPlain line.first → IsPlain line.second
      → front_len start least (text_of line ++ rest) ≡ length (front_of line) + behind (least - length (front_of line)) 10 rest
  line-front least line rest first second =
      let size = length-append line.first (44 ∷ line.second) in
      let here = field-front least 44 line.first (line.second ++ (10 ∷ rest)) first (inl refl) in
      let next = field-front (least - length line.first - 1) 10 line.second rest second (inr refl) in
      let left : (least - length line.first - 1) - length line.second ≡ least - length (front_of line) = omega (arith, size) in
      rw (text-split line rest, here, next, left) (omega (arith, size))

  plain-parts : (some others : List Line) → ArePlain (some ++ others) → ArePlain some × ArePlain others
  plain-parts [] others plain = (tt, plain)
  plain-parts (line ∷ some) others plain = let more = plain-parts some others plain.2 in ((plain.0, plain.1, more.0), more.1)

  -- a front is some of the lines, and all of the bytes behind it are the others; where there is a line, it has one
  pub record CutOff (least : ℕ) (lines : List Line) : Type 0 where
    pub cut : List Line
    pub others : List Line
    pub all : cut ++ others ≡ lines
    pub len : front_len start least (texts lines) ≡ length (texts cut)
    pub some : length others ≤ length lines - 1

  pub cut_off : (least : ℕ) (lines : List Line) → ArePlain lines → CutOff least lines
  cut_off least [] plain = record { cut = []; others = []; all = refl; len = refl; some = omega arith }
  cut_off least (line ∷ lines) plain = elim (cases_Bool (nat_le (least - length (front_of line)) 1)) [
    | inl enough ↦ record {
      cut = line ∷ [];
      others = lines;
      all = refl;
      len = rw (line-front least line (texts lines) plain.0 plain.1, enough) (let size = length-append (front_of line) (10 ∷ []) in rw (append-nil (text_of line)) (omega (arith, size)));
      some = omega arith;
    }
    | inr short ↦ (let more = cut_off (least - length (front_of line) - 1) lines plain.2 in record {
      cut = line ∷ more.cut;
      others = more.others;
      all = ap (λ (ls : List Line). line ∷ ls) more.all;
      len = rw (line-front least line (texts lines) plain.0 plain.1, short, more.len)
          (let size = length-append (front_of line) (10 ∷ []) in
          let both = length-append (text_of line) (texts more.cut) in omega (arith, size, both));
      some = (let some = more.some in let size = length-append more.cut more.others in let whole = ap (λ (ls : List Line). length ls) more.all in omega (arith, some, size, whole));
    })
  ]

  piece-cut : (least n : ℕ) (bytes : List ℕ) → ((xs : List ℕ) → next_len xs ≡ front_len start least xs) → 0 < length bytes
      → pieces_left (suc n) bytes ≡ take (front_len start least bytes) bytes ∷ pieces_left n (drop (front_len start least bytes) bytes)
  piece-cut least n [] same some = absurd (omega arith)
  piece-cut least n (byte ∷ rest) same some = ap (λ (len : ℕ). take len (byte ∷ rest) ∷ pieces_left n (drop len (byte ∷ rest))) (same (byte ∷ rest))

  -- the records of a front, and then those of the pieces behind it, are those of all lines if they are for the lines behind it
  pub front-read : (least : ℕ) (turns : List ℕ → ℕ) (lines : List Line) → ArePlain lines
      → ((others : List Line) → length others ≤ length lines - 1 → ArePlain others → flat_map records_in (pieces_left (turns (texts others)) (texts others)) ≡ map fields_of others)
      → records_in (take (front_len start least (texts lines)) (texts lines)) ++ flat_map records_in (pieces_left (turns (drop (front_len start least (texts lines)) (texts lines))) (drop (front_len start least (texts lines)) (texts lines)))
      ≡ map fields_of lines
  front-read least turns lines plain later =
      let off = cut_off least lines plain in
      let both : texts lines ≡ texts off.cut ++ texts off.others = ap texts (sym off.all) ∙ flat_map-append text_of off.cut off.others in
      let parts = plain-parts off.cut off.others (subst ArePlain (sym off.all) plain) in
      let cut : take (front_len start least (texts lines)) (texts lines) ≡ texts off.cut =
      ap (λ (len : ℕ). take len (texts lines)) off.len ∙ (ap (take (length (texts off.cut))) both ∙ take_at (texts off.cut) (texts off.others) (length (texts off.cut)) refl) in
      let left : drop (front_len start least (texts lines)) (texts lines) ≡ texts off.others =
      ap (λ (len : ℕ). drop len (texts lines)) off.len ∙ (ap (drop (length (texts off.cut))) both ∙ drop_at (texts off.cut) (texts off.others) (length (texts off.cut)) refl) in
      ap₂ (λ (a b : List (List (List ℕ))). a ++ b) (ap records_in cut ∙ piece-read off.cut parts.0)
      (ap (λ (xs : List ℕ). flat_map records_in (pieces_left (turns xs) xs)) left ∙ later off.others off.some parts.1)
      ∙ (sym (map-append fields_of off.cut off.others) ∙ ap (map fields_of) off.all)

  -- the records of the pieces are those of the lines
  pub pieces-read : (least n : ℕ) (lines : List Line) → ((xs : List ℕ) → next_len xs ≡ front_len start least xs) → ArePlain lines → length lines ≤ n
      → flat_map records_in (pieces_left n (texts lines)) ≡ map fields_of lines
  pieces-read least zero [] same plain many = refl
  pieces-read least (suc n) [] same plain many = refl
  pieces-read least zero (line ∷ lines) same plain many = absurd (omega (arith, many))
  pieces-read least (suc n) (line ∷ lines) same plain many =
      let long = texts-long (line ∷ lines) in
      ap (flat_map records_in) (piece-cut least n (texts (line ∷ lines)) same (omega (arith, long)))
      ∙ front-read least (λ xs. n) (line ∷ lines) plain (λ others few each. pieces-read least n others same each (omega (arith, few, many)))

  pub all-read : (least : ℕ) (lines : List Line) → ((xs : List ℕ) → next_len xs ≡ front_len start least xs) → ArePlain lines → first_len (texts lines) ≡ next_len (texts lines) → records_of (texts lines) ≡ map fields_of lines
  all-read least lines same plain first =
      let long = texts-long lines in
      ap (λ (len : ℕ). records_in (take len (texts lines)) ++ flat_map records_in (later_pieces (drop len (texts lines)))) (first ∙ same (texts lines))
      ∙ front-read least (λ xs. length xs) lines plain (λ others few each. let more = texts-long others in pieces-read least (length (texts others)) others same each more)

-- whatever the pieces, each line behind a first one is a record
pub lines_read : (line : Line) (lines : List Line) → ArePlain (line ∷ lines) → first_len (texts (line ∷ lines)) ≡ next_len (texts (line ∷ lines)) → records_of (texts (line ∷ lines)) ≡ map fields_of (line ∷ lines)
lines_read line lines plain first = all-read _
    (record {
      start_cut = λ byte. refl;
      inside_cut = λ byte. refl;
      start_comma = refl;
      start_newline = refl;
      inside_comma = refl;
      inside_newline = refl;
      start_plain = λ byte p. rw (p.quote, p.comma, p.newline, p.return) refl;
      inside_plain = λ byte p. rw (p.comma, p.newline, p.return) refl;
    }) piece_bytes (line ∷ lines) (λ xs. refl) plain first
