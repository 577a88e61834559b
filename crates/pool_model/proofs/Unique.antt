-- A mark stands for one block of a history.
use Rattle.std.proofs.Common.{◌≡◌, ◌<◌, ◌^◌, ℕ, List, ◌∷◌, ◌++◌, length, take, drop, refl, sym, ap, ◌∙◌, arith, length-append}
use Rattle.std.proofs.lemmas.List.{take_at}
use Rattle.reservation_tree.specs.declared.mark.Mark.{Mark}
use Rattle.reservation_tree.specs.Marks.{IsMark, mark_bytes}
use Rattle.reservation_tree.proofs.Marks.{marks_differ, take-mark, drop-mark}
use Rattle.pool_model.specs.declared.entry.Entry.{Entry}
use Rattle.pool_model.specs.State.{Opening, Place, shown}
use Rattle.pool_model.specs.LookingBack.{Made, content_of}
use Rattle.pool_model.specs.HistoryLaws.{made}
use Rattle.pool_model.proofs.Written.{legal_versions_are_told}
use Rattle.pool_model.specs.StoredBlocks.{IsStoredBlock, IsStored, MarksAreUnique, WasWritten, LegalMarksShowContent, block_in}

-- numbers of entries that are shown alike are the same
pub shown_apart : (a b n : ℕ) → a < n → b < n → n < 18446744073709551615 → shown a ≡ shown b → a ≡ b
shown_apart a b n a< b< n< same = omega (arith, a<, b<, n<, same)

-- two fronts of a history that are as long are the same
pub same_front : (h before later more rest : List Entry) (d e : Entry) → h ≡ before ++ d ∷ later → h ≡ more ++ e ∷ rest → length before ≡ length more → before ≡ more
same_front h before later more rest d e is also long =
    sym (take_at before (d ∷ later) (length more) long)
    ∙ ap (take (length more)) (sym is ∙ also)
    ∙ take_at more (e ∷ rest) (length more) refl

front_less : (h before later : List Entry) (d : Entry) → h ≡ before ++ d ∷ later → length before < length h
front_less h before later d is = let long = ap length is ∙ length-append before (d ∷ later) in omega (arith, long)

-- two entries whose numbers are shown alike have the same before them
pub same_before : (h before later more rest : List Entry) (d e : Entry) → length h < 18446744073709551615 → h ≡ before ++ d ∷ later → h ≡ more ++ e ∷ rest → shown (length before) ≡ shown (length more) → before ≡ more
same_before h before later more rest d e few is also same =
    same_front h before later more rest d e is also
    (shown_apart (length before) (length more) (length h) (front_less h before later d is) (front_less h more rest e also) few same)

-- blocks under one mark
one_block : (o : Opening) (h : List Entry) → length h < 18446744073709551615 → (m n : Mark) → m ≡ n → (a b : List ℕ) → IsStoredBlock o h m a → IsStoredBlock o h n b → a ≡ b
one_block o h few m n same a b is also =
    let version : shown (length is.before) ≡ shown (length also.before) = sym is.version ∙ ap (λ (k : Mark). k.version) same ∙ also.version in
    let front : is.before ≡ also.before = same_before h is.before is.later also.before also.later _ _ few is.begins also.begins version in
    is.bytes
    ∙ ap (λ (k : Mark). block_in o.block_len k.block (content_of o is.before k.name)) same
    ∙ ap (λ (g : List Entry). block_in o.block_len n.block (content_of o g n.name)) front
    ∙ sym also.bytes

pub marks_are_unique : MarksAreUnique
marks_are_unique o h few a b is also same =
    let front : mark_bytes is.mark ≡ mark_bytes also.mark =
    sym (take-mark is.mark is.block) ∙ ap (take 20) (sym is.is) ∙ same ∙ ap (take 20) also.is ∙ take-mark also.mark also.block in
    let mark : is.mark ≡ also.mark = marks_differ is.mark also.mark is.stored.is_mark also.stored.is_mark front in
    let block : is.block ≡ also.block = one_block o h few is.mark also.mark mark is.block also.block is.stored also.stored in
    is.is ∙ (λ i. mark_bytes (mark i) ++ block i) ∙ sym also.is

shows_content : (o : Opening) (h : List Entry) → length h < 18446744073709551615 → (p i : ℕ) (place : Place) (version : ℕ) (made : Made) → WasWritten o h p place version made
    → i < 2 ^ 32 → (block : List ℕ) → IsStored o h (mark_bytes (record { name = p; version = version; block = i }) ++ block) → block ≡ block_in o.block_len i (content_of o h p)
shows_content o h few p i place version made was small block is =
    let wanted : Mark = record { name = p; version = version; block = i } in
    let is_mark : IsMark wanted = record { name = omega (arith, was.named); version = omega (arith, was.shows); block = small } in
    let front : mark_bytes wanted ≡ mark_bytes is.mark = sym (take-mark wanted block) ∙ ap (take 20) is.is ∙ take-mark is.mark is.block in
    let mark : wanted ≡ is.mark = marks_differ wanted is.mark is_mark is.stored.is_mark front in
    let rest : block ≡ is.block = sym (drop-mark wanted block) ∙ ap (drop 20) is.is ∙ drop-mark is.mark is.block in
    let version_is : shown (length is.stored.before) ≡ shown (length was.before) = sym is.stored.version ∙ ap (λ (k : Mark). k.version) (sym mark) ∙ was.shows in
    let before : is.stored.before ≡ was.before = same_before h is.stored.before is.stored.later was.before was.later _ _ few is.stored.begins was.begins version_is in
    rest
    ∙ is.stored.bytes
    ∙ ap (λ (k : Mark). block_in o.block_len k.block (content_of o is.stored.before k.name)) (sym mark)
    ∙ ap (λ (g : List Entry). block_in o.block_len i (content_of o g p)) before
    ∙ ap (block_in o.block_len i) was.content

pub legal_marks_show_content : LegalMarksShowContent
legal_marks_show_content o h legal few p i x is on small block stored =
    shows_content o h few p i x.place x.version (made x) (legal_versions_are_told o h legal p x is on) small block stored
