-- What `toml` answers of bytes, and the table of the document.
use Rattle.std.proofs.Common.{◌≡◌, ℕ, Bool, true, false, cond, List, Option, Some, None, refl}
use Rattle.std.specs.Str.{IsUtf8, is_utf8}
use Rattle.std.proofs.lemmas.Str.{IsUtf8-from_is_utf8, is_utf8-from_IsUtf8}
use Rattle.toml.specs.Data.{Members}
use Rattle.toml.specs.Parse.{parse_document}
use Rattle.query_plan.specs.PlanOf.{document_of}

pub document_is : (bytes : List ℕ) (entries : Members) → IsUtf8 bytes → parse_document bytes ≡ Some entries → document_of bytes ≡ Some entries
document_is bytes entries utf8 parsed = rw (is_utf8-from_IsUtf8 bytes utf8) parsed

none_either_way : (is : Bool) (parsed : Option Members) → (is ≡ true → parsed ≡ None) → cond is parsed None ≡ None
none_either_way true parsed refused = refused refl
none_either_way false parsed refused = refl

pub no_document : (bytes : List ℕ) → (IsUtf8 bytes → parse_document bytes ≡ None) → document_of bytes ≡ None
no_document bytes refused = none_either_way (is_utf8 bytes) (parse_document bytes) (λ is. refused (IsUtf8-from_is_utf8 bytes is))
