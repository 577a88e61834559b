-- The start is within every stream, with all rows behind it.
use Rattle.std.proofs.Common.{◌≡◌, ℕ, ◌∙◌, max, ap, rules, arith}
use Rattle.store_api.specs.Holdings.{Holdings}
use Rattle.tuple_stream.specs.Streamed.{Streamed, all_bytes, joined, rows_by_page, rows_of}
use Rattle.tuple_stream.specs.Places.{first, rows_from}
use Rattle.tuple_stream.specs.Bounds.{StartsFirst}
use Rattle.tuple_stream.proofs.Placed.{first_stands}

from-start : (spent : ℕ) → max 0 spent ≡ spent
from-start spent = search rules

all-behind : (s : Streamed) (h : Holdings) → rows_from first s h ≡ rows_of s h
all-behind s h = ap (λ (start : ℕ). joined (rows_by_page start (all_bytes s h s.pages))) (from-start s.spent)

pub starts_first : StartsFirst
starts_first t s h =
    record {
      within = record { page_is = omega arith; row_is = omega arith };
      place = λ rows is has. (first_stands s h rows has, all-behind s h ∙ has.are);
    }
