-- Worked rows: b 2, a 1, a -3, grouped by the first column, in the order of the keys' bytes.
use Rattle.std.proofs.Common.{◌≡◌, List, [], ◌∷◌, map, refl}
use Rattle.std.specs.Prelude.{pos, negsuc}
use Rattle.std.specs.Int.{int_wrap}
use Rattle.std.specs.Cmp.Lexicographic.{slice_cmp}
use Rattle.std.specs.Ordering.{nat_cmp}
use Rattle.row_codec.specs.declared.values.Agg.TheVariants.{Count, Sum, Min, Max}
use Rattle.row_codec.specs.declared.values.Value.{Value}
use Rattle.row_codec.specs.declared.values.Value.TheVariants.{Int, Text}
use Rattle.row_codec.specs.RowBytes.{key_bytes}
use Rattle.group_rows.specs.Partials.{Grouping, Partial, combined_by, groups_by, partial_of}

abbrev grouping : Grouping
grouping = record { keys = 0 ∷ []; aggs = Count ∷ Sum 1 ∷ Min 1 ∷ Max 1 ∷ [] }

abbrev rows : List (List Value)
rows = (Text (98 ∷ []) ∷ Int (pos 2) ∷ []) ∷ (Text (97 ∷ []) ∷ Int (pos 1) ∷ []) ∷ (Text (97 ∷ []) ∷ Int (negsuc 2) ∷ []) ∷ []

abbrev answer : List Partial
answer =
    (record { key = 2 ∷ 0 ∷ 0 ∷ 0 ∷ 1 ∷ 97 ∷ []; numbers = pos 2 ∷ negsuc 1 ∷ negsuc 2 ∷ pos 1 ∷ [] })
    ∷ (record { key = 2 ∷ 0 ∷ 0 ∷ 0 ∷ 1 ∷ 98 ∷ []; numbers = pos 1 ∷ pos 2 ∷ pos 2 ∷ pos 2 ∷ [] }) ∷ []

worked : groups_by (slice_cmp nat_cmp) grouping rows ≡ answer
unfolding key_bytes int_wrap
worked = refl

worked_too : combined_by (slice_cmp nat_cmp) grouping (map (partial_of grouping) rows) ≡ answer
unfolding key_bytes int_wrap
worked_too = refl
