-- A partial row that is put into the table is fed, and with it the rows for which it stands.
use Rattle.std.proofs.Common.{◌≡◌, ◌∙◌, ℕ, List, [], ◌∷◌, ◌++◌, ap, sym, subst, append_assoc, append-nil}
use Rattle.std.specs.List.Sorted.{IsPermutation}
use Rattle.std.proofs.lemmas.List.{map-append}
use Rattle.std.proofs.lemmas.List.Sorted.{IsPermutation-append_comm, IsPermutation-append_right, IsPermutation-map, IsPermutation-sym, IsPermutation-to_front, IsPermutation-trans}
use Rattle.row_codec.specs.declared.values.Value.{Value}
use Rattle.row_codec.specs.Order.{path_order}
use Rattle.store_api.specs.declared.shapes.Shape.{Shape}
use Rattle.group_rows.specs.Combining.{AreValues}
use Rattle.group_rows.specs.Partials.{Partial, combined_of}
use Rattle.group_rows.specs.Standing.{StandFor}
use Rattle.group_rows.proofs.Paths.{path_is_order}
use Rattle.group_rows.proofs.Standing.{together}
use Rattle.group_op.specs.Stored.{SameGroups, grouping_of, partial_at, partials_at}
use Rattle.group_op.proofs.Same.{same_order}

-- the entries, and the rows of the partitions before and behind; and what was put
pub fed_stands : (shape : Shape) (fed : List (List Value)) (more : List (List Value)) (bytes : List ℕ) (entries now gone streams streams_now : List (List ℕ))
    → AreValues fed → AreValues more → StandFor path_order (grouping_of shape) more (partial_at shape bytes ∷ [])
    → SameGroups (grouping_of shape) (partials_at shape (bytes ∷ entries)) (partials_at shape (now ++ gone))
    → IsPermutation streams_now (streams ++ gone)
    → StandFor path_order (grouping_of shape) fed (partials_at shape entries ++ partials_at shape streams)
    → StandFor path_order (grouping_of shape) (fed ++ more) (partials_at shape now ++ partials_at shape streams_now)
fed_stands shape fed more bytes entries now gone streams streams_now values good one put moved stand =
    let g = grouping_of shape in
    let behind = together path_order path_is_order (grouping_of shape) fed more (partials_at shape entries ++ partials_at shape streams) (partial_at shape bytes ∷ []) values good stand one in
    let out : List Partial = partials_at shape now ++ partials_at shape streams_now in
    let mid : List Partial = (partials_at shape now ++ partials_at shape gone) ++ partials_at shape streams in
    let parts : IsPermutation (partials_at shape streams_now) (partials_at shape gone ++ partials_at shape streams) =
    subst (IsPermutation (partials_at shape streams_now)) (map-append (partial_at shape) gone streams)
    (IsPermutation-map (partial_at shape) streams_now (gone ++ streams) (IsPermutation-trans streams_now (streams ++ gone) (gone ++ streams) moved (IsPermutation-append_comm streams gone))) in
    let first : IsPermutation (partials_at shape now ++ partials_at shape streams_now) ((partials_at shape now ++ partials_at shape gone) ++ partials_at shape streams) =
    subst (IsPermutation (partials_at shape now ++ partials_at shape streams_now)) (sym (append_assoc (partials_at shape now) (partials_at shape gone) (partials_at shape streams)))
    (IsPermutation-append_right (partials_at shape now) (partials_at shape streams_now) (partials_at shape gone ++ partials_at shape streams) parts) in
    let last : IsPermutation (partial_at shape bytes ∷ (partials_at shape entries ++ partials_at shape streams)) ((partials_at shape entries ++ partials_at shape streams) ++ partial_at shape bytes ∷ []) =
    IsPermutation-sym ((partials_at shape entries ++ partials_at shape streams) ++ partial_at shape bytes ∷ []) (partial_at shape bytes ∷ (partials_at shape entries ++ partials_at shape streams)) (IsPermutation-to_front (partials_at shape entries ++ partials_at shape streams) (partial_at shape bytes)) in
    whole out first
    ∙ ap (λ (ps : List Partial). combined_of (grouping_of shape) (ps ++ partials_at shape streams)) (sym (map-append (partial_at shape) now gone))
    ∙ sym (put (partials_at shape streams))
    ∙ whole ((partial_at shape bytes ∷ partials_at shape entries) ++ partials_at shape streams) last
    ∙ behind
  where
    whole : (xs : List Partial) {ys : List Partial} → IsPermutation xs ys → combined_of (grouping_of shape) xs ≡ combined_of (grouping_of shape) ys
    whole xs {ys} perm =
        ap (combined_of (grouping_of shape)) (sym (append-nil xs)) ∙ same_order (grouping_of shape) xs ys perm [] ∙ ap (combined_of (grouping_of shape)) (append-nil ys)
