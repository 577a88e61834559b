-- The pages that a query lays are at least as long as the rows that it must keep.
use Rattle.std.proofs.Common.{◌≡◌, ◌∙◌, ◌≤◌, ◌+◌, ◌==◌, ℕ, zero, suc, Bool, true, false, if◌then◌else◌, List, [], ◌∷◌, ◌++◌, Option, Some, None, length, map, take, drop, refl, ap, sym, subst, arith, append_assoc}
use Rattle.std.specs.Prelude.{All, flat_map}
use Rattle.std.specs.List.{sum_by}
use Rattle.std.proofs.lemmas.List.{length-drop, length-take}
use Rattle.std.proofs.lemmas.List.Elements.{All-append, All-head, All-tail}
use Rattle.std.proofs.lemmas.List.Sums.{sum_by-append, sum_by-cons}
use Rattle.pool_model.specs.declared.entry.Entry.{Entry}
use Rattle.pool_model.specs.declared.event.Event.{Event}
use Rattle.row_codec.specs.declared.values.Kind.{Kind}
use Rattle.row_codec.specs.declared.values.Value.{Value}
use Rattle.row_codec.specs.Order.{path_order}
use Rattle.row_codec.specs.RowBytes.{key_bytes, row_bytes}
use Rattle.row_reading.specs.Reading.{IsRowOf, values_at}
use Rattle.store_api.specs.Shapes.{IsShape}
use Rattle.store_api.specs.declared.shapes.Shape.{Shape}
use Rattle.tuple_stream.specs.PageRows.{row_len as framed_len, rows_on, rows_upto}
use Rattle.tuple_stream.specs.Trails.{EnteredEvents, IsBuilding, Leaves, Left, all_left}
use Rattle.tuple_stream.proofs.BuildingQuiet.{left_join}
use Rattle.tuple_stream.proofs.Sinces.{since_so}
use Rattle.group_rows.specs.Keyed.{keys_in}
use Rattle.group_rows.specs.Partials.{Grouping, Partial, group_in, groups_by}
use Rattle.group_rows.specs.Standing.{StandFor}
use Rattle.group_rows.proofs.Keeping.{weigh_no_more}
use Rattle.group_rows.proofs.Paths.{path_is_order}
use Rattle.group_op.specs.Stored.{IsPartialRow, key_at, partial_at, partials_at, row_len}
use Rattle.group_op.proofs.Weighing.{row_is_long}
use Rattle.join_op.specs.Laid.{LeavesSide}
use Rattle.join_op.specs.Stored.{Side, left_side, right_side}
use Rattle.join_op.proofs.Sums.{sum_map}
use Rattle.query_plan.specs.declared.plan.Query.{Query}
use Rattle.query_plan.specs.declared.plan.SidePlan.{SidePlan}
use Rattle.query_run.specs.Both.{Told, both_told, passing_of_both, right_passing}
use Rattle.query_run.specs.Input.{passing, passing_in}
use Rattle.query_run.specs.Plans.{IsRunnable, grouping_of, join_shape_of, shape_of}
use Rattle.query_run.specs.Spilling.{LaysBytes, LaysSpill, bytes_left, spill_with}
use Rattle.query_run.specs.Trail.{HoldsPartials, HoldsRows, KeptRows, KeptWith}
use Rattle.query_run.proofs.Alone.{grouping}

-- ---- rows on pages

-- a row at the front, if there is one, and rows that fit behind it are no longer than all bytes
step_fits : (none : Bool) (n : ℕ) (bytes : List ℕ) (rest : List (List ℕ)) → sum_by length rest ≤ length (drop n bytes) → sum_by length (if none then [] else take n bytes ∷ rest) ≤ length bytes
step_fits true n bytes rest fits = omega arith
step_fits false n bytes rest fits = omega (arith, fits, sum_by-cons length (take n bytes) rest, length-take n bytes, length-drop n bytes)

-- the rows of bytes are together no longer than the bytes
rows_fit : (most : ℕ) (bytes : List ℕ) → sum_by length (rows_upto most bytes) ≤ length bytes
rows_fit zero bytes = omega arith
rows_fit (suc most) bytes =
    step_fits (framed_len bytes == 0) (framed_len bytes) bytes (rows_upto most (drop (framed_len bytes) bytes)) (rows_fit most (drop (framed_len bytes) bytes))

-- those of pages that were left are no longer than these pages
pages_fit : (ls : List Left) → sum_by length (flat_map (λ l. rows_on l.bytes) ls) ≤ sum_by (λ l. length l.bytes) ls
pages_fit [] = omega arith
pages_fit (l ∷ ls) =
    let here : sum_by length (rows_on l.bytes) ≤ length l.bytes = rows_fit (length l.bytes) l.bytes in
    let rest = pages_fit ls in
    let rows : sum_by length (rows_on l.bytes ++ flat_map (λ l. rows_on l.bytes) ls) ≡ sum_by length (rows_on l.bytes) + sum_by length (flat_map (λ l. rows_on l.bytes) ls) = sum_by-append length (rows_on l.bytes) (flat_map (λ (l : Left). rows_on l.bytes) ls) in
    let bytes : sum_by (λ l. length l.bytes) (l ∷ ls) ≡ length l.bytes + sum_by (λ l. length l.bytes) ls = sum_by-cons (λ (l : Left). length l.bytes) l ls in
    omega (arith, here, rest, rows, bytes)

-- rows that events leave on pages are no longer than the pages that they leave
left_long : (rows : List (List ℕ)) (events : List Event) → Leaves rows events → sum_by length rows ≤ bytes_left events
left_long rows events leaves =
    let are = ap (sum_by length) leaves.rows_are in
    omega (arith, are, pages_fit (all_left events))

-- what two spans of events leave is as long as what each leaves, added up
left_together : (before more : List Event) → bytes_left (before ++ more) ≡ bytes_left before + bytes_left more
left_together before more = ap (sum_by (λ (l : Left). length l.bytes)) (left_join before more) ∙ sum_by-append (λ (l : Left). length l.bytes) (all_left before) (all_left more)

-- ---- the rows of a side

-- stored rows, encoded again, are as long as they are stored
spelled_long : (kinds : List Kind) (rows : List (List ℕ)) → All (IsRowOf kinds) rows → sum_by (λ row. length (row_bytes row)) (map (values_at kinds) rows) ≡ sum_by length rows
spelled_long kinds [] formed = refl
spelled_long kinds (r ∷ rows) formed =
    let rest = spelled_long kinds rows (All-tail (IsRowOf kinds) r rows formed) in
    let here = ap length (All-head (IsRowOf kinds) r rows formed).spelled in
    let values : sum_by (λ row. length (row_bytes row)) (values_at kinds r ∷ map (values_at kinds) rows) ≡ length (row_bytes (values_at kinds r)) + sum_by (λ row. length (row_bytes row)) (map (values_at kinds) rows) = sum_by-cons (λ (row : List Value). length (row_bytes row)) (values_at kinds r) (map (values_at kinds) rows) in
    omega (arith, rest, here, values, sum_by-cons length r rows)

-- the rows that were fed to a side are no longer than the pages that it left
side_long : (side : Side) (fed : List (List Value)) (events : List Event) → LeavesSide side fed events → sum_by (λ row. length (row_bytes row)) fed ≤ bytes_left events
side_long side fed events left =
    let same = left.same (λ row. length (row_bytes row)) in
    omega (arith, same, spelled_long side.kinds left.rows left.formed, left_long left.rows events left.leaves)

-- ---- the groups

-- where partial rows stand for rows, each key of the rows is the key of one of them, so the distinct keys weigh no more
keys_weigh : (weight : List ℕ → ℕ) (g : Grouping) (rows : List (List Value)) (ps : List Partial) → StandFor path_order g rows ps → sum_by weight (keys_in path_order (key_bytes g.keys) rows) ≤ sum_by (λ p. weight p.key) ps
keys_weigh weight g rows ps stand =
    let keys : sum_by (λ p. weight p.key) (groups_by path_order g rows) ≡ sum_by weight (keys_in path_order (key_bytes g.keys) rows) = sum_map (λ (p : Partial). weight p.key) (group_in g rows) (keys_in path_order (key_bytes g.keys) rows) in
    let same = ap (sum_by (λ (p : Partial). weight p.key)) stand in
    omega (arith, keys, same, weigh_no_more path_order path_is_order weight g ps)

-- stored partial rows are as long as their keys tell
partials_long : (shape : Shape) (rows : List (List ℕ)) → IsShape shape → All (IsPartialRow shape) rows → sum_by (λ p. row_len shape p.key) (partials_at shape rows) ≡ sum_by length rows
partials_long shape [] is formed = refl
partials_long shape (r ∷ rows) is formed =
    let rest = partials_long shape rows is (All-tail (IsPartialRow shape) r rows formed) in
    let here = row_is_long shape r is (All-head (IsPartialRow shape) r rows formed) in
    let keys : sum_by (λ p. row_len shape p.key) (partial_at shape r ∷ partials_at shape rows) ≡ row_len shape (key_at shape r) + sum_by (λ p. row_len shape p.key) (partials_at shape rows) = sum_by-cons (λ (p : Partial). row_len shape p.key) (partial_at shape r) (partials_at shape rows) in
    omega (arith, rest, here, keys, sum_by-cons length r rows)

-- one partial row for each distinct key is together no longer than the pages that partial rows for these rows were left on
groups_long : (plan : Query) (rows : List (List Value)) (partials : List (List ℕ)) (events : List Event) → IsShape (shape_of plan) → All (IsPartialRow (shape_of plan)) partials
    → StandFor path_order (grouping_of plan) rows (partials_at (shape_of plan) partials) → Leaves partials events
    → sum_by (row_len (shape_of plan)) (keys_in path_order (key_bytes plan.group) rows) ≤ bytes_left events
groups_long plan rows partials events is formed stand leaves =
    let keys = keys_weigh (row_len (shape_of plan)) (grouping_of plan) rows (partials_at (shape_of plan) partials) stand in
    omega (arith, keys, partials_long (shape_of plan) partials is formed, left_long partials events leaves)

-- ---- the trail of a query

-- what a grouping keeps
partials_lay : (plan : Query) (page : ℕ) (told : Told) (events : List Event) → IsShape (shape_of plan) → HoldsPartials plan page (passing plan told.left) events → LaysBytes (spill_with None plan told) events
partials_lay plan page told events is held =
    record {
      laid = held.laid;
      later = held.later;
      split = held.split;
      building = held.leaves.building;
      once = held.leaves.once;
      long = groups_long plan (passing plan told.left) held.partials held.laid is held.formed held.stand held.leaves;
    }

-- what a join keeps: the pages of the left rows, then those of the right ones
sides_lay : (plan : Query) (right : SidePlan) (told : Told) (events : List Event) → plan.right ≡ Some right → HoldsRows (join_shape_of plan right) (passing plan told.left) (passing_in right told.right) events
    → LaysBytes (spill_with (Some right) plan told) events
sides_lay plan right told events joins held =
    record {
      laid = held.lefts_laid ++ held.rights_laid;
      later = held.later;
      split = held.split ∙ sym (append_assoc held.lefts_laid held.rights_laid held.later);
      building = All-append IsBuilding held.lefts_laid held.rights_laid held.left.leaves.building held.right.leaves.building;
      once = held.once;
      long =
          let lefts = side_long (left_side (join_shape_of plan right)) (passing plan told.left) held.lefts_laid held.left in
          let rights = side_long (right_side (join_shape_of plan right)) (passing_in right told.right) held.rights_laid held.right in
          let rows : passing_of_both plan told ≡ passing plan told.left ++ passing_in right told.right = ap (λ (o : Option SidePlan). passing plan told.left ++ right_passing o told.right) joins in
          let sum = ap (sum_by (λ (row : List Value). length (row_bytes row))) rows ∙ sum_by-append (λ (row : List Value). length (row_bytes row)) (passing plan told.left) (passing_in right told.right) in
          omega (arith, lefts, rights, sum, left_together held.lefts_laid held.rights_laid);
    }

-- a query that doesn't join groups its left input
lays_with : (o : Option SidePlan) (plan : Query) (page : ℕ) (told : Told) (start now : Option (List Entry)) → plan.right ≡ o → IsRunnable plan → KeptWith o plan page (Some told.left) (Some told.right) start now
    → EnteredEvents (LaysBytes (spill_with o plan told)) start now
lays_with None plan page told start now alone runs kept =
    let is : IsShape (shape_of plan) = (grouping plan runs alone).shape in
    since_so (HoldsPartials plan page kept.rows) (LaysBytes (spill_with None plan told)) start now
    (λ events held. partials_lay plan page told events is (subst (λ (rows : List (List Value)). HoldsPartials plan page rows events) kept.read.1 held))
    kept.kept
lays_with (Some right) plan page told start now joins runs kept =
    since_so (HoldsRows (join_shape_of plan right) kept.lefts kept.rights) (LaysBytes (spill_with (Some right) plan told)) start now
    (λ events held.
    sides_lay plan right told events joins
    (subst (λ (rows : List (List Value)). HoldsRows (join_shape_of plan right) (passing plan told.left) rows events) kept.rights_read.1
    (subst (λ (rows : List (List Value)). HoldsRows (join_shape_of plan right) rows kept.rights events) kept.lefts_read.1 held)))
    kept.kept

-- where the bytes of both inputs are told, pages as long as what the query must keep were laid
pub kept_is_laid : (plan : Query) (page : ℕ) (lefts rights : Option (List ℕ)) (start now : Option (List Entry)) → IsRunnable plan → KeptRows plan page lefts rights start now → LaysSpill plan (both_told lefts rights) start now
kept_is_laid plan page None rights start now runs kept = tt
kept_is_laid plan page (Some left) None start now runs kept = tt
kept_is_laid plan page (Some left) (Some right) start now runs kept = lays_with plan.right plan page (record { left = left; right = right }) start now refl runs kept
