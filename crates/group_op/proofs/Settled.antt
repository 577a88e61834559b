-- The rows of a table went to the sixteen partitions of the first level.
use Rattle.std.proofs.Common.{◌≡◌, ◌∙◌, inl, ℕ, ◌==◌, List, ◌++◌, length, replicate, reverse, Some, Result, Ok, Err, IfErr, ap, sym, subst, arith}
use Rattle.std.specs.Prelude.{All, slice_get}
use Rattle.std.specs.List.Sorted.{IsPermutation}
use Rattle.std.proofs.lemmas.List.{length-append, length-replicate, length-reverse, map-append}
use Rattle.std.proofs.lemmas.List.Elements.{All-append, All-filter}
use Rattle.std.proofs.lemmas.List.Sorted.{IsPermutation-append_comm, IsPermutation-append_left, IsPermutation-map, IsPermutation-reverse, IsPermutation-sym, IsPermutation-trans, length_permutation}
use Rattle.std.proofs.lemmas.Option.{slice_get_within}
use Rattle.reservation_tree.specs.declared.errors.PoolErr.{PoolErr}
use Rattle.row_codec.specs.Order.{path_order}
use Rattle.store_api.specs.Holdings.{Holdings}
use Rattle.store_api.specs.Signs.{Grows, Signs, WasAnswered}
use Rattle.store_api.specs.declared.shapes.Shape.{Shape}
use Rattle.store_api.proofs.Answered.{answered_before}
use Rattle.tuple_stream.specs.FamilyCalls.{RestsSome, shares}
use Rattle.bucket_table.specs.Tables.{Table}
use Rattle.partition_stack.specs.Stack.{Stack, over}
use Rattle.partition_stack.proofs.ListPlaces.{of_replicate}
use Rattle.partition_stack.proofs.Owing.{owed_first}
use Rattle.group_rows.specs.Partials.{combined_of}
use Rattle.group_rows.proofs.Paths.{path_is_order}
use Rattle.group_rows.proofs.Tables.{any_order}
use Rattle.group_op.specs.Finished.{HasSettled, ShowsFirst}
use Rattle.group_op.specs.Finishing.{IsPart, Serves, said_down}
use Rattle.group_op.specs.Held.{AreEntries, State, rows_of, state}
use Rattle.group_op.specs.Putting.{HasFlushed, Works}
use Rattle.group_op.specs.Stored.{IsPartialRow, dealt, grouping_of, partial_at, partials_at, place_of}
use Rattle.group_op.specs.Wanting.{AreNoMore}
use Rattle.group_op.proofs.Divided.{formed_back}
use Rattle.group_op.proofs.Dividing.{more_shares}
use Rattle.group_op.proofs.Kept.{placed_there}
use Rattle.group_op.proofs.Sixteen.{down_first, parts_first}
use Rattle.group_op.proofs.Fewer.{no_more_moved}

-- the same rows in another order have the same groups
pub same_groups_of : (shape : Shape) (xs ys : List (List ℕ)) → IsPermutation xs ys → combined_of (grouping_of shape) (partials_at shape xs) ≡ combined_of (grouping_of shape) (partials_at shape ys)
same_groups_of shape xs ys moved = sym (any_order path_order path_is_order (grouping_of shape) (partials_at shape xs) (partials_at shape ys) (IsPermutation-map (partial_at shape) xs ys moved))

module _ (t : ℕ) (shape : Shape) (len : ℕ) (rows : ℕ → List (List ℕ)) (a : State) (table : Table) (p q : Stack) (h k : Holdings) (s r : Signs)
    (shows : ShowsFirst shape rows a) (sixteen : length a.parts.streams ≡ 16) (first : a.parts.levels ≡ replicate 16 1) (entries : AreEntries shape len a.table)
    (flushed : HasFlushed t shape 0 0 a (state table p h s)) (works : Works t shape a (state table p h s)) (n : ℕ) (rests : RestsSome t n (over p h s) (over q k r)) (levels : q.levels ≡ p.levels) where
  abbrev gone : List (List ℕ)
  gone = reverse (rows_of a.table)

  abbrev left : ℕ → List (List ℕ)
  left i = rows i ++ dealt shape 0 0 gone i

  placed : (i : ℕ) → All (λ row. place_of shape 0 0 row ≡ i) (left i)
  placed i = All-append (λ row. place_of shape 0 0 row ≡ i) (rows i) (dealt shape 0 0 gone i) (shows.placed i) (placed_there shape i gone)

  formed : (i : ℕ) → All (IsPartialRow shape) (left i)
  formed i = All-append (IsPartialRow shape) (rows i) (dealt shape 0 0 gone i) (shows.formed i) (All-filter (λ row. place_of shape 0 0 row == i) (IsPartialRow shape) gone (formed_back shape len a.table entries))

  levels_now : q.levels ≡ replicate 16 1
  levels_now = levels ∙ works.levels ∙ first

  many : length q.streams ≡ 16
  many = let long = rests.steps.long in let kept = works.many in omega (arith, long, kept, sixteen)

  pub has_settled : HasSettled shape rows a (state table q k r)
  has_settled =
      record {
        left = left;
        stacked = record {
          told = rests.steps.touches.told ∙ flushed.feeds.steps.touches.told ∙ shows.told;
          shows = rests.rows left (flushed.feeds.rows rows (inl shows.told) shows.shows);
          levelled = ap length levels_now ∙ sym many;
          parts = λ i l there.
              let here : slice_get {X = ℕ} (replicate 16 1) i ≡ Some l = ap (λ (ls : List ℕ). slice_get ls i) (sym levels_now) ∙ there in
              let one : l ≡ 1 = of_replicate {X = ℕ} 16 1 i l here in
              let inside = slice_get_within {A = ℕ} (replicate 16 1) i l here in
              let long = length-replicate {A = ℕ} 16 1 in
              subst (λ (x : ℕ). IsPart shape x (left i)) (sym one) (parts_first shape left placed formed i (omega (arith, inside, long)));
        };
        same =
            ap (combined_of (grouping_of shape)) (sym (map-append (partial_at shape) (rows_of a.table) (shares 16 rows)))
            ∙ same_groups_of shape (rows_of a.table ++ shares 16 rows) (shares 16 rows ++ gone)
            (IsPermutation-trans (rows_of a.table ++ shares 16 rows) (gone ++ shares 16 rows) (shares 16 rows ++ gone)
            (IsPermutation-append_left (shares 16 rows) (rows_of a.table) gone (IsPermutation-reverse (rows_of a.table))) (IsPermutation-append_comm gone (shares 16 rows)))
            ∙ sym (same_groups_of shape (shares 16 left) (shares 16 rows ++ gone) (more_shares shape 0 rows gone))
            ∙ sym (ap (λ (x : ℕ). said_down shape x left) many ∙ down_first shape left placed);
        few =
            let owes = owed_first q.levels left levels_now in
            let moved = length_permutation (shares 16 left) (shares 16 rows ++ gone) (more_shares shape 0 rows gone) in
            let both = length-append (shares 16 rows) gone in
            let back = length-reverse (rows_of a.table) in
            omega (arith, owes, moved, both, back);
        no_more =
            subst (λ (m : ℕ). AreNoMore (shares m left) (rows_of a.table ++ shares 16 rows)) (sym many)
            (no_more_moved (shares 16 left) (rows_of a.table ++ shares 16 rows)
            (IsPermutation-trans (shares 16 left) (shares 16 rows ++ gone) (rows_of a.table ++ shares 16 rows) (more_shares shape 0 rows gone)
            (IsPermutation-trans (shares 16 rows ++ gone) (gone ++ shares 16 rows) (rows_of a.table ++ shares 16 rows) (IsPermutation-append_comm (shares 16 rows) gone)
            (IsPermutation-append_left (shares 16 rows) gone (rows_of a.table) (IsPermutation-sym (rows_of a.table) gone (IsPermutation-reverse (rows_of a.table)))))));
      }

pub answered_later : {X : Type 0} (r : Result X PoolErr) (s0 s1 s2 : Signs) → Grows s0 s1 → IfErr r (λ e. WasAnswered e s1 s2) → IfErr r (λ e. WasAnswered e s0 s2)
answered_later (Ok x) s0 s1 s2 grows came = tt
answered_later (Err e) s0 s1 s2 grows came = answered_before e s0 s1 s2 grows came

pub serves_of : (t : ℕ) (shape : Shape) (a b : State) → Works t shape a b → Serves t shape a b
serves_of t shape a b works = record { held = works.held; entries = works.entries; leaves = works.leaves; blocks = works.blocks; slots = works.slots }
