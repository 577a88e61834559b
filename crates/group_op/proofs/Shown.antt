-- No more rows stand in partitions while the top one is read.
use Rattle.std.proofs.Common.{◌≡◌, ◌∙◌, inl, ℕ, suc, ◌+◌, ◌*◌, ◌<◌, ◌≤◌, Bool, true, false, List, [], ◌++◌, length, length-append, ap, sym, subst, arith, append-nil, reverse}
use Rattle.std.specs.List.{concat}
use Rattle.store_api.specs.Holdings.{Holdings}
use Rattle.store_api.specs.Signs.{Signs}
use Rattle.store_api.specs.declared.shapes.Shape.{Shape}
use Rattle.tuple_stream.specs.FamilyCalls.{ReadsIn, shares}
use Rattle.bucket_table.specs.Tables.{Table}
use Rattle.partition_stack.specs.Stack.{IsPlaced, Stack, over}
use Rattle.group_op.specs.Finishing.{HasRead, IsRead}
use Rattle.group_op.specs.Held.{State, rows_of, state}
use Rattle.group_op.specs.Putting.{HasFlushed}
use Rattle.group_op.specs.Stored.{dealt}
use Rattle.group_op.specs.Wanting.{AreNoMore, ShowNoMore, StandNoMore, rows_with}
use Rattle.group_op.proofs.Fewer.{concat_both, no_more_all, no_more_back, no_more_read, no_more_shares, no_more_swapped, no_more_then, shares_last}

-- how many partitions there are while one is read
pub read_long : (d : Bool) (at level : ℕ) (was p : Stack) → IsRead d at level was p → (level < 16) → IsPlaced at level → (m : ℕ) × (length p.streams ≡ at + suc m) × (length p.streams ≤ 272)
read_long false at level was p place deep placed =
    let many = place.0 in
    let low = placed.low in
    let wide : 17 * level ≤ 17 * 15 = omega (arith, deep) in
    (0, omega (arith, many), omega (arith, many, low, wide))
read_long true at level was p place deep placed =
    let many = place.0.sixteen in
    let low = place.0.low in
    (16, omega (arith, many), omega (arith, many, low))

module _ (shape : Shape) (at level : ℕ) (d : Bool) (rows : ℕ → List (List ℕ)) (some rest : List (List ℕ)) (a : State) (read : HasRead shape at level d rows some rest a) (n m : ℕ) (is : n ≡ at + suc m) where
  -- those that stand there, and those of the table
  read_rows : AreNoMore (rows_of a.table ++ shares n read.now) (shares at rows ++ (some ++ rest))
  read_rows =
      let stand = no_more_read shape level at n m rows read.now rest read.gone is read.below read.here read.above in
      let few = stand.fewer in
      let light = stand.lighter in
      let fewer = read.fewer in
      let lighter = read.lighter in
      let a0 = length-append (rows_of a.table) (shares n read.now) in
      let a1 = length-append (shares at rows) (some ++ rest) in
      let a2 = length-append some rest in
      let a3 = length-append (shares at rows) (rest ++ read.gone) in
      let a4 = length-append rest read.gone in
      let b0 = concat_both (rows_of a.table) (shares n read.now) in
      let b1 = concat_both (shares at rows) (some ++ rest) in
      let b2 = concat_both some rest in
      let b3 = concat_both (shares at rows) (rest ++ read.gone) in
      let b4 = concat_both rest read.gone in
      record { fewer = omega (arith, few, fewer, a0, a1, a2, a3, a4); lighter = omega (arith, light, lighter, b0, b1, b2, b3, b4) }

  -- and those alone
  read_stand : AreNoMore (shares n read.now) (shares at rows ++ (some ++ rest))
  read_stand =
      let both = read_rows in
      let few = both.fewer in
      let light = both.lighter in
      let all = length-append (rows_of a.table) (shares n read.now) in
      let sum = concat_both (rows_of a.table) (shares n read.now) in
      record { fewer = omega (arith, few, all); lighter = omega (arith, light, sum) }

-- nothing more was asked of the store
pub show_read : (shape : Shape) (at level : ℕ) (d : Bool) (rows : ℕ → List (List ℕ)) (some rest : List (List ℕ)) (a : State) (was : Stack) → HasRead shape at level d rows some rest a → IsRead d at level was a.parts → level < 16 → IsPlaced at level
    → ShowNoMore (shares at rows ++ (some ++ rest)) a
show_read shape at level d rows some rest a was read place deep placed =
    let long = read_long d at level was a.parts place deep placed in
    record {
      many = long.2;
      rows = read.now;
      shows = read.shows;
      no_more = read_stand shape at level d rows some rest a read (length a.parts.streams) long.0 long.1;
    }

-- a row of the table was refused
pub show_refused : (shape : Shape) (at level : ℕ) (d : Bool) (rows : ℕ → List (List ℕ)) (some rest : List (List ℕ)) (a b : State) (m : ℕ) → HasRead shape at level d rows some rest a → length a.parts.streams ≡ at + suc m → a.held.told ≡ true → StandNoMore a b
    → ShowNoMore (shares at rows ++ (some ++ rest)) b
show_refused shape at level d rows some rest a b m read long told stand =
    let shown = stand.show read.now (inl told) read.shows in
    record {
      many = shown.many;
      rows = shown.rows;
      shows = shown.shows;
      no_more = no_more_then (shares (length b.parts.streams) shown.rows) (rows_with a read.now) (shares at rows ++ (some ++ rest)) shown.no_more (read_rows shape at level d rows some rest a read (length a.parts.streams) m long);
    }

-- more is allowed
pub show_more : (some most : List (List ℕ)) (b : State) → AreNoMore some most → ShowNoMore some b → ShowNoMore most b
show_more some most b less show = record { many = show.many; rows = show.rows; shows = show.shows; no_more = no_more_then (shares (length b.parts.streams) show.rows) some most show.no_more less }

-- the first rows of the top partition, and what is behind them
pub rows_read : (at : ℕ) (rows : ℕ → List (List ℕ)) (some rest more : List (List ℕ)) → rows at ≡ some ++ (more ++ rest) → AreNoMore (shares at rows ++ (some ++ rest)) (shares (at + 1) rows)
rows_read at rows some rest more split =
    let last = shares_last at rows ∙ ap (λ (rs : List (List ℕ)). shares at rows ++ rs) split in
    let a0 = ap length last in
    let a1 = length-append (shares at rows) (some ++ (more ++ rest)) in
    let a2 = length-append some (more ++ rest) in
    let a3 = length-append more rest in
    let a4 = length-append (shares at rows) (some ++ rest) in
    let a5 = length-append some rest in
    let b0 = ap (λ (rs : List (List ℕ)). length (concat rs)) last in
    let b1 = concat_both (shares at rows) (some ++ (more ++ rest)) in
    let b2 = concat_both some (more ++ rest) in
    let b3 = concat_both more rest in
    let b4 = concat_both (shares at rows) (some ++ rest) in
    let b5 = concat_both some rest in
    record { fewer = omega (arith, a0, a1, a2, a3, a4, a5); lighter = omega (arith, b0, b1, b2, b3, b4, b5) }

-- a row could not be taken out
pub show_unspent : (shape : Shape) (t at level : ℕ) (d : Bool) (rows : ℕ → List (List ℕ)) (some rest : List (List ℕ)) (table : Table) (p q : Stack) (old new : Holdings) (before after : Signs) (was : Stack) → HasRead shape at level d rows some rest (state table p old before) → IsRead d at level was p
    → level < 16 → IsPlaced at level → old.told ≡ true → rows at ≡ some ++ rest → ReadsIn t (over p old before) (over q new after) → ShowNoMore (shares (at + 1) rows) (state table q new after)
show_unspent shape t at level d rows some rest table p q old new before after was read place deep placed told split reads =
    let long = read_long d at level was p place deep placed in
    let same = reads.steps.long in
    let low = long.2 in
    record {
      many = omega (arith, same, low);
      rows = read.now;
      shows = reads.rows read.now told read.shows;
      no_more =
          no_more_then (shares (length q.streams) read.now) (shares at rows ++ (some ++ rest)) (shares (at + 1) rows)
          (read_stand shape at level d rows some rest (state table p old before) read (length q.streams) long.0 (same ∙ long.1))
          (rows_read at rows some rest [] split);
    }

-- all rows of the table went to partitions
pub stand_flushed : (t : ℕ) (shape : Shape) (level base : ℕ) (a b : State) → length a.parts.streams ≤ 272 → HasFlushed t shape level base a b → StandNoMore a b
stand_flushed t shape level base a b few flushed =
    record {
      whole = flushed.feeds.whole;
      show = λ these sure shows. record {
        many = let long = flushed.feeds.steps.long in omega (arith, few, long);
        rows = λ i. these i ++ dealt shape level base (reverse (rows_of a.table)) i;
        shows = flushed.feeds.rows these sure shows;
        no_more =
            subst (λ (m : ℕ). AreNoMore (shares m (λ i. these i ++ dealt shape level base (reverse (rows_of a.table)) i)) (rows_with a these)) (sym flushed.feeds.steps.long)
            (no_more_then (shares (length a.parts.streams) (λ i. these i ++ dealt shape level base (reverse (rows_of a.table)) i)) (shares (length a.parts.streams) these ++ rows_of a.table) (rows_with a these)
            (no_more_shares (length a.parts.streams) these (dealt shape level base (reverse (rows_of a.table))) (rows_of a.table)
            (no_more_then (shares (length a.parts.streams) (dealt shape level base (reverse (rows_of a.table)))) (reverse (rows_of a.table)) (rows_of a.table) (no_more_all shape level base (length a.parts.streams) (reverse (rows_of a.table))) (no_more_back (rows_of a.table))))
            (no_more_swapped (shares (length a.parts.streams) these) (rows_of a.table)));
      };
    }

-- the rows of the top partition, all of which were read, and of the table are in partitions or were refused
pub show_flushed : (shape : Shape) (at level : ℕ) (rows : ℕ → List (List ℕ)) (a b : State) (was : Stack) → HasRead shape at level true rows (rows at) [] a → IsRead true at level was a.parts → a.held.told ≡ true → StandNoMore a b → ShowNoMore (shares (at + 1) rows) b
show_flushed shape at level rows a b was read place told stand =
    show_more (shares at rows ++ (rows at ++ [])) (shares (at + 1) rows) b (rows_read at rows (rows at) [] [] (sym (append-nil (rows at))))
    (show_refused shape at level true rows (rows at) [] a b 16 read (let sixteen = place.0.sixteen in omega (arith, sixteen)) told stand)
