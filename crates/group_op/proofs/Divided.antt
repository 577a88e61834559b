-- The top partition was divided: its rows, and those of the table, are in the sixteen above it.
use Rattle.std.proofs.Common.{◌≡◌, ◌∙◌, inl, inr, ℕ, ◌+◌, ◌-◌, ◌<◌, ◌≤◌, ◌==◌, true, List, [], ◌∷◌, ◌++◌, cond, Bool, length, replicate, reverse, set, Some, refl, ap, ap₂, sym, subst, arith, append-nil, length-append, ne_eqb}
use Rattle.std.specs.Prelude.{All, map, slice_get}
use Rattle.std.specs.List.{concat}
use Rattle.std.proofs.lemmas.Bool.{cases_eq}
use Rattle.std.proofs.lemmas.List.{length-replicate, length-reverse, length-set}
use Rattle.std.proofs.lemmas.List.Elements.{All-append, All-cons, All-head, All-nil, All-tail, filter-append}
use Rattle.std.proofs.lemmas.List.Sorted.{All-permutation, IsPermutation-append_comm, IsPermutation-append_right, IsPermutation-map, IsPermutation-reverse, IsPermutation-trans}
use Rattle.std.proofs.lemmas.Option.{slice_get_within}
use Rattle.store_api.specs.Holdings.{Holdings}
use Rattle.store_api.specs.Signs.{Signs}
use Rattle.store_api.specs.declared.shapes.Shape.{Shape}
use Rattle.tuple_stream.specs.FamilyCalls.{RestsSome, shares}
use Rattle.tuple_stream.proofs.OnePlace.{other}
use Rattle.bucket_table.specs.Tables.{Node, Table}
pub use Rattle.partition_stack.proofs.Weights.{less_divided, less_popped}
use Rattle.partition_stack.specs.Stack.{Stack, over}
use Rattle.partition_stack.proofs.ListPlaces.{front_or_behind, of_replicate}
use Rattle.partition_stack.proofs.Owing.{owed_divided}
use Rattle.partition_stack.proofs.SharedRows.{dealt_few, shares_same}
use Rattle.partition_stack.proofs.Slots.{slots_then}
use Rattle.group_op.specs.Finishing.{HasDivided, HasRead, IsPart, IsRead, Serves, Stacked, said_down}
use Rattle.group_op.specs.Held.{AreEntries, IsEntry, State, rows_of, state, streams_of}
use Rattle.group_op.specs.Putting.{HasFlushed, Works}
use Rattle.group_op.specs.Stored.{IsPartialRow, SameGroups, dealt, grouping_of, partials_at, place_of}
use Rattle.group_op.specs.Wanting.{AreNoMore}
use Rattle.group_op.proofs.Chained.{leaves_then}
use Rattle.group_op.proofs.Same.{same_order, same_trans}
use Rattle.group_op.proofs.Sixteen.{down_divided, part_none, parts_above}
use Rattle.group_op.proofs.Fewer.{concat_both, concat_moved, no_more_read, shares_last}

pub serves_works : (t : ℕ) (shape : Shape) (a b c : State) → Serves t shape a b → Works t shape b c → Serves t shape a c
serves_works t shape a b c serves works =
    record {
      held = works.held;
      entries = works.entries;
      leaves = leaves_then t a b c serves.leaves works.leaves;
      blocks = works.blocks ∙ serves.blocks;
      slots = slots_then a.parts.page_blocks b.parts.page_blocks (streams_of a) (streams_of b) (streams_of c) serves.blocks serves.slots works.slots;
    }

-- none is dealt below the sixteen
pub dealt_low : (shape : Shape) (level base i : ℕ) (rows : List (List ℕ)) → i < base → dealt shape level base rows i ≡ []
dealt_low shape level base i [] low = refl
dealt_low shape level base i (row ∷ rows) low =
    ap₂ (λ (b : Bool) (rs : List (List ℕ)). cond b (row ∷ rs) rs) (ne_eqb (place_of shape level base row) i (λ same. omega (arith, same, low))) (dealt_low shape level base i rows low)

entries_formed : (shape : Shape) (len heads : ℕ) (nodes : List Node) → All (IsEntry shape len heads) nodes → All (IsPartialRow shape) (map (λ n. n.row) nodes)
entries_formed shape len heads [] all = All-nil (IsPartialRow shape)
entries_formed shape len heads (n ∷ nodes) all =
    All-cons (IsPartialRow shape) n.row (map (λ m. m.row) nodes) (All-head (IsEntry shape len heads) n nodes all).row (entries_formed shape len heads nodes (All-tail (IsEntry shape len heads) n nodes all))

pub formed_back : (shape : Shape) (len : ℕ) (table : Table) → AreEntries shape len table → All (IsPartialRow shape) (reverse (rows_of table))
formed_back shape len table entries =
    All-permutation (IsPartialRow shape) (rows_of table) (reverse (rows_of table)) (IsPermutation-reverse (rows_of table)) (entries_formed shape len table.heads table.nodes entries.each)

-- a table's rows behind others, the oldest first
pub table_behind : (shape : Shape) (rows gone : List (List ℕ)) → SameGroups (grouping_of shape) (partials_at shape (rows ++ gone)) (partials_at shape (gone ++ reverse rows))
table_behind shape rows gone =
    same_order (grouping_of shape) (partials_at shape (rows ++ gone)) (partials_at shape (gone ++ reverse rows))
    (IsPermutation-map (λ row. _) (rows ++ gone) (gone ++ reverse rows)
    (IsPermutation-trans (rows ++ gone) (gone ++ rows) (gone ++ reverse rows) (IsPermutation-append_comm rows gone) (IsPermutation-append_right gone rows (reverse rows) (IsPermutation-reverse rows))))

module _ (t : ℕ) (shape : Shape) (at level len : ℕ) (rows : ℕ → List (List ℕ)) (a b : State) (table : Table) (p q : Stack) (h k : Holdings) (s r : Signs)
    (stacked : Stacked shape rows a) (top : length a.parts.streams ≡ at + 1) (there : slice_get a.parts.levels at ≡ Some level) (deep : level < 16)
    (read : HasRead shape at level true rows (rows at) [] b) (fan : IsRead true at level a.parts b.parts) (serves : Serves t shape a b) (entries : AreEntries shape len b.table)
    (flushed : HasFlushed t shape level (at + 1) b (state table p h s)) (works : Works t shape b (state table p h s)) (n : ℕ) (rests : RestsSome t n (over p h s) (over q k r)) (levels : q.levels ≡ p.levels) where
  told_read : b.held.told ≡ true
  told_read = serves.leaves.others.told ∙ stacked.told

  abbrev left : ℕ → List (List ℕ)
  left i = read.now i ++ dealt shape level (at + 1) (reverse (rows_of b.table)) i

  abbrev gone : List (List ℕ)
  gone = read.gone ++ reverse (rows_of b.table)

  left_below : (i : ℕ) → i < at → left i ≡ rows i
  left_below i low = ap₂ (λ (x y : List (List ℕ)). x ++ y) (read.below i low) (dealt_low shape level (at + 1) i (reverse (rows_of b.table)) (omega (arith, low))) ∙ append-nil (rows i)

  left_here : left at ≡ []
  left_here = ap₂ (λ (x y : List (List ℕ)). x ++ y) read.here (dealt_low shape level (at + 1) at (reverse (rows_of b.table)) (omega arith))

  left_above : (i : ℕ) → at < i → left i ≡ dealt shape level (at + 1) gone i
  left_above i high =
      ap (λ (x : List (List ℕ)). x ++ dealt shape level (at + 1) (reverse (rows_of b.table)) i) (read.above i high)
      ∙ sym (filter-append (λ row. place_of shape level (at + 1) row == i) read.gone (reverse (rows_of b.table)))

  same : SameGroups (grouping_of shape) (partials_at shape (rows at)) (partials_at shape gone)
  same =
      same_trans (grouping_of shape) (partials_at shape (rows at)) (partials_at shape (rows_of b.table ++ read.gone)) (partials_at shape gone) read.same
      (table_behind shape (rows_of b.table) read.gone)

  part_here : IsPart shape level (rows at)
  part_here = stacked.parts at level there

  formed : All (IsPartialRow shape) gone
  formed = All-append (IsPartialRow shape) read.gone (reverse (rows_of b.table)) read.formed (formed_back shape len b.table entries)

  levels_now : q.levels ≡ set a.parts.levels at (level + 1) ++ replicate 16 (level + 1)
  levels_now = levels ∙ works.levels ∙ fan.1

  levels_long : length a.parts.levels ≡ at + 1
  levels_long = stacked.levelled ∙ top

  many : length q.streams ≡ at + 17
  many = let long = rests.steps.long in let kept = works.many in let sixteen = fan.0.sixteen in omega (arith, long, kept, sixteen)

  behind_part : (i l m : ℕ) → i ≡ at + 1 + m → m < 16 → l ≡ level + 1 → IsPart shape l (left i)
  behind_part i l m is small deeper =
      subst (λ (x : ℕ). IsPart shape x (left i)) (sym deeper)
      (subst (λ (x : ℕ). IsPart shape (level + 1) (left x)) (sym is)
      (parts_above shape at level rows left gone left_below left_here left_above same part_here deep formed m small))

  parts : (i l : ℕ) → slice_get q.levels i ≡ Some l → IsPart shape l (left i)
  parts i l is =
      elim (front_or_behind (set a.parts.levels at (level + 1)) (replicate 16 (level + 1)) i l (ap (λ (ls : List ℕ). slice_get ls i) (sym levels_now) ∙ is)) [
        | inl front ↦ elim (cases_eq i at) [
          | inl e ↦ subst (λ (x : ℕ). IsPart shape l (left x)) (sym e) (subst (IsPart shape l) (sym left_here) (part_none shape l))
          | inr ne ↦
              let was : slice_get a.parts.levels i ≡ Some l = other a.parts.levels at there (level + 1) i l ne front in
              let inside : i < length a.parts.levels = slice_get_within a.parts.levels i l was in
              subst (IsPart shape l) (sym (left_below i (omega (arith, inside, levels_long, ne)))) (stacked.parts i l was)
        ]
        | inr behind ↦
            let long : length (set a.parts.levels at (level + 1)) ≡ at + 1 = length-set a.parts.levels at (level + 1) ∙ levels_long in
            let one : l ≡ level + 1 = of_replicate 16 (level + 1) (i - length (set a.parts.levels at (level + 1))) l behind.1 in
            let inside = slice_get_within (replicate 16 (level + 1)) (i - length (set a.parts.levels at (level + 1))) l behind.1 in
            let sixteen = length-replicate 16 (level + 1) in
            behind_part i l (i - (at + 1)) (omega (arith, behind.0, long)) (omega (arith, inside, sixteen, long)) one
      ]

  few_above : length (shares 16 (λ i. left (at + 1 + i))) ≤ length (rows at)
  few_above =
      let are = ap length (shares_same 16 (λ i. left (at + 1 + i)) (λ i. dealt shape level (at + 1) gone (at + 1 + i)) (λ i. left_above (at + 1 + i) (omega arith))) in
      let some = dealt_few (place_of shape level (at + 1)) (at + 1) 16 gone in
      let both = length-append read.gone (reverse (rows_of b.table)) in
      let back = length-reverse (rows_of b.table) in
      let fewer = read.fewer in
      omega (arith, are, some, both, back, fewer)

  no_more_left : AreNoMore (shares (length q.streams) left) (shares (at + 1) rows)
  no_more_left =
      let stand : AreNoMore (shares (length q.streams) left) (shares at rows ++ ([] ++ gone)) = no_more_read shape level at (length q.streams) 16 rows left [] gone (omega (arith, many)) left_below left_here left_above in
      let few = stand.fewer in
      let light = stand.lighter in
      let less = read.fewer in
      let lighter = read.lighter in
      let back = length-reverse (rows_of b.table) in
      let turned = concat_moved (rows_of b.table) (reverse (rows_of b.table)) (IsPermutation-reverse (rows_of b.table)) in
      let last = shares_last at rows in
      let a0 = ap length last in
      let a1 = length-append (shares at rows) (rows at) in
      let a2 = length-append (shares at rows) gone in
      let a3 = length-append read.gone (reverse (rows_of b.table)) in
      let b0 = ap (λ (rs : List (List ℕ)). length (concat rs)) last in
      let b1 = concat_both (shares at rows) (rows at) in
      let b2 = concat_both (shares at rows) gone in
      let b3 = concat_both read.gone (reverse (rows_of b.table)) in
      record { fewer = omega (arith, few, less, back, a0, a1, a2, a3); lighter = omega (arith, light, lighter, turned, b0, b1, b2, b3) }

  pub has_divided : HasDivided shape at rows a.parts (state table q k r)
  has_divided =
      record {
        left = left;
        stacked = record {
          told = rests.steps.touches.told ∙ flushed.feeds.steps.touches.told ∙ told_read;
          shows = rests.rows left (flushed.feeds.rows read.now (inl told_read) read.shows);
          levelled =
              let now = ap length levels_now in let push = length-append (set a.parts.levels at (level + 1)) (replicate 16 (level + 1)) in let kept = length-set a.parts.levels at (level + 1) in let sixteen = length-replicate 16 (level + 1) in
              omega (arith, now, push, kept, sixteen, levels_long, many);
          parts = parts;
        };
        same =
            sym (ap (λ (x : ℕ). said_down shape x left) many
            ∙ down_divided shape at level rows left gone left_below left_here left_above same part_here deep);
        deeper = owed_divided a.parts.levels q.levels at level rows left there levels_long deep levels_now left_below left_here few_above;
        no_more = no_more_left;
      }
