-- Rows of the top partition are combined, one after the other.
use Rattle.std.proofs.Common.{◌≡◌, ◌∙◌, ℕ, ◌+◌, ◌<◌, ◌==◌, Bool, true, false, List, [], ◌∷◌, ◌++◌, length, length-append, drop, refl, ap, ap₂, sym, subst, inl, arith, append-nil, append_assoc, ne_eqb, eq-eqb}
use Rattle.std.specs.List.Sorted.{IsPermutation}
use Rattle.std.specs.List.{concat}
use Rattle.std.proofs.lemmas.Bool.{false≢true}
use Rattle.std.proofs.lemmas.List.{map-append}
use Rattle.std.proofs.lemmas.List.Elements.{All-append}
use Rattle.std.proofs.lemmas.List.Sorted.{IsPermutation-append_comm, IsPermutation-append_right}
use Rattle.store_api.specs.Holdings.{Holdings}
use Rattle.store_api.specs.Signs.{Signs}
use Rattle.store_api.specs.declared.shapes.Shape.{Shape}
use Rattle.tuple_stream.specs.FamilyCalls.{SpendsIn, with_rows}
use Rattle.tuple_stream.proofs.FamilyWords.{shown_as}
use Rattle.bucket_table.specs.Tables.{Table}
use Rattle.group_rows.specs.Tables.{HaveDistinctKeys}
use Rattle.partition_stack.specs.Stack.{IsStack, Stack, divided, over}
use Rattle.partition_stack.proofs.Coming.{sixteen_come}
use Rattle.group_rows.specs.Partials.{Grouping, Partial}
use Rattle.group_op.specs.Finishing.{HasRead}
use Rattle.group_op.specs.Held.{State, rows_of, state, streams_of}
use Rattle.group_op.specs.Putting.{HasGrown, HasPut}
use Rattle.group_op.specs.Stored.{IsPartialRow, SameGroups, dealt, grouping_of, partial_at, partials_at, place_of}
use Rattle.group_op.proofs.Same.{same_front, same_order, same_trans}
use Rattle.group_op.proofs.Fewer.{concat_both, concat_one}

-- ---- where rows are dealt

-- none goes below the sixteen
none_below : (shape : Shape) (level base i : ℕ) (rows : List (List ℕ)) → i < base → dealt shape level base rows i ≡ []
none_below shape level base i [] below = refl
none_below shape level base i (r ∷ rows) below =
    let apart : (place_of shape level base r == i) ≡ false = ne_eqb (place_of shape level base r) i (λ same. omega (arith, same, below)) in
    rw apart (none_below shape level base i rows below)

dealt_first : (shape : Shape) (level base i : ℕ) (x : List ℕ) (xs ys : List (List ℕ)) (b : Bool) → (place_of shape level base x == i) ≡ b → dealt shape level base (xs ++ ys) i ≡ dealt shape level base xs i ++ dealt shape level base ys i
    → dealt shape level base (x ∷ (xs ++ ys)) i ≡ dealt shape level base (x ∷ xs) i ++ dealt shape level base ys i
dealt_first shape level base i x xs ys true is rest = rw is (ap (λ (zs : List (List ℕ)). x ∷ zs) rest)
dealt_first shape level base i x xs ys false is rest = rw is rest

dealt_both : (shape : Shape) (level base i : ℕ) (xs ys : List (List ℕ)) → dealt shape level base (xs ++ ys) i ≡ dealt shape level base xs i ++ dealt shape level base ys i
dealt_both shape level base i [] ys = refl
dealt_both shape level base i (x ∷ xs) ys = dealt_first shape level base i x xs ys (place_of shape level base x == i) refl (dealt_both shape level base i xs ys)

-- ---- what they say together

module _ (grouping : Grouping) (some a b gone more : List Partial) (r : Partial) where
  together : SameGroups grouping some (a ++ gone) → SameGroups grouping (r ∷ a) (b ++ more) → SameGroups grouping (some ++ r ∷ []) (b ++ (gone ++ more))
  together was put =
      same_trans grouping (some ++ r ∷ []) ((a ++ gone) ++ r ∷ []) (b ++ (gone ++ more)) (same_front grouping some (a ++ gone) (r ∷ []) was)
      (same_trans grouping ((a ++ gone) ++ r ∷ []) ((r ∷ a) ++ gone) (b ++ (gone ++ more)) (same_order grouping ((a ++ gone) ++ r ∷ []) ((r ∷ a) ++ gone) (IsPermutation-append_comm (a ++ gone) (r ∷ [])))
      (same_trans grouping ((r ∷ a) ++ gone) ((b ++ more) ++ gone) (b ++ (gone ++ more)) (same_front grouping (r ∷ a) (b ++ more) gone put)
      (same_order grouping ((b ++ more) ++ gone) (b ++ (gone ++ more))
      (subst (λ zs. IsPermutation zs (b ++ (gone ++ more))) (sym (append_assoc b more gone)) (IsPermutation-append_right b (more ++ gone) (gone ++ more) (IsPermutation-append_comm more gone))))))

module _ (shape : Shape) (at level : ℕ) (d : Bool) (rows : ℕ → List (List ℕ)) (some rest : List (List ℕ)) (row : List ℕ) (a b : State) (read : HasRead shape at level d rows some rest a) where
  -- one more is combined
  pub read_more : a.held.told ≡ true → (put : HasPut shape level (at + 1) row a b) → (d ≡ false → put.gone ≡ []) → HasRead shape at level d rows (some ++ row ∷ []) rest b
  read_more told put none =
      record {
        gone = read.gone ++ put.gone;
        now = λ i. read.now i ++ dealt shape level (at + 1) put.gone i;
        shows = put.deals.rows read.now (inl told) read.shows;
        below = λ i low. ap₂ (λ (x y : List (List ℕ)). x ++ y) (read.below i low) (none_below shape level (at + 1) i put.gone (omega (arith, low))) ∙ append-nil (rows i);
        here = ap₂ (λ (x y : List (List ℕ)). x ++ y) read.here (none_below shape level (at + 1) at put.gone (omega arith)) ∙ append-nil rest;
        above = λ i high. ap (λ (x : List (List ℕ)). x ++ dealt shape level (at + 1) put.gone i) (read.above i high) ∙ sym (dealt_both shape level (at + 1) i read.gone put.gone);
        formed = All-append (IsPartialRow shape) read.gone put.gone read.formed put.formed;
        undivided = λ not. ap₂ (λ (x y : List (List ℕ)). x ++ y) (read.undivided not) (none not);
        same =
            let says : List (List ℕ) → List Partial = partials_at shape in
            subst (λ (xs : List Partial). SameGroups (grouping_of shape) xs (partials_at shape (rows_of b.table ++ (read.gone ++ put.gone)))) (sym (map-append (partial_at shape) some (row ∷ [])))
            (subst (SameGroups (grouping_of shape) (partials_at shape some ++ partial_at shape row ∷ []))
            (sym (map-append (partial_at shape) (rows_of b.table) (read.gone ++ put.gone) ∙ ap (λ (ys : List Partial). partials_at shape (rows_of b.table) ++ ys) (map-append (partial_at shape) read.gone put.gone)))
            (together (grouping_of shape) (partials_at shape some) (partials_at shape (rows_of a.table)) (partials_at shape (rows_of b.table)) (partials_at shape read.gone) (partials_at shape put.gone) (partial_at shape row)
            (subst (SameGroups (grouping_of shape) (partials_at shape some)) (map-append (partial_at shape) (rows_of a.table) read.gone) read.same)
            (subst (SameGroups (grouping_of shape) (partial_at shape row ∷ partials_at shape (rows_of a.table))) (map-append (partial_at shape) (rows_of b.table) put.gone) put.same)));
        distinct = put.distinct read.distinct;
        fewer =
            let was = read.fewer in
            let less = put.fewer in
            let all = length-append read.gone put.gone in
            let one = length-append some (row ∷ []) in
            omega (arith, was, less, all, one);
        lighter =
            let was = read.lighter in
            let less = put.lighter in
            let all = concat_both read.gone put.gone in
            let both = concat_both some (row ∷ []) in
            let one = concat_one row [] in
            omega (arith, was, less, all, both, one);
      }

module _ (shape : Shape) (t at level : ℕ) (d : Bool) (rows : ℕ → List (List ℕ)) (some rest : List (List ℕ)) (a b : State) where
  -- the table grew
  pub read_grown : HasRead shape at level d rows some rest a → a.held.told ≡ true → HasGrown t shape a b → HasRead shape at level d rows some rest b
  read_grown read told grown =
      let same : rows_of b.table ≡ rows_of a.table = grown.rows in
      record {
        gone = read.gone;
        now = read.now;
        shows = shown_as (λ i. read.now i ++ []) read.now (streams_of b) (λ i. append-nil (read.now i)) (grown.deals.rows read.now (inl told) read.shows);
        below = read.below;
        here = read.here;
        above = read.above;
        formed = read.formed;
        undivided = read.undivided;
        same = subst (λ (rs : List (List ℕ)). SameGroups (grouping_of shape) (partials_at shape some) (partials_at shape (rs ++ read.gone))) (sym same) read.same;
        distinct = subst (λ (rs : List (List ℕ)). HaveDistinctKeys (partials_at shape rs)) (sym same) read.distinct;
        fewer = let was = read.fewer in let now = ap length same in omega (arith, was, now);
        lighter = let was = read.lighter in let now = ap (λ (rs : List (List ℕ)). length (concat rs)) same in omega (arith, was, now);
      }

-- ---- the partition is divided

module _ (shape : Shape) (t at level lent : ℕ) (rows : ℕ → List (List ℕ)) (some rest : List (List ℕ)) (table : Table) (p : Stack) (h : Holdings) (signs : Signs) (stack : IsStack p) (top : length p.streams ≡ at + 1) where
  pub read_divided : HasRead shape at level false rows some rest (state table p h signs) → HasRead shape at level true rows some rest (state table (divided at level p) h signs)
  read_divided read =
      let none : read.gone ≡ [] = read.undivided refl in
      record {
        gone = read.gone;
        now = read.now;
        shows = (sixteen_come t lent at level p h signs stack).rows read.now (λ i high. read.above i (omega (arith, high, top)) ∙ ap (λ (g : List (List ℕ)). dealt shape level (at + 1) g i) none) read.shows;
        below = read.below;
        here = read.here;
        above = read.above;
        formed = read.formed;
        undivided = λ is. absurd (false≢true (sym is));
        same = read.same;
        distinct = read.distinct;
        fewer = read.fewer;
        lighter = read.lighter;
      }

-- ---- a row is taken out

module _ (shape : Shape) (t at level : ℕ) (d : Bool) (rows : ℕ → List (List ℕ)) (some rest : List (List ℕ)) (row : List ℕ) (table : Table) (p q : Stack) (old new : Holdings) (before after : Signs) where
  pub read_spent : HasRead shape at level d rows some rest (state table p old before) → old.told ≡ true → SpendsIn t at row (over p old before) (over q new after)
      → (rest ≡ row ∷ drop 1 rest) × HasRead shape at level d rows some (drop 1 rest) (state table q new after)
  read_spent read told spends =
      let first = spends.rows read.now (inl told) read.shows in
      let cut : List (List ℕ) = drop 1 (read.now at) in (
        subst (λ (rs : List (List ℕ)). rs ≡ row ∷ drop 1 rs) read.here first.0,
        record {
          gone = read.gone;
          now = with_rows at (drop 1 (read.now at)) read.now;
          shows = first.1;
          below = λ i low. rw (ne_eqb i at (λ same. omega (arith, same, low))) (read.below i low);
          here = rw (eq-eqb at at refl) (ap (drop 1) read.here);
          above = λ i high. rw (ne_eqb i at (λ same. omega (arith, same, high))) (read.above i high);
          formed = read.formed;
          undivided = read.undivided;
          same = read.same;
          distinct = read.distinct;
          fewer = read.fewer;
          lighter = read.lighter;
        },
      )
