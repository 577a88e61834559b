-- Rows that say the groups of fed rows are the rows of these groups.
use Rattle.std.proofs.Common.{inl, inr, ◌≡◌, ◌∙◌, ◌<◌, ◌^◌, ℕ, List, [], ◌∷◌, ◌++◌, All, true, Option, Some, None, map, length, sym, ap, ap₂, subst, refl, arith, append-nil, true≢false}
use Rattle.std.specs.Prelude.{flat_map, option_map, slice_get}
use Rattle.std.specs.List.{AllByRecursion, cons_option, list_any}
use Rattle.std.specs.Str.{bytes_eq}
use Rattle.std.proofs.lemmas.Bool.{cases_Bool}
use Rattle.std.proofs.lemmas.List.Elements.{All-cons, All-head, All-nil, All-tail}
use Rattle.std.proofs.lemmas.Option.{same_Some, slice_get-map}
use Rattle.row_codec.specs.declared.values.Agg.{Agg}
use Rattle.row_codec.specs.declared.values.Agg.TheVariants.{Sum}
use Rattle.row_codec.specs.declared.values.Kind.{Kind}
use Rattle.row_codec.specs.declared.values.Value.{Value}
use Rattle.row_codec.specs.declared.values.Value.TheVariants.{Wide}
use Rattle.row_codec.specs.Order.{path_order}
use Rattle.row_codec.specs.Row.{IsValue, kind_of, kinds_of}
use Rattle.row_codec.specs.RowBytes.{key_bytes, key_part, row_bytes, values_in}
use Rattle.row_codec.specs.RowLaws.{IsRow}
use Rattle.row_codec.specs.RowReading.{row_at}
use Rattle.row_codec.proofs.SpelledBack.{row_back}
use Rattle.store_api.specs.Shapes.{IsKeyColumn, IsShape}
use Rattle.store_api.specs.declared.shapes.Shape.{Shape}
use Rattle.tuple_stream.proofs.Chosen.{at_place}
use Rattle.group_rows.specs.Combining.{AreValues}
use Rattle.group_rows.specs.Keyed.{keys_in, with_key}
use Rattle.group_rows.specs.Partials.{Partial, group_in, groups_by}
use Rattle.group_rows.specs.Rows.{HaveKeyValues, IsKeyValue, group_row, partial_in}
use Rattle.group_rows.proofs.Each.{of_each}
use Rattle.group_rows.proofs.Paths.{path_is_order}
use Rattle.group_rows.proofs.RowsBack.{emits}
use Rattle.group_op.specs.Emission.{Emitted, EmittedFront, SayAll, Says}
use Rattle.group_op.specs.Stored.{IsPartialRow, grouping_of, partial_at, partial_kinds, values_at, values_read}
use Rattle.group_op.proofs.Forms.{has_form, head_same, says, tail_same}
use Rattle.group_op.proofs.Heads.{full_keys, key_values}
use Rattle.group_op.proofs.OwnBytes.{field_short}
use Rattle.query_run.specs.FedRows.{AreFed, IsFed}
use Rattle.query_run.specs.Writing.{Begun, HasTaken, HasTakenGroups, HasTakenSome, Written}

-- ---- the key's values of a row that was fed

one_value : (row : List Value) (column : ℕ) (kinds : List Kind) → kinds_of row ≡ kinds → All IsValue row → length (row_bytes row) < 2 ^ 32 → IsKeyColumn kinds column
    → (o : Option Value) (vs : List Value) → slice_get row column ≡ o → All IsKeyValue vs → All IsKeyValue (cons_option o vs)
one_value row column kinds same values short is None vs at rest = rest
one_value row column kinds same values short is (Some v) vs at rest =
    let found : slice_get kinds column ≡ Some (kind_of v) =
    ap (λ (ks : List Kind). slice_get ks column) (sym same) ∙ slice_get-map kind_of row column ∙ ap (option_map kind_of) at in
    let kind_is : is.0 ≡ kind_of v = same_Some is.0 (kind_of v) (sym is.1 ∙ found) in
    All-cons IsKeyValue v vs (record { good = at_place IsValue row column v values at; narrow = λ wide. is.2 (kind_is ∙ wide); short = field_short row column v at short }) rest

some_values : (row : List Value) (kinds : List Kind) → kinds_of row ≡ kinds → All IsValue row → length (row_bytes row) < 2 ^ 32 → (columns : List ℕ) → All (IsKeyColumn kinds) columns
    → All IsKeyValue (values_in columns row)
some_values row kinds same values short [] are = All-nil IsKeyValue
some_values row kinds same values short (c ∷ cs) are =
    one_value row c kinds same values short (All-head (IsKeyColumn kinds) c cs are) (slice_get row c) (values_in cs row) refl (some_values row kinds same values short cs (All-tail (IsKeyColumn kinds) c cs are))

have_values : (shape : Shape) (rows : List (List Value)) → IsShape shape → AreValues rows → AreFed shape.kinds rows → HaveKeyValues (grouping_of shape) rows
have_values shape [] is values fed = All-nil (λ row. All IsKeyValue (values_in shape.keys row))
have_values shape (row ∷ rows) is values fed =
    let first = All-head (IsFed shape.kinds) row rows fed in
    All-cons (λ row. All IsKeyValue (values_in shape.keys row)) row rows
    (some_values row shape.kinds first.kinds_are (All-head (λ row. All IsValue row) row rows values) first.short shape.keys is.keys)
    (have_values shape rows is (All-tail (λ row. All IsValue row) row rows values) (All-tail (IsFed shape.kinds) row rows fed))

-- ---- one group

some_rows : (columns q : List ℕ) (rows : List (List Value)) → list_any (λ r. bytes_eq q (key_bytes columns r)) rows ≡ true → 0 < length (with_key (key_bytes columns) q rows)
some_rows columns q [] is = absurd (true≢false (sym is))
some_rows columns q (row ∷ rows) is = elim (cases_Bool (bytes_eq q (key_bytes columns row))) [
  | inl here ↦ rw here (omega arith)
  | inr off ↦
      let more : list_any (λ r. bytes_eq q (key_bytes columns r)) rows ≡ true = rw off at is in
      rw off (some_rows columns q rows more)
]

-- its bytes read back are the row
reads : (shape : Shape) (row : List Value) → IsRow row → kinds_of row ≡ partial_kinds shape → values_at shape (row_bytes row) ≡ row
unfolding values_at
reads shape row is kinds =
    ap values_read
    (ap (λ (ks : List Kind). row_at ks (row_bytes row)) (sym kinds)
    ∙ ap (row_at (kinds_of row)) (sym (append-nil (row_bytes row)))
    ∙ row_back row [] is)

formed : (shape : Shape) (row : List Value) → IsRow row → kinds_of row ≡ partial_kinds shape → values_at shape (row_bytes row) ≡ row → IsPartialRow shape (row_bytes row)
formed shape row is kinds back = record { is_row = subst IsRow (sym back) is; kinds_are = ap kinds_of back ∙ kinds; spelled = ap row_bytes back }

says_form : (shape : Shape) (bytes : List ℕ) (row : List Value) → values_at shape bytes ≡ row → partial_at shape bytes ≡ partial_in (grouping_of shape) row
unfolding partial_at
says_form shape bytes row back = ap (partial_in (grouping_of shape)) back

told_row : (shape : Shape) (rows : List (List Value)) (q : List ℕ) (row : List Value) → IsShape shape → HaveKeyValues (grouping_of shape) rows → 0 < length (with_key (key_bytes shape.keys) q rows)
    → Says shape (group_in (grouping_of shape) rows q) row → row ≡ group_row (grouping_of shape) rows q
told_row shape rows q row is good some said =
    let back = reads shape row said.is_row said.kinds_are in
    let form = has_form shape (row_bytes row) (formed shape row said.is_row said.kinds_are back) in
    let spells = sym (says shape (row_bytes row) (full_keys shape is) form) ∙ says_form shape (row_bytes row) row back ∙ said.says in
    let key : flat_map key_part form.values ≡ q = ap (λ (p : Partial). p.key) spells in
    let numbers : form.numbers ≡ (group_in (grouping_of shape) rows q).numbers = ap (λ (p : Partial). p.numbers) spells in
    let there : 0 < length (with_key (key_bytes shape.keys) (flat_map key_part form.values) rows) = subst (λ k. 0 < length (with_key (key_bytes shape.keys) k rows)) (sym key) some in
    sym back ∙ form.read ∙ ap (λ ns. form.values ++ map Wide ns) (numbers ∙ ap (λ k. (group_in (grouping_of shape) rows k).numbers) (sym key))
    ∙ emits (grouping_of shape) rows form.values good (key_values shape (row_bytes row) is form) there ∙ ap (group_row (grouping_of shape) rows) key

-- ---- all groups

-- whatever says the group of this key is the row of the group
abbrev Tells : Shape → List (List Value) → List ℕ → Type 0
Tells shape rows q = (row : List Value) → Says shape (group_in (grouping_of shape) rows q) row → row ≡ group_row (grouping_of shape) rows q

all_tell : (shape : Shape) (rows : List (List Value)) → IsShape shape → AreValues rows → AreFed shape.kinds rows → AllByRecursion (Tells shape rows) (keys_in path_order (key_bytes shape.keys) rows)
all_tell shape rows is values fed =
    let good = have_values shape rows is values fed in
    of_each path_order path_is_order (key_bytes shape.keys) (Tells shape rows) rows (λ q there. λ row said. told_row shape rows q row is good (some_rows shape.keys q rows there) said)

told_all : (shape : Shape) (rows : List (List Value)) (ks : List (List ℕ)) (told : List (List Value)) → AllByRecursion (Tells shape rows) ks → SayAll shape (map (group_in (grouping_of shape) rows) ks) told
    → told ≡ map (group_row (grouping_of shape) rows) ks
told_all shape rows [] [] all say = refl
told_all shape rows [] (row ∷ told) all say = absurd say
told_all shape rows (k ∷ ks) [] all say = absurd say
told_all shape rows (k ∷ ks) (row ∷ told) all say = ap₂ (λ (r : List Value) (rs : List (List Value)). r ∷ rs) (all.0 row say.0) (told_all shape rows ks told all.1 say.1)

-- the first of them
told_some : (shape : Shape) (rows : List (List Value)) (ks : List (List ℕ)) (some rest : List Partial) (told : List (List Value)) → AllByRecursion (Tells shape rows) ks
    → map (group_in (grouping_of shape) rows) ks ≡ some ++ rest → SayAll shape some told → (more : List (List Value)) × (map (group_row (grouping_of shape) rows) ks ≡ told ++ more)
told_some shape rows ks [] rest [] all split say = (map (group_row (grouping_of shape) rows) ks, refl)
told_some shape rows ks [] rest (row ∷ told) all split say = absurd say
told_some shape rows ks (p ∷ some) rest [] all split say = absurd say
told_some shape rows [] (p ∷ some) rest (row ∷ told) all split say = absurd (let long = ap length split in omega (arith, long))
told_some shape rows (k ∷ ks) (p ∷ some) rest (row ∷ told) all split say =
    let first = head_same (group_in (grouping_of shape) rows k) p (map (group_in (grouping_of shape) rows) ks) (some ++ rest) split in
    let behind = told_some shape rows ks some rest told all.1 (tail_same (group_in (grouping_of shape) rows k) p (map (group_in (grouping_of shape) rows) ks) (some ++ rest) split) say.1 in
    let is : row ≡ group_row (grouping_of shape) rows k = all.0 row (subst (λ (g : Partial). Says shape g row) (sym first) say.0) in
    (behind.0, ap₂ (λ (r : List Value) (rs : List (List Value)). r ∷ rs) (sym is) behind.1)

-- ---- what lines that had no row took

module _ (shape : Shape) (rows : List (List Value)) (before : Begun) (name name_old name_new : ℕ) (sums_old sums_new : List Agg) (was now : Written) (is : IsShape shape) (values : AreValues rows) (fed : AreFed shape.kinds rows) (named : name_old ≡ name) (summed : sums_old ≡ map Sum before.columns) (none : HasTaken before [] was) where
  abbrev pub old_took : List (List Value) → Type 0
  old_took took = (name_old ≡ name) × (sums_old ≡ map Sum before.columns) × HasTaken before took was

  abbrev pub new_took : List (List Value) → Type 0
  new_took took = (name_new ≡ name) × (sums_new ≡ map Sum before.columns) × HasTaken before took now

  pub took_groups : Emitted shape old_took new_took (groups_by path_order (grouping_of shape) rows) → HasTakenGroups shape rows before now
  took_groups emitted =
      let told = told_all shape rows (keys_in path_order (key_bytes shape.keys) rows) emitted.rows (all_tell shape rows is values fed) emitted.say in
      (subst new_took told (emitted.came [] (named, summed, none))).2

  -- so it is of rows with the same groups
  pub took_groups_of : (others : List (List Value)) → groups_by path_order (grouping_of shape) others ≡ groups_by path_order (grouping_of shape) rows → Emitted shape old_took new_took (groups_by path_order (grouping_of shape) others) → HasTakenGroups shape rows before now
  took_groups_of others same emitted = took_groups (subst (Emitted shape old_took new_took) same emitted)

  pub took_some : EmittedFront shape old_took new_took (groups_by path_order (grouping_of shape) rows) → HasTakenSome shape rows before now
  took_some front =
      let came = front [] (named, summed, none) in
      let told = told_some shape rows (keys_in path_order (key_bytes shape.keys) rows) came.some came.rest came.rows (all_tell shape rows is values fed) came.split came.say in
      record { some = came.rows; rest = told.0; split = told.1; taken = came.came.2 }

  pub took_some_of : (others : List (List Value)) → groups_by path_order (grouping_of shape) others ≡ groups_by path_order (grouping_of shape) rows → EmittedFront shape old_took new_took (groups_by path_order (grouping_of shape) others) → HasTakenSome shape rows before now
  took_some_of others same front = took_some (subst (EmittedFront shape old_took new_took) same front)
