-- A query that keeps the rules of a plan is one that runs.
use Rattle.std.proofs.Common.{◌≡◌, ◌≢◌, ◌∙◌, ◌⊎◌, ◌<◌, ◌≤◌, ◌*◌, ◌/◌, ◌%◌, ◌+◌, ◌-◌, ◌^◌, inl, inr, ℕ, zero, suc, true, List, [], ◌∷◌, Option, Some, None, All, IsSomeAnd, false, IfErr, Result, Err, codes, count_ones, length, refl, sym, subst, ap, arith, lit<}
use Rattle.std.specs.Prelude.{◌==◌, IfSome, not, option_map}
use Rattle.std.specs.List.{slice_get}
use Rattle.std.specs.Int.{IsPowerOfTwo, is_power_of_two}
use Rattle.std.proofs.Math.Nat.{pow-le-pow_right, pow-suc}
use Rattle.std.proofs.lemmas.Bool.{cases_lt, false≢true, ne_eqb}
use Rattle.std.proofs.lemmas.Bool.Decides.{eqb_tells}
use Rattle.std.proofs.lemmas.List.Elements.{All-append, All-cons, All-head, All-nil, All-tail, All-weaker}
use Rattle.std.proofs.lemmas.Nat.{ones_le_self, zero_from_ones}
use lib.Count.{ones_step}
use Rattle.block_arena.specs.Blocks.{IsBlockLen}
use Rattle.row_codec.specs.Row.{kind_of}
use Rattle.row_codec.specs.declared.values.Agg.{Agg}
use Rattle.row_codec.specs.declared.values.Agg.TheVariants.{Count, Sum, Min, Max}
use Rattle.row_codec.specs.declared.values.Column.{Column}
use Rattle.row_codec.specs.declared.values.Kind.{Kind}
use Rattle.row_codec.specs.declared.values.Kind.TheVariants.{Int, Wide}
use Rattle.store_api.specs.Conditions.{IsBlockCount}
use Rattle.store_api.specs.Shapes.{IsJoinShape, IsKeyColumn, IsOverInts, IsShape}
use Rattle.query_plan.specs.Columns.{behind, with_front}
use Rattle.query_plan.specs.Rules.{HasKind, IsPair, IsPowerWithin, KeepsQuery, KeepsSide, columns_of_side, columns_over, row_columns_of}
use Rattle.query_plan.specs.Rules.{IsOverInts as IsOver}
use Rattle.query_plan.specs.Sizes.{groups, joins}
use Rattle.query_plan.specs.declared.plan.Query.{Query}
use Rattle.query_plan.specs.declared.plan.SidePlan.{SidePlan}
use Rattle.query_run.specs.Plans.{IsAbout, IsRunnable, IsSide, join_shape_of, joined_columns, kinds_of_columns, row_columns, shape_of}

-- ---- powers of two

-- one bit is set
one-bit : (d n : ℕ) → n ≤ d → count_ones n ≡ 1 → IsPowerOfTwo n
one-bit zero n h e = let few = ones_le_self n in absurd (omega (arith, few, h, e))
one-bit (suc d) n h e =
    let s = ones_step n in
    elim (cases_lt 0 (n % 2)) [
      | inl odd ↦ (let none : n / 2 ≡ 0 = zero_from_ones (n / 2) (omega (arith, s, e, odd)) in (0, omega (arith, none, odd)))
      | inr even ↦ (let half = one-bit d (n / 2) (omega (arith, h)) (omega (arith, s, e, even)) in
          let next : 2 ^ suc half.0 ≡ 2 ^ half.0 * 2 = pow-suc 2 half.0 in
          let is = half.1 in
          (suc half.0, omega (arith, is, even, next)))
    ]

power : (n : ℕ) → is_power_of_two n ≡ true → IsPowerOfTwo n
power n is =
    elim (eqb_tells (count_ones n) 1) [
      | inl one ↦ one-bit n n (omega arith) one.1
      | inr other ↦ absurd (false≢true (sym other.0 ∙ is))
    ]

-- the exponent is as small as its power
exponent : (most k n : ℕ) → n ≡ 2 ^ k → n < 2 ^ suc most → k ≤ most
exponent most k n is less =
    elim (cases_lt most k) [
      | inl more ↦ (let long : 2 ^ suc most ≤ 2 ^ k = pow-le-pow_right (lit< tt) more in absurd (omega (arith, is, less, long)))
      | inr small ↦ small
    ]

count-of : (k : ℕ) → k ≤ 8 → IsBlockCount (2 ^ k)
count-of zero h = refl
count-of (suc zero) h = refl
count-of (suc (suc zero)) h = refl
count-of (suc (suc (suc zero))) h = refl
count-of (suc (suc (suc (suc zero)))) h = refl
count-of (suc (suc (suc (suc (suc zero))))) h = refl
count-of (suc (suc (suc (suc (suc (suc zero)))))) h = refl
count-of (suc (suc (suc (suc (suc (suc (suc zero))))))) h = refl
count-of (suc (suc (suc (suc (suc (suc (suc (suc zero)))))))) h = refl
count-of (suc (suc (suc (suc (suc (suc (suc (suc (suc k))))))))) h = absurd (omega (arith, h))

pub block_count : (n : ℕ) → IsPowerWithin 1 256 n → IsBlockCount n
block_count n is =
    let p = power n is.1 in
    let most = is.0.1 in
    subst (λ (m : ℕ). IsBlockCount m) (sym p.1) (count-of p.0 (exponent 8 p.0 n p.1 (let up : 2 ^ 9 ≡ 512 = refl in omega (arith, most, up))))

len-of : (k : ℕ) → k ≤ 10 → IsBlockLen (2 ^ (6 + k))
len-of zero h = refl
len-of (suc zero) h = refl
len-of (suc (suc zero)) h = refl
len-of (suc (suc (suc zero))) h = refl
len-of (suc (suc (suc (suc zero)))) h = refl
len-of (suc (suc (suc (suc (suc zero))))) h = refl
len-of (suc (suc (suc (suc (suc (suc zero)))))) h = refl
len-of (suc (suc (suc (suc (suc (suc (suc zero))))))) h = refl
len-of (suc (suc (suc (suc (suc (suc (suc (suc zero)))))))) h = refl
len-of (suc (suc (suc (suc (suc (suc (suc (suc (suc zero))))))))) h = refl
len-of (suc (suc (suc (suc (suc (suc (suc (suc (suc (suc zero)))))))))) h = refl
len-of (suc (suc (suc (suc (suc (suc (suc (suc (suc (suc (suc k))))))))))) h = absurd (omega (arith, h))

some-exponent : (k n : ℕ) → n ≡ 2 ^ k → 64 ≤ n → 6 ≤ k
some-exponent k n is more =
    elim (cases_lt k 6) [
      | inl less ↦ (let short : 2 ^ suc k ≤ 2 ^ 6 = pow-le-pow_right (lit< tt) less in
          let next : 2 ^ suc k ≡ 2 ^ k * 2 = pow-suc 2 k in
          let up : 2 ^ 6 ≡ 64 = refl in absurd (omega (arith, is, more, short, next, up)))
      | inr enough ↦ enough
    ]

pub block_len_of : (n : ℕ) → IsPowerWithin 64 65536 n → IsBlockLen n
block_len_of n is =
    let p = power n is.1 in
    let least = is.0.0 in
    let most = is.0.1 in
    let low : 6 ≤ p.0 = some-exponent p.0 n p.1 least in
    let high : p.0 ≤ 16 = exponent 16 p.0 n p.1 (let up : 2 ^ 17 ≡ 131072 = refl in omega (arith, most, up)) in
    let from : 6 + (p.0 - 6) ≡ p.0 = omega (arith, low) in
    subst (λ (m : ℕ). IsBlockLen m) (ap (λ (k : ℕ). 2 ^ k) from ∙ sym p.1) (len-of (p.0 - 6) (omega (arith, high)))

-- ---- columns

abbrev IsNarrow : Column → Type 0
IsNarrow column = column.kind ≢ Wide

about : (found : Option Column) (k : Kind) → IsSomeAnd found (λ column. column.kind ≡ k) → IsSomeAnd found (λ column. k ≡ column.kind)
about None k is = is
about (Some column) k is = sym is

side_is : (side : SidePlan) → KeepsSide side → IsSide side
side_is side keeps =
    let many = keeps.columns.0 in
    record {
      some = omega (arith, many);
      few = keeps.columns.1;
      narrow = keeps.kinds;
      preds = All-weaker _ (IsAbout side.columns)
          (λ pred is. about (slice_get side.columns pred.column) (kind_of pred.value) is) side.preds keeps.preds;
    }

key-at : (columns : List Column) (place : ℕ) → place < length columns → All IsNarrow columns → IsKeyColumn (kinds_of_columns columns) place
key-at [] place less narrow = absurd (omega (arith, less))
key-at (column ∷ columns) zero less narrow = (column.kind, refl, All-head IsNarrow column columns narrow)
key-at (column ∷ columns) (suc place) less narrow = key-at columns place (omega (arith, less)) (All-tail IsNarrow column columns narrow)

key-of : (columns : List Column) (place : ℕ) (k : Kind) → HasKind columns place k → All IsNarrow columns → IsKeyColumn (kinds_of_columns columns) place
key-of [] place k is narrow = absurd is
key-of (column ∷ columns) zero k is narrow = (column.kind, refl, All-head IsNarrow column columns narrow)
key-of (column ∷ columns) (suc place) k is narrow = key-of columns place k is (All-tail IsNarrow column columns narrow)

int-at : (columns : List Column) (place : ℕ) → HasKind columns place Int → slice_get (kinds_of_columns columns) place ≡ Some Int
int-at [] place is = absurd is
int-at (column ∷ columns) zero is = ap (λ (k : Kind). Some k) is
int-at (column ∷ columns) (suc place) is = int-at columns place is

over-ints : (columns : List Column) (agg : Agg) → IsOver columns agg → IsOverInts (kinds_of_columns columns) agg
over-ints columns Count is = tt
over-ints columns (Sum place) is = int-at columns place is
over-ints columns (Min place) is = int-at columns place is
over-ints columns (Max place) is = int-at columns place is

some-kinds : (columns : List Column) → 1 ≤ length columns → 0 < length (kinds_of_columns columns)
some-kinds [] some = absurd (omega (arith, some))
some-kinds (column ∷ columns) some = omega arith

-- ---- the row that is grouped

narrow-behind : (front : List ℕ) (columns : List Column) → All IsNarrow columns → All IsNarrow (behind front columns)
narrow-behind front [] narrow = All-nil IsNarrow
narrow-behind front (column ∷ columns) narrow =
    All-cons IsNarrow (with_front front column) (behind front columns) (All-head IsNarrow column columns narrow) (narrow-behind front columns (All-tail IsNarrow column columns narrow))

narrow-row : (left : List Column) (right : Option SidePlan) → All IsNarrow left → IfSome right KeepsSide → All IsNarrow (joined_columns left right)
narrow-row left None narrow keeps = narrow
narrow-row left (Some right) narrow keeps =
    All-append IsNarrow (behind (codes "left.") left) (behind (codes "right.") right.columns) (narrow-behind (codes "left.") left narrow) (narrow-behind (codes "right.") right.columns keeps.kinds)

same-columns : (left : List Column) (right : Option SidePlan) → columns_over left (option_map (λ side. side.columns) right) ≡ joined_columns left right
same-columns left None = refl
same-columns left (Some right) = refl

-- ---- whether a query groups

some-groups : (n : ℕ) → 0 < n → not (n == 0) ≡ true
some-groups zero some = absurd (omega (arith, some))
some-groups (suc n) some = rw (ne_eqb (suc n) 0 (λ same. cc)) refl

groups-some : (n : ℕ) → not (n == 0) ≡ true → 0 < n
groups-some n is =
    elim (eqb_tells n 0) [
      | inl none ↦ (let never : not (n == 0) ≡ false = rw none.0 refl in absurd (false≢true (sym never ∙ is)))
      | inr some ↦ (let apart = some.1 in omega (arith, apart))
    ]

no-groups : (keys : List ℕ) → not (length keys == 0) ≡ false → keys ≡ []
no-groups [] none = refl
no-groups (key ∷ keys) none = let some = some-groups (length (key ∷ keys)) (omega arith) in absurd (false≢true (sym none ∙ some))

-- ---- the query

does-some : (query : Query) → KeepsQuery query → (right : Option SidePlan) → query.right ≡ right → (groups query ≡ true) ⊎ (joins query ≡ true)
does-some query keeps None is = let many = keeps.groups.1 (rw is refl) in inl (some-groups (length query.group) (omega (arith, many)))
does-some query keeps (Some right) is = inr (rw is refl)

right-is : (right : Option SidePlan) → IfSome right KeepsSide → IfSome right IsSide
right-is None keeps = tt
right-is (Some right) keeps = side_is right keeps

join-is : (query : Query) (right : Option SidePlan) → KeepsSide query.left → IfSome right KeepsSide → All (IsPair query.left.columns (columns_of_side right)) query.on
    → IfSome right (λ side. IsJoinShape (join_shape_of query side))
join-is query None keeps_left keeps pairs = tt
join-is query (Some right) keeps_left keeps pairs = record {
  left = some-kinds query.left.columns keeps_left.columns.0;
  right = some-kinds right.columns keeps.columns.0;
  on = All-weaker (IsPair query.left.columns right.columns) (λ pair. IsKeyColumn (kinds_of_columns query.left.columns) pair.0 × IsKeyColumn (kinds_of_columns right.columns) pair.1)
      (λ pair is. (key-of query.left.columns pair.0 is.0 is.1 keeps_left.kinds, key-of right.columns pair.1 is.0 is.2 keeps.kinds)) query.on pairs;
}

shape-is : (query : Query) → KeepsQuery query → groups query ≡ true → IsShape (shape_of query)
shape-is query keeps is =
    let same : row_columns_of query ≡ row_columns query = same-columns query.left.columns query.right in
    let narrow : All IsNarrow (row_columns query) = narrow-row query.left.columns query.right keeps.left.kinds keeps.right in
    record {
      some = groups-some (length query.group) is;
      distinct = keeps.distinct;
      keys = All-weaker (λ (place : ℕ). place < length (row_columns query)) (IsKeyColumn (kinds_of_columns (row_columns query)))
          (λ place less. key-at (row_columns query) place less narrow) query.group
          (subst (λ (columns : List Column). All (λ (place : ℕ). place < length columns) query.group) same keeps.inside);
      aggs = All-weaker (IsOver (row_columns query)) (IsOverInts (kinds_of_columns (row_columns query))) (over-ints (row_columns query)) query.aggs
          (subst (λ (columns : List Column). All (IsOver columns) query.aggs) same keeps.aggs);
    }

pub runnable : (query : Query) → KeepsQuery query → IsRunnable query
runnable query keeps = record {
  paged = block_count query.page_blocks keeps.page_blocks;
  left = side_is query.left keeps.left;
  right = right-is query.right keeps.right;
  join = join-is query query.right keeps.left keeps.right keeps.pairs;
  does = does-some query keeps query.right refl;
  shape = shape-is query keeps;
  keys = keeps.groups.0;
  aggs = keeps.few;
  none = λ none. keeps.none (no-groups query.group none);
}

pub if_err_is : {T E : Type 0} (result : Result T E) (e : E) (P : E → Type 0) → result ≡ Err e → P e → IfErr result P
if_err_is result e P is holds = subst (λ r. IfErr r P) (sym is) holds
