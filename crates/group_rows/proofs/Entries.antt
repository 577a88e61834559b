-- An entry whose first numbers have been combined.
use Rattle.std.proofs.Common.{◌≡◌, ℕ, zero, suc, ◌+◌, ◌<◌, List, [], ◌∷◌, length, map, drop, get_or, set, refl, ap, ◌∙◌, arith}
use Rattle.std.specs.Prelude.{ℤ, pos}
use Rattle.row_codec.specs.declared.values.Agg.{Agg}
use Rattle.row_codec.specs.declared.values.Value.{Value}
use Rattle.group_rows.specs.Aggregates.{combined_number, number_at, number_of}
use Rattle.group_rows.specs.Partials.{combined_numbers}

-- the first n are combined, the others as they were
abbrev pub half : ℕ → List Agg → List ℤ → List ℤ → List ℤ
half zero aggs ms ns = ms
half (suc n) [] ms ns = ms
half (suc n) (agg ∷ aggs) [] ns = []
half (suc n) (agg ∷ aggs) (m ∷ ms) [] = m ∷ ms
half (suc n) (agg ∷ aggs) (m ∷ ms) (k ∷ ns) = combined_number agg m k ∷ half n aggs ms ns

pub half_all : (aggs : List Agg) (ms ns : List ℤ) → length ms ≡ length aggs → length ns ≡ length aggs → half (length aggs) aggs ms ns ≡ combined_numbers aggs ms ns
half_all [] [] ns same many = refl
half_all [] (m ∷ ms) ns same many = absurd (omega (arith, same))
half_all (agg ∷ aggs) [] ns same many = refl
half_all (agg ∷ aggs) (m ∷ ms) [] same many = absurd (omega (arith, many))
half_all (agg ∷ aggs) (m ∷ ms) (k ∷ ns) same many = ap (λ (l : List ℤ). combined_number agg m k ∷ l) (half_all aggs ms ns (omega (arith, same)) (omega (arith, many)))

pub half_long : (n : ℕ) (aggs : List Agg) (ms ns : List ℤ) → length (half n aggs ms ns) ≡ length ms
half_long zero aggs ms ns = refl
half_long (suc n) [] ms ns = refl
half_long (suc n) (agg ∷ aggs) [] ns = refl
half_long (suc n) (agg ∷ aggs) (m ∷ ms) [] = refl
half_long (suc n) (agg ∷ aggs) (m ∷ ms) (k ∷ ns) = ap suc (half_long n aggs ms ns)

-- one more
pub half_more : (n : ℕ) (aggs : List Agg) (ms ns : List ℤ) (agg : Agg) (d e : ℤ) → n < length aggs → length ms ≡ length aggs → length ns ≡ length aggs
    → set (half n aggs ms ns) n (combined_number (get_or aggs n agg) (get_or (half n aggs ms ns) n d) (get_or ns n e)) ≡ half (suc n) aggs ms ns
half_more n [] ms ns a d e inside same many = absurd (omega (arith, inside))
half_more n (agg ∷ aggs) [] ns a d e inside same many = absurd (omega (arith, same))
half_more n (agg ∷ aggs) (m ∷ ms) [] a d e inside same many = absurd (omega (arith, many))
half_more zero (agg ∷ aggs) (m ∷ ms) (k ∷ ns) a d e inside same many = refl
half_more (suc n) (agg ∷ aggs) (m ∷ ms) (k ∷ ns) a d e inside same many =
    ap (λ (l : List ℤ). combined_number agg m k ∷ l) (half_more n aggs ms ns a d e (omega (arith, inside)) (omega (arith, same)) (omega (arith, many)))

pub map_read : {A B : Type 0} (f : A → B) (xs : List A) (k : ℕ) (d : A) (e : B) → k < length xs → get_or (map f xs) k e ≡ f (get_or xs k d)
map_read f [] k d e inside = absurd (omega (arith, inside))
map_read f (x ∷ xs) zero d e inside = refl
map_read f (x ∷ xs) (suc k) d e inside = map_read f xs k d e (omega (arith, inside))

-- the number behind so many values
pub number_behind : (n k : ℕ) (row : List Value) → number_at (n + k) row ≡ get_or (map number_of (drop n row)) k (pos 0)
number_behind zero k row = ap (λ (c : ℕ). number_at c row) (omega arith) ∙ read k row where
  read : (k : ℕ) (row : List Value) → number_at k row ≡ get_or (map number_of row) k (pos 0)
  read k [] = refl
  read zero (v ∷ row) = refl
  read (suc k) (v ∷ row) = read k row
number_behind (suc n) k [] = refl
number_behind (suc n) k (v ∷ row) = ap (λ (c : ℕ). number_at c (v ∷ row)) (let e : suc n + k ≡ suc (n + k) = omega arith in e) ∙ number_behind n k row
