-- Partial rows by themselves, of which no rows are known: what they combine to, number by number.
use Rattle.std.specs.Prelude.{◌≡◌, ℕ, ◌<◌, ◌^◌, List, [], ◌∷◌, All, map, drop, get_or, length, ℤ, pos, FitsSigned, unsigned_abs}
use Rattle.std.specs.Int.{w128, int_wrap}
use Rattle.std.specs.List.{sum_by}
use Rattle.row_codec.specs.declared.values.Agg.{Agg}
use Rattle.row_codec.specs.declared.values.Agg.TheVariants.{Count, Sum, Min, Max}
use Rattle.group_rows.specs.Aggregates.{greatest, least, total}
use Rattle.group_rows.specs.Keyed.{IsExactOrder, KeyOrder, keys_in, with_key}
use Rattle.group_rows.specs.Partials.{Grouping, Partial, combined_by, key_of}

-- the numbers of an aggregate as one: their sum, the least or the greatest of them
abbrev pub gathered : Agg → List ℤ → ℤ
gathered Count ns = int_wrap w128 (total ns)
gathered (Sum column) ns = int_wrap w128 (total ns)
gathered (Min column) ns = least ns
gathered (Max column) ns = greatest ns

-- the first number of each list
abbrev pub heads : List (List ℤ) → List ℤ
heads lists = map (λ ns. get_or ns 0 (pos 0)) lists

-- for each aggregate the numbers at its place in the lists, as one
abbrev pub gathered_all : List Agg → List (List ℤ) → List ℤ
gathered_all [] lists = []
gathered_all (agg ∷ aggs) lists = gathered agg (heads lists) ∷ gathered_all aggs (map (drop 1) lists)

-- the partial rows with this key, as one
abbrev pub gathered_in : Grouping → List Partial → List ℕ → Partial
gathered_in grouping partials q = record {
  key = q;
  numbers = gathered_all grouping.aggs (map (λ p. p.numbers) (with_key key_of q partials));
}

-- it has a number of 128 bits for each aggregate
pub record IsPartial (grouping : Grouping) (p : Partial) : Type 0 where
  pub many : length p.numbers ≡ length grouping.aggs
  pub wide : All (λ n. FitsSigned w128 n) p.numbers

-- combining gathers the numbers of each key
abbrev pub AreGathered : Type 0
AreGathered =
    (order : KeyOrder) → IsExactOrder order → (grouping : Grouping) (partials : List Partial) → All (IsPartial grouping) partials
    → combined_by order grouping partials ≡ map (gathered_in grouping partials) (keys_in order key_of partials)

-- a gathered sum is the true one where the absolute values add up to less than 2^127
abbrev pub GatheredSumIsTrue : Type 0
GatheredSumIsTrue = (column : ℕ) (ns : List ℤ) → sum_by unsigned_abs ns < 2 ^ 127 → gathered (Sum column) ns ≡ total ns
