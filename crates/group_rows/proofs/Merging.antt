-- The numbers of an aggregate are combined in any order and in any parts.
use Rattle.std.proofs.Common.{◌≡◌, ℕ, List, [], ◌∷◌, refl, ap, ap₂, sym, ◌∙◌, arith}
use Rattle.std.specs.Prelude.{ℤ, ◌+ℤ◌}
use Rattle.std.specs.Int.{w128, int_wrap, int_min, int_max}
use Rattle.std.proofs.lemmas.Int.{ints, clamps, int_wrap-add_left, int_wrap-add_right}
use Rattle.row_codec.specs.declared.values.Agg.{Agg}
use Rattle.row_codec.specs.declared.values.Agg.TheVariants.{Count, Sum, Min, Max}
use Rattle.group_rows.specs.Aggregates.{combined_number}
use Rattle.group_rows.specs.Partials.{Grouping, combine, combined_numbers, key_of}
use Rattle.group_rows.proofs.Merged.{IsMerge}

add_turn : (a b : ℤ) → a +ℤ b ≡ b +ℤ a
add_turn a b = omega (arith, ints)

add_parts : (a b c : ℤ) → (a +ℤ b) +ℤ c ≡ a +ℤ (b +ℤ c)
add_parts a b c = omega (arith, ints)

wrapped_parts : (a b c : ℤ) → int_wrap w128 (int_wrap w128 (a +ℤ b) +ℤ c) ≡ int_wrap w128 (a +ℤ int_wrap w128 (b +ℤ c))
wrapped_parts a b c = int_wrap-add_left w128 (a +ℤ b) c ∙ ap (int_wrap w128) (add_parts a b c) ∙ sym (int_wrap-add_right w128 a (b +ℤ c))

pub min_parts : (a b c : ℤ) → int_min (int_min a b) c ≡ int_min a (int_min b c)
min_parts a b c = omega (arith, ints, clamps)

pub max_parts : (a b c : ℤ) → int_max (int_max a b) c ≡ int_max a (int_max b c)
max_parts a b c = omega (arith, ints, clamps)

min_turn : (a b : ℤ) → int_min a b ≡ int_min b a
min_turn a b = omega (arith, ints, clamps)

max_turn : (a b : ℤ) → int_max a b ≡ int_max b a
max_turn a b = omega (arith, ints, clamps)

pub number_parts : (agg : Agg) (a b c : ℤ) → combined_number agg (combined_number agg a b) c ≡ combined_number agg a (combined_number agg b c)
number_parts Count a b c = wrapped_parts a b c
number_parts (Sum column) a b c = wrapped_parts a b c
number_parts (Min column) a b c = min_parts a b c
number_parts (Max column) a b c = max_parts a b c

pub number_turn : (agg : Agg) (a b : ℤ) → combined_number agg a b ≡ combined_number agg b a
number_turn Count a b = ap (int_wrap w128) (add_turn a b)
number_turn (Sum column) a b = ap (int_wrap w128) (add_turn a b)
number_turn (Min column) a b = min_turn a b
number_turn (Max column) a b = max_turn a b

all_parts : (aggs : List Agg) (ls ms ns : List ℤ) → combined_numbers aggs (combined_numbers aggs ls ms) ns ≡ combined_numbers aggs ls (combined_numbers aggs ms ns)
all_parts [] ls ms ns = refl
all_parts (agg ∷ aggs) [] ms ns = refl
all_parts (agg ∷ aggs) (l ∷ ls) [] ns = refl
all_parts (agg ∷ aggs) (l ∷ ls) (m ∷ ms) [] = refl
all_parts (agg ∷ aggs) (l ∷ ls) (m ∷ ms) (n ∷ ns) = ap₂ (λ (k : ℤ) (ks : List ℤ). k ∷ ks) (number_parts agg l m n) (all_parts aggs ls ms ns)

all_turn : (aggs : List Agg) (ms ns : List ℤ) → combined_numbers aggs ms ns ≡ combined_numbers aggs ns ms
all_turn [] ms ns = refl
all_turn (agg ∷ aggs) [] [] = refl
all_turn (agg ∷ aggs) [] (n ∷ ns) = refl
all_turn (agg ∷ aggs) (m ∷ ms) [] = refl
all_turn (agg ∷ aggs) (m ∷ ms) (n ∷ ns) = ap₂ (λ (k : ℤ) (ks : List ℤ). k ∷ ks) (number_turn agg m n) (all_turn aggs ms ns)

-- so are partial rows of one key
pub combines : (grouping : Grouping) → IsMerge key_of (combine grouping)
combines grouping = record {
  keeps = λ p q. refl;
  assoc = λ p q r. ap (λ (ns : List ℤ). (record { key = p.key; numbers = ns })) (all_parts grouping.aggs p.numbers q.numbers r.numbers);
  comm = λ p q same. ap₂ (λ (k : List ℕ) (ns : List ℤ). (record { key = k; numbers = ns })) same (all_turn grouping.aggs p.numbers q.numbers);
}
