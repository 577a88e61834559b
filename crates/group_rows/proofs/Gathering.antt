-- Partial results are gathered key by key and number by number.
use Rattle.std.proofs.Common.{◌≡◌, inl, inr, ℕ, ◌+◌, ◌<◌, ◌≤◌, ◌^◌, true, List, [], ◌∷◌, map, drop, length, get_or, Option, Some, refl, ap, ap₂, sym, ◌∙◌, subst, arith, true≢false}
use Rattle.std.specs.Prelude.{All, ℤ, pos, ◌+ℤ◌, FitsSigned, unsigned_abs}
use Rattle.std.specs.Int.{w128, int_wrap}
use Rattle.std.specs.List.{list_any, sum_by}
use Rattle.std.specs.Str.{bytes_eq}
use Rattle.std.proofs.lemmas.Bool.{cases_Bool}
use Rattle.std.proofs.lemmas.Int.{ints, int_wrap_fits, int_wrap-add_right, fits_signed_from_abs}
use Rattle.std.proofs.lemmas.List.Elements.{All-head, All-tail, All-filter, filter_passes}
use Rattle.std.proofs.lemmas.List.Sums.{sum_by-cons}
use Rattle.row_codec.specs.declared.values.Agg.{Agg}
use Rattle.row_codec.specs.declared.values.Agg.TheVariants.{Count, Sum, Min, Max}
use Rattle.group_rows.specs.Aggregates.{combined_number, total}
use Rattle.group_rows.specs.Gathered.{IsPartial, gathered, gathered_all, gathered_in, heads}
use Rattle.group_rows.specs.Keyed.{IsExactOrder, KeyOrder, as_one, keys_in, merge_front, one_of, with_key}
use Rattle.group_rows.specs.Partials.{Grouping, Partial, combine, combined_by, combined_numbers, key_of}
use Rattle.group_rows.proofs.Bounding.{abs_add}
use Rattle.group_rows.proofs.Each.{all_chosen, of_each}
use Rattle.group_rows.proofs.Giving.{max_from, min_from, total_from}
use Rattle.group_rows.proofs.Keys.{true_same}

total_cons : (n : ℤ) (ns : List ℤ) → total (n ∷ ns) ≡ n +ℤ total ns
total_cons n ns = total_from (pos 0 +ℤ n) ns ∙ ap (λ (z : ℤ). z +ℤ total ns) (let e : pos 0 +ℤ n ≡ n = omega (arith, ints) in e)

sum_alone : (n : ℤ) → FitsSigned w128 n → n ≡ int_wrap w128 (total (n ∷ []))
sum_alone n fits = sym (ap (int_wrap w128) (let e : pos 0 +ℤ n ≡ n = omega (arith, ints) in e) ∙ int_wrap_fits w128 n fits)

sum_more : (n : ℤ) (ns : List ℤ) → int_wrap w128 (n +ℤ int_wrap w128 (total ns)) ≡ int_wrap w128 (total (n ∷ ns))
sum_more n ns = int_wrap-add_right w128 n (total ns) ∙ ap (int_wrap w128) (sym (total_cons n ns))

alone : (agg : Agg) (n : ℤ) → FitsSigned w128 n → n ≡ gathered agg (n ∷ [])
alone Count n fits = sum_alone n fits
alone (Sum column) n fits = sum_alone n fits
alone (Min column) n fits = refl
alone (Max column) n fits = refl

one_more : (agg : Agg) (n m : ℤ) (ms : List ℤ) → combined_number agg n (gathered agg (m ∷ ms)) ≡ gathered agg (n ∷ m ∷ ms)
one_more Count n m ms = sum_more n (m ∷ ms)
one_more (Sum column) n m ms = sum_more n (m ∷ ms)
one_more (Min column) n m ms = min_from n m ms
one_more (Max column) n m ms = max_from n m ms

all_alone : (aggs : List Agg) (ns : List ℤ) → length ns ≡ length aggs → All (λ n. FitsSigned w128 n) ns → ns ≡ gathered_all aggs (ns ∷ [])
all_alone [] [] many fits = refl
all_alone [] (n ∷ ns) many fits = absurd (omega (arith, many))
all_alone (agg ∷ aggs) [] many fits = absurd (omega (arith, many))
all_alone (agg ∷ aggs) (n ∷ ns) many fits =
    ap₂ (λ (k : ℤ) (ks : List ℤ). k ∷ ks) (alone agg n (All-head (λ n. FitsSigned w128 n) n ns fits))
    (all_alone aggs ns (omega (arith, many)) (All-tail (λ n. FitsSigned w128 n) n ns fits))

all_more : (aggs : List Agg) (ns ms : List ℤ) (lists : List (List ℤ)) → length ns ≡ length aggs → combined_numbers aggs ns (gathered_all aggs (ms ∷ lists)) ≡ gathered_all aggs (ns ∷ ms ∷ lists)
all_more [] ns ms lists many = refl
all_more (agg ∷ aggs) [] ms lists many = absurd (omega (arith, many))
all_more (agg ∷ aggs) (n ∷ ns) ms lists many =
    ap₂ (λ (k : ℤ) (ks : List ℤ). k ∷ ks) (one_more agg n (get_or ms 0 (pos 0)) (heads lists))
    (all_more aggs ns (drop 1 ms) (map (drop 1) lists) (omega (arith, many)))

abbrev gathered_with : Grouping → List ℕ → List Partial → Partial
gathered_with grouping q ps = record { key = q; numbers = gathered_all grouping.aggs (map (λ p. p.numbers) ps) }

as_gathered : (grouping : Grouping) (q : List ℕ) (p : Partial) (ps : List Partial) → All (λ p. p.key ≡ q) (p ∷ ps) → All (IsPartial grouping) (p ∷ ps) → as_one (combine grouping) (p ∷ ps) ≡ Some (gathered_with grouping q (p ∷ ps))
as_gathered grouping q p [] keys good =
    let of_q = All-head (λ p. p.key ≡ q) p [] keys in
    let is = All-head (IsPartial grouping) p [] good in
    ap₂ (λ (k : List ℕ) (ns : List ℤ). Some (record { key = k; numbers = ns })) of_q (all_alone grouping.aggs p.numbers is.many is.wide)
as_gathered grouping q p (next ∷ ps) keys good =
    let of_q = All-head (λ p. p.key ≡ q) p (next ∷ ps) keys in
    let is = All-head (IsPartial grouping) p (next ∷ ps) good in
    let rest = as_gathered grouping q next ps (All-tail (λ p. p.key ≡ q) p (next ∷ ps) keys) (All-tail (IsPartial grouping) p (next ∷ ps) good) in
    ap (λ (o : Option Partial). Some (merge_front (combine grouping) p o)) rest
    ∙ ap₂ (λ (k : List ℕ) (ns : List ℤ). Some (record { key = k; numbers = ns })) of_q (all_more grouping.aggs p.numbers next.numbers (map (λ p. p.numbers) ps) is.many)

some_gathered : (grouping : Grouping) (q : List ℕ) (ps : List Partial) → (ps ≡ [] → ⊥) → All (λ p. p.key ≡ q) ps → All (IsPartial grouping) ps → as_one (combine grouping) ps ≡ Some (gathered_with grouping q ps)
some_gathered grouping q [] some keys good = absurd (some refl)
some_gathered grouping q (p ∷ ps) some keys good = as_gathered grouping q p ps keys good

some_with : (q : List ℕ) (ps : List Partial) → list_any (λ p. bytes_eq q (key_of p)) ps ≡ true → with_key key_of q ps ≡ [] → ⊥
some_with q [] is none = true≢false (sym is)
some_with q (p ∷ ps) is none = elim (cases_Bool (bytes_eq q p.key)) [
  | inl here ↦ let some : p ∷ with_key key_of q ps ≡ [] = rw here at none in absurd cc
  | inr off ↦
      let rest : with_key key_of q ps ≡ [] = rw off at none in
      let more : list_any (λ p. bytes_eq q (key_of p)) ps ≡ true = rw off at is in
      some_with q ps more rest
]

pub are_gathered : (order : KeyOrder) → IsExactOrder order → (grouping : Grouping) (partials : List Partial) → All (IsPartial grouping) partials
    → combined_by order grouping partials ≡ map (gathered_in grouping partials) (keys_in order key_of partials)
are_gathered order is_order grouping partials good =
    all_chosen (λ q. one_of key_of (combine grouping) q partials) (gathered_in grouping partials) (keys_in order key_of partials)
    (of_each order is_order key_of (λ q. one_of key_of (combine grouping) q partials ≡ Some (gathered_in grouping partials q)) partials
    (λ q is. some_gathered grouping q (with_key key_of q partials) (some_with q partials is)
    (λ k d inside. sym (true_same q _ (filter_passes (λ p. bytes_eq q (key_of p)) partials k d inside)))
    (All-filter (λ p. bytes_eq q (key_of p)) (IsPartial grouping) partials good)))

abs_total : (ns : List ℤ) → unsigned_abs (total ns) ≤ sum_by unsigned_abs ns
abs_total [] = omega arith
abs_total (n ∷ ns) =
    let sum : unsigned_abs (total (n ∷ ns)) ≤ unsigned_abs n + unsigned_abs (total ns) = subst (λ (z : ℤ). unsigned_abs z ≤ unsigned_abs n + unsigned_abs (total ns)) (sym (total_cons n ns)) (abs_add n (total ns)) in
    omega (arith, sum, abs_total ns, sum_by-cons unsigned_abs n ns)

pub gathered_sum_is_true : (column : ℕ) (ns : List ℤ) → sum_by unsigned_abs ns < 2 ^ 127 → gathered (Sum column) ns ≡ total ns
gathered_sum_is_true column ns few = int_wrap_fits w128 (total ns) (fits_signed_from_abs w128 (total ns) (omega (arith, few, abs_total ns)))
