-- What combining keeps.
use Rattle.std.specs.Prelude.{◌≡◌, ℕ, ◌≤◌, List, map}
use Rattle.std.specs.List.{sum_by}
use Rattle.std.specs.List.Sorted.{IsPermutation, IsStrictlySortedBy}
use Rattle.group_rows.specs.Keyed.{IsExactOrder, KeyOrder}
use Rattle.group_rows.specs.Partials.{Grouping, Partial, combined_by, key_of}
use Rattle.group_rows.specs.Tables.{HaveDistinctKeys}

-- the keys of these entries strictly ascend
abbrev pub AreOrdered : KeyOrder → List Partial → Type 0
AreOrdered order entries = IsStrictlySortedBy order (map key_of entries)

-- combining changes nothing where the keys strictly ascend
abbrev pub OrderedStay : Type 0
OrderedStay =
    (order : KeyOrder) → IsExactOrder order → (grouping : Grouping) (partials : List Partial) → AreOrdered order partials
    → combined_by order grouping partials ≡ partials

-- combining only puts in order where the keys are distinct
abbrev pub DistinctStay : Type 0
DistinctStay =
    (order : KeyOrder) → IsExactOrder order → (grouping : Grouping) (partials : List Partial) → HaveDistinctKeys partials
    → IsPermutation partials (combined_by order grouping partials)

-- whatever weight each key has, the sum of the weights never rises
abbrev pub KeysWeighNoMore : Type 0
KeysWeighNoMore =
    (order : KeyOrder) → IsExactOrder order → (grouping : Grouping) (weight : List ℕ → ℕ) (partials : List Partial)
    → sum_by (λ p. weight p.key) (combined_by order grouping partials) ≤ sum_by (λ p. weight p.key) partials
