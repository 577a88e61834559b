-- That partial rows, combined, are the groups of the rows, in whatever order and parts they come.
use Rattle.std.specs.Prelude.{◌≡◌, ◌↔◌, ℕ, ◌≤◌, List, ◌++◌, All, map, length}
use Rattle.std.specs.List.{Contains}
use Rattle.std.specs.List.Sorted.{IsPermutation, IsStrictlySortedBy}
use Rattle.row_codec.specs.declared.values.Value.{Value}
use Rattle.row_codec.specs.Row.{IsValue}
use Rattle.row_codec.specs.RowBytes.{key_bytes}
use Rattle.group_rows.specs.Keyed.{IsExactOrder, KeyOrder, keys_in}
use Rattle.group_rows.specs.Partials.{Grouping, Partial, combined_by, groups_by, key_of, partial_of}

-- each value of each row fits its type
abbrev pub AreValues : List (List Value) → Type 0
AreValues rows = All (λ row. All IsValue row) rows

-- the keys of the groups strictly ascend, and are exactly the keys of the rows
pub record HaveKeysOf (order : KeyOrder) (grouping : Grouping) (rows : List (List Value)) : Type 0 where
  pub ordered : IsStrictlySortedBy order (map key_of (groups_by order grouping rows))
  pub exact : (q : List ℕ) → Contains (map key_of (groups_by order grouping rows)) q ↔ Contains (map (key_bytes grouping.keys) rows) q

-- so are the keys of any rows' groups
abbrev pub GroupPerKey : Type 0
GroupPerKey =
    (order : KeyOrder) → IsExactOrder order → (grouping : Grouping) (rows : List (List Value))
    → HaveKeysOf order grouping rows

-- the partial rows of some rows, combined, are the groups of these rows
abbrev pub GiveGroups : Type 0
GiveGroups =
    (order : KeyOrder) → IsExactOrder order → (grouping : Grouping) (rows : List (List Value)) → AreValues rows
    → combined_by order grouping (map (partial_of grouping) rows) ≡ groups_by order grouping rows

-- combining a permutation gives the same
abbrev pub InAnyOrder : Type 0
InAnyOrder =
    (order : KeyOrder) → IsExactOrder order → (grouping : Grouping) (xs ys : List Partial) → IsPermutation xs ys
    → combined_by order grouping ys ≡ combined_by order grouping xs

-- a part may be combined first
abbrev pub InAnyParts : Type 0
InAnyParts =
    (order : KeyOrder) → IsExactOrder order → (grouping : Grouping) (xs ys : List Partial)
    → combined_by order grouping (combined_by order grouping xs ++ ys) ≡ combined_by order grouping (xs ++ ys)

-- combined, each distinct key stands once, in order
abbrev pub KeysOnce : Type 0
KeysOnce =
    (order : KeyOrder) → IsExactOrder order → (grouping : Grouping) (partials : List Partial)
    → map key_of (combined_by order grouping partials) ≡ keys_in order key_of partials

-- combined, they are no more than there were
abbrev pub AreNoMore : Type 0
AreNoMore =
    (order : KeyOrder) (grouping : Grouping) (partials : List Partial)
    → length (combined_by order grouping partials) ≤ length partials
