-- Partial rows split by their keys, each part combined by itself.
use Rattle.std.specs.Prelude.{◌≡◌, ℕ, ◌==◌, ◌<◌, List, [], ◌∷◌, ◌++◌, All, filter, flat_map, length, not, take, Bool, true, false}
use Rattle.std.specs.List.{range_with_len}
use Rattle.std.specs.Cmp.Lexicographic.{slice_cmp}
use Rattle.std.specs.Ordering.{nat_cmp}
use Rattle.std.specs.declared.cmp.Ordering.TheVariants.{Less}
use Rattle.row_codec.specs.Order.{hash_of, nibble_of, path_of}
use Rattle.group_rows.specs.Keyed.{IsExactOrder, KeyOrder}
use Rattle.group_rows.specs.Partials.{Grouping, Partial, combined_by, combined_of}

-- a test of keys: each key that passes is below each that doesn't
abbrev pub IsCut : KeyOrder → (List ℕ → Bool) → Type 0
IsCut order low = (a b : List ℕ) → low a ≡ true → low b ≡ false → order a b ≡ Less

-- the partial rows whose keys pass are combined first, then the others
abbrev pub PartsByCut : Type 0
PartsByCut =
    (order : KeyOrder) → IsExactOrder order → (grouping : Grouping) (low : List ℕ → Bool) → IsCut order low → (partials : List Partial)
    → combined_by order grouping partials
    ≡ combined_by order grouping (filter (λ p. low p.key) partials) ++ combined_by order grouping (filter (λ p. not (low p.key)) partials)

-- the path of each key begins with this path
abbrev pub HasPath : List ℕ → List Partial → Type 0
HasPath path partials = All (λ p. take (length path) (path_of p.key) ≡ path) partials

-- the partial rows whose keys have this nibble at a level
abbrev pub part_at : ℕ → List Partial → ℕ → List Partial
part_at level partials n = filter (λ p. nibble_of (hash_of p.key) level == n) partials

-- the sixteen parts at the next level, each combined by itself, one after the other
abbrev pub PartsByPath : Type 0
PartsByPath =
    (grouping : Grouping) (path : List ℕ) (partials : List Partial) → length path < 16 → HasPath path partials
    → combined_of grouping partials ≡ flat_map (λ n. combined_of grouping (part_at (length path) partials n)) (range_with_len 0 16)

-- the path of each part is one nibble longer
abbrev pub PathGrows : Type 0
PathGrows =
    (path : List ℕ) (n : ℕ) (partials : List Partial) → length path < 16 → HasPath path partials
    → HasPath (path ++ n ∷ []) (part_at (length path) partials n)

-- where all keys have the same path, the order of paths is that of bytes
abbrev pub OnePath : Type 0
OnePath =
    (grouping : Grouping) (path : List ℕ) (partials : List Partial) → All (λ p. path_of p.key ≡ path) partials
    → combined_of grouping partials ≡ combined_by (slice_cmp nat_cmp) grouping partials
