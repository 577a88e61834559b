-- What is so of pairs, as laws. Statements alone.
use Rattle.std.specs.Prelude.{◌≡◌, ℕ, ◌<◌, List, [], ◌++◌, filter, flat_map, eqb}
use Rattle.std.specs.List.{range_with_len}
use Rattle.row_codec.specs.declared.values.Value.{Value}
use Rattle.store_api.specs.declared.shapes.JoinShape.{JoinShape}
use Rattle.join_op.specs.Pairs.{SameRows, left_key, pairs_of, right_key}

-- the order of the rows of either side changes nothing
abbrev pub PairsInAnyOrder : Type 0
PairsInAnyOrder =
    (shape : JoinShape) (ls ms rs ss : List (List Value)) → SameRows ls ms → SameRows rs ss
    → SameRows (pairs_of shape ls rs) (pairs_of shape ms ss)

-- the rows of either side may come in parts
abbrev pub LeftInParts : Type 0
LeftInParts =
    (shape : JoinShape) (ls ms rs : List (List Value)) → pairs_of shape (ls ++ ms) rs ≡ pairs_of shape ls rs ++ pairs_of shape ms rs

abbrev pub RightInParts : Type 0
RightInParts =
    (shape : JoinShape) (ls rs ss : List (List Value))
    → SameRows (pairs_of shape ls (rs ++ ss)) (pairs_of shape ls rs ++ pairs_of shape ls ss)

-- a side without rows has no pair
abbrev pub NoRightNoPair : Type 0
NoRightNoPair = (shape : JoinShape) (ls : List (List Value)) → pairs_of shape ls [] ≡ []

-- rows that are divided by their keys, both sides alike, have their pairs part by part
abbrev pub PairsByParts : Type 0
PairsByParts =
    (shape : JoinShape) (part : List ℕ → ℕ) (count : ℕ) (ls rs : List (List Value)) → ((key : List ℕ) → part key < count)
    → SameRows (pairs_of shape ls rs)
    (flat_map (λ i. pairs_of shape (filter (λ l. eqb (part (left_key shape l)) i) ls) (filter (λ r. eqb (part (right_key shape r)) i) rs)) (range_with_len 0 count))
