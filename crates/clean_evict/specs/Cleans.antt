-- The clean pages of a pool, as a caller sees them. Keys run from the page that has been clean longest
-- to the one that became clean last.
use Rattle.std.specs.Prelude.{ℕ, List, [], ◌∷◌, ◌++◌, drop}
use Rattle.index_list.specs.Listing.{others}

-- the keys of the clean pages, each of them below `nodes`
pub record Cleans : Type 0 where
  pub nodes : ℕ
  pub keys : List ℕ

-- no page is clean
abbrev pub empty : ℕ → Cleans
empty nodes = record { nodes = nodes; keys = [] }

-- the page became clean
abbrev pub pushed : ℕ → Cleans → Cleans
pushed key t = record t { keys = t.keys ++ key ∷ [] }

-- the page is not clean any more, and the others keep their order
abbrev pub without : ℕ → Cleans → Cleans
without key t = record t { keys = others key t.keys }

-- that many pages, those clean longest, are not clean any more
abbrev pub without_oldest : ℕ → Cleans → Cleans
without_oldest count t = record t { keys = drop count t.keys }
