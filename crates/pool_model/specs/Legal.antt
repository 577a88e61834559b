-- Histories: what is legal, and the state after one. The oldest entry is first.
use Rattle.std.specs.Prelude.{List, [], ◌∷◌, ◌++◌}
use Rattle.std.specs.Bool.{⊤}
use Rattle.pool_model.specs.declared.entry.Entry.{Entry}
use Rattle.pool_model.specs.State.{Opening, State, opened}
use Rattle.pool_model.specs.MayFollow.{MayFollow}
use Rattle.pool_model.specs.Effects.{after}

-- the state after more entries
abbrev pub run : State → List Entry → State
run s [] = s
run s (e ∷ es) = run (after s e) es

-- each of these may follow those before it
abbrev pub Follow : List Entry → State → List Entry → Type 0
Follow before s [] = ⊤
Follow before s (e ∷ es) = MayFollow before s e × Follow (before ++ e ∷ []) (after s e) es

-- the state after a history
abbrev pub state_after : Opening → List Entry → State
state_after o h = run (opened o) h

-- each entry may follow those before it
abbrev pub IsLegal : Opening → List Entry → Type 0
IsLegal o h = Follow [] (opened o) h
