-- Partial rows go to an emitter as rows of values. `was` and `now` say what it took before and after.
use Rattle.std.specs.Prelude.{◌≡◌, List, [], ◌∷◌, ◌++◌, All, ⊤}
use Rattle.row_codec.specs.declared.values.Value.{Value}
use Rattle.row_codec.specs.Row.{kinds_of}
use Rattle.row_codec.specs.RowLaws.{IsRow}
use Rattle.store_api.specs.declared.shapes.Shape.{Shape}
pub use Rattle.partition_stack.specs.Emitting.{IsBeside, Stood, WentOn}
use Rattle.group_rows.specs.Partials.{Partial}
use Rattle.group_rows.specs.Rows.{partial_in}
use Rattle.group_op.specs.Stored.{grouping_of, partial_kinds}

-- the values say a partial row: those of its key, and its numbers
pub record Says (shape : Shape) (p : Partial) (row : List Value) : Type 0 where
  pub is_row : IsRow row
  pub kinds_are : kinds_of row ≡ partial_kinds shape
  pub says : partial_in (grouping_of shape) row ≡ p

-- row by row
abbrev pub SayAll : Shape → List Partial → List (List Value) → Type 0
SayAll shape [] [] = ⊤
SayAll shape [] (row ∷ rows) = ⊥
SayAll shape (p ∷ partials) [] = ⊥
SayAll shape (p ∷ partials) (row ∷ rows) = Says shape p row × SayAll shape partials rows

-- an emitter admits what says one of these
abbrev pub AdmitsAll : Shape → (List Value → Type 0) → List Partial → Type 0
AdmitsAll shape admits partials = All (λ p. (row : List Value) → Says shape p row → admits row) partials

-- an emitter admits each row that says a partial row of the shape
abbrev pub AdmitsKinds : Shape → (List Value → Type 0) → Type 0
AdmitsKinds shape admits = (row : List Value) → IsRow row → kinds_of row ≡ partial_kinds shape → admits row

-- rows that say these came behind what was taken
pub record Emitted (shape : Shape) (was now : List (List Value) → Type 0) (partials : List Partial) : Type 0 where
  pub rows : List (List Value)
  pub say : SayAll shape partials rows
  pub came : (taken : List (List Value)) → was taken → now (taken ++ rows)

-- rows that say the first of these did
pub record CameInFront (shape : Shape) (taken : List (List Value)) (now : List (List Value) → Type 0) (partials : List Partial) : Type 0 where
  pub some : List Partial
  pub rest : List Partial
  pub split : partials ≡ some ++ rest
  pub rows : List (List Value)
  pub say : SayAll shape some rows
  pub came : now (taken ++ rows)

abbrev pub EmittedFront : Shape → (List (List Value) → Type 0) → (List (List Value) → Type 0) → List Partial → Type 0
EmittedFront shape was now partials = (taken : List (List Value)) → was taken → CameInFront shape taken now partials
