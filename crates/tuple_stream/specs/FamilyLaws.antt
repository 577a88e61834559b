-- What is so of streams beside each other, as laws. Statements alone.
use Rattle.std.specs.Prelude.{◌≡◌, ℕ, List, [], slice_get, Some}
use Rattle.pool_model.specs.declared.event.Event.{Event}
use Rattle.tuple_stream.specs.Streamed.{Streamed}
use Rattle.tuple_stream.specs.Steps.{Adds, Reads, Scene, scene}
use Rattle.tuple_stream.specs.Spending.{Empties, Spends}
use Rattle.tuple_stream.specs.Families.{AllClosed, AreShaped, Family, FamilySteps, LaysAll, GoesAll, ShowAll, changed}
use Rattle.tuple_stream.specs.FamilyCalls.{AllAtEnd, AllWhole, EmptiesIn, Feeds, HaveLaid, HoldAll, ReadsIn, SpendsIn}

-- a call of one of the streams is a step of them all
pub record CallsAreSteps (t i : ℕ) (f : Family) (a : Streamed) (b : Scene) : Type 0 where
  pub adds : (more : List (List ℕ)) → Adds t more (scene a f.held f.signs) b → Feeds t i more f (changed i b f)
  pub reads : Reads t (scene a f.held f.signs) b → b.stream ≡ record a { pinned = b.stream.pinned } → ReadsIn t f (changed i b f)
  pub spends : (row : List ℕ) → Spends t (Some row) (scene a f.held f.signs) b → SpendsIn t i row f (changed i b f)
  pub empties : Empties t (scene a f.held f.signs) b → b.stream.pages ≡ [] → b.stream.count ≡ 0 → EmptiesIn t i f (changed i b f)

abbrev pub AllCallsAreSteps : Type 0
AllCallsAreSteps = (t i : ℕ) (f : Family) (a : Streamed) (b : Scene) → AreShaped t f → slice_get f.streams i ≡ Some a → CallsAreSteps t i f a b

-- where nothing was called, all is as it was
pub record KeepsItself (t : ℕ) (f : Family) : Type 0 where
  pub built : FamilySteps (LaysAll (AllAtEnd f) ⊥ f f) t f f
  pub read : FamilySteps (GoesAll f f) t f f

abbrev pub FamiliesKeepThemselves : Type 0
FamiliesKeepThemselves = (t : ℕ) (f : Family) → AreShaped t f → KeepsItself t f

-- once all rest, what was left holds all rows
abbrev pub AllHold : Type 0
AllHold =
    (t : ℕ) (g : Family) (rows : ℕ → List (List ℕ)) (events : List Event)
    → AreShaped t g → AllClosed g → AllWhole g → ShowAll rows g → HaveLaid g events → HoldAll rows g events
