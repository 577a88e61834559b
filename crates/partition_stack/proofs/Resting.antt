-- Some of the streams rest before any was let rest.
use Rattle.std.proofs.Common.{◌≡◌, ℕ, ◌<◌, length, Some, None, arith}
use Rattle.std.specs.List.{slice_get}
use Rattle.tuple_stream.specs.Streamed.{Streamed}
use Rattle.tuple_stream.specs.Families.{AreShaped, Family, changed, pages_in}
use Rattle.tuple_stream.specs.FamilyCalls.{RestsSome}
use Rattle.tuple_stream.specs.Steps.{Scene}
use Rattle.tuple_stream.proofs.FamilyStep.{pages_changed}
use Rattle.tuple_stream.proofs.FamilyWords.{rests_none}

pub rests_before : (t from : ℕ) (f : Family) → AreShaped t f → ((i : ℕ) (s : Streamed) → slice_get f.streams i ≡ Some s → i < from → s.pinned ≡ None) → RestsSome t from f f
rests_before t from f is rests =
    let none = rests_none t f is in
    record { steps = none.steps; steady = none.steady; whole = none.whole; closed = rests; rows = none.rows }

-- one of them was let rest: there are as many pages
pub pages_rested : (i : ℕ) (f : Family) (a : Streamed) (b : Scene) → slice_get f.streams i ≡ Some a → length b.stream.pages ≡ length a.pages → pages_in (changed i b f) ≡ pages_in f
pages_rested i f a b at same = let sum = pages_changed i f a b at in omega (arith, sum, same)
