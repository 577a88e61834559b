use Rattle.std.proofs.Common.{◌≡◌, ◌-◌, ◌≤◌, All, vec_capacity, vec_len}
use Rattle.crossbeam_queue.specs.Passes.{IsPassOf, IsSamePass, view}
use Rattle.fragments.specs.Balance.{tally}
use Rattle.fragments.specs.Places.{IsNewPlace}
use Rattle.fragments.proofs.places.begin.Given as goal

abbrev pub invariant-loop-place : goal.invariant-loop-place
invariant-loop-place g l =
    IsSamePass l.initial.pass l.pass
    × IsPassOf l.queue l.pass
    × (view l.pass ≡ tally ((view l.initial.pass).parts - l.place) (view l.initial.pass).put (view l.initial.pass).taken)
    × (vec_len l.places ≡ l.place)
    × (l.count ≤ vec_capacity l.places)
    × All (IsNewPlace l.queue) l.places.items
