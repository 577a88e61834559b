-- The names that a pool has given: one for each page that its trail made, from the first one on.
use Rattle.std.proofs.Common.{◌≡◌, ◌+◌, ◌≤◌, Option, Some, None, length, arith}
use Rattle.std.proofs.lemmas.Bool.{leb-true}
use Rattle.outside.specs.declared.slot.Slot.{Ghosts}
use Rattle.pool_model.specs.LookingBack.{names_in}
use Rattle.pin_core.specs.StateOf.{state_of}
use Rattle.local_pool.specs.Counting.{AtOpening, SpendsNames}
use Rattle.local_pool.specs.Standing.{Stands}
use Rattle.local_pool.specs.Told.{opening_of, outset_of, signs_of}
use Rattle.local_pool.proofs.Keeping.{next_is}
use Rattle.session_calls.specs.declared.hand.Hand.{Hand}

pub spends_all : {D : Type 0} (slot : Ghosts D) (first : Option AtOpening) (own : Hand D) → Stands slot first own → SpendsNames first own.trail (signs_of own).spent
unfolding signs_of
spends_all slot None own is = tt
spends_all slot (Some first) own is = λ spent.
    let next : (state_of own.state).next_name ≡ (opening_of slot own).first_name + length (names_in own.trail) = next_is slot (opening_of slot own) (outset_of slot own.state) own is.ready in
    let last : 18446744073709551615 ≤ (state_of own.state).next_name = leb-true 18446744073709551615 (state_of own.state).next_name spent in
    let named : (opening_of slot own).first_name ≡ first.first_name = is.names in
    omega (arith, next, last, named)
