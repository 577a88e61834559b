-- What goes down with each round of a call that wants room.
use Rattle.std.proofs.Common.{◌≡◌, ◌⊎◌, ℕ, ◌+◌, ◌<◌, Bool, true, false, if◌then◌else◌, refl, subst, arith, inl, inr}
use Rattle.pin_core.specs.StateOf.{state_of}
use Rattle.session_calls.specs.Writing.{writes_left}
use Rattle.session_calls.specs.declared.hand.Hand.{Hand}
use Rattle.session_calls.specs.declared.turning.Turn.{Turn}
use Rattle.session_calls.specs.declared.turning.Turn.TheVariants.{Waited, Wrote}
use Rattle.session_calls.specs.Turning.{GoesFurther}

-- a call that goes on after a turn may come to fewer writes, where the session is alone
pub goes_further : {D : Type 0} (t : ℕ) (old new : Hand D) (r : Turn) → (r ≡ Wrote) ⊎ (r ≡ Waited) → GoesFurther t r old new → writes_left new.session t (state_of new.state) < writes_left old.session t (state_of old.state)
goes_further t old new r (inl wrote) further = subst (λ (q : Turn). GoesFurther t q old new) wrote further
goes_further t old new r (inr waited) further = absurd (subst (λ (q : Turn). GoesFurther t q old new) waited further)

-- what goes down with each round, where the session is alone and where it isn't
pub goes_down : (alone : Bool) (fewer writes less left : ℕ) → (alone ≡ true → fewer < writes) → (alone ≡ false → less + 1 ≡ left) → (if alone then fewer else less) < (if alone then writes else left)
goes_down true fewer writes less left sole beside = sole refl
goes_down false fewer writes less left sole beside = let one = beside refl in omega (arith, one)
