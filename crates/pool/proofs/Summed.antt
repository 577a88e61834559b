-- What all slots count where no page is there.
use Rattle.std.proofs.Common.{◌≡◌, ℕ, ◌+◌, List, [], ◌∷◌, length, Some, None, if◌then◌else◌, refl, sym, ◌∙◌, arith}
use Rattle.std.proofs.lemmas.List.Sums.{sum_by-cons}
use Rattle.std.specs.FinMap.{get}
use Rattle.std.specs.List.{sum_by}
use Rattle.outside.specs.declared.slot.Slot.{Ghosts}
use Rattle.reservation_tree.proofs.Sums.{total-none}
use Rattle.pool_model.specs.State.{Page, Pages}
use Rattle.pin_core.specs.declared.parts.Parts.{Parts}
use Rattle.pin_core.specs.declared.tally.Tally.{Tally}
use Rattle.pin_core.specs.StateOf.{state_of}
use Rattle.pin_core.specs.Tallies.{tally_in}
use Rattle.session_calls.specs.declared.count.Count.{Count}
use Rattle.session_calls.specs.Moving.{is_moving, out_with, slots_out}
use Rattle.session_calls.specs.Outgoing.{no_tally, number_out, tally_or, tally_out, tally_plus, tally_whole}

none_some : (x : Page) → None ≡ Some x → ⊥
none_some x is = cc

-- no slot is out
pub none_out : (pages : Pages) → ((p : ℕ) → get pages p ≡ None) → slots_out pages ≡ 0
none_out pages none = total-none (λ p x. out_with x) pages (λ p x there. absurd (none_some x (sym (none p) ∙ there)))

-- nothing is counted out
none_counted : (number : Tally → ℕ) (counts : List Count) (pages : Pages) → ((p : ℕ) → get pages p ≡ None) → number_out number counts pages ≡ 0
none_counted number counts pages none =
    total-none (λ p x. if is_moving x.place then number (tally_or no_tally p counts) else 0) pages (λ p x there. absurd (none_some x (sym (none p) ∙ there)))

plus_none : (a b : ℕ) → b ≡ 0 → a + b ≡ a
plus_none a b is = omega (arith, is)

abbrev tally : ℕ → ℕ → ℕ → ℕ → ℕ → ℕ → ℕ → ℕ → Tally
tally a b c d e f g h = record { faults = a; stuck = b; stores = c; uncounted = d; strays = e; unstrayed = f; silent = g; slots = h }

tally_alone : (t u : Tally) → u.faults ≡ 0 → u.stuck ≡ 0 → u.stores ≡ 0 → u.uncounted ≡ 0 → u.strays ≡ 0 → u.unstrayed ≡ 0 → u.silent ≡ 0 → u.slots ≡ 0 → tally_plus t u ≡ t
tally_alone t u faults stuck stores uncounted strays unstrayed silent slots = λ i.
    tally (plus_none t.faults u.faults faults i) (plus_none t.stuck u.stuck stuck i) (plus_none t.stores u.stores stores i)
    (plus_none t.uncounted u.uncounted uncounted i) (plus_none t.strays u.strays strays i) (plus_none t.unstrayed u.unstrayed unstrayed i)
    (plus_none t.silent u.silent silent i) (plus_none t.slots u.slots slots i)

-- and all slots count what those at home do
pub whole_home : {D : Type 0} (slot : Ghosts D) (counts : List Count) (v : Parts D) → ((p : ℕ) → get (state_of v).pages p ≡ None) → tally_whole slot counts v ≡ tally_in slot v
whole_home slot counts v none =
    let out : (number : Tally → ℕ) → number_out number counts (state_of v).pages ≡ 0 = λ number. none_counted number counts (state_of v).pages none in
    tally_alone (tally_in slot v) (tally_out counts (state_of v).pages)
    (out (λ t. t.faults)) (out (λ t. t.stuck)) (out (λ t. t.stores)) (out (λ t. t.uncounted)) (out (λ t. t.strays)) (out (λ t. t.unstrayed)) (out (λ t. t.silent)) (out (λ t. t.slots))

-- how many there are
pub ones : {D : Type 0} (slots : List D) → sum_by (λ d. 1) slots ≡ length slots
ones [] = refl
ones (d ∷ slots) = let rest = ones slots in let both = sum_by-cons (λ d. 1) d slots in omega (arith, rest, both)
