-- Sessions end one after the other at the pass of their pool: what it then has seen.
use Rattle.std.proofs.Common.{◌≡◌, ◌≢◌, ◌⊎◌, ℕ, zero, suc, ◌+◌, ◌<◌, Bool, false, List, [], ◌∷◌, ◌++◌, Option, Some, None, length, map, inl, inr, refl, sym, ap, ◌∙◌, subst, arith, append_assoc, append-nil}
use Rattle.std.specs.FinMap.{get, remove}
use Rattle.std.specs.List.{AllByRecursion, slice_get}
use Rattle.std.specs.Option.{option_map}
use Rattle.std.proofs.lemmas.Option.{none-some, same_Some}
use Rattle.reservation_tree.specs.Tracker.{reservation_of}
use Rattle.reservation_tree.proofs.Maps.{removed_other, removed_same, same_or_other}
use Rattle.pool_model.specs.LookingBack.{made_by, names_in, opens}
use Rattle.pool_model.specs.State.{Opening, State}
use Rattle.pool_model.specs.declared.entry.Entry.{Entry}
use Rattle.pool_model.proofs.OwnEntries.{made_more}
use Rattle.pin_core.specs.calls.Entering.{close_entry, decrease_entry}
use Rattle.pin_core.specs.calls.Sessions.{query_of}
use Rattle.turn_table.specs.Face.{Spot}
use Rattle.turn_table.specs.Knowledge.{GrewBeside}
use Rattle.turn_table.specs.Lists.{needed, same, times}
use Rattle.turn_table.proofs.Sums.{total-append}
use Rattle.pool.specs.declared.item.Item.{Item}
use Rattle.pool.specs.Items.{door, history, needs_of, own_in}
use Rattle.pool.specs.Passing.{IsPass, writers_out}
use Rattle.pool.specs.Seating.{ending_items, state_in}
use Rattle.pool.specs.Seats.{Quotas, live_in, quotas_in}
use Rattle.pool.specs.Sitting.{Sitting}
use Rattle.pool.specs.Standing.{IsMarked}
use Rattle.pool.proofs.AllRights.{same_none, same_one}
use Rattle.pool.proofs.Beside.{own_beside, quotas_beside}
use Rattle.pool.proofs.Listed.{history_more}
use Rattle.pool.proofs.Seated.{quotas_ended}
use Rattle.spill_top.specs.Together.{EndAll, EndsOne, Stay, numbers_of}
use Rattle.spill_top.proofs.Arrived.{all_more}
use Rattle.spill_top.proofs.Solo.{Never, never_in}

-- what holds of all of a list holds of its parts
pub front_all : {X : Type 0} (P : X → Type 0) (xs ys : List X) → AllByRecursion P (xs ++ ys) → AllByRecursion P xs
front_all P [] ys all = tt
front_all P (x ∷ xs) ys all = (all.0, front_all P xs ys all.1)

pub rest_all : {X : Type 0} (P : X → Type 0) (xs ys : List X) → AllByRecursion P (xs ++ ys) → AllByRecursion P ys
rest_all P [] ys all = all
rest_all P (x ∷ xs) ys all = rest_all P xs ys all.1

some_none : (x : ℕ) → Some x ≡ None → ⊥
some_none x is = cc

-- what the pass has seen grew while sessions ended: who isn't live stays so and enters nothing, and no session comes, where sessions
-- come by no item but one that says so
pub record Empties (old new : Spot Item) : Type 0 where
  pub more : List Item
  pub grew : new.knows.seen ≡ old.knows.seen ++ more
  pub gone : (k : ℕ) → get (quotas_in old.knows.seen) k ≡ None → get (quotas_in new.knows.seen) k ≡ None
  pub beside : (k : ℕ) → k < 240 → get (quotas_in old.knows.seen) k ≡ None → needed needs_of k more ≡ 0
  pub never : AllByRecursion IsMarked more → (m : ℕ) → Never m (history more)

pub empties_none : (spot : Spot Item) → Empties spot spot
empties_none spot = record { more = []; grew = sym (append-nil spot.knows.seen); gone = λ k none. none; beside = λ k low none. refl; never = λ marked m. tt }

pub empties_then : (a b c : Spot Item) → Empties a b → Empties b c → Empties a c
empties_then a b c first second = record {
  more = first.more ++ second.more;
  grew = second.grew ∙ ap (λ (items : List Item). items ++ second.more) first.grew ∙ append_assoc a.knows.seen first.more second.more;
  gone = λ k none. second.gone k (first.gone k none);
  beside = λ k low none.
      let one = first.beside k low none in
      let other = second.beside k low (first.gone k none) in
      let both : needed needs_of k (first.more ++ second.more) ≡ needed needs_of k first.more + needed needs_of k second.more = total-append (λ i. times k (needs_of i)) first.more second.more in
      omega (arith, one, other, both);
  never = λ marked m. subst (Never m) (sym (history_more first.more second.more))
      (all_more (λ (e : Entry). (e.maker ≢ m) ⊎ (opens e.event ≡ false)) (history first.more) (history second.more)
      (first.never (front_all IsMarked first.more second.more marked) m) (second.never (rest_all IsMarked first.more second.more marked) m));
}

-- a session ended: the pass has seen what it had and its last entries, which make no page, and it is live no more
pub record HasLeft (s : Sitting) (pass : Spot Item) : Type 0 where
  pub low : s.number < 240
  pub more : List Item
  pub seen : pass.knows.seen ≡ s.spot.knows.seen ++ more
  pub went : List Entry
  pub own : own_in s.number pass.knows.seen ≡ own_in s.number s.spot.knows.seen ++ went
  pub unnamed : names_in went ≡ []
  pub gone : get (quotas_in pass.knows.seen) s.number ≡ None

-- and other sessions end behind it
module _ (s : Sitting) (old new : Spot Item) (left : HasLeft s old) (empties : Empties old new) where
  none_more : needed needs_of s.number empties.more ≡ 0
  none_more = empties.beside s.number left.low left.gone

  its_own : (r : ℕ) → 0 < same r s.number + 0 → needed needs_of r empties.more ≡ 0
  its_own r some = elim (same_or_other r s.number) [
    | inl is ↦ subst (λ (k : ℕ). needed needs_of k empties.more ≡ 0) (sym is) none_more
    | inr other ↦ let never : same r s.number ≡ 0 = same_none r s.number other in absurd (omega (arith, never, some))
  ]

  grew : GrewBeside needs_of (s.number ∷ []) old.knows.seen new.knows.seen
  grew = record { behind = empties.more; grew = empties.grew; beside = its_own }

  still_left : HasLeft s new
  still_left = record {
    low = left.low;
    more = left.more ++ empties.more;
    seen = empties.grew ∙ ap (λ (items : List Item). items ++ empties.more) left.seen ∙ append_assoc s.spot.knows.seen left.more empties.more;
    went = left.went;
    own = own_beside (s.number ∷ []) old.knows.seen new.knows.seen grew s.number (let one : same s.number s.number ≡ 1 = same_one s.number s.number refl in omega (arith, one)) ∙ left.own;
    unnamed = left.unnamed;
    gone = empties.gone s.number left.gone;
  }

-- one session ends
module _ (o : Opening) (told : Bool) (s : Sitting) (old new : Spot Item) {free : ℕ} (is : IsPass o.slots free old) (one : EndsOne o told s old new) where
  abbrev last_state : State
  last_state = state_in o one.ends.entered

  abbrev last_items : List Item
  last_items = ending_items last_state s.number

  abbrev behind : List Item
  behind = one.ends.grew.behind

  low : s.number < 240
  low = one.sits.rests.number

  quotas_here : quotas_in one.ends.entered ≡ quotas_in old.knows.seen
  quotas_here = quotas_beside old.knows.rights old.knows.seen one.ends.entered one.ends.grew is.opens

  quotas_now : quotas_in new.knows.seen ≡ remove (quotas_in old.knows.seen) s.number
  quotas_now =
      ap quotas_in one.ends.items ∙ quotas_ended one.ends.entered last_state s.number one.ends.quota (ap (λ (q : Quotas). get q s.number) quotas_here ∙ one.ends.was)
      ∙ ap (λ (q : Quotas). remove q s.number) quotas_here

  still_gone : (k : ℕ) → get (quotas_in old.knows.seen) k ≡ None → get (quotas_in new.knows.seen) k ≡ None
  still_gone k none = ap (λ (q : Quotas). get q k) quotas_now ∙ elim (same_or_other k s.number) [
    | inl here ↦ ap (get (remove (quotas_in old.knows.seen) s.number)) here ∙ removed_same (quotas_in old.knows.seen) s.number
    | inr apart ↦ removed_other (quotas_in old.knows.seen) s.number k apart ∙ none
  ]

  none_last : (k : ℕ) → k < 240 → get (quotas_in old.knows.seen) k ≡ None → needed needs_of k (behind ++ last_items) ≡ 0
  none_last k small none =
      let apart : k ≢ s.number = λ here. some_none one.ends.quota (sym one.ends.was ∙ ap (get (quotas_in old.knows.seen)) (sym here) ∙ none) in
      let at_door : same k door ≡ 0 = same_none k door (λ here. omega (arith, here, small)) in
      let at_it : same k s.number ≡ 0 = same_none k s.number apart in
      let first : needed needs_of k behind ≡ 0 = one.ends.grew.beside k (is.numbers k small none) in
      let both : needed needs_of k (behind ++ last_items) ≡ needed needs_of k behind + ((same k s.number + 0) + ((same k door + (same k s.number + 0)) + 0)) = total-append (λ i. times k (needs_of i)) behind last_items in
      omega (arith, at_door, at_it, first, both)

  empties_one : Empties old new
  empties_one = record {
    more = behind ++ last_items;
    grew = one.ends.items ∙ ap (λ (items : List Item). items ++ last_items) one.ends.grew.grew ∙ append_assoc old.knows.seen behind last_items;
    gone = still_gone;
    beside = none_last;
    never = λ marked m. subst (Never m) (sym (history_more behind last_items))
        (all_more (λ (e : Entry). (e.maker ≢ m) ⊎ (opens e.event ≡ false)) (history behind) (history last_items)
        (never_in m behind (front_all IsMarked behind last_items marked) (one.ends.grew.beside door is.opens)) (inr refl, (inr refl, tt)));
  }

  of_it : 0 < times s.number s.spot.knows.rights
  of_it =
      let mine : same s.number s.number ≡ 1 = same_one s.number s.number refl in
      let all : times s.number s.spot.knows.rights ≡ same s.number s.number + 0 = ap (times s.number) one.sits.right in
      omega (arith, mine, all)

  own_went : own_in s.number new.knows.seen ≡ own_in s.number s.spot.knows.seen ++ history last_items
  own_went =
      let query = query_of last_state s.number in
      let first = decrease_entry s.number query (reservation_of last_state.trackers query) in
      let second = close_entry s.number query in
      ap (own_in s.number) one.ends.items
      ∙ ap (λ (h : List Entry). made_by h s.number) (history_more one.ends.entered last_items ∙ sym (append_assoc (history one.ends.entered) (first ∷ []) (second ∷ [])))
      ∙ made_more (history one.ends.entered ++ first ∷ []) second s.number refl refl
      ∙ ap (λ (es : List Entry). es ++ second ∷ []) (made_more (history one.ends.entered) first s.number refl refl)
      ∙ append_assoc (own_in s.number one.ends.entered) (first ∷ []) (second ∷ [])
      ∙ ap (λ (es : List Entry). es ++ history last_items) (own_beside s.spot.knows.rights s.spot.knows.seen one.ends.entered one.ends.own s.number of_it)

  has_left : HasLeft s new
  has_left = record {
    low = low;
    more = one.ends.own.behind ++ last_items;
    seen = one.ends.items ∙ ap (λ (items : List Item). items ++ last_items) one.ends.own.grew ∙ append_assoc s.spot.knows.seen one.ends.own.behind last_items;
    went = history last_items;
    own = own_went;
    unnamed = refl;
    gone = ap (λ (q : Quotas). get q s.number) quotas_now ∙ removed_same (quotas_in old.knows.seen) s.number;
  }

-- all of these sessions have ended
pub record HaveLeft (o : Opening) (stays : List (Option Stay)) (old new : Spot Item) : Type 0 where
  pub empties : Empties old new
  pub pass : (free : ℕ) × IsPass o.slots free new
  pub each : (place : ℕ) (stay : Stay) → slice_get stays place ≡ Some (Some stay) → HasLeft stay.last new
  pub count : live_in new.knows.seen + length (numbers_of stays) ≡ live_in old.knows.seen
  pub writers : writers_out new ≡ writers_out old

-- what stands at a place
pub at_none : (stay : Stay) → Some None ≡ Some (Some stay) → ⊥
at_none stay at = none-some stay (same_Some None (Some stay) at)

pub at_some : (a b : Stay) → Some (Some a) ≡ Some (Some b) → a ≡ b
at_some a b at = same_Some a b (same_Some (Some a) (Some b) at)

left_none : (o : Opening) (stays : List (Option Stay)) (old new : Spot Item) → HaveLeft o stays old new → HaveLeft o (None ∷ stays) old new
left_none o stays old new left = record { empties = left.empties; pass = left.pass; each = each; count = left.count; writers = left.writers }
  where
    each : (place : ℕ) (stay : Stay) → slice_get (None ∷ stays) place ≡ Some (Some stay) → HasLeft stay.last new
    each zero stay at = absurd (at_none stay at)
    each (suc place) stay at = left.each place stay at

left_some : (o : Opening) (told : Bool) (stay : Stay) (stays : List (Option Stay)) (old mid new : Spot Item) → HaveLeft o stays old mid → EndsOne o told stay.last mid new → HaveLeft o (Some stay ∷ stays) old new
left_some o told stay stays old mid new left one =
    let empties : Empties mid new = empties_one o told stay.last mid new left.pass.1 one in
    record {
      empties = empties_then old mid new left.empties empties;
      pass = one.pass;
      each = each;
      count = let before = left.count in let went = one.ends.count in omega (arith, before, went);
      writers = one.ends.writers ∙ left.writers;
    }
  where
    each : (place : ℕ) (other : Stay) → slice_get (Some stay ∷ stays) place ≡ Some (Some other) → HasLeft other.last new
    each zero other at = subst (λ (x : Stay). HasLeft x.last new) (at_some stay other at) (has_left o told stay.last mid new left.pass.1 one)
    each (suc place) other at = still_left other.last mid new (left.each place other at) (empties_one o told stay.last mid new left.pass.1 one)

pub have_left : (o : Opening) (told : Bool) (stays : List (Option Stay)) (old new : Spot Item) → (free : ℕ) × IsPass o.slots free old → EndAll o told (map (option_map (λ stay. stay.last)) stays) old new → HaveLeft o stays old new
have_left o told [] old new is ends =
    subst (λ (spot : Spot Item). HaveLeft o [] old spot) (sym ends)
    (record { empties = empties_none old; pass = is; each = λ place stay at. absurd (none-some (Some stay) at); count = omega arith; writers = refl })
have_left o told (None ∷ stays) old new is ends = left_none o stays old new (have_left o told stays old new is ends)
have_left o told (Some stay ∷ stays) old new is ends = left_some o told stay stays old ends.0 new (have_left o told stays old ends.0 is ends.1) ends.2
