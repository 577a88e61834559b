-- What others enter while a pass waits. Where the pass told writers to end, or took one back, others entered items (stops_waits,
-- takes_waits); so they did at none (waits_none), and through two such times (waits_then). It lets who isn't live stay so, and lets no session
-- come (empties_waits, none_opens, live_waits).
use Rattle.std.proofs.Common.{◌≡◌, ℕ, ◌+◌, ◌<◌, false, List, [], ◌∷◌, ◌++◌, None, inr, refl, sym, ap, ◌∙◌, subst, arith, append_assoc, append-nil}
use Rattle.std.specs.FinMap.{get, len}
use Rattle.std.specs.List.{AllByRecursion}
use Rattle.pool_model.specs.LookingBack.{opens}
use Rattle.pool_model.specs.declared.entry.Entry.{Entry}
use Rattle.turn_table.specs.Face.{Spot}
use Rattle.turn_table.specs.Lists.{needed, same, times}
use Rattle.turn_table.proofs.Sums.{total-append}
use Rattle.pool.specs.declared.item.Item.{Item}
use Rattle.pool.specs.declared.item.Item.TheVariants.{Made, Seated, Went, Stop}
use Rattle.pool.specs.Items.{door, history, needs_of}
use Rattle.pool.specs.Passing.{IsPass}
use Rattle.pool.specs.Seats.{Quotas, live_in, quotas_in}
use Rattle.pool.specs.Sitting.{Sitting}
use Rattle.pool.specs.Standing.{IsMarked}
use Rattle.pool.specs.Writers.{Stops, TakesBack}
use Rattle.pool.proofs.AllRights.{same_none}
use Rattle.pool.proofs.Beside.{quotas_beside}
use Rattle.pool.proofs.Listed.{history_more}
use Rattle.pool.proofs.NoStop.{quotas_stop}
use Rattle.spill_top.specs.Beside.{Waits}
use Rattle.spill_top.proofs.Arrived.{all_more}
use Rattle.spill_top.proofs.Departed.{Empties, front_all, rest_all}
use Rattle.spill_top.proofs.Solo.{Never}

-- a sum that is nothing has nothing in it
first_none : (a b : ℕ) → a + b ≡ 0 → a ≡ 0
first_none a b is = omega (arith, is)

rest_none : (a b : ℕ) → a + b ≡ 0 → b ≡ 0
rest_none a b is = omega (arith, is)

-- no session comes by items that need no door
pub none_opens : (items : List Item) → AllByRecursion IsMarked items → needed needs_of door items ≡ 0 → AllByRecursion (λ e. opens e.event ≡ false) (history items)
none_opens [] marked none = tt
none_opens (Seated e ∷ items) marked none =
    let never : 1 ≡ 0 = first_none 1 (same door e.maker + 0) (first_none (times door (needs_of (Seated e))) (needed needs_of door items) none) in
    absurd (omega (arith, never))
none_opens (Made e ∷ items) marked none = (marked.0, none_opens items marked.1 (rest_none (times door (needs_of (Made e))) (needed needs_of door items) none))
none_opens (Went k count ∷ items) marked none = none_opens items marked.1 (rest_none (times door (needs_of (Went k count))) (needed needs_of door items) none)
none_opens (Stop ∷ items) marked none =
    let never : 1 ≡ 0 = first_none 1 0 (first_none (times door (needs_of Stop)) (needed needs_of door items) none) in
    absurd (omega (arith, never))

pub waits_none : (spot : Spot Item) → Waits spot spot
waits_none spot = record { table = refl; more = []; grew = sym (append-nil spot.knows.seen); quotas = refl; beside = λ k low none. refl; none_comes = λ marked. tt }

pub waits_then : (a b c : Spot Item) → Waits a b → Waits b c → Waits a c
waits_then a b c first second = record {
  table = second.table ∙ first.table;
  more = first.more ++ second.more;
  grew = second.grew ∙ ap (λ (items : List Item). items ++ second.more) first.grew ∙ append_assoc a.knows.seen first.more second.more;
  quotas = second.quotas ∙ first.quotas;
  beside = λ k low none.
      let one = first.beside k low none in
      let other = second.beside k low (ap (λ (q : Quotas). get q k) first.quotas ∙ none) in
      let both : needed needs_of k (first.more ++ second.more) ≡ needed needs_of k first.more + needed needs_of k second.more = total-append (λ i. times k (needs_of i)) first.more second.more in
      omega (arith, one, other, both);
  none_comes = λ marked. subst (AllByRecursion (λ (e : Entry). opens e.event ≡ false)) (sym (history_more first.more second.more))
      (all_more (λ (e : Entry). opens e.event ≡ false) (history first.more) (history second.more)
      (first.none_comes (front_all IsMarked first.more second.more marked)) (second.none_comes (rest_all IsMarked first.more second.more marked)));
}

-- what a pass learns of others, which has the door and the numbers of sessions that aren't live
module _ {slots free : ℕ} (old new : Spot Item) (is : IsPass slots free old) where
  pub takes_waits : (w : Sitting) → TakesBack w old new → Waits old new
  takes_waits w back = record {
    table = back.keeps.table;
    more = back.grew.behind;
    grew = back.grew.grew;
    quotas = quotas_beside old.knows.rights old.knows.seen new.knows.seen back.grew is.opens;
    beside = λ k low none. back.grew.beside k (is.numbers k low none);
    none_comes = λ marked. none_opens back.grew.behind marked (back.grew.beside door is.opens);
  }

  module _ (stops : Stops old new) where
    abbrev behind : List Item
    behind = stops.grew.behind

    no_number : (k : ℕ) → k < 240 → get (quotas_in old.knows.seen) k ≡ None → needed needs_of k (behind ++ Stop ∷ []) ≡ 0
    no_number k low none =
        let first : needed needs_of k behind ≡ 0 = stops.grew.beside k (is.numbers k low none) in
        let at_door : same k door ≡ 0 = same_none k door (λ here. omega (arith, here, low)) in
        let both : needed needs_of k (behind ++ Stop ∷ []) ≡ needed needs_of k behind + ((same k door + 0) + 0) = total-append (λ i. times k (needs_of i)) behind (Stop ∷ []) in
        omega (arith, first, at_door, both)

    pub stops_waits : Waits old new
    stops_waits = record {
      table = stops.keeps.table;
      more = behind ++ Stop ∷ [];
      grew = stops.items ∙ ap (λ (items : List Item). items ++ Stop ∷ []) stops.grew.grew ∙ append_assoc old.knows.seen behind (Stop ∷ []);
      quotas = ap quotas_in stops.items ∙ quotas_stop stops.entered ∙ quotas_beside old.knows.rights old.knows.seen stops.entered stops.grew is.opens;
      beside = no_number;
      none_comes = λ marked. subst (AllByRecursion (λ (e : Entry). opens e.event ≡ false)) (sym (history_more behind (Stop ∷ []) ∙ append-nil (history behind)))
          (none_opens behind (front_all IsMarked behind (Stop ∷ []) marked) (stops.grew.beside door is.opens));
    }

-- with no entry a session comes that comes with none of them
pub never_opens : (m : ℕ) (h : List Entry) → AllByRecursion (λ e. opens e.event ≡ false) h → Never m h
never_opens m [] none = tt
never_opens m (e ∷ h) none = (inr none.0, never_opens m h none.1)

pub empties_waits : (old new : Spot Item) → Waits old new → Empties old new
empties_waits old new waits = record {
  more = waits.more;
  grew = waits.grew;
  gone = λ k none. ap (λ (q : Quotas). get q k) waits.quotas ∙ none;
  beside = waits.beside;
  never = λ marked m. never_opens m (history waits.more) (waits.none_comes marked);
}

-- as many are live
pub live_waits : (old new : Spot Item) → Waits old new → live_in new.knows.seen ≡ live_in old.knows.seen
live_waits old new waits = ap (λ (q : Quotas). len q) waits.quotas
