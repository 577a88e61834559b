-- What a pool tells of the queries that ran over it, once it has closed.
use Rattle.std.proofs.Common.{◌≡◌, ◌∙◌, ◌≤◌, ◌*◌, ◌++◌, ℕ, zero, suc, Bool, true, List, [], ◌∷◌, Option, Some, IfSome, length, refl, sym, ap, subst, arith, append_assoc}
use Rattle.std.specs.List.{AllByRecursion, slice_get, sum_by}
use Rattle.std.proofs.lemmas.Option.{none-some}
use Rattle.outside.specs.declared.slot.Slot.{Ghosts}
use Rattle.turn_table.specs.Face.{Spot}
use Rattle.pool_model.specs.Bytes.{bytes_of}
use Rattle.pool_model.specs.Legal.{IsLegal}
use Rattle.pool_model.specs.State.{Opening}
use Rattle.pool_model.specs.declared.entry.Entry.{Entry}
use Rattle.pool_model.proofs.Fronts.{legal_fronts}
use Rattle.pin_core.specs.Tallies.{Counted, all_failures, all_stale, tally_of, written_blocks}
use Rattle.pin_core.specs.declared.tally.Tally.{Tally}
use Rattle.pool.specs.declared.item.Item.{Item}
use Rattle.pool.specs.Items.{history}
use Rattle.pool.specs.Opening.{ClosesWith}
use Rattle.pool.specs.Sitting.{held_by, signs_by}
use Rattle.pool.specs.Standing.{IsMarked}
use Rattle.pool.proofs.Beside.{own_beside}
use Rattle.pool.proofs.Listed.{history_more}
use Rattle.session_shares.specs.Shares.{LaidIsStored, NamesFit, PartsFit, written_for}
use Rattle.query_plan.specs.Sizes.{page_len}
use Rattle.query_plan.specs.declared.plan.Query.{Query}
use Rattle.query_run.specs.Plans.{IsRunnable}
use Rattle.query_run.specs.Spilling.{KeptIsLaid}
use Rattle.query_run.specs.Stopped.{MakesFew}
use Rattle.query_run.specs.Through.{rows_through}
use Rattle.spill_top.specs.declared.ending.Ending.{Ending}
use Rattle.spill_top.specs.declared.ending.Ending.TheVariants.{Lines}
use Rattle.spill_top.specs.Pooled.{all_tell}
use Rattle.spill_top.specs.Running.{HaveEnded, Seen, SomeSpends}
use Rattle.spill_top.specs.Sides.{told_of}
use Rattle.spill_top.specs.Steps.{with_slots}
use Rattle.spill_top.specs.Storing.{HaveStored, all_owed}
use Rattle.spill_top.specs.Together.{RanTogether, Stay, Stayed, StopsAs, numbers_of}
use Rattle.spill_top.proofs.Alone.{front_all}
use Rattle.spill_top.proofs.Pools.{less}
use Rattle.spill_top.proofs.SharedNames.{some_spends}
use Rattle.spill_top.proofs.SharedStops.{shared_stop}
use Rattle.spill_top.proofs.SharedStored.{IsStored, all_stored, memory_is, stored_for_one, stored_together}
use Rattle.spill_top.proofs.Showing.{failures_told}

-- a list as long has something there
there : {A B : Type 0} (xs : List A) (ys : List B) → length ys ≡ length xs → (place : ℕ) (x : A) → slice_get xs place ≡ Some x → (y : B) × (slice_get ys place ≡ Some y)
there [] ys many place x at = absurd (none-some x at)
there (a ∷ xs) [] many place x at = absurd (omega (arith, many))
there (a ∷ xs) (b ∷ ys) many zero x at = (b, refl)
there (a ∷ xs) (b ∷ ys) many (suc place) x at = there xs ys (omega (arith, many)) place x at

module _ {D : Type 0} (slot : Ghosts D) (o : Opening) (told : Bool) (first : Tally) (pass : Spot Item) (slots : List D) (closed : ClosesWith slot o told first pass slots)
    (start now : Seen) (same : start.slots ≡ first) (refused : List (Option Ending)) (queries : List Query) (ends : List Ending) (ran : RanTogether o told refused start now queries pass ends) where
  abbrev whole : List Entry
  whole = history closed.items

  abbrev last : Tally
  last = tally_of slot slots

  -- the history goes on behind what the pass has seen
  whole_on : whole ≡ history pass.knows.seen ++ history closed.grew.behind
  whole_on = ap history closed.grew.grew ∙ history_more pass.knows.seen closed.grew.behind

  counted : Counted (all_failures whole) (written_blocks whole) (all_stale whole) start.slots last
  counted = subst (λ (t : Tally). Counted (all_failures whole) (written_blocks whole) (all_stale whole) t last) (sym same) closed.counted

  -- ---- how the queries ended

  module _ (law : NamesFit) (tell : told ≡ all_tell first) (zero : o.first_name ≡ 0) (most : length queries ≤ 16) (many : length ends ≡ length queries) where
    tells : told ≡ all_tell start.slots
    tells = tell ∙ ap all_tell (sym same)

    made : (place : ℕ) (query : Query) (stay : Stay) → slice_get queries place ≡ Some query → slice_get ran.stays place ≡ Some (Some stay)
        → told ≡ true → IfSome (told_of query start.files) (λ both. MakesFew (16 * rows_through query both) (signs_by o stay.first) (signs_by o stay.last))
    made place query stay at_query at =
        let end = there queries ends many place query at_query in
        (ran.showed place query end.0 stay at_query end.1 at).few

    spends : (place : ℕ) (query : Query) (stay : Stay) → slice_get queries place ≡ Some query → slice_get ran.stays place ≡ Some (Some stay) → (signs_by o stay.last).spent ≡ true → SomeSpends queries start
    spends =
        let legal : IsLegal o (history pass.knows.seen) = legal_fronts o (history pass.knows.seen) (history closed.grew.behind) (subst (IsLegal o) whole_on closed.legal) in
        let marked : AllByRecursion IsMarked pass.knows.seen = front_all IsMarked pass.knows.seen closed.grew.behind (subst (AllByRecursion IsMarked) closed.grew.grew closed.marked) in
        some_spends o told start pass tells queries ran.stays ran.many most ran.all ran.each made law zero legal marked

    stops_as : (place : ℕ) (query : Query) (stay : Stay) → slice_get queries place ≡ Some query → slice_get ran.stays place ≡ Some (Some stay)
        → StopsAs start (with_slots last now) o.block_len queries query (held_by o told stay.first) (signs_by o stay.first) (signs_by o stay.last)
    stops_as place query stay at_query at =
        let stayed : Stayed o told query pass stay = ran.each place query stay at_query at in
        let seen : List Item = stay.last.spot.knows.seen in
        let behind : List Item = stayed.more ++ closed.grew.behind in
        let items_on : closed.items ≡ seen ++ behind =
        closed.grew.grew ∙ ap (λ (items : List Item). items ++ closed.grew.behind) stayed.seen ∙ append_assoc seen stayed.more closed.grew.behind in
        let fails = failures_told o stay.last.number (history seen) (history behind) whole (ap history items_on ∙ history_more seen behind) in
        record {
          told = λ is. stayed.begun.told ∙ tells ∙ is;
          block_len_is = stayed.begun.block_len;
          stop = λ both why may. shared_stop query (page_len query o.block_len) query.quota both (SomeSpends queries start) (held_by o told stay.first) (signs_by o stay.first) (signs_by o stay.last)
              (all_failures whole) (written_blocks whole) (all_stale whole) start.slots last counted fails stayed.begun.free_slots (ap (page_len query) stayed.begun.block_len) (λ is. stayed.begun.told ∙ tells ∙ is) (spends place query stay at_query at) why may;
        }

    pub have_ended : HaveEnded start (with_slots last now) o.block_len refused queries ends
    have_ended = ran.ended last (less (all_failures whole) (written_blocks whole) (all_stale whole) start.slots last counted) stops_as

  -- ---- what they owe

  module _ (spills : KeptIsLaid) (law : LaidIsStored) (parts : PartsFit) (runs : (place : ℕ) (query : Query) → slice_get queries place ≡ Some query → IsRunnable query) where
    each_stored : (place lines : ℕ) (query : Query) → slice_get queries place ≡ Some query → slice_get ends place ≡ Some (Lines lines)
        → IsStored (bytes_of o.block_len o.blocks) o.block_len start.files (λ m. written_for m whole) query (slice_get ran.stays place)
    each_stored place lines query at_query at_end =
        let seated = ran.seated place lines at_end in
        let stay : Stay = seated.0 in
        let stayed : Stayed o told query pass stay = ran.each place query stay at_query seated.1 in
        let kept = (ran.showed place query (Lines lines) stay at_query at_end seated.1).kept refl in (
          stay,
          seated.1,
          stored_for_one o told pass whole closed.legal query stay stayed (own_beside pass.knows.rights pass.knows.seen closed.items closed.grew stay.first.number stayed.right)
              spills law (runs place query at_query) start.files kept.0 kept.1 kept.2 kept.3 kept.4,
        )

    pub have_stored : HaveStored o.block_len (all_owed (o.blocks * o.block_len) start.files queries ends) first last
    have_stored =
        stored_together o.block_len (all_owed (o.blocks * o.block_len) start.files queries ends) (all_failures whole) (all_stale whole) whole (numbers_of ran.stays) first last parts ran.all.apart
        (subst (λ (memory : ℕ). all_owed memory start.files queries ends ≤ sum_by (λ m. written_for m whole) (numbers_of ran.stays) * o.block_len) (memory_is o.block_len o.blocks)
        (all_stored (bytes_of o.block_len o.blocks) o.block_len start.files (λ m. written_for m whole) queries ends ran.stays each_stored)) closed.counted
