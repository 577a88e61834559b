-- What the pass of a pool saw of the one session that came, and of what others did, before it came, beside it, and behind it.
use Rattle.std.proofs.Common.{◌≡◌, ◌≢◌, ◌⊎◌, ℕ, ◌+◌, ◌<◌, Bool, false, List, [], ◌∷◌, ◌++◌, Option, None, Some, Result, IfErr, OnOk, inr, refl, sym, ap, ◌∙◌, subst, arith, append_assoc}
use Rattle.std.specs.Ordering.{nat_cmp}
use Rattle.std.specs.FinMap.{get, get-empty, len-empty, remove}
use Rattle.std.specs.List.{AllByRecursion}
use Rattle.reservation_tree.proofs.Maps.{get_other, removed_same}
use Rattle.pool_model.specs.State.{Opening}
use Rattle.pool_model.specs.declared.entry.Entry.{Entry}
use Rattle.pool_model.specs.LookingBack.{made_by, opens}
use Rattle.pool_model.proofs.OwnEntries.{made_more}
use Rattle.reservation_tree.specs.Tracker.{reservation_of}
use Rattle.pin_core.specs.calls.Entering.{close_entry, decrease_entry}
use Rattle.pin_core.specs.calls.Sessions.{query_of}
use Rattle.own_entries.proofs.Outsets.{outsets_stay}
use Rattle.turn_table.specs.Face.{Spot}
use Rattle.turn_table.specs.Lists.{needed, same, times}
use Rattle.turn_table.proofs.Sums.{total-append}
use Rattle.session_calls.specs.Told.{held_in}
use Rattle.pool.specs.declared.item.Item.{Item}
use Rattle.pool.specs.Items.{door, history, needs_of, own_in}
use Rattle.pool.specs.Passing.{IsPass}
use Rattle.pool.specs.Seating.{Begins, Ends, beginning_items, ending_items, state_in}
use Rattle.pool.specs.Seats.{Quotas, live_in, quotas_in}
use Rattle.pool.specs.Sitting.{Sits, Sitting, held_by, shared, signs_by}
use Rattle.pool.specs.Standing.{IsMarked}
use Rattle.pool.proofs.AllRights.{same_none, same_one}
use Rattle.pool.proofs.Begun.{own_first}
use Rattle.pool.proofs.Beside.{others_made, own_beside, quotas_beside}
use Rattle.pool.proofs.Listed.{history_more}
use Rattle.pool.proofs.Seated.{quotas_begun, quotas_ended}
use Rattle.query_plan.specs.declared.plan.Query.{Query}
use Rattle.query_plan.specs.Sizes.{least_of, page_len}
use Rattle.query_run.specs.Both.{both_told}
use Rattle.query_run.specs.Stopped.{IsLeft, RanOver}
use Rattle.spill_top.specs.Unmarked.{MayStopUnmarked}
use Rattle.query_run.specs.Trail.{KeptRows}
use Rattle.query_plan.specs.declared.outcome.QueryErr.{QueryErr}
use Rattle.query_plan.specs.declared.outcome.Ran.{Ran}
use Rattle.spill_top.specs.Beside.{Waits}
use Rattle.spill_top.specs.Seated.{RanAlone, SatAlone}
use Rattle.spill_top.proofs.Arrived.{all_more}
use Rattle.spill_top.proofs.Departed.{front_all, rest_all}
use Rattle.spill_top.proofs.Solo.{Never, Once, among, never_in, once, once_behind, once_front}
use Rattle.spill_top.proofs.Waiting.{live_waits, never_opens}

-- what a session holds is of its number
whose : (o : Opening) (told : Bool) (s : Sitting) → (held_by o told s).session ≡ s.number
unfolding held_in
whose o told s = (outsets_stay o.block_len s.number (shared told) (made_by (history s.spot.knows.seen) s.number)).whose

-- so a query that ran leaves a session its number
pub same_number : (o : Opening) (told : Bool) (s last : Sitting) → IsLeft (held_by o told s) (held_by o told last) → last.number ≡ s.number
same_number o told s last left = sym (whose o told last) ∙ left.session ∙ whose o told s

-- nothing is live where nothing was seen
pub none_live : (items : List Item) → items ≡ [] → live_in items ≡ 0
none_live items is = ap live_in is ∙ len-empty nat_cmp ℕ

module _ (o : Opening) (told : Bool) (limit quota least slots : ℕ) (before mid later after : Spot Item) (s last : Sitting) (opened : (free : ℕ) × IsPass slots free before) (lent : (free : ℕ) × IsPass slots free later) (back : (free : ℕ) × IsPass slots free after) (fresh : before.knows.seen ≡ []) (begins : Begins o told limit quota least before mid s) (waits : Waits mid later) (sits : Sits o told last) (number : last.number ≡ s.number) (ends : Ends o last later after) where
  abbrev m : ℕ
  m = s.number

  abbrev first_items : List Item
  first_items = beginning_items m begins.query limit quota least

  abbrev last_items : List Item
  last_items = ending_items (state_in o ends.entered) last.number

  low : m < 240
  low = subst (λ (k : ℕ). k < 240) number sits.rests.number

  of_it : 0 < times m last.spot.knows.rights
  of_it =
      let one : same m last.number ≡ 1 = same_one m last.number (sym number) in
      let all : times m last.spot.knows.rights ≡ same m last.number + 0 = ap (times m) sits.right in
      omega (arith, one, all)

  -- no session but this one is live
  none_quota : (k : ℕ) → get (quotas_in begins.entered) k ≡ None
  none_quota k =
      ap (λ (q : Quotas). get q k) (quotas_beside before.knows.rights before.knows.seen begins.entered begins.grew opened.1.opens)
      ∙ ap (λ (items : List Item). get (quotas_in items) k) fresh ∙ get-empty nat_cmp k

  no_other : (k : ℕ) → k ≢ m → get (quotas_in mid.knows.seen) k ≡ None
  no_other k apart =
      ap (λ (items : List Item). get (quotas_in items) k) begins.items
      ∙ ap (λ (q : Quotas). get q k) (quotas_begun begins.entered m begins.query limit quota least (none_quota m))
      ∙ get_other (quotas_in begins.entered) m quota k apart ∙ none_quota k

  -- before it came no session had made anything
  none_before : (k : ℕ) → k < 240 → needed needs_of k begins.entered ≡ 0
  none_before k small =
      ap (needed needs_of k) (begins.grew.grew ∙ ap (λ (items : List Item). items ++ begins.grew.behind) fresh)
      ∙ begins.grew.beside k (opened.1.numbers k small (ap (λ (items : List Item). get (quotas_in items) k) fresh ∙ get-empty nat_cmp k))

  -- and no other has since
  none_last : (k : ℕ) → k < 240 → k ≢ m → needed needs_of k last.spot.knows.seen ≡ 0
  none_last k small apart =
      let at_door : same k door ≡ 0 = same_none k door (λ is. omega (arith, is, small)) in
      let at_it : same k m ≡ 0 = same_none k m apart in
      let came : needed needs_of k mid.knows.seen ≡ needed needs_of k begins.entered + ((same k door + (same k m + 0)) + ((same k m + 0) + 0)) =
      ap (needed needs_of k) begins.items ∙ total-append (λ i. times k (needs_of i)) begins.entered first_items in
      let waited : needed needs_of k later.knows.seen ≡ needed needs_of k mid.knows.seen + needed needs_of k waits.more =
      ap (needed needs_of k) waits.grew ∙ total-append (λ i. times k (needs_of i)) mid.knows.seen waits.more in
      let all : needed needs_of k ends.entered ≡ needed needs_of k later.knows.seen + needed needs_of k ends.grew.behind =
      ap (needed needs_of k) ends.grew.grew ∙ total-append (λ i. times k (needs_of i)) later.knows.seen ends.grew.behind in
      let own : needed needs_of k ends.entered ≡ needed needs_of k last.spot.knows.seen + needed needs_of k ends.own.behind =
      ap (needed needs_of k) ends.own.grew ∙ total-append (λ i. times k (needs_of i)) last.spot.knows.seen ends.own.behind in
      let first : needed needs_of k begins.entered ≡ 0 = none_before k small in
      let beside : needed needs_of k waits.more ≡ 0 = waits.beside k small (no_other k apart) in
      let last_ones : needed needs_of k ends.grew.behind ≡ 0 = ends.grew.beside k (lent.1.numbers k small (ap (λ (q : Quotas). get q k) waits.quotas ∙ no_other k apart)) in
      omega (arith, at_door, at_it, came, waited, all, own, first, beside, last_ones)

  -- the items behind its coming, with which none comes
  abbrev behind : List Item
  behind = waits.more ++ ends.grew.behind

  entered_is : ends.entered ≡ begins.entered ++ (first_items ++ behind)
  entered_is =
      ends.grew.grew ∙ ap (λ (items : List Item). items ++ ends.grew.behind) (waits.grew ∙ ap (λ (items : List Item). items ++ waits.more) begins.items)
      ∙ append_assoc (begins.entered ++ first_items) waits.more ends.grew.behind ∙ append_assoc begins.entered first_items behind

  never_comes : AllByRecursion IsMarked behind → Never m (history behind)
  never_comes marked = subst (Never m) (sym (history_more waits.more ends.grew.behind))
      (all_more (λ (e : Entry). (e.maker ≢ m) ⊎ (opens e.event ≡ false)) (history waits.more) (history ends.grew.behind)
      (never_opens m (history waits.more) (waits.none_comes (front_all IsMarked waits.more ends.grew.behind marked)))
      (never_in m ends.grew.behind (rest_all IsMarked waits.more ends.grew.behind marked) (ends.grew.beside door lent.1.opens)))

  -- it came once
  came_once : AllByRecursion IsMarked after.knows.seen → Once m (history last.spot.knows.seen)
  came_once marked =
      let all : AllByRecursion IsMarked (begins.entered ++ (first_items ++ behind)) =
      subst (AllByRecursion IsMarked) entered_is (front_all IsMarked ends.entered last_items (subst (AllByRecursion IsMarked) ends.items marked)) in
      let rest : AllByRecursion IsMarked behind = (rest_all IsMarked begins.entered (first_items ++ behind) all).1.1 in
      let both : history begins.entered ++ history (first_items ++ behind) ≡ history last.spot.knows.seen ++ history ends.own.behind =
      sym (ap history entered_is ∙ history_more begins.entered (first_items ++ behind)) ∙ ap history ends.own.grew ∙ history_more last.spot.knows.seen ends.own.behind in
      once_front m (history last.spot.knows.seen) (history ends.own.behind) (subst (Once m) both
      (once_behind m (history begins.entered) (history (first_items ++ behind)) (others_made m begins.entered (none_before m low)) (inr (inr refl, never_comes rest))))

  -- its last entries
  abbrev went : List Entry
  went = history last_items

  own_went : own_in m after.knows.seen ≡ own_in m last.spot.knows.seen ++ went
  own_went =
      let query = query_of (state_in o ends.entered) last.number in
      let first = decrease_entry last.number query (reservation_of (state_in o ends.entered).trackers query) in
      let second = close_entry last.number query in
      ap (own_in m) ends.items
      ∙ ap (λ (h : List Entry). made_by h m) (history_more ends.entered last_items ∙ sym (append_assoc (history ends.entered) (first ∷ []) (second ∷ [])))
      ∙ made_more (history ends.entered ++ first ∷ []) second m number refl
      ∙ ap (λ (es : List Entry). es ++ second ∷ []) (made_more (history ends.entered) first m number refl)
      ∙ append_assoc (own_in m ends.entered) (first ∷ []) (second ∷ [])
      ∙ ap (λ (es : List Entry). es ++ went) (own_beside last.spot.knows.rights last.spot.knows.seen ends.entered ends.own m of_it)

  -- it went
  gone_quota : get (quotas_in after.knows.seen) m ≡ None
  gone_quota =
      let had : get (quotas_in ends.entered) last.number ≡ Some ends.quota =
      ap (λ (q : Quotas). get q last.number) (quotas_beside later.knows.rights later.knows.seen ends.entered ends.grew lent.1.opens) ∙ ends.was in
      ap (λ (items : List Item). get (quotas_in items) m) ends.items
      ∙ ap (λ (q : Quotas). get q m) (quotas_ended ends.entered (state_in o ends.entered) last.number ends.quota had)
      ∙ ap (get (remove (quotas_in ends.entered) last.number)) (sym number) ∙ removed_same (quotas_in ends.entered) last.number

  sat_alone : SatAlone o told limit quota least after
  sat_alone = record {
    first = s;
    last = last;
    begun = begins.held;
    query = begins.query;
    came = ap (own_in m) (begins.seen ∙ begins.items) ∙ own_first o told begins.entered m begins.query limit quota least;
    number = number;
    more = ends.own.behind ++ last_items;
    seen = ends.items ∙ ap (λ (items : List Item). items ++ last_items) ends.own.grew ∙ append_assoc last.spot.knows.seen ends.own.behind last_items;
    went = went;
    own = own_went;
    right = back.1.numbers m low gone_quota;
    among = among m (history last.spot.knows.seen) (λ k small apart. others_made k last.spot.knows.seen (none_last k small apart));
    once = λ marked. once m (history last.spot.knows.seen) (came_once marked);
  }

  pub none_left : live_in after.knows.seen ≡ 0
  none_left =
      let none : live_in before.knows.seen ≡ 0 = none_live before.knows.seen fresh in
      let came = begins.count in
      let stays : live_in later.knows.seen ≡ live_in mid.knows.seen = live_waits mid later waits in
      let gone = ends.count in
      omega (arith, none, came, stays, gone)

-- what a query did over that session
module _ (o : Opening) (told : Bool) (plan : Query) (quota least slots : ℕ) (before mid later after : Spot Item) (s last : Sitting) (opened : (free : ℕ) × IsPass slots free before) (lent : (free : ℕ) × IsPass slots free later) (back : (free : ℕ) × IsPass slots free after) (fresh : before.knows.seen ≡ []) (is : least ≡ least_of plan o.block_len) (begins : Begins o told plan.limit quota least before mid s) (waits : Waits mid later) (sits : Sits o told last) (ends : Ends o last later after) where
  pub ran_alone : (lefts rights : Option (List ℕ)) (result : Result Ran QueryErr)
      → RanOver plan (both_told lefts rights) (held_by o told s) (held_by o told last) (signs_by o s) (signs_by o last)
      → IfErr result (MayStopUnmarked plan (both_told lefts rights) (held_by o told s) (signs_by o s) (signs_by o last))
      → OnOk result (KeptRows plan (page_len plan (held_by o told s).block_len) lefts rights (signs_by o s).trail (signs_by o last).trail)
      → RanAlone o told plan quota after lefts rights result
  unfolding sat_alone
  ran_alone lefts rights result over stop kept = record {
    sat = sat_alone o told plan.limit quota (least_of plan o.block_len) slots before mid later after s last opened lent back fresh
        (subst (λ (n : ℕ). Begins o told plan.limit quota n before mid s) is begins) waits sits (same_number o told s last over.left) ends;
    over = over;
    stop = stop;
    kept = subst (λ (n : ℕ). OnOk result (KeptRows plan (page_len plan n) lefts rights (signs_by o s).trail (signs_by o last).trail)) begins.held.block_len kept;
  }
