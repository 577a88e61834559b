-- A pool whose sessions have ended closes.
use Rattle.std.proofs.Common.{◌≡◌, ℕ, ◌<◌, Bool, List, [], length, take, drop, Option, Some, None, option_map, refl, sym, ap, ◌∙◌, subst, arith}
use Rattle.std.specs.Ordering.{nat_cmp}
use Rattle.std.specs.FinMap.{get, get-empty, empty_of_len}
use Rattle.std.specs.List.{sum_by}
use Rattle.std.proofs.lemmas.List.{take-append-drop}
use Rattle.outside.specs.declared.slot.Slot.{Ghosts}
use Rattle.pool_model.specs.Owning.{IsClientOf}
use Rattle.pool_model.specs.State.{Opening, Session}
use Rattle.pool_model.specs.declared.entry.Entry.{Entry}
use Rattle.pool_model.specs.Traces.{IsLegalTrace, skeletons}
use Rattle.pool_model.specs.TraceLaws.{LegalHistoriesHaveTraces, TraceFronts}
use Rattle.pool_model.proofs.Failures.{PagesOwned, legal_pages_are_owned}
use Rattle.pin_core.specs.declared.parts.Parts.{Parts}
use Rattle.pin_core.specs.StateOf.{state_of}
use Rattle.pin_core.specs.Standing.{slots_home}
use Rattle.pin_core.specs.declared.tally.Tally.{Tally}
use Rattle.pin_core.specs.Tallies.{Counted, all_failures, all_stale, silence, tally_of, written_blocks}
use Rattle.pin_core.proofs.Tallied.{tally_same}
use Rattle.turn_table.specs.Lists.{times}
use Rattle.turn_table.specs.Knowledge.{GrewBeside}
use Rattle.turn_table.specs.Face.{Spot}
use Rattle.session_calls.specs.declared.trace.Trace.{Trace}
use Rattle.session_calls.specs.Kept.{IsTraceOf}
use Rattle.session_calls.specs.Having.{Sight}
use Rattle.session_calls.specs.Moving.{slots_out}
use Rattle.session_calls.specs.Outgoing.{opening_tally, tally_whole}
use Rattle.pool.specs.declared.item.Item.{Item}
use Rattle.pool.specs.Items.{door, history, needs_of}
use Rattle.pool.specs.Seats.{Quotas, live_in, quotas_in}
use Rattle.pool.specs.Opening.{ClosesTraced, ClosesWith, HasNumbers}
use Rattle.pool.specs.Standing.{StandsAs}
use Rattle.pool.proofs.Beside.{quotas_beside}
use Rattle.pool.proofs.Summed.{none_out, ones, whole_home}
use Rattle.pool.proofs.Stood.{legal_here}

no_quota : (o : Option Session) → option_map (λ x. x.quota) o ≡ None → o ≡ None
no_quota None is = refl
no_quota (Some x) is = cc

none_some : (x : Session) → None ≡ Some x → ⊥
none_some x is = cc

-- a pool that has just opened has none
pub none_opened : {D : Type 0} (slot : Ghosts D) (o : Opening) (told : Bool) (first : Tally) (sight : Sight) (v : Parts D) → StandsAs slot o told first [] sight v → (m : ℕ) → get (state_of v).sessions m ≡ None
none_opened slot o told first sight v stood m = no_quota (get (state_of v).sessions m) (stood.sessions m ∙ get-empty nat_cmp m)

module _ {D : Type 0} (slot : Ghosts D) (o : Opening) (told : Bool) (first : Tally) (pass : Spot Item) (log : List Item) (sight : Sight) (v : Parts D) (grew : GrewBeside needs_of pass.knows.rights pass.knows.seen log) (stood : StandsAs slot o told first log sight v) where
  -- the pass has seen all come and go
  pub none_left : 0 < times door pass.knows.rights → live_in pass.knows.seen ≡ 0 → (m : ℕ) → get (state_of v).sessions m ≡ None
  none_left opens none m =
      no_quota (get (state_of v).sessions m)
      (stood.sessions m ∙ ap (λ (q : Quotas). get q m) (quotas_beside pass.knows.rights pass.knows.seen log grew opens ∙ empty_of_len (quotas_in pass.knows.seen) none) ∙ get-empty nat_cmp m)

  module _ (opens : 0 < times door pass.knows.rights) (none : live_in pass.knows.seen ≡ 0) where
    -- each page is a session's
    no_page : (p : ℕ) → get (state_of v).pages p ≡ None
    no_page p = elim (get (state_of v).pages p) as (λ x. get (state_of v).pages p ≡ x → x ≡ None) [
      | None ↦ λ is. refl
      | Some x ↦ λ is.
          let owned : PagesOwned (state_of v) = subst PagesOwned (sym stood.whole.stands.state) (legal_pages_are_owned o sight.trail stood.whole.stands.legal) in
          let its : IsClientOf (state_of v) x.session x.client = owned p x is in
          absurd (none_some its.session (sym (none_left opens none x.session) ∙ its.opened))
    ] refl

    pub closed_with : (slots : List D) → ((measure : D → ℕ) → sum_by measure slots ≡ slots_home measure v) → ClosesWith slot o told first pass slots
    closed_with slots home = record {
      items = log;
      grew = grew;
      legal = legal_here slot o told first log sight v stood;
      marked = stood.marked;
      count =
          let count = ones slots in
          let all = home (λ d. 1) in
          let out : slots_out (state_of v).pages ≡ 0 = none_out (state_of v).pages no_page in
          let kept = stood.whole.home in
          omega (arith, count, all, out, kept);
      tell = λ is. home (silence slot) ∙ stood.whole.tell is;
      counted =
          let same : tally_whole slot sight.counts v ≡ tally_of slot slots =
          whole_home slot sight.counts v no_page ∙ tally_same slot (λ measure. slots_home measure v) (λ measure. sum_by measure slots) (λ measure. sym (home measure)) in
          subst (λ (z : Sight). Counted (all_failures z.trail) (written_blocks z.trail) (all_stale z.trail) (opening_tally z.counts) (tally_of slot slots)) stood.sight_is
          (subst (Counted (all_failures sight.trail) (written_blocks sight.trail) (all_stale sight.trail) (opening_tally sight.counts)) same stood.whole.sums.counted);
    }

    -- and the trace is that of a legal history, cut
    pub closed_traced : (slots : List D) → ((measure : D → ℕ) → sum_by measure slots ≡ slots_home measure v) → (trace : Trace) → HasNumbers o trace → IsTraceOf sight.trail trace → LegalHistoriesHaveTraces → TraceFronts
        → ClosesTraced slot o told first pass slots trace
    unfolding closed_with
    closed_traced slots home trace numbers is legal fronts =
        let same : history log ≡ sight.trail = sym (ap (λ (z : Sight). z.trail) stood.sight_is) in
        let all = skeletons (history log) in
        let its : IsTraceOf (history log) trace = subst (λ (h : List Entry). IsTraceOf h trace) (sym same) is in
        let count = length trace.entries.items in
        record {
          closes = closed_with slots home;
          opening = numbers;
          entries = its;
          legal = subst (IsLegalTrace o) (sym its.first)
              (fronts o (take count all) (drop count all) (subst (IsLegalTrace o) (sym (take-append-drop count all)) (legal o (history log) (legal_here slot o told first log sight v stood))));
        }
