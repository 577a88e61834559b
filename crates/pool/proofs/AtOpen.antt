-- A pool opens.
use Rattle.std.proofs.Common.{◌≡◌, ℕ, Bool, List, [], ◌∷◌, ◌++◌, length, Some, None, option_map, refl, sym, ap, ◌∙◌, subst, arith}
use Rattle.std.specs.Ordering.{nat_cmp}
use Rattle.std.specs.FinMap.{get, empty, get-empty}
use Rattle.std.specs.List.{sum_by}
use Rattle.outside.specs.declared.slot.Slot.{Ghosts}
use Rattle.reservation_tree.proofs.Sums.{total-none}
use Rattle.pool_model.specs.declared.entry.Entry.{Entry}
use Rattle.pool_model.specs.State.{Opening, Session, State}
use Rattle.pin_core.specs.declared.conf.PoolConf.{PoolConf}
use Rattle.pin_core.specs.declared.parts.Parts.{Parts}
use Rattle.pin_core.specs.declared.tally.Tally.{Tally}
use Rattle.pin_core.specs.calls.Setup.{IsOpeningOf}
use Rattle.pin_core.specs.StateOf.{state_of}
use Rattle.pin_core.specs.Standing.{StandsFor, slots_home}
use Rattle.pin_core.specs.calls.Opening.{spare_of}
use Rattle.pin_core.specs.Tallies.{Counted, silence, tally_of}
use Rattle.pin_core.proofs.Tallied.{tally_same, uncounted_yet}
use Rattle.session_calls.specs.declared.count.Count.{Count}
use Rattle.session_calls.specs.declared.count.Count.TheVariants as count
use Rattle.session_calls.specs.Having.{Sight}
use Rattle.session_calls.specs.Moving.{quota_at, slots_out}
use Rattle.session_calls.specs.Outgoing.{CountsWhole, tally_whole}
use Rattle.pool.specs.Seats.{quotas_in, taken_in}
use Rattle.pool.specs.Opening.{OpensAs}
use Rattle.pool.specs.Standing.{StandsAs}
use Rattle.pool.proofs.Summed.{none_out, ones, whole_home}

pub none_taken : taken_in [] ≡ 0
none_taken = total-none (λ m quota. quota) (quotas_in []) (λ m quota there. let none : None ≡ Some quota = sym (get-empty nat_cmp m) ∙ there in cc)

-- the first count, of the slots as they were read
pub first_count : {D : Type 0} (slot : Ghosts D) (slots read : List D) (before after : List Count) → before ≡ [] → after ≡ before ++ count.Opening (tally_of slot read) ∷ [] → read ≡ slots → after ≡ count.Opening (tally_of slot slots) ∷ []
first_count {D} slot slots read before after none goes same =
    goes ∙ ap (λ (cs : List Count). cs ++ count.Opening (tally_of slot read) ∷ []) none ∙ ap (λ (ds : List D). count.Opening (tally_of slot ds) ∷ []) same

module _ {D : Type 0} (slot : Ghosts D) (o : Opening) (told : Bool) (first : Tally) where
  -- a pool that opens counts what its slots do
  sums_open : (slots : List D) (sight : Sight) (v : Parts D) → sight.trail ≡ [] → sight.counts ≡ count.Opening (tally_of slot slots) ∷ []
      → StandsFor slot o [] v → ((measure : D → ℕ) → slots_home measure v ≡ sum_by measure slots) → CountsWhole slot sight.trail sight.counts v
  sums_open slots sight v none begun stood home =
      let counts : List Count = count.Opening (tally_of slot slots) ∷ [] in
      let same : tally_whole slot counts v ≡ tally_of slot slots =
      whole_home slot counts v (λ p. ap (λ (s : State). get s.pages p) stood.state ∙ get-empty nat_cmp p)
      ∙ tally_same slot (λ measure. slots_home measure v) (λ measure. sum_by measure slots) home in
      let here : CountsWhole slot [] counts v = record { pages = refl; counted = subst (Counted 0 0 0 (tally_of slot slots)) (sym same) (uncounted_yet (tally_of slot slots)) } in
      subst (λ (h : List Entry). CountsWhole slot h sight.counts v) (sym none) (subst (λ (cs : List Count). CountsWhole slot [] cs v) (sym begun) here)

  pub stands_open : (conf : PoolConf) (slots : List D) (sight : Sight) (v : Parts D) → OpensAs slot conf slots o told first → sight.trail ≡ [] → sight.counts ≡ count.Opening (tally_of slot slots) ∷ []
      → ((p : Opening) → IsOpeningOf conf (length slots) p → StandsFor slot p [] v) → ((measure : D → ℕ) → slots_home measure v ≡ sum_by measure slots) → spare_of v ≡ length slots
      → StandsAs slot o told first [] sight v
  stands_open conf slots sight v opens none begun stands home spare =
      let stood : StandsFor slot o [] v = stands o opens.numbers in
      record {
        sight_is =
            ap (λ (h : List Entry). record { trail = h; counts = sight.counts }) none
            ∙ ap (λ (cs : List Count). record { trail = []; counts = cs }) (begun ∙ ap (λ (t : Tally). count.Opening t ∷ []) opens.counts);
        whole = record {
          stands = subst (λ (h : List Entry). StandsFor slot o h v) (sym none) stood;
          home =
              let all : slots_home (λ d. 1) v ≡ o.slots = home (λ d. 1) ∙ ones slots ∙ sym opens.numbers.slots in
              let out : slots_out (state_of v).pages ≡ 0 = ap (λ (s : State). slots_out s.pages) stood.state ∙ none_out empty (get-empty nat_cmp) in
              omega (arith, all, out);
          tell = λ is. home (silence slot) ∙ opens.tell is;
          sums = sums_open slots sight v none begun stood home;
        };
        marked = tt;
        sessions = λ m. ap (λ (s : State). quota_at s m) stood.state ∙ ap (option_map (λ (x : Session). x.quota)) (get-empty nat_cmp m) ∙ sym (get-empty nat_cmp m);
        spare = let all = none_taken in let count = opens.numbers.slots in omega (arith, spare, all, count);
      }
