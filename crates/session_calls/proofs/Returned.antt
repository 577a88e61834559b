-- A page in a job comes back, after others had the pool's value.
use Rattle.std.proofs.Common.{◌≡◌, ℕ, ◌+◌, List, [], ◌∷◌, ◌++◌, length, filter, Bool, true, false, Some, refl, sym, ap, ◌∙◌, subst, arith}
use Rattle.std.proofs.lemmas.List.{append_assoc, append-nil}
use Rattle.std.proofs.lemmas.List.Elements.{filter-append}
use Rattle.std.specs.FinMap.{get}
use Rattle.std.specs.List.{sum_by}
use Rattle.outside.specs.declared.slot.Slot.{Ghosts}
use Rattle.pool_model.specs.declared.event.Event.{Event}
use Rattle.pool_model.specs.declared.entry.Entry.{Entry}
use Rattle.pool_model.specs.State.{Opening, State, page_at}
use Rattle.pool_model.specs.LookingBack.{opens, is_by, made_by, content_of, content_from}
use Rattle.pool_model.specs.MayFollow.{MayFollow}
use Rattle.pool_model.specs.Effects.{after}
use Rattle.pool_model.specs.Legal.{state_after, IsLegal}
use Rattle.pool_model.proofs.Pages.{page_is}
use Rattle.pool_model.proofs.Fronts.{legal_grows_so, state_runs_on}
use Rattle.pool_model.proofs.OwnEntries.{made_more}
use Rattle.store_api.specs.Entries.{by}
use Rattle.pin_core.specs.StateOf.{state_of}
use Rattle.pin_core.specs.Standing.{StandsFor, slots_home}
use Rattle.pin_core.specs.calls.Returning.{EntersWhere}
use Rattle.pin_core.specs.Tallies.{Counted, all_failures, all_stale, silence, stored_by, tally_by, tally_of}
use Rattle.session_calls.proofs.Sized.{run_len, run_marked}
use Rattle.session_calls.proofs.Lists.{by_own, none_own}
use Rattle.session_calls.specs.declared.hand.Hand.{Hand}
use Rattle.session_calls.specs.declared.count.Count.{Count}
use Rattle.session_calls.specs.Moving.{slots_out, quota_at, keeps_seats}
use Rattle.session_calls.specs.Outgoing.{CountsWhole, no_tally, pages_counted, pages_out, tally_or}
use Rattle.session_calls.specs.Ready.{StandsWhole}
use Rattle.session_calls.specs.Having.{Sight, sight_of, Taken, Worked}
use Rattle.session_calls.specs.Jobs.{DoesIn}
use Rattle.session_calls.proofs.Quotas.{quota_stays}
use Rattle.session_calls.proofs.Spare.{ones}
use Rattle.session_calls.proofs.Flights.{shown_in_job}
use Rattle.session_calls.proofs.Lasts.{IsInJob, made_beside, page_lasts, content_lasts}
use Rattle.session_calls.proofs.Outgoing.{EndsJob, counts_came, tally_lasts}

-- the slots of a job came back with its end, and nothing else was entered
module _ {D : Type 0} (slot : Ghosts D) (o : Opening) (told : Bool) (mid new : Hand D) (stood : StandsWhole slot o told mid.trail mid.counts mid.state)
    (m : ℕ) (end : Event) (trail : new.trail ≡ mid.trail ++ by m (end ∷ [])) (none_out : new.counts ≡ mid.counts)
    (row went : List D) (known : Opening → List Entry → Type 0) (enters : EntersWhere slot known (record { maker = m; event = end }) row mid.state new.state) (knows : known o mid.trail) where
  abbrev last : Entry
  last = record { maker = m; event = end }

  -- the state before it
  abbrev r : State
  r = state_of mid.state

  stood_so : StandsFor slot o (mid.trail ++ last ∷ []) new.state
  stood_so = enters.stands o mid.trail stood.stands knows

  may_follow : MayFollow mid.trail r last
  may_follow = subst (λ (u : State). MayFollow mid.trail u last) (sym stood.stands.state) (legal_grows_so o mid.trail (last ∷ []) stood_so.legal).0

  pub came_quotas : keeps_seats end ≡ true → (k : ℕ) → quota_at (state_of new.state) k ≡ quota_at r k
  came_quotas keeps k = ap (λ (u : State). quota_at u k) enters.state ∙ quota_stays r last k keeps

  -- so no slot is lost, and slots count what they did and what the end tells
  pub came_whole : (MayFollow mid.trail r last → slots_out (after r last).pages + length row ≡ slots_out r.pages)
      → sum_by (silence slot) row ≡ sum_by (silence slot) went → (told ≡ true → sum_by (silence slot) went ≡ 0)
      → (p : ℕ) → EndsJob p end → tally_or no_tally p mid.counts ≡ tally_of slot went
      → Counted (all_failures (last ∷ [])) (sum_by (λ d. stored_by (mid.trail ++ last ∷ []) d.event) (last ∷ [])) (all_stale (last ∷ []))
      (tally_by slot (λ measure. slots_home measure mid.state + sum_by measure went)) (tally_by slot (λ measure. slots_home measure mid.state + sum_by measure row))
      → StandsWhole slot o told new.trail new.counts new.state
  came_whole comes silent tell p ends tally counts = record {
    stands = subst (λ (h : List Entry). StandsFor slot o h new.state) (sym trail) stood_so;
    home =
        let moved = enters.slots (λ d. 1) in
        let count : sum_by (λ d. 1) row ≡ length row = ones row in
        let whole = stood.home in
        let out : slots_out (state_of new.state).pages ≡ slots_out (after r last).pages = ap (λ (u : State). slots_out u.pages) enters.state in
        let back = comes may_follow in
        omega (arith, moved, count, whole, out, back);
    tell = λ all.
        let moved = enters.slots (silence slot) in
        let home = stood.tell all in
        let none = tell all in
        omega (arith, moved, home, none, silent);
    sums =
        subst (λ (es : List Count). CountsWhole slot new.trail es new.state) (sym none_out)
        (subst (λ (h : List Entry). CountsWhole slot h mid.counts new.state) (sym trail)
        (counts_came slot o mid.trail mid.counts mid.state stood.stands stood.sums m p end went row new.state ends stood_so tally enters.slots counts));
  }

module _ {D : Type 0} (slot : Ghosts D) (o : Opening) (told : Bool) (old mid : Hand D) (stood : StandsWhole slot o told old.trail old.counts old.state)
    (before now : Sight) (seen : before ≡ sight_of old) (taken : Taken slot o told old.session before now mid) where
  abbrev s : State
  s = state_of old.state

  -- the state when the value was taken again
  abbrev t : State
  t = state_of mid.state

  trail_is : mid.trail ≡ now.trail
  trail_is = ap (λ (z : Sight). z.trail) taken.sight

  counts_are : mid.counts ≡ now.counts
  counts_are = ap (λ (z : Sight). z.counts) taken.sight

  pub grew : mid.trail ≡ old.trail ++ taken.others
  grew = trail_is ∙ taken.grew ∙ ap (λ (z : Sight). z.trail ++ taken.others) seen

  pub counted : mid.counts ≡ old.counts ++ taken.went
  counted = counts_are ∙ taken.counts ∙ ap (λ (z : Sight). z.counts ++ taken.went) seen

  legal : IsLegal o (old.trail ++ taken.others)
  legal = subst (IsLegal o) grew taken.whole.stands.legal

  pub same_len : t.block_len ≡ s.block_len
  same_len =
      ap (λ (u : State). u.block_len) (taken.whole.stands.state ∙ ap (state_after o) grew ∙ state_runs_on o old.trail taken.others)
      ∙ run_len (state_after o old.trail) taken.others ∙ sym (ap (λ (u : State). u.block_len) stood.stands.state)

  pub same_marked : t.marked ≡ s.marked
  same_marked =
      ap (λ (u : State). u.marked) (taken.whole.stands.state ∙ ap (state_after o) grew ∙ state_runs_on o old.trail taken.others)
      ∙ run_marked (state_after o old.trail) taken.others ∙ sym (ap (λ (u : State). u.marked) stood.stands.state)

  module _ (p : ℕ) (lives : get s.pages p ≡ Some (page_at s p)) (job : IsInJob old.session (page_at s p)) where
    was : get (state_after o old.trail).pages p ≡ Some (page_at s p)
    was = ap (λ (u : State). get u.pages p) (sym stood.stands.state) ∙ lives

    -- the page is as it was
    pub same_there : get t.pages p ≡ Some (page_at s p)
    same_there =
        ap (λ (u : State). get u.pages p) (taken.whole.stands.state ∙ ap (state_after o) grew)
        ∙ page_lasts old.session o old.trail taken.others legal taken.beside p (page_at s p) was job

    pub same_page : page_at t p ≡ page_at s p
    same_page = page_is t p (page_at s p) same_there

    -- its slots counted what they did when they went out
    pub same_tally : tally_or no_tally p mid.counts ≡ tally_or no_tally p old.counts
    same_tally =
        let pages : pages_counted (old.counts ++ taken.went) ≡ pages_out (old.trail ++ taken.others) = sym (ap pages_counted counted) ∙ taken.whole.sums.pages ∙ ap pages_out grew in
        ap (tally_or no_tally p) counted
        ∙ tally_lasts o old.trail taken.others old.session old.counts taken.went legal taken.beside stood.sums.pages pages p (page_at s p) was job

    -- and its content is what was left in it
    pub content_mid : content_of o mid.trail p ≡ content_from p [] old.trail
    content_mid =
        shown_in_job o mid.trail taken.whole.stands.legal old.session p (page_at s p) (ap (λ (u : State). get u.pages p) (sym taken.whole.stands.state) ∙ same_there) job
        ∙ ap (content_from p []) grew ∙ content_lasts old.session o old.trail taken.others legal taken.beside p (page_at s p) was job

  module _ (new : Hand D) (end : Event) (trail : new.trail ≡ mid.trail ++ by old.session (end ∷ [])) (none_out : new.counts ≡ mid.counts) (session : new.session ≡ mid.session) where
    abbrev e : Entry
    e = record { maker = old.session; event = end }

    -- the session alone entered this since, whatever others did before
    pub did : opens end ≡ false → DoesIn (λ events. events ≡ end ∷ []) old new
    did goes_on = record {
      session = session ∙ taken.session;
      went = taken.went;
      counts = none_out ∙ counted;
      does = record {
        events = end ∷ [];
        is = refl;
        own =
            ap (λ (h : List Entry). made_by h old.session) trail ∙ made_more mid.trail e old.session refl goes_on
            ∙ ap (λ (h : List Entry). made_by h old.session ++ e ∷ []) grew ∙ ap (λ (h : List Entry). h ++ e ∷ []) (made_beside old.session old.trail taken.others taken.beside);
        more = taken.others ++ e ∷ [];
        grew = trail ∙ ap (λ (h : List Entry). h ++ e ∷ []) grew ∙ append_assoc old.trail taken.others (e ∷ []);
        mine =
            filter-append (is_by old.session) taken.others (e ∷ []) ∙ ap (λ (h : List Entry). h ++ filter (is_by old.session) (e ∷ [])) (none_own old.session taken.others taken.beside)
            ∙ by_own old.session (end ∷ []);
      };
    }

    -- so the session went on
    pub worked : opens end ≡ false → ((k : ℕ) → quota_at (state_of new.state) k ≡ quota_at t k) → Worked o now new
    worked goes_on quotas = record {
      events = end ∷ [];
      trail = trail ∙ ap (λ (h : List Entry). h ++ e ∷ []) trail_is ∙ ap (λ (m : ℕ). now.trail ++ by m (end ∷ [])) (sym (session ∙ taken.session));
      went = [];
      counts = none_out ∙ counts_are ∙ sym (append-nil now.counts);
      opens = (goes_on, tt);
      quotas = λ k. quotas k ∙ ap (λ (u : State). quota_at u k) (taken.whole.stands.state ∙ ap (state_after o) trail_is);
    }
