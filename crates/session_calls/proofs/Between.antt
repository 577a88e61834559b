-- What a session is after more entries, its own and those of others.
use Rattle.std.proofs.Common.{◌≡◌, ℕ, ◌==◌, ◌≤◌, List, [], ◌∷◌, ◌++◌, Bool, true, false, if◌then◌else◌, is_some, refl, sym, ap, ◌∙◌, subst}
use Rattle.std.proofs.lemmas.List.{append_assoc, append-nil}
use Rattle.outside.specs.declared.slot.Slot.{Ghosts}
use Rattle.pool_model.specs.declared.event.Event.{Event}
use Rattle.pool_model.specs.declared.event.Event.TheVariants.{Ask, StartWrite, WriteOk, WriteFailed}
use Rattle.pool_model.specs.declared.entry.Entry.{Entry}
use Rattle.pool_model.specs.State.{Opening, State}
use Rattle.pool_model.specs.LookingBack.{made_by}
use Rattle.pool_model.specs.Legal.{state_after}
use Rattle.store_api.specs.Holdings.{Holdings}
use Rattle.store_api.specs.Entries.{by}
use Rattle.own_entries.specs.OwnHoldings.{Outset, after_events}
use Rattle.own_entries.specs.Busy.{busy_from}
use Rattle.own_entries.proofs.Calls.{asked_hold}
use Rattle.session_calls.specs.Writing.{IsEnd, IsWrite}
use Rattle.session_calls.proofs.Lists.{opens_append, by_append, none_own}
use Rattle.session_calls.proofs.Asks.{asked_none, asked_more}
use Rattle.session_calls.specs.declared.hand.Hand.{Hand}
use Rattle.session_calls.specs.declared.count.Count.{Count}
use Rattle.session_calls.specs.Told.{held_in}
use Rattle.session_calls.specs.Moving.{quota_at}
use Rattle.session_calls.specs.Ready.{IsResting}
use Rattle.session_calls.specs.Doing.{Does}
use Rattle.session_calls.specs.Having.{Sight, Worked, Taken, IsAtWork, sight_of}
use Rattle.session_calls.specs.Jobs.{DoesIn}
use Rattle.session_calls.proofs.Entered.{Entered}
use Rattle.session_calls.proofs.Doing.{does_held}
use Rattle.session_calls.proofs.Busy.{busy_more}
use Rattle.session_calls.proofs.Lasts.{made_beside}

-- a write leaves what is held, and no page in a job
pub write_holds : (t : ℕ) (h : Holdings) (events : List Event) → IsWrite t h events → after_events h events ≡ h
write_holds t h events is = asked_hold t h [] (Ask ∷ events) (asked_more t h (Ask ∷ []) events (asked_none t h) is)

off : (b : Bool) → (if b then false else (if b then true else false)) ≡ false
off true = refl
off false = refl

end_rests : (q m p : ℕ) (end : Event) → IsEnd p end → busy_from q false (by m (StartWrite p ∷ end ∷ [])) ≡ false
end_rests q m p (WriteOk r) is = ap (λ (n : ℕ). if n == q then false else (if p == q then true else false)) is ∙ off (p == q)
end_rests q m p (WriteFailed r before now) is = ap (λ (n : ℕ). if n == q then false else (if p == q then true else false)) is ∙ off (p == q)
end_rests q m p _ is = absurd is

pub write_rests : (t m q : ℕ) (h : Holdings) (events : List Event) → IsWrite t h events → busy_from q false (by m events) ≡ false
write_rests t m q h events is = ap (λ (es : List Event). busy_from q false (by m es)) is.are ∙ end_rests q m is.page is.end is.ended

module _ (o : Opening) (u : Outset) where
  -- it rests again, where what it did left what it holds, and no page in a job
  pub rests_on : {P : List Event → Type 0} (m : ℕ) (before now : List Entry) (does : Does m P before now) → after_events (held_in o u m before) does.events ≡ held_in o u m before
      → ((p : ℕ) → busy_from p false (by m does.events) ≡ false) → IsResting o u m before → IsResting o u m now
  rests_on m before now does same back rests =
      let held : held_in o u m now ≡ held_in o u m before = does_held o u m before now does ∙ same in
      record {
        number = rests.number;
        live = ap (λ (h : Holdings). is_some h.free_slots) held ∙ rests.live;
        few = subst (λ (h : Holdings). h.live_clients ≤ 16) (sym held) rests.few;
        still = λ p.
            ap (busy_from p false) does.own ∙ busy_more p false (made_by before m) (by m does.events)
            ∙ ap (λ (b : Bool). busy_from p b (by m does.events)) (rests.still p) ∙ back p;
      }

  pub rests_written : (t m : ℕ) (before now : List Entry) → Does m (IsWrite t (held_in o u m before)) before now → IsResting o u m before → IsResting o u m now
  rests_written t m before now does rests =
      rests_on m before now does (write_holds t (held_in o u m before) does.events does.is) (λ p. write_rests t m p (held_in o u m before) does.events does.is) rests

  module _ {D : Type 0} where
    -- a session that has the value goes on
    pub worked_on : {P : List Event → Type 0} (seen : Sight) (old new : Hand D) → Worked o seen old → Entered P old new → Worked o seen new
    worked_on seen old new worked entered = record {
      events = worked.events ++ entered.events;
      trail =
          entered.trail ∙ ap (λ (h : List Entry). h ++ by old.session entered.events) worked.trail ∙ append_assoc seen.trail (by old.session worked.events) (by old.session entered.events)
          ∙ ap (λ (es : List Entry). seen.trail ++ es) (sym (by_append old.session worked.events entered.events)) ∙ ap (λ (m : ℕ). seen.trail ++ by m (worked.events ++ entered.events)) (sym entered.session);
      went = worked.went ++ entered.went;
      counts = entered.counts ∙ ap (λ (l : List Count). l ++ entered.went) worked.counts ∙ append_assoc seen.counts worked.went entered.went;
      opens = opens_append worked.events entered.events worked.opens entered.opens;
      quotas = λ k. entered.quotas k ∙ worked.quotas k;
    }

    -- it gave the value back, and took it again
    module _ (slot : Ghosts D) (seen before now : Sight) (hand taken : Hand D) (was : IsAtWork slot o u seen hand) (given : before ≡ sight_of hand) (took : Taken slot o u.told hand.session before now taken) where
      grew : taken.trail ≡ hand.trail ++ took.others
      grew = ap (λ (z : Sight). z.trail) took.sight ∙ took.grew ∙ ap (λ (z : Sight). z.trail ++ took.others) given

      counted : taken.counts ≡ hand.counts ++ took.went
      counted = ap (λ (z : Sight). z.counts) took.sight ∙ took.counts ∙ ap (λ (z : Sight). z.counts ++ took.went) given

      abbrev nothing : Does hand.session (λ events. events ≡ []) hand.trail taken.trail
      nothing = record {
        events = [];
        is = refl;
        own = ap (λ (h : List Entry). made_by h hand.session) grew ∙ made_beside hand.session hand.trail took.others took.beside ∙ sym (append-nil (made_by hand.trail hand.session));
        more = took.others;
        grew = grew;
        mine = none_own hand.session took.others took.beside;
      }

      pub waited : DoesIn (λ events. events ≡ []) hand taken
      waited = record { session = took.session; went = took.went; counts = counted; does = nothing }

      pub works_again : IsAtWork slot o u now taken
      works_again = record {
        worked = record {
          events = [];
          trail = ap (λ (z : Sight). z.trail) took.sight ∙ sym (append-nil now.trail);
          went = [];
          counts = ap (λ (z : Sight). z.counts) took.sight ∙ sym (append-nil now.counts);
          opens = tt;
          quotas = λ k. ap (λ (s : State). quota_at s k) (took.whole.stands.state ∙ ap (λ (z : Sight). state_after o z.trail) took.sight);
        };
        ready = record {
          whole = took.whole;
          rests = subst (λ (m : ℕ). IsResting o u m taken.trail) (sym took.session) (rests_on hand.session hand.trail taken.trail nothing refl (λ p. refl) was.ready.rests);
        };
      }
