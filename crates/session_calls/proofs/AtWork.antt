-- A session that is at work goes on, by a step of its own or by one with jobs.
use Rattle.std.proofs.Common.{◌≡◌, ℕ, ◌<◌, ◌≤◌, List, [], ◌∷◌, Bool, true, false, is_some, sym, ap, ◌∙◌, subst}
use Rattle.outside.specs.declared.slot.Slot.{Ghosts}
use Rattle.pool_model.specs.declared.event.Event.{Event}
use Rattle.pool_model.specs.State.{Opening}
use Rattle.pool_model.specs.LookingBack.{made_by}
use Rattle.store_api.specs.Holdings.{Holdings}
use Rattle.store_api.specs.Entries.{by}
use Rattle.own_entries.specs.OwnHoldings.{Outset, after_events}
use Rattle.own_entries.specs.Busy.{busy_from}
use Rattle.session_calls.specs.Moving.{rests}
use Rattle.session_calls.specs.declared.hand.Hand.{Hand}
use Rattle.session_calls.specs.Moving.{keeps_seats}
use Rattle.session_calls.specs.Ready.{IsReady}
use Rattle.session_calls.specs.Acting.{Acts, Goes, held_by}
use Rattle.session_calls.specs.Having.{Sight, MayGive, IsAtWork}
use Rattle.session_calls.specs.Jobs.{DoesIn}
use Rattle.session_calls.proofs.Between.{worked_on}
use Rattle.session_calls.proofs.Entered.{acts_entered}
use Rattle.session_calls.proofs.Busy.{busy_more}
use Rattle.session_calls.proofs.Did.{acts_did, did_held}
use Rattle.session_calls.proofs.Steps.{keep_opens, one_acts, one_ready}

-- one event with which no job begins or ends, and no session comes or goes
module _ {D : Type 0} (slot : Ghosts D) (o : Opening) (u : Outset) (seen : Sight) (old new : Hand D) (was : IsAtWork slot o u seen old) (e : Event) (went : Goes slot (e ∷ []) old new)
    (rest : rests e ≡ true) (keeps : keeps_seats e ≡ true) where
  pub one_works : (h : Holdings) → after_events (held_by o u old) (e ∷ []) ≡ h → is_some h.free_slots ≡ true → h.live_clients ≤ 16 → IsAtWork slot o u seen new
  one_works h ends live few = record {
    worked = worked_on o u seen old new was.worked (acts_entered old new (one_acts slot o u old new was.ready e went rest keeps));
    ready = one_ready slot o u old new was.ready e went rest keeps h ends live few;
  }

  pub one_did : {P : List Event → Type 0} → P (e ∷ []) → DoesIn P old new
  one_did {P} is =
      let acts : Acts P old new = record {
        events = e ∷ [];
        is = is;
        trail = went.trail;
        session = went.session;
        opens = keep_opens (e ∷ []) (keeps, tt);
        quotas = (one_acts slot o u old new was.ready e went rest keeps).quotas;
        slots = (one_acts slot o u old new was.ready e went rest keeps).slots;
        counts = went.counts;
      } in
      acts_did old new acts (keep_opens (e ∷ []) (keeps, tt))

-- jobs began and ended, whatever others did meanwhile
module _ {D : Type 0} {P : List Event → Type 0} (slot : Ghosts D) (o : Opening) (u : Outset) (seen : Sight) (old new : Hand D) (was : IsReady slot o u old) (did : DoesIn P old new) (may : MayGive slot o u.told seen new) where
  pub back_at_work : (h : Holdings) → after_events (held_by o u old) did.does.events ≡ h → is_some h.free_slots ≡ true → h.live_clients ≤ 16
      → ((p : ℕ) → busy_from p false (by old.session did.does.events) ≡ false) → IsAtWork slot o u seen new
  back_at_work h ends live few still =
      let held : held_by o u new ≡ h = did_held o u old new did ∙ ends in
      record {
        worked = may.worked;
        ready = record {
          whole = may.whole;
          rests = record {
            number = subst (λ (m : ℕ). m < 240) (sym did.session) was.rests.number;
            live = ap (λ (g : Holdings). is_some g.free_slots) held ∙ live;
            few = subst (λ (g : Holdings). g.live_clients ≤ 16) (sym held) few;
            still = λ p.
                ap (λ (m : ℕ). busy_from p false (made_by new.trail m)) did.session ∙ ap (busy_from p false) did.does.own
                ∙ busy_more p false (made_by old.trail old.session) (by old.session did.does.events)
                ∙ ap (λ (b : Bool). busy_from p b (by old.session did.does.events)) (was.rests.still p) ∙ still p;
          };
        };
      }
