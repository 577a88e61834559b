-- What a session's step keeps, and what it did.
use Rattle.std.proofs.Common.{◌≡◌, ℕ, ◌<◌, ◌≤◌, List, [], ◌∷◌, ◌++◌, Bool, true, false, is_some, refl, sym, ap, ◌∙◌, subst, arith, Some, None}
use Rattle.std.proofs.lemmas.List.{append_assoc, append-nil}
use Rattle.std.specs.List.{AllByRecursion}
use Rattle.outside.specs.declared.slot.Slot.{Ghosts}
use Rattle.pool_model.specs.declared.event.Event.{Event}
use Rattle.pool_model.specs.declared.event.Event.TheVariants.{AddTracker}
use Rattle.pool_model.specs.declared.entry.Entry.{Entry}
use Rattle.pool_model.specs.State.{Opening, State}
use Rattle.pool_model.specs.LookingBack.{opens, made_by}
use Rattle.pool_model.specs.Legal.{state_after}
use Rattle.pool_model.proofs.OwnEntries.{made_more}
use Rattle.store_api.specs.Holdings.{Holdings}
use Rattle.store_api.specs.Entries.{by}
use Rattle.own_entries.specs.OwnHoldings.{Outset, after_events}
use Rattle.own_entries.specs.Busy.{busy_from}
use Rattle.pin_core.specs.StateOf.{state_of}
use Rattle.pin_core.specs.Standing.{StandsFor, slots_home}
use Rattle.pin_core.specs.Tallies.{silence}
use Rattle.session_calls.specs.Moving.{rests}
use Rattle.session_calls.proofs.Lists.{opens_append, NoneOpens, by_append, by_own}
use Rattle.session_calls.specs.declared.hand.Hand.{Hand}
use Rattle.session_calls.specs.declared.count.Count.{Count}
use Rattle.session_calls.specs.Told.{held_in}
use Rattle.session_calls.specs.Moving.{slots_out, quota_at, keeps_seats}
use Rattle.session_calls.specs.Outgoing.{CountsWhole}
use Rattle.session_calls.specs.Ready.{StandsWhole, IsReady}
use Rattle.session_calls.specs.Acting.{Acts, ActsThese, Goes, held_by}
use Rattle.session_calls.specs.Doing.{Does}
use Rattle.session_calls.proofs.Doing.{does_held}
use Rattle.session_calls.proofs.Entered.{Entered, acts_entered}
use Rattle.session_calls.proofs.Busy.{busy_more, busy_rests}
use Rattle.session_calls.proofs.Out.{out_run}
use Rattle.session_calls.proofs.Outgoing.{counts_rest}
use Rattle.session_calls.proofs.Quotas.{quotas_run}
use Rattle.session_calls.proofs.Resting.{AllRest, all_by}

-- no session comes or goes with these
abbrev pub AllKeepSeats : List Event → Type 0
AllKeepSeats events = AllByRecursion (λ e. keeps_seats e ≡ true) events

keeps_opens : (e : Event) → keeps_seats e ≡ true → opens e ≡ false
keeps_opens (AddTracker t parent limit (Some quota)) keeps = let never : false ≡ true = keeps in cc
keeps_opens (AddTracker t parent limit None) keeps = refl
keeps_opens _ keeps = refl

pub keep_opens : (events : List Event) → AllKeepSeats events → NoneOpens events
keep_opens [] keep = tt
keep_opens (e ∷ events) keep = (keeps_opens e keep.0, keep_opens events keep.1)

-- a maker's entries go on, where it opens no session
pub made_on : (m : ℕ) (h : List Entry) (events : List Event) → NoneOpens events → made_by (h ++ by m events) m ≡ made_by h m ++ by m events
made_on m h [] none = ap (λ (es : List Entry). made_by es m) (append-nil h) ∙ sym (append-nil (made_by h m))
made_on m h (e ∷ events) none =
    let d : Entry = record { maker = m; event = e } in
    ap (λ (es : List Entry). made_by es m) (sym (append_assoc h (d ∷ []) (by m events))) ∙ made_on m (h ++ d ∷ []) events none.1
    ∙ ap (λ (es : List Entry). es ++ by m events) (made_more h d m refl none.0) ∙ append_assoc (made_by h m) (d ∷ []) (by m events)

-- the history grew by what the session did
abbrev does_own : {P : List Event → Type 0} (m : ℕ) (before now : List Entry) (events : List Event) → P events → now ≡ before ++ by m events → NoneOpens events → Does m P before now
does_own m before now events is grew none = record {
  events = events;
  is = is;
  own = ap (λ (h : List Entry). made_by h m) grew ∙ made_on m before events none;
  more = by m events;
  grew = grew;
  mine = by_own m events;
}

abbrev pub entered_does : {D : Type 0} {P : List Event → Type 0} (old new : Hand D) (entered : Entered P old new) → NoneOpens entered.events → Does old.session P old.trail new.trail
entered_does old new entered none = does_own old.session old.trail new.trail entered.events entered.is entered.trail none

module _ {D : Type 0} {P : List Event → Type 0} (old new : Hand D) (acts : Acts P old new) (none : NoneOpens acts.events) where
  abbrev pub acts_does : Does old.session P old.trail new.trail
  acts_does = entered_does old new (acts_entered old new acts) none

  pub acts_held : (o : Opening) (u : Outset) → held_by o u new ≡ after_events (held_by o u old) acts.events
  acts_held o u = ap (λ (m : ℕ). held_in o u m new.trail) acts.session ∙ does_held o u old.session old.trail new.trail acts_does

module _ {D : Type 0} (old new : Hand D) where
  -- what is held is what these events make of what was held
  pub these_held : (these : List Event) → ActsThese these old new → NoneOpens these → (o : Opening) (u : Outset) → held_by o u new ≡ after_events (held_by o u old) these
  these_held these acts none o u = acts_held old new acts (subst NoneOpens (sym acts.is) none) o u ∙ ap (after_events (held_by o u old)) acts.is

  -- the same, of other words
  abbrev pub acts_so : {P Q : List Event → Type 0} (acts : Acts P old new) → Q acts.events → Acts Q old new
  acts_so acts is = record { events = acts.events; is = is; trail = acts.trail; session = acts.session; opens = acts.opens; quotas = acts.quotas; slots = acts.slots; counts = acts.counts }

-- one after the other
abbrev pub acts_more : {D : Type 0} {P Q R : List Event → Type 0} (x y z : Hand D) (a : Acts P x y) (b : Acts Q y z) → R (a.events ++ b.events) → Acts R x z
acts_more x y z a b is = record {
  events = a.events ++ b.events;
  is = is;
  trail = b.trail ∙ ap (λ (h : List Entry). h ++ by y.session b.events) a.trail ∙ ap (λ (m : ℕ). (x.trail ++ by x.session a.events) ++ by m b.events) a.session
      ∙ append_assoc x.trail (by x.session a.events) (by x.session b.events) ∙ ap (λ (h : List Entry). x.trail ++ h) (sym (by_append x.session a.events b.events));
  session = b.session ∙ a.session;
  opens = opens_append a.events b.events a.opens b.opens;
  quotas = λ k. b.quotas k ∙ a.quotas k;
  slots = λ measure. b.slots measure ∙ a.slots measure;
  counts = b.counts ∙ a.counts;
}

module _ {D : Type 0} (slot : Ghosts D) (old new : Hand D) (events : List Event) (went : Goes slot events old new) where
  -- no slot moved
  pub goes_slots : (measure : D → ℕ) → slots_home measure new.state ≡ slots_home measure old.state
  goes_slots measure = let moved = went.enters.slots measure in omega (arith, moved)

  -- a step is what its events say, where none opens a session and the quotas stay
  pub acts_by : {P : List Event → Type 0} → P events → NoneOpens events → ((k : ℕ) → quota_at (state_of new.state) k ≡ quota_at (state_of old.state) k) → Acts P old new
  acts_by is none quotas = record { events = events; is = is; trail = went.trail; session = went.session; opens = none; quotas = quotas; slots = goes_slots; counts = went.counts }

  -- as they do where no session comes or goes
  pub acts_keep : {P : List Event → Type 0} → P events → AllKeepSeats events → Acts P old new
  acts_keep is keep =
      acts_by is (keep_opens events keep) (λ k. ap (λ (s : State). quota_at s k) went.enters.state ∙ quotas_run (state_of old.state) (by old.session events) k (all_by (λ e. keeps_seats e ≡ true) old.session events keep))

  -- what is held then
  pub goes_held : NoneOpens events → (o : Opening) (u : Outset) → held_by o u new ≡ after_events (held_by o u old) events
  goes_held none o u =
      ap (λ (m : ℕ). held_in o u m new.trail) went.session
      ∙ does_held o u old.session old.trail new.trail (does_own {P = λ es. es ≡ events} old.session old.trail new.trail events refl went.trail none)

  module _ (o : Opening) (u : Outset) (was : IsReady slot o u old) where
    -- the value stands for the history, no slot is lost, and slots count what the history tells
    whole_by : AllRest events → StandsWhole slot o u.told new.trail new.counts new.state
    whole_by rest =
        let stood : StandsFor slot o (old.trail ++ by old.session events) new.state = went.enters.stands o old.trail was.whole.stands in
        let out : slots_out (state_after o (old.trail ++ by old.session events)).pages ≡ slots_out (state_after o old.trail).pages =
        out_run (λ p b. b) o old.trail (by old.session events) stood.legal (all_by (λ e. rests e ≡ true) old.session events rest) in
        let same : slots_out (state_of new.state).pages ≡ slots_out (state_of old.state).pages =
        ap (λ (s : State). slots_out s.pages) stood.state ∙ out ∙ sym (ap (λ (s : State). slots_out s.pages) was.whole.stands.state) in
        record {
          stands = subst (λ (h : List Entry). StandsFor slot o h new.state) (sym went.trail) stood;
          home = let moved = went.enters.slots (λ d. 1) in let home = was.whole.home in omega (arith, moved, home, same);
          tell = λ told. let moved = went.enters.slots (silence slot) in let none = was.whole.tell told in omega (arith, moved, none);
          sums =
              subst (λ (l : List Count). CountsWhole slot new.trail l new.state) (sym went.counts)
              (subst (λ (h : List Entry). CountsWhole slot h old.counts new.state) (sym went.trail)
              (counts_rest slot o old.trail old.counts old.state was.whole.stands was.whole.sums old.session events new.state rest stood goes_slots));
        }

    -- no page of its own is in a job of its own
    still_by : AllRest events → NoneOpens events → (p : ℕ) → busy_from p false (made_by new.trail new.session) ≡ false
    still_by rest none p =
        ap (λ (m : ℕ). busy_from p false (made_by new.trail m)) went.session
        ∙ ap (λ (h : List Entry). busy_from p false (made_by h old.session)) went.trail
        ∙ ap (busy_from p false) (made_on old.session old.trail events none)
        ∙ busy_more p false (made_by old.trail old.session) (by old.session events)
        ∙ ap (λ (b : Bool). busy_from p b (by old.session events)) (was.rests.still p)
        ∙ busy_rests p old.session events rest

    -- it is ready again after a step with which no job begins or ends, if it is live then
    pub ready_by : AllRest events → NoneOpens events → (h : Holdings) → after_events (held_by o u old) events ≡ h → is_some h.free_slots ≡ true → h.live_clients ≤ 16 → IsReady slot o u new
    ready_by rest none h ends live few =
        let held : held_by o u new ≡ h = goes_held none o u ∙ ends in
        record {
          whole = whole_by rest;
          rests = record {
            number = subst (λ (m : ℕ). m < 240) (sym went.session) was.rests.number;
            live = ap (λ (g : Holdings). is_some g.free_slots) held ∙ live;
            few = subst (λ (g : Holdings). g.live_clients ≤ 16) (sym held) few;
            still = still_by rest none;
          };
        }

-- a step of one event with which no job begins or ends, and no session comes or goes
module _ {D : Type 0} (slot : Ghosts D) (o : Opening) (u : Outset) (old new : Hand D) (was : IsReady slot o u old) (e : Event) (went : Goes slot (e ∷ []) old new) (rest : rests e ≡ true) (keeps : keeps_seats e ≡ true) where
  pub one_ready : (h : Holdings) → after_events (held_by o u old) (e ∷ []) ≡ h → is_some h.free_slots ≡ true → h.live_clients ≤ 16 → IsReady slot o u new
  one_ready = ready_by slot old new (e ∷ []) went o u was (rest, tt) (keeps_opens e keeps, tt)

  pub one_acts : ActsThese (e ∷ []) old new
  one_acts = acts_keep slot old new (e ∷ []) went refl (keeps, tt)
