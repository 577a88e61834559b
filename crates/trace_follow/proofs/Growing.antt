-- When reservations may change, and what a follower shows then.
use Rattle.std.proofs.Common.{◌≡◌, ℕ, ◌+◌, ◌-◌, ◌≤◌, ◌<◌, ◌^◌, ◌↔◌, Bool, true, false, IsTrue, leb, if◌then◌else◌, Option, Some, None, Result, IfOk, OnOk, List, refl, ap, sym, ◌∙◌, subst, arith, inl, inr, le-leb, leb-true, option_map}
use Rattle.std.specs.FinMap.{get}
use Rattle.reservation_tree.specs.Tracker.{Trackers, reservation_of, depth_of, parent_of, room_of, unused}
use Rattle.reservation_tree.specs.Change.{lacking, grow_refusal, over, or_else, Refusal}
use Rattle.reservation_tree.specs.Ways.{QuerySteps, ClientSteps}
use Rattle.reservation_tree.proofs.Ways.{queries_step, clients_step}
use Rattle.pool_model.specs.declared.event.Event.{Event}
use Rattle.pool_model.specs.declared.entry.Entry.{Entry}
use Rattle.pool_model.specs.State.{Opening, State}
use Rattle.pool_model.specs.Sums.{charge_of, held_by}
use Rattle.pool_model.specs.Owning.{IsTrackerOf}
use Rattle.pool_model.specs.TrackerRows.{CanLose, MayIncrease, MayIncreaseToFit, MayDecrease}
use Rattle.pool_model.specs.MayFollow.{Makes, Allows}
use Rattle.pool_model.specs.Effects.{effect}
use Rattle.pool_model.specs.Parts.{with_trackers}
use Rattle.pool_model.specs.Legal.{state_after}
use Rattle.pool_model.specs.Traces.{bare_of}
use Rattle.pool_model.specs.Sound.{IsSound}
use Rattle.pool_model.proofs.ByClients.{not_client}
use Rattle.trace_follow.specs.declared.follower.Follower.{Follower}
use Rattle.trace_follow.specs.declared.rows.Asked.{Asked}
use Rattle.trace_follow.specs.Showing.{ShowsTrackers, Shows}
use Rattle.trace_follow.specs.Following.{StandsFor}
use Rattle.trace_follow.specs.Judging.{made, Answers}
use Rattle.trace_follow.specs.Looking.{GrowsWithin, IsSpare}
use Rattle.trace_follow.proofs.Levels.{IsHigh, IsLow, level, live_low}
use Rattle.trace_follow.proofs.Standing.{IsQuiet}
use Rattle.trace_follow.proofs.Entered.{quiet_accepted}

abbrev over_by : Trackers → ℕ → ℕ → Refusal
over_by ts n t = record { tracker = t; wanted = n; room = room_of ts t }

-- a limit refuses nothing exactly where there is room
pub room_for : (ts : Trackers) (n t : ℕ) → over ts n t ≡ None → n ≤ room_of ts t
room_for ts n t none = by_case (leb n (room_of ts t)) refl none
  where
    by_case : (b : Bool) → leb n (room_of ts t) ≡ b → (if b then None else Some (over_by ts n t)) ≡ None → n ≤ room_of ts t
    by_case true is h = leb-true n (room_of ts t) is
    by_case false is h = cc

pub not_over : (ts : Trackers) (n t : ℕ) → n ≤ room_of ts t → over ts n t ≡ None
not_over ts n t few = ap (λ (b : Bool). if b then None else Some (over_by ts n t)) (le-leb n (room_of ts t) few)

both_none : (a b : Option Refusal) → or_else a b ≡ None → (a ≡ None) × (b ≡ None)
both_none None b is = (refl, is)
both_none (Some r) b is = cc

neither : (a b : Option Refusal) → a ≡ None → b ≡ None → or_else a b ≡ None
neither a b first second = ap (λ (o : Option Refusal). or_else o b) first ∙ second

module _ (s : State) (sound : IsSound s) (maker t : ℕ) (own : IsTrackerOf s maker t) where
  charge : ℕ → ℕ
  charge = charge_of s

  ts : Trackers
  ts = s.trackers

  pub grows_exactly : (n : ℕ) → GrowsWithin (charge_of s) s.trackers t n ↔ (grow_refusal (charge_of s) n t s.trackers ≡ None)
  grows_exactly n = elim (level s sound maker t own) [
    | inl q ↦
        let h : IsHigh s.trackers t = q in
        let steps : QuerySteps (charge_of s) s.trackers n t = queries_step (charge_of s) s.trackers n t h.under in
        let root : parent_of s.trackers t ≡ 0 = h.under.parent in (
          λ w.
              let g : GrowsWithin (charge_of s) s.trackers t n = w in
              let above : lacking (charge_of s) n 0 s.trackers ≤ room_of s.trackers 0 = subst (λ (p : ℕ). lacking (charge_of s) n p s.trackers ≤ room_of s.trackers p) root g.above in
              steps.refused ∙ neither _ _ (not_over s.trackers n t g.own) (not_over s.trackers _ 0 above),
          λ none.
              let parts : (over s.trackers n t ≡ None) × (over s.trackers (lacking (charge_of s) n 0 s.trackers) 0 ≡ None) = both_none _ _ (sym steps.refused ∙ none) in
              record {
                own = room_for s.trackers n t parts.0;
                above = subst (λ (p : ℕ). lacking (charge_of s) n p s.trackers ≤ room_of s.trackers p) (sym root) (room_for s.trackers _ 0 parts.1);
                top = inl root;
              },
        )
    | inr c ↦
        let q : ℕ = c.0 in
        let l : IsLow s.trackers t c.0 = c.1 in
        let steps : ClientSteps (charge_of s) s.trackers n t c.0 = clients_step (charge_of s) s.trackers n t c.0 l.under in
        let at : parent_of s.trackers t ≡ c.0 = l.under.parent in (
          λ w.
              let g : GrowsWithin (charge_of s) s.trackers t n = w in
              let above : lacking (charge_of s) n c.0 s.trackers ≤ room_of s.trackers c.0 = subst (λ (p : ℕ). lacking (charge_of s) n p s.trackers ≤ room_of s.trackers p) at g.above in
              let top : lacking (charge_of s) (lacking (charge_of s) n c.0 s.trackers) 0 s.trackers ≤ room_of s.trackers 0 = elim g.top [
                | inl none ↦ absurd (l.not_root (sym at ∙ none))
                | inr few ↦ subst (λ (p : ℕ). lacking (charge_of s) (lacking (charge_of s) n p s.trackers) 0 s.trackers ≤ room_of s.trackers 0) at few
              ] in
              steps.refused ∙ neither _ _ (not_over s.trackers n t g.own) (neither _ _ (not_over s.trackers _ c.0 above) (not_over s.trackers _ 0 top)),
          λ none.
              let parts : (over s.trackers n t ≡ None) × (or_else (over s.trackers (lacking (charge_of s) n c.0 s.trackers) c.0) (over s.trackers (lacking (charge_of s) (lacking (charge_of s) n c.0 s.trackers) 0 s.trackers) 0) ≡ None) = both_none _ _ (sym steps.refused ∙ none) in
              let more : (over s.trackers (lacking (charge_of s) n c.0 s.trackers) c.0 ≡ None) × (over s.trackers (lacking (charge_of s) (lacking (charge_of s) n c.0 s.trackers) 0 s.trackers) 0 ≡ None) = both_none _ _ parts.1 in
              record {
                own = room_for s.trackers n t parts.0;
                above = subst (λ (p : ℕ). lacking (charge_of s) n p s.trackers ≤ room_of s.trackers p) (sym at) (room_for s.trackers _ c.0 more.0);
                top = inr (subst (λ (p : ℕ). lacking (charge_of s) (lacking (charge_of s) n p s.trackers) 0 s.trackers ≤ room_of s.trackers 0) (sym at) (room_for s.trackers _ 0 more.1));
              },
        )
  ]

  holds_none : IsHigh s.trackers t → held_by s t ≡ 0
  holds_none h = not_client s.trackers s.pages s.buffers s.next_name s.block_len t sound.owned (λ client.
      let two : depth_of s.trackers t ≡ 2 = client.deep in let one : depth_of s.trackers t ≡ 1 = h.under.depth in omega (arith, one, two))

  pub spare_exactly : (n : ℕ) → IsSpare s t n ↔ CanLose s t n
  spare_exactly n =
      let held : held_by s t ≤ reservation_of s.trackers t = sound.within.held t in (
        λ w.
            let spare : IsSpare s t n = w in
            let over_it : n ≤ reservation_of s.trackers t - held_by s t = spare.over in
            record { unused = spare.free; held = λ client. omega (arith, over_it, held) },
        λ w.
            let can : CanLose s t n = w in
            record {
              free = can.unused;
              over = elim (level s sound maker t own) [
                | inl q ↦
                    let none : held_by s t ≡ 0 = holds_none q in
                    let free : n ≤ unused (charge_of s) s.trackers t = can.unused in
                    omega (arith, none, free)
                | inr c ↦
                    let l : IsLow s.trackers t c.0 = c.1 in
                    let room : held_by s t + n ≤ reservation_of s.trackers t = can.held (record { live = live_low s.trackers t c.0 l; deep = l.under.depth }) in
                    omega (arith, room)
              ];
            },
      )

module _ (s : State) (sound : IsSound s) (maker t n : ℕ) (b : Bool) where
  pub increase_exactly : IsTrackerOf s maker t → IsTrue b ↔ GrowsWithin (charge_of s) s.trackers t n → IsTrue b ↔ MayIncrease s maker t n
  increase_exactly own tests =
      let same : GrowsWithin (charge_of s) s.trackers t n ↔ (grow_refusal (charge_of s) n t s.trackers ≡ None) = grows_exactly s sound maker t own n in
      (λ is. record { own = own; fits = same.0 (tests.0 is) }, λ may. let m : MayIncrease s maker t n = may in tests.1 (same.1 m.fits))

  pub decrease_exactly : IsTrackerOf s maker t → IsTrue b ↔ IsSpare s t n → IsTrue b ↔ MayDecrease s maker t n
  decrease_exactly own tests =
      let same : IsSpare s t n ↔ CanLose s t n = spare_exactly s sound maker t own n in
      (λ is. record { own = own; spare = same.0 (tests.0 is) }, λ may. let m : MayDecrease s maker t n = may in tests.1 (same.1 m.spare))

-- a growth by what is lacking
pub fitting : (s : State) (maker t bytes n : ℕ) (b : Bool) → n ≡ lacking (charge_of s) bytes t s.trackers → IsTrue b ↔ MayIncrease s maker t n → IsTrue b ↔ MayIncreaseToFit s maker t bytes
fitting s maker t bytes n b is tests =
    let fits : IsTrue b ↔ MayIncrease s maker t (lacking (charge_of s) bytes t s.trackers) = subst (λ (k : ℕ). IsTrue b ↔ MayIncrease s maker t k) is tests in (
      λ yes_now. let m : MayIncrease s maker t (lacking (charge_of s) bytes t s.trackers) = fits.0 yes_now in record { own = m.own; fits = m.fits },
      λ may. let m : MayIncreaseToFit s maker t bytes = may in fits.1 (record { own = m.own; fits = m.fits }),
    )

-- what may be lost is reserved
pub lost_reserved : (s : State) (t n : ℕ) → CanLose s t n → n ≤ reservation_of s.trackers t
lost_reserved s t n can = let free : n ≤ unused (charge_of s) s.trackers t = can.unused in omega (arith, free)

-- trackers alone changed
pub trackers_changed : (old new : Follower) (s : State) (after : Trackers) → Shows old s → new ≡ record old { trackers = new.trackers; unders = new.unders }
    → ShowsTrackers new.trackers new.unders after → Shows new (with_trackers after s)
trackers_changed old new s after shows rest now = subst (λ (v : Follower). Shows v (with_trackers after s)) (sym rest) (record {
  block_len = shows.block_len;
  trackers = now;
  sessions = shows.sessions;
  things = record { pages = shows.things.pages; buffers = shows.things.buffers; loads = shows.things.loads; lent = shows.things.lent };
  free = shows.free;
  queues = record {
    dirty_names = shows.queues.dirty_names;
    clean_names = shows.queues.clean_names;
    dirty_stamped = shows.queues.dirty_stamped;
    clean_stamped = shows.queues.clean_stamped;
    earlier = shows.queues.earlier;
    own = shows.queues.own;
  };
  next_name = shows.next_name;
  entries = shows.entries;
  few = shows.few;
})

-- an event that changes trackers alone has followed
module _ {E : Type 0} (old mid new : Follower) (m : ℕ) (event : Event) (plain : (e : Event) → bare_of e ≡ bare_of event → e ≡ event) (test : Bool)
    (tests : (o : Opening) (h : List Entry) → StandsFor old o h → IsSound (state_after o h) → IsTrue test ↔ Allows h (state_after o h) m event)
    (rest : mid ≡ record old { trackers = mid.trackers; unders = mid.unders }) where
  pub moved_accepted : test ≡ true → Makes m event → (r : Result Bool E) → IfOk r (λ may. may ≡ true) → OnOk r (new ≡ record mid { entries = mid.entries + 1 }) → OnOk r (mid.entries + 1 < 2 ^ 64)
      → IsQuiet event
      → ((o : Opening) (h : List Entry) → StandsFor old o h → IsSound (state_after o h) → Allows h (state_after o h) m event → Shows mid (effect m event (state_after o h)))
      → Answers old new (made m (bare_of event)) r
  moved_accepted holds makes r may is few quiet shows =
      quiet_accepted old mid new m event plain test tests holds makes r may is few quiet
      (λ maker. ap (λ (v : Follower). option_map (λ (x : Asked). x.reads) (get v.asked maker)) rest) (ap (λ (v : Follower). v.entries) rest) shows
