-- An entry is counted, and no more is said of calls and reads.
use Rattle.std.proofs.Common.{◌≡◌, ℕ, ◌+◌, ◌<◌, ◌^◌, ◌↔◌, Bool, true, IsTrue, Result, Ok, Err, IfOk, OnOk, List, [], ◌∷◌, ◌++◌, ap, sym, ◌∙◌, subst, arith}
use Rattle.pool_model.specs.declared.event.Event.{Event}
use Rattle.pool_model.specs.declared.entry.Entry.{Entry}
use Rattle.pool_model.specs.State.{Opening, State}
use Rattle.pool_model.specs.MayFollow.{Makes, Allows}
use Rattle.pool_model.specs.Effects.{effect, after, count_entry}
use Rattle.pool_model.specs.Legal.{state_after}
use Rattle.pool_model.specs.Traces.{bare_of}
use Rattle.pool_model.specs.Sound.{IsSound}
use Rattle.trace_follow.specs.declared.follower.Follower.{Follower}
use Rattle.trace_follow.specs.Queues.{Queue, IsStamped, AreStamped, queue_at}
use Rattle.trace_follow.specs.Showing.{Shows}
use Rattle.trace_follow.specs.Following.{TellsBefore, StandsFor}
use Rattle.trace_follow.specs.Judging.{made, Answers}
use Rattle.trace_follow.proofs.Standing.{counted_shown, IsQuiet, SameReads, tells_on, plain_accepted}

-- stamps of earlier entries stay so
pub still_stamped : (stamps : _) (n : ℕ) (queue : Queue) → AreStamped stamps n queue → AreStamped stamps (n + 1) queue
still_stamped stamps n [] all = tt
still_stamped stamps n (e ∷ es) all =
    let it : IsStamped stamps n e = all.0 in
    let before : e.0 < n = it.earlier in
    (record { earlier = omega (arith, before); kept = it.kept }, still_stamped stamps n es all.1)

-- one entry more was counted
pub counted : (v : Follower) (s : State) → Shows v s → v.entries + 1 < 2 ^ 64 → Shows (record v { entries = v.entries + 1 }) (count_entry s)
counted v s shows few = record {
  block_len = shows.block_len;
  trackers = shows.trackers;
  sessions = shows.sessions;
  things = record { pages = shows.things.pages; buffers = shows.things.buffers; loads = shows.things.loads; lent = shows.things.lent };
  free = shows.free;
  queues = record {
    dirty_names = shows.queues.dirty_names;
    clean_names = shows.queues.clean_names;
    dirty_stamped = λ c. still_stamped v.stamps v.entries (queue_at v.dirty c) (shows.queues.dirty_stamped c);
    clean_stamped = still_stamped v.stamps v.entries v.clean shows.queues.clean_stamped;
    earlier = λ p i is. let before : i < v.entries = shows.queues.earlier p i is in omega (arith, before);
    own = shows.queues.own;
  };
  next_name = shows.next_name;
  entries = ap (λ (n : ℕ). n + 1) shows.entries ∙ sym (counted_shown (s.entries + 1) (subst (λ (n : ℕ). n + 1 < 2 ^ 64) shows.entries few));
  few = few;
}

-- an event of which a trace keeps all, which is no call, begins no session and fails no read, has followed
module _ {E : Type 0} (old mid new : Follower) (m : ℕ) (event : Event) (plain : (e : Event) → bare_of e ≡ bare_of event → e ≡ event) (test : Bool)
    (tests : (o : Opening) (h : List Entry) → StandsFor old o h → IsSound (state_after o h) → IsTrue test ↔ Allows h (state_after o h) m event) where
  stepped : (r : Result Bool E) → OnOk r (new ≡ record mid { entries = mid.entries + 1 }) → OnOk r (mid.entries + 1 < 2 ^ 64) → IsQuiet event → SameReads old.asked mid.asked → mid.entries ≡ old.entries
      → ((o : Opening) (h : List Entry) → StandsFor old o h → IsSound (state_after o h) → Allows h (state_after o h) m event → Shows mid (effect m event (state_after o h)))
      → OnOk r ((o : Opening) (h : List Entry) → StandsFor old o h → IsSound (state_after o h) → Allows h (state_after o h) m event
      → Shows new (after (state_after o h) (record { maker = m; event = event })) × TellsBefore new (h ++ record { maker = m; event = event } ∷ []))
  stepped (Err e) is few quiet same kept shows = tt
  stepped (Ok may) is few quiet same kept shows = λ o h stands sound allows.
      let e : Entry = record { maker = m; event = event } in
      let s : State = state_after o h in
      subst (λ (v : Follower). Shows v (after (state_after o h) (record { maker = m; event = event })) × TellsBefore v (h ++ record { maker = m; event = event } ∷ [])) (sym is) (
        counted mid (effect m event s) (shows o h stands sound allows) few,
        tells_on old (record mid { entries = mid.entries + 1 }) h e stands.tells quiet same (ap (λ (n : ℕ). n + 1) kept),
      )

  pub quiet_accepted : test ≡ true → Makes m event → (r : Result Bool E) → IfOk r (λ may. may ≡ true) → OnOk r (new ≡ record mid { entries = mid.entries + 1 }) → OnOk r (mid.entries + 1 < 2 ^ 64)
      → IsQuiet event → SameReads old.asked mid.asked → mid.entries ≡ old.entries
      → ((o : Opening) (h : List Entry) → StandsFor old o h → IsSound (state_after o h) → Allows h (state_after o h) m event → Shows mid (effect m event (state_after o h)))
      → Answers old new (made m (bare_of event)) r
  quiet_accepted holds makes r may is few quiet same kept shows =
      plain_accepted old new m event plain test tests holds makes r may (stepped r is few quiet same kept shows)
