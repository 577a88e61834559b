-- Events that leave a page waiting: they are shown together with their count.
use Rattle.std.proofs.Common.{◌≡◌, ℕ, ◌+◌, ◌<◌, ◌^◌, Bool, true, false, IsTrue, IfOk, OnOk, Ok, Err, ◌↔◌, Some, Result, option_map, refl, ap, sym, ◌∙◌, subst, List, [], ◌∷◌, ◌++◌}
use Rattle.std.specs.FinMap.{get}
use Rattle.pool_model.specs.declared.event.Event.{Event}
use Rattle.pool_model.specs.declared.bare.Bare.{Bare}
use Rattle.pool_model.specs.declared.entry.Entry.{Entry}
use Rattle.pool_model.specs.State.{Opening, Page, State}
use Rattle.pool_model.specs.State as model
use Rattle.pool_model.specs.Sums.{is_clean}
use Rattle.pool_model.specs.Parts.{put_in}
use Rattle.pool_model.specs.MayFollow.{Makes, Allows}
use Rattle.pool_model.specs.Effects.{effect, after, count_entry}
use Rattle.pool_model.specs.Legal.{IsLegal, state_after}
use Rattle.pool_model.specs.Traces.{bare_of}
use Rattle.pool_model.specs.Sound.{IsSound}
use Rattle.pool_model.specs.Orders.{is_dirty}
use Rattle.pool_model.proofs.Lined.{legal_keeps_queues}
use Rattle.trace_follow.specs.declared.rows.Asked.{Asked}
use Rattle.trace_follow.specs.declared.rows.PageRow.{PageRow}
use Rattle.trace_follow.specs.declared.rows.Place.TheVariants as spot
use Rattle.trace_follow.specs.declared.follower.Follower.{Follower}
use Rattle.trace_follow.specs.Showing.{Shows}
use Rattle.trace_follow.specs.Following.{StandsFor, TellsBefore}
use Rattle.trace_follow.specs.Judging.{made, Answers}
use Rattle.trace_follow.specs.Moving.{Moves}
use Rattle.trace_follow.specs.Waiting.{QueuesClean}
use Rattle.trace_follow.proofs.Standing.{MayCome, IsQuiet, SameReads, tells_on, accepted, plain_accepted}
use Rattle.trace_follow.proofs.Places.{placed}
use Rattle.trace_follow.proofs.Pushing.{IsUnwaited, unwaited, pushed_clean}

-- after a legal history a page that is neither dirty nor clean waits nowhere
pub unwaited_after : (o : Opening) (h : List Entry) (p : ℕ) (x : Page) → IsLegal o h → get (state_after o h).pages p ≡ Some x → is_dirty x.place ≡ false → is_clean x.place ≡ false → IsUnwaited (state_after o h) p
unwaited_after o h p x legal lives no_dirt no_wash = unwaited h (state_after o h) p x (legal_keeps_queues o h legal) lives no_dirt no_wash

module _ {E : Type 0} (old mid new : Follower) (m : ℕ) (event : Event) (plain : (e : Event) → bare_of e ≡ bare_of event → e ≡ event) (test : Bool)
    (tests : (o : Opening) (h : List Entry) → StandsFor old o h → IsSound (state_after o h) → IsTrue test ↔ Allows h (state_after o h) m event) where
  stepped : (r : Result Bool E) → OnOk r (new ≡ record mid { entries = mid.entries + 1 }) → OnOk r (mid.entries + 1 < 2 ^ 64) → IsQuiet event → SameReads old.asked mid.asked → mid.entries ≡ old.entries
      → ((o : Opening) (h : List Entry) → StandsFor old o h → IsSound (state_after o h) → Allows h (state_after o h) m event → mid.entries + 1 < 2 ^ 64
      → Shows (record mid { entries = mid.entries + 1 }) (count_entry (effect m event (state_after o h))))
      → OnOk r ((o : Opening) (h : List Entry) → StandsFor old o h → IsSound (state_after o h) → Allows h (state_after o h) m event
      → Shows new (after (state_after o h) (record { maker = m; event = event })) × TellsBefore new (h ++ record { maker = m; event = event } ∷ []))
  stepped (Err e) is few quiet same kept shows = tt
  stepped (Ok may) is few quiet same kept shows = λ o h stands sound allows.
      let e : Entry = record { maker = m; event = event } in
      subst (λ (v : Follower). Shows v (after (state_after o h) e) × TellsBefore v (h ++ e ∷ [])) (sym is) (
        shows o h stands sound allows few,
        tells_on old (record mid { entries = mid.entries + 1 }) h e stands.tells quiet same (ap (λ (n : ℕ). n + 1) kept),
      )

  pub pushed_accepted : test ≡ true → Makes m event → (r : Result Bool E) → IfOk r (λ may. may ≡ true) → OnOk r (new ≡ record mid { entries = mid.entries + 1 }) → OnOk r (mid.entries + 1 < 2 ^ 64)
      → IsQuiet event → SameReads old.asked mid.asked → mid.entries ≡ old.entries
      → ((o : Opening) (h : List Entry) → StandsFor old o h → IsSound (state_after o h) → Allows h (state_after o h) m event → mid.entries + 1 < 2 ^ 64
      → Shows (record mid { entries = mid.entries + 1 }) (count_entry (effect m event (state_after o h))))
      → Answers old new (made m (bare_of event)) r
  pushed_accepted holds makes r may is few quiet same kept shows =
      plain_accepted old new m event plain test tests holds makes r may (stepped r is few quiet same kept shows)

-- a written page is clean
module _ (old mid new : Follower) (p : ℕ) (row : PageRow) (live : get old.pages p ≡ Some row) (moves : Moves old mid p row (record row { place = spot.Clean })) (queues : QueuesClean mid new p) where
  pub clean_entries : new.entries ≡ old.entries
  clean_entries = ap (λ (u : Follower). u.entries) queues.is ∙ ap (λ (u : Follower). u.entries) moves.is

  pub clean_reads : SameReads old.asked new.asked
  clean_reads maker = ap (λ (u : Follower). option_map (λ (x : Asked). x.reads) (get u.asked maker)) queues.is ∙ ap (λ (u : Follower). option_map (λ (x : Asked). x.reads) (get u.asked maker)) moves.is

  pub clean_shown : (o : Opening) (h : List Entry) (x : Page) → StandsFor old o h → IsSound (state_after o h) → get (state_after o h).pages p ≡ Some x → is_dirty x.place ≡ false → is_clean x.place ≡ false → new.entries + 1 < 2 ^ 64
      → Shows (record new { entries = new.entries + 1 }) (count_entry (record (put_in model.Clean p (state_after o h)) { clean = (state_after o h).clean ++ p ∷ [] }))
  clean_shown o h x stands sound lives no_dirt no_wash few =
      let s : State = state_after o h in
      let none : IsUnwaited s p = unwaited_after o h p x stands.legal lives no_dirt no_wash in
      pushed_clean mid (put_in model.Clean p s) p (placed old mid s p row stands.shows sound.within.memory live spot.Clean model.Clean refl moves) (record { dirty = none.dirty; clean = none.clean }) new queues few

-- an event of which a trace doesn't keep all, which is no call, begins no session and fails no read, has followed
module _ {E : Type 0} (old mid new : Follower) (m : ℕ) (b : Bare) (quiets : (e : Event) → bare_of e ≡ b → IsQuiet e) (same : SameReads old.asked mid.asked) (kept : mid.entries ≡ old.entries)
    (shows : (o : Opening) (h : List Entry) (e : Event) → StandsFor old o h → IsSound (state_after o h) → bare_of e ≡ b → Allows h (state_after o h) m e → mid.entries + 1 < 2 ^ 64
    → Shows (record mid { entries = mid.entries + 1 }) (count_entry (effect m e (state_after o h)))) where
  hidden_stepped : (r : Result Bool E) → OnOk r (new ≡ record mid { entries = mid.entries + 1 }) → OnOk r (mid.entries + 1 < 2 ^ 64)
      → OnOk r ((o : Opening) (h : List Entry) (e : Event) → StandsFor old o h → IsSound (state_after o h) → bare_of e ≡ b → Allows h (state_after o h) m e
      → Shows new (after (state_after o h) (record { maker = m; event = e })) × TellsBefore new (h ++ record { maker = m; event = e } ∷ []))
  hidden_stepped (Err e) is few = tt
  hidden_stepped (Ok may) is few = λ o h e stands sound told allows.
      let entry : Entry = record { maker = m; event = e } in
      subst (λ (v : Follower). Shows v (after (state_after o h) entry) × TellsBefore v (h ++ entry ∷ [])) (sym is) (
        shows o h e stands sound told allows few,
        tells_on old (record mid { entries = mid.entries + 1 }) h entry stands.tells (quiets e told) same (ap (λ (n : ℕ). n + 1) kept),
      )

  pub hidden_accepted : (r : Result Bool E) → IfOk r (λ may. may ≡ true) → OnOk r (new ≡ record mid { entries = mid.entries + 1 }) → OnOk r (mid.entries + 1 < 2 ^ 64)
      → ((o : Opening) (h : List Entry) → StandsFor old o h → IsSound (state_after o h) → MayCome h (state_after o h) m b) → Answers old new (made m b) r
  hidden_accepted r may is few come = accepted old new m b r may come (hidden_stepped r is few)
