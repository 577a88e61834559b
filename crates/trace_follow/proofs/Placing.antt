-- Events by which a page goes to another place, and no more.
use Rattle.std.proofs.Common.{◌≡◌, ◌≢◌, ℕ, ◌+◌, ◌<◌, ◌^◌, ◌==◌, ◌&&◌, ne_eqb, Bool, true, false, IsSome, is_some, IfOk, OnOk, ◌↔◌, Option, Some, Result, option_map, refl, ap, sym, ◌∙◌, subst, List, inl, inr}
use Rattle.std.specs.Ordering.{nat_cmp}
use Rattle.std.specs.FinMap.{FinMap, get, insert, remove}
use Rattle.pool_model.specs.declared.event.Event.{Event}
use Rattle.pool_model.specs.declared.entry.Entry.{Entry}
use Rattle.pool_model.specs.State.{Opening, Page, page_at, State, dirty_of}
use Rattle.pool_model.specs.State as model
use Rattle.pool_model.specs.Parts.{without, put_in, put_flying, unqueue, end_page}
use Rattle.pool_model.specs.MayFollow.{Makes, Allows}
use Rattle.pool_model.specs.Effects.{effect}
use Rattle.pool_model.specs.Legal.{IsLegal, state_after}
use Rattle.pool_model.specs.Orders.{dirtied, cleaned, last_time, stands_in, is_dirty, dirty_for, AreQueues}
use Rattle.pool_model.specs.Traces.{bare_of}
use Rattle.pool_model.specs.Sound.{IsSound}
use Rattle.pool_model.proofs.Pages.{page_is}
use Rattle.pool_model.proofs.Lined.{legal_keeps_queues}
use Rattle.trace_follow.specs.declared.rows.Asked.{Asked}
use Rattle.trace_follow.specs.declared.rows.Place.{Place}
use Rattle.trace_follow.specs.declared.rows.PageRow.{PageRow}
use Rattle.trace_follow.specs.declared.follower.Follower.{Follower}
use Rattle.trace_follow.specs.declared.rows.Place.TheVariants as spot
use Rattle.trace_follow.specs.Queues.{Queue}
use Rattle.trace_follow.specs.Rows.{place_row, page_row}
use Rattle.trace_follow.specs.Showing.{Shows}
use Rattle.trace_follow.specs.Following.{StandsFor}
use Rattle.trace_follow.specs.Judging.{made, Answers}
use Rattle.trace_follow.specs.Moving.{Moves}
use Rattle.trace_follow.specs.Waiting.{taken, Unqueues}
use Rattle.trace_follow.proofs.Standing.{IsQuiet, SameReads}
use Rattle.trace_follow.proofs.Entered.{quiet_accepted}
use Rattle.trace_follow.proofs.Mirrored.{HasRow, row_of}
use Rattle.trace_follow.proofs.Places.{placed, flown}
use Rattle.trace_follow.specs.Ending.{EndsPage}
use Rattle.trace_follow.proofs.Ending.{page_ended}
use Rattle.trace_follow.proofs.Waiting.{AreOrdered, unqueued}

-- the orders in which pages wait after a legal history
pub are_ordered : (o : Opening) (h : List Entry) → IsLegal o h → AreOrdered (state_after o h)
are_ordered o h legal =
    let queues : AreQueues h (state_after o h) = legal_keeps_queues o h legal in
    record { dirty_time = last_time dirtied h; dirty = queues.dirty; clean_time = last_time cleaned h; clean = queues.clean }

-- a page of another client isn't dirty for this one
not_for : (d : ℕ) (y : Page) → y.client ≢ d → dirty_for d (Some y) ≡ false
not_for d y other = elim (is_dirty y.place) as (λ b. (b && (y.client == d)) ≡ false) [
  | true ↦ ne_eqb y.client d other
  | false ↦ refl
]

-- a page that waits no longer
module _ (old mid : Follower) (p : ℕ) (row : PageRow) (live : get old.pages p ≡ Some row) (out : Unqueues old mid row.client p) where
  pub part : {X : Type 0} (field : Follower → X) → ((dirty : FinMap nat_cmp Queue) (clean : Queue) (stamps : FinMap nat_cmp ℕ) → field (record old { dirty = dirty; clean = clean; stamps = stamps }) ≡ field old) → field mid ≡ field old
  part field same = elim out [
    | inl none ↦ ap field none.1 ∙ same old.dirty old.clean (remove old.stamps p)
    | inr some ↦ ap field some.1.is ∙ same some.1.dirty (taken some.0 old.clean) (remove old.stamps p)
  ]

  pub live_still : get mid.pages p ≡ Some row
  live_still = part (λ u. get u.pages p) (λ dirty clean stamps. refl) ∙ live

  pub out_entries : mid.entries ≡ old.entries
  out_entries = part (λ u. u.entries) (λ dirty clean stamps. refl)

  pub out_reads : SameReads old.asked mid.asked
  out_reads maker = part (λ u. option_map (λ (x : Asked). x.reads) (get u.asked maker)) (λ dirty clean stamps. refl)

  pub waits_no_longer : (o : Opening) (h : List Entry) → StandsFor old o h → Shows mid (unqueue p (state_after o h))
  waits_no_longer o h stands =
      let s : State = state_after o h in
      let x : HasRow page_row (get s.pages p) row = row_of page_row s.pages old.pages stands.shows.things.pages p row live in
      let client : (page_at s p).client ≡ row.client = ap (λ (y : Page). y.client) (page_is s p x.of x.lives) ∙ sym (ap (λ (r : PageRow). r.client) x.is) in
      let alone : (d : ℕ) → d ≢ row.client → stands_in (dirty_of s d) p ≡ false = λ d other.
      let apart : (page_at s p).client ≢ d = λ same. other (sym same ∙ client) in
      (legal_keeps_queues o h stands.legal).dirty_ones d p ∙ ap (dirty_for d) (x.lives) ∙ not_for d x.of (λ same. apart (ap (λ (y : Page). y.client) (page_is s p x.of x.lives) ∙ same)) in
      subst (λ (c : ℕ). Shows mid (record s { dirty = insert s.dirty c (without p (dirty_of s c)); clean = without p s.clean })) (sym client)
      (unqueued old mid s row.client p stands.shows (are_ordered o h stands.legal) alone out)

-- and goes to another place
module _ (old mid new : Follower) (p : ℕ) (row to : PageRow) (live : get old.pages p ≡ Some row) (out : Unqueues old mid row.client p) (moves : Moves mid new p row to) where
  pub entries_kept : new.entries ≡ old.entries
  entries_kept = ap (λ (u : Follower). u.entries) moves.is ∙ out_entries old mid p row live out

  pub reads_kept : SameReads old.asked new.asked
  reads_kept maker = ap (λ (u : Follower). option_map (λ (x : Asked). x.reads) (get u.asked maker)) moves.is ∙ out_reads old mid p row live out maker

  module _ (o : Opening) (h : List Entry) (stands : StandsFor old o h) (sound : IsSound (state_after o h)) where
    pub placed_out : (q : Place) (place : model.Place) → q ≡ place_row place → to ≡ record row { place = q } → Shows new (put_in place p (unqueue p (state_after o h)))
    placed_out q place same is =
        placed mid new (unqueue p (state_after o h)) p row (waits_no_longer old mid p row live out o h stands) sound.within.memory (live_still old mid p row live out) q place same (subst (Moves mid new p row) is moves)

    pub flown_out : (maker : ℕ) → to ≡ record row { place = spot.Flying maker; version = old.entries } → Shows new (put_flying maker p (unqueue p (state_after o h)))
    flown_out maker is =
        let number : old.entries ≡ mid.entries = sym (out_entries old mid p row live out) in
        flown mid new (unqueue p (state_after o h)) p row (waits_no_longer old mid p row live out o h stands) sound.within.memory (live_still old mid p row live out) maker
        (subst (λ (n : ℕ). Moves mid new p row (record row { place = spot.Flying maker; version = n })) number (subst (Moves mid new p row) is moves))

-- or ends
module _ (old mid new : Follower) (p : ℕ) (row : PageRow) (live : get old.pages p ≡ Some row) (out : Unqueues old mid row.client p) (ends : EndsPage mid new p row) where
  pub ended_entries : new.entries ≡ old.entries
  ended_entries = ap (λ (u : Follower). u.entries) ends.is ∙ out_entries old mid p row live out

  pub ended_reads : SameReads old.asked new.asked
  ended_reads maker = ap (λ (u : Follower). option_map (λ (x : Asked). x.reads) (get u.asked maker)) ends.is ∙ out_reads old mid p row live out maker

  pub ended_out : (o : Opening) (h : List Entry) → StandsFor old o h → IsSound (state_after o h) → Shows new (end_page p (unqueue p (state_after o h)))
  ended_out o h stands sound =
      page_ended mid new (unqueue p (state_after o h)) p row (waits_no_longer old mid p row live out o h stands) sound.within.memory (live_still old mid p row live out) ends

module _ {E : Type 0} (old mid new : Follower) (m p : ℕ) (event : Event) (plain : (e : Event) → bare_of e ≡ bare_of event → e ≡ event) (found : Option PageRow)
    (tests : (o : Opening) (h : List Entry) → StandsFor old o h → IsSound (state_after o h) → IsSome found ↔ Allows h (state_after o h) m event) where
  pub placed_accepted : (row : PageRow) (q : Place) (place : model.Place) → found ≡ Some row → get old.pages p ≡ Some row → q ≡ place_row place → Moves old mid p row (record row { place = q })
      → Makes m event → (r : Result Bool E) → IfOk r (λ may. may ≡ true) → OnOk r (new ≡ record mid { entries = mid.entries + 1 }) → OnOk r (mid.entries + 1 < 2 ^ 64) → IsQuiet event
      → ((s : State) → Shows old s → effect m event s ≡ put_in place p s) → Answers old new (made m (bare_of event)) r
  placed_accepted row q place is live same moves makes r may counts few quiet effect_is =
      quiet_accepted old mid new m event plain (is_some found) tests (ap is_some is) makes r may counts few quiet
      (λ maker. ap (λ (u : Follower). option_map (λ (x : Asked). x.reads) (get u.asked maker)) moves.is) (ap (λ (u : Follower). u.entries) moves.is)
      (λ o h stands sound allows.
      subst (λ (t : State). Shows mid t) (sym (effect_is (state_after o h) stands.shows)) (placed old mid (state_after o h) p row stands.shows sound.within.memory live q place same moves))
