-- A write failed: the page is dirty again, and waits as the newest of its client's.
use Rattle.std.proofs.Common.{◌≡◌, ℕ, ◌+◌, ◌<◌, ◌^◌, false, List, [], ◌∷◌, ◌++◌, Some, refl, ap, sym, ◌∙◌, subst}
use Rattle.std.specs.FinMap.{get, insert}
use Rattle.pool_model.specs.declared.entry.Entry.{Entry}
use Rattle.pool_model.specs.State.{Opening, Page, page_at, State, dirty_of}
use Rattle.pool_model.specs.State as model
use Rattle.pool_model.specs.Sums.{is_clean}
use Rattle.pool_model.specs.Parts.{put_in, queue_dirty, note_failure}
use Rattle.pool_model.specs.Effects.{count_entry}
use Rattle.pool_model.specs.Legal.{state_after}
use Rattle.pool_model.specs.Orders.{is_dirty}
use Rattle.pool_model.specs.Sound.{IsSound}
use Rattle.pool_model.proofs.Pages.{page_is}
use Rattle.trace_follow.specs.declared.rows.Place.TheVariants as spot
use Rattle.trace_follow.specs.declared.rows.PageRow.{PageRow}
use Rattle.trace_follow.specs.declared.follower.Follower.{Follower}
use Rattle.trace_follow.specs.Rows.{page_row}
use Rattle.trace_follow.specs.Showing.{Shows}
use Rattle.trace_follow.specs.Following.{StandsFor}
use Rattle.trace_follow.specs.Moving.{Moves}
use Rattle.trace_follow.specs.Waiting.{QueuesDirty}
use Rattle.trace_follow.proofs.Mirrored.{HasRow, row_of}
use Rattle.trace_follow.proofs.Places.{placed}
use Rattle.trace_follow.proofs.Pushing.{IsUnwaited, pushed_dirty}
use Rattle.trace_follow.proofs.Pushed.{unwaited_after}

pub unwritten_shown : (old noted mid new : Follower) (p : ℕ) (row : PageRow) (o : Opening) (h : List Entry) (x : Page) → StandsFor old o h → IsSound (state_after o h)
    → get old.pages p ≡ Some row → get noted.pages p ≡ Some row → Shows noted (note_failure p (state_after o h)) → Moves noted mid p row (record row { place = spot.Dirty }) → QueuesDirty mid new row.client p
    → get (state_after o h).pages p ≡ Some x → is_dirty x.place ≡ false → is_clean x.place ≡ false → new.entries + 1 < 2 ^ 64
    → Shows (record new { entries = new.entries + 1 }) (count_entry (put_in model.Dirty p (queue_dirty p (note_failure p (state_after o h)))))
unwritten_shown old noted mid new p row o h x stands sound live there shown moves queues lives no_dirt no_wash few =
    let s : State = state_after o h in
    let t : State = note_failure p s in
    let its : HasRow page_row (get s.pages p) row = row_of page_row s.pages old.pages stands.shows.things.pages p row live in
    let dirty : Shows mid (put_in model.Dirty p t) = placed noted mid t p row shown sound.within.memory there spot.Dirty model.Dirty refl moves in
    let none : IsUnwaited s p = unwaited_after o h p x stands.legal lives no_dirt no_wash in
    let client : row.client ≡ (page_at s p).client = ap (λ (r : PageRow). r.client) its.is ∙ sym (ap (λ (y : Page). y.client) (page_is s p its.of its.lives)) in
    subst (λ (c : ℕ). Shows (record new { entries = new.entries + 1 }) (count_entry (put_in model.Dirty p (record t { dirty = insert t.dirty c (dirty_of t c ++ p ∷ []) })))) client
    (pushed_dirty mid (put_in model.Dirty p t) p dirty (record { dirty = none.dirty; clean = none.clean }) new row.client queues few)
