-- Of what a session lays on pages, all was stored but for what fits its limit and all memory.
use Rattle.std.proofs.Common.{◌≡◌, ℕ, ◌+◌, ◌*◌, ◌≤◌, List, [], ◌∷◌, ◌++◌, min, All, Some, None, mul-le-mul, le_refl, refl, ap, sym, ◌∙◌, subst, arith}
use Rattle.std.specs.FinMap.{get}
use Rattle.std.specs.List.{sum_by}
use Rattle.std.proofs.lemmas.List.Elements.{All-cons}
use Rattle.reservation_tree.specs.Tracker.{limit_of}
use Rattle.pool_model.specs.declared.event.Event.TheVariants.{AddTracker}
use Rattle.pool_model.specs.declared.entry.Entry.{Entry}
use Rattle.pool_model.specs.Bytes.{bytes_of}
use Rattle.pool_model.specs.State.{Opening, opened, State}
use Rattle.pool_model.specs.Sums.{memory}
use Rattle.pool_model.specs.LookingBack.{made_by}
use Rattle.pool_model.specs.Effects.{after}
use Rattle.pool_model.specs.Legal.{run, state_after, IsLegal}
use Rattle.pool_model.proofs.Frames.{entries_leave_rest}
use Rattle.pool_model.proofs.Fronts.{legal_fronts}
use Rattle.tuple_stream.specs.Trails.{IsBuilding, events_of}
use Rattle.session_shares.specs.Shares.{stored_for, written_for, LaidIsStored}
use Rattle.session_shares.proofs.Stored.{written_more}
use Rattle.session_shares.proofs.Unwritten.{unwritten_for}
use Rattle.session_shares.proofs.Waits.{bytes_left, Waits, legal_waits}
use Rattle.session_shares.proofs.Fitting.{none_unwritten, fits_query}
use Rattle.session_shares.proofs.Limits.{has_limit}
use Rattle.session_shares.proofs.Fronts.{Front, has_front}

-- no entry changes how long a block is, or how many there are
same_len : (s : State) (es : List Entry) → (run s es).block_len ≡ s.block_len
same_len s [] = refl
same_len s (e ∷ es) = same_len (after s e) es ∙ (entries_leave_rest s e).block_len

same_blocks : (s : State) (es : List Entry) → (run s es).blocks ≡ s.blocks
same_blocks s [] = refl
same_blocks s (e ∷ es) = same_blocks (after s e) es ∙ (entries_leave_rest s e).blocks

-- what waits to be written fits the limit and all memory, whether the session lives or not
bounded : (o : Opening) (h : List Entry) → IsLegal o h → (m query limit quota : ℕ) (own : List Entry) → made_by h m ≡ record { maker = m; event = AddTracker query 0 limit (Some quota) } ∷ own
    → unwritten_for m o.block_len (state_after o h).pages ≤ min limit (bytes_of o.block_len o.blocks)
bounded o h legal m query limit quota own is =
    let s : State = state_after o h in
    let len : s.block_len ≡ o.block_len = same_len (opened o) h in
    let all : memory s ≡ bytes_of o.block_len o.blocks = ap (λ (n : ℕ). bytes_of n s.blocks) len ∙ ap (bytes_of o.block_len) (same_blocks (opened o) h) in
    subst (λ (n : ℕ). unwritten_for m n s.pages ≤ min limit (bytes_of o.block_len o.blocks)) len
    (elim (get s.sessions m) as (λ found. get s.sessions m ≡ found → unwritten_for m s.block_len s.pages ≤ min limit (bytes_of o.block_len o.blocks)) [
      | None ↦ λ gone. let nothing = none_unwritten o h legal m gone in omega (arith, nothing)
      | Some x ↦ λ lives.
          let fits = fits_query o h legal m x lives in
          let within = fits.0 in
          let inside = fits.1 in
          let most : limit_of s.trackers x.query ≡ limit = has_limit o h legal m query limit quota own is x lives in
          omega (arith, within, inside, most, all)
    ] refl)

pub laid_is_stored : LaidIsStored
laid_is_stored o h m limit first laid =
    let a : Entry = record { maker = m; event = AddTracker laid.query 0 limit (Some laid.quota) } in
    let it : Front m a first h = has_front m a first h laid.later laid.own in
    let front : List Entry = it.front in
    let legal : IsLegal o front = legal_fronts o front it.rest (subst (IsLegal o) it.both laid.legal) in
    let waits : Waits m o.block_len front (state_after o front) = legal_waits o front legal m in
    let building : All IsBuilding (events_of (made_by front m)) = subst (λ (es : List Entry). All IsBuilding (events_of es)) (sym it.own) (All-cons IsBuilding a.event (events_of first) tt laid.building) in
    let left = waits.left building in
    let bytes : bytes_left (made_by front m) ≡ bytes_left first = ap bytes_left it.own in
    let few = bounded o front legal m laid.query limit laid.quota first it.own in
    let stored : written_for m front + sum_by (λ e. stored_for m (front ++ it.rest) e.event) it.rest ≤ written_for m (front ++ it.rest) = written_more m front it.rest in
    let same : written_for m h ≡ written_for m (front ++ it.rest) = ap (written_for m) it.both in
    let less : written_for m front ≤ written_for m h = omega (arith, stored, same) in
    let amount : written_for m front * o.block_len ≤ written_for m h * o.block_len = mul-le-mul less (le_refl o.block_len) in
    omega (arith, left, bytes, few, amount)
