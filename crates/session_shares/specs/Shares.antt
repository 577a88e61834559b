-- What a session laid on pages, and what was stored of them; and what several sessions did together. Lengths are in bytes.
use Rattle.std.specs.Prelude.{◌≡◌, ◌==◌, ◌+◌, ◌*◌, ◌<◌, ◌≤◌, ◌++◌, ℕ, List, ◌∷◌, All, Some, true, if◌then◌else◌, eqb, filter, length, min}
use Rattle.std.specs.List.{AllByRecursion, IsDistinct, list_any, sum_by}
use Rattle.pool_model.specs.Bytes.{bytes_of}
use Rattle.pool_model.specs.declared.event.Event.{Event}
use Rattle.pool_model.specs.declared.event.Event.TheVariants.{AddTracker, WriteOk}
use Rattle.pool_model.specs.declared.entry.Entry.{Entry}
use Rattle.pool_model.specs.Failures.{is_own}
use Rattle.pool_model.specs.Legal.{IsLegal}
use Rattle.pool_model.specs.LookingBack.{is_by, made_by, maker_of, names_in}
use Rattle.pool_model.specs.State.{Opening}
use Rattle.pin_core.specs.Tallies.{blocks_of, written_blocks}
use Rattle.tuple_stream.specs.Trails.{IsBuilding, all_left, events_of}

-- the blocks that an event stored of pages of this session, as the history tells whose they are
abbrev pub stored_for : ℕ → List Entry → Event → ℕ
stored_for m h (WriteOk p) = if is_own m (maker_of h p) then blocks_of (maker_of h p) else 0
stored_for m h _ = 0

-- and all events of the history
abbrev pub written_for : ℕ → List Entry → ℕ
written_for m h = sum_by (λ e. stored_for m h e.event) h

-- in a legal history the session of this number came last with this limit, and then its first entries were these, of which
-- none pins a page again or ends one
pub record Laid (o : Opening) (h : List Entry) (m limit : ℕ) (first : List Entry) : Type 0 where
  pub legal : IsLegal o h
  pub query : ℕ
  pub quota : ℕ
  pub later : List Entry
  pub own : made_by h m ≡ record { maker = m; event = AddTracker query 0 limit (Some quota) } ∷ (first ++ later)
  pub building : All IsBuilding (events_of first)

-- of what these left in pages all was stored but for what fits the limit and all memory
abbrev pub LaidIsStored : Type 0
LaidIsStored = (o : Opening) (h : List Entry) (m limit : ℕ) (first : List Entry) → Laid o h m limit first
    → sum_by (λ l. length l.bytes) (all_left (events_of first)) ≤ written_for m h * o.block_len + min limit (bytes_of o.block_len o.blocks)

-- what was stored of the pages of several sessions is no more than all that was
abbrev pub PartsFit : Type 0
PartsFit = (h : List Entry) (ms : List ℕ) → IsDistinct eqb ms → sum_by (λ m. written_for m h) ms ≤ written_blocks h

-- those makers of the history that are sessions are among these
abbrev pub AreAmong : List ℕ → List Entry → Type 0
AreAmong ms h = AllByRecursion (λ e. e.maker < 240 → list_any (λ m. m == e.maker) ms ≡ true) h

-- so all pages of a legal history were made by these
abbrev pub NamesFit : Type 0
NamesFit = (o : Opening) (h : List Entry) (ms : List ℕ) → IsLegal o h → AreAmong ms h
    → length (names_in h) ≤ sum_by (λ m. length (names_in (filter (is_by m) h))) ms
