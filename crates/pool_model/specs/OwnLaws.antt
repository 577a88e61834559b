-- What holds of sessions and their pages, as a history tells it. Statements alone.
use Rattle.std.specs.Prelude.{◌≡◌, ◌<◌, ◌≤◌, ℕ, ◌==◌, List, [], ◌∷◌, ◌++◌, length, replicate, Bool, true, false, if◌then◌else◌, Option, Some, None, option_map}
use Rattle.std.specs.FinMap.{get}
use Rattle.pool_model.specs.declared.event.Event.{Event}
use Rattle.pool_model.specs.declared.event.Event.TheVariants.{AddTracker, CloseTracker}
use Rattle.pool_model.specs.declared.entry.Entry.{Entry}
use Rattle.pool_model.specs.State.{Opening, Pinned, Page, Session, State}
use Rattle.pool_model.specs.Sums.{length_of}
use Rattle.pool_model.specs.LookingBack.{made_by, Made, content_from, content_of}
use Rattle.pool_model.specs.Failures.{is_for_own, failures_in, asks_in}
use Rattle.pool_model.specs.Legal.{state_after, IsLegal}

-- the query tracker of a session that has begun and not ended, after one more of its own events
abbrev pub query_after : Event → Option ℕ → Option ℕ
query_after (AddTracker t parent limit (Some quota)) query = Some t
query_after (CloseTracker t) (Some query) = if query == t then None else Some query
query_after _ query = query

abbrev pub query_from : Option ℕ → List Entry → Option ℕ
query_from query [] = query
query_from query (e ∷ es) = query_from (query_after e.event query) es

-- a session is live exactly where its own entries began it and didn't end it, with the query tracker that they name
abbrev pub LegalSessionsAreTold : Type 0
LegalSessionsAreTold = (o : Opening) (h : List Entry) → IsLegal o h → (maker : ℕ)
    → option_map (λ x. x.query) (get (state_after o h).sessions maker) ≡ query_from None (made_by h maker)

-- the bytes of a live page: `told` those of its last unpin, and zeros of its length before the first; `left` once
-- it has slots it was unpinned, so what was there before shows nowhere; `rests` it has slots where it isn't
-- pinned; `own` the entries of its session alone tell them
pub record IsContent (o : Opening) (h : List Entry) (s : State) (p : ℕ) (x : Page) : Type 0 where
  pub told : content_of o h p ≡ content_from p (replicate (length_of s x.blocks) 0) h
  pub whole : length (content_of o h p) ≡ length_of s x.blocks
  pub left : x.has_slots ≡ true → (old : List ℕ) → content_of o h p ≡ content_from p old h
  pub rests : ((count : ℕ) → x.place ≡ Pinned count → ⊥) → x.has_slots ≡ true
  pub own : (old : List ℕ) → content_from p old (made_by h x.session) ≡ content_from p old h

abbrev pub LegalContentsAreTold : Type 0
LegalContentsAreTold = (o : Opening) (h : List Entry) → IsLegal o h → (p : ℕ) (x : Page) → get (state_after o h).pages p ≡ Some x
    → IsContent o h (state_after o h) p x

-- a failure that a session keeps of a client was counted since before the session's last Ask
abbrev pub LegalKeptFailuresRose : Type 0
LegalKeptFailuresRose = (o : Opening) (h more : List Entry) → IsLegal o (h ++ more) → (maker : ℕ) (x : Session) → get (state_after o (h ++ more)).sessions maker ≡ Some x
    → (c j : ℕ) → get x.failures c ≡ Some j → asks_in maker more ≡ true → failures_in (is_for_own maker c) h < failures_in (is_for_own maker c) (h ++ more)

-- a count of failures never falls, where it counts none on pages that nobody made
abbrev pub FailuresGrow : Type 0
FailuresGrow = (whose : Option Made → Bool) → whose None ≡ false → (h more : List Entry) → failures_in whose h ≤ failures_in whose (h ++ more)
