-- The failures that a history tells: writes and reads that failed, and what a refusal may name of them.
use Rattle.std.specs.Prelude.{ℕ, ◌==◌, List, [], length, filter, find, Bool, false, ◌&&◌, ◌||◌, Option, Some, None, option_map}
use Rattle.std.specs.List.{list_any}
use Rattle.pool_model.specs.declared.event.Event.{Event}
use Rattle.pool_model.specs.declared.event.Event.TheVariants.{AddTracker, CloseTracker, ReadFailed, ReadStale, WriteFailed}
use Rattle.pool_model.specs.declared.entry.Entry.{Entry}
use Rattle.pool_model.specs.LookingBack.{since, last_of, Numbered, numbered, opens, is_ask, is_by, Made, maker_of}

-- the page whose write or read failed
abbrev pub failed_page : Event → Option ℕ
failed_page (ReadFailed p before after) = Some p
failed_page (WriteFailed p before after) = Some p
failed_page _ = None

-- the page was made by this session
abbrev pub is_own : ℕ → Option Made → Bool
is_own maker None = false
is_own maker (Some made) = made.session == maker

-- the page was made by this session for this client
abbrev pub is_for_own : ℕ → ℕ → Option Made → Bool
is_for_own maker c None = false
is_for_own maker c (Some made) = made.session == maker && made.client == c

-- whether this holds of the page whose write or read failed, as it was made
abbrev pub fails : (Option Made → Bool) → List Entry → Event → Bool
fails whose h event = elim (failed_page event) [ None ↦ false | Some p ↦ whose (maker_of h p) ]

-- how many writes and reads failed on pages of which this holds, as the whole history tells of them
abbrev pub failures_in : (Option Made → Bool) → List Entry → ℕ
failures_in whose h = length (filter (λ e. fails whose h e.event) h)

-- this tracker came
abbrev pub adds : ℕ → Event → Bool
adds c (AddTracker t parent limit quota) = t == c
adds c _ = false

-- this tracker ended
abbrev pub closes : ℕ → Event → Bool
closes c (CloseTracker t) = t == c
closes c _ = false

-- behind the last such entry stand the failures that a refusal of this session's client may name
abbrev pub forgets : ℕ → ℕ → Entry → Bool
forgets maker c e = ((opens e.event || is_ask e.event) && is_by maker e) || (adds c e.event || closes c e.event)

-- the first failure on a page that this session made for the client, as the whole history tells of pages
abbrev pub first_failed : List Entry → ℕ → ℕ → List Numbered → Option ℕ
first_failed h maker c entries = option_map (λ n. n.number) (find (λ n. fails (is_for_own maker c) h n.entry.event) entries)

-- the number of the first failure on the client's pages since its session's last Ask
abbrev pub first_failure : List Entry → ℕ → ℕ → Option ℕ
first_failure h maker c = first_failed h maker c (since (λ n. forgets maker c n.entry) [] (numbered 0 h))

-- a read of this page failed, or gave another block than was wanted
abbrev pub fails_read : ℕ → Event → Bool
fails_read p (ReadFailed q before after) = q == p
fails_read p (ReadStale q wanted found) = q == p
fails_read p _ = false

-- the number of the last read of the page by this maker that failed, since its last Ask
abbrev pub last_failed_read : List Entry → ℕ → ℕ → Option ℕ
last_failed_read h maker p =
    option_map (λ n. n.number) (last_of None (filter (λ n. is_by maker n.entry && fails_read p n.entry.event) (since (λ n. is_by maker n.entry && is_ask n.entry.event) [] (numbered 0 h))))

-- the session made a call among these
abbrev pub asks_in : ℕ → List Entry → Bool
asks_in maker es = list_any (λ e. is_by maker e && is_ask e.event) es
