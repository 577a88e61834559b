-- What a history tells by itself, read from its entries alone. Histories and what is taken from them have
-- the oldest entry first; entries are numbered from 0.
use Rattle.std.specs.Prelude.{ℕ, ◌+◌, ◌==◌, List, [], ◌∷◌, ◌++◌, filter, filter_map, replicate, Bool, true, false, ◌&&◌, if◌then◌else◌, Option, Some, None, T}
use Rattle.std.specs.List.{list_any}
use Rattle.std.specs.Option.{option_or}
use Rattle.pool_model.specs.declared.event.Event.{Event}
use Rattle.pool_model.specs.declared.event.Event.TheVariants.{Ask, AddTracker, Create, Unpin}
use Rattle.pool_model.specs.declared.entry.Entry.{Entry}
use Rattle.pool_model.specs.Bytes.{bytes_of}
use Rattle.pool_model.specs.State.{Opening}

-- the last one that passes the test and all behind it; all of them, where none passes
abbrev pub since : {X : Type 0} → (X → Bool) → List X → List X → List X
since begins kept [] = kept
since begins kept (x ∷ xs) = since begins (if begins x then x ∷ [] else kept ++ x ∷ []) xs

abbrev pub last_of : {X : Type 0} → Option X → List X → Option X
last_of found [] = found
last_of found (x ∷ xs) = last_of (Some x) xs

-- an entry and its number
pub record Numbered : Type 0 where
  pub number : ℕ
  pub entry : Entry

abbrev pub numbered : ℕ → List Entry → List Numbered
numbered n [] = []
numbered n (e ∷ es) = record { number = n; entry = e } ∷ numbered (n + 1) es

-- a session's query tracker came
abbrev pub opens : Event → Bool
opens (AddTracker t parent limit (Some quota)) = true
opens _ = false

abbrev pub is_ask : Event → Bool
is_ask Ask = true
is_ask _ = false

abbrev pub is_by : ℕ → Entry → Bool
is_by maker e = e.maker == maker

-- the entries of a maker; those of a session begin with its opening
abbrev pub made_by : List Entry → ℕ → List Entry
made_by h maker = filter (is_by maker) (since (λ e. is_by maker e && opens e.event) [] h)

-- the session has made a call
abbrev pub HasAsked : List Entry → ℕ → Type 0
HasAsked h maker = T (list_any (λ e. is_ask e.event) (made_by h maker))

-- the bytes that an event leaves in this page, and else those that were there
abbrev pub left_in : ℕ → Event → List ℕ → List ℕ
left_in p (Unpin q content) old = if q == p then content else old
left_in p _ old = old

-- for whom and how long a page was made
pub record Made : Type 0 where
  pub session : ℕ
  pub client : ℕ
  pub blocks : ℕ

abbrev pub makes : ℕ → ℕ → Event → Option Made
makes p maker (Create q client blocks key) = if q == p then Some (record { session = maker; client = client; blocks = blocks }) else None
makes p maker _ = None

-- a name is given once, so the first entry that gives it is the one
abbrev pub maker_of : List Entry → ℕ → Option Made
maker_of [] p = None
maker_of (e ∷ es) p = option_or (makes p e.maker e.event) (maker_of es p)

abbrev pub content_from : ℕ → List ℕ → List Entry → List ℕ
content_from p old [] = old
content_from p old (e ∷ es) = content_from p (left_in p e.event old) es

-- the bytes of the last unpin of the page, and zeros where there was none
abbrev pub content_of : Opening → List Entry → ℕ → List ℕ
content_of o h p =
    content_from p (elim (maker_of h p) [ None ↦ [] | Some made ↦ replicate (bytes_of o.block_len made.blocks) 0 ]) h

-- the name of the page that an event makes
abbrev pub name_in : Event → Option ℕ
name_in (Create p client blocks key) = Some p
name_in _ = None

-- the names of the pages that were made
abbrev pub names_in : List Entry → List ℕ
names_in h = filter_map (λ e. name_in e.event) h
