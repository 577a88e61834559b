-- What a reader finds in front of a text, and the bytes behind it. For private functions: a text is defined in Lines.
use Rattle.std.specs.Prelude.{ℕ, zero, suc, ◌+◌, ◌-◌, ◌*◌, ◌==◌, ◌||◌, ◌&&◌, nat_lt, nat_eq, Bool, true, false, if◌then◌else◌, List, [], ◌∷◌, ◌++◌, length, drop, find, codes, Option, Some, None}
use Rattle.std.specs.List.{starts_with}
use Rattle.std.specs.Char.{is_ascii_digit}
use Rattle.pool_model.specs.declared.bare.Bare.{Bare}
use Rattle.pool_model.specs.declared.skeleton.Skeleton.{Skeleton}
use Rattle.trace_follow.specs.declared.opened.Opened.{Opened}
use Rattle.trace_check.specs.declared.name.Name.{Name}
use Rattle.trace_check.specs.Names.{spelled, names}
use Rattle.trace_check.specs.Events.{event_from}
use Rattle.trace_check.specs.Lines.{is_pool_size}

infixl 10 ◌>>=◌
abbrev pub ◌>>=◌ : {A B : Type 0} → Option A → (A → Option B) → Option B
None >>= f = None
(Some x) >>= f = f x

-- the number that goes on with these digits, if it has 64 bits
abbrev pub digits_at : ℕ → List ℕ → Option (ℕ × List ℕ)
digits_at so_far [] = Some (so_far, [])
digits_at so_far (b ∷ bs) =
    if is_ascii_digit b
    then (if nat_lt (so_far * 10 + (b - 48)) 18446744073709551616 then digits_at (so_far * 10 + (b - 48)) bs else None)
    else Some (so_far, b ∷ bs)

-- whether a digit stands in front
abbrev pub begins_with_digit : List ℕ → Bool
begins_with_digit [] = false
begins_with_digit (b ∷ bs) = is_ascii_digit b

-- the number in front, without leading zeros
unfoldable pub number_at : List ℕ → Option (ℕ × List ℕ)
number_at [] = None
number_at (b ∷ bs) =
    if b == 48 then (if begins_with_digit bs then None else Some (0, bs))
    else if is_ascii_digit b then digits_at (b - 48) bs else None

-- these numbers stand before those that are read
abbrev pub with_front : List ℕ → Option (List ℕ × List ℕ) → Option (List ℕ × List ℕ)
with_front front None = None
with_front front (Some x) = Some (front ++ x.0, x.1)

-- the numbers in front, each behind a space, up to the end of the line; at most so many
unfoldable pub numbers_at : ℕ → List ℕ → Option (List ℕ × List ℕ)
numbers_at zero [] = None
numbers_at zero (b ∷ bs) = if b == 10 then Some ([], bs) else None
numbers_at (suc most) [] = None
numbers_at (suc most) (b ∷ bs) =
    if b == 10 then Some ([], bs)
    else if b == 32 then (number_at bs >>= (λ n. with_front (n.0 ∷ []) (numbers_at most n.1))) else None

-- whether a word ends here
abbrev pub ends_word : List ℕ → Bool
ends_word [] = false
ends_word (b ∷ bs) = (b == 32) || (b == 10)

-- whether this name stands in front
abbrev pub is_named : List ℕ → Name → Bool
is_named bytes name = starts_with nat_eq bytes (spelled name) && ends_word (drop (length (spelled name)) bytes)

-- the name in front
unfoldable pub name_at : List ℕ → Option Name
name_at bytes = find (is_named bytes) names

-- whether a maker's mark is a writer's
abbrev pub letter_at : ℕ → Option Bool
letter_at b = if b == 119 then Some true else if b == 115 then Some false else None

-- a number of 32 bits
abbrev pub narrowed : ℕ → Option ℕ
narrowed n = if nat_lt n 4294967296 then Some n else None

-- what stands behind a space
abbrev pub behind_space : List ℕ → Option (List ℕ)
behind_space [] = None
behind_space (b ∷ bs) = if b == 32 then Some bs else None

-- the event in front of a text, and what stands behind its line
unfoldable pub event_at : List ℕ → Option (Bare × List ℕ)
event_at bytes = do
  name ← name_at bytes
  numbers ← numbers_at 6 (drop (length (spelled name)) bytes)
  event ← event_from name numbers.0
  Some (event, numbers.1)

-- the entry in front of a text, and what stands behind its line
unfoldable pub skeleton_at : List ℕ → Option (Skeleton × List ℕ)
skeleton_at [] = None
skeleton_at (b ∷ bs) = do
  writer ← letter_at b
  maker ← number_at bs
  number ← narrowed maker.0
  rest ← behind_space maker.1
  event ← event_at rest
  Some (record { writer = writer; maker = number; event = event.0 }, event.1)

-- the opening data of these numbers
abbrev pub opening_from : List ℕ → Option Opened
opening_from (blocks ∷ block_len ∷ first ∷ []) = if is_pool_size blocks block_len then Some (record { blocks = blocks; block_len = block_len; first_name = first }) else None
opening_from _ = None

-- the opening data in front of a text, and what stands behind their line
unfoldable pub opening_at : List ℕ → Option (Opened × List ℕ)
opening_at bytes =
    if starts_with nat_eq bytes (codes "pool")
    then (numbers_at 6 (drop 4 bytes) >>= λ numbers. (opening_from numbers.0 >>= λ o. Some (o, numbers.1)))
    else None

-- whether the text is the last line's, and which
abbrev pub last_at : List ℕ → Option Bool
last_at bytes =
    if length bytes == 4
    then (if starts_with nat_eq bytes (codes "end\n") then Some true else if starts_with nat_eq bytes (codes "cut\n") then Some false else None)
    else None
