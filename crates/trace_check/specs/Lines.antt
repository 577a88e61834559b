-- The text of a trace: a line of its opening data, a line for each entry, and a last line. A newline ends each line,
-- one space stands between two words, and numbers are spelled in decimal, the shortest way.
use Rattle.std.specs.Prelude.{◌≡◌, ◌<◌, ◌^◌, ◌*◌, ◌&&◌, ◌==◌, nat_le, ℕ, Bool, true, if◌then◌else◌, List, [], ◌∷◌, ◌++◌, flat_map, codes, decimal}
use Rattle.std.specs.List.{AllByRecursion, list_any}
use Rattle.pool_model.specs.declared.skeleton.Skeleton.{Skeleton}
use Rattle.pool_model.specs.State.{Opening}
use Rattle.trace_follow.specs.declared.opened.Opened.{Opened}
use Rattle.trace_check.specs.Names.{spelled, name_of}
use Rattle.trace_check.specs.Numbers.{numbers_of, IsU32, EventInForm}

-- each number with a space before it
abbrev pub spaced : List ℕ → List ℕ
spaced numbers = flat_map (λ n. codes " " ++ decimal n) numbers

-- the letter of a writer, or of a session
abbrev pub letter_of : Bool → List ℕ
letter_of writer = if writer then codes "w" else codes "s"

-- the line of an entry: its maker, the event's name, and the event's numbers
unfoldable pub line_of : Skeleton → List ℕ
line_of k = letter_of k.writer ++ (decimal k.maker ++ (codes " " ++ (spelled (name_of k.event) ++ (spaced (numbers_of k.event) ++ codes "\n"))))

-- the line of the opening data
unfoldable pub opening_line : Opened → List ℕ
opening_line o = codes "pool" ++ (spaced (o.blocks ∷ o.block_len ∷ o.first_name ∷ []) ++ codes "\n")

-- the last line: the trace has all entries, or was cut
abbrev pub last_line : Bool → List ℕ
last_line whole = if whole then codes "end\n" else codes "cut\n"

-- the lines of entries
abbrev pub lines_of : List Skeleton → List ℕ
lines_of trace = flat_map line_of trace

-- numbers that u64 holds
abbrev pub AreU64 : List ℕ → Type 0
AreU64 numbers = AllByRecursion (λ n. n < 2 ^ 64) numbers

-- an entry whose numbers their types hold, with a quota exactly under the root
pub record InForm (k : Skeleton) : Type 0 where
  pub maker : IsU32 k.maker
  pub wide : AreU64 (numbers_of k.event)
  pub narrow : EventInForm k.event

-- how long a block may be: a power of two from 64 to 65536
abbrev pub is_block_len : ℕ → Bool
is_block_len n = list_any (λ len. len == n) (64 ∷ 128 ∷ 256 ∷ 512 ∷ 1024 ∷ 2048 ∷ 4096 ∷ 8192 ∷ 16384 ∷ 32768 ∷ 65536 ∷ [])

-- whether a pool may have so many blocks of this length
abbrev pub is_pool_size : ℕ → ℕ → Bool
is_pool_size blocks block_len = nat_le 1 blocks && (nat_le blocks 1048576 && (is_block_len block_len && nat_le (blocks * block_len) 2147483648))

-- opening data of a pool that may be
pub record IsOpened (o : Opened) : Type 0 where
  pub size : is_pool_size o.blocks o.block_len ≡ true
  pub wide : AreU64 (o.blocks ∷ o.block_len ∷ o.first_name ∷ [])

-- what a trace tells of opening data: nothing of slots, marks and counts, which no rule reads
abbrev pub told_of : Opening → Opened
told_of o = record { blocks = o.blocks; block_len = o.block_len; first_name = o.first_name }

-- the text is that of these opening data and this trace
pub record IsTraceText (text : List ℕ) (o : Opening) (trace : List Skeleton) (whole : Bool) : Type 0 where
  pub opening : IsOpened (told_of o)
  pub each : AllByRecursion InForm trace
  pub is : text ≡ opening_line (told_of o) ++ (lines_of trace ++ last_line whole)
