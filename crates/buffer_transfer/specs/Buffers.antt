-- The live buffers that a book knows, by their numbers. A number comes again after its buffer has ended.
use Rattle.std.specs.Prelude.{ℕ, ◌<◌, ◌≤◌, ◌==◌, if◌then◌else◌, IsSome, option_map, unwrap_or, refl}
use Rattle.std.specs.List.{sum_by}
use Rattle.std.specs.Ordering.{nat_cmp}
use Rattle.std.specs.FinMap.{FinMap, get, insert, remove, empty, len, entries, code}
use Rattle.std.specs.Coded.{Coded, code_by, coded×, coded_ℕ}
use Rattle.buffer_transfer.specs.declared.lent.Lent.{Lent}

-- whose each live buffer is and how many blocks it has, by its number, and how many buffers may be live
pub record Book : Type 0 where
  pub buffers : FinMap nat_cmp Lent
  pub room : ℕ

-- a buffer and a book are stored as the tuples of their fields
abbrev pub lent_code : Coded Lent
lent_code = code_by (ℕ × ℕ) (coded× coded_ℕ coded_ℕ) (λ x. (x.client, x.blocks)) (λ p. record { client = p.0; blocks = p.1 }) (λ _. refl)

abbrev pub book_code : Coded Book
book_code =
    code_by (FinMap nat_cmp Lent × ℕ) (coded× (code coded_ℕ lent_code) coded_ℕ)
    (λ b. (b.buffers, b.room)) (λ p. record { buffers = p.0; room = p.1 }) (λ _. refl)

-- the buffer of this number is live
abbrev pub IsLive : Book → ℕ → Type 0
IsLive b id = IsSome (get b.buffers id)

-- one more buffer may be live
abbrev pub HasRoom : Book → Type 0
HasRoom b = len b.buffers < b.room

-- how many blocks a live buffer has
abbrev pub blocks_of : Book → ℕ → ℕ
blocks_of b id = unwrap_or (option_map (λ x. x.blocks) (get b.buffers id)) 0

-- no buffer is live
abbrev pub opened : ℕ → Book
opened room = record { buffers = empty; room = room }

-- the buffer of this number is this one
abbrev pub with_buffer : Book → ℕ → Lent → Book
with_buffer b id lent = record b { buffers = insert b.buffers id lent }

-- a buffer is this client's now
abbrev pub moved : Book → ℕ → ℕ → Book
moved b id client = with_buffer b id (record { client = client; blocks = blocks_of b id })

-- a buffer has ended
abbrev pub without_buffer : Book → ℕ → Book
without_buffer b id = record b { buffers = remove b.buffers id }

-- the blocks of a buffer where it is the client's, and else none
abbrev pub blocks_for : ℕ → Lent → ℕ
blocks_for client lent = if lent.client == client then lent.blocks else 0

-- the blocks of all live buffers of a client together
unfoldable pub held_by : Book → ℕ → ℕ
held_by b client = sum_by (λ e. blocks_for client e.1) (entries b.buffers)

-- what holds of every book
pub record IsProper (b : Book) : Type 0 where
  pub numbers : (id : ℕ) → IsLive b id → id < b.room
  pub few : len b.buffers ≤ b.room
