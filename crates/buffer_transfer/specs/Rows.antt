-- The rows of a book: what they stand for. About private fields.
use Rattle.std.specs.Prelude.{ℕ}
use Rattle.std.specs.Ordering.{nat_cmp}
use Rattle.std.specs.FinMap.{FinMap, from_sorted}
use Rattle.slab.specs.Slab.{Slab, entries}
use Rattle.buffer_transfer.specs.declared.lent.Lent.{Lent}
use Rattle.buffer_transfer.specs.Buffers.{Book}

-- the buffer of each row by its key
unfoldable pub buffers_in : Slab Lent → FinMap nat_cmp Lent
buffers_in rows = from_sorted (entries rows)

-- the book of these rows
abbrev pub book_in : Slab Lent → ℕ → Book
book_in rows room = record { buffers = buffers_in rows; room = room }
