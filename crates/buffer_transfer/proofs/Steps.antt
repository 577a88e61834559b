-- What each call leaves of a book, where its rows are known.
use Rattle.std.proofs.Common.{◌≡◌, ℕ, ◌≤◌, [], Option, Some, None, IsSome, option_map, unwrap_or, length, refl, ap, sym, ◌∙◌, subst, arith}
use Rattle.std.specs.List.{sum_by}
use Rattle.std.specs.Ordering.{nat_cmp}
use Rattle.std.specs.FinMap.{FinMap, len}
use Rattle.std.specs.FinMap as map
use Rattle.slab.specs.Slab.{Slab, get, ContainsKey, slab_len, entries, Updates, with_value}
use Rattle.slab.proofs.SlabLemmas.{Updates-with_value, ContainsKey-within}
use Rattle.buffer_transfer.specs.declared.lent.Lent.{Lent}
use Rattle.buffer_transfer.specs.Buffers.{Book, IsLive, IsProper, blocks_of, blocks_for, held_by, opened, with_buffer, moved, without_buffer}
use Rattle.buffer_transfer.specs.Rows.{book_in}
use Rattle.buffer_transfer.proofs.Changes.{entries-live, len-live, get-live, none_live, put-live, gone-live}

abbrev book_of : FinMap nat_cmp Lent → ℕ → Book
book_of buffers room = record { buffers = buffers; room = room }

-- a book that was just opened
pub opens : (rows : Slab Lent) (room : ℕ) → rows.slots ≡ [] → book_in rows room ≡ opened room
opens rows room clean = ap (λ (m : FinMap nat_cmp Lent). book_of m room) (none_live rows clean)

module _ (rows : Slab Lent) (room : ℕ) (b : Book) (is : book_in rows room ≡ b) where
  -- what a number shows is what its row has
  pub shown : (id : ℕ) → get rows id ≡ map.get b.buffers id
  shown id = sym (get-live rows id) ∙ ap (λ (c : Book). map.get c.buffers id) is

  -- as many rows as buffers
  pub counted : slab_len rows ≡ len b.buffers
  counted = sym (len-live rows) ∙ ap (λ (c : Book). len c.buffers) is

  -- a live buffer has a row
  pub row_there : (id : ℕ) → IsLive b id → ContainsKey rows id
  row_there id live = subst IsSome (sym (shown id)) live

  -- a row was written
  pub came : (new : Slab Lent) (id : ℕ) (x : Lent) → Updates rows new id (Some x) → book_in new room ≡ with_buffer b id x
  came new id x up = ap (λ (m : FinMap nat_cmp Lent). book_of m room) (put-live rows new id x up) ∙ ap (λ (c : Book). with_buffer c id x) is

  -- a row was emptied
  pub went : (new : Slab Lent) (id : ℕ) → Updates rows new id None → book_in new room ≡ without_buffer b id
  went new id up = ap (λ (m : FinMap nat_cmp Lent). book_of m room) (gone-live rows new id up) ∙ ap (λ (c : Book). without_buffer c id) is

  -- a row got another client
  pub moves : (id client : ℕ) (x : Lent) → get rows id ≡ Some x → book_in (with_value rows id (record { client = client; blocks = x.blocks })) room ≡ moved b id client
  moves id client x there =
      let blocks : x.blocks ≡ blocks_of b id = ap (λ (o : Option Lent). unwrap_or (option_map (λ y. y.blocks) o) 0) (sym there ∙ shown id) in
      let row : ContainsKey rows id = subst IsSome (sym there) refl in
      came (with_value rows id (record { client = client; blocks = x.blocks })) id (record { client = client; blocks = x.blocks }) (Updates-with_value rows id (record { client = client; blocks = x.blocks }) row)
      ∙ ap (λ (n : ℕ). with_buffer b id (record { client = client; blocks = n })) blocks

  -- what holds of the book of rows that fit the capacity
  pub proper : rows.capacity ≡ room → slab_len rows ≤ rows.capacity → length rows.slots ≤ rows.capacity → IsProper b
  proper same few slots =
      let room_is : room ≡ b.room = ap (λ (c : Book). c.room) is in
      record {
        numbers = λ id live. omega (arith, same, slots, room_is, ContainsKey-within rows id (row_there id live));
        few = omega (arith, same, few, room_is, counted);
      }

  -- the sum over the rows is that over the book
  pub whole : (client : ℕ) → sum_by (λ e. blocks_for client e.1) (entries rows) ≡ held_by b client
  unfolding held_by
  whole client = ap (sum_by (λ e. blocks_for client e.1)) (sym (entries-live rows) ∙ ap (λ (c : Book). map.entries c.buffers) is)
