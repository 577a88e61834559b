-- A buffer comes.
use Rattle.std.proofs.Common.{◌≡◌, ℕ, ◌+◌, ◌-◌, ◌≤◌, [], ◌∷◌, None, refl, ap, sym, ◌∙◌, subst, arith}
use Rattle.std.specs.FinMap.{get, insert}
use Rattle.outside.specs.declared.slot.Slot.{Ghosts}
use Rattle.buffer_transfer.specs.Buffers.{Book, with_buffer}
use Rattle.pool_model.specs.Bytes.{bytes_of}
use Rattle.pool_model.specs.State.{Buffer as Lending, Buffers, shown}
use Rattle.pool_model.specs.Sums.{buffers_for, buffer_bytes}
use Rattle.store_api.specs.Tokens.{ClientToken, LoanToken}
use Rattle.pin_core.specs.declared.parts.Parts.{Parts}
use Rattle.pin_core.specs.StateOf.{buffers_in, state_of}
use Rattle.pin_core.specs.Invariant.{IsKept}
use Rattle.pin_core.specs.Lawful.{Lawful}
use Rattle.pin_core.specs.Standing.{Enters}
use Rattle.pin_core.specs.calls.Evictions.{evictions, names_gone, with_room}
use Rattle.pin_core.specs.calls.Lending.{charged_more}
use Rattle.pin_core.specs.calls.Coming.{CanHold, ReadyLend, lent, zeros, alloc_entry, alloc_entries}
use Rattle.pin_core.proofs.Amounts.{rose}
use Rattle.pin_core.proofs.Crowds.{buffer_room}
use Rattle.pin_core.proofs.Holding.{less, holder_low, holder_live, holder_unused, holder_takes, gone, gone_done, len_still, book_still, holds_still}
use Rattle.pin_core.proofs.Entered.{Done, done_then}
use Rattle.pin_core.proofs.Lends.{buffer_of, buffers_come, all_come, not_lent, small_put, Relends, relent_kept, relent_enters}
use Rattle.pin_core.proofs.Listed.{bytes_plus}
use Rattle.pin_core.proofs.Mapped.{mapped_put}

module _ {D : Type 0} (v : Parts D) (is_kept : IsKept v) (c : ClientToken) (blocks : ℕ) (can : CanHold (state_of v) c blocks) (free : blocks ≤ v.arena.free) where
  abbrev len : ℕ
  len = v.arena.block_len

  abbrev bytes : ℕ
  bytes = bytes_of len blocks

  pub lend_ready : ReadyLend v c.tracker blocks
  lend_ready = record {
    room = let some = can.some in buffer_room v is_kept (omega (arith, some, free));
    free = free;
    tracker = holder_live v is_kept c blocks can;
    unused = holder_unused v is_kept c blocks can;
    len = is_kept.sized.len;
  }

  module _ (f : ℕ) (fresh : get v.buffers.buffers f ≡ None) where
    abbrev lending : Lending
    lending = record { client = c.tracker; blocks = blocks }

    abbrev book : Book
    book = with_buffer v.buffers f (record { client = c.tracker; blocks = blocks })

    put : buffers_in book ≡ insert (buffers_in v.buffers) f lending
    put = mapped_put buffer_of v.buffers.buffers f (record { client = c.tracker; blocks = blocks })

    unknown : get (buffers_in v.buffers) f ≡ None
    unknown = not_lent v.buffers f fresh

    lends : Relends book (charged_more bytes c.tracker v.tree).charges (v.arena.free - blocks) v (alloc_entry c f blocks)
    lends = record {
      charge = λ t.
          let rise = rose v.tree c.tracker bytes t in
          let come = buffers_come len (buffers_in v.buffers) f lending unknown t in
          let same = ap (λ (b : Buffers). buffers_for len b t) put in
          omega (arith, rise, come, same);
      memory =
          let come = all_come len (buffers_in v.buffers) f lending unknown in
          let same = ap (λ (b : Buffers). buffer_bytes len b) put in
          let plus = bytes_plus len (v.arena.free - blocks) blocks in
          let whole = ap (bytes_of len) (less v.arena.free blocks free) in
          omega (arith, come, same, plus, whole);
      lent = small_put v.buffers.buffers f (record { client = c.tracker; blocks = blocks }) is_kept.lent (can.some, can.few);
      room = refl;
      state = ap (λ (b : Buffers). record (state_of v) { buffers = b; entries = shown (v.entries + 1) }) put;
      may = λ h. record {
        makes = holder_low v is_kept c blocks can;
        allows = record { fresh = unknown; own = can.client; takes = holder_takes v is_kept c blocks can free };
      };
      leaves = λ q old. refl;
    }

    pub lend_kept : IsKept (lent f c.tracker blocks v)
    lend_kept = relent_kept book (charged_more bytes c.tracker v.tree).charges (v.arena.free - blocks) v (alloc_entry c f blocks) is_kept lends

    pub lend_enters : (slot : Ghosts D) → Enters slot (alloc_entry c f blocks ∷ []) [] [] v (lent f c.tracker blocks v)
    lend_enters = relent_enters book (charged_more bytes c.tracker v.tree).charges (v.arena.free - blocks) v (alloc_entry c f blocks) is_kept lends

module _ {D : Type 0} where
  -- what a call leaves
  pub record IsAllocated (old new : Parts D) (c : ClientToken) (f blocks : ℕ) : Type 1 where
    pub kept : IsKept new
    pub enters : (slot : Ghosts D) → Enters slot (alloc_entries c f blocks old) [] [] old new
    pub fresh : get (buffers_in old.buffers) f ≡ None

  -- what it needs, said of the parts before it: first clean pages make room for the shell, and then the buffer comes
  pub record Allocates (v old : Parts D) (c : ClientToken) (t shell blocks : ℕ) : Type 1 where
    pub ready : (mid : Parts D) → mid ≡ with_room shell v → shell ≤ mid.arena.free → ReadyLend mid t blocks
    pub ends : (mid : Parts D) → mid ≡ with_room shell v → shell ≤ mid.arena.free → (f : ℕ) → get mid.buffers.buffers f ≡ None → (new : Parts D) → new ≡ lent f t blocks mid → IsAllocated old new c f blocks
    pub zeroed : (mid : Parts D) → mid ≡ with_room shell v → (f : ℕ) (loan : LoanToken) → loan ≡ record { number = f; client = t; buf = zeros blocks mid.arena.block_len }
        → loan ≡ record { number = f; client = c.tracker; buf = zeros blocks old.arena.block_len }

  allocates : (v : Parts D) → IsKept v → Lawful v → (c : ClientToken) (blocks : ℕ) → CanHold (state_of v) c blocks → Allocates v v c c.tracker blocks blocks
  allocates v is_kept laws c blocks can =
      let g = gone v is_kept c blocks can laws in
      let still = holds_still v is_kept c blocks can laws in
      record {
        ready = λ mid is free. subst (λ (z : Parts D). ReadyLend z c.tracker blocks) (sym is)
            (lend_ready (with_room blocks v) g.kept c blocks still (subst (λ (z : Parts D). blocks ≤ z.arena.free) is free));
        ends = λ mid is free f fresh new new_is.
            let enough : blocks ≤ (with_room blocks v).arena.free = subst (λ (z : Parts D). blocks ≤ z.arena.free) is free in
            let unused_number : get (with_room blocks v).buffers.buffers f ≡ None = ap (λ (z : Parts D). get z.buffers.buffers f) (sym is) ∙ fresh in
            let first = gone_done v is_kept c blocks can laws in
            let then : Done (alloc_entry c f blocks ∷ []) [] [] (with_room blocks v) (lent f c.tracker blocks (with_room blocks v)) = record {
              kept = lend_kept (with_room blocks v) g.kept c blocks still enough f unused_number;
              enters = lend_enters (with_room blocks v) g.kept c blocks still enough f unused_number;
            } in
            let all = done_then (evictions c.session (names_gone blocks v)) (alloc_entry c f blocks ∷ []) [] [] v (with_room blocks v) (lent f c.tracker blocks (with_room blocks v)) first then in
            subst (λ (z : Parts D). IsAllocated v z c f blocks) (sym (new_is ∙ ap (lent f c.tracker blocks) is)) (record {
              kept = all.kept;
              enters = all.enters;
              fresh = not_lent v.buffers f (ap (λ (b : Book). get b.buffers f) (sym (book_still v is_kept c blocks can laws)) ∙ unused_number);
            });
        zeroed = λ mid is f loan loan_is. loan_is
            ∙ ap (λ (len : ℕ). record { number = f; client = c.tracker; buf = zeros blocks len }) (ap (λ (z : Parts D). z.arena.block_len) is ∙ len_still v is_kept c blocks can laws);
      }

  -- the same, where the parts, the client and the shell are known by equations
  pub alloc_is : (v old : Parts D) (c : ClientToken) (t shell blocks : ℕ) → v ≡ old → t ≡ c.tracker → shell ≡ blocks → IsKept v → Lawful v → CanHold (state_of old) c blocks → Allocates v old c t shell blocks
  alloc_is v old c t shell blocks same named room kept laws can =
      subst (λ (z : Parts D). Allocates v z c t shell blocks) same (subst (λ (n : ℕ). Allocates v v c n shell blocks) (sym named) (subst (λ (n : ℕ). Allocates v v c c.tracker n blocks) (sym room)
      (allocates v kept laws c blocks (subst (λ (z : Parts D). CanHold (state_of z) c blocks) (sym same) can))))
