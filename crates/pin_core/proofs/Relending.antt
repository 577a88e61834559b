-- A loan ends, or changes hands.
use Rattle.std.proofs.Common.{◌≡◌, ◌≢◌, ℕ, ◌+◌, ◌≤◌, [], ◌∷◌, Option, unwrap_or, option_map, refl, ap, sym, ◌∙◌, arith}
use Rattle.std.specs.FinMap.{get, insert}
use Rattle.outside.specs.declared.slot.Slot.{Ghosts}
use Rattle.buffer_transfer.specs.declared.lent.Lent.{Lent}
use Rattle.buffer_transfer.specs.Buffers.{blocks_of, moved, without_buffer}
use Rattle.reservation_tree.specs.Tree.{charge_of as charge_in}
use Rattle.reservation_tree.proofs.Maps.{is_there}
use Rattle.pool_model.specs.Bytes.{bytes_of}
use Rattle.pool_model.specs.Owning.{IsClientOf}
use Rattle.pool_model.specs.Sound.{IsSound}
use Rattle.pool_model.specs.State.{Buffer as Lending, Buffers, no_buffer, buffer_at, shown}
use Rattle.pool_model.specs.Sums.{buffers_for, buffer_bytes, IsClient}
use Rattle.pool_model.proofs.Kept.{legal_sound}
use Rattle.pool_model.proofs.PageSums.{all_put, buffers_gone, all_gone}
use Rattle.pool_model.proofs.Seats.{own_client}
use Rattle.pool_model.proofs.Weights.{mine}
use Rattle.store_api.specs.Tokens.{ClientToken, LoanToken}
use Rattle.pin_core.specs.declared.parts.Parts.{Parts}
use Rattle.pin_core.specs.StateOf.{buffers_in, state_of}
use Rattle.pin_core.specs.Invariant.{IsKept}
use Rattle.pin_core.specs.Standing.{Enters}
use Rattle.pin_core.specs.calls.Lending.{IsLoan, CanMoveTo, ReadyFree, ReadyMove, freed, lent_to, free_entry, move_entry, charged_more, charged_less}
use Rattle.pin_core.proofs.Amounts.{fell, rose}
use Rattle.pin_core.proofs.Charged.{room_unused}
use Rattle.pin_core.proofs.Known.{known_now}
use Rattle.pin_core.proofs.Lends.{buffer_of, buffers_put, LentAs, lent_as, small_put, small_gone, session_low, Relends, relent_kept, relent_enters}
use Rattle.pin_core.proofs.Listed.{bytes_plus, bytes_le}
use Rattle.pin_core.proofs.Owned.{IsOwned, buffer_owned}
use Rattle.pin_core.proofs.Mapped.{mapped_put, mapped_gone}

module _ {D : Type 0} (v : Parts D) (is_kept : IsKept v) (loan : LoanToken) (l : IsLoan (state_of v) loan) where
  abbrev len : ℕ
  len = v.arena.block_len

  abbrev bytes : ℕ
  bytes = bytes_of len loan.buf.blocks

  abbrev lending : Lending
  lending = record { client = loan.client; blocks = loan.buf.blocks }

  lent : LentAs v.buffers loan.number lending
  lent = lent_as v.buffers loan.number lending l.lives

  owned : IsOwned (state_of v) loan.client
  owned = buffer_owned (state_of v) is_kept.legal loan.number lending l.lives

  used : bytes ≤ charge_in v.tree loan.client
  used =
      let sum = buffers_gone len (buffers_in v.buffers) loan.number lending l.lives loan.client in
      let own = mine loan.client bytes in
      let tie = is_kept.counted.charges loan.client in
      omega (arith, sum, own, tie)

  pub free_ready : ReadyFree v loan
  free_ready = record {
    live = is_there (get v.buffers.buffers loan.number) lent.lent lent.there;
    tracker = is_there _ owned.own.tracker owned.own.lives;
    used = used;
    back = record {
      len = l.buffer.block_len;
      room =
          let part = all_gone len (buffers_in v.buffers) loan.number lending l.lives in
          let all = is_kept.counted.free in
          let plus = bytes_plus len v.arena.free loan.buf.blocks in
          bytes_le len (v.arena.free + loan.buf.blocks) v.arena.blocks is_kept.sized.some (omega (arith, part, all, plus));
    };
  }

  frees : (maker : ℕ) → IsClientOf (state_of v) maker loan.client
      → Relends (without_buffer v.buffers loan.number) (charged_less bytes loan.client v.tree).charges (v.arena.free + loan.buf.blocks) v (free_entry maker loan.number)
  frees maker own =
      let gone = mapped_gone buffer_of v.buffers.buffers loan.number in
      record {
        charge = λ t.
            let fall = fell v.tree loan.client bytes used t in
            let sum = buffers_gone len (buffers_in v.buffers) loan.number lending l.lives t in
            let same = ap (λ (b : Buffers). buffers_for len b t) gone in
            omega (arith, fall, sum, same);
        memory =
            let sum = all_gone len (buffers_in v.buffers) loan.number lending l.lives in
            let plus = bytes_plus len v.arena.free loan.buf.blocks in
            let same = ap (λ (b : Buffers). buffer_bytes len b) gone in
            omega (arith, sum, plus, same);
        lent = small_gone v.buffers.buffers loan.number is_kept.lent;
        room = refl;
        state = ap (λ (b : Buffers). record (state_of v) { buffers = b; entries = shown (v.entries + 1) }) gone;
        may = λ h. record { makes = session_low v is_kept maker loan.client own; allows = record { buffer = lending; lives = l.lives; own = own } };
        leaves = λ q old. refl;
      }

  pub free_kept : IsKept (freed loan v)
  free_kept =
      relent_kept (without_buffer v.buffers loan.number) (charged_less bytes loan.client v.tree).charges (v.arena.free + loan.buf.blocks) v (free_entry owned.session loan.number) is_kept
      (frees owned.session owned.own)

  pub free_enters : (maker : ℕ) → IsClientOf (state_of v) maker loan.client → (slot : Ghosts D) → Enters slot (free_entry maker loan.number ∷ []) [] [] v (freed loan v)
  free_enters maker own =
      relent_enters (without_buffer v.buffers loan.number) (charged_less bytes loan.client v.tree).charges (v.arena.free + loan.buf.blocks) v (free_entry maker loan.number) is_kept
      (frees maker own)

  module _ (to : ClientToken) (can : CanMoveTo (state_of v) loan to) (apart : loan.client ≢ to.tracker) where
    abbrev now : Lending
    now = record { client = to.tracker; blocks = loan.buf.blocks }

    client : IsClient v.tree.trackers to.tracker
    client = own_client (state_of v) (known_now IsSound legal_sound (state_of v) is_kept.legal).seated to.session to.tracker can.own_to

    used_still : bytes ≤ charge_in (charged_more bytes to.tracker v.tree) loan.client
    used_still = let rise = rose v.tree to.tracker bytes loan.client in let was = used in omega (arith, rise, was)

    pub move_ready : ReadyMove v loan to.tracker
    move_ready = record {
      live = is_there (get v.buffers.buffers loan.number) lent.lent lent.there;
      tracker = is_there _ owned.own.tracker owned.own.lives;
      tracker_to = is_there _ can.own_to.tracker can.own_to.lives;
      unused = room_unused v is_kept to.tracker bytes client (can.room apart);
      used = used_still;
      len = l.buffer.block_len;
    }

    blocks_same : blocks_of v.buffers loan.number ≡ loan.buf.blocks
    blocks_same = ap (λ (o : Option Lent). unwrap_or (option_map (λ x. x.blocks) o) 0) lent.there ∙ ap (λ (y : Lending). y.blocks) lent.is

    put : buffers_in (moved v.buffers loan.number to.tracker) ≡ insert (buffers_in v.buffers) loan.number now
    put =
        mapped_put buffer_of v.buffers.buffers loan.number (record { client = to.tracker; blocks = blocks_of v.buffers loan.number })
        ∙ ap (λ (n : ℕ). insert (buffers_in v.buffers) loan.number (record { client = to.tracker; blocks = n })) blocks_same

    put_at : insert (buffers_in v.buffers) loan.number now ≡ insert (buffers_in v.buffers) loan.number (record (buffer_at (state_of v) loan.number) { client = to.tracker })
    put_at = ap (λ (o : Option Lending). insert (buffers_in v.buffers) loan.number (record (unwrap_or o no_buffer) { client = to.tracker })) (sym l.lives)

    moves : Relends (moved v.buffers loan.number to.tracker) (charged_less bytes loan.client (charged_more bytes to.tracker v.tree)).charges v.arena.free v (move_entry to loan.number)
    moves = record {
      charge = λ t.
          let rise = rose v.tree to.tracker bytes t in
          let fall = fell (charged_more bytes to.tracker v.tree) loan.client bytes used_still t in
          let sum = buffers_put len (buffers_in v.buffers) loan.number now lending l.lives t in
          let same = ap (λ (b : Buffers). buffers_for len b t) put in
          omega (arith, rise, fall, sum, same);
      memory =
          let sum = all_put len (buffers_in v.buffers) loan.number lending l.lives now in
          let same = ap (λ (b : Buffers). buffer_bytes len b) put in
          omega (arith, sum, same);
      lent = small_put v.buffers.buffers loan.number (record { client = to.tracker; blocks = blocks_of v.buffers loan.number }) is_kept.lent
          (let size = is_kept.lent loan.number lent.lent lent.there in
          let same = blocks_same in
          let own = ap (λ (y : Lending). y.blocks) lent.is in
          let some = size.0 in
          let few = size.1 in
          (omega (arith, some, same, own), omega (arith, few, same, own)));
      room = refl;
      state = ap (λ (b : Buffers). record (state_of v) { buffers = b; entries = shown (v.entries + 1) }) (put ∙ put_at);
      may = λ h. record {
        makes = session_low v is_kept to.session to.tracker can.own_to;
        allows = record { buffer = lending; lives = l.lives; own = can.own; own_to = can.own_to; other = apart; room = can.room apart };
      };
      leaves = λ q old. refl;
    }

    pub move_kept : IsKept (lent_to loan to.tracker v)
    move_kept =
        relent_kept (moved v.buffers loan.number to.tracker) (charged_less bytes loan.client (charged_more bytes to.tracker v.tree)).charges v.arena.free v (move_entry to loan.number) is_kept moves

    pub move_enters : (slot : Ghosts D) → Enters slot (move_entry to loan.number ∷ []) [] [] v (lent_to loan to.tracker v)
    move_enters =
        relent_enters (moved v.buffers loan.number to.tracker) (charged_less bytes loan.client (charged_more bytes to.tracker v.tree)).charges v.arena.free v (move_entry to loan.number) is_kept moves
