-- The loans that a session holds, as the pool has them.
use Rattle.std.proofs.Common.{◌≡◌, ℕ, ◌*◌, List, Some, IsSome, sym, ap, ◌∙◌, subst}
use Rattle.block_arena.specs.Memory.{IsBufferOf}
use Rattle.pool_model.specs.State.{State}
use Rattle.pool_model.specs.Sums.{HasRoom, length_of}
use Rattle.pool_model.specs.Owning.{IsClientOf}
use Rattle.store_api.specs.Tokens.{LoanToken}
use Rattle.store_api.specs.Holdings.{Holdings, LiveLoan, or_else, loan_of, loan_len, no_loan}
use Rattle.store_api.specs.Conditions.{IsLoan}
use Rattle.own_entries.proofs.Behind.{IsLent}
use Rattle.pin_core.specs.calls.Lending.{IsLoan as IsPoolLoan, CanMoveTo}
use Rattle.session_calls.proofs.Known.{KnownTo}
use Rattle.session_calls.proofs.Pages.{len_here}

module _ {left : ℕ → List ℕ} {s : State} {m : ℕ} {h : Holdings} (k : KnownTo left s m h) (l : LoanToken) (held : IsLoan l h) where
  lent : IsLent s m l.number (h.loans l.number)
  lent = k.loan l.number held.lives

  reads : loan_of l.number h ≡ record { client = lent.buffer.client; blocks = lent.buffer.blocks }
  reads = ap (or_else no_loan) lent.reads

  client_is : lent.buffer.client ≡ l.client
  client_is = sym (ap (λ (v : LiveLoan). v.client) reads) ∙ held.client

  blocks_are : lent.buffer.blocks ≡ l.buf.blocks
  blocks_are = sym (ap (λ (v : LiveLoan). v.blocks) reads) ∙ sym held.buffer.blocks

  pub loan_there : IsPoolLoan s l
  loan_there = record {
    lives = lent.lives ∙ ap (λ (c : ℕ). Some (record { client = c; blocks = lent.buffer.blocks })) client_is ∙ ap (λ (n : ℕ). Some (record { client = l.client; blocks = n })) blocks_are;
    buffer = subst (λ (n : ℕ). IsBufferOf n s.block_len l.buf) (sym held.buffer.blocks) (subst (λ (len : ℕ). IsBufferOf (loan_of l.number h).blocks len l.buf) k.told.block_len held.buffer);
  }

  pub loan_client : IsClientOf s m l.client
  loan_client = subst (IsClientOf s m) client_is lent.own

  -- the bytes of a loan's buffer are its length
  pub loan_len_here : length_of s l.buf.blocks ≡ loan_len l.number h
  loan_len_here = sym (len_here k l.buf.blocks) ∙ ap (λ (n : ℕ). n * h.block_len) held.buffer.blocks

  -- a client with room for it may have it
  pub can_move : (t : ℕ) → IsSome (h.clients t) → HasRoom s t (loan_len l.number h) → CanMoveTo s l (record { session = m; tracker = t })
  can_move t live room = record {
    own = loan_client;
    own_to = k.client t live;
    room = λ apart. subst (HasRoom s t) (sym loan_len_here) room;
  }
