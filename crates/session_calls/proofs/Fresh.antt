-- What comes to a session with a call: the pool can hold it, its buffer is one of zeros, and it wasn't there.
use Rattle.std.proofs.Common.{◌≡◌, ℕ, zero, suc, ◌≤◌, ◌<◌, List, None, IsSome, replicate, refl, sym, ap, ◌∙◌, subst, arith, inl, inr}
use Rattle.std.proofs.lemmas.Bool.{cases_lt, false≢true, ne_eqb}
use Rattle.std.proofs.lemmas.List.{length-replicate}
use Rattle.std.specs.FinMap.{get}
use Rattle.block_arena.specs.Memory.{Buffer}
use Rattle.pool_model.specs.Bytes.{bytes_of}
use Rattle.pool_model.specs.State.{State}
use Rattle.pool_model.specs.Sums.{HasRoom}
use Rattle.store_api.specs.Tokens.{LoanToken}
use Rattle.store_api.specs.Holdings.{Holdings, length_of}
use Rattle.store_api.specs.Conditions.{IsBlockCount, IsZeroed}
use Rattle.own_entries.proofs.ByOthers.{none_there}
use Rattle.pin_core.specs.calls.Coming.{CanHold, zeros}
use Rattle.session_calls.specs.Coming.{IsFreshLoan}
use Rattle.session_calls.proofs.Known.{KnownTo}
use Rattle.session_calls.proofs.Pages.{len_here}

some_blocks : (blocks : ℕ) → IsBlockCount blocks → 0 < blocks
some_blocks zero is = absurd (false≢true is)
some_blocks (suc n) is = omega arith

few_blocks : (blocks : ℕ) → IsBlockCount blocks → blocks ≤ 256
few_blocks blocks is =
    elim (cases_lt 256 blocks) [
      | inl more ↦ absurd (false≢true (rw (
        ne_eqb 1 blocks (λ same. omega (arith, same, more)),
        ne_eqb 2 blocks (λ same. omega (arith, same, more)),
        ne_eqb 4 blocks (λ same. omega (arith, same, more)),
        ne_eqb 8 blocks (λ same. omega (arith, same, more)),
        ne_eqb 16 blocks (λ same. omega (arith, same, more)),
        ne_eqb 32 blocks (λ same. omega (arith, same, more)),
        ne_eqb 64 blocks (λ same. omega (arith, same, more)),
        ne_eqb 128 blocks (λ same. omega (arith, same, more)),
        ne_eqb 256 blocks (λ same. omega (arith, same, more)),
      ) at is))
      | inr few ↦ few
    ]

module _ {left : ℕ → List ℕ} {s : State} {m : ℕ} {h : Holdings} (k : KnownTo left s m h) where
  -- the client can hold so many blocks more
  pub can_hold : (t blocks : ℕ) → IsSome (h.clients t) → IsBlockCount blocks → HasRoom s t (length_of blocks h) → CanHold s (record { session = m; tracker = t }) blocks
  can_hold t blocks live sized room = record {
    client = k.client t live;
    some = some_blocks blocks sized;
    few = few_blocks blocks sized;
    room = subst (HasRoom s t) (len_here k blocks) room;
  }

  -- a buffer of the pool's zeros is one of zeros
  pub zeroed : (blocks : ℕ) (buf : Buffer) → buf ≡ zeros blocks s.block_len → IsZeroed blocks h buf
  zeroed blocks buf same =
      let bytes : bytes_of s.block_len blocks ≡ length_of blocks h = sym (len_here k blocks) in
      subst (IsZeroed blocks h) (sym same) (record {
        fits = record { blocks = refl; block_len = sym k.told.block_len; whole = length-replicate (bytes_of s.block_len blocks) 0 ∙ bytes };
        zeros = ap (λ (n : ℕ). replicate n 0) bytes;
      })

  -- the next name is of no page
  pub fresh_name : h.pages s.next_name ≡ None
  fresh_name = k.fresh.pages s.next_name (none_there (get s.pages s.next_name) (λ y there. let low : s.next_name < s.next_name = k.sound.owned.names s.next_name y there in omega (arith, low)))

  pub fresh_loan : (t blocks : ℕ) (loan : LoanToken) → get s.buffers loan.number ≡ None → loan ≡ record { number = loan.number; client = t; buf = zeros blocks s.block_len } → IsFreshLoan t blocks loan h
  fresh_loan t blocks loan none same = record {
    fresh = k.fresh.loans loan.number none;
    client = ap (λ (l : LoanToken). l.client) same;
    buffer = zeroed blocks loan.buf (ap (λ (l : LoanToken). l.buf) same);
  }
