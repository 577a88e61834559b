-- What contracts see of clients, pages and loans: the numbers by which their store knows them.
use Rattle.std.specs.Prelude.{ℕ}
use Rattle.block_arena.specs.Memory.{Buffer}

-- a client, by its tracker
pub record ClientToken : Type 0 where
  pub session : ℕ
  pub tracker : ℕ

-- a page, with the tracker of its client
pub record PageToken : Type 0 where
  pub name : ℕ
  pub key : ℕ
  pub client : ℕ

-- a loan, with the tracker of its client, and its buffer
pub record LoanToken : Type 0 where
  pub number : ℕ
  pub client : ℕ
  pub buf : Buffer

-- the loan with another buffer
abbrev pub with_buf : LoanToken → Buffer → LoanToken
with_buf l buf = record l { buf = buf }
