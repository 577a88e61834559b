-- A table that gets more chains.
use Rattle.std.specs.Prelude.{◌≡◌, ℕ, ◌*◌, ◌%◌, List, ◌++◌, map}
use Rattle.store_api.specs.Holdings.{Holdings}
use Rattle.bucket_table.specs.Tables.{Lent, Node, Table}
use Rattle.bucket_table.specs.Lending.{Lends, bytes_of}

-- a node on the chain of its row's hash, of so many chains
abbrev pub rechained : (List ℕ → ℕ) → ℕ → Node → Node
rechained hash heads n = record n { chain = hash n.row % heads }

-- a table got as many loans of heads more as it had, so twice the chains, and each node is on the chain of its row's hash
pub record Widened (hash : List ℕ → ℕ) (was now : Table) (old new : Holdings) : Type 0 where
  pub loans : List Lent
  pub table : now ≡ record was { heads = 2 * was.heads; nodes = map (rechained hash (2 * was.heads)) was.nodes; head_loans = was.head_loans ++ loans }
  pub bytes : bytes_of loans ≡ bytes_of was.head_loans
  pub lends : Lends was.client loans old new
