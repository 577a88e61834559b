-- Two streams are all that a client has. For tests.
use Rattle.std.specs.Prelude.{◌≡◌, ◌≢◌, ℕ, Some}
use Rattle.store_api.specs.Holdings.{Holdings, LivePage}
use Rattle.store_api.specs.Tokens.{ClientToken}
use Rattle.tuple_stream.specs.Streamed.{Streamed}
use Rattle.tuple_stream.specs.Streams.{IsApart}
use Rattle.partition_stack.specs.Leaving.{HasNoLoan}
use Rattle.join_op.specs.Chunks.{AreReadable}

-- they may be read, and the client has no other page and no loan
pub record AreAlone (c : ClientToken) (left right : Streamed) (h : Holdings) : Type 0 where
  pub readable : AreReadable c left right h
  pub only : (q : ℕ) (page : LivePage) → h.pages q ≡ Some page → IsApart q left.pages → IsApart q right.pages → page.client ≢ c.tracker
  pub loans : HasNoLoan c.tracker h
