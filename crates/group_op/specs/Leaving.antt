-- What a client has beside a stream, while calls of the stream go on.
use Rattle.std.specs.Prelude.{◌≡◌, ℕ, Some}
use Rattle.store_api.specs.Holdings.{Holdings, LiveLoan, LivePage}
use Rattle.tuple_stream.specs.Streamed.{Streamed}
use Rattle.tuple_stream.specs.Streams.{IsApart}

-- pages and loans of the client that aren't the stream's were so before
pub record Leaves (t : ℕ) (s now : Streamed) (old new : Holdings) : Type 0 where
  pub pages : (q : ℕ) (page : LivePage) → page.client ≡ t → new.pages q ≡ Some page → IsApart q now.pages → (old.pages q ≡ Some page) × IsApart q s.pages
  pub loans : (q : ℕ) (loan : LiveLoan) → loan.client ≡ t → new.loans q ≡ Some loan → old.loans q ≡ Some loan
  pub live_clients : new.live_clients ≡ old.live_clients
