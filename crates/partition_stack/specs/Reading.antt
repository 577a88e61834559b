-- A stream of a client is read while rows go to an emitter. `s` and `old` are the stream and what its store holds before, `now`
-- and `new` behind.
use Rattle.std.specs.Prelude.{◌≡◌, ◌≢◌, ◌↔◌, ℕ, ◌+◌, ◌≤◌, List, Option, Some, IsSome, option_map, true}
use Rattle.store_api.specs.Conditions.{IsLiveClient}
use Rattle.store_api.specs.Emitters.{SameFor}
use Rattle.store_api.specs.Holdings.{Holdings, LiveLoan, LivePage, unused_of}
use Rattle.store_api.specs.Tokens.{ClientToken}
use Rattle.tuple_stream.specs.Streamed.{Streamed}
use Rattle.tuple_stream.specs.Streams.{HasPageRoom, HasRows, IsApart, IsShaped}
use Rattle.tuple_stream.specs.Touches.{held, with_unused}

-- reading may show these rows: where pins are told, they are the stream's
abbrev pub MayShow : Streamed → Holdings → List (List ℕ) → Type 0
MayShow s h read = (rows : List (List ℕ)) → h.told ≡ true → HasRows rows s h → read ≡ rows

-- a stream of a live client, which has room for one of its pages
pub record IsReadable (c : ClientToken) (s : Streamed) (h : Holdings) : Type 0 where
  pub client : IsLiveClient c h
  pub shape : IsShaped c.tracker s h
  pub room : HasPageRoom c.tracker s h

-- of the query itself only its reservation may have risen
pub record IsSameQuery (old new : Holdings) : Type 0 where
  pub block_len : new.block_len ≡ old.block_len
  pub session : new.session ≡ old.session
  pub query : new.query ≡ old.query
  pub limit : new.limit ≡ old.limit
  pub live_clients : new.live_clients ≡ old.live_clients
  pub told : new.told ≡ old.told
  pub reservation : old.reservation ≤ new.reservation

-- a client's stream was read while rows went to an emitter: of its client only the pinned page and the unused bytes
-- changed, and of all others only what is the emitter's client's
pub record ReadBeside (t : ℕ) (client : Option ℕ) (s now : Streamed) (old new : Holdings) : Type 0 where
  pub shape : IsShaped t now new
  pub same : now ≡ record s { pinned = now.pinned }
  pub rows : (rows : List (List ℕ)) → old.told ≡ true → HasRows rows s old → HasRows rows now new
  pub unused : unused_of t new + held now new ≡ unused_of t old + held s old
  pub account : IsSome (old.clients t) → new.clients t ≡ option_map (with_unused (unused_of t new)) (old.clients t)
  pub pages : (q : ℕ) (page : LivePage) → page.client ≡ t → IsApart q s.pages → (new.pages q ≡ Some page) ↔ (old.pages q ≡ Some page)
  pub loans : (q : ℕ) (loan : LiveLoan) → loan.client ≡ t → (new.loans q ≡ Some loan) ↔ (old.loans q ≡ Some loan)
  pub others : (u : ℕ) → u ≢ t → client ≢ Some u → SameFor u old new
  pub query : IsSameQuery old new
