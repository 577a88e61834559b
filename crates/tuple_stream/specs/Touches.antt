-- What a stream's calls change of its store, and what they may be refused for.
use Rattle.std.specs.Prelude.{◌≡◌, ◌≢◌, ℕ, ◌+◌, ◌<◌, List, [], sum_by, map, is_some, if◌then◌else◌, Option, Some, None, IsSome, option_map, ⊤}
use Rattle.reservation_tree.specs.declared.errors.PoolErr.{PoolErr}
use Rattle.reservation_tree.specs.declared.errors.PoolErr.TheVariants.{ScratchFull}
use Rattle.pool_model.specs.LookingBack.{content_from}
use Rattle.pool_model.specs.declared.entry.Entry.{Entry}
use Rattle.store_api.specs.Tokens.{PageToken}
use Rattle.store_api.specs.Holdings.{Account, Holdings, page_of, unused_of}
use Rattle.tuple_stream.specs.PageRows.{rows_on}
use Rattle.tuple_stream.specs.Streamed.{Streamed, len_in, bytes_of}
use Rattle.tuple_stream.specs.Streams.{IsApart}

-- the bytes that the stream's pinned page takes
abbrev pub held : Streamed → Holdings → ℕ
held s h = if is_some s.pinned then len_in s h else 0

-- the slots that a page has
abbrev pub slots_of : Streamed → Holdings → PageToken → ℕ
slots_of s h p = if (page_of p.name h).has_slots then s.page_blocks else 0

-- the free slots of the quota, and with them those of the stream's pages
abbrev pub slots_with : Streamed → Holdings → Option ℕ
slots_with s h = option_map (λ free. free + sum_by (slots_of s h) s.pages) h.free_slots

-- an account of which so much is unused
abbrev pub with_unused : ℕ → Account → Account
with_unused unused account = record account { unused = unused }

-- a call of a stream changed its own pages and what its client still has unused, and nothing else
pub record Touches (t : ℕ) (s now : Streamed) (old new : Holdings) : Type 0 where
  pub block_len : new.block_len ≡ old.block_len
  pub session : new.session ≡ old.session
  pub query : new.query ≡ old.query
  pub limit : new.limit ≡ old.limit
  pub reservation : new.reservation ≡ old.reservation
  pub room : new.room ≡ old.room
  pub above : new.above ≡ old.above
  pub live_clients : new.live_clients ≡ old.live_clients
  pub loans : new.loans ≡ old.loans
  pub told : new.told ≡ old.told
  pub clients : (q : ℕ) → q ≢ t → new.clients q ≡ old.clients q
  pub account : IsSome (old.clients t) → new.clients t ≡ option_map (with_unused (unused_of t new)) (old.clients t)
  pub pages : (q : ℕ) → IsSome (old.pages q) → IsApart q s.pages → (new.pages q ≡ old.pages q) × IsApart q now.pages
  pub back : (q : ℕ) → IsSome (new.pages q) → IsApart q now.pages → (old.pages q ≡ new.pages q) × IsApart q s.pages
  pub unused : unused_of t new + held now new ≡ unused_of t old + held s old
  pub slots : slots_with now new ≡ slots_with s old

-- want of slots names the blocks of a page and the free slots, which are fewer
abbrev pub IsFull : ℕ → Option ℕ → PoolErr → Type 0
IsFull blocks free (ScratchFull need few) = (need ≡ blocks) × (few < blocks) × (free ≡ Some few)
IsFull blocks free _ = ⊤

-- where the trail is told, the bytes of each page's last unpin have that page's rows
abbrev pub TellsRows : Streamed → Holdings → Option (List Entry) → Type 0
TellsRows s h None = ⊤
TellsRows s h (Some trail) =
    map (λ p. rows_on (content_from p.name [] trail)) s.pages ≡ map (λ p. rows_on (bytes_of s h p)) s.pages
