-- What calls of a stream leave as it is of its counts and its client.
use Rattle.std.proofs.Common.{◌≡◌, ℕ, Option, Some, None, IsSome, option_map, refl, sym, subst}
use Rattle.store_api.specs.Tokens.{ClientToken}
use Rattle.store_api.specs.Conditions.{IsLiveClient}
use Rattle.store_api.specs.Holdings.{Account, Holdings, no_account, or_else, unused_of}
use Rattle.tuple_stream.specs.Streamed.{Streamed}
use Rattle.tuple_stream.specs.Touches.{Touches, with_unused}

same_unused : (o : Option Account) → o ≡ option_map (with_unused (or_else no_account o).unused) o
same_unused None = refl
same_unused (Some account) = refl

-- where no page came or went
pub touches_counts : (t : ℕ) (s : Streamed) (spent used count : ℕ) (h : Holdings) → Touches t s (record s { spent = spent; used = used; count = count }) h h
touches_counts t s spent used count h =
    record {
      block_len = refl;
      session = refl;
      query = refl;
      limit = refl;
      reservation = refl;
      room = refl;
      above = refl;
      live_clients = refl;
      loans = refl;
      told = refl;
      clients = λ q apart. refl;
      account = λ lives. same_unused (h.clients t);
      pages = λ q some apart. (refl, apart);
      back = λ q some apart. (refl, apart);
      unused = refl;
      slots = refl;
    }

pub still_some : (o : Option Account) (unused : ℕ) → IsSome o → IsSome (option_map (with_unused unused) o)
still_some None unused lives = lives
still_some (Some account) unused lives = refl

-- the client stays live
pub client_kept : (c : ClientToken) (s now : Streamed) (old new : Holdings) → IsLiveClient c old → Touches c.tracker s now old new → IsLiveClient c new
client_kept c s now old new lives touches =
    subst (λ (o : Option Account). IsSome o) (sym (touches.account lives)) (still_some (old.clients c.tracker) (unused_of c.tracker new) lives)
