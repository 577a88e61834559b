-- What a session holds that has just begun.
use Rattle.std.proofs.Common.{◌≡◌, ℕ, ◌+◌, ◌<◌, ◌≤◌, List, [], ◌∷◌, ◌++◌, length, Bool, true, false, IsSome, is_some, option_map, refl, sym, ap, ◌∙◌, arith}
use Rattle.std.proofs.lemmas.List.{append_assoc}
use Rattle.pool.specs.declared.account.ClientAccount.{ClientAccount}
use Rattle.pool.specs.Unused.{unused_in}
use Rattle.pool_model.specs.declared.entry.Entry.{Entry}
use Rattle.pool_model.specs.State.{Opening}
use Rattle.pool_model.specs.LookingBack.{made_by}
use Rattle.pool_model.proofs.OwnEntries.{made_first, made_more}
use Rattle.store_api.specs.Holdings.{Holdings, Shared}
use Rattle.own_entries.specs.Busy.{busy_from}
use Rattle.own_entries.specs.ClientLaws.{IsWholeIdle}
use Rattle.own_entries.specs.FitLaws.{FitsHeld}
use Rattle.own_entries.specs.OwnHoldings.{holdings_of}
use Rattle.pin_core.specs.calls.Entering.{session_entry, increase_entry}
use Rattle.session_calls.specs.Ready.{IsResting}
use Rattle.session_calls.specs.Told.{held_in}
use Rattle.pool.specs.declared.item.Item.{Item}
use Rattle.pool.specs.declared.ledger.Ledger.{Ledger}
use Rattle.pool.specs.Items.{history, own_in}
use Rattle.pool.specs.Ledgers.{TellsHeld}
use Rattle.pool.specs.Sitting.{shared}
use Rattle.pool.specs.Seating.{HasBegun, beginning_items}
use Rattle.pool.proofs.Listed.{history_more}

module _ (o : Opening) (told : Bool) (items : List Item) (m query limit quota least : ℕ) where
  abbrev whole : List Item
  whole = items ++ beginning_items m query limit quota least

  abbrev first : Entry
  first = session_entry m limit quota query

  abbrev second : Entry
  second = increase_entry m query least

  pub own_first : own_in m whole ≡ first ∷ second ∷ []
  own_first =
      ap (λ (h : List Entry). made_by h m) (history_more items (beginning_items m query limit quota least) ∙ sym (append_assoc (history items) (first ∷ []) (second ∷ [])))
      ∙ made_more (history items ++ first ∷ []) second m refl refl
      ∙ ap (λ (es : List Entry). es ++ second ∷ []) (made_first (history items) first m refl refl)

  abbrev first_held : Holdings
  first_held = holdings_of o.block_len m (record { above = Shared; told = told }) (first ∷ second ∷ [])

  abbrev held_now : Holdings
  held_now = held_in o (shared told) m (history whole)

  held_first : held_now ≡ first_held
  unfolding held_in
  held_first = ap (holdings_of o.block_len m (shared told)) own_first

  pub begun : HasBegun o.block_len told limit quota least held_now
  begun = record {
    block_len = ap (λ (h : Holdings). h.block_len) held_first;
    most = ap (λ (h : Holdings). h.limit) held_first;
    reservation = let r : held_now.reservation ≡ 0 + least = ap (λ (h : Holdings). h.reservation) held_first in omega (arith, r);
    room = let r : held_now.room ≡ 0 + least = ap (λ (h : Holdings). h.room) held_first in omega (arith, r);
    above = ap (λ (h : Holdings). h.above) held_first;
    live_clients = ap (λ (h : Holdings). h.live_clients) held_first;
    clients = λ t. ap (λ (h : Holdings). h.clients t) held_first;
    pages = λ p. ap (λ (h : Holdings). h.pages p) held_first;
    loans = λ f. ap (λ (h : Holdings). h.loans f) held_first;
    free_slots = ap (λ (h : Holdings). h.free_slots) held_first;
    told = ap (λ (h : Holdings). h.told) held_first;
  }

  pub begun_rests : m < 240 → IsResting o (shared told) m (history whole)
  begun_rests low = record {
    number = low;
    live = ap is_some begun.free_slots;
    few = let none = begun.live_clients in omega (arith, none);
    still = λ p. ap (busy_from p false) own_first;
  }

module _ {len limit quota least : ℕ} {told : Bool} {h : Holdings} (is : HasBegun len told limit quota least h) where
  no_client : (t : ℕ) → IsSome (h.clients t) → ⊥
  no_client t there = let never : true ≡ false = sym there ∙ ap is_some (is.clients t) in cc

  pub begun_fits : least ≤ limit → FitsHeld h
  begun_fits fits = record {
    query = record {
      room = let room = is.room in let all = is.reservation in omega (arith, room, all);
      reservation = let all = is.reservation in let most = is.most in omega (arith, all, most, fits);
    };
    accounts = λ c there. absurd (no_client c there);
    apart = is.clients h.query;
  }

  pub begun_idle : IsWholeIdle h
  begun_idle = record {
    clients = λ t there idle. absurd (no_client t there);
    query = λ none. is.room ∙ sym is.reservation;
  }

  pub begun_tells : (ledger : Ledger) → ledger.room ≡ least → ledger.accounts ≡ [] → TellsHeld ledger h
  begun_tells ledger room none = record {
    room = room ∙ sym is.room;
    accounts = λ t. ap (λ (accounts : List ClientAccount). unused_in accounts t) none ∙ sym (ap (option_map (λ account. account.unused)) (is.clients t));
    count = ap length none ∙ sym is.live_clients;
  }
