-- What the pool doesn't have, no session holds.
use Rattle.std.proofs.Common.{◌≡◌, ◌≢◌, ℕ, List, [], Some, None, IsSome, sym, ap, ◌∙◌, subst}
use Rattle.std.specs.FinMap.{get}
use Rattle.reservation_tree.proofs.Maps.{is_there}
use Rattle.pool_model.specs.State.{Session, State}
use Rattle.pool_model.specs.Sums.{charge_of}
use Rattle.pool_model.specs.LookingBack.{content_from}
use Rattle.pool_model.specs.Legal.{state_after}
use Rattle.pool_model.specs.Sound.{IsSound}
use Rattle.pool_model.proofs.Seats.{some_is}
use Rattle.pool_model.proofs.Kept.{legal_sound}
use Rattle.store_api.specs.Holdings.{LivePage, LiveLoan, Holdings}
use Rattle.own_entries.specs.LiveParts.{live_account, live_page, live_loan, Tells}
use Rattle.own_entries.specs.HeldLaws.{own_holdings}
use Rattle.own_entries.specs.ClientLaws.{IsNewNumber, HoldsOnlyLive, LegalHoldsOnlyLive}
use Rattle.own_entries.proofs.Facts.{seat}
use Rattle.own_entries.proofs.ByOthers.{fresh_apart}
use Rattle.own_entries.proofs.Behind.{IsTold, IsLent, told_page, told_loan}
use Rattle.own_entries.proofs.Held.{legal_holdings_are_told}

module _ (left : ℕ → List ℕ) (s : State) (sound : IsSound s) (m : ℕ) (x : Session) (is : get s.sessions m ≡ Some x) (h : Holdings)
    (told : Tells left s.block_len s.trackers s.pages s.buffers m x.query x.quota h) where
  -- a live client isn't a number that no tracker has
  live_apart : (t c : ℕ) → get s.trackers t ≡ None → IsSome (get s.trackers c) → c ≢ t
  live_apart t c none live same = let gone : get s.trackers c ≡ None = ap (get s.trackers) same ∙ none in cc

  new_number : (t : ℕ) → get s.trackers t ≡ None → IsNewNumber t h
  new_number t none = record {
    fresh = told.clients t ∙ ap (live_account x.query (charge_of s t)) none;
    apart = λ same. fresh_apart s t x.query (seat s sound m x is).tracker none (seat s sound m x is).lives (same ∙ told.tracker);
    idle = record {
      pages = λ p v there.
          let it : IsTold s m p (h.pages p) (left p) = told_page left s m x is h told p (is_there (h.pages p) v there) in
          let its : it.page.client ≡ v.client = ap (λ (w : LivePage). w.client) (some_is _ v (sym it.reads ∙ there)) in
          subst (λ (c : ℕ). c ≢ t) its (live_apart t it.page.client none (sound.owned.page_clients p it.page it.own.lives).live);
      loans = λ f v there.
          let it : IsLent s m f (h.loans f) = told_loan left s m x is h told f (is_there (h.loans f) v there) in
          let its : it.buffer.client ≡ v.client = ap (λ (w : LiveLoan). w.client) (some_is _ v (sym it.reads ∙ there)) in
          subst (λ (c : ℕ). c ≢ t) its (live_apart t it.buffer.client none (sound.owned.buffer_clients f it.buffer it.lives).live);
    };
  }

  only_live : HoldsOnlyLive s h
  only_live = record {
    trackers = new_number;
    pages = λ p none. told.live_pages p ∙ ap (live_page m (left p)) none;
    loans = λ f none. told.loans f ∙ ap (live_loan x.query s.trackers) none;
  }

pub legal_holds_only_live : LegalHoldsOnlyLive
legal_holds_only_live o outset h legal m x is =
    only_live (λ p. content_from p [] h) (state_after o h) (legal_sound o h legal) m x is (own_holdings o outset h m) (legal_holdings_are_told o outset h legal m x is)
