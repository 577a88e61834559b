-- What a pool's value has for a live session, as what the session holds tells it. The one owner of a pool is such a
-- session, and so is each of several.
use Rattle.std.proofs.Common.{◌≡◌, ℕ, List, [], true, Some, IsSome, is_some, sym, ap, ◌∙◌, subst}
use Rattle.std.specs.FinMap.{get}
use Rattle.reservation_tree.proofs.Maps.{found}
use Rattle.reservation_tree.specs.Tracker.{unused, reservation_of, children_of}
use Rattle.pool_model.specs.declared.entry.Entry.{Entry}
use Rattle.pool_model.specs.State.{Opening, Session, State}
use Rattle.pool_model.specs.Sums.{charge_of}
use Rattle.pool_model.specs.LookingBack.{content_from}
use Rattle.pool_model.specs.Legal.{state_after, IsLegal}
use Rattle.pool_model.specs.Owning.{IsClientOf}
use Rattle.pool_model.specs.Sound.{IsSound}
use Rattle.pool_model.proofs.Kept.{legal_sound}
use Rattle.pool_model.proofs.Failures.{PagesOwned, legal_pages_are_owned}
use Rattle.store_api.specs.Holdings.{Holdings, unused_of}
use Rattle.own_entries.specs.OwnHoldings.{Outset}
use Rattle.own_entries.specs.HeldLaws.{own_holdings}
use Rattle.own_entries.specs.LiveParts.{Tells}
use Rattle.own_entries.specs.FitLaws.{FitsHeld}
use Rattle.own_entries.specs.RefusalLaws.{RefusesAsTold}
use Rattle.own_entries.specs.ClientLaws.{HoldsOnlyLive, IsWholeIdle}
use Rattle.own_entries.proofs.Behind.{IsTold, IsLent, told_client, told_page, told_loan}
use Rattle.own_entries.proofs.ByItself.{client_unused}
use Rattle.own_entries.proofs.Held.{legal_holdings_are_told}
use Rattle.own_entries.proofs.Lives.{legal_lives_as_told}
use Rattle.own_entries.proofs.Fitting.{legal_holdings_fit}
use Rattle.own_entries.proofs.Refused.{legal_refuses_as_told}
use Rattle.own_entries.proofs.Fresh.{legal_holds_only_live}
use Rattle.own_entries.proofs.Idle.{legal_idle_is_whole}
use Rattle.own_entries.proofs.RootTight.{legal_root_is_tight}

-- the bytes that were left last in each page
abbrev pub left_of : List Entry → ℕ → List ℕ
left_of h p = content_from p [] h

-- the session is live, the pool has for it what it holds, where these bytes were left in pages last, and what it holds
-- fits; the root has reserved what its children have, and no more
pub record KnownTo (left : ℕ → List ℕ) (s : State) (m : ℕ) (h : Holdings) : Type 0 where
  pub session : Session
  pub lives : get s.sessions m ≡ Some session
  pub told : Tells left s.block_len s.trackers s.pages s.buffers m session.query session.quota h
  pub sound : IsSound s
  pub owned : PagesOwned s
  pub tight : reservation_of s.trackers 0 ≡ children_of s.trackers 0
  pub fits : FitsHeld h
  pub refuses : RefusesAsTold s m h
  pub fresh : HoldsOnlyLive s h
  pub idle : IsWholeIdle h
  pub client : (c : ℕ) → IsSome (h.clients c) → IsClientOf s m c
  pub unused_is : (c : ℕ) → IsSome (h.clients c) → unused (charge_of s) s.trackers c ≡ unused_of c h
  pub page : (p : ℕ) → IsSome (h.pages p) → IsTold s m p (h.pages p) (left p)
  pub loan : (f : ℕ) → IsSome (h.loans f) → IsLent s m f (h.loans f)

module _ (o : Opening) (outset : Outset) (hist : List Entry) (legal : IsLegal o hist) where
  known_after : (m : ℕ) (x : Session) → get (state_after o hist).sessions m ≡ Some x → KnownTo (left_of hist) (state_after o hist) m (own_holdings o outset hist m)
  known_after m x is =
      let s : State = state_after o hist in
      let h : Holdings = own_holdings o outset hist m in
      let sound : IsSound s = legal_sound o hist legal in
      let owned : PagesOwned s = legal_pages_are_owned o hist legal in
      let told : Tells (left_of hist) s.block_len s.trackers s.pages s.buffers m x.query x.quota h = legal_holdings_are_told o outset hist legal m x is in
      let client : (c : ℕ) → IsSome (h.clients c) → IsClientOf s m c = told_client (left_of hist) s m x is h told in
      record {
        session = x;
        lives = is;
        told = told;
        sound = sound;
        owned = owned;
        tight = legal_root_is_tight o hist legal;
        fits = legal_holdings_fit o outset hist legal m x is;
        refuses = legal_refuses_as_told o outset hist legal m x is;
        fresh = legal_holds_only_live o outset hist legal m x is;
        idle = legal_idle_is_whole o outset hist legal m x is;
        client = client;
        unused_is = λ c some. client_unused (left_of hist) hist s sound owned m x is h told c (client c some);
        page = told_page (left_of hist) s m x is h told;
        loan = told_loan (left_of hist) s m x is h told;
      }

  module _ (s : State) (same : s ≡ state_after o hist) (m : ℕ) where
    -- of a session that the pool has
    pub known_seat : (x : Session) → get s.sessions m ≡ Some x → KnownTo (left_of hist) s m (own_holdings o outset hist m)
    known_seat x is =
        subst (λ (t : State). KnownTo (left_of hist) t m (own_holdings o outset hist m)) (sym same) (known_after m x (ap (λ (t : State). get t.sessions m) (sym same) ∙ is))

    -- of one that is live by its own entries
    pub known : is_some (own_holdings o outset hist m).free_slots ≡ true → KnownTo (left_of hist) s m (own_holdings o outset hist m)
    known live =
        let seat : (x : Session) × (get (state_after o hist).sessions m ≡ Some x) = found (get (state_after o hist).sessions m) (legal_lives_as_told o outset hist legal m ∙ live) in
        known_seat seat.0 (ap (λ (t : State). get t.sessions m) same ∙ seat.1)
