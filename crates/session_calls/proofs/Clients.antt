-- What a pool has for a session's query and clients, as what the session holds tells it.
use Rattle.std.proofs.Common.{◌≡◌, ◌≢◌, ℕ, ◌+◌, ◌-◌, ◌≤◌, List, [], ◌∷◌, Option, IsSome, is_some, option_map, unwrap_or, sym, ap, ◌∙◌, subst, arith}
use Rattle.std.specs.FinMap.{get}
use Rattle.reservation_tree.specs.Tracker.{Tracker, IsLive, HasNoChild, no_tracker, limit_of, reservation_of}
use Rattle.pool_model.specs.declared.event.Event.TheVariants.{MoveReservation, CloseTracker}
use Rattle.pool_model.specs.State.{Session, State}
use Rattle.pool_model.specs.Sums.{charge_of}
use Rattle.pool_model.specs.Owning.{IsClientOf}
use Rattle.pool_model.specs.Sound.{IsQuery}
use Rattle.store_api.specs.Holdings.{Account, Holdings, or_else, no_account, account_of, unused_of as unused_in}
use Rattle.store_api.specs.Conditions.{FitsAccount, IsIdle}
use Rattle.store_api.specs.Entries.{by}
use Rattle.store_api.specs.Refusals.{client_room}
use Rattle.own_entries.specs.LiveParts.{count_under}
use Rattle.own_entries.proofs.ByItself.{room_is}
use Rattle.own_entries.proofs.Facts.{own_under}
use Rattle.own_entries.proofs.Idle.{no_page, no_buffer, none_under}
use Rattle.own_entries.proofs.Views.{account_is}
use Rattle.pin_core.specs.calls.Sessions.{IsSeat, query_of, client_count, IsIdle as HasNothing}
use Rattle.pin_core.specs.calls.Entering.{unused_of, move_entry, close_entry}
use Rattle.pin_core.specs.calls.Opening.{leaving_entries}
use Rattle.session_calls.proofs.Known.{KnownTo}

module _ {left : ℕ → List ℕ} {s : State} {m : ℕ} {h : Holdings} (k : KnownTo left s m h) where
  pub seat_lives : IsSeat s m
  seat_lives = ap is_some k.lives

  query_there : query_of s m ≡ k.session.query
  query_there = ap (λ (o : Option Session). unwrap_or (option_map (λ x. x.query) o) 0) k.lives

  pub query_is : query_of s m ≡ h.query
  query_is = query_there ∙ sym k.told.tracker

  pub query_lives : IsLive s.trackers (query_of s m)
  query_lives =
      let its : IsQuery s.trackers k.session.query = k.sound.seated.seats m k.session k.lives in
      subst (IsLive s.trackers) (sym query_there) (ap is_some its.lives)

  pub room_here : unused_of s (query_of s m) ≡ h.room
  room_here = ap (unused_of s) query_there ∙ room_is left [] s k.sound k.owned m k.session k.lives h k.told

  pub count_is : client_count s m ≡ h.live_clients
  unfolding count_under
  count_is = ap (λ (q : ℕ). count_under q s.trackers) query_there ∙ sym k.told.live_clients

  -- a query without clients may end
  pub no_child : h.live_clients ≡ 0 → HasNoChild s.trackers (query_of s m)
  no_child none = subst (HasNoChild s.trackers) (sym query_there) (none_under k.session.query s.trackers (sym k.told.live_clients ∙ none))

  -- all 16 have come
  pub all_come : client_count s m ≡ 16 → 16 ≤ h.live_clients
  all_come full = let count = count_is in omega (arith, count, full)

  module _ (few : h.live_clients ≤ 16) where
    pub not_all : 16 ≤ h.live_clients → client_count s m ≡ 16
    not_all full = let count = count_is in omega (arith, count, full, few)

    -- fewer, so one may come
    pub fewer : (client_count s m ≡ 16 → ⊥) → h.live_clients + 1 ≤ 16
    fewer free =
        let apart : h.live_clients ≢ 16 = λ all. free (count_is ∙ all) in
        omega (arith, few, apart)

  -- a client that the session holds
  module _ (c : ℕ) (some : IsSome (h.clients c)) where
    pub client_here : IsClientOf s m c
    client_here = k.client c some

    pub client_lives : IsLive s.trackers c
    client_lives = ap is_some client_here.lives

    pub unused_here : (bytes : ℕ) → bytes ≤ unused_in c h → bytes ≤ unused_of s c
    unused_here bytes fits = subst (λ (n : ℕ). bytes ≤ n) (sym (k.unused_is c some)) fits

    pub account_here : account_of c h ≡ record { limit = client_here.tracker.limit; reservation = client_here.tracker.reservation; unused = client_here.tracker.reservation - charge_of s c }
    account_here =
        ap (or_else no_account) (k.told.clients c ∙ account_is k.session.query (charge_of s c) (get s.trackers c) client_here.tracker client_here.lives (own_under s k.sound m k.session k.lives c client_here))

    pub limit_here : limit_of s.trackers c ≡ (account_of c h).limit
    limit_here = ap (λ (o : Option Tracker). (unwrap_or o no_tracker).limit) client_here.lives ∙ sym (ap (λ (a : Account). a.limit) account_here)

    pub reservation_here : reservation_of s.trackers c ≡ (account_of c h).reservation
    reservation_here = ap (λ (o : Option Tracker). (unwrap_or o no_tracker).reservation) client_here.lives ∙ sym (ap (λ (a : Account). a.reservation) account_here)

    pub within_limit : reservation_of s.trackers c ≤ limit_of s.trackers c
    within_limit =
        let fits : FitsAccount (account_of c h) h = k.fits.accounts c some in
        let low : (account_of c h).reservation ≤ (account_of c h).limit = fits.reservation in
        let limit = limit_here in
        let has = reservation_here in
        omega (arith, low, limit, has)

    pub room_is_here : limit_of s.trackers c - reservation_of s.trackers c ≡ client_room c h
    room_is_here = ap (λ (n : ℕ). n - reservation_of s.trackers c) limit_here ∙ ap (λ (n : ℕ). (account_of c h).limit - n) reservation_here

    -- the entries with which it ends, as the session tells them
    pub leaving_is : leaving_entries s m c ≡ by m (MoveReservation c h.query (account_of c h).reservation ∷ CloseTracker c ∷ [])
    leaving_is =
        ap (λ (q : ℕ). move_entry m c q (reservation_of s.trackers c) ∷ close_entry m c ∷ []) query_is ∙ ap (λ (n : ℕ). move_entry m c h.query n ∷ close_entry m c ∷ []) reservation_here

    -- without pages and loans it has nothing in the pool either
    pub has_nothing : IsIdle c h → HasNothing s c
    has_nothing idle = record {
      pages = no_page left s k.sound k.owned m k.session k.lives h k.told c client_here idle;
      buffers = no_buffer left s k.sound k.owned m k.session k.lives h k.told c client_here idle;
    }
