-- A client comes: what the call needs, and what it leaves.
use Rattle.std.proofs.Common.{◌≡◌, ◌↔◌, ℕ, ◌<◌, ◌≤◌, [], ◌∷◌, length, Option, Some, None, IsSome, unwrap_or, option_map, refl, ap, sym, ◌∙◌, subst, arith}
use Rattle.std.specs.FinMap.{get, len}
use Rattle.index_list.specs.Listing.{stands_in}
use Rattle.reservation_tree.specs.Tracker.{IsLive}
use Rattle.reservation_tree.proofs.Maps.{found, is_there, get_same}
use Rattle.session_table.specs.Seats.{Seat, seat_of, members_of, trackers_of, changed, with_member}
use Rattle.session_table.specs.Sessions.{session_in, sessions_in}
use Rattle.session_table.proofs.Changes.{members_are, changed_seat}
use Rattle.session_table.proofs.Counts.{count_le}
use Rattle.pool_model.specs.State.{Session}
use Rattle.pool_model.specs.Owning.{IsClientOf}
use Rattle.pin_core.specs.declared.parts.Parts.{Parts}
use Rattle.pin_core.specs.StateOf.{state_of}
use Rattle.pin_core.specs.Invariant.{IsKept}
use Rattle.pin_core.specs.Lawful.{Lawful}
use Rattle.pin_core.specs.parts.Rearranging.{joined}
use Rattle.pin_core.specs.parts.Seating.{CanJoin, query_in}
use Rattle.pin_core.specs.calls.Sessions.{IsSeat, query_of, client_count}
use Rattle.pin_core.specs.calls.Entering.{client_entry}
use Rattle.pin_core.proofs.Entered.{Done}
use Rattle.pin_core.proofs.Bare.{query_is, count_is}
use Rattle.pin_core.proofs.JoinedClients.{joined_done}
use Rattle.pin_core.proofs.Queries.{client_none, query_at, session_here}
use Rattle.pin_core.proofs.SeatedClients.{hangs_none, HasSeat, has_seat}

module _ {D : Type 0} where
  -- a session that the state knows has a seat
  pub record Sits (v : Parts D) (s : ℕ) : Type 0 where
    pub seat : Seat
    pub there : seat_of v.seats s ≡ Some seat
    pub low : s < 240

  pub sits : (v old : Parts D) → v ≡ old → Lawful v → (s : ℕ) → IsSeat (state_of old) s → Sits v s
  sits v old same laws s live =
      let now : IsSome (get (sessions_in v.seats) s) = subst (λ (z : Parts D). IsSeat (state_of z) s) (sym same) live in
      let x : (y : Session) × (get (sessions_in v.seats) s ≡ Some y) = found (get (sessions_in v.seats) s) now in
      let seat : HasSeat v.seats s x.0 = has_seat v.seats laws.seats s x.0 x.1 in
      record { seat = seat.seat; there = seat.there; low = seat.low }

  pub query_there : (v : Parts D) (s : ℕ) (x : Seat) → seat_of v.seats s ≡ Some x → query_in v.seats s ≡ x.query
  query_there v s x is = ap (λ (o : Option Seat). unwrap_or (option_map (λ y. y.query) o) 0) is

  -- what all sessions may have is less than what a tree may have
  pub few_trackers : (v : Parts D) → IsKept v → Lawful v → len v.tree.trackers < 4096
  few_trackers v is_kept laws = let few = is_kept.seated.few in let most = count_le v.seats laws.seats in omega (arith, few, most)

  module _ (v old : Parts D) (same : v ≡ old) (is_kept : IsKept v) (laws : Lawful v) (s : ℕ) (live : IsSeat (state_of old) s) where
    seat : Sits v s
    seat = sits v old same laws s live

    pub can_join : CanJoin v s
    can_join =
        let is = seat.there in
        let members : members_of v.seats s ≡ seat.seat.members = members_are v.seats s seat.seat is in
        let query = query_at v is_kept s seat.seat is in
        record {
          seated = is_there (seat_of v.seats s) seat.seat is;
          query = subst (IsLive v.tree.trackers) (sym (query_there v s seat.seat is)) (is_there (get v.tree.trackers seat.seat.query) query.tracker query.lives);
          few = few_trackers v is_kept laws;
          members = subst (λ l. length l ≤ 16) (sym members) (laws.seats.each s seat.seat is).few;
          clients = is_kept.sized.clients;
          fresh = λ t none. is_kept.seated.opens t ∙ client_none v.tree.trackers t none;
          away = λ t none. ap (λ l. stands_in t (trackers_of l)) members ∙ is_kept.seated.clients s seat.seat is t ∙ hangs_none v.tree.trackers seat.seat.query t none;
        }

    -- the session is full where so many clients are live
    pub full_when : (length (members_of v.seats s) ≡ 16) ↔ (client_count (state_of old) s ≡ 16)
    full_when =
        let tie : client_count (state_of old) s ≡ length (members_of v.seats s) =
        ap (λ (z : Parts D). client_count (state_of z) s) (sym same) ∙ count_is v is_kept laws s seat.seat seat.there in
        (λ full. tie ∙ full, λ count. sym tie ∙ count)

    -- what a call leaves that was not refused
    pub record Added (limit t : ℕ) (new : Parts D) : Type 1 where
      pub done : Done (client_entry s (query_of (state_of old) s) limit t ∷ []) [] [] old new
      pub client : IsClientOf (state_of new) s t

    pub added : (limit t : ℕ) → get v.tree.trackers t ≡ None → t < 4096 → (new : Parts D) → new ≡ joined s (query_in v.seats s) limit t v → Added limit t new
    added limit t fresh below new is =
        let x : Seat = seat.seat in
        let named : query_in v.seats s ≡ seat.seat.query = query_there v s seat.seat seat.there in
        let made : joined s seat.seat.query limit t v ≡ new = sym (is ∙ ap (λ (q : ℕ). joined s q limit t v) named) in
        let query : seat.seat.query ≡ query_of (state_of old) s = sym (query_is v is_kept laws s seat.seat seat.there) ∙ ap (λ (z : Parts D). query_of (state_of z) s) same in
        let one : Done (client_entry s seat.seat.query limit t ∷ []) [] [] v (joined s seat.seat.query limit t v) = joined_done v is_kept laws s seat.seat seat.there seat.low t limit fresh below in
        record {
          done =
              subst (λ (z : Parts D). Done (client_entry s (query_of (state_of old) s) limit t ∷ []) [] [] z new) same
              (subst (λ (q : ℕ). Done (client_entry s q limit t ∷ []) [] [] v new) query
              (subst (λ (z : Parts D). Done (client_entry s seat.seat.query limit t ∷ []) [] [] v z) made one));
          client = subst (λ (z : Parts D). IsClientOf (state_of z) s t) made (record {
            session = session_in (with_member t seat.seat);
            opened = session_here (changed s (with_member t) v.seats) s (with_member t seat.seat) (changed_seat v.seats s (with_member t) seat.seat seat.there);
            tracker = _;
            lives = get_same v.tree.trackers t _;
            under = refl;
          });
        }
