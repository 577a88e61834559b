-- A session begins a call: the failures of its clients are forgotten.
use Rattle.std.proofs.Common.{◌≡◌, ℕ, ◌+◌, ◌<◌, [], ◌∷◌, Some, None, IsSome, get_or, refl, ap, sym, ◌∙◌, subst}
use Rattle.std.specs.FinMap.{get}
use Rattle.index_list.specs.Listing.{stands_in}
use Rattle.reservation_tree.proofs.Maps.{found}
use Rattle.session_table.specs.Seats.{Seat, seat_of, trackers_of, changed, forgotten}
use Rattle.session_table.specs.Sessions.{sessions_in}
use Rattle.session_table.proofs.Trackers.{forgotten_trackers}
use Rattle.session_table.proofs.Counts.{count_forgotten}
use Rattle.session_table.proofs.Found.{sessions_forgotten}
use Rattle.pool_model.specs.declared.event.Event.TheVariants as event
use Rattle.pool_model.specs.State.{Session, Sessions, shown}
use Rattle.pool_model.specs.Sums.{slots_of}
use Rattle.pin_core.specs.declared.parts.Parts.{Parts}
use Rattle.pin_core.specs.StateOf.{pages_in, state_of}
use Rattle.pin_core.specs.Invariant.{IsKept, hangs_under}
use Rattle.pin_core.specs.Lawful.{Lawful}
use Rattle.pin_core.specs.parts.Rearranging.{asked}
use Rattle.pin_core.specs.calls.Sessions.{IsSeat}
use Rattle.pin_core.specs.calls.Entering.{ask_entry}
use Rattle.pin_core.proofs.Entered.{Done}
use Rattle.pin_core.proofs.Rearranged.{rearranged_done}
use Rattle.pin_core.proofs.SeatedClients.{HasSeat, has_seat, some_seat, page_opened}
use Rattle.pin_core.proofs.Queries.{quotas_kept, at_changed}

module _ {D : Type 0} (v : Parts D) (is_kept : IsKept v) (laws : Lawful v) where
  pub asked_done : (s : ℕ) (x : Seat) → seat_of v.seats s ≡ Some x → s < 240 → Done (record { maker = s; event = event.Ask } ∷ []) [] [] v (asked s v)
  asked_done s x is low = rearranged_done v.tree v.lists.is_open v.slots.quotas v.slots.spare (changed s forgotten v.seats) v (record { maker = s; event = event.Ask }) is_kept (record {
    charges = λ t. refl;
    opened = page_opened v is_kept laws;
    lent = λ q. quotas_kept v.seats s forgotten (λ y. refl) q (get_or v.slots.quotas q None) (slots_of (pages_in v.pages) q) (is_kept.counted.quotas q);
    seated = let z = is_kept.seated in record {
      clients = at_changed v.seats s forgotten x is (λ y. (t : ℕ) → stands_in t (trackers_of y.members) ≡ hangs_under v.tree.trackers y.query t)
          (λ t. ap (stands_in t) (forgotten_trackers x) ∙ z.clients s x is t)
          (λ m y other there. z.clients m y there);
      opens = z.opens;
      few = z.few ∙ ap (λ (n : ℕ). 1 + n) (sym (count_forgotten v.seats s x is));
    };
    clients = refl;
    sessions = refl;
    state = ap (λ (m : Sessions). record (state_of v) { sessions = m; entries = shown (v.entries + 1) }) (sessions_forgotten v.seats s x is);
    may = λ h. record { makes = low; allows = tt };
    leaves = λ q old. refl;
  })

-- the call, where the parts are known by an equation
module _ {D : Type 0} (v old : Parts D) (same : v ≡ old) (s : ℕ) (live : IsSeat (state_of old) s) where
  live_now : IsSome (get (sessions_in v.seats) s)
  live_now = subst (λ (z : Parts D). IsSeat (state_of z) s) (sym same) live

  pub seat_there : IsSome (seat_of v.seats s)
  seat_there = let x : (y : Session) × (get (sessions_in v.seats) s ≡ Some y) = found (get (sessions_in v.seats) s) live_now in some_seat v.seats s x.0 x.1

  pub asked_answer : IsKept v → Lawful v → (new : Parts D) → new ≡ asked s v → Done (ask_entry s ∷ []) [] [] old new
  asked_answer is_kept laws new is =
      let x : (y : Session) × (get (sessions_in v.seats) s ≡ Some y) = found (get (sessions_in v.seats) s) live_now in
      let seat : HasSeat v.seats s x.0 = has_seat v.seats laws.seats s x.0 x.1 in
      subst (λ (z : Parts D). Done (ask_entry s ∷ []) [] [] z new) same
      (subst (λ (z : Parts D). Done (ask_entry s ∷ []) [] [] v z) (sym is) (asked_done v is_kept laws s seat.seat seat.there seat.low))
