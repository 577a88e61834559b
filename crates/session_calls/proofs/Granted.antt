-- What a session's steps enter that need room of a client, and whether its reservation may move.
use Rattle.std.proofs.Common.{◌≡◌, ◌≢◌, ℕ, ◌-◌, ◌<◌, ◌≤◌, ◌==◌, Bool, true, false, if◌then◌else◌, [], ◌∷◌, ◌++◌, Some, None, IsSome, is_some, refl, sym, ap, ◌∙◌, subst, arith}
use Rattle.outside.specs.declared.slot.Slot.{Ghosts}
use Rattle.reservation_tree.specs.declared.errors.PoolErr.TheVariants.{NoReservation}
use Rattle.reservation_tree.specs.Change.{move_refusal as tree_move_refusal}
use Rattle.reservation_tree.specs.Tracker.{limit_of, reservation_of}
use Rattle.pool_model.specs.declared.event.Event.{Event}
use Rattle.pool_model.specs.declared.event.Event.TheVariants.{Decrease, MoveReservation, PinAgain, MoveBuffer}
use Rattle.pool_model.specs.State.{Opening, State, page_at}
use Rattle.pool_model.specs.Sums.{HasRoom}
use Rattle.pool_model.specs.Owning.{IsClientOf}
use Rattle.store_api.specs.Tokens.{ClientToken, PageToken, LoanToken}
use Rattle.store_api.specs.Holdings.{Holdings, loan_of, loan_len, unused_of as unused_in}
use Rattle.store_api.specs.Conditions.{IsLoan, IsPage}
use Rattle.store_api.specs.Refusals.{client_room, move_refusal}
use Rattle.own_entries.specs.OwnHoldings.{Outset, after_events, has_client, moved_between}
use Rattle.pin_core.specs.StateOf.{state_of}
use Rattle.pin_core.specs.Standing.{Enters}
use Rattle.pin_core.specs.calls.Entering.{unused_of, move_entry}
use Rattle.pin_core.specs.calls.Lending.{CanMoveTo, move_entry as lend_entry}
use Rattle.session_calls.specs.Moving.{rests}
use Rattle.session_calls.proofs.Clients.{client_here, unused_here, within_limit, room_is_here}
use Rattle.session_calls.proofs.Refusals.{move_granted, move_fits, move_passes}
use Rattle.session_calls.proofs.Pages.{is_there}
use Rattle.session_calls.proofs.Loans.{can_move}
use Rattle.session_calls.specs.declared.hand.Hand.{Hand}
use Rattle.session_calls.specs.Moving.{keeps_seats}
use Rattle.session_calls.specs.Ready.{IsReady}
use Rattle.session_calls.specs.Acting.{Goes, held_by}
use Rattle.session_calls.proofs.Knowing.{Knows, knows}
use Rattle.session_calls.proofs.Steps.{one_ready}

-- as many slots are free as before, and as many clients live
record StaysLive (old new : Holdings) : Type 0 where
  slots : new.free_slots ≡ old.free_slots
  count : new.live_clients ≡ old.live_clients

either_stays : (h : Holdings) (b : Bool) (u v : Holdings) → StaysLive h u → StaysLive h v → StaysLive h (if b then u else v)
either_stays h true u v is_u is_v = is_u
either_stays h false u v is_u is_v = is_v

-- where reservation falls or moves, and where a loan changes hands
give_stays : (t bytes : ℕ) (h : Holdings) → StaysLive h (after_events h (Decrease t bytes ∷ []))
give_stays t bytes h = either_stays h (has_client t h) _ _ (record { slots = refl; count = refl }) (record { slots = refl; count = refl })

move_stays : (a b : Bool) (from to bytes : ℕ) (h : Holdings) → StaysLive h (moved_between a b from to bytes h)
move_stays true true from to bytes h = either_stays h (from == to) h _ (record { slots = refl; count = refl }) (record { slots = refl; count = refl })
move_stays true false from to bytes h = record { slots = refl; count = refl }
move_stays false true from to bytes h = record { slots = refl; count = refl }
move_stays false false from to bytes h = record { slots = refl; count = refl }

loan_stays : (f to : ℕ) (h : Holdings) → StaysLive h (after_events h (MoveBuffer f to ∷ []))
loan_stays f to h = either_stays h ((loan_of f h).client == to) h _ (record { slots = refl; count = refl }) (record { slots = refl; count = refl })

module _ {D : Type 0} (slot : Ghosts D) (o : Opening) (u : Outset) (hand : Hand D) (is : IsReady slot o u hand) where
  abbrev s : State
  s = state_of hand.state

  abbrev held : Holdings
  held = held_by o u hand

  its : Knows o u hand
  its = knows slot o u hand is

  -- it is ready after a step of one event with which no job begins or ends, nobody comes or goes, and slots stay free
  stepped : (e : Event) (new : Hand D) → rests e ≡ true → keeps_seats e ≡ true → StaysLive held (after_events held (e ∷ [])) → Goes slot (e ∷ []) hand new → IsReady slot o u new
  stepped e new rest keeps stays went =
      one_ready slot o u hand new is e went rest keeps (after_events held (e ∷ [])) refl (ap is_some stays.slots ∙ is.rests.live) (subst (λ (n : ℕ). n ≤ 16) (sym stays.count) is.rests.few)

  -- a pinned page of its own has one pin more
  pub pinned_again : (p : PageToken) → IsPage p held → (name : ℕ) → name ≡ p.name → (new : Hand D) → Enters slot (record { maker = (page_at s p.name).session; event = PinAgain p.name } ∷ []) [] [] hand.state new.state
      → new.trail ≡ hand.trail ++ record { maker = hand.session; event = PinAgain name } ∷ [] → new.session ≡ hand.session → new.counts ≡ hand.counts → IsReady slot o u new
  pinned_again p page name same new enters trail session counts =
      stepped (PinAgain p.name) new refl refl (record { slots = refl; count = refl }) (record {
        trail = trail ∙ ap (λ (q : ℕ). hand.trail ++ record { maker = hand.session; event = PinAgain q } ∷ []) same;
        session = session;
        counts = counts;
        enters = subst (λ (m : ℕ). Enters slot (record { maker = m; event = PinAgain p.name } ∷ []) [] [] hand.state new.state) (is_there its p page).whose enters;
      })

  -- a client whose token was made anew
  module _ (mine : ClientToken) (t c : ℕ) (made : mine ≡ record { session = hand.session; tracker = t }) (same : t ≡ c) where
    token_is : mine ≡ record { session = hand.session; tracker = c }
    token_is = made ∙ ap (λ (n : ℕ). record { session = hand.session; tracker = n }) same

    -- an entry that names it
    named_by : (e : ℕ → Event) (new : Hand D) → rests (e c) ≡ true → keeps_seats (e c) ≡ true → StaysLive held (after_events held (e c ∷ []))
        → Enters slot (record { maker = mine.session; event = e mine.tracker } ∷ []) [] [] hand.state new.state
        → new.trail ≡ hand.trail ++ record { maker = hand.session; event = e t } ∷ [] → new.session ≡ hand.session → new.counts ≡ hand.counts → IsReady slot o u new
    named_by e new rest keeps stays enters trail session counts =
        stepped (e c) new rest keeps stays (record {
          trail = trail ∙ ap (λ (k : ℕ). hand.trail ++ record { maker = hand.session; event = e k } ∷ []) same;
          session = session;
          counts = counts;
          enters = subst (λ (k : ClientToken). Enters slot (record { maker = k.session; event = e k.tracker } ∷ []) [] [] hand.state new.state) token_is enters;
        })

    pub gave_up : (bytes : ℕ) (new : Hand D) → Enters slot (record { maker = mine.session; event = Decrease mine.tracker bytes } ∷ []) [] [] hand.state new.state
        → new.trail ≡ hand.trail ++ record { maker = hand.session; event = Decrease t bytes } ∷ [] → new.session ≡ hand.session → new.counts ≡ hand.counts → IsReady slot o u new
    gave_up bytes new = named_by (λ k. Decrease k bytes) new refl refl (give_stays c bytes held)

    pub token_room : (bytes : ℕ) → HasRoom s c bytes → HasRoom s mine.tracker bytes
    token_room bytes room = subst (λ (k : ClientToken). HasRoom s k.tracker bytes) (sym token_is) room

    pub token_unused : IsSome (held.clients c) → (bytes : ℕ) → bytes ≤ unused_in c held → bytes ≤ unused_of s mine.tracker
    token_unused some bytes fits = subst (λ (k : ClientToken). bytes ≤ unused_of s k.tracker) (sym token_is) (unused_here its c some bytes fits)

    -- a loan is charged to it
    module _ (l : LoanToken) where
      pub may_have : IsLoan l held → IsSome (held.clients c) → HasRoom s c (loan_len l.number held) → CanMoveTo s l mine
      may_have loan some room = subst (CanMoveTo s l) (sym token_is) (can_move its l loan c some room)

      pub changed_hands : (f : ℕ) → f ≡ l.number → l.client ≢ c → (new : Hand D) → (l.client ≢ mine.tracker → Enters slot (lend_entry mine l.number ∷ []) [] [] hand.state new.state)
          → new.trail ≡ hand.trail ++ record { maker = hand.session; event = MoveBuffer f t } ∷ [] → new.session ≡ hand.session → new.counts ≡ hand.counts → IsReady slot o u new
      changed_hands f number apart new enters trail session counts =
          named_by (MoveBuffer l.number) new refl refl (loan_stays l.number c held)
          (enters (subst (λ (k : ClientToken). l.client ≢ k.tracker) (sym token_is) apart))
          (trail ∙ ap (λ (k : ℕ). hand.trail ++ record { maker = hand.session; event = MoveBuffer k t } ∷ []) number) session counts

    -- reservation goes to another
    module _ (other : ClientToken) (v to : ℕ) (made_other : other ≡ record { session = hand.session; tracker = v }) (same_to : v ≡ to) where
      other_is : other ≡ record { session = hand.session; tracker = to }
      other_is = made_other ∙ ap (λ (n : ℕ). record { session = hand.session; tracker = n }) same_to

      pub passed_on : (bytes : ℕ) (new : Hand D) → Enters slot (move_entry mine.session mine.tracker other.tracker bytes ∷ []) [] [] hand.state new.state
          → new.trail ≡ hand.trail ++ record { maker = hand.session; event = MoveReservation t v bytes } ∷ [] → new.session ≡ hand.session → new.counts ≡ hand.counts → IsReady slot o u new
      passed_on bytes new enters trail session counts =
          named_by (λ k. MoveReservation k to bytes) new refl refl (move_stays (has_client c held) (has_client to held) c to bytes held)
          (subst (λ (k : ClientToken). Enters slot (move_entry mine.session mine.tracker k.tracker bytes ∷ []) [] [] hand.state new.state) other_is enters)
          (trail ∙ ap (λ (k : ℕ). hand.trail ++ record { maker = hand.session; event = MoveReservation t k bytes } ∷ []) same_to) session counts

      pub other_client : IsSome (held.clients to) → IsClientOf s mine.session other.tracker
      other_client some =
          subst (λ (k : ClientToken). IsClientOf s k.session other.tracker) (sym made) (subst (λ (k : ClientToken). IsClientOf s hand.session k.tracker) (sym other_is) (client_here its to some))

      pub unrefused_here : IsSome (held.clients c) → IsSome (held.clients to) → (bytes : ℕ) → move_refusal c to bytes held ≡ None → tree_move_refusal bytes mine.tracker other.tracker s.trackers ≡ None
      unrefused_here some some_to bytes none =
          ap (λ (k : ClientToken). tree_move_refusal bytes k.tracker other.tracker s.trackers) token_is ∙ ap (λ (k : ClientToken). tree_move_refusal bytes c k.tracker s.trackers) other_is
          ∙ move_granted its c to bytes some some_to none

  -- a client's limit and reservation, as they are read
  module _ (t c : ℕ) (same : t ≡ c) (some : IsSome (held.clients c)) (limit reservation : ℕ) (limit_is : limit ≡ limit_of s.trackers t) (reservation_is : reservation ≡ reservation_of s.trackers t) where
    pub no_less : reservation ≤ limit
    no_less =
        let low : reservation_of s.trackers t ≤ limit_of s.trackers t = subst (λ (k : ℕ). reservation_of s.trackers k ≤ limit_of s.trackers k) (sym same) (within_limit its c some) in
        omega (arith, low, limit_is, reservation_is)

    read_room : limit - reservation ≡ client_room c held
    read_room =
        ap (λ (n : ℕ). n - reservation) limit_is ∙ ap (λ (n : ℕ). limit_of s.trackers t - n) reservation_is ∙ ap (λ (k : ℕ). limit_of s.trackers k - reservation_of s.trackers k) same
        ∙ room_is_here its c some

    -- whether it may have so much more of another's
    module _ (v from : ℕ) (same_from : v ≡ from) (apart : false ≡ (v == t)) where
      apart_here : (from == c) ≡ false
      apart_here = ap (λ (k : ℕ). k == c) (sym same_from) ∙ ap (λ (k : ℕ). v == k) (sym same) ∙ sym apart

      pub move_free : (bytes : ℕ) → bytes ≤ limit - reservation → move_refusal from c bytes held ≡ None
      move_free bytes fits = move_fits from c bytes (limit - reservation) held apart_here read_room fits

      pub move_error : (bytes : ℕ) → limit - reservation < bytes → move_refusal from c bytes held ≡ Some (NoReservation c bytes (limit - reservation))
      move_error bytes passes = move_passes from c bytes (limit - reservation) held apart_here read_room passes
