-- What calls on the clients of a session and on their reservations enter, and why growths are refused.
use Rattle.std.proofs.Common.{◌≡◌, ◌≢◌, ℕ, ◌≤◌, true, List, [], ◌∷◌, ◌++◌, Option, Some, None, IsSome, IfSome, IfNone, is_some, option_map, Result, Err, IsErr, IfErr, refl, sym, ap, ◌∙◌, subst, arith, inl, inr}
use Rattle.std.proofs.lemmas.Bool.{false≢true}
use Rattle.std.proofs.lemmas.List.{append_assoc}
use Rattle.std.specs.FinMap.{get}
use Rattle.outside.specs.declared.slot.Slot.{Ghosts}
use Rattle.reservation_tree.specs.declared.errors.PoolErr.{PoolErr}
use Rattle.reservation_tree.specs.Answer.{no_reservation, IsFrom}
use Rattle.reservation_tree.specs.Change.{Refusal}
use Rattle.reservation_tree.specs.Tracker.{IsLive, reservation_of}
use Rattle.pool_model.specs.declared.event.Event.{Event}
use Rattle.pool_model.specs.declared.event.Event.TheVariants.{AddTracker, CloseTracker, Increase, IncreaseToFit, MoveReservation}
use Rattle.pool_model.specs.declared.entry.Entry.{Entry}
use Rattle.pool_model.specs.State.{Opening, State, opened}
use Rattle.pool_model.specs.Bytes.{bytes_of}
use Rattle.pool_model.specs.Sums.{memory}
use Rattle.pool_model.specs.Legal.{state_after}
use Rattle.pool_model.specs.LookingBack.{made_by}
use Rattle.pool_model.specs.Effects.{after}
use Rattle.pool_model.specs.Owning.{IsClientOf}
use Rattle.store_api.specs.Tokens.{ClientToken}
use Rattle.store_api.specs.Holdings.{Above, Holdings, Room, Shared, account_of}
use Rattle.store_api.specs.Changes.{query_growth, shortfall, after_end_client, after_reserve}
use Rattle.store_api.specs.Conditions.{IsIdle}
use Rattle.store_api.specs.Refusals.{reserve_refusal, IsSharedRefusal}
use Rattle.own_entries.specs.AboveLaws.{AllBy}
use Rattle.own_entries.specs.HeldLaws.{own_holdings}
use Rattle.own_entries.specs.OwnHoldings.{Outset, after_events}
use Rattle.own_entries.proofs.AloneRefused.{legal_refuses_alone}
use Rattle.own_entries.proofs.Calls.{calls_tell}
use Rattle.pin_core.specs.StateOf.{state_of}
use Rattle.pin_core.specs.calls.Sessions.{query_of, client_count, IsIdle as HasNothing}
use Rattle.pin_core.specs.Standing.{Enters}
use Rattle.pin_core.specs.calls.Entering.{growth_refusal, fit_refusal, client_entry}
use Rattle.pin_core.specs.calls.Opening.{leaving_entries}
use Rattle.session_calls.specs.Moving.{rests}
use Rattle.session_calls.proofs.Clients.{query_is, fewer, client_here, client_lives, reservation_here, leaving_is, has_nothing}
use Rattle.session_calls.proofs.Refusals.{all_refused, fit_is, none_else, refused_told, shared_told}
use Rattle.session_calls.proofs.SharedAbove.{stays_shared}
use Rattle.session_calls.proofs.Sized.{run_memory}
use Rattle.session_calls.specs.declared.hand.Hand.{Hand}
use Rattle.session_calls.specs.Told.{held_in}
use Rattle.session_calls.specs.Moving.{quota_at, keeps_seats}
use Rattle.session_calls.specs.Ready.{IsReady}
use Rattle.session_calls.specs.Acting.{ActsThese, Goes, TellsAbove, held_by}
use Rattle.session_calls.proofs.Knowing.{Knows, held_is, knows}
use Rattle.session_calls.proofs.Quotas.{quota_closed}
use Rattle.session_calls.proofs.Steps.{acts_by, ready_by, one_ready, one_acts}

-- what stands above a session's query is shared, where it was when the session was opened
held_shared : {D : Type 0} (o : Opening) (u : Outset) (hand : Hand D) → u.above ≡ Shared → (held_by o u hand).above ≡ Shared
unfolding held_in
held_shared o u hand shared = stays_shared o.block_len hand.session u shared (made_by hand.trail hand.session)

module _ {D : Type 0} (slot : Ghosts D) (o : Opening) (u : Outset) (hand : Hand D) (is : IsReady slot o u hand) where
  abbrev s : State
  s = state_of hand.state

  abbrev held : Holdings
  held = held_by o u hand

  its : Knows o u hand
  its = knows slot o u hand is

  -- a client came
  pub came : (t tracker q limit : ℕ) (new : Hand D) → tracker ≡ t → q ≡ query_of s hand.session → (client_count s hand.session ≡ 16 → ⊥)
      → Enters slot (client_entry hand.session (query_of s hand.session) limit t ∷ []) [] [] hand.state new.state
      → new.trail ≡ hand.trail ++ record { maker = hand.session; event = AddTracker tracker q limit None } ∷ [] → new.session ≡ hand.session → new.counts ≡ hand.counts
      → IsReady slot o u new × ActsThese (AddTracker t held.query limit None ∷ []) hand new
  came t tracker q limit new same_t same_q free enters trail session counts =
      let e : Event = AddTracker t held.query limit None in
      let went : Goes slot (e ∷ []) hand new = record {
        trail = trail ∙ ap (λ (k : ℕ). hand.trail ++ client_entry hand.session q limit k ∷ []) same_t ∙ ap (λ (k : ℕ). hand.trail ++ client_entry hand.session k limit t ∷ []) (same_q ∙ query_is its);
        session = session;
        counts = counts;
        enters = subst (λ (k : ℕ). Enters slot (client_entry hand.session k limit t ∷ []) [] [] hand.state new.state) (query_is its) enters;
      } in
      (one_ready slot o u hand new is e went refl refl (after_events held (e ∷ [])) refl is.rests.live (fewer its is.rests.few free), one_acts slot o u hand new is e went refl refl)

  -- its query is no client's
  query_apart : (c : ℕ) → IsSome (held.clients c) → its.session.query ≢ c
  query_apart c some same = false≢true (sym (ap is_some its.fits.apart) ∙ ap (λ (q : ℕ). is_some (held.clients q)) (its.told.tracker ∙ same) ∙ some)

  -- a client that is read
  pub read_lives : (t c : ℕ) → t ≡ c → IsSome (held.clients c) → IsLive s.trackers t
  read_lives t c same some = subst (IsLive s.trackers) (sym same) (client_lives its c some)

  -- where all memory is above it, and it alone made entries, a growth is refused exactly as the store's clauses say it
  refused_alone : (u.above ≡ Room (bytes_of o.block_len o.blocks)) × AllBy hand.session hand.trail → (c bytes : ℕ) → IsSome (held.clients c) → option_map no_reservation (growth_refusal s c bytes) ≡ reserve_refusal c bytes held
  refused_alone all c bytes some =
      let m : ℕ = hand.session in
      let alone : Above → Holdings = λ a. own_holdings o (record { above = a; told = u.told }) hand.trail m in
      let there : get (state_after o hand.trail).sessions m ≡ Some its.session = ap (λ (z : State). get z.sessions m) (sym is.whole.stands.state) ∙ its.lives in
      let whole : alone (Room (memory (state_after o hand.trail))) ≡ held =
      ap alone (ap Room (run_memory (opened o) hand.trail) ∙ sym all.0) ∙ held_is o u hand in
      let here : IsSome ((alone (Room (memory (state_after o hand.trail)))).clients c) → option_map no_reservation (growth_refusal (state_after o hand.trail) c bytes) ≡ reserve_refusal c bytes (alone (Room (memory (state_after o hand.trail)))) =
      legal_refuses_alone o u.told hand.trail is.whole.stands.legal m all.1 its.session there c bytes in
      ap (λ (z : State). option_map no_reservation (growth_refusal z c bytes)) is.whole.stands.state
      ∙ subst (λ (h : Holdings). IsSome (h.clients c) → option_map no_reservation (growth_refusal (state_after o hand.trail) c bytes) ≡ reserve_refusal c bytes h) whole here some

  -- a growth's answer, by what is told of the room above
  refused_by : TellsAbove o u hand → (c bytes : ℕ) → IsSome (held.clients c) → (r : Option Refusal) → r ≡ growth_refusal s c bytes → (answer : Result (Unit {0}) PoolErr)
      → (IsSome r → IsErr answer) → IfErr answer (IsFrom r) → IfSome (reserve_refusal c bytes held) (λ x. answer ≡ Err x)
  refused_by (inl shared) c bytes some r same answer = refused_told its (held_shared o u hand shared) c bytes some r same answer
  refused_by (inr all) c bytes some r same answer = all_refused r (reserve_refusal c bytes held) (ap (option_map no_reservation) same ∙ refused_alone all c bytes some) answer

  shared_by : TellsAbove o u hand → (c bytes : ℕ) → IsSome (held.clients c) → (r : Option Refusal) → r ≡ growth_refusal s c bytes → (answer : Result (Unit {0}) PoolErr)
      → IfErr answer (IsFrom r) → IfNone (reserve_refusal c bytes held) (IfErr answer (IsSharedRefusal (query_growth bytes held) held.above))
  shared_by (inl shared) c bytes some r same answer = shared_told its (held_shared o u hand shared) c bytes some r same answer
  shared_by (inr all) c bytes some r same answer =
      none_else r (reserve_refusal c bytes held) (ap (option_map no_reservation) same ∙ refused_alone all c bytes some) (IsSharedRefusal (query_growth bytes held) held.above) answer

  -- a client whose token was made anew
  module _ (mine : ClientToken) (t c : ℕ) (made : mine ≡ record { session = hand.session; tracker = t }) (same : t ≡ c) (some : IsSome (held.clients c)) where
    token_is : mine ≡ record { session = hand.session; tracker = c }
    token_is = made ∙ ap (λ (n : ℕ). record { session = hand.session; tracker = n }) same

    pub token_client : IsClientOf s mine.session mine.tracker
    token_client = subst (λ (k : ClientToken). IsClientOf s k.session k.tracker) (sym token_is) (client_here its c some)

    pub token_idle : IsIdle c held → HasNothing s mine.tracker
    token_idle idle = subst (λ (k : ClientToken). HasNothing s k.tracker) (sym token_is) (has_nothing its c some idle)

    -- its reservation grew by so many bytes
    reserved_by : (e : ℕ → Event) (bytes : ℕ) → rests (e c) ≡ true → keeps_seats (e c) ≡ true → after_events held (e c ∷ []) ≡ after_reserve c bytes held → (new : Hand D)
        → Enters slot (record { maker = mine.session; event = e mine.tracker } ∷ []) [] [] hand.state new.state
        → new.trail ≡ hand.trail ++ record { maker = hand.session; event = e t } ∷ [] → new.session ≡ hand.session → new.counts ≡ hand.counts → IsReady slot o u new × ActsThese (e c ∷ []) hand new
    reserved_by e bytes rest keeps ends new enters trail session counts =
        let went : Goes slot (e c ∷ []) hand new = record {
          trail = trail ∙ ap (λ (k : ℕ). hand.trail ++ record { maker = hand.session; event = e k } ∷ []) same;
          session = session;
          counts = counts;
          enters = subst (λ (k : ClientToken). Enters slot (record { maker = k.session; event = e k.tracker } ∷ []) [] [] hand.state new.state) token_is enters;
        } in
        (one_ready slot o u hand new is (e c) went rest keeps (after_reserve c bytes held) ends is.rests.live is.rests.few, one_acts slot o u hand new is (e c) went rest keeps)

    pub grew_by : (bytes : ℕ) (new : Hand D) → Enters slot (record { maker = mine.session; event = Increase mine.tracker bytes } ∷ []) [] [] hand.state new.state
        → new.trail ≡ hand.trail ++ record { maker = hand.session; event = Increase t bytes } ∷ [] → new.session ≡ hand.session → new.counts ≡ hand.counts → IsReady slot o u new × ActsThese (Increase c bytes ∷ []) hand new
    grew_by bytes = reserved_by (λ k. Increase k bytes) bytes refl refl ((calls_tell hand.session held).reserve c bytes some)

    pub grew_to_fit : (bytes : ℕ) (new : Hand D) → Enters slot (record { maker = mine.session; event = IncreaseToFit mine.tracker bytes } ∷ []) [] [] hand.state new.state
        → new.trail ≡ hand.trail ++ record { maker = hand.session; event = IncreaseToFit t bytes } ∷ [] → new.session ≡ hand.session → new.counts ≡ hand.counts → IsReady slot o u new × ActsThese (IncreaseToFit c bytes ∷ []) hand new
    grew_to_fit bytes = reserved_by (λ k. IncreaseToFit k bytes) (shortfall c bytes held) refl refl ((calls_tell hand.session held).reserve_to_fit c bytes some)

    -- why it can't grow, if it can't: for its own limits, or for one that others share
    module _ (tells : TellsAbove o u hand) (answer : Result (Unit {0}) PoolErr) (bytes : ℕ) where
      growth_is : growth_refusal s mine.tracker bytes ≡ growth_refusal s c bytes
      growth_is = ap (λ (k : ClientToken). growth_refusal s k.tracker bytes) token_is

      pub growth_refused : (IsSome (growth_refusal s mine.tracker bytes) → IsErr answer) → IfErr answer (IsFrom (growth_refusal s mine.tracker bytes)) → IfSome (reserve_refusal c bytes held) (λ x. answer ≡ Err x)
      growth_refused = refused_by tells c bytes some (growth_refusal s mine.tracker bytes) growth_is answer

      pub growth_shared : IfErr answer (IsFrom (growth_refusal s mine.tracker bytes)) → IfNone (reserve_refusal c bytes held) (IfErr answer (IsSharedRefusal (query_growth bytes held) held.above))
      growth_shared = shared_by tells c bytes some (growth_refusal s mine.tracker bytes) growth_is answer

      fit_so : fit_refusal s mine.tracker bytes ≡ growth_refusal s c (shortfall c bytes held)
      fit_so = ap (λ (k : ClientToken). fit_refusal s k.tracker bytes) token_is ∙ fit_is its c bytes some

      pub fit_refused : (IsSome (fit_refusal s mine.tracker bytes) → IsErr answer) → IfErr answer (IsFrom (fit_refusal s mine.tracker bytes)) → IfSome (reserve_refusal c (shortfall c bytes held) held) (λ x. answer ≡ Err x)
      fit_refused = refused_by tells c (shortfall c bytes held) some (fit_refusal s mine.tracker bytes) fit_so answer

      pub fit_shared : IfErr answer (IsFrom (fit_refusal s mine.tracker bytes)) → IfNone (reserve_refusal c (shortfall c bytes held) held) (IfErr answer (IsSharedRefusal (query_growth (shortfall c bytes held) held) held.above))
      fit_shared = shared_by tells c (shortfall c bytes held) some (fit_refusal s mine.tracker bytes) fit_so answer

    -- it went
    pub left : IsIdle c held → (q bytes : ℕ) (new : Hand D) (first : List Entry) → q ≡ query_of s hand.session → bytes ≡ reservation_of s.trackers t
        → Enters slot (leaving_entries s mine.session mine.tracker) [] [] hand.state new.state
        → first ≡ hand.trail ++ record { maker = hand.session; event = MoveReservation t q bytes } ∷ []
        → new.trail ≡ first ++ record { maker = hand.session; event = CloseTracker t } ∷ [] → new.session ≡ hand.session → new.counts ≡ hand.counts
        → IsReady slot o u new × ActsThese (MoveReservation c held.query (account_of c held).reservation ∷ CloseTracker c ∷ []) hand new
    left idle q bytes new first same_q same_bytes enters trail_first trail session counts =
        let m : ℕ = hand.session in
        let gives : Event = MoveReservation c held.query (account_of c held).reservation in
        let events : List Event = gives ∷ CloseTracker c ∷ [] in
        let goes_away : ℕ → ℕ → ℕ → List Entry = λ who to n. record { maker = m; event = MoveReservation who to n } ∷ record { maker = m; event = CloseTracker who } ∷ [] in
        let went : Goes slot events hand new = record {
          trail =
              trail ∙ ap (λ (h : List Entry). h ++ record { maker = m; event = CloseTracker t } ∷ []) trail_first ∙ append_assoc hand.trail (record { maker = m; event = MoveReservation t q bytes } ∷ []) (record { maker = m; event = CloseTracker t } ∷ [])
              ∙ ap (λ (who : ℕ). hand.trail ++ goes_away who q bytes) same ∙ ap (λ (to : ℕ). hand.trail ++ goes_away c to bytes) (same_q ∙ query_is its)
              ∙ ap (λ (n : ℕ). hand.trail ++ goes_away c held.query n) (same_bytes ∙ ap (reservation_of s.trackers) same ∙ reservation_here its c some);
          session = session;
          counts = counts;
          enters =
              subst (λ (es : List Entry). Enters slot es [] [] hand.state new.state) (leaving_is its c some)
              (subst (λ (k : ClientToken). Enters slot (leaving_entries s k.session k.tracker) [] [] hand.state new.state) token_is enters);
        } in
        let few : (after_end_client c held).live_clients ≤ 16 = let now : held.live_clients ≤ 16 = is.rests.few in omega (arith, now) in (
          ready_by slot hand new events went o u is (refl, (refl, tt)) (refl, (refl, tt)) (after_end_client c held) ((calls_tell m held).end_client c some its.fits.apart) is.rests.live few,
          acts_by slot hand new events went refl (refl, (refl, tt)) (λ k.
              ap (λ (z : State). quota_at z k) went.enters.state
              ∙ quota_closed (after s (record { maker = m; event = gives })) m c its.session k its.lives (query_apart c some)),
        )
