-- The entries of a call come to what its clause says.
use Rattle.std.proofs.Common.{◌≡◌, ℕ, ◌+◌, ◌-◌, ◌≤◌, ◌==◌, List, [], ◌∷◌, ◌++◌, Bool, true, false, if◌then◌else◌, Option, Some, None, IsSome, is_some, All, refl, ap, ◌∙◌, arith, inl, inr, le-leb}
use Rattle.std.proofs.Math.Path.{fun_ext}
use Rattle.reservation_tree.specs.declared.errors.PoolErr.{PoolErr}
use Rattle.reservation_tree.specs.declared.errors.PoolErr.TheVariants.{WriteFault, ReadFault, NamesSpent, Stale}
use Rattle.reservation_tree.specs.declared.mark.Mark.{Mark}
use Rattle.pool_model.specs.declared.call.Call.{Call}
use Rattle.pool_model.specs.declared.call.Call.TheVariants as call
use Rattle.pool_model.specs.declared.event.Event.{Event}
use Rattle.pool_model.specs.declared.event.Event.TheVariants.{CloseTracker, MoveReservation, PinHere, PinLoad, ReadOk, ReadFailed, ReadStale, StartWrite, WriteOk, WriteFailed, Evict, Refused}
use Rattle.pool_model.specs.declared.entry.Entry.{Entry}
use Rattle.store_api.specs.Holdings.{Account, Holdings, put, or_else, no_account, account_of, page_of, unused_of, page_len}
use Rattle.store_api.specs.Changes.{charged, released, lowered, after_end_client, after_reserve, shortfall, after_give_back, after_move_reservation, after_pin, after_unpin_once}
use Rattle.store_api.specs.Entries.{by, AreWrites, IsEvict, IsAsked, IsTaken, IsPin, IsFailedLoad, IsStaleLoad, IsRefusal}
use Rattle.reservation_tree.proofs.Maps.{found}
use Rattle.std.proofs.lemmas.List.Elements.{All-head, All-tail}
use Rattle.store_api.proofs.Puts.{put_here, put_same}
use Rattle.own_entries.specs.OwnHoldings.{step, after_events, after_entries, none_held, moved_between, given_to_query, client_ended, session_ended, has_client}
use Rattle.own_entries.specs.CallLaws.{CanBeCharged, AllCallsTell, CallsRunOn}

module _ {X : Type 0} where
  -- to put twice is to put the second
  pub put_again : (f : ℕ → Option X) (k : ℕ) (v w : Option X) → put k w (put k v f) ≡ put k w f
  put_again f k v w = fun_ext (λ q. elim (q == k) as (λ b. (if b then w else (if b then v else f q)) ≡ (if b then w else f q)) [ true ↦ refl | false ↦ refl ])

-- writes change nothing that is held
writes_hold : (who : ℕ) (over h : Holdings) (writes rest : List Event) → AreWrites who over writes → after_events h (writes ++ rest) ≡ after_events h rest
writes_hold who over h [] rest are = refl
writes_hold who over h (StartWrite p ∷ WriteOk q ∷ more) rest are = writes_hold who over h more rest are.2
writes_hold who over h (StartWrite p ∷ WriteFailed q sum_before sum_after ∷ more) rest are = writes_hold who over h more rest are.2
writes_hold who over h _ rest are = absurd are

-- nor do evictions
one_evicted : (h : Holdings) (e : Event) (rest : List Event) → IsEvict e → after_events h (e ∷ rest) ≡ after_events h rest
one_evicted h (Evict p) rest is = refl
one_evicted h _ rest is = absurd is

evicts_hold : (h : Holdings) (evicts rest : List Event) → All IsEvict evicts → after_events h (evicts ++ rest) ≡ after_events h rest
evicts_hold h [] rest are = refl
evicts_hold h (e ∷ more) rest are =
    one_evicted h e (more ++ rest) (All-head IsEvict e more are) ∙ evicts_hold h more rest (All-tail IsEvict e more are)

pub asked_hold : (who : ℕ) (h : Holdings) (last events : List Event) → IsAsked who h last events → after_events h events ≡ after_events h last
asked_hold who h last events asked = ap (after_events h) asked.2 ∙ writes_hold who h h asked.0 last asked.1

pub taken_hold : (who : ℕ) (h : Holdings) (last events : List Event) → IsTaken who h last events → after_events h events ≡ after_events h last
taken_hold who h last events taken = asked_hold who h (taken.0 ++ last) events taken.2 ∙ evicts_hold h taken.0 last taken.1

-- the tests on who is a client
by_client : (h : Holdings) (t : ℕ) (x y : Holdings) → IsSome (h.clients t) → (if has_client t h then x else y) ≡ x
by_client h t x y is = ap (λ (b : Bool). if b then x else y) is

moved_clients : (h : Holdings) (from to bytes : ℕ) → IsSome (h.clients from) → IsSome (h.clients to) → moved_between (has_client from h) (has_client to h) from to bytes h ≡ after_move_reservation from to bytes h
moved_clients h from to bytes is is_to = ap (λ (b : Bool). moved_between b (has_client to h) from to bytes h) is ∙ ap (λ (b : Bool). moved_between true b from to bytes h) is_to

ended : (h : Holdings) (t : ℕ) → IsSome (h.clients t) → h.clients h.query ≡ None
    → after_events h (MoveReservation t h.query (account_of t h).reservation ∷ CloseTracker t ∷ []) ≡ after_end_client t h
ended h t is none =
    let bytes : ℕ = (account_of t h).reservation in
    let up : moved_between (has_client t h) (has_client h.query h) t h.query bytes h ≡ given_to_query t bytes h =
    ap (λ (b : Bool). moved_between b (has_client h.query h) t h.query bytes h) is ∙ ap (λ (o : Option Account). moved_between true (is_some o) t h.query bytes h) none in
    let there : is_some ((given_to_query t bytes h).clients t) ≡ true = ap is_some (put_here t (Some (lowered bytes (account_of t h))) h.clients) in
    ap (λ (g : Holdings). step (CloseTracker t) g) up
    ∙ by_client (given_to_query t bytes h) t (client_ended t (given_to_query t bytes h)) (session_ended (given_to_query t bytes h)) there
    ∙ ap (λ (cs : ℕ → Option Account). record (after_end_client t h) { clients = cs }) (put_again h.clients t (Some (lowered bytes (account_of t h))) None)

-- a charge that comes back leaves all as it was
charge_returns : (h : Holdings) (t bytes : ℕ) → IsSome (h.clients t) → bytes ≤ unused_of t h → released t bytes (charged t bytes h) ≡ h
charge_returns h t bytes is fits =
    let it : (x : Account) × (h.clients t ≡ Some x) = found (h.clients t) is in
    let now : account_of t (charged t bytes h) ≡ record (account_of t h) { unused = unused_of t h - bytes } = ap (or_else no_account) (put_here t (Some (record (account_of t h) { unused = unused_of t h - bytes })) h.clients) in
    let mine : account_of t h ≡ it.0 = ap (or_else no_account) it.1 in
    let back : (unused_of t h - bytes) + bytes ≡ unused_of t h = omega (arith, fits) in
    let whole : record (account_of t (charged t bytes h)) { unused = unused_of t (charged t bytes h) + bytes } ≡ it.0 =
    ap (λ (a : Account). record a { unused = a.unused + bytes }) now ∙ ap (λ (n : ℕ). record (account_of t h) { unused = n }) back ∙ mine in
    ap (λ (cs : ℕ → Option Account). record h { clients = cs }) (
    ap (λ (a : Account). put t (Some a) (charged t bytes h).clients) whole
    ∙ put_again h.clients t _ (Some it.0)
    ∙ put_same h.clients t (Some it.0) it.1)

failed_load_holds : (who : ℕ) (h : Holdings) (p entry : ℕ) (events : List Event) → CanBeCharged p h → IsFailedLoad who h p entry events → after_events h events ≡ h
failed_load_holds who h p entry events can failed =
    taken_hold who h (PinLoad p ∷ ReadFailed p failed.0 failed.1 ∷ Refused (call.Pin p) entry ∷ []) events failed.2
    ∙ charge_returns h (page_of p h).client (page_len p h) can.client can.unused

stale_load_holds : (who : ℕ) (h : Holdings) (p : ℕ) (wanted found : Mark) (events : List Event) → CanBeCharged p h → IsStaleLoad who h p wanted found events → after_events h events ≡ h
stale_load_holds who h p wanted found events can stale =
    taken_hold who h (PinLoad p ∷ ReadStale p wanted found ∷ Refused (call.Pin p) stale.0 ∷ []) events stale.1
    ∙ charge_returns h (page_of p h).client (page_len p h) can.client can.unused

refused : (who : ℕ) (h : Holdings) (what : Call) (e : PoolErr) (events : List Event) → ((p : ℕ) → what ≡ call.Pin p → CanBeCharged p h) → IsRefusal who h what e events → after_events h events ≡ h
refused who h what (WriteFault entry) events can is = asked_hold who h (Refused what entry ∷ []) events is
refused who h (call.Pin p) (ReadFault entry) events can is = failed_load_holds who h p entry events (can p refl) is
refused who h (call.Pin p) (Stale wanted found) events can is = stale_load_holds who h p wanted found events (can p refl) is
refused who h what NamesSpent events can is = asked_hold who h [] events is
refused who h what _ events can is = ap (after_events h) is

pinned : (who : ℕ) (h : Holdings) (p : ℕ) (events : List Event) → IsPin who h p events → after_events h events ≡ after_pin p h
pinned who h p events (inl here) = asked_hold who h (PinHere p ∷ []) events here
pinned who h p events (inr loaded) = taken_hold who h (PinLoad p ∷ ReadOk p ∷ []) events loaded

pub calls_tell : AllCallsTell
calls_tell who h = record {
  add_client = λ t limit. refl;
  end_client = ended h;
  reserve = λ t bytes is. by_client h t (after_reserve t bytes h) _ is;
  reserve_to_fit = λ t bytes is. by_client h t (after_reserve t (shortfall t bytes h) h) _ is;
  give_back = λ t bytes events is asked. asked_hold who h _ events asked ∙ by_client h t (after_give_back t bytes h) _ is;
  move_reservation = λ from to bytes events is is_to asked. asked_hold who h _ events asked ∙ moved_clients h from to bytes is is_to;
  create = λ p t blocks key events taken. taken_hold who h _ events taken;
  pin = pinned who h;
  pin_again = λ p events asked. asked_hold who h _ events asked;
  unpin_once = λ p several. ap (λ (b : Bool). if b then after_unpin_once p h else h) (le-leb 2 (page_of p h).pins several);
  unpin = λ p bytes. refl;
  unpin_refused = λ p. refl;
  extract = λ p f. refl;
  destroy = λ p. refl;
  alloc = λ f t blocks events taken. taken_hold who h _ events taken;
  free = λ f. refl;
  move_buffer = λ f to events asked. asked_hold who h _ events asked;
  refused = refused who h;
}

run_on : (h : Holdings) (session : ℕ) (own : List Entry) (events : List Event) → after_entries h (own ++ by session events) ≡ after_events (after_entries h own) events
run_on h session [] [] = refl
run_on h session [] (e ∷ es) = run_on (step e h) session [] es
run_on h session (x ∷ own) events = run_on (step x.event h) session own events

pub calls_run_on : CallsRunOn
calls_run_on block_len session outset own events = run_on (none_held block_len session outset) session own events
