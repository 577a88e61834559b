-- A session's turn: what it has in hand at first, and what it did when the turn is over.
use Rattle.std.proofs.Common.{filter, ◌≡◌, ℕ, ◌<◌, ◌≤◌, List, [], ◌∷◌, ◌++◌, Bool, false, is_some, length, Result, Ok, Err, IfOk, IsErr, OnOk, None, option_map, inl, inr, sym, ap, ◌∙◌, subst, arith}
use Rattle.std.proofs.lemmas.Bool.{cases_lt, false≢true}
use Rattle.std.proofs.lemmas.List.Elements.{filter-append}
use Rattle.std.proofs.lemmas.List.{append_assoc, append-nil}
use Rattle.atomic_table.specs.Seated.{TableId}
use Rattle.pool.specs.Unused.{unused_in}
use Rattle.outside.specs.declared.slot.Slot.{Ghosts}
use Rattle.pool_model.specs.declared.event.Event.{Event}
use Rattle.pool_model.specs.declared.entry.Entry.{Entry}
use Rattle.pool_model.specs.State.{Opening}
use Rattle.pool_model.specs.Legal.{IsLegal}
use Rattle.pool_model.specs.LookingBack.{is_by, made_by}
use Rattle.pin_core.specs.declared.tally.Tally.{Tally}
use Rattle.store_api.specs.Tokens.{ClientToken}
use Rattle.store_api.specs.Holdings.{Holdings}
use Rattle.store_api.specs.Entries.{by}
use Rattle.own_entries.specs.Busy.{busy_from}
use Rattle.own_entries.specs.ClientLaws.{IsWholeIdle}
use Rattle.own_entries.specs.FitLaws.{FitsHeld}
use Rattle.own_entries.specs.HeldLaws.{own_holdings}
use Rattle.own_entries.specs.OwnHoldings.{holdings_of}
use Rattle.turn_table.specs.declared.view.View.{View}
use Rattle.turn_table.specs.Lists.{times}
use Rattle.turn_table.specs.Steps.{grown}
use Rattle.turn_table.specs.Face.{Spot}
use Rattle.turn_table.proofs.Sums.{same_self}
use Rattle.session_calls.specs.Coming.{IsFresh}
use Rattle.session_calls.specs.declared.hand.Hand.{Hand}
use Rattle.session_calls.specs.declared.count.Count.{Count}
use Rattle.session_calls.specs.declared.count.Count.TheVariants as count
use Rattle.session_calls.specs.Having.{Sight, sight_of}
use Rattle.session_calls.specs.Told.{held_in}
use Rattle.session_calls.specs.Ready.{IsReady, IsResting}
use Rattle.session_calls.specs.Doing.{Does}
use Rattle.session_calls.proofs.Lists.{by_own, none_own}
use Rattle.session_calls.specs.Acting.{Acts, held_by as held_in_hand}
use Rattle.pool.specs.declared.item.Item.{Item}
use Rattle.pool.specs.declared.ledger.Ledger.{Ledger}
use Rattle.pool.specs.Items.{counts_in, history}
use Rattle.pool.specs.Ledgers.{HasClients, TellsHeld}
use Rattle.pool.specs.Sitting.{Did, Sitting, Sits, held_by, shared}
use Rattle.pool.specs.Taking.{Takes, made_since}
use Rattle.pool.specs.Keeping.{KeepsSeat}
use Rattle.pool.specs.Turning.{IsInTurn, MayEndTurn, SitsAgain}
use Rattle.pool.proofs.Beside.{own_beside, others_made}
use Rattle.pool.proofs.Entered.{own_then}
use Rattle.pool.proofs.Listed.{history_more}
use Rattle.pool.proofs.Since.{sight_since}
use Rattle.pool.proofs.Staying.{Stay, has_told, has_still}

pub its_right : (m : ℕ) (rights : List ℕ) → rights ≡ m ∷ [] → 0 < times m rights
its_right m rights is = subst (λ (all : List ℕ). 0 < times m all) (sym is) (let one = same_self m in omega (arith, one))

-- the value was taken
module _ {D : Type 0} (slot : Ghosts D) (o : Opening) (told : Bool) (first : Tally) (was : Sitting) (spot : Spot Item) (hand : Hand D) (sits : Sits o told was) (takes : Takes slot o told first was.number was.spot spot hand) where
  trail_seen : hand.trail ≡ history spot.knows.seen
  trail_seen = ap (λ (s : Sight). s.trail) takes.stands.sight_is

  same_own : made_by hand.trail was.number ≡ made_by (history was.spot.knows.seen) was.number
  same_own =
      ap (λ (h : List Entry). made_by h was.number) trail_seen
      ∙ own_beside was.spot.knows.rights was.spot.knows.seen spot.knows.seen takes.grew was.number (its_right was.number was.spot.knows.rights sits.right)

  same_held : held_in_hand o (shared told) hand ≡ held_by o told was
  unfolding held_in
  same_held = ap (λ (m : ℕ). own_holdings o (shared told) hand.trail m) takes.session ∙ ap (holdings_of o.block_len was.number (shared told)) same_own

  rests_still : IsResting o (shared told) hand.session hand.trail
  rests_still = record {
    number = subst (λ (m : ℕ). m < 240) (sym takes.session) sits.rests.number;
    live = ap (λ (h : Holdings). is_some h.free_slots) same_held ∙ sits.rests.live;
    few = subst (λ (h : Holdings). h.live_clients ≤ 16) (sym same_held) sits.rests.few;
    still = λ p. ap (λ (m : ℕ). busy_from p false (made_by hand.trail m)) takes.session ∙ ap (busy_from p false) same_own ∙ sits.rests.still p;
  }

  pub begins : IsInTurn slot o told first was spot hand
  begins = record {
    turn = takes.turn;
    rights = takes.rights ∙ sits.right;
    session = takes.session;
    ready = record { whole = takes.stands.whole; rests = rests_still };
    held = same_held;
    sight = takes.stands.sight_is;
    marked = takes.stands.marked;
    quotas = takes.stands.sessions;
    own = same_own;
    more = history takes.grew.behind;
    grew = trail_seen ∙ ap history takes.grew.grew ∙ history_more was.spot.knows.seen takes.grew.behind;
    beside = others_made was.number takes.grew.behind (takes.grew.beside was.number (its_right was.number was.spot.knows.rights sits.right));
  }

-- the value was given back
module _ {D : Type 0} (slot : Ghosts D) (o : Opening) (told : Bool) (first : Tally) (spot new : Spot Item) (before after : Ledger) (hand : Hand D) (may : MayEndTurn slot o told first spot before hand)
    (grows : new.knows ≡ grown (made_since hand.session spot.knows.seen (sight_of hand)) spot.knows) where
  abbrev it : Sitting
  it = record { number = hand.session; spot = new }

  seen_now : history new.knows.seen ≡ hand.trail
  seen_now =
      ap (λ (v : View Item). history v.seen) grows
      ∙ ap (λ (s : Sight). s.trail) (sight_since hand.session (by hand.session may.gives.events) may.gives.went first spot.knows.seen (sight_of hand) may.gives.trail may.gives.counts)

  held_now : held_in_hand o (shared told) hand ≡ held_by o told it
  held_now = ap (held_in o (shared told) hand.session) (sym seen_now)

  pub ends : TellsHeld after (held_in_hand o (shared told) hand) → FitsHeld (held_in_hand o (shared told) hand) → IsWholeIdle (held_in_hand o (shared told) hand) → SitsAgain o told after hand it
  ends tells fits whole = record {
    seen = seen_now;
    sits = record {
      idle = ap (λ (v : View Item). v.stage) grows;
      right = ap (λ (v : View Item). v.rights) grows ∙ may.rights;
      rests = subst (IsResting o (shared told) hand.session) (sym seen_now) may.ready.rests;
      legal = subst (IsLegal o) (sym seen_now) may.ready.whole.stands.legal;
    };
    tells = subst (TellsHeld after) held_now tells;
    fits = subst FitsHeld held_now fits;
    whole = subst IsWholeIdle held_now whole;
  }

-- between the two the session did something
module _ {D : Type 0} {slot : Ghosts D} {o : Opening} {told : Bool} {tally : Tally} {was seen : Sitting} {spot : Spot Item} {hand : Hand D} (same : was ≡ seen) (begun : IsInTurn slot o told tally was spot hand) where
  -- what is so of what the session held is so of what it holds in hand, and the other way round
  pub as_held : (P : Holdings → Type 0) → P (held_by o told seen) → P (held_in_hand o (shared told) hand)
  as_held P is = subst P (sym (begun.held ∙ ap (held_by o told) same)) is

  pub as_was : (P : Holdings → Type 0) → P (held_in_hand o (shared told) hand) → P (held_by o told seen)
  as_was P is = subst P (begun.held ∙ ap (held_by o told) same) is

  pub has_first : {block_len : ℕ} {ledger : Ledger} → KeepsSeat o told block_len ledger was → HasClients ledger.accounts (held_in_hand o (shared told) hand)
  has_first {block_len} {ledger} kept = subst (HasClients ledger.accounts) (sym begun.held) (has_told ledger (held_by o told was) kept.tells)

  -- a client that wasn't there has no account, and there is room for one where it may come
  pub no_account : {E : Type 0} {block_len : ℕ} {ledger : Ledger} → KeepsSeat o told block_len ledger was → (r : Result ClientToken E) → IfOk r (λ c. IsFresh c (held_in_hand o (shared told) hand)) → IfOk r (λ c. unused_in ledger.accounts c.tracker ≡ None)
  no_account {ledger = ledger} kept (Ok c) fresh =
      kept.tells.accounts c.tracker ∙ ap (λ (h : Holdings). option_map (λ account. account.unused) (h.clients c.tracker)) (sym begun.held) ∙ ap (option_map (λ account. account.unused)) fresh.fresh
  no_account kept (Err e) fresh = tt

  pub room_left : {A E : Type 0} {block_len : ℕ} {ledger : Ledger} → KeepsSeat o told block_len ledger was → (r : Result A E) → (16 ≤ (held_in_hand o (shared told) hand).live_clients → IsErr r) → OnOk r (length ledger.accounts < 16)
  room_left {ledger = ledger} kept (Ok x) refused = elim (cases_lt (length ledger.accounts) 16) [
    | inl low ↦ low
    | inr high ↦ absurd (false≢true (refused (subst (λ (n : ℕ). 16 ≤ n) (has_first kept).count high)))
  ]
  room_left kept (Err e) refused = tt

  module _ (next : Hand D) where
    pub may_end : {P : List Event → Type 0} → Acts P hand next → IsReady slot o (shared told) next → (ledger : Ledger) → HasClients ledger.accounts (held_in_hand o (shared told) next) → MayEndTurn slot o told tally spot ledger next
    may_end acts ready ledger clients =
        let right : spot.knows.rights ≡ next.session ∷ [] = begun.rights ∙ ap (λ (m : ℕ). m ∷ []) (sym (acts.session ∙ begun.session)) in
        record {
          turn = begun.turn;
          rights = right;
          ready = ready;
          gives = record {
            right = its_right next.session spot.knows.rights right;
            events = acts.events;
            opens = acts.opens;
            trail = acts.trail ∙ ap (λ (s : Sight). s.trail ++ by hand.session acts.events) begun.sight ∙ ap (λ (m : ℕ). history spot.knows.seen ++ by m acts.events) (sym acts.session);
            went = [];
            counts = acts.counts ∙ ap (λ (s : Sight). s.counts) begun.sight ∙ ap (λ (cs : List Count). count.Opening tally ∷ cs) (sym (append-nil (counts_in spot.knows.seen)));
            whole = ready.whole;
            marked = begun.marked;
            quotas = λ k. acts.quotas k ∙ begun.quotas k;
          };
          clients = clients;
        }

    -- as it may where no client came and none went
    pub may_stay : {P : List Event → Type 0} → Acts P hand next → IsReady slot o (shared told) next → Stay (held_in_hand o (shared told) hand) (held_in_hand o (shared told) next)
        → {block_len : ℕ} {ledger : Ledger} → KeepsSeat o told block_len ledger was → MayEndTurn slot o told tally spot ledger next
    may_stay acts ready stay {block_len} {ledger} kept =
        may_end acts ready ledger (has_still ledger.accounts (held_in_hand o (shared told) hand) (held_in_hand o (shared told) next) (has_first kept) stay)

    module _ {now : Spot Item} {ledger : Ledger} (ended : SitsAgain o told ledger next (record { number = next.session; spot = now })) where
      pub did_acts : {P : List Event → Type 0} {table : TableId} → Acts P hand next → now.table ≡ table → seen.spot.table ≡ table → Did P seen (record { number = was.number; spot = now })
      did_acts {P} acts here first = record {
        number = ap (λ (s : Sitting). s.number) same;
        table = here ∙ sym first;
        does = subst (λ (s : Sitting). Does s.number P (history s.spot.knows.seen) (history now.knows.seen)) same (record {
          events = acts.events;
          is = acts.is;
          own =
              ap (λ (h : List Entry). made_by h was.number) ended.seen
              ∙ subst (λ (m : ℕ). made_by next.trail m ≡ made_by hand.trail m ++ by m acts.events) begun.session (own_then hand next acts)
              ∙ ap (λ (h : List Entry). h ++ by was.number acts.events) begun.own;
          more = begun.more ++ by hand.session acts.events;
          grew =
              ended.seen ∙ acts.trail ∙ ap (λ (h : List Entry). h ++ by hand.session acts.events) begun.grew
              ∙ append_assoc (history was.spot.knows.seen) begun.more (by hand.session acts.events);
          mine =
              filter-append (is_by was.number) begun.more (by hand.session acts.events)
              ∙ ap (λ (h : List Entry). h ++ filter (is_by was.number) (by hand.session acts.events)) (none_own was.number begun.more begun.beside)
              ∙ ap (λ (m : ℕ). filter (is_by was.number) (by m acts.events)) begun.session ∙ by_own was.number acts.events;
        });
      }

      pub sits_on : {P : List Event → Type 0} {block_len : ℕ} {first : Ledger} → Acts P hand next → KeepsSeat o told block_len first was → KeepsSeat o told block_len ledger (record { number = was.number; spot = now })
      sits_on {P} {block_len} acts kept =
          subst (λ (m : ℕ). KeepsSeat o told block_len ledger (record { number = m; spot = now })) (acts.session ∙ begun.session)
          (record { sits = ended.sits; power = kept.power; len = kept.len; tells = ended.tells; fits = ended.fits; whole = ended.whole })
