-- A call of a session that may take several turns: what it has in hand at first, what it needs to end, and what it did.
use Rattle.std.proofs.Common.{◌≡◌, ℕ, List, [], ◌∷◌, Bool, Some, refl, sym, ap, ◌∙◌, subst, append-nil}
use Rattle.outside.specs.declared.slot.Slot.{Ghosts}
use Rattle.atomic_table.specs.Seated.{TableId}
use Rattle.block_arena.specs.Memory.{Buffer}
use Rattle.reservation_tree.specs.declared.errors.PoolErr.{PoolErr}
use Rattle.pool_model.specs.declared.call.Call.{Call}
use Rattle.pool_model.specs.declared.event.Event.{Event}
use Rattle.pool_model.specs.declared.entry.Entry.{Entry}
use Rattle.pool_model.specs.State.{Opening, State}
use Rattle.pool_model.specs.Legal.{state_after}
use Rattle.pool_model.specs.LookingBack.{made_by}
use Rattle.store_api.specs.Tokens.{PageToken}
use Rattle.store_api.specs.Holdings.{Holdings}
use Rattle.store_api.specs.Signs.{Grows, Signs}
use Rattle.store_api.specs.Entries.{IsAboveNames}
use Rattle.store_api.specs.Refusals.{WasRefused}
use Rattle.store_api.proofs.Growing.{grows_trans}
use Rattle.pin_core.specs.declared.tally.Tally.{Tally}
use Rattle.pin_core.specs.StateOf.{state_of}
use Rattle.turn_table.specs.Face.{Spot}
use Rattle.session_calls.specs.declared.hand.Hand.{Hand}
use Rattle.session_calls.specs.Told.{held_in, signs_in}
use Rattle.session_calls.specs.Moving.{quota_at}
use Rattle.session_calls.specs.Acting.{held_by as held_in_hand, signs_by as signs_in_hand}
use Rattle.session_calls.specs.Doing.{Does}
use Rattle.session_calls.specs.Coming.{IsFreshPage}
use Rattle.session_calls.specs.Having.{IsAtWork, Sight}
use Rattle.session_calls.specs.Jobs.{DoesIn}
use Rattle.session_calls.specs.Turning.{Refuses}
use Rattle.session_calls.proofs.Lists.{none_own}
use Rattle.session_calls.proofs.Doing.{does_grows, does_more, does_none}
use Rattle.pool.specs.declared.item.Item.{Item}
use Rattle.pool.specs.declared.ledger.Ledger.{Ledger}
use Rattle.pool.specs.Items.{history, sight_in}
use Rattle.pool.specs.Sitting.{Sitting, Did, DidThese, WasDeclined, held_by, shared, signs_by}
use Rattle.pool.specs.Keeping.{KeepsSeat}
use Rattle.pool.specs.Turning.{IsInTurn, MayEndTurn, SitsAgain}
use Rattle.pool.specs.Locking.{TurnsThere}
use Rattle.pool.proofs.Locked.{gives}
use Rattle.pool.proofs.Doings.{has_first}
use Rattle.pool.proofs.Staying.{has_still}
use Rattle.pool.proofs.Declined.{refused_before}
use Rattle.pool.proofs.Charged.{StaysOn, refused_stays}

module _ {D : Type 0} {slot : Ghosts D} {o : Opening} {told : Bool} {tally : Tally} {was : Sitting} {spot : Spot Item} {hand : Hand D} (begun : IsInTurn slot o told tally was spot hand) where
  -- the call begins
  state_seen : state_of hand.state ≡ state_after o (history spot.knows.seen)
  state_seen = begun.ready.whole.stands.state ∙ ap (λ (s : Sight). state_after o s.trail) begun.sight

  pub turns_first : (lock : TableId) → spot.table ≡ lock → TurnsThere o told o (shared told) lock spot hand.session
  turns_first lock table = record {
    origin = refl;
    outset = refl;
    turns = record {
      table = table;
      turn = begun.turn;
      rights = begun.rights ∙ ap (λ (m : ℕ). m ∷ []) (sym begun.session);
      marked = begun.marked;
      quotas = λ k. ap (λ (s : State). quota_at s k) (sym state_seen) ∙ begun.quotas k;
    };
  }

  pub works_first : IsAtWork slot o (shared told) (sight_in tally spot.knows.seen) hand
  works_first = record {
    worked = record {
      events = [];
      trail = ap (λ (s : Sight). s.trail) begun.sight ∙ sym (append-nil (history spot.knows.seen));
      went = [];
      counts = ap (λ (s : Sight). s.counts) begun.sight ∙ sym (append-nil (sight_in tally spot.knows.seen).counts);
      opens = tt;
      quotas = λ k. ap (λ (s : State). quota_at s k) state_seen;
    };
    ready = begun.ready;
  }

  -- others alone entered items before
  abbrev waited : Does was.number (λ events. events ≡ []) (history was.spot.knows.seen) hand.trail
  waited = record { events = []; is = refl; own = begun.own ∙ sym (append-nil (made_by (history was.spot.knows.seen) was.number)); more = begun.more; grew = begun.grew; mine = none_own was.number begun.more begun.beside }

  grew_first : Grows (signs_by o was) (signs_in_hand o hand)
  grew_first = subst (λ (m : ℕ). Grows (signs_by o was) (signs_in o m hand.trail)) (sym begun.session) (does_grows o (shared told) was.number (history was.spot.knows.seen) hand.trail waited)

  same_trail : (signs_by o was).trail ≡ (signs_in_hand o hand).trail
  unfolding signs_in
  same_trail = ap Some (sym begun.own) ∙ ap (λ (m : ℕ). Some (made_by hand.trail m)) (sym begun.session)

  -- the call is done, and the turn may end
  module _ {next : Hand D} (stays : StaysOn o (shared told) hand next) where
    pub may_end_call : (lock : TableId) (now : Spot Item) → TurnsThere o told o (shared told) lock now next.session → IsAtWork slot o (shared told) (sight_in tally now.knows.seen) next
        → {block_len : ℕ} {ledger : Ledger} → KeepsSeat o told block_len ledger was → MayEndTurn slot o told tally now ledger next
    may_end_call lock now turns work {block_len} {ledger} kept = record {
      turn = turns.turns.turn;
      rights = turns.turns.rights;
      ready = work.ready;
      gives = gives slot o told tally lock now next turns.turns (record { worked = work.worked; whole = work.ready.whole });
      clients = has_still ledger.accounts (held_in_hand o (shared told) hand) (held_in_hand o (shared told) next) (has_first refl begun kept) stays.clients;
    }

    pub sits_then : {now : Spot Item} {ledger : Ledger} → SitsAgain o told ledger next (record { number = next.session; spot = now })
        → {block_len : ℕ} {first : Ledger} → KeepsSeat o told block_len first was → KeepsSeat o told block_len ledger (record { number = was.number; spot = now })
    sits_then {now} {ledger} ended {block_len} kept =
        subst (λ (m : ℕ). KeepsSeat o told block_len ledger (record { number = m; spot = now })) (stays.session ∙ begun.session)
        (record { sits = ended.sits; power = kept.power; len = kept.len; tells = ended.tells; fits = ended.fits; whole = ended.whole })

-- what the call did, as it is to who saw the session before
module _ {D : Type 0} {slot : Ghosts D} {o : Opening} {told : Bool} {tally : Tally} {was seen : Sitting} {spot : Spot Item} {hand : Hand D} (same : was ≡ seen) (begun : IsInTurn slot o told tally was spot hand) where
  -- a page that is new to the session in its turn was so before
  pub fresh_as_was : (t blocks : ℕ) (made : PageToken × Buffer) → IsFreshPage t blocks made (held_in_hand o (shared told) hand) (signs_in_hand o hand) → IsFreshPage t blocks made (held_by o told seen) (signs_by o seen)
  fresh_as_was t blocks made fresh =
      subst (λ (s : Sitting). IsFreshPage t blocks made (held_by o told s) (signs_by o s)) same
      (subst (λ (h : Holdings). IsFreshPage t blocks made h (signs_by o was)) begun.held
      (record {
        fresh = fresh.fresh;
        client = fresh.client;
        buffer = fresh.buffer;
        unspent = λ spent. fresh.unspent ((grew_first begun).spent spent);
        above = subst (IsAboveNames made.0.name) (sym (same_trail begun)) fresh.above;
      }))

  module _ {next : Hand D} {now : Spot Item} {ledger : Ledger} (ended : SitsAgain o told ledger next (record { number = next.session; spot = now })) where
    abbrev it : Sitting
    it = record { number = was.number; spot = now }

    module _ {lock : TableId} (here : now.table ≡ lock) (first : seen.spot.table ≡ lock) where
      pub did_then : (P : Holdings → List Event → Type 0) → DoesIn (P (held_in_hand o (shared told) hand)) hand next → Did (P (held_by o told seen)) seen it
      did_then P did =
          let since : Does was.number (P (held_in_hand o (shared told) hand)) hand.trail (history now.knows.seen) =
          subst (λ (h : List Entry). Does was.number (P (held_in_hand o (shared told) hand)) hand.trail h) (sym ended.seen)
          (subst (λ (m : ℕ). Does m (P (held_in_hand o (shared told) hand)) hand.trail next.trail) begun.session did.does) in
          let whole : Does was.number (P (held_by o told was)) (history was.spot.knows.seen) (history now.knows.seen) =
          does_more was.number (history was.spot.knows.seen) hand.trail (history now.knows.seen) (waited begun) since (subst (λ (h : Holdings). P h since.events) begun.held since.is) in
          record {
            number = ap (λ (s : Sitting). s.number) same;
            table = here ∙ sym first;
            does = subst (λ (s : Sitting). Does s.number (P (held_by o told s)) (history s.spot.knows.seen) (history now.knows.seen)) same whole;
          }

      pub did_none_then : next ≡ hand → DidThese [] seen it
      did_none_then none =
          did_then (λ h events. events ≡ [])
          (subst (λ (x : Hand D). DoesIn (λ events. events ≡ []) hand x) (sym none) (record { session = refl; went = []; counts = sym (append-nil hand.counts); does = does_none hand.session hand.trail }))

    pub declined_then : (t : ℕ) (what : Call) (e : PoolErr) → Refuses o (shared told) t what hand next e → WasDeclined o told t what seen it e
    declined_then t what e refuses =
        let number : was.number ≡ next.session = sym ((refused_stays t what e refuses).session ∙ begun.session) in
        let held_then : held_in_hand o (shared told) next ≡ held_by o told it =
        sym (ap (held_in o (shared told) was.number) ended.seen ∙ ap (λ (m : ℕ). held_in o (shared told) m next.trail) number) in
        let signs_then : signs_in_hand o next ≡ signs_by o it = sym (ap (signs_in o was.number) ended.seen ∙ ap (λ (m : ℕ). signs_in o m next.trail) number) in
        let whole : WasRefused t what (held_by o told was) (held_by o told it) (signs_in_hand o hand) (signs_by o it) e =
        subst (λ (h : Holdings). WasRefused t what h (held_by o told it) (signs_in_hand o hand) (signs_by o it) e) begun.held
        (subst (λ (h : Holdings). WasRefused t what (held_in_hand o (shared told) hand) h (signs_in_hand o hand) (signs_by o it) e) held_then
        (subst (λ (s : Signs). WasRefused t what (held_in_hand o (shared told) hand) (held_in_hand o (shared told) next) (signs_in_hand o hand) s e) signs_then refuses.was)) in
        subst (λ (s : Sitting). WasDeclined o told t what s it e) same
        (record {
          was = refused_before t (signs_by o was) (signs_in_hand o hand) (signs_by o it) (grew_first begun) (same_trail begun) what (held_by o told was) (held_by o told it) e whole;
          grows = grows_trans (signs_by o was) (signs_in_hand o hand) (signs_by o it) (grew_first begun) (subst (Grows (signs_in_hand o hand)) signs_then refuses.grows);
        })
