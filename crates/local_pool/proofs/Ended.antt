-- One owner's pool ends.
use Rattle.std.proofs.Common.{◌≡◌, ℕ, Bool, false, if◌then◌else◌, List, [], ◌∷◌, ◌++◌, Option, None, is_some, inl, inr, refl, sym, ap, ◌∙◌}
use Rattle.std.proofs.lemmas.List.{append_assoc}
use Rattle.std.specs.FinMap.{get}
use Rattle.outside.specs.declared.slot.Slot.{Ghosts}
use Rattle.reservation_tree.specs.Tracker.{reservation_of}
use Rattle.reservation_tree.proofs.Maps.{same_or_other}
use Rattle.pool_model.specs.declared.event.Event.TheVariants.{Decrease, CloseTracker}
use Rattle.pool_model.specs.declared.entry.Entry.{Entry}
use Rattle.pool_model.specs.State.{Opening, State}
use Rattle.pool_model.specs.Legal.{state_after}
use Rattle.pool_model.specs.LookingBack.{made_by}
use Rattle.pool_model.proofs.OwnEntries.{made_more}
use Rattle.store_api.specs.Holdings.{Holdings}
use Rattle.store_api.specs.Changes.{after_give_back}
use Rattle.own_entries.specs.OwnHoldings.{step, after_events, query_fallen, session_ended, client_ended, has_client, holdings_of}
use Rattle.own_entries.specs.HeldLaws.{own_holdings}
use Rattle.own_entries.proofs.Calls.{calls_run_on}
use Rattle.own_entries.proofs.Lives.{legal_lives_as_told}
use Rattle.own_entries.proofs.Alone.{legal_alone_sits}
use Rattle.pin_core.specs.declared.parts.Parts.{Parts}
use Rattle.pin_core.specs.StateOf.{state_of}
use Rattle.pin_core.specs.calls.Sessions.{query_of}
use Rattle.pin_core.specs.Standing.{StandsFor, Enters}
use Rattle.pin_core.specs.calls.Opening.{ending_entries}
use Rattle.session_calls.specs.declared.hand.Hand.{Hand}
use Rattle.local_pool.specs.Counting.{AtOpening}
use Rattle.local_pool.specs.Told.{opening_of, outset_of, held_of}
use Rattle.local_pool.specs.Standing.{Stands}
use Rattle.session_calls.proofs.Lists.{alone_more}
use Rattle.local_pool.proofs.Knowing.{knows}
use Rattle.session_calls.proofs.Clients.{query_is}
use Rattle.local_pool.proofs.Begun.{none_when}

module _ {D : Type 0} (slot : Ghosts D) (own : Hand D) {first : Option AtOpening} (is : Stands slot first own) where
  abbrev s : State
  s = state_of own.state

  -- the two entries with which a session ends
  abbrev q : ℕ
  q = query_of s own.session

  abbrev bytes : ℕ
  bytes = reservation_of s.trackers q

  abbrev whole : List Entry
  whole = own.trail ++ ending_entries s own.session

  closed : (h : Holdings) (b : Bool) → b ≡ false → is_some (if b then client_ended q h else session_ended h).free_slots ≡ false
  closed h b isnt = ap (λ (c : Bool). is_some (if c then client_ended q h else session_ended h).free_slots) isnt

  -- behind which no free slots are told
  ended_told : (h : Holdings) → has_client q h ≡ false → is_some (after_events h (Decrease q bytes ∷ CloseTracker q ∷ [])).free_slots ≡ false
  ended_told h isnt =
      let fell : step (Decrease q bytes) h ≡ query_fallen bytes h = ap (λ (b : Bool). if b then after_give_back q bytes h else query_fallen bytes h) isnt in
      ap (λ (g : Holdings). is_some (step (CloseTracker q) g).free_slots) fell ∙ closed (query_fallen bytes h) (has_client q (query_fallen bytes h)) isnt

  made_whole : made_by whole own.session ≡ whole
  made_whole =
      let a : Entry = record { maker = own.session; event = Decrease q bytes } in
      let b : Entry = record { maker = own.session; event = CloseTracker q } in
      let one : made_by (own.trail ++ a ∷ []) own.session ≡ own.trail ++ a ∷ [] = made_more own.trail a own.session refl refl ∙ ap (λ (h : List Entry). h ++ a ∷ []) is.whole in
      ap (λ (h : List Entry). made_by h own.session) (sym (append_assoc own.trail (a ∷ []) (b ∷ [])))
      ∙ made_more (own.trail ++ a ∷ []) b own.session refl refl ∙ ap (λ (h : List Entry). h ++ b ∷ []) one ∙ append_assoc own.trail (a ∷ []) (b ∷ [])

  isnt_client : has_client q (held_of slot own) ≡ false
  isnt_client = ap (λ (k : ℕ). has_client k (held_of slot own)) (query_is (knows slot own is)) ∙ ap is_some (knows slot own is).fits.apart

  gone_told : is_some (own_holdings (opening_of slot own) (outset_of slot own.state) whole own.session).free_slots ≡ false
  unfolding held_of
  gone_told =
      ap (λ (es : List Entry). is_some (holdings_of s.block_len own.session (outset_of slot own.state) es).free_slots) made_whole
      ∙ ap (λ (h : Holdings). is_some h.free_slots) (calls_run_on s.block_len own.session (outset_of slot own.state) own.trail (Decrease q bytes ∷ CloseTracker q ∷ []))
      ∙ ended_told (held_of slot own) isnt_client

  -- no session is left
  pub none_left : (new : Parts D) → Enters slot (ending_entries s own.session) [] [] own.state new → (n : ℕ) → get (state_of new).sessions n ≡ None
  none_left new enters n =
      let o : Opening = opening_of slot own in
      let stood : StandsFor slot o whole new = enters.stands o own.trail is.ready.whole.stands in
      ap (λ (t : State). get t.sessions n) stood.state ∙ none_when _ (elim (same_or_other n own.session) [
        | inl here ↦
            ap (λ (k : ℕ). is_some (get (state_after o whole).sessions k)) here
            ∙ legal_lives_as_told o (outset_of slot own.state) whole stood.legal own.session ∙ gone_told
        | inr other ↦ legal_alone_sits o whole stood.legal own.session (alone_more own.session own.trail (Decrease q bytes ∷ CloseTracker q ∷ []) is.alone) n other
      ])
