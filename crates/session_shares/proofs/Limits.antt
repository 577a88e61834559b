-- A live session has the limit that it opened with.
use Rattle.std.proofs.Common.{◌≡◌, ℕ, ◌==◌, List, [], ◌∷◌, ◌++◌, Bool, true, false, if◌then◌else◌, Some, None, refl, ap, sym, ◌∙◌, inl, inr}
use Rattle.std.specs.FinMap.{get}
use Rattle.reservation_tree.specs.Tracker.{limit_of}
use Rattle.reservation_tree.proofs.Maps.{same_or_other}
use Rattle.pool_model.specs.declared.event.Event.{Event}
use Rattle.pool_model.specs.declared.event.Event.TheVariants.{AddTracker, CloseTracker, Increase, IncreaseToFit, Decrease, MoveReservation, UnpinOnce, MoveBuffer}
use Rattle.pool_model.specs.declared.entry.Entry.{Entry}
use Rattle.pool_model.specs.State.{Opening, Session}
use Rattle.pool_model.specs.Legal.{state_after, IsLegal}
use Rattle.pool_model.specs.LookingBack.{opens, made_by}
use Rattle.pool_model.proofs.OwnEntries.{made_by_other, made_first, made_more}
use Rattle.store_api.specs.Holdings.{Nothing, Holdings, loan_of}
use Rattle.own_entries.specs.OwnHoldings.{Outset, step, has_client, has_several_pins, moved_between, none_held, holdings_of}
use Rattle.own_entries.proofs.Held.{held_more, legal_holdings_are_told}
use Rattle.session_shares.proofs.Lasts.{by_last}

-- no event but an opening changes the limit that a session tells
either : (b : Bool) (u v : Holdings) (n : ℕ) → u.limit ≡ n → v.limit ≡ n → (if b then u else v).limit ≡ n
either true u v n first second = first
either false u v n first second = second

between : (a b : Bool) (from to bytes : ℕ) (h : Holdings) → (moved_between a b from to bytes h).limit ≡ h.limit
between true true from to bytes h = either (from == to) _ _ h.limit refl refl
between true false from to bytes h = refl
between false true from to bytes h = refl
between false false from to bytes h = refl

limit_stays : (e : Event) (h : Holdings) → opens e ≡ false → (step e h).limit ≡ h.limit
limit_stays (AddTracker t parent limit (Some quota)) h calm = let never : true ≡ false = calm in cc
limit_stays (AddTracker t parent limit None) h calm = refl
limit_stays (CloseTracker t) h calm = either (has_client t h) _ _ h.limit refl refl
limit_stays (Increase t bytes) h calm = either (has_client t h) _ _ h.limit refl refl
limit_stays (IncreaseToFit t bytes) h calm = either (has_client t h) _ _ h.limit refl refl
limit_stays (Decrease t bytes) h calm = either (has_client t h) _ _ h.limit refl refl
limit_stays (MoveReservation from to bytes) h calm = between (has_client from h) (has_client to h) from to bytes h
limit_stays (UnpinOnce p) h calm = either (has_several_pins p h) _ _ h.limit refl refl
limit_stays (MoveBuffer f to) h calm = either ((loan_of f h).client == to) _ _ h.limit refl refl
limit_stays _ h calm = refl

-- the first entry of a list, and those behind it
head_is : (a b : Entry) (es ds : List Entry) → a ∷ es ≡ b ∷ ds → a ≡ b
head_is a b es ds same = ap (λ (cs : List Entry). elim cs [ [] ↦ a | d ∷ rest ↦ d ]) same

tail_is : (a b : Entry) (es ds : List Entry) → a ∷ es ≡ b ∷ ds → es ≡ ds
tail_is a b es ds same = ap (λ (cs : List Entry). elim cs [ [] ↦ [] | d ∷ rest ↦ rest ]) same

module _ (len m query limit quota : ℕ) where
  abbrev opening : Entry
  opening = record { maker = m; event = AddTracker query 0 limit (Some quota) }

  abbrev outset : Outset
  outset = record { above = Nothing; told = true }

  -- the limit that a session's own entries tell
  abbrev told : List Entry → ℕ
  told own = (holdings_of len m outset own).limit

  abbrev Told : List Entry → Type 0
  Told h = (own : List Entry) → made_by h m ≡ opening ∷ own → told (made_by h m) ≡ limit

  -- by an entry that opens no session
  old_told : (h : List Entry) (e : Entry) → Told h → opens e.event ≡ false → (es : List Entry) → made_by h m ≡ es → (own : List Entry) → es ++ e ∷ [] ≡ opening ∷ own → told (es ++ e ∷ []) ≡ limit
  old_told h e before old [] are own is =
      let never : true ≡ false = sym (ap (λ (d : Entry). opens d.event) (head_is e opening [] own is)) ∙ old in cc
  old_told h e before old (a ∷ es) are own is =
      let first : a ≡ opening = head_is a opening (es ++ e ∷ []) own is in
      let was : told (a ∷ es) ≡ limit = ap told (sym are) ∙ before es (are ∙ ap (λ (d : Entry). d ∷ es) first) in
      ap (λ (h : Holdings). h.limit) (held_more (none_held len m outset) (a ∷ es) e) ∙ limit_stays e.event (holdings_of len m outset (a ∷ es)) old ∙ was

  told_more : (h : List Entry) (e : Entry) → Told h → Told (h ++ e ∷ [])
  told_more h e before own is = elim (same_or_other e.maker m) [
    | inr other ↦
        let same : made_by (h ++ e ∷ []) m ≡ made_by h m = made_by_other h e m other in
        ap told same ∙ before own (sym same ∙ is)
    | inl mine ↦ elim (opens e.event) as (λ b. opens e.event ≡ b → told (made_by (h ++ e ∷ []) m) ≡ limit) [
      | true ↦ λ new.
          let none : [] ≡ own = tail_is e opening [] own (sym (made_first h e m mine new) ∙ is) in
          ap told (is ∙ ap (λ (es : List Entry). opening ∷ es) (sym none))
      | false ↦ λ old.
          let same : made_by (h ++ e ∷ []) m ≡ made_by h m ++ e ∷ [] = made_more h e m mine old in
          ap told same ∙ old_told h e before old (made_by h m) refl own (sym same ∙ is)
    ] refl
  ]

  all_told : (h : List Entry) → Told h
  all_told = by_last Told told_more (λ own is. let never : [] ≡ opening ∷ own = is in cc)

pub has_limit : (o : Opening) (h : List Entry) → IsLegal o h → (m query limit quota : ℕ) (own : List Entry) → made_by h m ≡ record { maker = m; event = AddTracker query 0 limit (Some quota) } ∷ own
    → (x : Session) → get (state_after o h).sessions m ≡ Some x → limit_of (state_after o h).trackers x.query ≡ limit
has_limit o h legal m query limit quota own is x lives =
    sym (legal_holdings_are_told o (record { above = Nothing; told = true }) h legal m x lives).limit ∙ all_told o.block_len m query limit quota h own is
