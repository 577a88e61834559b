-- The room above a query is what it hasn't reserved of all memory.
use Rattle.std.proofs.Common.{◌≡◌, ℕ, ◌+◌, ◌-◌, ◌≤◌, ◌==◌, List, [], ◌∷◌, ◌++◌, Bool, true, false, if◌then◌else◌, Some, None, refl, sym, ap, ◌∙◌, subst, arith, inl, inr}
use Rattle.std.specs.Ordering.{nat_cmp}
use Rattle.std.specs.FinMap.{get, get-empty}
use Rattle.reservation_tree.specs.Tracker.{reservation_of, limit_of, unused, children_of, Fits}
use Rattle.reservation_tree.proofs.Maps.{same_or_other, is_there}
use Rattle.reservation_tree.proofs.Outline.{reservation_is}
use Rattle.pool_model.specs.declared.event.Event.{Event}
use Rattle.pool_model.specs.declared.event.Event.TheVariants.{AddTracker, CloseTracker, Increase, IncreaseToFit, Decrease, MoveReservation, UnpinOnce, MoveBuffer}
use Rattle.pool_model.specs.declared.entry.Entry.{Entry}
use Rattle.pool_model.specs.Bytes.{bytes_of}
use Rattle.pool_model.specs.State.{Opening, opened, Session, State}
use Rattle.pool_model.specs.Sums.{charge_of, memory}
use Rattle.pool_model.specs.Owning.{IsTrackerOf}
use Rattle.pool_model.specs.LookingBack.{opens, made_by}
use Rattle.pool_model.specs.MayFollow.{Allows, MayFollow}
use Rattle.pool_model.specs.Effects.{effect, after}
use Rattle.pool_model.specs.Legal.{state_after, IsLegal}
use Rattle.pool_model.specs.Sound.{IsQuery, IsSound}
use Rattle.pool_model.proofs.Fronts.{holds_after}
use Rattle.pool_model.proofs.OwnEntries.{made_by_other, made_more, made_first}
use Rattle.pool_model.proofs.Frames.{entries_leave_rest}
use Rattle.store_api.specs.Holdings.{Above, Room, Holdings, loan_of}
use Rattle.store_api.specs.Changes.{grown_above, fallen_above}
use Rattle.own_entries.specs.OwnHoldings.{Outset, step, moved_between, has_client, has_several_pins, holdings_of, none_held}
use Rattle.own_entries.specs.AboveLaws.{LegalAboveIsTold}
use Rattle.own_entries.proofs.Facts.{seat, same_one}
use Rattle.own_entries.proofs.Fitting.{child_within}
use Rattle.own_entries.proofs.Held.{Held, held_on, held_more, Was, was_open}

abbrev Tops : ℕ → Holdings → Type 0
Tops most h = h.above ≡ Room (most - h.reservation)

tops_if : (most : ℕ) (b : Bool) (u v : Holdings) → Tops most u → Tops most v → Tops most (if b then u else v)
tops_if most true u v first second = first
tops_if most false u v first second = second

more : (most n reservation : ℕ) (above : Above) → above ≡ Room (most - reservation) → grown_above n above ≡ Room (most - (reservation + n))
more most n reservation above is = ap (grown_above n) is ∙ ap Room (omega arith)

less : (most n reservation : ℕ) (above : Above) → above ≡ Room (most - reservation) → n ≤ reservation → reservation ≤ most → fallen_above n above ≡ Room (most - (reservation - n))
less most n reservation above is few fits = ap (fallen_above n) is ∙ ap Room (omega (arith, few, fits))

moved_tops : (most : ℕ) (a b : Bool) (from to n : ℕ) (h : Holdings) → Tops most h → Tops most (moved_between a b from to n h)
moved_tops most true true from to n h is = tops_if most (from == to) _ _ is is
moved_tops most true false from to n h is = is
moved_tops most false true from to n h is = is
moved_tops most false false from to n h is = is

tops_on : (most : ℕ) (h : Holdings) (event : Event) → opens event ≡ false → ((t n : ℕ) → event ≡ Decrease t n → (n ≤ h.reservation) × (h.reservation ≤ most)) → Tops most h → Tops most (step event h)
tops_on most h (AddTracker t parent limit (Some quota)) old fits is = let never : true ≡ false = old in cc
tops_on most h (AddTracker t parent limit None) old fits is = is
tops_on most h (CloseTracker t) old fits is = tops_if most (has_client t h) _ _ is is
tops_on most h (Increase t n) old fits is = tops_if most (has_client t h) _ _ (more most (n - h.room) h.reservation h.above is) (more most n h.reservation h.above is)
tops_on most h (IncreaseToFit t n) old fits is = tops_if most (has_client t h) _ _ (more most _ h.reservation h.above is) (more most (n - h.room) h.reservation h.above is)
tops_on most h (Decrease t n) old fits is =
    let both : (n ≤ h.reservation) × (h.reservation ≤ most) = fits t n refl in
    tops_if most (has_client t h) _ _ (less most n h.reservation h.above is both.0 both.1) (less most n h.reservation h.above is both.0 both.1)
tops_on most h (MoveReservation from to n) old fits is = moved_tops most (has_client from h) (has_client to h) from to n h is
tops_on most h (UnpinOnce p) old fits is = tops_if most (has_several_pins p h) _ _ is is
tops_on most h (MoveBuffer f to) old fits is = tops_if most ((loan_of f h).client == to) _ _ is is
tops_on most h _ old fits is = is

opens_top : (most : ℕ) (h : Holdings) (event : Event) → opens event ≡ true → h.above ≡ Room most → Tops most (step event h)
opens_top most h (AddTracker t parent limit (Some quota)) new is = is ∙ ap Room (omega arith)
opens_top most h _ new is = let never : false ≡ true = new in cc

module _ (s : State) (sound : IsSound s) (m : ℕ) (x : Session) (is : get s.sessions m ≡ Some x) where
  -- a query has reserved no more than all memory
  query_within : reservation_of s.trackers x.query ≤ memory s
  query_within =
      let its : IsQuery s.trackers x.query = seat s sound m x is in
      let has : reservation_of s.trackers x.query ≡ its.tracker.reservation = reservation_is s.trackers x.query its.tracker its.lives in
      let part : its.tracker.reservation ≤ children_of s.trackers 0 = child_within s.trackers x.query 0 its.tracker its.lives its.under in
      let fit : Fits (λ _. 0) s.trackers 0 = sound.seated.children_fit 0 sound.seated.tree.root in
      let top : limit_of s.trackers 0 ≡ memory s = sound.seated.top in
      omega (arith, has, part, fit.within, fit.below, top)

  -- and its clients no more than it
  pub own_within : (t : ℕ) → IsTrackerOf s m t → reservation_of s.trackers t ≤ reservation_of s.trackers x.query
  own_within t (inl query) =
      let same : t ≡ x.query = sym query.is ∙ ap (λ (z : Session). z.query) (same_one s sound m x is query.session query.lives) in
      let one : reservation_of s.trackers t ≡ reservation_of s.trackers x.query = ap (reservation_of s.trackers) same in omega (arith, one)
  own_within t (inr client) =
      let its : IsQuery s.trackers x.query = seat s sound m x is in
      let up : client.session.query ≡ x.query = ap (λ (z : Session). z.query) (same_one s sound m x is client.session client.opened) in
      let has : reservation_of s.trackers t ≡ client.tracker.reservation = reservation_is s.trackers t client.tracker client.lives in
      let part : client.tracker.reservation ≤ children_of s.trackers x.query = child_within s.trackers t x.query client.tracker client.lives (client.under ∙ ap Some up) in
      let fit : Fits (λ _. 0) s.trackers x.query = sound.seated.children_fit x.query (is_there (get s.trackers x.query) its.tracker its.lives) in
      omega (arith, has, part, fit.within)

few_enough : (before : List Entry) (s : State) → IsSound s → (m : ℕ) (x : Session) → get s.sessions m ≡ Some x → (event : Event) → Allows before s m event
    → (t n : ℕ) → event ≡ Decrease t n → (n ≤ reservation_of s.trackers x.query) × (reservation_of s.trackers x.query ≤ memory s)
few_enough before s sound m x is event may t n same =
    let row = subst (λ (e : Event). Allows before s m e) same may in
    let spare : n ≤ unused (charge_of s) s.trackers t = row.spare.unused in
    let part : reservation_of s.trackers t ≤ reservation_of s.trackers x.query = own_within s sound m x is t row.own in
    (omega (arith, spare, part), query_within s sound m x is)

module _ (len most : ℕ) (shows : Bool) where
  -- the session begins with all memory above it
  abbrev alone : Outset
  alone = record { above = Room most; told = shows }

  record Topped (before : List Entry) (s : State) : Type 0 where
    held : Held len alone before s
    all : memory s ≡ most
    tops : (m : ℕ) (x : Session) → get s.sessions m ≡ Some x → Tops most (holdings_of len m alone (made_by before m))

  topped_on : (before : List Entry) (s : State) → IsSound s → Topped before s → (e : Entry) → MayFollow before s e → Topped (before ++ e ∷ []) (after s e)
  topped_on before s sound it e may = record {
    held = held_on len alone before s sound it.held e may;
    all = ap (λ (n : ℕ). bytes_of n (after s e).blocks) (entries_leave_rest s e).block_len ∙ ap (λ (n : ℕ). bytes_of s.block_len n) (entries_leave_rest s e).blocks ∙ it.all;
    tops = λ m y there. elim (same_or_other e.maker m) [
      | inr other ↦
          let was : Was s m y = was_open before s e.maker e.event may.allows m y there (inr other) in
          subst (λ (own : List Entry). Tops most (holdings_of len m alone own)) (sym (made_by_other before e m other)) (it.tops m was.session was.lives)
      | inl own ↦
          let allows : Allows before s m e.event = subst (λ (k : ℕ). Allows before s k e.event) own may.allows in
          let now : get (effect m e.event s).sessions m ≡ Some y = subst (λ (k : ℕ). get (effect k e.event s).sessions m ≡ Some y) own there in
          elim (opens e.event) as (λ b. opens e.event ≡ b → Tops most (holdings_of len m alone (made_by (before ++ e ∷ []) m))) [
            | true ↦ λ new. subst (λ (es : List Entry). Tops most (holdings_of len m alone es)) (sym (made_first before e m own new)) (opens_top most (none_held len m alone) e.event new refl)
            | false ↦ λ old.
                let was : Was s m y = was_open before s m e.event allows m y now (inl old) in
                let h : Holdings = holdings_of len m alone (made_by before m) in
                let told = it.held.kept m was.session was.lives in
                let res : h.reservation ≡ reservation_of s.trackers was.session.query = told.reservation in
                subst (λ (es : List Entry). Tops most (holdings_of len m alone es)) (sym (made_more before e m own old))
                (subst (Tops most) (sym (held_more (none_held len m alone) (made_by before m) e))
                (tops_on most h e.event old (λ t n same.
                let both : (n ≤ reservation_of s.trackers was.session.query) × (reservation_of s.trackers was.session.query ≤ memory s) = few_enough before s sound m was.session was.lives e.event allows t n same in
                let all : memory s ≡ most = it.all in
                let first : n ≤ reservation_of s.trackers was.session.query = both.0 in
                let second : reservation_of s.trackers was.session.query ≤ memory s = both.1 in
                (omega (arith, first, res), omega (arith, second, res, all))) (it.tops m was.session was.lives)))
          ] refl
    ];
  }

record SameMemory (a b : State) : Type 0 where
  len : b.block_len ≡ a.block_len
  blocks : b.blocks ≡ a.blocks

memory_stays : (o : Opening) (h : List Entry) → IsLegal o h → memory (state_after o h) ≡ memory (opened o)
memory_stays o h legal =
    let same : SameMemory (opened o) (state_after o h) = holds_after (λ before s. SameMemory (opened o) s)
    (λ before s sound same e may. record { len = (entries_leave_rest s e).block_len ∙ same.len; blocks = (entries_leave_rest s e).blocks ∙ same.blocks }) o (record { len = refl; blocks = refl }) h legal in
    ap (λ (n : ℕ). bytes_of n (state_after o h).blocks) same.len ∙ ap (λ (n : ℕ). bytes_of o.block_len n) same.blocks

pub legal_above_is_told : LegalAboveIsTold
legal_above_is_told o told h legal m x is =
    (holds_after (Topped o.block_len (memory (state_after o h)) told) (topped_on o.block_len (memory (state_after o h)) told) o (record {
      held = record {
        block_len = refl;
        owned = λ p y there. let none : None ≡ Some y = sym (get-empty nat_cmp p) ∙ there in cc;
        kept = λ n y there. let none : None ≡ Some y = sym (get-empty nat_cmp n) ∙ there in cc;
      };
      all = sym (memory_stays o h legal);
      tops = λ n y there. let none : None ≡ Some y = sym (get-empty nat_cmp n) ∙ there in cc;
    }) h legal).tops m x is
