-- After every legal history a session holds what its own entries tell.
use Rattle.std.proofs.Common.{◌≡◌, ◌≢◌, ℕ, ◌+◌, List, [], ◌∷◌, ◌++◌, true, false, Option, Some, None, IsSome, unwrap_or, refl, sym, ap, ◌∙◌, subst, inl, inr, ◌⊎◌, ne_eqb}
use Rattle.std.proofs.Math.Path.{fun_ext}
use Rattle.std.specs.Ordering.{nat_cmp}
use Rattle.std.specs.FinMap.{get, empty, get-empty}
use Rattle.reservation_tree.specs.Tracker.{Tracker, Hangs, depth_of}
use Rattle.reservation_tree.specs.Change.{with_child}
use Rattle.reservation_tree.proofs.Maps.{get_same, get_other, same_or_other}
use Rattle.pool_model.specs.declared.event.Event.{Event}
use Rattle.pool_model.specs.declared.event.Event.TheVariants.{Ask, AddTracker, CloseTracker, ReadFailed, WriteFailed}
use Rattle.pool_model.specs.declared.entry.Entry.{Entry}
use Rattle.pool_model.specs.State.{page_at, Session, State}
use Rattle.pool_model.specs.LookingBack.{content_from, left_in, opens, made_by}
use Rattle.pool_model.specs.Failures.{closes}
use Rattle.pool_model.specs.MayFollow.{Allows, MayFollow}
use Rattle.pool_model.specs.Effects.{effect, after}
use Rattle.pool_model.specs.Parts.{keep_first}
use Rattle.pool_model.specs.Legal.{state_after}
use Rattle.pool_model.specs.Sound.{IsSound}
use Rattle.pool_model.proofs.Seats.{some_is, HadSeat, is_below}
use Rattle.pool_model.proofs.Going.{left_seats}
use Rattle.pool_model.proofs.Fronts.{holds_after}
use Rattle.pool_model.proofs.Frames.{entries_leave_rest}
use Rattle.pool_model.proofs.Keeping.{changed_session, left_session}
use Rattle.pool_model.proofs.Failures.{PagesOwned, owned_on}
use Rattle.pool_model.proofs.OwnEntries.{content_more, made_by_other, made_more, made_first}
use Rattle.store_api.specs.Holdings.{Shared, Holdings}
use Rattle.own_entries.specs.OwnHoldings.{Outset, step, after_entries, holdings_of, none_held}
use Rattle.own_entries.specs.LiveParts.{is_parent, Tells}
use Rattle.own_entries.specs.HeldLaws.{TellsState, LegalHoldingsAreTold, OwnEntriesDecide}
use Rattle.own_entries.proofs.ByOthers.{by_other}
use Rattle.own_entries.proofs.ByItself.{by_itself}
use Rattle.own_entries.proofs.ComingTold.{opened_told}

pub held_more : (h : Holdings) (es : List Entry) (e : Entry) → after_entries h (es ++ e ∷ []) ≡ step e.event (after_entries h es)
held_more h [] e = refl
held_more h (d ∷ es) e = held_more (step d.event h) es e

-- the session was live before, with the same query and quota
pub record Was (s : State) (m : ℕ) (y : Session) : Type 0 where
  pub session : Session
  pub lives : get s.sessions m ≡ Some session
  pub query : session.query ≡ y.query
  pub quota : session.quota ≡ y.quota

as_it_is : (s : State) (m : ℕ) (y : Session) → get s.sessions m ≡ Some y → Was s m y
as_it_is s m y is = record { session = y; lives = is; query = refl; quota = refl }

pub was_open : (before : List Entry) (s : State) (maker : ℕ) (event : Event) → Allows before s maker event → (m : ℕ) (y : Session) → get (effect maker event s).sessions m ≡ Some y → ((opens event ≡ false) ⊎ (maker ≢ m)) → Was s m y
was_open before s maker Ask may m y there old = elim (changed_session (λ failures. empty) maker s.sessions m y there) [
  | inl other ↦ as_it_is s m y other.1
  | inr own ↦ record { session = own.1; lives = own.2; query = ap (λ (z : Session). z.query) own.3; quota = ap (λ (z : Session). z.quota) own.3 }
]
was_open before s maker (AddTracker t parent limit (Some quota)) may m y there (inl old) = let no_way : true ≡ false = old in cc
was_open before s maker (AddTracker t parent limit (Some quota)) may m y there (inr other) = as_it_is s m y (sym (get_other s.sessions maker _ m (λ same. other (sym same))) ∙ there)
was_open before s maker (CloseTracker t) may m y there old = elim (left_session maker t s.sessions m y there) [
  | inl other ↦ as_it_is s m y other.1
  | inr own ↦ record { session = own.1; lives = own.2; query = ap (λ (z : Session). z.query) own.3; quota = ap (λ (z : Session). z.quota) own.3 }
]
was_open before s maker (ReadFailed p sum_before sum_after) may m y there old = elim (changed_session (keep_first (page_at s p).client s.entries) (page_at s p).session s.sessions m y there) [
  | inl other ↦ as_it_is s m y other.1
  | inr own ↦ record { session = own.1; lives = own.2; query = ap (λ (z : Session). z.query) own.3; quota = ap (λ (z : Session). z.quota) own.3 }
]
was_open before s maker (WriteFailed p sum_before sum_after) may m y there old = elim (changed_session (keep_first (page_at s p).client s.entries) (page_at s p).session s.sessions m y there) [
  | inl other ↦ as_it_is s m y other.1
  | inr own ↦ record { session = own.1; lives = own.2; query = ap (λ (z : Session). z.query) own.3; quota = ap (λ (z : Session). z.quota) own.3 }
]
was_open before s maker _ may m y there old = as_it_is s m y there

-- a session that is still live didn't end
not_closing : (before : List Entry) (s : State) → IsSound s → (m : ℕ) (event : Event) → Allows before s m event → (y : Session) → get (effect m event s).sessions m ≡ Some y → closes y.query event ≡ false
not_closing before s sound m (CloseTracker t) may y there =
    let left : HadSeat s.sessions m y × (y.query ≢ t) = left_seats s sound.seated m t (is_below s sound.seated m t may.own) m y there in
    ne_eqb t y.query (λ same. left.1 (sym same))
not_closing before s sound m _ may y there = refl

module _ (len : ℕ) (outset : Outset) where
  pub record Held (before : List Entry) (s : State) : Type 0 where
    pub block_len : s.block_len ≡ len
    pub owned : PagesOwned s
    pub kept : (m : ℕ) (x : Session) → get s.sessions m ≡ Some x → Tells (λ p. content_from p [] before) s.block_len s.trackers s.pages s.buffers m x.query x.quota (holdings_of len m outset (made_by before m))

  no_own_child : (s : State) → IsSound s → (t : ℕ) → get s.trackers t ≡ None → (c : ℕ) (z : Tracker) → get s.trackers c ≡ Some z → (o : Option ℕ) → z.parent ≡ o → is_parent t o ≡ false
  no_own_child s sound t fresh c z is None under_it = refl
  no_own_child s sound t fresh c z is (Some p) under_it = ne_eqb p t (λ same.
      let hangs : Hangs s.trackers c z.depth (Some p) = subst (λ (o : Option ℕ). Hangs s.trackers c z.depth o) under_it (sound.seated.tree.hangs c z is) in
      let none : None ≡ Some hangs.0 = sym fresh ∙ ap (get s.trackers) (sym same) ∙ hangs.1 in cc)

  opening : (before : List Entry) (s : State) → IsSound s → PagesOwned s → s.block_len ≡ len → (m : ℕ) (event : Event) → Allows before s m event → opens event ≡ true → (y : Session) → get (effect m event s).sessions m ≡ Some y
      → Tells (λ p. left_in p event (content_from p [] before)) (effect m event s).block_len (effect m event s).trackers (effect m event s).pages (effect m event s).buffers m y.query y.quota (step event (none_held len m outset))
  opening before s sound owned long m (AddTracker t parent limit (Some quota)) may new y there =
      let one : Session = record { query = t; quota = quota; failures = empty } in
      let same : one ≡ y = some_is one y (sym (get_same s.sessions m one) ∙ there) in
      let not_there : 0 ≢ t = λ zero_is. let live : IsSome (get s.trackers 0) = sound.seated.tree.root in let none : get s.trackers 0 ≡ None = ap (get s.trackers) zero_is ∙ may.fresh in cc in
      subst (λ (z : Session). Tells (λ p. content_from p [] before) s.block_len (with_child t 0 limit s.trackers) s.pages s.buffers m z.query z.quota (step (AddTracker t parent limit (Some quota)) (none_held len m outset))) same
      (opened_told (λ p. content_from p [] before) s.block_len s.trackers s.pages s.buffers m t limit quota (none_held len m outset) (record { parent = Some 0; depth = depth_of s.trackers 0 + 1; limit = limit; reservation = 0 }) may.fresh refl refl (ne_eqb 0 t not_there)
      (λ c z is. no_own_child s sound t may.fresh c z is z.parent refl)
      (λ p x is same_one. let lives : get s.sessions m ≡ Some (owned p x is).session = ap (get s.sessions) (sym same_one) ∙ (owned p x is).opened in let none : None ≡ Some (owned p x is).session = sym may.none ∙ lives in cc)
      (sym long) refl)
  opening before s sound owned long m _ may new y there = let no_way : false ≡ true = new in cc

  -- from what an event does to what the entry tells
  module _ (before : List Entry) (s : State) (e : Entry) (m : ℕ) (y : Session) where
    abbrev Now : (ℕ → List ℕ) → ℕ → ℕ → Holdings → Type 0
    Now left query quota h = Tells left (after s e).block_len (after s e).trackers (after s e).pages (after s e).buffers m query quota h

    finish : (h : Holdings) (x : Session) → x.query ≡ y.query → x.quota ≡ y.quota → h ≡ holdings_of len m outset (made_by (before ++ e ∷ []) m)
        → Now (λ p. left_in p e.event (content_from p [] before)) x.query x.quota h → Now (λ p. content_from p [] (before ++ e ∷ [])) y.query y.quota (holdings_of len m outset (made_by (before ++ e ∷ []) m))
    finish h x query quota same now =
        let lefts : (λ (p : ℕ). left_in p e.event (content_from p [] before)) ≡ (λ (p : ℕ). content_from p [] (before ++ e ∷ [])) = fun_ext (λ p. sym (content_more p [] before e)) in
        subst (λ (left : ℕ → List ℕ). Now left y.query y.quota (holdings_of len m outset (made_by (before ++ e ∷ []) m))) lefts
        (subst (λ (q : ℕ). Now (λ p. left_in p e.event (content_from p [] before)) y.query q (holdings_of len m outset (made_by (before ++ e ∷ []) m))) quota
        (subst (λ (q : ℕ). Now (λ p. left_in p e.event (content_from p [] before)) q x.quota (holdings_of len m outset (made_by (before ++ e ∷ []) m))) query
        (subst (Now (λ p. left_in p e.event (content_from p [] before)) x.query x.quota) same now)))

  pub held_on : (before : List Entry) (s : State) → IsSound s → Held before s → (e : Entry) → MayFollow before s e → Held (before ++ e ∷ []) (after s e)
  held_on before s sound held e may = record {
    block_len = (entries_leave_rest s e).block_len ∙ held.block_len;
    owned = owned_on before s sound held.owned e may;
    kept = λ m y there. elim (same_or_other e.maker m) [
      | inr other ↦
          let was : Was s m y = was_open before s e.maker e.event may.allows m y there (inr other) in
          finish before s e m y (holdings_of len m outset (made_by before m)) was.session was.query was.quota (ap (holdings_of len m outset) (sym (made_by_other before e m other)))
          (by_other (λ p. content_from p [] before) before s sound held.owned m was.session was.lives _ (held.kept m was.session was.lives) e.maker other e.event may.allows)
      | inl own ↦
          let allows : Allows before s m e.event = subst (λ (k : ℕ). Allows before s k e.event) own may.allows in
          let now : get (effect m e.event s).sessions m ≡ Some y = subst (λ (k : ℕ). get (effect k e.event s).sessions m ≡ Some y) own there in
          elim (opens e.event) as (λ b. opens e.event ≡ b → Tells (λ p. content_from p [] (before ++ e ∷ [])) (after s e).block_len (after s e).trackers (after s e).pages (after s e).buffers m y.query y.quota (holdings_of len m outset (made_by (before ++ e ∷ []) m))) [
            | true ↦ λ new.
                finish before s e m y (step e.event (none_held len m outset)) y refl refl (ap (holdings_of len m outset) (sym (made_first before e m own new)))
                (subst (λ (k : ℕ). Tells (λ p. left_in p e.event (content_from p [] before)) (effect k e.event s).block_len (effect k e.event s).trackers (effect k e.event s).pages (effect k e.event s).buffers m y.query y.quota (step e.event (none_held len m outset))) (sym own)
                (opening before s sound held.owned held.block_len m e.event allows new y now))
            | false ↦ λ old.
                let was : Was s m y = was_open before s m e.event allows m y now (inl old) in
                let h : Holdings = holdings_of len m outset (made_by before m) in
                finish before s e m y (step e.event h) was.session was.query was.quota
                (sym (held_more (none_held len m outset) (made_by before m) e) ∙ ap (holdings_of len m outset) (sym (made_more before e m own old)))
                (subst (λ (k : ℕ). Tells (λ p. left_in p e.event (content_from p [] before)) (effect k e.event s).block_len (effect k e.event s).trackers (effect k e.event s).pages (effect k e.event s).buffers m was.session.query was.session.quota (step e.event h)) (sym own)
                (by_itself (λ p. content_from p [] before) before s sound held.owned m was.session was.lives h (held.kept m was.session was.lives) e.event allows old
                (ap (λ (q : ℕ). closes q e.event) was.query ∙ not_closing before s sound m e.event allows y now)))
          ] refl
    ];
  }

pub legal_holdings_are_told : LegalHoldingsAreTold
legal_holdings_are_told o outset h legal m x is =
    (holds_after (Held o.block_len outset) (held_on o.block_len outset) o (record {
      block_len = refl;
      owned = λ p y there. let none : None ≡ Some y = sym (get-empty nat_cmp p) ∙ there in cc;
      kept = λ n y there. let none : None ≡ Some y = sym (get-empty nat_cmp n) ∙ there in cc;
    }) h legal).kept m x is

-- any outset will do where two are told by the same holdings
some_outset : Outset
some_outset = record { above = Shared; told = true }

-- two that are told by the same holdings are the same
pub own_entries_decide : OwnEntriesDecide
own_entries_decide o p h g legal_h legal_g len m x y is_x is_y same =
    let first : TellsState o some_outset h m x (state_after o h) = legal_holdings_are_told o some_outset h legal_h m x is_x in
    let other : TellsState p some_outset g m y (state_after p g) = legal_holdings_are_told p some_outset g legal_g m y is_y in
    let one : holdings_of o.block_len m some_outset (made_by h m) ≡ holdings_of p.block_len m some_outset (made_by g m) =
    ap (λ (n : ℕ). holdings_of n m some_outset (made_by h m)) len ∙ ap (holdings_of p.block_len m some_outset) same in
    record {
      query = sym first.tracker ∙ ap (λ (k : Holdings). k.query) one ∙ other.tracker;
      limit = sym first.limit ∙ ap (λ (k : Holdings). k.limit) one ∙ other.limit;
      reservation = sym first.reservation ∙ ap (λ (k : Holdings). k.reservation) one ∙ other.reservation;
      accounts = λ c. sym (first.clients c) ∙ ap (λ (k : Holdings). k.clients c) one ∙ other.clients c;
      pages = λ q. sym (first.live_pages q) ∙ ap (λ (k : Holdings). k.pages q) one ∙ other.live_pages q;
      loans = λ f. sym (first.loans f) ∙ ap (λ (k : Holdings). k.loans f) one ∙ other.loans f;
      free_slots = ap (λ (n : Option ℕ). unwrap_or n 0) (sym first.free_slots ∙ ap (λ (k : Holdings). k.free_slots) one ∙ other.free_slots);
    }
