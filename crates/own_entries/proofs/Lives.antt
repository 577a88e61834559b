-- A session is live exactly while its own entries say so.
use Rattle.std.proofs.Common.{◌≡◌, ◌≢◌, ℕ, ◌+◌, ◌-◌, ◌==◌, List, [], ◌∷◌, ◌++◌, Bool, true, false, if◌then◌else◌, Option, Some, None, is_some, option_map, refl, sym, ap, ◌∙◌, subst, inl, inr, eq-eqb, ne_eqb}
use Rattle.std.specs.Ordering.{nat_cmp}
use Rattle.std.specs.FinMap.{FinMap, get, insert, remove, get-empty}
use Rattle.reservation_tree.proofs.Maps.{get_same, get_other, removed_same, removed_other, same_or_other}
use Rattle.pool_model.specs.declared.event.Event.{Event}
use Rattle.pool_model.specs.declared.event.Event.TheVariants.{Ask, AddTracker, CloseTracker, Increase, IncreaseToFit, Decrease, MoveReservation, UnpinOnce, Unpin, Extract, Destroy, MoveBuffer, ReadFailed, WriteFailed}
use Rattle.pool_model.specs.declared.entry.Entry.{Entry}
use Rattle.pool_model.specs.State.{page_at, Session, Sessions, State}
use Rattle.pool_model.specs.LookingBack.{opens, made_by}
use Rattle.pool_model.specs.MayFollow.{Allows, MayFollow}
use Rattle.pool_model.specs.Effects.{effect, after}
use Rattle.pool_model.specs.Parts.{with_failures, without_tracker, keep_first}
use Rattle.pool_model.specs.Sound.{IsSound}
use Rattle.pool_model.proofs.Fronts.{holds_after}
use Rattle.pool_model.proofs.OwnEntries.{made_by_other, made_more, made_first}
use Rattle.store_api.specs.Holdings.{LivePage, Holdings, page_of, loan_of}
use Rattle.store_api.specs.Changes.{slots_taken, slots_given}
use Rattle.own_entries.specs.OwnHoldings.{Outset, step, has_client, has_several_pins, moved_between, client_ended, session_ended, holdings_of, none_held}
use Rattle.own_entries.specs.HeldLaws.{LegalLivesAsTold}
use Rattle.own_entries.proofs.ByItself.{is_client, isnt_client}
use Rattle.own_entries.proofs.Held.{Held, held_on, held_more}

failures_live : (change : FinMap nat_cmp ℕ → FinMap nat_cmp ℕ) (k : ℕ) (old : Sessions) (m : ℕ) → is_some (get (with_failures change k old) m) ≡ is_some (get old m)
failures_live change k old m =
    elim (get old k) as (λ o. get old k ≡ o → is_some (get (elim o [ None ↦ old | Some x ↦ insert old k (record x { failures = change x.failures }) ]) m) ≡ is_some (get old m)) [
      | None ↦ λ is. refl
      | Some x ↦ λ is. elim (same_or_other m k) [
        | inl here ↦ ap (λ (q : ℕ). is_some (get (insert old k (record x { failures = change x.failures })) q)) here ∙ ap is_some (get_same old k _) ∙ sym (ap is_some (ap (get old) here ∙ is))
        | inr other ↦ ap is_some (get_other old k _ m other)
      ]
    ] refl

closing_live : (maker t : ℕ) (old : Sessions) (m : ℕ) → maker ≢ m → is_some (get (without_tracker maker t old) m) ≡ is_some (get old m)
closing_live maker t old m other =
    elim (get old maker) as (λ o. is_some (get (elim o [ None ↦ old | Some x ↦ if x.query == t then remove old maker else insert old maker (record x { failures = remove x.failures t }) ]) m) ≡ is_some (get old m)) [
      | None ↦ refl
      | Some x ↦ elim (x.query == t) as (λ b. is_some (get (if b then remove old maker else insert old maker (record x { failures = remove x.failures t })) m) ≡ is_some (get old m)) [
        | true ↦ ap is_some (removed_other old maker m (λ same. other (sym same)))
        | false ↦ ap is_some (get_other old maker _ m (λ same. other (sym same)))
      ]
    ]

-- another maker neither opens nor ends the session
pub other_live : (s : State) (maker m : ℕ) → maker ≢ m → (event : Event) → is_some (get (effect maker event s).sessions m) ≡ is_some (get s.sessions m)
other_live s maker m other Ask = failures_live _ maker s.sessions m
other_live s maker m other (AddTracker t parent limit (Some quota)) = ap is_some (get_other s.sessions maker _ m (λ same. other (sym same)))
other_live s maker m other (AddTracker t parent limit None) = refl
other_live s maker m other (CloseTracker t) = closing_live maker t s.sessions m other
other_live s maker m other (ReadFailed p sum_before sum_after) = failures_live (keep_first (page_at s p).client s.entries) (page_at s p).session s.sessions m
other_live s maker m other (WriteFailed p sum_before sum_after) = failures_live (keep_first (page_at s p).client s.entries) (page_at s p).session s.sessions m
other_live s maker m other _ = refl

either_some : (b c : Bool) (u v : Option ℕ) → is_some u ≡ c → is_some v ≡ c → is_some (if b then u else v) ≡ c
either_some true c u v first second = first
either_some false c u v first second = second

mapped_some : (f : ℕ → ℕ) (free : Option ℕ) → is_some (option_map f free) ≡ is_some free
mapped_some f None = refl
mapped_some f (Some n) = refl

pub taken_some : (page : LivePage) (free : Option ℕ) → is_some (slots_taken page free) ≡ is_some free
taken_some page free = either_some page.has_slots (is_some free) free (option_map (λ n. n - page.blocks) free) refl (mapped_some _ free)

pub given_some : (page : LivePage) (free : Option ℕ) → is_some (slots_given page free) ≡ is_some free
given_some page free = either_some page.has_slots (is_some free) (option_map (λ n. n + page.blocks) free) free (mapped_some _ free) refl

same_if : (b : Bool) (u v : Holdings) (o : Option ℕ) → u.free_slots ≡ o → v.free_slots ≡ o → (if b then u else v).free_slots ≡ o
same_if true u v o first second = first
same_if false u v o first second = second

moved_free : (a b : Bool) (from to bytes : ℕ) (h : Holdings) → (moved_between a b from to bytes h).free_slots ≡ h.free_slots
moved_free true true from to bytes h = same_if (from == to) _ _ h.free_slots refl refl
moved_free true false from to bytes h = refl
moved_free false true from to bytes h = refl
moved_free false false from to bytes h = refl

abbrev ends_one : Event → Bool
ends_one (CloseTracker t) = true
ends_one _ = false

-- a step that neither opens nor closes
step_some : (h : Holdings) (event : Event) → opens event ≡ false → ends_one event ≡ false → is_some (step event h).free_slots ≡ is_some h.free_slots
step_some h (AddTracker t parent limit (Some quota)) old never = let no_way : true ≡ false = old in cc
step_some h (AddTracker t parent limit None) old never = refl
step_some h (CloseTracker t) old never = let no_way : true ≡ false = never in cc
step_some h (Increase t bytes) old never = ap is_some (same_if (has_client t h) _ _ h.free_slots refl refl)
step_some h (IncreaseToFit t bytes) old never = ap is_some (same_if (has_client t h) _ _ h.free_slots refl refl)
step_some h (Decrease t bytes) old never = ap is_some (same_if (has_client t h) _ _ h.free_slots refl refl)
step_some h (MoveReservation from to bytes) old never = ap is_some (moved_free (has_client from h) (has_client to h) from to bytes h)
step_some h (UnpinOnce p) old never = ap is_some (same_if (has_several_pins p h) _ _ h.free_slots refl refl)
step_some h (Unpin p content) old never = taken_some (page_of p h) h.free_slots
step_some h (Extract p f) old never = given_some (page_of p h) h.free_slots
step_some h (Destroy p) old never = given_some (page_of p h) h.free_slots
step_some h (MoveBuffer f to) old never = ap is_some (same_if ((loan_of f h).client == to) _ _ h.free_slots refl refl)
step_some h _ old never = refl

module _ (len : ℕ) (outset : Outset) where
  record Lives (before : List Entry) (s : State) : Type 0 where
    held : Held len outset before s
    lives : (m : ℕ) → is_some (get s.sessions m) ≡ is_some (holdings_of len m outset (made_by before m)).free_slots

  -- a tracker of the session goes: it is a client's, or the session ends
  closed_live : (before : List Entry) (s : State) → IsSound s → Held len outset before s → (m t : ℕ) → Allows before s m (CloseTracker t)
      → is_some (get (effect m (CloseTracker t) s).sessions m) ≡ is_some (step (CloseTracker t) (holdings_of len m outset (made_by before m))).free_slots
  closed_live before s sound held m t may =
      let h : Holdings = holdings_of len m outset (made_by before m) in
      elim may.own [
        | inl query ↦
            let told = held.kept m query.session query.lives in
            let gone : is_some (get (without_tracker m t s.sessions) m) ≡ false =
            ap (λ (o : Option Session). is_some (get (elim o [ None ↦ s.sessions | Some x ↦ if x.query == t then remove s.sessions m else insert s.sessions m (record x { failures = remove x.failures t }) ]) m)) query.lives
            ∙ ap (λ (b : Bool). is_some (get (if b then remove s.sessions m else insert s.sessions m (record query.session { failures = remove query.session.failures t })) m)) (eq-eqb query.session.query t query.is)
            ∙ ap is_some (removed_same s.sessions m) in
            gone ∙ sym (ap (λ (b : Bool). is_some (if b then client_ended t h else session_ended h).free_slots) (isnt_client _ before s sound held.owned m query.session query.lives h told t query))
        | inr client ↦
            let told = held.kept m client.session client.opened in
            let apart : client.session.query ≢ t = λ same. may.no_child t client.tracker client.lives (client.under ∙ ap Some same) in
            let stays : is_some (get (without_tracker m t s.sessions) m) ≡ true =
            ap (λ (o : Option Session). is_some (get (elim o [ None ↦ s.sessions | Some x ↦ if x.query == t then remove s.sessions m else insert s.sessions m (record x { failures = remove x.failures t }) ]) m)) client.opened
            ∙ ap (λ (b : Bool). is_some (get (if b then remove s.sessions m else insert s.sessions m (record client.session { failures = remove client.session.failures t })) m)) (ne_eqb client.session.query t apart)
            ∙ ap is_some (get_same s.sessions m _) in
            stays ∙ sym (ap (λ (b : Bool). is_some (if b then client_ended t h else session_ended h).free_slots) (is_client _ before s sound held.owned m client.session client.opened h told t client)
            ∙ ap is_some told.free_slots)
      ]

  own_live : (before : List Entry) (s : State) → IsSound s → Held len outset before s → (m : ℕ) → is_some (get s.sessions m) ≡ is_some (holdings_of len m outset (made_by before m)).free_slots
      → (event : Event) → Allows before s m event → opens event ≡ false → is_some (get (effect m event s).sessions m) ≡ is_some (step event (holdings_of len m outset (made_by before m))).free_slots
  own_live before s sound held m lives (CloseTracker t) may old = closed_live before s sound held m t may
  own_live before s sound held m lives Ask may old = failures_live _ m s.sessions m ∙ lives
  own_live before s sound held m lives (AddTracker t parent limit (Some quota)) may old = let no_way : true ≡ false = old in cc
  own_live before s sound held m lives (AddTracker t parent limit None) may old = lives
  own_live before s sound held m lives (ReadFailed p sum_before sum_after) may old = failures_live (keep_first (page_at s p).client s.entries) (page_at s p).session s.sessions m ∙ lives
  own_live before s sound held m lives (WriteFailed p sum_before sum_after) may old = failures_live (keep_first (page_at s p).client s.entries) (page_at s p).session s.sessions m ∙ lives
  own_live before s sound held m lives event may old = lives ∙ sym (step_some (holdings_of len m outset (made_by before m)) event old refl)

  opening_live : (s : State) (m : ℕ) (event : Event) → opens event ≡ true → is_some (get (effect m event s).sessions m) ≡ is_some (step event (none_held len m outset)).free_slots
  opening_live s m (AddTracker t parent limit (Some quota)) new = ap is_some (get_same s.sessions m _)
  opening_live s m _ new = let no_way : false ≡ true = new in cc

  lives_on : (before : List Entry) (s : State) → IsSound s → Lives before s → (e : Entry) → MayFollow before s e → Lives (before ++ e ∷ []) (after s e)
  lives_on before s sound it e may = record {
    held = held_on len outset before s sound it.held e may;
    lives = λ m. elim (same_or_other e.maker m) [
      | inr other ↦ other_live s e.maker m other e.event ∙ it.lives m ∙ ap (λ (own : List Entry). is_some (holdings_of len m outset own).free_slots) (sym (made_by_other before e m other))
      | inl own ↦
          let allows : Allows before s m e.event = subst (λ (k : ℕ). Allows before s k e.event) own may.allows in
          ap (λ (k : ℕ). is_some (get (effect k e.event s).sessions m)) own
          ∙ elim (opens e.event) as (λ b. opens e.event ≡ b → is_some (get (effect m e.event s).sessions m) ≡ is_some (holdings_of len m outset (made_by (before ++ e ∷ []) m)).free_slots) [
            | true ↦ λ new. opening_live s m e.event new ∙ ap (λ (es : List Entry). is_some (holdings_of len m outset es).free_slots) (sym (made_first before e m own new))
            | false ↦ λ old.
                own_live before s sound it.held m (it.lives m) e.event allows old
                ∙ ap (λ (h : Holdings). is_some h.free_slots) (sym (held_more (none_held len m outset) (made_by before m) e) ∙ ap (holdings_of len m outset) (sym (made_more before e m own old)))
          ] refl
    ];
  }

pub legal_lives_as_told : LegalLivesAsTold
legal_lives_as_told o outset h legal m =
    (holds_after (Lives o.block_len outset) (lives_on o.block_len outset) o (record {
      held = record {
        block_len = refl;
        owned = λ p y there. let none : None ≡ Some y = sym (get-empty nat_cmp p) ∙ there in cc;
        kept = λ n y there. let none : None ≡ Some y = sym (get-empty nat_cmp n) ∙ there in cc;
      };
      lives = λ n. ap is_some (get-empty nat_cmp n);
    }) h legal).lives m
