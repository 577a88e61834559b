-- The events of a page that comes leave no page, and pin none again and end none.
use Rattle.std.proofs.Common.{◌≡◌, ℕ, ◌+◌, List, [], ◌∷◌, ◌++◌, length, refl, ap, ◌∙◌, subst, sym, inl, inr, arith, length-append}
use Rattle.std.specs.List.{All, filter_map}
use Rattle.std.proofs.lemmas.List.Elements.{All-nil, All-cons, All-append, All-head, All-tail, filter_map-append}
use Rattle.reservation_tree.specs.declared.errors.PoolErr.{PoolErr}
use Rattle.reservation_tree.specs.declared.errors.PoolErr.TheVariants.{WriteFault, ReadFault, NamesSpent, Stale}
use Rattle.pool_model.specs.declared.call.Call.TheVariants as call
use Rattle.pool_model.specs.declared.event.Event.{Event}
use Rattle.pool_model.specs.declared.event.Event.TheVariants.{Ask, Create, StartWrite, WriteOk, WriteFailed, Evict, PinHere, PinLoad, ReadOk, ReadFailed, ReadStale, Refused, Unpin, UnpinRefused}
use Rattle.pool_model.specs.LookingBack.{name_in}
use Rattle.store_api.specs.Holdings.{Holdings}
use Rattle.store_api.specs.Entries.{AreWrites, IsAsked, IsEvict, IsPin, IsRefusal, IsTaken}
use Rattle.tuple_stream.specs.Trails.{IsBuilding, Left, PinsFirst, all_left, left_by, creates_in}

pub left_join : (before more : List Event) → all_left (before ++ more) ≡ all_left before ++ all_left more
left_join before more = filter_map-append left_by before more

pub creates_join : (before more : List Event) → creates_in (before ++ more) ≡ creates_in before + creates_in more
creates_join before more = ap length (filter_map-append name_in before more) ∙ length-append (filter_map name_in before) (filter_map name_in more)

-- so many pages come, and none is left, pinned again or ended
pub record AreQuiet (pages : ℕ) (events : List Event) : Type 0 where
  pub building : All IsBuilding events
  pub none : all_left events ≡ []
  pub creates : creates_in events ≡ pages

pub none_come : AreQuiet 0 []
none_come = record { building = All-nil IsBuilding; none = refl; creates = refl }

one_more : (n : ℕ) (e : Event) (events : List Event) → IsBuilding e → all_left (e ∷ events) ≡ all_left events → creates_in (e ∷ events) ≡ creates_in events → AreQuiet n events → AreQuiet n (e ∷ events)
one_more n e events building same count rest =
    record { building = All-cons IsBuilding e events building rest.building; none = same ∙ rest.none; creates = count ∙ rest.creates }

joined_quiet : (m n k : ℕ) (a b : List Event) → k ≡ m + n → AreQuiet m a → AreQuiet n b → AreQuiet k (a ++ b)
joined_quiet m n k a b sum first second =
    record {
      building = All-append IsBuilding a b first.building second.building;
      none = left_join a b ∙ ap (λ (ls : List Left). ls ++ all_left b) first.none ∙ second.none;
      creates = let all = creates_join a b in omega (arith, all, first.creates, second.creates, sum);
    }

-- events that leave no page leave none before one is pinned again
none_left_first : (events : List Event) → all_left events ≡ [] → PinsFirst events
none_left_first [] none = tt
none_left_first (Unpin p bytes ∷ rest) none = absurd cc
none_left_first (PinHere p ∷ rest) none = tt
none_left_first (PinLoad p ∷ rest) none = tt
none_left_first (e ∷ rest) none = none_left_first rest none

pub quiet_first : {n : ℕ} (events : List Event) → AreQuiet n events → PinsFirst events
quiet_first events quiet = none_left_first events quiet.none

quiet_refusal : (client blocks entry : ℕ) → AreQuiet 0 (Refused (call.Create client blocks) entry ∷ [])
quiet_refusal client blocks entry = one_more 0 (Refused (call.Create client blocks) entry) [] tt refl refl none_come

evicts_quiet : (events : List Event) → All IsEvict events → AreQuiet 0 events
evicts_quiet [] evicts = none_come
evicts_quiet (Evict p ∷ rest) evicts = one_more 0 (Evict p) rest tt refl refl (evicts_quiet rest (All-tail IsEvict (Evict p) rest evicts))
evicts_quiet (e ∷ rest) evicts = absurd (All-head IsEvict e rest evicts)

-- what an unpin makes that is refused
pub unpin_quiet : (p : ℕ) (events : List Event) → events ≡ UnpinRefused p ∷ [] → AreQuiet 0 events
unpin_quiet p events is = subst (AreQuiet 0) (sym is) (one_more 0 (UnpinRefused p) [] tt refl refl none_come)

-- the calls of a client, over what the store held before
module _ (t : ℕ) (h : Holdings) where
  writes_quiet : (events : List Event) → AreWrites t h events → AreQuiet 0 events
  writes_quiet [] writes = none_come
  writes_quiet (StartWrite p ∷ WriteOk q ∷ rest) writes =
      one_more 0 (StartWrite p) (WriteOk q ∷ rest) tt refl refl (one_more 0 (WriteOk q) rest tt refl refl (writes_quiet rest writes.2))
  writes_quiet (StartWrite p ∷ WriteFailed q before after ∷ rest) writes =
      one_more 0 (StartWrite p) (WriteFailed q before after ∷ rest) tt refl refl (one_more 0 (WriteFailed q before after) rest tt refl refl (writes_quiet rest writes.2))
  writes_quiet _ writes = absurd writes

  asked_quiet : (n : ℕ) (last events : List Event) → AreQuiet n last → IsAsked t h last events → AreQuiet n events
  asked_quiet n last events quiet asked =
      let writes : AreQuiet 0 asked.0 = writes_quiet asked.0 asked.1 in
      subst (AreQuiet n) (sym asked.2) (one_more n Ask (asked.0 ++ last) tt refl refl (joined_quiet 0 n n asked.0 last (omega arith) writes quiet))

  -- what a page that comes makes
  pub create_quiet : (p client blocks key : ℕ) (events : List Event) → IsTaken t h (Create p client blocks key ∷ []) events → AreQuiet 1 events
  create_quiet p client blocks key events taken =
      let evicts : AreQuiet 0 taken.0 = evicts_quiet taken.0 taken.1 in
      let create : AreQuiet 1 (Create p client blocks key ∷ []) = record { building = All-cons IsBuilding (Create p client blocks key) [] tt (All-nil IsBuilding); none = refl; creates = refl } in
      asked_quiet 1 (taken.0 ++ Create p client blocks key ∷ []) events (joined_quiet 0 1 1 taken.0 (Create p client blocks key ∷ []) refl evicts create) taken.2

  -- what a page that doesn't come makes
  pub refused_quiet : (client blocks : ℕ) (e : PoolErr) (events : List Event) → IsRefusal t h (call.Create client blocks) e events → AreQuiet 0 events
  refused_quiet client blocks (WriteFault entry) events is = asked_quiet 0 (Refused (call.Create client blocks) entry ∷ []) events (quiet_refusal client blocks entry) is
  refused_quiet client blocks NamesSpent events is = asked_quiet 0 [] events none_come is
  refused_quiet client blocks _ events is = subst (AreQuiet 0) (sym is) none_come

  -- a pin makes no page, whatever it answers
  asked_creates : (last events : List Event) → IsAsked t h last events → creates_in events ≡ creates_in last
  asked_creates last events asked =
      let writes = (writes_quiet asked.0 asked.1).creates in
      let all = creates_join asked.0 last in
      ap creates_in asked.2 ∙ omega (arith, writes, all)

  taken_creates : (last events : List Event) → IsTaken t h last events → creates_in events ≡ creates_in last
  taken_creates last events taken =
      let evicts = (evicts_quiet taken.0 taken.1).creates in
      let all = creates_join taken.0 last in
      let asked = asked_creates (taken.0 ++ last) events taken.2 in
      omega (arith, evicts, all, asked)

  pub pin_creates : (p : ℕ) (events : List Event) → IsPin t h p events → creates_in events ≡ 0
  pin_creates p events is = elim is [ inl asked ↦ asked_creates (PinHere p ∷ []) events asked | inr taken ↦ taken_creates (PinLoad p ∷ ReadOk p ∷ []) events taken ]

  pub refused_creates : (p : ℕ) (e : PoolErr) (events : List Event) → IsRefusal t h (call.Pin p) e events → creates_in events ≡ 0
  refused_creates p (WriteFault entry) events is = asked_creates (Refused (call.Pin p) entry ∷ []) events is
  refused_creates p (ReadFault entry) events is = taken_creates (PinLoad p ∷ ReadFailed p is.0 is.1 ∷ Refused (call.Pin p) entry ∷ []) events is.2
  refused_creates p (Stale wanted found) events is = taken_creates (PinLoad p ∷ ReadStale p wanted found ∷ Refused (call.Pin p) is.0 ∷ []) events is.1
  refused_creates p NamesSpent events is = asked_creates [] events is
  refused_creates p _ events is = ap creates_in is
