-- The entries of a call write pages of its client alone, and names above those of a trail are new.
use Rattle.std.proofs.Common.{◌≡◌, ℕ, ◌<◌, List, [], ◌∷◌, ◌++◌, Option, Some, None, All, refl, ap, sym, ◌∙◌, subst, inl, inr, arith, ne_eqb}
use Rattle.std.specs.Option.{option_or}
use Rattle.std.proofs.lemmas.List.Elements.{All-nil, All-cons, All-head, All-tail, All-append, filter_map-append}
use Rattle.reservation_tree.specs.declared.errors.PoolErr.{PoolErr}
use Rattle.reservation_tree.specs.declared.errors.PoolErr.TheVariants.{WriteFault, ReadFault, NamesSpent, Stale}
use Rattle.pool_model.specs.declared.call.Call.{Call}
use Rattle.pool_model.specs.declared.call.Call.TheVariants as call
use Rattle.pool_model.specs.declared.event.Event.{Event}
use Rattle.pool_model.specs.declared.event.Event.TheVariants.{Create, StartWrite, WriteOk, WriteFailed, Evict}
use Rattle.pool_model.specs.declared.entry.Entry.{Entry}
use Rattle.pool_model.specs.LookingBack.{Made, makes, maker_of, names_in}
use Rattle.store_api.specs.Holdings.{Holdings, IsPageOf}
use Rattle.store_api.specs.Entries.{AreWrites, IsEvict, IsAsked, IsTaken, IsPin, IsRefusal, IsAboveNames}
use Rattle.store_api.specs.WriteLaws.{write_in, written, CallsWriteOwn, NamesAboveAreNew}

-- evictions write nothing
evicts_write : (evicts : List Event) → All IsEvict evicts → written evicts ≡ []
evicts_write [] are = refl
evicts_write (Evict p ∷ rest) are = evicts_write rest (All-tail IsEvict (Evict p) rest are)
evicts_write (e ∷ rest) are = absurd (All-head IsEvict e rest are)

module _ (t : ℕ) (h : Holdings) where
  abbrev Own : List Event → Type 0
  Own events = All (IsPageOf t h) (written events)

  own_if_none : (events : List Event) → written events ≡ [] → Own events
  own_if_none events none = subst (λ (ps : List ℕ). All (IsPageOf t h) ps) (sym none) (All-nil (IsPageOf t h))

  own_both : (first last : List Event) → Own first → Own last → Own (first ++ last)
  own_both first last one two =
      subst (λ (ps : List ℕ). All (IsPageOf t h) ps) (sym (filter_map-append write_in first last)) (All-append (IsPageOf t h) (written first) (written last) one two)

  own_write : (p q : ℕ) (rest : List ℕ) → IsPageOf t h p → q ≡ p → All (IsPageOf t h) rest → All (IsPageOf t h) (p ∷ q ∷ rest)
  own_write p q rest own same others =
      All-cons (IsPageOf t h) p (q ∷ rest) own (All-cons (IsPageOf t h) q rest (subst (λ (x : ℕ). IsPageOf t h x) (sym same) own) others)

  own_writes : (writes : List Event) → AreWrites t h writes → Own writes
  own_writes [] are = All-nil (IsPageOf t h)
  own_writes (StartWrite p ∷ WriteOk q ∷ rest) (own, same, are) = own_write p q (written rest) own same (own_writes rest are)
  own_writes (StartWrite p ∷ WriteFailed q before after ∷ rest) (own, same, are) = own_write p q (written rest) own same (own_writes rest are)
  own_writes _ are = absurd are

  module _ (events : List Event) where
    asked_own : (last : List Event) → written last ≡ [] → IsAsked t h last events → Own events
    asked_own last none asked =
        subst (λ (es : List Event). Own es) (sym asked.2) (own_both asked.0 last (own_writes asked.0 asked.1) (own_if_none last none))

    taken_own : (last : List Event) → written last ≡ [] → IsTaken t h last events → Own events
    taken_own last none taken =
        asked_own (taken.0 ++ last) (filter_map-append write_in taken.0 last ∙ ap (λ (ps : List ℕ). ps ++ written last) (evicts_write taken.0 taken.1) ∙ none) taken.2

    pin_own : (p : ℕ) → IsPin t h p events → Own events
    pin_own p (inl here) = asked_own _ refl here
    pin_own p (inr loaded) = taken_own _ refl loaded

    nothing_own : events ≡ [] → Own events
    nothing_own none = own_if_none events (ap written none)

    refusal_own : (what : Call) (e : PoolErr) → IsRefusal t h what e events → Own events
    refusal_own what (WriteFault entry) was = asked_own _ refl was
    refusal_own (call.Pin p) (ReadFault entry) was = taken_own _ refl was.2
    refusal_own (call.Pin p) (Stale wanted found) was = taken_own _ refl was.1
    refusal_own what NamesSpent was = asked_own _ refl was
    refusal_own what _ was = nothing_own was

pub calls_write_own : CallsWriteOwn
calls_write_own t h events =
    record {
      asked = asked_own t h events;
      taken = taken_own t h events;
      pinned = pin_own t h events;
      refused = refusal_own t h events;
    }

-- an event under this name's trail doesn't make its page
above_first : (name maker : ℕ) (event : Event) (rest : List Entry) → IsAboveNames name (Some (record { maker = maker; event = event } ∷ rest)) → (makes name maker event ≡ None) × IsAboveNames name (Some rest)
above_first name maker (Create p client blocks key) rest above =
    let less : p < name = All-head (λ (q : ℕ). q < name) p (names_in rest) above in
    (rw (ne_eqb p name (λ same. omega (arith, less, same))) refl, All-tail (λ (q : ℕ). q < name) p (names_in rest) above)
above_first name maker _ rest above = (refl, above)

pub names_above : NamesAboveAreNew
names_above name [] above = refl
names_above name (e ∷ rest) above =
    let first : (makes name e.maker e.event ≡ None) × IsAboveNames name (Some rest) = above_first name e.maker e.event rest above in
    ap (λ (o : Option Made). option_or o (maker_of rest name)) first.0 ∙ names_above name rest first.1
