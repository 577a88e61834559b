-- For which items a pool's value stands when a session comes or goes.
use Rattle.std.proofs.Common.{◌≡◌, ℕ, ◌+◌, ◌==◌, Bool, List, [], ◌∷◌, ◌++◌, Option, Some, None, is_some, option_map, unwrap_or, if◌then◌else◌, refl, sym, ap, ◌∙◌, subst, inl, inr, arith, eq-eqb}
use Rattle.std.proofs.lemmas.List.{append-nil}
use Rattle.std.specs.FinMap.{get, insert, remove, empty}
use Rattle.std.specs.List.{AllByRecursion}
use Rattle.outside.specs.declared.slot.Slot.{Ghosts}
use Rattle.reservation_tree.specs.Tracker.{HasNoChild, IsLive, reservation_of}
use Rattle.reservation_tree.proofs.Maps.{found, get_same, get_other, removed_same, removed_other, same_or_other}
use Rattle.pool_model.specs.declared.event.Event.{Event}
use Rattle.pool_model.specs.declared.event.Event.TheVariants.{AddTracker, CloseTracker, Decrease, Increase}
use Rattle.pool_model.specs.declared.entry.Entry.{Entry}
use Rattle.pool_model.specs.State.{Opening, Session, Sessions, State}
use Rattle.pool_model.specs.Legal.{IsLegal, run, state_after}
use Rattle.pool_model.specs.Parts.{without_tracker}
use Rattle.pool_model.specs.Sound.{IsQuery, IsSound}
use Rattle.pool_model.proofs.Kept.{legal_sound}
use Rattle.pin_core.specs.declared.parts.Parts.{Parts}
use Rattle.pin_core.specs.StateOf.{state_of}
use Rattle.pin_core.specs.calls.Sessions.{IsSeat, query_of, quota_in}
use Rattle.pin_core.specs.Standing.{StandsFor, Enters}
use Rattle.pin_core.specs.calls.Opening.{ending_entries, opening_entries, spare_of}
use Rattle.pin_core.specs.declared.tally.Tally.{Tally}
use Rattle.pin_core.specs.Tallies.{silence}
use Rattle.turn_table.specs.declared.view.View.{View}
use Rattle.turn_table.specs.Steps.{grown}
use Rattle.store_api.specs.Entries.{by}
use Rattle.session_calls.specs.declared.count.Count.{Count}
use Rattle.session_calls.specs.declared.count.Count.TheVariants as count
use Rattle.session_calls.specs.Having.{Sight}
use Rattle.session_calls.specs.Moving.{quota_at, slots_out}
use Rattle.session_calls.specs.Outgoing.{CountsWhole}
use Rattle.session_calls.proofs.Outgoing.{counts_rest}
use Rattle.session_calls.proofs.Resting.{AllRest}
use Rattle.pool.specs.declared.item.Item.{Item}
use Rattle.pool.specs.Items.{counts_in, history}
use Rattle.pool.specs.Seats.{Quotas, quotas_in, taken_in}
use Rattle.pool.specs.Seating.{beginning_items, ending_items, state_in}
use Rattle.pool.specs.Standing.{IsMarked, StandsAs}
use Rattle.pool.proofs.Beside.{quotas_more}
use Rattle.pool.proofs.Listed.{sight_more}
use Rattle.pool.proofs.Marked.{marked_more}
use Rattle.pool.proofs.Seated.{taken_begun, taken_ended}

-- so many slots are spare behind these items, which a seat has seen
pub spare_behind : (old new : View Item) (named more : List Item) (spare told slots : ℕ) → spare + taken_in (old.seen ++ more) ≡ slots → told ≡ spare → new ≡ grown named old → named ≡ more → told + taken_in new.seen ≡ slots
spare_behind old new named more spare told slots stood is grows same =
    let taken : taken_in new.seen ≡ taken_in (old.seen ++ more) = ap (λ (v : View Item). taken_in v.seen) grows ∙ ap (λ (es : List Item). taken_in (old.seen ++ es)) same in
    omega (arith, stood, is, taken)

abbrev quota_of : Option Session → Option ℕ
quota_of o = option_map (λ x. x.quota) o

-- the sessions have these quotas
abbrev Alike : Sessions → Quotas → Type 0
Alike sessions quotas = (k : ℕ) → quota_of (get sessions k) ≡ get quotas k

alike_with : (sessions : Sessions) (quotas : Quotas) (m : ℕ) (x : Session) → Alike sessions quotas → Alike (insert sessions m x) (insert quotas m x.quota)
alike_with sessions quotas m x is k = elim (same_or_other k m) [
  | inl here ↦
      ap (λ (n : ℕ). quota_of (get (insert sessions m x) n)) here ∙ ap quota_of (get_same sessions m x)
      ∙ sym (get_same quotas m x.quota) ∙ ap (get (insert quotas m x.quota)) (sym here)
  | inr other ↦ ap quota_of (get_other sessions m x k other) ∙ is k ∙ sym (get_other quotas m x.quota k other)
]

alike_without : (sessions : Sessions) (quotas : Quotas) (m : ℕ) → Alike sessions quotas → Alike (remove sessions m) (remove quotas m)
alike_without sessions quotas m is k = elim (same_or_other k m) [
  | inl here ↦
      ap (λ (n : ℕ). quota_of (get (remove sessions m) n)) here ∙ ap quota_of (removed_same sessions m)
      ∙ sym (removed_same quotas m) ∙ ap (get (remove quotas m)) (sym here)
  | inr other ↦ ap quota_of (removed_other sessions m k other) ∙ is k ∙ sym (removed_other quotas m k other)
]

-- with its query tracker the session goes
closed : (sessions : Sessions) (m t : ℕ) (x : Session) → get sessions m ≡ Some x → t ≡ x.query → without_tracker m t sessions ≡ remove sessions m
closed sessions m t x there is =
    ap (λ (o : Option Session). elim o [ None ↦ sessions | Some y ↦ if y.query == t then remove sessions m else insert sessions m (record y { failures = remove y.failures t }) ]) there
    ∙ ap (λ (b : Bool). if b then remove sessions m else insert sessions m (record x { failures = remove x.failures t })) (eq-eqb x.query t (sym is))

module _ {D : Type 0} (slot : Ghosts D) (o : Opening) (told : Bool) (first : Tally) where
  -- the value has the state of which the items tell
  pub state_here : (items : List Item) (sight : Sight) (v : Parts D) → StandsAs slot o told first items sight v → state_of v ≡ state_in o items
  state_here items sight v stood = stood.whole.stands.state ∙ ap (λ (z : Sight). state_after o z.trail) stood.sight_is

  pub legal_here : (items : List Item) (sight : Sight) (v : Parts D) → StandsAs slot o told first items sight v → IsLegal o (history items)
  legal_here items sight v stood = subst (λ (z : Sight). IsLegal o z.trail) stood.sight_is stood.whole.stands.legal

  -- a session's query tracker is live
  pub query_live : (items : List Item) (sight : Sight) (v : Parts D) → StandsAs slot o told first items sight v → (m : ℕ) → IsSeat (state_of v) m → IsLive (state_of v).trackers (query_of (state_of v) m)
  query_live items sight v stood m live =
      let sound : IsSound (state_of v) = subst IsSound (sym stood.whole.stands.state) (legal_sound o sight.trail stood.whole.stands.legal) in
      let seat = found (get (state_of v).sessions m) live in
      let its : IsQuery (state_of v).trackers seat.0.query = sound.seated.seats m seat.0 seat.1 in
      subst (IsLive (state_of v).trackers) (sym (ap (λ (x : Option Session). unwrap_or (option_map (λ y. y.query) x) 0) seat.1)) (ap is_some its.lives)

  -- the quota of a session that ends is spare again
  pub spare_ended : (items : List Item) (sight : Sight) (old new : Parts D) (m : ℕ) → StandsAs slot o told first items sight old → IsSeat (state_of old) m
      → spare_of new ≡ spare_of old + quota_in (state_of old) m → spare_of new + taken_in (items ++ ending_items (state_of old) m) ≡ spare_of old + taken_in items
  spare_ended items sight old new m stood live spare =
      let seat = found (get (state_of old).sessions m) live in
      let quota : quota_in (state_of old) m ≡ seat.0.quota = ap (λ (x : Option Session). unwrap_or (option_map (λ y. y.quota) x) 0) seat.1 in
      let taken = taken_ended items (state_of old) m seat.0.quota (sym (stood.sessions m) ∙ ap quota_of seat.1) in
      omega (arith, spare, taken, quota)

  module _ (items : List Item) (sight later : Sight) (old new : Parts D) where
    -- what came behind the items is in the history and in the state, no job began or ended by it, the slots are where
    -- they were, and the quotas are those of the items
    stands_on : (m : ℕ) (events : List Event) (more : List Item) → history more ≡ by m events → counts_in more ≡ [] → AllRest events → AllByRecursion IsMarked more
        → StandsAs slot o told first items sight old → later.trail ≡ sight.trail ++ history more → later.counts ≡ sight.counts → Enters slot (history more) [] [] old new
        → (run (state_of old) (history more)).pages ≡ (state_of old).pages → Alike (state_of new).sessions (quotas_in (items ++ more))
        → spare_of new + taken_in (items ++ more) ≡ spare_of old + taken_in items → StandsAs slot o told first (items ++ more) later new
    stands_on m events more made none rest marked stood goes same enters pages sessions spare =
        let stands : StandsFor slot o (sight.trail ++ history more) new = enters.stands o sight.trail stood.whole.stands in record {
          sight_is =
              ap (λ (h : List Entry). record { trail = h; counts = later.counts }) (goes ∙ ap (λ (z : Sight). z.trail ++ history more) stood.sight_is)
              ∙ ap (λ (cs : List Count). record { trail = history items ++ history more; counts = cs })
              (same ∙ ap (λ (z : Sight). z.counts) stood.sight_is ∙ ap (λ (cs : List Count). count.Opening first ∷ cs) (sym (append-nil (counts_in items)) ∙ ap (λ (cs : List Count). counts_in items ++ cs) (sym none)))
              ∙ sym (sight_more first items more);
          whole = record {
            stands = subst (λ (h : List Entry). StandsFor slot o h new) (sym goes) stands;
            home =
                let home = enters.slots (λ d. 1) in
                let out : slots_out (state_of new).pages ≡ slots_out (state_of old).pages = ap (λ (s : State). slots_out s.pages) enters.state ∙ ap slots_out pages in
                let was = stood.whole.home in
                omega (arith, home, out, was);
            tell = λ is. let home = enters.slots (silence slot) in let was = stood.whole.tell is in omega (arith, home, was);
            sums =
                let counted : CountsWhole slot (sight.trail ++ by m events) sight.counts new =
                counts_rest slot o sight.trail sight.counts old stood.whole.stands stood.whole.sums m events new rest (subst (λ (h : List Entry). StandsFor slot o (sight.trail ++ h) new) made stands)
                (λ measure. let moved = enters.slots measure in omega (arith, moved)) in
                subst (λ (h : List Entry). CountsWhole slot h later.counts new) (sym (goes ∙ ap (λ (h : List Entry). sight.trail ++ h) made))
                (subst (λ (cs : List Count). CountsWhole slot (sight.trail ++ by m events) cs new) (sym same) counted);
          };
          marked = marked_more items more stood.marked marked;
          sessions = sessions;
          spare = spare ∙ stood.spare;
        }

    pub stands_begun : (m query limit quota least : ℕ) → StandsAs slot o told first items sight old → get (state_of old).sessions m ≡ None → later.trail ≡ sight.trail ++ opening_entries m query limit quota least → later.counts ≡ sight.counts
        → Enters slot (opening_entries m query limit quota least) [] [] old new → spare_of new + quota ≡ spare_of old → StandsAs slot o told first (items ++ beginning_items m query limit quota least) later new
    stands_begun m query limit quota least stood none goes same enters spare =
        stands_on m (AddTracker query 0 limit (Some quota) ∷ Increase query least ∷ []) (beginning_items m query limit quota least) refl refl (refl, (refl, tt)) (tt, (refl, tt)) stood goes same enters refl
        (λ k.
        ap (λ (s : State). quota_at s k) enters.state
        ∙ alike_with (state_of old).sessions (quotas_in items) m (record { query = query; quota = quota; failures = empty }) stood.sessions k
        ∙ ap (λ (q : Quotas). get q k) (sym (quotas_more empty items (beginning_items m query limit quota least))))
        (let taken = taken_begun items m query limit quota least (sym (stood.sessions m) ∙ ap quota_of none) in omega (arith, spare, taken))

    pub stands_ended : (m : ℕ) → StandsAs slot o told first items sight old → IsSeat (state_of old) m → HasNoChild (state_of old).trackers (query_of (state_of old) m) → later.trail ≡ sight.trail ++ ending_entries (state_of old) m
        → later.counts ≡ sight.counts → Enters slot (ending_entries (state_of old) m) [] [] old new → spare_of new ≡ spare_of old + quota_in (state_of old) m
        → StandsAs slot o told first (items ++ ending_items (state_of old) m) later new
    stands_ended m stood live no_child goes same enters spare =
        let seat = found (get (state_of old).sessions m) live in
        let there : get (state_of old).sessions m ≡ Some seat.0 = seat.1 in
        let query : query_of (state_of old) m ≡ seat.0.query = ap (λ (x : Option Session). unwrap_or (option_map (λ y. y.query) x) 0) there in
        let t : ℕ = query_of (state_of old) m in
        stands_on m (Decrease t (reservation_of (state_of old).trackers t) ∷ CloseTracker t ∷ []) (ending_items (state_of old) m) refl refl (refl, (refl, tt)) (refl, (tt, tt)) stood goes same enters refl
        (λ k.
        ap (λ (s : State). quota_at s k) enters.state
        ∙ ap (λ (x : Sessions). quota_of (get x k)) (closed (state_of old).sessions m (query_of (state_of old) m) seat.0 there query)
        ∙ alike_without (state_of old).sessions (quotas_in items) m stood.sessions k
        ∙ ap (λ (q : Quotas). get q k) (sym (quotas_more empty items (ending_items (state_of old) m))))
        (spare_ended items sight old new m stood live spare)

module _ {D : Type 0} (slot : Ghosts D) where
  -- a session that has just begun is live
  pub begun_seat : (m query limit quota least : ℕ) (old new : Parts D) → Enters slot (opening_entries m query limit quota least) [] [] old new → IsSeat (state_of new) m
  begun_seat m query limit quota least old new enters =
      ap (λ (s : State). is_some (get s.sessions m)) enters.state
      ∙ ap is_some (get_same (state_of old).sessions m (record { query = query; quota = quota; failures = empty }))
