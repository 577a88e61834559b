-- What comes to a session while clean pages go, which may be others'.
use Rattle.std.proofs.Common.{◌≡◌, ℕ, ◌+◌, ◌≤◌, ◌<◌, length, take, List, [], ◌∷◌, ◌++◌, map, Result, Ok, Err, is_some, true, IfOk, IfErr, OnErr, OnOk, refl, sym, ap, ◌∙◌, subst, arith, le-leb}
use Rattle.std.proofs.lemmas.Bool.{leb-true}
use Rattle.std.proofs.lemmas.List.{append_assoc}
use Rattle.std.proofs.lemmas.List.Elements.{All-from_recursion}
use Rattle.std.specs.List.{AllByRecursion}
use Rattle.block_arena.specs.Memory.{Buffer}
use Rattle.outside.specs.declared.slot.Slot.{Ghosts}
use Rattle.reservation_tree.specs.declared.errors.PoolErr.{PoolErr}
use Rattle.reservation_tree.specs.declared.errors.PoolErr.TheVariants.{NamesSpent}
use Rattle.pool_model.specs.declared.event.Event.{Event}
use Rattle.pool_model.specs.declared.event.Event.TheVariants.{Evict, Create}
use Rattle.pool_model.specs.declared.entry.Entry.{Entry}
use Rattle.pool_model.specs.State.{Opening, State}
use Rattle.pool_model.specs.Bytes.{bytes_of}
use Rattle.pool_model.specs.Legal.{run}
use Rattle.pool_model.specs.LookingBack.{names_in}
use Rattle.pool_model.specs.Sums.{free_bytes, length_of as length_in}
use Rattle.pool_model.specs.HistoryLaws.{AreNew}
use Rattle.pool_model.proofs.Names.{legal_names_are_new}
use Rattle.store_api.specs.Tokens.{PageToken}
use Rattle.store_api.specs.Holdings.{Holdings, length_of}
use Rattle.store_api.specs.Entries.{by, IsEvict}
use Rattle.own_entries.specs.OwnHoldings.{Outset, after_events}
use Rattle.pin_core.specs.StateOf.{state_of}
use Rattle.pin_core.specs.Standing.{Enters}
use Rattle.pin_core.specs.calls.Evictions.{MakesRoom, blocks_in, evictions, names_gone}
use Rattle.pin_core.specs.calls.Coming.{zeros}
use Rattle.session_calls.specs.Coming.{Evicts}
use Rattle.session_calls.specs.Moving.{rests}
use Rattle.session_calls.specs.Needing.{IsNeeded, EntersNeeded}
use Rattle.session_calls.proofs.Lists.{by_append}
use Rattle.session_calls.proofs.Fresh.{zeroed, fresh_name}
use Rattle.session_calls.proofs.Needed.{needed_evicts, needed_then, needs_goes, needs_none}
use Rattle.session_calls.proofs.Pages.{len_here}
use Rattle.session_calls.specs.declared.hand.Hand.{Hand}
use Rattle.session_calls.specs.Told.{signs_in}
use Rattle.session_calls.specs.Moving.{keeps_seats}
use Rattle.session_calls.specs.Ready.{IsReady}
use Rattle.session_calls.specs.Acting.{Acts, Goes, held_by, signs_by}
use Rattle.session_calls.specs.Coming.{evicts_for, IsFreshPage}
use Rattle.session_calls.proofs.Knowing.{Knows, knows}
use Rattle.session_calls.proofs.Steps.{keep_opens, acts_keep, ready_by}
use Rattle.session_calls.proofs.OwnNames.{own_names}

-- evictions are entries of their maker
evicts_by : (m : ℕ) (names : List ℕ) → by m (map Evict names) ≡ evictions m names
evicts_by m [] = refl
evicts_by m (p ∷ names) = ap (λ (es : List Entry). record { maker = m; event = Evict p } ∷ es) (evicts_by m names)

are_evicts : (names : List ℕ) → AllByRecursion IsEvict (map Evict names)
are_evicts [] = tt
are_evicts (p ∷ names) = (tt, are_evicts names)

-- what holds of each eviction and of the end holds of all
all_evicts : (P : Event → Type 0) → ((p : ℕ) → P (Evict p)) → (names : List ℕ) (rest : List Event) → AllByRecursion P rest → AllByRecursion P (map Evict names ++ rest)
all_evicts P one [] rest last = last
all_evicts P one (p ∷ names) rest last = (one p, all_evicts P one names rest last)

-- they leave what is held
evicts_hold : (h : Holdings) (names : List ℕ) (rest : List Event) → after_events h (map Evict names ++ rest) ≡ after_events h rest
evicts_hold h [] rest = refl
evicts_hold h (p ∷ names) rest = evicts_hold h names rest

module _ {D : Type 0} (slot : Ghosts D) (hand new : Hand D) (blocks : ℕ) (e : Event) where
  abbrev names : List ℕ
  names = names_gone blocks hand.state

  abbrev events : List Event
  events = evicts_for blocks hand ++ e ∷ []

  -- a call of the pool that evicts clean pages first
  pub goes_evicting : (entered : Event) (mid : List Entry) (told : List ℕ) → told ≡ names → mid ≡ hand.trail ++ evictions hand.session told → new.trail ≡ mid ++ by hand.session (entered ∷ []) → entered ≡ e → new.session ≡ hand.session → new.counts ≡ hand.counts
      → Enters slot (evictions hand.session names ++ record { maker = hand.session; event = e } ∷ []) [] [] hand.state new.state → Goes slot events hand new
  goes_evicting entered mid told is first trail same session counts enters =
      let m : ℕ = hand.session in
      let evicts : List Event = evicts_for blocks hand in
      let named : evictions m told ≡ by m evicts = ap (evictions m) is ∙ sym (evicts_by m names) in
      let both : by m events ≡ by m evicts ++ by m (e ∷ []) = by_append m evicts (e ∷ []) in
      record {
        trail =
            trail ∙ ap (λ (x : Event). mid ++ by m (x ∷ [])) same ∙ ap (λ (h : List Entry). h ++ by m (e ∷ [])) first ∙ ap (λ (es : List Entry). (hand.trail ++ es) ++ by m (e ∷ [])) named
            ∙ append_assoc hand.trail (by m evicts) (by m (e ∷ [])) ∙ ap (λ (es : List Entry). hand.trail ++ es) (sym both);
        session = session;
        counts = counts;
        enters = subst (λ (es : List Entry). Enters slot es [] [] hand.state new.state) (ap (λ (es : List Entry). es ++ by m (e ∷ [])) (sym (evicts_by m names)) ∙ sym both) enters;
      }

  module _ (went : Goes slot events hand new) (keeps : keeps_seats e ≡ true) where
    all_keep : AllByRecursion (λ x. keeps_seats x ≡ true) events
    all_keep = all_evicts (λ x. keeps_seats x ≡ true) (λ p. refl) names (e ∷ []) (keeps, tt)

    pub acts_evicting : Acts (Evicts (e ∷ [])) hand new
    acts_evicting = acts_keep slot hand new events went (evicts_for blocks hand, All-from_recursion IsEvict (evicts_for blocks hand) (are_evicts names), refl) all_keep

    -- and it is ready again, if no job begins or ends with the last
    pub ready_evicting : (o : Opening) (u : Outset) → IsReady slot o u hand → rests e ≡ true → is_some (after_events (held_by o u hand) (e ∷ [])).free_slots ≡ true → (after_events (held_by o u hand) (e ∷ [])).live_clients ≤ 16 → IsReady slot o u new
    ready_evicting o u was rest live few =
        ready_by slot hand new events went o u was (all_evicts (λ x. rests x ≡ true) (λ p. refl) names (e ∷ []) (rest, tt)) (keep_opens events all_keep)
        (after_events (held_by o u hand) (e ∷ [])) (evicts_hold (held_by o u hand) names (e ∷ [])) live few

  -- as many clean pages went as were needed
  pub needed_evicting : Goes slot events hand new → (o : Opening) (u : Outset) → IsReady slot o u hand → (t : ℕ) → ((s : State) → IsNeeded t (length_of blocks (held_by o u hand)) s e)
      → MakesRoom (state_of hand.state) (bytes_of (state_of hand.state).block_len blocks) names → EntersNeeded t (length_of blocks (held_by o u hand)) hand new
  needed_evicting went o u was t always room =
      let s : State = state_of hand.state in
      let m : ℕ = hand.session in
      let amount : ℕ = length_of blocks (held_by o u hand) in
      let fewest : (k : ℕ) → k < length names → free_bytes s + length_in s (blocks_in s (take k names)) < amount =
      subst (λ (n : ℕ). (k : ℕ) → k < length names → free_bytes s + length_in s (blocks_in s (take k names)) < n) (sym (len_here (knows slot o u hand was) blocks)) room.needed in
      needs_goes t amount slot hand new events went
      (needed_then t amount m (evicts_for blocks hand) (e ∷ []) s (needed_evicts t amount m names s fewest) ((λ own. always (run s (by m (evicts_for blocks hand)))), tt))

module _ {D : Type 0} (slot : Ghosts D) (o : Opening) (u : Outset) (hand : Hand D) (is : IsReady slot o u hand) where
  abbrev s : State
  s = state_of hand.state

  abbrev held : Holdings
  held = held_by o u hand

  its : Knows o u hand
  its = knows slot o u hand is

  new_names : AreNew o hand.trail
  new_names = legal_names_are_new o hand.trail is.whole.stands.legal

  next_is : s.next_name ≡ o.first_name + length (names_in hand.trail)
  next_is = ap (λ (z : State). z.next_name) is.whole.stands.state ∙ new_names.next

  -- the greatest name is never given
  names_spent : s.next_name ≡ 18446744073709551615 → (signs_by o hand).spent ≡ true
  unfolding signs_in
  names_spent last = let next = next_is in le-leb 18446744073709551615 (o.first_name + length (names_in hand.trail)) (omega (arith, last, next))

  module _ (t blocks : ℕ) where
    fresh_page : (made : PageToken × Buffer) → made.0 ≡ record { name = s.next_name; key = made.0.key; client = t } → made.1 ≡ zeros blocks s.block_len → made.0.name < 18446744073709551615
        → IsFreshPage t blocks made held (signs_by o hand)
    unfolding signs_in
    fresh_page made page buf left =
        let named : made.0.name ≡ s.next_name = ap (λ (p : PageToken). p.name) page in
        let next = next_is in
        record {
          fresh = ap held.pages named ∙ fresh_name its;
          client = ap (λ (p : PageToken). p.client) page;
          buffer = zeroed its blocks made.1 buf;
          unspent = λ spent.
              let all : 18446744073709551615 ≤ o.first_name + length (names_in hand.trail) = leb-true 18446744073709551615 (o.first_name + length (names_in hand.trail)) spent in
              omega (arith, all, next, named, left);
          above = own_names (λ q. q < made.0.name) hand.session hand.trail
              (subst (λ (n : ℕ). AllByRecursion (λ q. q < n) (names_in hand.trail)) (ap (λ (z : State). z.next_name) (sym is.whole.stands.state) ∙ sym named) new_names.below);
        }

    -- the page that came, or the refusal for want of a name
    module _ (new : Hand D) where
      abbrev Came : PageToken × Buffer → Type 0
      Came made = Goes slot (evicts_for blocks hand ++ Create made.0.name t blocks made.0.key ∷ []) hand new

      abbrev Spent : PoolErr → Type 0
      Spent e = (e ≡ NamesSpent) × (new ≡ hand) × (s.next_name ≡ 18446744073709551615)

      pub ready_created : (r : Result (PageToken × Buffer) PoolErr) → IfOk r Came → IfErr r Spent → IsReady slot o u new
      ready_created (Ok made) came spent = ready_evicting slot hand new blocks (Create made.0.name t blocks made.0.key) came refl o u is refl is.rests.live is.rests.few
      ready_created (Err e) came spent = subst (IsReady slot o u) (sym spent.1) is

      pub acts_created : (r : Result (PageToken × Buffer) PoolErr) → IfOk r Came → IfOk r (λ made. Acts (Evicts (Create made.0.name t blocks made.0.key ∷ [])) hand new)
      acts_created (Ok made) came = acts_evicting slot hand new blocks (Create made.0.name t blocks made.0.key) came refl
      acts_created (Err e) came = tt

      pub needed_created : (r : Result (PageToken × Buffer) PoolErr) → IfOk r Came → IfErr r Spent → OnOk r (MakesRoom s (bytes_of s.block_len blocks) (names_gone blocks hand.state))
          → EntersNeeded t (length_of blocks held) hand new
      needed_created (Ok made) came spent room = needed_evicting slot hand new blocks (Create made.0.name t blocks made.0.key) came o u is t (λ z. tt) room
      needed_created (Err e) came spent room = needs_none t (length_of blocks held) hand new spent.1

      pub fresh_created : (r : Result (PageToken × Buffer) PoolErr) → IfOk r (λ made. made.0 ≡ record { name = s.next_name; key = made.0.key; client = t })
          → IfOk r (λ made. made.1 ≡ zeros blocks s.block_len) → IfOk r (λ made. made.0.name < 18446744073709551615) → IfOk r (λ made. IsFreshPage t blocks made held (signs_by o hand))
      fresh_created (Ok made) page buf left = fresh_page made page buf left
      fresh_created (Err e) page buf left = tt

      pub spent_created : (r : Result (PageToken × Buffer) PoolErr) → IfErr r Spent → OnErr r ((new ≡ hand) × ((signs_by o hand).spent ≡ true))
      spent_created (Ok made) spent = tt
      spent_created (Err e) spent = (spent.1, names_spent spent.2)
