-- What one owner's pool keeps over what its session does, where nobody else makes entries.
use Rattle.std.proofs.Common.{◌≡◌, ℕ, ◌+◌, ◌-◌, ◌<◌, ◌==◌, List, ◌++◌, length, length-append, filter, leb, true, Option, Some, None, refl, sym, ap, ◌∙◌, subst, arith}
use Rattle.outside.specs.declared.slot.Slot.{Ghosts}
use Rattle.reservation_tree.specs.declared.errors.PoolErr.{PoolErr}
use Rattle.pool_model.specs.declared.call.Call.{Call}
use Rattle.pool_model.specs.declared.event.Event.{Event}
use Rattle.pool_model.specs.declared.entry.Entry.{Entry}
use Rattle.pool_model.specs.Bytes.{bytes_of}
use Rattle.pool_model.specs.State.{Opening, State, opened}
use Rattle.pool_model.specs.Legal.{run, state_after}
use Rattle.pool_model.specs.LookingBack.{made_by, names_in}
use Rattle.pool_model.specs.Failures.{is_own, is_for_own, failures_in}
use Rattle.pool_model.proofs.Fronts.{state_runs_on}
use Rattle.pool_model.proofs.Names.{legal_names_are_new}
use Rattle.store_api.specs.Holdings.{Holdings, Room}
use Rattle.store_api.specs.Signs.{Grows, Signs, is_stale_load, refuses_unpin}
use Rattle.store_api.specs.Refusals.{WasRefused}
use Rattle.store_api.specs.Entries.{by}
use Rattle.own_entries.specs.OwnHoldings.{Outset, holdings_of}
use Rattle.own_entries.specs.AboveLaws.{AllBy}
use Rattle.pin_core.specs.StateOf.{state_of}
use Rattle.pin_core.specs.Standing.{slots_home}
use Rattle.pin_core.specs.Tallies.{silence}
use Rattle.pin_core.specs.declared.tally.Tally.{Tally}
use Rattle.session_calls.specs.Outgoing.{opening_tally}
use Rattle.session_calls.specs.declared.hand.Hand.{Hand}
use Rattle.session_calls.specs.Told.{held_in, signs_in}
use Rattle.session_calls.specs.Ready.{IsReady}
use Rattle.session_calls.specs.Acting.{held_by, signs_by}
use Rattle.session_calls.specs.Having.{Worked}
use Rattle.session_calls.specs.Jobs.{DoesIn}
use Rattle.session_calls.specs.Turning.{Refuses as IsRefused}
use Rattle.session_calls.proofs.Sized.{run_blocks, run_len, run_marked}
use Rattle.session_calls.proofs.Lists.{alone_more}
use Rattle.session_calls.proofs.Doing.{does_all, does_grows}
use Rattle.local_pool.specs.declared.sole.Shelf.{Shelf}
use Rattle.local_pool.specs.Told.{all_tell, outset_of, opening_of, held_of, is_spent, signs_of}
use Rattle.local_pool.specs.Counting.{AtOpening, BeginsNames, CountsFrom, HasBlocks}
use Rattle.local_pool.specs.Making.{Makes}
use Rattle.local_pool.specs.Refusing.{Refuses}
use Rattle.local_pool.specs.Standing.{Stands}
use Rattle.local_pool.specs.Shelving.{FitsShelf, sees}
use Rattle.local_pool.proofs.Summing.{counted_home, opening_stays}

-- the next name, by the names that the history gave
pub next_is : {D : Type 0} (slot : Ghosts D) (o : Opening) (u : Outset) (own : Hand D) → IsReady slot o u own → (state_of own.state).next_name ≡ o.first_name + length (names_in own.trail)
next_is slot o u own ready = ap (λ (s : State). s.next_name) ready.whole.stands.state ∙ (legal_names_are_new o own.trail ready.whole.stands.legal).next

-- a session between two calls tells with what its pool opened
pub named : {D : Type 0} (slot : Ghosts D) (o : Opening) (u : Outset) (own : Hand D) → IsReady slot o u own → o.faults ≡ 0 → o.stores ≡ 0 → o ≡ opening_of slot own
named slot o u own ready faults stores =
    let blocks : o.blocks ≡ (state_of own.state).blocks = sym (ap (λ (s : State). s.blocks) ready.whole.stands.state ∙ run_blocks (opened o) own.trail) in
    let len : o.block_len ≡ (state_of own.state).block_len = sym (ap (λ (s : State). s.block_len) ready.whole.stands.state ∙ run_len (opened o) own.trail) in
    let form : o.marked ≡ (state_of own.state).marked = sym (ap (λ (s : State). s.marked) ready.whole.stands.state ∙ run_marked (opened o) own.trail) in
    let first : o.first_name ≡ (state_of own.state).next_name - length (names_in own.trail) = let next = next_is slot o u own ready in omega (arith, next) in
    λ i. record { blocks = blocks i; block_len = len i; marked = form i; first_name = first i; slots = sym ready.whole.home i; faults = faults i; stores = stores i }

module _ {D : Type 0} (slot : Ghosts D) {first : Option AtOpening} (own : Hand D) (is : Stands slot first own) where
  -- what the session holds is what the owner does
  pub held_is : held_by (opening_of slot own) (outset_of slot own.state) own ≡ held_of slot own
  unfolding held_in held_of
  held_is = ap (holdings_of (state_of own.state).block_len own.session (outset_of slot own.state)) is.whole

  -- and so with what shows of it
  pub signs_is : signs_by (opening_of slot own) own ≡ signs_of own
  unfolding signs_in signs_of
  signs_is =
      let next : (opening_of slot own).first_name + length (names_in own.trail) ≡ (state_of own.state).next_name = sym (next_is slot (opening_of slot own) (outset_of slot own.state) own is.ready) in
      λ i. record {
        failures = failures_in (is_own own.session) own.trail;
        failures_of = λ t. failures_in (is_for_own own.session t) own.trail;
        refused_unpins = length (filter (λ e. refuses_unpin e.event) (is.whole i));
        stale = length (filter (λ e. is_stale_load e.event) (is.whole i));
        spent = leb 18446744073709551615 (next i);
        trail = Some (is.whole i);
      }

-- what is so of what two hold and show is so of the same
as_told : (P : Holdings → Holdings → Signs → Signs → Type 0) (h g k l : Holdings) (a b c d : Signs) → h ≡ k → g ≡ l → a ≡ c → b ≡ d → P h g a b → P k l c d
as_told P h g k l a b c d hk gl ac bd it =
    subst (P k l c) bd (subst (λ (x : Signs). P k l x b) ac (subst (λ (x : Holdings). P k x a b) gl (subst (λ (x : Holdings). P x g a b) hk it)))

-- the session has done something, and is between two calls again
module _ {D : Type 0} (slot : Ghosts D) {first : Option AtOpening} (own : Hand D) (is : Stands slot first own) (new : Hand D) (ready : IsReady slot (opening_of slot own) (outset_of slot own.state) new) where
  abbrev o : Opening
  o = opening_of slot own

  abbrev u : Outset
  u = outset_of slot own.state

  pub opening_same : opening_of slot new ≡ o
  opening_same = sym (named slot o u new ready refl refl)

  -- where it made all of what was seen on the shelf, and worked on since
  pub fits_on : (shelf : Shelf D) → AllBy new.session shelf.seen → Worked o (sees shelf) new → FitsShelf slot shelf new
  fits_on shelf alone worked = record { alone = alone; worked = subst (λ (k : Opening). Worked k (sees shelf) new) (sym opening_same) worked }

  module _ {P : List Event → Type 0} (did : DoesIn P own new) (all : AllBy own.session did.does.more) where
    grew : new.trail ≡ own.trail ++ by own.session did.does.events
    grew = does_all own.session own.trail new.trail did.does all

    alone_now : AllBy new.session new.trail
    alone_now = subst (λ (m : ℕ). AllBy m new.trail) (sym did.session) (subst (AllBy own.session) (sym grew) (alone_more own.session own.trail did.does.events is.alone))

    -- what was counted first stays, so as many slots tell
    first_same : opening_tally new.counts ≡ opening_tally own.counts
    first_same = ap opening_tally did.counts ∙ opening_stays own.counts did.went is.counted

    counted_now : 0 < length new.counts
    counted_now =
        let more : length new.counts ≡ length own.counts + length did.went = ap length did.counts ∙ length-append own.counts did.went in
        let some : 0 < length own.counts = is.counted in
        omega (arith, more, some)

    silent_same : slots_home (silence slot) new.state ≡ slots_home (silence slot) own.state
    silent_same = (counted_home slot o u new ready alone_now).silent ∙ ap (λ (t : Tally). t.silent) first_same ∙ sym (counted_home slot o u own is.ready is.alone).silent

    told_same : all_tell slot new.state ≡ all_tell slot own.state
    told_same = ap (λ (n : ℕ). n == 0) silent_same

    outset_same : outset_of slot new.state ≡ u
    outset_same = λ i. record { above = Room (bytes_of (opening_same i).block_len (opening_same i).blocks); told = told_same i }

    ready_now : IsReady slot (opening_of slot new) (outset_of slot new.state) new
    ready_now = subst (λ (w : Outset). IsReady slot (opening_of slot new) w new) (sym outset_same) (subst (λ (k : Opening). IsReady slot k u new) (sym opening_same) ready)

    sums_on : (f : Option AtOpening) → CountsFrom f own.counts → CountsFrom f new.counts
    sums_on None sums = tt
    sums_on (Some f) sums = first_same ∙ sums

    pub stands_on : Stands slot first new
    stands_on = record {
      ready = ready_now;
      alone = alone_now;
      whole = ap (made_by new.trail) did.session ∙ did.does.own ∙ ap (λ (h : List Entry). h ++ by own.session did.does.events) is.whole ∙ sym grew;
      counted = counted_now;
      sums = sums_on first is.sums;
      names = subst (λ (k : Opening). BeginsNames first k.first_name) (sym opening_same) is.names;
      blocks = subst (λ (k : Opening). HasBlocks first k.blocks) (sym opening_same) is.blocks;
    }

    state_grew : state_of new.state ≡ run (state_of own.state) (by own.session did.does.events)
    state_grew =
        ready.whole.stands.state ∙ ap (state_after o) grew ∙ state_runs_on o own.trail (by own.session did.does.events)
        ∙ ap (λ (s : State). run s (by own.session did.does.events)) (sym is.ready.whole.stands.state)

    spent_stays : is_spent (state_of own.state) ≡ true → is_spent (state_of new.state) ≡ true
    unfolding signs_in
    spent_stays was =
        ap (leb 18446744073709551615) (next_is slot o u new ready)
        ∙ (does_grows o u own.session own.trail new.trail did.does).spent (ap (leb 18446744073709551615) (sym (next_is slot o u own is.ready)) ∙ was)

    pub makes_on : Makes slot P own new
    makes_on = record {
      events = did.does.events;
      is = did.does.is;
      trail = grew;
      session = did.session;
      state = state_grew;
      block_len = ap (λ (k : Opening). k.block_len) opening_same;
      first = first_same;
      outset = outset_same;
      spent = spent_stays;
    }

    held_now : held_by o u new ≡ held_of slot new
    held_now =
        ap (λ (k : Opening). held_by k u new) (sym opening_same) ∙ ap (λ (w : Outset). held_by (opening_of slot new) w new) (sym outset_same) ∙ held_is slot new stands_on

    signs_now : signs_by o new ≡ signs_of new
    signs_now = ap (λ (k : Opening). signs_by k new) (sym opening_same) ∙ signs_is slot new stands_on

    -- it was refused as a session's call is
    pub refuses_on : (t : ℕ) (what : Call) (e : PoolErr) → IsRefused o u t what own new e → Refuses slot t what own new e
    refuses_on t what e refused = record {
      was = as_told (λ h g a b. WasRefused t what h g a b e) (held_by o u own) (held_by o u new) (held_of slot own) (held_of slot new) (signs_by o own) (signs_by o new) (signs_of own) (signs_of new)
          (held_is slot own is) held_now (signs_is slot own is) signs_now refused.was;
      grows = subst (Grows (signs_of own)) signs_now (subst (λ (s : Signs). Grows s (signs_by o new)) (signs_is slot own is) refused.grows);
    }
