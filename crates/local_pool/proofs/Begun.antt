-- One owner's pool begins.
use Rattle.std.proofs.Common.{◌≡◌, ◌≢◌, ℕ, ◌+◌, ◌-◌, ◌<◌, ◌≤◌, ◌==◌, leb, true, false, if◌then◌else◌, List, [], ◌∷◌, ◌++◌, length, Option, Some, None, is_some, Result, Ok, Err, IfOk, IfSome, inl, inr, refl, sym, ap, ◌∙◌, subst, arith}
use Rattle.std.proofs.lemmas.Bool.{false≢true, leb-true, leb-false, eqb-true}
use Rattle.std.proofs.lemmas.List.{append-nil}
use Rattle.std.specs.FinMap.{get, empty, get-empty}
use Rattle.std.specs.Ordering.{nat_cmp}
use Rattle.outside.specs.declared.slot.Slot.{Ghosts}
use Rattle.reservation_tree.specs.declared.errors.PoolErr.{PoolErr}
use Rattle.reservation_tree.specs.Tracker.{limit_of, reservation_of, room_of}
use Rattle.reservation_tree.specs.Change.{new_root, root_alone, or_else}
use Rattle.reservation_tree.specs.Answer.{IsFrom}
use Rattle.reservation_tree.proofs.Outline.{limit_is, reservation_is}
use Rattle.reservation_tree.proofs.Maps.{same_or_other, get_same}
use Rattle.pin_core.specs.calls.Sessions.{IsFull}
use Rattle.pin_core.specs.calls.Opening.{root_growth, least_refusal, LacksLeast as LacksLeastHere, opening_entries, reopening_entries}
use Rattle.pool_model.specs.declared.event.Event.TheVariants.{AddTracker, Increase, CloseTracker}
use Rattle.pool_model.specs.declared.entry.Entry.{Entry}
use Rattle.pool_model.specs.Bytes.{bytes_of}
use Rattle.pool_model.specs.State.{Opening, State, opened}
use Rattle.pool_model.specs.Sums.{memory}
use Rattle.pool_model.specs.Legal.{state_after, IsLegal}
use Rattle.pool_model.specs.LookingBack.{made_by}
use Rattle.pool_model.proofs.OwnEntries.{made_first, made_more}
use Rattle.store_api.specs.Holdings.{Room, Holdings}
use Rattle.store_api.specs.Entries.{by}
use Rattle.own_entries.specs.OwnHoldings.{Outset, holdings_of}
use Rattle.own_entries.specs.AboveLaws.{AllBy}
use Rattle.own_entries.specs.Busy.{busy_from}
use Rattle.own_entries.proofs.Lives.{legal_lives_as_told}
use Rattle.own_entries.proofs.Alone.{legal_alone_sits}
use Rattle.pin_core.specs.declared.conf.PoolConf.{PoolConf}
use Rattle.pin_core.specs.declared.parts.Parts.{Parts}
use Rattle.pin_core.specs.StateOf.{state_of}
use Rattle.pin_core.specs.calls.Setup.{IsOpeningOf}
use Rattle.pin_core.specs.Standing.{StandsFor, slots_home}
use Rattle.std.specs.List.{sum_by}
use Rattle.session_calls.specs.declared.hand.Hand.{Hand}
use Rattle.pin_core.specs.declared.tally.Tally.{Tally}
use Rattle.local_pool.specs.Told.{opening_of, outset_of, held_of}
use Rattle.local_pool.specs.declared.sole.Shelf.{Shelf}
use Rattle.local_pool.specs.Counting.{AtOpening, BeginsNames, CountsFrom, HasBlocks, at_opening}
use Rattle.pin_core.specs.Tallies.{Counted, all_failures, all_stale, silence, tally_in, written_blocks}
use Rattle.session_calls.specs.declared.count.Count.TheVariants as count
use Rattle.session_calls.specs.Outgoing.{CountsWhole, opening_tally, pages_counted, pages_out, tally_whole}
use Rattle.session_calls.proofs.Alone.{none_moves}
use Rattle.local_pool.specs.Standing.{Stands}
use Rattle.local_pool.specs.Shelving.{FitsShelf, sees}
use Rattle.session_calls.specs.Told.{held_in}
use Rattle.session_calls.specs.Moving.{quota_at, slots_out}
use Rattle.session_calls.specs.Ready.{IsReady}
use Rattle.session_calls.specs.Having.{Worked}
use Rattle.local_pool.specs.Beginning.{memory_of, first_events, IsBegun, Begins, LacksLeast, IsLeastRefusal}
use Rattle.session_calls.proofs.Sized.{run_len, run_memory}
use Rattle.local_pool.proofs.Summing.{all_home}
use Rattle.local_pool.proofs.Keeping.{named}
use Rattle.pin_core.proofs.Tallied.{uncounted_yet, counted_as}

abbrev pub opening_with : PoolConf → ℕ → Opening
opening_with conf count = record { blocks = conf.blocks; block_len = conf.block_len; marked = (conf.profile == 2); first_name = conf.first_name; slots = count; faults = 0; stores = 0 }

pub is_opening : (conf : PoolConf) (count : ℕ) → IsOpeningOf conf count (opening_with conf count)
is_opening conf count = record { blocks = refl; block_len = refl; marked = refl; first_name = refl; slots = refl }

pub none_when : {X : Type 0} (o : Option X) → is_some o ≡ false → o ≡ None
none_when None is = refl
none_when (Some x) is = let never : true ≡ false = is in absurd (false≢true (sym never))

first_made : (m q limit quota least : ℕ) → made_by (by m (first_events q limit quota least)) m ≡ by m (first_events q limit quota least)
first_made m q limit quota least =
    let a : Entry = record { maker = m; event = AddTracker q 0 limit (Some quota) } in
    let b : Entry = record { maker = m; event = Increase q least } in
    made_more (a ∷ []) b m refl refl ∙ ap (λ (es : List Entry). es ++ b ∷ []) (made_first [] a m refl refl)

abbrev first_outset : Outset
first_outset = record { above = Room 0; told = true }

module _ {D : Type 0} (slot : Ghosts D) (own : Hand D) (q limit quota least : ℕ) (trail : own.trail ≡ by own.session (first_events q limit quota least)) where
  abbrev first_held : Holdings
  first_held = holdings_of (state_of own.state).block_len own.session (outset_of slot own.state) (by own.session (first_events q limit quota least))

  held_first : held_of slot own ≡ first_held
  unfolding held_of
  held_first = ap (holdings_of (state_of own.state).block_len own.session (outset_of slot own.state)) trail

  pub first_query : (held_of slot own).query ≡ q
  first_query = ap (λ (h : Holdings). h.query) held_first

  module _ (conf : PoolConf) (o : Opening) (is : IsOpeningOf conf o.slots o) (stood : StandsFor slot o own.trail own.state) where
    len_first : (state_of own.state).block_len ≡ conf.block_len
    len_first = ap (λ (s : State). s.block_len) stood.state ∙ run_len (opened o) own.trail ∙ is.block_len

    memory_first : memory (state_of own.state) ≡ memory_of conf
    memory_first = ap memory stood.state ∙ run_memory (opened o) own.trail ∙ ap (λ (len : ℕ). bytes_of len o.blocks) is.block_len ∙ ap (bytes_of conf.block_len) is.blocks

    pub begun : IsBegun conf limit quota least (held_of slot own)
    begun = record {
      block_len = ap (λ (h : Holdings). h.block_len) held_first ∙ len_first;
      most = ap (λ (h : Holdings). h.limit) held_first;
      reservation = let r : (held_of slot own).reservation ≡ 0 + least = ap (λ (h : Holdings). h.reservation) held_first in omega (arith, r);
      room = let r : (held_of slot own).room ≡ 0 + least = ap (λ (h : Holdings). h.room) held_first in omega (arith, r);
      above = ap (λ (h : Holdings). h.above) held_first ∙ ap (λ (n : ℕ). Room (n - least)) memory_first;
      live_clients = ap (λ (h : Holdings). h.live_clients) held_first;
      clients = λ t. ap (λ (h : Holdings). h.clients t) held_first;
      pages = λ p. ap (λ (h : Holdings). h.pages p) held_first;
      loans = λ f. ap (λ (h : Holdings). h.loans f) held_first;
      free_slots = ap (λ (h : Holdings). h.free_slots) held_first;
    }

    -- and the first page is named as the pool was asked to
    names_first : (first : Option AtOpening) → IfSome first (λ f. f ≡ at_opening (tally_in slot own.state) conf.first_name conf.blocks) → BeginsNames first o.first_name
    names_first None same = tt
    names_first (Some f) same = is.first_name ∙ sym (ap (λ (x : AtOpening). x.first_name) same)

    -- and it has as many blocks
    blocks_first : (first : Option AtOpening) → IfSome first (λ f. f ≡ at_opening (tally_in slot own.state) conf.first_name conf.blocks) → HasBlocks first o.blocks
    blocks_first None same = tt
    blocks_first (Some f) same = is.blocks ∙ sym (ap (λ (x : AtOpening). x.blocks) same)

    -- with what it opened, as its value and its trail tell
    abbrev first_opening : Opening
    first_opening = record o { slots = slots_home (λ d. 1) own.state + slots_out (state_of own.state).pages; faults = 0; stores = 0 }

    made_so : made_by own.trail own.session ≡ by own.session (first_events q limit quota least)
    made_so = ap (λ (h : List Entry). made_by h own.session) trail ∙ first_made own.session q limit quota least

    told_so : held_in first_opening (outset_of slot own.state) own.session own.trail ≡ holdings_of o.block_len own.session (outset_of slot own.state) (by own.session (first_events q limit quota least))
    unfolding held_in
    told_so = ap (holdings_of o.block_len own.session (outset_of slot own.state)) made_so

    module _ (number : own.session < 240) (counts : own.counts ≡ count.Opening (tally_in slot own.state) ∷ []) where
      -- the slots were counted first
      opening_first : opening_tally own.counts ≡ tally_in slot own.state
      opening_first = ap opening_tally counts

      sums_first : (first : Option AtOpening) → IfSome first (λ f. f ≡ at_opening (tally_in slot own.state) conf.first_name conf.blocks) → CountsFrom first own.counts
      sums_first None same = tt
      sums_first (Some f) same = opening_first ∙ sym (ap (λ (x : AtOpening). x.tally) same)

      -- no page is there yet, so the slots are home, and count as they did
      whole_first : tally_whole slot own.counts own.state ≡ tally_in slot own.state
      whole_first =
          all_home slot own.counts own.state (λ p x is_there.
          none_moves own.session o own.trail stood.legal (subst (AllBy own.session) (sym trail) (refl, (refl, tt))) number (λ q. ap (busy_from q false) made_so) p x (ap (λ (s : State). get s.pages p) (sym stood.state) ∙ is_there))

      counts_first : CountsWhole slot own.trail own.counts own.state
      counts_first = record {
        pages = ap pages_counted counts ∙ sym (ap pages_out trail);
        counted =
            counted_as 0 (all_failures own.trail) 0 (written_blocks own.trail) 0 (all_stale own.trail) (opening_tally own.counts) (tally_whole slot own.counts own.state) (sym (ap all_failures trail)) (sym (ap written_blocks trail)) (sym (ap all_stale trail))
            (subst (Counted 0 0 0 (opening_tally own.counts)) (opening_first ∙ sym whole_first) (uncounted_yet (opening_tally own.counts)));
      }

      -- the owner's session is between two calls
      ready_first : IsReady slot first_opening (outset_of slot own.state) own
      ready_first = record {
        whole = record {
          stands = record { legal = stood.legal; state = stood.state; holds = stood.holds };
          home = refl;
          tell = eqb-true (slots_home (silence slot) own.state) 0;
          sums = counts_first;
        };
        rests = record {
          number = number;
          live = ap (λ (h : Holdings). is_some h.free_slots) told_so;
          few = let none : (held_in first_opening (outset_of slot own.state) own.session own.trail).live_clients ≡ 0 = ap (λ (h : Holdings). h.live_clients) told_so in omega (arith, none);
          still = λ p. ap (busy_from p false) made_so;
        };
      }

      named_first : first_opening ≡ opening_of slot own
      named_first = named slot first_opening (outset_of slot own.state) own ready_first refl refl

      pub stands_first : (first : Option AtOpening) → IfSome first (λ f. f ≡ at_opening (tally_in slot own.state) conf.first_name conf.blocks) → Stands slot first own
      stands_first first same = record {
        ready = subst (λ (k : Opening). IsReady slot k (outset_of slot own.state) own) named_first ready_first;
        alone = subst (AllBy own.session) (sym trail) (refl, (refl, tt));
        whole = made_so ∙ sym trail;
        counted = let one : length own.counts ≡ 1 = ap length counts in omega (arith, one);
        sums = sums_first first same;
        names = subst (λ (k : Opening). BeginsNames first k.first_name) named_first (names_first first same);
        blocks = subst (λ (k : Opening). HasBlocks first k.blocks) named_first (blocks_first first same);
      }

      -- and it has seen all of its history
      pub fits_first : (shelf : Shelf D) → shelf.seen ≡ own.trail → shelf.counted ≡ own.counts → FitsShelf slot shelf own
      fits_first shelf seen counted = record {
        alone = subst (AllBy own.session) (sym (seen ∙ trail)) (refl, (refl, tt));
        worked = subst (λ (k : Opening). Worked k (sees shelf) own) named_first (record {
          events = [];
          trail = sym (append-nil shelf.seen ∙ seen);
          went = [];
          counts = sym (append-nil shelf.counted ∙ counted);
          opens = tt;
          quotas = λ k. ap (λ (s : State). quota_at s k) stood.state ∙ ap (λ (h : List Entry). quota_at (state_after o h) k) (sym seen);
        });
      }

-- a session that came sits
pub sits_first : {D : Type 0} (slot : Ghosts D) (o : Opening) (m q limit quota least : ℕ) (v : Parts D) → StandsFor slot o (opening_entries m q limit quota least) v → is_some (get (state_of v).sessions m) ≡ true
sits_first slot o m q limit quota least v stood =
    ap (λ (s : State). is_some (get s.sessions m)) stood.state
    ∙ legal_lives_as_told o first_outset (opening_entries m q limit quota least) stood.legal m
    ∙ ap (λ (es : List Entry). is_some (holdings_of o.block_len m first_outset es).free_slots) (first_made m q limit quota least)

-- a session that came and went leaves none
module _ (o : Opening) (m q limit quota : ℕ) (legal : IsLegal o (reopening_entries m q limit quota)) where
  gone_made : made_by (reopening_entries m q limit quota) m ≡ reopening_entries m q limit quota
  gone_made =
      let a : Entry = record { maker = m; event = AddTracker q 0 limit (Some quota) } in
      let b : Entry = record { maker = m; event = CloseTracker q } in
      made_more (a ∷ []) b m refl refl ∙ ap (λ (es : List Entry). es ++ b ∷ []) (made_first [] a m refl refl)

  pub none_left : (n : ℕ) → get (state_after o (reopening_entries m q limit quota)).sessions n ≡ None
  none_left n = none_when _ (elim (same_or_other n m) [
    | inl here ↦
        ap (λ (k : ℕ). is_some (get (state_after o (reopening_entries m q limit quota)).sessions k)) here
        ∙ legal_lives_as_told o first_outset (reopening_entries m q limit quota) legal m
        ∙ ap (λ (es : List Entry). is_some (holdings_of o.block_len m first_outset es).free_slots) gone_made
    | inr other ↦ legal_alone_sits o (reopening_entries m q limit quota) legal m (refl, (refl, tt)) n other
  ])

module _ (conf : PoolConf) (count : ℕ) (s : State) (fresh : s ≡ opened (opening_with conf count)) where
  root_limit : limit_of s.trackers 0 ≡ memory_of conf
  root_limit = ap (λ (t : State). limit_of t.trackers 0) fresh ∙ limit_is (root_alone (memory_of conf)) 0 (new_root (memory_of conf)) (get_same empty 0 (new_root (memory_of conf)))

  root_bare : reservation_of s.trackers 0 ≡ 0
  root_bare = ap (λ (t : State). reservation_of t.trackers 0) fresh ∙ reservation_is (root_alone (memory_of conf)) 0 (new_root (memory_of conf)) (get_same empty 0 (new_root (memory_of conf)))

  room_is : room_of s.trackers 0 ≡ memory_of conf
  room_is = let a = root_limit in let b = root_bare in omega (arith, a, b)

  growth_is : (least : ℕ) → root_growth s least ≡ least
  growth_is least = let b = root_bare in omega (arith, b)

  pub not_full : IsFull s → ⊥
  not_full full =
      let some : is_some (get s.sessions 0) ≡ true = full 0 (omega arith) in
      let none : is_some (get s.sessions 0) ≡ false = ap (λ (t : State). is_some (get t.sessions 0)) fresh ∙ ap is_some (get-empty nat_cmp 0) in
      false≢true (sym none ∙ some)

  pub lacks : (limit least : ℕ) → LacksLeast conf limit least → LacksLeastHere s limit least
  lacks limit least (inl few) = inl few
  lacks limit least (inr few) = inr (let a = room_is in let b = growth_is least in omega (arith, a, b, few))

  refusal_of : (t limit least n r : ℕ) (e : PoolErr) → t ≢ 0 → n ≡ least → r ≡ memory_of conf
      → IsFrom (or_else (if leb least limit then None else Some (record { tracker = t; wanted = least; room = limit })) (if leb n r then None else Some (record { tracker = 0; wanted = n; room = r }))) e
      → IsLeastRefusal conf limit least e
  refusal_of t limit least n r e apart wanted room from = elim (leb least limit) as (λ b. leb least limit ≡ b → IsFrom (or_else (if b then None else Some (record { tracker = t; wanted = least; room = limit })) (if leb n r then None else Some (record { tracker = 0; wanted = n; room = r }))) e → IsLeastRefusal conf limit least e) [
    | true ↦ λ fits is. elim (leb n r) as (λ b. leb n r ≡ b → IsFrom (if b then None else Some (record { tracker = 0; wanted = n; room = r })) e → IsLeastRefusal conf limit least e) [
      | true ↦ λ also is_none. absurd is_none
      | false ↦ λ over_it is_it.
          let below : r < n = leb-false n r over_it in
          let within : least ≤ limit = leb-true least limit fits in
          subst (IsLeastRefusal conf limit least) (sym is_it) (wanted, inr (within, omega (arith, below, wanted, room), refl, room))
    ] refl is
    | false ↦ λ over_it is.
        let below : limit < least = leb-false least limit over_it in
        subst (IsLeastRefusal conf limit least) (sym is) (refl, inl (below, apart, refl))
  ] refl from

  pub cause_of : (t limit least : ℕ) (e : PoolErr) → t ≢ 0 → IsFrom (least_refusal s t limit least) e → IsLeastRefusal conf limit least e
  cause_of t limit least e apart from = refusal_of t limit least (root_growth s least) (room_of s.trackers 0) e apart (growth_is least) room_is from

-- a tracker that comes to a pool that has just opened isn't the root
pub never_root : (o : Opening) (t : ℕ) → get (opened o).trackers t ≡ None → t ≢ 0
never_root o t fresh same =
    let none : get (opened o).trackers 0 ≡ None = subst (λ (k : ℕ). get (opened o).trackers k ≡ None) same fresh in
    false≢true (sym (ap is_some none) ∙ ap is_some (get_same empty 0 (new_root (bytes_of o.block_len o.blocks))))

-- a pool that began over a pool's value with these slots began with them
pub begins : {D E : Type 0} (slot : Ghosts D) (conf : PoolConf) (slots : List D) (limit quota least : ℕ) (pool : Parts D) → ((measure : D → ℕ) → slots_home measure pool ≡ sum_by measure slots)
    → (r : Result (Hand D) E) → IfOk r (λ own. IsBegun conf limit quota least (held_of slot own)) → IfOk r (λ own. own.trail ≡ by own.session (first_events (held_of slot own).query limit quota least))
    → IfOk r (λ own. (measure : D → ℕ) → slots_home measure own.state ≡ slots_home measure pool)
    → IfOk r (Begins slot conf slots limit quota least)
begins slot conf slots limit quota least pool count (Ok own) held trail home = record {
  held = held;
  trail = trail;
  home = λ measure. home measure ∙ count measure;
}
begins slot conf slots limit quota least pool count (Err e) held trail home = tt

-- slots that are counted alike
pub counted_alike : (first : Option AtOpening) (a b : Tally) (name blocks : ℕ) → a ≡ b → IfSome first (λ f. f ≡ at_opening a name blocks) → IfSome first (λ f. f ≡ at_opening b name blocks)
counted_alike None a b name blocks same is = tt
counted_alike (Some f) a b name blocks same is = is ∙ ap (λ (t : Tally). at_opening t name blocks) same
