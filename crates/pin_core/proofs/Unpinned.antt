-- What a call of unpin leaves.
use Rattle.std.proofs.Common.{◌≡◌, ◌↔◌, ℕ, ◌<◌, ◌≤◌, false, List, [], ◌∷◌, ◌++◌, length, None, Result, Ok, Err, OnOk, OnErr, IsErr, IfErr, refl, ap, sym, ◌∙◌, subst, arith, inl, inr}
use Rattle.std.proofs.lemmas.Bool.{false≢true, cases_lt}
use Rattle.std.proofs.lemmas.List.Sums.{get_or-le-sum_by}
use Rattle.outside.specs.declared.slot.Slot.{Ghosts}
use Rattle.block_arena.specs.Memory.{Buffer, IsBufferOf}
use Rattle.page_table.specs.declared.page_id.PageId.{PageId}
use Rattle.page_table.specs.declared.entry.Entry.{Entry}
use Rattle.page_table.specs.declared.entry.Place.{Place as Spot}
use Rattle.page_table.specs.declared.entry.Place.TheVariants as spot
use Rattle.client_lists.specs.declared.which.Which.TheVariants as which
use Rattle.scratch_dev.specs.Pool.{quota_of, free_of, free_in}
use Rattle.reservation_tree.proofs.Maps.{is_there}
use Rattle.pool_model.specs.declared.event.Event.TheVariants as event
use Rattle.pool_model.specs.declared.entry.Entry.{Entry as Event}
use Rattle.pool_model.specs.Bytes.{bytes_of}
use Rattle.reservation_tree.specs.Tree.{charge_of as charge_in}
use Rattle.pool_model.specs.State.{Opening, Page, Place, Pinned, pins_of, page_at}
use Rattle.pool_model.specs.Sums.{free_slots}
use Rattle.pool_model.specs.MayFollow.{MayFollow}
use Rattle.pool_model.specs.Effects.{after}
use Rattle.pool_model.specs.LookingBack.{left_in, content_of}
use Rattle.pool_model.specs.HistoryLaws.{made}
use Rattle.reservation_tree.specs.declared.errors.PoolErr.TheVariants as PoolErr
use Rattle.reservation_tree.specs.declared.errors.PoolErr.{PoolErr as Refusal}
use Rattle.store_api.specs.Tokens.{PageToken}
use Rattle.pin_core.specs.declared.kept.Kept.{Kept}
use Rattle.pin_core.specs.declared.kept.Kept.TheVariants as kept
use Rattle.pin_core.specs.declared.parts.Parts.{Parts}
use Rattle.pin_core.specs.parts.Keeping.{need_of, has_slots}
use Rattle.pin_core.specs.StateOf.{page_of, place_in, state_of}
use Rattle.pin_core.specs.Invariant.{HasHistory, IsKept, IsKeptOf, IsPlaced, list_at}
use Rattle.pin_core.specs.Lawful.{Lawful}
use Rattle.pin_core.specs.Standing.{Holds, StandsFor, Enters}
use Rattle.pin_core.specs.Marking.{form_of}
use Rattle.pin_core.specs.calls.Needs.{IsLastPin, id_in}
use Rattle.pin_core.proofs.Found.{Found, found_page}
use Rattle.pin_core.specs.parts.Changes.{entry_at, counted}
use Rattle.pin_core.specs.calls.Unpinning.{LacksSlots, CanUnpin, ReadyUnpin, unpinned, unpin_entry}
use Rattle.pin_core.proofs.Moved.{page_known}
use Rattle.pin_core.proofs.Histories.{GrewBy, grew, history_grows, content_grows}
use Rattle.pin_core.proofs.Amounts.{free_is}
use Rattle.pin_core.proofs.Places.{HasQuota, has_quota, page_owned}
use Rattle.pin_core.proofs.Stands.{was_made}
use Rattle.pin_core.proofs.Unpins.{covered, unpin_state, unpin_kept, unpin_stands, unpin_slots}

-- a place of the table whose model's is pinned so often
pinned_in : (at : Spot) → place_in at ≡ Pinned 1 → at ≡ spot.Pinned 1
pinned_in (spot.Pinned count) is = ap (λ (q : Place). spot.Pinned (pins_of q)) is
pinned_in spot.Dirty is = cc
pinned_in (spot.Flying writer) is = cc
pinned_in spot.Loading is = cc
pinned_in spot.Clean is = cc
pinned_in spot.Evicted is = cc

module _ {D : Type 0} where
  -- an entry that names a page and changes nothing
  module _ (v : Parts D) (is_kept : IsKept v) (e : Event) (is : state_of (counted v) ≡ after (state_of v) e) (may : (h : List Event) → MayFollow h (state_of v) e) where
    pub counted_kept : IsKept (counted v)
    counted_kept =
        let c = is_kept.counted in let s = is_kept.sized in let p = is_kept.placed in record {
          legal = subst HasHistory (sym is) (history_grows (state_of v) e is_kept.legal may);
          placed = λ key name page live there. let at = p key name page live there in record { on = at.on; opened = at.opened; size = at.size; clean = at.clean; blocks = at.blocks; mem = at.mem; kept = at.kept };
          stray = is_kept.stray;
          counted = record { charges = c.charges; free = c.free; quotas = c.quotas; room = c.room };
          seated = let z = is_kept.seated in record { clients = z.clients; opens = z.opens; few = z.few };
          lent = is_kept.lent;
          sized = record { len = s.len; some = s.some; short = s.short; clients = s.clients; sessions = s.sessions; nodes = s.nodes; cleans = s.cleans; memory = s.memory; book = s.book };
        }

    pub counted_stands : ((q : ℕ) (old : List ℕ) → left_in q e.event old ≡ old) → (slot : Ghosts D) (o : Opening) (h : List Event) → StandsFor slot o h v → StandsFor slot o (h ++ e ∷ []) (counted v)
    counted_stands leaves slot o h stands =
        let more : GrewBy o h (state_of v) e = grew o h (state_of v) e stands.legal stands.state (may h) in record {
          legal = more.legal;
          state = is ∙ more.state;
          holds = λ q page there. subst (λ (b : List ℕ). Holds slot (form_of v) q b page)
              (sym (content_grows o h e q (made (page_of v.pages q page)) (was_made slot o h v stands q page there) ∙ leaves q (content_of o h q))) (stands.holds q page there);
        }

  none_needed : (blocks : ℕ) (k : Kept D) (free : ℕ) → IsKeptOf blocks (spot.Pinned 1) k → free < need_of k → (has_slots k ≡ false) × (free < blocks)
  none_needed blocks (kept.Empty shell) free is few = let same : shell ≡ blocks = is.1 in (refl, omega (arith, same, few))
  none_needed blocks (kept.Held row) free is few = absurd (omega (arith, few))
  none_needed blocks kept.Out free is few = absurd (omega (arith, few))

  needs : (blocks : ℕ) (k : Kept D) → IsKeptOf blocks (spot.Pinned 1) k → has_slots k ≡ false → need_of k ≡ blocks
  needs blocks (kept.Empty shell) is none = is.1
  needs blocks (kept.Held row) is none = absurd (false≢true (sym none))
  needs blocks kept.Out is none = absurd (false≢true (sym none))

  module _ (v : Parts D) (is_kept : IsKept v) (laws : Lawful v) (id : PageId) (x : Entry (Kept D)) (buf : Buffer) (can : CanUnpin v id x buf) where
    at_x : IsPlaced v id.key x
    at_x = is_kept.placed id.key id.name x can.live can.there

    quota : HasQuota v x
    quota = has_quota v is_kept id.name x (page_known v id.name x can.there)

    pub unpin_ready : ReadyUnpin v id x
    unpin_ready = record {
      number = let low = quota.low in let n = is_kept.sized.sessions in omega (arith, low, n);
      quota = is_there (quota_of v.slots x.session) quota.quota quota.opened;
      on = record { which = which.Pinned; there = at_x.on ∙ ap (list_at x.client) can.pinned };
      live = let owned = page_owned (state_of v) is_kept.legal id.name (page_of v.pages id.name x) (page_known v id.name x can.there) in is_there _ owned.tracker owned.lives;
      used = subst (λ (len : ℕ). bytes_of len x.blocks ≤ charge_in v.tree x.client) (sym is_kept.sized.len) (covered v is_kept laws.proper laws.whole id x buf can);
      len = is_kept.sized.len;
    }

    stock : need_of x.scratch ≤ free_of v.slots x.session → need_of x.scratch ≤ length v.slots.free
    stock enough =
        let low : x.session < length v.slots.quotas = unpin_ready.number in
        let part = get_or-le-sum_by free_in v.slots.quotas x.session None low in
        let all = laws.counted in
        omega (arith, enough, part, all)

    refused_may : free_of v.slots x.session < need_of x.scratch → (h : List Event) → MayFollow h (state_of v) (record { maker = x.session; event = event.UnpinRefused id.name })
    refused_may few h =
        let none = none_needed x.blocks x.scratch (free_of v.slots x.session) (subst (λ p. IsKeptOf x.blocks p x.scratch) can.pinned at_x.kept) few in
        let same = free_is v is_kept.counted x.session in
        record {
          makes = quota.low;
          allows = record {
            page = page_of v.pages id.name x;
            own = record { lives = page_known v id.name x can.there; own = refl };
            pinned = ap place_in can.pinned;
            none = none.0;
            few = let less = none.1 in omega (arith, less, same);
          };
        }

  -- what a call leaves
  pub record Unpinned {A E : Type 0} (r : Result A E) (old new : Parts D) (session name : ℕ) (bytes : List ℕ) : Type 1 where
    pub kept : IsKept new
    pub enters : (slot : Ghosts D) → Enters slot (unpin_entry r session name bytes ∷ []) [] [] old new

  module _ {A E : Type 0} (v : Parts D) (is_kept : IsKept v) (laws : Lawful v) (id : PageId) (x : Entry (Kept D)) (buf : Buffer) (can : CanUnpin v id x buf) where
    unpin_ended : (r : Result A E) (new : Parts D) → OnOk r (new ≡ unpinned id x buf v) → OnErr r (new ≡ counted v)
        → (IsErr r ↔ (free_of v.slots x.session < need_of x.scratch)) → Unpinned r v new x.session id.name buf.bytes
    unpin_ended (Ok a) new is none when =
        let enough : need_of x.scratch ≤ free_of v.slots x.session = elim (cases_lt (free_of v.slots x.session) (need_of x.scratch)) [ inl lt ↦ absurd (false≢true (when.1 lt)) | inr le ↦ le ] in
        let more = stock v is_kept laws id x buf can enough in
        subst (λ (z : Parts D). Unpinned {A = A} {E = E} (Ok a) v z x.session id.name buf.bytes) (sym is) (record {
          kept = unpin_kept v is_kept laws.proper laws.whole id x buf can enough more;
          enters = λ slot. record {
            state = unpin_state v is_kept laws.proper laws.whole id x buf can enough more;
            stands = unpin_stands v is_kept laws.proper laws.whole id x buf can enough more slot;
            slots = λ measure. let same = unpin_slots v is_kept laws.proper laws.whole id x buf can enough more measure in omega (arith, same);
          };
        })
    unpin_ended (Err e) new none is when =
        let may = refused_may v is_kept laws id x buf can (when.0 refl) in
        let refusal : Event = record { maker = x.session; event = event.UnpinRefused id.name } in
        subst (λ (z : Parts D). Unpinned {A = A} {E = E} (Err e) v z x.session id.name buf.bytes) (sym is) (record {
          kept = counted_kept v is_kept refusal refl may;
          enters = λ slot. record {
            state = refl;
            stands = counted_stands v is_kept refusal refl may (λ q old. refl) slot;
            slots = λ measure. omega arith;
          };
        })

  -- the page of the token is one that can be left
  pub can_unpin : (v : Parts D) → Lawful v → (p : PageToken) (buf : Buffer) → IsLastPin (state_of v) p buf → CanUnpin v (id_in p) (entry_at v p.name) buf
  can_unpin v laws p buf last =
      let f : Found v p (entry_at v p.name) = found_page v laws.proper p last.page in
      record {
        live = f.live;
        there = f.there;
        pinned = pinned_in (entry_at v p.name).place (sym (ap (λ (y : Page). y.place) f.is) ∙ last.pinned);
        buffer = subst (λ (y : Page). IsBufferOf y.blocks v.arena.block_len buf) f.is last.buffer;
      }

  -- the same, where the parts and the page are known by equations
  pub unpin_can : (v old : Parts D) → v ≡ old → (id : PageId) (p : PageToken) → id ≡ id_in p → Lawful v → (buf : Buffer) → IsLastPin (state_of old) p buf
      → CanUnpin v id (entry_at v id.name) buf
  unpin_can v old same id p named laws buf last =
      subst (λ (i : PageId). CanUnpin v i (entry_at v i.name) buf) (sym named)
      (can_unpin v laws p buf (subst (λ (z : Parts D). IsLastPin (state_of z) p buf) (sym same) last))

  -- what the caller sees of a call
  pub record Left {A E : Type 0} (r : Result A E) (old new : Parts D) (p : PageToken) (bytes : List ℕ) : Type 1 where
    pub kept : IsKept new
    pub enters : (slot : Ghosts D) → Enters slot (unpin_entry r (page_at (state_of old) p.name).session p.name bytes ∷ []) [] [] old new
    pub refused : IsErr r ↔ LacksSlots (state_of old) p.name

  module _ (v : Parts D) (is_kept : IsKept v) (laws : Lawful v) (p : PageToken) (buf : Buffer) (last : IsLastPin (state_of v) p buf) where
    abbrev x : Entry (Kept D)
    x = entry_at v p.name

    can : CanUnpin v (id_in p) x buf
    can = can_unpin v laws p buf last

    there : page_at (state_of v) p.name ≡ page_of v.pages p.name x
    there = (found_page v laws.proper p last.page).is

    kept_is : IsKeptOf x.blocks (spot.Pinned 1) x.scratch
    kept_is = subst (λ at. IsKeptOf x.blocks at x.scratch) can.pinned (is_kept.placed p.key p.name x can.live can.there).kept

    free_same : free_of v.slots x.session ≡ free_slots (state_of v) x.session
    free_same = free_is v is_kept.counted x.session

    lacks : (free_of v.slots x.session < need_of x.scratch) → LacksSlots (state_of v) p.name
    lacks few =
        let none = none_needed x.blocks x.scratch (free_of v.slots x.session) kept_is few in
        record {
          none = ap (λ (y : Page). y.has_slots) there ∙ none.0;
          few = subst (λ (y : Page). free_slots (state_of v) y.session < y.blocks) (sym there) (let less = none.1 in let same = free_same in omega (arith, less, same));
        }

    lacking : LacksSlots (state_of v) p.name → free_of v.slots x.session < need_of x.scratch
    lacking l =
        let none : has_slots x.scratch ≡ false = ap (λ (y : Page). y.has_slots) (sym there) ∙ l.none in
        let few : free_slots (state_of v) x.session < x.blocks = subst (λ (y : Page). free_slots (state_of v) y.session < y.blocks) there l.few in
        let need = needs x.blocks x.scratch kept_is none in
        let same = free_same in
        omega (arith, few, need, same)

    session_is : x.session ≡ (page_at (state_of v) p.name).session
    session_is = ap (λ (y : Page). y.session) (sym there)

    pub left : {A E : Type 0} (r : Result A E) (new : Parts D) → OnOk r (new ≡ unpinned (id_in p) x buf v) → OnErr r (new ≡ counted v)
        → (IsErr r ↔ (free_of v.slots x.session < need_of x.scratch)) → Left r v new p buf.bytes
    left {A} {E} r new is none when =
        let done : Unpinned r v new x.session p.name buf.bytes = unpin_ended v is_kept laws (id_in p) x buf can r new is none when in
        record {
          kept = done.kept;
          enters = λ slot. subst (λ (n : ℕ). Enters slot (unpin_entry r n p.name buf.bytes ∷ []) [] [] v new) session_is (done.enters slot);
          refused = (λ err. lacks (when.0 err), λ l. when.1 (lacking l));
        }

    pub cause : {A B : Type 0} (r : Result A (B × Refusal)) → (IsErr r ↔ (free_of v.slots x.session < need_of x.scratch))
        → IfErr r (λ e. e.1 ≡ PoolErr.ScratchFull (need_of x.scratch) (free_of v.slots x.session))
        → IfErr r (λ e. e.1 ≡ PoolErr.ScratchFull (page_at (state_of v) p.name).blocks (free_slots (state_of v) (page_at (state_of v) p.name).session))
    cause (Ok a) when is = tt
    cause (Err e) when is =
        let l : LacksSlots (state_of v) p.name = lacks (when.0 refl) in
        let none : has_slots x.scratch ≡ false = ap (λ (y : Page). y.has_slots) (sym there) ∙ l.none in
        let need : need_of x.scratch ≡ (page_at (state_of v) p.name).blocks = needs x.blocks x.scratch kept_is none ∙ ap (λ (y : Page). y.blocks) (sym there) in
        let free : free_of v.slots x.session ≡ free_slots (state_of v) (page_at (state_of v) p.name).session = free_same ∙ ap (free_slots (state_of v)) session_is in
        is ∙ (λ i. PoolErr.ScratchFull (need i) (free i))

  -- and where the parts and the page are known by equations
  pub unpin_done : {A B : Type 0} (v old : Parts D) (id : PageId) (p : PageToken) (buf : Buffer) → v ≡ old → id ≡ id_in p → IsKept v → Lawful v
      → IsLastPin (state_of old) p buf → (r : Result A (B × Refusal)) (new : Parts D)
      → OnOk r (new ≡ unpinned id (entry_at v id.name) buf v) → OnErr r (new ≡ counted v)
      → (IsErr r ↔ (free_of v.slots (entry_at v id.name).session < need_of (entry_at v id.name).scratch))
      → Left r old new p buf.bytes
  unpin_done v old id p buf same named kept laws last r new ok err when =
      subst (λ (z : Parts D). Left r z new p buf.bytes) same
      (left v kept laws p buf (subst (λ (z : Parts D). IsLastPin (state_of z) p buf) (sym same) last) r new
      (subst (λ (i : PageId). OnOk r (new ≡ unpinned i (entry_at v i.name) buf v)) named ok) err
      (subst (λ (i : PageId). IsErr r ↔ (free_of v.slots (entry_at v i.name).session < need_of (entry_at v i.name).scratch)) named when))

  pub unpin_cause : {A B : Type 0} (v old : Parts D) (id : PageId) (p : PageToken) (buf : Buffer) → v ≡ old → id ≡ id_in p → IsKept v → Lawful v
      → IsLastPin (state_of old) p buf → (r : Result A (B × Refusal))
      → (IsErr r ↔ (free_of v.slots (entry_at v id.name).session < need_of (entry_at v id.name).scratch))
      → IfErr r (λ e. e.1 ≡ PoolErr.ScratchFull (need_of (entry_at v id.name).scratch) (free_of v.slots (entry_at v id.name).session))
      → IfErr r (λ e. e.1 ≡ PoolErr.ScratchFull (page_at (state_of old) p.name).blocks (free_slots (state_of old) (page_at (state_of old) p.name).session))
  unpin_cause v old id p buf same named kept laws last r when is =
      subst (λ (z : Parts D). IfErr r (λ e. e.1 ≡ PoolErr.ScratchFull (page_at (state_of z) p.name).blocks (free_slots (state_of z) (page_at (state_of z) p.name).session))) same
      (cause v kept laws p buf (subst (λ (z : Parts D). IsLastPin (state_of z) p buf) (sym same) last) r
      (subst (λ (i : PageId). IsErr r ↔ (free_of v.slots (entry_at v i.name).session < need_of (entry_at v i.name).scratch)) named when)
      (subst (λ (i : PageId). IfErr r (λ e. e.1 ≡ PoolErr.ScratchFull (need_of (entry_at v i.name).scratch) (free_of v.slots (entry_at v i.name).session))) named is))
