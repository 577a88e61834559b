-- Clean pages make room, and then an evicted page gets its blocks.
use Rattle.std.proofs.Common.{◌≡◌, ℕ, ◌+◌, ◌≤◌, true, false, List, [], ◌∷◌, ◌++◌, drop, Option, Some, unwrap_or, refl, ap, sym, ◌∙◌, subst, inl, inr, arith, eqb, eqb-true}
use Rattle.std.specs.FinMap.{get}
use Rattle.std.proofs.lemmas.Bool.{false≢true, cases_Bool, or_cases, or_left, or_right, eq-eqb}
use Rattle.outside.specs.declared.slot.Slot.{Ghosts}
use Rattle.block_arena.specs.Memory.{Supply}
use Rattle.index_list.specs.Listing.{stands_in}
use Rattle.page_table.specs.declared.page_id.PageId.{PageId}
use Rattle.page_table.specs.declared.entry.Place.TheVariants as spot
use Rattle.page_table.specs.declared.entry.Entry.{Entry}
use Rattle.page_table.specs.Pages.{Pages as Table}
use Rattle.clean_evict.specs.Eviction.{name_at, names_of, blocks_of, fewest}
use Rattle.clean_evict.proofs.Changed.{get-evicted_other}
use Rattle.pool_model.specs.declared.event.Event.TheVariants as event
use Rattle.pool_model.specs.declared.entry.Entry.{Entry as Event}
use Rattle.pool_model.specs.Bytes.{bytes_of}
use Rattle.pool_model.specs.State.{Opening}
use Rattle.pool_model.specs.LookingBack.{content_of}
use Rattle.pin_core.specs.declared.kept.Kept.{Kept}
use Rattle.pin_core.specs.declared.kept.Kept.TheVariants as kept
use Rattle.pin_core.specs.declared.parts.Parts.{Parts}
use Rattle.pin_core.specs.Lawful.{Lawful}
use Rattle.pin_core.specs.parts.Keeping.{row_in}
use Rattle.pin_core.specs.Invariant.{IsKept, IsPlaced, IsKeptOf, is_clean_spot}
use Rattle.pin_core.specs.Standing.{StandsFor, Holds, KeptHolds, AreHeld}
use Rattle.pin_core.specs.Marking.{form_of, under_of}
use Rattle.pin_core.specs.parts.Changes.{no_entry, entry_at}
use Rattle.pin_core.specs.calls.Evictions.{evictions, keys_gone, names_gone, with_room}
use Rattle.pin_core.specs.parts.Loads.{CanLoad, ReadyLoad, loaded, loaded_over, load_entries}
use Rattle.pin_core.proofs.Queued.{name_is}
use Rattle.pin_core.proofs.OnLists.{clean_key_live}
use Rattle.pin_core.proofs.EvictAll.{Evicted, all_pages, all_free, room_kept}
use Rattle.pin_core.proofs.CleanRoom.{finds_blocks}
use Rattle.pin_core.proofs.Roomed.{keys_split, room_made}
use Rattle.pin_core.proofs.Charged.{own_low, own_is}
use Rattle.pin_core.proofs.Entered.{Done, done_then}
use Rattle.pin_core.proofs.Loaded.{load_ready, load_done}

stands_front : (q : ℕ) (xs ys : List ℕ) → stands_in q xs ≡ true → stands_in q (xs ++ ys) ≡ true
stands_front q [] ys s = absurd (false≢true s)
stands_front q (x ∷ xs) ys s = elim (or_cases (eqb q x) (stands_in q xs) s) [
  | inl here ↦ or_left (eqb q x) (stands_in q (xs ++ ys)) here
  | inr behind ↦ or_right (eqb q x) (stands_in q (xs ++ ys)) (stands_front q xs ys behind)
]

module _ {D : Type 0} where
  -- evictions enter their entries
  pub evicted_done : (maker : ℕ) (keys : List ℕ) (v new : Parts D) → Evicted maker keys v new → Done (evictions maker (names_of v.pages keys)) [] [] v new
  evicted_done maker keys v new gone = record {
    kept = gone.kept;
    enters = λ slot. record { state = gone.state; stands = gone.stands slot; slots = λ measure. let same = gone.slots measure in omega (arith, same) };
  }

  -- a name that stands there has its key
  record Named (t : Table (Entry (Kept D))) (keys : List ℕ) (n : ℕ) : Type 0 where
    key : ℕ
    stands : stands_in key keys ≡ true
    is : name_at t key ≡ n

  named_by : (t : Table (Entry (Kept D))) (keys : List ℕ) (n : ℕ) → stands_in n (names_of t keys) ≡ true → Named t keys n
  named_by t [] n s = absurd (false≢true s)
  named_by t (k ∷ ks) n s = elim (or_cases (eqb n (name_at t k)) (stands_in n (names_of t ks)) s) [
    | inl here ↦ record { key = k; stands = or_left (eqb k k) (stands_in k ks) (eq-eqb k k refl); is = sym (eqb-true n (name_at t k) here) }
    | inr behind ↦ let rest : Named t ks n = named_by t ks n behind in record { key = rest.key; stands = or_right (eqb rest.key k) (stands_in rest.key ks) rest.stands; is = rest.is }
  ]

  -- what a job's slots hold
  pub job_holds : (slot : Ghosts D) (under : Option ℕ) (name len blocks : ℕ) (bytes : List ℕ) (k : Kept D) → IsKeptOf blocks spot.Evicted k → KeptHolds slot under name len bytes spot.Evicted k → AreHeld slot under name len (row_in k) bytes
  job_holds slot under name len blocks bytes (kept.Held row) is holds = holds refl
  job_holds slot under name len blocks bytes (kept.Empty shell) is holds = absurd (false≢true is.0)
  job_holds slot under name len blocks bytes kept.Out is holds = absurd (false≢true (sym is))

  -- a page that isn't clean stays as it is
  module _ (v : Parts D) (is_kept : IsKept v) (laws : Lawful v) (id : PageId) (x : Entry (Kept D))
      (live : get v.pages.names id.key ≡ Some id.name) (there : get v.pages.entries id.name ≡ Some x) (unclean : is_clean_spot x.place ≡ false) (blocks : ℕ) where
    out : stands_in id.name (names_gone blocks v) ≡ false
    out = elim (cases_Bool (stands_in id.name (names_gone blocks v))) [
      | inr none ↦ none
      | inl stands ↦
          let one : Named v.pages (keys_gone blocks v) id.name = named_by v.pages (keys_gone blocks v) id.name stands in
          let clean : stands_in one.key v.clean.keys ≡ true = ap (stands_in one.key) (keys_split v is_kept laws blocks) ∙ stands_front one.key (keys_gone blocks v) (drop (fewest blocks v.arena v.pages v.clean.keys) v.clean.keys) one.stands in
          let alive = clean_key_live v is_kept one.key clean in
          let same : one.key ≡ id.key = laws.proper.apart one.key id.key id.name (alive.1 ∙ ap Some (sym (name_is v.pages one.key alive.0 alive.1) ∙ one.is)) live in
          let at : IsPlaced v id.key x = is_kept.placed id.key id.name x live there in
          absurd (false≢true (sym (at.clean ∙ unclean) ∙ ap (λ (k : ℕ). stands_in k v.clean.keys) (sym same) ∙ clean))
    ]

    pub there_still : get (with_room blocks v).pages.entries id.name ≡ Some x
    there_still = ap (λ (t : Table (Entry (Kept D))). get t.entries id.name) (all_pages (keys_gone blocks v) v) ∙ get-evicted_other (names_gone blocks v) v.pages id.name out ∙ there

    pub live_still : get (with_room blocks v).pages.names id.key ≡ Some id.name
    live_still = ap (λ (t : Table (Entry (Kept D))). get t.names id.key) (all_pages (keys_gone blocks v) v) ∙ live

  module _ (v : Parts D) (is_kept : IsKept v) (laws : Lawful v) (id : PageId) (x : Entry (Kept D)) (can : CanLoad v id x) where
    at_x : IsPlaced v id.key x
    at_x = is_kept.placed id.key id.name x can.live can.there

    -- what the call needs first
    pub load_covered : x.blocks ≤ v.arena.free + blocks_of v.pages v.clean.keys
    load_covered = finds_blocks v is_kept laws x.client x.blocks (own_is v is_kept id.name x can.there) can.room

    pub load_few : x.blocks ≤ 256
    load_few = at_x.blocks.1

    abbrev mid : Parts D
    mid = with_room x.blocks v

    gone : Evicted x.session (keys_gone x.blocks v) v mid
    gone = room_made v is_kept laws x.blocks x.session (own_low v is_kept id.name x can.there)

    len_still : bytes_of mid.arena.block_len x.blocks ≡ bytes_of v.arena.block_len x.blocks
    len_still = ap (λ (a : Supply). bytes_of a.block_len x.blocks) (all_free (keys_gone x.blocks v) v)

    can_still : CanLoad mid id x
    can_still = record {
      live = live_still v is_kept laws id x can.live can.there (ap is_clean_spot can.evicted) x.blocks;
      there = there_still v is_kept laws id x can.live can.there (ap is_clean_spot can.evicted) x.blocks;
      evicted = can.evicted;
      room =
          let kept = room_kept x.session (keys_gone x.blocks v) v gone x.client (bytes_of v.arena.block_len x.blocks) can.room in
          let same = len_still in
          omega (arith, kept, same);
    }

    pub entry_still : entry_at mid id.name ≡ x
    entry_still = ap (λ (o : Option (Entry (Kept D))). unwrap_or o no_entry) can_still.there

    pub len_kept : mid.arena.block_len ≡ v.arena.block_len
    len_kept = ap (λ (a : Supply). a.block_len) (all_free (keys_gone x.blocks v) v)

    module _ (enough : x.blocks ≤ mid.arena.free) where
      pub ready_still : ReadyLoad mid id x
      ready_still = load_ready mid gone.kept gone.laws id x can_still enough

      pub over_done : Done (load_entries x.session id.name x.blocks v) (row_in x.scratch) [] v (loaded_over id x v)
      over_done =
          done_then (evictions x.session (names_gone x.blocks v)) (record { maker = x.session; event = event.PinLoad id.name } ∷ []) (row_in x.scratch) [] v mid (loaded id x mid)
          (evicted_done x.session (keys_gone x.blocks v) v mid gone) (load_done mid gone.kept gone.laws id x can_still enough)

    -- the slots that it takes along hold its content
    pub over_holds : (slot : Ghosts D) (o : Opening) (h : List Event) → StandsFor slot o h v → AreHeld slot (under_of v.marked x.version) id.name v.arena.block_len (row_in x.scratch) (content_of o h id.name)
    over_holds slot o h stood =
        let held : Holds slot (form_of v) id.name (content_of o h id.name) x = stood.holds id.name x can.there in
        job_holds slot (under_of v.marked x.version) id.name v.arena.block_len x.blocks (content_of o h id.name) x.scratch (subst (λ p. IsKeptOf x.blocks p x.scratch) can.evicted at_x.kept)
        (subst (λ p. KeptHolds slot (under_of v.marked x.version) id.name v.arena.block_len (content_of o h id.name) p x.scratch) can.evicted held.kept)
