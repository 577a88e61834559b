-- Clean pages go out of memory one after the other.
use Rattle.std.proofs.Common.{◌≡◌, ℕ, zero, suc, ◌+◌, ◌<◌, ◌≤◌, List, [], ◌∷◌, ◌++◌, drop, length, refl, ap, sym, ◌∙◌, subst, arith, eqb}
use Rattle.std.specs.List.{IsDistinct}
use Rattle.std.proofs.lemmas.List.{append_assoc, append-nil}
use Rattle.std.proofs.lemmas.List.Sums.{sum_by-cons}
use Rattle.outside.specs.declared.slot.Slot.{Ghosts}
use Rattle.index_list.specs.Listing.{stands_in}
use Rattle.reservation_tree.specs.Tree.{TreeState}
use Rattle.reservation_tree.specs.Tracker.{reservation_of}
use Rattle.clean_evict.specs.Eviction.{name_at, names_of, blocks_at, blocks_of, evicted_all, with_freed}
use Rattle.clean_evict.proofs.Changed.{proper-evicted, blocks_of-kept}
use Rattle.pool_model.specs.declared.event.Event.TheVariants as event
use Rattle.pool_model.specs.declared.entry.Entry.{Entry as Event}
use Rattle.pool_model.specs.State.{Opening, State, shown}
use Rattle.pool_model.specs.Sums.{held_by, HasRoom}
use Rattle.pool_model.specs.Legal.{run}
use Rattle.pin_core.specs.declared.parts.Parts.{Parts}
use Rattle.pin_core.specs.StateOf.{state_of}
use Rattle.pin_core.specs.Lawful.{Lawful}
use Rattle.pin_core.specs.Invariant.{IsKept}
use Rattle.pin_core.specs.Standing.{StandsFor, slots_home}
use Rattle.pin_core.specs.calls.Evictions.{evict_one, evict_all, evictions}
use Rattle.pin_core.proofs.Cleaned.{IsCleanAt, clean_page}
use Rattle.pin_core.proofs.Evicts.{evict_kept, evict_ran, evict_stands, evict_slots, evict_held}
use Rattle.pin_core.proofs.Listed.{distinct_tail, head_stands}

drop_drop : (xs : List ℕ) (n : ℕ) → drop n (drop 1 xs) ≡ drop (suc n) xs
drop_drop [] zero = refl
drop_drop [] (suc n) = refl
drop_drop (x ∷ xs) n = refl

-- so many entries more
shown_more : (e n : ℕ) → shown (shown (e + 1) + n) ≡ shown (e + suc n)
shown_more e n = omega arith

module _ {D : Type 0} where
  one_lawful : (v : Parts D) → Lawful v → (key : ℕ) (rest : List ℕ) → v.clean.keys ≡ key ∷ rest → Lawful (evict_one key v)
  one_lawful v laws key rest first = record {
    proper = proper-evicted (name_at v.pages key ∷ []) v.pages laws.proper;
    whole = laws.whole;
    counted = laws.counted;
    once = subst (IsDistinct eqb) (sym (ap (drop 1) first)) (distinct_tail key rest (subst (IsDistinct eqb) first laws.once));
    tree = laws.tree;
    fits = laws.fits;
    numbers = laws.numbers;
    book = laws.book;
    seats = laws.seats;
  }

  -- all is kept, and the parts stand for as many entries more
  pub record Evicted (maker : ℕ) (keys : List ℕ) (v new : Parts D) : Type 1 where
    pub kept : IsKept new
    pub laws : Lawful new
    pub state : state_of new ≡ run (state_of v) (evictions maker (names_of v.pages keys))
    pub stands : (slot : Ghosts D) (o : Opening) (h : List Event) → StandsFor slot o h v → StandsFor slot o (h ++ evictions maker (names_of v.pages keys)) new
    pub slots : (measure : D → ℕ) → slots_home measure new ≡ slots_home measure v
    pub held : (t : ℕ) → held_by (state_of new) t ≡ held_by (state_of v) t

  pub all_evicted : (maker : ℕ) → maker < 240 → (keys rest : List ℕ) (v : Parts D) → IsKept v → Lawful v → v.clean.keys ≡ keys ++ rest → Evicted maker keys v (evict_all keys v)
  all_evicted maker makes [] rest v is_kept laws first = record {
    kept = is_kept;
    laws = laws;
    state = refl;
    stands = λ slot o h stood. subst (λ (l : List Event). StandsFor slot o l v) (sym (append-nil h)) stood;
    slots = λ measure. refl;
    held = λ t. refl;
  }
  all_evicted maker makes (key ∷ keys) rest v is_kept laws first =
      let c : IsCleanAt v key = clean_page v is_kept laws.proper key (ap (stands_in key) first ∙ head_stands key (keys ++ rest)) in
      let next : Event = record { maker = maker; event = event.Evict (name_at v.pages key) } in
      let more : Evicted maker keys (evict_one key v) (evict_all keys (evict_one key v)) =
      all_evicted maker makes keys rest (evict_one key v) (evict_kept v is_kept laws maker makes key (keys ++ rest) first) (one_lawful v laws key (keys ++ rest) first) (ap (drop 1) first) in
      record {
        kept = more.kept;
        laws = more.laws;
        state = more.state ∙ ap (λ (s : State). run s (evictions maker (names_of v.pages keys))) (evict_ran v is_kept laws maker makes key (keys ++ rest) first);
        stands = λ slot o h stood. subst (λ (l : List Event). StandsFor slot o l (evict_all (key ∷ keys) v)) (append_assoc h (next ∷ []) (evictions maker (names_of v.pages keys)))
            (more.stands slot o (h ++ next ∷ []) (evict_stands v is_kept laws maker makes key (keys ++ rest) first slot o h stood));
        slots = λ measure. more.slots measure ∙ evict_slots v is_kept laws maker makes key (keys ++ rest) first measure;
        held = λ t. more.held t ∙ evict_held v is_kept laws maker makes key (keys ++ rest) first t;
      }

  -- how the parts end
  pub all_entries : (keys : List ℕ) (v : Parts D) → v.entries ≤ 18446744073709551615 → (evict_all keys v).entries ≡ shown (v.entries + length keys)
  all_entries [] v small = omega (arith, small)
  all_entries (key ∷ keys) v small = all_entries keys (evict_one key v) (omega arith) ∙ shown_more v.entries (length keys)

  pub all_clean : (keys : List ℕ) (v : Parts D) → (evict_all keys v).clean ≡ record v.clean { keys = drop (length keys) v.clean.keys }
  all_clean [] v = refl
  all_clean (key ∷ keys) v = all_clean keys (evict_one key v) ∙ ap (λ (xs : List ℕ). record v.clean { keys = xs }) (drop_drop v.clean.keys (length keys))

  pub all_pages : (keys : List ℕ) (v : Parts D) → (evict_all keys v).pages ≡ evicted_all (names_of v.pages keys) v.pages
  all_pages [] v = refl
  all_pages (key ∷ keys) v = all_pages keys (evict_one key v)

  pub all_marked : (keys : List ℕ) (v : Parts D) → (evict_all keys v).marked ≡ v.marked
  all_marked [] v = refl
  all_marked (key ∷ keys) v = all_marked keys (evict_one key v)

  pub all_free : (keys : List ℕ) (v : Parts D) → (evict_all keys v).arena ≡ with_freed (blocks_of v.pages keys) v.arena
  all_free [] v = ap (λ (n : ℕ). record v.arena { free = n }) (omega arith)
  all_free (key ∷ keys) v =
      let same : blocks_of (evict_one key v).pages keys ≡ blocks_of v.pages keys = blocks_of-kept (name_at v.pages key ∷ []) v.pages keys in
      let both = sum_by-cons (λ k. blocks_at v.pages k) key keys in
      all_free keys (evict_one key v) ∙ ap (λ (n : ℕ). record v.arena { free = n }) (omega (arith, same, both))

  -- evictions leave all but these
  pub all_rest : (keys : List ℕ) (v : Parts D) → evict_all keys v ≡ record v { pages = (evict_all keys v).pages; clean = (evict_all keys v).clean; arena = (evict_all keys v).arena; entries = (evict_all keys v).entries }
  all_rest [] v = refl
  all_rest (key ∷ keys) v = all_rest keys (evict_one key v)

  pub all_tree : (keys : List ℕ) (v : Parts D) → (evict_all keys v).tree ≡ v.tree
  all_tree keys v = ap (λ (p : Parts D). p.tree) (all_rest keys v)

  -- the parts once so many pages went, as a record
  pub all_is : (keys : List ℕ) (v : Parts D) → v.entries ≤ 18446744073709551615
      → evict_all keys v ≡ record v { pages = evicted_all (names_of v.pages keys) v.pages; clean = record v.clean { keys = drop (length keys) v.clean.keys }; arena = with_freed (blocks_of v.pages keys) v.arena; entries = shown (v.entries + length keys) }
  all_is keys v small =
      all_rest keys v ∙ (λ i. record v { pages = all_pages keys v i; clean = all_clean keys v i; arena = all_free keys v i; entries = all_entries keys v small i })

  -- who had room has it still
  pub room_kept : (maker : ℕ) (keys : List ℕ) (v : Parts D) → Evicted maker keys v (evict_all keys v) → (c bytes : ℕ) → HasRoom (state_of v) c bytes → HasRoom (state_of (evict_all keys v)) c bytes
  room_kept maker keys v gone c bytes room =
      let held = gone.held c in
      let reserved : reservation_of (evict_all keys v).tree.trackers c ≡ reservation_of v.tree.trackers c = ap (λ (t : TreeState). reservation_of t.trackers c) (all_tree keys v) in
      omega (arith, held, reserved, room)
