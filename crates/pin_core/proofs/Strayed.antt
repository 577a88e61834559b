-- What loads and stores do to the slots' counts of strays.
use Rattle.std.proofs.Common.{◌≡◌, ℕ, zero, suc, ◌+◌, ◌*◌, ◌<◌, ◌≤◌, Bool, true, false, List, [], ◌∷◌, length, Option, Some, None, Ok, Err, refl, sym, subst, inl, inr, arith}
use Rattle.std.specs.List.{slice_range, slice_index_or}
use Rattle.std.proofs.lemmas.Option.{none-some}
use Rattle.std.proofs.lemmas.List.Sums.{sum_by-cons}
use Rattle.outside.specs.Slots.{Strays, KeepsStrays, ShowsHeld, Gave}
use Rattle.outside.specs.declared.slot.Slot.{Ghosts}
use Rattle.scratch_dev.specs.Rows.{Ended, MarkedEnded, GaveOther, IsStored, Walked, mark_of}
use Rattle.scratch_dev.specs.declared.marked.LoadErr.TheVariants as loading
use Rattle.pin_core.specs.Standing.{AreHeld}
use Rattle.pin_core.specs.calls.Runs.{CountsStrays, IsLoadedAs, load_end, strays_at, strays_in, unstrayed, unstrayed_in}
use Rattle.pin_core.specs.calls.Returning.{stale_loads}
use Rattle.pin_core.proofs.Counting.{Counts, risen, unfallen}
use Rattle.pin_core.proofs.Rowed.{at_slot, keeps_same, other_given, stays, Stays}
use Rattle.pin_core.proofs.Shown.{block_length, some_of}

-- one slot counts so many strays more, where it counts them still
record CountsMore (n : ℕ) (before_tells now_tells : Bool) (before now : Option Strays) : Type 0 where
  loose : unstrayed_in before_tells before ≤ unstrayed_in now_tells now
  more : unstrayed_in now_tells now ≡ 0 → strays_in before + n ≤ strays_in now

-- a slot that doesn't tell what it holds, or counts no strays
silent_more : (n : ℕ) (a b : Option Strays) → CountsMore n false false a b
silent_more n a b = record { loose = omega arith; more = λ none. absurd (omega (arith, none)) }

uncounted_more : (n : ℕ) → CountsMore n true true None None
uncounted_more n = record { loose = omega arith; more = λ none. absurd (omega (arith, none)) }

kept_strays : (tells : Bool) (a b : Option Strays) → KeepsStrays a b → CountsMore 0 tells tells a b
kept_strays false a b keeps = silent_more 0 a b
kept_strays true None None keeps = uncounted_more 0
kept_strays true None (Some b) keeps = absurd (none-some b (sym keeps))
kept_strays true (Some a) None keeps = absurd keeps
kept_strays true (Some a) (Some b) keeps =
    let c : Counts 0 (Some a.count) (Some b.count) = unfallen a.count b.count keeps.1 in
    record { loose = c.short; more = c.more }

-- a load of it didn't show what it held
one_more : (tells : Bool) (held : Option (List ℕ)) (a b : Option Strays) (shown : List ℕ) → KeepsStrays a b → Gave held a b shown → (tells ≡ true → ShowsHeld held shown → ⊥) → CountsMore 1 tells tells a b
one_more false held a b shown keeps gave never = silent_more 1 a b
one_more true held None None shown keeps gave never = uncounted_more 1
one_more true held None (Some b) shown keeps gave never = absurd (none-some b (sym keeps))
one_more true held (Some a) None shown keeps gave never = absurd keeps
one_more true held (Some a) (Some b) shown keeps (inl shows) never = absurd (never refl shows)
one_more true held (Some a) (Some b) shown keeps (inr strayed) never =
    let c : Counts 1 (Some a.count) (Some b.count) = risen a.count b.count keeps.1 strayed.1 in
    record { loose = c.short; more = c.more }

module _ {D : Type 0} (slot : Ghosts D) where
  abbrev More : ℕ → D → D → Type 0
  More n a b = CountsMore n (slot.tells a) (slot.tells b) (slot.strays a) (slot.strays b)

  keeps_slot : (a b : D) → slot.tells b ≡ slot.tells a → KeepsStrays (slot.strays a) (slot.strays b) → More 0 a b
  keeps_slot a b tells keeps = subst (λ (t : Bool). CountsMore 0 (slot.tells a) t (slot.strays a) (slot.strays b)) (sym tells) (kept_strays (slot.tells a) (slot.strays a) (slot.strays b) keeps)

  -- a slot and others count so many strays more
  first_and_rest : (m n : ℕ) (x y : D) (xs ys : List D) → More m x y → CountsStrays slot n xs ys → CountsStrays slot (m + n) (x ∷ xs) (y ∷ ys)
  first_and_rest m n x y xs ys here rest =
      let loose : unstrayed slot x ≤ unstrayed slot y = here.loose in
      let more : unstrayed slot y ≡ 0 → strays_at slot x + m ≤ strays_at slot y = here.more in
      let loose_x = sum_by-cons (unstrayed slot) x xs in
      let loose_y = sum_by-cons (unstrayed slot) y ys in
      let strays_x = sum_by-cons (strays_at slot) x xs in
      let strays_y = sum_by-cons (strays_at slot) y ys in
      let later = rest.loose in
      record {
        loose = omega (arith, loose, later, loose_x, loose_y);
        strays = λ none.
            let one = more (omega (arith, none, loose_y)) in
            let others = rest.strays (omega (arith, none, loose_y)) in
            omega (arith, one, others, strays_x, strays_y);
      }

  none_strayed : (before now : List D) → length now ≡ length before → ((i : ℕ) (d : D) → i < length before → More 0 (slice_index_or before i d) (slice_index_or now i d)) → CountsStrays slot 0 before now
  none_strayed [] [] same each = record { loose = omega arith; strays = λ none. omega arith }
  none_strayed [] (y ∷ ys) same each = absurd (omega (arith, same))
  none_strayed (x ∷ xs) [] same each = absurd (omega (arith, same))
  none_strayed (x ∷ xs) (y ∷ ys) same each =
      first_and_rest 0 0 x y xs ys (each 0 x (omega arith)) (none_strayed xs ys (omega (arith, same)) (λ i d lt. each (suc i) d (omega (arith, lt))))

  one_strayed : (i : ℕ) (before now : List D) → length now ≡ length before → i < length before → ((j : ℕ) (d : D) → j < length before → More 0 (slice_index_or before j d) (slice_index_or now j d))
      → ((d : D) → More 1 (slice_index_or before i d) (slice_index_or now i d)) → CountsStrays slot 1 before now
  one_strayed i [] now same inside each here = absurd (omega (arith, inside))
  one_strayed i (x ∷ xs) [] same inside each here = absurd (omega (arith, same))
  one_strayed zero (x ∷ xs) (y ∷ ys) same inside each here =
      first_and_rest 1 0 x y xs ys (here x) (none_strayed xs ys (omega (arith, same)) (λ j d lt. each (suc j) d (omega (arith, lt))))
  one_strayed (suc i) (x ∷ xs) (y ∷ ys) same inside each here =
      first_and_rest 0 1 x y xs ys (each 0 x (omega arith)) (one_strayed i xs ys (omega (arith, same)) (omega (arith, inside)) (λ j d lt. each (suc j) d (omega (arith, lt))) here)

  -- a store is no stray
  pub stores_strayed : (block : ℕ → List ℕ) (r : Ended) (before now : List D) → Walked (λ i. IsStored slot (block i)) r before now → length now ≡ length before → CountsStrays slot 0 before now
  stores_strayed block r before now walked same =
      none_strayed before now same
      (λ i d lt. at_slot (λ i. IsStored slot (block i)) (λ a b. More 0 a b) (λ i r a b is. keeps_slot a b is.tells is.strays) (λ d. keeps_slot d d refl (keeps_same (slot.strays d))) r before now walked i d lt)

  -- loads keep what slots count, and that of a slot which gave another mark rose
  loads_keep : (under : Option ℕ) (name : ℕ) (shown : ℕ → List ℕ) (r : MarkedEnded) (before now : List D) → Walked (λ i. IsLoadedAs slot under name i (shown i)) r before now → (i : ℕ) (d : D) → i < length before
      → More 0 (slice_index_or before i d) (slice_index_or now i d)
  loads_keep under name shown r before now walked i d lt =
      let it : Stays slot (slice_index_or before i d) (slice_index_or now i d) = stays slot under name shown r before now walked i d lt in
      keeps_slot (slice_index_or before i d) (slice_index_or now i d) it.tells it.strays

  pub loads_strayed : (under : Option ℕ) (name len n : ℕ) (r : MarkedEnded) (before now : List D) (shown : List ℕ) → Walked (λ i. IsLoadedAs slot under name i (slice_range shown (i * len) (i * len + len))) r before now
      → length now ≡ length before → n ≡ length before → length shown ≡ n * len → (bytes : List ℕ) → length bytes ≡ n * len → AreHeld slot under name len before bytes
      → CountsStrays slot (stale_loads (load_end r).0 (load_end r).1) before now
  loads_strayed under name len n (Ok u) before now shown walked same count long bytes size held = none_strayed before now same (loads_keep under name (λ i. slice_range shown (i * len) (i * len + len)) (Ok u) before now walked)
  loads_strayed under name len n (Err loading.Failed) before now shown walked same count long bytes size held =
      none_strayed before now same (loads_keep under name (λ i. slice_range shown (i * len) (i * len + len)) (Err loading.Failed) before now walked)
  loads_strayed None name len n (Err (loading.Stale wanted found)) before now shown walked same count long bytes size held = absurd (walked.1.here (some_of before walked.0 walked.1.inside))
  loads_strayed (Some version) name len n (Err (loading.Stale wanted found)) before now shown walked same count long bytes size held =
      let i : ℕ = walked.0 in
      let inside : i < length before = walked.1.inside in
      let below : i < n = omega (arith, inside, count) in
      let block : List ℕ = slice_range bytes (i * len) (i * len + len) in
      let piece : List ℕ = slice_range shown (i * len) (i * len + len) in
      one_strayed i before now same inside (loads_keep (Some version) name (λ i. slice_range shown (i * len) (i * len + len)) (Err (loading.Stale wanted found)) before now walked)
      (λ d.
      let a : D = slice_index_or before i d in
      let b : D = slice_index_or now i d in
      let both : (wanted ≡ mark_of name version i) × GaveOther slot (length piece) wanted found a b = walked.1.here d in
      let g : GaveOther slot (length piece) wanted found a b = both.1 in
      subst (λ (t : Bool). CountsMore 1 (slot.tells a) t (slot.strays a) (slot.strays b)) (sym g.loaded.tells)
      (one_more (slot.tells a) (slot.held a) (slot.strays a) (slot.strays b) g.given g.loaded.strays g.loaded.shows
      (λ does shows. other_given slot name version len i wanted found a b block piece (block_length len n i bytes size below) (block_length len n i shown long below) (held i d inside) both.0 g does shows)))
