-- What a walk of stores over a row does to its slots' counts of stores.
use Rattle.std.proofs.Common.{◌≡◌, ℕ, zero, suc, ◌+◌, ◌*◌, ◌<◌, ◌≤◌, leb, Bool, true, false, if◌then◌else◌, List, [], ◌∷◌, length, Option, Some, None, Ok, Err, refl, ap, sym, subst, inl, inr, arith}
use Rattle.std.specs.List.{sum_by, slice_index_or}
use Rattle.std.specs.Result.{is_err}
use Rattle.std.proofs.lemmas.Option.{none-some}
use Rattle.std.proofs.lemmas.List.Sums.{sum_by-cons}
use Rattle.std.proofs.lemmas.Bool.{cases_Bool, leb-false, lt-leb}
use Rattle.outside.specs.Counts.{Rose, last_count}
use Rattle.outside.specs.Slots.{CountsStore}
use Rattle.outside.specs.declared.slot.Slot.{Ghosts}
use Rattle.outside.specs.declared.stream.Failed.{Failed}
use Rattle.scratch_dev.specs.Rows.{Ended, MarkedEnded, IsStored, Walked, FailedAt, stores_in, uncounted_in, stores_at, uncounted, CountsStores}
use Rattle.scratch_dev.specs.declared.marked.LoadErr.TheVariants as loading
use Rattle.pin_core.specs.calls.Runs.{stuck, CountsFaults, IsLoadedAs, load_end}
use Rattle.pin_core.proofs.Rowed.{at_slot, stays}

-- one slot counts so many stores more, where it counts them still
pub record Counts (n : ℕ) (a b : Option ℕ) : Type 0 where
  pub short : uncounted_in a ≤ uncounted_in b
  pub more : uncounted_in b ≡ 0 → stores_in a + n ≤ stores_in b

-- a count at its last value, and one below it
at_last : (n : ℕ) → leb last_count n ≡ true → uncounted_in (Some n) ≡ 1
at_last n last = ap (λ (b : Bool). if b then 1 else 0) last

below_last : (n : ℕ) → leb last_count n ≡ false → uncounted_in (Some n) ≡ 0
below_last n below = ap (λ (b : Bool). if b then 1 else 0) below

-- a count that doesn't fall, and rises below its last value
rises : (before now n : ℕ) → before ≤ now → (now < last_count → before + n ≤ now) → Counts n (Some before) (Some now)
rises before now n at_least more = elim (cases_Bool (leb last_count now)) [
  | inl last ↦ elim (cases_Bool (leb last_count before)) [
    | inl too ↦ record { short = omega (arith, at_last now last, at_last before too); more = λ zero. absurd (omega (arith, zero, at_last now last)) }
    | inr less ↦ record { short = omega (arith, at_last now last, below_last before less); more = λ zero. absurd (omega (arith, zero, at_last now last)) }
  ]
  | inr below ↦
      let under : now < last_count = leb-false last_count now below in
      let too : leb last_count before ≡ false = lt-leb last_count before (omega (arith, at_least, under)) in
      record { short = omega (arith, below_last now below, below_last before too); more = λ zero. more under }
]

-- one store that ended so
one_store : (a b : Option ℕ) (ended : Ended) → CountsStore a b ended → Counts (if is_err ended then 0 else 1) a b
one_store None None ended is = let one : uncounted_in None ≡ 1 = refl in record { short = omega (arith, one); more = λ zero. absurd (omega (arith, zero, one)) }
one_store None (Some now) ended is = absurd (none-some now (sym is))
one_store (Some before) None ended is = absurd is
one_store (Some before) (Some now) (Ok u) is = rises before now 1 is.0 (λ below. let more : before < now = is.1 below in omega (arith, more))
one_store (Some before) (Some now) (Err e) is = rises before now 0 is (λ below. omega (arith, is))

module _ {D : Type 0} (slot : Ghosts D) where
  -- what each slot counts more, the row counts in all
  row_counts : (n : ℕ) (before now : List D) → length now ≡ length before → ((i : ℕ) (d : D) → i < length before → Counts n (slot.stores (slice_index_or before i d)) (slot.stores (slice_index_or now i d))) → CountsStores slot (length before * n) before now
  row_counts n [] [] same each = record { short = omega arith; stores = λ zero. omega arith }
  row_counts n [] (y ∷ ys) same each = absurd (omega (arith, same))
  row_counts n (x ∷ xs) [] same each = absurd (omega (arith, same))
  row_counts n (x ∷ xs) (y ∷ ys) same each =
      let rest : CountsStores slot (length xs * n) xs ys = row_counts n xs ys (omega (arith, same)) (λ i d lt. each (suc i) d (omega (arith, lt))) in
      let here : Counts n (slot.stores x) (slot.stores y) = each 0 x (omega arith) in
      let short_x = sum_by-cons (uncounted slot) x xs in
      let short_y = sum_by-cons (uncounted slot) y ys in
      let stores_x = sum_by-cons (stores_at slot) x xs in
      let stores_y = sum_by-cons (stores_at slot) y ys in
      record {
        short = omega (arith, rest.short, here.short, short_x, short_y);
        stores = λ zero.
            let first : uncounted_in (slot.stores y) ≡ 0 = omega (arith, zero, short_y) in
            let later : sum_by (uncounted slot) ys ≡ 0 = omega (arith, zero, short_y) in
            omega (arith, rest.stores later, here.more first, stores_x, stores_y);
      }

  -- a slot that no store met counts as many
  unmet : (a : Option ℕ) → Counts 0 a a
  unmet a = record { short = omega arith; more = λ zero. omega arith }

  weaker : (n : ℕ) (a b : Option ℕ) → Counts n a b → Counts 0 a b
  weaker n a b c = record { short = c.short; more = λ zero. omega (arith, c.more zero) }

  module _ (block : ℕ → List ℕ) (before now : List D) (same : length now ≡ length before) where
    pub stores_counted : (ended : Ended) → Walked (λ i. IsStored slot (block i)) ended before now → CountsStores slot (if is_err ended then 0 else length before) before now
    stores_counted (Ok u) walked =
        subst (λ (n : ℕ). CountsStores slot n before now) (omega arith)
        (row_counts 1 before now same (λ i d lt. one_store _ _ (Ok tt) (walked i d lt).stores))
    stores_counted (Err e) walked =
        subst (λ (n : ℕ). CountsStores slot n before now) (omega arith)
        (row_counts 0 before now same
        (λ i d lt. at_slot (λ i. IsStored slot (block i)) (λ a b. Counts 0 (slot.stores a) (slot.stores b)) (λ i r a b is. weaker _ _ _ (one_store _ _ r is.stores)) (λ d. unmet (slot.stores d)) (Err e) before now walked i d lt))

-- a count of faults that didn't fall, and one that rose
pub unfallen : (before now : ℕ) → before ≤ now → Counts 0 (Some before) (Some now)
unfallen before now at_least = rises before now 0 at_least (λ below. omega (arith, at_least))

pub risen : (before now : ℕ) → before ≤ now → Rose before now → Counts 1 (Some before) (Some now)
risen before now at_least rose = rises before now 1 at_least (λ below. let more : before < now = rose below in omega (arith, more))

module _ {D : Type 0} (slot : Ghosts D) where
  -- a slot and others count so many faults more
  first_and_rest : (m n : ℕ) (x y : D) (xs ys : List D) → Counts m (Some (slot.faults x)) (Some (slot.faults y)) → CountsFaults slot n xs ys → CountsFaults slot (m + n) (x ∷ xs) (y ∷ ys)
  first_and_rest m n x y xs ys here rest =
      let short : stuck slot x ≤ stuck slot y = here.short in
      let more : stuck slot y ≡ 0 → slot.faults x + m ≤ slot.faults y = here.more in
      let stuck_x = sum_by-cons (stuck slot) x xs in
      let stuck_y = sum_by-cons (stuck slot) y ys in
      let faults_x = sum_by-cons slot.faults x xs in
      let faults_y = sum_by-cons slot.faults y ys in
      let later = rest.stays in
      record {
        stays = omega (arith, short, later, stuck_x, stuck_y);
        faults = λ zero.
            let one = more (omega (arith, zero, stuck_y)) in
            let others = rest.faults (omega (arith, zero, stuck_y)) in
            omega (arith, one, others, faults_x, faults_y);
      }

  -- each slot's count is no less
  none_fell : (before now : List D) → length now ≡ length before → ((i : ℕ) (d : D) → i < length before → slot.faults (slice_index_or before i d) ≤ slot.faults (slice_index_or now i d)) → CountsFaults slot 0 before now
  none_fell [] [] same each = record { stays = omega arith; faults = λ zero. omega arith }
  none_fell [] (y ∷ ys) same each = absurd (omega (arith, same))
  none_fell (x ∷ xs) [] same each = absurd (omega (arith, same))
  none_fell (x ∷ xs) (y ∷ ys) same each =
      first_and_rest 0 0 x y xs ys (unfallen _ _ (each 0 x (omega arith))) (none_fell xs ys (omega (arith, same)) (λ i d lt. each (suc i) d (omega (arith, lt))))

  -- and one of them rose
  one_rose : (i : ℕ) (before now : List D) → length now ≡ length before → i < length before
      → ((j : ℕ) (d : D) → j < length before → slot.faults (slice_index_or before j d) ≤ slot.faults (slice_index_or now j d))
      → ((d : D) → Rose (slot.faults (slice_index_or before i d)) (slot.faults (slice_index_or now i d))) → CountsFaults slot 1 before now
  one_rose i [] now same inside each rose = absurd (omega (arith, inside))
  one_rose i (x ∷ xs) [] same inside each rose = absurd (omega (arith, same))
  one_rose zero (x ∷ xs) (y ∷ ys) same inside each rose =
      first_and_rest 1 0 x y xs ys (risen _ _ (each 0 x (omega arith)) (rose x)) (none_fell xs ys (omega (arith, same)) (λ j d lt. each (suc j) d (omega (arith, lt))))
  one_rose (suc i) (x ∷ xs) (y ∷ ys) same inside each rose =
      first_and_rest 0 1 x y xs ys (unfallen _ _ (each 0 x (omega arith)))
      (one_rose i xs ys (omega (arith, same)) (omega (arith, inside)) (λ j d lt. each (suc j) d (omega (arith, lt))) rose)

  -- a walk of calls, each of which raises a count where it fails
  module _ (Call : ℕ → Ended → D → D → Type 0) (falls : (i : ℕ) (r : Ended) (a b : D) → Call i r a b → slot.faults a ≤ slot.faults b) (fails : (i : ℕ) (e : Failed) (a b : D) → Call i (Err e) a b → Rose (slot.faults a) (slot.faults b))
      (before now : List D) (same : length now ≡ length before) where
    walk_counted : (ended : Ended) → Walked Call ended before now → CountsFaults slot (if is_err ended then 1 else 0) before now
    walk_counted (Ok u) walked = none_fell before now same (at_slot Call (λ a b. slot.faults a ≤ slot.faults b) falls (λ d. omega arith) (Ok u) before now walked)
    walk_counted (Err e) walked =
        let f : FailedAt Call walked.0 e before now = walked.1 in
        one_rose walked.0 before now same f.inside (at_slot Call (λ a b. slot.faults a ≤ slot.faults b) falls (λ d. omega arith) (Err e) before now walked) (λ d. fails walked.0 e _ _ (f.here d))

  module _ (block : ℕ → List ℕ) (before now : List D) (same : length now ≡ length before) (ended : Ended) where
    pub stores_failed : Walked (λ i. IsStored slot (block i)) ended before now → CountsFaults slot (if is_err ended then 1 else 0) before now
    stores_failed = walk_counted (λ i. IsStored slot (block i)) (λ i r a b is. is.never_falls) (λ i e a b is. is.failed) before now same ended

  -- a load that failed raised the count, and one that found another mark didn't lower it
  one_failed : (under : Option ℕ) (name i : ℕ) (shown : List ℕ) (a b : D) → IsLoadedAs slot under name i shown (Err loading.Failed) a b → Rose (slot.faults a) (slot.faults b)
  one_failed (Some version) name i shown a b is = is.failed
  one_failed None name i shown a b is = is.failed

  pub loads_failed : (under : Option ℕ) (name : ℕ) (block : ℕ → List ℕ) (before now : List D) → length now ≡ length before → (ended : MarkedEnded) → Walked (λ i. IsLoadedAs slot under name i (block i)) ended before now
      → CountsFaults slot (if (load_end ended).0 then 1 else 0) before now
  loads_failed under name block before now same (Ok u) walked = none_fell before now same (λ i d lt. (stays slot under name block (Ok u) before now walked i d lt).never_falls)
  loads_failed under name block before now same (Err loading.Failed) walked =
      one_rose walked.0 before now same walked.1.inside (λ i d lt. (stays slot under name block (Err loading.Failed) before now walked i d lt).never_falls) (λ d. one_failed under name walked.0 (block walked.0) _ _ (walked.1.here d))
  loads_failed under name block before now same (Err (loading.Stale wanted found)) walked = none_fell before now same (λ i d lt. (stays slot under name block (Err (loading.Stale wanted found)) before now walked i d lt).never_falls)
