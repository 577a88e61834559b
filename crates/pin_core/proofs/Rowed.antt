-- What a walk over a row leaves of its slots, and what a load shows.
use Rattle.std.proofs.Common.{◌≡◌, ℕ, suc, ◌+◌, ◌-◌, ◌*◌, ◌<◌, Bool, true, false, List, [], ◌∷◌, length, map, get_or, Ok, Err, refl, ap, sym, ◌∙◌, subst, inl, inr, arith, ◌≤◌, ◌++◌, Option, Some, None, Result, take, length-append}
use Rattle.std.specs.List.{slice_range, slice_index_or}
use Rattle.std.specs.Result.{is_err}
use Rattle.std.proofs.lemmas.Bool.{false≢true, cases_lt}
use Rattle.std.proofs.lemmas.List.{get_or-drop}
use Rattle.outside.specs.Slots.{told_block, ShowsHeld, Strays, KeepsStrays}
use Rattle.outside.specs.declared.slot.Slot.{Ghosts}
use Rattle.scratch_dev.specs.Rows.{Ended, MarkedEnded, IsLoaded, GaveOther, IsStored, Walked, FailedAt, mark_of}
use Rattle.scratch_dev.specs.declared.marked.LoadErr.TheVariants as loading
use Rattle.reservation_tree.specs.declared.mark.Mark.{Mark}
use Rattle.reservation_tree.specs.Marks.{mark_bytes}
use Rattle.reservation_tree.proofs.Marks.{length-mark, take-mark, marks_differ}
use Rattle.reservation_tree.proofs.Maps.{same_or_other}
use Rattle.pin_core.specs.Standing.{AreHeld}
use Rattle.pin_core.specs.Marking.{front_of}
use Rattle.pin_core.specs.calls.Runs.{AllTell, AllGiveHeld, IsLoadedAs, GaveBytes, is_sure}
use Rattle.pin_core.proofs.Sure.{sure_same}
use Rattle.pin_core.proofs.Shown.{row_shown, tells_shown, block_length, some_of, gives_held}

module _ {D E : Type 0} (Call : ℕ → Result (Unit {0}) E → D → D → Type 0) (Keeps : D → D → Type 0) (one : (i : ℕ) (r : Result (Unit {0}) E) (before now : D) → Call i r before now → Keeps before now) (none : (d : D) → Keeps d d) where
  -- what each call keeps of a slot is kept of each slot of the row
  pub at_slot : (r : Result (Unit {0}) E) (before now : List D) → Walked Call r before now → (i : ℕ) (d : D) → i < length before → Keeps (slice_index_or before i d) (slice_index_or now i d)
  at_slot (Ok u) before now walked i d lt = one i (Ok tt) _ _ (walked i d lt)
  at_slot (Err e) before now walked i d lt =
      let f : FailedAt Call walked.0 e before now = walked.1 in
      elim (cases_lt i walked.0) [
        | inl earlier ↦ one i (Ok tt) _ _ (f.earlier i d earlier)
        | inr not_earlier ↦ elim (same_or_other i walked.0) [
          | inl here ↦ subst (λ (j : ℕ). Keeps (slice_index_or before j d) (slice_index_or now j d)) (sym here) (one walked.0 (Err e) _ _ (f.here d))
          | inr other ↦
              let k : ℕ = i - (walked.0 + 1) in
              let at : walked.0 + 1 + k ≡ i = omega (arith, not_earlier, other) in
              let same : get_or now i d ≡ get_or before i d =
              ap (λ (j : ℕ). get_or now j d) (sym at) ∙ sym (get_or-drop (walked.0 + 1) now k d) ∙ ap (λ (l : List D). get_or l k d) f.later
              ∙ get_or-drop (walked.0 + 1) before k d ∙ ap (λ (j : ℕ). get_or before j d) at in
              subst (Keeps (get_or before i d)) (sym same) (none (get_or before i d))
        ]
      ]

-- what is the same of each slot is the same of the row
pub same_map : {D X : Type 0} (f : D → X) (before now : List D) → length now ≡ length before → ((i : ℕ) (d : D) → i < length before → f (slice_index_or now i d) ≡ f (slice_index_or before i d)) → map f now ≡ map f before
same_map f [] [] same each = refl
same_map f [] (y ∷ ys) same each = absurd (omega (arith, same))
same_map f (x ∷ xs) [] same each = absurd (omega (arith, same))
same_map f (x ∷ xs) (y ∷ ys) same each =
    let rest = same_map f xs ys (omega (arith, same)) (λ i d lt. each (suc i) d (omega (arith, lt))) in
    let here : f y ≡ f x = each 0 x (omega arith) in
    λ i. here i ∷ rest i

pub keeps_same : (s : Option Strays) → KeepsStrays s s
keeps_same None = refl
keeps_same (Some s) = (refl, omega arith)

module _ {D : Type 0} (slot : Ghosts D) where
  -- what a load leaves of a slot, however it ended
  pub record Stays (before now : D) : Type 0 where
    pub held : slot.held now ≡ slot.held before
    pub tells : slot.tells now ≡ slot.tells before
    pub stores : slot.stores now ≡ slot.stores before
    pub never_falls : slot.faults before ≤ slot.faults now
    pub strays : KeepsStrays (slot.strays before) (slot.strays now)

  pub stored_tells : (block : ℕ → List ℕ) (r : Ended) (before now : List D) → Walked (λ i. IsStored slot (block i)) r before now → length now ≡ length before → map (is_sure slot) now ≡ map (is_sure slot) before
  stored_tells block r before now walked same =
      same_map (is_sure slot) before now same
      (λ i d lt. at_slot (λ i. IsStored slot (block i)) (λ a b. is_sure slot b ≡ is_sure slot a) (λ i r a b is. sure_same (slot.tells a) (slot.tells b) (slot.strays a) (slot.strays b) is.tells is.strays) (λ d. refl) r before now walked i d lt)

  loaded_stays : (bytes : List ℕ) (r : Ended) (a b : D) → IsLoaded slot bytes r a b → Stays a b
  loaded_stays bytes r a b is = record { held = is.held; tells = is.tells; stores = is.stores; never_falls = is.never_falls; strays = is.strays }

  pub one_stays : (under : Option ℕ) (name i : ℕ) (shown : List ℕ) (r : MarkedEnded) (a b : D) → IsLoadedAs slot under name i shown r a b → Stays a b
  one_stays (Some version) name i shown (Ok u) a b is = loaded_stays _ _ a b is
  one_stays (Some version) name i shown (Err loading.Failed) a b is = loaded_stays _ _ a b is
  one_stays (Some version) name i shown (Err (loading.Stale wanted found)) a b is = loaded_stays _ _ a b is.1.loaded
  one_stays None name i shown (Ok u) a b is = loaded_stays _ _ a b is
  one_stays None name i shown (Err loading.Failed) a b is = loaded_stays _ _ a b is
  one_stays None name i shown (Err (loading.Stale wanted found)) a b is = absurd is

  module _ (under : Option ℕ) (name : ℕ) (shown : ℕ → List ℕ) (r : MarkedEnded) (before now : List D) (walked : Walked (λ i. IsLoadedAs slot under name i (shown i)) r before now) where
    pub stays : (i : ℕ) (d : D) → i < length before → Stays (slice_index_or before i d) (slice_index_or now i d)
    stays i d lt = at_slot (λ i. IsLoadedAs slot under name i (shown i)) Stays (λ i r a b is. one_stays under name i (shown i) r a b is) (λ d. record { held = refl; tells = refl; stores = refl; never_falls = omega arith; strays = keeps_same (slot.strays d) }) r before now walked i d lt

    pub loaded_stores : length now ≡ length before → map slot.stores now ≡ map slot.stores before
    loaded_stores same = same_map slot.stores before now same (λ i d lt. (stays i d lt).stores)

    pub loaded_tells : length now ≡ length before → map (is_sure slot) now ≡ map (is_sure slot) before
    loaded_tells same = same_map (is_sure slot) before now same (λ i d lt. let it = stays i d lt in sure_same (slot.tells (slice_index_or before i d)) (slot.tells (slice_index_or now i d)) (slot.strays (slice_index_or before i d)) (slot.strays (slice_index_or now i d)) it.tells it.strays)

    -- slots hold after a load what they held before
    pub still_held : length now ≡ length before → (len : ℕ) (bytes : List ℕ) → AreHeld slot under name len before bytes → AreHeld slot under name len now bytes
    still_held same len bytes held i d lt =
        let below : i < length before = omega (arith, lt, same) in
        let one : Stays (slice_index_or before i d) (slice_index_or now i d) = stays i d below in
        one.held ∙ held i d below ∙ ap (λ (b : Bool). told_block b (front_of under name i ++ slice_range bytes (i * len) (i * len + len))) (sym one.tells)

  -- each load gave what stands in front of its block, and the block
  pub all_gave : (under : Option ℕ) (name : ℕ) (shown : ℕ → List ℕ) (r : MarkedEnded) (before now : List D) → Walked (λ i. IsLoadedAs slot under name i (shown i)) r before now → is_err r ≡ false
      → (i : ℕ) (d : D) → i < length before → GaveBytes slot (front_of under name i ++ shown i) (slice_index_or before i d) (slice_index_or now i d)
  all_gave (Some version) name shown (Ok u) before now walked well i d lt = walked i d lt
  all_gave None name shown (Ok u) before now walked well i d lt = walked i d lt
  all_gave under name shown (Err e) before now walked well i d lt = absurd (false≢true (sym well))

  -- a load that went well shows the bytes that the slots hold, where all of them tell, and none strayed
  pub load_shows : (under : Option ℕ) (name len n : ℕ) (r : MarkedEnded) (before now : List D) (shown : List ℕ) → Walked (λ i. IsLoadedAs slot under name i (slice_range shown (i * len) (i * len + len))) r before now
      → is_err r ≡ false → n ≡ length before → length shown ≡ n * len → (bytes : List ℕ) → length bytes ≡ n * len → AllTell slot before → AllGiveHeld slot before now → AreHeld slot under name len before bytes → shown ≡ bytes
  load_shows under name len n r before now shown walked well count long bytes same tell gives held =
      row_shown slot under name len n before bytes shown count same long held tell
      (λ i d lt. gives_held _ _ _ _ (all_gave under name (λ i. slice_range shown (i * len) (i * len + len)) r before now walked well i d lt).shows (gives i d lt))

  -- a load that gave another mark didn't show the block that the slot told
  pub other_given : (name version len i : ℕ) (wanted found : Mark) (a b : D) (block piece : List ℕ) → length block ≡ len → length piece ≡ len → slot.held a ≡ told_block (slot.tells a) (mark_bytes (mark_of name version i) ++ block)
      → wanted ≡ mark_of name version i → (g : GaveOther slot (length piece) wanted found a b) → slot.tells a ≡ true → ShowsHeld (slot.held a) g.given → ⊥
  other_given name version len i wanted found a b block piece size shown_size held named g does shows =
      let front_size : length (mark_bytes (mark_of name version i) ++ block) ≡ 20 + length block = length-append (mark_bytes (mark_of name version i)) block ∙ ap (λ (k : ℕ). k + length block) (length-mark (mark_of name version i)) in
      let given : g.given ≡ mark_bytes (mark_of name version i) ++ block =
      tells_shown (slot.tells a) (slot.held a) (mark_bytes (mark_of name version i) ++ block) g.given does held shows (omega (arith, front_size, size, shown_size, g.long)) in
      let marks : mark_bytes found ≡ mark_bytes wanted = sym g.front ∙ ap (take 20) given ∙ take-mark (mark_of name version i) block ∙ ap mark_bytes (sym named) in
      g.other (marks_differ found wanted g.found_is g.wanted_is marks)

  -- nor was another mark found then
  pub none_stale : (under : Option ℕ) (name len n : ℕ) (wanted found : Mark) (before now : List D) (shown : List ℕ) → Walked (λ i. IsLoadedAs slot under name i (slice_range shown (i * len) (i * len + len))) (Err (loading.Stale wanted found)) before now
      → n ≡ length before → length shown ≡ n * len → (bytes : List ℕ) → length bytes ≡ n * len → AllTell slot before → AllGiveHeld slot before now → AreHeld slot under name len before bytes → ⊥
  none_stale None name len n wanted found before now shown walked count long bytes same tell gives held = walked.1.here (some_of before walked.0 walked.1.inside)
  none_stale (Some version) name len n wanted found before now shown walked count long bytes same tell gives held =
      let i : ℕ = walked.0 in
      let inside : i < length before = walked.1.inside in
      let d : D = some_of before i inside in
      let both : (wanted ≡ mark_of name version i) × GaveOther slot (length (slice_range shown (i * len) (i * len + len))) wanted found (slice_index_or before i d) (slice_index_or now i d) = walked.1.here d in
      let g : GaveOther slot (length (slice_range shown (i * len) (i * len + len))) wanted found (slice_index_or before i d) (slice_index_or now i d) = both.1 in
      let below : i < n = omega (arith, inside, count) in
      other_given name version len i wanted found (slice_index_or before i d) (slice_index_or now i d) (slice_range bytes (i * len) (i * len + len)) (slice_range shown (i * len) (i * len + len))
      (block_length len n i bytes same below) (block_length len n i shown long below) (held i d inside) both.0 g (tell i d inside) (gives_held _ _ _ _ g.loaded.shows (gives i d inside))
