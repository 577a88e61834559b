-- What one entry of a session or of others does to what waits of the session's pages to be written.
use Rattle.std.proofs.Common.{◌≡◌, ◌≢◌, ℕ, ◌+◌, ◌-◌, ◌*◌, ◌≤◌, ◌==◌, if◌then◌else◌, List, length, Bool, true, false, Some, None, refl, ap, sym, ◌∙◌, inl, inr, arith, eq-eqb}
use Rattle.std.specs.FinMap.{get, insert}
use Rattle.reservation_tree.proofs.Maps.{same_or_other}
use Rattle.pool_model.specs.declared.event.Event.{Event}
use Rattle.pool_model.specs.declared.event.Event.TheVariants.{AddTracker, Create, PinHere, PinLoad, ReadOk, ReadFailed, ReadStale, PinAgain, UnpinOnce, Unpin, Extract, Destroy, StartWrite, WriteOk, WriteFailed, Evict}
use Rattle.pool_model.specs.declared.entry.Entry.{Entry}
use Rattle.pool_model.specs.Bytes.{bytes_of, only_if}
use Rattle.pool_model.specs.State.{Place, Pinned, Dirty, Flying, Loading, Clean, Evicted, Page, page_at, State}
use Rattle.pool_model.specs.Failures.{is_own}
use Rattle.pool_model.specs.LookingBack.{Made, maker_of}
use Rattle.pool_model.specs.HistoryLaws.{made}
use Rattle.pool_model.specs.Parts.{pins_at}
use Rattle.pool_model.specs.MayFollow.{Allows}
use Rattle.pool_model.specs.Effects.{effect}
use Rattle.pool_model.specs.Sound.{IsSound}
use Rattle.pool_model.proofs.Made.{TellsPages}
use Rattle.pool_model.proofs.Weights.{only_when, not_mine, one_time}
use Rattle.own_entries.proofs.ByOthers.{none_there, unpinned_pages}
use Rattle.pin_core.specs.Tallies.{blocks_of}
use Rattle.tuple_stream.specs.Trails.{IsBuilding}
use Rattle.session_shares.specs.Shares.{stored_for}
use Rattle.session_shares.proofs.Unwritten.{times_unwritten, waiting, unwritten_for, came, put, gone, counted, moved, moved_less, not_counted}

-- how many bytes an event leaves, and how many where this session made it
abbrev pub len_left : Event → ℕ
len_left (Unpin p content) = length content
len_left _ = 0

abbrev pub left_for : ℕ → ℕ → Event → ℕ
left_for m maker (Unpin p content) = only_if (maker == m) (length content)
left_for m maker _ = 0

pub left_own : (m maker : ℕ) → maker ≡ m → (e : Event) → left_for m maker e ≡ len_left e
left_own m maker own (Unpin p content) = only_when (maker == m) (length content) (eq-eqb maker m own)
left_own m maker own _ = refl

-- the bytes of so many blocks, as a product
long_as : (len blocks : ℕ) → blocks * len ≡ bytes_of len blocks
unfolding bytes_of
long_as len blocks = refl

all_or_none : (b : Bool) (len blocks : ℕ) → (if b then blocks else 0) * len ≡ only_if b (1 * bytes_of len blocks)
all_or_none true len blocks = long_as len blocks ∙ sym (one_time _)
all_or_none false len blocks = omega arith

module _ (m len : ℕ) (whole before : List Entry) (s : State) (sound : IsSound s) (long : s.block_len ≡ len) (tells : TellsPages before s)
    (known : (p : ℕ) (made_so : Made) → maker_of before p ≡ Some made_so → maker_of whole p ≡ Some made_so) where
  -- what the session leaves by an event waits to be written behind it, and so does what did before, but for what the
  -- event stored
  abbrev Keeps : ℕ → Event → Type 0
  Keeps maker e = left_for m maker e + unwritten_for m len s.pages ≤ unwritten_for m len (effect maker e s).pages + stored_for m whole e * len

  -- a page of another session doesn't count
  foreign : (maker : ℕ) (x : Page) → x.session ≡ maker → maker ≢ m → waiting m len x ≡ 0
  foreign maker x own other = not_mine x.session m _ (λ same. other (sym own ∙ same))

  -- a write that ended well stored its page
  written : (maker p : ℕ) (x : Page) → get s.pages p ≡ Some x → x.place ≡ Flying maker → Keeps maker (WriteOk p)
  written maker p x is flying =
      let now = moved m len s p x is (λ n. n) (Flying maker) Clean flying in
      let none : counted m len s p x is Clean ≡ 0 = not_counted m len s p x is Clean refl in
      let blocks : stored_for m whole (WriteOk p) ≡ (if x.session == m then x.blocks else 0) = ap (λ o. if is_own m o then blocks_of o else 0) (known p (made x) (tells.as_made p x is)) in
      let stored : stored_for m whole (WriteOk p) * len ≡ counted m len s p x is (Flying maker) = ap (λ (n : ℕ). n * len) blocks ∙ all_or_none (x.session == m) len x.blocks in
      omega (arith, now, none, stored)

  -- an unpin leaves its page to be written
  left_dirty : (maker p : ℕ) (content : List ℕ) (x : Page) → get s.pages p ≡ Some x → x.session ≡ maker → x.place ≡ Pinned 1 → length content ≡ bytes_of s.block_len x.blocks
      → Keeps maker (Unpin p content)
  left_dirty maker p content x is own pinned fits =
      let w : Page = record x { place = Dirty; has_slots = true } in
      let now : unwritten_for m len (insert s.pages p w) + waiting m len x ≡ unwritten_for m len s.pages + counted m len s p x is Dirty = put m len s.pages p x is w in
      let was : waiting m len x ≡ 0 = ap (counted m len s p x is) pinned ∙ not_counted m len s p x is (Pinned 1) refl in
      let same : unwritten_for m len (effect maker (Unpin p content) s).pages ≡ unwritten_for m len (insert s.pages p w) = ap (unwritten_for m len) (unpinned_pages s p x is) in
      let whole_page : length content ≡ 1 * bytes_of len x.blocks = fits ∙ ap (λ (n : ℕ). bytes_of n x.blocks) long ∙ sym (one_time _) in
      let left : only_if (maker == m) (length content) ≡ counted m len s p x is Dirty = ap (λ (k : ℕ). only_if (k == m) (length content)) (sym own) ∙ ap (only_if (x.session == m)) whole_page in
      omega (arith, now, was, same, left)

  -- a page that another session pins here, or ends, doesn't count
  pinned_here : (maker p : ℕ) (x : Page) → get s.pages p ≡ Some x → x.session ≡ maker → maker ≢ m → Keeps maker (PinHere p)
  pinned_here maker p x is own other =
      let now = moved m len s p x is (λ n. n) x.place (Pinned 1) refl in
      let was : counted m len s p x is x.place ≡ 0 = foreign maker x own other in
      omega (arith, now, was)

  ended : (maker p : ℕ) (x : Page) → get s.pages p ≡ Some x → x.session ≡ maker → maker ≢ m → Keeps maker (Destroy p)
  ended maker p x is own other =
      let now = gone m len s.pages p x is in
      let was : waiting m len x ≡ 0 = foreign maker x own other in
      omega (arith, now, was)

  extracted : (maker p f : ℕ) (x : Page) → get s.pages p ≡ Some x → x.place ≡ Pinned 1 → Keeps maker (Extract p f)
  extracted maker p f x is pinned =
      let now = gone m len s.pages p x is in
      let was : waiting m len x ≡ 0 = ap (counted m len s p x is) pinned ∙ not_counted m len s p x is (Pinned 1) refl in
      omega (arith, now, was)

  -- a page that didn't wait to be written went elsewhere
  rested : (p : ℕ) (x : Page) (is : get s.pages p ≡ Some x) (old place : Place) → x.place ≡ old → times_unwritten old ≡ 0
      → unwritten_for m len s.pages ≤ unwritten_for m len (insert s.pages p (record (page_at s p) { place = place }))
  rested p x is old place was none = moved_less m len s p x is old place was (not_counted m len s p x is old none)

  -- every event, where the session itself neither pins a page again nor ends one
  pub keeps : (maker : ℕ) (e : Event) → Allows before s maker e → (maker ≡ m → IsBuilding e) → Keeps maker e
  keeps maker (AddTracker t parent limit (Some quota)) may building = omega arith
  keeps maker (AddTracker t parent limit None) may building = omega arith
  keeps maker (Create p client blocks key) may building =
      let more = came m len s.pages p (record { key = key; session = maker; client = client; blocks = blocks; place = Pinned 1; has_slots = false; version = 0 })
      (none_there (get s.pages p) (λ y there. let low = sound.owned.names p y there in let next : p ≡ s.next_name = may.next in omega (arith, low, next))) in
      omega (arith, more)
  keeps maker (PinHere p) may building = elim (same_or_other maker m) [
    | inl own ↦ absurd (building own)
    | inr other ↦ pinned_here maker p may.page may.own.lives may.own.own other
  ]
  keeps maker (PinLoad p) may building = let more = rested p may.page may.own.lives Evicted Loading may.evicted refl in omega (arith, more)
  keeps maker (ReadOk p) may building = let more = rested p may.page may.own.lives Loading (Pinned 1) may.loading refl in omega (arith, more)
  keeps maker (ReadFailed p sum_before sum_after) may building = let more = rested p may.ends.page may.ends.own.lives Loading Evicted may.ends.loading refl in omega (arith, more)
  keeps maker (ReadStale p wanted found) may building = let more = rested p may.ends.page may.ends.own.lives Loading Evicted may.ends.loading refl in omega (arith, more)
  keeps maker (PinAgain p) may building = let more = rested p may.page may.own.lives (Pinned may.count) (Pinned (pins_at s p + 1)) may.pinned refl in omega (arith, more)
  keeps maker (UnpinOnce p) may building = let more = rested p may.page may.own.lives (Pinned may.count) (Pinned (pins_at s p - 1)) may.pinned refl in omega (arith, more)
  keeps maker (Unpin p content) may building = left_dirty maker p content may.page may.own.lives may.own.own may.pinned may.whole
  keeps maker (Extract p f) may building = extracted maker p f may.page may.own.lives may.pinned
  keeps maker (Destroy p) may building = elim (same_or_other maker m) [
    | inl own ↦ absurd (building own)
    | inr other ↦ ended maker p may.page may.own.lives may.own.own other
  ]
  keeps maker (StartWrite p) may building = let now = moved m len s p may.page may.lives (λ n. s.entries) Dirty (Flying maker) may.dirty in omega (arith, now)
  keeps maker (WriteOk p) may building = written maker p may.page may.lives may.flying
  keeps maker (WriteFailed p sum_before sum_after) may building = let now = moved m len s p may.ends.page may.ends.lives (λ n. n) (Flying maker) Dirty may.ends.flying in omega (arith, now)
  keeps maker (Evict p) may building = let more = rested p may.page may.lives Clean Evicted may.clean refl in omega (arith, more)
  keeps maker _ may building = omega arith
