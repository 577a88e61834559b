-- A page that isn't pinned has slots, and its bytes are those of an unpin. With this what is told of a page's
-- bytes is whole.
use Rattle.std.proofs.Common.{◌≡◌, ◌≢◌, ℕ, Bool, true, false, if◌then◌else◌, Option, Some, None, List, [], ◌∷◌, ◌++◌, length, replicate, refl, sym, ap, ◌∙◌, subst, inl, inr, eq-eqb, unwrap_or}
use Rattle.std.specs.FinMap.{get, insert, remove, get-empty}
use Rattle.std.specs.Ordering.{nat_cmp}
use Rattle.reservation_tree.proofs.Maps.{get_same, get_other, removed_same, removed_other, same_or_other}
use Rattle.pool_model.specs.declared.event.Event.{Event}
use Rattle.pool_model.specs.declared.event.Event.TheVariants.{AddTracker, Create, PinHere, PinLoad, ReadOk, ReadFailed, ReadStale, PinAgain, UnpinOnce, Unpin, Extract, Destroy, StartWrite, WriteOk, WriteFailed, Evict}
use Rattle.pool_model.specs.declared.entry.Entry.{Entry}
use Rattle.pool_model.specs.Bytes.{bytes_of}
use Rattle.pool_model.specs.State.{opened, Place, Pinned, Dirty, Flying, Loading, Clean, Evicted, no_page, Page, page_at, State}
use Rattle.pool_model.specs.Sums.{length_of}
use Rattle.pool_model.specs.LookingBack.{Made, left_in, content_from, content_of}
use Rattle.pool_model.specs.MayFollow.{Allows, MayFollow}
use Rattle.pool_model.specs.Effects.{effect, after}
use Rattle.pool_model.specs.Legal.{state_after}
use Rattle.pool_model.specs.Sound.{IsSound}
use Rattle.pool_model.specs.HistoryLaws.{made}
use Rattle.pool_model.specs.OwnLaws.{LegalContentsAreTold}
use Rattle.pool_model.proofs.Seats.{some_is}
use Rattle.pool_model.proofs.Pages.{page_is}
use Rattle.pool_model.proofs.Fronts.{holds_after}
use Rattle.pool_model.proofs.Frames.{entries_leave_rest}
use Rattle.pool_model.proofs.Made.{legal_pages_as_made}
use Rattle.pool_model.proofs.Failures.{PagesOwned, owned_on}
use Rattle.pool_model.proofs.OwnEntries.{content_more}
use Rattle.pool_model.proofs.Untouched.{AreUntouched, untouched_on}
use Rattle.pool_model.proofs.Contents.{Shows, AllShow, all_show_on}

-- what is read of the page's bytes hangs on nothing that was there before the history
abbrev Settled : ℕ → List Entry → Type 0
Settled p h = (a b : List ℕ) → content_from p a h ≡ content_from p b h

abbrev IsPinned : Place → Type 0
IsPinned place = (count : ℕ) × (place ≡ Pinned count)

record WasLeft (h : List Entry) (p : ℕ) (x : Page) : Type 0 where
  pinned : x.has_slots ≡ false → IsPinned x.place
  left : x.has_slots ≡ true → Settled p h

more_left : (h : List Entry) (p : ℕ) (x : Page) (e : Entry) → WasLeft h p x → WasLeft (h ++ e ∷ []) p x
more_left h p x e was = record {
  pinned = was.pinned;
  left = λ has a b. content_more p a h e ∙ ap (left_in p e.event) (was.left has a b) ∙ sym (content_more p b h e);
}

-- an unpin settles its page
unpin_settles : (h : List Entry) (p : ℕ) (e : Entry) (content : List ℕ) → e.event ≡ Unpin p content → Settled p (h ++ e ∷ [])
unpin_settles h p e content is a b =
    let own : (old : List ℕ) → left_in p e.event old ≡ content = λ old.
    ap (λ (event : Event). left_in p event old) is ∙ ap (λ (t : Bool). if t then content else old) (eq-eqb p p refl) in
    content_more p a h e ∙ own (content_from p a h) ∙ sym (own (content_from p b h)) ∙ sym (content_more p b h e)

module _ (before : List Entry) (s : State) (kept : (p : ℕ) (x : Page) → get s.pages p ≡ Some x → WasLeft before p x) where
  -- a page that isn't pinned has slots
  not_bare : (p : ℕ) (x : Page) → get s.pages p ≡ Some x → (old place : Place) → x.place ≡ old → ((count : ℕ) → old ≢ Pinned count) → x.has_slots ≡ false → IsPinned place
  not_bare p x is old place at never bare = let was : IsPinned x.place = (kept p x is).pinned bare in absurd (never was.0 (sym at ∙ was.1))

  put_left : (p : ℕ) (x : Page) → get s.pages p ≡ Some x → (place : Place) (version : ℕ → ℕ) → (x.has_slots ≡ false → IsPinned place) → (q : ℕ) (y : Page) → get (insert s.pages p (record (page_at s p) { place = place; version = version (page_at s p).version })) q ≡ Some y → WasLeft before q y
  put_left p x is place version pinned q y there = elim (same_or_other q p) [
    | inl here ↦
        let w : Page = record x { place = place; version = version x.version } in
        let now : get (insert s.pages p (record (page_at s p) { place = place; version = version (page_at s p).version })) p ≡ Some w = get_same s.pages p _ ∙ ap (λ (z : Page). Some (record z { place = place; version = version z.version })) (page_is s p x is) in
        let same : w ≡ y = some_is w y (sym now ∙ ap (get (insert s.pages p (record (page_at s p) { place = place; version = version (page_at s p).version }))) (sym here) ∙ there) in
        subst (λ (r : ℕ). WasLeft before r y) (sym here) (subst (WasLeft before p) same (record { pinned = pinned; left = (kept p x is).left }))
    | inr apart ↦ kept q y (sym (get_other s.pages p _ q apart) ∙ there)
  ]

  gone_left : (p q : ℕ) (y : Page) → get (remove s.pages p) q ≡ Some y → WasLeft before q y
  gone_left p q y there = elim (same_or_other q p) [
    | inl here ↦ let none : None ≡ Some y = sym (removed_same s.pages p) ∙ ap (get (remove s.pages p)) (sym here) ∙ there in cc
    | inr apart ↦ kept q y (sym (removed_other s.pages p q apart) ∙ there)
  ]

  -- the page that was unpinned, and the others
  unpin_left : (maker p : ℕ) (content : List ℕ) (q : ℕ) (y : Page) → get (effect maker (Unpin p content) s).pages q ≡ Some y → WasLeft (before ++ record { maker = maker; event = Unpin p content } ∷ []) q y
  unpin_left maker p content q y there =
      let e : Entry = record { maker = maker; event = Unpin p content } in
      let w : Page = record (page_at s p) { has_slots = true } in
      let last : Page = record (unwrap_or (get (insert s.pages p w) p) no_page) { place = Dirty } in
      elim (same_or_other q p) [
        | inl here ↦
            let same : last ≡ y = some_is last y (sym (get_same (insert s.pages p w) p last) ∙ ap (get (insert (insert s.pages p w) p last)) (sym here) ∙ there) in
            let has : y.has_slots ≡ true = sym (ap (λ (z : Page). z.has_slots) same) ∙ ap (λ (o : Option Page). (unwrap_or o no_page).has_slots) (get_same s.pages p w) in
            record {
              pinned = λ bare. let never : true ≡ false = sym has ∙ bare in cc;
              left = λ _. subst (λ (r : ℕ). Settled r (before ++ e ∷ [])) (sym here) (unpin_settles before p e content refl);
            }
        | inr apart ↦ more_left before q y e (kept q y (sym (get_other (insert s.pages p w) p last q apart ∙ get_other s.pages p w q apart) ∙ there))
      ]

  left_on : (maker : ℕ) (event : Event) → Allows before s maker event → (q : ℕ) (y : Page) → get (effect maker event s).pages q ≡ Some y → WasLeft (before ++ record { maker = maker; event = event } ∷ []) q y
  left_on maker (AddTracker t parent limit (Some quota)) may q y there = more_left before q y _ (kept q y there)
  left_on maker (AddTracker t parent limit None) may q y there = more_left before q y _ (kept q y there)
  left_on maker (Create p client blocks key) may q y there = elim (same_or_other q p) [
    | inl here ↦
        let w : Page = record { key = key; session = maker; client = client; blocks = blocks; place = Pinned 1; has_slots = false; version = 0 } in
        let same : w ≡ y = some_is w y (sym (get_same s.pages p w) ∙ ap (get (insert s.pages p w)) (sym here) ∙ there) in
        subst (WasLeft (before ++ record { maker = maker; event = Create p client blocks key } ∷ []) q) same (record { pinned = λ bare. (1, refl); left = λ has. let never : false ≡ true = has in cc })
    | inr apart ↦ more_left before q y _ (kept q y (sym (get_other s.pages p _ q apart) ∙ there))
  ]
  left_on maker (PinHere p) may q y there = more_left before q y _ (put_left p may.page may.own.lives (Pinned 1) (λ n. n) (λ bare. (1, refl)) q y there)
  left_on maker (PinLoad p) may q y there = more_left before q y _ (put_left p may.page may.own.lives Loading (λ n. n) (not_bare p may.page may.own.lives Evicted Loading may.evicted (λ count same. cc)) q y there)
  left_on maker (ReadOk p) may q y there = more_left before q y _ (put_left p may.page may.own.lives (Pinned 1) (λ n. n) (λ bare. (1, refl)) q y there)
  left_on maker (ReadFailed p sum_before sum_after) may q y there =
      more_left before q y _ (put_left p may.ends.page may.ends.own.lives Evicted (λ n. n) (not_bare p may.ends.page may.ends.own.lives Loading Evicted may.ends.loading (λ count same. cc)) q y there)
  left_on maker (ReadStale p wanted found) may q y there =
      more_left before q y _ (put_left p may.ends.page may.ends.own.lives Evicted (λ n. n) (not_bare p may.ends.page may.ends.own.lives Loading Evicted may.ends.loading (λ count same. cc)) q y there)
  left_on maker (PinAgain p) may q y there = more_left before q y _ (put_left p may.page may.own.lives _ (λ n. n) (λ bare. (_, refl)) q y there)
  left_on maker (UnpinOnce p) may q y there = more_left before q y _ (put_left p may.page may.own.lives _ (λ n. n) (λ bare. (_, refl)) q y there)
  left_on maker (Unpin p content) may q y there = unpin_left maker p content q y there
  left_on maker (Extract p f) may q y there = more_left before q y _ (gone_left p q y there)
  left_on maker (Destroy p) may q y there = more_left before q y _ (gone_left p q y there)
  left_on maker (StartWrite p) may q y there = more_left before q y _ (put_left p may.page may.lives (Flying maker) (λ _. s.entries) (not_bare p may.page may.lives Dirty (Flying maker) may.dirty (λ count same. cc)) q y there)
  left_on maker (WriteOk p) may q y there = more_left before q y _ (put_left p may.page may.lives Clean (λ n. n) (not_bare p may.page may.lives (Flying maker) Clean may.flying (λ count same. cc)) q y there)
  left_on maker (WriteFailed p sum_before sum_after) may q y there =
      more_left before q y _ (put_left p may.ends.page may.ends.lives Dirty (λ n. n) (not_bare p may.ends.page may.ends.lives (Flying maker) Dirty may.ends.flying (λ count same. cc)) q y there)
  left_on maker (Evict p) may q y there = more_left before q y _ (put_left p may.page may.lives Evicted (λ n. n) (not_bare p may.page may.lives Clean Evicted may.clean (λ count same. cc)) q y there)
  left_on maker event may q y there = more_left before q y _ (kept q y there)

record Tells (block_len : ℕ) (h : List Entry) (s : State) : Type 0 where
  long : s.block_len ≡ block_len
  owned : PagesOwned s
  quiet : AreUntouched h s
  show : AllShow h s
  left : (p : ℕ) (x : Page) → get s.pages p ≡ Some x → WasLeft h p x

tells_on : (block_len : ℕ) (before : List Entry) (s : State) → IsSound s → Tells block_len before s → (e : Entry) → MayFollow before s e → Tells block_len (before ++ e ∷ []) (after s e)
tells_on block_len before s sound it e may = record {
  long = (entries_leave_rest s e).block_len ∙ it.long;
  owned = owned_on before s sound it.owned e may;
  quiet = untouched_on before s sound it.quiet e may;
  show = all_show_on before s sound it.owned it.quiet it.show e may;
  left = left_on before s it.left e.maker e.event may.allows;
}

pub legal_contents_are_told : LegalContentsAreTold
legal_contents_are_told o h legal p x is =
    let nobody : (q : ℕ) (y : Page) → get (opened o).pages q ≡ Some y → None ≡ Some y = λ q y there. sym (get-empty nat_cmp q) ∙ there in
    let it : Tells o.block_len h (state_after o h) = holds_after (Tells o.block_len) (tells_on o.block_len) o (record {
      long = refl;
      owned = λ q y there. let none : None ≡ Some y = nobody q y there in cc;
      quiet = λ q above. refl;
      show = λ q y there. let none : None ≡ Some y = nobody q y there in cc;
      left = λ q y there. let none : None ≡ Some y = nobody q y there in cc;
    }) h legal in
    let shows : Shows (state_after o h).block_len h p (made x) = it.show p x is in
    let was : WasLeft h p x = it.left p x is in
    let zeros : List ℕ = replicate (length_of (state_after o h) x.blocks) 0 in
    let told : content_of o h p ≡ content_from p zeros h =
    ap (λ (m : Option Made). content_from p (elim m [ None ↦ [] | Some one ↦ replicate (bytes_of o.block_len one.blocks) 0 ]) h) (legal_pages_as_made o h legal p x is)
    ∙ ap (λ (n : ℕ). content_from p (replicate (bytes_of n x.blocks) 0) h) (sym it.long) in
    record {
      told = told;
      whole = ap length told ∙ shows.whole;
      left = λ has old. told ∙ was.left has zeros old;
      rests = λ free. elim x.has_slots as (λ b. x.has_slots ≡ b → b ≡ true) [
        | true ↦ λ has. refl
        | false ↦ λ bare. let pinned : IsPinned x.place = was.pinned bare in absurd (free pinned.0 pinned.1)
      ] refl;
      own = shows.own;
    }
