-- What a page's version tells: by which entry its last write began, and with which bytes.
use Rattle.std.proofs.Common.{◌≡◌, ◌≢◌, ℕ, ◌+◌, ◌<◌, Bool, true, false, if◌then◌else◌, Option, Some, None, List, [], ◌∷◌, ◌++◌, length, replicate, refl, sym, ap, ◌∙◌, subst, arith, inl, inr, eq-eqb, ne_eqb, add-zero}
use Rattle.std.specs.FinMap.{get, insert, remove, get-empty}
use Rattle.std.specs.Ordering.{nat_cmp}
use Rattle.std.proofs.lemmas.Bool.{false≢true}
use Rattle.std.proofs.lemmas.List.{append_assoc}
use Rattle.reservation_tree.proofs.Maps.{get_same, get_other, removed_same, removed_other, same_or_other}
use Rattle.pool_model.specs.declared.event.Event.{Event}
use Rattle.pool_model.specs.declared.event.Event.TheVariants.{AddTracker, Create, PinHere, PinLoad, ReadOk, ReadFailed, ReadStale, PinAgain, UnpinOnce, Unpin, Extract, Destroy, StartWrite, WriteOk, WriteFailed, Evict}
use Rattle.pool_model.specs.declared.entry.Entry.{Entry}
use Rattle.pool_model.specs.Bytes.{bytes_of}
use Rattle.pool_model.specs.State.{Opening, Place, Flying, Loading, Clean, Evicted, Page, page_at, State, shown}
use Rattle.pool_model.specs.LookingBack.{Made, makes, maker_of, left_in, content_from, content_of}
use Rattle.pool_model.specs.MayFollow.{Allows, MayFollow}
use Rattle.pool_model.specs.Effects.{effect, after}
use Rattle.pool_model.specs.Legal.{state_after, IsLegal}
use Rattle.pool_model.specs.Sound.{IsSound}
use Rattle.pool_model.specs.HistoryLaws.{made}
use Rattle.pool_model.specs.StoredBlocks.{Writes, writes_after, writes_from, writes_of, is_on_scratch, is_written, WasWritten, LegalVersionsAreTold}
use Rattle.pool_model.proofs.Seats.{some_is}
use Rattle.pool_model.proofs.Pages.{page_is}
use Rattle.pool_model.proofs.Fronts.{holds_after, legal_grows, state_runs_on}
use Rattle.pool_model.proofs.Made.{still_made, live_before, legal_pages_as_made}
use Rattle.pool_model.proofs.Names.{counts_entries}
use Rattle.pool_model.proofs.OwnEntries.{content_more}

abbrev first_bytes : Opening → Option Made → List ℕ
first_bytes o m = elim m [ None ↦ [] | Some one ↦ replicate (bytes_of o.block_len one.blocks) 0 ]

-- the bytes of a page that was made before the entry
pub content_on : (o : Opening) (h : List Entry) (e : Entry) (p : ℕ) (m : Made) → maker_of h p ≡ Some m → content_of o (h ++ e ∷ []) p ≡ left_in p e.event (content_of o h p)
content_on o h e p m is =
    ap (λ (k : Option Made). content_from p (first_bytes o k) (h ++ e ∷ [])) (still_made h (e ∷ []) p m is)
    ∙ content_more p (first_bytes o (Some m)) h e
    ∙ ap (λ (k : Option Made). left_in p e.event (content_from p (first_bytes o k) h)) (sym is)

writes_on : (p : ℕ) (w : Writes) (n : ℕ) (h : List Entry) (e : Entry) → writes_from p w n (h ++ e ∷ []) ≡ writes_after p (n + length h) e.event (writes_from p w n h)
writes_on p w n [] e = ap (λ (k : ℕ). writes_after p k e.event w) (sym (add-zero n))
writes_on p w n (d ∷ h) e =
    writes_on p (writes_after p n d.event w) (n + 1) h e
    ∙ ap (λ (k : ℕ). writes_after p k e.event (writes_from p (writes_after p n d.event w) (n + 1) h)) (let one : n + 1 + length h ≡ n + length (d ∷ h) = omega arith in one)

pub writes_more : (p : ℕ) (h : List Entry) (e : Entry) → writes_of (h ++ e ∷ []) p ≡ writes_after p (length h) e.event (writes_of h p)
writes_more p h e =
    writes_on p (record { begun = None; ended = None }) 0 h e
    ∙ ap (λ (k : ℕ). writes_after p k e.event (writes_of h p)) (let one : 0 + length h ≡ length h = omega arith in one)

module _ (o : Opening) (h : List Entry) (p : ℕ) (old place : Place) (version : ℕ) (m : Made) (e : Entry) (was : WasWritten o h p old version m) where
  -- an entry that leaves the page's bytes and its last write alone
  pub more_written : left_in p e.event (content_of o h p) ≡ content_of o h p → writes_after p (length h) e.event (writes_of h p) ≡ writes_of h p → (is_written place ≡ true → is_written old ≡ true)
      → WasWritten o (h ++ e ∷ []) p place version m
  more_written bytes writes less =
      let there : maker_of h p ≡ Some m = subst (λ (g : List Entry). maker_of g p ≡ Some m) (sym was.begins) (still_made was.before _ p m was.page) in
      let same : writes_of (h ++ e ∷ []) p ≡ writes_of h p = writes_more p h e ∙ writes in
      record {
        before = was.before;
        maker = was.maker;
        later = was.later ++ e ∷ [];
        begins = ap (λ (g : List Entry). g ++ e ∷ []) was.begins ∙ append_assoc was.before _ (e ∷ []);
        shows = was.shows;
        named = was.named;
        page = was.page;
        content = was.content ∙ sym bytes ∙ sym (content_on o h e p m there);
        begun = ap (λ (w : Writes). w.begun) same ∙ was.begun;
        ended = λ now. ap (λ (w : Writes). w.ended) same ∙ was.ended (less now);
      }

-- the write that began last ended well
pub ended_written : (o : Opening) (h : List Entry) (p : ℕ) (old : Place) (version : ℕ) (m : Made) (maker : ℕ) → WasWritten o h p old version m → WasWritten o (h ++ record { maker = maker; event = WriteOk p } ∷ []) p Clean version m
ended_written o h p old version m maker was =
    let e : Entry = record { maker = maker; event = WriteOk p } in
    let there : maker_of h p ≡ Some m = subst (λ (g : List Entry). maker_of g p ≡ Some m) (sym was.begins) (still_made was.before _ p m was.page) in
    let same : writes_of (h ++ e ∷ []) p ≡ record { begun = (writes_of h p).begun; ended = (writes_of h p).begun } =
    writes_more p h e ∙ ap (λ (b : Bool). if b then record { begun = (writes_of h p).begun; ended = (writes_of h p).begun } else writes_of h p) (eq-eqb p p refl) in
    record {
      before = was.before;
      maker = was.maker;
      later = was.later ++ e ∷ [];
      begins = ap (λ (g : List Entry). g ++ e ∷ []) was.begins ∙ append_assoc was.before _ (e ∷ []);
      shows = was.shows;
      named = was.named;
      page = was.page;
      content = was.content ∙ sym (content_on o h e p m there);
      begun = ap (λ (w : Writes). w.begun) same ∙ was.begun;
      ended = λ now. ap (λ (w : Writes). w.ended) same ∙ was.begun;
    }

-- a write begins
pub begun_written : (o : Opening) (h : List Entry) (p maker n : ℕ) (m : Made) → maker_of h p ≡ Some m → p < 18446744073709551615 → n ≡ shown (length h) → WasWritten o (h ++ record { maker = maker; event = StartWrite p } ∷ []) p (Flying maker) n m
begun_written o h p maker n m there low is =
    let e : Entry = record { maker = maker; event = StartWrite p } in
    let same : writes_of (h ++ e ∷ []) p ≡ record { begun = Some (length h); ended = (writes_of h p).ended } =
    writes_more p h e ∙ ap (λ (b : Bool). if b then record { begun = Some (length h); ended = (writes_of h p).ended } else writes_of h p) (eq-eqb p p refl) in
    record {
      before = h;
      maker = maker;
      later = [];
      begins = refl;
      shows = is;
      named = low;
      page = there;
      content = sym (content_on o h e p m there);
      begun = ap (λ (w : Writes). w.begun) same;
      ended = λ now. absurd (false≢true now);
    }

-- a page that an event makes has a name that is no u64's last
made_low : (h : List Entry) (s : State) (maker : ℕ) (event : Event) → Allows h s maker event → (q : ℕ) (m : Made) → makes q maker event ≡ Some m → q < 18446744073709551615
made_low h s maker (Create p client blocks key) may q m is = elim (same_or_other p q) [
  | inl same ↦ subst (λ (n : ℕ). n < 18446744073709551615) same may.left
  | inr apart ↦ let none : None ≡ Some m = sym (ap (λ (b : Bool). if b then Some (record { session = maker; client = client; blocks = blocks }) else None) (ne_eqb p q apart)) ∙ is in cc
]
made_low h s maker _ may q m is = let none : None ≡ Some m = is in cc

record Tells (o : Opening) (h : List Entry) (s : State) : Type 0 where
  legal : IsLegal o h
  state : s ≡ state_after o h
  named : (p : ℕ) (x : Page) → get s.pages p ≡ Some x → p < 18446744073709551615
  written : (p : ℕ) (x : Page) → get s.pages p ≡ Some x → is_on_scratch x.place ≡ true → WasWritten o h p x.place x.version (made x)

module _ (o : Opening) (h : List Entry) (s : State) (it : Tells o h s) where
  as_made : (p : ℕ) (x : Page) → get s.pages p ≡ Some x → maker_of h p ≡ Some (made x)
  as_made p x is = legal_pages_as_made o h it.legal p x (subst (λ (z : State). get z.pages p ≡ Some x) it.state is)

  count : s.entries ≡ shown (length h)
  count = ap (λ (z : State). z.entries) it.state ∙ counts_entries o h

  -- an entry that touches no page's bytes and writes
  quiet : (e : Entry) (q : ℕ) (y : Page) → get s.pages q ≡ Some y → is_on_scratch y.place ≡ true → left_in q e.event (content_of o h q) ≡ content_of o h q → writes_after q (length h) e.event (writes_of h q) ≡ writes_of h q
      → WasWritten o (h ++ e ∷ []) q y.place y.version (made y)
  quiet e q y there on bytes writes = more_written o h q y.place y.place y.version (made y) e (it.written q y there on) bytes writes (λ now. now)

  -- one page went to another place
  put_on : (e : Entry) (p : ℕ) (x : Page) → get s.pages p ≡ Some x → (place : Place) → (is_on_scratch place ≡ true → is_on_scratch x.place ≡ true) → (is_written place ≡ true → is_written x.place ≡ true)
      → ((q : ℕ) → left_in q e.event (content_of o h q) ≡ content_of o h q) → ((q : ℕ) → writes_after q (length h) e.event (writes_of h q) ≡ writes_of h q)
      → (q : ℕ) (y : Page) → get (insert s.pages p (record (page_at s p) { place = place })) q ≡ Some y → is_on_scratch y.place ≡ true → WasWritten o (h ++ e ∷ []) q y.place y.version (made y)
  put_on e p x is place scratch written bytes writes q y there on = elim (same_or_other q p) [
    | inl here ↦
        let w : Page = record x { place = place } in
        let now : get (insert s.pages p (record (page_at s p) { place = place })) p ≡ Some w = get_same s.pages p _ ∙ ap (λ (z : Page). Some (record z { place = place })) (page_is s p x is) in
        let same : w ≡ y = some_is w y (sym now ∙ ap (get (insert s.pages p (record (page_at s p) { place = place }))) (sym here) ∙ there) in
        let onto : is_on_scratch place ≡ true = ap (λ (z : Page). is_on_scratch z.place) same ∙ on in
        subst (λ (r : ℕ). WasWritten o (h ++ e ∷ []) r y.place y.version (made y)) (sym here)
        (subst (λ (z : Page). WasWritten o (h ++ e ∷ []) p z.place z.version (made z)) same
        (more_written o h p x.place place x.version (made x) e (it.written p x is (scratch onto)) (bytes p) (writes p) written))
    | inr apart ↦ quiet e q y (sym (get_other s.pages p _ q apart) ∙ there) on (bytes q) (writes q)
  ]

  -- one page went where its bytes aren't on scratch
  off_on : (e : Entry) (p : ℕ) (w : Page) → is_on_scratch w.place ≡ false
      → ((q : ℕ) → q ≢ p → left_in q e.event (content_of o h q) ≡ content_of o h q) → ((q : ℕ) → q ≢ p → writes_after q (length h) e.event (writes_of h q) ≡ writes_of h q)
      → (q : ℕ) (y : Page) → get (insert s.pages p w) q ≡ Some y → is_on_scratch y.place ≡ true → WasWritten o (h ++ e ∷ []) q y.place y.version (made y)
  off_on e p w off bytes writes q y there on = elim (same_or_other q p) [
    | inl here ↦
        let same : w ≡ y = some_is w y (sym (get_same s.pages p w) ∙ ap (get (insert s.pages p w)) (sym here) ∙ there) in
        absurd (false≢true (sym off ∙ ap (λ (z : Page). is_on_scratch z.place) same ∙ on))
    | inr apart ↦ quiet e q y (sym (get_other s.pages p w q apart) ∙ there) on (bytes q apart) (writes q apart)
  ]

  gone_on : (e : Entry) (p : ℕ) → ((q : ℕ) → left_in q e.event (content_of o h q) ≡ content_of o h q) → ((q : ℕ) → writes_after q (length h) e.event (writes_of h q) ≡ writes_of h q)
      → (q : ℕ) (y : Page) → get (remove s.pages p) q ≡ Some y → is_on_scratch y.place ≡ true → WasWritten o (h ++ e ∷ []) q y.place y.version (made y)
  gone_on e p bytes writes q y there on = elim (same_or_other q p) [
    | inl here ↦ let none : None ≡ Some y = sym (removed_same s.pages p) ∙ ap (get (remove s.pages p)) (sym here) ∙ there in cc
    | inr apart ↦ quiet e q y (sym (removed_other s.pages p q apart) ∙ there) on (bytes q) (writes q)
  ]

  -- the page that was unpinned, and the others
  unpin_on : (maker p : ℕ) (content : List ℕ) (q : ℕ) (y : Page) → get (effect maker (Unpin p content) s).pages q ≡ Some y → is_on_scratch y.place ≡ true
      → WasWritten o (h ++ record { maker = maker; event = Unpin p content } ∷ []) q y.place y.version (made y)
  unpin_on maker p content q y there on =
      let w : Page = record (page_at s p) { has_slots = true } in
      elim (same_or_other q p) [
        | inl here ↦
            let same = some_is _ y (sym (get_same (insert s.pages p w) p _) ∙ ap (get (insert (insert s.pages p w) p _)) (sym here) ∙ there) in
            absurd (false≢true (ap (λ (z : Page). is_on_scratch z.place) same ∙ on))
        | inr apart ↦ quiet _ q y (sym (get_other (insert s.pages p w) p _ q apart ∙ get_other s.pages p w q apart) ∙ there) on
            (ap (λ (b : Bool). if b then content else content_of o h q) (ne_eqb p q (λ same. apart (sym same)))) refl
      ]

  start_on : (maker p : ℕ) (x : Page) → get s.pages p ≡ Some x → (q : ℕ) (y : Page) → get (effect maker (StartWrite p) s).pages q ≡ Some y → is_on_scratch y.place ≡ true
      → WasWritten o (h ++ record { maker = maker; event = StartWrite p } ∷ []) q y.place y.version (made y)
  start_on maker p x is q y there on = elim (same_or_other q p) [
    | inl here ↦
        let w : Page = record x { place = Flying maker; version = s.entries } in
        let now : get (effect maker (StartWrite p) s).pages p ≡ Some w = get_same s.pages p _ ∙ ap (λ (z : Page). Some (record z { place = Flying maker; version = s.entries })) (page_is s p x is) in
        let same : w ≡ y = some_is w y (sym now ∙ ap (get (effect maker (StartWrite p) s).pages) (sym here) ∙ there) in
        subst (λ (r : ℕ). WasWritten o (h ++ record { maker = maker; event = StartWrite p } ∷ []) r y.place y.version (made y)) (sym here)
        (subst (λ (z : Page). WasWritten o (h ++ record { maker = maker; event = StartWrite p } ∷ []) p z.place z.version (made z)) same
        (begun_written o h p maker s.entries (made x) (as_made p x is) (it.named p x is) count))
    | inr apart ↦ quiet _ q y (sym (get_other s.pages p _ q apart) ∙ there) on refl
        (ap (λ (b : Bool). if b then record { begun = Some (length h); ended = (writes_of h q).ended } else writes_of h q) (ne_eqb p q (λ same. apart (sym same))))
  ]

  end_on : (maker p : ℕ) (x : Page) → get s.pages p ≡ Some x → x.place ≡ Flying maker → (q : ℕ) (y : Page) → get (effect maker (WriteOk p) s).pages q ≡ Some y → is_on_scratch y.place ≡ true
      → WasWritten o (h ++ record { maker = maker; event = WriteOk p } ∷ []) q y.place y.version (made y)
  end_on maker p x is at q y there on = elim (same_or_other q p) [
    | inl here ↦
        let w : Page = record x { place = Clean } in
        let now : get (effect maker (WriteOk p) s).pages p ≡ Some w = get_same s.pages p _ ∙ ap (λ (z : Page). Some (record z { place = Clean })) (page_is s p x is) in
        let same : w ≡ y = some_is w y (sym now ∙ ap (get (effect maker (WriteOk p) s).pages) (sym here) ∙ there) in
        subst (λ (r : ℕ). WasWritten o (h ++ record { maker = maker; event = WriteOk p } ∷ []) r y.place y.version (made y)) (sym here)
        (subst (λ (z : Page). WasWritten o (h ++ record { maker = maker; event = WriteOk p } ∷ []) p z.place z.version (made z)) same
        (ended_written o h p x.place x.version (made x) maker (it.written p x is (ap is_on_scratch at))))
    | inr apart ↦ quiet _ q y (sym (get_other s.pages p _ q apart) ∙ there) on refl
        (ap (λ (b : Bool). if b then record { begun = (writes_of h q).begun; ended = (writes_of h q).begun } else writes_of h q) (ne_eqb p q (λ same. apart (sym same))))
  ]

  written_on : (maker : ℕ) (event : Event) → Allows h s maker event → (q : ℕ) (y : Page) → get (effect maker event s).pages q ≡ Some y → is_on_scratch y.place ≡ true
      → WasWritten o (h ++ record { maker = maker; event = event } ∷ []) q y.place y.version (made y)
  written_on maker (AddTracker t parent limit (Some quota)) may q y there on = quiet _ q y there on refl refl
  written_on maker (AddTracker t parent limit None) may q y there on = quiet _ q y there on refl refl
  written_on maker (Create p client blocks key) may q y there on = off_on _ p _ refl (λ r apart. refl) (λ r apart. refl) q y there on
  written_on maker (PinHere p) may q y there on = off_on _ p _ refl (λ r apart. refl) (λ r apart. refl) q y there on
  written_on maker (PinLoad p) may q y there on = put_on _ p may.page may.own.lives Loading (λ now. ap is_on_scratch may.evicted) (λ now. ap is_written may.evicted) (λ r. refl) (λ r. refl) q y there on
  written_on maker (ReadOk p) may q y there on = off_on _ p _ refl (λ r apart. refl) (λ r apart. refl) q y there on
  written_on maker (ReadFailed p sum_before sum_after) may q y there on =
      put_on _ p may.ends.page may.ends.own.lives Evicted (λ now. ap is_on_scratch may.ends.loading) (λ now. ap is_written may.ends.loading) (λ r. refl) (λ r. refl) q y there on
  written_on maker (ReadStale p wanted found) may q y there on =
      put_on _ p may.ends.page may.ends.own.lives Evicted (λ now. ap is_on_scratch may.ends.loading) (λ now. ap is_written may.ends.loading) (λ r. refl) (λ r. refl) q y there on
  written_on maker (PinAgain p) may q y there on = off_on _ p _ refl (λ r apart. refl) (λ r apart. refl) q y there on
  written_on maker (UnpinOnce p) may q y there on = off_on _ p _ refl (λ r apart. refl) (λ r apart. refl) q y there on
  written_on maker (Unpin p content) may q y there on = unpin_on maker p content q y there on
  written_on maker (Extract p f) may q y there on = gone_on _ p (λ r. refl) (λ r. refl) q y there on
  written_on maker (Destroy p) may q y there on = gone_on _ p (λ r. refl) (λ r. refl) q y there on
  written_on maker (StartWrite p) may q y there on = start_on maker p may.page may.lives q y there on
  written_on maker (WriteOk p) may q y there on = end_on maker p may.page may.lives may.flying q y there on
  written_on maker (WriteFailed p sum_before sum_after) may q y there on = off_on _ p _ refl (λ r apart. refl) (λ r apart. refl) q y there on
  written_on maker (Evict p) may q y there on = put_on _ p may.page may.lives Evicted (λ now. ap is_on_scratch may.clean) (λ now. ap is_written may.clean) (λ r. refl) (λ r. refl) q y there on
  written_on maker event may q y there on = quiet _ q y there on refl refl

tells_on : (o : Opening) (before : List Entry) (s : State) → IsSound s → Tells o before s → (e : Entry) → MayFollow before s e → Tells o (before ++ e ∷ []) (after s e)
tells_on o before s sound it e may = record {
  legal = legal_grows o before (e ∷ []) it.legal (subst (λ (z : State). MayFollow before z e) it.state may, tt);
  state = ap (λ (z : State). after z e) it.state ∙ sym (state_runs_on o before (e ∷ []));
  named = λ q y there. elim (live_before before s e.maker e.event may.allows q y there) [
    | inl was ↦ it.named q was.page was.lives
    | inr new ↦ made_low before s e.maker e.event may.allows q (made y) new
  ];
  written = written_on o before s it e.maker e.event may.allows;
}

pub legal_versions_are_told : LegalVersionsAreTold
legal_versions_are_told o h legal =
    (holds_after (Tells o) (tells_on o) o (record {
      legal = tt;
      state = refl;
      named = λ p x is. let none : None ≡ Some x = sym (get-empty nat_cmp p) ∙ is in cc;
      written = λ p x is on. let none : None ≡ Some x = sym (get-empty nat_cmp p) ∙ is in cc;
    }) h legal).written
