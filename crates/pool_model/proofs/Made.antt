-- Live pages are as they were made.
use Rattle.std.proofs.Common.{◌≡◌, ◌≢◌, ℕ, ◌≤◌, ◌⊎◌, Bool, true, if◌then◌else◌, Option, Some, None, List, [], ◌∷◌, ◌++◌, refl, ap, sym, ◌∙◌, arith, inl, inr, eq-eqb, ne_eqb}
use Rattle.std.specs.Option.{option_or}
use Rattle.std.specs.Ordering.{nat_cmp}
use Rattle.std.specs.FinMap.{get, insert, remove, get-empty}
use Rattle.reservation_tree.proofs.Maps.{get_same, get_other, removed_same, removed_other, same_or_other}
use Rattle.pool_model.specs.declared.event.Event.{Event}
use Rattle.pool_model.specs.declared.event.Event.TheVariants.{AddTracker, Create, PinHere, PinLoad, ReadOk, ReadFailed, ReadStale, PinAgain, UnpinOnce, Unpin, Extract, Destroy, StartWrite, WriteOk, WriteFailed, Evict}
use Rattle.pool_model.specs.declared.entry.Entry.{Entry}
use Rattle.pool_model.specs.State.{Opening, Page, page_at, State}
use Rattle.pool_model.specs.LookingBack.{Made, makes, maker_of}
use Rattle.pool_model.specs.MayFollow.{Allows, MayFollow}
use Rattle.pool_model.specs.Parts.{give_slots}
use Rattle.pool_model.specs.Effects.{effect, after}
use Rattle.pool_model.specs.Legal.{state_after, IsLegal}
use Rattle.pool_model.specs.Sound.{IsSound}
use Rattle.pool_model.specs.HistoryLaws.{made, LegalPagesAsMade}
use Rattle.pool_model.proofs.Seats.{some_is}
use Rattle.pool_model.proofs.Pages.{page_is}
use Rattle.pool_model.proofs.Fronts.{holds_after}

-- the page was live before, for the same client and with the same blocks
pub record WasLive (s : State) (p : ℕ) (y : Page) : Type 0 where
  pub page : Page
  pub lives : get s.pages p ≡ Some page
  pub same : made page ≡ made y

-- where one page was written, each that is live now was
pub put_before : (s : State) (p : ℕ) (x w : Page) → get s.pages p ≡ Some x → made w ≡ made (page_at s p) → (q : ℕ) (y : Page) → get (insert s.pages p w) q ≡ Some y → WasLive s q y
put_before s p x w is same q y there = elim (same_or_other q p) [
  | inl here ↦
      let now : w ≡ y = some_is w y (sym (get_same s.pages p w) ∙ ap (get (insert s.pages p w)) (sym here) ∙ there) in
      record { page = x; lives = ap (get s.pages) here ∙ is; same = sym (ap made (page_is s p x is)) ∙ sym same ∙ ap made now }
  | inr other ↦ record { page = y; lives = sym (get_other s.pages p w q other) ∙ there; same = refl }
]

gone_before : (s : State) (p q : ℕ) (y : Page) → get (remove s.pages p) q ≡ Some y → WasLive s q y
gone_before s p q y there = elim (same_or_other q p) [
  | inl here ↦ let none : None ≡ Some y = sym (removed_same s.pages p) ∙ ap (get (remove s.pages p)) (sym here) ∙ there in cc
  | inr other ↦ record { page = y; lives = sym (removed_other s.pages p q other) ∙ there; same = refl }
]

created : (s : State) (maker p client blocks key : ℕ) (w : Page) → made w ≡ record { session = maker; client = client; blocks = blocks } → (q : ℕ) (y : Page) → get (insert s.pages p w) q ≡ Some y
    → WasLive s q y ⊎ (makes q maker (Create p client blocks key) ≡ Some (made y))
created s maker p client blocks key w is q y there = elim (same_or_other q p) [
  | inl here ↦
      let now : w ≡ y = some_is w y (sym (get_same s.pages p w) ∙ ap (get (insert s.pages p w)) (sym here) ∙ there) in
      inr (ap (λ (b : Bool). if b then Some (record { session = maker; client = client; blocks = blocks }) else None) (eq-eqb p q (sym here)) ∙ ap Some (sym is ∙ ap made now))
  | inr other ↦ inl (record { page = y; lives = sym (get_other s.pages p w q other) ∙ there; same = refl })
]

-- a page that is live after an event was live before, or was made by it
pub live_before : (before : List Entry) (s : State) (maker : ℕ) (event : Event) → Allows before s maker event → (q : ℕ) (y : Page) → get (effect maker event s).pages q ≡ Some y
    → WasLive s q y ⊎ (makes q maker event ≡ Some (made y))
live_before before s maker (AddTracker t parent limit (Some quota)) may q y is = inl (record { page = y; lives = is; same = refl })
live_before before s maker (AddTracker t parent limit None) may q y is = inl (record { page = y; lives = is; same = refl })
live_before before s maker (Create p client blocks key) may q y is = created s maker p client blocks key _ refl q y is
live_before before s maker (PinHere p) may q y is = inl (put_before s p may.page _ may.own.lives refl q y is)
live_before before s maker (PinLoad p) may q y is = inl (put_before s p may.page _ may.own.lives refl q y is)
live_before before s maker (ReadOk p) may q y is = inl (put_before s p may.page _ may.own.lives refl q y is)
live_before before s maker (ReadFailed p sum_before sum_after) may q y is = inl (put_before s p may.ends.page _ may.ends.own.lives refl q y is)
live_before before s maker (ReadStale p wanted found) may q y is = inl (put_before s p may.ends.page _ may.ends.own.lives refl q y is)
live_before before s maker (PinAgain p) may q y is = inl (put_before s p may.page _ may.own.lives refl q y is)
live_before before s maker (UnpinOnce p) may q y is = inl (put_before s p may.page _ may.own.lives refl q y is)
live_before before s maker (Unpin p content) may q y is =
    let x : Page = may.page in
    let w : Page = record (page_at s p) { has_slots = true } in
    let given : WasLive (give_slots p s) q y = put_before (give_slots p s) p w _ (get_same s.pages p w) refl q y is in
    let was : WasLive s q given.page = put_before s p x w may.own.lives refl q given.page given.lives in
    inl (record { page = was.page; lives = was.lives; same = was.same ∙ given.same })
live_before before s maker (Extract p f) may q y is = inl (gone_before s p q y is)
live_before before s maker (Destroy p) may q y is = inl (gone_before s p q y is)
live_before before s maker (StartWrite p) may q y is = inl (put_before s p may.page _ may.lives refl q y is)
live_before before s maker (WriteOk p) may q y is = inl (put_before s p may.page _ may.lives refl q y is)
live_before before s maker (WriteFailed p sum_before sum_after) may q y is = inl (put_before s p may.ends.page _ may.ends.lives refl q y is)
live_before before s maker (Evict p) may q y is = inl (put_before s p may.page _ may.lives refl q y is)
live_before before s maker _ may q y is = inl (record { page = y; lives = is; same = refl })

-- what a history tells of a name it tells when it grows
pub still_made : (h more : List Entry) (p : ℕ) (m : Made) → maker_of h p ≡ Some m → maker_of (h ++ more) p ≡ Some m
still_made [] more p m is = let no : None ≡ Some m = is in cc
still_made (d ∷ h) more p m is =
    elim (makes p d.maker d.event) as (λ o. option_or o (maker_of h p) ≡ Some m → option_or o (maker_of (h ++ more) p) ≡ Some m) [
      | None ↦ λ there. still_made h more p m there
      | Some n ↦ λ there. there
    ] is

first_made : (o : Option Made) → option_or o None ≡ o
first_made None = refl
first_made (Some n) = refl

some_or_none : (n : Made) (o : Option Made) → Some n ≡ None → Some n ≡ o
some_or_none n o is = cc

pub newly_made : (h : List Entry) (e : Entry) (p : ℕ) → maker_of h p ≡ None → maker_of (h ++ e ∷ []) p ≡ makes p e.maker e.event
newly_made [] e p is = first_made (makes p e.maker e.event)
newly_made (d ∷ h) e p is =
    elim (makes p d.maker d.event) as (λ o. option_or o (maker_of h p) ≡ None → option_or o (maker_of (h ++ e ∷ []) p) ≡ makes p e.maker e.event) [
      | None ↦ λ there. newly_made h e p there
      | Some n ↦ λ there. some_or_none n (makes p e.maker e.event) there
    ] is

-- live pages are as made, and no name from the next one on was given
pub record TellsPages (h : List Entry) (s : State) : Type 0 where
  pub as_made : (p : ℕ) (x : Page) → get s.pages p ≡ Some x → maker_of h p ≡ Some (made x)
  pub fresh : (p : ℕ) → s.next_name ≤ p → maker_of h p ≡ None

not_named : (p maker q client blocks key : ℕ) → q ≢ p → makes p maker (Create q client blocks key) ≡ None
not_named p maker q client blocks key apart = ap (λ (b : Bool). if b then Some (record { session = maker; client = client; blocks = blocks }) else None) (ne_eqb q p apart)

-- what an event names is below the next name after it, and is the next name before it
names_next : (before : List Entry) (s : State) (maker : ℕ) (event : Event) → Allows before s maker event → (p : ℕ)
    → (s.next_name ≤ (effect maker event s).next_name) × ((effect maker event s).next_name ≤ p → makes p maker event ≡ None)
names_next before s maker (Create q client blocks key) may p =
    (omega arith, λ above. not_named p maker q client blocks key (λ same. let next : q ≡ s.next_name = may.next in omega (arith, same, next, above)))
names_next before s maker (AddTracker t parent limit (Some quota)) may p = (omega arith, λ above. refl)
names_next before s maker (AddTracker t parent limit None) may p = (omega arith, λ above. refl)
names_next before s maker _ may p = (omega arith, λ above. refl)

pub next_more : (before : List Entry) (s : State) (maker : ℕ) (event : Event) → Allows before s maker event → s.next_name ≤ (effect maker event s).next_name
next_more before s maker event may = (names_next before s maker event may 0).0

pub makes_next : (before : List Entry) (s : State) (maker : ℕ) (event : Event) → Allows before s maker event → (p : ℕ) (m : Made) → makes p maker event ≡ Some m → s.next_name ≤ p
makes_next before s maker (Create q client blocks key) may p m is = elim (same_or_other q p) [
  | inl here ↦ let next : q ≡ s.next_name = may.next in omega (arith, here, next)
  | inr other ↦ let no : None ≡ Some m = sym (not_named p maker q client blocks key other) ∙ is in cc
]
makes_next before s maker _ may p m is = cc

pub tells_on : (before : List Entry) (s : State) → IsSound s → TellsPages before s → (e : Entry) → MayFollow before s e → TellsPages (before ++ e ∷ []) (after s e)
tells_on before s sound tells e may = record {
  as_made = λ p y is. elim (live_before before s e.maker e.event may.allows p y is) [
    | inl was ↦ still_made before (e ∷ []) p (made y) (tells.as_made p was.page was.lives ∙ ap Some was.same)
    | inr new ↦ newly_made before e p (tells.fresh p (makes_next before s e.maker e.event may.allows p (made y) new)) ∙ new
  ];
  fresh = λ p above.
      let next = names_next before s e.maker e.event may.allows p in
      let more : s.next_name ≤ (effect e.maker e.event s).next_name = next.0 in
      newly_made before e p (tells.fresh p (omega (arith, more, above))) ∙ next.1 above;
}

pub legal_tells : (o : Opening) (h : List Entry) → IsLegal o h → TellsPages h (state_after o h)
legal_tells o h legal = holds_after TellsPages tells_on o (record {
  as_made = λ p x is. let none : None ≡ Some x = sym (get-empty nat_cmp p) ∙ is in cc;
  fresh = λ p above. refl;
}) h legal

pub legal_pages_as_made : LegalPagesAsMade
legal_pages_as_made o h legal = (legal_tells o h legal).as_made
