-- Where one maker alone made the history, no page is in a job while that maker rests.
use Rattle.std.proofs.Common.{◌≡◌, ℕ, ◌<◌, ◌==◌, List, [], ◌∷◌, ◌++◌, Bool, true, false, if◌then◌else◌, Option, Some, None, refl, sym, ap, ◌∙◌, subst, inl, inr, eq-eqb}
use Rattle.std.specs.Option.{option_or}
use Rattle.std.specs.Ordering.{nat_cmp}
use Rattle.std.specs.FinMap.{get, insert, remove, get-empty}
use Rattle.reservation_tree.proofs.Maps.{get_same, get_other, removed_same, removed_other, same_or_other}
use Rattle.outside.specs.declared.slot.Slot.{Ghosts}
use Rattle.pool_model.specs.declared.event.Event.{Event}
use Rattle.pool_model.specs.declared.event.Event.TheVariants.{AddTracker, Create, PinHere, PinLoad, ReadOk, ReadFailed, ReadStale, PinAgain, UnpinOnce, Unpin, Extract, Destroy, StartWrite, WriteOk, WriteFailed, Evict}
use Rattle.pool_model.specs.declared.entry.Entry.{Entry}
use Rattle.pool_model.specs.State.{Opening, Page, Pages, State}
use Rattle.pool_model.specs.LookingBack.{Made, makes, maker_of, made_by}
use Rattle.pool_model.specs.HistoryLaws.{made}
use Rattle.pool_model.specs.MayFollow.{MayFollow}
use Rattle.pool_model.specs.Effects.{effect, after}
use Rattle.pool_model.specs.Legal.{state_after, IsLegal}
use Rattle.pool_model.specs.Sound.{IsSound}
use Rattle.pool_model.proofs.Seats.{some_is}
use Rattle.pool_model.proofs.Fronts.{holds_after}
use Rattle.pool_model.proofs.Made.{legal_pages_as_made}
use Rattle.own_entries.specs.OwnHoldings.{Outset}
use Rattle.own_entries.specs.AboveLaws.{AllBy}
use Rattle.own_entries.specs.Busy.{is_busy, busy_in, busy_from}
use Rattle.own_entries.proofs.BusyTold.{legal_busy_pages_are_told}
use Rattle.pin_core.specs.StateOf.{state_of}
use Rattle.pin_core.specs.calls.Turns.{IsWriting}
use Rattle.session_calls.specs.declared.hand.Hand.{Hand}
use Rattle.session_calls.specs.Moving.{is_moving}
use Rattle.session_calls.specs.Ready.{IsReady}
use Rattle.session_calls.specs.Having.{Sight, Worked}
use Rattle.session_calls.proofs.Lists.{alone_more}

-- the maker itself flies each page that flies
abbrev pub IsFlownBy : ℕ → Page → Type 0
IsFlownBy m x = is_moving x.place ≡ is_busy m x.place

abbrev AllFlownBy : ℕ → Pages → Type 0
AllFlownBy m pages = (p : ℕ) (x : Page) → get pages p ≡ Some x → IsFlownBy m x

module _ (m : ℕ) where
  put_flown : (pages : Pages) (p : ℕ) (w : Page) → IsFlownBy m w → AllFlownBy m pages → AllFlownBy m (insert pages p w)
  put_flown pages p w flown all q x there = elim (same_or_other q p) [
    | inl here ↦ subst (IsFlownBy m) (some_is w x (sym (get_same pages p w) ∙ ap (get (insert pages p w)) (sym here) ∙ there)) flown
    | inr other ↦ all q x (sym (get_other pages p w q other) ∙ there)
  ]

  -- the same of a page that was written twice
  put_again : (pages : Pages) (p : ℕ) (v w : Page) → IsFlownBy m w → AllFlownBy m pages → AllFlownBy m (insert (insert pages p v) p w)
  put_again pages p v w flown all q x there = elim (same_or_other q p) [
    | inl here ↦ subst (IsFlownBy m) (some_is w x (sym (get_same (insert pages p v) p w) ∙ ap (get (insert (insert pages p v) p w)) (sym here) ∙ there)) flown
    | inr other ↦ all q x (sym (get_other pages p v q other) ∙ sym (get_other (insert pages p v) p w q other) ∙ there)
  ]

  gone_flown : (pages : Pages) (p : ℕ) → AllFlownBy m pages → AllFlownBy m (remove pages p)
  gone_flown pages p all q x there = elim (same_or_other q p) [
    | inl here ↦ let none : None ≡ Some x = sym (removed_same pages p) ∙ ap (get (remove pages p)) (sym here) ∙ there in cc
    | inr other ↦ all q x (sym (removed_other pages p q other) ∙ there)
  ]

  flown_on : (maker : ℕ) (event : Event) (s : State) → maker ≡ m → AllFlownBy m s.pages → AllFlownBy m (effect maker event s).pages
  flown_on maker (AddTracker t parent limit (Some quota)) s own all = all
  flown_on maker (AddTracker t parent limit None) s own all = all
  flown_on maker (Create p client blocks key) s own all = put_flown s.pages p _ refl all
  flown_on maker (PinHere p) s own all = put_flown s.pages p _ refl all
  flown_on maker (PinLoad p) s own all = put_flown s.pages p _ refl all
  flown_on maker (ReadOk p) s own all = put_flown s.pages p _ refl all
  flown_on maker (ReadFailed p before now) s own all = put_flown s.pages p _ refl all
  flown_on maker (ReadStale p wanted found) s own all = put_flown s.pages p _ refl all
  flown_on maker (PinAgain p) s own all = put_flown s.pages p _ refl all
  flown_on maker (UnpinOnce p) s own all = put_flown s.pages p _ refl all
  flown_on maker (Unpin p content) s own all = put_again s.pages p _ _ refl all
  flown_on maker (Extract p f) s own all = gone_flown s.pages p all
  flown_on maker (Destroy p) s own all = gone_flown s.pages p all
  flown_on maker (StartWrite p) s own all = put_flown s.pages p _ (sym (eq-eqb maker m own)) all
  flown_on maker (WriteOk p) s own all = put_flown s.pages p _ refl all
  flown_on maker (WriteFailed p before now) s own all = put_flown s.pages p _ refl all
  flown_on maker (Evict p) s own all = put_flown s.pages p _ refl all
  flown_on maker _ s own all = all

  -- a list that grew by an entry is one maker's where both are
  pub all_front : (before more : List Entry) → AllBy m (before ++ more) → AllBy m before × AllBy m more
  all_front [] more all = (tt, all)
  all_front (d ∷ before) more all = let rest : AllBy m before × AllBy m more = all_front before more all.1 in ((all.0, rest.0), rest.1)

  flown_next : (before : List Entry) (s : State) → IsSound s → (AllBy m before → AllFlownBy m s.pages) → (e : Entry) → MayFollow before s e → AllBy m (before ++ e ∷ []) → AllFlownBy m (after s e).pages
  flown_next before s sound flown e may all =
      let front : AllBy m before × AllBy m (e ∷ []) = all_front before (e ∷ []) all in
      flown_on e.maker e.event s front.1.0 (flown front.0)

  flown_after : (o : Opening) (h : List Entry) → IsLegal o h → AllBy m h → AllFlownBy m (state_after o h).pages
  flown_after o h legal all =
      holds_after (λ before s. AllBy m before → AllFlownBy m s.pages) flown_next o (λ none p x is. let never : None ≡ Some x = sym (get-empty nat_cmp p) ∙ is in cc) h legal all

  -- and each page was made by it
  makes_own : (p maker : ℕ) (event : Event) (it : Made) → makes p maker event ≡ Some it → it.session ≡ maker
  makes_own p maker (Create q client blocks key) it is =
      elim (q == p) as (λ b. (if b then Some (record { session = maker; client = client; blocks = blocks }) else None) ≡ Some it → it.session ≡ maker) [
        | true ↦ λ same. ap (λ (o : Option Made). elim o [ None ↦ maker | Some x ↦ x.session ]) (sym same)
        | false ↦ λ same. let never : None ≡ Some it = same in cc
      ] is
  makes_own p maker _ it is = let never : None ≡ Some it = is in cc

  made_own : (h : List Entry) → AllBy m h → (p : ℕ) (it : Made) → maker_of h p ≡ Some it → it.session ≡ m
  made_own [] all p it is = let never : None ≡ Some it = is in cc
  made_own (e ∷ h) all p it is =
      elim (makes p e.maker e.event) as (λ o. makes p e.maker e.event ≡ o → option_or o (maker_of h p) ≡ Some it → it.session ≡ m) [
        | None ↦ λ none there. made_own h all.1 p it there
        | Some x ↦ λ some there. makes_own p e.maker e.event it (some ∙ there) ∙ all.0
      ] refl is

  module _ (o : Opening) (h : List Entry) (legal : IsLegal o h) (all : AllBy m h) where
    pub page_own : (p : ℕ) (x : Page) → get (state_after o h).pages p ≡ Some x → x.session ≡ m
    page_own p x is = made_own h all p (made x) (legal_pages_as_made o h legal p x is)

    -- so none is in a job, where none is by the maker's own entries
    pub none_moves : m < 240 → ((p : ℕ) → busy_from p false (made_by h m) ≡ false) → (p : ℕ) (x : Page) → get (state_after o h).pages p ≡ Some x → is_moving x.place ≡ false
    none_moves number still p x is =
        let told : busy_in m (get (state_after o h).pages p) ≡ busy_from p false (made_by h m) = legal_busy_pages_are_told o h legal m number p in
        flown_after o h legal all p x is
        ∙ sym (ap (λ (b : Bool). if b then is_busy m x.place else false) (eq-eqb x.session m (page_own p x is)))
        ∙ ap (busy_in m) (sym is) ∙ told ∙ still p

-- a session that is ready, and made the history alone
module _ {D : Type 0} (slot : Ghosts D) (o : Opening) (u : Outset) (hand : Hand D) (ready : IsReady slot o u hand) (all : AllBy hand.session hand.trail) where
  pub none_moving : (p : ℕ) (x : Page) → get (state_of hand.state).pages p ≡ Some x → is_moving x.place ≡ false
  none_moving p x is =
      none_moves hand.session o hand.trail ready.whole.stands.legal all ready.rests.number ready.rests.still p x (ap (λ (s : State). get s.pages p) (sym ready.whole.stands.state) ∙ is)

  pub none_written : (c : ℕ) → IsWriting (state_of hand.state) c → ⊥
  none_written c writing =
      let never : true ≡ false = sym (ap is_moving writing.flies) ∙ none_moving writing.name writing.page writing.lives in cc

-- it works on alone
pub all_worked : {D : Type 0} (o : Opening) (seen : Sight) (hand : Hand D) → Worked o seen hand → AllBy hand.session seen.trail → AllBy hand.session hand.trail
all_worked o seen hand worked all = subst (AllBy hand.session) (sym worked.trail) (alone_more hand.session seen.trail worked.events all)
