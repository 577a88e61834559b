-- Where one maker alone made a history, its query is the root's one child.
use Rattle.std.proofs.Common.{◌≡◌, ◌≢◌, ℕ, ◌+◌, ◌==◌, List, [], ◌∷◌, ◌++◌, Bool, true, false, if◌then◌else◌, Option, Some, None, is_some, refl, sym, ap, ◌∙◌, inl, inr, ne_eqb}
use Rattle.std.specs.Ordering.{nat_cmp}
use Rattle.std.specs.FinMap.{get, insert, remove, empty, get-empty}
use Rattle.reservation_tree.specs.Tracker.{Tracker, Trackers, depth_of, share_of, children_of}
use Rattle.reservation_tree.specs.Change.{new_root, root_alone, lacking}
use Rattle.reservation_tree.proofs.Maps.{get_same, get_other, removed_same, removed_other, same_or_other}
use Rattle.reservation_tree.proofs.Outline.{SameOutline, in_old, bare, reservation_is}
use Rattle.reservation_tree.proofs.Shares.{share_here, under_other}
use Rattle.pool_model.specs.declared.event.Event.{Event}
use Rattle.pool_model.specs.declared.event.Event.TheVariants.{Ask, AddTracker, CloseTracker, Increase, IncreaseToFit, Decrease, MoveReservation, ReadFailed, WriteFailed}
use Rattle.pool_model.specs.declared.entry.Entry.{Entry}
use Rattle.pool_model.specs.Bytes.{bytes_of}
use Rattle.pool_model.specs.State.{Opening, opened, page_at, Session, Sessions, State}
use Rattle.pool_model.specs.Sums.{charge_of}
use Rattle.pool_model.specs.MayFollow.{Allows, MayFollow}
use Rattle.pool_model.specs.Effects.{effect, after}
use Rattle.pool_model.specs.Parts.{without_tracker, keep_first}
use Rattle.pool_model.specs.Legal.{state_after, IsLegal}
use Rattle.pool_model.specs.Sound.{IsQuery, IsSound}
use Rattle.pool_model.proofs.Weights.{total-single}
use Rattle.pool_model.proofs.Seats.{some_is}
use Rattle.pool_model.proofs.Kept.{own_live, legal_sound}
use Rattle.pool_model.proofs.Owners.{StillOpen, failures_open}
use Rattle.pool_model.proofs.Outlines.{grow_outline, shrink_outline, move_outline}
use Rattle.pool_model.proofs.Fronts.{holds_after}
use Rattle.own_entries.specs.AboveLaws.{AllBy, LegalAloneUnderRoot}
use Rattle.own_entries.proofs.Facts.{seat, not_root}
use Rattle.own_entries.proofs.Lives.{other_live}

-- a tracker that is some live session's query
record IsSeat (sessions : Sessions) (t : ℕ) : Type 0 where
  maker : ℕ
  session : Session
  lives : get sessions maker ≡ Some session
  is : session.query ≡ t

abbrev SeatsAll : Trackers → Sessions → Type 0
SeatsAll ts sessions = (t : ℕ) (y : Tracker) → get ts t ≡ Some y → y.parent ≡ Some 0 → IsSeat sessions t

carried : (old new : Sessions) (t : ℕ) → ((m : ℕ) (x : Session) → get old m ≡ Some x → StillOpen new m x) → IsSeat old t → IsSeat new t
carried old new t still it =
    let open_still : StillOpen new it.maker it.session = still it.maker it.session it.lives in
    record { maker = it.maker; session = open_still.session; lives = open_still.lives; is = open_still.same ∙ it.is }

outlined : (old new : Trackers) (sessions : Sessions) → SameOutline old new → SeatsAll old sessions → SeatsAll new sessions
outlined old new sessions same all t y is up =
    let was : (x : Tracker) × (get old t ≡ Some x) × (bare x ≡ bare y) = in_old old new same t y is in
    all t was.0 was.1 (ap (λ (z : Tracker). z.parent) was.2 ∙ up)

not_closed : (maker t : ℕ) (old : Sessions) (m : ℕ) → m ≢ maker → get (without_tracker maker t old) m ≡ get old m
not_closed maker t old m other =
    elim (get old maker) as (λ o. get (elim o [ None ↦ old | Some z ↦ if z.query == t then remove old maker else insert old maker (record z { failures = remove z.failures t }) ]) m ≡ get old m) [
      | None ↦ refl
      | Some z ↦ elim (z.query == t) as (λ b. get (if b then remove old maker else insert old maker (record z { failures = remove z.failures t })) m ≡ get old m) [
        | true ↦ removed_other old maker m other
        | false ↦ get_other old maker _ m other
      ]
    ]

-- a session whose query isn't the tracker that goes stays open
closed_other : (maker t : ℕ) (old : Sessions) (m : ℕ) (x : Session) → get old m ≡ Some x → x.query ≢ t → StillOpen (without_tracker maker t old) m x
closed_other maker t old m x there apart =
    elim (same_or_other m maker) [
      | inl here ↦
          let own : get old maker ≡ Some x = ap (get old) (sym here) ∙ there in
          let new : Session = record x { failures = remove x.failures t } in
          let now : without_tracker maker t old ≡ insert old maker new =
          ap (λ (o : Option Session). elim o [ None ↦ old | Some z ↦ if z.query == t then remove old maker else insert old maker (record z { failures = remove z.failures t }) ]) own
          ∙ ap (λ (b : Bool). if b then remove old maker else insert old maker new) (ne_eqb x.query t apart) in
          record { session = new; lives = ap (λ (ss : Sessions). get ss m) now ∙ ap (get (insert old maker new)) here ∙ get_same old maker new; same = refl }
      | inr other ↦ record { session = x; lives = not_closed maker t old m other ∙ there; same = refl }
    ]

seat_apart : (s : State) (m : ℕ) (x : Session) → get s.sessions m ≡ Some x → (t : ℕ) → t ≢ x.query → IsSeat s.sessions t → ((n : ℕ) → n ≢ m → is_some (get s.sessions n) ≡ false) → ⊥
seat_apart s m x is t apart it others = elim (same_or_other it.maker m) [
  | inl here ↦
      let same : it.session ≡ x = some_is it.session x (sym it.lives ∙ ap (get s.sessions) here ∙ is) in
      apart (sym it.is ∙ ap (λ (z : Session). z.query) same)
  | inr other ↦ let both : true ≡ false = sym (ap is_some it.lives) ∙ others it.maker other in cc
]

module _ (before : List Entry) (s : State) (sound : IsSound s) (all : SeatsAll s.trackers s.sessions) where
  seats_on : (maker : ℕ) (event : Event) → Allows before s maker event → SeatsAll (effect maker event s).trackers (effect maker event s).sessions
  seats_on maker Ask may = λ t y is up. carried s.sessions _ t (failures_open (λ failures. empty) maker s.sessions) (all t y is up)
  seats_on maker (AddTracker t parent limit (Some quota)) may = λ q y is up. elim (same_or_other q t) [
    | inl here ↦ record { maker = maker; session = record { query = t; quota = quota; failures = empty }; lives = get_same s.sessions maker _; is = sym here }
    | inr other ↦
        let it : IsSeat s.sessions q = all q y (sym (get_other s.trackers t _ q other) ∙ is) up in
        let apart : it.maker ≢ maker = λ same. let none : None ≡ Some it.session = sym may.none ∙ ap (get s.sessions) (sym same) ∙ it.lives in cc in
        record { maker = it.maker; session = it.session; lives = get_other s.sessions maker _ it.maker apart ∙ it.lives; is = it.is }
  ]
  seats_on maker (AddTracker t parent limit None) may = λ q y is up. elim (same_or_other q t) [
    | inl here ↦
        let new : Tracker = record { parent = Some parent; depth = depth_of s.trackers parent + 1; limit = limit; reservation = 0 } in
        let same : new ≡ y = some_is new y (sym (get_same s.trackers t new) ∙ ap (get (insert s.trackers t new)) (sym here) ∙ is) in
        let root : parent ≡ 0 = some_is parent 0 (ap (λ (z : Tracker). z.parent) same ∙ up) in
        absurd (not_root s sound may.session.query (sound.seated.seats maker may.session may.opened) (sym root ∙ may.query))
    | inr other ↦ all q y (sym (get_other s.trackers t _ q other) ∙ is) up
  ]
  seats_on maker (CloseTracker t) may = λ q y is up. elim (same_or_other q t) [
    | inl here ↦ let none : None ≡ Some y = sym (removed_same s.trackers t) ∙ ap (get (remove s.trackers t)) (sym here) ∙ is in cc
    | inr other ↦
        let it : IsSeat s.sessions q = all q y (sym (removed_other s.trackers t q other) ∙ is) up in
        let still : StillOpen (without_tracker maker t s.sessions) it.maker it.session = closed_other maker t s.sessions it.maker it.session it.lives (λ same. other (sym it.is ∙ same)) in
        record { maker = it.maker; session = still.session; lives = still.lives; is = still.same ∙ it.is }
  ]
  seats_on maker (Increase t n) may = outlined s.trackers _ s.sessions (grow_outline s sound t n (own_live s sound maker t may.own) may.fits) all
  seats_on maker (IncreaseToFit t n) may = outlined s.trackers _ s.sessions (grow_outline s sound t (lacking (charge_of s) n t s.trackers) (own_live s sound maker t may.own) may.fits) all
  seats_on maker (Decrease t n) may = outlined s.trackers _ s.sessions (shrink_outline s sound t n (own_live s sound maker t may.own) may.spare.unused) all
  seats_on maker (MoveReservation a b n) may = outlined s.trackers _ s.sessions (move_outline s sound a b n (own_live s sound maker a may.own) (own_live s sound maker b may.own_to) may.spare.unused may.fits) all
  seats_on maker (ReadFailed p sum_before sum_after) may = λ t y is up. carried s.sessions _ t (failures_open (keep_first (page_at s p).client s.entries) (page_at s p).session s.sessions) (all t y is up)
  seats_on maker (WriteFailed p sum_before sum_after) may = λ t y is up. carried s.sessions _ t (failures_open (keep_first (page_at s p).client s.entries) (page_at s p).session s.sessions) (all t y is up)
  seats_on maker _ may = all

record Alone (m : ℕ) (before : List Entry) (s : State) : Type 0 where
  all : SeatsAll s.trackers s.sessions
  others : AllBy m before → (n : ℕ) → n ≢ m → is_some (get s.sessions n) ≡ false

all_front : (m : ℕ) (before : List Entry) (e : Entry) → AllBy m (before ++ e ∷ []) → AllBy m before × (e.maker ≡ m)
all_front m [] e by_it = (tt, by_it.0)
all_front m (d ∷ before) e by_it = let rest : AllBy m before × (e.maker ≡ m) = all_front m before e by_it.1 in ((by_it.0, rest.0), rest.1)

alone_on : (m : ℕ) (before : List Entry) (s : State) → IsSound s → Alone m before s → (e : Entry) → MayFollow before s e → Alone m (before ++ e ∷ []) (after s e)
alone_on m before s sound it e may = record {
  all = seats_on before s sound it.all e.maker e.event may.allows;
  others = λ by_it n other.
      let front : AllBy m before × (e.maker ≡ m) = all_front m before e by_it in
      other_live s e.maker n (λ same. other (sym same ∙ front.1)) e.event ∙ it.others front.0 n other;
}

abbrev bare_map : Trackers
bare_map = empty

rooted : (limit t : ℕ) (y : Tracker) → get (root_alone limit) t ≡ Some y → y.parent ≡ Some 0 → ⊥
rooted limit t y is up = elim (same_or_other t 0) [
  | inl here ↦
      let root : Tracker = new_root limit in
      let same : root ≡ y = some_is root y (sym (get_same bare_map 0 root) ∙ ap (get (root_alone limit)) (sym here) ∙ is) in
      let none : None ≡ Some 0 = ap (λ (z : Tracker). z.parent) same ∙ up in cc
  | inr other ↦ let none : None ≡ Some y = sym (get-empty nat_cmp t) ∙ sym (get_other bare_map 0 (new_root limit) t other) ∙ is in cc
]

first_seats : (limit : ℕ) (sessions : Sessions) → SeatsAll (root_alone limit) sessions
first_seats limit sessions t y is up = absurd (rooted limit t y is up)

none_yet : (n : ℕ) (sessions : Sessions) → sessions ≡ empty → is_some (get sessions n) ≡ false
none_yet n sessions bare = ap (λ (ss : Sessions). is_some (get ss n)) bare ∙ ap is_some (get-empty nat_cmp n)

first_alone : (m : ℕ) (o : Opening) → Alone m [] (opened o)
first_alone m o = record {
  all = first_seats (bytes_of o.block_len o.blocks) (opened o).sessions;
  others = λ by_it n other. none_yet n (opened o).sessions refl;
}

pub legal_alone_under_root : LegalAloneUnderRoot
unfolding children_of
legal_alone_under_root o h legal m by_it x is =
    let s : State = state_after o h in
    let sound : IsSound s = legal_sound o h legal in
    let it : Alone m h s = holds_after (Alone m) (alone_on m) o (first_alone m o) h legal in
    let its : IsQuery s.trackers x.query = seat s sound m x is in
    let only : (t : ℕ) (y : Tracker) → get s.trackers t ≡ Some y → t ≢ x.query → share_of 0 y.parent y.reservation ≡ 0 = λ t y there apart.
    under_other 0 y.parent y.reservation (λ up. seat_apart s m x is t apart (it.all t y there up) (it.others by_it)) in
    total-single (λ _ y. share_of 0 y.parent y.reservation) s.trackers x.query its.tracker its.lives only
    ∙ ap (λ (p : Option ℕ). share_of 0 p its.tracker.reservation) its.under ∙ share_here 0 its.tracker.reservation ∙ sym (reservation_is s.trackers x.query its.tracker its.lives)

-- no other maker has a session then
pub legal_alone_sits : (o : Opening) (h : List Entry) → IsLegal o h → (m : ℕ) → AllBy m h → (n : ℕ) → n ≢ m → is_some (get (state_after o h).sessions n) ≡ false
legal_alone_sits o h legal m by_it = (holds_after (Alone m) (alone_on m) o (first_alone m o) h legal).others by_it
