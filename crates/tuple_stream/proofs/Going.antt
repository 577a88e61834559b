-- What calls of a stream left, over none, over a refused one, and over two, one after the other.
use Rattle.std.proofs.Common.{◌≡◌, ◌∙◌, ℕ, List, [], ◌++◌, length, None, Result, Ok, Err, IfErr, refl, ap, sym, subst, inl, inr, arith, append-nil, append_assoc, length-append}
use Rattle.std.proofs.lemmas.List.Elements.{All-append}
use Rattle.reservation_tree.specs.declared.errors.PoolErr.{PoolErr}
use Rattle.pool_model.specs.declared.event.Event.{Event}
use Rattle.store_api.specs.Holdings.{Holdings}
use Rattle.store_api.specs.Entries.{Made}
use Rattle.store_api.specs.Signs.{Grows, Signs}
use Rattle.store_api.proofs.Answered.{answered_before}
use Rattle.store_api.proofs.Growing.{grows_refl, grows_trans}
use Rattle.tuple_stream.specs.Streamed.{Streamed}
use Rattle.tuple_stream.specs.Streams.{IsShaped, HasRows, IsOpenAt}
use Rattle.tuple_stream.specs.Places.{IsWithin, KeepsPlaces}
use Rattle.tuple_stream.specs.Touches.{IsFull}
use Rattle.tuple_stream.specs.Trails.{EnteredEvents, HaveRead, IsBuilding, Left, PinsFirst, all_left, creates_in, rested}
use Rattle.tuple_stream.specs.Steps.{CameOf, Lays, Opens, Rests, Scene, scene, Shaped, Shows, Steps, Went}
use Rattle.tuple_stream.proofs.BuildingQuiet.{AreQuiet, creates_join, left_join, none_come, quiet_first}
use Rattle.tuple_stream.proofs.Chains.{touches_kept, touches_trans, keeps_places_refl, keeps_places_trans}
use Rattle.tuple_stream.proofs.PinsFirst.{has_pin_back, has_pin_front, pins_first_join}
use Rattle.tuple_stream.proofs.Sinces.{since_joined, since_made, since_now, since_so}

-- what the events of a call did that changed nothing but signs
pub record AreStill (steady reading : Type 0) (events : List Event) : Type 0 where
  pub creates : creates_in events ≡ 0
  pub quiet : steady → AreQuiet 0 events
  pub first : reading → PinsFirst events

pub quiet_still : (K R : Type 0) (events : List Event) → AreQuiet 0 events → AreStill K R events
quiet_still K R events quiet = record { creates = quiet.creates; quiet = λ steady. quiet; first = λ reading. quiet_first events quiet }

-- where nothing changed but signs
module _ {K R : Type 0} (t : ℕ) (a b : Scene) (is : Shaped t a) (stream : b.stream ≡ a.stream) (held : b.held ≡ a.held) where
  lays_none : (events : List Event) → AreStill K R events → Lays K R a b events
  lays_none events still =
      record {
        creates = let same = ap (λ (s : Streamed). length s.pages) stream in let none = still.creates in omega (arith, same, none);
        building = λ steady. (still.quiet steady).building;
        left = λ steady.
            ap (λ (s : Streamed). rested s b.held) stream ∙ ap (rested a.stream) held ∙ sym (append-nil (rested a.stream a.held))
            ∙ ap (λ (ls : List Left). rested a.stream a.held ++ ls) (sym (still.quiet steady).none);
        reads = λ reading closed. record { first = still.first reading; pinned = inr (ap (λ (s : Streamed). s.pinned) stream ∙ closed) };
      }

  pub went_still : {S : Type 0} → EnteredEvents (AreStill K R) a.signs.trail b.signs.trail → Grows a.signs b.signs → Went S K R t [] a b
  went_still since grows =
      record {
        step = record {
          shape = subst (λ (h : Holdings). IsShaped t b.stream h) (sym held) (subst (λ (s : Streamed). IsShaped t s a.held) (sym stream) is);
          sized = ap (λ (s : Streamed). s.page_blocks) stream;
          touches = touches_kept t a.stream b.stream a.held b.held stream held;
          trail = since_so (AreStill K R) (Lays K R a b) a.signs.trail b.signs.trail lays_none since;
          grows = grows;
        };
        spent = ap (λ (s : Streamed). s.spent) stream;
        counted = let same = ap (λ (s : Streamed). s.count) stream in omega (arith, same);
        within = λ place is_in. subst (IsWithin place) (sym stream) is_in;
        rows = λ rows sure shows.
            subst (Shows b) (sym (append-nil rows))
            (subst (λ (h : Holdings). HasRows rows b.stream h) (sym held) (subst (λ (s : Streamed). HasRows rows s a.held) (sym stream) shows));
        places = λ rows sure shows.
            subst (λ (h : Holdings). KeepsPlaces [] a.stream b.stream a.held h) (sym held)
            (subst (λ (s : Streamed). KeepsPlaces [] a.stream s a.held a.held) (sym stream) (keeps_places_refl a.stream a.held));
      }

-- where nothing was called
pub went_refl : {S K R : Type 0} (t : ℕ) (s now : Streamed) (h : Holdings) (signs : Signs) → IsShaped t s h → now ≡ s → Went S K R t [] (scene s h signs) (scene now h signs)
went_refl {S} {K} {R} t s now h signs is same =
    went_still t (scene s h signs) (scene now h signs) is same refl (since_now (AreStill K R) signs.trail (quiet_still K R [] none_come)) (grows_refl signs)

-- a call that was refused made quiet entries
pub made_quiet : (K R : Type 0) (P : List Event → Type 0) (maker : ℕ) (old new : Signs) → ((events : List Event) → P events → AreQuiet 0 events) → Made maker P old new → EnteredEvents (AreStill K R) old.trail new.trail
made_quiet K R P maker old new quiet made =
    since_so P (AreStill K R) old.trail new.trail (λ events is. quiet_still K R events (quiet events is)) (since_made P maker old new made)

-- a stream is read over two spans of events
pub read_joined : (s now : Streamed) (first next : List Event) → HaveRead s first → (s.pinned ≡ None → HaveRead now next) → HaveRead now (first ++ next)
read_joined s now first next one two =
    elim one.pinned [
      | inl pin ↦ record { first = pins_first_join first next one.first (inl pin); pinned = inl (has_pin_front first next pin) }
      | inr closed ↦
          let then_read = two closed in
          record {
            first = pins_first_join first next one.first (inr then_read.first);
            pinned = elim then_read.pinned [ inl pin ↦ inl (has_pin_back first next pin) | inr none ↦ inr none ];
          }
    ]

module _ (a b c : Scene) where
  lays_join : {K K2 R R2 : Type 0} (first next : List Event) → (K → K2) → (R → R2) → Lays K R a b first → Lays K2 R2 b c next → Lays K R a c (first ++ next)
  lays_join first next so reads one two =
      record {
        creates = let all = creates_join first next in omega (arith, all, one.creates, two.creates);
        building = λ steady. All-append IsBuilding first next (one.building steady) (two.building (so steady));
        left = λ steady.
            two.left (so steady) ∙ ap (λ (ls : List Left). ls ++ all_left next) (one.left steady)
            ∙ append_assoc (rested a.stream a.held) (all_left first) (all_left next)
            ∙ ap (λ (ls : List Left). rested a.stream a.held ++ ls) (sym (left_join first next));
        reads = λ reading closed. read_joined b.stream c.stream first next (one.reads reading closed) (two.reads (reads reading));
      }

  pub steps_trans : {K K2 R R2 : Type 0} (t : ℕ) → (K → K2) → (R → R2) → Steps (Lays K R a b) t a b → Steps (Lays K2 R2 b c) t b c → Steps (Lays K R a c) t a c
  steps_trans {K} {K2} {R} {R2} t so reads one two =
      record {
        shape = two.shape;
        sized = two.sized ∙ one.sized;
        touches = touches_trans t a.stream b.stream c.stream a.held b.held c.held one.touches two.touches;
        trail = since_joined (Lays K R a b) (Lays K2 R2 b c) (Lays K R a c) a.signs.trail b.signs.trail c.signs.trail (λ first next was is. lays_join first next so reads was is) one.trail two.trail;
        grows = grows_trans a.signs b.signs c.signs one.grows two.grows;
      }

  pub went_trans : {S S2 K K2 R R2 : Type 0} {some more : List (List ℕ)} (t : ℕ) → (S → S2) → (K → K2) → (R → R2) → Went S K R t some a b → Went S2 K2 R2 t more b c → Went S K R t (some ++ more) a c
  went_trans {S} {S2} {K} {K2} {R} {R2} {some} {more} t sure so reads one two =
      record {
        step = steps_trans t so reads one.step two.step;
        spent = two.spent ∙ one.spent;
        counted = let all = length-append some more in omega (arith, all, one.counted, two.counted);
        within = λ place is_in. two.within place (one.within place is_in);
        rows = λ rows s has. subst (Shows c) (append_assoc rows some more) (two.rows (rows ++ some) (sure s) (one.rows rows s has));
        places = λ rows s has. keeps_places_trans t a.stream b.stream c.stream a.held b.held c.held some more (one.places rows s has) (two.places (rows ++ some) (sure s) (one.rows rows s has));
      }

  -- what the store answered in the second of two calls, it answered in both
  pub came_later : {X : Type 0} (result : Result X PoolErr) → Grows a.signs b.signs → b.stream.page_blocks ≡ a.stream.page_blocks → IfErr result (CameOf b c) → IfErr result (CameOf a c)
  came_later (Ok x) grows sized came = tt
  came_later (Err e) grows sized came =
      record {
        answered = answered_before e a.signs b.signs c.signs grows came.answered;
        full = subst (λ (n : ℕ). IsFull n c.held.free_slots e) sized came.full;
      }

-- the same under conditions that say more
pub steps_under : {K K2 R R2 : Type 0} (t : ℕ) (a b : Scene) → (K → K2) → (R → R2) → Steps (Lays K2 R2 a b) t a b → Steps (Lays K R a b) t a b
steps_under {K} {K2} {R} {R2} t a b so reads step =
    record {
      shape = step.shape;
      sized = step.sized;
      touches = step.touches;
      trail = since_so (Lays K2 R2 a b) (Lays K R a b) a.signs.trail b.signs.trail
          (λ events lays. record { creates = lays.creates; building = λ k. lays.building (so k); left = λ k. lays.left (so k); reads = λ r. lays.reads (reads r) }) step.trail;
      grows = step.grows;
    }

pub went_under : {S S2 K K2 R R2 : Type 0} {more : List (List ℕ)} (t : ℕ) (a b : Scene) → (S → S2) → (K → K2) → (R → R2) → Went S2 K2 R2 t more a b → Went S K R t more a b
went_under {S} {S2} {K} {K2} {R} {R2} t a b sure so reads went =
    record {
      step = steps_under t a b so reads went.step;
      spent = went.spent;
      counted = went.counted;
      within = went.within;
      rows = λ rows s has. went.rows rows (sure s) has;
      places = λ rows s has. went.places rows (sure s) has;
    }

-- a page is pinned where another one was let rest before
pub opens_after : (place t : ℕ) (a b c : Scene) → (IsOpenAt place a.stream → ⊥) → Rests t a b → Opens place t b c → b.held.told ≡ a.held.told → Opens place t a c
opens_after place t a b c apart rests opens told =
    went_trans a b c t
    (λ sure. elim sure [ inl tells ↦ inl (told ∙ tells) | inr open_is ↦ absurd (apart open_is) ])
    (λ open_is. absurd (apart open_is)) (λ reading. tt)
    (went_under t a b (λ sure. tt) (λ open_is. absurd (apart open_is)) (λ reading. tt) rests) opens
