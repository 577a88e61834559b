-- A call of one stream is a step of all that stand beside it.
use Rattle.std.proofs.Common.{◌≡◌, ◌≢◌, ◌∙◌, ℕ, ◌+◌, ◌*◌, List, length, if◌then◌else◌, Option, Some, None, IsSome, option_map, is_some, refl, ap, sym, subst, inl, inr, arith, ne_eqb, eq-eqb, ◌∷◌, [], ◌++◌}
use Rattle.std.specs.Prelude.{set}
use Rattle.std.specs.List.{slice_get, sum_by}
use Rattle.std.proofs.lemmas.Bool.{cases_eq}
use Rattle.std.proofs.lemmas.Option.{same_Some, slice_get_within}
use Rattle.std.proofs.lemmas.List.Sums.{sum_by-append}
use Rattle.pool_model.specs.declared.event.Event.{Event}
use Rattle.tuple_stream.specs.Streamed.{Streamed}
use Rattle.tuple_stream.specs.Streams.{IsApart, IsShaped, HasRows}
use Rattle.store_api.specs.Holdings.{Holdings}
use Rattle.store_api.specs.Signs.{Signs}
use Rattle.tuple_stream.specs.Touches.{Touches, held, slots_of}
use Rattle.tuple_stream.specs.Trails.{HaveRead, Left, all_left, rested}
use Rattle.tuple_stream.specs.Steps.{Lays, Scene, Steps, scene}
use Rattle.tuple_stream.specs.Spending.{Goes}
use Rattle.tuple_stream.specs.Families.{AllClosed, AreDisjoint, AreShaped, Family, FamilySteps, GoesAll, HaveReadAll, IsOutside, LaysAll, ShowAll, TouchesAll, changed, family, pages_in}
use Rattle.tuple_stream.specs.FamilyCalls.{with_rows}
use Rattle.tuple_stream.proofs.Beside.{beside_disjoint, beside_has, beside_shape}
use Rattle.tuple_stream.proofs.FamilyBeside.{disjoint_back, rested_beside, slots_beside}
use Rattle.tuple_stream.proofs.PageLists.{at_end, still_at}
use Rattle.tuple_stream.proofs.OnePlace.{each_changed, here, other, set_here, set_long, set_there, sum_set}
use Rattle.tuple_stream.proofs.Sinces.{since_so}

slots_moved : (old new : Option ℕ) (a b f g : ℕ) → option_map (λ n. n + b) new ≡ option_map (λ n. n + a) old → g + a ≡ f + b → option_map (λ n. n + g) new ≡ option_map (λ n. n + f) old
slots_moved None None a b f g moved even = refl
slots_moved None (Some n) a b f g moved even = absurd cc
slots_moved (Some m) None a b f g moved even = absurd cc
slots_moved (Some m) (Some n) a b f g moved even = let slots : n + b ≡ m + a = cc in ap Some (omega (arith, slots, even))

module _ {laid : List Event → Type 0} {t : ℕ} (i : ℕ) {f : Family} {a : Streamed} {b : Scene} (is : AreShaped t f) (at : slice_get f.streams i ≡ Some a) (step : Steps laid t (scene a f.held f.signs) b) where
  from_it : (j : ℕ) (s : Streamed) → j ≢ i → slice_get f.streams j ≡ Some s → AreDisjoint a s
  from_it j s apart there = is.apart i j a s (λ same. apart (sym same)) at there

  beside : (j : ℕ) (s : Streamed) → j ≢ i → slice_get f.streams j ≡ Some s → AreDisjoint b.stream s
  beside j s apart there = beside_disjoint step.touches (is.each j s there) (from_it j s apart there)

  each_now : (j : ℕ) (s : Streamed) → slice_get (set f.streams i b.stream) j ≡ Some s → IsShaped t s b.held
  each_now j s there =
      elim (cases_eq j i) [
        | inl same ↦ subst (λ (r : Streamed). IsShaped t r b.held) (here f.streams i at b.stream j s same there) step.shape
        | inr apart ↦ let was = other f.streams i at b.stream j s apart there in beside_shape step.touches (is.each j s was) (from_it j s apart was)
      ]

  apart_now : (j k : ℕ) (x y : Streamed) → j ≢ k → slice_get (set f.streams i b.stream) j ≡ Some x → slice_get (set f.streams i b.stream) k ≡ Some y → AreDisjoint x y
  apart_now j k x y differ first second =
      elim (cases_eq j i) [
        | inl same ↦
            let apart : k ≢ i = λ also. differ (same ∙ sym also) in
            subst (λ (r : Streamed). AreDisjoint r y) (here f.streams i at b.stream j x same first) (beside k y apart (other f.streams i at b.stream k y apart second))
        | inr apart ↦ elim (cases_eq k i) [
          | inl also ↦ subst (λ (r : Streamed). AreDisjoint x r) (here f.streams i at b.stream k y also second) (disjoint_back b.stream x (beside j x apart (other f.streams i at b.stream j x apart first)))
          | inr away ↦ is.apart j k x y differ (other f.streams i at b.stream j x apart first) (other f.streams i at b.stream k y away second)
        ]
      ]

  held_same : (j : ℕ) (s : Streamed) → j ≢ i → slice_get f.streams j ≡ Some s → held s b.held ≡ held s f.held
  held_same j s apart there = ap (λ (n : ℕ). if is_some s.pinned then s.page_blocks * n else 0) step.touches.block_len

  outside_now : (q : ℕ) → IsSome (f.held.pages q) → IsOutside q f.streams → (b.held.pages q ≡ f.held.pages q) × IsOutside q (set f.streams i b.stream)
  outside_now q lives outside =
      let one = step.touches.pages q lives (outside i a at) in
      (one.0, each_changed f.streams i at b.stream (λ s. IsApart q s.pages) outside one.1)

  outside_before : (q : ℕ) → IsSome (b.held.pages q) → IsOutside q (set f.streams i b.stream) → (f.held.pages q ≡ b.held.pages q) × IsOutside q f.streams
  outside_before q lives outside =
      let one = step.touches.back q lives (outside i b.stream (set_here f.streams i a b.stream at)) in (
        one.0,
        λ j s there. elim (cases_eq j i) [
          | inl same ↦ subst (λ (r : Streamed). IsApart q r.pages) (same_Some a s (sym at ∙ ap (slice_get f.streams) (sym same) ∙ there)) one.1
          | inr apart ↦ outside j s (set_there f.streams i j b.stream apart ∙ there)
        ],
      )

  touches_all : TouchesAll t f (changed i b f)
  touches_all =
      record {
        block_len = step.touches.block_len;
        session = step.touches.session;
        query = step.touches.query;
        limit = step.touches.limit;
        reservation = step.touches.reservation;
        room = step.touches.room;
        above = step.touches.above;
        live_clients = step.touches.live_clients;
        loans = step.touches.loans;
        told = step.touches.told;
        clients = step.touches.clients;
        account = step.touches.account;
        pages = outside_now;
        back = outside_before;
        unused =
            let all = sum_set (λ (s : Streamed). held s f.held) (λ (s : Streamed). held s b.held) f.streams i a b.stream at held_same in
            omega (arith, all, step.touches.unused);
        slots =
            slots_moved f.held.free_slots b.held.free_slots (sum_by (slots_of a f.held) a.pages) (sum_by (slots_of b.stream b.held) b.stream.pages) _ _ step.touches.slots
            (sum_set (λ (s : Streamed). sum_by (slots_of s f.held) s.pages) (λ (s : Streamed). sum_by (slots_of s b.held) s.pages) f.streams i a b.stream at
            (λ j s apart there. slots_beside step.touches (is.each j s there) (from_it j s apart there)));
      }

  -- whatever holds of the events of the call holds of a step
  pub family_step : (laid_all : List Event → Type 0) → ((events : List Event) → laid events → laid_all events) → FamilySteps laid_all t f (changed i b f)
  family_step laid_all so =
      record {
        shaped = record { each = each_now; apart = apart_now };
        long = set_long f.streams i b.stream;
        sized = λ blocks sized. each_changed f.streams i at b.stream (λ s. s.page_blocks ≡ blocks) sized (step.sized ∙ sized i a at);
        touches = touches_all;
        trail = since_so laid laid_all f.signs.trail b.signs.trail so step.trail;
        grows = step.grows;
      }

  pub rests_beside : (w : Left → ℕ) (j : ℕ) (s : Streamed) → j ≢ i → slice_get f.streams j ≡ Some s → sum_by w (rested s b.held) ≡ sum_by w (rested s f.held)
  rests_beside w j s apart there = ap (sum_by w) (rested_beside step.touches (is.each j s there) (from_it j s apart there))

  -- the rows of the others stay, whether pins are told or not
  pub family_shows : (rows : ℕ → List (List ℕ)) (these : List (List ℕ)) → ShowAll rows f → HasRows these b.stream b.held → ShowAll (with_rows i these rows) (changed i b f)
  family_shows rows these shows now = λ j s there.
      elim (cases_eq j i) [
        | inl same ↦
            subst (λ (r : Streamed). HasRows (with_rows i these rows j) r b.held) (here f.streams i at b.stream j s same there)
            (subst (λ (rs : List (List ℕ)). HasRows rs b.stream b.held) (sym (rw (eq-eqb j i same) refl)) now)
        | inr apart ↦
            let was = other f.streams i at b.stream j s apart there in
            subst (λ (rs : List (List ℕ)). HasRows rs s b.held) (sym (rw (ne_eqb j i apart) refl))
            (beside_has step.touches (is.each j s was) (from_it j s apart was) (rows j) (shows j s was))
      ]

-- how many pages there are, by those of the one that changed
pub pages_changed : (i : ℕ) (f : Family) (a : Streamed) (b : Scene) → slice_get f.streams i ≡ Some a → pages_in (changed i b f) + length a.pages ≡ pages_in f + length b.stream.pages
pages_changed i f a b at = sum_set (λ (s : Streamed). length s.pages) (λ (s : Streamed). length s.pages) f.streams i a b.stream at (λ j z apart there. refl)

-- reading one of them is reading them
read_in : (i : ℕ) (f : Family) (a : Streamed) (b : Scene) (events : List Event) → slice_get f.streams i ≡ Some a → (a.pinned ≡ None → HaveRead b.stream events) → AllClosed f → HaveReadAll (changed i b f) events
read_in i f a b events at reads closed =
    let read : HaveRead b.stream events = reads (closed i a at) in
    record {
      first = read.first;
      pinned = elim read.pinned [
        | inl pin ↦ inl pin
        | inr none ↦ inr (each_changed f.streams i at b.stream (λ s. s.pinned ≡ None) closed none)
      ];
    }

pub lays_step : {K R : Type 0} {t : ℕ} (i : ℕ) {f : Family} {a : Streamed} {b : Scene} → AreShaped t f → slice_get f.streams i ≡ Some a → Steps (Lays K R (scene a f.held f.signs) b) t (scene a f.held f.signs) b → FamilySteps (LaysAll K R f (changed i b f)) t f (changed i b f)
lays_step {K} {R} {t} i {f} {a} {b} is at step =
    family_step i is at step (LaysAll K R f (changed i b f))
    (λ events lays. record {
      creates = let all = pages_changed i f a b at in omega (arith, all, lays.creates);
      building = lays.building;
      left = λ steady w.
          let all = sum_set (λ (s : Streamed). sum_by w (rested s f.held)) (λ (s : Streamed). sum_by w (rested s b.held)) f.streams i a b.stream at (rests_beside i is at step w) in
          let more : sum_by w (rested b.stream b.held) ≡ sum_by w (rested a f.held) + sum_by w (all_left events) = ap (sum_by w) (lays.left steady) ∙ sum_by-append w (rested a f.held) (all_left events) in
          omega (arith, all, more);
      reads = λ reading. read_in i f a b events at (lays.reads reading);
    })

pub goes_step : {t : ℕ} (i : ℕ) {f : Family} {a : Streamed} {b : Scene} → AreShaped t f → slice_get f.streams i ≡ Some a → Steps (Goes (scene a f.held f.signs) b) t (scene a f.held f.signs) b → FamilySteps (GoesAll f (changed i b f)) t f (changed i b f)
goes_step {t} i {f} {a} {b} is at step =
    family_step i is at step (GoesAll f (changed i b f)) (λ events goes. record { creates = goes.creates; reads = read_in i f a b events at goes.reads })

-- the last one went, with all its pages
pub last_gone : (t : ℕ) (streams : List Streamed) (s now : Streamed) (old new : Holdings) (was is : Signs) → AreShaped t (family (streams ++ s ∷ []) old was) → Touches t s now old new → AreShaped t (family streams new is)
last_gone t streams s now old new was is shaped touches =
    record {
      each = λ i r there.
          let mid = still_at streams s r i there in
          beside_shape touches (shaped.each i r mid)
          (shaped.apart (length streams) i s r (λ same. let inside = slice_get_within streams i r there in omega (arith, same, inside)) (at_end streams s) mid);
      apart = λ i j a b differ first second. shaped.apart i j a b differ (still_at streams s a i first) (still_at streams s b j second);
    }
