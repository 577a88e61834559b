-- What two calls left of which the second makes room for a row, and what a row that is written leaves.
use Rattle.std.proofs.Common.{◌≡◌, ◌∙◌, ℕ, ◌+◌, ◌-◌, ◌*◌, ◌≤◌, ◌⊎◌, List, [], ◌∷◌, ◌++◌, length, map, take, drop, Bool, Option, Some, None, Result, Ok, Err, OnOk, OnErr, IfSome, option_map, is_some, if◌then◌else◌, refl, ap, sym, subst, inl, inr, arith, append-nil, length-append, length-take-le, length-drop}
use Rattle.std.specs.Bool.{⊤}
use Rattle.reservation_tree.specs.declared.errors.PoolErr.{PoolErr}
use Rattle.std.proofs.lemmas.Option.{none-some, same_Some}
use Rattle.block_arena.specs.Bytes.{written}
use Rattle.store_api.specs.Tokens.{PageToken}
use Rattle.store_api.specs.Holdings.{Holdings, unused_of}
use Rattle.store_api.specs.Signs.{Signs}
use Rattle.store_api.proofs.Growing.{grows_refl}
use Rattle.tuple_stream.specs.PageRows.{IsOneRow}
use Rattle.tuple_stream.specs.Streamed.{OpenPage, Streamed, len_in}
use Rattle.tuple_stream.specs.Streams.{IsAtEnd, IsOpen, IsOpenAt, IsShaped, pins_at}
use Rattle.tuple_stream.specs.Ready.{with_row, with_row_at}
use Rattle.tuple_stream.specs.Trails.{left_page, rested, resting_in}
use Rattle.tuple_stream.specs.Steps.{Adds, Lays, Opens, Readies, Rests, Scene, Shows, Steps, Tells, Went, scene}
use Rattle.tuple_stream.proofs.BuildingQuiet.{none_come}
use Rattle.tuple_stream.proofs.Chains.{keeps_places_trans, same_account}
use Rattle.tuple_stream.proofs.Going.{steps_trans, steps_under, went_under}
use Rattle.tuple_stream.proofs.LastPage.{ready_opened}
use Rattle.tuple_stream.proofs.Sinces.{since_now}
use Rattle.tuple_stream.proofs.WrittenPlaces.{written_places}
use Rattle.tuple_stream.proofs.WrittenStream.{written_has}

-- after a call that keeps the rows
pub readies_after : {S S2 K K2 : Type 0} (t bytes : ℕ) (a b c : Scene) → (S → S2) → (K → K2) → Went S K ⊥ t [] a b → Readies S2 K2 t bytes b c → Readies S K t bytes a c
readies_after {S} {S2} {K} {K2} t bytes a b c sure so one two =
    let shows : (rows : List (List ℕ)) → S → Shows a rows → Shows b rows = λ rows s has. subst (λ (rs : List (List ℕ)). Shows b rs) (append-nil rows) (one.rows rows s has) in
    record {
      step = steps_trans a b c t so (λ never. never) one.step two.step;
      spent = two.spent ∙ one.spent;
      counted = omega (arith, one.counted, two.counted);
      within = λ place is_in. two.within place (one.within place is_in);
      space = two.space;
      ready = λ rows s has. two.ready rows (sure s) (shows rows s has);
      rows = λ rows s has. two.rows rows (sure s) (shows rows s has);
      places = λ rows s has. keeps_places_trans t a.stream b.stream c.stream a.held b.held c.held [] [] (one.places rows s has) (two.places rows (sure s) (shows rows s has));
    }

pub readies_under : {S S2 K K2 : Type 0} (t bytes : ℕ) (a b : Scene) → (S → S2) → (K → K2) → Readies S2 K2 t bytes a b → Readies S K t bytes a b
readies_under {S} {S2} {K} {K2} t bytes a b sure so it =
    record {
      step = steps_under t a b so (λ never. never) it.step;
      spent = it.spent;
      counted = it.counted;
      within = it.within;
      space = it.space;
      ready = λ rows s has. it.ready rows (sure s) has;
      rows = λ rows s has. it.rows rows (sure s) has;
      places = λ rows s has. it.places rows (sure s) has;
    }

-- a page was let rest before rows are added
pub rests_adding : (t : ℕ) (a b : Scene) → Rests t a b → Went ⊤ (IsAtEnd a.stream ⊎ (a.stream.pinned ≡ None)) ⊥ t [] a b
rests_adding t a b rests = went_under t a b (λ sure. sure) (λ steady. steady) (λ never. absurd never) rests

-- a call that was answered Ok, or not
pub on_ok : {X E A B : Type 0} (result : Result X E) → (A → B) → OnOk result A → OnOk result B
on_ok (Ok x) so is = so is
on_ok (Err e) so is = tt

pub on_err : {X A B : Type 0} (result : Result X PoolErr) → (A → B) → OnErr result A → OnErr result B
on_err (Ok x) so is = tt
on_err (Err e) so is = so is

pub any_err : {X B : Type 0} (result : Result X PoolErr) → B → OnErr result B
any_err (Ok x) is = tt
any_err (Err e) is = is

open_last : (o : Option OpenPage) (place long : ℕ) → option_map (λ (page : OpenPage). page.place + 1) o ≡ Some long → place + 1 ≡ long → option_map (λ (page : OpenPage). page.place) o ≡ Some place
open_last None place long is ends = absurd (none-some long is)
open_last (Some page) place long is ends =
    let next : page.place + 1 ≡ long = same_Some (page.place + 1) long is in
    ap (λ (n : ℕ). Some n) (omega (arith, next, ends))

last_open : (o : Option OpenPage) (place : ℕ) → option_map (λ (page : OpenPage). page.place) o ≡ Some place → option_map (λ (page : OpenPage). page.place + 1) o ≡ Some (place + 1)
last_open None place is = absurd (none-some place is)
last_open (Some page) place is = ap (λ (n : ℕ). Some (n + 1)) (same_Some page.place place is)

-- where the last page is pinned, rows can be appended
pub at_end_open : (s : Streamed) (place : ℕ) → place + 1 ≡ length s.pages → IsAtEnd s → IsOpenAt place s
at_end_open s place ends at_end = open_last s.pinned place (length s.pages) (at_end (omega (arith, ends))) ends

-- the last page was opened, and has room
pub opened_readies : (t bytes place : ℕ) (a b : Scene) → Opens place t a b → b.stream.pages ≡ a.stream.pages → b.stream.used ≡ a.stream.used → IsOpenAt place b.stream → place + 1 ≡ length a.stream.pages → a.stream.used + bytes ≤ len_in a.stream a.held
    → Readies (Tells a ⊎ IsAtEnd a.stream) (IsAtEnd a.stream) t bytes a b
opened_readies t bytes place a b went pages used open_is ends room =
    let steady : IsAtEnd a.stream → IsOpenAt place a.stream = at_end_open a.stream place ends in
    let weak : Adds t [] a b = went_under t a b (λ sure. elim sure [ inl tells ↦ inl tells | inr at_end ↦ inr (steady at_end) ]) steady (λ never. absurd never) went in
    let shows : (rows : List (List ℕ)) → (Tells a ⊎ IsAtEnd a.stream) → Shows a rows → Shows b rows = λ rows s has. subst (λ (rs : List (List ℕ)). Shows b rs) (append-nil rows) (weak.rows rows s has) in
    let long : length b.stream.pages ≡ length a.stream.pages = ap length pages in
    let len : len_in b.stream b.held ≡ len_in a.stream a.held = ap (λ (n : ℕ). n * b.held.block_len) weak.step.sized ∙ ap (λ (n : ℕ). a.stream.page_blocks * n) weak.step.touches.block_len in
    let enough : b.stream.used + bytes ≤ len_in b.stream b.held = omega (arith, used, room, len) in
    record {
      step = weak.step;
      spent = weak.spent;
      counted = omega (arith, weak.counted);
      within = weak.within;
      space = record { last = last_open b.stream.pinned place open_is ∙ ap (λ (n : ℕ). Some n) (omega (arith, ends, long)); room = enough };
      ready = λ rows s has. ready_opened t bytes place b.stream b.held rows weak.step.shape (shows rows s has) open_is (omega (arith, ends, long)) enough;
      rows = λ rows s has. (shows rows s has).are;
      places = weak.places;
    }

written_long : (at : ℕ) (row bytes : List ℕ) → at + length row ≤ length bytes → length (written at row bytes) ≡ length bytes
written_long at row bytes fits =
    let front : length (take at bytes) ≡ at = length-take-le at bytes (omega (arith, fits)) in
    let back : length (drop (at + length row) bytes) ≡ length bytes - (at + length row) = length-drop (at + length row) bytes in
    let all : length (take at bytes ++ (row ++ drop (at + length row) bytes)) ≡ length (take at bytes) + length (row ++ drop (at + length row) bytes) = length-append (take at bytes) (row ++ drop (at + length row) bytes) in
    let behind : length (row ++ drop (at + length row) bytes) ≡ length row + length (drop (at + length row) bytes) = length-append row (drop (at + length row) bytes) in
    omega (arith, front, back, all, behind, fits)

no_last : (o : Option OpenPage) (pages : List PageToken) → option_map (λ (page : OpenPage). page.place + 1) o ≡ Some (length pages) → pages ≡ [] → ⊥
no_last None pages is none = none-some (length pages) is
no_last (Some page) pages is none = let next : page.place + 1 ≡ length pages = same_Some (page.place + 1) (length pages) is in let empty : length pages ≡ 0 = ap length none in omega (arith, next, empty)

same_pins : (at : ℕ) (row : List ℕ) (o : Option OpenPage) (place : ℕ) → pins_at (option_map (with_row_at at row) o) place ≡ pins_at o place
same_pins at row None place = refl
same_pins at row (Some page) place = refl

same_resting : (at : ℕ) (row : List ℕ) (o : Option OpenPage) (pages : List PageToken) → resting_in (option_map (with_row_at at row) o) pages ≡ resting_in o pages
same_resting at row None pages = refl
same_resting at row (Some page) pages = refl

same_some : (at : ℕ) (row : List ℕ) (o : Option OpenPage) → is_some (option_map (with_row_at at row) o) ≡ is_some o
same_some at row None = refl
same_some at row (Some page) = refl

still_open : (row : List ℕ) (count : ℕ) (s : Streamed) (h : Holdings) (o : Option OpenPage) → s.used + length row ≤ len_in s h → IfSome o (IsOpen s h) → IfSome (option_map (with_row_at s.used row) o) (IsOpen (with_row row count s) h)
still_open row count s h None room is = tt
still_open row count s h (Some page) room is =
    record {
      inside = is.inside;
      fits = record {
        blocks = is.fits.blocks;
        block_len = is.fits.block_len;
        whole = written_long s.used row page.buf.bytes (let whole : length page.buf.bytes ≡ len_in s h = is.fits.whole in omega (arith, room, whole)) ∙ is.fits.whole;
      };
    }

-- a row is written at the end of a stream, whatever its pages show
written_shape : (t : ℕ) (row : List ℕ) (count : ℕ) (s : Streamed) (h : Holdings) → IsShaped t s h → s.used + length row ≤ len_in s h → option_map (λ (page : OpenPage). page.place + 1) s.pinned ≡ Some (length s.pages) → IsShaped t (with_row row count s) h
written_shape t row count s h is room last =
    record {
      sized = is.sized;
      apart = is.apart;
      own = is.own;
      pins = λ place p there. is.pins place p there ∙ sym (same_pins s.used row s.pinned place);
      opened = still_open row count s h s.pinned room is.opened;
      begins = λ none. absurd (no_last s.pinned s.pages last none);
    }

written_steps : (t : ℕ) (row : List ℕ) (count : ℕ) (s : Streamed) (h : Holdings) (signs : Signs) → IsShaped t (with_row row count s) h → Steps (Lays ⊤ ⊥ (scene s h signs) (scene (with_row row count s) h signs)) t (scene s h signs) (scene (with_row row count s) h signs)
written_steps t row count s h signs shape =
    let some : is_some (with_row row count s).pinned ≡ is_some s.pinned = same_some s.used row s.pinned in
    record {
      shape = shape;
      sized = refl;
      touches = record {
        block_len = refl;
        session = refl;
        query = refl;
        limit = refl;
        reservation = refl;
        room = refl;
        above = refl;
        live_clients = refl;
        loans = refl;
        told = refl;
        clients = λ q apart. refl;
        account = λ lives. same_account (h.clients t) lives (unused_of t h) refl;
        pages = λ q lives apart. (refl, apart);
        back = λ q lives apart. (refl, apart);
        unused = ap (λ (b : Bool). unused_of t h + (if b then len_in s h else 0)) some;
        slots = refl;
      };
      trail = since_now (Lays ⊤ ⊥ (scene s h signs) (scene (with_row row count s) h signs)) signs.trail
          (record {
            creates = omega arith;
            building = λ steady. none_come.building;
            left = λ steady. ap (λ (ps : List PageToken). map (left_page h) ps) (same_resting s.used row s.pinned s.pages) ∙ sym (append-nil (rested s h));
            reads = λ never. absurd never;
          });
      grows = grows_refl signs;
    }

-- the row that room was made for is written
pub written_went : {S K : Type 0} (t : ℕ) (row : List ℕ) (count : ℕ) (a b : Scene) (now : Streamed) → now ≡ with_row row count b.stream → IsOneRow row → count ≡ a.stream.count + 1 → Readies S K t (length row) a b → Went S K ⊥ t (row ∷ []) a (scene now b.held b.signs)
written_went {S} {K} t row count a b now same one counts it =
    subst (λ (s : Streamed). Went S K ⊥ t (row ∷ []) a (scene s b.held b.signs)) (sym same)
    (record {
      step = steps_trans a b (scene (with_row row count b.stream) b.held b.signs) t (λ k. tt) (λ never. never) it.step (written_steps t row count b.stream b.held b.signs (written_shape t row count b.stream b.held it.step.shape it.space.room it.space.last));
      spent = it.spent;
      counted = counts;
      within = λ place is_in. let now = it.within place is_in in record { page_is = now.page_is; row_is = let fits = now.row_is in omega (arith, fits, counts, it.counted) };
      rows = λ rows s has. written_has count (it.ready rows s has) one rows (omega (arith, counts, it.counted)) (it.rows rows s has);
      places = λ rows s has. keeps_places_trans t a.stream b.stream (with_row row count b.stream) a.held b.held b.held [] (row ∷ []) (it.places rows s has) (written_places count (it.ready rows s has) one);
    })
