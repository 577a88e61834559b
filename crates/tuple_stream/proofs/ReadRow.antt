-- A row is read in the page of a place, or in the next one.
use Rattle.std.proofs.Common.{◌≡◌, ◌≢◌, ◌∙◌, ℕ, ◌+◌, ◌<◌, List, [], ◌∷◌, ◌++◌, length, take, drop, Some, None, Result, Ok, Err, IfOk, refl, ap, sym, subst, inl, arith, append-nil}
use Rattle.std.specs.Bool.{⊤}
use Rattle.std.specs.List.{slice_get}
use Rattle.tuple_stream.specs.PageRows.{row_len}
use Rattle.tuple_stream.specs.Streamed.{Streamed, open_bytes}
use Rattle.tuple_stream.specs.Streams.{IsOpenAt}
use Rattle.tuple_stream.specs.Places.{Place, IsWithin, rows_from, start_in}
use Rattle.tuple_stream.specs.Trails.{EnteredEvents, HaveRead}
use Rattle.tuple_stream.specs.Steps.{Lays, Opens, Reads, Scene, Shaped, Shows, Stands, Went}
use Rattle.tuple_stream.specs.Reading.{HasRowAt, IsFoundAt, ReadsRow, behind_row, next_page}
use Rattle.tuple_stream.proofs.Going.{went_trans, went_under}
use Rattle.tuple_stream.proofs.OpenPages.{open_at_place}
use Rattle.tuple_stream.proofs.Placed.{row_there, stands_next}
use Rattle.tuple_stream.proofs.Sinces.{since_so}

-- what a call keeps under told pins, it keeps of the rows and of a place
module _ {S K R : Type 0} {t : ℕ} {a b : Scene} (went : Went S K R t [] a b) (rows : List (List ℕ)) (sure : S) (shows : Shows a rows) where
  pub still_shows : Shows b rows
  still_shows = subst (λ (rs : List (List ℕ)). Shows b rs) (append-nil rows) (went.rows rows sure shows)

  pub still_stands : (place : Place) → Stands a place → Stands b place
  still_stands place stands = (went.places rows sure shows place stands).0

-- the row at a place has the place's number
row_behind : (before behind : List (List ℕ)) (row : List ℕ) → slice_get (before ++ row ∷ behind) (length before) ≡ Some row
row_behind [] behind row = refl
row_behind (r ∷ before) behind row = row_behind before behind row

pub numbered : (b : Scene) (rows : List (List ℕ)) (place behind : Place) (row : List ℕ) → Shows b rows → Stands b place → HasRowAt place behind row b → slice_get rows place.row ≡ Some row
numbered b rows place behind row shows stands has =
    let all : rows ≡ stands.before ++ row ∷ rows_from behind b.stream b.held = sym shows.are ∙ stands.rows ∙ ap (λ (rs : List (List ℕ)). stands.before ++ rs) has.row_is in
    ap (λ (rs : List (List ℕ)). slice_get rs place.row) all
    ∙ ap (slice_get (stands.before ++ row ∷ rows_from behind b.stream b.held)) stands.behind
    ∙ row_behind stands.before (rows_from behind b.stream b.held) row

-- in the pinned page
module _ (t : ℕ) (b : Scene) (place : Place) (is : Shaped t b) (open_is : IsOpenAt place.page b.stream) where
  pub found_row : (n byte : ℕ) (row : List ℕ) → n ≡ row_len (drop (start_in b.stream place) (open_bytes b.stream.pinned)) → n ≢ 0 → row ≡ take n (drop (start_in b.stream place) (open_bytes b.stream.pinned)) → byte ≡ start_in b.stream place + n → IsFoundAt (Some byte) place row b
  found_row n byte row len some is_row at = λ rows shows.
      let here = open_at_place t b.stream b.held place.page is open_is in
      let found = row_there b.stream b.held rows shows place here.0 here.1 n byte row len some is_row at in
      record { row_is = found.0; stands = found.1 }

  pub found_none : (row : List ℕ) → row_len (drop (start_in b.stream place) (open_bytes b.stream.pinned)) ≡ 0 → IsFoundAt None place row b
  found_none row none = λ rows shows below stands.
      let here = open_at_place t b.stream b.held place.page is open_is in
      stands_next b.stream b.held rows shows place here.0 here.1 none below stands

-- the page at the place has the row
pub reads_here : (a b : Scene) (place behind : Place) (byte : ℕ) (row : List ℕ) (t : ℕ) → behind ≡ behind_row place byte → Reads t a b → IsFoundAt (Some byte) place row b → b.stream ≡ record a.stream { pinned = b.stream.pinned } → IsWithin place a.stream → place.row < a.stream.count
    → IsOpenAt place.page b.stream → (IsOpenAt place.page a.stream → (b.held ≡ a.held) × (b.signs ≡ a.signs)) → ReadsRow place behind row a b
reads_here a b place behind byte row t at went found same within some pinned still =
    subst (λ (q : Place). ReadsRow place q row a b) (sym at)
    (record {
      moved = refl;
      within = record {
        page_is = let long : length b.stream.pages ≡ length a.stream.pages = ap (λ (s : Streamed). length s.pages) same in omega (arith, long, within.page_is);
        row_is = let count : b.stream.count ≡ a.stream.count = ap (λ (s : Streamed). s.count) same in omega (arith, some, count);
      };
      open_page = record { pinned = pinned; still = λ was here. still was };
      row_is = λ rows tells shows stands.
          let now = still_shows went rows tells shows in
          let stood = still_stands went rows tells shows place stands in
          let has = found rows now in
          (numbered b rows place (behind_row place byte) row now stood has, has.stands stood);
    })

-- the page at the place has none, and then the next one has it
pub reads_next : (a b c : Scene) (place next behind : Place) (row other : List ℕ) (t : ℕ) → next ≡ next_page place → Reads t a b → IsFoundAt None place other b → b.stream ≡ record a.stream { pinned = b.stream.pinned } → place.page + 1 < length b.stream.pages → behind.page ≡ next.page → ReadsRow next behind row b c → ReadsRow place behind row a c
reads_next a b c place next behind row other t at one none same below page then_read =
    let two : ReadsRow (next_page place) behind row b c = subst (λ (q : Place). ReadsRow q behind row b c) at then_read in
    record {
      moved = two.moved;
      within = two.within;
      open_page = record {
        pinned = two.open_page.pinned;
        still = λ was here. let moved : next.page ≡ place.page + 1 = ap (λ (q : Place). q.page) at in absurd (omega (arith, here, page, moved));
      };
      row_is = λ rows tells shows stands.
          let now = still_shows one rows tells shows in
          let stood = none rows now below (still_stands one rows tells shows place stands) in
          two.row_is rows (one.step.touches.told ∙ tells) now stood;
    }

-- a page was opened
pub reads_one : (place t : ℕ) (a b : Scene) → Opens place t a b → Reads t a b
reads_one place t a b went = went_under t a b inl (λ never. absurd never) (λ reading. reading) went

-- and then others
pub reads_trans : (t : ℕ) (a b c : Scene) → Reads t a b → Reads t b c → Reads t a c
reads_trans t a b c one two = went_trans a b c t (λ tells. one.step.touches.told ∙ tells) (λ never. never) (λ reading. reading) one two

-- where no page was pinned before, the events read the stream
pub read_events : (t : ℕ) (a b : Scene) → Reads t a b → a.stream.pinned ≡ None → EnteredEvents (HaveRead b.stream) a.signs.trail b.signs.trail
read_events t a b went closed = since_so (Lays ⊥ ⊤ a b) (HaveRead b.stream) a.signs.trail b.signs.trail (λ events lays. lays.reads tt closed) went.step.trail

-- where the second of two calls was answered Ok
pub next_ok : {X E : Type 0} {P Q R : X → Type 0} (r : Result X E) → ((x : X) → P x → Q x → R x) → IfOk r P → IfOk r Q → IfOk r R
next_ok (Ok x) so one two = so x one two
next_ok (Err e) so one two = tt
