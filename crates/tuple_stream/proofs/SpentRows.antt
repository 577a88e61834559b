-- What became of a stream whose first row went. The first page is pinned.
use Rattle.std.proofs.Common.{◌≡◌, ◌≢◌, ℕ, ◌+◌, ◌*◌, ◌⊎◌, List, [], ◌∷◌, length, take, drop, Some, None, Option, option_map, IfSome, refl, ap, sym, ◌∙◌, subst, subst₂, inl, inr, arith, append-nil}
use Rattle.std.specs.Bool.{⊤}
use Rattle.std.specs.List.{slice_get}
use Rattle.std.proofs.lemmas.Option.{none-some}
use Rattle.pool_model.specs.declared.event.Event.TheVariants.{Destroy}
use Rattle.store_api.specs.Tokens.{PageToken}
use Rattle.store_api.specs.Holdings.{Holdings}
use Rattle.store_api.specs.Changes.{after_destroy}
use Rattle.store_api.specs.Conditions.{IsBlockCount}
use Rattle.store_api.specs.Entries.{MadeThese}
use Rattle.store_api.specs.Signs.{Grows}
use Rattle.store_api.proofs.Growing.{grows_refl}
use Rattle.tuple_stream.specs.PageRows.{row_len}
use Rattle.tuple_stream.specs.Streamed.{OpenPage, Streamed, open_bytes}
use Rattle.tuple_stream.specs.Streams.{IsOpen, IsOpenAt, IsShaped, HasRows}
use Rattle.tuple_stream.specs.Touches.{Touches}
use Rattle.tuple_stream.specs.Trails.{EnteredEvents, HasPin, HaveRead}
use Rattle.tuple_stream.specs.Steps.{Lays, Opens, Scene, Shaped, Shows, Tells, scene}
use Rattle.tuple_stream.specs.Spending.{PinsAgain, SpendsRow}
use Rattle.tuple_stream.specs.Ending.{HasPages, behind_first, used_in, with_next, without_first}
use Rattle.tuple_stream.proofs.Chains.{touches_refl, touches_trans}
use Rattle.tuple_stream.proofs.Ends.{first_goes, goes_trans, gone_counted, laid_goes, none_gone}
use Rattle.tuple_stream.proofs.Frames.{touches_counts}
use Rattle.tuple_stream.proofs.OpenPages.{IsAt, open_at_place, from_there}
use Rattle.tuple_stream.proofs.Endings.{front_gone}
use Rattle.tuple_stream.proofs.PinnedPage.{not_open}
use Rattle.tuple_stream.proofs.PinsFirst.{has_pin_front, pins_first_join}
use Rattle.tuple_stream.proofs.Sinces.{since_any, since_joined}
use Rattle.tuple_stream.proofs.Spends.{none_behind_first, first_row, spent_has, ended_has}

same_open : (s now : Streamed) (h : Holdings) (o : Option OpenPage) → length now.pages ≡ length s.pages → now.page_blocks ≡ s.page_blocks → IfSome o (IsOpen s h) → IfSome o (IsOpen now h)
same_open s now h None pages blocks opened = tt
same_open s now h (Some page) pages blocks opened =
    record {
      inside = let below = opened.inside in omega (arith, below, pages);
      fits = record {
        blocks = opened.fits.blocks ∙ sym blocks;
        block_len = opened.fits.block_len;
        whole = opened.fits.whole ∙ ap (λ (n : ℕ). n * h.block_len) (sym blocks);
      };
    }

-- the stream whose first page is spent so far, and that has so many rows
abbrev pub spent_to : ℕ → ℕ → Streamed → Streamed
spent_to spent count s = record s { spent = spent; count = count }

pub pages_left : (t : ℕ) (s : Streamed) (h : Holdings) (spent count : ℕ) → IsShaped t s h → HasPages t (spent_to spent count s) h
pages_left t s h spent count is = record { apart = is.apart; own = is.own; pins = is.pins; opened = same_open s (spent_to spent count s) h s.pinned refl refl is.opened }

spent_shape : (t : ℕ) (s : Streamed) (h : Holdings) (p : PageToken) (spent count : ℕ) → IsShaped t s h → slice_get s.pages 0 ≡ Some p → IsShaped t (spent_to spent count s) h
spent_shape t s h p spent count is at =
    record {
      sized = is.sized;
      apart = is.apart;
      own = is.own;
      pins = is.pins;
      opened = same_open s (spent_to spent count s) h s.pinned refl refl is.opened;
      begins = λ empty. absurd (none-some p (ap (λ (pages : List PageToken). slice_get pages 0) (sym empty) ∙ at));
    }

next_shape : (t : ℕ) (s : Streamed) (h : Holdings) → IsBlockCount s.page_blocks → HasPages t (without_first s) h → IsShaped t (with_next s) h
next_shape t s h sized has =
    record {
      sized = sized;
      apart = has.apart;
      own = has.own;
      pins = has.pins;
      opened = same_open (without_first s) (with_next s) h (behind_first s.pinned) refl refl has.opened;
      begins = λ empty. (refl, ap (λ (pages : List PageToken). used_in pages s.used) empty);
    }

module _ (t n count : ℕ) (a : Scene) (is : Shaped t a) (opened : IsOpenAt 0 a.stream) (len : n ≡ row_len (drop a.stream.spent (open_bytes a.stream.pinned))) (some : n ≢ 0) (counted : a.stream.count ≡ count + 1) where
  first_page : (p : PageToken) × IsAt a.stream a.held 0 p
  first_page = open_at_place t a.stream a.held 0 is opened

  starts : a.stream.pages ≡ first_page.0 ∷ drop 1 a.stream.pages
  starts = from_there a.stream.pages 0 first_page.0 first_page.1.at

  is_so : IsShaped t (record a.stream { pages = first_page.0 ∷ drop 1 a.stream.pages }) a.held
  is_so = subst (λ (pages : List PageToken). IsShaped t (record a.stream { pages = pages }) a.held) starts is

  has_so : (rows : List (List ℕ)) → Shows a rows → HasRows rows (record a.stream { pages = first_page.0 ∷ drop 1 a.stream.pages }) a.held
  has_so rows shows = subst (λ (pages : List PageToken). HasRows rows (record a.stream { pages = pages }) a.held) starts shows

  row_first : (rows : List (List ℕ)) → Shows a rows → rows ≡ take n (drop a.stream.spent (open_bytes a.stream.pinned)) ∷ drop 1 rows
  row_first rows shows = first_row t a.stream a.held first_page.0 (drop 1 a.stream.pages) is_so opened n count len some rows (has_so rows shows) counted

  -- its page has another one
  pub row_went : (now : Streamed) → now ≡ spent_to (a.stream.spent + n) count a.stream → row_len (drop (a.stream.spent + n) (open_bytes a.stream.pinned)) ≢ 0 → SpendsRow ⊤ t (take n (drop a.stream.spent (open_bytes a.stream.pinned))) a (scene now a.held a.signs)
  row_went now goes another =
      record {
        step = gone_counted t a a now (a.stream.spent + n) a.stream.used count goes
            (subst (λ (s : Streamed). IsShaped t s a.held) (sym goes) (spent_shape t a.stream a.held first_page.0 (a.stream.spent + n) count is first_page.1.at))
            refl (touches_refl t a.stream a.held) (none_gone a) (grows_refl a.signs);
        counted = counted ∙ ap (λ (s : Streamed). s.count + 1) (sym goes);
        open_page = record { pinned = λ same. ap (λ (s : Streamed). option_map (λ p. p.place) s.pinned) goes ∙ opened; still = λ same was. (refl, refl) };
        pins = λ closed. absurd (not_open a.stream 0 closed opened);
        rows = λ rows sure shows. (
          row_first rows shows,
          subst (λ (s : Streamed). HasRows (drop 1 rows) s a.held) (sym goes)
              (subst (λ (pages : List PageToken). HasRows (drop 1 rows) (record a.stream { pages = pages; spent = a.stream.spent + n; count = count }) a.held) (sym starts)
              (spent_has t a.stream a.held first_page.0 (drop 1 a.stream.pages) is_so opened n count len some rows (has_so rows shows) counted another)),
        );
      }

  -- its page has none, and ends
  module _ (b : Scene) (maker : ℕ) (goes : b.stream ≡ with_next (spent_to (a.stream.spent + n) count a.stream)) (becomes : (p : PageToken) → slice_get a.stream.pages 0 ≡ Some p → b.held ≡ after_destroy p.name a.held) where
    new_is : b.held ≡ after_destroy first_page.0.name a.held
    new_is = becomes first_page.0 first_page.1.at

    now_is : b.stream ≡ record a.stream { pages = drop 1 a.stream.pages; pinned = None; spent = 0; used = used_in (drop 1 a.stream.pages) a.stream.used; count = count }
    now_is = goes ∙ ap (λ (o : Option OpenPage). record a.stream { pages = drop 1 a.stream.pages; pinned = o; spent = 0; used = used_in (drop 1 a.stream.pages) a.stream.used; count = count }) (none_behind_first a.stream.pinned opened)

    last_shape : Shaped t b
    last_shape =
        let mid = spent_to (a.stream.spent + n) count a.stream in
        let has : HasPages t (without_first mid) b.held = front_gone mid a.held first_page.0 (drop 1 a.stream.pages) starts (without_first mid) b.held refl new_is t (pages_left t a.stream a.held (a.stream.spent + n) count is) in
        subst (λ (s : Streamed). IsShaped t s b.held) (sym goes) (next_shape t mid b.held is.sized has)

    fewer : length b.stream.pages + 1 ≡ length a.stream.pages
    fewer = let now = ap (λ (s : Streamed). length s.pages) now_is in let was = ap length starts in omega (arith, now, was)

    pub last_went : Touches t (spent_to (a.stream.spent + n) count a.stream) b.stream a.held b.held → ((p : PageToken) → slice_get a.stream.pages 0 ≡ Some p → MadeThese maker (Destroy p.name ∷ []) a.signs b.signs) → Grows a.signs b.signs → row_len (drop (a.stream.spent + n) (open_bytes a.stream.pinned)) ≡ 0 → SpendsRow ⊤ t (take n (drop a.stream.spent (open_bytes a.stream.pinned))) a b
    last_went touches made grows none =
        record {
          step = record {
            shape = last_shape;
            sized = ap (λ (s : Streamed). s.page_blocks) goes;
            touches = touches_trans t a.stream (spent_to (a.stream.spent + n) count a.stream) b.stream a.held a.held b.held (touches_counts t a.stream (a.stream.spent + n) a.stream.used count a.held) touches;
            trail = first_goes a b maker first_page.1.inside (ap (λ (s : Streamed). s.pinned) goes) made;
            grows = grows;
          };
          counted = counted ∙ ap (λ (s : Streamed). s.count + 1) (sym goes);
          open_page = record { pinned = λ same. absurd (omega (arith, same, fewer)); still = λ same was. absurd (omega (arith, same, fewer)) };
          pins = λ closed. absurd (not_open a.stream 0 closed opened);
          rows = λ rows sure shows. (
            row_first rows shows,
            subst₂ (λ (s : Streamed) (h : Holdings). HasRows (drop 1 rows) s h) (sym now_is) (sym new_is)
                (ended_has t a.stream a.held first_page.0 (drop 1 a.stream.pages) is_so opened n count len some rows (has_so rows shows) counted none),
          );
        }

-- a call that read, and has a page pinned, pinned it, whatever came behind
pins_then : (K : Type 0) (a m b : Scene) → EnteredEvents (Lays K ⊤ a m) a.signs.trail m.signs.trail → Grows m.signs b.signs → a.stream.pinned ≡ None → (m.stream.pinned ≡ None → ⊥) → EnteredEvents PinsAgain a.signs.trail b.signs.trail
pins_then K a m b laid grows closed open_is =
    since_joined (Lays K ⊤ a m) (λ _. ⊤) PinsAgain a.signs.trail m.signs.trail b.signs.trail
    (λ first next lays any.
    let read : HaveRead m.stream first = lays.reads tt closed in
    let pin : HasPin first = elim read.pinned [ inl pin ↦ pin | inr none ↦ absurd (open_is none) ] in
    record { first = pins_first_join first next read.first (inl pin); pinned = has_pin_front first next pin })
    laid (since_any m.signs.trail b.signs.trail grows.trail)

-- the first page was pinned before
pub spends_after : (t : ℕ) (row : List ℕ) (a m b : Scene) → Opens 0 t a m → m.stream ≡ record a.stream { pinned = m.stream.pinned } → IsOpenAt 0 m.stream → (IsOpenAt 0 a.stream → (m.held ≡ a.held) × (m.signs ≡ a.signs)) → SpendsRow ⊤ t row m b → SpendsRow (Tells a ⊎ IsOpenAt 0 a.stream) t row a b
spends_after t row a m b went same opened still spends =
    let pages : length m.stream.pages ≡ length a.stream.pages = ap (λ (s : Streamed). length s.pages) same in
    record {
      step = goes_trans a m b t (laid_goes t a m went.step pages) spends.step;
      counted = let first = went.counted in let next = spends.counted in omega (arith, first, next);
      open_page = record {
        pinned = λ long. spends.open_page.pinned (long ∙ sym pages);
        still = λ long was.
            let one = still was in
            let two = spends.open_page.still (long ∙ sym pages) opened in
            (two.0 ∙ one.0, two.1 ∙ one.1);
      };
      pins = λ closed. pins_then (IsOpenAt 0 a.stream) a m b went.step.trail spends.step.grows closed (λ none. not_open m.stream 0 none opened);
      rows = λ rows sure shows. spends.rows rows tt (subst (Shows m) (append-nil rows) (went.rows rows sure shows));
    }
