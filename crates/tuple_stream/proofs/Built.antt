-- Rows are added to an empty stream, and then all its pages rest: each was left once, and they hold the rows.
use Rattle.std.proofs.Common.{◌≡◌, ◌≢◌, ◌∙◌, ℕ, ◌⊎◌, false, List, [], ◌∷◌, ◌++◌, map, eqb, Option, None, ap, sym, subst, inl, inr, ne_eqb, append-nil}
use Rattle.std.specs.List.{IsDistinct, AllByRecursion, flat_map}
use Rattle.std.proofs.lemmas.List.Elements.{All-head, All-tail}
use Rattle.std.proofs.lemmas.List.Folds.{flat_map-map}
use Rattle.pool_model.specs.declared.event.Event.{Event}
use Rattle.store_api.specs.Tokens.{PageToken}
use Rattle.store_api.specs.Holdings.{Holdings, page_of}
use Rattle.tuple_stream.specs.PageRows.{rows_on}
use Rattle.tuple_stream.specs.Streamed.{OpenPage, Streamed, all_bytes, bytes_of, joined, rows_by_page, rows_of}
use Rattle.tuple_stream.specs.Streams.{AreApart, IsApart, IsAtEnd, IsShaped, pins_at}
use Rattle.tuple_stream.specs.Trails.{EnteredEvents, Leaves, Left, all_left, left_page, rested, resting_in}
use Rattle.tuple_stream.specs.Steps.{Adds, Lays, Rests, Scene, Shows, Tells, Went}
use Rattle.tuple_stream.proofs.Chosen.{all_placed, map_agrees}
use Rattle.tuple_stream.proofs.Empty.{empty, empty_shows}
use Rattle.tuple_stream.proofs.Going.{went_trans}
use Rattle.tuple_stream.proofs.OpenPages.{from_zero}
use Rattle.tuple_stream.proofs.Sinces.{since_so}
use Rattle.tuple_stream.proofs.Turned.{resting_bytes}

module _ (t : ℕ) (a b c : Scene) (ends : IsAtEnd a.stream → IsAtEnd b.stream) where
  -- what is known behind the first call, where it was known before
  sure_later : {rows : List (List ℕ)} → Adds t rows a b → Tells a ⊎ IsAtEnd a.stream → Tells b ⊎ IsAtEnd b.stream
  sure_later one sure = elim sure [ inl tells ↦ inl (one.step.touches.told ∙ tells) | inr at_end ↦ inr (ends at_end) ]

  pub adds_trans : {some more : List (List ℕ)} → Adds t some a b → Adds t more b c → Adds t (some ++ more) a c
  adds_trans one two = went_trans a b c t (sure_later one) ends (λ never. never) one two

  -- and then the last page is let rest
  pub adds_rest : {rows : List (List ℕ)} → Adds t rows a b → Rests t b c → Adds t rows a c
  adds_rest {rows} one two =
      subst (λ (rs : List (List ℕ)). Adds t rs a c) (append-nil rows)
      (went_trans a b c t (λ sure. tt) (λ at_end. inl (ends at_end)) (λ never. absurd never) one two)

-- each page by its name
abbrev names_of : List Left → List ℕ
names_of left = map (λ l. l.name) left

not_again : (h : Holdings) (name : ℕ) (pages : List PageToken) → IsApart name pages → AllByRecursion (λ n. eqb name n ≡ false) (names_of (map (left_page h) pages))
not_again h name [] apart = tt
not_again h name (p ∷ pages) apart = (
  ne_eqb name p.name (λ same. All-head (λ q. q.name ≢ name) p pages apart (sym same)),
  not_again h name pages (All-tail (λ q. q.name ≢ name) p pages apart),
)

left_once : (h : Holdings) (pages : List PageToken) → AreApart pages → IsDistinct eqb (names_of (map (left_page h) pages))
unfolding IsDistinct
left_once h [] apart = tt
left_once h (p ∷ pages) apart = (not_again h p.name pages apart.0, left_once h pages apart.1)

-- the rows that stand in bytes, list by list
joined_bytes : (all : List (List ℕ)) → flat_map rows_on all ≡ joined (rows_by_page 0 all)
joined_bytes all = sym (ap joined (from_zero all) ∙ flat_map-map (λ (rows : List (List ℕ)). rows) rows_on all)

-- where no page is pinned and nothing is spent
module _ (t : ℕ) (s : Streamed) (h : Holdings) (is : IsShaped t s h) (closed : s.pinned ≡ None) (whole : s.spent ≡ 0) where
  bytes_left : map (λ (p : PageToken). (page_of p.name h).left) s.pages ≡ all_bytes s h s.pages
  bytes_left =
      map_agrees (λ (p : PageToken). (page_of p.name h).left) (bytes_of s h) s.pages
      (all_placed (λ p. (page_of p.name h).left ≡ bytes_of s h p) s.pages (λ k p there.
      let rests : (page_of p.name h).pins ≡ 0 = is.pins k p there ∙ ap (λ (o : Option OpenPage). pins_at o k) closed in
      sym (resting_bytes s h p rests)))

  all_rested : rested s h ≡ map (left_page h) s.pages
  all_rested = ap (λ (o : Option OpenPage). map (left_page h) (resting_in o s.pages)) closed

  pub rested_once : IsDistinct eqb (names_of (rested s h))
  rested_once = subst (λ (left : List Left). IsDistinct eqb (names_of left)) (sym all_rested) (left_once h s.pages is.apart)

  -- what rests are the rows
  pub rested_rows : flat_map (λ (l : Left). rows_on l.bytes) (rested s h) ≡ rows_of s h
  rested_rows =
      ap (flat_map (λ (l : Left). rows_on l.bytes)) all_rested
      ∙ flat_map-map (λ (l : Left). rows_on l.bytes) (left_page h) s.pages
      ∙ sym (flat_map-map rows_on (λ (p : PageToken). (page_of p.name h).left) s.pages)
      ∙ ap (flat_map rows_on) bytes_left
      ∙ joined_bytes (all_bytes s h s.pages)
      ∙ ap (λ (n : ℕ). joined (rows_by_page n (all_bytes s h s.pages))) (sym whole)

-- an empty stream was built and rests
module _ {S K R : Type 0} (t blocks : ℕ) (rows : List (List ℕ)) (a b : Scene) (sure : S) (steady : K) (went : Went S K R t rows a b) (is : a.stream ≡ empty blocks) (closed : b.stream.pinned ≡ None) where
  whole : b.stream.spent ≡ 0
  whole = went.spent ∙ ap (λ (s : Streamed). s.spent) is

  shows : Shows b rows
  shows = went.rows [] sure (empty_shows blocks a.stream a.held is)

  all_left_here : (events : List Event) → Lays K R a b events → all_left events ≡ rested b.stream b.held
  all_left_here events lays = sym (lays.left steady ∙ ap (λ (s : Streamed). rested s a.held ++ all_left events) is)

  pub built_leaves : EnteredEvents (Leaves rows) a.signs.trail b.signs.trail
  built_leaves =
      since_so (Lays K R a b) (Leaves rows) a.signs.trail b.signs.trail
      (λ events lays. record {
        building = lays.building steady;
        once = subst (λ (left : List Left). IsDistinct eqb (names_of left)) (sym (all_left_here events lays)) (rested_once t b.stream b.held went.step.shape closed whole);
        rows_are = ap (flat_map (λ (l : Left). rows_on l.bytes)) (all_left_here events lays) ∙ rested_rows t b.stream b.held went.step.shape closed whole ∙ shows.are;
      })
      went.step.trail
