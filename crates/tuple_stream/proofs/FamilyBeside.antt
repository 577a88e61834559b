-- A stream beside the one that was called: what it left, and its slots, are as before.
use Rattle.std.proofs.Common.{◌≡◌, ◌≢◌, ℕ, suc, ◌++◌, map, take, drop, if◌then◌else◌, Option, Some, None, ap, sym}
use Rattle.std.specs.List.{All, slice_get, sum_by}
use Rattle.std.proofs.lemmas.List.Elements.{All-append, All-drop, All-take}
use Rattle.store_api.specs.Tokens.{PageToken}
use Rattle.store_api.specs.Holdings.{Holdings, LivePage, or_else, no_page, page_of}
use Rattle.tuple_stream.specs.Streamed.{OpenPage, Streamed}
use Rattle.tuple_stream.specs.Streams.{IsApart, IsOwnPage, IsShaped}
use Rattle.tuple_stream.specs.Touches.{Touches, slots_of}
use Rattle.tuple_stream.specs.Trails.{left_page, rested, resting_in}
use Rattle.tuple_stream.specs.Families.{AreDisjoint}
use Rattle.tuple_stream.proofs.Chosen.{all_placed, at_place, map_agrees}
use Rattle.tuple_stream.proofs.Sums.{sum_same}

pub disjoint_back : (a b : Streamed) → AreDisjoint a b → AreDisjoint b a
disjoint_back a b disjoint =
    all_placed (λ p. IsApart p.name b.pages) a.pages (λ i p there.
    all_placed (λ q. q.name ≢ p.name) b.pages (λ j q at same.
    at_place (λ r. r.name ≢ q.name) a.pages i p (at_place (λ r. IsApart r.name a.pages) b.pages j q disjoint at) there (sym same)))

module _ {t u : ℕ} {a now b : Streamed} {old new : Holdings} (touches : Touches t a now old new) (is : IsShaped u b old) (disjoint : AreDisjoint a b) where
  page_same : (k : ℕ) (p : PageToken) → slice_get b.pages k ≡ Some p → page_of p.name new ≡ page_of p.name old
  page_same k p there =
      let own : IsOwnPage u b.page_blocks old p = at_place (IsOwnPage u b.page_blocks old) b.pages k p is.own there in
      ap (or_else no_page) (touches.pages p.name own.page.lives (at_place (λ q. IsApart q.name a.pages) b.pages k p disjoint there)).0

  left_same : All (λ p. left_page new p ≡ left_page old p) b.pages
  left_same = all_placed (λ p. left_page new p ≡ left_page old p) b.pages (λ k p there. ap (λ (q : LivePage). record { name = p.name; bytes = q.left }) (page_same k p there))

  rested_all : (o : Option OpenPage) → map (left_page new) (resting_in o b.pages) ≡ map (left_page old) (resting_in o b.pages)
  rested_all None = map_agrees (left_page new) (left_page old) b.pages left_same
  rested_all (Some page) =
      map_agrees (left_page new) (left_page old) (take page.place b.pages ++ drop (suc page.place) b.pages)
      (All-append (λ p. left_page new p ≡ left_page old p) (take page.place b.pages) (drop (suc page.place) b.pages)
      (All-take (λ p. left_page new p ≡ left_page old p) page.place b.pages left_same)
      (All-drop (λ p. left_page new p ≡ left_page old p) (suc page.place) b.pages left_same))

  pub rested_beside : rested b new ≡ rested b old
  rested_beside = rested_all b.pinned

  pub slots_beside : sum_by (slots_of b new) b.pages ≡ sum_by (slots_of b old) b.pages
  slots_beside =
      sum_same (slots_of b old) (slots_of b new) b.pages
      (all_placed (λ p. slots_of b new p ≡ slots_of b old p) b.pages (λ k p there. ap (λ (page : LivePage). if page.has_slots then b.page_blocks else 0) (page_same k p there)))
