-- One side of an operator is called: the other stays as it is.
use Rattle.std.proofs.Common.{◌≡◌, ◌≢◌, ◌∙◌, ℕ, suc, ◌+◌, List, [], ◌∷◌, ◌++◌, map, take, drop, Option, Some, None, IsSome, is_some, if◌then◌else◌, refl, ap, ap₂, sym, subst, arith, ◌*◌}
use Rattle.std.specs.List.{All, slice_get, sum_by}
use Rattle.std.proofs.lemmas.List.Elements.{All-append, All-drop, All-take}
use Rattle.std.proofs.lemmas.List.Sums.{sum_by-cons}
use Rattle.store_api.specs.Tokens.{PageToken}
use Rattle.store_api.specs.Holdings.{Account, Holdings, LivePage, or_else, no_page, unused_of}
use Rattle.store_api.specs.Signs.{Signs}
use Rattle.tuple_stream.specs.Streamed.{OpenPage, Streamed}
use Rattle.tuple_stream.specs.Streams.{IsApart, IsOwnPage}
use Rattle.tuple_stream.specs.Trails.{Left, left_page, rested, resting_in}
use Rattle.tuple_stream.specs.Families.{AreDisjoint, AreShaped, IsOutside, ShowAll, TouchesAll, family, held_in, weight}
use Rattle.tuple_stream.proofs.Chosen.{all_placed, at_place, map_agrees}
use Rattle.tuple_stream.proofs.Frames.{still_some}
use Rattle.partition_stack.specs.Sides.{OwnBoth}
use Rattle.partition_stack.proofs.Agreeing.{agreeing_rows, agreeing_shape}
use Rattle.partition_stack.proofs.Left.{same_reservation}

pub disjoint_back : (a b : Streamed) → AreDisjoint a b → AreDisjoint b a
disjoint_back a b disjoint =
    all_placed (λ p. IsApart p.name b.pages) a.pages (λ i p there.
    all_placed (λ q. q.name ≢ p.name) b.pages (λ j q at same.
    at_place (λ r. r.name ≢ q.name) a.pages i p (at_place (λ r. IsApart r.name a.pages) b.pages j q disjoint at) there (sym same)))

-- the sides may change places
pub own_turned : (t lent : ℕ) (left right : List Streamed) (h : Holdings) (signs : Signs) → OwnBoth t lent left right h signs → OwnBoth t lent right left h signs
own_turned t lent left right h signs own =
    record {
      lives = own.lives;
      left_shaped = own.right_shaped;
      right_shaped = own.left_shaped;
      apart = λ i j a b at there. disjoint_back b a (own.apart j i b a there at);
      only = λ q page lives outside beside. own.only q page lives beside outside;
      even = let even = own.even in omega (arith, even);
    }

module _ (t lent : ℕ) (left now right : List Streamed) (old new : Holdings) (before after : Signs) (own : OwnBoth t lent left right old before) (touches : TouchesAll t (family left old before) (family now new after)) (is : AreShaped t (family now new after)) where
  page_stays : (j : ℕ) (b : Streamed) → slice_get right j ≡ Some b → (k : ℕ) (p : PageToken) → slice_get b.pages k ≡ Some p → (new.pages p.name ≡ old.pages p.name) × IsOutside p.name now
  page_stays j b there k p at =
      let page = at_place (IsOwnPage t b.page_blocks old) b.pages k p (own.right_shaped.each j b there).own at in
      touches.pages p.name page.page.lives (λ i a here. at_place (λ r. IsApart r.name a.pages) b.pages k p (own.apart i j a b here there) at)

  agree : (j : ℕ) (b : Streamed) → slice_get right j ≡ Some b → (k : ℕ) (p : PageToken) → slice_get b.pages k ≡ Some p → new.pages p.name ≡ old.pages p.name
  agree j b there k p at = (page_stays j b there k p at).0

  pub other_shaped : AreShaped t (family right new after)
  other_shaped = record { each = λ j b there. agreeing_shape t b old new (own.right_shaped.each j b there) touches.block_len (agree j b there); apart = own.right_shaped.apart }

  pub other_shows : (rows : ℕ → List (List ℕ)) → ShowAll rows (family right old before) → ShowAll rows (family right new after)
  other_shows rows shows = λ j b there. agreeing_rows t b old new (own.right_shaped.each j b there) touches.block_len (agree j b there) (rows j) (shows j b there)

  pub other_held : held_in (family right new after) ≡ held_in (family right old before)
  other_held = ap (λ (n : ℕ). sum_by (λ (s : Streamed). if is_some s.pinned then s.page_blocks * n else 0) right) touches.block_len

  -- they are all that the client has still
  pub own_called : OwnBoth t lent now right new after
  own_called =
      record {
        lives = subst (λ (o : Option Account). IsSome o) (sym (touches.account own.lives)) (still_some (old.clients t) (unused_of t new) own.lives);
        left_shaped = is;
        right_shaped = other_shaped;
        apart = λ i j a b here there. all_placed (λ p. IsApart p.name a.pages) b.pages (λ k p at. (page_stays j b there k p at).1 i a here);
        only = λ q page lives outside beside.
            let was = touches.back q (subst (λ (o : Option LivePage). IsSome o) (sym lives) refl) outside in
            own.only q page (was.0 ∙ lives) was.1 beside;
        even =
            let same = same_reservation t (family left old before) (family now new after) own.left_shaped is touches own.lives in
            let kept = touches.unused in
            let beside = other_held in
            let even = own.even in
            omega (arith, same, kept, beside, even);
      }

  module _ (j : ℕ) (b : Streamed) (there : slice_get right j ≡ Some b) where
    left_same : All (λ p. left_page new p ≡ left_page old p) b.pages
    left_same = all_placed (λ p. left_page new p ≡ left_page old p) b.pages (λ k p at. ap (λ (q : Option LivePage). record { name = p.name; bytes = (or_else no_page q).left }) (agree j b there k p at))

    rested_all : (o : Option OpenPage) → map (left_page new) (resting_in o b.pages) ≡ map (left_page old) (resting_in o b.pages)
    rested_all None = map_agrees (left_page new) (left_page old) b.pages left_same
    rested_all (Some page) =
        map_agrees (left_page new) (left_page old) (take page.place b.pages ++ drop (suc page.place) b.pages)
        (All-append (λ p. left_page new p ≡ left_page old p) (take page.place b.pages) (drop (suc page.place) b.pages)
        (All-take (λ p. left_page new p ≡ left_page old p) page.place b.pages left_same)
        (All-drop (λ p. left_page new p ≡ left_page old p) (suc page.place) b.pages left_same))

    rested_same : rested b new ≡ rested b old
    rested_same = rested_all b.pinned

  -- and what rests in the other side is as it was
  pub other_weighs : (w : Left → ℕ) → weight w (family right new after) ≡ weight w (family right old before)
  other_weighs w = sum_placed right (λ j b there. ap (sum_by w) (rested_same j b there))
    where
      sum_placed : (streams : List Streamed) → ((j : ℕ) (b : Streamed) → slice_get streams j ≡ Some b → sum_by w (rested b new) ≡ sum_by w (rested b old)) → sum_by (λ s. sum_by w (rested s new)) streams ≡ sum_by (λ s. sum_by w (rested s old)) streams
      sum_placed [] same = refl
      sum_placed (s ∷ streams) same =
          sum_by-cons (λ r. sum_by w (rested r new)) s streams
          ∙ ap₂ (λ (a b : ℕ). a + b) (same 0 s refl) (sum_placed streams (λ j b there. same (suc j) b there))
          ∙ sym (sum_by-cons (λ r. sum_by w (rested r old)) s streams)
