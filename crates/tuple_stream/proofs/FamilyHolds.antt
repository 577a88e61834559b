-- What appends and rests on several streams left holds all their rows, each page once.
use Rattle.std.proofs.Common.{◌≡◌, ◌∙◌, ℕ, suc, ◌+◌, ◌==◌, List, [], ◌∷◌, ◌++◌, length, map, if◌then◌else◌, Option, Some, None, refl, ap, sym, arith}
use Rattle.std.specs.List.{flat_map, slice_get, sum_by}
use Rattle.std.proofs.lemmas.List.Sums.{sum_by-cons, sum_by-append}
use Rattle.pool_model.specs.declared.event.Event.{Event}
use Rattle.store_api.specs.Tokens.{PageToken}
use Rattle.store_api.specs.Holdings.{Holdings}
use Rattle.tuple_stream.specs.PageRows.{rows_on}
use Rattle.tuple_stream.specs.Streamed.{OpenPage, Streamed}
use Rattle.tuple_stream.specs.Streams.{IsShaped, HasRows}
use Rattle.tuple_stream.specs.Trails.{Left, left_page, rested, resting_in}
use Rattle.tuple_stream.specs.Families.{Family, LaysAll, weight}
use Rattle.tuple_stream.specs.FamilyCalls.{HaveLaid, shares}
use Rattle.tuple_stream.specs.FamilyLaws.{AllHold}
use Rattle.tuple_stream.proofs.Built.{rested_rows}
use Rattle.tuple_stream.proofs.OnePlace.{sum_each}

module _ {X Y : Type 0} where
  sum_mapped : (w : Y → ℕ) (f : X → Y) (xs : List X) → sum_by w (map f xs) ≡ sum_by (λ x. w (f x)) xs
  sum_mapped w f [] = refl
  sum_mapped w f (x ∷ xs) =
      let rest = sum_mapped w f xs in
      let now : sum_by w (f x ∷ map f xs) ≡ w (f x) + sum_by w (map f xs) = sum_by-cons w (f x) (map f xs) in
      let was : sum_by (λ y. w (f y)) (x ∷ xs) ≡ w (f x) + sum_by (λ y. w (f y)) xs = sum_by-cons (λ y. w (f y)) x xs in
      omega (arith, rest, now, was)

  sum_flat : (mark : Y → ℕ) (f : X → List Y) (xs : List X) → sum_by mark (flat_map f xs) ≡ sum_by (λ x. sum_by mark (f x)) xs
  sum_flat mark f [] = refl
  sum_flat mark f (x ∷ xs) =
      let rest = sum_flat mark f xs in
      let now : sum_by mark (f x ++ flat_map f xs) ≡ sum_by mark (f x) + sum_by mark (flat_map f xs) = sum_by-append mark (f x) (flat_map f xs) in
      let was : sum_by (λ y. sum_by mark (f y)) (x ∷ xs) ≡ sum_by mark (f x) + sum_by (λ y. sum_by mark (f y)) xs = sum_by-cons (λ y. sum_by mark (f y)) x xs in
      omega (arith, rest, now, was)

module _ (t : ℕ) (s : Streamed) (h : Holdings) (is : IsShaped t s h) (closed : s.pinned ≡ None) where
  stream_rows : (mark : List ℕ → ℕ) (rows : List (List ℕ)) → s.spent ≡ 0 → HasRows rows s h → sum_by (λ (l : Left). sum_by mark (rows_on l.bytes)) (rested s h) ≡ sum_by mark rows
  stream_rows mark rows whole has = sym (sum_flat mark (λ (l : Left). rows_on l.bytes) (rested s h)) ∙ ap (sum_by mark) (rested_rows t s h is closed whole ∙ has.are)

  stream_pages : (name : ℕ) → sum_by (λ (l : Left). if l.name == name then 1 else 0) (rested s h) ≡ sum_by (λ (p : PageToken). if p.name == name then 1 else 0) s.pages
  stream_pages name =
      ap (λ (o : Option OpenPage). sum_by (λ (l : Left). if l.name == name then 1 else 0) (map (left_page h) (resting_in o s.pages))) closed
      ∙ sum_mapped (λ (l : Left). if l.name == name then 1 else 0) (left_page h) s.pages

-- the sum over streams is that over their rows
sum_shares : (mark : List ℕ → ℕ) (streams : List Streamed) (rows : ℕ → List (List ℕ)) (w : Streamed → ℕ) → ((i : ℕ) (s : Streamed) → slice_get streams i ≡ Some s → w s ≡ sum_by mark (rows i)) → sum_by w streams ≡ sum_by mark (shares (length streams) rows)
sum_shares mark [] rows w each = refl
sum_shares mark (s ∷ streams) rows w each =
    let rest = sum_shares mark streams (λ i. rows (suc i)) w (λ i r there. each (suc i) r there) in
    let head : w s ≡ sum_by mark (rows 0) = each 0 s refl in
    let now : sum_by w (s ∷ streams) ≡ w s + sum_by w streams = sum_by-cons w s streams in
    let was : sum_by mark (rows 0 ++ shares (length streams) (λ i. rows (suc i))) ≡ sum_by mark (rows 0) + sum_by mark (shares (length streams) (λ i. rows (suc i))) = sum_by-append mark (rows 0) (shares (length streams) (λ i. rows (suc i))) in
    omega (arith, rest, head, now, was)

-- where nothing was left before
pub have_laid : {K R : Type 0} (f g : Family) (events : List Event) → K → ((w : Left → ℕ) → weight w f ≡ 0) → LaysAll K R f g events → HaveLaid g events
have_laid f g events steady none lays =
    record {
      building = lays.building steady;
      left = λ w. let all = lays.left steady w in let was = none w in omega (arith, all, was);
    }

-- once all rest, the pages of all, each once, hold all rows
pub hold_all : AllHold
hold_all t g rows events is closed whole shows laid =
    record {
      building = laid.building;
      pages = λ name.
          laid.left (λ (l : Left). if l.name == name then 1 else 0)
          ∙ sum_each (λ (s : Streamed). sum_by (λ (p : PageToken). if p.name == name then 1 else 0) s.pages) (λ (s : Streamed). sum_by (λ (l : Left). if l.name == name then 1 else 0) (rested s g.held)) g.streams
          (λ i s there. stream_pages t s g.held (is.each i s there) (closed i s there) name);
      rows_are = λ mark.
          laid.left (λ (l : Left). sum_by mark (rows_on l.bytes))
          ∙ sum_shares mark g.streams rows (λ (s : Streamed). sum_by (λ (l : Left). sum_by mark (rows_on l.bytes)) (rested s g.held))
          (λ i s there. stream_rows t s g.held (is.each i s there) (closed i s there) mark (rows i) (whole i s there) (shows i s there));
    }
