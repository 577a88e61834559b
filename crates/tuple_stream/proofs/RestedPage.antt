-- The pinned page of a stream is let rest: what became of stream and store.
use Rattle.std.proofs.Common.{◌≡◌, ◌≢◌, ◌∙◌, ℕ, suc, ◌+◌, ◌<◌, ◌⊎◌, List, [], ◌∷◌, ◌++◌, length, map, take, Option, Some, None, IfSome, option_map, refl, ap, sym, subst, inl, inr, arith, append-nil}
use Rattle.std.proofs.lemmas.List.{map-append, drop_all}
use Rattle.std.proofs.lemmas.List.Elements.{All-nil, All-cons, All-weaker}
use Rattle.std.proofs.lemmas.Option.{none-some, same_Some}
use Rattle.pool_model.specs.declared.event.Event.{Event}
use Rattle.pool_model.specs.declared.event.Event.TheVariants.{Unpin}
use Rattle.store_api.specs.Tokens.{PageToken}
use Rattle.store_api.specs.Holdings.{Holdings, LivePage, or_else, no_page, page_of}
use Rattle.store_api.specs.Changes.{after_unpin}
use Rattle.store_api.specs.Refusals.{LacksSlots}
use Rattle.store_api.specs.Entries.{MadeThese}
use Rattle.store_api.specs.Signs.{Grows, Signs}
use Rattle.tuple_stream.specs.Streamed.{OpenPage, Streamed}
use Rattle.tuple_stream.specs.Streams.{AreApart, HasRows, IsApart, IsAtEnd, IsOpen, IsShaped}
use Rattle.tuple_stream.specs.Trails.{IsBuilding, Left, left_page, rested, resting_in}
use Rattle.std.specs.Bool.{⊤}
use Rattle.tuple_stream.specs.Steps.{Lays, Rests, scene}
use Rattle.tuple_stream.proofs.Chosen.{at_place, map_agrees}
use Rattle.tuple_stream.proofs.PageLists.{at_end, split_last}
use Rattle.tuple_stream.proofs.Pinned.{IsPinned}
use Rattle.tuple_stream.proofs.Resting.{rested_turns, rested_shows, rested_left, rested_touches}
use Rattle.tuple_stream.proofs.Sinces.{since_so, since_these}
use Rattle.tuple_stream.proofs.Turned.{Turns, with_pinned, turned_shape, turned_has, turned_places}

front_apart : (front : List PageToken) (p : PageToken) → AreApart (front ++ p ∷ []) → IsApart p.name front
front_apart [] p apart = All-nil (λ r. r.name ≢ p.name)
front_apart (q ∷ front) p apart =
    All-cons (λ r. r.name ≢ p.name) q front
    (λ same. at_place (λ r. r.name ≢ q.name) (front ++ p ∷ []) (length front) p apart.0 (at_end front p) (sym same))
    (front_apart front p apart.1)

-- where the last page is pinned, those before it rest
pub resting_last : (page : OpenPage) (pages : List PageToken) → page.place + 1 ≡ length pages → resting_in (Some page) pages ≡ take page.place pages
resting_last page pages ends =
    ap (λ (ps : List PageToken). take page.place pages ++ ps) (drop_all (suc page.place) pages (omega (arith, ends)))
    ∙ append-nil (take page.place pages)

module _ {t : ℕ} {s : Streamed} {page : OpenPage} {p : PageToken} {old new : Holdings} (is : IsShaped t s old) (pinned : IsPinned s page p) (unpinned : new ≡ after_unpin p.name page.buf.bytes old) where
  turns : Turns s None page.place p old new
  turns = rested_turns t s page p old new is pinned unpinned

  some_page : 0 < length s.pages
  some_page =
      let opened : IsOpen s old page = subst (λ (o : Option OpenPage). IfSome o (IsOpen s old)) pinned.pinned is.opened in
      let inside : page.place < length s.pages = opened.inside in
      omega (arith, inside)

  left_before : (front : List PageToken) → IsApart p.name front → map (left_page new) front ≡ map (left_page old) front
  left_before front apart =
      map_agrees (left_page new) (left_page old) front
      (All-weaker (λ r. r.name ≢ p.name) (λ r. left_page new r ≡ left_page old r) (λ r other. ap (λ (o : Option LivePage). record { name = r.name; bytes = (or_else no_page o).left }) (turns.others r.name other)) front apart)

  left_last : IsAtEnd s → rested (with_pinned None s) new ≡ rested s old ++ record { name = p.name; bytes = page.buf.bytes } ∷ []
  left_last at_end =
      let place : Some (page.place + 1) ≡ Some (length s.pages) = sym (ap (option_map (λ (o : OpenPage). o.place + 1)) pinned.pinned) ∙ at_end some_page in
      let ends : page.place + 1 ≡ length s.pages = same_Some (page.place + 1) (length s.pages) place in
      let front : List PageToken = take page.place s.pages in
      let pages : s.pages ≡ front ++ p ∷ [] = (split_last s.pages page.place p pinned.at ends).0 in
      let apart : IsApart p.name front = front_apart front p (subst AreApart pages is.apart) in
      let was : rested s old ≡ map (left_page old) front = ap (λ (o : Option OpenPage). map (left_page old) (resting_in o s.pages)) pinned.pinned ∙ ap (map (left_page old)) (resting_last page s.pages ends) in
      ap (map (left_page new)) pages
      ∙ map-append (left_page new) front (p ∷ [])
      ∙ ap (λ (ls : List Left). ls ++ left_page new p ∷ []) (left_before front apart ∙ sym was)
      ∙ ap (λ (bs : List ℕ). rested s old ++ record { name = p.name; bytes = bs } ∷ []) (rested_left t s page p old new is pinned unpinned)

  pub rested_went : (now : Streamed) (maker : ℕ) (before after : Signs) → now ≡ with_pinned None s → (LacksSlots (page_of p.name old) old.free_slots → ⊥)
      → MadeThese maker (Unpin p.name page.buf.bytes ∷ []) before after → Grows before after → Rests t (scene s old before) (scene now new after)
  rested_went now maker before after same enough made grows =
      let events : List Event = Unpin p.name page.buf.bytes ∷ [] in
      subst (λ (r : Streamed). Rests t (scene s old before) (scene r new after)) (sym same)
      (record {
        step = record {
          shape = turned_shape t s None page.place p old new is turns tt;
          sized = refl;
          touches = rested_touches t s page p old new is pinned unpinned enough;
          trail = since_so (λ made. made ≡ events) (Lays (IsAtEnd s ⊎ (s.pinned ≡ None)) ⊤ (scene s old before) (scene (with_pinned None s) new after)) before.trail after.trail
              (λ made are. subst (Lays (IsAtEnd s ⊎ (s.pinned ≡ None)) ⊤ (scene s old before) (scene (with_pinned None s) new after)) (sym are)
              (record {
                creates = omega arith;
                building = λ steady. All-cons IsBuilding (Unpin p.name page.buf.bytes) [] tt (All-nil IsBuilding);
                left = λ steady. elim steady [ inl at_end ↦ left_last at_end | inr none ↦ absurd (none-some page (sym none ∙ pinned.pinned)) ];
                reads = λ reading closed. absurd (none-some page (sym closed ∙ pinned.pinned));
              }))
              (since_these maker events before after made);
          grows = grows;
        };
        spent = refl;
        counted = omega arith;
        within = λ place is_in. record { page_is = is_in.page_is; row_is = is_in.row_is };
        rows = λ rows sure has.
            subst (λ (rs : List (List ℕ)). HasRows rs (with_pinned None s) new) (sym (append-nil rows))
            (turned_has t s None page.place p old new is turns (rested_shows t s page p old new is pinned unpinned) rows has);
        places = λ rows sure has. turned_places t s None page.place p old new is turns (rested_shows t s page p old new is pinned unpinned);
      })
