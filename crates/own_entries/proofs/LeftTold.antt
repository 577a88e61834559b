-- What is left in a page that rests is what its session's entries left in it last.
use Rattle.std.proofs.Common.{◌≡◌, ℕ, ◌+◌, ◌-◌, ◌==◌, List, [], ◌∷◌, ◌≤◌, Bool, true, false, leb, if◌then◌else◌, Option, Some, None, refl, sym, ap, ◌∙◌, arith, inl, inr, eq-eqb, ne_eqb}
use Rattle.std.proofs.lemmas.Bool.{leb-true}
use Rattle.reservation_tree.proofs.Maps.{same_or_other}
use Rattle.pool_model.specs.declared.event.Event.{Event}
use Rattle.pool_model.specs.declared.event.Event.TheVariants.{AddTracker, CloseTracker, Increase, IncreaseToFit, Decrease, MoveReservation, Create, PinHere, ReadOk, PinAgain, UnpinOnce, Unpin, Extract, Destroy, MoveBuffer}
use Rattle.pool_model.specs.declared.entry.Entry.{Entry}
use Rattle.pool_model.specs.LookingBack.{left_in, content_from}
use Rattle.pool_model.proofs.Seats.{some_is}
use Rattle.store_api.specs.Holdings.{LivePage, Holdings, put, page_of, loan_of}
use Rattle.store_api.specs.Changes.{after_unpin_once}
use Rattle.store_api.proofs.Puts.{put_here, put_there}
use Rattle.own_entries.specs.OwnHoldings.{step, moved_between, has_client, after_entries, none_held}
use Rattle.own_entries.specs.HeldLaws.{LeftIsTold}

abbrev Rests : (ℕ → Option LivePage) → (ℕ → List ℕ) → Type 0
Rests pages old = (p : ℕ) (page : LivePage) → pages p ≡ Some page → page.pins ≡ 0 → page.left ≡ old p

-- another page stands there, which doesn't rest
pinned_now : (pages : ℕ → Option LivePage) (old : ℕ → List ℕ) (q n : ℕ) (new : LivePage) → new.pins ≡ n + 1 → Rests pages old → Rests (put q (Some new) pages) old
pinned_now pages old q n new pins rests p page is none = elim (same_or_other p q) [
  | inl here ↦
      let it : new ≡ page = some_is new page (sym (put_here q (Some new) pages) ∙ ap (put q (Some new) pages) (sym here) ∙ is) in
      let both : page.pins ≡ n + 1 = ap (λ (v : LivePage). v.pins) (sym it) ∙ pins in
      absurd (omega (arith, both, none))
  | inr apart ↦ rests p page (sym (put_there q p (Some new) pages apart) ∙ is) none
]

gone_now : (pages : ℕ → Option LivePage) (old : ℕ → List ℕ) (q : ℕ) → Rests pages old → Rests (put q None pages) old
gone_now pages old q rests p page is none = elim (same_or_other p q) [
  | inl here ↦ let never : None ≡ Some page = sym (put_here q None pages) ∙ ap (put q None pages) (sym here) ∙ is in cc
  | inr apart ↦ rests p page (sym (put_there q p None pages apart) ∙ is) none
]

rested_now : (pages : ℕ → Option LivePage) (old : ℕ → List ℕ) (q : ℕ) (content : List ℕ) (new : LivePage) → new.left ≡ content → Rests pages old → Rests (put q (Some new) pages) (λ p. left_in p (Unpin q content) (old p))
rested_now pages old q content new left rests p page is none = elim (same_or_other p q) [
  | inl here ↦
      let it : new ≡ page = some_is new page (sym (put_here q (Some new) pages) ∙ ap (put q (Some new) pages) (sym here) ∙ is) in
      ap (λ (v : LivePage). v.left) (sym it) ∙ left ∙ sym (ap (λ (b : Bool). if b then content else old p) (eq-eqb q p (sym here)))
  | inr apart ↦ rests p page (sym (put_there q p (Some new) pages apart) ∙ is) none ∙ sym (ap (λ (b : Bool). if b then content else old p) (ne_eqb q p (λ same. apart (sym same))))
]

pages_if : (b : Bool) (u v : Holdings) (old : ℕ → List ℕ) → Rests u.pages old → Rests v.pages old → Rests (if b then u else v).pages old
pages_if true u v old first second = first
pages_if false u v old first second = second

moved_pages : (a b : Bool) (from to bytes : ℕ) (h : Holdings) (old : ℕ → List ℕ) → Rests h.pages old → Rests (moved_between a b from to bytes h).pages old
moved_pages true true from to bytes h old rests = pages_if (from == to) _ _ old rests rests
moved_pages true false from to bytes h old rests = rests
moved_pages false true from to bytes h old rests = rests
moved_pages false false from to bytes h old rests = rests

rests_on : (event : Event) (h : Holdings) (old : ℕ → List ℕ) → Rests h.pages old → Rests (step event h).pages (λ p. left_in p event (old p))
rests_on (AddTracker t parent limit (Some quota)) h old rests = λ p page is none. let never : None ≡ Some page = is in cc
rests_on (AddTracker t parent limit None) h old rests = rests
rests_on (CloseTracker t) h old rests = pages_if (has_client t h) _ _ old rests rests
rests_on (Increase t bytes) h old rests = pages_if (has_client t h) _ _ old rests rests
rests_on (IncreaseToFit t bytes) h old rests = pages_if (has_client t h) _ _ old rests rests
rests_on (Decrease t bytes) h old rests = pages_if (has_client t h) _ _ old rests rests
rests_on (MoveReservation from to bytes) h old rests = moved_pages (has_client from h) (has_client to h) from to bytes h old rests
rests_on (Create p client blocks key) h old rests = pinned_now h.pages old p 0 _ refl rests
rests_on (PinHere p) h old rests = pinned_now h.pages old p _ _ refl rests
rests_on (ReadOk p) h old rests = pinned_now h.pages old p _ _ refl rests
rests_on (PinAgain p) h old rests = pinned_now h.pages old p _ _ refl rests
rests_on (UnpinOnce p) h old rests =
    elim (leb 2 (page_of p h).pins) as (λ b. leb 2 (page_of p h).pins ≡ b → Rests (if b then after_unpin_once p h else h).pages old) [
      | true ↦ λ several.
          let many : 2 ≤ (page_of p h).pins = leb-true 2 (page_of p h).pins several in
          pinned_now h.pages old p ((page_of p h).pins - 2) _ (omega (arith, many)) rests
      | false ↦ λ few. rests
    ] refl
rests_on (Unpin p content) h old rests = rested_now h.pages old p content _ refl rests
rests_on (Extract p f) h old rests = gone_now h.pages old p rests
rests_on (Destroy p) h old rests = gone_now h.pages old p rests
rests_on (MoveBuffer f to) h old rests = pages_if ((loan_of f h).client == to) _ _ old rests rests
rests_on _ h old rests = rests

rests_from : (es : List Entry) (h : Holdings) (old : ℕ → List ℕ) → Rests h.pages old → Rests (after_entries h es).pages (λ p. content_from p (old p) es)
rests_from [] h old rests = rests
rests_from (e ∷ es) h old rests = rests_from es (step e.event h) (λ p. left_in p e.event (old p)) (rests_on e.event h old rests)

pub left_is_told : LeftIsTold
left_is_told block_len session outset own = rests_from own (none_held block_len session outset) (λ p. []) (λ p page is none. let never : None ≡ Some page = is in cc)
