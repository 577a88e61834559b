-- The slots that a page took come back, and it lacks them where a pool may refuse its unpin.
use Rattle.std.proofs.Common.{◌≡◌, ℕ, ◌+◌, ◌-◌, ◌≤◌, ◌<◌, List, [], Bool, true, false, if◌then◌else◌, ◌||◌, Option, Some, None, is_some, option_map, refl, sym, ap, ◌∙◌, subst, arith, inl, inr}
use Rattle.std.proofs.lemmas.Bool.{cases_lt}
use Rattle.pool_model.specs.State.{Page}
use Rattle.pool_model.specs.Sums.{free_slots}
use Rattle.store_api.specs.Holdings.{LivePage, Holdings, or_else, no_page, page_of}
use Rattle.store_api.specs.Changes.{slots_taken, slots_given, after_pin, after_unpin}
use Rattle.store_api.specs.Refusals.{LacksSlots, AreTooFew}
use Rattle.store_api.specs.HoldingLaws.{SlotsComeBack, LacksAsInPool}
use Rattle.store_api.proofs.Puts.{put_here}

-- what was taken is given, where there was enough
slots_back : (has : Bool) (blocks : ℕ) (free : Option ℕ) → has ≡ false → (AreTooFew blocks free → ⊥) → (if has || is_some free then option_map (λ n. n + blocks) (if has then free else option_map (λ n. n - blocks) free) else (if has then free else option_map (λ n. n - blocks) free)) ≡ free
slots_back true blocks free none enough = absurd cc
slots_back false blocks None none enough = refl
slots_back false blocks (Some n) none enough =
    let fits : blocks ≤ n = elim (cases_lt n blocks) [ inl few ↦ absurd (enough few) | inr fits ↦ fits ] in
    ap Some (omega (arith, fits))

module _ (p : ℕ) (bytes : List ℕ) (h : Holdings) where
  abbrev rested : LivePage
  rested = record (page_of p h) { pins = (page_of p h).pins - 1; left = bytes; has_slots = (page_of p h).has_slots || is_some h.free_slots }

  rested_is : page_of p (after_unpin p bytes h) ≡ rested
  rested_is = ap (or_else no_page) (put_here p (Some rested) h.pages)

  pinned_again : page_of p (after_pin p (after_unpin p bytes h)) ≡ record (page_of p (after_unpin p bytes h)) { pins = (page_of p (after_unpin p bytes h)).pins + 1; left = [] }
  pinned_again = ap (or_else no_page) (put_here p (Some (record (page_of p (after_unpin p bytes h)) { pins = (page_of p (after_unpin p bytes h)).pins + 1; left = [] })) (after_unpin p bytes h).pages)

  taken_and_given : (page_of p h).has_slots ≡ false → (LacksSlots (page_of p h) h.free_slots → ⊥) → slots_given rested (slots_taken (page_of p h) h.free_slots) ≡ h.free_slots
  taken_and_given none enough = slots_back (page_of p h).has_slots (page_of p h).blocks h.free_slots none (λ few. enough (record { none = none; few = few }))

pub slots_come_back : SlotsComeBack
slots_come_back p bytes h lives none enough =
    let back : slots_given (rested p bytes h) (slots_taken (page_of p h) h.free_slots) ≡ h.free_slots = taken_and_given p bytes h none enough in (
      ap (λ (page : LivePage). slots_given page (slots_taken (page_of p h) h.free_slots)) (rested_is p bytes h) ∙ back,
      λ f.
          ap (λ (page : LivePage). slots_given page (slots_taken (page_of p h) h.free_slots)) (pinned_again p bytes h)
          ∙ ap (λ (page : LivePage). slots_given (record page { pins = page.pins + 1; left = [] }) (slots_taken (page_of p h) h.free_slots)) (rested_is p bytes h)
          ∙ back,
    )

pub lacks_as_in_pool : LacksAsInPool
lacks_as_in_pool s maker p page live own pinned blocks slots = (
  λ lacks. record { page = page; own = own; pinned = pinned; none = sym slots ∙ lacks.none; few = subst (λ (n : ℕ). free_slots s maker < n) blocks lacks.few },
  λ may.
      let same : may.page ≡ page = ap (or_else page) (sym may.own.lives ∙ own.lives) in
      record {
        none = slots ∙ ap (λ (q : Page). q.has_slots) (sym same) ∙ may.none;
        few = subst (λ (n : ℕ). free_slots s maker < n) (ap (λ (q : Page). q.blocks) same ∙ sym blocks) may.few;
      },
)
