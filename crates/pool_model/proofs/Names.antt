-- The names of pages, and the count of entries.
use Rattle.std.proofs.Common.{◌≡◌, ℕ, zero, suc, ◌+◌, ◌<◌, ◌≤◌, ◌⊎◌, Option, Some, None, List, [], ◌∷◌, ◌++◌, length, eqb, false, ne_eqb, refl, ap, sym, ◌∙◌, subst, arith, inl, inr}
use Rattle.std.specs.List.{IsDistinct, AllByRecursion, cons_option}
use Rattle.std.proofs.lemmas.List.{append-nil, length-append}
use Rattle.std.proofs.lemmas.List.Elements.{filter_map-append}
use Rattle.pool_model.specs.declared.event.Event.{Event}
use Rattle.pool_model.specs.declared.event.Event.TheVariants.{AddTracker, Create}
use Rattle.pool_model.specs.declared.entry.Entry.{Entry}
use Rattle.pool_model.specs.State.{opened, State, shown}
use Rattle.pool_model.specs.LookingBack.{name_in, names_in}
use Rattle.pool_model.specs.MayFollow.{Allows, MayFollow}
use Rattle.pool_model.specs.Effects.{effect, after}
use Rattle.pool_model.specs.Legal.{run, state_after}
use Rattle.pool_model.specs.Sound.{IsSound}
use Rattle.pool_model.specs.HistoryLaws.{names_from, LegalNamesAreNew, CountsEntries}
use Rattle.pool_model.proofs.Fronts.{holds_after}

-- an event gives the next name, or none
named : (before : List Entry) (s : State) (maker : ℕ) (event : Event) → Allows before s maker event
    → ((name_in event ≡ None) × ((effect maker event s).next_name ≡ s.next_name)) ⊎ ((name_in event ≡ Some s.next_name) × ((effect maker event s).next_name ≡ s.next_name + 1))
named before s maker (Create p client blocks key) may = inr (ap Some may.next, refl)
named before s maker (AddTracker t parent limit (Some quota)) may = inl (refl, refl)
named before s maker (AddTracker t parent limit None) may = inl (refl, refl)
named before s maker _ may = inl (refl, refl)

one_more_name : (first n : ℕ) → names_from first (suc n) ≡ names_from first n ++ (first + n) ∷ []
one_more_name first zero = let same : first ≡ first + 0 = omega arith in ap (λ (p : ℕ). p ∷ []) same
one_more_name first (suc n) =
    let same : suc first + n ≡ first + suc n = omega arith in
    ap (λ (names : List ℕ). first ∷ names) (one_more_name (suc first) n ∙ ap (λ (p : ℕ). names_from (suc first) n ++ p ∷ []) same)

-- names count up
record CountUp (first : ℕ) (h : List Entry) (s : State) : Type 0 where
  next : s.next_name ≡ first + length (names_in h)
  ascend : names_in h ≡ names_from first (length (names_in h))

grown_names : (h : List Entry) (e : Entry) (o : Option ℕ) → name_in e.event ≡ o → names_in (h ++ e ∷ []) ≡ names_in h ++ cons_option o []
grown_names h e o is = filter_map-append (λ d. name_in d.event) h (e ∷ []) ∙ ap (λ (q : Option ℕ). names_in h ++ cons_option q []) is

count_up : (first : ℕ) (before : List Entry) (s : State) → IsSound s → CountUp first before s → (e : Entry) → MayFollow before s e → CountUp first (before ++ e ∷ []) (after s e)
count_up first before s sound up e may = elim (named before s e.maker e.event may.allows) [
  | inl none ↦
      let same : names_in (before ++ e ∷ []) ≡ names_in before = grown_names before e None none.0 ∙ append-nil (names_in before) in
      subst (λ (names : List ℕ). ((after s e).next_name ≡ first + length names) × (names ≡ names_from first (length names)) → CountUp first (before ++ e ∷ []) (after s e)) same
      (λ both. record { next = both.0; ascend = both.1 }) (none.1 ∙ up.next, up.ascend)
  | inr one ↦
      let more : names_in (before ++ e ∷ []) ≡ names_in before ++ s.next_name ∷ [] = grown_names before e (Some s.next_name) one.0 in
      let many : length (names_in (before ++ e ∷ [])) ≡ length (names_in before) + 1 = ap length more ∙ length-append (names_in before) (s.next_name ∷ []) in
      let next : s.next_name ≡ first + length (names_in before) = up.next in
      let last : (effect e.maker e.event s).next_name ≡ s.next_name + 1 = one.1 in
      let count : length (names_in (before ++ e ∷ [])) ≡ suc (length (names_in before)) = omega (arith, many) in
      record {
        next = omega (arith, many, next, last);
        ascend = more ∙ ap (λ (names : List ℕ). names ++ s.next_name ∷ []) up.ascend
            ∙ ap (λ (p : ℕ). names_from first (length (names_in before)) ++ p ∷ []) next
            ∙ sym (one_more_name first (length (names_in before))) ∙ ap (names_from first) (sym count);
      }
]

later_names : (first n p : ℕ) → p < first → AllByRecursion (λ q. eqb p q ≡ false) (names_from first n)
later_names first zero p low = tt
later_names first (suc n) p low = (ne_eqb p first (λ same. omega (arith, same, low)), later_names (suc first) n p (omega (arith, low)))

distinct_names : (first n : ℕ) → IsDistinct eqb (names_from first n)
unfolding IsDistinct
distinct_names first zero = tt
distinct_names first (suc n) = (later_names (suc first) n first (omega arith), distinct_names (suc first) n)

names_below : (first n next : ℕ) → first + n ≤ next → AllByRecursion (λ p. p < next) (names_from first n)
names_below first zero next low = tt
names_below first (suc n) next low = (omega (arith, low), names_below (suc first) n next (omega (arith, low)))

pub legal_names_are_new : LegalNamesAreNew
legal_names_are_new o h legal =
    let start : o.first_name ≡ o.first_name + 0 = omega arith in
    let up : CountUp o.first_name h (state_after o h) = holds_after (CountUp o.first_name) (count_up o.first_name) o (record { next = start; ascend = refl }) h legal in
    let all : names_from o.first_name (length (names_in h)) ≡ names_in h = sym up.ascend in
    let next : (state_after o h).next_name ≡ o.first_name + length (names_in h) = up.next in
    record {
      next = up.next;
      ascend = up.ascend;
      distinct = subst (IsDistinct eqb) all (distinct_names o.first_name (length (names_in h)));
      below = subst (AllByRecursion (λ p. p < (state_after o h).next_name)) all (names_below o.first_name (length (names_in h)) (state_after o h).next_name (omega (arith, next)));
    }

pub same_count : (maker : ℕ) (event : Event) (s : State) → (effect maker event s).entries ≡ s.entries
same_count maker (AddTracker t parent limit (Some quota)) s = refl
same_count maker (AddTracker t parent limit None) s = refl
same_count maker _ s = refl

counted_on : (n : ℕ) (s : State) → s.entries ≡ shown n → (es : List Entry) → (run s es).entries ≡ shown (n + length es)
counted_on n s is [] = let same : n ≡ n + 0 = omega arith in is ∙ ap shown same
counted_on n s is (e ∷ es) =
    let here : (effect e.maker e.event s).entries ≡ s.entries = same_count e.maker e.event s in
    let one : (after s e).entries ≡ shown (n + 1) = omega (arith, is, here) in
    let same : (n + 1) + length es ≡ n + suc (length es) = omega arith in
    counted_on (n + 1) (after s e) one es ∙ ap shown same

pub counts_entries : CountsEntries
counts_entries o h = counted_on 0 (opened o) refl h ∙ (let same : 0 + length h ≡ length h = omega arith in ap shown same)
