-- A session's call that was begun since a history.
use Rattle.std.proofs.Common.{◌≡◌, ℕ, ◌+◌, ◌≤◌, ◌==◌, ◌&&◌, ◌||◌, Bool, true, false, if◌then◌else◌, List, [], ◌∷◌, ◌++◌, length, length-append, filter, refl, sym, ap, ◌∙◌, arith, inl, inr, eq-eqb}
use Rattle.std.proofs.lemmas.List.{append_assoc, append-nil}
use Rattle.std.proofs.lemmas.List.Elements.{filter-append}
use Rattle.std.proofs.lemmas.List.Folds.{list_any-append}
use Rattle.std.specs.List.{list_any}
use Rattle.reservation_tree.proofs.Maps.{same_or_other}
use Rattle.pool_model.specs.declared.event.Event.{Event}
use Rattle.pool_model.specs.declared.event.Event.TheVariants.{Ask}
use Rattle.pool_model.specs.declared.entry.Entry.{Entry}
use Rattle.pool_model.specs.LookingBack.{is_ask, opens, made_by}
use Rattle.pool_model.specs.Failures.{asks_in}
use Rattle.pool_model.proofs.OwnEntries.{made_by_other, made_more, made_first}
use Rattle.store_api.specs.Holdings.{Holdings}
use Rattle.store_api.specs.Entries.{by, IsAsked}
use Rattle.session_calls.specs.Doing.{Does}

-- how many calls are begun in these
abbrev asks : List Entry → ℕ
asks es = length (filter (λ e. is_ask e.event) es)

asks_more : (a b : List Entry) → asks (a ++ b) ≡ asks a + asks b
asks_more a b = ap length (filter-append (λ (e : Entry). is_ask e.event) a b) ∙ length-append (filter (λ e. is_ask e.event) a) (filter (λ e. is_ask e.event) b)

some_first : (e : Entry) (es : List Entry) → 1 ≤ length (e ∷ es)
some_first e es = omega arith

neither : (a b : Bool) → (a || b) ≡ false → (a ≡ false) × (b ≡ false)
neither true b is = let never : true ≡ false = is in cc
neither false b is = (refl, is)

one_more : (m : ℕ) (h : List Entry) (e : Entry) → (e.maker == m && is_ask e.event) ≡ false → asks (made_by (h ++ e ∷ []) m) ≤ asks (made_by h m)
one_more m h e none = elim (same_or_other e.maker m) [
  | inl own ↦
      let not : is_ask e.event ≡ false = sym (ap (λ (b : Bool). b && is_ask e.event) (eq-eqb e.maker m own)) ∙ none in
      let alone : asks (e ∷ []) ≡ 0 = ap (λ (b : Bool). length (if b then e ∷ [] else [])) not in
      elim (opens e.event) as (λ b. opens e.event ≡ b → asks (made_by (h ++ e ∷ []) m) ≤ asks (made_by h m)) [
        | true ↦ λ new. let now : asks (made_by (h ++ e ∷ []) m) ≡ asks (e ∷ []) = ap asks (made_first h e m own new) in omega (arith, now, alone)
        | false ↦ λ old.
            let now : asks (made_by (h ++ e ∷ []) m) ≡ asks (made_by h m) + asks (e ∷ []) = ap asks (made_more h e m own old) ∙ asks_more (made_by h m) (e ∷ []) in
            omega (arith, now, alone)
      ] refl
  | inr other ↦ let now : asks (made_by (h ++ e ∷ []) m) ≡ asks (made_by h m) = ap asks (made_by_other h e m other) in omega (arith, now)
]

none_more : (m : ℕ) (h more : List Entry) → asks_in m more ≡ false → asks (made_by (h ++ more) m) ≤ asks (made_by h m)
none_more m h [] none = let same : asks (made_by (h ++ []) m) ≡ asks (made_by h m) = ap (λ (es : List Entry). asks (made_by es m)) (append-nil h) in omega (arith, same)
none_more m h (e ∷ more) none =
    let parts = neither (e.maker == m && is_ask e.event) (asks_in m more) none in
    let rest : asks (made_by ((h ++ e ∷ []) ++ more) m) ≤ asks (made_by (h ++ e ∷ []) m) = none_more m (h ++ e ∷ []) more parts.1 in
    let here : asks (made_by (h ++ e ∷ []) m) ≤ asks (made_by h m) = one_more m h e parts.0 in
    let same : asks (made_by (h ++ e ∷ more) m) ≡ asks (made_by ((h ++ e ∷ []) ++ more) m) = ap (λ (es : List Entry). asks (made_by es m)) (sym (append_assoc h (e ∷ []) more)) in
    omega (arith, rest, here, same)

-- where the session's own entries tell of a call more, one was begun since
pub asked_since : (m : ℕ) (h more : List Entry) (events : List Event) → made_by (h ++ more) m ≡ made_by h m ++ by m (Ask ∷ events) → asks_in m more ≡ true
asked_since m h more events own = elim (asks_in m more) as (λ b. asks_in m more ≡ b → b ≡ true) [
  | true ↦ λ is. refl
  | false ↦ λ is.
      let none : asks (made_by (h ++ more) m) ≤ asks (made_by h m) = none_more m h more is in
      let all : asks (made_by (h ++ more) m) ≡ asks (made_by h m) + asks (by m (Ask ∷ events)) = ap asks own ∙ asks_more (made_by h m) (by m (Ask ∷ events)) in
      let one : 1 ≤ asks (by m (Ask ∷ events)) = some_first (record { maker = m; event = Ask }) (filter (λ e. is_ask e.event) (by m events)) in
      absurd (omega (arith, none, all, one))
] refl

or_true : (b : Bool) → (b || true) ≡ true
or_true true = refl
or_true false = refl

module _ (t m : ℕ) (h : Holdings) (last : List Event) (before now : List Entry) (asked : Does m (IsAsked t h last) before now) where
  -- a call that asked was begun since
  pub does_ask : asks_in m asked.more ≡ true
  does_ask =
      asked_since m before asked.more (asked.is.0 ++ last)
      (sym (ap (λ (es : List Entry). made_by es m) asked.grew) ∙ asked.own ∙ ap (λ (es : List Event). made_by before m ++ by m es) asked.is.2)

  -- so its session has begun one
  pub has_asked : list_any (λ e. is_ask e.event) (made_by now m) ≡ true
  has_asked =
      ap (list_any (λ e. is_ask e.event)) asked.own ∙ list_any-append (λ (e : Entry). is_ask e.event) (made_by before m) (by m asked.events)
      ∙ ap (λ (es : List Event). list_any (λ e. is_ask e.event) (made_by before m) || list_any (λ e. is_ask e.event) (by m es)) asked.is.2
      ∙ or_true (list_any (λ e. is_ask e.event) (made_by before m))
