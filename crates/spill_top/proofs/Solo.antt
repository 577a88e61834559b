-- Entries with which a session comes once at most, and before which others made all.
use Rattle.std.proofs.Common.{◌≡◌, ◌≢◌, ◌⊎◌, ℕ, ◌+◌, ◌<◌, Bool, true, false, ◌&&◌, ◌||◌, if◌then◌else◌, List, [], ◌∷◌, ◌++◌, filter, inl, inr, refl, sym, ap, ◌∙◌, arith, append_assoc, append-nil, eq-eqb, ne_eqb}
use Rattle.std.specs.Prelude.{⊤}
use Rattle.std.specs.List.{AllByRecursion}
use Rattle.std.proofs.lemmas.List.Elements.{filter-append}
use Rattle.reservation_tree.proofs.Maps.{same_or_other}
use Rattle.pool_model.specs.declared.entry.Entry.{Entry}
use Rattle.pool_model.specs.LookingBack.{is_by, made_by, opens, since}
use Rattle.turn_table.specs.Lists.{needed, same, times}
use Rattle.session_calls.specs.Having.{AllBeside}
use Rattle.pool.specs.declared.item.Item.{Item}
use Rattle.pool.specs.declared.item.Item.TheVariants.{Made, Seated, Stop, Went}
use Rattle.pool.specs.Items.{door, history, needs_of}
use Rattle.pool.specs.Standing.{IsMarked}
use Rattle.session_shares.specs.Shares.{AreAmong}

-- a sum that is nothing has nothing in it
first_none : (a b : ℕ) → a + b ≡ 0 → a ≡ 0
first_none a b is = omega (arith, is)

rest_none : (a b : ℕ) → a + b ≡ 0 → b ≡ 0
rest_none a b is = omega (arith, is)

none_after : (b : Bool) → b && false ≡ false
none_after true = refl
none_after false = refl

module _ (m : ℕ) where
  -- with none of these entries the session comes
  abbrev pub Never : List Entry → Type 0
  Never h = AllByRecursion (λ e. (e.maker ≢ m) ⊎ (opens e.event ≡ false)) h

  never_front : (xs ys : List Entry) → Never (xs ++ ys) → Never xs
  never_front [] ys never = tt
  never_front (x ∷ xs) ys never = (never.0, never_front xs ys never.1)

  -- it comes with one of them at most, before which others made all
  abbrev pub Once : List Entry → Type 0
  Once [] = ⊤
  Once (e ∷ h) = ((e.maker ≢ m) × Once h) ⊎ Never h

  pub once_front : (xs ys : List Entry) → Once (xs ++ ys) → Once xs
  once_front [] ys once = tt
  once_front (x ∷ xs) ys (inl other) = inl (other.0, once_front xs ys other.1)
  once_front (x ∷ xs) ys (inr never) = inr (never_front xs ys never)

  pub once_behind : (xs ys : List Entry) → AllBeside m xs → Once ys → Once (xs ++ ys)
  once_behind [] ys others once = once
  once_behind (x ∷ xs) ys others once = inl (others.0, once_behind xs ys others.1 once)

  abbrev begins : Entry → Bool
  begins e = is_by m e && opens e.event

  begins_none : (e : Entry) → (e.maker ≢ m) ⊎ (opens e.event ≡ false) → begins e ≡ false
  begins_none e (inl other) = ap (λ (b : Bool). b && opens e.event) (ne_eqb e.maker m other)
  begins_none e (inr old) = ap (λ (b : Bool). is_by m e && b) old ∙ none_after (is_by m e)

  pub kept_on : (kept h : List Entry) → Never h → since begins kept h ≡ kept ++ h
  kept_on kept [] never = sym (append-nil kept)
  kept_on kept (e ∷ h) never =
      ap (λ (b : Bool). since begins (if b then e ∷ [] else kept ++ e ∷ []) h) (begins_none e never.0)
      ∙ kept_on (kept ++ e ∷ []) h never.1 ∙ append_assoc kept (e ∷ []) h

  none_more : (kept more : List Entry) → filter (is_by m) kept ≡ [] → filter (is_by m) (kept ++ more) ≡ filter (is_by m) more
  none_more kept more none = filter-append (is_by m) kept more ∙ ap (λ (es : List Entry). es ++ filter (is_by m) more) none

  either : (b : Bool) (kept : List Entry) (e : Entry) (h : List Entry) → filter (is_by m) kept ≡ []
      → filter (is_by m) ((if b then e ∷ [] else kept ++ e ∷ []) ++ h) ≡ filter (is_by m) (e ∷ h)
  either true kept e h none = refl
  either false kept e h none = ap (filter (is_by m)) (append_assoc kept (e ∷ []) h) ∙ none_more kept (e ∷ h) none

  all_own : (kept h : List Entry) → filter (is_by m) kept ≡ [] → Once h → filter (is_by m) (since begins kept h) ≡ filter (is_by m) h
  all_own kept [] none once = none
  all_own kept (e ∷ h) none (inl other) =
      let not : is_by m e ≡ false = ne_eqb e.maker m other.0 in
      ap (λ (b : Bool). filter (is_by m) (since begins (if b then e ∷ [] else kept ++ e ∷ []) h)) (begins_none e (inl other.0))
      ∙ all_own (kept ++ e ∷ []) h (none_more kept (e ∷ []) none ∙ ap (λ (b : Bool). if b then e ∷ [] else []) not) other.1
      ∙ ap (λ (b : Bool). if b then e ∷ filter (is_by m) h else filter (is_by m) h) (sym not)
  all_own kept (e ∷ h) none (inr never) =
      ap (filter (is_by m)) (kept_on (if begins e then e ∷ [] else kept ++ e ∷ []) h never) ∙ either (begins e) kept e h none

  pub never_in : (items : List Item) → AllByRecursion IsMarked items → needed needs_of door items ≡ 0 → Never (history items)
  never_in [] marked none = tt
  never_in (Seated e ∷ items) marked none =
      let never : 1 ≡ 0 = first_none 1 (same door e.maker + 0) (first_none (times door (needs_of (Seated e))) (needed needs_of door items) none) in
      absurd (omega (arith, never))
  never_in (Made e ∷ items) marked none = (inr marked.0, never_in items marked.1 (rest_none (times door (needs_of (Made e))) (needed needs_of door items) none))
  never_in (Went k count ∷ items) marked none = never_in items marked.1 (rest_none (times door (needs_of (Went k count))) (needed needs_of door items) none)
  never_in (Stop ∷ items) marked none =
      let never : 1 ≡ 0 = first_none 1 0 (first_none (times door (needs_of Stop)) (needed needs_of door items) none) in
      absurd (omega (arith, never))

  -- so its own entries are all that it made
  pub once : (h : List Entry) → Once h → filter (is_by m) h ≡ made_by h m
  once h is = sym (all_own [] h refl is)

  -- where no other session made any, its number is the only one
  pub among : (h : List Entry) → ((k : ℕ) → k < 240 → k ≢ m → AllBeside k h) → AreAmong (m ∷ []) h
  among [] others = tt
  among (e ∷ h) others = (
    λ low. elim (same_or_other e.maker m) [
      | inl is ↦ ap (λ (b : Bool). b || false) (eq-eqb m e.maker (sym is))
      | inr apart ↦ absurd ((others e.maker low apart).0 refl)
    ],
    among h (λ k low apart. (others k low apart).1),
  )
