-- A failure that is kept since an Ask rose the count since before it.
use Rattle.std.proofs.Common.{◌≡◌, ℕ, ◌+◌, ◌≤◌, List, [], ◌∷◌, ◌++◌, length, filter, find, Bool, true, false, ◌&&◌, ◌||◌, if◌then◌else◌, Option, Some, None, option_map, refl, sym, ap, ◌∙◌, subst, arith}
use Rattle.std.proofs.lemmas.List.{length-append}
use Rattle.std.proofs.lemmas.List.Elements.{filter-append}
use Rattle.std.specs.List.{list_any}
use Rattle.pool_model.specs.declared.entry.Entry.{Entry}
use Rattle.pool_model.specs.State.{shown}
use Rattle.pool_model.specs.LookingBack.{since, Numbered, numbered, opens, is_ask, is_by, Made, maker_of}
use Rattle.pool_model.specs.Failures.{failed_page, fails, is_for_own, failures_in, adds, closes, forgets, first_failure, asks_in}
use Rattle.pool_model.specs.OwnLaws.{LegalKeptFailuresRose, FailuresGrow}
use Rattle.pool_model.proofs.Made.{still_made}
use Rattle.pool_model.proofs.Noted.{legal_keeps_failures}

module _ {X : Type 0} where
  -- a weaker test passes as many at least
  more_pass : (p q : X → Bool) → ((x : X) → p x ≡ true → q x ≡ true) → (xs : List X) → length (filter p xs) ≤ length (filter q xs)
  more_pass p q weaker [] = omega arith
  more_pass p q weaker (x ∷ xs) =
      let rest : length (filter p xs) ≤ length (filter q xs) = more_pass p q weaker xs in
      elim (p x) as (λ b. p x ≡ b → length (if b then x ∷ filter p xs else filter p xs) ≤ length (if q x then x ∷ filter q xs else filter q xs)) [
        | true ↦ λ is. subst (λ (b : Bool). length (x ∷ filter p xs) ≤ length (if b then x ∷ filter q xs else filter q xs)) (sym (weaker x is)) (omega (arith, rest))
        | false ↦ λ is. elim (q x) as (λ b. length (filter p xs) ≤ length (if b then x ∷ filter q xs else filter q xs)) [ true ↦ omega (arith, rest) | false ↦ rest ]
      ] refl

  joined : (p : X → Bool) (xs ys : List X) → length (filter p (xs ++ ys)) ≡ length (filter p xs) + length (filter p ys)
  joined p xs ys = ap length (filter-append p xs ys) ∙ length-append (filter p xs) (filter p ys)

  -- what stands behind the last beginning stands in the whole
  since_within : (begins p : X → Bool) (kept xs : List X) → length (filter p (since begins kept xs)) ≤ length (filter p kept) + length (filter p xs)
  since_within begins p kept [] = omega arith
  since_within begins p kept (x ∷ xs) =
      let one : length (filter p (x ∷ xs)) ≡ length (filter p (x ∷ [])) + length (filter p xs) = joined p (x ∷ []) xs in
      elim (begins x) as (λ b. length (filter p (since begins (if b then x ∷ [] else kept ++ x ∷ []) xs)) ≤ length (filter p kept) + length (filter p (x ∷ xs))) [
        | true ↦ let rest : length (filter p (since begins (x ∷ []) xs)) ≤ length (filter p (x ∷ [])) + length (filter p xs) = since_within begins p (x ∷ []) xs in omega (arith, one, rest)
        | false ↦
            let rest : length (filter p (since begins (kept ++ x ∷ []) xs)) ≤ length (filter p (kept ++ x ∷ [])) + length (filter p xs) = since_within begins p (kept ++ x ∷ []) xs in
            let parts : length (filter p (kept ++ x ∷ [])) ≡ length (filter p kept) + length (filter p (x ∷ [])) = joined p kept (x ∷ []) in
            omega (arith, one, rest, parts)
      ]

  -- where one begins, what stood before is gone
  since_new : (begins : X → Bool) (kept other xs : List X) → list_any begins xs ≡ true → since begins kept xs ≡ since begins other xs
  since_new begins kept other [] any = let never : false ≡ true = any in cc
  since_new begins kept other (x ∷ xs) any =
      elim (begins x) as (λ b. (b || list_any begins xs) ≡ true → since begins (if b then x ∷ [] else kept ++ x ∷ []) xs ≡ since begins (if b then x ∷ [] else other ++ x ∷ []) xs) [
        | true ↦ λ there. refl
        | false ↦ λ there. since_new begins (kept ++ x ∷ []) (other ++ x ∷ []) xs there
      ] any

  since_append : (begins : X → Bool) (kept xs ys : List X) → since begins kept (xs ++ ys) ≡ since begins (since begins kept xs) ys
  since_append begins kept [] ys = refl
  since_append begins kept (x ∷ xs) ys = since_append begins (if begins x then x ∷ [] else kept ++ x ∷ []) xs ys

  found_some : (p : X → Bool) (xs : List X) (x : X) → find p xs ≡ Some x → 1 ≤ length (filter p xs)
  found_some p [] x is = let never : None ≡ Some x = is in cc
  found_some p (y ∷ xs) x is =
      elim (p y) as (λ b. (if b then Some y else find p xs) ≡ Some x → 1 ≤ length (if b then y ∷ filter p xs else filter p xs)) [
        | true ↦ λ there. omega arith
        | false ↦ λ there. found_some p xs x there
      ] is

numbered_append : (n : ℕ) (a b : List Entry) → numbered n (a ++ b) ≡ numbered n a ++ numbered (n + length a) b
numbered_append n [] b = ap (λ (k : ℕ). numbered k b) (omega arith)
numbered_append n (e ∷ a) b =
    ap (λ (ns : List Numbered). (record { number = n; entry = e }) ∷ ns) (numbered_append (n + 1) a b ∙ ap (λ (k : ℕ). numbered (n + 1) a ++ numbered k b) (omega arith))

counted : (p : Entry → Bool) (n : ℕ) (es : List Entry) → length (filter (λ m. p m.entry) (numbered n es)) ≡ length (filter p es)
counted p n [] = refl
counted p n (e ∷ es) =
    let rest : length (filter (λ m. p m.entry) (numbered (n + 1) es)) ≡ length (filter p es) = counted p (n + 1) es in
    elim (p e) as (λ b. length (if b then (record { number = n; entry = e }) ∷ filter (λ m. p m.entry) (numbered (n + 1) es) else filter (λ m. p m.entry) (numbered (n + 1) es)) ≡ length (if b then e ∷ filter p es else filter p es)) [
      | true ↦ omega (arith, rest)
      | false ↦ rest
    ]

or_right : (a b : Bool) → b ≡ true → (a || b) ≡ true
or_right true b is = refl
or_right false b is = is

asked : (opened ask by others : Bool) → (by && ask) ≡ true → (((opened || ask) && by) || others) ≡ true
asked opened ask false others is = let never : false ≡ true = is in cc
asked opened false true others is = let never : false ≡ true = is in cc
asked true true true others is = refl
asked false true true others is = refl

-- an Ask forgets
forgotten : (m c n : ℕ) (es : List Entry) → asks_in m es ≡ true → list_any (λ k. forgets m c k.entry) (numbered n es) ≡ true
forgotten m c n [] any = let never : false ≡ true = any in cc
forgotten m c n (e ∷ es) any =
    let rest : Bool = list_any (λ k. forgets m c k.entry) (numbered (n + 1) es) in
    elim (is_by m e && is_ask e.event) as (λ b. (is_by m e && is_ask e.event) ≡ b → (b || asks_in m es) ≡ true → (forgets m c e || rest) ≡ true) [
      | true ↦ λ is there. ap (λ (b : Bool). b || rest) (asked (opens e.event) (is_ask e.event) (is_by m e) (adds c e.event || closes c e.event) is)
      | false ↦ λ is there. or_right (forgets m c e) rest (forgotten m c (n + 1) es there)
    ] refl any

module _ (whose : Option Made → Bool) (none : whose None ≡ false) where
  still_whose : (h more : List Entry) (p : ℕ) (o : Option Made) → maker_of h p ≡ o → whose o ≡ true → whose (maker_of (h ++ more) p) ≡ true
  still_whose h more p None is so = let never : false ≡ true = sym none ∙ so in cc
  still_whose h more p (Some made) is so = ap whose (still_made h more p made is) ∙ so

  still_failed : (h more : List Entry) (o : Option ℕ) → (elim o [ None ↦ false | Some p ↦ whose (maker_of h p) ]) ≡ true → (elim o [ None ↦ false | Some p ↦ whose (maker_of (h ++ more) p) ]) ≡ true
  still_failed h more None so = so
  still_failed h more (Some p) so = still_whose h more p (maker_of h p) refl so

  parts : (h more : List Entry) → failures_in whose h + length (filter (λ e. fails whose (h ++ more) e.event) more) ≤ failures_in whose (h ++ more)
  parts h more =
      let first : length (filter (λ e. fails whose h e.event) h) ≤ length (filter (λ e. fails whose (h ++ more) e.event) h) =
      more_pass (λ e. fails whose h e.event) (λ e. fails whose (h ++ more) e.event) (λ e so. still_failed h more (failed_page e.event) so) h in
      let both : length (filter (λ e. fails whose (h ++ more) e.event) (h ++ more)) ≡ length (filter (λ e. fails whose (h ++ more) e.event) h) + length (filter (λ e. fails whose (h ++ more) e.event) more) =
      joined (λ e. fails whose (h ++ more) e.event) h more in
      omega (arith, first, both)

pub failures_grow : FailuresGrow
failures_grow whose none h more = let sum = parts whose none h more in omega (arith, sum)

mapped : (f : Numbered → ℕ) (g : ℕ → ℕ) (o : Option Numbered) (j : ℕ) → option_map g (option_map f o) ≡ Some j → (n : Numbered) × (o ≡ Some n)
mapped f g None j is = let never : None ≡ Some j = is in cc
mapped f g (Some n) j is = (n, refl)

module _ (h more : List Entry) (m c : ℕ) where
  abbrev failure : Numbered → Bool
  failure n = fails (is_for_own m c) (h ++ more) n.entry.event

  abbrev window : List Numbered → List Numbered
  window ns = since (λ n. forgets m c n.entry) [] ns

  -- what is kept since an Ask in `more` stands in `more`
  window_behind : asks_in m more ≡ true → window (numbered 0 (h ++ more)) ≡ window (numbered (0 + length h) more)
  window_behind asks =
      ap window (numbered_append 0 h more) ∙ since_append (λ n. forgets m c n.entry) [] (numbered 0 h) (numbered (0 + length h) more)
      ∙ since_new (λ n. forgets m c n.entry) (window (numbered 0 h)) [] (numbered (0 + length h) more) (forgotten m c (0 + length h) more asks)

  some_behind : (j : ℕ) → option_map shown (first_failure (h ++ more) m c) ≡ Some j → asks_in m more ≡ true → 1 ≤ length (filter (λ e. fails (is_for_own m c) (h ++ more) e.event) more)
  some_behind j told asks =
      let it : (n : Numbered) × (find failure (window (numbered 0 (h ++ more))) ≡ Some n) = mapped (λ n. n.number) shown _ j told in
      let some : 1 ≤ length (filter failure (window (numbered (0 + length h) more))) =
      subst (λ (ns : List Numbered). 1 ≤ length (filter failure ns)) (window_behind asks) (found_some failure (window (numbered 0 (h ++ more))) it.0 it.1) in
      let within : length (filter failure (window (numbered (0 + length h) more))) ≤ 0 + length (filter failure (numbered (0 + length h) more)) =
      since_within (λ n. forgets m c n.entry) failure [] (numbered (0 + length h) more) in
      let count : length (filter failure (numbered (0 + length h) more)) ≡ length (filter (λ e. fails (is_for_own m c) (h ++ more) e.event) more) =
      counted (λ e. fails (is_for_own m c) (h ++ more) e.event) (0 + length h) more in
      omega (arith, some, within, count)

pub kept_failures_rose : LegalKeptFailuresRose
kept_failures_rose o h more legal m x is c j kept asks =
    let told : option_map shown (first_failure (h ++ more) m c) ≡ Some j = sym (legal_keeps_failures o (h ++ more) legal m x is c) ∙ kept in
    let some : 1 ≤ length (filter (λ e. fails (is_for_own m c) (h ++ more) e.event) more) = some_behind h more m c j told asks in
    let sum : failures_in (is_for_own m c) h + length (filter (λ e. fails (is_for_own m c) (h ++ more) e.event) more) ≤ failures_in (is_for_own m c) (h ++ more) = parts (is_for_own m c) refl h more in
    omega (arith, some, sum)
