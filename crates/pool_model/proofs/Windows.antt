-- The first failure that a history tells, when it grows by an entry.
use Rattle.std.proofs.Common.{◌≡◌, ℕ, suc, ◌+◌, Bool, true, false, cond, if◌then◌else◌, Option, Some, None, option_map, List, [], ◌∷◌, ◌++◌, length, find, refl, ap, ◌∙◌, arith}
use Rattle.std.specs.Option.{option_or}
use Rattle.std.proofs.lemmas.List.Folds.{find-append}
use Rattle.pool_model.specs.declared.entry.Entry.{Entry}
use Rattle.pool_model.specs.LookingBack.{since, Numbered, numbered}
use Rattle.pool_model.specs.Failures.{fails, is_for_own, forgets, first_failed}

pub numbered_more : (k : ℕ) (h : List Entry) (e : Entry) → numbered k (h ++ e ∷ []) ≡ numbered k h ++ record { number = k + length h; entry = e } ∷ []
numbered_more k [] e = let same : k ≡ k + 0 = omega arith in ap (λ (n : ℕ). record { number = n; entry = e } ∷ []) same
numbered_more k (d ∷ h) e =
    let same : (k + 1) + length h ≡ k + suc (length h) = omega arith in
    ap (λ (ns : List Numbered). record { number = k; entry = d } ∷ ns)
    (numbered_more (k + 1) h e ∙ ap (λ (n : ℕ). numbered (k + 1) h ++ record { number = n; entry = e } ∷ []) same)

pub since_more : {X : Type 0} (begins : X → Bool) (kept xs : List X) (y : X) → since begins kept (xs ++ y ∷ []) ≡ (if begins y then y ∷ [] else since begins kept xs ++ y ∷ [])
since_more begins kept [] y = refl
since_more begins kept (x ∷ xs) y = since_more begins (if begins x then x ∷ [] else kept ++ x ∷ []) xs y

one_found : (test : Numbered → Bool) (y : Numbered) (b : Bool) → test y ≡ b → option_map (λ n. n.number) (find test (y ∷ [])) ≡ (if b then Some y.number else None)
one_found test y true is = ap (λ (b : Bool). option_map (λ n. n.number) (cond b (Some y) None)) is
one_found test y false is = ap (λ (b : Bool). option_map (λ n. n.number) (cond b (Some y) None)) is

map_or : (a b : Option Numbered) → option_map (λ n. n.number) (option_or a b) ≡ option_or (option_map (λ n. n.number) a) (option_map (λ n. n.number) b)
map_or None b = refl
map_or (Some x) b = refl

or_none : (o : Option ℕ) → option_or o None ≡ o
or_none None = refl
or_none (Some x) = refl

module _ (all : List Entry) (m c : ℕ) where
  -- the first failure of the entries so far, as the whole history tells of pages
  abbrev pub first_by : List Entry → Option ℕ
  first_by h = first_failed all m c (since (λ n. forgets m c n.entry) [] (numbered 0 h))

  module _ (h : List Entry) (e : Entry) where
    grown : first_by (h ++ e ∷ []) ≡ first_failed all m c (if forgets m c e then record { number = length h; entry = e } ∷ [] else since (λ n. forgets m c n.entry) [] (numbered 0 h) ++ record { number = length h; entry = e } ∷ [])
    grown =
        let same : 0 + length h ≡ length h = omega arith in
        ap (λ (ns : List Numbered). first_failed all m c (since (λ n. forgets m c n.entry) [] ns))
        (numbered_more 0 h e ∙ ap (λ (n : ℕ). numbered 0 h ++ record { number = n; entry = e } ∷ []) same)
        ∙ ap (first_failed all m c) (since_more (λ n. forgets m c n.entry) [] (numbered 0 h) (record { number = length h; entry = e }))

    pub forgotten : forgets m c e ≡ true → fails (is_for_own m c) all e.event ≡ false → first_by (h ++ e ∷ []) ≡ None
    forgotten starts no_failure =
        grown ∙ ap (λ (b : Bool). first_failed all m c (if b then record { number = length h; entry = e } ∷ [] else since (λ n. forgets m c n.entry) [] (numbered 0 h) ++ record { number = length h; entry = e } ∷ [])) starts
        ∙ one_found (λ n. fails (is_for_own m c) all n.entry.event) (record { number = length h; entry = e }) false no_failure

    appended : (b : Bool) → forgets m c e ≡ false → fails (is_for_own m c) all e.event ≡ b → first_by (h ++ e ∷ []) ≡ option_or (first_by h) (if b then Some (length h) else None)
    appended b goes_on is =
        grown ∙ ap (λ (b : Bool). first_failed all m c (if b then record { number = length h; entry = e } ∷ [] else since (λ n. forgets m c n.entry) [] (numbered 0 h) ++ record { number = length h; entry = e } ∷ [])) goes_on
        ∙ ap (option_map (λ n. n.number)) (find-append (λ n. fails (is_for_own m c) all n.entry.event) (since (λ n. forgets m c n.entry) [] (numbered 0 h)) (record { number = length h; entry = e } ∷ []))
        ∙ map_or (find (λ n. fails (is_for_own m c) all n.entry.event) (since (λ n. forgets m c n.entry) [] (numbered 0 h))) _
        ∙ ap (option_or (first_by h)) (one_found (λ n. fails (is_for_own m c) all n.entry.event) (record { number = length h; entry = e }) b is)

    pub quiet : forgets m c e ≡ false → fails (is_for_own m c) all e.event ≡ false → first_by (h ++ e ∷ []) ≡ first_by h
    quiet goes_on no_failure = appended false goes_on no_failure ∙ or_none (first_by h)

    pub failed : forgets m c e ≡ false → fails (is_for_own m c) all e.event ≡ true → first_by (h ++ e ∷ []) ≡ option_or (first_by h) (Some (length h))
    failed goes_on failure = appended true goes_on failure
