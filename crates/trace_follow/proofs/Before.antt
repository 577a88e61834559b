-- What a history tells of calls and failed reads, when it grows by an entry.
use Rattle.std.proofs.Common.{◌≡◌, ◌≢◌, ℕ, ◌+◌, Bool, true, false, ◌&&◌, ◌||◌, if◌then◌else◌, Option, Some, None, option_map, List, [], ◌∷◌, ◌++◌, length, filter, refl, ap, ◌∙◌, arith, inl, inr}
use Rattle.std.specs.List.{list_any}
use Rattle.std.proofs.lemmas.List.{append-nil}
use Rattle.std.proofs.lemmas.List.Elements.{filter-append}
use Rattle.reservation_tree.proofs.Maps.{same_or_other}
use Rattle.pool_model.specs.declared.entry.Entry.{Entry}
use Rattle.pool_model.specs.LookingBack.{since, last_of, Numbered, numbered, opens, is_ask, is_by, made_by}
use Rattle.pool_model.specs.Failures.{fails_read, last_failed_read}
use Rattle.pool_model.proofs.Windows.{numbered_more, since_more}
use Rattle.pool_model.proofs.OwnEntries.{made_by_other, made_more, made_first}

-- whether the session has made a call
abbrev pub asks : List Entry → ℕ → Bool
asks h m = list_any (λ e. is_ask e.event) (made_by h m)

any_more : (es : List Entry) (e : Entry) → list_any (λ d. is_ask d.event) (es ++ e ∷ []) ≡ list_any (λ d. is_ask d.event) es || is_ask e.event
any_more [] e = elim (is_ask e.event) as (λ b. (b || false) ≡ b) [ true ↦ refl | false ↦ refl ]
any_more (d ∷ es) e = elim (is_ask d.event) as (λ b. (b || list_any (λ d. is_ask d.event) (es ++ e ∷ [])) ≡ ((b || list_any (λ d. is_ask d.event) es) || is_ask e.event)) [
  | true ↦ refl
  | false ↦ any_more es e
]

or_false : (b : Bool) → (b || false) ≡ b
or_false true = refl
or_false false = refl

or_true : (b : Bool) → (b || true) ≡ true
or_true true = refl
or_true false = refl

module _ (h : List Entry) (e : Entry) where
  pub asks_other : (m : ℕ) → e.maker ≢ m → asks (h ++ e ∷ []) m ≡ asks h m
  asks_other m other = ap (list_any (λ d. is_ask d.event)) (made_by_other h e m other)

  pub asks_same : opens e.event ≡ false → is_ask e.event ≡ false → (m : ℕ) → asks (h ++ e ∷ []) m ≡ asks h m
  asks_same old no_call m = elim (same_or_other e.maker m) [
    | inl own ↦ ap (list_any (λ d. is_ask d.event)) (made_more h e m own old) ∙ any_more (made_by h m) e ∙ ap (λ (b : Bool). asks h m || b) no_call ∙ or_false (asks h m)
    | inr other ↦ asks_other m other
  ]

  pub asks_now : opens e.event ≡ false → is_ask e.event ≡ true → asks (h ++ e ∷ []) e.maker ≡ true
  asks_now old call = ap (list_any (λ d. is_ask d.event)) (made_more h e e.maker refl old) ∙ any_more (made_by h e.maker) e ∙ ap (λ (b : Bool). asks h e.maker || b) call ∙ or_true (asks h e.maker)

  pub asks_anew : opens e.event ≡ true → is_ask e.event ≡ false → asks (h ++ e ∷ []) e.maker ≡ false
  asks_anew new no_call = ap (list_any (λ d. is_ask d.event)) (made_first h e e.maker refl new) ∙ ap (λ (b : Bool). b || false) no_call

  module _ (m p : ℕ) where
    grown : last_failed_read (h ++ e ∷ []) m p
        ≡ option_map (λ n. n.number) (last_of None (filter (λ n. is_by m n.entry && fails_read p n.entry.event) (if is_by m e && is_ask e.event then record { number = length h; entry = e } ∷ [] else since (λ n. is_by m n.entry && is_ask n.entry.event) [] (numbered 0 h) ++ record { number = length h; entry = e } ∷ [])))
    grown =
        let same : 0 + length h ≡ length h = omega arith in
        ap (λ (ns : List Numbered). option_map (λ n. n.number) (last_of None (filter (λ n. is_by m n.entry && fails_read p n.entry.event) (since (λ n. is_by m n.entry && is_ask n.entry.event) [] ns))))
        (numbered_more 0 h e ∙ ap (λ (n : ℕ). numbered 0 h ++ record { number = n; entry = e } ∷ []) same)
        ∙ ap (λ (ns : List Numbered). option_map (λ n. n.number) (last_of None (filter (λ n. is_by m n.entry && fails_read p n.entry.event) ns))) (since_more (λ n. is_by m n.entry && is_ask n.entry.event) [] (numbered 0 h) (record { number = length h; entry = e }))

    last_pushed : (o : Option Numbered) (ns : List Numbered) (y : Numbered) → last_of o (ns ++ y ∷ []) ≡ Some y
    last_pushed o [] y = refl
    last_pushed o (n ∷ ns) y = last_pushed (Some n) ns y

    going_on : (is_by m e && is_ask e.event) ≡ false → (b : Bool) → (is_by m e && fails_read p e.event) ≡ b
        → last_failed_read (h ++ e ∷ []) m p ≡ option_map (λ n. n.number) (last_of None (filter (λ n. is_by m n.entry && fails_read p n.entry.event) (since (λ n. is_by m n.entry && is_ask n.entry.event) [] (numbered 0 h)) ++ (if b then record { number = length h; entry = e } ∷ [] else [])))
    going_on on b is =
        grown ∙ ap (λ (c : Bool). option_map (λ n. n.number) (last_of None (filter (λ n. is_by m n.entry && fails_read p n.entry.event) (if c then record { number = length h; entry = e } ∷ [] else since (λ n. is_by m n.entry && is_ask n.entry.event) [] (numbered 0 h) ++ record { number = length h; entry = e } ∷ [])))) on
        ∙ ap (λ (ns : List Numbered). option_map (λ n. n.number) (last_of None ns)) (filter-append (λ n. is_by m n.entry && fails_read p n.entry.event) (since (λ n. is_by m n.entry && is_ask n.entry.event) [] (numbered 0 h)) (record { number = length h; entry = e } ∷ []))
        ∙ ap (λ (c : Bool). option_map (λ n. n.number) (last_of None (filter (λ n. is_by m n.entry && fails_read p n.entry.event) (since (λ n. is_by m n.entry && is_ask n.entry.event) [] (numbered 0 h)) ++ (if c then record { number = length h; entry = e } ∷ [] else [])))) is

    pub reads_same : (is_by m e && is_ask e.event) ≡ false → (is_by m e && fails_read p e.event) ≡ false → last_failed_read (h ++ e ∷ []) m p ≡ last_failed_read h m p
    reads_same on quiet = going_on on false quiet ∙ ap (λ (ns : List Numbered). option_map (λ n. n.number) (last_of None ns)) (append-nil (filter (λ n. is_by m n.entry && fails_read p n.entry.event) (since (λ n. is_by m n.entry && is_ask n.entry.event) [] (numbered 0 h))))

    pub reads_now : (is_by m e && is_ask e.event) ≡ false → (is_by m e && fails_read p e.event) ≡ true → last_failed_read (h ++ e ∷ []) m p ≡ Some (length h)
    reads_now on failure = going_on on true failure ∙ ap (option_map (λ n. n.number)) (last_pushed None (filter (λ n. is_by m n.entry && fails_read p n.entry.event) (since (λ n. is_by m n.entry && is_ask n.entry.event) [] (numbered 0 h))) (record { number = length h; entry = e }))

    pub reads_none : (is_by m e && is_ask e.event) ≡ true → (is_by m e && fails_read p e.event) ≡ false → last_failed_read (h ++ e ∷ []) m p ≡ None
    reads_none anew quiet =
        grown ∙ ap (λ (c : Bool). option_map (λ n. n.number) (last_of None (filter (λ n. is_by m n.entry && fails_read p n.entry.event) (if c then record { number = length h; entry = e } ∷ [] else since (λ n. is_by m n.entry && is_ask n.entry.event) [] (numbered 0 h) ++ record { number = length h; entry = e } ∷ [])))) anew
        ∙ ap (λ (c : Bool). option_map {T = Numbered} (λ n. n.number) (last_of None (if c then record { number = length h; entry = e } ∷ [] else []))) quiet
