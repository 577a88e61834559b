-- The last time of a page, when a history grows by an entry.
use Rattle.std.proofs.Common.{◌≡◌, ℕ, ◌+◌, ◌<◌, Bool, true, false, if◌then◌else◌, cond, Option, Some, None, IsSome, option_map, List, [], ◌∷◌, ◌++◌, length, filter, refl, ap, sym, ◌∙◌, arith}
use Rattle.std.proofs.lemmas.List.{append-nil, length-append}
use Rattle.std.proofs.lemmas.List.Elements.{filter-append}
use Rattle.pool_model.specs.declared.event.Event.{Event}
use Rattle.pool_model.specs.declared.entry.Entry.{Entry}
use Rattle.pool_model.specs.LookingBack.{Numbered, numbered, last_of}
use Rattle.pool_model.specs.Orders.{is_page, last_time, IsBefore}
use Rattle.pool_model.proofs.Windows.{numbered_more}

last_is_last : {X : Type 0} (o : Option X) (xs : List X) (y : X) → last_of o (xs ++ y ∷ []) ≡ Some y
last_is_last o [] y = refl
last_is_last o (x ∷ xs) y = last_is_last (Some x) xs y

module _ (which : Event → Option ℕ) (h : List Entry) (e : Entry) (p : ℕ) where
  by_case : (b : Bool) → option_map (λ n. n.number) (last_of None (filter (λ n. is_page p (which n.entry.event)) (numbered 0 h) ++ cond b (record { number = length h; entry = e } ∷ []) []))
      ≡ (if b then Some (length h) else last_time which h p)
  by_case true = ap (option_map (λ n. n.number)) (last_is_last None (filter (λ n. is_page p (which n.entry.event)) (numbered 0 h)) (record { number = length h; entry = e }))
  by_case false = ap (λ (ns : List Numbered). option_map (λ n. n.number) (last_of None ns)) (append-nil (filter (λ n. is_page p (which n.entry.event)) (numbered 0 h)))

  pub last_time_more : (b : Bool) → is_page p (which e.event) ≡ b → last_time which (h ++ e ∷ []) p ≡ (if b then Some (length h) else last_time which h p)
  last_time_more b is =
      let same : 0 + length h ≡ length h = omega arith in
      let y : Numbered = record { number = length h; entry = e } in
      let picks : Numbered → Bool = λ n. is_page p (which n.entry.event) in
      let split : filter picks (numbered 0 (h ++ e ∷ [])) ≡ filter picks (numbered 0 h) ++ filter picks (y ∷ []) =
      ap (filter picks) (numbered_more 0 h e ∙ ap (λ (n : ℕ). numbered 0 h ++ record { number = n; entry = e } ∷ []) same) ∙ filter-append picks (numbered 0 h) (y ∷ []) in
      ap (λ (ns : List Numbered). option_map (λ n. n.number) (last_of None ns)) (split ∙ ap (λ c. filter picks (numbered 0 h) ++ cond c (y ∷ []) []) is)
      ∙ by_case b

-- all times are below the number of the next entry
abbrev pub AreBelow : (Event → Option ℕ) → List Entry → Type 0
AreBelow which h = (p i : ℕ) → last_time which h p ≡ Some i → i < length h

pub below_more : (which : Event → Option ℕ) (h : List Entry) (e : Entry) → AreBelow which h → AreBelow which (h ++ e ∷ [])
below_more which h e below p i is =
    let more : length (h ++ e ∷ []) ≡ length h + 1 = length-append h (e ∷ []) in
    elim (is_page p (which e.event)) as (λ b. is_page p (which e.event) ≡ b → i < length (h ++ e ∷ [])) [
      | true ↦ λ at.
          let now : Some (length h) ≡ Some i = sym (last_time_more which h e p true at) ∙ is in
          let same : length h ≡ i = ap (λ (o : Option ℕ). elim o [ None ↦ 0 | Some n ↦ n ]) now in
          omega (arith, more, same)
      | false ↦ λ at.
          let old : i < length h = below p i (sym (last_time_more which h e p false at) ∙ is) in
          omega (arith, more, old)
    ] refl

-- so a time that is there is before the next
pub before_next : (which : Event → Option ℕ) (h : List Entry) → AreBelow which h → (p : ℕ) (o : Option ℕ) → last_time which h p ≡ o → IsSome o → IsBefore o (Some (length h))
before_next which h below p None is some = let no : false ≡ true = some in cc
before_next which h below p (Some i) is some = below p i is
