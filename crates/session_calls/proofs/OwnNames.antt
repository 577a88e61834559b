-- The names that a maker's own entries gave are names of the history.
use Rattle.std.proofs.Common.{ℕ, List, [], ◌∷◌, ◌++◌, Bool, true, false, ◌&&◌, if◌then◌else◌, Some, None, IfSome, All}
use Rattle.std.proofs.lemmas.List.Elements.{All-from_recursion, recursion_from_All, All-nil, All-cons, All-head, All-tail, All-push, All-filter}
use Rattle.std.specs.List.{AllByRecursion, cons_option}
use Rattle.pool_model.specs.declared.entry.Entry.{Entry}
use Rattle.pool_model.specs.LookingBack.{since, opens, is_by, made_by, name_in, names_in}

-- the last one that begins and all behind it are some of all
since_all : {X : Type 0} (P : X → Type 0) (begins : X → Bool) (kept xs : List X) → All P kept → All P xs → All P (since begins kept xs)
since_all P begins kept [] before all = before
since_all P begins kept (x ∷ xs) before all = elim (begins x) as (λ b. All P (since begins (if b then x ∷ [] else kept ++ x ∷ []) xs)) [
  | true ↦ since_all P begins (x ∷ []) xs (All-cons P x [] (All-head P x xs all) (All-nil P)) (All-tail P x xs all)
  | false ↦ since_all P begins (kept ++ x ∷ []) xs (All-push P kept x before (All-head P x xs all)) (All-tail P x xs all)
]

module _ (P : ℕ → Type 0) where
  -- of the name that an entry gives, if it does
  abbrev IsNamed : Entry → Type 0
  IsNamed e = IfSome (name_in e.event) P

  each_named : (h : List Entry) → AllByRecursion P (names_in h) → AllByRecursion IsNamed h
  each_named [] all = tt
  each_named (e ∷ h) all =
      elim (name_in e.event) as (λ o. AllByRecursion P (cons_option o (names_in h)) → IfSome o P × AllByRecursion IsNamed h) [
        | None ↦ λ them. (tt, each_named h them)
        | Some p ↦ λ them. (them.0, each_named h them.1)
      ] all

  all_names : (h : List Entry) → AllByRecursion IsNamed h → AllByRecursion P (names_in h)
  all_names [] all = tt
  all_names (e ∷ h) all =
      elim (name_in e.event) as (λ o. IfSome o P → AllByRecursion P (cons_option o (names_in h))) [
        | None ↦ λ it. all_names h all.1
        | Some p ↦ λ it. (it, all_names h all.1)
      ] all.0

  -- what holds of all names holds of those
  pub own_names : (m : ℕ) (h : List Entry) → AllByRecursion P (names_in h) → All P (names_in (made_by h m))
  own_names m h all =
      let each : All IsNamed h = All-from_recursion IsNamed h (each_named h all) in
      let last : List Entry = since (λ e. is_by m e && opens e.event) [] h in
      let own : All IsNamed (made_by h m) = All-filter (is_by m) IsNamed last (since_all IsNamed (λ e. is_by m e && opens e.event) [] h (All-nil IsNamed) each) in
      All-from_recursion P (names_in (made_by h m)) (all_names (made_by h m) (recursion_from_All IsNamed (made_by h m) own))
