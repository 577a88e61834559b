-- First entries of a session are all its entries in some front of the history.
use Rattle.std.proofs.Common.{◌≡◌, ℕ, List, [], ◌∷◌, ◌++◌, length, true, false, refl, ap, sym, ◌∙◌, inl, inr, arith, append_assoc, append-nil, length-append}
use Rattle.reservation_tree.proofs.Maps.{same_or_other}
use Rattle.pool_model.specs.declared.entry.Entry.{Entry}
use Rattle.pool_model.specs.LookingBack.{opens, made_by}
use Rattle.pool_model.proofs.OwnEntries.{made_by_other, made_first, made_more}
use Rattle.session_shares.proofs.Lasts.{last_or_none, without_last, by_last}

module _ (m : ℕ) (a : Entry) (first : List Entry) where
  -- a front of the history in which these are all the session's entries
  pub record Front (h : List Entry) : Type 0 where
    pub front : List Entry
    pub rest : List Entry
    pub both : h ≡ front ++ rest
    pub own : made_by front m ≡ a ∷ first

  longer : (h more : List Entry) → Front h → Front (h ++ more)
  longer h more it = record { front = it.front; rest = it.rest ++ more; both = ap (λ (g : List Entry). g ++ more) it.both ∙ append_assoc it.front it.rest more; own = it.own }

  whole : (h later : List Entry) → made_by h m ≡ a ∷ (first ++ later) → later ≡ [] → Front h
  whole h later is none = record { front = h; rest = []; both = sym (append-nil h); own = is ∙ ap (λ (es : List Entry). a ∷ (first ++ es)) none ∙ ap (λ (es : List Entry). a ∷ es) (append-nil first) }

  -- one entry alone isn't the first one and more behind it
  not_one : (e d : Entry) (init : List Entry) → e ∷ [] ≡ a ∷ (first ++ (init ++ d ∷ [])) → ⊥
  not_one e d init same =
      let long : 1 ≡ length (a ∷ (first ++ (init ++ d ∷ []))) = ap (λ (es : List Entry). length es) same in
      let one = length-append first (init ++ d ∷ []) in
      let two = length-append init (d ∷ []) in
      omega (arith, long, one, two)

  abbrev HasFront : List Entry → Type 0
  HasFront h = (later : List Entry) → made_by h m ≡ a ∷ (first ++ later) → Front h

  front_more : (h : List Entry) (e : Entry) → HasFront h → HasFront (h ++ e ∷ [])
  front_more h e before later is = elim (last_or_none later) [
    | inl none ↦ whole (h ++ e ∷ []) later is none
    | inr some ↦
        let init : List Entry = some.0 in
        let d : Entry = some.1 in
        let ends : made_by (h ++ e ∷ []) m ≡ a ∷ (first ++ (init ++ d ∷ [])) = is ∙ ap (λ (es : List Entry). a ∷ (first ++ es)) some.2 in
        elim (same_or_other e.maker m) [
          | inr other ↦ longer h (e ∷ []) (before later (sym (made_by_other h e m other) ∙ is))
          | inl own ↦ elim (opens e.event) as (λ b. opens e.event ≡ b → Front (h ++ e ∷ [])) [
            | true ↦ λ new. absurd (not_one e d init (sym (made_first h e m own new) ∙ ends))
            | false ↦ λ old.
                let pushed : made_by h m ++ e ∷ [] ≡ (a ∷ (first ++ init)) ++ d ∷ [] = sym (made_more h e m own old) ∙ ends ∙ ap (λ (es : List Entry). a ∷ es) (sym (append_assoc first init (d ∷ []))) in
                longer h (e ∷ []) (before init (without_last (made_by h m) (a ∷ (first ++ init)) e d pushed))
          ] refl
        ]
  ]

  pub has_front : (h : List Entry) → HasFront h
  has_front = by_last HasFront front_more (λ later is. let never : [] ≡ a ∷ (first ++ later) = is in cc)
