-- The failures of a session's pages are among all failures that its pool's history tells.
use Rattle.std.proofs.Common.{◌≡◌, ◌+◌, ◌++◌, ℕ, ◌≤◌, Bool, true, false, if◌then◌else◌, List, [], ◌∷◌, length, length-append, filter, None, Some, refl, sym, ap, ◌∙◌, arith}
use Rattle.std.proofs.lemmas.Bool.{false≢true}
use Rattle.std.proofs.lemmas.List.Elements.{filter-append}
use Rattle.pool_model.specs.declared.entry.Entry.{Entry}
use Rattle.pool_model.specs.declared.event.Event.{Event}
use Rattle.pool_model.specs.LookingBack.{maker_of}
use Rattle.pool_model.specs.Failures.{failed_page, fails, is_own}
use Rattle.pool_model.specs.State.{Opening}
use Rattle.pin_core.specs.Tallies.{all_failures}
use Rattle.session_calls.specs.Told.{signs_in}

fewer : (p q : Entry → Bool) (es : List Entry) → ((e : Entry) → p e ≡ true → q e ≡ true) → length (filter p es) ≤ length (filter q es)
fewer p q [] within = omega arith
fewer p q (e ∷ es) within =
    let rest = fewer p q es within in
    elim (p e) as (λ b. p e ≡ b → length (if b then e ∷ filter p es else filter p es) ≤ length (if q e then e ∷ filter q es else filter q es)) [
      | true ↦ λ is. elim (q e) as (λ a. q e ≡ a → length (e ∷ filter p es) ≤ length (if a then e ∷ filter q es else filter q es)) [
        | true ↦ λ at. omega (arith, rest)
        | false ↦ λ at. absurd (false≢true (sym at ∙ within e is))
      ] refl
      | false ↦ λ is. elim (q e) as (λ a. length (filter p es) ≤ length (if a then e ∷ filter q es else filter q es)) [
        | true ↦ omega (arith, rest)
        | false ↦ rest
      ]
    ] refl

of_any : (m : ℕ) (h g : List Entry) (e : Event) → fails (is_own m) h e ≡ true → fails (λ made. true) g e ≡ true
of_any m h g e = elim (failed_page e) as (λ o. (elim o [ None ↦ false | Some p ↦ is_own m (maker_of h p) ]) ≡ true → (elim o [ None ↦ false | Some p ↦ true ]) ≡ true) [
  | None ↦ λ is. is
  | Some p ↦ λ is. refl
]

-- a session shows no more failures than its pool's history tells later
pub failures_told : (o : Opening) (m : ℕ) (h behind whole : List Entry) → whole ≡ h ++ behind → (signs_in o m h).failures ≤ all_failures whole
unfolding signs_in
failures_told o m h behind whole is =
    let its : Entry → Bool = λ e. fails (is_own m) h e.event in
    let any : Entry → Bool = λ e. fails (λ made. true) whole e.event in
    let front : length (filter its h) ≤ length (filter any h) = fewer its any h (λ e. of_any m h whole e.event) in
    let all : length (filter any whole) ≡ length (filter any h) + length (filter any behind) =
    ap (λ (g : List Entry). length (filter any g)) is ∙ ap length (filter-append any h behind) ∙ length-append (filter any h) (filter any behind) in
    omega (arith, front, all)
