-- Failures of the pages of a session, and of those of one of its clients.
use Rattle.std.proofs.Common.{◌≡◌, ℕ, ◌+◌, ◌<◌, ◌≤◌, ◌==◌, ◌&&◌, Bool, true, false, not, if◌then◌else◌, List, [], ◌∷◌, ◌++◌, length, filter, Option, Some, None, refl, sym, ap, ◌∙◌, arith}
use Rattle.std.proofs.lemmas.Bool.{false≢true, and_parts}
use Rattle.std.specs.FinMap.{get}
use Rattle.std.specs.Option.{option_and_then}
use Rattle.pool_model.specs.declared.event.Event.{Event}
use Rattle.pool_model.specs.declared.entry.Entry.{Entry}
use Rattle.pool_model.specs.State.{Opening, Session, State}
use Rattle.pool_model.specs.LookingBack.{maker_of, Made}
use Rattle.pool_model.specs.Failures.{is_own, is_for_own, failures_in, fails, failed_page, asks_in}
use Rattle.pool_model.specs.Legal.{state_after, IsLegal}
use Rattle.pool_model.proofs.Rising.{kept_failures_rose, failures_grow}
use Rattle.pin_core.specs.calls.Turns.{failure_of}
use Rattle.store_api.specs.Holdings.{Holdings}
use Rattle.session_calls.proofs.Known.{KnownTo}

-- some failures and the others are all
split_count : (p q : Entry → Bool) (es : List Entry) → ((e : Entry) → q e ≡ true → p e ≡ true) → length (filter p es) ≡ length (filter q es) + length (filter (λ e. p e && not (q e)) es)
split_count p q [] below = refl
split_count p q (e ∷ es) below =
    let rest = split_count p q es below in
    elim (q e) as (λ b. q e ≡ b → length (filter p (e ∷ es)) ≡ length (if b then e ∷ filter q es else filter q es) + length (if p e && not b then e ∷ filter (λ d. p d && not (q d)) es else filter (λ d. p d && not (q d)) es)) [
      | true ↦ λ is. elim (p e) as (λ a. p e ≡ a → length (if a then e ∷ filter p es else filter p es) ≡ length (e ∷ filter q es) + length (if a && false then e ∷ filter (λ d. p d && not (q d)) es else filter (λ d. p d && not (q d)) es)) [
        | true ↦ λ at. omega (arith, rest)
        | false ↦ λ at. absurd (false≢true (sym at ∙ below e is))
      ] refl
      | false ↦ λ is. elim (p e) as (λ a. length (if a then e ∷ filter p es else filter p es) ≡ length (filter q es) + length (if a && true then e ∷ filter (λ d. p d && not (q d)) es else filter (λ d. p d && not (q d)) es)) [
        | true ↦ omega (arith, rest)
        | false ↦ rest
      ]
    ] refl

others_of : ℕ → ℕ → Option Made → Bool
others_of m c o = is_own m o && not (is_for_own m c o)

fails_apart : (m c : ℕ) (h : List Entry) (e : Event) → (fails (is_own m) h e && not (fails (is_for_own m c) h e)) ≡ fails (others_of m c) h e
unfolding others_of
fails_apart m c h e = elim (failed_page e) as (λ o. ((elim o [ None ↦ false | Some p ↦ is_own m (maker_of h p) ]) && not (elim o [ None ↦ false | Some p ↦ is_for_own m c (maker_of h p) ])) ≡ (elim o [ None ↦ false | Some p ↦ others_of m c (maker_of h p) ])) [
  | None ↦ refl
  | Some p ↦ refl
]

own_first : (m c : ℕ) (o : Option Made) → is_for_own m c o ≡ true → is_own m o ≡ true
own_first m c None is = is
own_first m c (Some made) is = (and_parts (made.session == m) (made.client == c) is).0

own_fails : (m c : ℕ) (h : List Entry) (e : Event) → fails (is_for_own m c) h e ≡ true → fails (is_own m) h e ≡ true
own_fails m c h e = elim (failed_page e) as (λ o. (elim o [ None ↦ false | Some p ↦ is_for_own m c (maker_of h p) ]) ≡ true → (elim o [ None ↦ false | Some p ↦ is_own m (maker_of h p) ]) ≡ true) [
  | None ↦ λ is. is
  | Some p ↦ λ is. own_first m c (maker_of h p) is
]

same_filter : (p q : Entry → Bool) (es : List Entry) → ((e : Entry) → p e ≡ q e) → filter p es ≡ filter q es
same_filter p q [] same = refl
same_filter p q (e ∷ es) same = ap (λ (b : Bool). if b then e ∷ filter p es else filter p es) (same e) ∙ ap (λ (r : List Entry). if q e then e ∷ r else r) (same_filter p q es same)

split_failures : (m c : ℕ) (h : List Entry) → failures_in (is_own m) h ≡ failures_in (is_for_own m c) h + failures_in (others_of m c) h
split_failures m c h =
    split_count (λ e. fails (is_own m) h e.event) (λ e. fails (is_for_own m c) h e.event) h (λ e. own_fails m c h e.event)
    ∙ ap (λ (es : List Entry). failures_in (is_for_own m c) h + length es) (same_filter _ (λ e. fails (others_of m c) h e.event) h (λ e. fails_apart m c h e.event))

-- failures of one client are failures of the session
pub more_in_all : (m c : ℕ) (h more : List Entry) → failures_in (is_for_own m c) h < failures_in (is_for_own m c) (h ++ more) → failures_in (is_own m) h < failures_in (is_own m) (h ++ more)
unfolding others_of
more_in_all m c h more rose =
    let before = split_failures m c h in
    let now = split_failures m c (h ++ more) in
    let others : failures_in (others_of m c) h ≤ failures_in (others_of m c) (h ++ more) = failures_grow (others_of m c) refl h more in
    omega (arith, rose, before, now, others)

-- a failure that is kept of a client since the session asked was counted since, for the client and in all
module _ {left : ℕ → List ℕ} {s : State} {m : ℕ} {h : Holdings} (k : KnownTo left s m h) (o : Opening) (before more : List Entry) (legal : IsLegal o (before ++ more)) (same : s ≡ state_after o (before ++ more)) (c j : ℕ)
    (failed : failure_of s m c ≡ Some j) (asked : asks_in m more ≡ true) where
  pub rose_for : failures_in (is_for_own m c) before < failures_in (is_for_own m c) (before ++ more)
  rose_for =
      let kept : get k.session.failures c ≡ Some j = ap (λ (z : Option Session). option_and_then (λ y. get y.failures c) z) (sym k.lives) ∙ failed in
      kept_failures_rose o before more legal m k.session (ap (λ (z : State). get z.sessions m) (sym same) ∙ k.lives) c j kept asked

  pub rose_in_all : failures_in (is_own m) before < failures_in (is_own m) (before ++ more)
  rose_in_all = more_in_all m c before more rose_for
