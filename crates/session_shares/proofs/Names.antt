-- All pages of a legal history were made by its sessions.
use Rattle.std.proofs.Common.{◌≡◌, ℕ, ◌+◌, ◌≤◌, ◌<◌, ◌==◌, ◌||◌, true, false, cond, Option, Some, None, List, [], ◌∷◌, ◌++◌, length, refl, ap, sym, arith, eq-eqb}
use Rattle.std.specs.List.{filter, list_any, sum_by, cons_option}
use Rattle.std.proofs.Math.Path.{fun_ext}
use Rattle.std.proofs.lemmas.Bool.{eqb-true}
use Rattle.std.proofs.lemmas.List.Sums.{sum_by-cons}
use Rattle.pool_model.specs.declared.event.Event.{Event}
use Rattle.pool_model.specs.declared.event.Event.TheVariants.{Create}
use Rattle.pool_model.specs.declared.entry.Entry.{Entry}
use Rattle.pool_model.specs.Bytes.{only_if}
use Rattle.pool_model.specs.State.{State, opened}
use Rattle.pool_model.specs.LookingBack.{is_by, name_in, names_in}
use Rattle.pool_model.specs.MayFollow.{Makes}
use Rattle.pool_model.specs.Effects.{after}
use Rattle.pool_model.specs.Legal.{Follow}
use Rattle.pool_model.proofs.Weights.{only_when}
use Rattle.session_shares.specs.Shares.{AreAmong, NamesFit}
use Rattle.session_shares.proofs.Parts.{both_sums}

-- how many names these are
abbrev many : Option ℕ → ℕ
many None = 0
many (Some p) = 1

one_more : (name : Option ℕ) (names : List ℕ) → length (cons_option name names) ≡ many name + length names
one_more None names = omega arith
one_more (Some p) names = omega arith

-- how many pages this maker made
abbrev made : List Entry → ℕ → ℕ
made es m = length (names_in (filter (is_by m) es))

-- one more entry counts for its maker alone
made_more : (e : Entry) (es : List Entry) (m : ℕ) → made (e ∷ es) m ≡ only_if (e.maker == m) (many (name_in e.event)) + made es m
made_more e es m = elim (e.maker == m) as (λ b. length (names_in (cond b (e ∷ filter (is_by m) es) (filter (is_by m) es))) ≡ only_if b (many (name_in e.event)) + made es m) [
  | true ↦ one_more (name_in e.event) (names_in (filter (is_by m) es))
  | false ↦ omega arith
]

-- what counts for a maker among these counts in their sum
counts : (maker n : ℕ) (ms : List ℕ) → list_any (λ m. m == maker) ms ≡ true → n ≤ sum_by (λ m. only_if (maker == m) n) ms
counts maker n [] among = let never : false ≡ true = among in cc
counts maker n (m ∷ ms) among =
    let both = sum_by-cons (λ (k : ℕ). only_if (maker == k) n) m ms in
    elim (m == maker) as (λ b. (m == maker) ≡ b → (b || list_any (λ k. k == maker) ms) ≡ true → n ≤ sum_by (λ k. only_if (maker == k) n) (m ∷ ms)) [
      | true ↦ λ is _.
          let first : only_if (maker == m) n ≡ n = only_when (maker == m) n (eq-eqb maker m (sym (eqb-true m maker is))) in
          omega (arith, both, first)
      | false ↦ λ _ behind. let rest = counts maker n ms behind in omega (arith, both, rest)
    ] refl among

module _ (ms : List ℕ) where
  -- only sessions make pages
  by_one : (maker : ℕ) (event : Event) → Makes maker event → (maker < 240 → list_any (λ m. m == maker) ms ≡ true)
      → many (name_in event) ≤ sum_by (λ m. only_if (maker == m) (many (name_in event))) ms
  by_one maker (Create p client blocks key) session among = counts maker 1 ms (among session)
  by_one maker _ makes among = omega arith

  by_all : (before : List Entry) (s : State) (es : List Entry) → Follow before s es → AreAmong ms es → length (names_in es) ≤ sum_by (made es) ms
  by_all before s [] follow among = omega arith
  by_all before s (e ∷ es) follow among =
      let each : sum_by (made (e ∷ es)) ms ≡ sum_by (λ m. only_if (e.maker == m) (many (name_in e.event)) + made es m) ms = ap (λ (f : ℕ → ℕ). sum_by f ms) (fun_ext (made_more e es)) in
      let split = both_sums (λ (m : ℕ). only_if (e.maker == m) (many (name_in e.event))) (made es) ms in
      let first = by_one e.maker e.event follow.0.makes among.0 in
      let rest = by_all (before ++ e ∷ []) (after s e) es follow.1 among.1 in
      let all = one_more (name_in e.event) (names_in es) in
      omega (arith, each, split, first, rest, all)

pub names_fit : NamesFit
names_fit o h ms legal among = by_all ms [] (opened o) h legal among
