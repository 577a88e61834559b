-- What a holder of a right makes of a list that others add to.
use Rattle.std.proofs.Common.{◌≡◌, ℕ, ◌<◌, Bool, true, false, cond, eqb, List, [], ◌∷◌, ◌++◌, filter, sym, refl, ap, ◌∙◌, arith, append-nil, eqb-true, eq-eqb}
use Rattle.turn_table.specs.Lists.{same, times, needed}
use Rattle.turn_table.specs.Knowledge.{GrewBeside}

-- an entry is an author and an amount, and needs the right of its author
abbrev Entry : Type 0
Entry = ℕ × ℕ

abbrev author : Entry → List ℕ
author e = e.0 ∷ []

abbrev own : ℕ → List Entry → List Entry
own who log = filter (λ e. eqb e.0 who) log

filter_at : (b : Bool) (e : Entry) (xs ys : List Entry) → cond b (e ∷ (xs ++ ys)) (xs ++ ys) ≡ cond b (e ∷ xs) xs ++ ys
filter_at true e xs ys = refl
filter_at false e xs ys = refl

own-append : (who : ℕ) (a b : List Entry) → own who (a ++ b) ≡ own who a ++ own who b
own-append who [] b = refl
own-append who (e ∷ es) b = ap (λ (z : List Entry). cond (eqb e.0 who) (e ∷ z) z) (own-append who es b) ∙ filter_at (eqb e.0 who) e (own who es) (own who b)

skipped : (who : ℕ) (e : Entry) (rest : List Entry) (b : Bool) → eqb e.0 who ≡ b → same who e.0 ≡ 0 → cond b (e ∷ rest) rest ≡ rest
skipped who e rest true is none = let h : same who e.0 ≡ 1 = ap (λ t. cond t 1 0) (eq-eqb who e.0 (sym (eqb-true e.0 who is))) in absurd (omega arith)
skipped who e rest false is none = refl

own_none : (who : ℕ) (log : List Entry) → needed author who log ≡ 0 → own who log ≡ []
own_none who [] none = refl
own_none who (e ∷ es) none = skipped who e (own who es) (eqb e.0 who) refl (omega arith) ∙ own_none who es (omega arith)

-- the own entries are the old ones and the new one
pub own_grew : (who amount : ℕ) (rights : List ℕ) (before now : List Entry) → 0 < times who rights → GrewBeside author rights before now
    → own who (now ++ (who, amount) ∷ []) ≡ own who before ++ (who, amount) ∷ []
own_grew who amount rights before now mine grew =
    let last : own who ((who, amount) ∷ []) ≡ (who, amount) ∷ [] = ap (λ t. cond t ((who, amount) ∷ []) []) (eq-eqb who who refl) in
    let beside : own who now ≡ own who before =
    ap (own who) grew.grew ∙ own-append who before grew.behind ∙ ap (λ (z : List Entry). own who before ++ z) (own_none who grew.behind (grew.beside who mine)) ∙ append-nil (own who before) in
    own-append who now ((who, amount) ∷ []) ∙ ap (λ (z : List Entry). z ++ own who ((who, amount) ∷ [])) beside ∙ ap (λ (z : List Entry). own who before ++ z) last
