-- Lists of entries beside their authors.
use Rattle.std.proofs.Common.{◌≡◌, ℕ, ◌≤◌, ◌≢◌, Bool, true, false, cond, eqb, List, [], ◌∷◌, ◌++◌, length, sym, refl, ap, ◌∙◌, arith, eq-eqb, ne_eqb}
use Rattle.turn_table.specs.Lists.{entries, by, tagged}

module _ {E : Type 0} where
  pub entries-append : (a b : List (ℕ × E)) → entries (a ++ b) ≡ entries a ++ entries b
  entries-append [] b = refl
  entries-append (w ∷ ws) b = ap (λ (z : List E). w.1 ∷ z) (entries-append ws b)

  pub entries-tagged : (j : ℕ) (log : List E) → entries (tagged j log) ≡ log
  entries-tagged j [] = refl
  entries-tagged j (e ∷ es) = ap (λ (z : List E). e ∷ z) (entries-tagged j es)

  pub entries-length : (a : List (ℕ × E)) → length (entries a) ≡ length a
  entries-length [] = refl
  entries-length (w ∷ ws) = let r = entries-length ws in omega arith

  by_at : (j : ℕ) (w : ℕ × E) (t : Bool) (x y : List E) → cond t (w.1 ∷ (x ++ y)) (x ++ y) ≡ cond t (w.1 ∷ x) x ++ y
  by_at j w true x y = refl
  by_at j w false x y = refl

  pub by-append : (j : ℕ) (a b : List (ℕ × E)) → by j (a ++ b) ≡ by j a ++ by j b
  by-append j [] b = refl
  by-append j (w ∷ ws) b = ap (λ (z : List E). cond (eqb j w.0) (w.1 ∷ z) z) (by-append j ws b) ∙ by_at j w (eqb j w.0) (by j ws) (by j b)

  pub by-tagged : (j : ℕ) (log : List E) → by j (tagged j log) ≡ log
  by-tagged j [] = refl
  by-tagged j (e ∷ es) = ap (λ t. cond t (e ∷ by j (tagged j es)) (by j (tagged j es))) (eq-eqb j j refl) ∙ ap (λ (z : List E). e ∷ z) (by-tagged j es)

  pub by-tagged_other : (j k : ℕ) (log : List E) → j ≢ k → by j (tagged k log) ≡ []
  by-tagged_other j k [] n = refl
  by-tagged_other j k (e ∷ es) n = ap (λ t. cond t (e ∷ by j (tagged k es)) (by j (tagged k es))) (ne_eqb j k n) ∙ by-tagged_other j k es n

module _ {A : Type 0} where
  pub nothing_twice : (x y : List A) → x ++ y ≡ [] → (x ≡ []) × (y ≡ [])
  nothing_twice [] y e = (refl, e)
  nothing_twice (a ∷ x) y e = absurd (let h : length (a ∷ (x ++ y)) ≡ 0 = ap length e in omega arith)

  -- of two beginnings of one list the longer begins with the other
  pub between : (x y a b : List A) → x ++ a ≡ y ++ b → length x ≤ length y → (m : List A) × (y ≡ x ++ m) × (a ≡ m ++ b)
  between [] y a b e h = (y, refl, e)
  between (c ∷ x) [] a b e h = absurd (omega arith)
  between (c ∷ x) (d ∷ y) a b e h =
      let heads : c ≡ d = cc in
      let tails : x ++ a ≡ y ++ b = cc in
      let r = between x y a b tails (omega arith) in
      (r.0, (λ k. sym heads k ∷ r.1 k), r.2)
