-- The entries of one maker, and the bytes of a page, when a history grows by an entry.
use Rattle.std.proofs.Common.{◌≡◌, ◌≢◌, ℕ, Bool, true, false, ◌&&◌, if◌then◌else◌, List, [], ◌∷◌, ◌++◌, filter, refl, ap, ◌∙◌, eq-eqb, ne_eqb}
use Rattle.std.proofs.lemmas.List.{append-nil}
use Rattle.std.proofs.lemmas.List.Elements.{filter-append}
use Rattle.pool_model.specs.declared.entry.Entry.{Entry}
use Rattle.pool_model.specs.LookingBack.{since, opens, is_by, made_by, left_in, content_from}
use Rattle.pool_model.proofs.Windows.{since_more}

pub content_more : (p : ℕ) (old : List ℕ) (h : List Entry) (e : Entry) → content_from p old (h ++ e ∷ []) ≡ left_in p e.event (content_from p old h)
content_more p old [] e = refl
content_more p old (d ∷ h) e = content_more p (left_in p d.event old) h e

module _ (h : List Entry) (e : Entry) (m : ℕ) where
  grown : made_by (h ++ e ∷ []) m ≡ filter (is_by m) (if is_by m e && opens e.event then e ∷ [] else since (λ d. is_by m d && opens d.event) [] h ++ e ∷ [])
  grown = ap (filter (is_by m)) (since_more (λ d. is_by m d && opens d.event) [] h e)

  pub made_by_other : e.maker ≢ m → made_by (h ++ e ∷ []) m ≡ made_by h m
  made_by_other other =
      let not : is_by m e ≡ false = ne_eqb e.maker m other in
      grown ∙ ap (λ (b : Bool). filter (is_by m) (if b && opens e.event then e ∷ [] else since (λ d. is_by m d && opens d.event) [] h ++ e ∷ [])) not
      ∙ filter-append (is_by m) (since (λ d. is_by m d && opens d.event) [] h) (e ∷ [])
      ∙ ap (λ (b : Bool). made_by h m ++ (if b then e ∷ [] else [])) not ∙ append-nil (made_by h m)

  pub made_more : e.maker ≡ m → opens e.event ≡ false → made_by (h ++ e ∷ []) m ≡ made_by h m ++ e ∷ []
  made_more own old =
      let mine : is_by m e ≡ true = eq-eqb e.maker m own in
      grown ∙ ap (λ (b : Bool). filter (is_by m) (if b && opens e.event then e ∷ [] else since (λ d. is_by m d && opens d.event) [] h ++ e ∷ [])) mine
      ∙ ap (λ (b : Bool). filter (is_by m) (if b then e ∷ [] else since (λ d. is_by m d && opens d.event) [] h ++ e ∷ [])) old
      ∙ filter-append (is_by m) (since (λ d. is_by m d && opens d.event) [] h) (e ∷ [])
      ∙ ap (λ (b : Bool). made_by h m ++ (if b then e ∷ [] else [])) mine

  pub made_first : e.maker ≡ m → opens e.event ≡ true → made_by (h ++ e ∷ []) m ≡ e ∷ []
  made_first own new =
      let mine : is_by m e ≡ true = eq-eqb e.maker m own in
      grown ∙ ap (λ (b : Bool). filter (is_by m) (if b && opens e.event then e ∷ [] else since (λ d. is_by m d && opens d.event) [] h ++ e ∷ [])) mine
      ∙ ap (λ (b : Bool). filter (is_by m) (if b then e ∷ [] else since (λ d. is_by m d && opens d.event) [] h ++ e ∷ [])) new
      ∙ ap (λ (b : Bool). if b then e ∷ [] else []) mine
