-- The orders of dirty and clean pages, by their names.
use Rattle.std.proofs.Common.{◌≡◌, ◌≢◌, ℕ, zero, suc, ◌<◌, ◌≤◌, Bool, true, false, cond, not, List, [], ◌∷◌, ◌++◌, map, length, get_or, Option, Some, None, unwrap_or, refl, ap, sym, ◌∙◌, inl, inr, arith, eq-eqb, ne_eqb, eqb}
use Rattle.std.specs.FinMap.{FinMap, get, insert, get-empty}
use Rattle.std.specs.Ordering.{nat_cmp}
use Rattle.std.proofs.lemmas.Bool.{false≢true, cases_Bool, cases_lt, eqb-true, or_left, or_right}
use Rattle.std.proofs.lemmas.List.{map-append, get_or_past}
use Rattle.index_list.specs.Listing.{stands_in, others}
use Rattle.page_table.specs.declared.entry.Entry.{Entry}
use Rattle.page_table.specs.Pages.{Pages as Table}
use Rattle.client_lists.specs.declared.which.Which.TheVariants as which
use Rattle.client_lists.specs.Clients.{Clients, IsOpen, nodes_of}
use Rattle.clean_evict.specs.Eviction.{name_at, names_of}
use Rattle.reservation_tree.proofs.Maps.{get_same, get_other, alike, same_or_other}
use Rattle.pool_model.specs.Parts.{without as without_name}
use Rattle.pin_core.specs.declared.kept.Kept.{Kept}
use Rattle.pin_core.specs.StateOf.{dirty_below, dirty_in}

module _ {D : Type 0} where
  names_at : Table (Entry (Kept D)) → Clients → ℕ → List ℕ
  names_at t lists c = names_of t (nodes_of c which.Dirty lists)

  dirty_past : (t : Table (Entry (Kept D))) (lists : Clients) (n c : ℕ) → n ≤ c → get (dirty_below t lists n) c ≡ None
  dirty_past t lists zero c le = get-empty nat_cmp c
  dirty_past t lists (suc n) c le = elim (cases_Bool (get_or lists.is_open n false)) [
    | inl is ↦ ap (λ (b : Bool). get (cond b (insert (dirty_below t lists n) n (names_of t (nodes_of n which.Dirty lists))) (dirty_below t lists n)) c) is
        ∙ get_other (dirty_below t lists n) n _ c (λ same. absurd (omega arith)) ∙ dirty_past t lists n c (omega arith)
    | inr is ↦ ap (λ (b : Bool). get (cond b (insert (dirty_below t lists n) n (names_of t (nodes_of n which.Dirty lists))) (dirty_below t lists n)) c) is
        ∙ dirty_past t lists n c (omega arith)
  ]

  dirty_to : (t : Table (Entry (Kept D))) (lists : Clients) (n c : ℕ) → c < n
      → get (dirty_below t lists n) c ≡ cond (get_or lists.is_open c false) (Some (names_of t (nodes_of c which.Dirty lists))) None
  dirty_to t lists zero c lt = absurd (omega arith)
  dirty_to t lists (suc n) c lt = elim (same_or_other c n) [
    | inl same ↦ elim (cases_Bool (get_or lists.is_open n false)) [
      | inl is ↦ ap (λ (b : Bool). get (cond b (insert (dirty_below t lists n) n (names_of t (nodes_of n which.Dirty lists))) (dirty_below t lists n)) c) is
          ∙ ap (get (insert (dirty_below t lists n) n (names_of t (nodes_of n which.Dirty lists)))) same
          ∙ get_same (dirty_below t lists n) n (names_of t (nodes_of n which.Dirty lists))
          ∙ ap (λ (b : Bool). cond b (Some (names_of t (nodes_of n which.Dirty lists))) None) (sym is)
          ∙ ap (λ (k : ℕ). cond (get_or lists.is_open k false) (Some (names_of t (nodes_of k which.Dirty lists))) None) (sym same)
      | inr is ↦ ap (λ (b : Bool). get (cond b (insert (dirty_below t lists n) n (names_of t (nodes_of n which.Dirty lists))) (dirty_below t lists n)) c) is
          ∙ dirty_past t lists n c (omega arith)
          ∙ ap (λ (b : Bool). cond b (Some (names_of t (nodes_of n which.Dirty lists))) None) (sym is)
          ∙ ap (λ (k : ℕ). cond (get_or lists.is_open k false) (Some (names_of t (nodes_of k which.Dirty lists))) None) (sym same)
    ]
    | inr other ↦ elim (cases_Bool (get_or lists.is_open n false)) [
      | inl is ↦ ap (λ (b : Bool). get (cond b (insert (dirty_below t lists n) n (names_of t (nodes_of n which.Dirty lists))) (dirty_below t lists n)) c) is
          ∙ get_other (dirty_below t lists n) n _ c other ∙ dirty_to t lists n c (omega arith)
      | inr is ↦ ap (λ (b : Bool). get (cond b (insert (dirty_below t lists n) n (names_of t (nodes_of n which.Dirty lists))) (dirty_below t lists n)) c) is
          ∙ dirty_to t lists n c (omega arith)
    ]
  ]

  -- each opened client's dirty pages
  pub get_dirty : (t : Table (Entry (Kept D))) (lists : Clients) (c : ℕ)
      → get (dirty_in t lists) c ≡ cond (get_or lists.is_open c false) (Some (names_of t (nodes_of c which.Dirty lists))) None
  unfolding dirty_in
  get_dirty t lists c = elim (cases_lt c (length lists.is_open)) [
    | inl lt ↦ dirty_to t lists (length lists.is_open) c lt
    | inr le ↦ dirty_past t lists (length lists.is_open) c le
        ∙ ap (λ (b : Bool). cond b (Some (names_of t (nodes_of c which.Dirty lists))) None) (sym (get_or_past lists.is_open c false le))
  ]

  same_names : (t now : Table (Entry (Kept D))) → now.names ≡ t.names → (keys : List ℕ) → names_of now keys ≡ names_of t keys
  same_names t now same keys = ap (λ (m : FinMap nat_cmp ℕ). map (λ key. unwrap_or (get m key) 0) keys) same

  -- one client's dirty pages changed
  pub dirty_changed : (t now : Table (Entry (Kept D))) (lists new : Clients) (c : ℕ) (names : List ℕ) → now.names ≡ t.names → new.is_open ≡ lists.is_open → IsOpen c lists
      → names_of t (nodes_of c which.Dirty new) ≡ names
      → ((d : ℕ) → d ≢ c → nodes_of d which.Dirty new ≡ nodes_of d which.Dirty lists)
      → dirty_in now new ≡ insert (dirty_in t lists) c names
  dirty_changed t now lists new c names same opens opened is rest = alike _ _ (λ d. elim (same_or_other d c) [
    | inl here ↦
        ap (get (dirty_in now new)) here ∙ get_dirty now new c
        ∙ ap (λ (b : Bool). cond b (Some (names_of now (nodes_of c which.Dirty new))) None) (ap (λ (o : List Bool). get_or o c false) opens ∙ opened)
        ∙ ap Some (same_names t now same (nodes_of c which.Dirty new) ∙ is) ∙ sym (get_same (dirty_in t lists) c names) ∙ ap (get (insert (dirty_in t lists) c names)) (sym here)
    | inr other ↦
        get_dirty now new d
        ∙ ap (λ (o : List Bool). cond (get_or o d false) (Some (names_of now (nodes_of d which.Dirty new))) None) opens
        ∙ ap (λ (xs : List ℕ). cond (get_or lists.is_open d false) (Some xs) None) (same_names t now same (nodes_of d which.Dirty new) ∙ ap (names_of t) (rest d other))
        ∙ sym (get_dirty t lists d) ∙ sym (get_other (dirty_in t lists) c names d other)
  ])

  -- none changed
  pub dirty_same : (t now : Table (Entry (Kept D))) (lists new : Clients) → now.names ≡ t.names → new.is_open ≡ lists.is_open
      → ((d : ℕ) → nodes_of d which.Dirty new ≡ nodes_of d which.Dirty lists) → dirty_in now new ≡ dirty_in t lists
  dirty_same t now lists new same opens rest = alike _ _ (λ d.
      get_dirty now new d
      ∙ ap (λ (o : List Bool). cond (get_or o d false) (Some (names_of now (nodes_of d which.Dirty new))) None) opens
      ∙ ap (λ (xs : List ℕ). cond (get_or lists.is_open d false) (Some xs) None) (same_names t now same (nodes_of d which.Dirty new) ∙ ap (names_of t) (rest d))
      ∙ sym (get_dirty t lists d))

  pub dirty_open : (t : Table (Entry (Kept D))) (lists : Clients) (c : ℕ) → IsOpen c lists → get (dirty_in t lists) c ≡ Some (names_of t (nodes_of c which.Dirty lists))
  dirty_open t lists c opened = get_dirty t lists c ∙ ap (λ (b : Bool). cond b (Some (names_of t (nodes_of c which.Dirty lists))) None) opened

  pub name_is : (t : Table (Entry (Kept D))) (key name : ℕ) → get t.names key ≡ Some name → name_at t key ≡ name
  name_is t key name is = ap (λ (o : Option ℕ). unwrap_or o 0) is

  pub names_more : (t : Table (Entry (Kept D))) (key name : ℕ) (keys : List ℕ) → get t.names key ≡ Some name → names_of t (keys ++ key ∷ []) ≡ names_of t keys ++ name ∷ []
  names_more t key name keys is = map-append (name_at t) keys (key ∷ []) ∙ ap (λ (n : ℕ). names_of t keys ++ n ∷ []) (name_is t key name is)

  -- every key of the list has a page
  abbrev pub AreLive : Table (Entry (Kept D)) → List ℕ → Type 0
  AreLive t keys = (k : ℕ) → stands_in k keys ≡ true → (n : ℕ) × (get t.names k ≡ Some n)

  -- the names of the keys that are left are the names that are left
  pub names_without : (t : Table (Entry (Kept D))) (key name : ℕ) → get t.names key ≡ Some name
      → ((k n : ℕ) → get t.names k ≡ Some n → n ≡ name → k ≡ key)
      → (keys : List ℕ) → AreLive t keys → names_of t (others key keys) ≡ without_name name (names_of t keys)
  names_without t key name is alone [] live = refl
  names_without t key name is alone (k ∷ keys) live =
      let rest : names_of t (others key keys) ≡ without_name name (names_of t keys) = names_without t key name is alone keys (λ q there. live q (or_right (eqb q k) (stands_in q keys) there)) in
      elim (cases_Bool (eqb key k)) [
        | inl same ↦
            let key_is : key ≡ k = eqb-true key k same in
            let here : name_at t k ≡ name = ap (name_at t) (sym key_is) ∙ name_is t key name is in
            rw same (rest ∙ sym (ap (λ (b : Bool). cond (not b) (name_at t k ∷ without_name name (names_of t keys)) (without_name name (names_of t keys))) (eq-eqb (name_at t k) name here)))
        | inr apart ↦
            let mine = live k (or_left (eqb k k) (stands_in k keys) (eq-eqb k k refl)) in
            let name_k : name_at t k ≡ mine.0 = name_is t k mine.0 mine.1 in
            let other : name_at t k ≢ name = λ same. false≢true (sym apart ∙ eq-eqb key k (sym (alone k mine.0 mine.1 (sym name_k ∙ same)))) in
            rw apart (ap (λ (l : List ℕ). name_at t k ∷ l) rest
            ∙ sym (ap (λ (b : Bool). cond (not b) (name_at t k ∷ without_name name (names_of t keys)) (without_name name (names_of t keys))) (ne_eqb (name_at t k) name other)))
      ]
