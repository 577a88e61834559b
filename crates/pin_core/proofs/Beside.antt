-- Names of keys, where a page comes or goes.
use Rattle.std.proofs.Common.{◌≡◌, ◌≢◌, ℕ, false, List, [], ◌∷◌, Option, unwrap_or, refl, ap, sym, ◌∙◌, eqb}
use Rattle.std.proofs.lemmas.Bool.{false≢true, or_parts, eq-eqb}
use Rattle.index_list.specs.Listing.{stands_in}
use Rattle.reservation_tree.proofs.Maps.{get_other, removed_other}
use Rattle.page_table.specs.declared.page_id.PageId.{PageId}
use Rattle.page_table.specs.declared.entry.Entry.{Entry}
use Rattle.page_table.specs.Pages.{Pages as Table, with_page, without_page}
use Rattle.clean_evict.specs.Eviction.{name_at, names_of}
use Rattle.pin_core.specs.declared.kept.Kept.{Kept}

module _ {D : Type 0} where
  -- names of keys that aren't this one's
  pub names_beside : (t : Table (Entry (Kept D))) (id : PageId) (w : Entry (Kept D)) (keys : List ℕ) → stands_in id.key keys ≡ false → names_of (with_page t id w) keys ≡ names_of t keys
  names_beside t id w [] out = refl
  names_beside t id w (k ∷ ks) out =
      let p = or_parts (eqb id.key k) (stands_in id.key ks) out in
      let apart : k ≢ id.key = λ same. false≢true (sym p.0 ∙ eq-eqb id.key k (sym same)) in
      let here : name_at (with_page t id w) k ≡ name_at t k = ap (λ (o : Option ℕ). unwrap_or o 0) (get_other t.names id.key id.name k apart) in
      ap (λ (n : ℕ). n ∷ names_of (with_page t id w) ks) here ∙ ap (λ (l : List ℕ). name_at t k ∷ l) (names_beside t id w ks p.1)

  pub names_left : (t : Table (Entry (Kept D))) (id : PageId) (keys : List ℕ) → stands_in id.key keys ≡ false → names_of (without_page t id) keys ≡ names_of t keys
  names_left t id [] out = refl
  names_left t id (k ∷ ks) out =
      let p = or_parts (eqb id.key k) (stands_in id.key ks) out in
      let apart : k ≢ id.key = λ same. false≢true (sym p.0 ∙ eq-eqb id.key k (sym same)) in
      let here : name_at (without_page t id) k ≡ name_at t k = ap (λ (o : Option ℕ). unwrap_or o 0) (removed_other t.names id.key k apart) in
      ap (λ (n : ℕ). n ∷ names_of (without_page t id) ks) here ∙ ap (λ (l : List ℕ). name_at t k ∷ l) (names_left t id ks p.1)
