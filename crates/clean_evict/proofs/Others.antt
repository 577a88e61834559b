-- Pages that are not clean are never among those that go.
use Rattle.std.proofs.Common.{◌≡◌, ℕ, true, eqb, List, [], ◌∷◌, Option, Some, take, drop, unwrap_or, refl, ap, sym, ◌∙◌, inl, inr}
use Rattle.std.specs.FinMap.{get}
use Rattle.std.proofs.lemmas.Bool.{false≢true, cases_Bool, eqb-true, eq-eqb, or_cases, or_left, or_right}
use Rattle.std.proofs.lemmas.List.{take-append-drop}
use Rattle.std.proofs.lemmas.List.Folds.{list_any-append}
use Rattle.block_arena.specs.Memory.{Supply}
use Rattle.index_list.specs.Listing.{stands_in}
use Rattle.page_table.specs.declared.entry.Entry.{Entry}
use Rattle.page_table.specs.declared.entry.Place.TheVariants.{Clean}
use Rattle.page_table.specs.Pages.{Pages}
use Rattle.page_table.proofs.Entries.{one_of}
use Rattle.clean_evict.specs.Eviction.{name_at, names_of, evicted_all, IsCleanPage, IsCleanList}
use Rattle.clean_evict.proofs.Changed.{get-evicted_other}

-- what stands in a front stands in the list
stands-taken : (q count : ℕ) (keys : List ℕ) → stands_in q (take count keys) ≡ true → stands_in q keys ≡ true
stands-taken q count keys s =
    sym (ap (stands_in q) (take-append-drop count keys)) ∙ list_any-append (eqb q) (take count keys) (drop count keys)
    ∙ or_left (stands_in q (take count keys)) (stands_in q (drop count keys)) s

module _ {S : Type 0} where
  -- the names of clean pages are those of clean pages
  named-clean : (block_len : ℕ) (pages : Pages (Entry S)) (keys : List ℕ) → ((key : ℕ) → stands_in key keys ≡ true → IsCleanPage block_len pages key) → (name : ℕ) → stands_in name (names_of pages keys) ≡ true → (page : Entry S) → get pages.entries name ≡ Some page → page.place ≡ Clean
  named-clean block_len pages [] clean name s page there = absurd (false≢true s)
  named-clean block_len pages (key ∷ keys) clean name s page there =
      elim (or_cases (eqb name (name_at pages key)) (stands_in name (names_of pages keys)) s) [
        | inl here ↦
            let c = clean key (or_left (eqb key key) (stands_in key keys) (eq-eqb key key refl)) in
            let own : c.name ≡ name = sym (ap (λ (o : Option ℕ). unwrap_or o 0) c.live) ∙ sym (eqb-true name (name_at pages key) here) in
            let same : c.page ≡ page = one_of (get pages.entries name) c.page page (ap (λ (n : ℕ). get pages.entries n) (sym own) ∙ c.there) there in
            ap (λ (p : Entry S). p.place) (sym same) ∙ c.clean
        | inr later ↦ named-clean block_len pages keys (λ k t. clean k (or_right (eqb k key) (stands_in k keys) t)) name later page there
      ]

  -- a page that is not clean is as it was
  pub others-kept : (count : ℕ) (keys : List ℕ) (arena : Supply) (pages new : Pages (Entry S)) → IsCleanList arena pages keys → new ≡ evicted_all (names_of pages (take count keys)) pages → (name : ℕ) (page : Entry S) → get pages.entries name ≡ Some page → (page.place ≡ Clean → ⊥) → get new.entries name ≡ Some page
  others-kept count keys arena pages new clean gone name page there other =
      elim (cases_Bool (stands_in name (names_of pages (take count keys)))) [
        | inl s ↦ absurd (other (named-clean arena.block_len pages (take count keys) (λ key t. clean.clean key (stands-taken key count keys t)) name s page there))
        | inr s ↦ ap (λ (t : Pages (Entry S)). get t.entries name) gone ∙ get-evicted_other (names_of pages (take count keys)) pages name s ∙ there
      ]
