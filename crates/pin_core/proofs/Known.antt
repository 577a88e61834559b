-- What is known of the state by the history that made it, and by the entries of the table.
use Rattle.std.proofs.Common.{◌≡◌, ℕ, Option, Some, None, unwrap_or, option_map, refl, ap, sym, ◌∙◌, subst}
use Rattle.std.specs.FinMap.{get}
use Rattle.page_table.specs.declared.entry.Entry.{Entry}
use Rattle.pool_model.specs.State.{Page, State}
use Rattle.pool_model.specs.PoolLaws.{HoldsAfterAll}
use Rattle.pin_core.specs.declared.kept.Kept.{Kept}
use Rattle.pin_core.specs.declared.parts.Parts.{Parts}
use Rattle.pin_core.specs.StateOf.{page_of, pages_in}
use Rattle.pin_core.specs.Invariant.{HasHistory}
use Rattle.pin_core.proofs.Mapped.{get_mapped}

-- what holds after all legal histories holds of this state
pub known_now : (P : State → Type 0) → HoldsAfterAll P → (s : State) → HasHistory s → P s
known_now P all s has = subst P (sym has.after) (all has.opening has.history has.legal)

module _ {D : Type 0} where
  -- a page of the state has an entry
  pub record HasEntry (v : Parts D) (p : ℕ) (y : Page) : Type 0 where
    pub entry : Entry (Kept D)
    pub there : get v.pages.entries p ≡ Some entry
    pub is : page_of v.pages p entry ≡ y

  from_option : (f : Entry (Kept D) → Page) (o : Option (Entry (Kept D))) (y : Page) → option_map f o ≡ Some y → (x : Entry (Kept D)) × (o ≡ Some x) × (f x ≡ y)
  from_option f None y is = cc
  from_option f (Some x) y is = (x, refl, ap (λ (o : Option Page). unwrap_or o y) is)

  pub has_entry : (v : Parts D) (p : ℕ) (y : Page) → get (pages_in v.pages) p ≡ Some y → HasEntry v p y
  has_entry v p y is =
      let w = from_option (page_of v.pages p) (get v.pages.entries p) y (sym (get_mapped (page_of v.pages) v.pages.entries p) ∙ is) in
      record { entry = w.0; there = w.1; is = w.2 }
