-- For callers: a table stays proper where an entry is written, a page comes, or a page ends.
use Rattle.std.proofs.Common.{◌≡◌, ℕ, ◌≢◌, ◌+◌, ◌<◌, Option, Some, None, IsSome, refl, ap, sym, ◌∙◌, subst, inl, inr, arith}
use Rattle.std.specs.FinMap.{get, insert, remove, len}
use Rattle.page_table.specs.declared.page_id.PageId.{PageId}
use Rattle.page_table.specs.Pages.{Pages, IsLive, HasRoom, IsProper, with_entry, with_page, without_page}
use Rattle.reservation_tree.proofs.Maps.{get_same, get_other, removed_same, removed_other, same_or_other, found, is_there, len_same, len_more, len_less}
use Rattle.page_table.proofs.Entries.{one_of}

nothing : {X : Type 0} (o : Option X) → (IsSome o → ⊥) → o ≡ None
nothing None none = refl
nothing (Some x) none = absurd (none refl)

-- what is there isn't nothing
not_both : {X : Type 0} (o : Option X) (x : X) → o ≡ None → o ≡ Some x → ⊥
not_both o x none some =
    let both : None ≡ Some x = sym none ∙ some in
    cc

module _ {E : Type 0} (t : Pages E) (proper : IsProper t) where
  -- no page has the next name
  pub next_unused : get t.entries t.next_name ≡ None
  next_unused = nothing (get t.entries t.next_name) (λ some. let low = proper.below t.next_name some in omega (arith, low))

  module _ (id : PageId) where
    -- a live page has an entry
    pub has_entry : IsLive t id → (x : E) × (get t.entries id.name ≡ Some x)
    has_entry live = found (get t.entries id.name) (proper.named id.key id.name live)

    -- another entry for a name that has one
    pub proper-written : (w : E) → IsSome (get t.entries id.name) → IsProper (with_entry t id w)
    proper-written w there =
        let x = found (get t.entries id.name) there in
        let was : (name : ℕ) → IsSome (get (insert t.entries id.name w) name) → IsSome (get t.entries name) = λ name some. elim (same_or_other name id.name) [
          | inl here ↦ subst (λ (n : ℕ). IsSome (get t.entries n)) (sym here) there
          | inr other ↦ subst IsSome (get_other t.entries id.name w name other) some
        ] in
        let count : len (insert t.entries id.name w) ≡ len t.entries = len_same t.entries id.name x.0 w x.1 in
        record {
          named = λ key name is. elim (same_or_other name id.name) [
            | inl here ↦ subst (λ (n : ℕ). IsSome (get (insert t.entries id.name w) n)) (sym here) (is_there _ w (get_same t.entries id.name w))
            | inr other ↦ subst IsSome (sym (get_other t.entries id.name w name other)) (proper.named key name is)
          ];
          keyed = λ name some. proper.keyed name (was name some);
          apart = proper.apart;
          keys = proper.keys;
          below = λ name some. proper.below name (was name some);
          few = let few = proper.few in omega (arith, count, few);
        }

    -- a live page has another entry
    pub proper-with_entry : (w : E) → IsLive t id → IsProper (with_entry t id w)
    proper-with_entry w live = proper-written w (proper.named id.key id.name live)

    -- a page has come under the next name, at a key that no page had
    pub proper-with_page : (x : E) → HasRoom t → id.name ≡ t.next_name → get t.names id.key ≡ None → id.key < t.room → IsProper (with_page t id x)
    proper-with_page x room next vacant low =
        let entries = insert t.entries id.name x in
        let names = insert t.names id.key id.name in
        let fresh : get t.entries id.name ≡ None = ap (get t.entries) next ∙ next_unused in
        let count : len entries ≡ len t.entries + 1 = len_more t.entries id.name x fresh in
        let own : (name : ℕ) → get names id.key ≡ Some name → id.name ≡ name = λ name is. one_of (get names id.key) id.name name (get_same t.names id.key id.name) is in
        let there : (key name : ℕ) → key ≢ id.key → get names key ≡ Some name → get t.names key ≡ Some name = λ key name other is. sym (get_other t.names id.key id.name key other) ∙ is in
        let named_before : (key name : ℕ) → get t.names key ≡ Some name → name ≢ id.name = λ key name is same. (
        let low = proper.below name (proper.named key name is) in
        let never : ⊥ = omega (arith, low, same, next) in
        never) in
        record {
          named = λ key name is. elim (same_or_other name id.name) [
            | inl same ↦ subst (λ (n : ℕ). IsSome (get entries n)) (sym same) (is_there _ x (get_same t.entries id.name x))
            | inr other ↦ elim (same_or_other key id.key) [
              | inl here ↦ absurd (other (sym (own name (ap (get names) (sym here) ∙ is))))
              | inr away ↦ subst IsSome (sym (get_other t.entries id.name x name other)) (proper.named key name (there key name away is))
            ]
          ];
          keyed = λ name some. elim (same_or_other name id.name) [
            | inl same ↦ (id.key, get_same t.names id.key id.name ∙ ap Some (sym same))
            | inr other ↦
                let was = proper.keyed name (subst IsSome (get_other t.entries id.name x name other) some) in
                (was.0, get_other t.names id.key id.name was.0 (λ here. not_both (get t.names id.key) name vacant (ap (get t.names) (sym here) ∙ was.1)) ∙ was.1)
          ];
          apart = λ key other name a b. elim (same_or_other key id.key) [
            | inl here ↦ elim (same_or_other other id.key) [
              | inl also ↦ here ∙ sym also
              | inr away ↦ absurd (named_before other name (there other name away b) (sym (own name (ap (get names) (sym here) ∙ a))))
            ]
            | inr away ↦ elim (same_or_other other id.key) [
              | inl here ↦ absurd (named_before key name (there key name away a) (sym (own name (ap (get names) (sym here) ∙ b))))
              | inr too ↦ proper.apart key other name (there key name away a) (there other name too b)
            ]
          ];
          keys = λ key name is. elim (same_or_other key id.key) [
            | inl here ↦ omega (arith, here, low)
            | inr away ↦ proper.keys key name (there key name away is)
          ];
          below = λ name some. elim (same_or_other name id.name) [
            | inl same ↦ omega (arith, same, next)
            | inr other ↦ let low = proper.below name (subst IsSome (get_other t.entries id.name x name other) some) in omega (arith, low)
          ];
          few = omega (arith, count, room);
        }

    -- a live page has ended
    pub proper-without_page : IsLive t id → IsProper (without_page t id)
    proper-without_page live =
        let entries = remove t.entries id.name in
        let names = remove t.names id.key in
        let x = has_entry live in
        let count : len entries + 1 ≡ len t.entries = len_less t.entries id.name x.0 x.1 in
        let key_left : (key name : ℕ) → get names key ≡ Some name → key ≢ id.key = λ key name is here. not_both (get names id.key) name (removed_same t.names id.key) (ap (get names) (sym here) ∙ is) in
        let there : (key name : ℕ) → get names key ≡ Some name → get t.names key ≡ Some name = λ key name is. sym (removed_other t.names id.key key (key_left key name is)) ∙ is in
        let name_left : (name : ℕ) → IsSome (get entries name) → name ≢ id.name = λ name some same. (
        let y = found (get entries name) some in
        not_both (get entries id.name) y.0 (removed_same t.entries id.name) (ap (get entries) (sym same) ∙ y.1)) in
        let was : (name : ℕ) → IsSome (get entries name) → IsSome (get t.entries name) = λ name some. subst IsSome (removed_other t.entries id.name name (name_left name some)) some in
        record {
          named = λ key name is.
              let old = there key name is in
              subst IsSome (sym (removed_other t.entries id.name name (λ same. key_left key name is (proper.apart key id.key name old (live ∙ ap Some (sym same)))))) (proper.named key name old);
          keyed = λ name some.
              let old = proper.keyed name (was name some) in
              (old.0, removed_other t.names id.key old.0 (λ here. name_left name some (one_of (get t.names id.key) name id.name (ap (get t.names) (sym here) ∙ old.1) live)) ∙ old.1);
          apart = λ key other name a b. proper.apart key other name (there key name a) (there other name b);
          keys = λ key name is. proper.keys key name (there key name is);
          below = λ name some. proper.below name (was name some);
          few = let few = proper.few in omega (arith, count, few);
        }
