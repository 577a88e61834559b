-- The entries of a slab rise by their keys, and each key finds what its slot has.
use Rattle.std.proofs.Common.{◌≡◌, ◌≢◌, ℕ, zero, suc, ◌+◌, ◌<◌, Bool, true, false, cond, T, ◌&&◌, List, [], ◌∷◌, Option, Some, None, slice_index_or, refl, ap, ◌∙◌, subst, arith, eq-eqb, ne_eqb, Less, Ordering, is_lt}
use Rattle.std.specs.Ordering.{nat_cmp, eq_by_cmp}
use Rattle.std.specs.Cmp.{nat_cmp_is, unsigned_tied}
use Rattle.std.specs.FinMap.{find, is_sorted}
use Rattle.std.specs.FinMap.Entries.{below_all}
use Rattle.slab.specs.Slab.{entries_from}

pub same_number : (k : ℕ) → eq_by_cmp nat_cmp k k ≡ true
same_number k = unsigned_tied k k ∙ eq-eqb k k refl

pub other_number : (q k : ℕ) → q ≢ k → eq_by_cmp nat_cmp q k ≡ false
other_number q k apart = unsigned_tied q k ∙ ne_eqb q k apart

both : (a b : Bool) → T a → T b → T (a && b)
both true b p q = q
both false b p q = p

less : (q k : ℕ) → q < k → T (is_lt (nat_cmp q k))
less q k low = subst (λ (o : Ordering). T (is_lt o)) (nat_cmp_is q k Less low) tt

module _ {X : Type 0} where
  -- a lower number is below them all
  below : (q key : ℕ) (slots : List (Option X)) → q < key → T (below_all nat_cmp q (entries_from key slots))
  below q key [] low = tt
  below q key (None ∷ rest) low = below q (key + 1) rest (omega (arith, low))
  below q key (Some x ∷ rest) low = both _ _ (less q key low) (below q (key + 1) rest (omega (arith, low)))

  -- the keys strictly rise
  pub rising : (key : ℕ) (slots : List (Option X)) → T (is_sorted nat_cmp (entries_from key slots))
  rising key [] = tt
  rising key (None ∷ rest) = rising (key + 1) rest
  rising key (Some x ∷ rest) = both _ _ (below key (key + 1) rest (omega arith)) (rising (key + 1) rest)

  -- a number before the first key isn't found
  before : (key : ℕ) (slots : List (Option X)) (q : ℕ) → q < key → find nat_cmp q (entries_from key slots) ≡ None
  before key [] q low = refl
  before key (None ∷ rest) q low = before (key + 1) rest q (omega (arith, low))
  before key (Some x ∷ rest) q low =
      let apart : q ≢ key = λ same. omega (arith, same, low) in
      ap (λ (b : Bool). cond b (Some x) (find nat_cmp q (entries_from (key + 1) rest))) (other_number q key apart) ∙ before (key + 1) rest q (omega (arith, low))

  later : (key i : ℕ) (rest : List (Option X)) → find nat_cmp ((key + 1) + i) (entries_from (key + 1) rest) ≡ slice_index_or rest i None → find nat_cmp (key + suc i) (entries_from (key + 1) rest) ≡ slice_index_or rest i None
  later key i rest is =
      let same : (key + 1) + i ≡ key + suc i = omega arith in
      subst (λ (q : ℕ). find nat_cmp q (entries_from (key + 1) rest) ≡ slice_index_or rest i None) same is

  -- a key finds what stands in its slot
  pub at_key : (key : ℕ) (slots : List (Option X)) (i : ℕ) → find nat_cmp (key + i) (entries_from key slots) ≡ slice_index_or slots i None
  at_key key [] i = refl
  at_key key (None ∷ rest) zero = before (key + 1) rest (key + zero) (omega arith)
  at_key key (None ∷ rest) (suc i) = later key i rest (at_key (key + 1) rest i)
  at_key key (Some x ∷ rest) zero =
      let here : key + zero ≡ key = omega arith in
      ap (λ (b : Bool). cond b (Some x) (find nat_cmp (key + zero) (entries_from (key + 1) rest))) (ap (λ (q : ℕ). eq_by_cmp nat_cmp q key) here ∙ same_number key)
  at_key key (Some x ∷ rest) (suc i) =
      let apart : key + suc i ≢ key = λ same. omega (arith, same) in
      ap (λ (b : Bool). cond b (Some x) (find nat_cmp (key + suc i) (entries_from (key + 1) rest))) (other_number (key + suc i) key apart) ∙ later key i rest (at_key (key + 1) rest i)
