-- Sums over maps whose values are replaced, and sums of bytes.
use Rattle.std.proofs.Common.{◌≡◌, ℕ, ◌+◌, ◌≤◌, Bool, ◌&&◌, T, List, [], ◌∷◌, map, refl, ap, sym, ◌∙◌, subst, arith, is_lt}
use native.Mathlib.Nat.{mul-le-mul}
use Rattle.std.specs.Ordering.{nat_cmp}
use Rattle.std.specs.Cmp.{nat_cmp_total}
use Rattle.std.specs.FinMap.{FinMap, entries, entries_sorted, from_entries, from_sorted, entries-from_sorted, get-from_sorted, get-from_entries, is_sorted}
use Rattle.std.specs.FinMap.Entries.{below_all}
use Rattle.reservation_tree.specs.Total.{weigh, total}
use Rattle.reservation_tree.proofs.Maps.{alike}
use Rattle.pool_model.specs.Bytes.{bytes_of}
use Rattle.pin_core.specs.StateOf.{mapped}
use Rattle.pin_core.proofs.Listed.{bytes_plus, zero_bytes}

module _ {X Y : Type 0} (f : ℕ → X → Y) where
  abbrev each : List (ℕ × X) → List (ℕ × Y)
  each es = map (λ e. (e.0, f e.0 e.1)) es

  same_below : (k : ℕ) (es : List (ℕ × X)) → below_all nat_cmp k (each es) ≡ below_all nat_cmp k es
  same_below k [] = refl
  same_below k (e ∷ es) = ap (λ (b : Bool). is_lt (nat_cmp k e.0) && b) (same_below k es)

  same_sorted : (es : List (ℕ × X)) → is_sorted nat_cmp (each es) ≡ is_sorted nat_cmp es
  same_sorted [] = refl
  same_sorted (e ∷ es) = (λ i. same_below e.0 es i && same_sorted es i)

  entries_mapped : (m : FinMap nat_cmp X) → entries (mapped f m) ≡ each (entries m)
  unfolding mapped
  entries_mapped m =
      let rising : T (is_sorted nat_cmp (each (entries m))) = subst T (sym (same_sorted (entries m))) (entries_sorted m) in
      let same : from_entries (each (entries m)) ≡ from_sorted {R = nat_cmp} (each (entries m)) = alike _ _ (λ q. get-from_entries nat_cmp_total (each (entries m)) q ∙ sym (get-from_sorted nat_cmp (each (entries m)) q rising)) in
      ap (λ (n : FinMap nat_cmp Y). entries n) same ∙ entries-from_sorted nat_cmp (each (entries m)) rising

  weigh_each : (w : ℕ → Y → ℕ) (es : List (ℕ × X)) → weigh w (each es) ≡ weigh (λ k x. w k (f k x)) es
  weigh_each w [] = refl
  weigh_each w (e ∷ es) = ap (λ (n : ℕ). w e.0 (f e.0 e.1) + n) (weigh_each w es)

  -- a sum over what was replaced is a sum over what there was
  pub total_mapped : (w : ℕ → Y → ℕ) (m : FinMap nat_cmp X) → total w (mapped f m) ≡ total (λ k x. w k (f k x)) m
  unfolding total
  total_mapped w m = ap (weigh w) (entries_mapped m) ∙ weigh_each w (entries m)

module _ {X : Type 0} (len : ℕ) (w : ℕ → X → ℕ) where
  weigh_bytes : (es : List (ℕ × X)) → weigh (λ k x. bytes_of len (w k x)) es ≡ bytes_of len (weigh w es)
  weigh_bytes [] = sym (zero_bytes len)
  weigh_bytes (e ∷ es) =
      let rest = weigh_bytes es in
      let plus = bytes_plus len (w e.0 e.1) (weigh w es) in
      omega (arith, rest, plus)

  -- the bytes of all blocks
  pub total_bytes : (m : FinMap nat_cmp X) → total (λ k x. bytes_of len (w k x)) m ≡ bytes_of len (total w m)
  unfolding total
  total_bytes m = weigh_bytes (entries m)

-- the bytes of the longest page
pub short_bytes : (len blocks : ℕ) → blocks ≤ 256 → len ≤ 65536 → bytes_of len blocks ≤ 16777216
unfolding bytes_of
short_bytes len blocks few low = mul-le-mul few low
