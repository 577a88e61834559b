-- The records of a text, one after the other.
use Rattle.std.proofs.Common.{◌≡◌, ◌≤◌, ◌<◌, ◌+◌, ◌⊎◌, inl, inr, refl, sym, ap, arith, Bool, true, false, ℕ, zero, suc, List, [], ◌∷◌, ◌++◌, Option, Some, None, length}
use Rattle.std.specs.Prelude.{if◌then◌else◌}
use Rattle.csv.specs.Machine.{Read, next_record, ends_at_end, is_end, step, fields_after, field_after}
use Rattle.csv.specs.Reading.{records_from, records_next}
use Rattle.csv.specs.declared.parser.Config.{Config}
use Rattle.csv.specs.declared.parser.State.{State}
use Rattle.csv.specs.declared.parser.State.TheVariants as st

either : (b : Bool) (x y : Option Read) (p : Read) → (if b then x else y) ≡ Some p → (x ≡ Some p) ⊎ (y ≡ Some p)
either true x y p e = inl e
either false x y p e = inr e

-- what a record leaves is no longer than what it was read from
left-fits : (cfg : Config) (s : State) (fields : List (List ℕ)) (field xs : List ℕ) (p : Read)
    → next_record cfg s fields field xs ≡ Some p → length p.2 ≤ length xs
unfolding next_record
left-fits cfg s fields field [] p e =
    elim (either (ends_at_end s) (Some (fields ++ (field ∷ []), st.StartRecord, [])) None p e) [
      | inl h ↦ let q : ◌≡◌ {A = Read} (fields ++ (field ∷ []), st.StartRecord, []) p = cc h in let k : length {A = ℕ} [] ≡ length p.2 = ap (λ (t : Read). length t.2) q in omega arith
      | inr h ↦ cc h
    ]
left-fits cfg s fields field (c ∷ rest) p e =
    elim (either (is_end (step cfg s c).1) _ _ p e) [
      | inl h ↦ let q : ◌≡◌ {A = Read} (fields_after (step cfg s c).1 fields field, (step cfg s c).0, rest) p = cc h in let k : length rest ≡ length p.2 = ap (λ (t : Read). length t.2) q in omega arith
      | inr h ↦ let r = left-fits cfg (step cfg s c).0 (fields_after (step cfg s c).1 fields field) (field_after (step cfg s c).1 c field) rest p h in omega (arith, r)
    ]

-- a record takes at least a byte, where there is one
takes-byte : (cfg : Config) (s : State) (fields : List (List ℕ)) (field : List ℕ) (c : ℕ) (rest : List ℕ) (p : Read)
    → next_record cfg s fields field (c ∷ rest) ≡ Some p → length p.2 ≤ length rest
unfolding next_record
takes-byte cfg s fields field c rest p e =
    elim (either (is_end (step cfg s c).1) _ _ p e) [
      | inl h ↦ let q : ◌≡◌ {A = Read} (fields_after (step cfg s c).1 fields field, (step cfg s c).0, rest) p = cc h in let k : length rest ≡ length p.2 = ap (λ (t : Read). length t.2) q in omega arith
      | inr h ↦ left-fits cfg (step cfg s c).0 (fields_after (step cfg s c).1 fields field) (field_after (step cfg s c).1 c field) rest p h
    ]

-- at the end of the text a record leaves none, and no second one comes
at-end : (cfg : Config) (s : State) (p : Read) → next_record cfg s [] [] [] ≡ Some p → (p.1 ≡ st.StartRecord) × (p.2 ≡ [])
unfolding next_record
at-end cfg s p e =
    elim (either (ends_at_end s) (Some ([] ++ ([] ∷ []), st.StartRecord, [])) None p e) [
      | inl h ↦ let q : ◌≡◌ {A = Read} ([] ++ ([] ∷ []), st.StartRecord, []) p = cc h in (sym (ap (λ (t : Read). t.1) q), sym (ap (λ (t : Read). t.2) q))
      | inr h ↦ cc h
    ]

none-after : (cfg : Config) (n : ℕ) → records_from cfg n st.StartRecord [] ≡ []
unfolding records_from next_record
none-after cfg zero = refl
none-after cfg (suc n) = refl

-- as many turns as there are bytes, and one, read all the records
next-same : (cfg : Config) (n m : ℕ) (s : State) (xs : List ℕ) (o : Option Read)
    → ((s2 : State) (ys : List ℕ) → length ys < n → length ys < m → records_from cfg n s2 ys ≡ records_from cfg m s2 ys)
    → length xs < suc n → length xs < suc m → next_record cfg s [] [] xs ≡ o → records_next (records_from cfg n) o ≡ records_next (records_from cfg m) o
next-same cfg n m s xs None same lt lt2 e = refl
next-same cfg n m s [] (Some p) same lt lt2 e = let k = at-end cfg s p e in rw (k.0, k.1, none-after cfg n, none-after cfg m) refl
next-same cfg n m s (c ∷ rest) (Some p) same lt lt2 e =
    let k = takes-byte cfg s [] [] c rest p e in
    rw (same p.1 p.2 (omega (arith, k)) (omega (arith, k))) refl

turns-same : (cfg : Config) (n m : ℕ) (s : State) (xs : List ℕ) → length xs < n → length xs < m → records_from cfg n s xs ≡ records_from cfg m s xs
unfolding records_from
turns-same cfg zero m s xs lt lt2 = absurd (omega arith)
turns-same cfg (suc n) zero s xs lt lt2 = absurd (omega arith)
turns-same cfg (suc n) (suc m) s xs lt lt2 =
    next-same cfg n m s xs (next_record cfg s [] [] xs) (λ s2 ys below below2. turns-same cfg n m s2 ys below below2) lt lt2 refl

-- the first record, and then those behind it
pub record-then : (cfg : Config) (s : State) (xs : List ℕ) (p : Read) → next_record cfg s [] [] xs ≡ Some p
    → records_from cfg (length xs + 1) s xs ≡ p.0 ∷ records_from cfg (length p.2 + 1) p.1 p.2
unfolding records_from next_record
record-then cfg s [] p e =
    let k = at-end cfg s p e in
    rw (e, k.0, k.1, none-after cfg 0) refl
record-then cfg s (c ∷ rest) p e =
    let k = takes-byte cfg s [] [] c rest p e in
    let size : length (c ∷ rest) + 1 ≡ suc (length (c ∷ rest)) = omega arith in
    rw (size, e, turns-same cfg (length (c ∷ rest)) (length p.2 + 1) p.1 p.2 (omega (arith, k)) (omega arith)) refl

-- no record
pub record-none : (cfg : Config) (s : State) (xs : List ℕ) → next_record cfg s [] [] xs ≡ None → records_from cfg (length xs + 1) s xs ≡ []
unfolding records_from
record-none cfg s xs e = let k : length xs + 1 ≡ suc (length xs) = omega arith in rw (k, e) refl
