-- The hash of a key that is read field by field.
use Rattle.std.proofs.Common.{◌≡◌, ◌∙◌, ℕ, ◌+◌, ◌<◌, ◌≤◌, List, [], ◌∷◌, ◌++◌, length, drop, Option, Some, None, refl, ap, ap₂, sym, append-nil}
use Rattle.std.specs.Prelude.{filter_map, fold, get_or, option_map, option_and_then, slice_get}
use Rattle.std.specs.List.{cons_option}
use Rattle.std.proofs.lemmas.Option.{same_Some}
use Rattle.row_codec.specs.declared.values.Kind.{Kind}
use Rattle.row_codec.specs.Order.{hash_of, hash_step}
use Rattle.group_op.specs.KeyParts.{behind_key, counted, cut_at, hashed, hashed_left, key_in, parts_at, tagged}
use Rattle.group_op.proofs.KeyWalking.{counted_some, walk_ends, walk_more, walk_stops}

fold_both : (hash : ℕ) (xs ys : List ℕ) → fold hash_step hash (xs ++ ys) ≡ fold hash_step (fold hash_step hash xs) ys
fold_both hash [] ys = refl
fold_both hash (x ∷ xs) ys = fold_both (hash_step hash x) xs ys

-- ---- a column

pub hash_past : (o : Option Kind) (hash : ℕ) (bytes : List ℕ) → o ≡ None → Some (hash, bytes) ≡ hashed hash (parts_at (cons_option o []) bytes)
hash_past o hash bytes none = ap (λ (p : Option Kind). hashed hash (parts_at (cons_option p []) bytes)) (sym none)

abbrev one_part : Kind → Option (List ℕ × List ℕ) → Option (List ℕ × List ℕ)
one_part k found = option_and_then (λ (field, rest). option_map (λ (parts, behind). (tagged k field ++ parts, behind)) (parts_at [] rest)) found

pub hash_ends : (o : Option Kind) (k : Kind) (hash : ℕ) (bytes : List ℕ) → o ≡ Some k → None ≡ cut_at k bytes → None ≡ hashed hash (parts_at (cons_option o []) bytes)
hash_ends o k hash bytes is none =
    ap (λ (found : Option (List ℕ × List ℕ)). hashed hash (one_part k found)) none ∙ ap (λ (p : Option Kind). hashed hash (parts_at (cons_option p []) bytes)) (sym is)

pub hash_goes : (o : Option Kind) (k : Kind) (hash now : ℕ) (bytes field rest : List ℕ) → o ≡ Some k → Some (field, rest) ≡ cut_at k bytes → now ≡ fold hash_step hash (tagged k field) → Some (now, rest) ≡ hashed hash (parts_at (cons_option o []) bytes)
hash_goes o k hash now bytes field rest is cut so =
    ap (λ (n : ℕ). Some (n, rest)) (so ∙ ap (fold hash_step hash) (sym (append-nil (tagged k field))))
    ∙ ap (λ (found : Option (List ℕ × List ℕ)). hashed hash (one_part k found)) cut ∙ ap (λ (p : Option Kind). hashed hash (parts_at (cons_option p []) bytes)) (sym is)

-- ---- one after the other

-- some key has this hash, and what is left comes behind it
pub record Hashes (whole : Option (List ℕ × List ℕ)) (hash : ℕ) (left : Option (List ℕ × List ℕ)) : Type 0 where
  pub key : List ℕ
  pub hash_is : hash ≡ hash_of key
  pub is : whole ≡ behind_key key left

pub hashes_none : (o : Option (List ℕ × List ℕ)) (hash : ℕ) → hash ≡ hash_of [] → Hashes o hash o
hashes_none None hash is = record { key = []; hash_is = is; is = refl }
hashes_none (Some p) hash is = record { key = []; hash_is = is; is = refl }

more_hashed : (key bytes : List ℕ) (hash now : ℕ) (o : Option (List ℕ × List ℕ)) → hash ≡ hash_of key → Some (now, bytes) ≡ hashed hash o → (more : List ℕ) × (now ≡ hash_of more) × (Some (more, bytes) ≡ behind_key key o)
more_hashed key bytes hash now None is found = absurd cc
more_hashed key bytes hash now (Some p) is found =
    let same : (now, bytes) ≡ (fold hash_step hash p.0, p.1) = same_Some (now, bytes) (fold hash_step hash p.0, p.1) found in (
      key ++ p.0,
      ap (λ (q : ℕ × List ℕ). q.0) same ∙ ap (λ (h : ℕ). fold hash_step h p.0) is ∙ sym (fold_both (hash_of []) key p.0),
      ap (λ (bs : List ℕ). Some (key ++ p.0, bs)) (ap (λ (q : ℕ × List ℕ). q.1) same),
    )

none_hashed : (key : List ℕ) (hash : ℕ) (o : Option (List ℕ × List ℕ)) → None ≡ hashed hash o → None ≡ behind_key key o
none_hashed key hash None none = refl
none_hashed key hash (Some p) none = absurd cc

module _ (kinds : List Kind) (columns : List ℕ) (i : ℕ) (inside : i < length columns) (whole : Option (List ℕ × List ℕ)) (hash : ℕ) (rest : List ℕ) (is : Hashes whole hash (parts_at (filter_map (slice_get kinds) (drop i columns)) rest)) where
  pub hashes_more : (now : ℕ) (behind : List ℕ) → Some (now, behind) ≡ hashed hash (parts_at (cons_option (slice_get kinds (get_or columns i 0)) []) rest) → Hashes whole now (parts_at (filter_map (slice_get kinds) (drop (i + 1) columns)) behind)
  hashes_more now behind found =
      let more = more_hashed is.key behind hash now (parts_at (cons_option (slice_get kinds (get_or columns i 0)) []) rest) is.hash_is found in
      record { key = more.0; hash_is = more.1; is = walk_more kinds columns i inside whole is.key more.0 rest behind is.is more.2 }

  pub hashes_stop : None ≡ hashed hash (parts_at (cons_option (slice_get kinds (get_or columns i 0)) []) rest) → None ≡ hashed_left whole
  hashes_stop none =
      ap hashed_left
      (walk_stops kinds columns i inside whole is.key rest is.is (none_hashed is.key hash (parts_at (cons_option (slice_get kinds (get_or columns i 0)) []) rest) none))

pub hashes_end : (kinds : List Kind) (columns : List ℕ) (i : ℕ) (whole : Option (List ℕ × List ℕ)) (hash : ℕ) (rest : List ℕ) → length columns ≤ i → Hashes whole hash (parts_at (filter_map (slice_get kinds) (drop i columns)) rest)
    → Some (hash, length rest) ≡ hashed_left whole
hashes_end kinds columns i whole hash rest end is =
    let last = counted_some whole is.key (length rest) (walk_ends kinds columns i whole is.key rest end is.is) in
    ap₂ (λ (h n : ℕ). Some (h, n)) is.hash_is (sym last.2) ∙ ap hashed_left (sym last.1)

-- ---- what was found

pub key_hashed : (o : Option (List ℕ × List ℕ)) (hash left : ℕ) → Some (hash, left) ≡ hashed_left o → hash ≡ hash_of (key_in o)
key_hashed None hash left is = absurd cc
key_hashed (Some p) hash left is = ap (λ (q : ℕ × ℕ). q.0) (same_Some (hash, left) (hash_of p.0, length p.1) is)

pub none_keyed : (o : Option (List ℕ × List ℕ)) → None ≡ hashed_left o → hash_of [] ≡ hash_of (key_in o)
none_keyed None none = refl
none_keyed (Some p) none = absurd cc

-- a key that has the hash
pub hashed_some : (o : Option (List ℕ × List ℕ)) (hash left : ℕ) → Some (hash, left) ≡ hashed_left o → (key : List ℕ) × (Some (key, left) ≡ counted o) × (hash ≡ hash_of key)
hashed_some None hash left is = absurd cc
hashed_some (Some p) hash left is =
    let same : (hash, left) ≡ (hash_of p.0, length p.1) = same_Some (hash, left) (hash_of p.0, length p.1) is in
    (p.0, ap (λ (n : ℕ). Some (p.0, n)) (ap (λ (q : ℕ × ℕ). q.1) same), ap (λ (q : ℕ × ℕ). q.0) same)

pub none_counted : (o : Option (List ℕ × List ℕ)) → None ≡ hashed_left o → None ≡ counted o
none_counted None none = refl
none_counted (Some p) none = absurd cc
