-- The first key of a table that is not allowed is the least one, since the keys ascend.
use Rattle.std.proofs.Common.{◌≡◌, ℕ, List, [], ◌∷◌, map, filter, fold, not, Bool, true, false, Some, None, String, Global, Less, Greater, nat_cmp, string_bytes, cond, refl, ap, ◌∙◌}
use Rattle.std.proofs.lemmas.Cmp.{nat_list_cmp_total}
use Rattle.std.specs.Cmp.Lexicographic.{slice_cmp}
use Rattle.std.specs.Ordering.{ordering_reverse}
use Rattle.std.specs.String.{string_cmp}
use Rattle.std.specs.List.{AllByRecursion}
use Rattle.std.specs.List.Sorted.{IsStrictlySortedBy}
use Rattle.std.specs.Map.{keys_of}
use Rattle.toml.specs.declared.value.Value.{Value}
use Rattle.toml.specs.View.{members_view}
use Rattle.query_plan.specs.Values.{keys_in}
use Rattle.query_plan.specs.Faults.{lesser, least_key}

-- the keys that were seen are allowed; those that are left ascend
pub record LeftToSee (allowed : List ℕ → Bool) (keys : List (List ℕ)) (left : List (String Global)) : Type 0 where
  pub sorted : IsStrictlySortedBy string_cmp left
  pub same : filter (λ key. not (allowed key)) keys ≡ filter (λ key. not (allowed key)) (map string_bytes left)

pub keys_seen : (entries : List (String Global × Value)) → keys_in (members_view entries) ≡ map string_bytes (keys_of entries)
keys_seen [] = refl
keys_seen (entry ∷ entries) = ap (λ rest. string_bytes entry.0 ∷ rest) (keys_seen entries)

lesser_keeps : (key other : List ℕ) → slice_cmp nat_cmp other key ≡ Greater → lesser key other ≡ key
lesser_keeps key other above = rw above refl

kept_or_passed : (is : Bool) (key other : List ℕ) (more : List (List ℕ)) → lesser key other ≡ key → fold lesser key more ≡ key
    → fold lesser key (cond is (other ∷ more) more) ≡ key
kept_or_passed true key other more keeps stays = ap (λ least. fold lesser least more) keeps ∙ stays
kept_or_passed false key other more keeps stays = stays

-- a key that is below all others stays the least
least_stays : (bad : List ℕ → Bool) (key : String Global) (others : List (String Global))
    → AllByRecursion (λ other. string_cmp key other ≡ Less) others
    → fold lesser (string_bytes key) (filter bad (map string_bytes others)) ≡ string_bytes key
least_stays bad key [] below = refl
least_stays bad key (other ∷ others) below =
    let above : slice_cmp nat_cmp (string_bytes other) (string_bytes key) ≡ Greater =
    nat_list_cmp_total.antisymm (string_bytes other) (string_bytes key) ∙ ap ordering_reverse below.0 in
    kept_or_passed (bad (string_bytes other)) (string_bytes key) (string_bytes other) _
    (lesser_keeps (string_bytes key) (string_bytes other) above) (least_stays bad key others below.1)

-- the first key that is left and not allowed is the least one
pub first_is_least : (allowed : List ℕ → Bool) (keys : List (List ℕ)) (left : List (String Global)) (key : String Global) (rest : List (String Global))
    → LeftToSee allowed keys left → left ≡ key ∷ rest → allowed (string_bytes key) ≡ false
    → least_key (filter (λ k. not (allowed k)) keys) ≡ Some (string_bytes key)
unfolding IsStrictlySortedBy
first_is_least allowed keys left key rest seen is bad =
    let sorted : IsStrictlySortedBy string_cmp (key ∷ rest) = rw is at seen.sorted in
    rw (seen.same, is, bad, least_stays (λ k. not (allowed k)) key rest sorted.0) refl

-- a key that is allowed is passed over
pub seen_more : (allowed : List ℕ → Bool) (keys : List (List ℕ)) (left : List (String Global)) (key : String Global) (rest : List (String Global))
    → LeftToSee allowed keys left → left ≡ key ∷ rest → allowed (string_bytes key) ≡ true → LeftToSee allowed keys rest
unfolding IsStrictlySortedBy
seen_more allowed keys left key rest seen is good =
    let sorted : IsStrictlySortedBy string_cmp (key ∷ rest) = rw is at seen.sorted in
    record { sorted = sorted.1; same = rw (seen.same, is, good) refl }

-- where none is left, each is allowed
pub none_left : (allowed : List ℕ → Bool) (keys : List (List ℕ)) (left : List (String Global))
    → LeftToSee allowed keys left → left ≡ [] → least_key (filter (λ k. not (allowed k)) keys) ≡ None
none_left allowed keys left seen is = rw (seen.same, is) refl

pub all_left : (allowed : List ℕ → Bool) (entries : List (String Global × Value)) (left : List (String Global))
    → IsStrictlySortedBy string_cmp (keys_of entries) → left ≡ keys_of entries → LeftToSee allowed (keys_in (members_view entries)) left
all_left allowed entries left sorted is = record { sorted = rw is sorted; same = rw (keys_seen entries, is) refl }
