-- The groups have exactly the keys of the rows.
use Rattle.std.proofs.Common.{◌≡◌, ℕ, Bool, ◌||◌, List, [], ◌∷◌, map, refl, ap, sym, ◌∙◌, subst}
use Rattle.std.specs.List.{Contains, list_any}
use Rattle.std.specs.List.Sorted.{IsStrictlySortedBy}
use Rattle.std.specs.Str.{bytes_eq}
use Rattle.std.proofs.lemmas.Map.Views.{Contains-from_any, list_any-from_Contains}
use Rattle.row_codec.specs.declared.values.Value.{Value}
use Rattle.row_codec.specs.RowBytes.{key_bytes}
use Rattle.group_rows.specs.Combining.{HaveKeysOf}
use Rattle.group_rows.specs.Keyed.{IsExactOrder, KeyOrder, keys_in}
use Rattle.group_rows.specs.Partials.{Grouping, group_in, key_of}
use Rattle.group_rows.proofs.Keys.{keys_sorted, keys_stand, true_same}
use Rattle.group_rows.proofs.Tables.{bytes_equiv}

keys_back : (grouping : Grouping) (rows : List (List Value)) (ks : List (List ℕ)) → map key_of (map (group_in grouping rows) ks) ≡ ks
keys_back grouping rows [] = refl
keys_back grouping rows (k ∷ ks) = ap (λ (l : List (List ℕ)). k ∷ l) (keys_back grouping rows ks)

any_key : (key : List Value → List ℕ) (q : List ℕ) (rows : List (List Value)) → list_any (λ row. bytes_eq q (key row)) rows ≡ list_any (bytes_eq q) (map key rows)
any_key key q [] = refl
any_key key q (row ∷ rows) = ap (λ (b : Bool). bytes_eq q (key row) || b) (any_key key q rows)

pub keys_of_groups : (order : KeyOrder) → IsExactOrder order → (grouping : Grouping) (rows : List (List Value)) → HaveKeysOf order grouping rows
keys_of_groups order is_order grouping rows =
    let key : List Value → List ℕ = key_bytes grouping.keys in
    let are = keys_back grouping rows (keys_in order (key_bytes grouping.keys) rows) in
    let same : (q : List ℕ) → list_any (bytes_eq q) (keys_in order (key_bytes grouping.keys) rows) ≡ list_any (bytes_eq q) (map (key_bytes grouping.keys) rows) =
    λ q. keys_stand order is_order (key_bytes grouping.keys) q rows ∙ any_key (key_bytes grouping.keys) q rows in
    record {
      ordered = subst (IsStrictlySortedBy order) (sym are) (keys_sorted order is_order (key_bytes grouping.keys) rows);
      exact = λ q. (
        (λ inside.
            Contains-from_any true_same q (map (key_bytes grouping.keys) rows)
            (sym (same q) ∙ list_any-from_Contains bytes_equiv q (keys_in order (key_bytes grouping.keys) rows) (subst (λ (ks : List (List ℕ)). Contains ks q) are inside))),
        (λ inside.
            subst (λ (ks : List (List ℕ)). Contains ks q) (sym are)
            (Contains-from_any true_same q (keys_in order (key_bytes grouping.keys) rows)
            (same q ∙ list_any-from_Contains bytes_equiv q (map (key_bytes grouping.keys) rows) inside))),
      );
    }
