-- What one pass over a stream keeps.
use Rattle.std.proofs.Common.{◌≡◌, ◌∙◌, ℕ, zero, suc, ◌≤◌, Bool, true, false, List, [], ◌∷◌, ◌++◌, length, map, take, Option, Some, None, refl, ap, sym, subst, arith, append-nil}
use Rattle.std.specs.Prelude.{All, filter, if◌then◌else◌}
use Rattle.std.specs.Cmp.Lexicographic.{slice_cmp}
use Rattle.std.specs.Ordering.{nat_cmp}
use Rattle.std.specs.List.{AllByRecursion}
use Rattle.std.specs.List.Sorted.{IsStrictlySortedBy}
use Rattle.std.proofs.lemmas.List.{length-map, length-take, map-append, take-map}
use Rattle.std.proofs.lemmas.List.Elements.{filter-append}
use Rattle.store_api.specs.declared.shapes.Shape.{Shape}
use Rattle.tuple_stream.specs.Places.{Place, first}
use Rattle.tuple_stream.specs.Reading.{HasRead, Keeps, ReadsRow}
use Rattle.tuple_stream.specs.Steps.{Reads, Scene, Shaped}
use Rattle.tuple_stream.proofs.ReadAll.{read_first, read_more, read_none}
use Rattle.group_rows.specs.Kept.{AreOrdered}
use Rattle.group_rows.specs.Keyed.{KeyOrder}
use Rattle.group_rows.specs.Ordered.{put}
use Rattle.group_rows.specs.Partials.{Grouping, Partial, combine, combined_by, key_of}
use Rattle.group_rows.proofs.Each.{keys_each}
use Rattle.group_rows.proofs.InOrder.{first_suffice}
use Rattle.group_rows.proofs.Keys.{keys_sorted}
use Rattle.group_rows.proofs.Merging.{combines}
use Rattle.group_rows.proofs.Paths.{bytes_is_order}
use Rattle.group_op.specs.declared.lowest.Entry.{Entry}
use Rattle.group_op.specs.Keepings.{HasKept, IsKept, all_above, is_above, kept_in, lowest_above, taken_in}
use Rattle.group_op.specs.Stored.{grouping_of, partial_at, partials_at}

all_of_take : (P : List ℕ → Type 0) (n : ℕ) (ks : List (List ℕ)) → AllByRecursion P ks → AllByRecursion P (take n ks)
all_of_take P zero ks all = tt
all_of_take P (suc n) [] all = tt
all_of_take P (suc n) (k ∷ ks) all = (all.0, all_of_take P n ks all.1)

sorted_take : (order : KeyOrder) (n : ℕ) (ks : List (List ℕ)) → IsStrictlySortedBy order ks → IsStrictlySortedBy order (take n ks)
unfolding IsStrictlySortedBy
sorted_take order zero ks sorted = tt
sorted_take order (suc n) [] sorted = tt
sorted_take order (suc n) (k ∷ ks) sorted = (all_of_take (λ y. order k y ≡ _) n ks sorted.0, sorted_take order n ks sorted.1)

pub groups_ordered : (grouping : Grouping) (ps : List Partial) → AreOrdered (slice_cmp nat_cmp) (combined_by (slice_cmp nat_cmp) grouping ps)
groups_ordered grouping ps = subst (IsStrictlySortedBy (slice_cmp nat_cmp)) (sym (keys_each key_of (combine grouping) (combines grouping) (slice_cmp nat_cmp) bytes_is_order ps)) (keys_sorted (slice_cmp nat_cmp) bytes_is_order key_of ps)

pub lowest_ordered : (room : ℕ) (grouping : Grouping) (last : Option (List ℕ)) (ps : List Partial) → AreOrdered (slice_cmp nat_cmp) (lowest_above room grouping last ps)
lowest_ordered room grouping last ps =
    subst (IsStrictlySortedBy (slice_cmp nat_cmp)) (take-map key_of room (combined_by (slice_cmp nat_cmp) grouping (all_above last ps)))
    (sorted_take (slice_cmp nat_cmp) room (map key_of (combined_by (slice_cmp nat_cmp) grouping (all_above last ps))) (groups_ordered grouping (all_above last ps)))

take_none : (n : ℕ) → take {A = Partial} n [] ≡ []
take_none zero = refl
take_none (suc n) = refl

-- one more row was shown
one_more : (room : ℕ) (grouping : Grouping) (last : Option (List ℕ)) (ps : List Partial) (p : Partial) (b : Bool) → is_above last p.key ≡ b
    → lowest_above room grouping last (ps ++ p ∷ []) ≡ (if b then take room (put (slice_cmp nat_cmp) grouping p (lowest_above room grouping last ps)) else lowest_above room grouping last ps)
one_more room grouping last ps p true is =
    let one : filter (λ p. is_above last p.key) (p ∷ []) ≡ p ∷ [] = rw is refl in
    ap (λ (xs : List Partial). take room (combined_by (slice_cmp nat_cmp) grouping xs)) (filter-append (λ p. is_above last p.key) ps (p ∷ []) ∙ ap (λ (xs : List Partial). all_above last ps ++ xs) one)
    ∙ first_suffice (slice_cmp nat_cmp) bytes_is_order grouping room (all_above last ps) p
one_more room grouping last ps p false is =
    let none : filter (λ p. is_above last p.key) (p ∷ []) ≡ [] = rw is refl in
    ap (λ (xs : List Partial). take room (combined_by (slice_cmp nat_cmp) grouping xs)) (filter-append (λ p. is_above last p.key) ps (p ∷ []) ∙ ap (λ (xs : List Partial). all_above last ps ++ xs) none ∙ append-nil (all_above last ps))

-- a pass that stands at a place
pub record IsKeeping (t : ℕ) (shape : Shape) (room : ℕ) (last : Option (List ℕ)) (entries : List Entry) (place : Place) (a b : Scene) : Type 0 where
  pub now : List (List ℕ)
  pub read : HasRead t [] now place a b
  pub each : All (IsKept shape) entries
  pub kept : kept_in shape entries ≡ lowest_above room (grouping_of shape) last (partials_at shape now)

pub keeping_none : (t : ℕ) (shape : Shape) (room : ℕ) (last : Option (List ℕ)) (entries : List Entry) (place : Place) (a : Scene) → place ≡ first → Shaped t a → entries ≡ [] → IsKeeping t shape room last entries place a a
keeping_none t shape room last entries place a start is none =
    record {
      now = [];
      read = read_first t [] place a start is;
      each = subst (All (IsKept shape)) (sym none) (λ k d inside. absurd (omega (arith, inside)));
      kept = ap (kept_in shape) none ∙ sym (take_none room);
    }

module _ (t : ℕ) (shape : Shape) (room : ℕ) (last : Option (List ℕ)) (entries : List Entry) (place : Place) (a b : Scene) (is : IsKeeping t shape room last entries place a b) where
  pub kept_ordered : AreOrdered (slice_cmp nat_cmp) (kept_in shape entries)
  kept_ordered = subst (AreOrdered (slice_cmp nat_cmp)) (sym is.kept) (lowest_ordered room (grouping_of shape) last (partials_at shape is.now))

  pub kept_few : length entries ≤ room
  kept_few =
      let groups : List Partial = combined_by (slice_cmp nat_cmp) (grouping_of shape) (all_above last (partials_at shape is.now)) in
      let long = length-map entries (λ (e : Entry). partial_at shape e.row.items) in
      let same = ap length is.kept in
      let cut = length-take room groups in
      omega (arith, long, same, cut)

  pub keeping_more : (c : Scene) (behind : Place) (row : List ℕ) (next : List Entry) → Reads t b c → c.stream ≡ record b.stream { pinned = c.stream.pinned } → ReadsRow place behind row b c → All (IsKept shape) next
      → kept_in shape next ≡ taken_in room (grouping_of shape) last (partial_at shape row) (kept_in shape entries) → IsKeeping t shape room last next behind a c
  keeping_more c behind row next went same one each taken =
      record {
        now = is.now ++ row ∷ [];
        read = read_more t [] is.now row place behind a b c is.read went same one;
        each = each;
        kept =
            taken ∙ ap (taken_in room (grouping_of shape) last (partial_at shape row)) is.kept
            ∙ sym (one_more room (grouping_of shape) last (partials_at shape is.now) (partial_at shape row) (is_above last (partial_at shape row).key) refl)
            ∙ ap (lowest_above room (grouping_of shape) last) (sym (map-append (partial_at shape) is.now (row ∷ [])));
      }

  pub keeping_all : place.row ≡ b.stream.count → HasKept shape room last entries a.stream a.held
  keeping_all ends =
      record {
        read = is.now;
        shown = λ rows told shows. (read_none t [] is.now place a b is.read ends).rows_are rows told shows;
        each = is.each;
        kept = is.kept;
      }

-- what a call answered
pub row_found : (found : Bool) (row : List ℕ) (place behind : Place) (a b : Scene) → found ≡ true → Keeps (if found then Some row else None) place behind a b → ReadsRow place behind row a b
row_found true row place behind a b is keeps = keeps
row_found false row place behind a b is keeps = cc

pub none_found : (found : Bool) (row : List ℕ) (place behind : Place) (a b : Scene) → found ≡ false → Keeps (if found then Some row else None) place behind a b → place.row ≡ a.stream.count
none_found true row place behind a b is keeps = cc
none_found false row place behind a b is keeps = keeps.0
