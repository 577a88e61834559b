-- What keeps a stack one.
use Rattle.std.proofs.Common.{◌≡◌, inl, inr, ℕ, zero, suc, ◌+◌, ◌-◌, ◌<◌, ◌≤◌, List, [], ◌∷◌, ◌++◌, length, replicate, set, get_or, take, Some, refl, ap, sym, ◌∙◌, subst, arith, length-append}
use Rattle.std.specs.List.{slice_get}
use Rattle.std.proofs.lemmas.Bool.{cases_eq, cases_lt}
use Rattle.std.proofs.Math.Seq.{take-append_seam}
use Rattle.std.proofs.lemmas.List.{length-replicate, length-set, length-take-le, set-append_left}
use Rattle.std.proofs.lemmas.Option.{none-some, slice_get-get_or, slice_get_within}
use Rattle.store_api.specs.Conditions.{IsBlockCount}
use Rattle.tuple_stream.specs.Streamed.{Streamed}
use Rattle.tuple_stream.proofs.OnePlace.{each_changed, here, other, set_long}
use Rattle.partition_stack.specs.Stack.{IsPlaced, IsStack, Stack, divided, empty, first_sixteen}
use Rattle.partition_stack.specs.Laws.{FewPartitions}
use Rattle.partition_stack.proofs.ListPlaces.{front_or_behind, in_front, of_replicate}

pub first_is_stack : (blocks : ℕ) → IsBlockCount blocks → IsStack (first_sixteen blocks)
first_is_stack blocks sized =
    record {
      sized = sized;
      each = λ i s at. ap (λ (r : Streamed). r.page_blocks) (of_replicate 16 (empty blocks) i s at);
      levelled = refl;
      placed = λ i level at.
          let one = of_replicate {X = ℕ} 16 1 i level at in
          let inside = slice_get_within {A = ℕ} (replicate 16 1) i level at in
          let many = length-replicate {A = ℕ} 16 1 in
          record { deep = omega (arith, one); low = omega (arith, one, inside, many) };
    }

module _ (at level : ℕ) (p : Stack) (is : IsStack p) (top : length p.streams ≡ at + 1) (has : slice_get p.levels at ≡ Some level) (low : level < 16) where
  set_many : length (set p.levels at (level + 1)) ≡ at + 1
  set_many = length-set p.levels at (level + 1) ∙ is.levelled ∙ top

  -- the one that was divided is a level deeper, where it stood
  here_placed : IsPlaced at (level + 1)
  here_placed = let was = is.placed at level has in record { deep = omega (arith, low); low = omega (arith, was.low) }

  front_placed : (i l : ℕ) → slice_get (set p.levels at (level + 1)) i ≡ Some l → IsPlaced i l
  front_placed i l there =
      elim (cases_eq i at) [
        | inl same ↦ subst (λ (k : ℕ). IsPlaced k l) (sym same) (subst (IsPlaced at) (here p.levels at has (level + 1) i l same there) here_placed)
        | inr apart ↦ is.placed i l (other p.levels at has (level + 1) i l apart there)
      ]

  behind_placed : (i l : ℕ) → length (set p.levels at (level + 1)) ≤ i → slice_get (replicate 16 (level + 1)) (i - length (set p.levels at (level + 1))) ≡ Some l → IsPlaced i l
  behind_placed i l above there =
      let one = of_replicate 16 (level + 1) (i - length (set p.levels at (level + 1))) l there in
      let inside = slice_get_within (replicate 16 (level + 1)) (i - length (set p.levels at (level + 1))) l there in
      let many = length-replicate 16 (level + 1) in
      let was = is.placed at level has in
      record { deep = omega (arith, one, low); low = omega (arith, one, inside, many, set_many, above, was.low) }

  pub divided_is_stack : IsStack (divided at level p)
  divided_is_stack =
      record {
        sized = is.sized;
        each = λ i s there.
            elim (front_or_behind p.streams (replicate 16 (empty p.page_blocks)) i s there) [
              | inl was ↦ is.each i s was
              | inr new ↦ ap (λ (r : Streamed). r.page_blocks) (of_replicate 16 (empty p.page_blocks) (i - length p.streams) s new.1)
            ];
        levelled =
            length-append (set p.levels at (level + 1)) (replicate 16 (level + 1)) ∙ ap (λ (n : ℕ). n + length (replicate 16 (level + 1))) (set_many ∙ sym top)
            ∙ ap (λ (n : ℕ). length p.streams + n) (length-replicate 16 (level + 1) ∙ sym (length-replicate 16 (empty p.page_blocks)))
            ∙ sym (length-append p.streams (replicate 16 (empty p.page_blocks)));
        placed = λ i l there.
            elim (front_or_behind (set p.levels at (level + 1)) (replicate 16 (level + 1)) i l there) [
              | inl was ↦ front_placed i l was
              | inr new ↦ behind_placed i l new.0 new.1
            ];
      }

-- where one stream became another with pages of the same blocks
pub changed_is_stack : (p : Stack) (at : ℕ) (a now : Streamed) → IsStack p → slice_get p.streams at ≡ Some a → now.page_blocks ≡ a.page_blocks → IsStack (record p { streams = set p.streams at now })
changed_is_stack p at a now is there same =
    record {
      sized = is.sized;
      each = each_changed p.streams at there now (λ s. s.page_blocks ≡ p.page_blocks) is.each (same ∙ is.each at a there);
      levelled = is.levelled ∙ sym (set_long p.streams at now);
      placed = is.placed;
    }

in_take : {X : Type 0} (n : ℕ) (xs : List X) (i : ℕ) (x : X) → slice_get (take n xs) i ≡ Some x → slice_get xs i ≡ Some x
in_take zero xs i x at = absurd (none-some x at)
in_take (suc n) [] i x at = absurd (none-some x at)
in_take (suc n) (y ∷ xs) zero x at = at
in_take (suc n) (y ∷ xs) (suc i) x at = in_take n xs i x at

-- without the top one
pub popped_is_stack : (p : Stack) (front : List Streamed) (s : Streamed) → IsStack p → p.streams ≡ front ++ s ∷ [] → IsStack (record p { streams = front; levels = take (length front) p.levels })
popped_is_stack p front s is split =
    let long : length p.streams ≡ length front + 1 = ap length split ∙ length-append front (s ∷ []) in
    record {
      sized = is.sized;
      each = λ i r there. is.each i r (ap (λ (ss : List Streamed). slice_get ss i) split ∙ in_front front (s ∷ []) i r there);
      levelled = length-take-le (length front) p.levels (omega (arith, is.levelled, long));
      placed = λ i level there. is.placed i level (in_take (length front) p.levels i level there);
    }

pub few_partitions : FewPartitions
few_partitions p is =
    elim (cases_lt 0 (length p.levels)) [
      | inl some ↦
          let top = is.placed (length p.levels - 1) (get_or p.levels (length p.levels - 1) 0) (slice_get-get_or p.levels (length p.levels - 1) 0 (omega (arith, some))) in
          omega (arith, some, top.deep, top.low, is.levelled)
      | inr none ↦ omega (arith, none, is.levelled)
    ]

-- the same blocks and levels, and streams with the same blocks
pub rested_is_stack : (p : Stack) (streams : List Streamed) → IsStack p → length streams ≡ length p.streams → ((i : ℕ) (s : Streamed) → slice_get streams i ≡ Some s → s.page_blocks ≡ p.page_blocks) → IsStack (record p { streams = streams })
rested_is_stack p streams is long each = record { sized = is.sized; each = each; levelled = is.levelled ∙ sym long; placed = is.placed }

pub sixteen_levels : (levels : List ℕ) (at level : ℕ) → at < length levels → set (levels ++ replicate 16 level) at level ≡ set levels at level ++ replicate 16 level
sixteen_levels levels at level inside = set-append_left levels (replicate 16 level) at level inside

-- all but the last one
pub front_taken : (n : ℕ) (xs front : List ℕ) (x : ℕ) → xs ≡ front ++ x ∷ [] → length xs ≡ n + 1 → front ≡ take n xs
front_taken n xs front x split long =
    let many : length front ≡ n = let all = ap length split in let push = length-append front (x ∷ []) in omega (arith, all, push, long) in
    sym (ap (take n) split ∙ ap (λ (k : ℕ). take k (front ++ x ∷ [])) (sym many) ∙ take-append_seam front (x ∷ []))
