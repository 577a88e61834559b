-- Slots of the pages of both sides, of which the top streams were read.
use Rattle.std.proofs.Common.{◌≡◌, ◌∙◌, inl, inr, ℕ, ◌+◌, ◌-◌, List, [], ◌∷◌, ◌++◌, length, Option, Some, None, option_map, refl, ap, sym, subst, arith}
use Rattle.std.specs.List.{sum_by}
use Rattle.std.proofs.lemmas.List.Sums.{sum_by-append, sum_by-cons}
use Rattle.store_api.specs.Holdings.{Holdings}
use Rattle.store_api.specs.Signs.{Signs}
use Rattle.store_api.specs.declared.op_err.OpErr.{OpErr}
use Rattle.store_api.specs.declared.op_err.OpErr.TheVariants.{Pool, Sink}
use Rattle.tuple_stream.specs.Families.{AllSized, Family, family, slots_in}
use Rattle.tuple_stream.specs.Streamed.{Streamed}
use Rattle.tuple_stream.specs.Touches.{slots_of}
use Rattle.tuple_stream.proofs.PageLists.{at_end, still_at}
use Rattle.partition_stack.specs.Sides.{OwnBoth}
use Rattle.partition_stack.specs.Slots.{IsWant, IsWantOf, KeepSlots, with_more}
use Rattle.partition_stack.proofs.ListPlaces.{front_or_behind, only_one}
use Rattle.partition_stack.proofs.Slots.{all_taken, full_want, keep_more, taken}
use Rattle.join_op.specs.Chunks.{ReadBoth}
use Rattle.join_op.specs.Slots.{IsFullOf, slots_of_two}
use Rattle.join_op.proofs.BothRead.{left_agrees, right_agrees}
use Rattle.join_op.proofs.BothSlots.{sized_both}

added : (o : Option ℕ) (a b m x : ℕ) → x ≡ a + b + m → option_map (λ n. n + x) o ≡ with_more m (with_more b (option_map (λ n. n + a) o))
added None a b m x is = refl
added (Some n) a b m x is = ap Some (omega (arith, is))

-- the top ones apart from those below them
apart_slots : (xs ys : List Streamed) (x y : Streamed) (h : Holdings) (signs : Signs) → slots_in (family ((xs ++ x ∷ []) ++ (ys ++ y ∷ [])) h signs) ≡ with_more (taken xs h + taken ys h) (slots_of_two x y h)
apart_slots xs ys x y h signs =
    let w : Streamed → ℕ = λ s. sum_by (slots_of s h) s.pages in
    let all : taken ((xs ++ x ∷ []) ++ (ys ++ y ∷ [])) h ≡ taken (xs ++ x ∷ []) h + taken (ys ++ y ∷ []) h = sum_by-append w (xs ++ x ∷ []) (ys ++ y ∷ []) in
    let one : taken (xs ++ x ∷ []) h ≡ taken xs h + taken (x ∷ []) h = sum_by-append w xs (x ∷ []) in
    let two : taken (ys ++ y ∷ []) h ≡ taken ys h + taken (y ∷ []) h = sum_by-append w ys (y ∷ []) in
    let last : taken (x ∷ []) h ≡ w x + 0 = sum_by-cons w x [] in
    let late : taken (y ∷ []) h ≡ w y + 0 = sum_by-cons w y [] in
    added h.free_slots (sum_by (slots_of x h) x.pages) (sum_by (slots_of y h) y.pages) (taken xs h + taken ys h) (taken ((xs ++ x ∷ []) ++ (ys ++ y ∷ [])) h) (omega (arith, all, one, two, last, late))

-- a stream of the same pages stands for the top one
pub sized_late : (blocks : ℕ) (ss : List Streamed) (x now : Streamed) (old new : Holdings) (before after : Signs) → now.page_blocks ≡ x.page_blocks → AllSized blocks (family (ss ++ x ∷ []) old before) → AllSized blocks (family (ss ++ now ∷ []) new after)
sized_late blocks ss x now old new before after same all i y there = elim (front_or_behind ss (now ∷ []) i y there) [
  | inl front ↦ all i y (still_at ss x y i front)
  | inr behind ↦ subst (λ (z : Streamed). z.page_blocks ≡ blocks) (only_one now (i - length ss) y behind.1).1 (same ∙ all (length ss) x (at_end ss x))
]

full_want_of : (blocks : ℕ) (f : Family) (total : Option ℕ) → slots_in f ≡ total → AllSized blocks f → (e : OpErr) → IsFullOf blocks f.held.free_slots e → IsWantOf blocks total e
full_want_of blocks f total same sized (Pool e) full = subst (λ (o : Option ℕ). IsWant blocks o e) same (full_want blocks f sized e full)
full_want_of blocks f total same sized Sink full = tt

module _ (t : ℕ) (client : Option ℕ) (ls rs : List Streamed) (l r l1 r1 : Streamed) (h h1 : Holdings) (s s1 : Signs) (own : OwnBoth t 0 (ls ++ l ∷ []) (rs ++ r ∷ []) h s) (read : ReadBoth t client l l1 r r1 h h1) (n0 n1 : ℕ)
    (keep : KeepSlots client (slots_of_two l r h) (slots_of_two l1 r1 h1) n0 n1) where
  -- those below stay
  pub read_slots : KeepSlots client (slots_in (family ((ls ++ l ∷ []) ++ (rs ++ r ∷ [])) h s)) (slots_in (family ((ls ++ l1 ∷ []) ++ (rs ++ r1 ∷ [])) h1 s1)) n0 n1
  read_slots =
      let one : taken ls h1 ≡ taken ls h = all_taken ls h h1 (left_agrees t client ls rs l r l1 r1 h h1 s s1 own read) in
      let two : taken rs h1 ≡ taken rs h = all_taken rs h h1 (right_agrees t client ls rs l r l1 r1 h h1 s s1 own read) in
      let all = keep_more client (slots_of_two l r h) (slots_of_two l1 r1 h1) n0 n1 (taken ls h + taken rs h) (taken ls h1 + taken rs h1) (omega (arith, one, two)) keep in
      subst (λ (o : Option ℕ). KeepSlots client o (slots_in (family ((ls ++ l1 ∷ []) ++ (rs ++ r1 ∷ [])) h1 s1)) n0 n1) (sym (apart_slots ls rs l r h s))
      (subst (λ (o : Option ℕ). KeepSlots client (with_more (taken ls h + taken rs h) (slots_of_two l r h)) o n0 n1) (sym (apart_slots ls rs l1 r1 h1 s1)) all)

  -- what stopped them, where the emitter has no client
  pub want_read : (blocks : ℕ) → client ≡ None → AllSized blocks (family (ls ++ l ∷ []) h s) → AllSized blocks (family (rs ++ r ∷ []) h s) → (e : OpErr) → IsFullOf blocks h1.free_slots e → IsWantOf blocks (slots_in (family ((ls ++ l ∷ []) ++ (rs ++ r ∷ [])) h s)) e
  want_read blocks none sized_l sized_r =
      full_want_of blocks (family ((ls ++ l1 ∷ []) ++ (rs ++ r1 ∷ [])) h1 s1) (slots_in (family ((ls ++ l ∷ []) ++ (rs ++ r ∷ [])) h s)) (read_slots.alone none)
      (sized_both blocks (ls ++ l1 ∷ []) (rs ++ r1 ∷ []) h1 s1 (sized_late blocks ls l l1 h h1 s s1 (ap (λ (x : Streamed). x.page_blocks) read.left_same) sized_l) (sized_late blocks rs r r1 h h1 s s1 (ap (λ (x : Streamed). x.page_blocks) read.right_same) sized_r))
