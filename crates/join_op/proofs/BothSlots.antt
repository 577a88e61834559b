-- Slots of the pages of both sides of a join.
use Rattle.std.proofs.Common.{◌≡◌, ◌∙◌, inl, inr, ℕ, suc, ◌+◌, ◌-◌, List, [], ◌∷◌, ◌++◌, length, replicate, Option, Some, None, option_map, refl, ap, sym, arith}
use Rattle.std.specs.List.{slice_get, sum_by}
use Rattle.std.proofs.lemmas.List.Sums.{sum_by-append}
use Rattle.reservation_tree.specs.declared.errors.PoolErr.{PoolErr}
use Rattle.store_api.specs.Holdings.{Holdings}
use Rattle.store_api.specs.Signs.{Signs}
use Rattle.store_api.specs.Tokens.{PageToken}
use Rattle.tuple_stream.specs.Families.{AllSized, FamilySteps, TouchesAll, family, slots_in}
use Rattle.tuple_stream.specs.Streamed.{Streamed}
use Rattle.tuple_stream.specs.Streams.{IsApart, IsOwnPage}
use Rattle.tuple_stream.specs.Touches.{IsFull, slots_of}
use Rattle.tuple_stream.proofs.Chosen.{at_place}
use Rattle.tuple_stream.proofs.PageLists.{still_at}
use Rattle.pool_model.specs.declared.event.Event.{Event}
use Rattle.partition_stack.specs.Sides.{OwnBoth}
use Rattle.partition_stack.specs.Slots.{IsWant, SameSlots}
use Rattle.partition_stack.specs.Stack.{IsStack, Stack, divided, empty, no_stack, over}
use Rattle.partition_stack.proofs.ListPlaces.{front_or_behind, in_front, of_replicate}
use Rattle.partition_stack.proofs.Slots.{all_taken, full_since, more_taken, slots_then, taken}
use Rattle.join_op.specs.Operator.{over_both}

twice : (o : Option ℕ) (a m x : ℕ) → x ≡ m + a → option_map (λ n. n + x) o ≡ option_map (λ n. n + a) (option_map (λ n. n + m) o)
twice None a m x is = refl
twice (Some n) a m x is = ap Some (omega (arith, is))

both_slots : (xs ys : List Streamed) (h : Holdings) (signs : Signs) → slots_in (family (xs ++ ys) h signs) ≡ option_map (λ n. n + taken ys h) (slots_in (family xs h signs))
both_slots xs ys h signs = twice h.free_slots (taken ys h) (taken xs h) (taken (xs ++ ys) h) (sum_by-append (λ (s : Streamed). sum_by (slots_of s h) s.pages) xs ys)

turned_slots : (xs ys : List Streamed) (h : Holdings) (signs : Signs) → slots_in (family (xs ++ ys) h signs) ≡ slots_in (family (ys ++ xs) h signs)
turned_slots xs ys h signs =
    let one : taken (xs ++ ys) h ≡ taken xs h + taken ys h = sum_by-append (λ (s : Streamed). sum_by (slots_of s h) s.pages) xs ys in
    let two : taken (ys ++ xs) h ≡ taken ys h + taken xs h = sum_by-append (λ (s : Streamed). sum_by (slots_of s h) s.pages) ys xs in
    let same : taken (xs ++ ys) h ≡ taken (ys ++ xs) h = omega (arith, one, two) in
    ap (λ (m : ℕ). option_map (λ (n : ℕ). n + m) h.free_slots) same

-- ---- pages of one length

in_behind : (xs ys : List Streamed) (j : ℕ) (z : Streamed) → slice_get ys j ≡ Some z → slice_get (xs ++ ys) (length xs + j) ≡ Some z
in_behind [] ys j z at = ap (slice_get ys) (none_more j) ∙ at
  where
    none_more : (j : ℕ) → 0 + j ≡ j
    none_more j = omega arith
in_behind (x ∷ xs) ys j z at = ap (slice_get (x ∷ (xs ++ ys))) (one_more (length xs) j) ∙ in_behind xs ys j z at
  where
    one_more : (n j : ℕ) → suc n + j ≡ suc (n + j)
    one_more n j = omega arith

module _ (blocks : ℕ) (xs ys : List Streamed) (h : Holdings) (signs : Signs) where
  pub sized_both : AllSized blocks (family xs h signs) → AllSized blocks (family ys h signs) → AllSized blocks (family (xs ++ ys) h signs)
  sized_both one two i s there = elim (front_or_behind xs ys i s there) [
    | inl front ↦ one i s front
    | inr behind ↦ two (i - length xs) s behind.1
  ]

  pub sized_front : AllSized blocks (family (xs ++ ys) h signs) → AllSized blocks (family xs h signs)
  sized_front all i s there = all i s (in_front xs ys i s there)

  pub sized_behind : AllSized blocks (family (xs ++ ys) h signs) → AllSized blocks (family ys h signs)
  sized_behind all j s there = all (length xs + j) s (in_behind xs ys j s there)

  sized_turned : AllSized blocks (family (xs ++ ys) h signs) → AllSized blocks (family (ys ++ xs) h signs)
  sized_turned all i s there = elim (front_or_behind ys xs i s there) [
    | inl front ↦ sized_behind all i s front
    | inr behind ↦ sized_front all (i - length ys) s behind.1
  ]

-- the sides may change places
pub slots_turned : (blocks : ℕ) (xs ys us vs : List Streamed) (old new : Holdings) (before after : Signs) → SameSlots blocks (family (xs ++ ys) old before) (family (us ++ vs) new after) → SameSlots blocks (family (ys ++ xs) old before) (family (vs ++ us) new after)
slots_turned blocks xs ys us vs old new before after same =
    record {
      sum = turned_slots vs us new after ∙ same.sum ∙ turned_slots xs ys old before;
      sized = λ all. sized_turned blocks us vs new after (same.sized (sized_turned blocks ys xs old before all));
    }

-- ---- one side is called

module _ (t lent : ℕ) (left now right : List Streamed) (old new : Holdings) (before after : Signs) (own : OwnBoth t lent left right old before) (touches : TouchesAll t (family left old before) (family now new after)) where
  agree : (j : ℕ) (b : Streamed) → slice_get right j ≡ Some b → (k : ℕ) (p : PageToken) → slice_get b.pages k ≡ Some p → new.pages p.name ≡ old.pages p.name
  agree j b there k p at =
      let page = at_place (IsOwnPage t b.page_blocks old) b.pages k p (own.right_shaped.each j b there).own at in
      (touches.pages p.name page.page.lives (λ i a here. at_place (λ r. IsApart r.name a.pages) b.pages k p (own.apart i j a b here there) at)).0

  taken_still : taken right new ≡ taken right old
  taken_still = all_taken right old new agree

  pub slots_called : slots_in (family (now ++ right) new after) ≡ slots_in (family (left ++ right) old before)
  slots_called =
      both_slots now right new after
      ∙ ap (option_map (λ (n : ℕ). n + taken right new)) touches.slots
      ∙ ap (λ (m : ℕ). option_map (λ (n : ℕ). n + m) (slots_in (family left old before))) taken_still
      ∙ sym (both_slots left right old before)

pub slots_stepped : {laid : List Event → Type 0} (t : ℕ) (p now other : Stack) (old new : Holdings) (before after : Signs) → OwnBoth t 0 p.streams other.streams old before → FamilySteps laid t (over p old before) (over now new after) → SameSlots p.page_blocks (over_both p other old before) (over_both now other new after)
slots_stepped t p now other old new before after own steps =
    record {
      sum = slots_called t 0 p.streams now.streams other.streams old new before after own steps.touches;
      sized = λ all. sized_both p.page_blocks now.streams other.streams new after (steps.sized p.page_blocks (sized_front p.page_blocks p.streams other.streams old before all)) (sized_behind p.page_blocks p.streams other.streams old before all);
    }

-- the left side is called, and then the right one
pub sides_slots : (left right l1 r1 : Stack) (h h1 h2 : Holdings) (s s1 s2 : Signs) → right.page_blocks ≡ left.page_blocks → SameSlots left.page_blocks (over_both left right h s) (over_both l1 right h1 s1) → SameSlots right.page_blocks (over_both right l1 h1 s1) (over_both r1 l1 h2 s2)
    → SameSlots left.page_blocks (over_both left right h s) (over_both l1 r1 h2 s2)
sides_slots left right l1 r1 h h1 h2 s s1 s2 alike one two =
    slots_then left.page_blocks right.page_blocks (over_both left right h s) (over_both l1 right h1 s1) (over_both l1 r1 h2 s2) alike one
    (slots_turned right.page_blocks right.streams l1.streams r1.streams l1.streams h1 h2 s1 s2 two)

-- what stopped calls of either side
pub want_since : (blocks now : ℕ) (left right : Stack) (old new : Holdings) (before after : Signs) (us vs : List Streamed) → IsStack left → IsStack right → left.page_blocks ≡ blocks → right.page_blocks ≡ blocks
    → SameSlots blocks (over_both left right old before) (family (us ++ vs) new after) → now ≡ blocks → (e : PoolErr) → IsFull now new.free_slots e → IsWant blocks (slots_in (over_both left right old before)) e
want_since blocks now left right old new before after us vs one two left_is right_is same is e full =
    full_since blocks now (over_both left right old before) (family (us ++ vs) new after) same
    (sized_both blocks left.streams right.streams old before (λ i s there. one.each i s there ∙ left_is) (λ i s there. two.each i s there ∙ right_is)) is e full

-- ---- partitions come and go

-- sixteen more without pages have no slots
pub slots_divided : (at level : ℕ) (p other : Stack) (h : Holdings) (signs : Signs) → SameSlots p.page_blocks (over_both p other h signs) (over_both (divided at level p) other h signs)
slots_divided at level p other h signs =
    record {
      sum =
          both_slots (p.streams ++ replicate 16 (empty p.page_blocks)) other.streams h signs
          ∙ ap (option_map (λ (n : ℕ). n + taken other.streams h)) (ap (λ (m : ℕ). option_map (λ (n : ℕ). n + m) h.free_slots) (more_taken p.streams p.page_blocks 16 h))
          ∙ sym (both_slots p.streams other.streams h signs);
      sized = λ all.
          sized_both p.page_blocks (p.streams ++ replicate 16 (empty p.page_blocks)) other.streams h signs
          (sized_both p.page_blocks p.streams (replicate 16 (empty p.page_blocks)) h signs (sized_front p.page_blocks p.streams other.streams h signs all) (λ i s there. ap (λ (r : Streamed). r.page_blocks) (of_replicate 16 (empty p.page_blocks) i s there)))
          (sized_behind p.page_blocks p.streams other.streams h signs all);
    }

-- the others keep the length of their pages where the top one goes
pub sized_gone : (blocks : ℕ) (front : List Streamed) (s : Streamed) (other : List Streamed) (old new : Holdings) (before after : Signs) → AllSized blocks (family ((front ++ s ∷ []) ++ other) old before) → AllSized blocks (family (front ++ other) new after)
sized_gone blocks front s other old new before after all =
    sized_both blocks front other new after (λ i x there. sized_front blocks (front ++ s ∷ []) other old before all i x (still_at front s x i there)) (sized_behind blocks (front ++ s ∷ []) other old before all)

-- ---- both sides end

pub none_added : (o : Option ℕ) → option_map (λ n. n + 0) o ≡ o
none_added None = refl
none_added (Some n) = ap Some (no_more n)
  where
    no_more : (n : ℕ) → n + 0 ≡ n
    no_more n = omega arith

pub ended_slots : (t : ℕ) (left right : List Streamed) (h h1 h2 : Holdings) (s s1 s2 : Signs) → OwnBoth t 0 left right h s → TouchesAll t (family left h s) (family [] h1 s1) → TouchesAll t (family right h1 s1) (family [] h2 s2) → h2.free_slots ≡ slots_in (family (left ++ right) h s)
ended_slots t left right h h1 h2 s s1 s2 own first second =
    sym (none_added h2.free_slots) ∙ second.slots ∙ slots_called t 0 left [] right h h1 s s1 own first

pub cleared_slots : (t : ℕ) (left right l2 r2 : Stack) (h h1 h2 : Holdings) (s s1 s2 : Signs) → OwnBoth t 0 left.streams right.streams h s → TouchesAll t (over left h s) (family [] h1 s1) → TouchesAll t (over right h1 s1) (family [] h2 s2)
    → l2 ≡ no_stack left.page_blocks → r2 ≡ no_stack right.page_blocks → slots_in (over_both l2 r2 h2 s2) ≡ slots_in (over_both left right h s)
cleared_slots t left right l2 r2 h h1 h2 s s1 s2 own first second none_left none_right =
    ap (λ (p : Stack). slots_in (over_both p r2 h2 s2)) none_left ∙ ap (λ (p : Stack). slots_in (over_both (no_stack left.page_blocks) p h2 s2)) none_right ∙ none_added h2.free_slots
    ∙ ended_slots t left.streams right.streams h h1 h2 s s1 s2 own first second
