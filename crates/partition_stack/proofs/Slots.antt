-- Free slots, and those of the pages of streams beside each other.
use Rattle.std.proofs.Common.{◌≡◌, ◌∙◌, ℕ, zero, suc, ◌+◌, ◌*◌, ◌%◌, ◌<◌, Bool, true, false, List, [], ◌∷◌, ◌++◌, replicate, Option, Some, None, option_map, if◌then◌else◌, refl, ap, sym, subst, arith}
use Rattle.std.specs.List.{slice_get, sum_by}
use Rattle.std.proofs.Math.Nat.{add-mul, mul-add-mod_self_right, one-mul}
use Rattle.std.proofs.lemmas.Nat.{mod-mul-add}
use Rattle.std.proofs.lemmas.List.Sums.{sum_by-append, sum_by-cons}
use Rattle.reservation_tree.specs.declared.errors.PoolErr.{PoolErr}
use Rattle.reservation_tree.specs.declared.errors.PoolErr.TheVariants.{NoReservation, ScratchFull, WriteFault, ReadFault, TooManyTrackers, NamesSpent, Memory, Stale}
use Rattle.store_api.specs.Tokens.{PageToken}
use Rattle.store_api.specs.Holdings.{Holdings, LivePage, or_else, no_page, page_of}
use Rattle.store_api.specs.Signs.{Signs}
use Rattle.tuple_stream.specs.Streamed.{Streamed}
use Rattle.tuple_stream.specs.Touches.{IsFull, slots_of}
use Rattle.tuple_stream.specs.Families.{AllSized, Family, family, slots_in}
use Rattle.partition_stack.specs.Slots.{IsRest, IsWant, KeepSlots, SameSlots, with_more}
use Rattle.partition_stack.specs.Stack.{empty}

-- the slots of the pages of streams
abbrev pub taken : List Streamed → Holdings → ℕ
taken streams h = sum_by (λ s. sum_by (slots_of s h) s.pages) streams

-- ---- over two stores that agree on these pages

pages_taken : (s : Streamed) (old new : Holdings) (pages : List PageToken) → ((k : ℕ) (p : PageToken) → slice_get pages k ≡ Some p → new.pages p.name ≡ old.pages p.name) → sum_by (slots_of s new) pages ≡ sum_by (slots_of s old) pages
pages_taken s old new [] agree = refl
pages_taken s old new (p ∷ pages) agree =
    let rest = pages_taken s old new pages (λ k q at. agree (suc k) q at) in
    let one : slots_of s new p ≡ slots_of s old p = ap (λ (o : Option LivePage). if (or_else no_page o).has_slots then s.page_blocks else 0) (agree 0 p refl) in
    let now = sum_by-cons (slots_of s new) p pages in
    let was = sum_by-cons (slots_of s old) p pages in
    omega (arith, rest, one, now, was)

pub one_taken : (s : Streamed) (old new : Holdings) → ((k : ℕ) (p : PageToken) → slice_get s.pages k ≡ Some p → new.pages p.name ≡ old.pages p.name) → sum_by (slots_of s new) s.pages ≡ sum_by (slots_of s old) s.pages
one_taken s old new agree = pages_taken s old new s.pages agree

pub all_taken : (streams : List Streamed) (old new : Holdings) → ((i : ℕ) (s : Streamed) → slice_get streams i ≡ Some s → (k : ℕ) (p : PageToken) → slice_get s.pages k ≡ Some p → new.pages p.name ≡ old.pages p.name) → taken streams new ≡ taken streams old
all_taken [] old new agree = refl
all_taken (s ∷ streams) old new agree =
    let rest = all_taken streams old new (λ i r at. agree (suc i) r at) in
    let one = pages_taken s old new s.pages (agree 0 s refl) in
    let now : taken (s ∷ streams) new ≡ sum_by (slots_of s new) s.pages + taken streams new = sum_by-cons (λ (r : Streamed). sum_by (slots_of r new) r.pages) s streams in
    let was : taken (s ∷ streams) old ≡ sum_by (slots_of s old) s.pages + taken streams old = sum_by-cons (λ (r : Streamed). sum_by (slots_of r old) r.pages) s streams in
    omega (arith, rest, one, now, was)

-- so nothing of their slots changed
pub slots_stay : (blocks : ℕ) (streams : List Streamed) (old new : Holdings) (before after : Signs) → new.free_slots ≡ old.free_slots
    → ((i : ℕ) (s : Streamed) → slice_get streams i ≡ Some s → (k : ℕ) (p : PageToken) → slice_get s.pages k ≡ Some p → new.pages p.name ≡ old.pages p.name)
    → SameSlots blocks (family streams old before) (family streams new after)
slots_stay blocks streams old new before after free agree =
    record {
      sum = ap (option_map (λ (n : ℕ). n + taken streams new)) free ∙ ap (λ (m : ℕ). option_map (λ (n : ℕ). n + m) old.free_slots) (all_taken streams old new agree);
      sized = λ all. all;
    }

-- ---- streams without pages

none_taken : (blocks m : ℕ) (h : Holdings) → taken (replicate m (empty blocks)) h ≡ 0
none_taken blocks zero h = refl
none_taken blocks (suc m) h =
    let rest = none_taken blocks m h in
    let now : taken (empty blocks ∷ replicate m (empty blocks)) h ≡ 0 + taken (replicate m (empty blocks)) h = sum_by-cons (λ (s : Streamed). sum_by (slots_of s h) s.pages) (empty blocks) (replicate m (empty blocks)) in
    omega (arith, rest, now)

pub more_taken : (streams : List Streamed) (blocks m : ℕ) (h : Holdings) → taken (streams ++ replicate m (empty blocks)) h ≡ taken streams h
more_taken streams blocks m h =
    let all : taken (streams ++ replicate m (empty blocks)) h ≡ taken streams h + taken (replicate m (empty blocks)) h = sum_by-append (λ (s : Streamed). sum_by (slots_of s h) s.pages) streams (replicate m (empty blocks)) in
    let none = none_taken blocks m h in
    omega (arith, all, none)

-- ---- want of slots

two_parts : (a b blocks : ℕ) → (a + b) * blocks ≡ a * blocks + b * blocks
two_parts a b blocks = omega arith

-- a stream's pages have the slots of some number of pages
pub times_one : (s : Streamed) (h : Holdings) (pages : List PageToken) → (times : ℕ) × (sum_by (slots_of s h) pages ≡ times * s.page_blocks)
times_one s h [] = (0, omega arith)
times_one s h (p ∷ pages) = more (page_of p.name h).has_slots refl (times_one s h pages)
  where
    first : sum_by (slots_of s h) (p ∷ pages) ≡ slots_of s h p + sum_by (slots_of s h) pages
    first = sum_by-cons (slots_of s h) p pages

    more : (has : Bool) → (page_of p.name h).has_slots ≡ has → ((times : ℕ) × (sum_by (slots_of s h) pages ≡ times * s.page_blocks))
        → (times : ℕ) × (sum_by (slots_of s h) (p ∷ pages) ≡ times * s.page_blocks)
    more true is (times, rest) =
        let own : slots_of s h p ≡ s.page_blocks = rw is refl in
        let apart = add-mul 1 times s.page_blocks in
        let one = one-mul s.page_blocks in
        (1 + times, omega (arith, first, own, rest, apart, one))
    more false is (times, rest) =
        let own : slots_of s h p ≡ 0 = rw is refl in
        (times, omega (arith, first, own, rest))

-- and so have those of all
pub times_all : (blocks : ℕ) (streams : List Streamed) (h : Holdings) → ((i : ℕ) (s : Streamed) → slice_get streams i ≡ Some s → s.page_blocks ≡ blocks) → (times : ℕ) × (taken streams h ≡ times * blocks)
times_all blocks [] h sized = (0, omega arith)
times_all blocks (s ∷ streams) h sized =
    let rest = times_all blocks streams h (λ i r at. sized (suc i) r at) in
    let one = times_one s h s.pages in
    let here : sum_by (slots_of s h) s.pages ≡ one.0 * blocks = one.1 ∙ ap (λ (n : ℕ). one.0 * n) (sized 0 s refl) in
    let others = rest.1 in
    let all : taken (s ∷ streams) h ≡ sum_by (slots_of s h) s.pages + taken streams h = sum_by-cons (λ (r : Streamed). sum_by (slots_of r h) r.pages) s streams in
    let both = two_parts one.0 rest.0 blocks in
    (one.0 + rest.0, omega (arith, here, others, all, both))

left_over : (blocks start few total times : ℕ) → few < blocks → few + total ≡ start → total ≡ times * blocks → few ≡ start % blocks
left_over blocks start few total times less all is =
    let sum : times * blocks + few ≡ start = omega (arith, all, is) in
    sym (ap (λ (n : ℕ). n % blocks) (sym sum) ∙ mod-mul-add times blocks few less)

pub want_with : (blocks total times : ℕ) (free : Option ℕ) → total ≡ times * blocks → (e : PoolErr) → IsFull blocks free e → IsWant blocks (option_map (λ n. n + total) free) e
want_with blocks total times free is (ScratchFull need few) full =
    let all : option_map (λ n. n + total) free ≡ Some (few + total) = ap (option_map (λ (n : ℕ). n + total)) full.2 in
    (full.0, subst (λ (o : Option ℕ). IsRest blocks o few) (sym all) (left_over blocks (few + total) few total times full.1 refl is))
want_with blocks total times free is (NoReservation tracker wanted room) full = tt
want_with blocks total times free is (WriteFault entry) full = tt
want_with blocks total times free is (ReadFault entry) full = tt
want_with blocks total times free is (TooManyTrackers count) full = tt
want_with blocks total times free is NamesSpent full = tt
want_with blocks total times free is Memory full = tt
want_with blocks total times free is (Stale wanted found) full = tt

pub full_want : (blocks : ℕ) (f : Family) → AllSized blocks f → (e : PoolErr) → IsFull blocks f.held.free_slots e → IsWant blocks (slots_in f) e
full_want blocks f sized e full =
    let times = times_all blocks f.streams f.held sized in
    want_with blocks (taken f.streams f.held) times.0 f.held.free_slots times.1 e full

-- what stopped calls, by the slots at their start
pub full_since : (blocks now : ℕ) (f g : Family) → SameSlots blocks f g → AllSized blocks f → now ≡ blocks → (e : PoolErr) → IsFull now g.held.free_slots e → IsWant blocks (slots_in f) e
full_since blocks now f g same sized is e full =
    subst (λ (o : Option ℕ). IsWant blocks o e) same.sum (full_want blocks g (same.sized sized) e (subst (λ (n : ℕ). IsFull n g.held.free_slots e) is full))

-- ---- calls one after the other

pub slots_none : (blocks : ℕ) (f : Family) → SameSlots blocks f f
slots_none blocks f = record { sum = refl; sized = λ all. all }

pub slots_then : (blocks now : ℕ) (f g h : Family) → now ≡ blocks → SameSlots blocks f g → SameSlots now g h → SameSlots blocks f h
slots_then blocks now f g h is one two =
    let second : SameSlots blocks g h = subst (λ (n : ℕ). SameSlots n g h) is two in
    record { sum = second.sum ∙ one.sum; sized = λ all. second.sized (one.sized all) }

-- ---- beside an emitter

pub keep_none : (client mine : Option ℕ) (theirs : ℕ) → KeepSlots client mine mine theirs theirs
keep_none client mine theirs = record { sum = refl; alone = λ none. refl }

pub keep_own : (client mine_old mine : Option ℕ) (theirs_old theirs : ℕ) → mine ≡ mine_old → theirs ≡ theirs_old → KeepSlots client mine_old mine theirs_old theirs
keep_own client mine_old mine theirs_old theirs own same =
    record { sum = ap (with_more theirs) own ∙ ap (λ (n : ℕ). with_more n mine_old) same; alone = λ none. own }

pub keep_then : (client m0 m1 m2 : Option ℕ) (n0 n1 n2 : ℕ) → KeepSlots client m0 m1 n0 n1 → KeepSlots client m1 m2 n1 n2 → KeepSlots client m0 m2 n0 n2
keep_then client m0 m1 m2 n0 n1 n2 one two = record { sum = two.sum ∙ one.sum; alone = λ none. two.alone none ∙ one.alone none }

both_more : (old new : Option ℕ) (n0 n1 a b : ℕ) → b ≡ a → with_more n1 new ≡ with_more n0 old → with_more n1 (option_map (λ n. n + b) new) ≡ with_more n0 (option_map (λ n. n + a) old)
both_more None None n0 n1 a b same sum = refl
both_more None (Some m) n0 n1 a b same sum = absurd cc
both_more (Some n) None n0 n1 a b same sum = absurd cc
both_more (Some n) (Some m) n0 n1 a b same sum = let even : m + n1 ≡ n + n0 = cc in ap Some (omega (arith, even, same))

-- those of pages that stayed are counted too
pub keep_more : (client old new : Option ℕ) (n0 n1 a b : ℕ) → b ≡ a → KeepSlots client old new n0 n1 → KeepSlots client (option_map (λ n. n + a) old) (option_map (λ n. n + b) new) n0 n1
keep_more client old new n0 n1 a b same keep =
    record {
      sum = both_more old new n0 n1 a b same keep.sum;
      alone = λ none. ap (option_map (λ (n : ℕ). n + b)) (keep.alone none) ∙ ap (λ (m : ℕ). option_map (λ (n : ℕ). n + m) old) same;
    }

-- ---- one stream behind others

added_twice : (o : Option ℕ) (a m x : ℕ) → x ≡ a + m → option_map (λ n. n + x) o ≡ option_map (λ n. n + a) (option_map (λ n. n + m) o)
added_twice None a m x is = refl
added_twice (Some n) a m x is = ap Some (omega (arith, is))

-- what is so of a stream's slots is so of those of all, where the others stayed
pub keep_front : (client old new : Option ℕ) (n0 n1 m0 m1 a b x0 x1 : ℕ) → b ≡ a → x0 ≡ a + m0 → x1 ≡ b + m1 → KeepSlots client (option_map (λ n. n + m0) old) (option_map (λ n. n + m1) new) n0 n1
    → KeepSlots client (option_map (λ n. n + x0) old) (option_map (λ n. n + x1) new) n0 n1
keep_front client old new n0 n1 m0 m1 a b x0 x1 same was is keep =
    let more = keep_more client (option_map (λ (n : ℕ). n + m0) old) (option_map (λ (n : ℕ). n + m1) new) n0 n1 a b same keep in
    let early = added_twice old a m0 x0 was in
    let late = added_twice new b m1 x1 is in
    record {
      sum = ap (with_more n1) late ∙ more.sum ∙ sym (ap (with_more n0) early);
      alone = λ none. late ∙ more.alone none ∙ sym early;
    }

same_rest : (blocks times total more few : ℕ) (free : Option ℕ) → more ≡ times * blocks + total → IsRest blocks (option_map (λ n. n + total) free) few → IsRest blocks (option_map (λ n. n + more) free) few
same_rest blocks times total more few None is rest = rest
same_rest blocks times total more few (Some n) is rest =
    let all : times * blocks + (n + total) ≡ n + more = omega (arith, is) in
    rest ∙ sym (mul-add-mod_self_right times blocks (n + total)) ∙ ap (λ (m : ℕ). m % blocks) all

-- whole pages more leave the same
pub want_front : (blocks times total more : ℕ) (free : Option ℕ) → more ≡ times * blocks + total → (e : PoolErr) → IsWant blocks (option_map (λ n. n + total) free) e → IsWant blocks (option_map (λ n. n + more) free) e
want_front blocks times total more free is (ScratchFull need few) want = (want.0, same_rest blocks times total more few free is want.1)
want_front blocks times total more free is (NoReservation tracker wanted room) want = tt
want_front blocks times total more free is (WriteFault entry) want = tt
want_front blocks times total more free is (ReadFault entry) want = tt
want_front blocks times total more free is (TooManyTrackers count) want = tt
want_front blocks times total more free is NamesSpent want = tt
want_front blocks times total more free is Memory want = tt
want_front blocks times total more free is (Stale wanted found) want = tt

-- an emitter that has the same client still
pub keep_after : (client now m0 m1 m2 : Option ℕ) (n0 n1 n2 : ℕ) → now ≡ client → KeepSlots client m0 m1 n0 n1 → KeepSlots now m1 m2 n1 n2 → KeepSlots client m0 m2 n0 n2
keep_after client now m0 m1 m2 n0 n1 n2 is one two = keep_then client m0 m1 m2 n0 n1 n2 one (subst (λ (o : Option ℕ). KeepSlots o m1 m2 n1 n2) is two)
