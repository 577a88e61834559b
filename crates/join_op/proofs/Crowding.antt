-- Want of slots beside an emitter that has pages too.
use Rattle.std.proofs.Common.{◌≡◌, ◌∙◌, ℕ, ◌+◌, ◌*◌, ◌<◌, ◌≤◌, List, [], ◌∷◌, ◌++◌, Result, Ok, Err, IfErr, Option, Some, None, refl, ap, sym, subst, arith}
use Rattle.std.specs.List.{sum_by}
use Rattle.std.proofs.lemmas.Option.{same_Some}
use Rattle.reservation_tree.specs.declared.errors.PoolErr.{PoolErr}
use Rattle.reservation_tree.specs.declared.errors.PoolErr.TheVariants.{NoReservation, ScratchFull, WriteFault, ReadFault, TooManyTrackers, NamesSpent, Memory, Stale}
use Rattle.row_codec.specs.declared.values.Value.{Value}
use Rattle.store_api.specs.Emitters.{CameOf, WantsSlots}
use Rattle.store_api.specs.Holdings.{Holdings}
use Rattle.store_api.specs.Signs.{Signs}
use Rattle.store_api.specs.declared.op_err.OpErr.{OpErr}
use Rattle.store_api.specs.declared.op_err.OpErr.TheVariants.{Pool, Sink}
use Rattle.tuple_stream.specs.Streamed.{Streamed}
use Rattle.tuple_stream.specs.Touches.{IsFull, slots_of, slots_with}
use Rattle.partition_stack.specs.Causes.{CameBeside}
use Rattle.partition_stack.specs.Slots.{IsWant, IsWantBelow, IsWantBelowOf, IsWantOf, with_more}
use Rattle.partition_stack.proofs.Slots.{times_one, want_front, want_with}
use Rattle.join_op.specs.Handing.{EmittedSome, IsWantAmong}
use Rattle.join_op.specs.Slots.{Crowds, IsFullOf, SameMost, slots_of_two}
use Rattle.join_op.proofs.BothSlots.{none_added}
use Rattle.join_op.proofs.Handed.{some_none, some_on}
use Rattle.join_op.proofs.LeafSlots.{more_twice}

-- ---- the emitter's own want

theirs_below : (page most : ℕ) (total : Option ℕ) (e : OpErr) → WantsSlots page most total e → IsWantBelowOf (0 + most) total e
theirs_below page most None (Pool (ScratchFull need few)) wants = absurd wants.1
theirs_below page most (Some n) (Pool (ScratchFull need few)) wants = let low = wants.1.1 in omega (arith, low)
theirs_below page most total (Pool (NoReservation tracker wanted room)) wants = tt
theirs_below page most total (Pool (WriteFault entry)) wants = tt
theirs_below page most total (Pool (ReadFault entry)) wants = tt
theirs_below page most total (Pool (TooManyTrackers trackers)) wants = tt
theirs_below page most total (Pool NamesSpent) wants = tt
theirs_below page most total (Pool Memory) wants = tt
theirs_below page most total (Pool (Stale wanted found)) wants = tt
theirs_below page most total Sink wants = tt

pub theirs_want : (page most : ℕ) (total : Option ℕ) (e : OpErr) → WantsSlots page most total e → IsWantOf page total e
theirs_want page most None (Pool (ScratchFull need few)) wants = absurd wants.1
theirs_want page most (Some n) (Pool (ScratchFull need few)) wants = (wants.0, wants.1.0)
theirs_want page most total (Pool (NoReservation tracker wanted room)) wants = tt
theirs_want page most total (Pool (WriteFault entry)) wants = tt
theirs_want page most total (Pool (ReadFault entry)) wants = tt
theirs_want page most total (Pool (TooManyTrackers trackers)) wants = tt
theirs_want page most total (Pool NamesSpent) wants = tt
theirs_want page most total (Pool Memory) wants = tt
theirs_want page most total (Pool (Stale wanted found)) wants = tt
theirs_want page most total Sink wants = tt

-- the row that it wanted them for is a pair
pub theirs_some : {X : Type 0} (was : List (List Value) → Type 0) (slots_for : List (List Value) → ℕ) (page : ℕ) (total : Option ℕ) (row pair : List Value) → row ≡ pair → (r : Result X OpErr)
    → ((rows : List (List Value)) → was rows → IfErr r (WantsSlots page (slots_for (rows ++ row ∷ [])) total)) → IfErr r (λ e. EmittedSome was (Crowds slots_for 0 total e) (pair ∷ []))
theirs_some was slots_for page total row pair is (Ok x) wants = tt
theirs_some was slots_for page total row pair is (Err e) wants = λ taken took.
    record {
      some = pair ∷ [];
      rest = [];
      same = λ count. refl;
      came = subst (λ (p : List Value). IsWantBelowOf (0 + slots_for (taken ++ p ∷ [])) total e) is (theirs_below page (slots_for (taken ++ row ∷ [])) total e (wants taken took));
    }

-- ---- the join's own want

-- a page's slots aren't free, and the emitter has no more than it may
pub own_below : (blocks slots most : ℕ) (free : Option ℕ) (e : PoolErr) → slots ≤ most → IsFull blocks free e → IsWantBelow (blocks + most) (with_more slots free) e
own_below blocks slots most None (ScratchFull need few) low full = tt
own_below blocks slots most (Some n) (ScratchFull need few) low full =
    let is : n ≡ few = same_Some n few full.2 in
    let less = full.1 in
    omega (arith, low, less, is)
own_below blocks slots most free (NoReservation tracker wanted room) low full = tt
own_below blocks slots most free (WriteFault entry) low full = tt
own_below blocks slots most free (ReadFault entry) low full = tt
own_below blocks slots most free (TooManyTrackers trackers) low full = tt
own_below blocks slots most free NamesSpent low full = tt
own_below blocks slots most free Memory low full = tt
own_below blocks slots most free (Stale wanted found) low full = tt

pub own_want : (blocks page slots pages : ℕ) (free : Option ℕ) (e : PoolErr) → page ≡ blocks → slots ≡ pages * page → IsFull blocks free e → IsWant blocks (with_more slots free) e
own_want blocks page slots pages free e same are full = want_with blocks slots pages free (are ∙ ap (λ (n : ℕ). pages * n) same) e full

-- what is wanting below so many slots is so with those of the emitter
below_with : (most slots more : ℕ) (total : Option ℕ) (e : PoolErr) → slots ≤ more → IsWantBelow most total e → IsWantBelow (most + more) (with_more slots total) e
below_with most slots more None (ScratchFull need few) low below = tt
below_with most slots more (Some n) (ScratchFull need few) low below = omega (arith, low, below)
below_with most slots more total (NoReservation tracker wanted room) low below = tt
below_with most slots more total (WriteFault entry) low below = tt
below_with most slots more total (ReadFault entry) low below = tt
below_with most slots more total (TooManyTrackers trackers) low below = tt
below_with most slots more total NamesSpent low below = tt
below_with most slots more total Memory low below = tt
below_with most slots more total (Stale wanted found) low below = tt

-- an error of the join, of which no pair came yet
pub own_some : (was : List (List Value) → Type 0) (slots_for : List (List Value) → ℕ) (most slots : ℕ) (total : Option ℕ) (e : PoolErr) (pairs : List (List Value)) → ((rows : List (List Value)) → was rows → slots ≤ slots_for rows) → IsWantBelow most total e
    → EmittedSome was (Crowds slots_for most (with_more slots total) (Pool e)) pairs
own_some was slots_for most slots total e pairs fit below =
    some_on was was (Crowds slots_for most (with_more slots total) (Pool e)) pairs (λ rows took. below_with most slots (slots_for rows) total e (fit rows took) below) (some_none was pairs)

-- ---- slots of pages come to it

pub want_more : (blocks times slots : ℕ) (total : Option ℕ) (e : PoolErr) → slots ≡ times * blocks → IsWant blocks total e → IsWant blocks (with_more slots total) e
want_more blocks times slots total e are want =
    want_front blocks times 0 slots total (are ∙ plus_none (times * blocks)) e (subst (λ (o : Option ℕ). IsWant blocks o e) (sym (none_added total)) want)
  where
    plus_none : (n : ℕ) → n ≡ n + 0
    plus_none n = omega arith

pub want_more_of : (blocks times slots : ℕ) (total : Option ℕ) (e : OpErr) → slots ≡ times * blocks → IsWantOf blocks total e → IsWantOf blocks (with_more slots total) e
want_more_of blocks times slots total (Pool e) are want = want_more blocks times slots total e are want
want_more_of blocks times slots total Sink are want = tt

-- those of the emitter beside those of the join
pub want_beside : (blocks times taken slots : ℕ) (free : Option ℕ) (e : OpErr) → taken ≡ times * blocks → IsWantOf blocks (with_more slots free) e → IsWantOf blocks (with_more slots (with_more taken free)) e
want_beside blocks times taken slots free e are want = subst (λ (o : Option ℕ). IsWantOf blocks o e) (more_twice free slots taken) (want_more_of blocks times taken (with_more slots free) e are want)

paged : (blocks most taken n more : ℕ) → taken ≤ most * blocks → n < blocks + more → n + taken < (most + 1) * blocks + more
paged blocks most taken n more few low = let sum : (most + 1) * blocks ≡ most * blocks + blocks = omega arith in omega (arith, few, low, sum)

pages_below : (blocks most taken more : ℕ) (total : Option ℕ) (e : PoolErr) → taken ≤ most * blocks → IsWantBelow (blocks + more) total e → IsWantBelow ((most + 1) * blocks + more) (with_more taken total) e
pages_below blocks most taken more None (ScratchFull need few) low below = tt
pages_below blocks most taken more (Some n) (ScratchFull need few) low below = paged blocks most taken n more low below
pages_below blocks most taken more total (NoReservation tracker wanted room) low below = tt
pages_below blocks most taken more total (WriteFault entry) low below = tt
pages_below blocks most taken more total (ReadFault entry) low below = tt
pages_below blocks most taken more total (TooManyTrackers trackers) low below = tt
pages_below blocks most taken more total NamesSpent low below = tt
pages_below blocks most taken more total Memory low below = tt
pages_below blocks most taken more total (Stale wanted found) low below = tt

pub crowd_beside : (slots_for : List (List Value) → ℕ) (blocks most taken slots : ℕ) (free : Option ℕ) (e : OpErr) → taken ≤ most * blocks → (rows : List (List Value)) → Crowds slots_for blocks (with_more slots free) e rows → Crowds slots_for ((most + 1) * blocks) (with_more slots (with_more taken free)) e rows
crowd_beside slots_for blocks most taken slots free (Pool e) low rows below =
    subst (λ (o : Option ℕ). IsWantBelow ((most + 1) * blocks + slots_for rows) o e) (more_twice free slots taken) (pages_below blocks most taken (slots_for rows) (with_more slots free) e low below)
crowd_beside slots_for blocks most taken slots free Sink low rows below = tt

-- ---- from one call to another

less_below : (most more : ℕ) (total : Option ℕ) (e : PoolErr) → most ≤ more → IsWantBelow most total e → IsWantBelow more total e
less_below most more None (ScratchFull need few) low below = tt
less_below most more (Some n) (ScratchFull need few) low below = omega (arith, low, below)
less_below most more total (NoReservation tracker wanted room) low below = tt
less_below most more total (WriteFault entry) low below = tt
less_below most more total (ReadFault entry) low below = tt
less_below most more total (TooManyTrackers trackers) low below = tt
less_below most more total NamesSpent low below = tt
less_below most more total Memory low below = tt
less_below most more total (Stale wanted found) low below = tt

less_below_of : (most more : ℕ) (total : Option ℕ) (e : OpErr) → most ≤ more → IsWantBelowOf most total e → IsWantBelowOf more total e
less_below_of most more total (Pool e) low below = less_below most more total e low below
less_below_of most more total Sink low below = tt

-- the total is the same, the emitter may have as many, and the join no fewer
pub crowd_more : (old new : List (List Value) → ℕ) (most more : ℕ) (total was : Option ℕ) (e : OpErr) → SameMost old new → most ≤ more → total ≡ was → (rows : List (List Value)) → Crowds new most total e rows → Crowds old more was e rows
crowd_more old new most more total was e same low is rows below =
    less_below_of (most + new rows) (more + old rows) was e (let one = same rows in omega (arith, one, low)) (subst (λ (o : Option ℕ). IsWantBelowOf (most + new rows) o e) is below)

pub some_more_of : (took : List (List Value) → Type 0) (pairs : List (List Value)) (old new : List (List Value) → ℕ) (most more : ℕ) (total was : Option ℕ) (e : OpErr) → SameMost old new → most ≤ more → total ≡ was → EmittedSome took (Crowds new most total e) pairs → EmittedSome took (Crowds old more was e) pairs
some_more_of took pairs old new most more total was e same low is some =
    some_on took (Crowds new most total e) (Crowds old more was e) pairs (crowd_more old new most more total was e same low is) some

-- what is said of it at last
pub among : (took : List (List Value) → Type 0) (slots_for : List (List Value) → ℕ) (pairs taken : List (List Value)) (most : ℕ) (total : Option ℕ) (e : OpErr) → EmittedSome took (Crowds slots_for most total e) pairs → took taken → IsWantAmong slots_for taken pairs most total e
among took slots_for pairs taken most total e some has =
    let came = some taken has in
    record { some = came.some; rest = came.rest; same = came.same; below = came.came }

-- slots of a call's end, where those of the emitter and the free ones stayed
pub same_total : (a b : ℕ) (x y : Option ℕ) → b ≡ a → x ≡ y → with_more a x ≡ with_more b y
same_total a b x y slots free = ap (λ (n : ℕ). with_more n x) (sym slots) ∙ ap (with_more b) free

-- ---- two streams alone

full_two : (blocks : ℕ) (l r : Streamed) (h : Holdings) → l.page_blocks ≡ blocks → r.page_blocks ≡ blocks → (e : PoolErr) → IsFull blocks h.free_slots e → IsWant blocks (slots_of_two l r h) e
full_two blocks l r h left right e full =
    let one = times_one l h l.pages in
    let two = times_one r h r.pages in
    want_more blocks two.0 (sum_by (slots_of r h) r.pages) (slots_with l h) e (two.1 ∙ ap (λ (n : ℕ). two.0 * n) right)
    (want_with blocks (sum_by (slots_of l h) l.pages) one.0 h.free_slots (one.1 ∙ ap (λ (n : ℕ). one.0 * n) left) e full)

pub full_two_of : (blocks : ℕ) (l r : Streamed) (h : Holdings) → l.page_blocks ≡ blocks → r.page_blocks ≡ blocks → (e : OpErr) → IsFullOf blocks h.free_slots e → IsWantOf blocks (slots_of_two l r h) e
full_two_of blocks l r h left right (Pool e) full = full_two blocks l r h left right e full
full_two_of blocks l r h left right Sink full = tt

-- what came, and what is wanting where the emitter has no client
pub came_beside : {X : Type 0} (r : Result X OpErr) (blocks : ℕ) (total client : Option ℕ) (f g : ℕ) (before after : Signs) → IfErr r (CameOf f g before after) → (client ≡ None → IfErr r (IsWantOf blocks total)) → IfErr r (CameBeside blocks total client f g before after)
came_beside (Ok x) blocks total client f g before after came want = tt
came_beside (Err e) blocks total client f g before after came want = record { came = came; want = want }
