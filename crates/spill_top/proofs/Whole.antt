-- A plan's run as a whole: how its queries begin, and what is so when all has been given back.
use Rattle.std.proofs.Common.{◌≡◌, inl, inr, ℕ, zero, suc, Bool, true, false, List, [], ◌∷◌, Option, Some, None, map, refl, sym, subst, ap, arith}
use Rattle.std.specs.List.{slice_get}
use Rattle.std.specs.Option.{option_flatten}
use Rattle.std.specs.Prelude.{nat_le, if◌then◌else◌, ⊤}
use Rattle.std.proofs.lemmas.Option.{none-some, same_Some}
use Rattle.outside.specs.Counts.{Rose}
use Rattle.query_plan.specs.Sizes.{least_of}
use Rattle.query_plan.specs.declared.plan.Query.{Query}
use Rattle.query_plan.specs.declared.plan.Side.{Side}
use Rattle.query_plan.specs.declared.plan.Side.TheVariants.{Left, Right}
use Rattle.spill_top.specs.declared.ending.Ending.{Ending}
use Rattle.spill_top.specs.declared.ending.Ending.TheVariants.{Lines, Reservation, Stopped}
use Rattle.spill_top.specs.Reserving.{refusal, refusals, room_behind}
use Rattle.spill_top.specs.Pooled.{HaveFailed, all_tell}
use Rattle.spill_top.specs.Running.{HasEnded, HaveEnded, IsEnding, Met, Seen, met_by}
use Rattle.spill_top.specs.Jobs.{HasFailed, HasFailedOn, HasNone, IsSoFar, IsWork, Opened, Work, begun, met_so_far}
use Rattle.spill_top.specs.Sides.{RoseOn, bytes_on, faults_on, on_sides}
use Rattle.spill_top.specs.Steps.{AreAll, AreWorks, IsBegun, IsDone}
use Rattle.spill_top.proofs.Loops.{went_nowhere}
use Rattle.spill_top.proofs.Sides.{no_sides, none_stand}
use Rattle.spill_top.proofs.Complete.{complete}
use Rattle.spill_top.proofs.Works.{ending_later}

-- a query that is refused before it begins is refused for its least reservation
abbrev pub IsReserved : Option Ending → Type 0
IsReserved None = ⊤
IsReserved (Some (Reservation root wanted room)) = ⊤
IsReserved (Some (Lines lines)) = ⊥
IsReserved (Some (Stopped why)) = ⊥

either : (within below : Bool) (limit wanted room : ℕ) → IsReserved (if within then (if below then None else Some (Reservation true wanted room)) else Some (Reservation false wanted limit))
either true true limit wanted room = tt
either true false limit wanted room = tt
either false below limit wanted room = tt

reserved_at : (block_len room : ℕ) (queries : List Query) (place : ℕ) (refused : Option Ending) → slice_get (refusals block_len room queries) place ≡ Some refused → IsReserved refused
reserved_at block_len room [] place refused at = absurd (none-some refused at)
reserved_at block_len room (query ∷ queries) zero refused at =
    subst (λ r. IsReserved r) (same_Some (refusal query.limit (least_of query block_len) room) refused at)
    (either (nat_le (least_of query block_len) query.limit) (nat_le (least_of query block_len) room) query.limit (least_of query block_len) room)
reserved_at block_len room (query ∷ queries) (suc place) refused at =
    reserved_at block_len (room_behind (refusal query.limit (least_of query block_len) room) (least_of query block_len) room) queries place refused at

first-so-far : (plan : Query) (met : Met) (refused : Option Ending) → met.refused ≡ refused → IsReserved refused → IsSoFar plan met refused
first-so-far plan met None same is = same
first-so-far plan met (Some (Reservation root wanted room)) same is = same
first-so-far plan met (Some (Lines lines)) same is = absurd is
first-so-far plan met (Some (Stopped why)) same is = absurd is

has-none : (refused : Option Ending) → IsReserved refused → HasNone refused
has-none None is = tt
has-none (Some (Reservation root wanted room)) is = tt
has-none (Some (Lines lines)) is = absurd is
has-none (Some (Stopped why)) is = absurd is

first-is : (start : Seen) (block_len : ℕ) (all : List Query) (query : Query) (refused : Option Ending) → IsReserved refused → IsWork start start block_len all query (begun refused)
first-is start block_len all query refused is = record {
  went = went_nowhere start;
  ending = first-so-far query (met_so_far start start block_len all query (begun refused)) refused refl is;
  inputs = none_stand (bytes_on query start.files) refused;
  sides = no_sides query refused refused None;
  output = inl (has-none refused is, refl);
  fresh_sink = tt;
}

abbrev Same : Work → Work → Type 0
Same a b = a ≡ b

-- what stands at a place of the first of all lists
at-first : (all : List (Option Ending)) (place : ℕ) (w : Work) → slice_get (map begun all) place ≡ Some w → (refused : Option Ending) × (slice_get all place ≡ Some refused) × Same (begun refused) w
at-first [] place w at = absurd (none-some w at)
at-first (refused ∷ rest) zero w at = (refused, refl, same_Some _ w at)
at-first (refused ∷ rest) (suc place) w at = at-first rest place w at

pub begun_all : (all : List (Option Ending)) → AreAll IsBegun (map begun all)
begun_all all = λ place w at. let one = at-first all place w at in subst (λ (x : Work). IsBegun x) one.2 (refl, refl, refl)

pub begun_works : (start : Seen) (block_len room : ℕ) (queries : List Query) → AreWorks start start block_len queries (map begun (refusals block_len room queries))
begun_works start block_len room queries = λ place query w at_query at.
    let one = at-first (refusals block_len room queries) place w at in
    subst (λ (x : Work). IsWork start start block_len queries query x) one.2 (first-is start block_len queries query one.0 (reserved_at block_len room queries place one.0 one.1))

-- what is mapped from something
map_back : {X Y : Type 0} → (f : X → Y) (xs : List X) (k : ℕ) (y : Y) → slice_get (map f xs) k ≡ Some y → (x : X) × (slice_get xs k ≡ Some x) × (f x ≡ y)
map_back f [] k y at = absurd (none-some y at)
map_back f (x ∷ xs) zero y at = (x, refl, same_Some (f x) y at)
map_back f (x ∷ xs) (suc k) y at = map_back f xs k y at

some_at : {X : Type 0} → (xs : List X) (k : ℕ) (x : X) → slice_get xs k ≡ Some x → slice_get (map (λ y. Some y) xs) k ≡ Some (Some x)
some_at [] k x at = absurd (none-some x at)
some_at (y ∷ ys) zero x at = ap (λ z. Some (Some z)) (same_Some y x at)
some_at (y ∷ ys) (suc k) x at = some_at ys k x at

map_at : {X Y : Type 0} → (f : X → Y) (xs : List X) (k : ℕ) (x : X) → slice_get xs k ≡ Some x → slice_get (map f xs) k ≡ Some (f x)
map_at f [] k x at = absurd (none-some x at)
map_at f (y ∷ ys) zero x at = ap (λ z. Some (f z)) (same_Some y x at)
map_at f (y ∷ ys) (suc k) x at = map_at f ys k x at

no-more : (before now : ℕ) → HasFailed before now None → Rose before now
no-more before now (inl rose) = rose
no-more before now (inr has) = absurd (omega (arith, has))

none-more : (before now : Side → ℕ) (side : Side) → HasFailedOn before now (on_sides None None) side → RoseOn before now side
none-more before now Left failed = no-more (before Left) (now Left) failed
none-more before now Right failed = no-more (before Right) (now Right) failed

ended-work : (start now : Seen) (block_len : ℕ) (all : List Query) (query : Query) (refused : Option Ending) (ending : Ending)
    → IsWork start now block_len all query (record { refused = refused; left = None; right = None; output = None; ended = Some ending }) → HasEnded start now block_len all refused query ending
ended-work start now block_len all query refused ending is =
    let was = met_so_far start now block_len all query (record { refused = refused; left = None; right = None; output = None; ended = Some ending }) in
    let so : IsEnding query (met_by start now block_len all refused query) ending =
    ending_later query was (RoseOn (faults_on query start.reads) (faults_on query now.reads)) (Rose (start.writes query.output) (now.writes query.output)) (HaveFailed start.slots now.slots)
    (none-more (faults_on query start.reads) (faults_on query now.reads)) (no-more (start.writes query.output) (now.writes query.output)) (λ failed. failed) ending is.ending in
    record {
      so = so;
      completes = λ clear. complete query (met_by start now block_len all refused query) (all_tell start.slots) refl clear ending so;
      output = is.output;
    }

same-work : (refused : Option Ending) (left right output : Option Opened) (ended : Option Ending) (ending : Ending) → left ≡ None → right ≡ None → output ≡ None → ended ≡ Some ending
    → Same (record { refused = refused; left = left; right = right; output = output; ended = ended }) (record { refused = refused; left = None; right = None; output = None; ended = Some ending })
same-work refused left right output ended ending a b c e = rw (a, b, c, e) refl

-- when all has been given back, the endings are what became of the queries
pub all_ended : (start now : Seen) (block_len : ℕ) (queries : List Query) (works : List Work) (refused : List (Option Ending)) (ends : List Ending) → AreWorks start now block_len queries works → AreAll IsDone works
    → map (λ (w : Work). w.refused) works ≡ refused → map (λ ending. Some ending) ends ≡ map (λ (w : Work). w.ended) works → HaveEnded start now block_len refused queries ends
all_ended start now block_len queries works refused ends are done same alike = λ place query ending at_query at.
    let there : slice_get (map (λ (w : Work). w.ended) works) place ≡ Some (Some ending) = subst (λ (list : List (Option Ending)). slice_get list place ≡ Some (Some ending)) alike (some_at ends place ending at) in
    let one = map_back (λ (w : Work). w.ended) works place (Some ending) there in
    let w = one.0 in
    let is = are place query w at_query one.1 in
    let closed = done place w one.1 in
    let refusal_is : slice_get refused place ≡ Some w.refused = subst (λ (list : List (Option Ending)). slice_get list place ≡ Some w.refused) same (map_at (λ (x : Work). x.refused) works place w one.1) in
    let shape : w ≡ record { refused = w.refused; left = None; right = None; output = None; ended = Some ending } =
    same-work w.refused w.left w.right w.output w.ended ending closed.1 closed.2 closed.3 one.2 in
    subst (λ (r : Option Ending). HasEnded start now block_len queries r query ending) (sym (ap option_flatten refusal_is))
    (ended-work start now block_len queries query w.refused ending (subst (λ (x : Work). IsWork start now block_len queries query x) shape is))
