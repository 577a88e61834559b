-- How the sessions of a plan come: for what they are refused, and what stands of each query then.
use Rattle.std.proofs.Common.{◌≡◌, ◌∙◌, ◌<◌, ◌≤◌, ◌-◌, ◌==◌, ℕ, suc, Bool, true, false, not, List, [], ◌∷◌, Option, Some, None, Result, Ok, Err, is_some, length, map, refl, sym, ap, subst, inl, inr, arith}
use Rattle.std.specs.Prelude.{nat_le, nat_lt, if◌then◌else◌, ⊤}
use Rattle.std.specs.List.{All, AllByRecursion}
use Rattle.std.specs.Option.{option_map}
use Rattle.std.proofs.lemmas.Bool.{false≢true, le-ltb, lt-ltb, ne_eqb}
use Rattle.std.proofs.lemmas.Bool.Decides.{leb_tells}
use Rattle.std.proofs.lemmas.List.{length-map}
use Rattle.std.proofs.lemmas.List.Elements.{All-cons, All-nil}
use Rattle.reservation_tree.specs.declared.errors.PoolErr.{PoolErr}
use Rattle.reservation_tree.specs.declared.errors.PoolErr.TheVariants as pool
use Rattle.pool.specs.Asking.{Answers, AreAnswered, answer_of, numbers_in, refusal_in}
use Rattle.pool.specs.declared.ask.Ask.{Ask}
use Rattle.pool.specs.declared.item.Item.{Item}
use Rattle.pool.specs.declared.left.Left.{Left}
use Rattle.pool.specs.Remaining.{first_refusal, left_by, left_behind, refusal_of}
use Rattle.pool.specs.Remaining as remaining
use Rattle.pool.specs.Sitting.{Sitting}
use Rattle.query_plan.specs.Sizes.{least_of}
use Rattle.query_plan.specs.declared.plan.Query.{Query}
use Rattle.spill_top.specs.declared.ending.Ending.{Ending}
use Rattle.spill_top.specs.declared.ending.Ending.TheVariants.{Reservation}
use Rattle.spill_top.specs.Reserving.{refusal, refusals, room_behind}
use Rattle.spill_top.specs.Jobs.{Work, begun, work_of}
use Rattle.spill_top.specs.Together.{IsOneOrRefused, ask_of, ending_of, job_with}

-- ---- why sessions are refused

-- a reservation is refused, or nothing is
abbrev pub IsForRoom : Option PoolErr → Type 0
IsForRoom None = ⊤
IsForRoom (Some (pool.NoReservation tracker wanted room)) = ⊤
IsForRoom (Some e) = ⊥

-- one session is refused for what its ask is
one-is : (r : Option PoolErr) → (if is_some r then r else None) ≡ r
one-is None = refl
one-is (Some e) = refl

module _ (limit least bytes : ℕ) where
  abbrev asked : Bool → Bool → Bool → Option PoolErr
  asked none over more =
      if none then Some (pool.TooManyTrackers 240) else (if over then Some (pool.NoReservation 4294967295 least limit) else (if more then Some (pool.NoReservation 0 least bytes) else None))

  abbrev answered : Bool → Bool → Option Ending
  answered within below = if within then (if below then None else Some (Reservation true least bytes)) else Some (Reservation false least limit)

  by-tests : (none over more within below : Bool) → none ≡ false → over ≡ not within → more ≡ not below → option_map ending_of (asked none over more) ≡ answered within below
  by-tests none over more true true never a b = rw (never, a, b) refl
  by-tests none over more true false never a b = rw (never, a, b) refl
  by-tests none over more false below never a b = rw (never, a) refl

  for-room : (none over more : Bool) → none ≡ false → IsForRoom (asked none over more)
  for-room true over more never = absurd (false≢true (sym never))
  for-room false true more never = tt
  for-room false false true never = tt
  for-room false false false never = tt

-- a test and the opposite one
opposite : (a b : ℕ) → nat_lt a b ≡ not (nat_le b a)
opposite a b =
    elim (leb_tells b a) [
      | inl fits ↦ le-ltb a b fits.1 ∙ sym (ap not fits.0)
      | inr over ↦ lt-ltb a b over.1 ∙ sym (ap not over.0)
    ]

some-number : (n : ℕ) → 0 < n → (n == 0) ≡ false
some-number n more = ne_eqb n 0 (λ is. omega (arith, is, more))

module _ (block_len : ℕ) (query : Query) (left : Left) (more : 0 < left.numbers) where
  abbrev asks : ℕ
  asks = least_of query block_len

  first-is : first_refusal 1 (ask_of block_len query) left ≡ refusal_of (ask_of block_len query) left
  first-is = one-is (refusal_of (ask_of block_len query) left)

  refused-so : option_map ending_of (first_refusal 1 (ask_of block_len query) left) ≡ refusal query.limit asks left.bytes
  refused-so =
      ap (option_map ending_of) first-is
      ∙ by-tests query.limit asks left.bytes (left.numbers == 0) (nat_lt query.limit asks) (nat_lt left.bytes asks) (nat_le asks query.limit) (nat_le asks left.bytes)
      (some-number left.numbers more) (opposite query.limit asks) (opposite left.bytes asks)

  refused-for : IsForRoom (first_refusal 1 (ask_of block_len query) left)
  refused-for =
      subst IsForRoom (sym first-is) (for-room query.limit asks left.bytes (left.numbers == 0) (nat_lt query.limit asks) (nat_lt left.bytes asks) (some-number left.numbers more))

behind-bytes : (r : Option PoolErr) (ask : Ask) (left : Left) (wanted : ℕ) → ask.least ≡ wanted → (if is_some r then left else remaining.less ask left).bytes ≡ room_behind (option_map ending_of r) wanted left.bytes
behind-bytes None ask left wanted is = ap (λ (n : ℕ). left.bytes - n) is
behind-bytes (Some e) ask left wanted is = refl

behind-numbers : (r : Option PoolErr) (ask : Ask) (left : Left) (n : ℕ) → suc n ≤ left.numbers → n ≤ (if is_some r then left else remaining.less ask left).numbers
behind-numbers None ask left n some = omega (arith, some)
behind-numbers (Some e) ask left n some = omega (arith, some)

-- the queries are refused as their plan tells
pub refused_as : (block_len : ℕ) (queries : List Query) (left : Left) → length queries ≤ left.numbers
    → map (option_map ending_of) (remaining.refusals (map (ask_of block_len) queries) left) ≡ refusals block_len left.bytes queries
refused_as block_len [] left some = refl
refused_as block_len (query ∷ queries) left some =
    let ask = ask_of block_len query in
    let r = first_refusal 1 ask left in
    let rest = refused_as block_len queries (left_by ask left) (behind-numbers r ask left (length queries) some) in
    let one : option_map ending_of r ≡ refusal query.limit (least_of query block_len) left.bytes = refused-so block_len query left (omega (arith, some)) in
    ap (λ (e : Option Ending). e ∷ map (option_map ending_of) (remaining.refusals (map (ask_of block_len) queries) (left_by ask left))) one
    ∙ ap (λ (es : List (Option Ending)). refusal query.limit (least_of query block_len) left.bytes ∷ es)
    (rest ∙ ap (λ (n : ℕ). refusals block_len n queries) (behind-bytes r ask left (least_of query block_len) refl ∙ ap (λ (e : Option Ending). room_behind e (least_of query block_len) left.bytes) one))

-- and for no other cause
pub all_for_room : (block_len : ℕ) (queries : List Query) (left : Left) → length queries ≤ left.numbers → AllByRecursion IsForRoom (remaining.refusals (map (ask_of block_len) queries) left)
all_for_room block_len [] left some = tt
all_for_room block_len (query ∷ queries) left some =
    let ask = ask_of block_len query in (
      refused-for block_len query left (omega (arith, some)),
      all_for_room block_len queries (left_by ask left) (behind-numbers (first_refusal 1 ask left) ask left (length queries) some),
    )

-- ---- each query has one session, or is refused

abbrev pub Shape : Result (List Sitting) PoolErr → Type 0
Shape (Ok sessions) = length sessions ≡ 1
Shape (Err e) = IsForRoom (Some e)

pub shapes : (block_len : ℕ) (queries : List Query) (answers : Answers) (left : Left) (before after : List Item) → AreAnswered (map (ask_of block_len) queries) left before (numbers_in answers) after
    → AllByRecursion IsForRoom (map refusal_in answers) → AllByRecursion Shape answers
shapes block_len [] [] left before after are room = tt
shapes block_len [] (Ok sessions ∷ answers) left before after are room = absurd are
shapes block_len [] (Err e ∷ answers) left before after are room = absurd are
shapes block_len (query ∷ queries) [] left before after are room = absurd are
shapes block_len (query ∷ queries) (Ok sessions ∷ answers) left before after are room = (
  sym (length-map sessions (λ (s : Sitting). s.number)) ∙ are.1,
  shapes block_len queries answers (left_behind 1 (ask_of block_len query) left) are.2 after are.4 room.1,
)
shapes block_len (query ∷ queries) (Err e ∷ answers) left before after are room = (room.0, shapes block_len queries answers left before after are.1 room.1)

one-or-refused : (answer : Result (List Sitting) PoolErr) → Shape answer → IsOneOrRefused answer
one-or-refused (Ok sessions) is = is
one-or-refused (Err (pool.NoReservation tracker wanted room)) is = tt
one-or-refused (Err (pool.ScratchFull need free)) is = is
one-or-refused (Err (pool.WriteFault entry)) is = is
one-or-refused (Err (pool.ReadFault entry)) is = is
one-or-refused (Err (pool.TooManyTrackers count)) is = is
one-or-refused (Err pool.NamesSpent) is = is
one-or-refused (Err pool.Memory) is = is
one-or-refused (Err (pool.Stale wanted found)) is = is

-- ---- and so its job begins

module _ {V St : Type 0} (items : V → List St) (see : St → Sitting) where
  abbrev pub seen_in : Result V PoolErr → Result (List Sitting) PoolErr
  seen_in answer = answer_of items see answer

  pub all_one : (answers : List (Result V PoolErr)) → AllByRecursion Shape (map seen_in answers) → All (λ answer. IsOneOrRefused (seen_in answer)) answers
  all_one [] are = All-nil (λ (answer : Result V PoolErr). IsOneOrRefused (seen_in answer))
  all_one (answer ∷ answers) are = All-cons (λ (a : Result V PoolErr). IsOneOrRefused (seen_in a)) answer answers (one-or-refused (seen_in answer) are.0) (all_one answers are.1)

module _ {S K : Type 0} (remaining_in : S → Option (List ℕ)) (reads : S → ℕ) (contents : K → Option (List ℕ)) (writes : K → ℕ) where
  begins-so : (answer : Result (List Sitting) PoolErr) → work_of {S = S} {K = K} remaining_in reads contents writes (job_with answer) ≡ begun (option_map ending_of (refusal_in answer))
  begins-so (Ok []) = refl
  begins-so (Ok (s ∷ sessions)) = refl
  begins-so (Err e) = refl

  pub all_begin : (seen : Answers) → map (work_of {S = S} {K = K} remaining_in reads contents writes) (map job_with seen) ≡ map begun (map (option_map ending_of) (map refusal_in seen))
  all_begin [] = refl
  all_begin (answer ∷ seen) =
      ap (λ (w : Work). w ∷ map (work_of {S = S} {K = K} remaining_in reads contents writes) (map job_with seen)) (begins-so answer)
      ∙ ap (λ (ws : List Work). begun (option_map ending_of (refusal_in answer)) ∷ ws) (all_begin seen)
