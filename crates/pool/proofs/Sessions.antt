-- The sessions that came, with their answers.
use Rattle.std.proofs.Common.{◌≡◌, ℕ, ◌+◌, ◌*◌, Bool, List, [], ◌∷◌, ◌++◌, length, map, cond, Option, Some, None, Result, Ok, Err, is_some, refl, sym, ap, ◌∙◌, subst, arith, length-append}
use Rattle.std.proofs.lemmas.List.Elements.{All-cons, All-head, All-nil, All-tail}
use Rattle.std.specs.List.{All}
use Rattle.atomic_table.specs.Seated.{TableId}
use Rattle.reservation_tree.specs.declared.errors.PoolErr.{PoolErr}
use Rattle.pool_model.specs.State.{Opening}
use Rattle.turn_table.specs.Face.{Spot}
use Rattle.pool.specs.declared.ask.Ask.{Ask}
use Rattle.pool.specs.declared.left.Left.{Left}
use Rattle.pool.specs.declared.item.Item.{Item}
use Rattle.pool.specs.Items.{history, own_in}
use Rattle.pool.specs.Seats.{taken_in}
use Rattle.pool.specs.Seating.{HasBegun, beginning_items}
use Rattle.pool.specs.Sitting.{Sitting, shared}
use Rattle.session_calls.specs.Told.{held_in}
use Rattle.pool.specs.Remaining.{left_behind, left_by, refusals}
use Rattle.pool.specs.Asking.{Answers, AreAnswered, AreNew, IsNew, all_numbers, came_in, numbers_in, quotas_by, refusal_in}
use Rattle.pool.specs.Parting.{AllComing, AreSeats, IsComing, SeatsOf}
use Rattle.pool.proofs.Answered.{come_taken}

-- why each ask is refused, as it was answered
pub refused_is : (asks : List Ask) (left : Left) (before : List Item) (answers : List (Result (List ℕ) PoolErr)) (after : List Item) → AreAnswered asks left before answers after → map refusal_in answers ≡ refusals asks left
refused_is [] left before [] after are = refl
refused_is [] left before (r ∷ answers) after are = absurd are
refused_is (ask ∷ asks) left before [] after are = absurd are
refused_is (ask ∷ asks) left before (Ok ms ∷ answers) after are =
    let next : left_by ask left ≡ left_behind ask.count ask left = ap (λ (o : Option PoolErr). cond (is_some o) left (left_behind ask.count ask left)) are.0 in
    ap (λ (rest : List (Option PoolErr)). None ∷ rest) (refused_is asks (left_behind ask.count ask left) are.2 answers after are.4 ∙ ap (refusals asks) (sym next))
    ∙ ap (λ (o : Option PoolErr). o ∷ refusals asks (left_by ask left)) (sym are.0)
refused_is (ask ∷ asks) left before (Err e ∷ answers) after are =
    let next : left_by ask left ≡ left = ap (λ (o : Option PoolErr). cond (is_some o) left (left_behind ask.count ask left)) are.0 in
    ap (λ (rest : List (Option PoolErr)). Some e ∷ rest) (refused_is asks left before answers after are.1 ∙ ap (refusals asks) (sym next))
    ∙ ap (λ (o : Option PoolErr). o ∷ refusals asks (left_by ask left)) (sym are.0)

-- with sessions or with their numbers alone, the answers are refused alike
pub refused_alike : (sessions : Answers) → map refusal_in sessions ≡ map refusal_in (numbers_in sessions)
refused_alike [] = refl
refused_alike (Ok seats ∷ sessions) = ap (λ (rest : List (Option PoolErr)). None ∷ rest) (refused_alike sessions)
refused_alike (Err e ∷ sessions) = ap (λ (rest : List (Option PoolErr)). Some e ∷ rest) (refused_alike sessions)

module _ (o : Opening) (told : Bool) (pass : Spot Item) (ask : Ask) where
  pub seats_new : (ms : List ℕ) (seats : List Sitting) → SeatsOf pass.table pass.knows.seen ms seats → All (IsComing o told pass.knows.seen ask) ms → All (IsNew o told pass ask) seats
  seats_new [] [] are come = All-nil (IsNew o told pass ask)
  seats_new [] (s ∷ seats) are come = absurd are
  seats_new (m ∷ ms) [] are come = absurd are
  seats_new (m ∷ ms) (s ∷ seats) are come =
      let came : IsComing o told pass.knows.seen ask m = All-head (IsComing o told pass.knows.seen ask) m ms come in
      All-cons (IsNew o told pass ask) s seats (record {
        table = are.0.table;
        seen = are.0.seen;
        held =
            subst (λ (k : ℕ). HasBegun o.block_len told ask.limit ask.quota ask.least (held_in o (shared told) k (history s.spot.knows.seen))) (sym are.0.number)
            (subst (λ (items : List Item). HasBegun o.block_len told ask.limit ask.quota ask.least (held_in o (shared told) m (history items))) (sym are.0.seen) came.held);
        query = came.query;
        own =
            ap (own_in s.number) are.0.seen
            ∙ subst (λ (k : ℕ). own_in k pass.knows.seen ≡ history (beginning_items k came.query ask.limit ask.quota ask.least)) (sym are.0.number) came.own;
      }) (seats_new ms seats are.1 (All-tail (IsComing o told pass.knows.seen ask) m ms come))

pub seats_numbers : (lock : TableId) (items : List Item) (ms : List ℕ) (seats : List Sitting) → SeatsOf lock items ms seats → map (λ s. s.number) seats ≡ ms
seats_numbers lock items [] [] are = refl
seats_numbers lock items [] (s ∷ seats) are = absurd are
seats_numbers lock items (m ∷ ms) [] are = absurd are
seats_numbers lock items (m ∷ ms) (s ∷ seats) are =
    ap (λ (rest : List ℕ). s.number ∷ rest) (seats_numbers lock items ms seats are.1) ∙ ap (λ (k : ℕ). k ∷ ms) are.0.number

pub seats_count : (lock : TableId) (items : List Item) (ms : List ℕ) (seats : List Sitting) → SeatsOf lock items ms seats → length seats ≡ length ms
seats_count lock items [] [] are = refl
seats_count lock items [] (s ∷ seats) are = absurd are
seats_count lock items (m ∷ ms) [] are = absurd are
seats_count lock items (m ∷ ms) (s ∷ seats) are = let rest = seats_count lock items ms seats are.1 in omega (arith, rest)

pub numbers_are : (lock : TableId) (items : List Item) (answers : List (Result (List ℕ) PoolErr)) (sessions : Answers) → AreSeats lock items answers sessions → numbers_in sessions ≡ answers
numbers_are lock items [] [] are = refl
numbers_are lock items [] (s ∷ sessions) are = absurd are
numbers_are lock items (Ok ms ∷ answers) [] are = absurd are
numbers_are lock items (Err e ∷ answers) [] are = absurd are
numbers_are lock items (Ok ms ∷ answers) (Ok seats ∷ sessions) are =
    ap (λ (rest : List (Result (List ℕ) PoolErr)). Ok (map (λ s. s.number) seats) ∷ rest) (numbers_are lock items answers sessions are.1)
    ∙ ap (λ (ns : List ℕ). Ok ns ∷ answers) (seats_numbers lock items ms seats are.0)
numbers_are lock items (Ok ms ∷ answers) (Err f ∷ sessions) are = absurd are
numbers_are lock items (Err e ∷ answers) (Ok seats ∷ sessions) are = absurd are
numbers_are lock items (Err e ∷ answers) (Err f ∷ sessions) are =
    ap (λ (rest : List (Result (List ℕ) PoolErr)). Err f ∷ rest) (numbers_are lock items answers sessions are.1) ∙ ap (λ (x : PoolErr). Err x ∷ answers) are.0

pub count_is : (lock : TableId) (items : List Item) (answers : List (Result (List ℕ) PoolErr)) (sessions : Answers) → AreSeats lock items answers sessions → came_in sessions ≡ length (all_numbers answers)
count_is lock items [] [] are = refl
count_is lock items [] (s ∷ sessions) are = absurd are
count_is lock items (Ok ms ∷ answers) [] are = absurd are
count_is lock items (Err e ∷ answers) [] are = absurd are
count_is lock items (Ok ms ∷ answers) (Ok seats ∷ sessions) are =
    let here = seats_count lock items ms seats are.0 in
    let rest = count_is lock items answers sessions are.1 in
    let all : length (ms ++ all_numbers answers) ≡ length ms + length (all_numbers answers) = length-append ms (all_numbers answers) in
    omega (arith, here, rest, all)
count_is lock items (Ok ms ∷ answers) (Err f ∷ sessions) are = absurd are
count_is lock items (Err e ∷ answers) (Ok seats ∷ sessions) are = absurd are
count_is lock items (Err e ∷ answers) (Err f ∷ sessions) are = count_is lock items answers sessions are.1

pub taken_is : (lock : TableId) (items : List Item) (asks : List Ask) (left : Left) (before : List Item) (answers : List (Result (List ℕ) PoolErr)) (after : List Item) (sessions : Answers)
    → AreAnswered asks left before answers after → AreSeats lock items answers sessions → taken_in after ≡ taken_in before + quotas_by asks sessions
taken_is lock items [] left before [] after [] are seats = let same : taken_in after ≡ taken_in before = ap taken_in are in omega (arith, same)
taken_is lock items [] left before [] after (s ∷ sessions) are seats = absurd seats
taken_is lock items [] left before (r ∷ answers) after sessions are seats = absurd are
taken_is lock items (ask ∷ asks) left before [] after sessions are seats = absurd are
taken_is lock items (ask ∷ asks) left before (Ok ms ∷ answers) after [] are seats = absurd seats
taken_is lock items (ask ∷ asks) left before (Err e ∷ answers) after [] are seats = absurd seats
taken_is lock items (ask ∷ asks) left before (Ok ms ∷ answers) after (Ok ss ∷ sessions) are seats =
    let first = come_taken ask before ms are.2 are.3 in
    let rest = taken_is lock items asks (left_behind ask.count ask left) are.2 answers after sessions are.4 seats.1 in
    let same : length ss * ask.quota ≡ length ms * ask.quota = ap (λ (n : ℕ). n * ask.quota) (seats_count lock items ms ss seats.0) in
    omega (arith, first, rest, same)
taken_is lock items (ask ∷ asks) left before (Ok ms ∷ answers) after (Err f ∷ sessions) are seats = absurd seats
taken_is lock items (ask ∷ asks) left before (Err e ∷ answers) after (Ok ss ∷ sessions) are seats = absurd seats
taken_is lock items (ask ∷ asks) left before (Err e ∷ answers) after (Err f ∷ sessions) are seats = taken_is lock items asks left before answers after sessions are.1 seats.1

pub all_new : (o : Opening) (told : Bool) (pass : Spot Item) (most : ℕ) (asks : List Ask) (answers : List (Result (List ℕ) PoolErr)) (sessions : Answers)
    → AllComing o told pass.knows.seen most asks answers → AreSeats pass.table pass.knows.seen answers sessions → AreNew o told pass asks sessions
all_new o told pass most [] [] [] come seats = tt
all_new o told pass most [] [] (s ∷ sessions) come seats = absurd seats
all_new o told pass most [] (r ∷ answers) sessions come seats = absurd come
all_new o told pass most (ask ∷ asks) [] sessions come seats = absurd come
all_new o told pass most (ask ∷ asks) (Ok ms ∷ answers) [] come seats = absurd seats
all_new o told pass most (ask ∷ asks) (Err e ∷ answers) [] come seats = absurd seats
all_new o told pass most (ask ∷ asks) (Ok ms ∷ answers) (Ok ss ∷ sessions) come seats =
    (seats_new o told pass ask ms ss seats.0 come.1, all_new o told pass most asks answers sessions come.2 seats.1)
all_new o told pass most (ask ∷ asks) (Ok ms ∷ answers) (Err f ∷ sessions) come seats = absurd seats
all_new o told pass most (ask ∷ asks) (Err e ∷ answers) (Ok ss ∷ sessions) come seats = absurd seats
all_new o told pass most (ask ∷ asks) (Err e ∷ answers) (Err f ∷ sessions) come seats = all_new o told pass most asks answers sessions come seats.1
