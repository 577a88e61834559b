-- Seats are split off the pass's, one after the other.
use Rattle.std.proofs.Common.{◌≡◌, ℕ, suc, ◌+◌, ◌<◌, ◌≤◌, List, [], ◌∷◌, ◌++◌, Bool, length, drop, get_or, map, Option, Some, Result, Ok, Err, IfSome, refl, sym, ap, ◌∙◌, subst, arith, length-append}
use Rattle.std.proofs.lemmas.List.{append_assoc, append-nil}
use Rattle.std.proofs.lemmas.List.Elements.{All-pop}
use Rattle.std.proofs.Math.Seq.{drop-cons}
use Rattle.std.specs.Global.{Vec}
use Rattle.std.specs.List.{All}
use Rattle.std.specs.Option.{option_to_list}
use Rattle.atomic_table.specs.Seated.{TableId}
use Rattle.reservation_tree.specs.declared.errors.PoolErr.{PoolErr}
use Rattle.turn_table.specs.declared.view.Role.{Role}
use Rattle.turn_table.specs.declared.view.Role.TheVariants.{First, Other}
use Rattle.turn_table.specs.declared.view.View.{View}
use Rattle.turn_table.specs.Knowledge.{IsFirst, IsIdle, first_at}
use Rattle.turn_table.specs.Steps.{one_more, parted}
use Rattle.turn_table.specs.Face.{Spot}
use Rattle.pool_model.specs.State.{Opening}
use Rattle.pool.specs.declared.ask.Ask.{Ask}
use Rattle.pool.specs.declared.rooms.Room.{Room}
use Rattle.pool.specs.declared.item.Item.{Item}
use Rattle.pool.specs.Sitting.{Sitting}
use Rattle.pool.specs.Asking.{Answers, all_numbers}
use Rattle.pool.specs.Admitting.{numbered}
use Rattle.pool.specs.Rooms.{IsRoom}
use Rattle.pool.specs.Parting.{AllComing, AreComing, AreSeats, CanHand, IsComing, IsSeatOf, SeatsOf, handed_out}

pub at_place : {X : Type 0} (xs : List X) (i : ℕ) (d : X) → i < length xs → drop i xs ≡ get_or xs i d ∷ drop (i + 1) xs
at_place xs i d within =
    let next : suc i ≡ i + 1 = omega arith in
    drop-cons xs i d within ∙ ap (λ (n : ℕ). get_or xs i d ∷ drop n xs) next

still_first : (r : Role) → first_at (one_more r) ≡ first_at r
still_first (First out) = refl
still_first Other = refl

-- rights are handed out one after the other
pub handed_more : (a b : List ℕ) (v : View Item) → handed_out (a ++ b) v ≡ handed_out b (handed_out a v)
handed_more [] b v = refl
handed_more (m ∷ a) b v = handed_more a b (parted (Some m) v)

pub handed_seen : (ms : List ℕ) (v : View Item) → (handed_out ms v).seen ≡ v.seen
handed_seen [] v = refl
handed_seen (m ∷ ms) v = handed_seen ms (parted (Some m) v)

pub handed_idle : (ms : List ℕ) (v : View Item) → (handed_out ms v).stage ≡ v.stage
handed_idle [] v = refl
handed_idle (m ∷ ms) v = handed_idle ms (parted (Some m) v)

pub handed_first : (ms : List ℕ) (v : View Item) → first_at (handed_out ms v).role ≡ first_at v.role
handed_first [] v = refl
handed_first (m ∷ ms) v = handed_first ms (parted (Some m) v) ∙ still_first v.role

pub handed_role : (ms : List ℕ) (v : View Item) (n : ℕ) → v.role ≡ First n → (handed_out ms v).role ≡ First (n + length ms)
handed_role [] v n is = let same : n ≡ n + 0 = omega arith in is ∙ ap First same
handed_role (m ∷ ms) v n is =
    let same : (n + 1) + length ms ≡ n + suc (length ms) = omega arith in
    handed_role ms (parted (Some m) v) (n + 1) (ap one_more is) ∙ ap First same

pub hand_front : (a b : List ℕ) (v : View Item) → CanHand (a ++ b) v.rights → CanHand a v.rights × CanHand b (handed_out a v).rights
hand_front [] b v can = (tt, can)
hand_front (m ∷ a) b v can = let rest = hand_front a b (parted (Some m) v) can.1 in ((can.0, rest.0), rest.1)

-- some of an ask's sessions have their seats
pub record Parting (lock : TableId) (numbers todo : List ℕ) (old : View Item) (now : Spot Item) (had : List Sitting) : Type 0 where
  pub table : now.table ≡ lock
  pub first : IsIdle now.knows × IsFirst now.knows
  pub seen : now.knows.seen ≡ old.seen
  pub hand : CanHand todo now.knows.rights
  pub goes : handed_out numbers old ≡ handed_out todo now.knows
  pub seats : (rest : List Sitting) → SeatsOf lock old.seen todo rest → SeatsOf lock old.seen numbers (had ++ rest)

pub first_parting : (lock : TableId) (numbers : List ℕ) (now : Spot Item) → now.table ≡ lock → IsIdle now.knows × IsFirst now.knows → CanHand numbers now.knows.rights → Parting lock numbers numbers now.knows now []
first_parting lock numbers now table first hand = record { table = table; first = first; seen = refl; hand = hand; goes = refl; seats = λ rest are. are }

pub next_parting : (lock : TableId) (numbers todo : List ℕ) (m : ℕ) (old : View Item) (now new : Spot Item) (seats : List Sitting) (s : Sitting) → Parting lock numbers (m ∷ todo) old now seats
    → new.table ≡ lock → new.knows ≡ parted (Some m) now.knows → IsSeatOf lock now.knows.seen m s → Parting lock numbers todo old new (seats ++ s ∷ [])
next_parting lock numbers todo m old now new seats s was table parts is = record {
  table = table;
  first = (ap (λ (v : View Item). v.stage) parts ∙ was.first.0, ap (λ (v : View Item). first_at v.role) parts ∙ still_first now.knows.role ∙ was.first.1);
  seen = ap (λ (v : View Item). v.seen) parts ∙ was.seen;
  hand = subst (λ (v : View Item). CanHand todo v.rights) (sym parts) was.hand.1;
  goes = was.goes ∙ ap (handed_out todo) (sym parts);
  seats = λ rest are.
      subst (λ (ss : List Sitting). SeatsOf lock old.seen numbers ss) (sym (append_assoc seats (s ∷ []) rest))
      (was.seats (s ∷ rest) (subst (λ (items : List Item). IsSeatOf lock items m s) was.seen is, are));
}

pub last_parting : (lock : TableId) (numbers todo : List ℕ) (old : View Item) (now : Spot Item) (seats : List Sitting) → todo ≡ [] → Parting lock numbers todo old now seats
    → (now.knows ≡ handed_out numbers old) × SeatsOf lock old.seen numbers seats
last_parting lock numbers todo old now seats none was = (
  sym (was.goes ∙ ap (λ (ms : List ℕ). handed_out ms now.knows) none),
  subst (λ (ss : List Sitting). SeatsOf lock old.seen numbers ss) (append-nil seats) (was.seats [] (subst (λ (ms : List ℕ). SeatsOf lock old.seen ms []) (sym none) tt)),
)

-- some asks' sessions have their seats
pub record PartingAll (lock : TableId) (answers todo : List (Result (List ℕ) PoolErr)) (old : View Item) (now : Spot Item) (sessions : Answers) : Type 0 where
  pub table : now.table ≡ lock
  pub first : IsIdle now.knows × IsFirst now.knows
  pub seen : now.knows.seen ≡ old.seen
  pub hand : CanHand (all_numbers todo) now.knows.rights
  pub goes : handed_out (all_numbers answers) old ≡ handed_out (all_numbers todo) now.knows
  pub seats : (rest : Answers) → AreSeats lock old.seen todo rest → AreSeats lock old.seen answers (sessions ++ rest)

pub first_ask : (lock : TableId) (answers : List (Result (List ℕ) PoolErr)) (now : Spot Item) → now.table ≡ lock → IsIdle now.knows × IsFirst now.knows → CanHand (all_numbers answers) now.knows.rights → PartingAll lock answers answers now.knows now []
first_ask lock answers now table first hand = record { table = table; first = first; seen = refl; hand = hand; goes = refl; seats = λ rest are. are }

module _ (lock : TableId) (answers todo : List (Result (List ℕ) PoolErr)) (old : View Item) (now new : Spot Item) (sessions : Answers) where
  pub ask_parted : (ms : List ℕ) (seats : List Sitting) → PartingAll lock answers (Ok ms ∷ todo) old now sessions → new.table ≡ lock → new.knows ≡ handed_out ms now.knows → SeatsOf lock now.knows.seen ms seats
      → PartingAll lock answers todo old new (sessions ++ Ok seats ∷ [])
  ask_parted ms seats was table parts are = record {
    table = table;
    first = (ap (λ (v : View Item). v.stage) parts ∙ handed_idle ms now.knows ∙ was.first.0, ap (λ (v : View Item). first_at v.role) parts ∙ handed_first ms now.knows ∙ was.first.1);
    seen = ap (λ (v : View Item). v.seen) parts ∙ handed_seen ms now.knows ∙ was.seen;
    hand = subst (λ (v : View Item). CanHand (all_numbers todo) v.rights) (sym parts) (hand_front ms (all_numbers todo) now.knows was.hand).1;
    goes = was.goes ∙ handed_more ms (all_numbers todo) now.knows ∙ ap (handed_out (all_numbers todo)) (sym parts);
    seats = λ rest there.
        subst (λ (ss : Answers). AreSeats lock old.seen answers ss) (sym (append_assoc sessions (Ok seats ∷ []) rest))
        (was.seats (Ok seats ∷ rest) (subst (λ (items : List Item). SeatsOf lock items ms seats) was.seen are, there));
  }

  pub ask_refused : (e : PoolErr) → PartingAll lock answers (Err e ∷ todo) old now sessions → new ≡ now → PartingAll lock answers todo old new (sessions ++ Err e ∷ [])
  ask_refused e was same = subst (λ (spot : Spot Item). PartingAll lock answers todo old spot (sessions ++ Err e ∷ [])) (sym same) (record {
    table = was.table;
    first = was.first;
    seen = was.seen;
    hand = was.hand;
    goes = was.goes;
    seats = λ rest there.
        subst (λ (ss : Answers). AreSeats lock old.seen answers ss) (sym (append_assoc sessions (Err e ∷ []) rest))
        (was.seats (Err e ∷ rest) (refl, there));
  })

pub last_ask : (lock : TableId) (answers todo : List (Result (List ℕ) PoolErr)) (old : View Item) (now : Spot Item) (sessions : Answers) → todo ≡ [] → PartingAll lock answers todo old now sessions
    → (now.knows ≡ handed_out (all_numbers answers) old) × AreSeats lock old.seen answers sessions
last_ask lock answers todo old now sessions none was = (
  sym (was.goes ∙ ap (λ (rs : List (Result (List ℕ) PoolErr)). handed_out (all_numbers rs) now.knows) none),
  subst (λ (ss : Answers). AreSeats lock old.seen answers ss) (append-nil sessions) (was.seats [] (subst (λ (rs : List (Result (List ℕ) PoolErr)). AreSeats lock old.seen rs []) (sym none) tt)),
)

-- there are as many answers as asks
pub coming_count : (o : Opening) (told : Bool) (items : List Item) (most : ℕ) (asks : List Ask) (answers : List (Result (List ℕ) PoolErr)) → AllComing o told items most asks answers → length answers ≡ length asks
coming_count o told items most [] [] come = refl
coming_count o told items most [] (r ∷ answers) come = absurd come
coming_count o told items most (ask ∷ asks) [] come = absurd come
coming_count o told items most (ask ∷ asks) (Ok ms ∷ answers) come = let rest = coming_count o told items most asks answers come.2 in omega (arith, rest)
coming_count o told items most (ask ∷ asks) (Err e ∷ answers) come = let rest = coming_count o told items most asks answers come in omega (arith, rest)

coming_rest : (o : Opening) (told : Bool) (items : List Item) (most : ℕ) (ask : Ask) (asks : List Ask) (r : Result (List ℕ) PoolErr) (answers : List (Result (List ℕ) PoolErr)) → AllComing o told items most (ask ∷ asks) (r ∷ answers) → AllComing o told items most asks answers
coming_rest o told items most ask asks (Ok ms) answers come = come.2
coming_rest o told items most ask asks (Err e) answers come = come

-- the last room goes to the next ask
module _ {S : Type 0} (o : Opening) (told : Bool) (items : List Item) (ask : Ask) (asks : List Ask) (answers : List (Result (List ℕ) PoolErr)) (rooms rest : List (Room S)) (popped : Option (Room S)) (room : Room S)
    (goes : rooms ≡ rest ++ option_to_list popped) (is : popped ≡ Some room) where
  pub rooms_left : (r : Result (List ℕ) PoolErr) → AreComing o told items (ask ∷ asks) (r ∷ answers) rooms → AreComing o told items asks answers rest
  rooms_left r are = record {
    most = are.most;
    each = (All-pop (IsRoom are.most) rooms rest popped goes are.each).0;
    count =
        let all : length rooms ≡ length rest + length (option_to_list popped) = ap length goes ∙ length-append rest (option_to_list popped) in
        let one : length (option_to_list popped) ≡ 1 = ap (λ (x : Option (Room S)). length (option_to_list x)) is in
        let were : length rooms ≡ suc (length asks) = are.count in
        omega (arith, all, one, were);
    came = coming_rest o told items are.most ask asks r answers are.came;
  }

  room_here : (r : Result (List ℕ) PoolErr) (are : AreComing o told items (ask ∷ asks) (r ∷ answers) rooms) → IsRoom are.most room
  room_here r are = subst (λ (x : Option (Room S)). IfSome x (IsRoom are.most)) is (All-pop (IsRoom are.most) rooms rest popped goes are.each).1

  pub empty_room : (r : Result (List ℕ) PoolErr) → AreComing o told items (ask ∷ asks) (r ∷ answers) rooms → room.sessions.items ≡ []
  empty_room r are = (room_here r are).sessions.0

  pub room_for : (ms : List ℕ) → AreComing o told items (ask ∷ asks) (Ok ms ∷ answers) rooms → IsRoom (length ms) room
  room_for ms are =
      let here : IsRoom are.most room = room_here (Ok ms) are in
      let few : length ms ≤ are.most = are.came.0 in
      let cap = here.sessions.1 in
      let accounts = here.accounts in
      record { sessions = (here.sessions.0, omega (arith, few, cap)); accounts = omega (arith, few, accounts); bare = here.bare }

  pub come_here : (ms : List ℕ) → AreComing o told items (ask ∷ asks) (Ok ms ∷ answers) rooms → All (IsComing o told items ask) ms
  come_here ms are = are.came.1

-- the answer at a place, and those behind it
pub at_answer : (ns : List (Result (Vec ℕ) PoolErr)) (i : ℕ) (x : Result (Vec ℕ) PoolErr) (r : Result (List ℕ) PoolErr) → i < length ns → x ≡ get_or ns i x → numbered x ≡ r → map numbered (drop i ns) ≡ r ∷ map numbered (drop (i + 1) ns)
at_answer ns i x r within is as_numbers =
    ap (map numbered) (at_place ns i x within) ∙ ap (λ (y : Result (Vec ℕ) PoolErr). numbered y ∷ map numbered (drop (i + 1) ns)) (sym is)
    ∙ ap (λ (y : Result (List ℕ) PoolErr). y ∷ map numbered (drop (i + 1) ns)) as_numbers

pub coming_at : {S : Type 0} (o : Opening) (told : Bool) (items : List Item) (asks : List Ask) (d : Ask) (rooms : List (Room S)) (ns : List (Result (Vec ℕ) PoolErr)) (i : ℕ) (r : Result (List ℕ) PoolErr) → i < length asks
    → map numbered (drop i ns) ≡ r ∷ map numbered (drop (i + 1) ns) → AreComing o told items (drop i asks) (map numbered (drop i ns)) rooms → AreComing o told items (get_or asks i d ∷ drop (i + 1) asks) (r ∷ map numbered (drop (i + 1) ns)) rooms
coming_at o told items asks d rooms ns i r within is are =
    subst (λ (l : List Ask). AreComing o told items l (r ∷ map numbered (drop (i + 1) ns)) rooms) (at_place asks i d within)
    (subst (λ (l : List (Result (List ℕ) PoolErr)). AreComing o told items (drop i asks) l rooms) is are)
