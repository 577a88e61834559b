-- How sessions that came together get their seats.
use Rattle.std.specs.Prelude.{◌≡◌, ℕ, ◌<◌, ◌≤◌, List, [], ◌∷◌, Bool, Some, Result, Ok, Err, length}
use Rattle.std.specs.Bool.{⊤}
use Rattle.std.specs.List.{All}
use Rattle.atomic_table.specs.Seated.{TableId}
use Rattle.reservation_tree.specs.declared.errors.PoolErr.{PoolErr}
use Rattle.pool_model.specs.State.{Opening}
use Rattle.pool_model.specs.Legal.{IsLegal}
use Rattle.turn_table.specs.declared.view.View.{View}
use Rattle.turn_table.specs.Lists.{times, without}
use Rattle.turn_table.specs.Steps.{parted}
use Rattle.session_calls.specs.Ready.{IsResting}
use Rattle.session_calls.specs.Told.{held_in}
use Rattle.pool.specs.declared.ask.Ask.{Ask}
use Rattle.pool.specs.declared.item.Item.{Item}
use Rattle.pool.specs.declared.rooms.Room.{Room}
use Rattle.pool.specs.Items.{history, own_in}
use Rattle.pool.specs.Sitting.{Sitting, shared}
use Rattle.pool.specs.Seating.{HasBegun, beginning_items}
use Rattle.pool.specs.Asking.{Answers}
use Rattle.pool.specs.Rooms.{IsRoom}

-- a session of this number came as the ask wants it, and did nothing since
pub record IsComing (o : Opening) (told : Bool) (items : List Item) (ask : Ask) (m : ℕ) : Type 0 where
  pub number : m < 240
  pub fits : ask.least ≤ ask.limit
  pub held : HasBegun o.block_len told ask.limit ask.quota ask.least (held_in o (shared told) m (history items))
  pub rests : IsResting o (shared told) m (history items)
  pub legal : IsLegal o (history items)
  pub query : ℕ
  pub own : own_in m items ≡ history (beginning_items m query ask.limit ask.quota ask.least)

-- the numbers of each ask's answer are those of sessions that came, at most so many
abbrev pub AllComing : Opening → Bool → List Item → ℕ → List Ask → List (Result (List ℕ) PoolErr) → Type 0
AllComing o told items most [] [] = ⊤
AllComing o told items most (ask ∷ asks) (Ok ms ∷ answers) = (length ms ≤ most) × All (IsComing o told items ask) ms × AllComing o told items most asks answers
AllComing o told items most (ask ∷ asks) (Err e ∷ answers) = AllComing o told items most asks answers
AllComing o told items most _ _ = ⊥

-- and there is a room for each ask
pub record AreComing {S : Type 0} (o : Opening) (told : Bool) (items : List Item) (asks : List Ask) (answers : List (Result (List ℕ) PoolErr)) (rooms : List (Room S)) : Type 0 where
  pub most : ℕ
  pub each : All (IsRoom most) rooms
  pub count : length rooms ≡ length asks
  pub came : AllComing o told items most asks answers

-- each of these rights is there once those before it are handed out
abbrev pub CanHand : List ℕ → List ℕ → Type 0
CanHand [] rights = ⊤
CanHand (m ∷ ms) rights = (0 < times m rights) × CanHand ms (without m rights)

-- a seat was split off with each of these rights
abbrev pub handed_out : List ℕ → View Item → View Item
handed_out [] v = v
handed_out (m ∷ ms) v = handed_out ms (parted (Some m) v)

-- the seat of the session of this number, at this lock, which has seen these items
pub record IsSeatOf (lock : TableId) (items : List Item) (m : ℕ) (s : Sitting) : Type 0 where
  pub number : s.number ≡ m
  pub table : s.spot.table ≡ lock
  pub seen : s.spot.knows.seen ≡ items

abbrev pub SeatsOf : TableId → List Item → List ℕ → List Sitting → Type 0
SeatsOf lock items [] [] = ⊤
SeatsOf lock items (m ∷ ms) (s ∷ seats) = IsSeatOf lock items m s × SeatsOf lock items ms seats
SeatsOf lock items _ _ = ⊥

-- the seats of all sessions, each with its ask's answer
abbrev pub AreSeats : TableId → List Item → List (Result (List ℕ) PoolErr) → Answers → Type 0
AreSeats lock items [] [] = ⊤
AreSeats lock items (Ok ms ∷ answers) (Ok seats ∷ sessions) = SeatsOf lock items ms seats × AreSeats lock items answers sessions
AreSeats lock items (Err e ∷ answers) (Err f ∷ sessions) = (f ≡ e) × AreSeats lock items answers sessions
AreSeats lock items _ _ = ⊥
