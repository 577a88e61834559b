-- Memory for sessions, taken before they come.
use Rattle.std.specs.Prelude.{◌≡◌, ℕ, ◌≤◌, List, [], length}
use Rattle.std.specs.List.{All}
use Rattle.pool.specs.declared.ask.Ask.{Ask}
use Rattle.pool.specs.declared.rooms.Room.{Room}
use Rattle.pool.specs.Admitting.{AreFew, HasRoomFor}

-- accounts of so many sessions, and an empty list with room for them
pub record IsRoom {S : Type 0} (most : ℕ) (room : Room S) : Type 0 where
  pub sessions : HasRoomFor most room.sessions
  pub accounts : most ≤ length room.accounts.items
  pub bare : All (λ accounts. accounts ≡ []) room.accounts.items

-- no session is in it
abbrev pub IsEmptyRoom : {S : Type 0} → Room S → Type 0
IsEmptyRoom room = room.sessions.items ≡ []

-- as many rooms as asks, each for the sessions of each ask
pub record AreRooms {S : Type 0} (asks : List Ask) (rooms : List (Room S)) : Type 0 where
  pub most : ℕ
  pub few : AreFew most asks
  pub count : length rooms ≡ length asks
  pub each : All (IsRoom most) rooms
