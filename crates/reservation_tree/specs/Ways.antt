-- Growths, falls and moves over three levels as single steps: a query's tracker stands right under the root, and a
-- client's right under its query's.
use Rattle.std.specs.Prelude.{◌≡◌, ◌≢◌, ℕ, None}
use Rattle.reservation_tree.specs.Tracker.{Trackers, depth_of, parent_of}
use Rattle.reservation_tree.specs.Change.{raise, lower, lacking, grow, shrink, move_to, over, or_else, grow_refusal, move_refusal}

-- the tracker stands right under the root
pub record IsUnderRoot (ts : Trackers) (q : ℕ) : Type 0 where
  pub depth : depth_of ts q ≡ 1
  pub parent : parent_of ts q ≡ 0
  pub root : depth_of ts 0 ≡ 0

-- the tracker stands right under this query's
pub record IsUnderQuery (ts : Trackers) (t q : ℕ) : Type 0 where
  pub depth : depth_of ts t ≡ 2
  pub parent : parent_of ts t ≡ q
  pub query : IsUnderRoot ts q

-- a query's growth raises the root by what the root lacks, its fall lowers the root by as much, and the lowest limit refuses
pub record QuerySteps (charge : ℕ → ℕ) (ts : Trackers) (bytes q : ℕ) : Type 0 where
  pub grows : grow charge bytes q ts ≡ raise bytes q (raise (lacking charge bytes 0 ts) 0 ts)
  pub falls : shrink bytes q ts ≡ lower bytes 0 (lower bytes q ts)
  pub refused : grow_refusal charge bytes q ts ≡ or_else (over ts bytes q) (over ts (lacking charge bytes 0 ts) 0)

-- so do a client's, with its query between the two
pub record ClientSteps (charge : ℕ → ℕ) (ts : Trackers) (bytes t q : ℕ) : Type 0 where
  pub grows : grow charge bytes t ts ≡ raise bytes t (raise (lacking charge bytes q ts) q (raise (lacking charge (lacking charge bytes q ts) 0 ts) 0 ts))
  pub falls : shrink bytes t ts ≡ lower bytes 0 (lower bytes q (lower bytes t ts))
  pub refused : grow_refusal charge bytes t ts
      ≡ or_else (over ts bytes t) (or_else (over ts (lacking charge bytes q ts) q) (over ts (lacking charge (lacking charge bytes q ts) 0 ts) 0))

-- a move between a client and its query changes the client alone, so only the client's limit refuses
pub record QueryMoves (ts : Trackers) (bytes t q : ℕ) : Type 0 where
  pub up : move_to bytes t q ts ≡ lower bytes t ts
  pub up_refused : move_refusal bytes t q ts ≡ None
  pub down : move_to bytes q t ts ≡ raise bytes t ts
  pub down_refused : move_refusal bytes q t ts ≡ over ts bytes t

-- a move from one client to another of its query changes these two
pub record ClientMoves (ts : Trackers) (bytes a b : ℕ) : Type 0 where
  pub moves : move_to bytes a b ts ≡ raise bytes b (lower bytes a ts)
  pub refused : move_refusal bytes a b ts ≡ over ts bytes b

-- a move to the tracker itself changes nothing
pub record OwnMoves (ts : Trackers) (bytes t : ℕ) : Type 0 where
  pub moves : move_to bytes t t ts ≡ ts
  pub refused : move_refusal bytes t t ts ≡ None

abbrev pub QueriesStep : Type 0
QueriesStep = (charge : ℕ → ℕ) (ts : Trackers) (bytes q : ℕ) → IsUnderRoot ts q → QuerySteps charge ts bytes q

abbrev pub ClientsStep : Type 0
ClientsStep = (charge : ℕ → ℕ) (ts : Trackers) (bytes t q : ℕ) → IsUnderQuery ts t q → ClientSteps charge ts bytes t q

abbrev pub QueriesMove : Type 0
QueriesMove = (ts : Trackers) (bytes t q : ℕ) → IsUnderQuery ts t q → QueryMoves ts bytes t q

abbrev pub ClientsMove : Type 0
ClientsMove = (ts : Trackers) (bytes a b q : ℕ) → IsUnderQuery ts a q → IsUnderQuery ts b q → a ≢ b → ClientMoves ts bytes a b

abbrev pub MovesToItself : Type 0
MovesToItself = (ts : Trackers) (bytes t : ℕ) → OwnMoves ts bytes t
