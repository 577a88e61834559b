-- What the private parts keep true. No public clause cites this file.
use Rattle.std.specs.Prelude.{ℕ, ◌≡◌, ◌≢◌, ◌*◌, ◌<◌, ◌≤◌, ◌^◌, Bool, false, List, [], get_or, length}
use Rattle.index_list.specs.Listing.{Listing, IsProper, nodes_on, stands_in}
use Rattle.client_lists.specs.declared.which.Which.{Which}
use Rattle.client_lists.specs.declared.which.Which.TheVariants.{Dirty}
use Rattle.client_lists.specs.Clients.{Measured, longest, is_filled, total, place}

-- beside each list stands the sum of the lengths on it
pub record IsSummed (t : Listing) (lens sums : List ℕ) : Type 0 where
  pub sized : length lens ≡ t.nodes
  pub counted : length sums ≡ length t.lists
  pub room : t.nodes < 2 ^ 32
  pub bounded : (node : ℕ) → get_or lens node 0 ≤ longest
  pub summed : (list : ℕ) → get_or sums list 0 ≡ total lens (nodes_on list t)
  pub proper : IsProper t

-- the busy clients are those with a dirty page
abbrev pub IsMarked : Listing → Listing → Type 0
IsMarked lists busy = (client : ℕ) → stands_in client (nodes_on 0 busy) ≡ is_filled (nodes_on (place client Dirty) lists)

-- a client that is not open has no page
abbrev pub IsBare : List Bool → Listing → Type 0
IsBare is_open lists = (client : ℕ) (which : Which) → get_or is_open client false ≡ false → nodes_on (place client which) lists ≡ []

-- three lists for each client, and one for the busy ones
pub record IsKept (is_open : List Bool) (m : Measured) (busy : Listing) : Type 0 where
  pub counted : length m.lists.lists ≡ 3 * length is_open
  pub room : 3 * length is_open < 2 ^ 32
  pub clients : busy.nodes ≡ length is_open
  pub one : length busy.lists ≡ 1
  pub marked : IsMarked m.lists busy
  pub bare : IsBare is_open m.lists

-- whether the client stands among the busy ones is settled, and nothing else changed
pub record Settles (client : ℕ) (has_dirty : Bool) (old new : Listing) : Type 0 where
  pub nodes : new.nodes ≡ old.nodes
  pub lists : length new.lists ≡ length old.lists
  pub own : stands_in client (nodes_on 0 new) ≡ has_dirty
  pub rest : (q : ℕ) → q ≢ client → stands_in q (nodes_on 0 new) ≡ stands_in q (nodes_on 0 old)
