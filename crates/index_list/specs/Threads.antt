-- How the lists are threaded through the table. The entry `nodes + k` is the end of list k: its
-- front follows the end, and the end follows its back. No caller's clause cites this file.
use Rattle.std.specs.Prelude.{ℕ, ◌≡◌, ◌+◌, ◌<◌, ◌⊎◌, ◌^◌, ◌-◌, true, false, zero, suc, List, [], ◌∷◌, get_or, map, length, cond, eqb, nat_lt, Option, None, Some}
use Rattle.std.specs.List.{range_with_len}
use Rattle.index_list.specs.declared.links.Link.{Link}
use Rattle.index_list.specs.Listing.{stands_in}

-- what each entry says: the entry that follows, the one before, the list it is on
pub record Threads : Type 0 where
  pub next : ℕ → ℕ
  pub prev : ℕ → ℕ
  pub home : ℕ → ℕ

-- stands for an entry that the table does not have
abbrev pub no_link : Link
no_link = record { next = 0; prev = 0; list = 0 }

-- the entry that follows an entry
abbrev pub next_of : List Link → ℕ → ℕ
next_of links q = (get_or links q no_link).next

-- the entry that it follows
abbrev pub prev_of : List Link → ℕ → ℕ
prev_of links q = (get_or links q no_link).prev

-- the list that it is on, where it is a node's
abbrev pub home_of : List Link → ℕ → ℕ
home_of links q = (get_or links q no_link).list

-- the threads of a table
abbrev pub threads_of : List Link → Threads
threads_of links = record { next = next_of links; prev = prev_of links; home = home_of links }

-- an entry as the calls answer it: a node, or none where it is a list's end
abbrev pub answer : ℕ → ℕ → Option ℕ
answer nodes q = cond (nat_lt q nodes) (Some q) None

-- the nodes from here on, up to an entry that is no node, and at most so many
abbrev pub walk : (ℕ → ℕ) → ℕ → ℕ → ℕ → List ℕ
walk next nodes zero at = []
walk next nodes (suc most) at = cond (nat_lt at nodes) (at ∷ walk next nodes most (next at)) []

-- each list as its end leads over it
abbrev pub lists_in : (ℕ → ℕ) → ℕ → ℕ → List (List ℕ)
lists_in next nodes lists = map (λ k. walk next nodes nodes (next (nodes + k))) (range_with_len 0 lists)

-- the one entry follows the other
pub record Joined (t : Threads) (before after : ℕ) : Type 0 where
  pub forth : t.next before ≡ after
  pub back : t.prev after ≡ before

-- the node x follows the entry, is on list k and is none of the nodes behind it
pub record Step (t : Threads) (nodes k before x : ℕ) (behind : List ℕ) : Type 0 where
  pub joined : Joined t before x
  pub known : x < nodes
  pub home : t.home x ≡ k
  pub once : stands_in x behind ≡ false

-- from the one entry over these nodes to the other
abbrev pub Chain : Threads → ℕ → ℕ → ℕ → List ℕ → ℕ → Type 0
Chain t nodes k before [] end = Joined t before end
Chain t nodes k before (x ∷ xs) end = Step t nodes k before x xs × Chain t nodes k x xs end

-- the entry `after` was made to follow the entry `before`, and nothing else changed
pub record Joins (t u : Threads) (before after : ℕ) : Type 0 where
  pub next : (q : ℕ) → u.next q ≡ cond (eqb before q) after (t.next q)
  pub prev : (q : ℕ) → u.prev q ≡ cond (eqb after q) before (t.prev q)
  pub home : (q : ℕ) → u.home q ≡ t.home q

-- the node was noted as one of that list, and nothing else changed
pub record Notes (t u : Threads) (node list : ℕ) : Type 0 where
  pub next : (q : ℕ) → u.next q ≡ t.next q
  pub prev : (q : ℕ) → u.prev q ≡ t.prev q
  pub home : (q : ℕ) → u.home q ≡ cond (eqb node q) list (t.home q)

-- the entry of a node that is on no list
pub record IsFree (t : Threads) (q : ℕ) : Type 0 where
  pub home : t.home q ≡ 2 ^ 32 - 1

-- the entry of a node that is on the list that it names
pub record IsHome (t : Threads) (v : List (List ℕ)) (q : ℕ) : Type 0 where
  pub in_range : t.home q < length v
  pub stands : stands_in q (get_or v (t.home q) []) ≡ true

-- the threads are those of these lists
pub record Tied (t : Threads) (nodes lists : ℕ) (v : List (List ℕ)) : Type 0 where
  pub count : length v ≡ lists
  pub room : nodes + lists < 2 ^ 32
  pub chains : (k : ℕ) → k < lists → Chain t nodes k (nodes + k) (get_or v k []) (nodes + k)
  pub homes : (q : ℕ) → q < nodes → IsFree t q ⊎ IsHome t v q
