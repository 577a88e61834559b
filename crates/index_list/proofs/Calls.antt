-- What a call that writes needs of the table, and the lists that the table shows after it.
use Rattle.std.proofs.Common.{ℕ, ◌≡◌, ◌+◌, ◌-◌, ◌^◌, ◌<◌, ◌≤◌, true, Option, None, Some, List, [], length, refl, ◌∙◌, inl, inr, arith}
use Rattle.std.specs.Option.{IsSome, is_some}
use Rattle.std.proofs.lemmas.Bool.{false≢true}
use Rattle.std.proofs.lemmas.List.{get_or-replicate, length-replicate}
use Rattle.std.proofs.lemmas.List.Quantifiers.{position-Some}
use Rattle.index_list.specs.declared.links.Link.{Link}
use Rattle.index_list.specs.Listing.{Listing, empty, nodes_on, stands_in, list_with, pushed, without}
use Rattle.index_list.specs.Threads.{next_of, prev_of, home_of, threads_of, Joined, Joins, Notes, IsFree}
use Rattle.index_list.proofs.Chains.{Sides, chain-end, chain-end_in, chain-end_far, chain-sides}
use Rattle.index_list.proofs.Tables.{tied-home, tied-pushed, tied-removed, free-nowhere, home-some}
use Rattle.index_list.proofs.Writes.{pushed-by, removed-by}
use Rattle.index_list.proofs.Shown.{Shows, chain-of}

-- a node that may be pushed says that it is on no list
is-free : {links : List Link} {nodes lists : ℕ} {t : Listing} → Shows links nodes lists t → (node : ℕ) → node < t.nodes → list_with node t ≡ None → IsFree (threads_of links) node
is-free {links} {nodes} {lists} {t} s node l e =
    let o = s.over in
    elim (s.tied.homes node (omega arith)) [
      | inl f ↦ f
      | inr h ↦ let w = home-some (threads_of links) nodes lists t.lists s.tied node h in cc (w, e)
    ]

pub last-in : {links : List Link} {nodes lists : ℕ} {t : Listing} → Shows links nodes lists t → (list : ℕ) → list < length t.lists → prev_of links (nodes + list) < length links
last-in {links} {nodes} {lists} {t} s list l =
    let n = s.tied.count in
    let z = s.sized in
    chain-end_in (threads_of links) nodes list (nodes + list) (nodes_on list t) (nodes + list) (length links) (chain-of s list l) (omega arith) (omega arith)

-- after two joins and a note
pub push-shows : {links : List Link} {nodes lists : ℕ} {t : Listing} (one two now : List Link) → Shows links nodes lists t → (list node : ℕ) → list < length t.lists → node < t.nodes → list_with node t ≡ None → Joins (threads_of links) (threads_of one) (prev_of links (nodes + list)) node → Joins (threads_of one) (threads_of two) node (nodes + list) → Notes (threads_of two) (threads_of now) node list → length now ≡ length links → Shows now nodes lists (pushed list node t)
push-shows {links} {nodes} {lists} {t} one two now s list node ll ln e first second noted z =
    let th = threads_of links in
    let xs = nodes_on list t in
    let end = nodes + list in
    let c = chain-of s list ll in
    let n = s.tied.count in
    let o = s.over in
    let free = is-free s node ln e in
    let out = free-nowhere th nodes lists t.lists s.tied node free list in
    let ne : end ≡ node → ⊥ = λ q. absurd (omega arith) in
    let m = pushed-by th (threads_of one) (threads_of two) (threads_of now) list end (prev_of links end) node first second noted refl (chain-end th nodes list end xs end c) (chain-end_far th nodes list end xs end node c ne out) ne in
    record {
      sized = z ∙ s.sized;
      over = o;
      tied = tied-pushed th (threads_of now) nodes lists t.lists list node s.tied (omega arith) (omega arith) free m;
    }

some-is : (o : Option ℕ) → is_some o ≡ true → (i : ℕ) × (o ≡ Some i)
some-is None e = absurd (false≢true e)
some-is (Some i) e = (i, refl)

-- a node that may be removed stands on a list
record Stands (nodes : ℕ) (t : Listing) (node : ℕ) : Type 0 where
  list : ℕ
  list_in : list < length t.lists
  there : stands_in node (nodes_on list t) ≡ true
  node_in : node < nodes

stands-of : {links : List Link} {nodes lists : ℕ} {t : Listing} → Shows links nodes lists t → (node : ℕ) → IsSome (list_with node t) → Stands nodes t node
stands-of {links} {nodes} {lists} {t} s node e =
    let w = some-is (list_with node t) e in
    let p = position-Some (stands_in node) t.lists w.0 [] w.1 in
    record { list = w.0; list_in = p.0; there = p.1; node_in = (tied-home (threads_of links) nodes lists t.lists s.tied w.0 node p.1).1 }

pub node-in : {links : List Link} {nodes lists : ℕ} {t : Listing} → Shows links nodes lists t → (node : ℕ) → IsSome (list_with node t) → node < length links
node-in s node e =
    let l = (stands-of s node e).node_in in
    let z = s.sized in
    omega arith

pub sides-of : {links : List Link} {nodes lists : ℕ} {t : Listing} → Shows links nodes lists t → (node : ℕ) → IsSome (list_with node t) → Sides (threads_of links) (length links) node
sides-of {links} {nodes} {lists} {t} s node e =
    let w = stands-of s node e in
    let l = w.list_in in
    let n = s.tied.count in
    let z = s.sized in
    chain-sides (threads_of links) nodes w.list (nodes + w.list) (nodes_on w.list t) (nodes + w.list) (length links) node (chain-of s w.list l) (omega arith) (omega arith) (omega arith) w.there

-- after one join and a note
pub remove-shows : {links : List Link} {nodes lists : ℕ} {t : Listing} (one now : List Link) → Shows links nodes lists t → (node : ℕ) → IsSome (list_with node t) → Joins (threads_of links) (threads_of one) (prev_of links node) (next_of links node) → Notes (threads_of one) (threads_of now) node (2 ^ 32 - 1) → length now ≡ length links → Shows now nodes lists (without node t)
remove-shows {links} {nodes} {lists} {t} one now s node e joined noted z =
    let th = threads_of links in
    let m = removed-by th (threads_of one) (threads_of now) (length links) (prev_of links node) (next_of links node) node joined noted (sides-of s node e) refl refl in
    record {
      sized = z ∙ s.sized;
      over = s.over;
      tied = tied-removed th (threads_of now) nodes lists t.lists node s.tied (stands-of s node e).node_in m;
    }

-- the table of empty lists, as far as it is made: the ends below `end` lead to themselves
pub record IsMade (links : List Link) (nodes end entries : ℕ) : Type 0 where
  pub sized : length links ≡ entries
  pub ends : (q : ℕ) → nodes ≤ q → q < end → Joined (threads_of links) q q
  pub free : (q : ℕ) → q < entries → home_of links q ≡ 2 ^ 32 - 1

pub made-shows : (links : List Link) (nodes lists end entries : ℕ) → IsMade links nodes end entries → entries ≤ end → entries ≡ nodes + lists → entries < 2 ^ 32 → Shows links nodes lists (empty nodes lists)
made-shows links nodes lists end entries m o e r = record {
  sized = m.sized ∙ e;
  over = refl;
  tied = record {
    count = length-replicate {A = List ℕ} lists [];
    room = omega arith;
    chains = λ k l. rw (get_or-replicate {A = List ℕ} lists k [] [] l) (m.ends (nodes + k) (omega arith) (omega arith));
    homes = λ q l. inl (record { home = m.free q (omega arith) });
  };
}
