-- The table and the lists that it shows, and what a call reads there.
use Rattle.std.proofs.Common.{ℕ, ◌≡◌, ◌+◌, ◌-◌, ◌^◌, ◌<◌, Option, None, Some, List, length, get_or, refl, ap, sym, ◌∙◌, subst, inl, inr, arith}
use Rattle.std.specs.List.{slice_get}
use Rattle.std.proofs.lemmas.List.{get_or_read}
use Rattle.index_list.specs.contracts.table.Lists.{the_invariant, the_view}
use Rattle.index_list.specs.declared.links.Link.{Link}
use Rattle.index_list.specs.declared.table.Lists.TheInside.{Inside}
use Rattle.index_list.specs.Listing.{Listing, IsProper, nodes_on, list_with, next_node, behind_on}
use Rattle.index_list.specs.Threads.{no_link, next_of, prev_of, home_of, threads_of, answer, IsHome, Chain, Tied}
use Rattle.index_list.proofs.Entries.{chain-first, chain-last, chain-behind}
use Rattle.index_list.proofs.Tables.{tied-lists, tied-self, tied-proper, free-none, home-some}

-- the table has an entry for each node and each list, and its threads are those of these lists
pub record Shows (links : List Link) (nodes lists : ℕ) (t : Listing) : Type 0 where
  pub sized : length links ≡ nodes + lists
  pub over : t.nodes ≡ nodes
  pub tied : Tied (threads_of links) nodes lists t.lists

-- between this and what the model says
pub shows : (a : Inside) (t : Listing) → the_invariant a → the_view a ≡ t → Shows a.links.items a.nodes a.lists t
shows a t inv is =
    let P : Listing → Type 0 = λ u. Shows a.links.items a.nodes a.lists u in
    subst P is (record { sized = inv.0; over = refl; tied = inv.1 })

pub shows-invariant : (a : Inside) (t : Listing) → Shows a.links.items a.nodes a.lists t → the_invariant a
shows-invariant a t s = (s.sized, tied-self (threads_of a.links.items) a.nodes a.lists t.lists s.tied)

pub shows-view : (a : Inside) (t : Listing) → Shows a.links.items a.nodes a.lists t → the_view a ≡ t
shows-view a t s =
    let F : List (List ℕ) → Listing = λ v. record { nodes = a.nodes; lists = v } in
    let G : ℕ → Listing = λ n. record { nodes = n; lists = t.lists } in
    ap F (tied-lists (threads_of a.links.items) a.nodes a.lists t.lists s.tied) ∙ ap G (sym s.over)

-- the same table under another name
pub shows-as : {links : List Link} {nodes lists : ℕ} {t : Listing} (now : List Link) → now ≡ links → Shows links nodes lists t → Shows now nodes lists t
shows-as {links} {nodes} {lists} {t} now e s =
    let P : List Link → Type 0 = λ ls. Shows ls nodes lists t in
    subst P (sym e) s

-- an entry that was read is the table's
pub read-is : {links : List Link} {nodes lists : ℕ} {t : Listing} → Shows links nodes lists t → (q : ℕ) (x : Link) → q < nodes + lists → x ≡ get_or links q x → x ≡ get_or links q no_link
read-is {links} s q x l e = let z = s.sized in get_or_read links q x (omega arith) e no_link

pub end-in : {links : List Link} {nodes lists : ℕ} {t : Listing} → Shows links nodes lists t → (list : ℕ) → list < length t.lists → nodes + list < nodes + lists
end-in s list l = let n = s.tied.count in omega arith

pub entry-in : {links : List Link} {nodes lists : ℕ} {t : Listing} → Shows links nodes lists t → (node : ℕ) → node < t.nodes → node < nodes + lists
entry-in s node l = let o = s.over in omega arith

-- the chain of a list
pub chain-of : {links : List Link} {nodes lists : ℕ} {t : Listing} → Shows links nodes lists t → (list : ℕ) → list < length t.lists → Chain (threads_of links) nodes list (nodes + list) (nodes_on list t) (nodes + list)
chain-of s list l = let n = s.tied.count in s.tied.chains list (omega arith)

pub front-is : {links : List Link} {nodes lists : ℕ} {t : Listing} → Shows links nodes lists t → (list : ℕ) → list < length t.lists → answer nodes (next_of links (nodes + list)) ≡ slice_get (nodes_on list t) 0
front-is {links} {nodes} {lists} {t} s list l =
    chain-first (threads_of links) nodes list (nodes + list) (nodes_on list t) (nodes + list) (chain-of s list l) (omega arith)

pub back-is : {links : List Link} {nodes lists : ℕ} {t : Listing} → Shows links nodes lists t → (list : ℕ) → list < length t.lists → answer nodes (prev_of links (nodes + list)) ≡ slice_get (nodes_on list t) (length (nodes_on list t) - 1)
back-is {links} {nodes} {lists} {t} s list l =
    chain-last (threads_of links) nodes list (nodes + list) (nodes_on list t) (nodes + list) (chain-of s list l) (omega arith)

pub is-proper : {links : List Link} {nodes lists : ℕ} {t : Listing} → Shows links nodes lists t → IsProper t
is-proper {links} {nodes} {lists} {t} s =
    let P : ℕ → Type 0 = λ n. IsProper (record { nodes = n; lists = t.lists }) in
    subst P (sym s.over) (tied-proper (threads_of links) nodes lists t.lists s.tied)

-- a node that says so is on no list
pub list-none : {links : List Link} {nodes lists : ℕ} {t : Listing} → Shows links nodes lists t → (node : ℕ) → home_of links node ≡ 2 ^ 32 - 1 → list_with node t ≡ None
list-none {links} {nodes} {lists} {t} s node e = free-none (threads_of links) nodes lists t.lists s.tied node (record { home = e })

-- and another is on the list that it names
pub home-of : {links : List Link} {nodes lists : ℕ} {t : Listing} → Shows links nodes lists t → (node : ℕ) → node < t.nodes → (home_of links node ≡ 2 ^ 32 - 1 → ⊥) → IsHome (threads_of links) t.lists node
home-of s node l n =
    let o = s.over in
    elim (s.tied.homes node (omega arith)) [ inl f ↦ absurd (n f.home) | inr h ↦ h ]

pub list-some : {links : List Link} {nodes lists : ℕ} {t : Listing} → Shows links nodes lists t → (node : ℕ) → node < t.nodes → (home_of links node ≡ 2 ^ 32 - 1 → ⊥) → list_with node t ≡ Some (home_of links node)
list-some {links} {nodes} {lists} {t} s node l n = home-some (threads_of links) nodes lists t.lists s.tied node (home-of s node l n)

pub next-none : {links : List Link} {nodes lists : ℕ} {t : Listing} → Shows links nodes lists t → (node : ℕ) → home_of links node ≡ 2 ^ 32 - 1 → next_node node t ≡ None
next-none {links} {nodes} {lists} {t} s node e =
    let F : Option ℕ → Option ℕ = λ o. behind_on node o t in
    ap F (list-none s node e)

pub next-is : {links : List Link} {nodes lists : ℕ} {t : Listing} → Shows links nodes lists t → (node : ℕ) → node < t.nodes → (home_of links node ≡ 2 ^ 32 - 1 → ⊥) → answer nodes (next_of links node) ≡ next_node node t
next-is {links} {nodes} {lists} {t} s node l n =
    let F : Option ℕ → Option ℕ = λ o. behind_on node o t in
    let h = home-of s node l n in
    let list = home_of links node in
    chain-behind (threads_of links) nodes list (nodes + list) (nodes_on list t) (nodes + list) node (chain-of s list h.in_range) (omega arith) h.stands
    ∙ sym (ap F (list-some s node l n))
