-- How a page leaves its list.
use Rattle.std.proofs.Common.{◌≡◌, ◌≢◌, ℕ, true, Some, None, refl, sym, arith}
use Rattle.std.proofs.lemmas.Bool.{false≢true}
use Rattle.index_list.specs.Listing.{list_with, stands_in, others}
use Rattle.index_list.proofs.Members.{others-all}
use Rattle.index_list.proofs.Places.{nodes_on-without, nowhere}
use Rattle.page_table.specs.declared.entry.Place.{Place as Spot}
use Rattle.page_table.specs.declared.entry.Place.TheVariants as spot
use Rattle.client_lists.specs.declared.which.Which.TheVariants as which
use Rattle.client_lists.specs.Clients.{Clients, IsOn, IsWhole, place, nodes_of, len_of}
use Rattle.client_lists.proofs.Nodes.{list-without_node, list-without_node_other}
use Rattle.clean_evict.specs.Cleans.{Cleans}
use Rattle.pool_model.proofs.Seats.{some_is}
use Rattle.pin_core.specs.Invariant.{list_at, is_clean_spot, is_home}
use Rattle.pin_core.specs.parts.Leavings.{is_listed, lists_left, clean_left}

module _ (t : Clients) (whole : IsWhole t) (client key : ℕ) where
  pub left_gone : (at : Spot) → is_home at ≡ true → list_with key t.pages.lists ≡ list_at client at → list_with key (lists_left at key t).pages.lists ≡ None
  left_gone (spot.Pinned count) home on = list-without_node t whole client key which.Pinned on
  left_gone spot.Dirty home on = list-without_node t whole client key which.Dirty on
  left_gone (spot.Flying writer) home on = absurd (false≢true home)
  left_gone spot.Loading home on = absurd (false≢true home)
  left_gone spot.Clean home on = on
  left_gone spot.Evicted home on = on

  pub left_others : (at : Spot) → list_with key t.pages.lists ≡ list_at client at → (k : ℕ) → k ≢ key → list_with k (lists_left at key t).pages.lists ≡ list_with k t.pages.lists
  left_others (spot.Pinned count) on k apart = list-without_node_other t whole client key which.Pinned on k apart
  left_others spot.Dirty on k apart = list-without_node_other t whole client key which.Dirty on k apart
  left_others (spot.Flying writer) on k apart = refl
  left_others spot.Loading on k apart = refl
  left_others spot.Clean on k apart = refl
  left_others spot.Evicted on k apart = refl

  pub left_queues : (at : Spot) → is_home at ≡ true → list_with key t.pages.lists ≡ list_at client at → (d : ℕ) → nodes_of d which.Dirty (lists_left at key t) ≡ others key (nodes_of d which.Dirty t)
  left_queues (spot.Pinned count) home on d = nodes_on-without t.pages.lists (place d which.Dirty) key
  left_queues spot.Dirty home on d = nodes_on-without t.pages.lists (place d which.Dirty) key
  left_queues (spot.Flying writer) home on d = absurd (false≢true home)
  left_queues spot.Loading home on d = absurd (false≢true home)
  left_queues spot.Clean home on d = sym (others-all key (nodes_of d which.Dirty t) (nowhere t.pages.lists key on (place d which.Dirty)))
  left_queues spot.Evicted home on d = sym (others-all key (nodes_of d which.Dirty t) (nowhere t.pages.lists key on (place d which.Dirty)))

pub left_lens : (t : Clients) (key : ℕ) (at : Spot) (k : ℕ) → len_of k (lists_left at key t).pages ≡ len_of k t.pages
left_lens t key (spot.Pinned count) k = refl
left_lens t key spot.Dirty k = refl
left_lens t key (spot.Flying writer) k = refl
left_lens t key spot.Loading k = refl
left_lens t key spot.Clean k = refl
left_lens t key spot.Evicted k = refl

pub left_opens : (t : Clients) (key : ℕ) (at : Spot) → (lists_left at key t).is_open ≡ t.is_open
left_opens t key (spot.Pinned count) = refl
left_opens t key spot.Dirty = refl
left_opens t key (spot.Flying writer) = refl
left_opens t key spot.Loading = refl
left_opens t key spot.Clean = refl
left_opens t key spot.Evicted = refl

pub left_nodes : (t : Clients) (key : ℕ) (at : Spot) → (lists_left at key t).pages.lists.nodes ≡ t.pages.lists.nodes
left_nodes t key (spot.Pinned count) = refl
left_nodes t key spot.Dirty = refl
left_nodes t key (spot.Flying writer) = refl
left_nodes t key spot.Loading = refl
left_nodes t key spot.Clean = refl
left_nodes t key spot.Evicted = refl

pub left_keys : (t : Cleans) (key : ℕ) (at : Spot) → stands_in key t.keys ≡ is_clean_spot at → (clean_left at key t).keys ≡ others key t.keys
left_keys t key (spot.Pinned count) out = sym (others-all key t.keys out)
left_keys t key spot.Dirty out = sym (others-all key t.keys out)
left_keys t key (spot.Flying writer) out = sym (others-all key t.keys out)
left_keys t key spot.Loading out = sym (others-all key t.keys out)
left_keys t key spot.Clean out = refl
left_keys t key spot.Evicted out = sym (others-all key t.keys out)

pub left_cleans : (t : Cleans) (key : ℕ) (at : Spot) → (clean_left at key t).nodes ≡ t.nodes
left_cleans t key (spot.Pinned count) = refl
left_cleans t key spot.Dirty = refl
left_cleans t key (spot.Flying writer) = refl
left_cleans t key spot.Loading = refl
left_cleans t key spot.Clean = refl
left_cleans t key spot.Evicted = refl

-- a page isn't on another client's dirty list
pub off_others : (client : ℕ) (at : Spot) (d : ℕ) → d ≢ client → list_at client at ≢ Some (place d which.Dirty)
off_others client (spot.Pinned count) d other is = let same = some_is (place client which.Pinned) (place d which.Dirty) is in omega (arith, same)
off_others client spot.Dirty d other is = let same = some_is (place client which.Dirty) (place d which.Dirty) is in other (omega (arith, same))
off_others client (spot.Flying writer) d other is = let same = some_is (place client which.Flying) (place d which.Dirty) is in omega (arith, same)
off_others client spot.Loading d other is = let same = some_is (place client which.Pinned) (place d which.Dirty) is in omega (arith, same)
off_others client spot.Clean d other is = cc
off_others client spot.Evicted d other is = cc

pub listed_on : (t : Clients) (client key : ℕ) (at : Spot) → list_with key t.pages.lists ≡ list_at client at → is_listed at ≡ true → IsOn client key t
listed_on t client key (spot.Pinned count) on listed = record { which = which.Pinned; there = on }
listed_on t client key spot.Dirty on listed = record { which = which.Dirty; there = on }
listed_on t client key (spot.Flying writer) on listed = absurd (false≢true listed)
listed_on t client key spot.Loading on listed = absurd (false≢true listed)
listed_on t client key spot.Clean on listed = absurd (false≢true listed)
listed_on t client key spot.Evicted on listed = absurd (false≢true listed)
