-- What all clients hold, counted by pages and buffers.
use Rattle.std.proofs.Common.{◌≡◌, ◌≢◌, ℕ, zero, suc, ◌+◌, ◌*◌, ◌≤◌, ◌==◌, Bool, true, Some, refl, ap, sym, ◌∙◌, subst, arith, eq-eqb}
use Rattle.std.specs.FinMap.{get}
use Rattle.reservation_tree.specs.Total.{total}
use Rattle.reservation_tree.specs.Tracker.{Tracker, Trackers}
use Rattle.reservation_tree.proofs.Maps.{found}
use Rattle.reservation_tree.proofs.Outline.{depth_is}
use Rattle.reservation_tree.proofs.Sums.{total-plus, total-same, total-le, total-none, weight-le-total}
use Rattle.pool_model.specs.Bytes.{bytes_of, only_if}
use Rattle.pool_model.specs.State.{Place, Pinned, Dirty, Flying, Loading, Clean, Evicted, Page, Pages, Buffer, Buffers}
use Rattle.pool_model.specs.Sums.{times_charged, times_held, is_clean, is_in_memory, once, page_bytes, bytes_in, pages_for, buffers_for, buffer_bytes, is_client, IsClient, over_clients}
use Rattle.pool_model.specs.Sound.{HasPins, IsOwned}
use Rattle.pool_model.proofs.Weights.{only_none, only_when, only_le, mine, not_mine, total-single, by-owners}

-- the one client whose number this is has all of it
whole_of : (ts : Trackers) (c n : ℕ) → IsClient ts c → total (λ d y. only_if (is_client y) (only_if (c == d) n)) ts ≡ n
whole_of ts c n client =
    let it : (y : Tracker) × (get ts c ≡ Some y) = found (get ts c) client.live in
    let deep : it.0.depth ≡ 2 = sym (depth_is ts c it.0 it.1) ∙ client.deep in
    total-single (λ d y. only_if (is_client y) (only_if (c == d) n)) ts c it.0 it.1
    (λ d y lives other. ap (only_if (is_client y)) (not_mine c d n (λ same. other (sym same))) ∙ only_none (is_client y))
    ∙ only_when (is_client it.0) (only_if (c == c) n) (eq-eqb it.0.depth 2 deep) ∙ mine c n

module _ (ts : Trackers) (block_len : ℕ) where
  pub clients_pages : (times : Place → ℕ) (pages : Pages) → ((p : ℕ) (x : Page) → get pages p ≡ Some x → IsClient ts x.client)
      → over_clients (pages_for times block_len pages) ts ≡ bytes_in times block_len pages
  unfolding over_clients pages_for bytes_in
  clients_pages times pages owned =
      by-owners is_client (λ c _ x. only_if (x.client == c) (page_bytes times block_len x)) (λ _ x. page_bytes times block_len x) ts pages
      (λ p x is. whole_of ts x.client (page_bytes times block_len x) (owned p x is))

  pub clients_buffers : (buffers : Buffers) → ((f : ℕ) (x : Buffer) → get buffers f ≡ Some x → IsClient ts x.client)
      → over_clients (buffers_for block_len buffers) ts ≡ buffer_bytes block_len buffers
  unfolding over_clients buffers_for buffer_bytes
  clients_buffers buffers owned =
      by-owners is_client (λ c _ x. only_if (x.client == c) (bytes_of block_len x.blocks)) (λ _ x. bytes_of block_len x.blocks) ts buffers
      (λ f x is. whole_of ts x.client (bytes_of block_len x.blocks) (owned f x is))

only_plus : (b : Bool) (m n : ℕ) → only_if b (m + n) ≡ only_if b m + only_if b n
only_plus b m n = elim b as (λ c. only_if c (m + n) ≡ only_if c m + only_if c n) [ true ↦ refl | _ ↦ omega arith ]

pub over_plus : (a b : ℕ → ℕ) (ts : Trackers) → over_clients (λ c. a c + b c) ts ≡ over_clients a ts + over_clients b ts
unfolding over_clients
over_plus a b ts =
    total-same (λ c x. only_if (is_client x) (a c + b c)) (λ c x. only_if (is_client x) (a c) + only_if (is_client x) (b c)) ts (λ c x is. only_plus (is_client x) (a c) (b c))
    ∙ total-plus (λ c x. only_if (is_client x) (a c)) (λ c x. only_if (is_client x) (b c)) ts

-- what is in memory is held or clean, where each pinned page has a pin
in_some_way : (place : Place) (n : ℕ) → HasPins place → once is_in_memory place * n ≤ times_held place * n + once is_clean place * n
in_some_way (Pinned zero) n has = absurd (omega (arith, has))
in_some_way (Pinned (suc more)) n has = omega arith
in_some_way Dirty n has = omega arith
in_some_way (Flying writer) n has = omega arith
in_some_way Loading n has = omega arith
in_some_way Clean n has = omega arith
in_some_way Evicted n has = omega arith

pub held_or_clean : (block_len : ℕ) (pages : Pages) → ((p : ℕ) (x : Page) → get pages p ≡ Some x → HasPins x.place)
    → bytes_in (once is_in_memory) block_len pages ≤ bytes_in times_held block_len pages + bytes_in (once is_clean) block_len pages
unfolding bytes_in
held_or_clean block_len pages pins =
    let held : ℕ → Page → ℕ = λ _ x. page_bytes times_held block_len x in
    let clean : ℕ → Page → ℕ = λ _ x. page_bytes (once is_clean) block_len x in
    let parts : total (λ k x. held k x + clean k x) pages ≡ total held pages + total clean pages = total-plus held clean pages in
    let less : total (λ _ x. page_bytes (once is_in_memory) block_len x) pages ≤ total (λ k x. held k x + clean k x) pages =
    total-le (λ _ x. page_bytes (once is_in_memory) block_len x) (λ k x. held k x + clean k x) pages (λ p x is. in_some_way x.place (bytes_of block_len x.blocks) (pins p x is)) in
    omega (arith, parts, less)

-- so what is in memory is what clients hold, or clean
pub memory_by_clients : (block_len : ℕ) (ts : Trackers) (pages : Pages) (buffers : Buffers) (next_name : ℕ) → IsOwned ts pages buffers next_name
    → bytes_in (once is_in_memory) block_len pages + buffer_bytes block_len buffers
    ≤ over_clients (λ c. pages_for times_held block_len pages c + buffers_for block_len buffers c) ts + bytes_in (once is_clean) block_len pages
memory_by_clients block_len ts pages buffers next_name owned =
    let split = over_plus (pages_for times_held block_len pages) (buffers_for block_len buffers) ts in
    let of_pages = clients_pages ts block_len times_held pages owned.page_clients in
    let of_buffers = clients_buffers ts block_len buffers owned.buffer_clients in
    let places = held_or_clean block_len pages owned.pins in
    omega (arith, split, of_pages, of_buffers, places)

charged_held : (place : Place) (n : ℕ) → times_charged place * n ≤ times_held place * n
charged_held (Pinned count) n = omega arith
charged_held Dirty n = omega arith
charged_held (Flying writer) n = omega arith
charged_held Loading n = omega arith
charged_held Clean n = omega arith
charged_held Evicted n = omega arith

-- what is charged is held
pub charges_held : (block_len : ℕ) (pages : Pages) (t : ℕ) → pages_for times_charged block_len pages t ≤ pages_for times_held block_len pages t
unfolding pages_for
charges_held block_len pages t =
    total-le (λ _ x. only_if (x.client == t) (page_bytes times_charged block_len x)) (λ _ x. only_if (x.client == t) (page_bytes times_held block_len x)) pages
    (λ p x is. only_le (x.client == t) (page_bytes times_charged block_len x) (page_bytes times_held block_len x) (charged_held x.place (bytes_of block_len x.blocks)))

-- a page's part of what its client holds
pub part_held : (times : Place → ℕ) (block_len : ℕ) (pages : Pages) (p : ℕ) (x : Page) → get pages p ≡ Some x → page_bytes times block_len x ≤ pages_for times block_len pages x.client
unfolding pages_for
part_held times block_len pages p x is =
    let w : ℕ → Page → ℕ = λ _ z. only_if (z.client == x.client) (page_bytes times block_len z) in
    let part : w p x ≤ total w pages = weight-le-total w pages p x is in
    let all : w p x ≡ page_bytes times block_len x = mine x.client (page_bytes times block_len x) in
    omega (arith, part, all)

-- who has no page and no buffer holds nothing
pub no_pages : (times : Place → ℕ) (block_len : ℕ) (pages : Pages) (t : ℕ) → ((p : ℕ) (x : Page) → get pages p ≡ Some x → x.client ≢ t) → pages_for times block_len pages t ≡ 0
unfolding pages_for
no_pages times block_len pages t none =
    total-none (λ _ x. only_if (x.client == t) (page_bytes times block_len x)) pages (λ p x is. not_mine x.client t (page_bytes times block_len x) (none p x is))

pub no_buffers : (block_len : ℕ) (buffers : Buffers) (t : ℕ) → ((f : ℕ) (x : Buffer) → get buffers f ≡ Some x → x.client ≢ t) → buffers_for block_len buffers t ≡ 0
unfolding buffers_for
no_buffers block_len buffers t none =
    total-none (λ _ x. only_if (x.client == t) (bytes_of block_len x.blocks)) buffers (λ f x is. not_mine x.client t (bytes_of block_len x.blocks) (none f x is))

-- who isn't a client holds nothing
pub not_client : (ts : Trackers) (pages : Pages) (buffers : Buffers) (next_name block_len t : ℕ) → IsOwned ts pages buffers next_name → (IsClient ts t → ⊥)
    → pages_for times_held block_len pages t + buffers_for block_len buffers t ≡ 0
not_client ts pages buffers next_name block_len t owned isnt =
    let first : pages_for times_held block_len pages t ≡ 0 = no_pages times_held block_len pages t (λ p x is same. isnt (subst (λ (c : ℕ). IsClient ts c) same (owned.page_clients p x is))) in
    let then : buffers_for block_len buffers t ≡ 0 = no_buffers block_len buffers t (λ f x is same. isnt (subst (λ (c : ℕ). IsClient ts c) same (owned.buffer_clients f x is))) in
    omega (arith, first, then)
