-- What follows where a state is sound.
use Rattle.std.proofs.Common.{◌≡◌, ℕ, ◌+◌, ◌≤◌, ◌==◌, Bool, true, false, Option, Some, refl, ap, sym, ◌∙◌, subst, arith, eq-eqb, eqb-true, inl, inr}
use Rattle.std.specs.FinMap.{get}
use Rattle.reservation_tree.specs.Total.{total}
use Rattle.reservation_tree.specs.Tracker.{Tracker, Trackers, reservation_of, limit_of, depth_of, share_of, children_of, HasNoChild, Fits, FitsTree, Hangs}
use Rattle.reservation_tree.proofs.Maps.{found, is_there, same_or_other}
use Rattle.reservation_tree.proofs.Outline.{depth_is, reservation_is}
use Rattle.reservation_tree.proofs.Shares.{share_here, share_there, children-none}
use Rattle.reservation_tree.proofs.Sums.{total-le, total-none, total-same}
use Rattle.reservation_tree.proofs.Above.{Above, above, at_root}
use Rattle.pool_model.specs.Bytes.{only_if}
use Rattle.pool_model.specs.State.{Sessions, State}
use Rattle.pool_model.specs.Sums.{times_charged, times_held, charge_of, held_by, page_bytes, pages_for, is_client, IsClient, over_clients, clean_bytes, bytes_in_memory, memory, FitsClients, FitsPages}
use Rattle.pool_model.specs.Sound.{IsSeated, IsSound}
use Rattle.pool_model.specs.PoolLaws.{FindsRoom}
use Rattle.pool_model.proofs.Weights.{only_none, only_when, only_less, only_le, total-single, total-spare, by-owners}
use Rattle.pool_model.proofs.ByClients.{memory_by_clients, charges_held, part_held, not_client}

module _ (bytes : ℕ) (ts : Trackers) (sessions : Sessions) (seated : IsSeated bytes ts sessions) where
  -- nothing stands under a client
  pub no_child : (c : ℕ) → IsClient ts c → HasNoChild ts c
  no_child c client child x is under =
      let hangs : Hangs ts child x.depth (Some c) = subst (λ (o : Option ℕ). Hangs ts child x.depth o) under (seated.tree.hangs child x is) in
      let mine : depth_of ts c ≡ hangs.0.depth = depth_is ts c hangs.0 hangs.1 in
      let low : x.depth ≤ 2 = seated.low child x is in
      let more : x.depth ≡ hangs.0.depth + 1 = hangs.2 in
      let deep : depth_of ts c ≡ 2 = client.deep in
      omega (arith, mine, low, more, deep)

  is_query : Tracker → Bool
  is_query x = x.depth == 1

  its_parent : (k : ℕ) (x : Tracker) → get ts k ≡ Some x → is_client x ≡ true → Above ts k x 1
  its_parent k x is so = above ts seated.tree k 1 x is (depth_is ts k x is ∙ eqb-true x.depth 2 so)

  abbrev part : ℕ → ℕ → Tracker → ℕ
  part c _ x = only_if (is_client x) (share_of c x.parent x.reservation)

  one_parent : (k : ℕ) (x : Tracker) → get ts k ≡ Some x → total (λ c y. only_if (is_query y) (part c k x)) ts ≡ only_if (is_client x) x.reservation
  unfolding is_query
  one_parent k x is = elim (is_client x) as (λ b. is_client x ≡ b → total (λ c y. only_if (is_query y) (only_if b (share_of c x.parent x.reservation))) ts ≡ only_if b x.reservation) [
    | true ↦ λ so.
        let over_it : Above ts k x 1 = its_parent k x is so in
        let deep : over_it.tracker.depth ≡ 1 = sym (depth_is ts over_it.parent over_it.tracker over_it.lives) ∙ over_it.deep in
        let shares : (c : ℕ) → share_of c x.parent x.reservation ≡ share_of c (Some over_it.parent) x.reservation = λ c. ap (λ (o : Option ℕ). share_of c o x.reservation) over_it.under in
        total-single (λ c y. only_if (is_query y) (share_of c x.parent x.reservation)) ts over_it.parent over_it.tracker over_it.lives
        (λ c y lives other. ap (only_if (is_query y)) (shares c ∙ share_there c over_it.parent x.reservation (λ same. other (sym same))) ∙ only_none (is_query y))
        ∙ only_when (is_query over_it.tracker) (share_of over_it.parent x.parent x.reservation) (eq-eqb over_it.tracker.depth 1 deep)
        ∙ shares over_it.parent ∙ share_here over_it.parent x.reservation
    | false ↦ λ so. total-none (λ c y. only_if (is_query y) 0) ts (λ c y lives. only_none (is_query y))
  ] refl

  query_fits : (c : ℕ) (y : Tracker) → get ts c ≡ Some y → only_if (is_query y) (children_of ts c) ≤ share_of 0 y.parent y.reservation
  unfolding is_query
  query_fits c y lives = elim (is_query y) as (λ b. is_query y ≡ b → only_if b (children_of ts c) ≤ share_of 0 y.parent y.reservation) [
    | true ↦ λ so.
        let over_it : Above ts c y 0 = above ts seated.tree c 0 y lives (depth_is ts c y lives ∙ eqb-true y.depth 1 so) in
        let top : over_it.parent ≡ 0 = (at_root ts seated.tree over_it.parent over_it.tracker over_it.lives over_it.deep).1 in
        let share : share_of 0 y.parent y.reservation ≡ y.reservation = ap (λ (o : Option ℕ). share_of 0 o y.reservation) (over_it.under ∙ ap Some top) ∙ share_here 0 y.reservation in
        let fits : Fits (λ _. 0) ts c = seated.children_fit c (is_there (get ts c) y lives) in
        let has : reservation_of ts c ≡ y.reservation = reservation_is ts c y lives in
        omega (arith, share, fits.within, has)
    | false ↦ λ so. omega arith
  ] refl

  -- what clients have reserved is at most the root's limit
  pub reserved : over_clients (reservation_of ts) ts ≤ bytes
  unfolding over_clients children_of
  reserved =
      let own : total (λ c x. only_if (is_client x) (reservation_of ts c)) ts ≡ total (λ _ x. only_if (is_client x) x.reservation) ts =
      total-same (λ c x. only_if (is_client x) (reservation_of ts c)) (λ _ x. only_if (is_client x) x.reservation) ts (λ c x is. ap (only_if (is_client x)) (reservation_is ts c x is)) in
      let shared : total (λ c y. only_if (is_query y) (total (part c) ts)) ts ≡ total (λ _ x. only_if (is_client x) x.reservation) ts =
      by-owners is_query part (λ _ x. only_if (is_client x) x.reservation) ts ts one_parent in
      let under_queries : total (λ c y. only_if (is_query y) (total (part c) ts)) ts ≤ total (λ c y. only_if (is_query y) (children_of ts c)) ts =
      total-le (λ c y. only_if (is_query y) (total (part c) ts)) (λ c y. only_if (is_query y) (children_of ts c)) ts (λ c y lives. only_le (is_query y) (total (part c) ts) (children_of ts c)
      (total-le (part c) (λ _ x. share_of c x.parent x.reservation) ts (λ k x is. only_less (is_client x) (share_of c x.parent x.reservation)))) in
      let under_root : total (λ c y. only_if (is_query y) (children_of ts c)) ts ≤ children_of ts 0 =
      total-le (λ c y. only_if (is_query y) (children_of ts c)) (λ _ x. share_of 0 x.parent x.reservation) ts query_fits in
      let fits : Fits (λ _. 0) ts 0 = seated.children_fit 0 seated.tree.root in
      let limit : limit_of ts 0 ≡ bytes = seated.top in
      omega (arith, own, shared, under_queries, under_root, fits.within, fits.below, limit)

module _ (s : State) (sound : IsSound s) where
  charge_fits : (t : ℕ) → charge_of s t ≤ held_by s t
  charge_fits t = let pages : pages_for times_charged s.block_len s.pages t ≤ pages_for times_held s.block_len s.pages t = charges_held s.block_len s.pages t in omega (arith, pages)

  pub fits_tree : FitsTree (charge_of s) s.trackers
  fits_tree t live =
      let fits : Fits (λ _. 0) s.trackers t = sound.seated.children_fit t live in
      let charge : charge_of s t ≤ held_by s t = charge_fits t in
      let held : held_by s t ≤ reservation_of s.trackers t = sound.within.held t in
      elim (same_or_other (depth_of s.trackers t) 2) [
        | inl deep ↦
            let none : children_of s.trackers t ≡ 0 = children-none s.trackers t (no_child (memory s) s.trackers s.sessions sound.seated t (record { live = live; deep = deep })) in
            record { within = omega (arith, charge, held, none); below = fits.below }
        | inr other ↦
            let none : held_by s t ≡ 0 = not_client s.trackers s.pages s.buffers s.next_name s.block_len t sound.owned (λ client. other client.deep) in
            record { within = omega (arith, charge, none, fits.within); below = fits.below }
      ]

  pub fits_clients : FitsClients s
  fits_clients c client = sound.within.held c

  pub fits_pages : FitsPages s
  fits_pages p x is =
      let part : page_bytes times_held s.block_len x ≤ pages_for times_held s.block_len s.pages x.client = part_held times_held s.block_len s.pages p x is in
      let held : held_by s x.client ≤ reservation_of s.trackers x.client = sound.within.held x.client in
      omega (arith, part, held)

  pub in_memory : bytes_in_memory s ≤ memory s
  in_memory = sound.within.memory

  pub finds_room : FindsRoom s
  unfolding over_clients
  finds_room c n client room =
      let it : (y : Tracker) × (get s.trackers c ≡ Some y) = found (get s.trackers c) client.live in
      let deep : is_client it.0 ≡ true = eq-eqb it.0.depth 2 (sym (depth_is s.trackers c it.0 it.1) ∙ client.deep) in
      let here : only_if (is_client it.0) (held_by s c) + n ≤ only_if (is_client it.0) (reservation_of s.trackers c) =
      subst (λ (b : Bool). only_if b (held_by s c) + n ≤ only_if b (reservation_of s.trackers c)) (sym deep) room in
      let spare : over_clients (held_by s) s.trackers + n ≤ over_clients (reservation_of s.trackers) s.trackers =
      total-spare (λ d x. only_if (is_client x) (held_by s d)) (λ d x. only_if (is_client x) (reservation_of s.trackers d)) s.trackers c it.0 n it.1
      (λ d x is. only_le (is_client x) (held_by s d) (reservation_of s.trackers d) (sound.within.held d)) here in
      let all : over_clients (reservation_of s.trackers) s.trackers ≤ memory s = reserved (memory s) s.trackers s.sessions sound.seated in
      let used : bytes_in_memory s ≤ over_clients (held_by s) s.trackers + clean_bytes s = memory_by_clients s.block_len s.trackers s.pages s.buffers s.next_name sound.owned in
      let fits : bytes_in_memory s ≤ memory s = in_memory in
      omega (arith, spare, all, used, fits)
