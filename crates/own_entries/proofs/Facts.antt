-- What a sound state says of a session's trackers, and of others'.
use Rattle.std.proofs.Common.{◌≡◌, ◌≢◌, ℕ, ◌≤◌, true, false, Some, refl, sym, ap, ◌∙◌, subst, arith, eq-eqb, ne_eqb}
use Rattle.std.specs.FinMap.{get}
use Rattle.reservation_tree.specs.Tracker.{Tracker, Trackers, reservation_of, depth_of}
use Rattle.reservation_tree.proofs.Maps.{found}
use Rattle.reservation_tree.proofs.Outline.{parent_is}
use Rattle.reservation_tree.proofs.Above.{at_root}
use Rattle.pool_model.specs.State.{Session, State}
use Rattle.pool_model.specs.Sums.{pages_for, times_charged, times_held, held_by}
use Rattle.pool_model.specs.Owning.{IsClientOf}
use Rattle.pool_model.specs.Sound.{IsQuery, IsSound}
use Rattle.pool_model.proofs.ByClients.{charges_held, not_client}
use Rattle.pool_model.proofs.Seats.{some_is, root_depth, query_depth, own_client}
use Rattle.own_entries.specs.LiveParts.{is_parent, is_under, charge_in}
use Rattle.reservation_tree.specs.Ways.{IsUnderRoot, IsUnderQuery}

module _ (s : State) (sound : IsSound s) where
  ts : Trackers
  ts = s.trackers

  abbrev pub charge_at : ℕ → ℕ
  charge_at c = charge_in s.block_len s.pages s.buffers c

  pub fits : (c : ℕ) → charge_at c ≤ reservation_of s.trackers c
  fits c =
      let pages : pages_for times_charged s.block_len s.pages c ≤ pages_for times_held s.block_len s.pages c = charges_held s.block_len s.pages c in
      let held : held_by s c ≤ reservation_of s.trackers c = sound.within.held c in
      omega (arith, pages, held)

  top : depth_of s.trackers 0 ≡ 0
  top = let root : (y : Tracker) × (get s.trackers 0 ≡ Some y) = found (get s.trackers 0) sound.seated.tree.root in
      root_depth s.trackers sound.seated.tree (depth_of s.trackers 0) 0 root.0 root.1 refl

  pub root_under : (query : ℕ) → is_under query (get s.trackers 0) ≡ false
  root_under query =
      let root : (y : Tracker) × (get s.trackers 0 ≡ Some y) = found (get s.trackers 0) sound.seated.tree.root in
      ap (is_under query) root.1 ∙ ap (is_parent query) (at_root s.trackers sound.seated.tree 0 root.0 root.1 top).0

  pub high : (q : ℕ) → IsQuery s.trackers q → IsUnderRoot s.trackers q
  high q seat = record { depth = query_depth s.trackers sound.seated.tree q seat; parent = parent_is s.trackers q seat.tracker 0 seat.lives seat.under; root = top }

  pub not_root : (q : ℕ) → IsQuery s.trackers q → 0 ≢ q
  not_root q seat same = let one : depth_of s.trackers 0 ≡ depth_of s.trackers q = ap (depth_of s.trackers) same in let deep : depth_of s.trackers q ≡ 1 = query_depth s.trackers sound.seated.tree q seat in let low = top in omega (arith, one, deep, low)

  -- a query stands under none
  pub query_under : (q query : ℕ) → IsQuery s.trackers q → IsQuery s.trackers query → is_under query (get s.trackers q) ≡ false
  query_under q query seat other = ap (is_under query) seat.lives ∙ ap (is_parent query) seat.under ∙ ne_eqb 0 query (not_root query other)

  pub query_free : (q : ℕ) → IsQuery s.trackers q → charge_at q ≡ 0
  query_free q seat =
      let deep : depth_of s.trackers q ≡ 1 = query_depth s.trackers sound.seated.tree q seat in
      let none : held_by s q ≡ 0 = not_client s.trackers s.pages s.buffers s.next_name s.block_len q sound.owned (λ client. let two : depth_of s.trackers q ≡ 2 = client.deep in omega (arith, deep, two)) in
      let pages : pages_for times_charged s.block_len s.pages q ≤ pages_for times_held s.block_len s.pages q = charges_held s.block_len s.pages q in
      omega (arith, none, pages)

  pub low : (maker c : ℕ) (client : IsClientOf s maker c) → IsUnderQuery s.trackers c client.session.query
  low maker c client = record {
    depth = (own_client s sound.seated maker c client).deep;
    parent = parent_is s.trackers c client.tracker client.session.query client.lives client.under;
    query = high client.session.query (sound.seated.seats maker client.session client.opened);
  }

  module _ (m : ℕ) (x : Session) (is : get s.sessions m ≡ Some x) where
    pub seat : IsQuery s.trackers x.query
    seat = sound.seated.seats m x is

    pub same_one : (z : Session) → get s.sessions m ≡ Some z → z ≡ x
    same_one z there = some_is z x (sym there ∙ is)

    pub own_under : (c : ℕ) → IsClientOf s m c → is_under x.query (get s.trackers c) ≡ true
    own_under c client = ap (is_under x.query) client.lives ∙ ap (is_parent x.query) client.under ∙ eq-eqb client.session.query x.query (ap (λ (z : Session). z.query) (same_one client.session client.opened))

    pub own_low : (c : ℕ) → IsClientOf s m c → IsUnderQuery s.trackers c x.query
    own_low c client = subst (λ (z : Session). IsUnderQuery s.trackers c z.query) (same_one client.session client.opened) (low m c client)

    -- other sessions' trackers
    module _ (maker : ℕ) (other : maker ≢ m) where
      pub foreign_query : (z : Session) → get s.sessions maker ≡ Some z → z.query ≢ x.query
      foreign_query z there same = other (sound.seated.apart maker m z x there is same)

      pub foreign_under : (c : ℕ) → IsClientOf s maker c → is_under x.query (get s.trackers c) ≡ false
      foreign_under c client = ap (is_under x.query) client.lives ∙ ap (is_parent x.query) client.under ∙ ne_eqb client.session.query x.query (foreign_query client.session client.opened)

      pub foreign_apart : (c : ℕ) → IsClientOf s maker c → c ≢ x.query
      foreign_apart c client same =
          let one : depth_of s.trackers c ≡ depth_of s.trackers x.query = ap (depth_of s.trackers) same in
          let two : depth_of s.trackers c ≡ 2 = (low maker c client).depth in
          let deep : depth_of s.trackers x.query ≡ 1 = query_depth s.trackers sound.seated.tree x.query seat in
          omega (arith, one, two, deep)
