-- What is known of a live page's client.
use Rattle.std.proofs.Common.{◌≡◌, ℕ, ◌*◌, ◌<◌, ◌≤◌, true, Some, ap, sym, ◌∙◌, subst, arith, eq-eqb, mul-le-mul}
use Rattle.std.specs.FinMap.{get}
use Rattle.reservation_tree.specs.Total.{total}
use Rattle.reservation_tree.specs.Tracker.{Tracker, IsLive, reservation_of, children_of, unused}
use Rattle.reservation_tree.specs.Tree.{charge_of as charge_in}
use Rattle.reservation_tree.proofs.Maps.{found, is_there}
use Rattle.reservation_tree.proofs.Shares.{children-none}
use Rattle.reservation_tree.proofs.Sums.{weight-le-total}
use Rattle.reservation_tree.proofs.Outline.{depth_is}
use Rattle.page_table.specs.declared.entry.Entry.{Entry}
use Rattle.pool_model.specs.Bytes.{bytes_of, only_if}
use Rattle.pool_model.specs.State.{Place, Pinned, State}
use Rattle.pool_model.specs.Sums.{times_held, memory, HasRoom, IsClient, is_client, over_clients, FitsPages}
use Rattle.pool_model.specs.Sound.{IsSound, HasPins}
use Rattle.pool_model.specs.Owning.{IsClientOf}
use Rattle.pool_model.proofs.ByClients.{charges_held}
use Rattle.pool_model.proofs.Fits.{no_child, reserved}
use Rattle.pool_model.proofs.Seats.{own_client}
use Rattle.pool_model.proofs.Kept.{legal_sound, legal_fits_pages}
use Rattle.pool_model.proofs.Weights.{only_when}
use Rattle.pin_core.specs.declared.kept.Kept.{Kept}
use Rattle.pin_core.specs.declared.parts.Parts.{Parts}
use Rattle.pin_core.specs.StateOf.{page_of, pages_in, place_in, state_of}
use Rattle.pin_core.specs.Invariant.{IsKept}
use Rattle.pin_core.proofs.Known.{known_now}
use Rattle.pin_core.proofs.Moved.{page_known}
use Rattle.pin_core.proofs.Places.{HasQuota, has_quota, page_owned}

-- a client reserves no more than all memory
pub client_reserves : (s : State) → IsSound s → (c : ℕ) → IsClient s.trackers c → reservation_of s.trackers c ≤ memory s
unfolding over_clients
client_reserves s sound c client =
    let it : (y : Tracker) × (get s.trackers c ≡ Some y) = found (get s.trackers c) client.live in
    let deep : is_client it.0 ≡ true = eq-eqb it.0.depth 2 (sym (depth_is s.trackers c it.0 it.1) ∙ client.deep) in
    let part : only_if (is_client it.0) (reservation_of s.trackers c) ≤ total (λ d x. only_if (is_client x) (reservation_of s.trackers d)) s.trackers =
    weight-le-total (λ d x. only_if (is_client x) (reservation_of s.trackers d)) s.trackers c it.0 it.1 in
    let whole : only_if (is_client it.0) (reservation_of s.trackers c) ≡ reservation_of s.trackers c = only_when (is_client it.0) (reservation_of s.trackers c) deep in
    let all : total (λ d x. only_if (is_client x) (reservation_of s.trackers d)) s.trackers ≤ memory s = reserved (memory s) s.trackers s.sessions sound.seated in
    omega (arith, part, whole, all)

module _ {D : Type 0} (v : Parts D) (is_kept : IsKept v) where
  sound : IsSound (state_of v)
  sound = known_now IsSound legal_sound (state_of v) is_kept.legal

  -- a client that has room has as much unused
  pub room_unused : (c bytes : ℕ) → IsClient v.tree.trackers c → HasRoom (state_of v) c bytes → bytes ≤ unused (charge_in v.tree) v.tree.trackers c
  room_unused c bytes client room =
      let none : children_of v.tree.trackers c ≡ 0 = children-none v.tree.trackers c (no_child _ v.tree.trackers (state_of v).sessions sound.seated c client) in
      let part = charges_held v.arena.block_len (pages_in v.pages) c in
      let tie = is_kept.counted.charges c in
      omega (arith, none, part, tie, room)

  module _ (name : ℕ) (x : Entry (Kept D)) (there : get v.pages.entries name ≡ Some x) where
    was : get (pages_in v.pages) name ≡ Some (page_of v.pages name x)
    was = page_known v name x there

    pub owner : IsClientOf (state_of v) x.session x.client
    owner = page_owned (state_of v) is_kept.legal name (page_of v.pages name x) was

    pub own_low : x.session < 240
    own_low = let q : HasQuota v x = has_quota v is_kept name x was in q.low

    pub own_live : IsLive v.tree.trackers x.client
    own_live = is_there _ owner.tracker owner.lives

    pub own_is : IsClient v.tree.trackers x.client
    own_is = own_client (state_of v) sound.seated x.session x.client owner

    -- a page is pinned no more often than its length fits all memory
    pub few_pins : 0 < bytes_of v.arena.block_len x.blocks → (count : ℕ) → place_in x.place ≡ Pinned count → count ≤ 2147483648
    few_pins some count pinned =
        let fits = known_now FitsPages legal_fits_pages (state_of v) is_kept.legal name (page_of v.pages name x) was in
        let most = client_reserves (state_of v) sound x.client own_is in
        let small = is_kept.sized.memory in
        let many : times_held (place_in x.place) * bytes_of v.arena.block_len x.blocks ≡ count * bytes_of v.arena.block_len x.blocks = ap (λ (p : Place). times_held p * bytes_of v.arena.block_len x.blocks) pinned in
        let each : count * 1 ≤ count * bytes_of v.arena.block_len x.blocks = mul-le-mul {n₁ = count} {m₁ = 1} {n₂ = count} {m₂ = bytes_of v.arena.block_len x.blocks} (omega arith) (omega (arith, some)) in
        omega (arith, fits, most, small, many, each)

    pub has_pins : (count : ℕ) → place_in x.place ≡ Pinned count → 1 ≤ count
    has_pins count pinned = subst HasPins pinned (sound.owned.pins name (page_of v.pages name x) was)
