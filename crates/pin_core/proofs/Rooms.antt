-- Whether a client has room, by the numbers that the code keeps.
use Rattle.std.proofs.Common.{◌≡◌, ℕ, ◌+◌, ◌-◌, ◌≤◌, Bool, false, List, [], ◌∷◌, map, cond, Option, Some, None, unwrap_or, get_or, refl, ap, sym, ◌∙◌, arith, inl, inr}
use Rattle.std.proofs.lemmas.Bool.{cases_Bool}
use Rattle.client_lists.specs.declared.which.Which.TheVariants as which
use Rattle.client_lists.specs.Clients.{sum, nodes_of}
use Rattle.clean_evict.specs.Eviction.{name_at, names_of}
use Rattle.reservation_tree.specs.Tracker.{reservation_of}
use Rattle.reservation_tree.specs.Tree.{charge_of as charge_in}
use Rattle.pool_model.specs.State.{dirty_of}
use Rattle.pool_model.specs.Sums.{IsClient, HasRoom, FitsClients}
use Rattle.pool_model.proofs.Kept.{legal_fits_clients}
use Rattle.pin_core.specs.declared.parts.Parts.{Parts}
use Rattle.pin_core.specs.StateOf.{state_of}
use Rattle.pin_core.specs.Invariant.{IsKept}
use Rattle.pin_core.specs.Lawful.{Lawful}
use Rattle.pin_core.proofs.Known.{known_now}
use Rattle.pin_core.proofs.Held.{held_is}
use Rattle.pin_core.proofs.Queued.{get_dirty}

no_names : (f : ℕ → ℕ) (keys : List ℕ) → map f keys ≡ [] → keys ≡ []
no_names f [] is = refl
no_names f (k ∷ ks) is = cc

module _ {D : Type 0} (v : Parts D) (is_kept : IsKept v) (laws : Lawful v) (c : ℕ) where
  pub room_fits : IsClient v.tree.trackers c → charge_in v.tree c + (sum c which.Dirty v.lists + sum c which.Flying v.lists) ≤ reservation_of v.tree.trackers c
  room_fits client =
      let fits = known_now FitsClients legal_fits_clients (state_of v) is_kept.legal c client in
      let held = held_is v is_kept laws c in
      omega (arith, fits, held)

  -- by the numbers that were read
  pub room_read : IsClient v.tree.trackers c → (t reserved used dirty flying : ℕ) → t ≡ c → reserved ≡ reservation_of v.tree.trackers t → used ≡ charge_in v.tree t
      → dirty ≡ sum c which.Dirty v.lists → flying ≡ sum c which.Flying v.lists → used + (dirty + flying) ≤ reserved
  room_read client t reserved used dirty flying same r u d f =
      let r2 : reserved ≡ reservation_of v.tree.trackers c = r ∙ ap (reservation_of v.tree.trackers) same in
      let u2 : used ≡ charge_in v.tree c = u ∙ ap (charge_in v.tree) same in
      let fits = room_fits client in
      omega (arith, r2, u2, d, f, fits)

  pub room_is : IsClient v.tree.trackers c → (bytes t reserved used dirty flying : ℕ) → t ≡ c → reserved ≡ reservation_of v.tree.trackers t → used ≡ charge_in v.tree t
      → dirty ≡ sum c which.Dirty v.lists → flying ≡ sum c which.Flying v.lists
      → (bytes ≤ reserved - (used + (dirty + flying)) → HasRoom (state_of v) c bytes) × (HasRoom (state_of v) c bytes → bytes ≤ reserved - (used + (dirty + flying)))
  room_is client bytes t reserved used dirty flying same r u d f =
      let r2 : reserved ≡ reservation_of v.tree.trackers c = r ∙ ap (reservation_of v.tree.trackers) same in
      let u2 : used ≡ charge_in v.tree c = u ∙ ap (charge_in v.tree) same in
      let held = held_is v is_kept laws c in
      let fits = room_fits client in
      (λ le. omega (arith, le, r2, u2, d, f, fits, held), λ room. omega (arith, room, r2, u2, d, f, fits, held))

  -- a client without a node on its dirty list has no dirty page
  pub none_dirty : nodes_of c which.Dirty v.lists ≡ [] → dirty_of (state_of v) c ≡ []
  none_dirty none = elim (cases_Bool (get_or v.lists.is_open c false)) [
    | inl is ↦ ap (λ (o : Option (List ℕ)). unwrap_or o []) (get_dirty v.pages v.lists c ∙ ap (λ (b : Bool). cond b (Some (names_of v.pages (nodes_of c which.Dirty v.lists))) None) is) ∙ ap (names_of v.pages) none
    | inr is ↦ ap (λ (o : Option (List ℕ)). unwrap_or o []) (get_dirty v.pages v.lists c ∙ ap (λ (b : Bool). cond b (Some (names_of v.pages (nodes_of c which.Dirty v.lists))) None) is)
  ]

  -- and one without a dirty page has no node there
  pub none_listed : dirty_of (state_of v) c ≡ [] → nodes_of c which.Dirty v.lists ≡ []
  none_listed none = elim (cases_Bool (get_or v.lists.is_open c false)) [
    | inl is ↦
        let names : dirty_of (state_of v) c ≡ names_of v.pages (nodes_of c which.Dirty v.lists) = ap (λ (o : Option (List ℕ)). unwrap_or o []) (get_dirty v.pages v.lists c ∙ ap (λ (b : Bool). cond b (Some (names_of v.pages (nodes_of c which.Dirty v.lists))) None) is) in
        no_names (name_at v.pages) (nodes_of c which.Dirty v.lists) (sym names ∙ none)
    | inr is ↦ laws.whole.bare c which.Dirty is
  ]
