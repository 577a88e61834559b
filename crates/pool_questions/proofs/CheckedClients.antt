-- What is found of sessions and clients in the parts holds of the state.
use Rattle.std.proofs.Common.{◌≡◌, ◌≢◌, arith, ℕ, ◌≤◌, ◌+◌, ◌-◌, Bool, true, false, ◌||◌, List, [], ◌∷◌, Option, Some, None, IsSome, option_map, refl, ap, ap₂, sym, ◌∙◌, subst, eqb}
use Rattle.std.specs.FinMap.{get}
use Rattle.std.specs.Cmp.{nat_eq_equiv}
use Rattle.std.specs.List.{list_any}
use Rattle.std.proofs.lemmas.Bool.{false≢true}
use Rattle.index_list.specs.Listing.{stands_in}
use Rattle.reservation_tree.specs.Tracker.{unused, children_of, reservation_of}
use Rattle.reservation_tree.specs.Tree.{charge_of as charge_in}
use Rattle.session_table.specs.declared.member.Member.{Member}
use Rattle.session_table.specs.Seats.{Seat, seat_of, members_in, members_of, trackers_of}
use Rattle.session_table.specs.Sessions.{session_in, sessions_in}
use Rattle.session_table.proofs.Found.{get_sessions}
use Rattle.pool_model.specs.Owning.{IsClientOf}
use Rattle.pool_model.specs.State.{State}
use Rattle.pool_model.specs.Sums.{HasRoom, charge_of, length_of}
use Rattle.store_api.specs.Tokens.{ClientToken}
use Rattle.pin_core.specs.calls.Coming.{CanHold}
use Rattle.pin_core.specs.declared.parts.Parts.{Parts}
use Rattle.pin_core.specs.Invariant.{IsKept}
use Rattle.pin_core.specs.StateOf.{state_of}
use Rattle.pin_core.proofs.SeatedClients.{Hung, hangs_so}

-- each member is tried by its tracker
pub tried : (members : List Member) (t : ℕ) → list_any (λ (m : Member). eqb m.tracker t) members ≡ stands_in t (trackers_of members)
tried [] t = refl
tried (m ∷ rest) t = ap₂ (λ b c. b || c) (nat_eq_equiv.symm m.tracker t) (tried rest t)

live_then : (o : Option Seat) → IsSome o → IsSome (option_map session_in o)
live_then None is = is
live_then (Some x) is = refl

module _ {D : Type 0} (v old : Parts D) (same : v ≡ old) where
  pub seat_told : (s : ℕ) → IsSome (seat_of v.seats s) → IsSome (get (state_of old).sessions s)
  seat_told s is = subst (λ (z : Parts D). IsSome (get (state_of z).sessions s)) same (subst IsSome (sym (get_sessions v.seats s)) (live_then (seat_of v.seats s) is))

  pub client_told : IsKept v → (s n t : ℕ) (members : List Member) → n ≡ t → members ≡ members_of v.seats s → stands_in n (trackers_of members) ≡ true → IsClientOf (state_of old) s t
  client_told is_kept s n t members number them stands =
      let here : stands_in t (trackers_of (members_of v.seats s)) ≡ true = sym (ap (λ (k : ℕ). stands_in k (trackers_of (members_of v.seats s))) number) ∙ sym (ap (λ (l : List Member). stands_in n (trackers_of l)) them) ∙ stands in
      subst (λ (z : Parts D). IsClientOf (state_of z) s t) same (elim (seat_of v.seats s) as (λ o. seat_of v.seats s ≡ o → IsClientOf (state_of v) s t) [
        | None ↦ λ is. absurd (false≢true (sym (ap (λ (o : Option Seat). stands_in t (trackers_of (members_in o))) is) ∙ here))
        | Some x ↦ λ is.
            let stood : stands_in t (trackers_of x.members) ≡ true = sym (ap (λ (o : Option Seat). stands_in t (trackers_of (members_in o))) is) ∙ here in
            let h : Hung v.tree.trackers x.query t = hangs_so v.tree.trackers x.query t (sym (is_kept.seated.clients s x is t) ∙ stood) in record {
              session = session_in x;
              opened = get_sessions v.seats s ∙ ap (option_map session_in) is;
              tracker = h.tracker;
              lives = h.lives;
              under = h.under;
            }
      ] refl)

  -- what is unused, by the charges of the state
  pub unused_told : IsKept v → (t bytes left : ℕ) → left ≡ unused (charge_in v.tree) v.tree.trackers t → bytes ≤ left → bytes ≤ unused (charge_of (state_of old)) (state_of old).trackers t
  unused_told is_kept t bytes left is le =
      subst (λ (z : Parts D). bytes ≤ unused (charge_of (state_of z)) (state_of z).trackers t) same
      (subst (λ (n : ℕ). bytes ≤ n) (is ∙ ap (λ (n : ℕ). reservation_of v.tree.trackers t - (n + children_of v.tree.trackers t)) (is_kept.counted.charges t)) le)

pub client_as : (s : State) (m k session t : ℕ) → session ≡ m → t ≡ k → IsClientOf s session t → IsClientOf s m k
client_as s m k session t session_is t_is own = subst (λ (n : ℕ). IsClientOf s n k) session_is (subst (IsClientOf s session) t_is own)

pub filled_told : (s : State) (c : ClientToken) (shell blocks bytes : ℕ) → blocks ≡ shell → blocks ≢ 0 → blocks ≤ 256 → bytes ≡ length_of s blocks
    → IsClientOf s c.session c.tracker → HasRoom s c.tracker bytes → CanHold s c shell
filled_told s c shell blocks bytes is some few bytes_are own room = subst (CanHold s c) is (record {
  client = own;
  some = omega (arith, some);
  few = few;
  room = subst (HasRoom s c.tracker) bytes_are room;
})
