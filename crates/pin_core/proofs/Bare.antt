-- A tracker without pages has empty lists, and how many clients a session has.
use Rattle.std.proofs.Common.{◌≡◌, ◌≢◌, ℕ, ◌==◌, Bool, true, false, List, [], ◌∷◌, length, Option, Some, None, unwrap_or, option_map, refl, ap, sym, ◌∙◌, inl, inr, arith, eq-eqb}
use Rattle.std.specs.FinMap.{get}
use Rattle.std.specs.List.{sum_by}
use Rattle.std.proofs.lemmas.Bool.{cases_Bool}
use Rattle.std.proofs.lemmas.List.Sums.{sum_by-cons}
use Rattle.index_list.specs.Listing.{stands_in, list_with}
use Rattle.index_list.proofs.Places.{list-from_stands}
use Rattle.page_table.specs.declared.entry.Entry.{Entry}
use Rattle.page_table.specs.declared.entry.Place.{Place as Spot}
use Rattle.page_table.specs.declared.entry.Place.TheVariants as spot
use Rattle.client_lists.specs.declared.which.Which.{Which}
use Rattle.client_lists.specs.declared.which.Which.TheVariants as which
use Rattle.client_lists.specs.Clients.{place, nodes_of}
use Rattle.client_lists.proofs.Kept.{place-apart}
use Rattle.reservation_tree.specs.Tracker.{Tracker}
use Rattle.reservation_tree.specs.Total.{total}
use Rattle.reservation_tree.proofs.Maps.{found, same_or_other}
use Rattle.session_table.specs.Seats.{Seat, seat_of, trackers_of, members_of}
use Rattle.session_table.proofs.Changes.{members_are}
use Rattle.session_table.proofs.Trackers.{trackers_length}
use Rattle.pool_model.specs.Bytes.{only_if}
use Rattle.pool_model.specs.State.{Session}
use Rattle.pool_model.proofs.Seats.{some_is}
use Rattle.pin_core.specs.declared.kept.Kept.{Kept}
use Rattle.pin_core.specs.declared.parts.Parts.{Parts}
use Rattle.pin_core.specs.StateOf.{page_of, state_of}
use Rattle.pin_core.specs.Invariant.{IsKept, list_at, hangs_under}
use Rattle.pin_core.specs.Lawful.{Lawful}
use Rattle.pin_core.specs.calls.Sessions.{IsIdle, query_of, is_under, client_count}
use Rattle.pin_core.proofs.Listed.{listed_total, head_stands}
use Rattle.pin_core.proofs.Moved.{page_known}
use Rattle.pin_core.proofs.SeatedClients.{Hung, hangs_so}
use Rattle.pin_core.proofs.Queries.{session_here}

-- a place of one client's list is no other's
list_apart : (c t : ℕ) (w : Which) (at : Spot) → list_at c at ≡ Some (place t w) → c ≡ t
list_apart c t w at is = elim (same_or_other c t) [
  | inl same ↦ same
  | inr other ↦ absurd (no_list at is other)
]
  where
    no_list : (at : Spot) → list_at c at ≡ Some (place t w) → c ≢ t → ⊥
    no_list (spot.Pinned count) is other = place-apart c t which.Pinned w other (some_is (place c which.Pinned) (place t w) is)
    no_list spot.Dirty is other = place-apart c t which.Dirty w other (some_is (place c which.Dirty) (place t w) is)
    no_list (spot.Flying writer) is other = place-apart c t which.Flying w other (some_is (place c which.Flying) (place t w) is)
    no_list spot.Loading is other = place-apart c t which.Pinned w other (some_is (place c which.Pinned) (place t w) is)
    no_list spot.Clean is other = cc
    no_list spot.Evicted is other = cc

ones : (keys : List ℕ) → sum_by (λ _. 1) keys ≡ length keys
ones [] = refl
ones (k ∷ ks) = let rest = ones ks in let one = sum_by-cons (λ (_ : ℕ). 1) k ks in omega (arith, rest, one)

module _ {D : Type 0} (v : Parts D) (is_kept : IsKept v) (laws : Lawful v) where
  -- a list of a client without pages is empty
  pub no_nodes : (t : ℕ) → IsIdle (state_of v) t → (w : Which) → nodes_of t w v.lists ≡ []
  no_nodes t idle w = elim (nodes_of t w v.lists) as (λ ks. nodes_of t w v.lists ≡ ks → nodes_of t w v.lists ≡ []) [
    | [] ↦ λ is. is
    | k ∷ ks ↦ λ is. absurd (stray k (ap (stands_in k) is ∙ head k ks))
  ] refl
    where
      head : (k : ℕ) (ks : List ℕ) → stands_in k (k ∷ ks) ≡ true
      head k ks = head_stands k ks

      stray : (k : ℕ) → stands_in k (nodes_of t w v.lists) ≡ true → ⊥
      stray k there =
          let on : list_with k v.lists.pages.lists ≡ Some (place t w) = list-from_stands v.lists.pages.lists laws.whole.measured.proper k (place t w) there in
          elim (get v.pages.names k) as (λ o. get v.pages.names k ≡ o → ⊥) [
            | None ↦ λ none. let off : None ≡ Some (place t w) = sym (is_kept.stray k none).0 ∙ on in cc
            | Some name ↦ λ live.
                let page : (x : Entry (Kept D)) × (get v.pages.entries name ≡ Some x) = found (get v.pages.entries name) (laws.proper.named k name live) in
                let at = is_kept.placed k name page.0 live page.1 in
                idle.pages name (page_of v.pages name page.0) (page_known v name page.0 page.1) (list_apart page.0.client t w page.0.place (sym at.on ∙ on))
          ] refl

  -- the query tracker of a session
  pub query_is : (s : ℕ) (x : Seat) → seat_of v.seats s ≡ Some x → query_of (state_of v) s ≡ x.query
  query_is s x is = ap (λ (o : Option Session). unwrap_or (option_map (λ y. y.query) o) 0) (session_here v.seats s x is)

  -- as many clients are live under a session's query tracker as it has members
  pub count_is : (s : ℕ) (x : Seat) → seat_of v.seats s ≡ Some x → client_count (state_of v) s ≡ length (members_of v.seats s)
  count_is s x is =
      let keys : List ℕ = trackers_of x.members in
      let w : ℕ → Tracker → ℕ = λ _ y. only_if (is_under x.query y) 1 in
      let sum : total w v.tree.trackers ≡ sum_by (λ _. 1) (trackers_of x.members) = listed_total w (λ _. 1) (λ k. k) (trackers_of x.members) v.tree.trackers (laws.seats.each s x is).distinct
      (λ k there.
      let hung : Hung v.tree.trackers x.query k = hangs_so v.tree.trackers x.query k (sym (is_kept.seated.clients s x is k) ∙ there) in
      record {
        value = hung.tracker;
        there = hung.lives;
        weight = ap (λ (o : Option ℕ). only_if (elim o [ None ↦ false | Some p ↦ p == x.query ]) 1) hung.under ∙ ap (λ (b : Bool). only_if b 1) (eq-eqb x.query x.query refl);
      })
      (λ k j a b same. same)
      (λ p y there none. elim (cases_Bool (is_under x.query y)) [
        | inl yes_so ↦
            let hangs : hangs_under v.tree.trackers x.query p ≡ true = ap (λ (o : Option Tracker). elim o [ None ↦ false | Some z ↦ is_under x.query z ]) there ∙ yes_so in
            absurd (none p (is_kept.seated.clients s x is p ∙ hangs) refl)
        | inr not_so ↦ ap (λ (b : Bool). only_if b 1) not_so
      ]) in
      ap (λ (q : ℕ). total (λ _ y. only_if (is_under q y) 1) v.tree.trackers) (query_is s x is)
      ∙ sum ∙ ones (trackers_of x.members) ∙ trackers_length x.members ∙ sym (ap length (members_are v.seats s x is))
