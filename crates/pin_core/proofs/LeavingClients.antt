-- A client ends: its reservation goes to its query, and then it leaves.
use Rattle.std.proofs.Common.{◌≡◌, ℕ, ◌-◌, ◌<◌, ◌≤◌, [], ◌∷◌, Option, Some, None, IsSome, option_map, refl, ap, sym, ◌∙◌, subst, inl, inr, arith, eq-eqb}
use Rattle.std.specs.FinMap.{get}
use Rattle.index_list.specs.Listing.{stands_in}
use Rattle.reservation_tree.specs.Tracker.{Tracker, IsLive, depth_of, reservation_of, children_of, unused}
use Rattle.reservation_tree.specs.Change.{move_to, move_refusal}
use Rattle.reservation_tree.specs.Tree.{charge_of as charge_in}
use Rattle.reservation_tree.proofs.Maps.{is_there}
use Rattle.reservation_tree.proofs.Outline.{depth_is}
use Rattle.reservation_tree.proofs.Shares.{children-none}
use Rattle.session_table.specs.Seats.{Seat, seat_of, members_of, trackers_of}
use Rattle.session_table.specs.Sessions.{session_in, sessions_in}
use Rattle.session_table.proofs.Changes.{members_are}
use Rattle.pool_model.specs.State.{Session}
use Rattle.pool_model.specs.Sums.{charge_of, held_by, IsClient, times_charged, times_held}
use Rattle.pool_model.specs.Owning.{IsClientOf}
use Rattle.pool_model.proofs.ByClients.{no_pages, no_buffers}
use Rattle.pool_model.proofs.Fits.{no_child}
use Rattle.pool_model.proofs.Seats.{some_is}
use Rattle.pin_core.specs.declared.parts.Parts.{Parts}
use Rattle.pin_core.specs.StateOf.{state_of}
use Rattle.pin_core.specs.Invariant.{IsKept}
use Rattle.pin_core.specs.Lawful.{Lawful}
use Rattle.pin_core.specs.parts.Rearranging.{transferred, parted}
use Rattle.pin_core.specs.parts.Seating.{CanPart}
use Rattle.pin_core.specs.calls.Sessions.{IsIdle, query_of}
use Rattle.pin_core.specs.calls.Entering.{move_entry, close_entry}
use Rattle.pin_core.proofs.Entered.{Done, done_then}
use Rattle.pin_core.proofs.SeatedClients.{hangs_is, HasSeat, has_seat, sound_now}
use Rattle.pin_core.proofs.Queries.{root_deep, query_at, client_is, client_deep, session_here}
use Rattle.pin_core.proofs.Bare.{no_nodes, query_is}
use Rattle.pin_core.proofs.Handing.{handed_fits, handed_there, handed_empty}
use Rattle.pin_core.proofs.Retracked.{transferred_done}
use Rattle.pin_core.proofs.Parted.{parted_done}

module _ {D : Type 0} where
  -- a client of a session that has nothing but a reservation
  pub record Rests (v : Parts D) (s t : ℕ) : Type 0 where
    pub seat : Seat
    pub there : seat_of v.seats s ≡ Some seat
    pub low : s < 240
    pub tracker : Tracker
    pub lives : get v.tree.trackers t ≡ Some tracker
    pub under : tracker.parent ≡ Some seat.query
    pub idle : IsIdle (state_of v) t

  pub rests : (v : Parts D) → Lawful v → (s t : ℕ) → IsClientOf (state_of v) s t → IsIdle (state_of v) t → Rests v s t
  rests v laws s t client idle =
      let seat : HasSeat v.seats s client.session = has_seat v.seats laws.seats s client.session client.opened in
      record {
        seat = seat.seat;
        there = seat.there;
        low = seat.low;
        tracker = client.tracker;
        lives = client.lives;
        under = client.under ∙ ap (λ (x : Session). Some x.query) seat.is;
        idle = idle;
      }

  module _ (v : Parts D) (is_kept : IsKept v) (laws : Lawful v) (s t : ℕ) (r : Rests v s t) where
    client_of : IsClientOf (state_of v) s t
    client_of = record { session = session_in r.seat; opened = session_here v.seats s r.seat r.there; tracker = r.tracker; lives = r.lives; under = r.under }

    client : IsClient v.tree.trackers t
    client = client_deep v is_kept s t client_of

    -- no reservation: it may leave
    pub can_part : reservation_of v.tree.trackers t ≡ 0 → CanPart v s t
    can_part empty =
        let members : members_of v.seats s ≡ r.seat.members = members_are v.seats s r.seat r.there in
        record {
          bare = record {
            live = client.live;
            low = λ same.
                let root = root_deep v is_kept in
                let deep = client.deep in
                let both : depth_of v.tree.trackers t ≡ depth_of v.tree.trackers 0 = ap (depth_of v.tree.trackers) same in
                omega (arith, root, deep, both);
            empty = empty;
            no_child = no_child _ v.tree.trackers (sessions_in v.seats) (sound_now (state_of v) is_kept.legal).seated t client;
          };
          opened = is_kept.seated.opens t ∙ client_is v.tree.trackers t r.tracker r.lives
              ∙ eq-eqb r.tracker.depth 2 (sym (depth_is v.tree.trackers t r.tracker r.lives) ∙ client.deep);
          none = no_nodes v is_kept laws t r.idle;
          seated = is_there (seat_of v.seats s) r.seat r.there;
          there = ap (λ l. stands_in t (trackers_of l)) members ∙ is_kept.seated.clients s r.seat r.there t
              ∙ hangs_is v.tree.trackers r.seat.query t r.tracker r.lives r.under;
        }

    pub part_done : reservation_of v.tree.trackers t ≡ 0 → Done (close_entry s t ∷ []) [] [] v (parted s t v)
    part_done empty = parted_done v is_kept laws s r.seat r.there r.low t r.tracker r.lives r.under empty r.idle

    -- all of its reservation is unused
    nothing_held : held_by (state_of v) t ≡ 0
    nothing_held =
        let pages = no_pages times_held (state_of v).block_len (state_of v).pages t r.idle.pages in
        let buffers = no_buffers (state_of v).block_len (state_of v).buffers t r.idle.buffers in
        omega (arith, pages, buffers)

    nothing_charged : charge_of (state_of v) t ≡ 0
    nothing_charged =
        let pages = no_pages times_charged (state_of v).block_len (state_of v).pages t r.idle.pages in
        let buffers = no_buffers (state_of v).block_len (state_of v).buffers t r.idle.buffers in
        omega (arith, pages, buffers)

    nothing_below : children_of v.tree.trackers t ≡ 0
    nothing_below = children-none v.tree.trackers t (no_child _ v.tree.trackers (sessions_in v.seats) (sound_now (state_of v) is_kept.legal).seated t client)

    all_unused : reservation_of v.tree.trackers t ≤ unused (charge_of (state_of v)) v.tree.trackers t
    all_unused = let a = nothing_charged in let b = nothing_below in omega (arith, a, b)

    pub gives_unused : reservation_of v.tree.trackers t ≤ unused (charge_in v.tree) v.tree.trackers t
    gives_unused = let a = nothing_charged in let b = nothing_below in let tie = is_kept.counted.charges t in omega (arith, a, b, tie)

    pub query_live : IsLive v.tree.trackers r.seat.query
    query_live = let query = query_at v is_kept s r.seat r.there in is_there (get v.tree.trackers r.seat.query) query.tracker query.lives

    pub gives_fits : move_refusal (reservation_of v.tree.trackers t) t r.seat.query v.tree.trackers ≡ None
    gives_fits = handed_fits v.tree.trackers laws.tree t r.seat.query r.tracker r.lives r.under query_live (reservation_of v.tree.trackers t)

    pub give_done : Done (move_entry s t r.seat.query (reservation_of v.tree.trackers t) ∷ []) [] [] v (transferred t r.seat.query (reservation_of v.tree.trackers t) v)
    give_done =
        transferred_done v is_kept laws s r.low t (reservation_of v.tree.trackers t) (inr client_of) r.seat.query
        (inl (record { session = session_in r.seat; lives = session_here v.seats s r.seat r.there; is = refl }))
        (record { unused = all_unused; held = λ _. let none = nothing_held in omega (arith, none) }) gives_fits

    -- and then it rests without any
    pub given_rests : Rests (transferred t r.seat.query (reservation_of v.tree.trackers t) v) s t
    given_rests = record {
      seat = r.seat;
      there = r.there;
      low = r.low;
      tracker = record r.tracker { reservation = reservation_of v.tree.trackers t - reservation_of v.tree.trackers t };
      lives = handed_there v.tree.trackers laws.tree t r.seat.query r.tracker r.lives r.under query_live (reservation_of v.tree.trackers t);
      under = r.under;
      idle = record { pages = r.idle.pages; buffers = r.idle.buffers };
    }

    pub given_empty : reservation_of (move_to (reservation_of v.tree.trackers t) t r.seat.query v.tree.trackers) t ≡ 0
    given_empty = handed_empty v.tree.trackers laws.tree t r.seat.query r.tracker r.lives r.under query_live

-- the call, where its numbers are known by equations
module _ {D : Type 0} (v old : Parts D) (same : v ≡ old) (is_kept : IsKept v) (laws : Lawful v) (s t : ℕ) (client : IsClientOf (state_of old) s t) (idle : IsIdle (state_of old) t)
    (n c : ℕ) (n_is : n ≡ s) (c_is : c ≡ t) where
  at_rest : Rests v n c
  at_rest =
      let own : IsClientOf (state_of v) s t = subst (λ (z : Parts D). IsClientOf (state_of z) s t) (sym same) client in
      let bare : IsIdle (state_of v) t = subst (λ (z : Parts D). IsIdle (state_of z) t) (sym same) idle in
      subst (λ (k : ℕ). Rests v k c) (sym n_is) (subst (λ (k : ℕ). Rests v s k) (sym c_is) (rests v laws s t own bare))

  pub seat_lives : IsSome (seat_of v.seats n)
  seat_lives = is_there (seat_of v.seats n) at_rest.seat at_rest.there

  module _ (found_query query bytes : ℕ) (found_is : option_map (λ x. x.query) (seat_of v.seats n) ≡ Some found_query) (query_named : query ≡ found_query) (bytes_are : bytes ≡ reservation_of v.tree.trackers c) where
    query_same : at_rest.seat.query ≡ query
    query_same = some_is at_rest.seat.query found_query (sym (ap (λ (o : Option Seat). option_map (λ x. x.query) o) at_rest.there) ∙ found_is) ∙ sym query_named

    pub to_lives : IsLive v.tree.trackers query
    to_lives = subst (IsLive v.tree.trackers) query_same (query_live v is_kept laws n c at_rest)

    pub enough : bytes ≤ unused (charge_in v.tree) v.tree.trackers c
    enough = subst (λ (k : ℕ). k ≤ unused (charge_in v.tree) v.tree.trackers c) (sym bytes_are) (gives_unused v is_kept laws n c at_rest)

    pub fits : move_refusal bytes c query v.tree.trackers ≡ None
    fits =
        subst (λ (k : ℕ). move_refusal k c query v.tree.trackers ≡ None) (sym bytes_are)
        (subst (λ (q : ℕ). move_refusal (reservation_of v.tree.trackers c) c q v.tree.trackers ≡ None) query_same (gives_fits v is_kept laws n c at_rest))

    module _ (mid : Parts D) (mid_is : mid ≡ transferred c query bytes v) (mid_laws : Lawful mid) where
      given_is : transferred c at_rest.seat.query (reservation_of v.tree.trackers c) v ≡ mid
      given_is = ap (λ (q : ℕ). transferred c q (reservation_of v.tree.trackers c) v) query_same ∙ ap (λ (k : ℕ). transferred c query k v) (sym bytes_are) ∙ sym mid_is

      first : Done (move_entry n c at_rest.seat.query (reservation_of v.tree.trackers c) ∷ []) [] [] v mid
      first = subst (λ (z : Parts D). Done (move_entry n c at_rest.seat.query (reservation_of v.tree.trackers c) ∷ []) [] [] v z) given_is (give_done v is_kept laws n c at_rest)

      mid_rests : Rests mid n c
      mid_rests = subst (λ (z : Parts D). Rests z n c) given_is (given_rests v is_kept laws n c at_rest)

      mid_empty : reservation_of mid.tree.trackers c ≡ 0
      mid_empty = subst (λ (z : Parts D). reservation_of z.tree.trackers c ≡ 0) given_is (given_empty v is_kept laws n c at_rest)

      pub may_part : CanPart mid n c
      may_part = can_part mid first.kept mid_laws n c mid_rests mid_empty

      pub ended : (new : Parts D) → new ≡ parted n c mid → Done (move_entry s t (query_of (state_of old) s) (reservation_of old.tree.trackers t) ∷ close_entry s t ∷ []) [] [] old new
      ended new is =
          let second : Done (close_entry n c ∷ []) [] [] mid new = subst (λ (z : Parts D). Done (close_entry n c ∷ []) [] [] mid z) (sym is) (part_done mid first.kept mid_laws n c mid_rests mid_empty) in
          let whole : Done (move_entry n c at_rest.seat.query (reservation_of v.tree.trackers c) ∷ close_entry n c ∷ []) [] [] v new =
          done_then (move_entry n c at_rest.seat.query (reservation_of v.tree.trackers c) ∷ []) (close_entry n c ∷ []) [] [] v mid new first second in
          let query_is_of : at_rest.seat.query ≡ query_of (state_of v) n = sym (query_is v is_kept laws n at_rest.seat at_rest.there) in
          subst (λ (z : Parts D). Done (move_entry s t (query_of (state_of z) s) (reservation_of z.tree.trackers t) ∷ close_entry s t ∷ []) [] [] z new) same
          (subst (λ (k : ℕ). Done (move_entry s k (query_of (state_of v) s) (reservation_of v.tree.trackers k) ∷ close_entry s k ∷ []) [] [] v new) c_is
          (subst (λ (k : ℕ). Done (move_entry k c (query_of (state_of v) k) (reservation_of v.tree.trackers c) ∷ close_entry k c ∷ []) [] [] v new) n_is
          (subst (λ (q : ℕ). Done (move_entry n c q (reservation_of v.tree.trackers c) ∷ close_entry n c ∷ []) [] [] v new) query_is_of whole)))
