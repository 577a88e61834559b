-- A pool refuses growths, moves and unpins where what the session holds says so.
use Rattle.std.proofs.Common.{◌≡◌, ℕ, ◌-◌, leb, List, Bool, true, false, if◌then◌else◌, Option, Some, None, IsSome, [], ◌↔◌, option_map, unwrap_or, refl, sym, ap, ◌∙◌, subst, inl, inr, eq-eqb, ne_eqb}
use Rattle.std.specs.FinMap.{get}
use Rattle.reservation_tree.specs.Tracker.{unused, reservation_of}
use Rattle.reservation_tree.specs.Tracker.{room_of as tree_room}
use Rattle.std.specs.Option.{option_or}
use Rattle.reservation_tree.specs.declared.errors.PoolErr.{PoolErr}
use Rattle.reservation_tree.specs.Change.{move_refusal as tree_move_refusal}
use Rattle.reservation_tree.specs.Change.{Refusal, or_else, over, grow_refusal}
use Rattle.reservation_tree.specs.Answer.{no_reservation}
use Rattle.reservation_tree.proofs.Outline.{reservation_is, limit_is}
use Rattle.pool_model.specs.declared.entry.Entry.{Entry}
use Rattle.pool_model.specs.State.{Pinned, Session, State, pins_of}
use Rattle.pool_model.specs.Sums.{charge_of, slots_of, free_slots}
use Rattle.pool_model.specs.PageRows.{MayRefuseUnpin}
use Rattle.pool_model.specs.LookingBack.{content_from}
use Rattle.pool_model.specs.Legal.{state_after}
use Rattle.pool_model.specs.Owning.{IsClientOf}
use Rattle.pool_model.specs.Sound.{IsSound}
use Rattle.pool_model.proofs.Failures.{PagesOwned, legal_pages_are_owned}
use Rattle.pool_model.proofs.Kept.{legal_sound}
use Rattle.reservation_tree.proofs.Maps.{same_or_other}
use Rattle.store_api.specs.Holdings.{Account, LivePage, Shared, Holdings, no_account, account_of, no_page, page_of}
use Rattle.store_api.specs.Holdings.{or_else as value_or}
use Rattle.store_api.specs.Changes.{query_growth}
use Rattle.store_api.specs.Refusals.{LacksSlots, client_room, unless_fits, reserve_refusal, move_refusal}
use Rattle.store_api.proofs.Slots.{lacks_as_in_pool}
use Rattle.own_entries.specs.LiveParts.{left_at, Tells}
use Rattle.own_entries.specs.HeldLaws.{own_holdings}
use Rattle.own_entries.proofs.Behind.{IsTold, told_client, told_page, pinned_once}
use Rattle.own_entries.proofs.Held.{legal_holdings_are_told}
use Rattle.own_entries.specs.RefusalLaws.{RefusesAsTold, LegalRefusesAsTold}
use Rattle.own_entries.proofs.Views.{told_account, account_is}
use Rattle.reservation_tree.proofs.Climbs.{no_move_refusal}
use Rattle.reservation_tree.proofs.Ways.{or_none, client_refused, refused_beside}
use Rattle.own_entries.proofs.Facts.{own_under, own_low, high, seat}
use Rattle.own_entries.proofs.ByItself.{room_is}

or_assoc : (a b c : Option Refusal) → or_else a (or_else b c) ≡ or_else (or_else a b) c
or_assoc None b c = refl
or_assoc (Some r) b c = refl

-- a growth that passes this room of a tracker
abbrev pub told_over : ℕ → ℕ → ℕ → Option Refusal
told_over tracker wanted room = if leb wanted room then None else Some (record { tracker = tracker; wanted = wanted; room = room })

either_as_errors : (a b : Option Refusal) → option_map no_reservation (or_else a b) ≡ option_or (option_map no_reservation a) (option_map no_reservation b)
either_as_errors None b = refl
either_as_errors (Some r) b = refl

-- the two forms of one refusal
as_call : (tracker wanted room : ℕ) (o : Option Refusal) → unless_fits tracker wanted room (option_map no_reservation o) ≡ option_map no_reservation (or_else (told_over tracker wanted room) o)
as_call tracker wanted room o =
    elim (leb wanted room) as (λ b. (if b then option_map no_reservation o else Some (no_reservation (record { tracker = tracker; wanted = wanted; room = room }))) ≡ option_map no_reservation (or_else (if b then None else Some (record { tracker = tracker; wanted = wanted; room = room })) o)) [
      | true ↦ refl
      | false ↦ refl
    ]

module _ (left : ℕ → List ℕ) (before : List Entry) (s : State) (sound : IsSound s) (owned : PagesOwned s) (m : ℕ) (x : Session) (is : get s.sessions m ≡ Some x) (h : Holdings)
    (told : Tells left s.block_len s.trackers s.pages s.buffers m x.query x.quota h) where
  -- a client's room is as it is told
  room_as_told : (t : ℕ) → IsClientOf s m t → tree_room s.trackers t ≡ client_room t h
  room_as_told t client =
      let account : account_of t h ≡ told_account x.query (charge_of s t) client.tracker =
      ap (value_or no_account) (told.clients t ∙ account_is x.query (charge_of s t) (get s.trackers t) client.tracker client.lives (own_under s sound m x is t client)) in
      ap (λ (n : ℕ). n - reservation_of s.trackers t) (limit_is s.trackers t client.tracker client.lives) ∙ ap (λ (n : ℕ). client.tracker.limit - n) (reservation_is s.trackers t client.tracker client.lives)
      ∙ sym (ap (λ (a : Account). a.limit - a.reservation) account)

  growth_refused : (t bytes : ℕ) → IsClientOf s m t
      → option_map no_reservation (grow_refusal (charge_of s) bytes t s.trackers)
      ≡ option_or (reserve_refusal t bytes (record h { above = Shared })) (option_map no_reservation (over s.trackers (query_growth bytes h - unused (charge_of s) s.trackers 0) 0))
  growth_refused t bytes client =
      let own_room : tree_room s.trackers t ≡ client_room t h = room_as_told t client in
      let growth : bytes - unused (charge_of s) s.trackers x.query ≡ query_growth bytes h = ap (λ (u : ℕ). bytes - u) (room_is left before s sound owned m x is h told) in
      let query_room : tree_room s.trackers x.query ≡ h.limit - h.reservation =
      ap (λ (n : ℕ). n - reservation_of s.trackers x.query) (sym told.limit) ∙ ap (λ (n : ℕ). h.limit - n) (sym told.reservation) in
      let first : over s.trackers bytes t ≡ told_over t bytes (client_room t h) = ap (told_over t bytes) own_room in
      let second : over s.trackers (bytes - unused (charge_of s) s.trackers x.query) x.query ≡ told_over h.query (query_growth bytes h) (h.limit - h.reservation) =
      ap (λ (n : ℕ). told_over x.query n (tree_room s.trackers x.query)) growth ∙ ap (λ (r : ℕ). told_over x.query (query_growth bytes h) r) query_room ∙ ap (λ (q : ℕ). told_over q (query_growth bytes h) (h.limit - h.reservation)) (sym told.tracker) in
      let third : over s.trackers ((bytes - unused (charge_of s) s.trackers x.query) - unused (charge_of s) s.trackers 0) 0 ≡ over s.trackers (query_growth bytes h - unused (charge_of s) s.trackers 0) 0 =
      ap (λ (n : ℕ). over s.trackers (n - unused (charge_of s) s.trackers 0) 0) growth in
      let own : Option Refusal = or_else (told_over t bytes (client_room t h)) (told_over h.query (query_growth bytes h) (h.limit - h.reservation)) in
      let root : Option Refusal = over s.trackers (query_growth bytes h - unused (charge_of s) s.trackers 0) 0 in
      let growth : grow_refusal (charge_of s) bytes t s.trackers ≡ or_else own root =
      client_refused (charge_of s) s.trackers bytes x.query (high s sound x.query (seat s sound m x is)) t (own_low s sound m x is t client)
      ∙ ap (λ (o : Option Refusal). or_else o (or_else (over s.trackers (bytes - unused (charge_of s) s.trackers x.query) x.query) (over s.trackers ((bytes - unused (charge_of s) s.trackers x.query) - unused (charge_of s) s.trackers 0) 0))) first
      ∙ ap (λ (o : Option Refusal). or_else (told_over t bytes (client_room t h)) (or_else o (over s.trackers ((bytes - unused (charge_of s) s.trackers x.query) - unused (charge_of s) s.trackers 0) 0))) second
      ∙ ap (λ (o : Option Refusal). or_else (told_over t bytes (client_room t h)) (or_else (told_over h.query (query_growth bytes h) (h.limit - h.reservation)) o)) third
      ∙ or_assoc (told_over t bytes (client_room t h)) (told_over h.query (query_growth bytes h) (h.limit - h.reservation)) (over s.trackers (query_growth bytes h - unused (charge_of s) s.trackers 0) 0) in
      let call : reserve_refusal t bytes (record h { above = Shared }) ≡ option_map no_reservation own =
      ap (unless_fits t bytes (client_room t h)) (as_call h.query (query_growth bytes h) (h.limit - h.reservation) None)
      ∙ as_call t bytes (client_room t h) (or_else (told_over h.query (query_growth bytes h) (h.limit - h.reservation)) None)
      ∙ ap (λ (o : Option Refusal). option_map no_reservation (or_else (told_over t bytes (client_room t h)) o)) (or_none _) in
      ap (option_map no_reservation) growth ∙ either_as_errors own root ∙ ap (λ (o : Option PoolErr). option_or o (option_map no_reservation root)) (sym call)

  move_refused : (from to bytes : ℕ) → IsClientOf s m from → IsClientOf s m to → option_map no_reservation (tree_move_refusal bytes from to s.trackers) ≡ move_refusal from to bytes h
  move_refused from to bytes client other = elim (same_or_other from to) [
    | inl same ↦
        ap (option_map no_reservation) (no_move_refusal s.trackers bytes from to same) ∙ sym (ap (λ (b : Bool). if b then None else unless_fits to bytes (client_room to h) None) (eq-eqb from to same))
    | inr apart ↦
        ap (option_map no_reservation) (refused_beside (charge_of s) s.trackers bytes x.query from to (high s sound x.query (seat s sound m x is)) (own_low s sound m x is from client) (own_low s sound m x is to other) apart
        ∙ ap (told_over to bytes) (room_as_told to other) ∙ sym (or_none (told_over to bytes (client_room to h))))
        ∙ sym (as_call to bytes (client_room to h) None)
        ∙ sym (ap (λ (b : Bool). if b then None else unless_fits to bytes (client_room to h) None) (ne_eqb from to apart))
  ]

  -- a page with one pin lacks slots as the pool says
  unpin_refused : (p : ℕ) → IsSome (h.pages p) → (page_of p h).pins ≡ 1 → LacksSlots (page_of p h) h.free_slots ↔ MayRefuseUnpin s m p
  unpin_refused p some once =
      let it : IsTold s m p (h.pages p) (left p) = told_page left s m x is h told p some in
      let page : LivePage = record { key = it.page.key; client = it.page.client; blocks = it.page.blocks; pins = pins_of it.page.place; left = left_at it.page.place (left p); has_slots = it.page.has_slots } in
      let reads : page_of p h ≡ page = ap (value_or no_page) it.reads in
      let free : h.free_slots ≡ Some (free_slots s m) = told.free_slots ∙ sym (ap (λ (o : Option Session). Some (unwrap_or (option_map (λ z. z.quota) o) 0 - slots_of s.pages m)) is) in
      let pinned : it.page.place ≡ Pinned 1 = pinned_once it.page.place (sym (ap (λ (v : LivePage). v.pins) reads) ∙ once) in
      subst (λ (o : Option ℕ). LacksSlots (page_of p h) o ↔ MayRefuseUnpin s m p) (sym free)
      (lacks_as_in_pool s m p it.page (page_of p h) it.own pinned (ap (λ (v : LivePage). v.blocks) reads) (ap (λ (v : LivePage). v.has_slots) reads))

  pub refuses_as_told : RefusesAsTold s m h
  refuses_as_told = record {
    growth = λ t bytes some. growth_refused t bytes (told_client left s m x is h told t some);
    move = λ from to bytes some other. move_refused from to bytes (told_client left s m x is h told from some) (told_client left s m x is h told to other);
    unpin = unpin_refused;
  }

pub legal_refuses_as_told : LegalRefusesAsTold
legal_refuses_as_told o outset h legal m x is =
    refuses_as_told (λ p. content_from p [] h) h (state_after o h) (legal_sound o h legal) (legal_pages_are_owned o h legal) m x is (own_holdings o outset h m) (legal_holdings_are_told o outset h legal m x is)
