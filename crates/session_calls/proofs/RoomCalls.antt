-- Calls of a session that need room of a client: what they name, and why they may be refused.
use Rattle.std.proofs.Common.{◌≡◌, ℕ, ◌*◌, ◌<◌, true, List, Option, Some, IsSome, option_map, unwrap_or, T, sym, ap, ◌∙◌, subst, inl, inr}
use Rattle.std.specs.List.{list_any}
use Rattle.std.specs.FinMap.{get}
use Rattle.std.specs.Option.{option_and_then}
use Rattle.pool_model.specs.declared.call.Call.{Call}
use Rattle.pool_model.specs.declared.call.Call.TheVariants.{Pin, PinAgain, Create, Alloc, GiveBack, MoveReservation, MoveBuffer}
use Rattle.pool_model.specs.declared.entry.Entry.{Entry}
use Rattle.pool_model.specs.State.{Place, Dirty, Flying, Clean, Evicted, Page, Buffer, Session, State, page_at, no_page}
use Rattle.pool_model.specs.Sums.{HasRoom, length_of}
use Rattle.pool_model.specs.LookingBack.{is_ask, made_by}
use Rattle.pool_model.specs.Refusals.{IsOwnCall, IsEnabled, client_of}
use Rattle.pool_model.specs.MayFollow.{MayFollow}
use Rattle.pool_model.proofs.Seats.{some_is}
use Rattle.store_api.specs.Holdings.{LivePage, LiveLoan, or_else, no_loan, page_len, loan_len, IsPageOf as HoldsPage, no_page as no_live_page, Holdings}
use Rattle.own_entries.proofs.Behind.{IsTold, IsLent}
use Rattle.pin_core.specs.calls.Refusing.{refusal_of}
use Rattle.pin_core.specs.calls.PinTurns.{IsStored}
use Rattle.session_calls.specs.Wanting.{Wants, IsStoredFor}
use Rattle.pin_core.specs.calls.Turns.{LacksRoom}
use Rattle.session_calls.proofs.Known.{KnownTo}
use Rattle.session_calls.proofs.Pages.{len_here}

-- a call names what the session has, for its client, and needs room for so much
pub record NeedsRoom (s : State) (m t amount : ℕ) (call : Call) : Type 0 where
  pub own_call : IsOwnCall s m call
  pub client : client_of s call ≡ Some t
  pub enabled : IsEnabled s call → HasRoom s t amount

room_at : (s : State) (t u a b : ℕ) → t ≡ u → a ≡ b → HasRoom s t a → HasRoom s u b
room_at s t u a b same amounts room = subst (λ (k : ℕ). HasRoom s k b) same (subst (HasRoom s t) amounts room)

clean_isnt : (at : Place) → IsStored at → at ≡ Dirty → ⊥
clean_isnt at (inl clean) dirty = let never : Clean ≡ Dirty = sym clean ∙ dirty in cc
clean_isnt at (inr out) dirty = let never : Evicted ≡ Dirty = sym out ∙ dirty in cc

nor_flies : (at : Place) → IsStored at → (writer : ℕ) → at ≡ Flying writer → ⊥
nor_flies at (inl clean) writer flies = let never : Clean ≡ Flying writer = sym clean ∙ flies in cc
nor_flies at (inr out) writer flies = let never : Evicted ≡ Flying writer = sym out ∙ flies in cc

module _ {left : ℕ → List ℕ} {s : State} {m : ℕ} {h : Holdings} (k : KnownTo left s m h) where
  module _ (t p : ℕ) (held : HoldsPage t h p) where
    it : IsTold s m p (h.pages p) (left p)
    it = k.page p held.lives

    client_here : it.page.client ≡ t
    client_here = sym (ap (λ (o : Option LivePage). (or_else no_live_page o).client) it.reads) ∙ held.client

    bytes_here : length_of s it.page.blocks ≡ page_len p h
    bytes_here = sym (len_here k it.page.blocks) ∙ ap (λ (o : Option LivePage). (or_else no_live_page o).blocks * h.block_len) (sym it.reads)

  pub needs_room : (t amount : ℕ) (call : Call) → IsSome (h.clients t) → Wants t amount h call → IsStoredFor s call → NeedsRoom s m t amount call
  needs_room t amount (Pin p) live wants stored =
      let page = it t p wants.0 in
      let at : page_at s p ≡ page.page = ap (λ (o : Option Page). unwrap_or o no_page) page.own.lives in
      let out : IsStored page.page.place = subst (λ (x : Page). IsStored x.place) at stored in
      record {
        own_call = (page.page, page.own);
        client = ap (option_map (λ x. x.client)) page.own.lives ∙ ap Some (client_here t p wants.0);
        enabled = λ can.
            let same : can.page ≡ page.page = some_is can.page page.page (sym can.lives ∙ page.own.lives) in
            elim can.here [
              | inl dirty ↦ absurd (clean_isnt page.page.place out (ap (λ (x : Page). x.place) (sym same) ∙ dirty))
              | inr rest ↦ elim rest [
                | inl flies ↦ absurd (nor_flies page.page.place out flies.0 (ap (λ (x : Page). x.place) (sym same) ∙ flies.1))
                | inr room ↦
                    room_at s can.page.client t (length_of s can.page.blocks) amount (ap (λ (x : Page). x.client) same ∙ client_here t p wants.0) (ap (λ (x : Page). length_of s x.blocks) same ∙ bytes_here t p wants.0 ∙ sym wants.1) room
              ]
            ];
      }
  needs_room t amount (PinAgain p) live wants stored =
      let page = it t p wants.0 in
      record {
        own_call = (page.page, page.own);
        client = ap (option_map (λ x. x.client)) page.own.lives ∙ ap Some (client_here t p wants.0);
        enabled = λ can.
            let same : can.page ≡ page.page = some_is can.page page.page (sym can.lives ∙ page.own.lives) in
            room_at s can.page.client t (length_of s can.page.blocks) amount (ap (λ (x : Page). x.client) same ∙ client_here t p wants.0) (ap (λ (x : Page). length_of s x.blocks) same ∙ bytes_here t p wants.0 ∙ sym wants.1) can.room;
      }
  needs_room t amount (Create client blocks) live wants stored = record {
    own_call = k.client client (subst (λ (k : ℕ). IsSome (h.clients k)) (sym wants.0) live);
    client = ap Some wants.0;
    enabled = λ room. room_at s client t (length_of s blocks) amount wants.0 (sym (len_here k blocks) ∙ sym wants.1) room;
  }
  needs_room t amount (Alloc client blocks) live wants stored = record {
    own_call = k.client client (subst (λ (k : ℕ). IsSome (h.clients k)) (sym wants.0) live);
    client = ap Some wants.0;
    enabled = λ room. room_at s client t (length_of s blocks) amount wants.0 (sym (len_here k blocks) ∙ sym wants.1) room;
  }
  needs_room t amount (GiveBack client bytes) live wants stored = record {
    own_call = k.client client (subst (λ (k : ℕ). IsSome (h.clients k)) (sym wants.0) live);
    client = ap Some wants.0;
    enabled = λ room. room_at s client t bytes amount wants.0 (sym wants.1) room;
  }
  needs_room t amount (MoveReservation from to bytes) live wants stored = record {
    own_call = (k.client from (subst (λ (k : ℕ). IsSome (h.clients k)) (sym wants.0) live), inr (k.client to wants.1));
    client = ap Some wants.0;
    enabled = λ room. room_at s from t bytes amount wants.0 (sym wants.2) room;
  }
  needs_room t amount (MoveBuffer f to) live wants stored =
      let lent : IsLent s m f (h.loans f) = k.loan f wants.1 in
      record {
        own_call = (record { buffer = lent.buffer; lives = lent.lives; own = lent.own }, k.client to (subst (λ (k : ℕ). IsSome (h.clients k)) (sym wants.0) live));
        client = ap Some wants.0;
        enabled = λ can.
            let same : can.buffer ≡ lent.buffer = some_is can.buffer lent.buffer (sym can.lives ∙ lent.lives) in
            let bytes : length_of s lent.buffer.blocks ≡ loan_len f h =
            sym (len_here k lent.buffer.blocks) ∙ ap (λ (o : Option LiveLoan). (or_else no_loan o).blocks * h.block_len) (sym lent.reads) in
            room_at s to t (length_of s can.buffer.blocks) amount wants.0 (ap (λ (b : Buffer). length_of s b.blocks) same ∙ bytes ∙ sym wants.2) can.room;
      }

  -- it may be refused for the first failure of its client that is kept, after the session asked
  pub may_refuse : (hist : List Entry) → m < 240 → list_any (λ e. is_ask e.event) (made_by hist m) ≡ true
      → (t amount entry : ℕ) (call : Call) → IsSome (h.clients t) → Wants t amount h call → IsStoredFor s call → LacksRoom s m t amount (Some entry) → MayFollow hist s (refusal_of m call entry)
  may_refuse hist number asked t amount entry call live wants stored lacks =
      let needs : NeedsRoom s m t amount call = needs_room t amount call live wants stored in
      record {
        makes = number;
        allows = record {
          asked = subst T (sym asked) tt;
          own = needs.own_call;
          why = inl (record {
            client = t;
            of = needs.client;
            full = λ enabled. lacks.full (needs.enabled enabled);
            session = k.session;
            opened = k.lives;
            first = ap (λ (z : Option Session). option_and_then (λ y. get y.failures t) z) (sym k.lives) ∙ lacks.failed;
          });
        };
      }
