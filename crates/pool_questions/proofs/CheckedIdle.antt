-- When nothing of a client or of a session is left.
use Rattle.std.proofs.Common.{◌≡◌, ◌≢◌, ℕ, zero, suc, ◌+◌, ◌*◌, ◌<◌, ◌≤◌, ◌==◌, Bool, true, false, List, [], ◌∷◌, length, Option, Some, None, IsSome, option_map, unwrap_or, refl, ap, sym, ◌∙◌, subst, inl, inr, arith, eq-eqb}
use Rattle.std.specs.FinMap.{get}
use Rattle.std.proofs.lemmas.Bool.{false≢true, cases_lt}
use Rattle.std.proofs.lemmas.List.{get_or_past}
use Rattle.index_list.specs.Listing.{stands_in}
use Rattle.block_arena.specs.Memory.{IsBufferOf, Buffer as Blocks}
use Rattle.buffer_transfer.specs.declared.lent.Lent.{Lent}
use Rattle.page_table.specs.declared.entry.Entry.{Entry}
use Rattle.page_table.specs.Pages.{Pages as Table, IsProper}
use Rattle.reservation_tree.specs.Tracker.{Tracker, Trackers, HasNoChild}
use Rattle.reservation_tree.specs.Tree.{charge_of as charge_in}
use Rattle.reservation_tree.specs.Total.{total}
use Rattle.reservation_tree.proofs.Maps.{is_there, found}
use Rattle.reservation_tree.proofs.Sums.{weight-le-total}
use Rattle.session_table.specs.declared.member.Member.{Member}
use Rattle.session_table.specs.Seats.{Seat, Seats, AreProper, seat_of, members_in, members_of, trackers_of}
use Rattle.session_table.specs.Sessions.{session_in, sessions_in}
use Rattle.session_table.proofs.Found.{get_sessions}
use Rattle.pool_model.specs.Bytes.{bytes_of, only_if}
use Rattle.pool_model.specs.Owning.{IsClientOf}
use Rattle.pool_model.specs.State.{Buffer, Buffers, Page, Session, State}
use Rattle.pool_model.specs.Sums.{HasRoom, buffers_for, charge_of}
use Rattle.store_api.specs.Tokens.{ClientToken, LoanToken}
use Rattle.pin_core.specs.declared.kept.Kept.{Kept}
use Rattle.pin_core.specs.declared.parts.Parts.{Parts}
use Rattle.pin_core.specs.Invariant.{IsKept, hangs_under}
use Rattle.pin_core.specs.Lawful.{Lawful}
use Rattle.pin_core.specs.calls.Lending.{CanMoveTo, IsLoan}
use Rattle.pin_core.specs.calls.Sessions.{IsIdle, query_of}
use Rattle.pin_core.specs.StateOf.{buffers_in, page_of, pages_in, state_of}
use Rattle.pin_core.proofs.Known.{HasEntry, has_entry}
use Rattle.pin_core.proofs.Mapped.{get_mapped}
use Rattle.pin_core.proofs.SeatedClients.{hangs_is}

-- a number past the last has no session
pub past_vacant : (seats : Seats) → AreProper seats → ((k : ℕ) → k < 240 → seat_of seats k ≡ None) → (s : ℕ) → seat_of seats s ≡ None
past_vacant seats proper all s = elim (cases_lt s 240) [
  | inl low ↦ all s low
  | inr high ↦ let n = proper.counted in get_or_past seats s None (omega (arith, high, n))
]

none_seated : (seats : Seats) (s : ℕ) → seat_of seats s ≡ None → get (sessions_in seats) s ≡ None
none_seated seats s is = get_sessions seats s ∙ ap (option_map session_in) is

no_member : (members : List Member) → length members ≡ 0 → members ≡ []
no_member [] is = refl
no_member (m ∷ ms) is = absurd (omega (arith, is))

-- a loan goes to a client that has room for it
pub moves_to : (s : State) (loan : LoanToken) (to : ClientToken) (session t bytes : ℕ) → session ≡ to.session → t ≡ to.tracker → bytes ≡ length loan.buf.bytes
    → IsLoan s loan → IsClientOf s session loan.client → IsClientOf s session t → HasRoom s t bytes → CanMoveTo s loan to
unfolding bytes_of
moves_to s loan to session t bytes session_is t_is bytes_are is own own_to room = record {
  own = subst (λ (m : ℕ). IsClientOf s m loan.client) session_is own;
  own_to = subst (λ (m : ℕ). IsClientOf s m to.tracker) session_is (subst (IsClientOf s session) t_is own_to);
  room = λ other. subst (λ (n : ℕ). HasRoom s to.tracker n) (bytes_are ∙ is.buffer.whole) (subst (λ (c : ℕ). HasRoom s c bytes) t_is room);
}

-- a page by its key
pub apart_all : {E : Type 0} (t : Table E) → IsProper t → (holds : E → Type 0) → ((k name : ℕ) (x : E) → k < t.room → get t.names k ≡ Some name → get t.entries name ≡ Some x → holds x)
    → (p : ℕ) (x : E) → get t.entries p ≡ Some x → holds x
apart_all t proper holds all p x there =
    let keyed = proper.keyed p (is_there (get t.entries p) x there) in
    all keyed.0 p x (proper.keys keyed.0 p keyed.1) keyed.1 there

lent_of : (o : Option Lent) (y : Buffer) → option_map (λ (z : Lent). record { client = z.client; blocks = z.blocks }) o ≡ Some y → (z : Lent) × (o ≡ Some z) × (record { client = z.client; blocks = z.blocks } ≡ y)
lent_of None y is = cc
lent_of (Some z) y is = (z, refl, ap (λ (o : Option Buffer). elim o [ None ↦ y | Some w ↦ w ]) is)

-- some blocks that aren't empty have bytes
some_bytes : (len blocks : ℕ) → 0 < len → 0 < blocks → 0 < bytes_of len blocks
unfolding bytes_of
some_bytes len zero long some = elim some [ ]
some_bytes len (suc n) long some = omega (arith, long)

module _ {D : Type 0} (v old : Parts D) (same : v ≡ old) where
  pub vacant_told : ((s : ℕ) → seat_of v.seats s ≡ None) → (s : ℕ) → get (state_of old).sessions s ≡ None
  vacant_told none s = subst (λ (z : Parts D). get (state_of z).sessions s ≡ None) same (none_seated v.seats s (none s))

  pub childless_told : IsKept v → (s : ℕ) (members : List Member) → IsSome (seat_of old.seats s) → members ≡ members_of v.seats s → length members ≡ 0
      → HasNoChild (state_of old).trackers (query_of (state_of old) s)
  childless_told is_kept s members seated them none =
      let seat = found (seat_of v.seats s) (subst (λ (z : Parts D). IsSome (seat_of z.seats s)) (sym same) seated) in
      let query : query_of (state_of v) s ≡ seat.0.query = ap (λ (o : Option Session). unwrap_or (option_map (λ (x : Session). x.query) o) 0) (get_sessions v.seats s ∙ ap (option_map session_in) seat.1) in
      let empty : seat.0.members ≡ [] = no_member seat.0.members (sym (ap (λ (o : Option Seat). length (members_in o)) seat.1) ∙ sym (ap (λ (l : List Member). length l) them) ∙ none) in
      subst (λ (z : Parts D). HasNoChild (state_of z).trackers (query_of (state_of z) s)) same (λ child x there under.
      let hangs : hangs_under v.tree.trackers seat.0.query child ≡ true = hangs_is v.tree.trackers seat.0.query child x there (under ∙ ap Some query) in
      let stands : stands_in child (trackers_of seat.0.members) ≡ true = is_kept.seated.clients s seat.0 seat.1 child ∙ hangs in
      absurd (false≢true (sym (ap (λ (l : List Member). stands_in child (trackers_of l)) empty) ∙ stands)))

  no_buffer : IsKept v → (t : ℕ) → charge_in v.tree t ≡ 0 → (f : ℕ) (x : Buffer) → get (state_of v).buffers f ≡ Some x → x.client ≢ t
  unfolding buffers_for
  no_buffer is_kept t none f x there is =
      let lent = lent_of (get v.buffers.buffers f) x (sym (get_mapped (λ _ (z : Lent). record { client = z.client; blocks = z.blocks }) v.buffers.buffers f) ∙ there) in
      let some = is_kept.lent f lent.0 lent.1 in
      let long = is_kept.sized.some in
      let weight = weight-le-total (λ (_ : ℕ) (y : Buffer). only_if (y.client == t) (bytes_of v.arena.block_len y.blocks)) (state_of v).buffers f x there in
      let charged = is_kept.counted.charges t in
      let own : only_if (x.client == t) (bytes_of v.arena.block_len x.blocks) ≡ bytes_of v.arena.block_len x.blocks = ap (λ (b : Bool). only_if b (bytes_of v.arena.block_len x.blocks)) (eq-eqb x.client t is) in
      let blocks : lent.0.blocks ≡ x.blocks = ap (λ (y : Buffer). y.blocks) lent.2 in
      let more = some_bytes v.arena.block_len x.blocks long (let low = some.0 in omega (arith, low, blocks)) in
      omega (arith, none, weight, charged, own, more)

  pub idle_told : IsKept v → (t n used : ℕ) → n ≡ t → used ≡ charge_in v.tree n → used ≡ 0
      → ((p : ℕ) (x : Entry (Kept D)) → get v.pages.entries p ≡ Some x → x.client ≢ t) → IsIdle (state_of old) t
  idle_told is_kept t n used number charge none pages =
      let free : charge_in v.tree t ≡ 0 = sym (ap (charge_in v.tree) number) ∙ sym charge ∙ none in
      subst (λ (z : Parts D). IsIdle (state_of z) t) same (record {
        pages = λ p x there. let h : HasEntry v p x = has_entry v p x there in λ is. pages p h.entry h.there (ap (λ (y : Page). y.client) h.is ∙ is);
        buffers = no_buffer is_kept t free;
      })

  pub loan_told : (loan : LoanToken) (number : ℕ) (lent : Lent) → number ≡ loan.number → get v.buffers.buffers number ≡ Some lent → lent.client ≡ loan.client
      → lent.blocks ≡ loan.buf.blocks → get (state_of old).buffers loan.number ≡ Some (record { client = loan.client; blocks = loan.buf.blocks })
  loan_told loan number lent is there client blocks =
      subst (λ (z : Parts D). get (state_of z).buffers loan.number ≡ Some (record { client = loan.client; blocks = loan.buf.blocks })) same
      (get_mapped (λ _ (z : Lent). record { client = z.client; blocks = z.blocks }) v.buffers.buffers loan.number
      ∙ ap (option_map (λ (z : Lent). record { client = z.client; blocks = z.blocks })) (sym (ap (get v.buffers.buffers) is) ∙ there)
      ∙ (λ i. Some (record { client = client i; blocks = blocks i })))
