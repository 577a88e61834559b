-- Buffers come, change hands and go, while pages stay.
use Rattle.std.proofs.Common.{◌≡◌, ℕ, ◌+◌, ◌<◌, ◌≤◌, ◌==◌, List, [], ◌∷◌, Option, Some, None, option_map, refl, ap, sym, ◌∙◌, subst, inl, inr, arith}
use Rattle.std.specs.FinMap.{FinMap, get, insert, remove}
use Rattle.std.specs.Ordering.{nat_cmp}
use Rattle.outside.specs.declared.slot.Slot.{Ghosts}
use Rattle.buffer_transfer.specs.declared.lent.Lent.{Lent}
use Rattle.buffer_transfer.specs.Buffers.{Book}
use Rattle.reservation_tree.specs.Total.{total, weight_at}
use Rattle.reservation_tree.specs.Tree.{charge_of as charge_in}
use Rattle.reservation_tree.proofs.Sums.{total-insert}
use Rattle.reservation_tree.proofs.Maps.{get_same, get_other, removed_same, removed_other, same_or_other}
use Rattle.pool_model.specs.declared.entry.Entry.{Entry as Event}
use Rattle.pool_model.specs.Bytes.{bytes_of, only_if}
use Rattle.pool_model.specs.Owning.{IsClientOf}
use Rattle.pool_model.specs.State.{Buffer, Buffers, shown}
use Rattle.pool_model.specs.Sums.{buffers_for, buffer_bytes}
use Rattle.pool_model.specs.MayFollow.{MayFollow}
use Rattle.pool_model.specs.Effects.{after}
use Rattle.pool_model.specs.LookingBack.{left_in, content_of}
use Rattle.pool_model.specs.HistoryLaws.{made}
use Rattle.pool_model.proofs.Seats.{some_is}
use Rattle.pin_core.specs.declared.parts.Parts.{Parts}
use Rattle.pin_core.specs.StateOf.{page_of, buffers_in, state_of}
use Rattle.pin_core.specs.Invariant.{HasHistory, IsKept}
use Rattle.pin_core.specs.Standing.{Holds, Enters}
use Rattle.pin_core.specs.Marking.{form_of}
use Rattle.pin_core.proofs.Histories.{GrewBy, grew, history_grows, content_grows}
use Rattle.pin_core.proofs.Mapped.{get_mapped}
use Rattle.pin_core.proofs.Places.{quota_open, index_in}
use Rattle.pin_core.proofs.Stands.{was_made}
use Rattle.scratch_dev.specs.Pool.{quota_of}

module _ (len : ℕ) (buffers : Buffers) (f : ℕ) (y : Buffer) where
  pub buffers_come : get buffers f ≡ None → (t : ℕ) → buffers_for len (insert buffers f y) t ≡ buffers_for len buffers t + only_if (y.client == t) (bytes_of len y.blocks)
  unfolding buffers_for
  buffers_come none t =
      let w : ℕ → Buffer → ℕ = λ _ z. only_if (z.client == t) (bytes_of len z.blocks) in
      let sum : total w (insert buffers f y) + weight_at w f (get buffers f) ≡ total w buffers + w f y = total-insert w buffers f y in
      let old : weight_at w f (get buffers f) ≡ 0 = ap (weight_at w f) none in
      omega (arith, sum, old)

  pub all_come : get buffers f ≡ None → buffer_bytes len (insert buffers f y) ≡ buffer_bytes len buffers + bytes_of len y.blocks
  unfolding buffer_bytes
  all_come none =
      let w : ℕ → Buffer → ℕ = λ _ z. bytes_of len z.blocks in
      let sum : total w (insert buffers f y) + weight_at w f (get buffers f) ≡ total w buffers + w f y = total-insert w buffers f y in
      let old : weight_at w f (get buffers f) ≡ 0 = ap (weight_at w f) none in
      omega (arith, sum, old)

  pub buffers_put : (x : Buffer) → get buffers f ≡ Some x → (t : ℕ)
      → buffers_for len (insert buffers f y) t + only_if (x.client == t) (bytes_of len x.blocks) ≡ buffers_for len buffers t + only_if (y.client == t) (bytes_of len y.blocks)
  unfolding buffers_for
  buffers_put x is t =
      let w : ℕ → Buffer → ℕ = λ _ z. only_if (z.client == t) (bytes_of len z.blocks) in
      let sum : total w (insert buffers f y) + weight_at w f (get buffers f) ≡ total w buffers + w f y = total-insert w buffers f y in
      let old : weight_at w f (get buffers f) ≡ w f x = ap (weight_at w f) is in
      omega (arith, sum, old)

abbrev pub buffer_of : ℕ → Lent → Buffer
buffer_of f x = record { client = x.client; blocks = x.blocks }

-- a number that the book doesn't know
pub not_lent : (book : Book) (f : ℕ) → get book.buffers f ≡ None → get (buffers_in book) f ≡ None
not_lent book f none = get_mapped buffer_of book.buffers f ∙ ap (λ (o : Option Lent). option_map (buffer_of f) o) none

-- and one that it knows
pub record LentAs (book : Book) (f : ℕ) (y : Buffer) : Type 0 where
  pub lent : Lent
  pub there : get book.buffers f ≡ Some lent
  pub is : buffer_of f lent ≡ y

lent_from : (f : ℕ) (o : Option Lent) (y : Buffer) → option_map (buffer_of f) o ≡ Some y → (x : Lent) × (o ≡ Some x) × (buffer_of f x ≡ y)
lent_from f None y is = cc
lent_from f (Some x) y is = (x, refl, some_is (buffer_of f x) y is)

pub lent_as : (book : Book) (f : ℕ) (y : Buffer) → get (buffers_in book) f ≡ Some y → LentAs book f y
lent_as book f y is =
    let w = lent_from f (get book.buffers f) y (sym (get_mapped buffer_of book.buffers f) ∙ is) in
    record { lent = w.0; there = w.1; is = w.2 }

-- a live buffer has 1 to 256 blocks, where a buffer of so many comes
abbrev pub AreSmall : FinMap nat_cmp Lent → Type 0
AreSmall buffers = (f : ℕ) (x : Lent) → get buffers f ≡ Some x → (0 < x.blocks) × (x.blocks ≤ 256)

pub small_put : (buffers : FinMap nat_cmp Lent) (f : ℕ) (y : Lent) → AreSmall buffers → (0 < y.blocks) × (y.blocks ≤ 256) → AreSmall (insert buffers f y)
small_put buffers f y all size g x is = elim (same_or_other g f) [
  | inl here ↦
      let same : y ≡ x = some_is y x (sym (get_same buffers f y) ∙ ap (get (insert buffers f y)) (sym here) ∙ is) in
      subst (λ (z : Lent). (0 < z.blocks) × (z.blocks ≤ 256)) same size
  | inr other ↦ all g x (sym (get_other buffers f y g other) ∙ is)
]

pub small_gone : (buffers : FinMap nat_cmp Lent) (f : ℕ) → AreSmall buffers → AreSmall (remove buffers f)
small_gone buffers f all g x is = elim (same_or_other g f) [
  | inl here ↦ let none : None ≡ Some x = sym (removed_same buffers f) ∙ ap (get (remove buffers f)) (sym here) ∙ is in cc
  | inr other ↦ all g x (sym (removed_other buffers f g other) ∙ is)
]

module _ {D : Type 0} where
  -- the number of a live session
  pub session_low : (v : Parts D) → IsKept v → (session c : ℕ) → IsClientOf (state_of v) session c → session < 240
  session_low v is_kept session c owner =
      let found = quota_open (get (state_of v).sessions session) owner.session (quota_of v.slots session) _ owner.opened (is_kept.counted.quotas session) in
      let lt = index_in v.slots.quotas session found.0 found.1 in
      let sessions = is_kept.sized.sessions in
      omega (arith, lt, sessions)

  -- the parts with other buffers, charges and free blocks, and one entry more
  abbrev pub relent : Book → FinMap nat_cmp ℕ → ℕ → Parts D → Parts D
  relent book charges free v = record v { buffers = book; tree = record v.tree { charges = charges }; arena = record v.arena { free = free }; entries = shown (v.entries + 1) }

  -- the change is the one that this entry tells
  pub record Relends (book : Book) (charges : FinMap nat_cmp ℕ) (free : ℕ) (v : Parts D) (e : Event) : Type 0 where
    pub charge : (t : ℕ) → charge_in (record v.tree { charges = charges }) t + buffers_for v.arena.block_len (buffers_in v.buffers) t ≡ charge_in v.tree t + buffers_for v.arena.block_len (buffers_in book) t
    pub memory : bytes_of v.arena.block_len free + buffer_bytes v.arena.block_len (buffers_in book) ≡ bytes_of v.arena.block_len v.arena.free + buffer_bytes v.arena.block_len (buffers_in v.buffers)
    pub lent : AreSmall book.buffers
    pub room : book.room ≡ v.buffers.room
    pub state : state_of (relent book charges free v) ≡ after (state_of v) e
    pub may : (h : List Event) → MayFollow h (state_of v) e
    pub leaves : (q : ℕ) (old : List ℕ) → left_in q e.event old ≡ old

  module _ (book : Book) (charges : FinMap nat_cmp ℕ) (free : ℕ) (v : Parts D) (e : Event) (is_kept : IsKept v) (r : Relends book charges free v e) where
    abbrev new : Parts D
    new = relent book charges free v

    pub relent_kept : IsKept new
    relent_kept =
        let c = is_kept.counted in let s = is_kept.sized in let p = is_kept.placed in record {
          legal = subst HasHistory (sym r.state) (history_grows (state_of v) e is_kept.legal r.may);
          placed = λ key name page live there. let at = p key name page live there in record { on = at.on; opened = at.opened; size = at.size; clean = at.clean; blocks = at.blocks; mem = at.mem; kept = at.kept };
          stray = is_kept.stray;
          counted = record {
            charges = λ t. let was = c.charges t in let change = r.charge t in omega (arith, was, change);
            free = let was = c.free in let change = r.memory in omega (arith, was, change);
            quotas = c.quotas;
            room = c.room;
          };
          seated = let z = is_kept.seated in record { clients = z.clients; opens = z.opens; few = z.few };
          lent = r.lent;
          sized = record { len = s.len; some = s.some; short = s.short; clients = s.clients; sessions = s.sessions; nodes = s.nodes; cleans = s.cleans; memory = s.memory; book = r.room ∙ s.book };
        }

    pub relent_enters : (slot : Ghosts D) → Enters slot (e ∷ []) [] [] v new
    relent_enters slot = record {
      state = r.state;
      stands = λ o h stands.
          let more : GrewBy o h (state_of v) e = grew o h (state_of v) e stands.legal stands.state (r.may h) in record {
            legal = more.legal;
            state = r.state ∙ more.state;
            holds = λ q page there. subst (λ (b : List ℕ). Holds slot (form_of v) q b page)
                (sym (content_grows o h e q (made (page_of v.pages q page)) (was_made slot o h v stands q page there) ∙ r.leaves q (content_of o h q))) (stands.holds q page there);
          };
      slots = λ measure. omega arith;
    }
