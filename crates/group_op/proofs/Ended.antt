-- A grouping ends: its pages go, and its table's loans come back.
use Rattle.std.proofs.Common.{◌≡◌, ◌≢◌, ◌∙◌, ℕ, ◌+◌, ◌*◌, ◌≤◌, List, [], Option, Some, None, IsSome, option_map, refl, ap, sym, subst, arith}
use Rattle.std.proofs.lemmas.Option.{none-some}
use Rattle.store_api.specs.Conditions.{IsIdle}
use Rattle.store_api.specs.Holdings.{Account, Holdings, LiveLoan, LivePage, account_of, length_of, loan_of, unused_of}
use Rattle.store_api.specs.Signs.{Grows, Signs}
use Rattle.store_api.specs.Tokens.{ClientToken}
use Rattle.tuple_stream.proofs.Frames.{still_some}
use Rattle.tuple_stream.specs.Families.{AreShaped, family, held_in, slots_in}
use Rattle.bucket_table.specs.Lending.{IsApart, IsOwn, IsTableOf, Lends, bytes_of, loans_of}
use Rattle.bucket_table.specs.Tables.{Lent, Table}
use Rattle.bucket_table.proofs.Beside.{beside_pages}
use Rattle.partition_stack.specs.Changes.{EndsAll, Owns}
use Rattle.partition_stack.specs.Leaving.{MayStart}
use Rattle.partition_stack.specs.Stack.{Stack, over}
use Rattle.partition_stack.proofs.Owned.{owned_stay}
use Rattle.group_op.specs.Held.{LeavesOthers}
use Rattle.group_op.specs.Operator.{HasNoLoan}
use Rattle.group_op.proofs.Chained.{leaves_both}
use Rattle.group_op.proofs.Growth.{Turns, apart_of, loan_client, others_turned}
use Rattle.group_op.proofs.Keeping.{others_stay, same_reservation}

module _ (t : ℕ) (loans : List Lent) (old new : Holdings) (lends : Lends t loans new old) where
  -- the loans came back
  turns_freed : Turns t old new
  turns_freed =
      record {
        block_len = sym (ap (λ (h : Holdings). h.block_len) lends.rest);
        session = sym (ap (λ (h : Holdings). h.session) lends.rest);
        query = sym (ap (λ (h : Holdings). h.query) lends.rest);
        limit = sym (ap (λ (h : Holdings). h.limit) lends.rest);
        live_clients = sym (ap (λ (h : Holdings). h.live_clients) lends.rest);
        free_slots = sym (ap (λ (h : Holdings). h.free_slots) lends.rest);
        told = sym (ap (λ (h : Holdings). h.told) lends.rest);
        pages = sym (ap (λ (h : Holdings). h.pages) lends.rest);
        reservation = let now = ap (λ (h : Holdings). h.reservation) lends.rest in omega (arith, now);
        lives = lends.was;
        clients = λ q other. sym (lends.clients q other);
        came = λ q other apart there.
            lends.others q (apart_of (λ l. new.loans l.number ≡ None) q loans (λ l fresh same.
            none-some other (sym fresh ∙ ap (λ (n : ℕ). new.loans n) same ∙ there)) lends.fresh) ∙ there;
        went = λ q other apart there.
            sym (lends.others q (apart_of (IsOwn t old) q loans (λ l own same.
            apart (sym (loan_client (old.loans q) other there) ∙ sym (ap (λ (n : ℕ). (loan_of n old).client) same) ∙ own.held)) lends.own)) ∙ there;
      }

  -- none of them is the client's from then on
  freed_none : ((q : ℕ) (loan : LiveLoan) → old.loans q ≡ Some loan → IsApart q loans → loan.client ≢ t) → HasNoLoan t new
  freed_none others q loan there =
      let apart : IsApart q loans = apart_of (λ l. new.loans l.number ≡ None) q loans (λ l fresh same. none-some loan (sym fresh ∙ ap (λ (n : ℕ). new.loans n) same ∙ there)) lends.fresh in
      others q loan (lends.others q apart ∙ there) apart

  freed_leaves : (before after : Signs) → Grows before after → LeavesOthers t old new before after
  freed_leaves before after grows =
      let own : (account_of t new).reservation ≡ (account_of t old).reservation = ap (λ (a : Account). a.reservation) lends.charged in
      let room : old.room ≡ new.room = ap (λ (h : Holdings). h.room) lends.rest in
      record { others = others_turned t old new turns_freed; grows = grows; reserved = omega (arith, own); room = omega (arith, own, room) }

none_added : (o : Option ℕ) → option_map (λ n. n + 0) o ≡ o
none_added None = refl
none_added (Some n) = ap Some (omega arith)

none_shaped : (t : ℕ) (h : Holdings) (signs : Signs) → AreShaped t (family [] h signs)
none_shaped t h signs = record { each = λ i s at. absurd (none-some s at); apart = λ i j a b other at there. absurd (none-some a at) }

module _ (t lent : ℕ) (p : Stack) (old new : Holdings) (before after : Signs) (owns : Owns t lent (over p old before)) (ends : EndsAll t (over p old before) (family [] new after)) where
  ended_pages : (q : ℕ) (page : LivePage) → new.pages q ≡ Some page → page.client ≢ t
  ended_pages q page there =
      let was = ends.touches.back q (subst IsSome (sym there) refl) (λ i s at. absurd (none-some s at)) in
      owns.only q page (was.0 ∙ there) was.1

  pub ended_leaves : LeavesOthers t old new before after
  ended_leaves =
      let same = same_reservation t (over p old before) (family [] new after) owns.shaped (none_shaped t new after) ends.touches owns.lives in
      let room = ends.touches.room in
      record {
        others = others_stay t (over p old before) (family [] new after) owns.shaped (none_shaped t new after) ends.touches;
        grows = ends.grows;
        reserved = omega (arith, same);
        room = omega (arith, same, room);
      }

  -- nothing is charged but what is lent
  pub ended_even : unused_of t new + lent ≡ (account_of t new).reservation
  ended_even =
      let even = (owned_stay t lent (over p old before) (family [] new after) owns ends.touches (none_shaped t new after)).even in
      let none : held_in (family [] new after) ≡ 0 = refl in
      omega (arith, even, none)

  pub ended_lives : IsSome (new.clients t)
  ended_lives = (owned_stay t lent (over p old before) (family [] new after) owns ends.touches (none_shaped t new after)).lives

  pub ended_slots : new.free_slots ≡ slots_in (over p old before)
  ended_slots = sym (none_added new.free_slots) ∙ ends.touches.slots

  -- with its table's loans still lent, or none
  pub ended_idle : HasNoLoan t old → IsIdle t new
  ended_idle none = record { pages = ended_pages; loans = λ q loan there. none q loan (sym (ap (λ (f : ℕ → Option LiveLoan). f q) ends.touches.loans) ∙ there) }

  module _ (table : Table) (last : Holdings) (between final : Signs) (client : table.client ≡ t) (others : (q : ℕ) (loan : LiveLoan) → old.loans q ≡ Some loan → IsApart q (loans_of table) → loan.client ≢ t) where
    pub ended_table : IsTableOf table old → IsTableOf table new
    ended_table is =
        beside_pages table old new ends.touches.block_len ends.touches.loans
        (subst (λ (k : ℕ). IsSome (new.clients k)) (sym client) (subst IsSome (sym (ends.touches.account owns.lives)) (still_some (old.clients t) (unused_of t new) owns.lives))) is

    module _ (lends : Lends table.client (loans_of table) last new) where
      own_lends : Lends t (loans_of table) last new
      own_lends = subst (λ (k : ℕ). Lends k (loans_of table) last new) client lends

      pub freed_idle : IsIdle t last
      freed_idle =
          record {
            pages = λ q page there. ended_pages q page (ap (λ (h : Holdings). h.pages q) own_lends.rest ∙ there);
            loans = freed_none t (loans_of table) new last own_lends (λ q loan there apart. others q loan (sym (ap (λ (f : ℕ → Option LiveLoan). f q) ends.touches.loans) ∙ there) apart);
          }

      pub freed_even : bytes_of (loans_of table) ≡ lent → unused_of t last ≡ (account_of t last).reservation
      freed_even all =
          let even = ended_even in
          let unused = ap (λ (a : Account). a.unused) own_lends.charged in
          let own = ap (λ (a : Account). a.reservation) own_lends.charged in
          omega (arith, all, even, unused, own)

      pub freed_lives : IsSome (last.clients t)
      freed_lives = own_lends.was

      pub freed_slots : last.free_slots ≡ slots_in (over p old before)
      freed_slots = sym (ap (λ (h : Holdings). h.free_slots) own_lends.rest) ∙ ended_slots

      pub freed_all : Grows after final → LeavesOthers t old last before final
      freed_all grows =
          let first = ended_leaves in
          let second = freed_leaves t (loans_of table) new last own_lends after final grows in
          leaves_both t old new last before after final first second

-- so another operator may start with the client
pub again_of : (c : ClientToken) (blocks : ℕ) (old new : Holdings) (before after : Signs) → 20 * length_of blocks old ≤ (account_of c.tracker old).reservation → LeavesOthers c.tracker old new before after → IsSome (new.clients c.tracker) → IsIdle c.tracker new → unused_of c.tracker new ≡ (account_of c.tracker new).reservation → MayStart c blocks new
again_of c blocks old new before after least leaves lives idle free =
    record {
      lives = lives;
      idle = idle;
      least =
          let reserved = leaves.reserved in
          let long = ap (λ (n : ℕ). 20 * (blocks * n)) leaves.others.block_len in
          omega (arith, least, reserved, long);
      free = free;
    }
