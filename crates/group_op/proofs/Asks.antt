-- A grouping over two stores that hold the same for its client.
use Rattle.std.proofs.Common.{◌≡◌, ◌∙◌, ℕ, ◌*◌, get_or, List, Option, Some, None, IsSome, is_some, if◌then◌else◌, refl, ap, sym, subst, arith}
use Rattle.std.specs.List.{sum_by}
use Rattle.store_api.specs.Emitters.{SameFor}
use Rattle.store_api.specs.Holdings.{Account, Holdings, account_of, length_of, no_loan, or_else, unused_of}
use Rattle.store_api.specs.Signs.{Signs}
use Rattle.store_api.specs.Tokens.{ClientToken}
use Rattle.store_api.specs.declared.shapes.Shape.{Shape}
use Rattle.store_api.proofs.Puts.{there}
use Rattle.tuple_stream.specs.Streamed.{Streamed}
use Rattle.tuple_stream.specs.Families.{ShowAll, held_in}
use Rattle.tuple_stream.specs.Touches.{slots_of}
use Rattle.bucket_table.specs.Lending.{IsOwn, IsTableOf, loans_of}
use Rattle.bucket_table.specs.Tables.{Lent, Table}
use Rattle.bucket_table.proofs.Lent.{moved_own}
use Rattle.partition_stack.specs.Changes.{Owns}
use Rattle.partition_stack.specs.Stack.{Stack, over}
use Rattle.partition_stack.proofs.Agreeing.{agreeing_rows, agreeing_shape}
use Rattle.partition_stack.proofs.Emitters.{account_same}
use Rattle.partition_stack.proofs.Owned.{agree}
use Rattle.partition_stack.proofs.Slots.{all_taken}
use Rattle.group_op.specs.Asking.{AsksOwn}
use Rattle.group_op.specs.Held.{AreEntries, IsHeld, lent, state}
use Rattle.group_op.specs.Operator.{HasTable}

module _ (t : ℕ) (old new : Holdings) (same : SameFor t old new) (len : new.block_len ≡ old.block_len) where
  reserved_same : (account_of t new).reservation ≡ (account_of t old).reservation
  reserved_same = ap (λ (a : Account). a.reservation) (account_same t old new same)

  unused_same : unused_of t new ≡ unused_of t old
  unused_same = ap (λ (a : Account). a.unused) (account_same t old new same)

  pages_long : (blocks : ℕ) → length_of blocks new ≡ length_of blocks old
  pages_long blocks = ap (λ (n : ℕ). blocks * n) len

  -- ---- its partitions

  module _ (n : ℕ) (p : Stack) (before after : Signs) (owns : Owns t n (over p old before)) where
    owns_same : Owns t n (over p new after)
    owns_same =
        record {
          lives = subst (λ (o : Option Account). IsSome o) (sym same.account) owns.lives;
          shaped = record { each = λ i s at. agreeing_shape t s old new (owns.shaped.each i s at) len (agree t n p.streams old new before after owns same len i s at); apart = owns.shaped.apart };
          only = λ q page lives outside mine. owns.only q page ((same.pages q page mine).0 lives) outside mine;
          even =
              let held_now : held_in (over p new after) ≡ held_in (over p old before) = ap (λ (k : ℕ). sum_by (λ (s : Streamed). if is_some s.pinned then s.page_blocks * k else 0) p.streams) len in
              let even = owns.even in
              omega (arith, held_now, even, reserved_same, unused_same);
        }

    shows_same : (rows : ℕ → List (List ℕ)) → ShowAll rows (over p old before) → ShowAll rows (over p new after)
    shows_same rows shows = λ i s at. agreeing_rows t s old new (owns.shaped.each i s at) len (agree t n p.streams old new before after owns same len i s at) (rows i) (shows i s at)

    slots_same : sum_by (λ s. sum_by (slots_of s new) s.pages) p.streams ≡ sum_by (λ s. sum_by (slots_of s old) s.pages) p.streams
    slots_same = all_taken p.streams old new (agree t n p.streams old new before after owns same len)

  -- ---- its table

  table_same : (table : Table) → table.client ≡ t → IsTableOf table old → IsTableOf table new
  table_same table client is =
      record {
        held = record {
          lives = subst (λ (k : ℕ). IsSome (new.clients k)) (sym client) (subst (λ (o : Option Account). IsSome o) (sym same.account) (subst (λ (k : ℕ). IsSome (old.clients k)) client is.held.lives));
          own = λ k d within.
              let l : Lent = get_or (loans_of table) k d in
              let here : IsOwn table.client old l = is.held.own k d within in
              let was : old.loans l.number ≡ Some (or_else no_loan (old.loans l.number)) = there no_loan (old.loans l.number) here.lives in
              moved_own table.client old new l here ((same.loans l.number (or_else no_loan (old.loans l.number)) (here.held ∙ client)).1 was ∙ sym was) len;
          apart = is.held.apart;
        };
        sized = is.sized;
        block_len = is.block_len ∙ sym len;
      }

  held_same : (table : Table) (p : Stack) (before after : Signs) → IsHeld t (state table p old before) → IsHeld t (state table p new after)
  held_same table p before after held =
      record {
        owns = owns_same (lent (state table p old before)) p before after held.owns;
        table = table_same table held.client held.table;
        client = held.client;
        blocks = held.blocks;
        loans = λ q loan lives other own. held.loans q loan ((same.loans q loan own).0 lives) other own;
        room = let room = held.room in omega (arith, room, reserved_same, ap (λ (n : ℕ). 17 * n) (pages_long p.page_blocks));
      }

-- ---- all that it has

-- what is so of the partitions, with or without a table
of_parts : {P : Type 0} (c : ClientToken) (shape : Shape) (p : Stack) (table : Option Table) (h : Holdings) (signs : Signs) → HasTable c shape p table h signs → ((n : ℕ) → Owns c.tracker n (over p h signs) → P) → P
of_parts c shape p None h signs has so = so 0 has.0
of_parts c shape p (Some table) h signs has so = so (lent (state table p h signs)) has.0.owns

has_same : (c : ClientToken) (shape : Shape) (p : Stack) (table : Option Table) (old new : Holdings) (before after : Signs) → SameFor c.tracker old new → new.block_len ≡ old.block_len → HasTable c shape p table old before → HasTable c shape p table new after
has_same c shape p None old new before after same len has = (
  owns_same c.tracker old new same len 0 p before after has.0,
  λ q loan lives own. has.1 q loan ((same.loans q loan own).0 lives) own,
  unused_same c.tracker old new same len ∙ has.2 ∙ sym (reserved_same c.tracker old new same len),
)
has_same c shape p (Some table) old new before after same len has = (
  held_same c.tracker old new same len table p before after has.0,
  subst (λ (n : ℕ). AreEntries shape n table) (sym (pages_long c.tracker old new same len p.page_blocks)) has.1,
)

pub asks_own : AsksOwn
asks_own op old new before after own is =
    let t : ℕ = op.client.tracker in
    let same : SameFor op.client.tracker old new = own.own op.client.tracker refl in
    record {
      is = record {
        shape = is.shape;
        sized = is.sized;
        client = subst (λ (o : Option Account). IsSome o) (sym same.account) is.client;
        least =
            let least = is.least in
            let reserved = reserved_same op.client.tracker old new same own.block_len in
            let long = ap (λ (n : ℕ). 20 * n) (pages_long op.client.tracker old new same own.block_len op.parts.page_blocks) in
            omega (arith, least, reserved, long);
        has = has_same op.client op.shape op.parts op.table old new before after same own.block_len is.has;
      };
      holds = λ fed holds.
          record {
            rows = holds.rows;
            shows = of_parts op.client op.shape op.parts op.table old before is.has (λ n owns. shows_same op.client.tracker old new same own.block_len n op.parts before after owns holds.rows holds.shows);
            formed = holds.formed;
            placed = holds.placed;
            values = holds.values;
            stand = holds.stand;
            distinct = holds.distinct;
            fresh = holds.fresh;
            few = holds.few;
            light = holds.light;
            small = λ low. holds.small (let long = ap (λ (n : ℕ). 2 * n) (pages_long op.client.tracker old new same own.block_len op.parts.page_blocks) in omega (arith, low, long));
            at_end = holds.at_end;
            whole = holds.whole;
          };
      slots = of_parts op.client op.shape op.parts op.table old before is.has (λ n owns. slots_same op.client.tracker old new same own.block_len n op.parts before after owns);
    }
