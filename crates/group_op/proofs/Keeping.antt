-- What a grouping has stays its own while its streams are called.
use Rattle.std.proofs.Common.{◌≡◌, ◌∙◌, ℕ, ◌+◌, ◌-◌, ◌*◌, ◌≤◌, Bool, true, false, List, [], length, Option, IsSome, ap, sym, subst, arith}
use Rattle.std.proofs.Math.Nat.{mul-le-mul_right}
use Rattle.std.proofs.lemmas.List.Elements.{All-nil}
use Rattle.store_api.specs.Holdings.{Account, Holdings, LiveLoan, account_of, length_of, unused_of}
use Rattle.store_api.specs.Signs.{Grows, Signs}
use Rattle.store_api.specs.declared.shapes.Shape.{Shape}
use Rattle.tuple_stream.specs.Families.{AreShaped, FamilySteps, LaysAll, TouchesAll, held_in}
use Rattle.tuple_stream.proofs.Frames.{still_some}
use Rattle.bucket_table.specs.Tables.{Node, Table, with_nodes}
use Rattle.bucket_table.proofs.Beside.{beside_pages}
use Rattle.partition_stack.specs.Stack.{HasRoomFrom, Stack, over}
pub use Rattle.partition_stack.proofs.Left.{others_stay, same_reservation}
use Rattle.partition_stack.proofs.Owned.{owned_stay}
use Rattle.group_op.specs.Held.{AreEntries, IsHeld, Leaves, State, lent, state}
use Rattle.group_op.specs.Finishing.{IsRead}
use Rattle.group_op.specs.Putting.{HasFew, IsFan, Works}
use Rattle.group_op.proofs.Paging.{made_laid}

module _ (t : ℕ) (table : Table) (p q : Stack) (old new : Holdings) (before after : Signs) (held : IsHeld t (state table p old before)) (touches : TouchesAll t (over p old before) (over q new after)) (is : AreShaped t (over q new after)) (blocks : q.page_blocks ≡ p.page_blocks) where
  pub same_len : length_of q.page_blocks new ≡ length_of p.page_blocks old
  same_len = ap (λ (n : ℕ). n * new.block_len) blocks ∙ ap (λ (n : ℕ). p.page_blocks * n) touches.block_len

  client_lives : IsSome (new.clients t)
  client_lives = subst (λ (o : Option Account). IsSome o) (sym (touches.account held.owns.lives)) (still_some (old.clients t) (unused_of t new) held.owns.lives)

  pub held_touched : IsHeld t (state table q new after)
  held_touched =
      record {
        owns = owned_stay t (lent (state table p old before)) (over p old before) (over q new after) held.owns touches is;
        table = beside_pages table old new touches.block_len touches.loans (subst (λ (k : ℕ). IsSome (new.clients k)) (sym held.client) client_lives) held.table;
        client = held.client;
        blocks = held.blocks ∙ sym blocks;
        loans = λ k loan lives apart. held.loans k loan (sym (ap (λ (loans : ℕ → Option LiveLoan). loans k) touches.loans) ∙ lives) apart;
        room =
            let same = same_reservation t (over p old before) (over q new after) held.owns.shaped is touches held.owns.lives in
            let room = held.room in
            omega (arith, same, room, ap (λ (n : ℕ). 17 * n) same_len);
      }

  pub leaves_touched : Grows before after → Leaves t (state table p old before) (state table q new after)
  leaves_touched grows =
      record {
        others = others_stay t (over p old before) (over q new after) held.owns.shaped is touches;
        grows = grows;
        reserved = let same = same_reservation t (over p old before) (over q new after) held.owns.shaped is touches held.owns.lives in omega (arith, same);
        room =
            let same = same_reservation t (over p old before) (over q new after) held.owns.shaped is touches held.owns.lives in
            let room = touches.room in
            omega (arith, same, room);
      }

pub works_touched : {K R : Type 0} (t : ℕ) (shape : Shape) (table : Table) (p q : Stack) (old new : Holdings) (before after : Signs) → IsHeld t (state table p old before) → AreEntries shape (length_of p.page_blocks old) table → FamilySteps (LaysAll K R (over p old before) (over q new after)) t (over p old before) (over q new after) → q.page_blocks ≡ p.page_blocks → q.levels ≡ p.levels
    → HasFew (state table p old before) (state table q new after) → Works t shape (state table p old before) (state table q new after)
works_touched t shape table p q old new before after held entries steps blocks levels few =
    record {
      held = held_touched t table p q old new before after held steps.touches steps.shaped blocks;
      entries = subst (λ (n : ℕ). AreEntries shape n table) (sym (same_len t table p q old new before after held steps.touches steps.shaped blocks)) entries;
      leaves = leaves_touched t table p q old new before after held steps.touches steps.shaped blocks steps.grows;
      blocks = blocks;
      levels = levels;
      many = steps.long;
      slots = record { sum = steps.touches.slots; sized = λ all. steps.sized p.page_blocks all };
      made = made_laid t (over p old before) (over q new after) steps;
      few = few;
    }

-- ---- other nodes in a table

pub nodes_held : (t : ℕ) (nodes : List Node) (table : Table) (p : Stack) (h : Holdings) (signs : Signs) → IsHeld t (state table p h signs) → IsHeld t (state (with_nodes nodes table) p h signs)
nodes_held t nodes table p h signs held =
    record {
      owns = held.owns;
      table = record { held = held.table.held; sized = held.table.sized; block_len = held.table.block_len };
      client = held.client;
      blocks = held.blocks;
      loans = held.loans;
      room = held.room;
    }

pub works_nodes : (t : ℕ) (shape : Shape) (a : State) (nodes : List Node) (table : Table) (q : Stack) (new : Holdings) (after : Signs) → Works t shape a (state table q new after) → AreEntries shape (length_of q.page_blocks new) (with_nodes nodes table) → Works t shape a (state (with_nodes nodes table) q new after)
works_nodes t shape a nodes table q new after works entries =
    record {
      held = nodes_held t nodes table q new after works.held;
      entries = entries;
      leaves = record { others = works.leaves.others; grows = works.leaves.grows; reserved = works.leaves.reserved; room = works.leaves.room };
      blocks = works.blocks;
      levels = works.levels;
      many = works.many;
      slots = record { sum = works.slots.sum; sized = works.slots.sized };
      made = works.made;
      few = works.few;
    }

pub emptied_entries : (shape : Shape) (len : ℕ) (table : Table) → AreEntries shape len table → AreEntries shape len (with_nodes [] table)
emptied_entries shape len table entries = record { each = All-nil _; behind = tt; roomy = entries.roomy }

pub room_in : (many from len unused in_held lent reservation : ℕ) → many ≤ from + 17 → 17 * len + lent ≤ reservation → unused + in_held + lent ≡ reservation → (many - from) * len ≤ unused + in_held
room_in many from len unused in_held lent reservation few room even =
    let most : (many - from) * len ≤ 17 * len = mul-le-mul_right len (let small : many - from ≤ 17 = omega (arith, few) in small) in
    omega (arith, most, room, even)

-- partitions on top have room
pub room_of_fan : (t level base from : ℕ) (table : Table) (p : Stack) (h : Holdings) (signs : Signs) → IsHeld t (state table p h signs) → IsFan level base from p → HasRoomFrom t from p h signs
room_of_fan t level base from table p h signs held fan =
    record {
      rests = fan.rests;
      room =
          let many = fan.sixteen in
          let near = fan.near in
          room_in (length p.streams) from (length_of p.page_blocks h) (unused_of t h) (held_in (over p h signs)) (lent (state table p h signs)) (account_of t h).reservation (omega (arith, many, near)) held.room held.owns.even;
    }

-- and so has the top one, divided or not
pub room_of_read : (t at level : ℕ) (d : Bool) (table : Table) (was p : Stack) (h : Holdings) (signs : Signs) → IsHeld t (state table p h signs) → IsRead d at level was p → HasRoomFrom t at p h signs
room_of_read t at level true table was p h signs held place = room_of_fan t level (at + 1) at table p h signs held place.0
room_of_read t at level false table was p h signs held place =
    record {
      rests = place.2;
      room =
          let many = place.0 in
          room_in (length p.streams) at (length_of p.page_blocks h) (unused_of t h) (held_in (over p h signs)) (lent (state table p h signs)) (account_of t h).reservation (omega (arith, many)) held.room held.owns.even;
    }
