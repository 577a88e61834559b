-- Steps that serve a grouping, one after the other, and the division of its top partition.
use Rattle.std.proofs.Common.{◌≡◌, ◌∙◌, ℕ, ◌+◌, ◌-◌, ◌<◌, true, false, List, length, replicate, option_map, Result, Ok, Err, OnErr, OnOk, refl, ap, sym, subst, inl, inr, arith, length-append}
use Rattle.std.proofs.lemmas.List.{length-replicate}
use Rattle.std.specs.Result.{is_err}
use Rattle.std.proofs.lemmas.Bool.{false≢true}
use Rattle.pool_model.specs.declared.event.Event.{Event}
use Rattle.store_api.specs.Holdings.{Holdings, length_of}
use Rattle.store_api.specs.Signs.{Signs}
use Rattle.store_api.specs.declared.shapes.Shape.{Shape}
use Rattle.bucket_table.specs.Tables.{Table}
use Rattle.tuple_stream.specs.Families.{FamilySteps}
use Rattle.tuple_stream.specs.Streamed.{Streamed}
use Rattle.partition_stack.specs.Stack.{IsPlaced, IsStack, RestBelow, Stack, divided, empty, over}
use Rattle.partition_stack.proofs.Coming.{sixteen_come}
use Rattle.partition_stack.proofs.ListPlaces.{front_or_behind, of_replicate}
use Rattle.partition_stack.specs.Slots.{SameSlots}
use Rattle.partition_stack.proofs.Slots.{more_taken, slots_then}
use Rattle.group_op.specs.Finishing.{Serves}
use Rattle.group_op.specs.Held.{AreEntries, IsHeld, State, lent, page_len, state, streams_of}
use Rattle.group_op.specs.Putting.{IsFan, Works}
use Rattle.group_op.proofs.Chained.{leaves_then}
use Rattle.group_op.proofs.Entering.{works_none}
use Rattle.group_op.proofs.Keeping.{held_touched, leaves_touched, same_len}

pub serves_of : (t : ℕ) (shape : Shape) (a b : State) → Works t shape a b → Serves t shape a b
serves_of t shape a b works = record { held = works.held; entries = works.entries; leaves = works.leaves; blocks = works.blocks; slots = works.slots }

pub serves_then : (t : ℕ) (shape : Shape) (a b c : State) → Serves t shape a b → Serves t shape b c → Serves t shape a c
serves_then t shape a b c first second =
    record {
      held = second.held;
      entries = second.entries;
      leaves = leaves_then t a b c first.leaves second.leaves;
      blocks = second.blocks ∙ first.blocks;
      slots = slots_then a.parts.page_blocks b.parts.page_blocks (streams_of a) (streams_of b) (streams_of c) first.blocks first.slots second.slots;
    }

-- the streams were called
pub serves_touched : {laid : List Event → Type 0} (t : ℕ) (shape : Shape) (table : Table) (p q : Stack) (old new : Holdings) (before after : Signs) → IsHeld t (state table p old before) → AreEntries shape (length_of p.page_blocks old) table → FamilySteps laid t (over p old before) (over q new after) → q.page_blocks ≡ p.page_blocks → Serves t shape (state table p old before) (state table q new after)
serves_touched t shape table p q old new before after held entries steps blocks =
    record {
      held = held_touched t table p q old new before after held steps.touches steps.shaped blocks;
      entries = subst (λ (n : ℕ). AreEntries shape n table) (sym (same_len t table p q old new before after held steps.touches steps.shaped blocks)) entries;
      leaves = leaves_touched t table p q old new before after held steps.touches steps.shaped blocks steps.grows;
      blocks = blocks;
      slots = record { sum = steps.touches.slots; sized = λ all. steps.sized p.page_blocks all };
    }

-- ---- sixteen partitions come on top

module _ (t : ℕ) (shape : Shape) (at level : ℕ) (table : Table) (p : Stack) (h : Holdings) (signs : Signs) (stack : IsStack p) where
  pub held_divided : IsHeld t (state table p h signs) → IsHeld t (state table (divided at level p) h signs)
  held_divided held =
      record {
        owns = (sixteen_come t (lent (state table p h signs)) at level p h signs stack).owns held.owns;
        table = held.table;
        client = held.client;
        blocks = held.blocks;
        loans = held.loans;
        room = held.room;
      }

  slots_divided : SameSlots p.page_blocks (over p h signs) (over (divided at level p) h signs)
  slots_divided =
      record {
        sum = ap (λ (m : ℕ). option_map (λ (n : ℕ). n + m) h.free_slots) (more_taken p.streams p.page_blocks 16 h);
        sized = λ all i s there. elim (front_or_behind p.streams (replicate 16 (empty p.page_blocks)) i s there) [
          | inl front ↦ all i s front
          | inr behind ↦ ap (λ (r : Streamed). r.page_blocks) (of_replicate 16 (empty p.page_blocks) (i - length p.streams) s behind.1)
        ];
      }

  pub serves_divided : (held : IsHeld t (state table p h signs)) → AreEntries shape (page_len (state table p h signs)) table → Serves t shape (state table p h signs) (state table (divided at level p) h signs)
  serves_divided held entries =
      let none = works_none t shape table p h signs held entries in
      record {
        held = held_divided held;
        entries = entries;
        leaves = record { others = none.leaves.others; grows = none.leaves.grows; reserved = none.leaves.reserved; room = none.leaves.room };
        blocks = refl;
        slots = slots_divided;
      }

  pub fan_divided : length p.streams ≡ at + 1 → level < 16 → IsPlaced at level → RestBelow at p → IsFan level (at + 1) at (divided at level p)
  fan_divided top deep placed rests =
      record {
        level_is = deep;
        sixteen = let both = length-append p.streams (replicate 16 (empty p.page_blocks)) in let more = length-replicate 16 (empty p.page_blocks) in omega (arith, both, more, top);
        above = omega arith;
        near = omega arith;
        low = let low = placed.low in omega (arith, low, deep);
        rests = λ i s there below. elim (front_or_behind p.streams (replicate 16 (empty p.page_blocks)) i s there) [
          | inl front ↦ rests i s front below
          | inr behind ↦ absurd (let far = behind.0 in omega (arith, far, below, top))
        ];
      }

pub unless_err : {P : Type 0} {X E : Type 0} (result : Result X E) → is_err result ≡ false → OnOk result P → P
unless_err (Ok x) well p = p
unless_err (Err e) well p = absurd (false≢true (sym well))

pub where_err : {P : Type 0} {X E : Type 0} (result : Result X E) → is_err result ≡ true → OnErr result P → P
where_err (Ok x) ill p = absurd (false≢true ill)
where_err (Err e) ill p = p
