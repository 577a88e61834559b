-- What holds rows stays what it is while other rows are held.
use Rattle.std.proofs.Common.{◌≡◌, ◌∙◌, ℕ, ◌*◌, Bool, true, false, Option, Some, None, refl, ap, sym, subst, arith}
use Rattle.store_api.specs.declared.shapes.JoinShape.{JoinShape}
use Rattle.store_api.specs.Tokens.{ClientToken}
use Rattle.store_api.specs.Holdings.{Holdings}
use Rattle.bucket_table.specs.Tables.{Table, with_nodes}
use Rattle.tuple_stream.specs.Streamed.{Streamed}
use Rattle.partition_stack.proofs.Sides.{disjoint_back}
use Rattle.join_op.specs.declared.feeding.Spare.{Spare}
use Rattle.join_op.specs.declared.holding.Held.{Held}
use Rattle.join_op.specs.Chunks.{AreReadable, IsKept}
use Rattle.join_op.specs.Holding.{HasSpace, IsSameHeld, IsSameTable, MayHold, held_side, read_side}
use Rattle.join_op.specs.Stored.{Side, left_side, right_side}
use Rattle.join_op.proofs.ChunkRounds.{held_straight, held_turned, read_straight, read_turned}

table_itself : (table : Option Table) → IsSameTable table table
table_itself None = refl
table_itself (Some table) = refl

table_then : (a b c : Option Table) → IsSameTable a b → IsSameTable b c → IsSameTable a c
table_then None b c one two = subst (λ (o : Option Table). IsSameTable o c) one two
table_then (Some a) None c one two = absurd one
table_then (Some a) (Some b) None one two = absurd two
table_then (Some a) (Some b) (Some c) one two = two ∙ ap (with_nodes c.nodes) one

pub held_itself : (h : Held) → IsSameHeld h h
held_itself h = record { table = table_itself h.table; most = refl; longest = refl }

pub held_then : (a b c : Held) → IsSameHeld a b → IsSameHeld b c → IsSameHeld a c
held_then a b c one two = record { table = table_then a.table b.table c.table one.table two.table; most = two.most ∙ one.most; longest = two.longest ∙ one.longest }

space_still : (a b : Option Table) (most longest most1 longest1 : ℕ) → IsSameTable a b → most1 ≡ most → longest1 ≡ longest → HasSpace a most longest → HasSpace b most1 longest1
space_still None b most longest most1 longest1 same is there has = subst (λ (o : Option Table). HasSpace o most1 longest1) (sym same) (omega (arith, is, has))
space_still (Some a) None most longest most1 longest1 same is there has = absurd same
space_still (Some a) (Some b) most longest most1 longest1 same is there has = let room : b.room ≡ a.room = ap (λ (t : Table). t.room) same in omega (arith, has, room, there)

pub may_still : (a b : Held) → IsSameHeld a b → MayHold a → MayHold b
may_still a b same may = space_still a.table b.table a.most a.longest b.most b.longest same.table same.most same.longest may

-- ---- a join is turned, or not

pub kept_left : (b : Bool) (shape : JoinShape) (e : Spare) → b ≡ false → IsKept (read_side b shape) e → IsKept (left_side shape) e
kept_left b shape e is kept = subst (λ (side : Side). IsKept side e) (read_straight b shape is) kept

pub kept_right : (b : Bool) (shape : JoinShape) (e : Spare) → b ≡ false → IsKept (held_side b shape) e → IsKept (right_side shape) e
kept_right b shape e is kept = subst (λ (side : Side). IsKept side e) (held_straight b shape is) kept

pub kept_left_turned : (b : Bool) (shape : JoinShape) (e : Spare) → b ≡ true → IsKept (held_side b shape) e → IsKept (left_side shape) e
kept_left_turned b shape e is kept = subst (λ (side : Side). IsKept side e) (held_turned b shape is) kept

pub kept_right_turned : (b : Bool) (shape : JoinShape) (e : Spare) → b ≡ true → IsKept (read_side b shape) e → IsKept (right_side shape) e
kept_right_turned b shape e is kept = subst (λ (side : Side). IsKept side e) (read_turned b shape is) kept

pub readable_turned : (c : ClientToken) (l r : Streamed) (h : Holdings) → AreReadable c l r h → AreReadable c r l h
readable_turned c l r h is =
    record {
      client = is.client;
      left_shape = is.right_shape;
      right_shape = is.left_shape;
      apart = disjoint_back l r is.apart;
      alike = sym is.alike;
      room = let room = is.room in let same : r.page_blocks ≡ l.page_blocks = is.alike in omega (arith, room, ap (λ (n : ℕ). 2 * (n * h.block_len)) same);
    }
