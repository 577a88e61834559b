use Rattle.std.proofs.Common.{◌≤◌, ◌<◌, ◌+◌, ◌%◌, ℕ, List, ◌∷◌, length, ap, sym, ◌∙◌, subst, arith}
use Rattle.std.proofs.Math.Nat.{mod-lt}
use Rattle.std.proofs.lemmas.Bool.{false≢true}
use Rattle.block_arena.specs.Bytes.{written}
use Rattle.bucket_table.specs.Tables.{HasNode, new_node, used_by}
use Rattle.bucket_table.specs.Regions.{Region, with_bytes}
use Rattle.bucket_table.specs.Threads.{IsTable, nodes_in}
use Rattle.bucket_table.proofs.Counted.{few_nodes}
use Rattle.bucket_table.proofs.Inserted.{inserted}
use Rattle.bucket_table.proofs.LookedUp.{has_here}
use Rattle.bucket_table.proofs.Views.{nodes_now, laid_now, view_now}
use Rattle.bucket_table.proofs.table.BucketTable.insert.Goals as goal

is_room : (heads used bytes : ℕ) (links area : List ℕ) → IsTable heads used links area → used_by (nodes_in heads links area) + 4 + bytes ≤ length area → used + 4 + bytes ≤ length area
is_room heads used bytes links area is room = omega (arith, is.used_is, room)

pub overflow_add-self-3 : goal.overflow_add-self-3
overflow_add-self-3 c =
    let t = c.self.inside in
    let is = c.self.invariant.laid.table in
    let few = few_nodes t.chains.len t.nodes.bytes (nodes_in t.chains.len t.heads.bytes t.nodes.bytes) is.threaded.stand in
    let room = is_room t.chains.len t.used (length c.args.row.now) t.heads.bytes t.nodes.bytes is (rw (← c.self.view_is) at (c.has_room.ensures.0 c.if-not-has_room.false)) in
    omega (arith, few, c.self.invariant.counted, is.used_is, room, is.short)

pub invariant_of-self : goal.invariant_of-self
invariant_of-self c =
    let t = c.self.inside in
    let k = c.args.hash % t.chains.len in
    let row = c.args.row.now in
    let below : k < t.chains.len = mod-lt c.args.hash t.chains.some in
    let room = is_room t.chains.len t.used (length row) t.heads.bytes t.nodes.bytes c.self.invariant.laid.table (rw (← c.self.view_is) at (c.has_room.ensures.0 c.if-not-has_room.false)) in
    let ins = inserted t.chains.len t.used k t.heads.bytes t.nodes.bytes row c.self.invariant.laid.table below c.requires room in
    let one = c.thread.ensures.head in
    let two = c.write.ensures ∙ ap (λ (r : Region). with_bytes (written (t.used + 4) row r.bytes) r) c.thread.ensures.link in
    record {
      laid = laid_now t.chains.len t.heads t.nodes c.thread.new.heads c.write.new.self _ _ one two t.used (t.used + 4 + length row) c.self.invariant.laid ins.0;
      counted =
          let same = ap length (nodes_now t.chains.len t.heads t.nodes c.thread.new.heads c.write.new.self _ _ one two _ ins.1) in
          omega (arith, same, c.self.invariant.counted);
    }

pub returns : goal.returns
returns c =
    let t = c.self.inside in
    let k = c.args.hash % t.chains.len in
    let row = c.args.row.now in
    let below : k < t.chains.len = mod-lt c.args.hash t.chains.some in
    let room = is_room t.chains.len t.used (length row) t.heads.bytes t.nodes.bytes c.self.invariant.laid.table (rw (← c.self.view_is) at (c.has_room.ensures.0 c.if-not-has_room.false)) in
    let ins = inserted t.chains.len t.used k t.heads.bytes t.nodes.bytes row c.self.invariant.laid.table below c.requires room in
    let one = c.thread.ensures.head in
    let two = c.write.ensures ∙ ap (λ (r : Region). with_bytes (written (t.used + 4) row r.bytes) r) c.thread.ensures.link in
    let nodes = nodes_in t.chains.len t.heads.bytes t.nodes.bytes in
    let here : HasNode t.used (new_node k row nodes ∷ nodes) = subst (λ (p : ℕ). HasNode p (new_node k row nodes ∷ nodes)) (sym c.self.invariant.laid.table.used_is) (has_here (new_node k row nodes) nodes) in
    rw (← c.self.view_is) (record {
      ok = view_now t.chains.len t.heads t.nodes c.thread.new.heads c.write.new.self _ _ _ one two ins.2 ins.1;
      place = c.self.invariant.laid.table.used_is;
      node = subst (HasNode t.used) (sym (nodes_now t.chains.len t.heads t.nodes c.thread.new.heads c.write.new.self _ _ one two _ ins.1)) here;
      refused = ((λ wrong. absurd (false≢true wrong)), (λ past. absurd (omega (arith, past, room, c.self.invariant.laid.table.used_is))));
      err = tt;
    })
