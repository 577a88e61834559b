use Rattle.std.proofs.Common.{◌≡◌, ◌∙◌, [], ◌∷◌, refl}
use Rattle.partition_stack.proofs.Results.{if_err, on_err, on_ok}
use Rattle.store_api.specs.Handing.{slots_beside}
use Rattle.join_op.proofs.Crowding.{theirs_some, theirs_want}
use Rattle.join_op.specs.Chunks.{pair_at}
use Rattle.join_op.specs.PairCalls.{took_by}
use Rattle.join_op.proofs.ChunkPairs.{emitted_one, some_one}
use Rattle.join_op.proofs.Handed.{emitted_none}
use Rattle.join_op.proofs.PairSteps.{pairs_memory, stands_none}
use Rattle.join_op.proofs.pairing.emit_pair.Goals as goal

pub returns-in_default : goal.returns-in_default
returns-in_default g c =
    let e = c.args.emit.now in
    let s = c.args.store.now in
    let pairs = pair_at c.args.shape.now c.args.left.now c.args.right.now ∷ [] in
    pairs_memory g.St.Store g.E.Emit e e s s [] (emitted_none (took_by g.St.Store g.E.Emit e s)) (stands_none g.St.Store g.E.Emit e s c.requires.may.client) pairs pairs (λ count. refl)

pub returns : goal.returns
returns g c =
    let is : c.deref.result.now ≡ pair_at c.args.shape.now c.args.left.now c.args.right.now = c.deref.ensures.value ∙ c.in-Ok.ensures.ok in
    let row = c.row.ensures in
    record {
      ok = on_ok c.row.result (emitted_one _ _ _ _ is) row.ok;
      err = on_err c.row.result (some_one _ _ _ _ is) row.err;
      cause = row.cause;
      want = if_err c.row.result (λ e wants. theirs_want _ _ _ e wants) (row.want c.requires.may.taken c.requires.may.took);
      crowded = theirs_some (took_by g.St.Store g.E.Emit c.args.emit.now c.args.store.now) (g.E.Emit.slots_for c.args.emit.now) g.E.Emit.page_blocks (slots_beside g.St.Store g.E.Emit c.row.new.self c.row.new.store)
          c.deref.result.now (pair_at c.args.shape.now c.args.left.now c.args.right.now) is c.row.result row.want;
      stands = record { same = row.same; client = row.client_lives; others = row.others; room = row.room; slots = row.slots; never_falls = row.never_falls; grows = row.grows };
    }
