use Rattle.store_api.proofs.Chained.{row_front}
use Rattle.store_api.proofs.handing.hand.Goals as goal

pub returns : goal.returns
returns g c =
    let did = c.row.ensures in
    record {
      ok = did.ok;
      err = row_front g.St.Store g.E.Emit c.args.row.now c.args.emit.now c.row.new.self c.args.store.now c.row.new.store c.row.result did.err;
      cause = did.cause;
      stands = record { same = did.same; client = did.client_lives; others = did.others; room = did.room; slots = did.slots; never_falls = did.never_falls; grows = did.grows };
    }
