use Rattle.std.proofs.Common.{rules}
use Rattle.store_api.proofs.Reserving.{kept_shifted}
use Rattle.store_api.proofs.mem_store.calls.MemStoreStore.move_reservation.Goals as goal

pub invariant_of-self : goal.invariant_of-self
invariant_of-self c =
    let s = c.args.self.now in
    record {
      block = s.block;
      kept = kept_shifted s.block_len s.accounts c.shift.new.self s.pieces s.kept c.shift.result c.tracker.result c.tracker-2.result c.args.bytes (search rules) c.shift.ensures.clients c.shift.ensures.err (search rules);
    }
