use Rattle.std.proofs.Common.{◌++◌}
use Rattle.pin_core.specs.Marking.{front_of}
use Rattle.block_arena.specs.Memory.{block_of}
use Rattle.pin_core.proofs.Counting.{stores_counted, stores_failed}
use Rattle.pin_core.proofs.Rowed.{stored_tells}
use Rattle.pin_core.proofs.Strayed.{stores_strayed}
use Rattle.pin_core.proofs.jobs.WriteJob.run.Goals as goal

pub returns-clause-tells : goal.returns-clause-tells
returns-clause-tells g c = stored_tells g.D.Slot (λ i. front_of c.args.self.now.under c.args.self.now.id.name i ++ block_of c.args.self.now.buf i) c.store_blocks.result c.args.self.now.row c.store_blocks.new.row c.store_blocks.ensures.slots c.store_blocks.ensures.len

pub returns-clause-stores : goal.returns-clause-stores
returns-clause-stores g c =
    rw c.is_err-self.ensures.value (stores_counted g.D.Slot (λ i. front_of c.args.self.now.under c.args.self.now.id.name i ++ block_of c.args.self.now.buf i) c.args.self.now.row c.store_blocks.new.row c.store_blocks.ensures.len c.store_blocks.result c.store_blocks.ensures.slots)

pub returns-clause-faults : goal.returns-clause-faults
returns-clause-faults g c =
    rw c.is_err-self.ensures.value (stores_failed g.D.Slot (λ i. front_of c.args.self.now.under c.args.self.now.id.name i ++ block_of c.args.self.now.buf i) c.args.self.now.row c.store_blocks.new.row c.store_blocks.ensures.len c.store_blocks.result c.store_blocks.ensures.slots)

pub returns-clause-strayed : goal.returns-clause-strayed
returns-clause-strayed g c = stores_strayed g.D.Slot (λ i. front_of c.args.self.now.under c.args.self.now.id.name i ++ block_of c.args.self.now.buf i) c.store_blocks.result c.args.self.now.row c.store_blocks.new.row c.store_blocks.ensures.slots c.store_blocks.ensures.len
