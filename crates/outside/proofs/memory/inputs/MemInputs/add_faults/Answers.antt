use Rattle.std.proofs.Common.{refl, rules}
use Rattle.outside.specs.Entries.{with_faults}
use Rattle.outside.specs.Files.{file_at}
use Rattle.outside.proofs.FaultsByName.{none_fell}
use Rattle.outside.proofs.memory.inputs.MemInputs.add_faults.Goals as goal

pub returns-else-not-add_faults-clause-never_falls : goal.returns-else-not-add_faults-clause-never_falls
returns-else-not-add_faults-clause-never_falls c =
    none_fell _ (λ file. file.faults) (with_faults c.args.more) (file_at c.args.self.now) _ c.args.name.now _ refl (search rules) c.add_faults.ensures.some c.add_faults.ensures.rises
