use Rattle.store_api.proofs.Slots.{slots_come_back, lacks_as_in_pool}
use Rattle.store_api.proofs.laws.law_slots.Goals as goal

pub returns-clause-back : goal.returns-clause-back
returns-clause-back c = slots_come_back

pub returns-clause-lacks : goal.returns-clause-lacks
returns-clause-lacks c = lacks_as_in_pool
