use Rattle.session_calls.proofs.Carried.{adds_client_on}
use Rattle.local_pool.proofs.Stepping.{came_or_same, turn_viewed}
use Rattle.local_pool.proofs.owned.Alone.add_client.Goals as goal

pub invariant_of-self : goal.invariant_of-self
invariant_of-self g c = came_or_same g.D.Slot c.self.inside.shelf c.self.inside.hand c.args.self.now c.self.view_is c.self.invariant c.add_client.new.self c.add_client.ensures.ready _ c.add_client.result c.add_client.ensures.adds.ok c.add_client.ensures.adds.err

pub returns : goal.returns
returns g c = adds_client_on (turn_viewed g.D.Slot c.self.inside.shelf c.self.inside.hand c.args.self.now c.self.view_is c.self.invariant c.add_client.new.self c.add_client.ensures.ready) c.args.limit c.add_client.result c.add_client.ensures.adds
