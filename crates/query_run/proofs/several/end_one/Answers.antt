use Rattle.store_api.proofs.Growing.{grows_trans}
use Rattle.query_run.proofs.Stores.{given_back}
use Rattle.query_run.proofs.several.end_one.Goals as goal

pub returns-clause-back : goal.returns-clause-back
returns-clause-back g c = λ plan old before works.
    given_back plan c.args.op c.end-c.result old _ _ _ before _ _ _ works c.end-c.ensures.client c.end-c.ensures.leaves c.end-c.ensures.slots c.end_client.ensures.value c.end_client.ensures.grows

pub returns-clause-grows : goal.returns-clause-grows
returns-clause-grows g c = grows_trans _ _ _ c.end-c.ensures.leaves.grows c.end_client.ensures.grows
