use Rattle.std.proofs.Common.{None}
use Rattle.slab.specs.Slab.{get}
use Rattle.store_api.proofs.Standing.{loans_same, no_loan_in}
use Rattle.store_api.proofs.mem_store.pieces.end_page.Goals as goal

pub returns-clause-loans : goal.returns-clause-loans
returns-clause-loans c =
    let old = c.args.pieces.now in
    loans_same old c.go.new.pieces c.args.key None c.go.ensures.changed (no_loan_in (get old c.args.key) c.requires)
