use Rattle.std.proofs.Common.{None}
use Rattle.slab.specs.Slab.{get}
use Rattle.store_api.proofs.Standing.{pages_same, no_page_in}
use Rattle.store_api.proofs.mem_store.pieces.end_loan.Goals as goal

pub returns-clause-pages : goal.returns-clause-pages
returns-clause-pages c =
    let old = c.args.pieces.now in
    pages_same old c.go.new.pieces c.args.key None c.go.ensures.changed (no_page_in (get old c.args.key) c.requires)
