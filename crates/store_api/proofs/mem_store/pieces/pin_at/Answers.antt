use Rattle.std.proofs.Common.{Some}
use Rattle.slab.specs.Slab.{get}
use Rattle.store_api.specs.declared.mem_store.piece.Stand.TheVariants.{Pinned}
use Rattle.store_api.specs.MemPieces.{piece_at}
use Rattle.store_api.proofs.Standing.{pages_put, loans_same, pinned_slot, no_loan_in}
use Rattle.store_api.proofs.mem_store.pieces.pin_at.Goals as goal

pub returns-clause-pages : goal.returns-clause-pages
returns-clause-pages c =
    let old = c.args.pieces.now in
    pages_put old c.stand.new.pieces c.args.key (Some (record (piece_at c.args.key old) { stand = Pinned 1 })) c.stand.ensures.changed _ (pinned_slot (get old c.args.key) c.requires.page c.requires.counted c.requires.rests)

pub returns-clause-loans : goal.returns-clause-loans
returns-clause-loans c =
    let old = c.args.pieces.now in
    loans_same old c.stand.new.pieces c.args.key (Some (record (piece_at c.args.key old) { stand = Pinned 1 })) c.stand.ensures.changed (no_loan_in (get old c.args.key) c.requires.page)
