use Rattle.std.proofs.Common.{Some}
use Rattle.slab.specs.Slab.{get}
use Rattle.store_api.specs.declared.mem_store.piece.Piece.{Piece}
use Rattle.store_api.specs.MemPieces.{piece_at}
use Rattle.store_api.proofs.Pieces.{changed_from}
use Rattle.store_api.proofs.Standing.{pages_same, loans_put}
use Rattle.store_api.proofs.LoanTurns.{handed_slot, handed_page, loan_has_slot as there}
use Rattle.store_api.proofs.mem_store.pieces.hand_over.Goals as goal

pub returns-clause-changed : goal.returns-clause-changed
returns-clause-changed c = changed_from c.args.pieces.now c.args.key c.index_mut.result.now (λ (p : Piece). record p { client = c.args.client }) (there c.args.pieces.now c.args.key c.requires) c.index_mut.ensures.value

pub returns-clause-pages : goal.returns-clause-pages
returns-clause-pages c =
    let old = c.args.pieces.now in
    pages_same old _ c.args.key (Some (record (piece_at c.args.key old) { client = c.args.client })) (changed_from old c.args.key c.index_mut.result.now (λ (p : Piece). record p { client = c.args.client }) (there old c.args.key c.requires) c.index_mut.ensures.value) (handed_page (get old c.args.key) c.args.client c.requires)

pub returns-clause-loans : goal.returns-clause-loans
returns-clause-loans c =
    let old = c.args.pieces.now in
    loans_put old _ c.args.key (Some (record (piece_at c.args.key old) { client = c.args.client })) (changed_from old c.args.key c.index_mut.result.now (λ (p : Piece). record p { client = c.args.client }) (there old c.args.key c.requires) c.index_mut.ensures.value) _ (handed_slot (get old c.args.key) c.args.client c.requires)
