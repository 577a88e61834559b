use Rattle.std.proofs.Common.{rules}
use Rattle.store_api.specs.declared.mem_store.piece.Piece.{Piece}
use Rattle.store_api.proofs.Pieces.{changed_from}
use Rattle.store_api.proofs.mem_store.pieces.stand.Goals as goal

pub returns-clause-changed : goal.returns-clause-changed
returns-clause-changed c =
    let found = c.index_mut.result.now in
    let made = changed_from c.args.pieces.now c.args.key found (λ (p : Piece). record p { stand = c.args.stand }) c.requires c.index_mut.ensures.value in
    search (rules, made)
