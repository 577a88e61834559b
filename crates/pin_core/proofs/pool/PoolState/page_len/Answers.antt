use Rattle.pin_core.proofs.Readings.{page_lives, page_there, len_told}
use Rattle.pin_core.proofs.pool.PoolState.page_len.Goals as goal

pub page_blocks-blocks-requires-clause-live : goal.page_blocks-blocks-requires-clause-live
page_blocks-blocks-requires-clause-live g c =
    page_lives c.self.inside.parts c.args.self.now c.self.view_is c.laws.ensures c.args.p.now c.requires c.id_of.result c.id_of.ensures

pub page_blocks-blocks-requires-clause-there : goal.page_blocks-blocks-requires-clause-there
page_blocks-blocks-requires-clause-there g c =
    page_there c.self.inside.parts c.args.self.now c.self.view_is c.laws.ensures c.args.p.now c.requires c.id_of.result c.id_of.ensures

pub returns : goal.returns
returns g c =
    len_told c.self.inside.parts c.args.self.now c.self.view_is c.laws.ensures c.args.p.now c.requires c.id_of.result c.id_of.ensures c.self.invariant
    c.page_blocks-blocks.result c.bytes.result c.page_blocks-blocks.ensures c.bytes.ensures
