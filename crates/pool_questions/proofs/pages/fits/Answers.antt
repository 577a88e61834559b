use Rattle.pool_questions.proofs.Checked.{fits_told}
use Rattle.pool_questions.proofs.pages.fits.Goals as goal

pub returns-then-block-from : goal.returns-then-block-from
returns-then-block-from g c = λ is. fits_told c.parts-parts.result.now c.args.pool.now c.parts-parts.ensures.parts c.parts-parts.ensures.kept c.args.blocks c.args.buf.now c.len-then-block-from.result _ c.from.result c.length.result
    c.len-then-block-from.ensures.value c.len-then-block-from.ensures.whole c.block.ensures.len c.from.ensures c.if-block-from.true c.length.ensures is
