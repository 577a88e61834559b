use Rattle.std.proofs.Common.{ap, sym, ◌∙◌}
use Rattle.block_arena.specs.Memory.{Buffer}
use Rattle.pool_questions.proofs.CheckedIdle.{loan_told}
use Rattle.pool_questions.proofs.loans.lends.Goals as goal

pub returns-then-lent-number-clause-lives : goal.returns-then-lent-number-clause-lives
returns-then-lent-number-clause-lives g c = λ is. loan_told c.parts-parts.result.now c.args.pool.now c.parts-parts.ensures.parts c.args.loan.now c.number.result c.in-Some.lent c.number.ensures (sym c.get.ensures ∙ c.in-Some.is)
    (c.if-lent-number.true ∙ c.number-2.ensures ∙ c.client.ensures) (sym (c.fits.ensures is).blocks ∙ ap (λ (b : Buffer). b.blocks) c.buf.ensures)
