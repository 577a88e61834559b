use Rattle.pin_core.specs.StateOf.{state_of}
use Rattle.pool_questions.proofs.CheckedIdle.{moves_to}
use Rattle.std.proofs.Common.{◌≡◌, refl, ap, sym, ◌∙◌, length}
use Rattle.block_arena.specs.Memory.{Buffer}
use Rattle.pool_questions.proofs.loans.can_move_to.Goals as goal

pub returns-then-is_loan : goal.returns-then-is_loan
returns-then-is_loan g c = λ is. moves_to (state_of c.args.pool.now) c.args.loan.now c.args.to.now c.session-s.result c.tracker.result _ c.session-s.ensures c.tracker.ensures
    (c.len-bytes.ensures.value ∙ ap (λ (b : Buffer). length b.bytes) c.buf.ensures) (c.if-is_loan.ensures.loan refl) (c.if-is_loan.ensures.own refl) (c.can_hold.ensures.client is) (c.can_hold.ensures.room is)
