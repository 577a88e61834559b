-- All partitions of both sides went.
use Rattle.std.proofs.Common.{◌≡◌, ◌∙◌, ℕ, ◌*◌, [], ap, sym, subst, arith}
use Rattle.std.specs.Prelude.{slice_get}
use Rattle.std.proofs.lemmas.Option.{none-some}
use Rattle.store_api.specs.Conditions.{IsBlockCount}
use Rattle.store_api.specs.Holdings.{Holdings, length_of}
use Rattle.store_api.specs.Signs.{Signs}
use Rattle.store_api.specs.Tokens.{ClientToken}
use Rattle.store_api.specs.declared.shapes.JoinShape.{JoinShape}
use Rattle.tuple_stream.specs.Families.{AllClosed, AreShaped, family}
use Rattle.tuple_stream.specs.Trails.{EnteredEvents, PinsFirst}
use Rattle.partition_stack.specs.Changes.{EndsAll}
use Rattle.partition_stack.specs.Leaving.{LeavesOthers}
use Rattle.partition_stack.specs.Sides.{OwnBoth}
use Rattle.partition_stack.specs.Stack.{Stack, no_stack, over}
use Rattle.join_op.specs.Joining.{IsBetween, both}
use Rattle.join_op.specs.Operator.{IsOperator, operator}
use Rattle.join_op.proofs.Ended.{all_ended, ended_first, ended_leaves, left_ended}
use Rattle.join_op.proofs.Paired.{none_after}

pub cleared_closed : (blocks : ℕ) (p : Stack) (h : Holdings) (s : Signs) → p ≡ no_stack blocks → AllClosed (over p h s)
cleared_closed blocks p h s none i x there = absurd (none-some x (sym (ap (λ (q : Stack). slice_get q.streams i) none) ∙ there))

module _ (c : ClientToken) (shape : JoinShape) (left right l2 : Stack) (h h2 : Holdings) (s s2 : Signs) (op : IsOperator (operator c shape left right) h s) (ends : EndsAll c.tracker (over left h s) (family [] h2 s2)) where
  pub right_still : AreShaped c.tracker (over right h2 s2)
  right_still = (left_ended c.tracker left.streams right.streams h h2 h2 s s2 s2 op.owns ends).left_shaped

module _ (c : ClientToken) (shape : JoinShape) (left right l2 r3 : Stack) (h h2 h3 : Holdings) (s s2 s3 : Signs) (op : IsOperator (operator c shape left right) h s)
    (ends : EndsAll c.tracker (over left h s) (family [] h2 s2)) (ends_next : EndsAll c.tracker (over right h2 s2) (family [] h3 s3)) (none : l2 ≡ no_stack left.page_blocks) (none_next : r3 ≡ no_stack right.page_blocks) where
  pub cleared_leaves : LeavesOthers c.tracker h h3 s s3
  cleared_leaves = ended_leaves c.tracker left.streams right.streams h h2 h3 s s2 s3 op.owns ends ends_next

  cleared_own : OwnBoth c.tracker 0 l2.streams r3.streams h3 s3
  cleared_own =
      subst (λ (p : Stack). OwnBoth c.tracker 0 p.streams r3.streams h3 s3) (sym none)
      (subst (λ (p : Stack). OwnBoth c.tracker 0 [] p.streams h3 s3) (sym none_next) (all_ended c.tracker left.streams right.streams h h2 h3 s s2 s3 op.owns ends ends_next))

  blocks : l2.page_blocks ≡ left.page_blocks
  blocks = ap (λ (p : Stack). p.page_blocks) none

  pub cleared_op : IsOperator (operator c shape l2 r3) h3 s3
  cleared_op =
      record {
        shape = op.shape;
        sized = subst IsBlockCount (sym blocks) op.sized;
        alike = ap (λ (p : Stack). p.page_blocks) none_next ∙ op.alike ∙ sym blocks;
        client = cleared_own.lives;
        least =
            let len : length_of l2.page_blocks h3 ≡ length_of left.page_blocks h = ap (λ (n : ℕ). n * h3.block_len) blocks ∙ ap (λ (n : ℕ). left.page_blocks * n) cleared_leaves.others.block_len in
            let least = op.least in
            let kept = cleared_leaves.reserved in
            omega (arith, kept, least, ap (λ (n : ℕ). 20 * n) len);
        owns = cleared_own;
        loans = none_after c.tracker h h2 ends.touches.loans h3 ends_next.touches.loans op.loans;
      }

  pub cleared_first : IsBetween (both left right h s) → EnteredEvents PinsFirst s.trail s3.trail
  cleared_first between = ended_first (over left h s) (over right h2 s2) s.trail s2.trail s3.trail between.left_closed between.right_closed ends.trail ends_next.trail
