-- Calls of a grouping, one after the other.
use Rattle.std.proofs.Common.{◌≡◌, ◌∙◌, ℕ, Option, subst, refl, arith}
use Rattle.store_api.proofs.Answered.{answered_before}
use Rattle.store_api.proofs.Growing.{grows_refl}
use Rattle.store_api.proofs.Untouched.{others_stay}
use Rattle.store_api.specs.Holdings.{Holdings}
use Rattle.store_api.specs.Signs.{Grows, Signs}
use Rattle.reservation_tree.specs.declared.errors.PoolErr.{PoolErr}
use Rattle.partition_stack.specs.Slots.{IsWant}
use Rattle.partition_stack.proofs.Left.{leaves_both}
use Rattle.group_op.specs.Operator.{IsFeeding, IsOperator, IsSame, Operator}
use Rattle.query_run.specs.Causes.{OfPool}
use Rattle.query_run.specs.Inside.{GoesOn}
use Rattle.query_run.specs.Stopped.{StoppedBy, StoppedOver}
use Rattle.query_plan.specs.declared.outcome.QueryErr.{QueryErr}
use Rattle.query_plan.specs.declared.outcome.QueryErr.TheVariants as query

pub of_pool_so : (P Q : PoolErr → Type 0) → ((e : PoolErr) → P e → Q e) → (e : QueryErr) → OfPool P e → OfPool Q e
of_pool_so P Q so (query.Pool e) holds = so e holds
of_pool_so P Q so (query.SourceFault side) holds = holds
of_pool_so P Q so (query.BadHeader side) holds = holds
of_pool_so P Q so (query.BadCsv side number) holds = holds
of_pool_so P Q so (query.BadField side number column) holds = holds
of_pool_so P Q so (query.TooLarge side) holds = holds
of_pool_so P Q so (query.RowTooLong side number bytes) holds = holds
of_pool_so P Q so query.SinkFault holds = holds

pub of_pool_both : (P Q R : PoolErr → Type 0) → ((e : PoolErr) → P e → Q e → R e) → (e : QueryErr) → OfPool P e → OfPool Q e → OfPool R e
of_pool_both P Q R so (query.Pool e) one two = so e one two
of_pool_both P Q R so (query.SourceFault side) one two = one
of_pool_both P Q R so (query.BadHeader side) one two = one
of_pool_both P Q R so (query.BadCsv side number) one two = one
of_pool_both P Q R so (query.BadField side number column) one two = one
of_pool_both P Q R so (query.TooLarge side) one two = one
of_pool_both P Q R so (query.RowTooLong side number bytes) one two = one
of_pool_both P Q R so query.SinkFault one two = one

-- what stopped a later call stopped both
pub stopped_later : (blocks blocks' : ℕ) (total total' : Option ℕ) (a b c : Signs) (e : QueryErr) → blocks' ≡ blocks → total' ≡ total → Grows a b
    → StoppedOver blocks' total' b c e → StoppedOver blocks total a c e
stopped_later blocks blocks' total total' a b c e same-blocks same-total grows = of_pool_so (StoppedBy blocks' total' b c) (StoppedBy blocks total a c)
    (λ why stopped. record {
      answered = answered_before why a b c grows stopped.answered;
      want = subst (λ t. IsWant blocks t why) same-total (subst (λ n. IsWant n total' why) same-blocks stopped.want);
    }) e

-- nothing was called
pub goes_none : (op : Operator) (h : Holdings) (signs : Signs) → IsOperator op h signs → GoesOn op op h h signs signs
goes_none op h signs is = record {
  op = is;
  client = refl;
  leaves = record { others = others_stay _ h; grows = grows_refl signs; reserved = omega arith; room = omega arith };
  slots = refl;
}

-- one call after another
pub goes_then : (a b c : Operator) (h0 h1 h2 : Holdings) (s0 s1 s2 : Signs) → GoesOn a b h0 h1 s0 s1 → GoesOn b c h1 h2 s1 s2 → GoesOn a c h0 h2 s0 s2
goes_then a b c h0 h1 h2 s0 s1 s2 first then = record {
  op = then.op;
  client = then.client ∙ first.client;
  leaves = leaves_both a.client.tracker h0 h1 h2 s0 s1 s2 first.leaves (rw first.client at then.leaves);
  slots = then.slots ∙ first.slots;
}

pub same_none : (op : Operator) → IsSame op op
same_none op = record { client = refl; shape = refl; blocks = refl; levels = refl; many = refl }

pub same_then : (a b c : Operator) → IsSame a b → IsSame b c → IsSame a c
same_then a b c first then = record {
  client = then.client ∙ first.client;
  shape = then.shape ∙ first.shape;
  blocks = then.blocks ∙ first.blocks;
  levels = then.levels ∙ first.levels;
  many = then.many ∙ first.many;
}

pub feeds_still : (a b : Operator) → IsFeeding a → IsSame a b → IsFeeding b
feeds_still a b feeding same = record { sixteen = same.many ∙ feeding.sixteen; first = same.levels ∙ feeding.first }
