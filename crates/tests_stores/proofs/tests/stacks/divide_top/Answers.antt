use Rattle.std.proofs.Common.{◌-◌, sym, subst}
use Rattle.partition_stack.specs.Stack.{Stack, over}
use Rattle.partition_stack.specs.Changes.{Owns}
use Rattle.partition_stack.proofs.Coming.{sixteen_come}
use Rattle.tests_stores.proofs.tests.stacks.divide_top.Goals as goal

pub returns : goal.returns
returns c = λ t h signs owns.
    subst (λ (p : Stack). Owns t 0 (over p h signs)) (sym c.in_ok-divide.ensures.ok)
    ((sixteen_come t 0 (c.len-len.result - 1) c.level-level.result c.args.parts.now h signs c.law_stack.ensures).owns owns)
