use Rattle.std.proofs.Common.{arith, refl, rules}
use Rattle.query_plan.specs.declared.plan.Side.TheVariants.{Left}
use Rattle.query_run.proofs.Says.{says_nothing}
use Rattle.query_run.proofs.Shared.{all_still}
use Rattle.query_run.proofs.Stores.{may_end}
use Rattle.query_run.proofs.parallel.feed_parallel.Goals as goal

pub returns-in_default : goal.returns-in_default
returns-in_default g c =
    let some = c.requires.ops.some in
    record {
      shared = tt;
      read = tt;
      says = says_nothing c.args.plan.now Left c.args.plan.now.left _ _ _ refl;
      cause = λ same. absurd (cc);
      pool = record { at = 0; below = omega (arith, some); answered = λ d. tt };
      go = all_still g.St.Store c.args.plan.now c.args.stores.now c.args.ops.now c.requires.ops;
      ends = may_end g.St.Store c.args.stores.now c.args.stores.now c.args.ops.now c.args.ops.now c.requires.ops.many (all_still g.St.Store c.args.plan.now c.args.stores.now c.args.ops.now c.requires.ops);
      works = λ first works. works;
      faults = search rules;
    }
