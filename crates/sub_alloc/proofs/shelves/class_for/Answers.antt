use Rattle.std.proofs.Common.{arith}
use Rattle.sub_alloc.proofs.Looks.{class_first, class_least, log_some}
use Rattle.sub_alloc.proofs.shelves.class_for.Goals as goal

pub returns-then-bytes-le64-clause-value : goal.returns-then-bytes-le64-clause-value
returns-then-bytes-le64-clause-value c = (class_first c.args._classes c.args.bytes c.requires.some c.if-bytes-le64.true).value

pub returns-then-bytes-le64-clause-len : goal.returns-then-bytes-le64-clause-len
returns-then-bytes-le64-clause-len c = (class_first c.args._classes c.args.bytes c.requires.some c.if-bytes-le64.true).len

pub overflow_sub-result : goal.overflow_sub-result
overflow_sub-result c = let l = log_some c.ilog2.result c.args.bytes (omega (arith, c.if-bytes-le64.false)) c.ilog2.ensures.next_power_gt in omega (arith, l)

pub returns-clause-value : goal.returns-clause-value
returns-clause-value c = (class_least c.args._classes c.ilog2.result c.args.bytes (omega (arith, c.if-bytes-le64.false)) c.ilog2.ensures.power_le c.ilog2.ensures.next_power_gt c.requires.bytes c.requires.some).value

pub returns-clause-inside : goal.returns-clause-inside
returns-clause-inside c = (class_least c.args._classes c.ilog2.result c.args.bytes (omega (arith, c.if-bytes-le64.false)) c.ilog2.ensures.power_le c.ilog2.ensures.next_power_gt c.requires.bytes c.requires.some).inside

pub returns-clause-len : goal.returns-clause-len
returns-clause-len c = (class_least c.args._classes c.ilog2.result c.args.bytes (omega (arith, c.if-bytes-le64.false)) c.ilog2.ensures.power_le c.ilog2.ensures.next_power_gt c.requires.bytes c.requires.some).len
