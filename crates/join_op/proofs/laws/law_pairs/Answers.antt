use Rattle.std.specs.Prelude.{◌++◌, map}
use Rattle.std.proofs.lemmas.Grind.{flat_map-append}
use Rattle.join_op.specs.Pairs.{partners}
use Rattle.join_op.proofs.Counts.{any_order, by_parts, no_right, right_parts}
use Rattle.join_op.proofs.laws.law_pairs.Goals as goal

pub returns-clause-order : goal.returns-clause-order
returns-clause-order c = any_order

pub returns-clause-left : goal.returns-clause-left
returns-clause-left c = λ shape ls ms rs. flat_map-append (λ l. map (λ r. l ++ r) (partners shape rs l)) ls ms

pub returns-clause-right : goal.returns-clause-right
returns-clause-right c = right_parts

pub returns-clause-none : goal.returns-clause-none
returns-clause-none c = no_right

pub returns-clause-parts : goal.returns-clause-parts
returns-clause-parts c = by_parts
