use Rattle.std.proofs.Common.{[], arith}
use Rattle.fragments.proofs.Bags.{permuted, rows_even}
use Rattle.fragments.proofs.laws.law_rows.Goals as goal

pub returns-clause-rows : goal.returns-clause-rows
returns-clause-rows g c = λ rows_of all lists even. rows_even rows_of all [] lists (λ h. let e = even h in omega arith)

pub returns-clause-permuted : goal.returns-clause-permuted
returns-clause-permuted g c = λ same told. permuted same told.exact told.here
