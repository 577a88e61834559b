use Rattle.group_rows.specs.Partials.{combine, key_of}
use Rattle.group_rows.proofs.Each.{split}
use Rattle.group_rows.proofs.Merging.{combines}
use Rattle.group_rows.proofs.Paths.{by_path, one_path, path_grows}
use Rattle.group_rows.proofs.laws.law_splits.Goals as goal

pub returns-clause-cut : goal.returns-clause-cut
returns-clause-cut c = λ order is_order grouping low cut partials.
    split key_of (combine grouping) (combines grouping) order is_order (λ k. Unit {0}) low (λ a b pa pb is off. cut a b is off) partials (λ k d inside. tt)

pub returns-clause-path : goal.returns-clause-path
returns-clause-path c = λ grouping path partials short has. by_path grouping path short partials has

pub returns-clause-grows : goal.returns-clause-grows
returns-clause-grows c = path_grows

pub returns-clause-one_path : goal.returns-clause-one_path
returns-clause-one_path c = one_path
