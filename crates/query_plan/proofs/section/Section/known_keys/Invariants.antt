use Rattle.toml.specs.View.{table_view}
use Rattle.query_plan.specs.Faults.{is_allowed}
use Rattle.query_plan.specs.Keys.{rows_of}
use Rattle.query_plan.specs.Values.{keys_in}
use Rattle.query_plan.proofs.LeastKey.{LeftToSee}
use Rattle.query_plan.proofs.section.Section.known_keys.Given as goal

abbrev pub invariant-loop-key : goal.invariant-loop-key
invariant-loop-key l =
    (goal.iterator-loop-key).can_next l.key-iterator ×
    (goal.iterator-loop-key).is_finite l.key-iterator ×
    LeftToSee (is_allowed (rows_of l.place) (table_view l.self.table.now)) (keys_in (table_view l.self.table.now)) l.key-iterator
