use Rattle.std.proofs.Common.{◌≡◌, ◌+◌, ◌-◌, ◌≤◌, ◌<◌, ◌^◌, ◌++◌, ◌∷◌, [], List, arith, false, filter, length, min, refl, rules, subst, true}
use Rattle.row_codec.specs.Row.{kinds_of}
use Rattle.scan_filter.specs.Passes.{passes}
use Rattle.csv_edge.specs.Rows.{Becomes, CountsBytes, bytes_allowed, records_allowed, rest_of}
use Rattle.csv_edge.specs.Typed.{row_then}
use Rattle.query_run.specs.Input.{weight_of}
use Rattle.row_codec.specs.declared.values.Value.{Value}
use Rattle.query_run.specs.Passing.{HasGiven, IsOpenAt}
use Rattle.query_run.specs.Plans.{kinds_of_columns}
use Rattle.query_run.specs.declared.passing.Stage.{Stage}
use Rattle.query_run.specs.declared.passing.PassingRows.{PassingRows}
use Rattle.query_run.specs.declared.passing.Stage.TheVariants.{Reading, Ended, Stopped}
use Rattle.query_run.proofs.Gives.{given_more, given_whole, gone_on, reading_is_not_stopped, stopped_by_input, stopped_by_row}
use Rattle.query_run.proofs.Weighing.{counted_light, fits_rows, is_fed}
use Rattle.query_run.proofs.passing.PassingRows.step.Goals as goal

pub returns-in-Err-clause-cause : goal.returns-in-Err-clause-cause
returns-in-Err-clause-cause g c =
    let opened : IsOpenAt g.S.Source g.B.Reads.input Reading c.args.self.now = subst (λ (s : Stage). IsOpenAt g.S.Source g.B.Reads.input s c.args.self.now) c.requires.reading c.requires.ready.is_open in
    λ gone. rw c.cause_of.ensures (stopped_by_input g.S.Source g.B.Reads.input c.args.self.now _ c.in-Err.e c.requires.reading c.requires.ready.side opened.1 (search rules) (search rules) (search rules) (search rules) gone)

pub returns-then-not-found-clause-step : goal.returns-then-not-found-clause-step
returns-then-not-found-clause-step g c =
    let opened : IsOpenAt g.S.Source g.B.Reads.input Reading c.args.self.now = subst (λ (s : Stage). IsOpenAt g.S.Source g.B.Reads.input s c.args.self.now) c.requires.reading c.requires.ready.is_open in
    let count = opened.2 in
    let after : PassingRows g.row.S.Denot g.row.R.Denot g.row.B.Denot = record c.args.self.now { rows = c.next_into.new.self; stage = Ended } in
    record {
      given = given_whole g.S.Source g.B.Reads.input c.args.self.now after c.requires.reading refl refl refl (omega (arith, count)) (search rules) (search (rules, opened)) (search (rules, opened));
      falls = λ other. absurd (other refl);
      goes_on = λ other. absurd (other refl);
      ended = λ is. refl;
    }

pub returns-then-not-found-clause-gone : goal.returns-then-not-found-clause-gone
returns-then-not-found-clause-gone g c =
    let opened : IsOpenAt g.S.Source g.B.Reads.input Reading c.args.self.now = subst (λ (s : Stage). IsOpenAt g.S.Source g.B.Reads.input s c.args.self.now) c.requires.reading c.requires.ready.is_open in
    let count = opened.2 in
    let after : PassingRows g.row.S.Denot g.row.R.Denot g.row.B.Denot = record c.args.self.now { rows = c.next_into.new.self; stage = Ended } in
    λ from gone. gone_on g.S.Source g.B.Reads.input from c.args.self.now after [] (reading_is_not_stopped c.args.self.now.stage c.requires.reading)
    (given_whole g.S.Source g.B.Reads.input c.args.self.now after c.requires.reading refl refl refl (omega (arith, count)) (search rules) (search (rules, opened)) (search (rules, opened))) (search rules) (search rules) gone

pub returns-then-bytes-self-clause-cause : goal.returns-then-bytes-self-clause-cause
returns-then-bytes-self-clause-cause g c =
    let plan = c.requires.ready.plan_is in
    let page = c.requires.ready.page_is in
    let after : PassingRows g.row.S.Denot g.row.R.Denot g.row.B.Denot = record c.args.self.now { rows = c.next_into.new.self; read = c.args.self.now.read + 1; stage = Stopped } in
    let next : Becomes (row_then c.next_into.new.row.items) (rest_of g.S.Source.remaining c.args.self.now.rows) (rest_of g.S.Source.remaining c.next_into.new.self) = search rules in
    let weighs : c.weight-bytes.result ≡ min (weight_of g.B.Reads.input.plan c.next_into.new.row.items) (2 ^ 64 - 1) = search (rules, plan) in
    let heavy : g.B.Reads.input.page < c.weight-bytes.result = search (rules, arith, page) in
    λ gone. stopped_by_row g.S.Source g.B.Reads.input c.args.self.now after c.next_into.new.row.items c.weight-bytes.result c.requires.reading weighs heavy next gone

pub passes-requires : goal.passes-requires
passes-requires g c =
    let plan = c.requires.ready.plan_is in
    let opened : IsOpenAt g.S.Source g.B.Reads.input Reading c.args.self.now = subst (λ (s : Stage). IsOpenAt g.S.Source g.B.Reads.input s c.args.self.now) c.requires.reading c.requires.ready.is_open in
    let kinds : kinds_of c.deref-2.result.now ≡ kinds_of_columns g.B.Reads.input.plan.left.columns = search (rules, opened) in
    let preds : c.as_slice.result.now ≡ g.B.Reads.input.plan.left.preds = search (rules, plan) in
    record { kinds = rw preds (fits_rows g.B.Reads.input.plan.left.columns c.deref-2.result.now g.B.Reads.input.plan.left.preds kinds c.requires.ready.side.preds) }

pub returns-then-not-passes-clause-step : goal.returns-then-not-passes-clause-step
returns-then-not-passes-clause-step g c =
    let opened : IsOpenAt g.S.Source g.B.Reads.input Reading c.args.self.now = subst (λ (s : Stage). IsOpenAt g.S.Source g.B.Reads.input s c.args.self.now) c.requires.reading c.requires.ready.is_open in
    let plan = c.requires.ready.plan_is in
    let page = c.requires.ready.page_is in
    let row = c.next_into.new.row.items in
    let test = passes g.B.Reads.input.plan.left.preds in
    let after : PassingRows g.row.S.Denot g.row.R.Denot g.row.B.Denot = record c.args.self.now { rows = c.next_into.new.self; read = c.args.self.now.read + 1 } in
    let weighs : c.weight-bytes.result ≡ min (weight_of g.B.Reads.input.plan row) (2 ^ 64 - 1) = search (rules, plan) in
    let fits : c.weight-bytes.result ≤ g.B.Reads.input.page = search (rules, arith, page) in
    let light = counted_light g.B.Reads.input.plan row c.weight-bytes.result g.B.Reads.input.page weighs fits c.requires.ready.short in
    let kinds : kinds_of row ≡ kinds_of_columns g.B.Reads.input.plan.left.columns = search (rules, opened) in
    let formed = is_fed g.B.Reads.input.plan (kinds_of_columns g.B.Reads.input.plan.left.columns) row g.B.Reads.input.page kinds light c.requires.ready.short in
    let next : Becomes (row_then row) (rest_of g.S.Source.remaining c.args.self.now.rows) (rest_of g.S.Source.remaining c.next_into.new.self) = search rules in
    let counts : CountsBytes (bytes_allowed c.args.self.now.rows) (g.S.Source.remaining c.args.self.now.rows.src.now) (bytes_allowed c.next_into.new.self) (g.S.Source.remaining c.next_into.new.self.src.now) = search rules in
    let passed : test row ≡ false = search (rules, plan) in
    let none : filter test (row ∷ []) ≡ [] = rw passed refl in
    let kept : c.args.self.now.kept ≡ c.args.self.now.kept + length (filter test (row ∷ [])) = rw none (omega arith) in
    let given : (passing : List (List Value)) → HasGiven g.S.Source g.B.Reads.input c.args.self.now passing → HasGiven g.S.Source g.B.Reads.input after (passing ++ []) =
    subst (λ (more : List (List Value)). (passing : List (List Value)) → HasGiven g.S.Source g.B.Reads.input c.args.self.now passing → HasGiven g.S.Source g.B.Reads.input after (passing ++ more)) none
    (given_more g.S.Source g.B.Reads.input c.args.self.now after row c.requires.reading c.requires.reading refl kept light formed next counts) in
    let falls : records_allowed c.next_into.new.self < records_allowed c.args.self.now.rows = search (rules, arith) in
    record { given = given; falls = λ other. falls; goes_on = λ other. c.requires.reading; ended = λ is. absurd (cc) }

pub returns-then-not-passes-clause-gone : goal.returns-then-not-passes-clause-gone
returns-then-not-passes-clause-gone g c =
    let opened : IsOpenAt g.S.Source g.B.Reads.input Reading c.args.self.now = subst (λ (s : Stage). IsOpenAt g.S.Source g.B.Reads.input s c.args.self.now) c.requires.reading c.requires.ready.is_open in
    let plan = c.requires.ready.plan_is in
    let page = c.requires.ready.page_is in
    let row = c.next_into.new.row.items in
    let test = passes g.B.Reads.input.plan.left.preds in
    let after : PassingRows g.row.S.Denot g.row.R.Denot g.row.B.Denot = record c.args.self.now { rows = c.next_into.new.self; read = c.args.self.now.read + 1 } in
    let weighs : c.weight-bytes.result ≡ min (weight_of g.B.Reads.input.plan row) (2 ^ 64 - 1) = search (rules, plan) in
    let fits : c.weight-bytes.result ≤ g.B.Reads.input.page = search (rules, arith, page) in
    let light = counted_light g.B.Reads.input.plan row c.weight-bytes.result g.B.Reads.input.page weighs fits c.requires.ready.short in
    let kinds : kinds_of row ≡ kinds_of_columns g.B.Reads.input.plan.left.columns = search (rules, opened) in
    let formed = is_fed g.B.Reads.input.plan (kinds_of_columns g.B.Reads.input.plan.left.columns) row g.B.Reads.input.page kinds light c.requires.ready.short in
    let next : Becomes (row_then row) (rest_of g.S.Source.remaining c.args.self.now.rows) (rest_of g.S.Source.remaining c.next_into.new.self) = search rules in
    let counts : CountsBytes (bytes_allowed c.args.self.now.rows) (g.S.Source.remaining c.args.self.now.rows.src.now) (bytes_allowed c.next_into.new.self) (g.S.Source.remaining c.next_into.new.self.src.now) = search rules in
    let passed : test row ≡ false = search (rules, plan) in
    let none : filter test (row ∷ []) ≡ [] = rw passed refl in
    let kept : c.args.self.now.kept ≡ c.args.self.now.kept + length (filter test (row ∷ [])) = rw none (omega arith) in
    let given : (passing : List (List Value)) → HasGiven g.S.Source g.B.Reads.input c.args.self.now passing → HasGiven g.S.Source g.B.Reads.input after (passing ++ []) =
    subst (λ (more : List (List Value)). (passing : List (List Value)) → HasGiven g.S.Source g.B.Reads.input c.args.self.now passing → HasGiven g.S.Source g.B.Reads.input after (passing ++ more)) none
    (given_more g.S.Source g.B.Reads.input c.args.self.now after row c.requires.reading c.requires.reading refl kept light formed next counts) in
    λ from gone. gone_on g.S.Source g.B.Reads.input from c.args.self.now after [] (reading_is_not_stopped c.args.self.now.stage c.requires.reading) given (search rules) (search rules) gone

pub returns-clause-step : goal.returns-clause-step
returns-clause-step g c =
    let opened : IsOpenAt g.S.Source g.B.Reads.input Reading c.args.self.now = subst (λ (s : Stage). IsOpenAt g.S.Source g.B.Reads.input s c.args.self.now) c.requires.reading c.requires.ready.is_open in
    let plan = c.requires.ready.plan_is in
    let page = c.requires.ready.page_is in
    let row = c.next_into.new.row.items in
    let test = passes g.B.Reads.input.plan.left.preds in
    let after : PassingRows g.row.S.Denot g.row.R.Denot g.row.B.Denot = record c.args.self.now { rows = c.next_into.new.self; read = c.args.self.now.read + 1; kept = c.args.self.now.kept + 1 } in
    let weighs : c.weight-bytes.result ≡ min (weight_of g.B.Reads.input.plan row) (2 ^ 64 - 1) = search (rules, plan) in
    let fits : c.weight-bytes.result ≤ g.B.Reads.input.page = search (rules, arith, page) in
    let light = counted_light g.B.Reads.input.plan row c.weight-bytes.result g.B.Reads.input.page weighs fits c.requires.ready.short in
    let kinds : kinds_of row ≡ kinds_of_columns g.B.Reads.input.plan.left.columns = search (rules, opened) in
    let formed = is_fed g.B.Reads.input.plan (kinds_of_columns g.B.Reads.input.plan.left.columns) row g.B.Reads.input.page kinds light c.requires.ready.short in
    let next : Becomes (row_then row) (rest_of g.S.Source.remaining c.args.self.now.rows) (rest_of g.S.Source.remaining c.next_into.new.self) = search rules in
    let counts : CountsBytes (bytes_allowed c.args.self.now.rows) (g.S.Source.remaining c.args.self.now.rows.src.now) (bytes_allowed c.next_into.new.self) (g.S.Source.remaining c.next_into.new.self.src.now) = search rules in
    let passed : test row ≡ true = search (rules, plan) in
    let one : filter test (row ∷ []) ≡ row ∷ [] = rw passed refl in
    let kept : c.args.self.now.kept + 1 ≡ c.args.self.now.kept + length (filter test (row ∷ [])) = rw one refl in
    let given : (passing : List (List Value)) → HasGiven g.S.Source g.B.Reads.input c.args.self.now passing → HasGiven g.S.Source g.B.Reads.input after (passing ++ row ∷ []) =
    subst (λ (more : List (List Value)). (passing : List (List Value)) → HasGiven g.S.Source g.B.Reads.input c.args.self.now passing → HasGiven g.S.Source g.B.Reads.input after (passing ++ more)) one
    (given_more g.S.Source g.B.Reads.input c.args.self.now after row c.requires.reading c.requires.reading refl kept light formed next counts) in
    let falls : records_allowed c.next_into.new.self < records_allowed c.args.self.now.rows = search (rules, arith) in
    record { given = given; falls = λ other. falls; goes_on = λ other. c.requires.reading; ended = λ is. absurd (cc) }

pub returns-clause-gone : goal.returns-clause-gone
returns-clause-gone g c =
    let opened : IsOpenAt g.S.Source g.B.Reads.input Reading c.args.self.now = subst (λ (s : Stage). IsOpenAt g.S.Source g.B.Reads.input s c.args.self.now) c.requires.reading c.requires.ready.is_open in
    let plan = c.requires.ready.plan_is in
    let page = c.requires.ready.page_is in
    let row = c.next_into.new.row.items in
    let test = passes g.B.Reads.input.plan.left.preds in
    let after : PassingRows g.row.S.Denot g.row.R.Denot g.row.B.Denot = record c.args.self.now { rows = c.next_into.new.self; read = c.args.self.now.read + 1; kept = c.args.self.now.kept + 1 } in
    let weighs : c.weight-bytes.result ≡ min (weight_of g.B.Reads.input.plan row) (2 ^ 64 - 1) = search (rules, plan) in
    let fits : c.weight-bytes.result ≤ g.B.Reads.input.page = search (rules, arith, page) in
    let light = counted_light g.B.Reads.input.plan row c.weight-bytes.result g.B.Reads.input.page weighs fits c.requires.ready.short in
    let kinds : kinds_of row ≡ kinds_of_columns g.B.Reads.input.plan.left.columns = search (rules, opened) in
    let formed = is_fed g.B.Reads.input.plan (kinds_of_columns g.B.Reads.input.plan.left.columns) row g.B.Reads.input.page kinds light c.requires.ready.short in
    let next : Becomes (row_then row) (rest_of g.S.Source.remaining c.args.self.now.rows) (rest_of g.S.Source.remaining c.next_into.new.self) = search rules in
    let counts : CountsBytes (bytes_allowed c.args.self.now.rows) (g.S.Source.remaining c.args.self.now.rows.src.now) (bytes_allowed c.next_into.new.self) (g.S.Source.remaining c.next_into.new.self.src.now) = search rules in
    let passed : test row ≡ true = search (rules, plan) in
    let one : filter test (row ∷ []) ≡ row ∷ [] = rw passed refl in
    let kept : c.args.self.now.kept + 1 ≡ c.args.self.now.kept + length (filter test (row ∷ [])) = rw one refl in
    let given : (passing : List (List Value)) → HasGiven g.S.Source g.B.Reads.input c.args.self.now passing → HasGiven g.S.Source g.B.Reads.input after (passing ++ row ∷ []) =
    subst (λ (more : List (List Value)). (passing : List (List Value)) → HasGiven g.S.Source g.B.Reads.input c.args.self.now passing → HasGiven g.S.Source g.B.Reads.input after (passing ++ more)) one
    (given_more g.S.Source g.B.Reads.input c.args.self.now after row c.requires.reading c.requires.reading refl kept light formed next counts) in
    λ from gone. gone_on g.S.Source g.B.Reads.input from c.args.self.now after (row ∷ []) (reading_is_not_stopped c.args.self.now.stage c.requires.reading) given (search rules) (search rules) gone
