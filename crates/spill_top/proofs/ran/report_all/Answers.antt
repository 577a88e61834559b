use Rattle.std.proofs.Common.{◌≡◌, ◌≢◌, ◌∙◌, ◌||◌, not, false, true, Some, ap, is_err, length, refl, rules}
use Rattle.std.specs.List.{slice_get}
use Rattle.std.proofs.lemmas.Option.{slice_get_read}
use Rattle.outside.specs.Faults.{faults_of}
use Rattle.spill_top.specs.Ran.{first_status, telling}
use Rattle.spill_top.proofs.Lines.{err_holds, lines_end, lines_pushed, missing_else, missing_then, ok_holds, status_fault, status_first, status_missing, status_ok, told_so}
use Rattle.spill_top.proofs.ran.report_all.Goals.{else-is_err, in_default, in_default-2, then-is_err}
use Rattle.spill_top.proofs.ran.report_all.Goals as goal

pub loop-place-preserved : goal.loop-place-preserved
loop-place-preserved g c =
    let at_query : slice_get c.args.queries.now c.loop-place.place ≡ Some c.index-queries-place.result = slice_get_read c.args.queries.now (length c.args.queries.now) c.loop-place.place c.index-queries-place.result refl c.loop-place-test.true c.index-queries-place.is in
    let at_end : slice_get c.args.ends.now c.loop-place.place ≡ Some c.index-ends-place.result = slice_get_read c.args.ends.now (length c.args.queries.now) c.loop-place.place c.index-ends-place.result c.requires.len c.loop-place-test.true c.index-ends-place.is in
    let missing : c.if-is_err.missing ≡ (c.loop-place.missing || is_err c.push_line.result) = elim c.if-is_err.branch [
      | then-is_err w ↦ missing_then c.loop-place.missing c.if-is_err.missing (is_err c.push_line.result) w.missing-is (search (rules, w.if-is_err))
      | else-is_err w ↦ missing_else c.loop-place.missing c.if-is_err.missing (is_err c.push_line.result) w.missing-is (search (rules, w.if-is_err))
    ] in
    lines_pushed c.args.queries.now c.args.ends.now c.loop-place.place c.loop-place.text.items c.push_line.new.text.items c.loop-place.missing c.if-is_err.missing c.index-queries-place.result c.index-ends-place.result c.push_line.result
    at_query at_end c.push_line.ensures.ok c.push_line.ensures.err missing c.loop-place.invariant

pub returns-in-0-clause-reported : goal.returns-in-0-clause-reported
returns-in-0-clause-reported g c =
    let all : length c.args.queries.now ≡ c.loop-place.place = search rules in
    let tells = told_so c.loop-place.text.items c.as_slice.result.now (g.R.Sink.contents c.args.report.now) (g.R.Sink.contents c.write_whole.new.sink) (faults_of g.R.Sink c.args.report.now) (faults_of g.R.Sink c.write_whole.new.sink) c.write_whole.result
    (search rules) c.write_whole.ensures.ok c.write_whole.ensures.err c.write_whole.ensures.quiet c.write_whole.ensures.failed c.write_whole.ensures.unbroken c.write_whole.ensures.stops in
    let none : first_status c.args.ends.now ≡ 0 = search rules in
    let failed : is_err c.write_whole.result ≡ true = search rules in
    lines_end c.args.queries.now c.args.ends.now c.loop-place.place c.loop-place.text.items c.loop-place.missing 9 (telling (g.R.Sink.contents c.args.report.now) (faults_of g.R.Sink c.args.report.now)) (telling (g.R.Sink.contents c.write_whole.new.sink) (faults_of g.R.Sink c.write_whole.new.sink)) all c.loop-place.invariant tells
    (λ made whole. status_fault (first_status c.args.ends.now) made (telling (g.R.Sink.contents c.args.report.now) (faults_of g.R.Sink c.args.report.now)) (telling (g.R.Sink.contents c.write_whole.new.sink) (faults_of g.R.Sink c.write_whole.new.sink)) none (err_holds c.write_whole.result failed c.write_whole.ensures.failed, err_holds c.write_whole.result failed c.write_whole.ensures.stops))

pub returns-in-0-2-clause-reported : goal.returns-in-0-2-clause-reported
returns-in-0-2-clause-reported g c =
    let all : length c.args.queries.now ≡ c.loop-place.place = search rules in
    let tells = told_so c.loop-place.text.items c.as_slice.result.now (g.R.Sink.contents c.args.report.now) (g.R.Sink.contents c.write_whole.new.sink) (faults_of g.R.Sink c.args.report.now) (faults_of g.R.Sink c.write_whole.new.sink) c.write_whole.result
    (search rules) c.write_whole.ensures.ok c.write_whole.ensures.err c.write_whole.ensures.quiet c.write_whole.ensures.failed c.write_whole.ensures.unbroken c.write_whole.ensures.stops in
    let none : first_status c.args.ends.now ≡ 0 = search rules in
    let missing : c.loop-place.missing ≡ true = search rules in
    lines_end c.args.queries.now c.args.ends.now c.loop-place.place c.loop-place.text.items c.loop-place.missing 10 (telling (g.R.Sink.contents c.args.report.now) (faults_of g.R.Sink c.args.report.now)) (telling (g.R.Sink.contents c.write_whole.new.sink) (faults_of g.R.Sink c.write_whole.new.sink)) all c.loop-place.invariant tells
    (λ made whole. status_missing (first_status c.args.ends.now) made (telling (g.R.Sink.contents c.args.report.now) (faults_of g.R.Sink c.args.report.now)) (telling (g.R.Sink.contents c.write_whole.new.sink) (faults_of g.R.Sink c.write_whole.new.sink)) none (whole ∙ ap not missing))

pub returns-clause-reported : goal.returns-clause-reported
returns-clause-reported g c =
    let all : length c.args.queries.now ≡ c.loop-place.place = search rules in
    let tells = told_so c.loop-place.text.items c.as_slice.result.now (g.R.Sink.contents c.args.report.now) (g.R.Sink.contents c.write_whole.new.sink) (faults_of g.R.Sink c.args.report.now) (faults_of g.R.Sink c.write_whole.new.sink) c.write_whole.result
    (search rules) c.write_whole.ensures.ok c.write_whole.ensures.err c.write_whole.ensures.quiet c.write_whole.ensures.failed c.write_whole.ensures.unbroken c.write_whole.ensures.stops in
    lines_end c.args.queries.now c.args.ends.now c.loop-place.place c.loop-place.text.items c.loop-place.missing c.match-first_status.result (telling (g.R.Sink.contents c.args.report.now) (faults_of g.R.Sink c.args.report.now)) (telling (g.R.Sink.contents c.write_whole.new.sink) (faults_of g.R.Sink c.write_whole.new.sink)) all c.loop-place.invariant tells
    (λ made whole. elim c.match-first_status.branch [
      | in_default-2 w ↦ (let none : first_status c.args.ends.now ≡ 0 = search (rules, w.in-0) in
          let failed : is_err c.write_whole.result ≡ false = search (rules, w.if-failed) in
          let missing : c.loop-place.missing ≡ false = search (rules, w.if-missing) in
          let status : c.match-first_status.result ≡ first_status c.args.ends.now = w.result-is ∙ c.first_status.ensures in
          status_ok (first_status c.args.ends.now) c.match-first_status.result made (telling (g.R.Sink.contents c.args.report.now) (faults_of g.R.Sink c.args.report.now)) (telling (g.R.Sink.contents c.write_whole.new.sink) (faults_of g.R.Sink c.write_whole.new.sink)) none status (whole ∙ ap not missing) (ok_holds c.write_whole.result failed c.write_whole.ensures.quiet, ok_holds c.write_whole.result failed c.write_whole.ensures.unbroken))
      | in_default w ↦ (let some : first_status c.args.ends.now ≢ 0 = search (rules, w.in_default) in
          let status : c.match-first_status.result ≡ first_status c.args.ends.now = w.result-is ∙ c.first_status.ensures in
          status_first (first_status c.args.ends.now) c.match-first_status.result made (telling (g.R.Sink.contents c.args.report.now) (faults_of g.R.Sink c.args.report.now)) (telling (g.R.Sink.contents c.write_whole.new.sink) (faults_of g.R.Sink c.write_whole.new.sink)) some status)
    ])
