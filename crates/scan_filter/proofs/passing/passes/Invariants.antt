use Rattle.std.proofs.Common.{◌≡◌, take, true}
use Rattle.std.specs.List.{list_all}
use Rattle.scan_filter.specs.Passes.{holds}
use Rattle.scan_filter.proofs.passing.passes.Given as goal

abbrev pub invariant-loop-pred : goal.invariant-loop-pred
invariant-loop-pred l = list_all (holds l.row) (take l.pred-index l.preds) ≡ true
