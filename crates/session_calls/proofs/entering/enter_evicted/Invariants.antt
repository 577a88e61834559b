use Rattle.std.specs.Prelude.{◌≡◌, ◌++◌, take}
use Rattle.pin_core.specs.calls.Evictions.{evictions}
use Rattle.session_calls.proofs.entering.enter_evicted.Given as goal

abbrev pub invariant-loop-page : goal.invariant-loop-page
invariant-loop-page l = l.trail ≡ l.initial.trail ++ evictions l.maker (take l.page-index l.gone)
