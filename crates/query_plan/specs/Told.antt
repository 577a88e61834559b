-- What a call that reads a document tells.
use Rattle.std.specs.Prelude.{◌≡◌, ◌≢◌, Option, Some, None, Result, IfErr, OnOk}
use Rattle.query_plan.specs.declared.error.PlanErr.{PlanErr}
use Rattle.query_plan.specs.declared.error.PlanErr.TheVariants.{Memory}

-- where it is refused for another cause than memory, this fault is told
abbrev pub Tells : {A : Type 0} → Result A PlanErr → Option PlanErr → Type 0
Tells result fault = IfErr result (λ told. told ≢ Memory → fault ≡ Some told)

-- where it succeeds, there is no fault
abbrev pub Clears : {A : Type 0} → Result A PlanErr → Option PlanErr → Type 0
Clears result fault = OnOk result (fault ≡ None)
