-- Quotas of asks.
use Rattle.std.proofs.Common.{◌≡◌, ◌+◌, ◌*◌, List, [], ◌∷◌, ◌++◌, ap, ◌∙◌, arith}
use Rattle.pool.specs.declared.ask.Ask.{Ask}
use Rattle.pool.specs.Remaining.{quotas_of}

-- the quotas of one ask more
pub quotas_push : (asks : List Ask) (ask : Ask) → quotas_of (asks ++ ask ∷ []) ≡ quotas_of asks + ask.count * ask.quota
quotas_push [] ask = omega arith
quotas_push (a ∷ asks) ask = ap (λ n. a.count * a.quota + n) (quotas_push asks ask) ∙ omega arith
