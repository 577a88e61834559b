-- A query of which the left input is the only one: its answer, over that input's bytes.
use Rattle.std.specs.Prelude.{ℕ, List, [], Option, Some}
use Rattle.query_plan.specs.declared.plan.Query.{Query}
use Rattle.query_run.specs.Answer.{WroteAnswer, WroteFront}
use Rattle.query_run.specs.Both.{both_told}

-- the whole answer was appended, where the bytes are told, or a front of it
abbrev pub WroteAnswerOver : Query → ℕ → Option (List ℕ) → Option (List ℕ) → Option (List ℕ) → Type 0
WroteAnswerOver plan page told old new = WroteAnswer plan page (both_told told (Some [])) old new

abbrev pub WroteFrontOver : Query → ℕ → Option (List ℕ) → Option (List ℕ) → Option (List ℕ) → Type 0
WroteFrontOver plan page told old new = WroteFront plan page (both_told told (Some [])) old new
