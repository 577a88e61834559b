-- What a text is that is accepted, and why one is refused. A text tells nothing of slots, marks and counts, so what is
-- said of a trace holds for all opening data that the text may have.
use Rattle.std.specs.Prelude.{◌≡◌, ◌<◌, ◌≤◌, ◌+◌, ◌⊎◌, ℕ, Bool, List, [], ◌∷◌, ◌++◌, length}
use Rattle.std.specs.Bool.{⊤}
use Rattle.std.specs.List.{AllByRecursion}
use Rattle.pool_model.specs.declared.skeleton.Skeleton.{Skeleton}
use Rattle.pool_model.specs.declared.entry.Entry.{Entry}
use Rattle.pool_model.specs.State.{Opening}
use Rattle.pool_model.specs.Legal.{state_after}
use Rattle.pool_model.specs.Traces.{HasTrace, IsLegalTrace}
use Rattle.pool_model.specs.TraceLaws.{FitsPool}
use Rattle.trace_check.specs.declared.check.Checked.{Checked}
use Rattle.trace_follow.specs.declared.opened.Opened.{Opened}
use Rattle.trace_check.specs.declared.trace_err.TraceErr.{TraceErr}
use Rattle.trace_check.specs.declared.trace_err.TraceErr.TheVariants.{Large, Syntax, Illegal, Memory}
use Rattle.trace_check.specs.Lines.{line_of, opening_line, last_line, lines_of, told_of, InForm, IsOpened, IsTraceText}

-- after each front of the trace the pool fits its trackers, its clients and its memory
abbrev pub FitsThroughout : Opening → List Skeleton → Type 0
FitsThroughout o trace = (front more : List Skeleton) → front ++ more ≡ trace → (h : List Entry) × HasTrace o h front × FitsPool (state_after o h)

-- the text is that of a legal trace, with so many entries and this last line; and the pool fits after each entry
pub record IsAccepted (text : List ℕ) (c : Checked) : Type 0 where
  pub small : length text ≤ 268435456
  pub o : Opening
  pub trace : List Skeleton
  pub is : IsTraceText text o trace c.whole
  pub count : c.entries ≡ length trace
  pub legal : (p : Opening) → IsTraceText text p trace c.whole → IsLegalTrace p trace
  pub fits : (p : Opening) → IsTraceText text p trace c.whole → FitsThroughout p trace

-- the text begins with the lines of these opening data and entries, and goes on so
pub record Begins (text : List ℕ) (o : Opening) (trace : List Skeleton) (rest : List ℕ) : Type 0 where
  pub opening : IsOpened (told_of o)
  pub each : AllByRecursion InForm trace
  pub is : text ≡ opening_line (told_of o) ++ (lines_of trace ++ rest)

-- the text begins with the lines of a legal trace, and goes on so
pub record BeginsLegal (text : List ℕ) (trace : List Skeleton) (rest : List ℕ) : Type 0 where
  pub o : Opening
  pub begins : Begins text o trace rest
  pub legal : (p : Opening) → Begins text p trace rest → IsLegalTrace p trace

-- the first line isn't one of opening data
pub record LacksOpening (text : List ℕ) (line : ℕ) : Type 0 where
  pub first : line ≡ 1
  pub none : (o : Opened) (rest : List ℕ) → IsOpened o → text ≡ opening_line o ++ rest → ⊥

-- behind the lines of a legal trace stands neither an entry's line nor the last one
pub record LacksLine (text : List ℕ) (line : ℕ) : Type 0 where
  pub trace : List Skeleton
  pub rest : List ℕ
  pub begins : BeginsLegal text trace rest
  pub number : line ≡ length trace + 2
  pub no_entry : (k : Skeleton) (more : List ℕ) → InForm k → rest ≡ line_of k ++ more → ⊥
  pub no_last : (whole : Bool) → rest ≡ last_line whole → ⊥

-- behind the lines of a legal trace stands that of an entry with which it isn't legal
pub record GoesWrong (text : List ℕ) (entry : ℕ) : Type 0 where
  pub trace : List Skeleton
  pub k : Skeleton
  pub rest : List ℕ
  pub begins : BeginsLegal text trace (line_of k ++ rest)
  pub form : InForm k
  pub number : entry ≡ length trace
  pub illegal : (p : Opening) → Begins text p trace (line_of k ++ rest) → IsLegalTrace p (trace ++ k ∷ []) → ⊥

-- why a text is refused
abbrev pub IsCause : List ℕ → TraceErr → Type 0
IsCause text Large = 268435456 < length text
IsCause text (Syntax line) = LacksOpening text line ⊎ LacksLine text line
IsCause text (Illegal entry) = GoesWrong text entry
IsCause text Memory = ⊤
