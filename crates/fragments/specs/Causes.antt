-- With what a deal begins, what it leaves, and why not all was dealt. Lists run from the first feeder, the caller's own, to the last.
use Rattle.std.specs.Prelude.{◌≡◌, ◌≤◌, ◌<◌, ℕ, ⊤, List, [], length, slice_index_or}
use Rattle.fragments.specs.declared.dealing.Failure.{Failure}
use Rattle.fragments.specs.declared.dealing.Failure.TheVariants.{Memory, Reading, Feeding}
use Rattle.fragments.specs.declared.reading.Stop.{Stop}
use Rattle.fragments.specs.declared.reading.Stop.TheVariants as half
use Rattle.fragments.specs.Running.{MayBegin}

module _ {T S : Type 0} where
  -- a giver may begin: it gives what the queue admits, and has given nothing since it is what it is
  pub record MayGive (admits : T → Type 0) (ready : S → Type 0) (gives : S → T → Type 0) (gave : S → S → List T → Type 0) (went : S → S → Type 0)
      (giver : S) : Type 0 where
    pub ready_is : ready giver
    pub admitted : (x : T) → gives giver x → admits x
    pub none : gave giver giver []
    pub here : went giver giver

module _ {T F C : Type 0} where
  -- one to nine feeders, each beside its own thing, may begin
  pub record MayBeginAll (admits : T → Type 0) (ready : F → C → Type 0) (takes : F → C → T → Type 0) (took : F → C → F → C → List T → Type 0)
      (went : F → C → F → C → Type 0) (ops : List F) (besides : List C) : Type 0 where
    pub len : length besides ≡ length ops
    pub some : 1 ≤ length ops
    pub few : length ops ≤ 9
    pub each : (k : ℕ) (f : F) (c : C) → k < length ops → MayBegin admits ready takes took went (slice_index_or ops k f) (slice_index_or besides k c)

  -- a feeder has taken some items
  pub record HasFed (took : F → C → F → C → List T → Type 0) (op : F) (beside : C) (op' : F) (beside' : C) : Type 0 where
    pub items : List T
    pub fed : took op beside op' beside' items

  -- of the feeders that were stopped, the one with the least number was stopped so
  pub record IsFirstStopped {E : Type 0} (took : F → C → F → C → List T → Type 0) (stops : F → C → C → E → Type 0)
      (ops : List F) (besides : List C) (ops' : List F) (besides' : List C) (e : E) : Type 0 where
    pub at : ℕ
    pub below : at < length ops
    pub so : (f : F) (c : C) → stops (slice_index_or ops at f) (slice_index_or besides at c) (slice_index_or besides' at c) e
    pub before : (k : ℕ) (f : F) (c : C) → k < at
        → HasFed took (slice_index_or ops k f) (slice_index_or besides k c) (slice_index_or ops' k f) (slice_index_or besides' k c)

module _ {F C S : Type 0} where
  -- what each feeder and the giver left, whatever stopped them
  pub record HasLeft (went : F → C → F → C → Type 0) (left : S → S → Type 0)
      (giver : S) (ops : List F) (besides : List C) (giver' : S) (ops' : List F) (besides' : List C) : Type 0 where
    pub ops_len : length ops' ≡ length ops
    pub besides_len : length besides' ≡ length ops
    pub each : (k : ℕ) (f : F) (c : C) → k < length ops
        → went (slice_index_or ops k f) (slice_index_or besides k c) (slice_index_or ops' k f) (slice_index_or besides' k c)
    pub giver_left : left giver giver'

module _ {T F C S Q E : Type 0} (took : F → C → F → C → List T → Type 0) (stops : F → C → C → E → Type 0) (why : S → S → Q → Type 0) where
  -- the giver was stopped so, or, of the feeders that were stopped, the first one
  abbrev pub IsCause : S → List F → List C → S → List F → List C → Failure Q E → Type 0
  IsCause giver ops besides giver' ops' besides' Memory = ⊤
  IsCause giver ops besides giver' ops' besides' (Reading q) = why giver giver' q
  IsCause giver ops besides giver' ops' besides' (Feeding e) = IsFirstStopped took stops ops besides ops' besides' e

-- what stopped the reading half stopped the deal
abbrev pub failed_by : {Q E : Type 0} → Stop Q E → Failure Q E
failed_by (half.Reading q) = Reading q
failed_by (half.Feeding e) = Feeding e
