-- What a reading half did, and what was dealt to all feeders. Lists run from the first item to the last.
use Rattle.std.specs.Prelude.{◌≡◌, ℕ, ◌+◌, ◌<◌, List, [], Result, OnOk, IfErr, length, slice_index_or, sum_by}
use Rattle.crossbeam_queue.specs.Passes.{IsPassOf, IsSamePass, Pass, view}
use Rattle.crossbeam_queue.specs.declared.array_queue.Doing.{Doing}
use Rattle.crossbeam_queue.specs.declared.array_queue.Slotted.{Slotted}
use Rattle.std.specs.Prelude.{Option}
use Rattle.fragments.specs.declared.rule.Tally.{Tally}
use Rattle.fragments.specs.declared.reading.Stop.{Stop}
use Rattle.fragments.specs.Running.{EndsAt, Goes, GoesOn, MayRun, ReadsOn, StopsAt, StopsSo}

module _ {T F C S Q A : Type 0} where
  -- a reading half may begin: it has a part of the queue, and is given what the queue and its feeder admit
  pub record MayRead (queue : Slotted (Option T) (Doing T (Tally T)) Q A) (admits : T → Type 0) (ready : F → C → Type 0) (takes : F → C → T → Type 0)
      (gives_now : S → Type 0) (gives : S → T → Type 0) (pass : Pass T (Tally T)) (giver : S) (op : F) (beside : C) : Type 0 where
    pub pass_of : IsPassOf queue pass
    pub part : 0 < (view pass).parts
    pub giver_ready : gives_now giver
    pub admitted : (x : T) → gives giver x → admits x
    pub may : MayRun admits ready takes op beside

module _ {T F C S E Q : Type 0} (admits : T → Type 0) (ready : F → C → Type 0) (takes : F → C → T → Type 0)
    (took : F → C → F → C → List T → Type 0) (went : F → C → F → C → Type 0) (stops : F → C → C → E → Type 0)
    (gave ended : S → S → List T → Type 0) (left : S → S → Type 0) (why : S → S → Q → Type 0) where
  -- the reading half has put all that was given, and its feeder took what its pass took; or something stopped it
  pub record DidRead (pass : Pass T (Tally T)) (giver : S) (op : F) (beside : C) (pass' : Pass T (Tally T))
      (giver' : S) (op' : F) (beside' : C) (outcome : Result (Unit {0}) (Stop Q E)) : Type 0 where
    pub same : IsSamePass pass pass'
    pub parts : (view pass').parts ≡ (view pass).parts
    pub read : OnOk outcome (ReadsOn gave ended giver giver' (view pass).put (view pass').put)
    pub may : MayRun admits ready takes op' beside'
    pub fed : OnOk outcome (GoesOn took op beside op' beside' (view pass) (view pass'))
    pub feeder : Goes went op beside op' beside'
    pub giver_left : EndsAt left giver giver'
    pub cause : IfErr outcome (StopsAt left why giver giver' (StopsSo went stops op beside beside'))

module _ {T F C S : Type 0} (took : F → C → F → C → List T → Type 0) (ended : S → S → List T → Type 0) where
  -- all that was given went to the feeders, each item as often as it was given
  pub record IsDealt (giver : S) (ops : List F) (besides : List C) (giver' : S) (ops' : List F) (besides' : List C) : Type 0 where
    pub all : List T
    pub given : ended giver giver' all
    pub lists : List (List T)
    pub len : length lists ≡ length ops
    pub ops_len : length ops' ≡ length ops
    pub each : (k : ℕ) (f : F) (c : C) → k < length ops
        → took (slice_index_or ops k f) (slice_index_or besides k c) (slice_index_or ops' k f) (slice_index_or besides' k c) (slice_index_or lists k [])
    pub even : (h : T → ℕ) → sum_by h all ≡ sum_by (sum_by h) lists
