-- What one thread did with a queue and its feeder. `w` is what its pass knows; lists run from the first item to the last.
use Rattle.std.specs.Prelude.{◌≡◌, List, [], ◌++◌, Result, OnOk, IfErr}
use Rattle.fragments.specs.declared.rule.Tally.{Tally}
use Rattle.fragments.specs.declared.reading.Stop.{Stop}
use Rattle.fragments.specs.declared.reading.Stop.TheVariants.{Reading, Feeding}

module _ {T F C : Type 0} where
  -- a feeder may be given what the queue admits
  pub record MayRun (admits : T → Type 0) (ready : F → C → Type 0) (takes : F → C → T → Type 0) (op : F) (beside : C) : Type 0 where
    pub ready_is : ready op beside
    pub takes_all : (x : T) → admits x → takes op beside x

  -- a feeder may begin: it may be given what the queue admits, and has taken nothing since it is what it is
  pub record MayBegin (admits : T → Type 0) (ready : F → C → Type 0) (takes : F → C → T → Type 0) (took : F → C → F → C → List T → Type 0)
      (went : F → C → F → C → Type 0) (op : F) (beside : C) : Type 0 where
    pub may : MayRun admits ready takes op beside
    pub none : took op beside op beside []
    pub here : went op beside op beside

  -- since it was the first one it has taken these
  pub record IsOn (took : F → C → F → C → List T → Type 0) (went : F → C → F → C → Type 0)
      (op : F) (beside : C) (op' : F) (beside' : C) (items : List T) : Type 0 where
    pub fed : took op beside op' beside' items
    pub left : went op beside op' beside'

  -- since it was the first one it has taken what its pass took, or was stopped
  pub record HasRun {E : Type 0} (took : F → C → F → C → List T → Type 0) (went : F → C → F → C → Type 0) (stops : F → C → C → E → Type 0)
      (op : F) (beside : C) (op' : F) (beside' : C) (items : List T) (outcome : Result (Unit {0}) E) : Type 0 where
    pub fed : OnOk outcome (took op beside op' beside' items)
    pub left : went op beside op' beside'
    pub cause : IfErr outcome (stops op beside beside')

  -- whatever it had taken before, it has taken what its pass took besides
  abbrev pub GoesOn : (F → C → F → C → List T → Type 0) → F → C → F → C → Tally T → Tally T → Type 0
  GoesOn took op beside op' beside' v w = (first : F) (c : C) → took first c op beside v.taken → took first c op' beside' w.taken

module _ {F C : Type 0} where
  -- whatever it had left before, it has left behind
  abbrev pub Goes : (F → C → F → C → Type 0) → F → C → F → C → Type 0
  Goes went op beside op' beside' = (first : F) (c : C) → went first c op beside → went first c op' beside'

  -- and was stopped so
  abbrev pub StopsSo : {E : Type 0} → (F → C → F → C → Type 0) → (F → C → C → E → Type 0) → F → C → C → E → Type 0
  StopsSo went stops op beside beside' e = (first : F) (c : C) → went first c op beside → stops first c beside' e

  -- it took some items more
  pub record TakesOn {T : Type 0} (took : F → C → F → C → List T → Type 0) (op : F) (beside : C) (op' : F) (beside' : C) (before after : List T) : Type 0 where
    pub more : List T
    pub added : after ≡ before ++ more
    pub fed : (first : F) (c : C) (items : List T) → took first c op beside items → took first c op' beside' (items ++ more)

module _ {S : Type 0} where
  -- whatever had been given before, all is given behind
  abbrev pub ReadsOn : {T : Type 0} → (S → S → List T → Type 0) → (S → S → List T → Type 0) → S → S → List T → List T → Type 0
  ReadsOn gave ended giver giver' before after = (first : S) → gave first giver before → ended first giver' after

  abbrev pub GivesOn : {T : Type 0} → (S → S → List T → Type 0) → S → S → List T → List T → Type 0
  GivesOn gave giver giver' before after = (first : S) → gave first giver before → gave first giver' after

  -- whatever it had left before, it has left behind
  abbrev pub EndsAt : (S → S → Type 0) → S → S → Type 0
  EndsAt went giver giver' = (first : S) → went first giver → went first giver'

  -- the giver or the feeder stopped it
  abbrev pub StopsAt : {Q E : Type 0} → (S → S → Type 0) → (S → S → Q → Type 0) → S → S → (E → Type 0) → Stop Q E → Type 0
  StopsAt went stops giver giver' feeding (Reading q) = (first : S) → went first giver → stops first giver' q
  StopsAt went stops giver giver' feeding (Feeding e) = feeding e
