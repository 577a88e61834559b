-- Why a command was refused.
use Rattle.std.proofs.Common.{◌≡◌, ◌≢◌, ◌∙◌, ◌*◌, ◌^◌, ◌<◌, ◌≤◌, ℕ, List, Option, Some, None, IfSome, sym, refl, subst, arith}
use Rattle.std.proofs.lemmas.Option.{none-some, same_Some}
use Rattle.outside.specs.Faults.{Faults}
use Rattle.outside.specs.Counts.{Rose}
use Rattle.outside.specs.Told.{GivesBytes}
use Rattle.pin_core.specs.declared.tally.Tally.{Tally}
use Rattle.query_run.specs.Both.{Told}
use Rattle.query_run.specs.Through.{need, rows_through}
use Rattle.query_run.specs.Causes.{IsOfBytes, IsSourceFault, OfPool}
use Rattle.query_run.specs.Input.{IsRefusal}
use Rattle.query_plan.specs.declared.outcome.QueryErr.{QueryErr}
use Rattle.query_plan.specs.declared.outcome.QueryErr.TheVariants as query
use Rattle.spill_top.specs.declared.report.Refusal.{Refusal}
use Rattle.spill_top.specs.declared.report.Refusal.TheVariants.{InputFault, Header, Csv, Large, Row, Scratch, Names, Write, Read}
use Rattle.spill_top.specs.Counting.{counting}
use Rattle.spill_top.specs.Headline.{IsCause, IsOfInput, Refuses, Suffices, page_bytes}
use Rattle.spill_top.specs.Pooled.{HaveFailed}
use Rattle.spill_top.specs.Report.{status_of}
use Rattle.spill_top.specs.Refusals.{refusal_for, refusal_of_pool}
use Rattle.spill_top.specs.Words.{Command}

-- what holds of the bytes that a source gives holds of those that stand under its name
pub told_some : (P : List ℕ → Type 0) (told given : Option (List ℕ)) → GivesBytes told given → IfSome given P → IfSome told P
told_some P None given gives holds = tt
told_some P (Some bytes) given gives holds = subst (λ o. IfSome o P) gives holds

of-input : (told : Option (List ℕ)) (command : Command) (e : QueryErr) (refusal : Refusal) → refusal_for e ≡ Some refusal
    → IfSome told (λ bytes. IsRefusal (counting command) page_bytes bytes e) → IsOfInput told command refusal
of-input None command e refusal is refused = tt
of-input (Some bytes) command e refusal is refused = (e, refused, is)

-- the cause of a query is that of its command
pub cause_is : (told : Option (List ℕ)) (before now : ℕ) (slots slots_now : Tally) (command : Command) (e : QueryErr) (refusal : Refusal) → refusal_for e ≡ Some refusal
    → (IsOfBytes e → IfSome told (λ bytes. IsRefusal (counting command) page_bytes bytes e)) → (IsSourceFault e → Rose before now)
    → OfPool (λ why. (other : Refusal) → refusal_of_pool why ≡ Some other → IsCause told before now slots slots_now command other) e
    → IsCause told before now slots slots_now command refusal
cause_is told before now slots slots_now command (query.SourceFault side) refusal is bytes fault stop = subst (IsCause told before now slots slots_now command) (same_Some InputFault refusal is) (fault (side, refl))
cause_is told before now slots slots_now command query.SinkFault refusal is bytes fault stop = absurd (none-some refusal is)
cause_is told before now slots slots_now command (query.Pool e) refusal is bytes fault stop = stop refusal is
cause_is told before now slots slots_now command (query.BadHeader side) refusal is bytes fault stop =
    subst (IsCause told before now slots slots_now command) (same_Some Header refusal is) (of-input told command (query.BadHeader side) Header refl (bytes tt))
cause_is told before now slots slots_now command (query.BadCsv side number) refusal is bytes fault stop =
    subst (IsCause told before now slots slots_now command) (same_Some (Csv number) refusal is) (of-input told command (query.BadCsv side number) (Csv number) refl (bytes tt))
cause_is told before now slots slots_now command (query.BadField side number column) refusal is bytes fault stop = absurd (none-some refusal is)
cause_is told before now slots slots_now command (query.TooLarge side) refusal is bytes fault stop =
    subst (IsCause told before now slots slots_now command) (same_Some Large refusal is) (of-input told command (query.TooLarge side) Large refl (bytes tt))
cause_is told before now slots slots_now command (query.RowTooLong side number weight) refusal is bytes fault stop =
    subst (IsCause told before now slots slots_now command) (same_Some (Row number weight) refusal is) (of-input told command (query.RowTooLong side number weight) (Row number weight) refl (bytes tt))

device : (told : Option (List ℕ)) (before now : ℕ) (slots slots_now : Tally) (command : Command) (refusal : Refusal) → IsCause told before now slots slots_now command refusal → status_of refusal ≡ 8 → HaveFailed slots slots_now
device told before now slots slots_now command InputFault cause eight = absurd (omega (arith, eight))
device told before now slots slots_now command Header cause eight = absurd (omega (arith, eight))
device told before now slots slots_now command (Csv number) cause eight = absurd (omega (arith, eight))
device told before now slots slots_now command Large cause eight = absurd (omega (arith, eight))
device told before now slots slots_now command (Row number weight) cause eight = absurd (omega (arith, eight))
device told before now slots slots_now command (Scratch need free) cause eight = absurd (omega (arith, eight))
device told before now slots slots_now command Names cause eight = absurd (omega (arith, eight))
device told before now slots slots_now command (Write entry) cause eight = cause
device told before now slots slots_now command (Read entry) cause eight = cause

-- status 8 is a fault of a slot
pub device_fault : (status : ℕ) (command : Command) (told : Option (List ℕ)) (faults faults_now : ℕ) (slots slots_now : Tally) (report report_now : Option (List ℕ)) (writes writes_now : Faults) → status ≡ 8
    → Refuses status command told faults faults_now slots slots_now report report_now writes writes_now → HaveFailed slots slots_now
device_fault status command told faults faults_now slots slots_now report report_now writes writes_now eight refuses =
    device told faults faults_now slots slots_now command refuses.why refuses.cause (sym refuses.status_is ∙ eight)

-- where slots suffice, none is wanting, and no name
wants : (told : Option (List ℕ)) (before now : ℕ) (slots slots_now : Tally) (command : Command) (refusal : Refusal) → IsCause told before now slots slots_now command refusal → status_of refusal ≡ 7 → Suffices told slots command → ⊥
wants told before now slots slots_now command InputFault cause seven enough = absurd (omega (arith, seven))
wants told before now slots slots_now command Header cause seven enough = absurd (omega (arith, seven))
wants told before now slots slots_now command (Csv number) cause seven enough = absurd (omega (arith, seven))
wants told before now slots slots_now command Large cause seven enough = absurd (omega (arith, seven))
wants told before now slots slots_now command (Row number weight) cause seven enough = absurd (omega (arith, seven))
wants told before now slots slots_now command (Scratch blocks free) cause seven enough =
    let lacks : slots.slots < need (counting command) page_bytes enough.both * 1 =
    subst (λ (o : Option Told). IfSome o (λ both. slots.slots < need (counting command) page_bytes both * 1)) enough.told_is cause.2 in
    let has = enough.enough in
    omega (arith, lacks, has)
wants told before now slots slots_now command Names cause seven enough =
    let many : 2 ^ 55 ≤ rows_through (counting command) enough.both = subst (λ (o : Option Told). IfSome o (λ both. 2 ^ 55 ≤ rows_through (counting command) both)) enough.told_is cause in
    let few = enough.few in
    omega (arith, many, few)
wants told before now slots slots_now command (Write entry) cause seven enough = absurd (omega (arith, seven))
wants told before now slots slots_now command (Read entry) cause seven enough = absurd (omega (arith, seven))

pub never_wants : (status : ℕ) (command : Command) (told : Option (List ℕ)) (faults faults_now : ℕ) (slots slots_now : Tally) (report report_now : Option (List ℕ)) (writes writes_now : Faults)
    → (status ≢ 0 → status ≢ 9 → status ≢ 10 → Refuses status command told faults faults_now slots slots_now report report_now writes writes_now) → Suffices told slots command → status ≢ 7
never_wants status command told faults faults_now slots slots_now report report_now writes writes_now refused enough = λ seven.
    let refuses = refused (λ (is : status ≡ 0). omega (arith, is, seven)) (λ (is : status ≡ 9). omega (arith, is, seven)) (λ (is : status ≡ 10). omega (arith, is, seven)) in
    wants told faults faults_now slots slots_now command refuses.why refuses.cause (sym refuses.status_is ∙ seven) enough
