-- A command that finds no memory for its words.
use Rattle.std.proofs.Common.{◌≡◌, ◌∙◌, ◌↔◌, ◌==◌, inl, inr, ℕ, Bool, true, false, List, [], ◌∷◌, Option, Some, None, IfSome, refl, sym, subst, arith}
use Rattle.std.specs.Prelude.{if◌then◌else◌}
use Rattle.std.proofs.lemmas.Option.{none-some}
use Rattle.outside.specs.Faults.{Faults}
use Rattle.pin_core.specs.declared.tally.Tally.{Tally}
use Rattle.reservation_tree.specs.declared.errors.PoolErr.{PoolErr}
use Rattle.reservation_tree.specs.declared.errors.PoolErr.TheVariants as pool
use Rattle.query_plan.specs.declared.outcome.QueryErr.{QueryErr}
use Rattle.query_plan.specs.declared.outcome.QueryErr.TheVariants as query
use Rattle.spill_top.specs.declared.ending.Ending.{Ending}
use Rattle.spill_top.specs.declared.ending.Ending.TheVariants.{Lines, Reservation, Stopped}
use Rattle.spill_top.specs.Endings.{status_of, status_of_error, status_of_pool}
use Rattle.spill_top.specs.Headline.{Counted, IsStatus}
use Rattle.spill_top.specs.Ran.{IsRunStatus, RanPlan, Telling, first_status}
use Rattle.spill_top.specs.Report.{Tells, shortage}
use Rattle.spill_top.specs.Running.{Seen}
use Rattle.spill_top.specs.Words.{Command}

short-count : (bytes_at : List ℕ → Option (List ℕ)) (faults faults_now : List ℕ → ℕ) (slots slots_now : Tally) (report report_now : Option (List ℕ)) (writes writes_now : Faults) (command : Command) → Tells shortage report report_now writes writes_now
    → Counted bytes_at faults faults_now slots slots_now report report_now writes writes_now 10 command
short-count bytes_at faults faults_now slots slots_now report report_now writes writes_now command tells = record {
  status_is = inr (inr (inr (inr (inr (inr (inr refl))))));
  answer = λ tell (is : 10 ≡ 0). absurd (omega (arith, is));
  input_fault = λ (is : 10 ≡ 3). absurd (omega (arith, is));
  device_fault = λ (is : 10 ≡ 8). absurd (omega (arith, is));
  refused = λ zero nine ten. absurd (ten refl);
  lacks_memory = λ is. inl tells;
  quiet = λ (is : 10 ≡ 0). absurd (omega (arith, is));
  stored = λ (is : 10 ≡ 0). absurd (omega (arith, is));
  output_fault = λ (is : 10 ≡ 9). absurd (omega (arith, is));
  part = λ tell (is : 10 ≡ 9). absurd (omega (arith, is));
  refuses = λ tell why refuses. inr (inr (inr (inr refl)));
  too_many = λ tell many. inr (inr (inr (inr (inr refl))));
  succeeds = λ accepts. inr (inr (inr refl));
  suffices = λ enough (is : 10 ≡ 7). omega (arith, is);
}

short-run : (file : List ℕ) (slots : ℕ) (start now : Seen) (before after : Telling) → ((name : List ℕ) → now.written name ≡ start.written name) → Tells shortage before.text after.text before.faults after.faults
    → RanPlan file slots start now before after 10
short-run file slots start now before after same tells = inr (same, inr (inr (record { status_is = refl; tells = tells })))

-- what holds of each holds of the one that is there, if one is
pub of_each : {A : Type 0} → (found : Option A) (holds : A → Type 0) → ((x : A) → holds x) → IfSome found holds
of_each None holds all = tt
of_each (Some x) holds all = all x

pub counted_short : (bytes_at : List ℕ → Option (List ℕ)) (faults faults_now : List ℕ → ℕ) (slots slots_now : Tally) (report report_now : Option (List ℕ)) (writes writes_now : Faults) (status : ℕ) (command : Command) → status ≡ 10 → Tells shortage report report_now writes writes_now
    → Counted bytes_at faults faults_now slots slots_now report report_now writes writes_now status command
counted_short bytes_at faults faults_now slots slots_now report report_now writes writes_now status command is tells =
    subst (λ (n : ℕ). Counted bytes_at faults faults_now slots slots_now report report_now writes writes_now n command) (sym is) (short-count bytes_at faults faults_now slots slots_now report report_now writes writes_now command tells)

pub ran_short : (file : List ℕ) (slots status : ℕ) (start now : Seen) (before after : Telling) → status ≡ 10 → ((name : List ℕ) → now.written name ≡ start.written name) → Tells shortage before.text after.text before.faults after.faults
    → RanPlan file slots start now before after status
ran_short file slots status start now before after is same tells = subst (λ (n : ℕ). RanPlan file slots start now before after n) (sym is) (short-run file slots start now before after same tells)

-- a command never answers the status of words that are none
pub count_never_one : (status : ℕ) → IsStatus status → status ≡ 1 → ⊥
count_never_one status (inl is) one = omega (arith, is, one)
count_never_one status (inr (inl is)) one = omega (arith, is, one)
count_never_one status (inr (inr (inl is))) one = omega (arith, is, one)
count_never_one status (inr (inr (inr (inl is)))) one = omega (arith, is, one)
count_never_one status (inr (inr (inr (inr (inl is))))) one = omega (arith, is, one)
count_never_one status (inr (inr (inr (inr (inr (inl is)))))) one = omega (arith, is, one)
count_never_one status (inr (inr (inr (inr (inr (inr (inl is))))))) one = omega (arith, is, one)
count_never_one status (inr (inr (inr (inr (inr (inr (inr is))))))) one = omega (arith, is, one)

pool-one : (e : PoolErr) → status_of_pool e ≡ 1 → ⊥
pool-one (pool.NoReservation tracker wanted room) one = omega (arith, one)
pool-one (pool.ScratchFull need free) one = omega (arith, one)
pool-one (pool.WriteFault entry) one = omega (arith, one)
pool-one (pool.ReadFault entry) one = omega (arith, one)
pool-one (pool.TooManyTrackers count) one = omega (arith, one)
pool-one pool.NamesSpent one = omega (arith, one)
pool-one pool.Memory one = omega (arith, one)
pool-one (pool.Stale wanted found) one = omega (arith, one)

error-one : (why : QueryErr) → status_of_error why ≡ 1 → ⊥
error-one (query.SourceFault side) one = omega (arith, one)
error-one (query.BadHeader side) one = omega (arith, one)
error-one (query.BadCsv side number) one = omega (arith, one)
error-one (query.BadField side number column) one = omega (arith, one)
error-one (query.TooLarge side) one = omega (arith, one)
error-one (query.RowTooLong side number weight) one = omega (arith, one)
error-one query.SinkFault one = omega (arith, one)
error-one (query.Pool why) one = pool-one why one

ending-one : (ending : Ending) → status_of ending ≡ 1 → ⊥
ending-one (Lines lines) one = omega (arith, one)
ending-one (Reservation root wanted room) one = omega (arith, one)
ending-one (Stopped why) one = error-one why one

either-one : (b : Bool) (x y : ℕ) → (x ≡ 1 → ⊥) → (y ≡ 1 → ⊥) → (if b then x else y) ≡ 1 → ⊥
either-one true x y no-x no-y one = no-x one
either-one false x y no-x no-y one = no-y one

first-one : (ends : List Ending) → first_status ends ≡ 1 → ⊥
first-one [] one = omega (arith, one)
first-one (ending ∷ ends) one = either-one (status_of ending == 0) (first_status ends) (status_of ending) (first-one ends) (ending-one ending) one

run-one : (ends : List Ending) (made : List Bool) (before now : Telling) (status : ℕ) → IsRunStatus (first_status ends) made before now status → status ≡ 1 → ⊥
run-one ends made before now status (inl first) one = first-one ends (sym first.1 ∙ one)
run-one ends made before now status (inr (none, inl whole)) one = let is = whole.0 in omega (arith, is, one)
run-one ends made before now status (inr (none, inr (inl fault))) one = let is = fault.0 in omega (arith, is, one)
run-one ends made before now status (inr (none, inr (inr short))) one = let is = short.0 in omega (arith, is, one)

pub run_never_one : (file : List ℕ) (slots : ℕ) (start now : Seen) (before after : Telling) (status : ℕ) → RanPlan file slots start now before after status → status ≡ 1 → ⊥
run_never_one file slots start now before after status (inl ran) one = run-one ran.ends ran.reported.made before after status ran.reported.status_is one
run_never_one file slots start now before after status (inr (same, inl unread)) one = let is = unread.status_is in omega (arith, is, one)
run_never_one file slots start now before after status (inr (same, inr (inl no_plan))) one = let is = no_plan.status_is in omega (arith, is, one)
run_never_one file slots start now before after status (inr (same, inr (inr wants))) one = let is = wants.status_is in omega (arith, is, one)

pub words_count : {X Y Z : Type 0} (found : Option X) (plan : Option Y) (check : Option Z) (x : X) (status : ℕ) → found ≡ Some x → (status ≡ 1 → ⊥) → (status ≡ 1) ↔ ((found ≡ None) × (plan ≡ None) × (check ≡ None))
words_count found plan check x status is never = ((λ one. absurd (never one)), (λ none. absurd (none-some x (sym none.0 ∙ is))))

pub words_run : {X Y Z : Type 0} (found : Option X) (plan : Option Y) (check : Option Z) (y : Y) (status : ℕ) → plan ≡ Some y → (status ≡ 1 → ⊥) → (status ≡ 1) ↔ ((found ≡ None) × (plan ≡ None) × (check ≡ None))
words_run found plan check y status is never = ((λ one. absurd (never one)), (λ none. absurd (none-some y (sym none.1 ∙ is))))

pub words_check : {X Y Z : Type 0} (found : Option X) (plan : Option Y) (check : Option Z) (z : Z) (status : ℕ) → check ≡ Some z → (status ≡ 1 → ⊥) → (status ≡ 1) ↔ ((found ≡ None) × (plan ≡ None) × (check ≡ None))
words_check found plan check z status is never = ((λ one. absurd (never one)), (λ none. absurd (none-some z (sym none.2 ∙ is))))
