-- How a check ends: what becomes of its output, and what it comes to.
use Rattle.std.proofs.Common.{◌≡◌, ◌∙◌, ◌-◌, ◌^◌, ℕ, Bool, List, [], Option, Some, None, IfSome, IsSome, inl, inr, arith, refl, subst}
use Rattle.std.specs.Prelude.{◌⊎◌}
use Rattle.std.proofs.lemmas.Bool.{cases_lt, false≢true}
use Rattle.outside.specs.Counts.{Rose}
use Rattle.outside.specs.Names.{NowWritten, StartsEmpty, TakesFaults, Written, fresh}
use Rattle.pin_core.proofs.Tallied.{uncounted_yet}
use Rattle.reservation_tree.specs.declared.errors.PoolErr.{PoolErr}
use Rattle.reservation_tree.specs.declared.errors.PoolErr.TheVariants as pool
use Rattle.query_run.specs.Both.{Told}
use Rattle.query_plan.specs.declared.outcome.QueryErr.{QueryErr}
use Rattle.query_plan.specs.declared.outcome.QueryErr.TheVariants as query
use Rattle.query_plan.specs.declared.outcome.Ran.{Ran}
use Rattle.run_report.specs.Report.{outcome_text}
use Rattle.spill_top.specs.declared.ending.Ending.{Ending}
use Rattle.spill_top.specs.declared.ending.Ending.TheVariants.{Lines, Reservation, Stopped}
use Rattle.spill_top.specs.declared.words.Check.{Check}
use Rattle.spill_top.specs.CheckPlan.{IsInRange, checking, output_name, refused_of}
use Rattle.spill_top.specs.Checking.{Checked, HasAnswer, HasNoAnswer, IsCheckStatus, IsCheckStop, TellsAnswer, output_at, summary_of}
use Rattle.spill_top.specs.Endings.{outcome_of, status_of, status_of_error, status_of_pool}
use Rattle.spill_top.specs.Pooled.{IsPoolStop}
use Rattle.spill_top.specs.Ran.{Telling}
use Rattle.spill_top.specs.Report.{Tells, TellsOrMisses, shortage}
use Rattle.spill_top.specs.Running.{Seen, WentAt}
use Rattle.spill_top.proofs.CheckClear.{none_clear, told_clear}

-- an output that was created, and whose sink began empty, is fresh until it is given back
pub since_created : (before mid : Option Written) (first : Option (List ℕ)) (holds : Option (List ℕ) → Type 0) → NowWritten before mid fresh → StartsEmpty before first → holds first
    → IfSome before (λ _. (mid ≡ Some fresh) × holds (Some []))
since_created None mid first holds now empty held = tt
since_created (Some before) mid first holds now empty held = (now, subst holds empty held)

-- a fault of a sink that had none is a fault of its output
pub sink_failed : (start now before after : ℕ) → start ≡ 0 → TakesFaults now before after → Rose start now → Rose before after
sink_failed start now before after none takes rose = takes (elim (cases_lt now (2 ^ 64 - 1)) [
  | inl below ↦ (let more = rose below in omega (arith, none, more))
  | inr last ↦ omega (arith, last)
])

-- why a query stopped stays so, if a failure of its sink is one of its output
pub stop_later : (check : Check) (tell : Bool) (quota : ℕ) (S W W' : Type 0) (why : QueryErr) → (W → W') → IsCheckStop check tell quota S W why → IsCheckStop check tell quota S W' why
stop_later check tell quota S W W' (query.SourceFault side) later stop = stop
stop_later check tell quota S W W' (query.BadHeader side) later stop = stop
stop_later check tell quota S W W' (query.BadCsv side number) later stop = stop
stop_later check tell quota S W W' (query.BadField side number column) later stop = stop
stop_later check tell quota S W W' (query.TooLarge side) later stop = stop
stop_later check tell quota S W W' (query.RowTooLong side number bytes) later stop = stop
stop_later check tell quota S W W' query.SinkFault later stop = later stop
stop_later check tell quota S W W' (query.Pool e) later stop = stop

-- no other output is touched, and no input
pub no_call : (at : Seen) → WentAt output_name at at
no_call at = record { went = record { files = λ name. refl; reads = λ name. omega arith; created = λ name is. is; writes = λ name. omega arith; slots = uncounted_yet at.slots }; others = λ other ne. refl }

-- ---- what it comes to

some-or-none : (o : Option Ending) → o ≡ None → IsSome o → {A : Type 0} → A
some-or-none None none some = absurd (false≢true some)
some-or-none (Some x) none some = cc

module _ (check : Check) (quota : ℕ) (start now : Seen) (before after : Telling) (status : ℕ) where
  pub checked_answer : (ran : Ran) → HasAnswer check start.slots now.slots (output_at start.written start.writes) (output_at now.written now.writes) ran
      → TellsAnswer (outcome_text None (summary_of ran)) before after status → WentAt output_name start now → Checked quota start now before after status check
  checked_answer ran has tells went = record {
    comes_to = inl (record { ran = ran; has = has; tells = tells });
    status_is = status-is tells;
    refused = λ six. absurd (not-six tells six);
    refuses = λ some. some-or-none (refused_of check) has.reserved some;
    completes = λ clear. told_clear _ before after status clear.told tells;
    went = went;
  }
    where
      status-is : TellsAnswer (outcome_text None (summary_of ran)) before after status → IsCheckStatus status
      status-is (inl whole) = inl whole.0
      status-is (inr (inl front)) = inr (inr (inr (inr (inl front.0))))
      status-is (inr (inr missing)) = inr (inr (inr (inr (inr missing.0))))

      not-six : TellsAnswer (outcome_text None (summary_of ran)) before after status → status ≡ 6 → ⊥
      not-six (inl whole) six = let is = whole.0 in omega (arith, is, six)
      not-six (inr (inl front)) six = let is = front.0 in omega (arith, is, six)
      not-six (inr (inr missing)) six = let is = missing.0 in omega (arith, is, six)

  pool-status : (page : ℕ) (told : Option Told) (S : Type 0) (e : PoolErr) → IsPoolStop (checking check) page told quota S e → (status_of_pool e ≡ 7) ⊎ (status_of_pool e ≡ 8) ⊎ (status_of_pool e ≡ 10)
  pool-status page told S (pool.NoReservation tracker wanted room) stop = absurd stop
  pool-status page told S (pool.ScratchFull need free) stop = inl refl
  pool-status page told S (pool.WriteFault entry) stop = inr (inl refl)
  pool-status page told S (pool.ReadFault entry) stop = inr (inl refl)
  pool-status page told S (pool.TooManyTrackers count) stop = absurd stop
  pool-status page told S pool.NamesSpent stop = inl refl
  pool-status page told S pool.Memory stop = inr (inr refl)
  pool-status page told S (pool.Stale wanted found) stop = absurd stop

  stop-status : (tell : Bool) (why : QueryErr) (S failed : Type 0) → IsCheckStop check tell quota S failed why → (status_of_error why ≡ 7) ⊎ (status_of_error why ≡ 8) ⊎ (status_of_error why ≡ 9) ⊎ (status_of_error why ≡ 10)
  stop-status tell (query.SourceFault side) S failed stop = absurd stop
  stop-status tell (query.BadHeader side) S failed stop = absurd stop
  stop-status tell (query.BadCsv side number) S failed stop = absurd stop
  stop-status tell (query.BadField side number column) S failed stop = absurd stop
  stop-status tell (query.TooLarge side) S failed stop = absurd stop
  stop-status tell (query.RowTooLong side number bytes) S failed stop = absurd stop
  stop-status tell query.SinkFault S failed stop = inr (inr (inl refl))
  stop-status tell (query.Pool e) S failed stop = elim (pool-status _ _ S e stop) [
    | inl seven ↦ inl seven
    | inr (inl eight) ↦ inr (inl eight)
    | inr (inr ten) ↦ inr (inr (inr ten))
  ]

  status-of-stop : (n : ℕ) → status ≡ n → (n ≡ 7) ⊎ (n ≡ 8) ⊎ (n ≡ 9) ⊎ (n ≡ 10) → IsCheckStatus status
  status-of-stop n is (inl seven) = inr (inr (inl (is ∙ seven)))
  status-of-stop n is (inr (inl eight)) = inr (inr (inr (inl (is ∙ eight))))
  status-of-stop n is (inr (inr (inl nine))) = inr (inr (inr (inr (inl (is ∙ nine)))))
  status-of-stop n is (inr (inr (inr ten))) = inr (inr (inr (inr (inr (is ∙ ten)))))

  not-six-of-stop : (n : ℕ) → status ≡ n → (n ≡ 7) ⊎ (n ≡ 8) ⊎ (n ≡ 9) ⊎ (n ≡ 10) → status ≡ 6 → ⊥
  not-six-of-stop n is (inl seven) six = omega (arith, is, seven, six)
  not-six-of-stop n is (inr (inl eight)) six = omega (arith, is, eight, six)
  not-six-of-stop n is (inr (inr (inl nine))) six = omega (arith, is, nine, six)
  not-six-of-stop n is (inr (inr (inr ten))) six = omega (arith, is, ten, six)

  pub checked_none : IsInRange check → (ending : Ending) → HasNoAnswer check quota start.slots now.slots (output_at start.written start.writes) (output_at now.written now.writes) ending
      → status ≡ status_of ending → TellsOrMisses (outcome_text None (outcome_of (checking check) ending)) before.text after.text before.faults after.faults → WentAt output_name start now
      → Checked quota start now before after status check
  checked_none range (Lines lines) has is tells went = absurd has.why
  checked_none range (Reservation root wanted room) has is tells went = record {
    comes_to = inr (inl (record { ending = Reservation root wanted room; has = has; status_is = is; tells = tells }));
    status_is = inr (inl is);
    refused = λ six. let why : refused_of check ≡ Some (Reservation root wanted room) = has.why in rw why refl;
    refuses = λ some. inl is;
    completes = λ clear. inr (none_clear check range quota start now before after clear (Reservation root wanted room) _ _ status clear.written has is);
    went = went;
  }
  checked_none range (Stopped why) has is tells went =
      let stop = stop-status _ why _ _ has.why.1 in
      record {
        comes_to = inr (inl (record { ending = Stopped why; has = has; status_is = is; tells = tells }));
        status_is = status-of-stop (status_of_error why) is stop;
        refused = λ six. absurd (not-six-of-stop (status_of_error why) is stop six);
        refuses = λ some. some-or-none (refused_of check) has.why.0 some;
        completes = λ clear. inr (none_clear check range quota start now before after clear (Stopped why) _ _ status clear.written has is);
        went = went;
      }

  pub checked_short : status ≡ 10 → Tells shortage before.text after.text before.faults after.faults → now.written output_name ≡ start.written output_name → WentAt output_name start now
      → Checked quota start now before after status check
  checked_short is tells same went = record {
    comes_to = inr (inr (same, record { status_is = is; tells = tells }));
    status_is = inr (inr (inr (inr (inr is))));
    refused = λ six. absurd (omega (arith, is, six));
    refuses = λ some. inr is;
    completes = λ clear. inr is;
    went = went;
  }

-- a check never answers the status of words that are none
pub check_never_one : (status : ℕ) → IsCheckStatus status → status ≡ 1 → ⊥
check_never_one status (inl is) one = omega (arith, is, one)
check_never_one status (inr (inl is)) one = omega (arith, is, one)
check_never_one status (inr (inr (inl is))) one = omega (arith, is, one)
check_never_one status (inr (inr (inr (inl is)))) one = omega (arith, is, one)
check_never_one status (inr (inr (inr (inr (inl is))))) one = omega (arith, is, one)
check_never_one status (inr (inr (inr (inr (inr is))))) one = omega (arith, is, one)
