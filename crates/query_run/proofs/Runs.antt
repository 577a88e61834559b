-- What a query read and wrote, carried on, and of one that found no memory at its beginning.
use Rattle.std.proofs.Common.{◌≡◌, ◌≢◌, ◌≤◌, ℕ, Bool, true, Option, Some, None, Result, Ok, Err, IfErr, IfOk, IfSome, IsErrOf, OnErr, OnOk, ap, inl, inr, refl, rules, subst, sym, ◌∙◌}
use Rattle.outside.specs.Sinks.{StopsAt}
use Rattle.outside.specs.declared.stream.Sink.{Ghosts as SinkGhosts}
use Rattle.outside.specs.declared.stream.Source.{Ghosts as SourceGhosts}
use Rattle.reservation_tree.specs.declared.errors.PoolErr.TheVariants.{Memory}
use Rattle.query_plan.specs.declared.outcome.QueryErr.{QueryErr}
use Rattle.query_plan.specs.declared.outcome.QueryErr.TheVariants.{Pool, SinkFault}
use Rattle.query_plan.specs.declared.outcome.Ran.{Ran}
use Rattle.query_plan.specs.declared.plan.Query.{Query}
use Rattle.query_run.specs.Answer.{Numbers}
use Rattle.query_run.specs.Both.{HoldsInput}
use Rattle.query_run.specs.Causes.{side_of}
use Rattle.query_run.specs.Refused.{SaysOfInputs}
use Rattle.query_run.specs.Run.{AreRead, HasAnswer, HasFront, ReadAndWrote, World, inputs, left_over, right_over}
use Rattle.query_run.specs.Stopped.{CountsSink}
use Rattle.query_run.proofs.Says.{says_neither}

-- an input that nothing was done to is as it was
holds_still : {S : Type 0} (faults : S → ℕ) (input : Option S) → HoldsInput faults input input
holds_still faults None = refl
holds_still faults (Some input) = search rules

not-sink : (result : Result Ran QueryErr) (why : QueryErr) → result ≡ Err why → why ≢ SinkFault → IsErrOf result SinkFault → ⊥
not-sink result why is other failed = other (let both = sym is ∙ failed in cc)

module _ {S K : Type 0} (source : SourceGhosts S) (target : SinkGhosts K) where
  -- the same length of a page, and the same word of the store on pins
  pub read_and_wrote_at : (plan : Query) (page len : ℕ) (told tells : Bool) (before after : World S K) (result : Result Ran QueryErr) → page ≡ len → told ≡ tells
      → ReadAndWrote source target plan page told before after result → ReadAndWrote source target plan len tells before after result
  read_and_wrote_at plan page len told tells before after result same is holds =
      subst (λ (n : ℕ). ReadAndWrote source target plan n tells before after result) same (subst (λ (t : Bool). ReadAndWrote source target plan page t before after result) is holds)

  pub nothing_read : (plan : Query) (page : ℕ) (tells : Bool) (w : World S K) → ReadAndWrote source target plan page tells w w (Err (Pool Memory))
  nothing_read plan page tells w = record {
    answer = λ told. tt;
    read = tt;
    numbers = tt;
    input = says_neither plan page _ _ _ refl;
    untouched = λ is. refl;
    front = λ told failed. absurd cc;
    stopped = inl refl;
    sink = record { fault = λ failed. absurd cc; quiet = inr refl; kept = search rules };
    stops = inl refl;
    sources = (search rules, holds_still source.faults w.right);
  }

  -- it stopped while it read, for another cause than its sink
  pub unread : (plan : Query) (page : ℕ) (tells : Bool) (before after : World S K) (why : QueryErr) → SaysOfInputs plan page (left_over source before after) (right_over source before after) why
      → why ≢ SinkFault → after.sink ≡ before.sink → (source.faults before.left ≤ source.faults after.left) × HoldsInput source.faults before.right after.right
      → ReadAndWrote source target plan page tells before after (Err why)
  unread plan page tells before after why says other same kept =
      record {
        answer = λ told. tt;
        read = tt;
        numbers = tt;
        input = says;
        untouched = λ is. same;
        front = λ told failed. absurd (not-sink (Err why) why refl other failed);
        stopped = inl same;
        sink = record { fault = λ failed. absurd (not-sink (Err why) why refl other failed); quiet = inr (ap target.faults same); kept = rw same (search rules) };
        stops = inl (ap target.at_failure same);
        sources = kept;
      }

  -- all was read, and it wrote the whole answer, or a front of it
  pub wrote : (plan : Query) (page : ℕ) (tells : Bool) (before after : World S K) (result : Result Ran QueryErr) → AreRead source after
      → (tells ≡ true → OnOk result (HasAnswer source target plan page before after)) → IfOk result (λ ran. IfSome (inputs source before) (Numbers plan page tells ran))
      → IfErr result (λ e. side_of e ≡ None) → (tells ≡ true → OnErr result (HasFront source target plan page before after))
      → CountsSink (IsErrOf result SinkFault) (target.faults before.sink) (target.faults after.sink)
      → StopsAt (IsErrOf result SinkFault) (target.at_failure before.sink) (target.at_failure after.sink) (target.contents after.sink)
      → (source.faults before.left ≤ source.faults after.left) × HoldsInput source.faults before.right after.right
      → ReadAndWrote source target plan page tells before after result
  wrote plan page tells before after (Ok ran) read answer numbers cause front counts stops kept = record {
    answer = answer;
    read = read;
    numbers = numbers;
    input = tt;
    untouched = tt;
    front = λ told failed. absurd cc;
    stopped = tt;
    sink = counts;
    stops = stops;
    sources = kept;
  }
  wrote plan page tells before after (Err e) read answer numbers cause front counts stops kept = record {
    answer = λ told. tt;
    read = tt;
    numbers = tt;
    input = says_neither plan page _ _ e cause;
    untouched = λ is. absurd (let none = rw cause at is in cc);
    front = λ told failed. front told;
    stopped = inr (read, front);
    sink = counts;
    stops = stops;
    sources = kept;
  }
