-- What stands of a plan's queries while they go over the sessions of one pool: once their sessions came, and once they ran.
use Rattle.std.proofs.Common.{◌≡◌, ◌∙◌, ◌≤◌, ℕ, Bool, List, Option, Some, Result, length, map, sym, ap, subst}
use Rattle.std.specs.List.{AllByRecursion, slice_get}
use Rattle.std.specs.Option.{option_map}
use Rattle.std.proofs.lemmas.List.{length-map}
use Rattle.reservation_tree.specs.declared.errors.PoolErr.{PoolErr}
use Rattle.turn_table.specs.Face.{Spot}
use Rattle.pool_model.specs.Bytes.{bytes_of}
use Rattle.pool_model.specs.State.{Opening}
use Rattle.pool.specs.declared.ask.Ask.{Ask}
use Rattle.pool.specs.declared.item.Item.{Item}
use Rattle.pool.specs.Asking.{Admits, refusal_in}
use Rattle.pool.specs.Remaining.{all_left}
use Rattle.pool.specs.Remaining as asked
use Rattle.pool.specs.Sitting.{Sitting, held_by, signs_by}
use Rattle.query_plan.specs.declared.plan.Query.{Query}
use Rattle.spill_top.specs.declared.job.Job.{Job}
use Rattle.spill_top.specs.Jobs.{begun, work_of}
use Rattle.spill_top.specs.Reserving.{refusals}
use Rattle.spill_top.specs.Steps.{KeepRefused}
use Rattle.spill_top.specs.Together.{AreAnswered, ask_of, job_with, over_seat}
use Rattle.spill_top.proofs.Coming.{Shape, seen_in}
use Rattle.spill_top.proofs.Opened.{admits_so, begin_so, len_so, shapes_so}
use Rattle.spill_top.proofs.Ready.{come_at}
use Rattle.spill_top.proofs.Sessions.{AllAlike, HasCome, all_alike, firsts_are, stays_of}
use Rattle.spill_top.proofs.Stays.{first_of, firsts_of}
use Rattle.spill_top.proofs.Stepping.{firsts_seen, map_both, seen_same}

module _ {V Came St S K : Type 0} (items : V → List Came) (sits : Came → Sitting) (see : St → Sitting) (remaining : S → Option (List ℕ)) (reads : S → ℕ) (contents : K → Option (List ℕ)) (writes : K → ℕ) (o : Opening) (told : Bool) (before mid : Spot Item) (queries : List Query) where
  -- their sessions came, or were refused, and they begin
  pub record AreSeated (answers : List (Result V PoolErr)) (jobs : List (Job S K St)) : Type 0 where
    pub first : map (over_seat see) jobs ≡ map job_with (map (seen_in items sits) answers)
    pub begin : map (work_of remaining reads contents writes) jobs ≡ map begun (refusals o.block_len (bytes_of o.block_len o.blocks) queries)
    pub many : length queries ≡ length jobs
    pub shapes : AllByRecursion Shape (map (seen_in items sits) answers)
    pub admits : Admits o told (map (ask_of o.block_len) queries) before mid (map (seen_in items sits) answers)

  pub are_seated : (asks : List Ask) → asks ≡ map (ask_of o.block_len) queries → length queries ≤ 16 → (answers : List (Result V PoolErr)) → Admits o told asks before mid (map (seen_in items sits) answers)
      → map refusal_in (map (seen_in items sits) answers) ≡ asked.refusals asks (all_left o) → (jobs : List (Job S K St)) → map (over_seat see) jobs ≡ map (λ answer. job_with (seen_in items sits answer)) answers
      → AreSeated answers jobs
  are_seated asks asks_are few answers admits fresh jobs seated = let first = seated ∙ sym (map_both (job_with {S = S} {K = K}) (seen_in items sits) answers) in record {
    first = first;
    begin = sym (map_both (work_of remaining reads contents writes) (over_seat see) jobs) ∙ ap (map (work_of remaining reads contents writes)) first ∙ begin_so items sits o told before mid queries asks asks_are few answers admits fresh S K remaining reads contents writes;
    many = sym (sym (length-map jobs (over_seat see)) ∙ ap length seated ∙ length-map answers (λ (answer : Result V PoolErr). job_with {S = S} {K = K} (seen_in items sits answer)) ∙ len_so items sits o told before mid queries asks asks_are few answers admits fresh S K remaining reads contents writes);
    shapes = shapes_so items sits o told before mid queries asks asks_are few answers admits fresh;
    admits = admits_so items sits o told before mid queries asks asks_are few answers admits fresh;
  }

  -- they ran, or had ended: each session is the one that came
  pub record HaveRun (answers : List (Result V PoolErr)) (old new : List (Job S K St)) : Type 0 where
    pub many : length queries ≡ length old
    pub same : length new ≡ length old
    pub answered : AreAnswered remaining reads contents writes (λ s. held_by o told (see s)) (λ s. signs_by o (see s)) queries old new
    pub come : (place : ℕ) (query : Query) (job : Job S K St) → slice_get queries place ≡ Some query → slice_get old place ≡ Some job → HasCome remaining reads contents writes o told see query job
    pub alike : AllAlike remaining reads contents writes o told see old new
    pub firsts : firsts_of (stays_of remaining reads contents writes o told see old new) ≡ map first_of (map (seen_in items sits) answers)

  module _ (answers : List (Result V PoolErr)) (begins old new : List (Job S K St)) (seated : AreSeated answers begins) (long : length old ≡ length begins)
      (refused : KeepRefused (map (work_of remaining reads contents writes) begins) (map (work_of remaining reads contents writes) old)) (sessions : map (λ (job : Job S K St). job.session) old ≡ map (λ (job : Job S K St). job.session) begins)
      (slice : List Query) (given left : List (Job S K St)) (slice_is : slice ≡ queries) (given_is : given ≡ old) (left_is : new ≡ left) (as_long : length left ≡ length given)
      (are : AreAnswered remaining reads contents writes (λ s. held_by o told (see s)) (λ s. signs_by o (see s)) slice given left) where
    as_many : length queries ≡ length old
    as_many = seated.many ∙ sym long

    same_long : length new ≡ length old
    same_long = ap length left_is ∙ as_long ∙ ap length given_is

    all_answered : AreAnswered remaining reads contents writes (λ s. held_by o told (see s)) (λ s. signs_by o (see s)) queries old new
    all_answered =
        subst (AreAnswered remaining reads contents writes (λ s. held_by o told (see s)) (λ s. signs_by o (see s)) queries old) (sym left_is)
        (subst (λ (qs : List Query). AreAnswered remaining reads contents writes (λ s. held_by o told (see s)) (λ s. signs_by o (see s)) qs old left) slice_is
        (subst (λ (js : List (Job S K St)). AreAnswered remaining reads contents writes (λ s. held_by o told (see s)) (λ s. signs_by o (see s)) slice js left) given_is are))

    all_come : (place : ℕ) (query : Query) (job : Job S K St) → slice_get queries place ≡ Some query → slice_get old place ≡ Some job → HasCome remaining reads contents writes o told see query job
    all_come = come_at see remaining reads contents writes o told mid queries (map (seen_in items sits) answers) seated.shapes seated.admits.sessions begins old seated.first refused sessions

    alike : AllAlike remaining reads contents writes o told see old new
    alike = all_alike remaining reads contents writes o told see queries old new as_many same_long all_answered all_come

    pub have_run : HaveRun answers old new
    have_run = record {
      many = as_many;
      same = same_long;
      answered = all_answered;
      come = all_come;
      alike = alike;
      firsts = firsts_are remaining reads contents writes o told see old new alike ∙ seen_same (option_map see) (λ (job : Job S K St). job.session) old begins sessions
          ∙ sym (map_both (λ (job : Job S K Sitting). job.session) (over_seat see) begins) ∙ ap (map (λ (job : Job S K Sitting). job.session)) seated.first ∙ firsts_seen S K (map (seen_in items sits) answers);
    }
