-- A query whose inputs pass a gate stands as it does over its sources themselves.
use Rattle.std.proofs.Common.{◌≡◌, ◌∙◌, ℕ, List, Option, Some, None, refl, sym, subst, ap}
use Rattle.std.specs.Option.{option_map}
use Rattle.store_api.specs.Holdings.{Holdings}
use Rattle.store_api.specs.Signs.{Signs}
use Rattle.query_plan.specs.Sizes.{page_len}
use Rattle.query_plan.specs.declared.plan.Query.{Query}
use Rattle.query_run.specs.Both.{both_told, told_in}
use Rattle.query_run.specs.Stopped.{RanOver}
use Rattle.query_run.specs.Trail.{KeptRows}
use Rattle.spill_top.specs.declared.job.Job.{Job}
use Rattle.spill_top.specs.Jobs.{IsWork, Work, opened, work_of}
use Rattle.spill_top.specs.Together.{IsAnswered, RanOn}

-- jobs with the same of each are the same
same_job : {S K St : Type 0} (a b : Job S K St) → a.refused ≡ b.refused → a.left ≡ b.left → a.right ≡ b.right → a.sink ≡ b.sink → a.ended ≡ b.ended → a.session ≡ b.session → a ≡ b
same_job a b refused left right sink ended session =
    ap (λ x. record { refused = x; left = a.left; right = a.right; sink = a.sink; ended = a.ended; session = a.session }) refused
    ∙ ap (λ x. record { refused = b.refused; left = x; right = a.right; sink = a.sink; ended = a.ended; session = a.session }) left
    ∙ ap (λ x. record { refused = b.refused; left = b.left; right = x; sink = a.sink; ended = a.ended; session = a.session }) right
    ∙ ap (λ x. record { refused = b.refused; left = b.left; right = b.right; sink = x; ended = a.ended; session = a.session }) sink
    ∙ ap (λ x. record { refused = b.refused; left = b.left; right = b.right; sink = b.sink; ended = x; session = a.session }) ended
    ∙ ap (λ x. record { refused = b.refused; left = b.left; right = b.right; sink = b.sink; ended = b.ended; session = x }) session

module _ {P S K St : Type 0} (source : P → S) (remaining : S → Option (List ℕ)) (reads : S → ℕ) (contents : K → Option (List ℕ)) (writes : K → ℕ) (holds : St → Holdings) (signs : St → Signs) where
  -- the same over the sources themselves
  abbrev bare : Job P K St → Job S K St
  bare job = record { refused = job.refused; left = option_map source job.left; right = option_map source job.right; sink = job.sink; ended = job.ended; session = job.session }

  -- what a source shows
  opened_bare : (o : Option P) → option_map (λ s. opened (remaining s) (reads s)) (option_map source o) ≡ option_map (λ p. opened (remaining (source p)) (reads (source p))) o
  opened_bare None = refl
  opened_bare (Some p) = refl

  told_bare : (o : Option P) → told_in remaining (option_map source o) ≡ told_in (λ p. remaining (source p)) o
  told_bare None = refl
  told_bare (Some p) = refl

  -- what is shown of the query
  work_bare : (job : Job P K St) → work_of remaining reads contents writes (bare job) ≡ work_of (λ p. remaining (source p)) (λ p. reads (source p)) contents writes job
  work_bare job =
      ap (λ l. record { refused = job.refused; left = l; right = option_map (λ s. opened (remaining s) (reads s)) (option_map source job.right); output = option_map (λ k. opened (contents k) (writes k)) job.sink; ended = job.ended }) (opened_bare job.left)
      ∙ ap (λ r. record { refused = job.refused; left = option_map (λ p. opened (remaining (source p)) (reads (source p))) job.left; right = r; output = option_map (λ k. opened (contents k) (writes k)) job.sink; ended = job.ended }) (opened_bare job.right)

  -- it ran
  ran_bare : (query : Query) (old new : Job P K St) → RanOn (λ p. remaining (source p)) (λ p. reads (source p)) contents writes holds signs query old new
      → RanOn remaining reads contents writes holds signs query (bare old) (bare new)
  ran_bare query old new ran = record {
    session = ran.session;
    later = ran.later;
    before = ran.before;
    after = ran.after;
    over =
        subst (λ l. RanOver query (both_told l (told_in remaining (option_map source old.right))) (holds ran.session) (holds ran.later) (signs ran.session) (signs ran.later)) (sym (told_bare old.left))
        (subst (λ r. RanOver query (both_told (told_in (λ p. remaining (source p)) old.left) r) (holds ran.session) (holds ran.later) (signs ran.session) (signs ran.later)) (sym (told_bare old.right)) ran.over);
    kept = λ has.
        subst (λ l. KeptRows query (page_len query (holds ran.session).block_len) l (told_in remaining (option_map source old.right)) (signs ran.session).trail (signs ran.later).trail) (sym (told_bare old.left))
        (subst (λ r. KeptRows query (page_len query (holds ran.session).block_len) (told_in (λ p. remaining (source p)) old.left) r (signs ran.session).trail (signs ran.later).trail) (sym (told_bare old.right)) (ran.kept has));
    work = λ start at block_len all stops is.
        subst (λ (w : Work). IsWork start at block_len all query w) (sym (work_bare new)) (ran.work start at block_len all stops (subst (λ (w : Work). IsWork start at block_len all query w) (work_bare old) is));
  }

  -- it was answered
  answered_bare : (query : Query) (old new : Job P K St) → IsAnswered (λ p. remaining (source p)) (λ p. reads (source p)) contents writes holds signs query old new
      → IsAnswered remaining reads contents writes holds signs query (bare old) (bare new)
  answered_bare query old new is = record {
    refused = is.refused;
    ended = is.ended;
    stays = λ some. ap bare (is.stays some);
    ran = λ on. ran_bare query old new (is.ran on);
  }

  -- the same of jobs that have these sources, sinks and sessions
  pub answered_so : (query : Query) (job job_now : Job S K St) (old new : Job P K St)
      → job.refused ≡ old.refused → option_map source old.left ≡ job.left → option_map source old.right ≡ job.right → old.sink ≡ job.sink → job.ended ≡ old.ended → old.session ≡ job.session
      → job_now.refused ≡ job.refused → job_now.left ≡ option_map source new.left → job_now.right ≡ option_map source new.right → job_now.sink ≡ new.sink → job_now.ended ≡ new.ended → job_now.session ≡ new.session
      → IsAnswered (λ p. remaining (source p)) (λ p. reads (source p)) contents writes holds signs query old new → IsAnswered remaining reads contents writes holds signs query job job_now
  answered_so query job job_now old new refused left right sink ended session refused_now left_now right_now sink_now ended_now session_now is =
      let was : job ≡ bare old = same_job job (bare old) refused (sym left) (sym right) (sym sink) ended (sym session) in
      let now : job_now ≡ bare new = same_job job_now (bare new) (refused_now ∙ refused ∙ sym is.refused) left_now right_now sink_now ended_now session_now in
      subst (λ (j : Job S K St). IsAnswered remaining reads contents writes holds signs query j job_now) (sym was)
      (subst (λ (j : Job S K St). IsAnswered remaining reads contents writes holds signs query (bare old) j) (sym now) (answered_bare query old new is))
