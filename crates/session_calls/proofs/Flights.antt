-- A page that is written by a maker, or loaded for it, while others have the value.
use Rattle.std.proofs.Common.{◌≡◌, ℕ, List, [], ◌++◌, Bool, Some, sym, ap, ◌∙◌, subst, inl, inr}
use Rattle.std.specs.FinMap.{get}
use Rattle.outside.specs.declared.slot.Slot.{Ghosts}
use Rattle.block_arena.specs.Memory.{IsBufferOf}
use Rattle.pool_model.specs.declared.entry.Entry.{Entry}
use Rattle.pool_model.specs.State.{Opening, Pinned, Flying, Loading, Page, State, page_at}
use Rattle.pool_model.specs.LookingBack.{content_of, content_from}
use Rattle.pool_model.specs.OwnLaws.{IsContent}
use Rattle.pool_model.specs.Legal.{state_after, IsLegal}
use Rattle.pool_model.proofs.Fronts.{state_runs_on}
use Rattle.pool_model.proofs.Pages.{page_is}
use Rattle.pool_model.proofs.Resting.{legal_contents_are_told}
use Rattle.pin_core.specs.declared.jobs.WriteJob.{WriteJob}
use Rattle.pin_core.specs.calls.Jobs.{IsWriteJob}
use Rattle.pin_core.specs.Marking.{under_of}
use Rattle.session_calls.proofs.Sized.{run_len, run_marked}
use Rattle.session_calls.specs.declared.count.Count.{Count}
use Rattle.session_calls.specs.Outgoing.{no_tally, pages_counted, pages_out, tally_or}
use Rattle.session_calls.specs.Having.{Sight, AllBeside}
use Rattle.session_calls.specs.Flying.{IsOut, IsBack}
use Rattle.session_calls.proofs.Lasts.{IsInJob, page_lasts, content_lasts}
use Rattle.session_calls.proofs.Outgoing.{tally_lasts}

-- a page in a job isn't pinned
no_pin : (m : ℕ) (x : Page) → IsInJob m x → (count : ℕ) → x.place ≡ Pinned count → ⊥
no_pin m x (inl flies) count pinned = let never : Flying m ≡ Pinned count = sym flies ∙ pinned in cc
no_pin m x (inr loads) count pinned = let never : Loading ≡ Pinned count = sym loads.0 ∙ pinned in cc

-- so it has slots, and its content is what was left in it
pub shown_in_job : (o : Opening) (h : List Entry) → IsLegal o h → (m p : ℕ) (x : Page) → get (state_after o h).pages p ≡ Some x → IsInJob m x → content_of o h p ≡ content_from p [] h
shown_in_job o h legal m p x is job =
    let it : IsContent o h (state_after o h) p x = legal_contents_are_told o h legal p x is in
    it.left (it.rests (no_pin m x job)) []

-- the job is that of a page still which is as it was
same_job : {D : Type 0} (s t : State) (job : WriteJob D) → get t.pages job.id.name ≡ Some (page_at s job.id.name) → t.block_len ≡ s.block_len → t.marked ≡ s.marked → IsWriteJob s job → IsWriteJob t job
same_job s t job there len form is =
    let page : page_at t job.id.name ≡ page_at s job.id.name = page_is t job.id.name (page_at s job.id.name) there in record {
      lives = there ∙ ap Some (sym page);
      key = ap (λ (x : Page). x.key) page ∙ is.key;
      flies = ap (λ (x : Page). x.place) page ∙ is.flies;
      client = ap (λ (x : Page). x.client) page ∙ is.client;
      under = is.under ∙ ap (λ (b : Bool). under_of b (page_at s job.id.name).version) (sym form) ∙ ap (λ (x : Page). under_of t.marked x.version) (sym page);
      buffer = subst (λ (x : Page). IsBufferOf x.blocks t.block_len job.buf) (sym page) (subst (λ (n : ℕ). IsBufferOf (page_at s job.id.name).blocks n job.buf) (sym len) is.buffer);
      slots = is.slots ∙ ap (λ (x : Page). x.blocks) (sym page);
      maker = is.maker;
    }

module _ {D : Type 0} (slot : Ghosts D) (o : Opening) (told : Bool) (m : ℕ) (before now : Sight) (others : List Entry) (went : List Count) (grew : now.trail ≡ before.trail ++ others) (beside : AllBeside m others)
    (counted : now.counts ≡ before.counts ++ went) (legal_now : IsLegal o now.trail) (pages : pages_counted now.counts ≡ pages_out now.trail) where
  legal : IsLegal o (before.trail ++ others)
  legal = subst (IsLegal o) grew legal_now

  -- what others enter changes nothing of a page that this maker writes
  pub out_lasts : (job : WriteJob D) → IsOut slot o told m before job → IsOut slot o told m now job
  out_lasts job out =
      let p : ℕ = job.id.name in
      let s : State = state_after o before.trail in
      let x : Page = page_at s p in
      let flies : IsInJob m x = inl (out.is.flies ∙ ap (λ (k : ℕ). Flying k) out.by) in
      let state : state_after o now.trail ≡ state_after o (before.trail ++ others) = ap (state_after o) grew in
      record {
        is = same_job s (state_after o now.trail) job (ap (λ (u : State). get u.pages p) state ∙ page_lasts m o before.trail others legal beside p x out.is.lives flies)
            (ap (λ (u : State). u.block_len) (state ∙ state_runs_on o before.trail others) ∙ run_len s others)
            (ap (λ (u : State). u.marked) (state ∙ state_runs_on o before.trail others) ∙ run_marked s others) out.is;
        by = out.by;
        content = out.content ∙ sym (ap (content_from p []) grew ∙ content_lasts m o before.trail others legal beside p x out.is.lives flies);
        noted = pages;
        counts =
            ap (tally_or no_tally p) counted
            ∙ tally_lasts o before.trail others m before.counts went legal beside out.noted (sym (ap pages_counted counted) ∙ pages ∙ ap pages_out grew) p x out.is.lives flies ∙ out.counts;
        tell = out.tell;
      }

  pub back_lasts : (job : WriteJob D) → IsBack slot o told m before job → IsBack slot o told m now job
  back_lasts job back = record { was = back.was; out = out_lasts back.was back.out; ran = back.ran }
