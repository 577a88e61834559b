-- The sums over a pool's slots after each kind of call.
use Rattle.std.proofs.Common.{◌≡◌, ℕ, ◌+◌, List, [], ◌∷◌, ◌++◌, length, Bool, true, false, if◌then◌else◌, Some, refl, sym, ap, ◌∙◌, subst, arith, Option, None}
use Rattle.std.proofs.lemmas.List.Sums.{sum_by-append}
use Rattle.std.specs.List.{sum_by}
use Rattle.std.specs.FinMap.{get}
use Rattle.outside.specs.declared.slot.Slot.{Ghosts}
use Rattle.scratch_dev.specs.Rows.{CountsStores}
use Rattle.pool_model.specs.declared.entry.Entry.{Entry as Event}
use Rattle.pool_model.specs.State.{Opening, Page, State, page_at}
use Rattle.pool_model.specs.LookingBack.{maker_of}
use Rattle.pool_model.specs.HistoryLaws.{made}
use Rattle.pool_model.proofs.Made.{legal_tells, still_made}
use Rattle.pin_core.specs.declared.jobs.Stale.{Stale}
use Rattle.pin_core.specs.declared.parts.Parts.{Parts}
use Rattle.pin_core.specs.declared.jobs.WriteJob.{WriteJob}
use Rattle.pin_core.specs.declared.tally.Tally.{Tally}
use Rattle.pin_core.specs.StateOf.{state_of}
use Rattle.pin_core.specs.Standing.{StandsFor, slots_home}
use Rattle.pin_core.specs.calls.Jobs.{IsWriteJob}
use Rattle.pin_core.specs.calls.Returning.{write_ends, read_ends, write_entry, read_entry, stale_loads}
use Rattle.pin_core.specs.Tallies.{Counted, SumsWithJobs, all_failures, all_stale, blocks_of, stored_by, written_blocks, tally_by, tally_of, tally_with}
use Rattle.pin_core.specs.SumLaws.{IsRest, WasRun, SumsBegin, SumsStay, SumsStayRefused, SumsGrowWritten, SumsGrowRead, SumsEnd}
use Rattle.pin_core.proofs.Tallied.{uncounted_yet, counted_more, counted_as, tally_same, same_stores, same_silence, came_back, failures_append, stale_append, plain_failures, plain_stale, plain_stores}
use Rattle.pin_core.proofs.Stored.{written_more}

module _ {D : Type 0} (slot : Ghosts D) where
  -- entries that count so many failures and stored so many blocks, while the slots counted as many
  more_sums : (first : Tally) (o : Opening) (h more : List Event) (out later : List D) (old new : Parts D) (failures blocks stale : ℕ)
      → all_failures more ≡ failures → sum_by (λ (e : Event). stored_by (h ++ more) e.event) more ≡ blocks → all_stale more ≡ stale → Counted failures blocks stale (tally_with slot old out) (tally_with slot new later)
      → StandsFor slot o (h ++ more) new → SumsWithJobs slot first o h out old → SumsWithJobs slot first o (h ++ more) later new
  more_sums first o h more out later old new failures blocks stale failed stored other counts stood sums = record {
    stands = stood;
    counted =
        let fails = failures_append h more in
        let stores = written_more o h more sums.stands.legal in
        let strays = stale_append h more in
        counted_as (all_failures h + failures) (all_failures (h ++ more)) (written_blocks h + blocks) (written_blocks (h ++ more)) (all_stale h + stale) (all_stale (h ++ more)) first (tally_with slot new later)
        (omega (arith, fails, failed)) (omega (arith, stores, stored)) (omega (arith, strays, other))
        (counted_more (all_failures h) failures (written_blocks h) blocks (all_stale h) stale first (tally_with slot old out) (tally_with slot new later) sums.counted counts);
  }

  -- the same slots count the same
  same_counts : (old new : Parts D) (out later : List D) → ((measure : D → ℕ) → slots_home measure new + sum_by measure later ≡ slots_home measure old + sum_by measure out)
      → Counted 0 0 0 (tally_with slot old out) (tally_with slot new later)
  same_counts old new out later same =
      subst (Counted 0 0 0 (tally_with slot old out)) (tally_same slot (λ measure. slots_home measure old + sum_by measure out) (λ measure. slots_home measure new + sum_by measure later) (λ measure. sym (same measure)))
      (uncounted_yet (tally_with slot old out))

  pub sums_begin : SumsBegin slot
  sums_begin o slots v stood home = record {
    stands = stood;
    counted =
        subst (Counted 0 0 0 (tally_of slot slots)) (tally_same slot (λ measure. sum_by measure slots) (λ measure. slots_home measure v + sum_by measure []) (λ measure. let at = home measure in omega (arith, at)))
        (uncounted_yet (tally_of slot slots));
  }

  pub sums_stay : SumsStay slot
  sums_stay first o h events gone out old new plain enters sums =
      more_sums first o h events out (gone ++ out) old new 0 0 0 (plain_failures events plain) (plain_stores (h ++ events) events plain) (plain_stale events plain)
      (same_counts old new out (gone ++ out) (λ measure.
      let moved = enters.slots measure in
      let both = sum_by-append measure gone out in
      omega (arith, moved, both)))
      (enters.stands o h sums.stands) sums

  pub sums_stay_refused : SumsStayRefused slot
  sums_stay_refused first o h e out old new plain enters knows sums =
      more_sums first o h (e ∷ []) out out old new 0 0 0 (plain_failures (e ∷ []) (plain, tt)) (plain_stores (h ++ e ∷ []) (e ∷ []) (plain, tt)) (plain_stale (e ∷ []) (plain, tt))
      (same_counts old new out out (λ measure. let same = enters.slots measure in omega (arith, same)))
      (enters.stands o h sums.stands knows) sums

  -- the slots of a job came back as the job made them, beside those at home and those in other jobs
  back_counts : (old new : Parts D) (out others taken now : List D) (failures blocks stale : ℕ) → IsRest slot taken out others → WasRun slot failures stale taken now → CountsStores slot blocks taken now
      → ((measure : D → ℕ) → slots_home measure new ≡ slots_home measure old + sum_by measure now) → Counted failures blocks stale (tally_with slot old out) (tally_with slot new others)
  back_counts old new out others taken now failures blocks stale rest ran stores home =
      let beside : (D → ℕ) → ℕ = λ measure. slots_home measure old + sum_by measure others in
      let back : Counted failures blocks stale (tally_by slot (λ measure. beside measure + sum_by measure taken)) (tally_by slot (λ measure. beside measure + sum_by measure now)) =
      came_back slot beside taken now failures blocks stale ran.never_falls ran.faults stores ran.strays (same_silence slot now taken ran.tells) ran.len in
      let was : tally_by slot (λ measure. beside measure + sum_by measure taken) ≡ tally_with slot old out =
      tally_same slot (λ measure. beside measure + sum_by measure taken) (λ measure. slots_home measure old + sum_by measure out) (λ measure. let all = rest measure in omega (arith, all)) in
      let is : tally_by slot (λ measure. beside measure + sum_by measure now) ≡ tally_with slot new others =
      tally_same slot (λ measure. beside measure + sum_by measure now) (λ measure. slots_home measure new + sum_by measure others) (λ measure. let came = home measure in omega (arith, came)) in
      subst (λ (t : Tally). Counted failures blocks stale t (tally_with slot new others)) was (subst (Counted failures blocks stale (tally_by slot (λ measure. beside measure + sum_by measure taken))) is back)

  -- a page that is written was made with as many blocks as it has slots
  as_made : (o : Opening) (h more : List Event) (v : Parts D) (job : WriteJob D) → StandsFor slot o h v → IsWriteJob (state_of v) job → blocks_of (maker_of (h ++ more) job.id.name) ≡ length job.row
  as_made o h more v job stood is =
      let x : Page = page_at (state_of v) job.id.name in
      let known : maker_of h job.id.name ≡ Some (made x) = (legal_tells o h stood.legal).as_made job.id.name x (ap (λ (s : State). get s.pages job.id.name) (sym stood.state) ∙ is.lives) in
      ap blocks_of (still_made h more job.id.name (made x) known) ∙ sym is.slots

  write_failures : (b : Bool) (m p before now : ℕ) → all_failures (record { maker = m; event = write_ends b p before now } ∷ []) ≡ (if b then 1 else 0)
  write_failures true m p before now = refl
  write_failures false m p before now = refl

  write_stored : (b : Bool) (h : List Event) (m p before now blocks : ℕ) → blocks_of (maker_of h p) ≡ blocks
      → sum_by (λ (e : Event). stored_by h e.event) (record { maker = m; event = write_ends b p before now } ∷ []) ≡ (if b then 0 else blocks)
  write_stored true h m p before now blocks is = refl
  write_stored false h m p before now blocks is = omega (arith, is)

  read_failures : (b : Bool) (stale : Option Stale) (m p before now : ℕ) → all_failures (record { maker = m; event = read_ends b stale p before now } ∷ []) ≡ (if b then 1 else 0)
  read_failures true stale m p before now = refl
  read_failures false None m p before now = refl
  read_failures false (Some stale) m p before now = refl

  read_stored : (b : Bool) (stale : Option Stale) (h : List Event) (m p before now : ℕ) → sum_by (λ (e : Event). stored_by h e.event) (record { maker = m; event = read_ends b stale p before now } ∷ []) ≡ 0
  read_stored true stale h m p before now = refl
  read_stored false None h m p before now = refl
  read_stored false (Some stale) h m p before now = refl

  write_stale : (b : Bool) (m p before now : ℕ) → all_stale (record { maker = m; event = write_ends b p before now } ∷ []) ≡ 0
  write_stale true m p before now = refl
  write_stale false m p before now = refl

  read_stale : (b : Bool) (stale : Option Stale) (m p before now : ℕ) → all_stale (record { maker = m; event = read_ends b stale p before now } ∷ []) ≡ stale_loads b stale
  read_stale true stale m p before now = refl
  read_stale false None m p before now = refl
  read_stale false (Some stale) m p before now = refl

  pub sums_grow_written : SumsGrowWritten slot
  sums_grow_written first o h out others taken job before now old new is rest ran stores enters knows sums =
      let e : Event = write_entry job before now in
      more_sums first o h (e ∷ []) out others old new (if job.failed then 1 else 0) (if job.failed then 0 else length taken) 0
      (write_failures job.failed job.who job.id.name before now)
      (write_stored job.failed (h ++ e ∷ []) job.who job.id.name before now (length taken) (as_made o h (e ∷ []) old job sums.stands is ∙ ran.len))
      (write_stale job.failed job.who job.id.name before now)
      (back_counts old new out others taken job.row (if job.failed then 1 else 0) (if job.failed then 0 else length taken) 0 rest ran stores enters.slots)
      (enters.stands o h sums.stands knows) sums

  pub sums_grow_read : SumsGrowRead slot
  sums_grow_read first o h out others taken job before now old new rest ran stores enters knows sums =
      let e : Event = read_entry (state_of old) job before now in
      let m : ℕ = (page_at (state_of old) job.id.name).session in
      more_sums first o h (e ∷ []) out others old new (if job.failed then 1 else 0) 0 (stale_loads job.failed job.stale)
      (read_failures job.failed job.stale m job.id.name before now)
      (read_stored job.failed job.stale (h ++ e ∷ []) m job.id.name before now)
      (read_stale job.failed job.stale m job.id.name before now)
      (back_counts old new out others taken job.row (if job.failed then 1 else 0) 0 (stale_loads job.failed job.stale) rest ran (same_stores slot taken job.row (sym stores)) enters.slots)
      (enters.stands o h sums.stands knows) sums

  pub sums_end : SumsEnd slot
  sums_end first o h back v home sums =
      subst (Counted (all_failures h) (written_blocks h) (all_stale h) first) (tally_same slot (λ measure. slots_home measure v + sum_by measure []) (λ measure. sum_by measure back) (λ measure. let at = home measure in omega (arith, at))) sums.counted
