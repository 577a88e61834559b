-- A page that was loaded from blocks that were stored in this pool has its content.
use Rattle.std.proofs.Common.{◌≡◌, ℕ, ◌+◌, ◌*◌, ◌^◌, ◌<◌, Bool, true, false, List, [], ◌∷◌, ◌++◌, length, Option, Some, None, Result, Ok, Err, IfOk, refl, sym, ap, ◌∙◌, subst, arith}
use Rattle.std.specs.FinMap.{get}
use Rattle.std.specs.List.{slice_range}
use Rattle.outside.specs.declared.slot.Slot.{Ghosts}
use Rattle.block_arena.specs.Memory.{Buffer, block_of}
use Rattle.pool_model.specs.declared.entry.Entry.{Entry as Event}
use Rattle.pool_model.specs.Bytes.{bytes_of}
use Rattle.pool_model.specs.State.{Opening, opened, Page, State, page_at}
use Rattle.pool_model.specs.LookingBack.{content_of}
use Rattle.pool_model.specs.Effects.{after}
use Rattle.pool_model.specs.Legal.{run, state_after, IsLegal}
use Rattle.pool_model.specs.StoredBlocks.{IsStored, block_in, is_on_scratch}
use Rattle.pool_model.proofs.Unique.{legal_marks_show_content}
use Rattle.pool_model.proofs.Resting.{legal_contents_are_told}
use Rattle.pool_model.proofs.Frames.{entries_leave_rest}
use Rattle.pin_core.specs.declared.jobs.ReadJob.{ReadJob}
use Rattle.pin_core.specs.declared.parts.Parts.{Parts}
use Rattle.pin_core.specs.Marking.{front_of, under_of}
use Rattle.pin_core.specs.StateOf.{state_of}
use Rattle.pin_core.specs.Invariant.{IsKept}
use Rattle.pin_core.specs.Standing.{StandsFor}
use Rattle.pin_core.specs.Lawful.{Lawful}
use Rattle.pin_core.specs.parts.Changes.{entry_at}
use Rattle.pin_core.specs.calls.Jobs.{IsReadJob}
use Rattle.pin_core.proofs.Back.{read_back}
use Rattle.pin_core.proofs.Shown.{bytes_same}

run_len : (s : State) (es : List Event) → (run s es).block_len ≡ s.block_len
run_len s [] = refl
run_len s (e ∷ es) = run_len (after s e) es ∙ (entries_leave_rest s e).block_len

some_same : (a b : ℕ) → Some a ≡ Some b → a ≡ b
some_same a b same = cc

version_is : (marked : Bool) (version wanted : ℕ) → under_of marked version ≡ Some wanted → version ≡ wanted
version_is true version wanted same = some_same version wanted same
version_is false version wanted same = let none : None ≡ Some wanted = same in cc

long_content : (o : Opening) (h : List Event) → IsLegal o h → (p : ℕ) (x : Page) → get (state_after o h).pages p ≡ Some x → length (content_of o h p) ≡ x.blocks * o.block_len
unfolding bytes_of
long_content o h legal p x there = (legal_contents_are_told o h legal p x there).whole ∙ ap (λ (n : ℕ). x.blocks * n) (run_len (opened o) h)

module _ {D : Type 0} (slot : Ghosts D) (old : Parts D) (is_kept : IsKept old) (laws : Lawful old) (job : ReadJob D) (is : IsReadJob (state_of old) job) (version : ℕ) (under : job.under ≡ Some version)
    (o : Opening) (h : List Event) (stands : StandsFor slot o h old) (few : length h < 18446744073709551615)
    (stored : (i : ℕ) → i < length job.row → IsStored o h (front_of job.under job.id.name i ++ block_of job.buf i)) where
  abbrev x : Page
  x = page_at (state_of old) job.id.name

  there : get (state_after o h).pages job.id.name ≡ Some x
  there = ap (λ (s : State). get s.pages job.id.name) (sym stands.state) ∙ is.lives

  known : job.under ≡ Some x.version
  known = under ∙ ap Some (sym (version_is old.marked x.version version (sym is.under ∙ under)))

  small : (i : ℕ) → i < length job.row → i < 2 ^ 32
  small i lt =
      let back = read_back old laws job is in
      let blocks = (is_kept.placed job.id.key job.id.name (entry_at old job.id.name) back.live back.there).blocks.1 in
      omega (arith, lt, back.slots, blocks)

  block_shown : (i : ℕ) → i < length job.row → block_of job.buf i ≡ block_in o.block_len i (content_of o h job.id.name)
  block_shown i lt =
      legal_marks_show_content o h stands.legal few job.id.name i x there (ap is_on_scratch is.loads) (small i lt) (block_of job.buf i)
      (subst (λ (u : Option ℕ). IsStored o h (front_of u job.id.name i ++ block_of job.buf i)) known (stored i lt))

  len_is : job.buf.block_len ≡ o.block_len
  len_is = is.buffer.block_len ∙ ap (λ (s : State). s.block_len) stands.state ∙ run_len (opened o) h

  pub content_read : job.buf.bytes ≡ content_of o h job.id.name
  content_read =
      bytes_same o.block_len x.blocks job.buf.bytes (content_of o h job.id.name)
      (is.buffer.whole ∙ ap (λ (n : ℕ). x.blocks * n) (sym is.buffer.block_len ∙ len_is))
      (long_content o h stands.legal job.id.name x there)
      (λ i lt.
      let here = block_shown i (omega (arith, lt, is.slots)) in
      ap (λ (n : ℕ). slice_range job.buf.bytes (i * n) (i * n + n)) (sym len_is) ∙ here)

-- the same of what a call answers, where the parts are known by an equation
pub answered_content : {D E : Type 0} (slot : Ghosts D) (v old : Parts D) → v ≡ old → IsKept v → Lawful v → (job : ReadJob D) → IsReadJob (state_of old) job → (r : Result Buffer E) → IfOk r (λ buf. buf ≡ job.buf)
    → (version : ℕ) → job.under ≡ Some version → (o : Opening) (h : List Event) → StandsFor slot o h old → length h < 18446744073709551615
    → ((i : ℕ) → i < length job.row → IsStored o h (front_of job.under job.id.name i ++ block_of job.buf i)) → IfOk r (λ buf. buf.bytes ≡ content_of o h job.id.name)
answered_content slot v old same is_kept laws job is (Ok buf) gives version under o h stands few stored =
    ap (λ (b : Buffer). b.bytes) gives ∙ content_read slot old (subst IsKept same is_kept) (subst Lawful same laws) job is version under o h stands few stored
answered_content slot v old same is_kept laws job is (Err e) gives version under o h stands few stored = tt
