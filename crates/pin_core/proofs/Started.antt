-- What a start of a write leaves.
use Rattle.std.proofs.Common.{◌≡◌, ◌↔◌, ℕ, ◌⊎◌, List, [], ◌∷◌, ◌++◌, Option, Some, None, IfSome, unwrap_or, refl, ap, sym, ◌∙◌, subst, inl, inr, arith}
use Rattle.std.specs.FinMap.{get}
use Rattle.std.proofs.lemmas.List.{append-nil}
use Rattle.outside.specs.declared.slot.Slot.{Ghosts}
use Rattle.block_arena.specs.Memory.{IsBufferOf}
use Rattle.page_table.specs.declared.page_id.PageId.{PageId}
use Rattle.page_table.specs.declared.entry.Entry.{Entry}
use Rattle.client_lists.specs.declared.which.Which.TheVariants as which
use Rattle.client_lists.specs.Clients.{IsOpen, nodes_of, newest}
use Rattle.clean_evict.specs.Eviction.{names_of}
use Rattle.reservation_tree.proofs.Maps.{get_same, same_or_other}
use Rattle.pool_model.specs.Makers.{IsSession, IsWriter}
use Rattle.pool_model.specs.Owning.{IsClientOf}
use Rattle.pool_model.specs.Sound.{IsSound}
use Rattle.pool_model.specs.State.{Page, dirty_of, page_at}
use Rattle.pool_model.proofs.Failures.{of_one}
use Rattle.pool_model.proofs.Kept.{legal_sound}
use Rattle.pool_model.proofs.Pages.{page_is}
use Rattle.pin_core.specs.declared.kept.Kept.{Kept}
use Rattle.pin_core.specs.declared.parts.Parts.{Parts}
use Rattle.pin_core.specs.declared.jobs.WriteJob.{WriteJob}
use Rattle.pin_core.specs.StateOf.{page_of, pages_in, state_of}
use Rattle.pin_core.specs.Invariant.{IsKept}
use Rattle.pin_core.specs.Lawful.{Lawful}
use Rattle.pin_core.specs.Standing.{StandsFor, Enters}
use Rattle.pin_core.specs.parts.Changes.{entry_at}
use Rattle.pin_core.specs.calls.Jobs.{IsWriteJob}
use Rattle.pin_core.specs.parts.Flights.{id_with, flying, flown, job_of}
use Rattle.pin_core.specs.Marking.{under_of}
use Rattle.pin_core.specs.calls.Turns.{IsStarted, StartIs, Starts, start_entries, start_entry, start_slots}
use Rattle.pin_core.proofs.Found.{key_found}
use Rattle.pin_core.proofs.Known.{known_now}
use Rattle.pin_core.proofs.Moved.{page_known}
use Rattle.pin_core.proofs.Newest.{IsNewest, newest_page}
use Rattle.pin_core.proofs.Places.{page_owned}
use Rattle.pin_core.proofs.Queued.{dirty_open, names_more}
use Rattle.pin_core.proofs.Rooms.{none_dirty, none_listed}
use Rattle.pin_core.proofs.Starts.{start_kept, start_enters}
use Rattle.pin_core.proofs.Taken.{taken_buffer, taken_bytes, taken_slots}

ends_filled : (older : List ℕ) (last : ℕ) → [] ≡ older ++ last ∷ [] → ⊥
ends_filled [] last is = cc
ends_filled (x ∷ xs) last is = cc

module _ {D : Type 0} where
  -- nothing was entered, and nothing changed
  pub unchanged : (v : Parts D) (slot : Ghosts D) → Enters slot [] [] [] v v
  unchanged v slot = record {
    state = refl;
    stands = λ o h stood. subst (λ l. StandsFor slot o l v) (sym (append-nil h)) stood;
    slots = λ measure. refl;
  }

  -- what it leaves
  pub record Started (v new : Parts D) (who c : ℕ) (job : WriteJob D) : Type 1 where
    pub kept : IsKept new
    pub enters : (slot : Ghosts D) → Enters slot (start_entry who job.id.name ∷ []) job.row [] v new
    pub is : (slot : Ghosts D) → IsStarted slot who c job v new

module _ {D : Type 0} (v : Parts D) (is_kept : IsKept v) (laws : Lawful v) (who c : ℕ) (makes : IsSession who ⊎ IsWriter who) (own : IsSession who → IsClientOf (state_of v) who c) where
  -- one client has one session
  one_session : (m : ℕ) → IsClientOf (state_of v) m c → IsSession who → m ≡ who
  one_session m other session = elim (same_or_other m who) [
    | inl same ↦ same
    | inr apart ↦ absurd (of_one (state_of v) (known_now IsSound legal_sound (state_of v) is_kept.legal) who m c apart (inr (own session)) other)
  ]

  module _ (key : ℕ) (last : newest c v.lists ≡ Some key) where
    n : IsNewest v c key
    n = newest_page v is_kept laws c key last

    abbrev id : PageId
    id = id_with key v

    abbrev x : Entry (Kept D)
    x = entry_at v (id_with key v).name

    abbrev new : Parts D
    new = flown who (id_with key v) (entry_at v (id_with key v).name) v

    was : get (pages_in v.pages) id.name ≡ Some (page_of v.pages id.name x)
    was = page_known v id.name x n.there

    now_there : get (pages_in new.pages) id.name ≡ Some (page_of new.pages id.name (flying who v.entries x))
    now_there = page_known new id.name (flying who v.entries x) (get_same v.pages.entries id.name (flying who v.entries x))

    now_page : page_at (state_of new) id.name ≡ page_of new.pages id.name (flying who v.entries x)
    now_page = page_is (state_of new) id.name (page_of new.pages id.name (flying who v.entries x)) now_there

    job_is : IsWriteJob (state_of new) (job_of who (under_of v.marked v.entries) id x)
    job_is = record {
      lives = now_there ∙ ap Some (sym now_page);
      key = ap (λ (y : Page). y.key) now_page ∙ key_found v.pages laws.proper key id.name n.live;
      flies = ap (λ (y : Page). y.place) now_page;
      client = ap (λ (y : Page). y.client) now_page;
      under = ap (λ (y : Page). under_of v.marked y.version) (sym now_page);
      buffer = subst (λ (y : Page). IsBufferOf y.blocks v.arena.block_len (job_of who (under_of v.marked v.entries) id x).buf) (sym now_page) (taken_buffer v.arena.block_len x.blocks x.mem n.held);
      slots = taken_slots x.blocks x.scratch n.slots ∙ ap (λ (y : Page). y.blocks) (sym now_page);
      maker = makes;
    }

    open_c : IsOpen c v.lists
    open_c = subst (λ (d : ℕ). IsOpen d v.lists) n.client n.at.opened

    started_at : Started v new who c (job_of who (under_of v.marked v.entries) id x)
    started_at =
        let owned : IsClientOf (state_of v) x.session x.client = page_owned (state_of v) is_kept.legal id.name (page_of v.pages id.name x) was in
        let session : IsSession who → x.session ≡ who = one_session x.session (subst (IsClientOf (state_of v) x.session) n.client owned) in
        let ends : nodes_of x.client which.Dirty v.lists ≡ n.ends.older ++ key ∷ [] = ap (λ (d : ℕ). nodes_of d which.Dirty v.lists) n.client ∙ n.ends.is in
        record {
          kept = start_kept v is_kept laws who id x n.live n.there n.dirty makes session n.ends.older ends;
          enters = start_enters v is_kept laws who id x n.live n.there n.dirty makes session n.ends.older ends;
          is = λ slot. record {
            is = job_is;
            by = refl;
            whole = refl;
            older = names_of v.pages n.ends.older;
            newest = ap (λ (r : Option (List ℕ)). unwrap_or r []) (dirty_open v.pages v.lists c open_c)
                ∙ ap (names_of v.pages) n.ends.is ∙ names_more v.pages key id.name n.ends.older n.live;
            content = λ o h stands. taken_bytes v.arena.block_len x.blocks x.mem _ n.held (stands.holds id.name x n.there).mem;
          };
        }

  pub started : (then : Parts D) (job : WriteJob D) → Starts v then who c job → Started v then who c job
  started then job s =
      subst (λ (z : Parts D). Started v z who c job) (sym s.parts)
      (subst (λ (j : WriteJob D). Started v (flown who (id_with s.key v) (entry_at v (id_with s.key v).name) v) who c j) (sym s.job_is) (started_at s.key s.last))

module _ {D : Type 0} where
  -- what a writer's start leaves
  pub record StartedSome (v new : Parts D) (who : ℕ) (r : Option (WriteJob D)) : Type 1 where
    pub kept : IsKept new
    pub none : (r ≡ None) ↔ ((c : ℕ) → dirty_of (state_of v) c ≡ [])
    pub same : r ≡ None → new ≡ v
    pub started : (slot : Ghosts D) → IfSome r (λ job. IsStarted slot who job.client job v new)
    pub enters : (slot : Ghosts D) → Enters slot (start_entries who r) (start_slots r) [] v new

  pub some_started : (v : Parts D) → IsKept v → Lawful v → (who : ℕ) → IsWriter who → (r : Option (WriteJob D)) (new : Parts D) → StartIs v new who r → StartedSome v new who r
  some_started v is_kept laws who writer None new is = subst (λ (z : Parts D). StartedSome v z who None) (sym is.1) (record {
    kept = is_kept;
    none = (λ none c. none_dirty v is_kept laws c (is.0 c), λ all. refl);
    same = λ none. refl;
    started = λ slot. tt;
    enters = unchanged v;
  })
  some_started v is_kept laws who writer (Some job) new is =
      let c : ℕ = is.0 in
      let s : Started v new who c job = started v is_kept laws who c (inr writer) (λ session. absurd (let low = writer.0 in omega (arith, session, low))) new job is.1 in
      let n : IsNewest v c is.1.key = newest_page v is_kept laws c is.1.key is.1.last in
      let client : job.client ≡ c = ap (λ (j : WriteJob D). j.client) is.1.job_is ∙ n.client in
      record {
        kept = s.kept;
        none = (λ some. let both : Some job ≡ None = some in absurd (cc), λ all. absurd (let empty = sym (none_listed v is_kept laws c (all c)) ∙ n.ends.is in ends_filled n.ends.older is.1.key empty));
        same = λ some. let both : Some job ≡ None = some in absurd (cc);
        started = λ slot. subst (λ (d : ℕ). IsStarted slot who d job v new) (sym client) (s.is slot);
        enters = s.enters;
      }

  -- the same, where the parts are known by an equation
  pub some_told : (v old new : Parts D) (who : ℕ) (r : Option (WriteJob D)) → v ≡ old → IsKept v → Lawful v → IsWriter who → StartIs v new who r → StartedSome old new who r
  some_told v old new who r same is_kept laws writer is = subst (λ (z : Parts D). StartedSome z new who r) same (some_started v is_kept laws who writer r new is)
