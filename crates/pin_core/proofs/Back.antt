-- A page that comes back from a job: which page it is, and what its parts need of each other.
use Rattle.std.proofs.Common.{◌≡◌, ℕ, true, false, List, Some, IsSome, refl, ap, sym, ◌∙◌, subst}
use Rattle.std.specs.FinMap.{get}
use Rattle.std.specs.List.{sum_by}
use Rattle.std.proofs.lemmas.Bool.{false≢true}
use Rattle.block_arena.specs.Memory.{Buffer, IsBufferOf}
use Rattle.index_list.specs.Listing.{stands_in}
use Rattle.page_table.specs.declared.page_id.PageId.{PageId}
use Rattle.page_table.specs.declared.entry.Entry.{Entry}
use Rattle.page_table.specs.declared.entry.Place.{Place as Spot}
use Rattle.page_table.specs.declared.entry.Place.TheVariants as spot
use Rattle.client_lists.specs.declared.which.Which.{Which}
use Rattle.client_lists.specs.Clients.{IsOn, place}
use Rattle.session_table.specs.Seats.{seat_of}
use Rattle.pool_model.specs.State.{Page, Place, Flying, Loading, page_at}
use Rattle.pin_core.specs.declared.kept.Kept.{Kept}
use Rattle.pin_core.specs.declared.kept.Kept.TheVariants as kept
use Rattle.pin_core.specs.declared.parts.Parts.{Parts}
use Rattle.pin_core.specs.parts.Keeping.{has_slots, row_in}
use Rattle.pin_core.specs.declared.jobs.WriteJob.{WriteJob}
use Rattle.pin_core.specs.declared.jobs.ReadJob.{ReadJob}
use Rattle.pin_core.specs.StateOf.{place_in, state_of}
use Rattle.pin_core.specs.Invariant.{IsKept, IsKeptOf, list_at, is_clean_spot, is_home}
use Rattle.pin_core.specs.Lawful.{Lawful}
use Rattle.pin_core.specs.parts.Changes.{entry_at}
use Rattle.pin_core.specs.Marking.{under_of}
use Rattle.pin_core.specs.calls.Jobs.{IsWriteJob, IsReadJob}
use Rattle.pin_core.specs.parts.Ends.{ComesBack}
use Rattle.pin_core.proofs.Found.{Found, found_page}
use Rattle.pin_core.proofs.Noting.{page_seat}

abbrev writer_of : ℕ → Place → ℕ
writer_of other (Flying writer) = writer
writer_of other _ = other

flying_in : (at : Spot) (writer : ℕ) → place_in at ≡ Flying writer → at ≡ spot.Flying writer
flying_in (spot.Flying w) writer is = ap (λ (p : Place). spot.Flying (writer_of w p)) is
flying_in (spot.Pinned count) writer is = cc
flying_in spot.Dirty writer is = cc
flying_in spot.Loading writer is = cc
flying_in spot.Clean writer is = cc
flying_in spot.Evicted writer is = cc

loading_in : (at : Spot) → place_in at ≡ Loading → at ≡ spot.Loading
loading_in spot.Loading is = refl
loading_in (spot.Pinned count) is = cc
loading_in spot.Dirty is = cc
loading_in (spot.Flying w) is = cc
loading_in spot.Clean is = cc
loading_in spot.Evicted is = cc

module _ {D : Type 0} (v : Parts D) (laws : Lawful v) where
  found_id : (id : PageId) → get (state_of v).pages id.name ≡ Some (page_at (state_of v) id.name) → (page_at (state_of v) id.name).key ≡ id.key
      → Found v (record { name = id.name; key = id.key; client = 0 }) (entry_at v id.name)
  found_id id lives key = found_page v laws.proper (record { name = id.name; key = id.key; client = 0 }) (record { lives = lives; key = key })

  pub write_back : (job : WriteJob D) → IsWriteJob (state_of v) job → ComesBack v (spot.Flying job.who) job.id (entry_at v job.id.name) job.buf job.row
  write_back job is =
      let f : Found v (record { name = job.id.name; key = job.id.key; client = 0 }) (entry_at v job.id.name) = found_id job.id is.lives is.key in
      record {
        live = f.live;
        there = f.there;
        place = flying_in (entry_at v job.id.name).place job.who (sym (ap (λ (y : Page). y.place) f.is) ∙ is.flies);
        buffer = subst (λ (y : Page). IsBufferOf y.blocks v.arena.block_len job.buf) f.is is.buffer;
        slots = is.slots ∙ ap (λ (y : Page). y.blocks) f.is;
      }

  pub write_client : (job : WriteJob D) → IsWriteJob (state_of v) job → job.client ≡ (entry_at v job.id.name).client
  write_client job is =
      let f : Found v (record { name = job.id.name; key = job.id.key; client = 0 }) (entry_at v job.id.name) = found_id job.id is.lives is.key in
      sym is.client ∙ ap (λ (y : Page). y.client) f.is

  pub write_under : (job : WriteJob D) → IsWriteJob (state_of v) job → job.under ≡ under_of v.marked (entry_at v job.id.name).version
  write_under job is =
      let f : Found v (record { name = job.id.name; key = job.id.key; client = 0 }) (entry_at v job.id.name) = found_id job.id is.lives is.key in
      is.under ∙ ap (λ (y : Page). under_of v.marked y.version) f.is

  pub read_under : (job : ReadJob D) → IsReadJob (state_of v) job → job.under ≡ under_of v.marked (entry_at v job.id.name).version
  read_under job is =
      let f : Found v (record { name = job.id.name; key = job.id.key; client = 0 }) (entry_at v job.id.name) = found_id job.id is.lives is.key in
      is.under ∙ ap (λ (y : Page). under_of v.marked y.version) f.is

  pub read_back : (job : ReadJob D) → IsReadJob (state_of v) job → ComesBack v spot.Loading job.id (entry_at v job.id.name) job.buf job.row
  read_back job is =
      let f : Found v (record { name = job.id.name; key = job.id.key; client = 0 }) (entry_at v job.id.name) = found_id job.id is.lives is.key in
      record {
        live = f.live;
        there = f.there;
        place = loading_in (entry_at v job.id.name).place (sym (ap (λ (y : Page). y.place) f.is) ∙ is.loads);
        buffer = subst (λ (y : Page). IsBufferOf y.blocks v.arena.block_len job.buf) f.is is.buffer;
        slots = is.slots ∙ ap (λ (y : Page). y.blocks) f.is;
      }

  pub read_client : (job : ReadJob D) → IsReadJob (state_of v) job → job.client ≡ (entry_at v job.id.name).client
  read_client job is =
      let f : Found v (record { name = job.id.name; key = job.id.key; client = 0 }) (entry_at v job.id.name) = found_id job.id is.lives is.key in
      sym is.client ∙ ap (λ (y : Page). y.client) f.is

  pub read_session : (job : ReadJob D) → IsReadJob (state_of v) job → (page_at (state_of v) job.id.name).session ≡ (entry_at v job.id.name).session
  read_session job is =
      let f : Found v (record { name = job.id.name; key = job.id.key; client = 0 }) (entry_at v job.id.name) = found_id job.id is.lives is.key in
      ap (λ (y : Page). y.session) f.is

module _ {D : Type 0} (v : Parts D) (is_kept : IsKept v) (at : Spot) (id : PageId) (x : Entry (Kept D)) (buf : Buffer) (row : List D) (back : ComesBack v at id x buf row) where
  pub back_on : (client : ℕ) → client ≡ x.client → (kind : Which) → list_at x.client at ≡ Some (place x.client kind) → IsOn client id.key v.lists
  back_on client same kind is = record {
    which = kind;
    there = (is_kept.placed id.key id.name x back.live back.there).on ∙ ap (list_at x.client) back.place ∙ is ∙ ap (λ (d : ℕ). Some (place d kind)) (sym same);
  }

  pub back_absent : is_clean_spot at ≡ false → stands_in id.key v.clean.keys ≡ false
  back_absent is = (is_kept.placed id.key id.name x back.live back.there).clean ∙ ap is_clean_spot back.place ∙ is

  pub back_seat : Lawful v → (session : ℕ) → session ≡ x.session → IsSome (seat_of v.seats session)
  back_seat laws session same = subst (λ (s : ℕ). IsSome (seat_of v.seats s)) (sym same) (page_seat v is_kept laws id.name x back.there)

module _ {D : Type 0} where
  away_kept : (blocks : ℕ) (at : Spot) (k : Kept D) → is_home at ≡ false → IsKeptOf blocks at k → k ≡ kept.Out
  away_kept blocks at kept.Out away is = refl
  away_kept blocks at (kept.Held row) away is = absurd (false≢true (sym away ∙ is.0))
  away_kept blocks (spot.Pinned count) (kept.Empty shell) away is = absurd (false≢true (sym away))
  away_kept blocks spot.Dirty (kept.Empty shell) away is = absurd (false≢true is.0)
  away_kept blocks (spot.Flying writer) (kept.Empty shell) away is = absurd (false≢true is.0)
  away_kept blocks spot.Loading (kept.Empty shell) away is = absurd (false≢true is.0)
  away_kept blocks spot.Clean (kept.Empty shell) away is = absurd (false≢true is.0)
  away_kept blocks spot.Evicted (kept.Empty shell) away is = absurd (false≢true is.0)

  -- the slots of a page whose job is away are not in the table
  module _ (v : Parts D) (is_kept : IsKept v) (at : Spot) (id : PageId) (x : Entry (Kept D)) (buf : Buffer) (row : List D) (back : ComesBack v at id x buf row) (away : is_home at ≡ false) where
    slots_out : x.scratch ≡ kept.Out
    slots_out = away_kept x.blocks at x.scratch away (subst (λ p. IsKeptOf x.blocks p x.scratch) back.place (is_kept.placed id.key id.name x back.live back.there).kept)

    pub slots_had : has_slots x.scratch ≡ true
    slots_had = ap has_slots slots_out

    pub none_home : (measure : D → ℕ) → sum_by measure (row_in x.scratch) ≡ 0
    none_home measure = ap (λ (k : Kept D). sum_by measure (row_in k)) slots_out
