-- What a load leaves, and what its job is.
use Rattle.std.proofs.Common.{Bool, ◌≡◌, ℕ, [], length, Some, refl, ap, sym, ◌∙◌, subst}
use Rattle.std.specs.FinMap.{get}
use Rattle.std.proofs.lemmas.Bool.{false≢true}
use Rattle.outside.specs.declared.slot.Slot.{Ghosts}
use Rattle.block_arena.specs.Memory.{Supply, IsBufferOf}
use Rattle.page_table.specs.declared.page_id.PageId.{PageId}
use Rattle.page_table.specs.declared.entry.Place.TheVariants as spot
use Rattle.page_table.specs.declared.entry.Entry.{Entry}
use Rattle.page_table.specs.Pages.{Pages as Table}
use Rattle.reservation_tree.proofs.Maps.{get_same}
use Rattle.pool_model.specs.State.{Page, page_at}
use Rattle.pool_model.specs.Sums.{length_of}
use Rattle.pool_model.proofs.Pages.{page_is}
use Rattle.store_api.specs.Tokens.{PageToken}
use Rattle.pin_core.specs.declared.kept.Kept.{Kept}
use Rattle.pin_core.specs.declared.kept.Kept.TheVariants as kept
use Rattle.pin_core.specs.declared.jobs.ReadJob.{ReadJob}
use Rattle.pin_core.specs.declared.parts.Parts.{Parts}
use Rattle.pin_core.specs.StateOf.{page_of, pages_in, key_in, state_of}
use Rattle.pin_core.specs.Lawful.{Lawful}
use Rattle.pin_core.specs.parts.Keeping.{row_in}
use Rattle.pin_core.specs.Invariant.{IsKept, IsKeptOf, IsPlaced}
use Rattle.pin_core.specs.calls.Needs.{id_in}
use Rattle.pin_core.specs.parts.Changes.{entry_at}
use Rattle.pin_core.specs.calls.Jobs.{IsReadJob}
use Rattle.pin_core.specs.calls.Evictions.{MakesRoom, keys_gone, names_gone, with_room}
use Rattle.pin_core.specs.parts.Loads.{CanLoad, loading, loaded_over, load_entries, read_job}
use Rattle.pin_core.specs.Marking.{under_of}
use Rattle.pin_core.specs.calls.PinTurns.{IsLoad}
use Rattle.pin_core.specs.parts.PinSteps.{IsLoaded}
use Rattle.pin_core.proofs.Found.{key_found}
use Rattle.pin_core.proofs.Moved.{page_known}
use Rattle.pin_core.proofs.EvictAll.{all_pages, all_free, all_marked}
use Rattle.pin_core.proofs.Entered.{Done}
use Rattle.pin_core.proofs.LoadedOver.{over_done, over_holds}
use Rattle.pin_core.proofs.Goes.{makes_room}

module _ {D : Type 0} where
  row_len : (blocks : ℕ) (k : Kept D) → IsKeptOf blocks spot.Evicted k → length (row_in k) ≡ blocks
  row_len blocks (kept.Held row) is = is.1
  row_len blocks (kept.Empty shell) is = absurd (false≢true is.0)
  row_len blocks kept.Out is = absurd (false≢true (sym is))

  -- what a load leaves
  pub record LoadTurned (v new : Parts D) (session : ℕ) (p : PageToken) (job : ReadJob D) : Type 1 where
    pub done : Done (load_entries session p.name (page_at (state_of v) p.name).blocks v) job.row [] v new
    pub load : (slot : Ghosts D) → IsLoad slot p job v new

  module _ (v : Parts D) (is_kept : IsKept v) (laws : Lawful v) (session : ℕ) (p : PageToken)
      (live : get v.pages.names p.key ≡ Some p.name) (there : get v.pages.entries p.name ≡ Some (entry_at v p.name))
      (own : (entry_at v p.name).session ≡ session) (page : page_at (state_of v) p.name ≡ page_of v.pages p.name (entry_at v p.name)) where
    abbrev x : Entry (Kept D)
    x = entry_at v p.name

    abbrev id : PageId
    id = id_in p

    abbrev over : Parts D
    over = loaded_over (id_in p) (entry_at v p.name) v

    now_there : get (pages_in over.pages) p.name ≡ Some (page_of over.pages p.name (loading x))
    now_there = page_known over p.name (loading x) (get_same (with_room x.blocks v).pages.entries p.name (loading x))

    now_page : page_at (state_of over) p.name ≡ page_of over.pages p.name (loading x)
    now_page = page_is (state_of over) p.name (page_of over.pages p.name (loading x)) now_there

    now_key : key_in over.pages.names over.pages.room p.name ≡ p.key
    now_key = ap (λ (t : Table (Entry (Kept D))). key_in t.names t.room p.name) (all_pages (keys_gone x.blocks v) v) ∙ key_found v.pages laws.proper p.key p.name live

    entries_are : load_entries x.session p.name x.blocks v ≡ load_entries session p.name (page_at (state_of v) p.name).blocks v
    entries_are = ap (λ (s : ℕ). load_entries s p.name x.blocks v) own ∙ ap (λ (y : Page). load_entries session p.name y.blocks v) (sym page)

    module _ (new : Parts D) (job : ReadJob D) (is : IsLoaded v new (id_in p) (entry_at v p.name) job) where
      can : CanLoad v id x
      can = record { live = live; there = there; evicted = is.evicted; room = is.room }

      at_x : IsPlaced v id.key x
      at_x = is_kept.placed id.key id.name x live there

      job_is : IsReadJob (state_of over) (read_job v.marked id x job.buf)
      job_is = record {
        lives = now_there ∙ ap Some (sym now_page);
        key = ap (λ (y : Page). y.key) now_page ∙ now_key;
        loads = ap (λ (y : Page). y.place) now_page;
        client = ap (λ (y : Page). y.client) now_page;
        under = ap (λ (b : Bool). under_of b x.version) (sym (all_marked (keys_gone x.blocks v) v)) ∙ ap (λ (y : Page). under_of over.marked y.version) (sym now_page);
        buffer = subst (λ (y : Page). IsBufferOf y.blocks over.arena.block_len job.buf) (sym now_page)
            (subst (λ (len : ℕ). IsBufferOf x.blocks len job.buf) (sym (ap (λ (a : Supply). a.block_len) (all_free (keys_gone x.blocks v) v))) is.buffer);
        slots = row_len x.blocks x.scratch (subst (λ at. IsKeptOf x.blocks at x.scratch) is.evicted at_x.kept) ∙ ap (λ (y : Page). y.blocks) (sym now_page);
      }

      load_is : (slot : Ghosts D) → IsLoad slot p (read_job v.marked id x job.buf) v over
      load_is slot = record {
        is = job_is;
        id = refl;
        whole = refl;
        fresh = refl;
        goes = subst (λ (y : Page). MakesRoom (state_of v) (length_of (state_of v) y.blocks) (names_gone y.blocks v)) (sym page) (makes_room v is_kept laws x.blocks is.enough);
        content = over_holds v is_kept laws id x can slot;
      }

      pub load_turned : LoadTurned v new session p job
      load_turned =
          subst (λ (z : Parts D). LoadTurned v z session p job) (sym is.parts)
          (subst (λ (j : ReadJob D). LoadTurned v over session p j) (sym is.is) (record {
            done = subst (λ es. Done es (row_in x.scratch) [] v over) entries_are (over_done v is_kept laws id x can is.enough);
            load = load_is;
          }))
