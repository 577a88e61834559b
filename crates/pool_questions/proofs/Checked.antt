-- What is found in the parts holds of the state.
use Rattle.std.proofs.Common.{◌≡◌, ◌≢◌, ℕ, ◌*◌, ◌/◌, ◌<◌, ◌≤◌, zero, suc, ◌==◌, Bool, true, false, if◌then◌else◌, List, Option, Some, None, ◌⊎◌, length, unwrap_or, option_copied, IfSome, nat_eq, Bor, refl, ap, sym, ◌∙◌, subst, inl, inr, arith, eqb-true}
use Rattle.std.specs.FinMap.{get}
use Rattle.std.proofs.lemmas.Bool.{cases_Bool}
use Rattle.std.proofs.Math.Nat.{mul-div_cancel}
use Rattle.block_arena.specs.Memory.{Buffer, IsBufferOf}
use Rattle.page_table.specs.declared.entry.Entry.{Entry}
use Rattle.page_table.specs.declared.page_id.PageId.{PageId}
use Rattle.page_table.specs.Pages.{IsProper, if_named, entry_of}
use Rattle.pool_model.specs.Bytes.{bytes_of}
use Rattle.pool_model.specs.Makers.{IsSession, IsWriter}
use Rattle.pool_model.specs.Sums.{length_of}
use Rattle.pool_model.specs.State.{Flying, Loading, Page, Pinned, Place, page_at, pins_of, no_page}
use Rattle.store_api.specs.Tokens.{PageToken}
use Rattle.pin_core.specs.declared.kept.Kept.{Kept}
use Rattle.pin_core.specs.declared.jobs.WriteJob.{WriteJob}
use Rattle.pin_core.specs.declared.jobs.ReadJob.{ReadJob}
use Rattle.pin_core.specs.declared.parts.Parts.{Parts}
use Rattle.pin_core.specs.calls.Ending.{IsPinnedWith, IsUnpinned}
use Rattle.pin_core.specs.Invariant.{IsKept}
use Rattle.pin_core.specs.calls.Jobs.{IsReadJob, IsWriteJob}
use Rattle.pin_core.specs.Marking.{under_of}
use Rattle.pin_core.specs.Lawful.{Lawful}
use Rattle.pin_core.specs.calls.Needs.{IsLastPin, IsPage, id_in}
use Rattle.pin_core.specs.calls.Pins.{HasPinToSpare, IsPinned}
use Rattle.pin_core.specs.calls.Runs.{IsFit}
use Rattle.pin_core.specs.StateOf.{key_of, page_of, place_in, state_of}
use Rattle.pin_core.proofs.Found.{key_found}
use Rattle.pin_core.proofs.Moved.{page_known}

named_entry : {E : Type 0} (o : Option ℕ) (name : ℕ) (e : Option E) (x : E) → if_named o name e ≡ Some x → (o ≡ Some name) × (e ≡ Some x)
named_entry None name e x is = cc
named_entry {E} (Some found) name e x is = elim (cases_Bool (found == name)) [
  | inl same ↦ (ap Some (eqb-true found name same), sym (ap (λ (b : Bool). if b then e else None) same) ∙ is)
  | inr other ↦ let none : None ≡ Some x = sym (ap (λ (b : Bool). if b then e else None) other) ∙ is in cc
]

-- a buffer as long as so many blocks, of which each is as long as a block
pub fitting : (blocks len : ℕ) (buf : Buffer) (all : ℕ) → 0 < len → buf.block_len ≡ len → all ≡ length buf.bytes → all ≡ buf.blocks * buf.block_len → all ≡ bytes_of len blocks → IsBufferOf blocks len buf
unfolding bytes_of
fitting blocks len buf all some each bytes own wanted =
    let same : buf.blocks * len ≡ blocks * len = ap (λ (n : ℕ). buf.blocks * n) (sym each) ∙ sym own ∙ wanted in record {
      blocks = sym (mul-div_cancel buf.blocks some) ∙ ap (λ (n : ℕ). n / len) same ∙ mul-div_cancel blocks some;
      block_len = each;
      whole = sym bytes ∙ wanted;
    }

module _ {D : Type 0} where
  -- the page is live, and this is its entry
  abbrev pub Seen : Parts D → PageToken → Entry (Kept D) → Type 0
  Seen v p x = IsPage (state_of v) p × (page_at (state_of v) p.name ≡ page_of v.pages p.name x)

  -- the page with this name and key is live, and this is its entry
  abbrev pub Known : Parts D → PageId → Entry (Kept D) → Type 0
  Known v id x = (get (state_of v).pages id.name ≡ Some (page_of v.pages id.name x)) × (key_of v.pages id.name ≡ id.key)

  known_page : (v old : Parts D) → v ≡ old → Lawful v → (id : PageId) (x : Entry (Kept D)) → entry_of v.pages id ≡ Some x → Known old id x
  known_page v old same laws id x there =
      let found : (get v.pages.names id.key ≡ Some id.name) × (get v.pages.entries id.name ≡ Some x) =
      named_entry (get v.pages.names id.key) id.name (get v.pages.entries id.name) x there in
      subst (λ (z : Parts D). Known z id x) same (page_known v id.name x found.1, key_found v.pages laws.proper id.key id.name found.0)

  pub known_maybe : (v old : Parts D) → v ≡ old → Lawful v → (id : PageId) (r : Option (Bor (Entry (Kept D)))) → option_copied r ≡ entry_of v.pages id → IfSome r (λ x. Known old id x.now)
  known_maybe v old same laws id None there = tt
  known_maybe v old same laws id (Some x) there = known_page v old same laws id x.now (sym there)

  known_at : (v : Parts D) (id : PageId) (x : Entry (Kept D)) → Known v id x → page_at (state_of v) id.name ≡ page_of v.pages id.name x
  known_at v id x known = ap (λ (o : Option Page). unwrap_or o no_page) known.0

  pub seen_of : (v : Parts D) (id : PageId) (p : PageToken) (x : Entry (Kept D)) → id ≡ id_in p → Known v id x → Seen v p x
  seen_of v id p x is known =
      let at : page_at (state_of v) p.name ≡ page_of v.pages p.name x = known_at v (id_in p) x (subst (λ (j : PageId). Known v j x) is known) in
      let here : Known v (id_in p) x = subst (λ (j : PageId). Known v j x) is known in
      (record { lives = here.0 ∙ ap Some (sym at); key = ap (λ (y : Page). y.key) at ∙ here.1 }, at)

  pub seen_maybe : (v : Parts D) (id : PageId) (p : PageToken) (r : Option (Bor (Entry (Kept D)))) → id ≡ id_in p → IfSome r (λ x. Known v id x.now) → IfSome r (λ x. Seen v p x.now)
  seen_maybe v id p None is known = tt
  seen_maybe v id p (Some x) is known = seen_of v id p x.now is known

  pub fits_told : (v old : Parts D) → v ≡ old → IsKept v → (blocks : ℕ) (buf : Buffer) (all each from bytes : ℕ) → all ≡ length buf.bytes → all ≡ buf.blocks * buf.block_len → each ≡ buf.block_len
      → from ≡ v.block_len → each ≡ from → bytes ≡ length_of (state_of old) blocks → nat_eq all bytes ≡ true → IsBufferOf blocks old.arena.block_len buf
  fits_told v old same is_kept blocks buf all each from bytes whole own len wanted len_is needed all_is =
      let sized = is_kept.sized in
      let each_is : buf.block_len ≡ v.arena.block_len = sym len ∙ len_is ∙ wanted ∙ sized.len in
      let all_are : all ≡ bytes_of v.arena.block_len blocks = eqb-true all bytes all_is ∙ needed ∙ ap (λ (z : Parts D). bytes_of z.arena.block_len blocks) (sym same) in
      subst (λ (z : Parts D). IsBufferOf blocks z.arena.block_len buf) same (fitting blocks v.arena.block_len buf all sized.some each_is whole own all_are)

  module _ (v : Parts D) (p : PageToken) (x : Entry (Kept D)) (seen : Seen v p x) where
    placed : (place : Place) → place_in x.place ≡ place → (page_at (state_of v) p.name).place ≡ place
    placed place is = ap (λ (y : Page). y.place) seen.1 ∙ is

    fitted : (buf : Buffer) → IsBufferOf x.blocks v.arena.block_len buf → IsBufferOf (page_at (state_of v) p.name).blocks v.arena.block_len buf
    fitted buf fits = subst (λ (n : ℕ). IsBufferOf n v.arena.block_len buf) (sym (ap (λ (y : Page). y.blocks) seen.1)) fits

    pub seen_last : (buf : Buffer) → place_in x.place ≡ Pinned 1 → IsBufferOf x.blocks v.arena.block_len buf → IsLastPin (state_of v) p buf
    seen_last buf pinned fits = record { page = seen.0; pinned = placed (Pinned 1) pinned; buffer = fitted buf fits }

    pub seen_pinned : (count : ℕ) → place_in x.place ≡ Pinned count → IsPinned (state_of v) p
    seen_pinned count pinned =
        let at = placed (Pinned count) pinned in
        record { page = seen.0; pinned = at ∙ ap (λ (q : Place). Pinned (pins_of q)) (sym at) }

    pub seen_with : IsPinned (state_of v) p → (buf : Buffer) → IsBufferOf x.blocks v.arena.block_len buf → IsPinnedWith (state_of v) p buf
    seen_with pinned buf fits = record { pinned = pinned; buffer = fitted buf fits }

    pub seen_spare : IsPinned (state_of v) p → (count : ℕ) → place_in x.place ≡ Pinned count → 2 ≤ count → HasPinToSpare (state_of v) p
    seen_spare pinned count is several = record { pinned = pinned; several = subst (λ (n : ℕ). 2 ≤ n) (sym (ap pins_of (placed (Pinned count) is))) several }

    pub seen_unpinned : ((count : ℕ) → place_in x.place ≢ Pinned count) → place_in x.place ≢ Loading → IsUnpinned (state_of v) p
    seen_unpinned apart waits = record {
      page = seen.0;
      not_pinned = λ count is. apart count (sym (ap (λ (y : Page). y.place) seen.1) ∙ is);
      not_loading = λ is. waits (sym (ap (λ (y : Page). y.place) seen.1) ∙ is);
    }

  -- what a job brings
  module _ (v : Parts D) (id : PageId) (x : Entry (Kept D)) (known : Known v id x) (client count : ℕ) (buf : Buffer) (same : x.client ≡ client) (fits : IsBufferOf x.blocks v.arena.block_len buf) (slots : count ≡ x.blocks) where
    is : page_at (state_of v) id.name ≡ page_of v.pages id.name x
    is = known_at v id x known

    pub job_fits : (row : List D) → length row ≡ count → IsFit buf row
    job_fits row len = record {
      whole = record { blocks = refl; block_len = refl; whole = fits.whole ∙ ap (λ (n : ℕ). n * v.arena.block_len) (sym fits.blocks) ∙ ap (λ (n : ℕ). buf.blocks * n) (sym fits.block_len) };
      slots = len ∙ slots ∙ sym fits.blocks;
    }

    pub written_job : (job : WriteJob D) → job.id ≡ id → job.client ≡ client → job.buf ≡ buf → length job.row ≡ count → place_in x.place ≡ Flying job.who → job.under ≡ under_of v.marked x.version → (IsSession job.who ⊎ IsWriter job.who) → IsWriteJob (state_of v) job
    written_job job id_is client_is buf_is row_is flies under maker =
        let at : page_at (state_of v) job.id.name ≡ page_of v.pages id.name x = ap (λ (j : PageId). page_at (state_of v) j.name) id_is ∙ is in record {
          lives = ap (λ (j : PageId). get (state_of v).pages j.name) id_is ∙ known.0 ∙ ap Some (sym at);
          key = ap (λ (y : Page). y.key) at ∙ known.1 ∙ sym (ap (λ (j : PageId). j.key) id_is);
          flies = ap (λ (y : Page). y.place) at ∙ flies;
          client = ap (λ (y : Page). y.client) at ∙ same ∙ sym client_is;
          under = under ∙ sym (ap (λ (y : Page). under_of v.marked y.version) at);
          buffer = subst (λ (n : ℕ). IsBufferOf n v.arena.block_len job.buf) (sym (ap (λ (y : Page). y.blocks) at)) (subst (IsBufferOf x.blocks v.arena.block_len) (sym buf_is) fits);
          slots = row_is ∙ slots ∙ sym (ap (λ (y : Page). y.blocks) at);
          maker = maker;
        }

    pub read_job : (job : ReadJob D) → job.id ≡ id → job.client ≡ client → job.buf ≡ buf → length job.row ≡ count → place_in x.place ≡ Loading → job.under ≡ under_of v.marked x.version → IsReadJob (state_of v) job
    read_job job id_is client_is buf_is row_is loads under =
        let at : page_at (state_of v) job.id.name ≡ page_of v.pages id.name x = ap (λ (j : PageId). page_at (state_of v) j.name) id_is ∙ is in record {
          lives = ap (λ (j : PageId). get (state_of v).pages j.name) id_is ∙ known.0 ∙ ap Some (sym at);
          key = ap (λ (y : Page). y.key) at ∙ known.1 ∙ sym (ap (λ (j : PageId). j.key) id_is);
          loads = ap (λ (y : Page). y.place) at ∙ loads;
          client = ap (λ (y : Page). y.client) at ∙ same ∙ sym client_is;
          under = under ∙ sym (ap (λ (y : Page). under_of v.marked y.version) at);
          buffer = subst (λ (n : ℕ). IsBufferOf n v.arena.block_len job.buf) (sym (ap (λ (y : Page). y.blocks) at)) (subst (IsBufferOf x.blocks v.arena.block_len) (sym buf_is) fits);
          slots = row_is ∙ slots ∙ sym (ap (λ (y : Page). y.blocks) at);
        }
