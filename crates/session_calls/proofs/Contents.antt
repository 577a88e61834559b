-- The content of a page that isn't pinned is what its session left in it last.
use Rattle.std.proofs.Common.{◌≡◌, ℕ, ◌*◌, List, [], length, Some, sym, ap, ◌∙◌}
use Rattle.std.specs.FinMap.{get}
use Rattle.block_arena.specs.Memory.{Buffer}
use Rattle.outside.specs.declared.slot.Slot.{Ghosts}
use Rattle.pool_model.specs.declared.entry.Entry.{Entry}
use Rattle.pool_model.specs.State.{Opening, Pinned, State, page_at}
use Rattle.pool_model.specs.Sums.{length_of}
use Rattle.pool_model.specs.Legal.{state_after}
use Rattle.pool_model.specs.LookingBack.{content_of, content_from}
use Rattle.pool_model.specs.OwnLaws.{IsContent}
use Rattle.pool_model.proofs.Resting.{legal_contents_are_told}
use Rattle.store_api.specs.Tokens.{PageToken}
use Rattle.store_api.specs.Holdings.{Holdings, page_of}
use Rattle.store_api.specs.Conditions.{IsPage, ShowsLeft}
use Rattle.own_entries.proofs.Views.{len_is}
use Rattle.pin_core.specs.declared.parts.Parts.{Parts}
use Rattle.pin_core.specs.StateOf.{state_of}
use Rattle.pin_core.specs.Standing.{StandsFor}
use Rattle.pin_core.specs.calls.PinTurns.{IsContent as HasContent}
use Rattle.session_calls.proofs.Known.{KnownTo, left_of}
use Rattle.session_calls.proofs.Pages.{is_there, fits_here, left_here, not_pinned}

module _ {D : Type 0} (slot : Ghosts D) (v : Parts D) (o : Opening) (h : List Entry) (stood : StandsFor slot o h v) (p : ℕ) (lives : get (state_of v).pages p ≡ Some (page_at (state_of v) p)) where
  it : IsContent o h (state_after o h) p (page_at (state_of v) p)
  it = legal_contents_are_told o h stood.legal p (page_at (state_of v) p) (ap (λ (s : State). get s.pages p) (sym stood.state) ∙ lives)

  pub content_told : ((count : ℕ) → (page_at (state_of v) p).place ≡ Pinned count → ⊥) → content_of o h p ≡ content_from p [] h
  content_told rests = it.left (it.rests rests) []

  pub content_whole : length (content_of o h p) ≡ (page_at (state_of v) p).blocks * (state_of v).block_len
  content_whole = it.whole ∙ ap (λ (s : State). length_of s (page_at (state_of v) p).blocks) (sym stood.state) ∙ len_is (state_of v).block_len (page_at (state_of v) p).blocks

-- a buffer with the content of a page that a session holds and hasn't pinned shows what was left in the page
module _ {D : Type 0} (slot : Ghosts D) (v : Parts D) (o : Opening) (hist : List Entry) (stood : StandsFor slot o hist v) {m : ℕ} {h : Holdings} (k : KnownTo (left_of hist) (state_of v) m h) (p : PageToken) (held : IsPage p h)
    (none : (page_of p.name h).pins ≡ 0) where
  pub content_left : content_of o hist p.name ≡ (page_of p.name h).left
  content_left = content_told slot v o hist stood p.name (is_there k p held).page.lives (not_pinned k p held none) ∙ sym (left_here k p held none)

  pub shows_left : (buf : Buffer) → HasContent slot p.name buf v → ShowsLeft (page_of p.name h) h buf
  shows_left buf content = record {
    fits = fits_here k p held buf content.whole;
    bytes = λ told. content.content o hist stood ∙ content_left;
  }
