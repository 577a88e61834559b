-- For which history the parts stand once one page went to another place.
use Rattle.std.proofs.Common.{◌≡◌, ◌≢◌, ℕ, List, [], ◌∷◌, ◌++◌, Option, Some, option_map, ap, sym, ◌∙◌, subst, inl, inr}
use Rattle.std.specs.FinMap.{get}
use Rattle.outside.specs.declared.slot.Slot.{Ghosts}
use Rattle.page_table.specs.declared.entry.Entry.{Entry}
use Rattle.page_table.specs.Pages.{IsProper}
use Rattle.reservation_tree.proofs.Maps.{same_or_other}
use Rattle.pool_model.specs.declared.entry.Entry.{Entry as Event}
use Rattle.pool_model.specs.State.{Opening, State}
use Rattle.pool_model.specs.MayFollow.{MayFollow}
use Rattle.pool_model.specs.Effects.{after}
use Rattle.pool_model.specs.LookingBack.{maker_of, left_in, content_of}
use Rattle.pool_model.specs.HistoryLaws.{made}
use Rattle.pool_model.proofs.Made.{legal_pages_as_made}
use Rattle.pool_model.proofs.Seats.{some_is}
use Rattle.pin_core.specs.declared.kept.Kept.{Kept}
use Rattle.pin_core.specs.declared.parts.Parts.{Parts}
use Rattle.pin_core.specs.StateOf.{page_of, state_of}
use Rattle.pin_core.specs.Standing.{StandsFor, Holds}
use Rattle.pin_core.specs.Marking.{Form, form_of}
use Rattle.pin_core.proofs.Mapped.{get_mapped}
use Rattle.pin_core.proofs.Histories.{GrewBy, grew, content_grows}
use Rattle.pin_core.proofs.Moving.{Moves, entry_here, entry_other}

module _ {D : Type 0} (slot : Ghosts D) (o : Opening) (h : List Event) (v : Parts D) (stands : StandsFor slot o h v) where
  pub was_made : (p : ℕ) (x : Entry (Kept D)) → get v.pages.entries p ≡ Some x → maker_of h p ≡ Some (made (page_of v.pages p x))
  was_made p x is =
      legal_pages_as_made o h stands.legal p (page_of v.pages p x)
      (ap (λ (s : State). get s.pages p) (sym stands.state) ∙ get_mapped (page_of v.pages) v.pages.entries p ∙ ap (λ (q : Option (Entry (Kept D))). option_map (page_of v.pages p) q) is)

  -- the parts stand for one entry more
  pub stands_moved : (key name : ℕ) (x w : Entry (Kept D)) (new : Parts D) → Moves key name x w v new → IsProper v.pages → (e : Event)
      → MayFollow h (state_of v) e → state_of new ≡ after (state_of v) e
      → ((q : ℕ) (old : List ℕ) → q ≢ name → left_in q e.event old ≡ old)
      → Holds slot (form_of v) name (content_of o (h ++ e ∷ []) name) w
      → StandsFor slot o (h ++ e ∷ []) new
  stands_moved key name x w new moves proper e may is others here =
      let more : GrewBy o h (state_of v) e = grew o h (state_of v) e stands.legal stands.state may in
      record {
        legal = more.legal;
        state = is ∙ more.state;
        holds = λ q page there. subst (λ (f : Form). Holds slot f q (content_of o (h ++ e ∷ []) q) page) (sym moves.form) (elim (same_or_other q name) [
          | inl same ↦
              let page_is : w ≡ page = some_is w page (sym (entry_here key name x w v new moves proper) ∙ ap (get new.pages.entries) (sym same) ∙ there) in
              subst (λ (z : Entry (Kept D)). Holds slot (form_of v) q (content_of o (h ++ e ∷ []) q) z) page_is
              (subst (λ (n : ℕ). Holds slot (form_of v) n (content_of o (h ++ e ∷ []) n) w) (sym same) here)
          | inr other ↦
              let before : get v.pages.entries q ≡ Some page = sym (entry_other key name x w v new moves proper q other) ∙ there in
              let bytes : content_of o (h ++ e ∷ []) q ≡ content_of o h q = content_grows o h e q (made (page_of v.pages q page)) (was_made q page before) ∙ others q (content_of o h q) other in
              subst (λ (b : List ℕ). Holds slot (form_of v) q b page) (sym bytes) (stands.holds q page before)
        ]);
      }
