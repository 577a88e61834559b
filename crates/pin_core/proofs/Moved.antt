-- One page went to another place: all that follows.
use Rattle.std.proofs.Common.{◌≡◌, ◌≢◌, ℕ, ◌+◌, ◌<◌, ◌≤◌, ◌==◌, Bool, List, [], ◌∷◌, ◌++◌, Option, Some, option_map, ap, sym, ◌∙◌, subst, arith}
use Rattle.std.specs.FinMap.{get, insert}
use Rattle.std.specs.List.{sum_by}
use Rattle.buffer_transfer.specs.declared.lent.Lent.{Lent}
use Rattle.reservation_tree.specs.Total.{total, weight_at}
use Rattle.reservation_tree.proofs.Sums.{total-insert}
use Rattle.outside.specs.declared.slot.Slot.{Ghosts}
use Rattle.page_table.specs.declared.entry.Entry.{Entry}
use Rattle.page_table.specs.Pages.{IsProper}
use Rattle.scratch_dev.specs.Pool.{quota_of}
use Rattle.pool_model.specs.declared.entry.Entry.{Entry as Event}
use Rattle.pool_model.specs.Bytes.{only_if}
use Rattle.pool_model.specs.State.{Opening, Pages}
use Rattle.pool_model.specs.Sums.{slots_of}
use Rattle.pool_model.specs.MayFollow.{MayFollow}
use Rattle.pool_model.specs.Effects.{after}
use Rattle.pool_model.specs.LookingBack.{left_in, content_of}
use Rattle.pin_core.specs.declared.kept.Kept.{Kept}
use Rattle.pin_core.specs.declared.parts.Parts.{Parts}
use Rattle.pin_core.specs.parts.Keeping.{has_slots, row_in}
use Rattle.pin_core.specs.StateOf.{page_of, pages_in, state_of}
use Rattle.pin_core.specs.Invariant.{HasHistory, IsPlaced, IsQuota, IsSized, AreSeated, IsKept}
use Rattle.pin_core.specs.Standing.{Holds, StandsFor, slots_home}
use Rattle.pin_core.specs.Marking.{form_of}
use Rattle.pin_core.proofs.Mapped.{get_mapped}
use Rattle.pin_core.proofs.Histories.{history_grows}
use Rattle.pin_core.proofs.Moving.{Moves, moved_placed, moved_stray, moved_pages}
use Rattle.pin_core.proofs.Amounts.{Charges, slots_put, moved_counted}
use Rattle.pin_core.proofs.Stands.{stands_moved}

module _ {D : Type 0} where
  pub page_known : (v : Parts D) (p : ℕ) (x : Entry (Kept D)) → get v.pages.entries p ≡ Some x → get (pages_in v.pages) p ≡ Some (page_of v.pages p x)
  page_known v p x is = get_mapped (page_of v.pages) v.pages.entries p ∙ ap (λ (o : Option (Entry (Kept D))). option_map (page_of v.pages p) o) is

  -- the page's move is the one that this entry tells
  pub record Tells (key name : ℕ) (x w : Entry (Kept D)) (v new : Parts D) (e : Event) : Type 0 where
    pub moves : Moves key name x w v new
    pub placed : IsPlaced new key w
    pub charges : Charges v.arena.block_len x w v new
    pub quotas : (q : ℕ) → IsQuota (get (state_of new).sessions q) (quota_of new.slots q) (slots_of (pages_in new.pages) q)
    pub seated : AreSeated new
    pub sized : IsSized new
    pub state : state_of new ≡ after (state_of v) e
    pub may : (h : List Event) → MayFollow h (state_of v) e

  module _ (key name : ℕ) (x w : Entry (Kept D)) (v new : Parts D) (e : Event) (is_kept : IsKept v) (proper : IsProper v.pages) (tells : Tells key name x w v new e) where
    pub told_kept : IsKept new
    told_kept = record {
      legal = subst HasHistory (sym tells.state) (history_grows (state_of v) e is_kept.legal tells.may);
      placed = moved_placed key name x w v new tells.moves proper is_kept.placed tells.placed;
      stray = moved_stray key name x w v new tells.moves proper is_kept.stray;
      counted = moved_counted key name x w v new tells.moves proper is_kept.counted tells.charges tells.quotas;
      seated = tells.seated;
      lent = subst (λ b. (f : ℕ) (y : Lent) → get b.buffers f ≡ Some y → (0 < y.blocks) × (y.blocks ≤ 256)) (sym tells.charges.buffers) is_kept.lent;
      sized = tells.sized;
    }

    pub told_stands : (slot : Ghosts D) (o : Opening) (h : List Event) → StandsFor slot o h v
        → ((q : ℕ) (old : List ℕ) → q ≢ name → left_in q e.event old ≡ old)
        → Holds slot (form_of v) name (content_of o (h ++ e ∷ []) name) w
        → StandsFor slot o (h ++ e ∷ []) new
    told_stands slot o h stands others here = stands_moved slot o h v stands key name x w new tells.moves proper e (tells.may h) tells.state others here

    -- the slots at home change by those of this page, and by those that are free
    pub told_slots : (measure : D → ℕ) → slots_home measure new + (sum_by measure (row_in x.scratch) + sum_by measure v.slots.free)
        ≡ slots_home measure v + (sum_by measure (row_in w.scratch) + sum_by measure new.slots.free)
    told_slots measure =
        let weigh : ℕ → Entry (Kept D) → ℕ = λ _ page. sum_by measure (row_in page.scratch) in
        let sum : total weigh (insert v.pages.entries name w) + weight_at weigh name (get v.pages.entries name) ≡ total weigh v.pages.entries + weigh name w = total-insert weigh v.pages.entries name w in
        let old : weight_at weigh name (get v.pages.entries name) ≡ weigh name x = ap (weight_at weigh name) tells.moves.there in
        let same : total weigh new.pages.entries ≡ total weigh (insert v.pages.entries name w) = ap (λ t. total weigh t.entries) tells.moves.pages in
        omega (arith, sum, old, same)

  -- quotas stay where the page has slots as before
  pub quiet_quotas : (key name : ℕ) (x w : Entry (Kept D)) (v new : Parts D) → Moves key name x w v new → IsProper v.pages → IsKept v
      → w.session ≡ x.session → w.blocks ≡ x.blocks → has_slots w.scratch ≡ has_slots x.scratch → new.slots ≡ v.slots
      → ((q : ℕ) (n : ℕ) → IsQuota (get (state_of v).sessions q) (quota_of v.slots q) n → IsQuota (get (state_of new).sessions q) (quota_of v.slots q) n)
      → (q : ℕ) → IsQuota (get (state_of new).sessions q) (quota_of new.slots q) (slots_of (pages_in new.pages) q)
  quiet_quotas key name x w v new moves proper is_kept session blocks slots same seats q =
      let sum = slots_put (pages_in v.pages) name (page_of v.pages name x) (page_of v.pages name w) (page_known v name x moves.there) q in
      let part : only_if (w.session == q) (only_if (has_slots w.scratch) w.blocks) ≡ only_if (x.session == q) (only_if (has_slots x.scratch) x.blocks) =
      ap (λ (s : ℕ). only_if (s == q) (only_if (has_slots w.scratch) w.blocks)) session ∙ ap (λ (b : Bool). only_if (x.session == q) (only_if b w.blocks)) slots ∙ ap (λ (n : ℕ). only_if (x.session == q) (only_if (has_slots x.scratch) n)) blocks in
      let equal : slots_of (pages_in v.pages) q ≡ slots_of (insert (pages_in v.pages) name (page_of v.pages name w)) q = omega (arith, sum, part) in
      let pages : slots_of (pages_in v.pages) q ≡ slots_of (pages_in new.pages) q = equal ∙ ap (λ (m : Pages). slots_of m q) (sym (moved_pages key name x w v new moves proper)) in
      subst (λ s. IsQuota (get (state_of new).sessions q) (quota_of s q) (slots_of (pages_in new.pages) q)) (sym same)
      (seats q (slots_of (pages_in new.pages) q) (subst (IsQuota (get (state_of v).sessions q) (quota_of v.slots q)) pages (is_kept.counted.quotas q)))
