-- A page comes, pinned.
use Rattle.std.proofs.Common.{◌≡◌, ℕ, ◌+◌, ◌-◌, ◌<◌, ◌≤◌, ◌==◌, List, [], ◌∷◌, ◌++◌, Some, None, refl, ap, sym, ◌∙◌, subst, inl, inr, arith, one-mul}
use Rattle.std.specs.FinMap.{get, insert}
use Rattle.std.specs.List.{sum_by}
use Rattle.outside.specs.declared.slot.Slot.{Ghosts}
use Rattle.page_table.specs.declared.page_id.PageId.{PageId}
use Rattle.page_table.specs.declared.entry.Entry.{Entry}
use Rattle.page_table.specs.Pages.{IsSpent}
use Rattle.page_table.proofs.Proper.{next_unused}
use Rattle.scratch_dev.specs.Pool.{quota_of}
use Rattle.reservation_tree.specs.Total.{total, weight_at}
use Rattle.reservation_tree.proofs.Maps.{get_same, get_other, same_or_other}
use Rattle.reservation_tree.proofs.Sums.{total-insert}
use Rattle.pool_model.specs.declared.entry.Entry.{Entry as Event}
use Rattle.pool_model.specs.Bytes.{bytes_of, only_if}
use Rattle.pool_model.specs.State.{Page, Pages}
use Rattle.pool_model.specs.Sums.{times_charged, is_in_memory, once, pages_for, bytes_in, slots_of}
use Rattle.pool_model.specs.MayFollow.{MayFollow}
use Rattle.pool_model.specs.Effects.{after}
use Rattle.pool_model.specs.LookingBack.{content_of}
use Rattle.pool_model.specs.HistoryLaws.{made}
use Rattle.pool_model.proofs.Seats.{some_is}
use Rattle.store_api.specs.Tokens.{ClientToken}
use Rattle.pin_core.specs.declared.kept.Kept.{Kept}
use Rattle.pin_core.specs.declared.parts.Parts.{Parts}
use Rattle.pin_core.specs.parts.Keeping.{row_in}
use Rattle.pin_core.specs.StateOf.{page_of, pages_in, state_of}
use Rattle.pin_core.specs.Invariant.{HasHistory, AreCounted, IsQuota, IsKept, slots_in}
use Rattle.pin_core.specs.Lawful.{Lawful}
use Rattle.pin_core.specs.Standing.{Holds, Enters, slots_home}
use Rattle.pin_core.specs.Marking.{form_of}
use Rattle.pin_core.specs.calls.Coming.{CanHold, ReadyCreate, created, create_entry}
use Rattle.pin_core.proofs.Amounts.{rose}
use Rattle.pin_core.proofs.Comes.{IsFreeKey, page_made, entry_made, pages_come, bytes_come, slots_come, all_slots_come, no_page_yet, come_placed, come_stray, come_clean, come_dirty, come_pages}
use Rattle.pin_core.proofs.Crowds.{page_room}
use Rattle.pin_core.proofs.Totals.{short_bytes}
use Rattle.pin_core.proofs.Effects.{same_state}
use Rattle.pin_core.proofs.Histories.{GrewBy, grew, history_grows, content_grows}
use Rattle.pin_core.proofs.Holding.{less, holder_low, holder_live, holder_open, holder_unused, holder_takes}
use Rattle.pin_core.proofs.Listed.{bytes_plus}
use Rattle.pin_core.proofs.Stands.{was_made}

module _ {D : Type 0} (v : Parts D) (is_kept : IsKept v) (laws : Lawful v) (c : ClientToken) (blocks : ℕ) (can : CanHold (state_of v) c blocks) (free : blocks ≤ v.arena.free) where
  pub create_ready : (IsSpent v.pages → ⊥) → ReadyCreate v c.tracker blocks
  create_ready left = record {
    left = left;
    room = let some = can.some in page_room v is_kept laws (omega (arith, some, free));
    free = free;
    opened = holder_open v is_kept c blocks can;
    nodes = is_kept.sized.nodes;
    stray = is_kept.stray;
    short = short_bytes v.arena.block_len blocks can.few is_kept.sized.short;
    tracker = holder_live v is_kept c blocks can;
    unused = holder_unused v is_kept c blocks can;
    len = is_kept.sized.len;
  }

  module _ (id : PageId) (key : IsFreeKey v id) (left : id.name < 18446744073709551615) where
    abbrev new : Parts D
    new = created id c.session c.tracker blocks v

    abbrev len : ℕ
    len = v.arena.block_len

    abbrev entry : Event
    entry = create_entry c id blocks

    abbrev page : Page
    page = page_made id.key c.session c.tracker blocks

    none : get (pages_in v.pages) id.name ≡ None
    none = no_page_yet v is_kept laws id key c.session c.tracker blocks (holder_open v is_kept c blocks can) (can.some, can.few)

    pages : pages_in new.pages ≡ insert (pages_in v.pages) id.name page
    pages =
        let some = can.some in
        come_pages v is_kept laws id key c.session c.tracker blocks (holder_open v is_kept c blocks can) (can.some, can.few) (page_room v is_kept laws (omega (arith, some, free)))

    counted : AreCounted new
    counted = record {
      charges = λ t.
          let sum = pages_come (pages_in v.pages) id.name page none times_charged len t in
          let rise = rose v.tree c.tracker (bytes_of len blocks) t in
          let before = is_kept.counted.charges t in
          let one = ap (only_if (c.tracker == t)) (one-mul (bytes_of len blocks)) in
          let same = ap (λ (m : Pages). pages_for times_charged len m t) pages in
          omega (arith, sum, rise, before, one, same);
      free =
          let sum = bytes_come (pages_in v.pages) id.name page none (once is_in_memory) len in
          let before = is_kept.counted.free in
          let plus = bytes_plus len (v.arena.free - blocks) blocks in
          let whole = ap (bytes_of len) (less v.arena.free blocks free) in
          let one = one-mul (bytes_of len blocks) in
          let same = ap (λ (m : Pages). bytes_in (once is_in_memory) len m) pages in
          omega (arith, sum, before, plus, whole, one, same);
      quotas = λ q.
          let same : slots_of (pages_in v.pages) q ≡ slots_of (pages_in new.pages) q = sym (ap (λ (m : Pages). slots_of m q) pages ∙ slots_come (pages_in v.pages) id.name page none refl q) in
          subst (IsQuota (get (state_of v).sessions q) (quota_of v.slots q)) same (is_kept.counted.quotas q);
      room =
          let same = ap (λ (m : Pages). slots_in m) pages ∙ all_slots_come (pages_in v.pages) id.name page none refl in
          let before = is_kept.counted.room in
          omega (arith, same, before);
    }

    create_state : state_of new ≡ after (state_of v) entry
    create_state =
        same_state (state_of new) (after (state_of v) entry) refl refl refl refl refl pages refl
        (come_dirty v is_kept laws id key c.session c.tracker blocks (holder_open v is_kept c blocks can) (can.some, can.few))
        (come_clean v is_kept laws id key c.session c.tracker blocks (holder_open v is_kept c blocks can) (can.some, can.few)) refl refl

    create_may : (h : List Event) → MayFollow h (state_of v) entry
    create_may h = record {
      makes = holder_low v is_kept c blocks can;
      allows = record { next = key.name; left = left; own = can.client; takes = holder_takes v is_kept c blocks can free };
    }

    pub create_kept : IsKept new
    create_kept = record {
      legal = subst HasHistory (sym create_state) (history_grows (state_of v) entry is_kept.legal create_may);
      placed = come_placed v is_kept laws id key c.session c.tracker blocks (holder_open v is_kept c blocks can) (can.some, can.few);
      stray = come_stray v is_kept laws id key c.session c.tracker blocks (holder_open v is_kept c blocks can) (can.some, can.few);
      counted = counted;
      seated = let z = is_kept.seated in record { clients = z.clients; opens = z.opens; few = z.few };
      lent = is_kept.lent;
      sized =
          let s = is_kept.sized in
          record { len = s.len; some = s.some; short = s.short; memory = s.memory; clients = s.clients; sessions = s.sessions; nodes = s.nodes; cleans = s.cleans; book = s.book };
    }

    abbrev made_entry : Entry (Kept D)
    made_entry = entry_made id c.session c.tracker blocks

    create_slots : (measure : D → ℕ) → slots_home measure new ≡ slots_home measure v
    create_slots measure =
        let weigh : ℕ → Entry (Kept D) → ℕ = λ _ x. sum_by measure (row_in x.scratch) in
        let sum : total weigh (insert v.pages.entries id.name made_entry) + weight_at weigh id.name (get v.pages.entries id.name) ≡ total weigh v.pages.entries + 0 = total-insert weigh v.pages.entries id.name made_entry in
        let old : weight_at weigh id.name (get v.pages.entries id.name) ≡ 0 = ap (weight_at weigh id.name) (ap (get v.pages.entries) key.name ∙ next_unused v.pages laws.proper) in
        omega (arith, sum, old)

    pub create_enters : (slot : Ghosts D) → Enters slot (entry ∷ []) [] [] v new
    create_enters slot = record {
      state = create_state;
      stands = λ o h stood.
          let more : GrewBy o h (state_of v) entry = grew o h (state_of v) entry stood.legal stood.state (create_may h) in
          record {
            legal = more.legal;
            state = create_state ∙ more.state;
            holds = λ q x there. elim (same_or_other q id.name) [
              | inl same ↦
                  let page_is : made_entry ≡ x = some_is made_entry x (sym (get_same v.pages.entries id.name made_entry) ∙ ap (get (insert v.pages.entries id.name made_entry)) (sym same) ∙ there) in
                  subst (λ (z : Entry (Kept D)). Holds slot (form_of v) q (content_of o (h ++ entry ∷ []) q) z) page_is (record { mem = tt; kept = tt })
              | inr other ↦
                  let before : get v.pages.entries q ≡ Some x = sym (get_other v.pages.entries id.name made_entry q other) ∙ there in
                  let bytes : content_of o (h ++ entry ∷ []) q ≡ content_of o h q = content_grows o h entry q (made (page_of v.pages q x)) (was_made slot o h v stood q x before) in
                  subst (λ (b : List ℕ). Holds slot (form_of v) q b x) (sym bytes) (stood.holds q x before)
            ];
          };
      slots = λ measure. let same = create_slots measure in omega (arith, same);
    }
