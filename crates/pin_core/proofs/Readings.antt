-- What readers tell, and what a pool gives back at its end.
use Rattle.std.proofs.Common.{◌≡◌, ℕ, List, Option, Some, None, IsSome, unwrap_or, option_map, ap, sym, ◌∙◌, subst, arith}
use Rattle.std.specs.FinMap.{get}
use Rattle.std.specs.List.{sum_by}
use Rattle.page_table.specs.declared.entry.Entry.{Entry}
use Rattle.page_table.specs.declared.page_id.PageId.{PageId}
use Rattle.reservation_tree.specs.Total.{total}
use Rattle.reservation_tree.proofs.Maps.{is_there}
use Rattle.reservation_tree.proofs.Sums.{total-none}
use Rattle.scratch_dev.specs.Pool.{Scratch, quota_of}
use Rattle.session_table.specs.Seats.{Seat, seat_of}
use Rattle.session_table.specs.Sessions.{sessions_in}
use Rattle.pool_model.specs.Bytes.{bytes_of}
use Rattle.pool_model.specs.State.{Session, Page, page_at}
use Rattle.pool_model.specs.Sums.{length_of, slots_of}
use Rattle.pool_model.proofs.Seats.{some_is}
use Rattle.store_api.specs.Tokens.{PageToken}
use Rattle.pin_core.specs.declared.kept.Kept.{Kept}
use Rattle.pin_core.specs.declared.parts.Parts.{Parts}
use Rattle.pin_core.specs.parts.Changes.{entry_at}
use Rattle.pin_core.specs.parts.Keeping.{row_in}
use Rattle.pin_core.specs.StateOf.{page_of, pages_in, state_of}
use Rattle.pin_core.specs.Invariant.{IsKept}
use Rattle.pin_core.specs.Lawful.{Lawful}
use Rattle.pin_core.specs.calls.Needs.{IsPage, id_in}
use Rattle.pin_core.specs.calls.Sessions.{IsSeat, query_of}
use Rattle.pin_core.specs.Standing.{slots_home}
use Rattle.pin_core.proofs.Adding.{Sits, sits}
use Rattle.pin_core.proofs.Came.{none_open}
use Rattle.pin_core.proofs.Found.{Found, found_page}
use Rattle.pin_core.proofs.Moved.{page_known}
use Rattle.pin_core.proofs.Places.{page_owned}
use Rattle.pin_core.proofs.Queries.{session_here}

module _ {D : Type 0} (v old : Parts D) (same : v ≡ old) where
  pub seat_lives : Lawful v → (s : ℕ) → IsSeat (state_of old) s → IsSome (seat_of v.seats s)
  seat_lives laws s live = let seat : Sits v s = sits v old same laws s live in is_there (seat_of v.seats s) seat.seat seat.there

  pub query_told : Lawful v → (s : ℕ) → IsSeat (state_of old) s → (found r : ℕ) → option_map (λ x. x.query) (seat_of v.seats s) ≡ Some found → r ≡ found → r ≡ query_of (state_of old) s
  query_told laws s live found r found_is is =
      let seat : Sits v s = sits v old same laws s live in
      let own : seat.seat.query ≡ found = some_is seat.seat.query found (sym (ap (λ (o : Option Seat). option_map (λ x. x.query) o) seat.there) ∙ found_is) in
      let named : query_of (state_of v) s ≡ seat.seat.query = ap (λ (o : Option Session). unwrap_or (option_map (λ x. x.query) o) 0) (session_here v.seats s seat.seat seat.there) in
      is ∙ sym own ∙ sym named ∙ ap (λ (z : Parts D). query_of (state_of z) s) same

  module _ (laws : Lawful v) (p : PageToken) (page : IsPage (state_of old) p) (id : PageId) (named : id ≡ id_in p) where
    f : Found v p (entry_at v p.name)
    f = found_page v laws.proper p (subst (λ (z : Parts D). IsPage (state_of z) p) (sym same) page)

    pub page_lives : get v.pages.names id.key ≡ Some id.name
    page_lives = subst (λ (i : PageId). get v.pages.names i.key ≡ Some i.name) (sym named) f.live

    pub page_there : get v.pages.entries id.name ≡ Some (entry_at v id.name)
    page_there = subst (λ (i : PageId). get v.pages.entries i.name ≡ Some (entry_at v i.name)) (sym named) f.there

    pub len_told : IsKept v → (blocks r : ℕ) → blocks ≡ (entry_at v id.name).blocks → r ≡ bytes_of v.block_len blocks → r ≡ length_of (state_of old) (page_at (state_of old) p.name).blocks
    len_told is_kept blocks r blocks_are is =
        is
        ∙ ap (λ (b : ℕ). bytes_of v.block_len b) (blocks_are ∙ ap (λ (i : PageId). (entry_at v i.name).blocks) named ∙ sym (ap (λ (y : Page). y.blocks) f.is))
        ∙ ap (λ (len : ℕ). bytes_of len (page_at (state_of v) p.name).blocks) is_kept.sized.len
        ∙ ap (λ (z : Parts D). length_of (state_of z) (page_at (state_of z) p.name).blocks) same

  -- without sessions no quota is open, and all slots are free
  module _ (is_kept : IsKept v) (ended : (s : ℕ) → get (state_of old).sessions s ≡ None) (slots : Scratch D) (slots_are : slots ≡ v.slots) where
    none_now : (s : ℕ) → get (sessions_in v.seats) s ≡ None
    none_now s = ap (λ (z : Parts D). get (state_of z).sessions s) same ∙ ended s

    pub quotas_ended : (q : ℕ) → quota_of slots q ≡ None
    quotas_ended q =
        ap (λ (z : Scratch D). quota_of z q) slots_are
        ∙ none_open (get (sessions_in v.seats) q) (quota_of v.slots q) (slots_of (pages_in v.pages) q) (is_kept.counted.quotas q) (none_now q)

    no_page : (p : ℕ) (x : Entry (Kept D)) → get v.pages.entries p ≡ Some x → ⊥
    no_page p x there =
        let owned = page_owned (state_of v) is_kept.legal p (page_of v.pages p x) (page_known v p x there) in
        let both : None ≡ Some owned.session = sym (none_now x.session) ∙ owned.opened in cc

    pub all_home : (measure : D → ℕ) (items : List D) → items ≡ slots.free → sum_by measure items ≡ slots_home measure old
    all_home measure items is =
        let none : total (λ _ (page : Entry (Kept D)). sum_by measure (row_in page.scratch)) v.pages.entries ≡ 0 = total-none _ v.pages.entries (λ p x there. absurd (no_page p x there)) in
        let free : sum_by measure items ≡ sum_by measure v.slots.free = ap (sum_by measure) (is ∙ ap (λ (z : Scratch D). z.free) slots_are) in
        let whole : sum_by measure items ≡ slots_home measure v = omega (arith, none, free) in
        whole ∙ ap (slots_home measure) same
