-- What waits of a session's pages to be written fits its query's limit, and all memory.
use Rattle.std.proofs.Common.{◌≡◌, ℕ, ◌+◌, ◌*◌, ◌≤◌, ◌==◌, true, false, if◌then◌else◌, List, Option, Some, None, refl, ap, sym, ◌∙◌, subst, arith, eq-eqb, inl, inr}
use Rattle.std.specs.FinMap.{get}
use Rattle.reservation_tree.specs.Total.{total}
use Rattle.reservation_tree.specs.Tracker.{reservation_of, limit_of, share_of, children_of, Fits}
use Rattle.reservation_tree.proofs.Maps.{is_there, same_or_other}
use Rattle.reservation_tree.proofs.Outline.{reservation_is}
use Rattle.reservation_tree.proofs.Sums.{total-le, total-none, weight-le-total}
use Rattle.pool_model.specs.declared.entry.Entry.{Entry}
use Rattle.pool_model.specs.Bytes.{bytes_of, only_if}
use Rattle.pool_model.specs.State.{Place, Pinned, Dirty, Flying, Loading, Clean, Evicted, Opening, Page, Session, State}
use Rattle.pool_model.specs.Sums.{times_held, page_bytes, pages_for, buffers_for, memory}
use Rattle.pool_model.specs.Owning.{IsClientOf}
use Rattle.pool_model.specs.Legal.{state_after, IsLegal}
use Rattle.pool_model.specs.Sound.{IsQuery, IsSound}
use Rattle.pool_model.proofs.Failures.{legal_pages_are_owned}
use Rattle.pool_model.proofs.Kept.{legal_sound}
use Rattle.pool_model.proofs.Seats.{some_is}
use Rattle.pool_model.proofs.Weights.{only_none, only_when, only_less, only_le, mine, not_mine, total-single, by-owners}
use Rattle.own_entries.specs.LiveParts.{is_parent}
use Rattle.session_shares.proofs.Unwritten.{times_unwritten, waiting, unwritten_for}

-- what waits to be written is held
held_too : (place : Place) (n : ℕ) → times_unwritten place * n ≤ times_held place * n
held_too (Pinned count) n = omega arith
held_too Dirty n = omega arith
held_too (Flying writer) n = omega arith
held_too Loading n = omega arith
held_too Clean n = omega arith
held_too Evicted n = omega arith

-- what is within a reservation is within its share
share_le : (q n r : ℕ) (parent : Option ℕ) → n ≤ r → only_if (is_parent q parent) n ≤ share_of q parent r
share_le q n r None less = omega arith
share_le q n r (Some p) less = elim (p == q) as (λ b. only_if b n ≤ (if b then r else 0)) [ true ↦ less | false ↦ omega arith ]

module _ (o : Opening) (h : List Entry) (legal : IsLegal o h) (m : ℕ) where
  abbrev s : State
  s = state_after o h

  -- a page of the session is for a client of it
  its_client : (p : ℕ) (y : Page) → get s.pages p ≡ Some y → y.session ≡ m → IsClientOf s m y.client
  its_client p y there own = subst (λ (n : ℕ). IsClientOf s n y.client) own (legal_pages_are_owned o h legal p y there)

  -- where the session isn't live it has no page
  pub none_unwritten : get s.sessions m ≡ None → unwritten_for m s.block_len s.pages ≡ 0
  unfolding unwritten_for
  none_unwritten gone = total-none (λ _ y. waiting m s.block_len y) s.pages (λ p y there. elim (same_or_other y.session m) [
    | inl own ↦ let client = its_client p y there own in let both : None ≡ Some client.session = sym gone ∙ client.opened in cc
    | inr other ↦ not_mine y.session m _ other
  ])

  module _ (x : Session) (is : get s.sessions m ≡ Some x) where
    abbrev q : ℕ
    q = x.query

    -- what a client of the session has counts once
    its_share : (c n : ℕ) → IsClientOf s m c → total (λ d y. only_if (is_parent q y.parent) (only_if (c == d) n)) s.trackers ≡ n
    its_share c n client =
        let same : client.session ≡ x = some_is client.session x (sym client.opened ∙ is) in
        let under : client.tracker.parent ≡ Some q = client.under ∙ ap (λ (z : Session). Some z.query) same in
        total-single (λ d y. only_if (is_parent q y.parent) (only_if (c == d) n)) s.trackers c client.tracker client.lives
        (λ d y lives other. ap (only_if (is_parent q y.parent)) (not_mine c d n (λ same. other (sym same))) ∙ only_none (is_parent q y.parent))
        ∙ only_when (is_parent q client.tracker.parent) (only_if (c == c) n) (ap (is_parent q) under ∙ eq-eqb q q refl) ∙ mine c n

    -- and so does each page
    counts_once : (p : ℕ) (y : Page) → get s.pages p ≡ Some y → total (λ d z. only_if (is_parent q z.parent) (only_if (y.client == d) (waiting m s.block_len y))) s.trackers ≡ waiting m s.block_len y
    counts_once p y there = elim (same_or_other y.session m) [
      | inl own ↦ its_share y.client (waiting m s.block_len y) (its_client p y there own)
      | inr other ↦
          let none : waiting m s.block_len y ≡ 0 = not_mine y.session m _ other in
          total-none (λ d z. only_if (is_parent q z.parent) (only_if (y.client == d) (waiting m s.block_len y))) s.trackers
          (λ d z lives. ap (λ (n : ℕ). only_if (is_parent q z.parent) (only_if (y.client == d) n)) none ∙ ap (only_if (is_parent q z.parent)) (only_none (y.client == d)) ∙ only_none (is_parent q z.parent))
          ∙ sym none
    ]

    -- what waits of one page is held by its client
    held_by_client : (c : ℕ) (y : Page) → only_if (y.client == c) (waiting m s.block_len y) ≤ only_if (y.client == c) (page_bytes times_held s.block_len y)
    held_by_client c y =
        let less = only_less (y.session == m) (page_bytes times_unwritten s.block_len y) in
        let held = held_too y.place (bytes_of s.block_len y.blocks) in
        only_le (y.client == c) (waiting m s.block_len y) (page_bytes times_held s.block_len y) (omega (arith, less, held))

    -- all of it fits what the session's clients have reserved
    within_clients : unwritten_for m s.block_len s.pages ≤ children_of s.trackers q
    unfolding unwritten_for pages_for children_of
    within_clients =
        let sound : IsSound s = legal_sound o h legal in
        let w : ℕ → ℕ → Page → ℕ = λ c _ y. only_if (y.client == c) (waiting m s.block_len y) in
        let shared : total (λ c z. only_if (is_parent q z.parent) (total (w c) s.pages)) s.trackers ≡ total (λ _ y. waiting m s.block_len y) s.pages =
        by-owners (λ z. is_parent q z.parent) w (λ _ y. waiting m s.block_len y) s.trackers s.pages counts_once in
        let less : total (λ c z. only_if (is_parent q z.parent) (total (w c) s.pages)) s.trackers ≤ total (λ _ z. share_of q z.parent z.reservation) s.trackers =
        total-le (λ c z. only_if (is_parent q z.parent) (total (w c) s.pages)) (λ _ z. share_of q z.parent z.reservation) s.trackers (λ c z lives.
        let part : total (w c) s.pages ≤ pages_for times_held s.block_len s.pages c = total-le (w c) (λ _ y. only_if (y.client == c) (page_bytes times_held s.block_len y)) s.pages (λ p y there. held_by_client c y) in
        let fits : pages_for times_held s.block_len s.pages c + buffers_for s.block_len s.buffers c ≤ reservation_of s.trackers c = sound.within.held c in
        let has : reservation_of s.trackers c ≡ z.reservation = reservation_is s.trackers c z lives in
        share_le q (total (w c) s.pages) z.reservation z.parent (omega (arith, part, fits, has))) in
        omega (arith, shared, less)

    -- the query's reservation is among those under the root
    under_root : (its : IsQuery s.trackers q) → reservation_of s.trackers q ≤ children_of s.trackers 0
    unfolding children_of
    under_root its =
        let share : share_of 0 its.tracker.parent its.tracker.reservation ≤ total (λ _ z. share_of 0 z.parent z.reservation) s.trackers = weight-le-total (λ _ z. share_of 0 z.parent z.reservation) s.trackers q its.tracker its.lives in
        let all : share_of 0 its.tracker.parent its.tracker.reservation ≡ its.tracker.reservation = ap (λ (parent : Option ℕ). share_of 0 parent its.tracker.reservation) its.under in
        let has : reservation_of s.trackers q ≡ its.tracker.reservation = reservation_is s.trackers q its.tracker its.lives in
        omega (arith, share, all, has)

    pub fits_query : (unwritten_for m s.block_len s.pages ≤ limit_of s.trackers q) × (unwritten_for m s.block_len s.pages ≤ memory s)
    fits_query =
        let sound : IsSound s = legal_sound o h legal in
        let its : IsQuery s.trackers q = sound.seated.seats m x is in
        let fit : Fits (λ _. 0) s.trackers q = sound.seated.children_fit q (is_there (get s.trackers q) its.tracker its.lives) in
        let root : Fits (λ _. 0) s.trackers 0 = sound.seated.children_fit 0 sound.seated.tree.root in
        let top : limit_of s.trackers 0 ≡ memory s = sound.seated.top in
        let under = under_root its in
        let held = within_clients in
        (omega (arith, held, fit.within, fit.below), omega (arith, held, fit.within, under, root.within, root.below, top))
