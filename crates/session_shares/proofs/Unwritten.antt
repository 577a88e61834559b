-- The bytes of a session's pages that wait to be written, when one page changes.
use Rattle.std.proofs.Common.{◌≡◌, ℕ, ◌+◌, ◌*◌, ◌≤◌, ◌==◌, Some, None, ap, sym, subst, arith}
use Rattle.std.specs.FinMap.{get, insert, remove}
use Rattle.reservation_tree.specs.Total.{total, weight_at}
use Rattle.reservation_tree.proofs.Sums.{total-insert, total-remove}
use Rattle.pool_model.specs.Bytes.{bytes_of, only_if}
use Rattle.pool_model.specs.State.{Place, Dirty, Flying, Page, Pages, page_at, State}
use Rattle.pool_model.specs.Sums.{page_bytes}
use Rattle.pool_model.proofs.Pages.{page_is}
use Rattle.pool_model.proofs.Weights.{only_less}

-- a page counts once while it waits to be written, and while it is being written
abbrev pub times_unwritten : Place → ℕ
times_unwritten Dirty = 1
times_unwritten (Flying writer) = 1
times_unwritten _ = 0

-- the bytes of a page that does, where it is this session's
abbrev pub waiting : ℕ → ℕ → Page → ℕ
waiting m len x = only_if (x.session == m) (page_bytes times_unwritten len x)

-- the bytes of all of this session's pages that do
unfoldable pub unwritten_for : ℕ → ℕ → Pages → ℕ
unwritten_for m len pages = total (λ _ x. waiting m len x) pages

module _ (m len : ℕ) (pages : Pages) (p : ℕ) where
  -- a page comes with a name that none had
  pub came : (y : Page) → get pages p ≡ None → unwritten_for m len pages ≤ unwritten_for m len (insert pages p y)
  unfolding unwritten_for
  came y none =
      let w : ℕ → Page → ℕ = λ _ x. waiting m len x in
      let sum : total w (insert pages p y) + weight_at w p (get pages p) ≡ total w pages + w p y = total-insert w pages p y in
      let bare : weight_at w p (get pages p) ≡ 0 = ap (weight_at w p) none in
      omega (arith, sum, bare)

  module _ (x : Page) (is : get pages p ≡ Some x) where
    -- another comes in place of it
    pub put : (y : Page) → unwritten_for m len (insert pages p y) + waiting m len x ≡ unwritten_for m len pages + waiting m len y
    unfolding unwritten_for
    put y =
        let w : ℕ → Page → ℕ = λ _ z. waiting m len z in
        let sum : total w (insert pages p y) + weight_at w p (get pages p) ≡ total w pages + w p y = total-insert w pages p y in
        let old : weight_at w p (get pages p) ≡ w p x = ap (weight_at w p) is in
        omega (arith, sum, old)

    -- it ends
    pub gone : unwritten_for m len (remove pages p) + waiting m len x ≡ unwritten_for m len pages
    unfolding unwritten_for
    gone = total-remove (λ _ z. waiting m len z) pages p (Some x) is

module _ (m len : ℕ) (s : State) (p : ℕ) (x : Page) (is : get s.pages p ≡ Some x) where
  -- its bytes as often as one that is in this place counts, where it is this session's
  abbrev pub counted : Place → ℕ
  counted place = only_if (x.session == m) (times_unwritten place * bytes_of len x.blocks)

  -- a page goes from one place to another, maybe with another version
  pub moved : (version : ℕ → ℕ) (old place : Place) → x.place ≡ old
      → unwritten_for m len (insert s.pages p (record (page_at s p) { place = place; version = version (page_at s p).version })) + counted old
      ≡ unwritten_for m len s.pages + counted place
  moved version old place was =
      let now : Page → Page = λ z. record z { place = place; version = version z.version } in
      subst (λ (z : Page). unwritten_for m len (insert s.pages p (now z)) + counted old ≡ unwritten_for m len s.pages + counted place) (sym (page_is s p x is))
      (subst (λ (a : Place). unwritten_for m len (insert s.pages p (now x)) + counted a ≡ unwritten_for m len s.pages + counted place) was
      (put m len s.pages p x is (now x)))

  -- from where it wasn't to be written: no fewer bytes are to be written then
  pub moved_less : (old place : Place) → x.place ≡ old → counted old ≡ 0
      → unwritten_for m len s.pages ≤ unwritten_for m len (insert s.pages p (record (page_at s p) { place = place }))
  moved_less old place was none =
      let put = moved (λ n. n) old place was in
      omega (arith, put, none)

  -- a place where none is to be written
  pub not_counted : (old : Place) → times_unwritten old ≡ 0 → counted old ≡ 0
  not_counted old none =
      let bare : counted old ≡ only_if (x.session == m) (0 * bytes_of len x.blocks) = ap (λ (k : ℕ). only_if (x.session == m) (k * bytes_of len x.blocks)) none in
      let less : only_if (x.session == m) (0 * bytes_of len x.blocks) ≤ 0 * bytes_of len x.blocks = only_less (x.session == m) (0 * bytes_of len x.blocks) in
      omega (arith, bare, less)
