-- A buffer changes its client, or a pinned page is a buffer from now on: what is held is still told.
use Rattle.std.proofs.Common.{◌≡◌, ◌≢◌, ℕ, ◌+◌, ◌*◌, ◌≤◌, ◌==◌, List, Bool, true, false, if◌then◌else◌, Option, Some, None, refl, sym, ap, ◌∙◌, subst, arith, inl, inr, ne_eqb}
use Rattle.std.specs.FinMap.{get, insert, remove}
use Rattle.reservation_tree.specs.Tracker.{Trackers, reservation_of}
use Rattle.reservation_tree.proofs.Maps.{get_same, get_other, removed_same, removed_other, same_or_other, alike}
use Rattle.pool_model.specs.Bytes.{bytes_of, only_if}
use Rattle.pool_model.specs.State.{Place, Pinned, Page, Pages, Buffer, Buffers}
use Rattle.pool_model.specs.Sums.{times_charged, page_bytes, pages_for}
use Rattle.pool_model.proofs.Weights.{one_time}
use Rattle.pool_model.proofs.PageSums.{pages_gone}
use Rattle.store_api.specs.Holdings.{LivePage, LiveLoan, Holdings, loan_of, page_of}
use Rattle.store_api.specs.Changes.{charged, released, with_loan, after_extract, after_alloc, after_free, after_move_buffer}
use Rattle.own_entries.specs.LiveParts.{is_under, charge_in, Tells}
use Rattle.own_entries.proofs.Calls.{put_again}
use Rattle.own_entries.proofs.Views.{accounts_same, pages_gone_told}
use Rattle.own_entries.proofs.PagesTold.{rebuilt}
use Rattle.own_entries.proofs.OwnPages.{is_held, slots_back, few_slots}
use Rattle.own_entries.proofs.LoansTold.{loans_put_told, buffer_sum, reads_loan, lent, foreign_lent, loan_is, freed, foreign_freed}

insert_removed : (buffers : Buffers) (f : ℕ) (w : Buffer) → insert (remove buffers f) f w ≡ insert buffers f w
insert_removed buffers f w = alike _ _ (λ q. elim (same_or_other q f) [
  | inl here ↦ subst (λ (r : ℕ). get (insert (remove buffers f) f w) r ≡ get (insert buffers f w) r) (sym here) (get_same (remove buffers f) f w ∙ sym (get_same buffers f w))
  | inr apart ↦ get_other (remove buffers f) f w q apart ∙ removed_other buffers f q apart ∙ sym (get_other buffers f w q apart)
])

module _ (left : ℕ → List ℕ) (len : ℕ) (ts : Trackers) (pages : Pages) (buffers : Buffers) (m query quota : ℕ) (h : Holdings)
    (told : Tells left len ts pages buffers m query quota h) where
  module _ (f to : ℕ) (x : Buffer) (is : get buffers f ≡ Some x) where
    abbrev its_new : Buffer
    its_new = record x { client = to }

    pub moved_buffer : is_under query (get ts x.client) ≡ true → is_under query (get ts to) ≡ true → x.client ≢ to → charge_in len pages buffers x.client ≤ reservation_of ts x.client
        → Tells left len ts pages (insert buffers f its_new) m query quota (after_move_buffer f to h)
    moved_buffer own own_to other fits =
        let first : Tells left len ts pages (remove buffers f) m query quota (after_free f h) = freed left len ts pages buffers m query quota h told f x is own fits in
        let second : Tells left len ts pages (insert (remove buffers f) f its_new) m query quota (after_alloc f to x.blocks (after_free f h)) =
        lent left len ts pages (remove buffers f) m query quota (after_free f h) first f its_new (removed_same buffers f) own_to in
        let loan : loan_of f h ≡ record { client = x.client; blocks = x.blocks } = loan_is left len ts pages buffers m query quota h told f x is own in
        let same : after_move_buffer f to h ≡ after_alloc f to x.blocks (after_free f h) =
        ap (λ (l : LiveLoan). if l.client == to then h else with_loan f (Some (record l { client = to })) (charged to (l.blocks * h.block_len) (released l.client (l.blocks * h.block_len) h))) loan
        ∙ ap (λ (b : Bool). if b then h else with_loan f (Some (record { client = to; blocks = x.blocks })) (charged to (x.blocks * h.block_len) (released x.client (x.blocks * h.block_len) h))) (ne_eqb x.client to other)
        ∙ ap (λ (ls : ℕ → Option LiveLoan). record (charged to (x.blocks * h.block_len) (released x.client (x.blocks * h.block_len) h)) { loans = ls }) (sym (put_again h.loans f None (Some (record { client = to; blocks = x.blocks }))))
        ∙ ap (λ (l : LiveLoan). after_alloc f to x.blocks (with_loan f None (released l.client (l.blocks * h.block_len) h))) (sym loan) in
        subst (λ (bs : Buffers). Tells left len ts pages bs m query quota (after_move_buffer f to h)) (insert_removed buffers f its_new)
        (subst (Tells left len ts pages (insert (remove buffers f) f its_new) m query quota) (sym same) second)

    pub foreign_moved : is_under query (get ts x.client) ≡ false → is_under query (get ts to) ≡ false → Tells left len ts pages (insert buffers f its_new) m query quota h
    foreign_moved theirs theirs_to =
        let first : Tells left len ts pages (remove buffers f) m query quota h = foreign_freed left len ts pages buffers m query quota h told f x is theirs in
        subst (λ (bs : Buffers). Tells left len ts pages bs m query quota h) (insert_removed buffers f its_new)
        (foreign_lent left len ts pages (remove buffers f) m query quota h first f its_new (removed_same buffers f) theirs_to)

  -- a pinned page is a buffer from now on
  pub extracted : (p f : ℕ) (x : Page) → get pages p ≡ Some x → x.session ≡ m → x.place ≡ Pinned 1 → get buffers f ≡ None → is_under query (get ts x.client) ≡ true → charge_in len pages buffers x.client ≤ reservation_of ts x.client
      → Tells left len ts (remove pages p) (insert buffers f (record { client = x.client; blocks = x.blocks })) m query quota (after_extract p f h)
  extracted p f x is ours pinned fresh own fits =
      let w : Buffer = record { client = x.client; blocks = x.blocks } in
      let cost : page_bytes times_charged len x ≡ bytes_of len x.blocks = ap (λ (place : Place). times_charged place * bytes_of len x.blocks) pinned ∙ one_time (bytes_of len x.blocks) in
      let loan : Some (record { client = (page_of p h).client; blocks = (page_of p h).blocks }) ≡ Some (record { client = x.client; blocks = x.blocks }) =
      ap (λ (v : LivePage). Some (record { client = v.client; blocks = v.blocks })) (is_held left len ts pages buffers m query quota h told p x is ours own fits) in
      rebuilt left len ts pages buffers m query quota h told left (remove pages p) (insert buffers f w) h.clients _ _ _
      (accounts_same query ts (charge_in len pages buffers) (charge_in len (remove pages p) (insert buffers f w)) h.clients told.clients (λ c mine_too.
      let gone : pages_for times_charged len (remove pages p) c + only_if (x.client == c) (page_bytes times_charged len x) ≡ pages_for times_charged len pages c = pages_gone times_charged len pages p x is c in
      let same : only_if (x.client == c) (page_bytes times_charged len x) ≡ only_if (x.client == c) (bytes_of len x.blocks) = ap (only_if (x.client == c)) cost in
      let comes = buffer_sum left len ts pages buffers m query quota h told f w fresh c in
      omega (arith, gone, same, comes)))
      (pages_gone_told m left left pages h.pages told.live_pages p (λ q apart. refl))
      (loans_put_told query ts buffers h.loans told.loans f w _ (reads_loan left len ts pages buffers m query quota h told f w fresh own ∙ sym loan))
      (slots_back left len ts pages buffers m query quota h told p x is ours own fits)
      (few_slots left len ts pages buffers m query quota h told p x is ours own fits)
