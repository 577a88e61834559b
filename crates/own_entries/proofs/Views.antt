-- What is read of accounts, pages and slots where one of them changes.
use Rattle.std.proofs.Common.{◌≡◌, ◌≢◌, ℕ, ◌+◌, ◌-◌, ◌*◌, ◌≤◌, ◌==◌, List, Bool, true, false, if◌then◌else◌, Option, Some, None, refl, sym, ap, ◌∙◌, subst, arith, inl, inr}
use Rattle.std.specs.FinMap.{get, insert, remove}
use Rattle.reservation_tree.specs.Total.{weight_at}
use Rattle.reservation_tree.specs.Tracker.{Tracker, Trackers, reservation_of}
use Rattle.reservation_tree.proofs.Maps.{get_same, get_other, removed_same, removed_other, same_or_other}
use Rattle.reservation_tree.proofs.Sums.{total-insert, total-remove}
use Rattle.reservation_tree.proofs.Outline.{reservation_is}
use Rattle.pool_model.specs.Bytes.{bytes_of, only_if}
use Rattle.pool_model.specs.State.{Page, Pages}
use Rattle.pool_model.specs.Sums.{slots_of}
use Rattle.store_api.specs.Holdings.{Account, LivePage, put, or_else, no_account}
use Rattle.store_api.proofs.Puts.{put_here, put_there}
use Rattle.own_entries.specs.LiveParts.{is_parent, is_under, live_account, live_page}

pub len_is : (block_len blocks : ℕ) → bytes_of block_len blocks ≡ blocks * block_len
unfolding bytes_of
len_is block_len blocks = refl

abbrev pub at : ℕ → (ℕ → Option Account) → Account
at t clients = or_else no_account (clients t)

module _ (query : ℕ) where
  abbrev pub told_account : ℕ → Tracker → Account
  told_account charge y = record { limit = y.limit; reservation = y.reservation; unused = y.reservation - charge }

  pub account_is : (charge : ℕ) (o : Option Tracker) (y : Tracker) → o ≡ Some y → is_under query o ≡ true → live_account query charge o ≡ Some (told_account charge y)
  account_is charge o y is mine =
      let there : is_parent query y.parent ≡ true = sym (ap (is_under query) is) ∙ mine in
      ap (live_account query charge) is ∙ ap (λ (b : Bool). if b then Some (told_account charge y) else None) there

  pub mine_tracker : (o : Option Tracker) → is_under query o ≡ true → (y : Tracker) × (o ≡ Some y)
  mine_tracker None is = cc
  mine_tracker (Some y) is = (y, refl)

  -- what isn't the session's has no account, whatever is charged
  pub account_same : (o : Option Tracker) (a b : ℕ) → (is_under query o ≡ true → a ≡ b) → live_account query a o ≡ live_account query b o
  account_same None a b same = refl
  account_same (Some y) a b same =
      elim (is_parent query y.parent) as (λ (r : Bool). is_parent query y.parent ≡ r → (if r then Some (told_account a y) else None) ≡ (if r then Some (told_account b y) else None)) [
        | true ↦ λ is. ap (λ (n : ℕ). Some (told_account n y)) (same is)
        | false ↦ λ is. refl
      ] refl

  module _ (ts : Trackers) (old new : ℕ → ℕ) (clients : ℕ → Option Account) (told : (c : ℕ) → clients c ≡ live_account query (old c) (get ts c)) where
    -- no charge of the session's changes
    pub accounts_same : ((c : ℕ) → is_under query (get ts c) ≡ true → new c ≡ old c) → (c : ℕ) → clients c ≡ live_account query (new c) (get ts c)
    accounts_same same c = told c ∙ account_same (get ts c) (old c) (new c) (λ mine. sym (same c mine))

    module _ (t n : ℕ) (mine : is_under query (get ts t) ≡ true) (others : (c : ℕ) → c ≢ t → is_under query (get ts c) ≡ true → new c ≡ old c) where
      there : (unused : ℕ) → (c : ℕ) → c ≢ t → put t (Some (record (at t clients) { unused = unused })) clients c ≡ live_account query (new c) (get ts c)
      there unused c apart = put_there t c _ clients apart ∙ told c ∙ account_same (get ts c) (old c) (new c) (λ own. sym (others c apart own))

      here : (unused : ℕ) → unused ≡ reservation_of ts t - new t → put t (Some (record (at t clients) { unused = unused })) clients t ≡ live_account query (new t) (get ts t)
      here unused is =
          let it : (y : Tracker) × (get ts t ≡ Some y) = mine_tracker (get ts t) mine in
          let was : clients t ≡ Some (told_account (old t) it.0) = told t ∙ account_is (old t) (get ts t) it.0 it.1 mine in
          let had : at t clients ≡ told_account (old t) it.0 = ap (or_else no_account) was in
          let res : reservation_of ts t ≡ it.0.reservation = reservation_is ts t it.0 it.1 in
          let now : unused ≡ it.0.reservation - new t = is ∙ ap (λ (r : ℕ). r - new t) res in
          put_here t _ clients ∙ ap (λ (a : Account). Some (record a { unused = unused })) had ∙ ap (λ (u : ℕ). Some (record (told_account (old t) it.0) { unused = u })) now
          ∙ sym (account_is (new t) (get ts t) it.0 it.1 mine)

      unused_was : (at t clients).unused ≡ reservation_of ts t - old t
      unused_was =
          let it : (y : Tracker) × (get ts t ≡ Some y) = mine_tracker (get ts t) mine in
          ap (λ (o : Option Account). (or_else no_account o).unused) (told t ∙ account_is (old t) (get ts t) it.0 it.1 mine) ∙ ap (λ (r : ℕ). r - old t) (sym (reservation_is ts t it.0 it.1))

      both : (unused : ℕ) → unused ≡ reservation_of ts t - new t → (c : ℕ) → put t (Some (record (at t clients) { unused = unused })) clients c ≡ live_account query (new c) (get ts c)
      both unused is c = elim (same_or_other c t) [
        | inl same ↦ subst (λ (q : ℕ). put t (Some (record (at t clients) { unused = unused })) clients q ≡ live_account query (new q) (get ts q)) (sym same) (here unused is)
        | inr apart ↦ there unused c apart
      ]

      -- a client is charged so much more
      pub accounts_up : new t ≡ old t + n → (c : ℕ) → put t (Some (record (at t clients) { unused = (at t clients).unused - n })) clients c ≡ live_account query (new c) (get ts c)
      accounts_up more = let was = unused_was in both ((at t clients).unused - n) (omega (arith, was, more))

      -- or so much less
      pub accounts_down : new t + n ≡ old t → old t ≤ reservation_of ts t → (c : ℕ) → put t (Some (record (at t clients) { unused = (at t clients).unused + n })) clients c ≡ live_account query (new c) (get ts c)
      accounts_down less fits = let was = unused_was in both ((at t clients).unused + n) (omega (arith, was, less, fits))

module _ (maker : ℕ) (old left : ℕ → List ℕ) (pages : Pages) (held : ℕ → Option LivePage) (told : (q : ℕ) → held q ≡ live_page maker (old q) (get pages q)) (p : ℕ)
    (others : (q : ℕ) → q ≢ p → left q ≡ old q) where
  -- one page is another
  pub pages_put_told : (w : Page) (v : Option LivePage) → live_page maker (left p) (Some w) ≡ v → (q : ℕ) → put p v held q ≡ live_page maker (left q) (get (insert pages p w) q)
  pages_put_told w v is q = elim (same_or_other q p) [
    | inl same ↦ subst (λ (r : ℕ). put p v held r ≡ live_page maker (left r) (get (insert pages p w) r)) (sym same)
        (put_here p v held ∙ sym is ∙ ap (live_page maker (left p)) (sym (get_same pages p w)))
    | inr apart ↦ put_there p q v held apart ∙ told q ∙ ap (λ (l : List ℕ). live_page maker l (get pages q)) (sym (others q apart)) ∙ ap (live_page maker (left q)) (sym (get_other pages p w q apart))
  ]

  -- one page is gone
  pub pages_gone_told : (q : ℕ) → put p None held q ≡ live_page maker (left q) (get (remove pages p) q)
  pages_gone_told q = elim (same_or_other q p) [
    | inl same ↦ subst (λ (r : ℕ). put p None held r ≡ live_page maker (left r) (get (remove pages p) r)) (sym same)
        (put_here p None held ∙ ap (live_page maker (left p)) (sym (removed_same pages p)))
    | inr apart ↦ put_there p q None held apart ∙ told q ∙ ap (λ (l : List ℕ). live_page maker l (get pages q)) (sym (others q apart)) ∙ ap (live_page maker (left q)) (sym (removed_other pages p q apart))
  ]

  -- a page that reads as it did
  pub pages_alike : (w : Page) → held p ≡ live_page maker (left p) (Some w) → (q : ℕ) → held q ≡ live_page maker (left q) (get (insert pages p w) q)
  pages_alike w is q = elim (same_or_other q p) [
    | inl same ↦ subst (λ (r : ℕ). held r ≡ live_page maker (left r) (get (insert pages p w) r)) (sym same) (is ∙ ap (live_page maker (left p)) (sym (get_same pages p w)))
    | inr apart ↦ told q ∙ ap (λ (l : List ℕ). live_page maker l (get pages q)) (sym (others q apart)) ∙ ap (live_page maker (left q)) (sym (get_other pages p w q apart))
  ]

  -- a page of another session is gone
  pub pages_lost : held p ≡ None → (q : ℕ) → held q ≡ live_page maker (left q) (get (remove pages p) q)
  pages_lost none q = elim (same_or_other q p) [
    | inl same ↦ subst (λ (r : ℕ). held r ≡ live_page maker (left r) (get (remove pages p) r)) (sym same) (none ∙ ap (live_page maker (left p)) (sym (removed_same pages p)))
    | inr apart ↦ told q ∙ ap (λ (l : List ℕ). live_page maker l (get pages q)) (sym (others q apart)) ∙ ap (live_page maker (left q)) (sym (removed_other pages p q apart))
  ]

abbrev pub slots_at : ℕ → Page → ℕ
slots_at maker x = only_if (x.session == maker) (only_if x.has_slots x.blocks)

module _ (maker : ℕ) (pages : Pages) (p : ℕ) where
  pub slots_new : (w : Page) → slots_of (insert pages p w) maker + weight_at (λ _ x. slots_at maker x) p (get pages p) ≡ slots_of pages maker + slots_at maker w
  unfolding slots_of
  slots_new w = total-insert (λ _ x. slots_at maker x) pages p w

  pub slots_put : (x w : Page) → get pages p ≡ Some x → slots_of (insert pages p w) maker + slots_at maker x ≡ slots_of pages maker + slots_at maker w
  slots_put x w is =
      let sum = slots_new w in
      let old : weight_at (λ _ z. slots_at maker z) p (get pages p) ≡ slots_at maker x = ap (weight_at (λ _ z. slots_at maker z) p) is in
      omega (arith, sum, old)

  pub slots_gone : (x : Page) → get pages p ≡ Some x → slots_of (remove pages p) maker + slots_at maker x ≡ slots_of pages maker
  unfolding slots_of
  slots_gone x is = total-remove (λ _ z. slots_at maker z) pages p (Some x) is
