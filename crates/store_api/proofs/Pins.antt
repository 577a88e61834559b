-- Each pin is charged, and gives its charge back.
use Rattle.std.proofs.Common.{◌≡◌, ℕ, ◌+◌, ◌-◌, ◌*◌, ◌≤◌, [], false, Option, Some, None, IsSome, refl, ap, sym, ◌∙◌, subst, arith}
use Rattle.store_api.specs.Holdings.{Account, LivePage, Holdings, put, or_else, no_account, no_page, length_of, account_of, page_of, unused_of, page_len}
use Rattle.store_api.specs.Changes.{with_page, released, slots_given, after_create, after_pin_again, after_unpin_once, after_destroy}
use Rattle.store_api.specs.Alike.{Alike}
use Rattle.store_api.specs.PinLaws.{CountsPins, PinsAreCounted, PagesComeAndGo}
use Rattle.store_api.proofs.Puts.{put_here, there, put_twice, put_back}
use Rattle.store_api.proofs.Turns.{one_more}

module _ (p : ℕ) (h : Holdings) where
  abbrev page : LivePage
  page = page_of p h

  abbrev t : ℕ
  t = page.client

  abbrev len : ℕ
  len = page_len p h

  abbrev account : Account
  account = account_of t h

  -- what a page and an account are after a change
  page_is : (f : ℕ → Option LivePage) (v : LivePage) → or_else no_page (put p (Some v) f p) ≡ v
  page_is f v = ap (or_else no_page) (put_here p (Some v) f)

  account_is : (f : ℕ → Option Account) (a : Account) → or_else no_account (put t (Some a) f t) ≡ a
  account_is f a = ap (or_else no_account) (put_here t (Some a) f)

  abbrev more : LivePage
  more = record page { pins = page.pins + 1 }

  abbrev fewer : LivePage
  fewer = record page { pins = page.pins - 1 }

  abbrev charged_account : Account
  charged_account = record account { unused = account.unused - len }

  abbrev again : Holdings
  again = after_pin_again p h

  again_page : page_of p again ≡ more
  again_page = page_is h.pages more

  again_account : account_of t again ≡ charged_account
  again_account = account_is h.clients charged_account

  once_page : page_of p (after_unpin_once p h) ≡ fewer
  once_page = page_is h.pages fewer

  module _ (lives : IsSome (h.pages p)) (live : IsSome (h.clients t)) (pinned : 1 ≤ page.pins) (fits : len ≤ account.unused) where
    -- the account that gets this much back after a charge
    paid : (n : ℕ) → record (account_of t again) { unused = unused_of t again + n } ≡ record account { unused = account.unused - len + n }
    paid n = ap (λ (a : Account). record a { unused = a.unused + n }) again_account

    undone : Alike h (after_unpin_once p again)
    undone =
        let is : after_unpin_once p again ≡ with_page p (Some (record more { pins = page.pins + 1 - 1 })) (released t len again) =
        ap (λ (x : LivePage). with_page p (Some (record x { pins = x.pins - 1 })) (released x.client (x.blocks * h.block_len) again)) again_page in
        let pins : page.pins + 1 - 1 ≡ page.pins = omega arith in
        let back : Some (record more { pins = page.pins + 1 - 1 }) ≡ h.pages p = ap (λ (n : ℕ). Some (record page { pins = n })) pins ∙ sym (there no_page (h.pages p) lives) in
        let even : account.unused - len + len ≡ account.unused = omega (arith, fits) in
        let paid_back : Some (record (account_of t again) { unused = unused_of t again + len }) ≡ h.clients t =
        ap (λ (a : Account). Some a) (paid len) ∙ ap (λ (n : ℕ). Some (record account { unused = n })) even ∙ sym (there no_account (h.clients t) live) in
        subst (λ (x : Holdings). Alike h x) (sym is)
        (record {
          rest = record { block_len = refl; session = refl; query = refl; limit = refl; live_clients = refl; free_slots = refl; told = refl; pages = put_back p _ (Some more) h.pages back; loans = λ q. refl };
          reservation = refl;
          room = refl;
          above = refl;
          clients = put_back t _ (Some charged_account) h.clients paid_back;
        })

    ended : Alike (after_destroy p h) (after_destroy p again)
    ended =
        let is : after_destroy p again ≡ record (released t ((page.pins + 1) * len) again) { pages = put p None again.pages; free_slots = slots_given more h.free_slots } =
        ap (λ (x : LivePage). record (released x.client (x.pins * (x.blocks * h.block_len)) again) { pages = put p None again.pages; free_slots = slots_given x h.free_slots }) again_page in
        let even : account.unused - len + (page.pins + 1) * len ≡ account.unused + page.pins * len = omega (arith, fits, one_more page.pins len) in
        let same : record (account_of t again) { unused = unused_of t again + (page.pins + 1) * len } ≡ record account { unused = account.unused + page.pins * len } =
        paid ((page.pins + 1) * len) ∙ ap (λ (n : ℕ). record account { unused = n }) even in
        subst (λ (x : Holdings). Alike (after_destroy p h) x) (sym is)
        (record {
          rest = record { block_len = refl; session = refl; query = refl; limit = refl; live_clients = refl; free_slots = refl; told = refl; pages = put_twice p None (Some more) h.pages; loans = λ q. refl };
          reservation = refl;
          room = refl;
          above = refl;
          clients = λ q.
              ap (λ (a : Account). put t (Some a) again.clients q) same
              ∙ put_twice t (Some (record account { unused = account.unused + page.pins * len })) (Some charged_account) h.clients q;
        })

    counts : CountsPins p h
    counts =
        record {
          again = record {
            lives = subst (λ (o : Option LivePage). IsSome o) (sym (put_here p (Some more) h.pages)) refl;
            key = ap (λ (x : LivePage). x.key) again_page;
            client = ap (λ (x : LivePage). x.client) again_page;
            blocks = ap (λ (x : LivePage). x.blocks) again_page;
            left = ap (λ (x : LivePage). x.left) again_page;
            has_slots = ap (λ (x : LivePage). x.has_slots) again_page;
            rest = refl;
          };
          more = ap (λ (x : LivePage). x.pins) again_page;
          charged =
              let now : unused_of t again ≡ account.unused - len = ap (λ (a : Account). a.unused) again_account in
              omega (arith, now, fits);
          once = record {
            lives = subst (λ (o : Option LivePage). IsSome o) (sym (put_here p (Some fewer) h.pages)) refl;
            key = ap (λ (x : LivePage). x.key) once_page;
            client = ap (λ (x : LivePage). x.client) once_page;
            blocks = ap (λ (x : LivePage). x.blocks) once_page;
            left = ap (λ (x : LivePage). x.left) once_page;
            has_slots = ap (λ (x : LivePage). x.has_slots) once_page;
            rest = refl;
          };
          fewer =
              let now : (page_of p (after_unpin_once p h)).pins ≡ page.pins - 1 = ap (λ (x : LivePage). x.pins) once_page in
              omega (arith, now, pinned);
          released = ap (λ (a : Account). a.unused) (account_is h.clients (record account { unused = account.unused + len }));
          undone = undone;
          ended = ended;
        }

pub pins_are_counted : PinsAreCounted
pins_are_counted p h lives live pinned fits = counts p h lives live pinned fits

pub pages_come_and_go : PagesComeAndGo
pages_come_and_go p key t blocks h fresh live fits =
    let made : LivePage = record { key = key; client = t; blocks = blocks; pins = 1; left = []; has_slots = false } in
    let account : Account = account_of t h in
    let len : ℕ = length_of blocks h in
    let charged_account : Account = record account { unused = account.unused - len } in
    let created : Holdings = after_create p key t blocks h in
    let its : page_of p created ≡ made = ap (or_else no_page) (put_here p (Some made) h.pages) in
    let is : after_destroy p created ≡ record (released t (1 * len) created) { pages = put p None created.pages; free_slots = h.free_slots } =
    ap (λ (x : LivePage). record (released x.client (x.pins * (x.blocks * h.block_len)) created) { pages = put p None created.pages; free_slots = slots_given x h.free_slots }) its in
    let now : account_of t created ≡ charged_account = ap (or_else no_account) (put_here t (Some charged_account) h.clients) in
    let even : account.unused - len + 1 * len ≡ account.unused = omega (arith, fits) in
    let back : Some (record (account_of t created) { unused = unused_of t created + 1 * len }) ≡ h.clients t =
    ap (λ (a : Account). Some (record a { unused = a.unused + 1 * len })) now ∙ ap (λ (n : ℕ). Some (record account { unused = n })) even ∙ sym (there no_account (h.clients t) live) in
    subst (λ (x : Holdings). Alike h x) (sym is)
    (record {
      rest = record { block_len = refl; session = refl; query = refl; limit = refl; live_clients = refl; free_slots = refl; told = refl; pages = put_back p None (Some made) h.pages (sym fresh); loans = λ q. refl };
      reservation = refl;
      room = refl;
      above = refl;
      clients = put_back t _ (Some charged_account) h.clients back;
    })
