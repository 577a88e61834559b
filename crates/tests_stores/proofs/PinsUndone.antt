-- A page with three pins, of which two end, leaves a store as it was with the first.
use Rattle.std.proofs.Common.{◌≡◌, ℕ, ◌-◌, ◌*◌, ◌≤◌, [], false, Option, Some, IsSome, refl, ap, sym, ◌∙◌, subst, arith}
use Rattle.std.proofs.Math.Path.{fun_ext}
use Rattle.store_api.specs.Holdings.{Account, LivePage, Holdings, or_else, no_account, no_page, account_of, page_of, unused_of, page_len}
use Rattle.store_api.specs.Changes.{after_create, after_pin_again, after_unpin_once}
use Rattle.store_api.specs.Alike.{Alike}
use Rattle.store_api.specs.PinLaws.{CountsPins}
use Rattle.store_api.proofs.Pins.{pins_are_counted}
use Rattle.store_api.proofs.Puts.{put_here}

-- what is the same number by number is the same
same_holdings : (a b : Holdings) → Alike a b → b ≡ a
same_holdings a b is =
    ap (λ n. record b { block_len = n }) is.rest.block_len
    ∙ ap (λ n. record b { block_len = a.block_len; session = n }) is.rest.session
    ∙ ap (λ n. record b { block_len = a.block_len; session = a.session; query = n }) is.rest.query
    ∙ ap (λ n. record b { block_len = a.block_len; session = a.session; query = a.query; limit = n }) is.rest.limit
    ∙ ap (λ n. record a { reservation = n; room = b.room; above = b.above; live_clients = b.live_clients; clients = b.clients; pages = b.pages; loans = b.loans; free_slots = b.free_slots; told = b.told }) is.reservation
    ∙ ap (λ n. record a { room = n; above = b.above; live_clients = b.live_clients; clients = b.clients; pages = b.pages; loans = b.loans; free_slots = b.free_slots; told = b.told }) is.room
    ∙ ap (λ n. record a { above = n; live_clients = b.live_clients; clients = b.clients; pages = b.pages; loans = b.loans; free_slots = b.free_slots; told = b.told }) is.above
    ∙ ap (λ n. record a { live_clients = n; clients = b.clients; pages = b.pages; loans = b.loans; free_slots = b.free_slots; told = b.told }) is.rest.live_clients
    ∙ ap (λ f. record a { clients = f; pages = b.pages; loans = b.loans; free_slots = b.free_slots; told = b.told }) (fun_ext is.clients)
    ∙ ap (λ f. record a { pages = f; loans = b.loans; free_slots = b.free_slots; told = b.told }) (fun_ext is.rest.pages)
    ∙ ap (λ f. record a { loans = f; free_slots = b.free_slots; told = b.told }) (fun_ext is.rest.loans)
    ∙ ap (λ n. record a { free_slots = n; told = b.told }) is.rest.free_slots
    ∙ ap (λ n. record a { told = n }) is.rest.told

pub two_undone : (p key t : ℕ) (h : Holdings) → IsSome (h.clients t) → 3 * h.block_len ≤ unused_of t h → after_unpin_once p (after_unpin_once p (after_pin_again p (after_pin_again p (after_create p key t 1 h)))) ≡ after_create p key t 1 h
two_undone p key t h live fits =
    let made : LivePage = record { key = key; client = t; blocks = 1; pins = 1; left = []; has_slots = false } in
    let charged : Account = record (account_of t h) { unused = unused_of t h - 1 * h.block_len } in
    let one : Holdings = after_create p key t 1 h in
    let two : Holdings = after_pin_again p one in
    let its : page_of p one ≡ made = ap (or_else no_page) (put_here p (Some made) h.pages) in
    let unused : unused_of t one ≡ unused_of t h - 1 * h.block_len = ap (λ (o : Option Account). (or_else no_account o).unused) (put_here t (Some charged) h.clients) in
    let client : (page_of p one).client ≡ t = ap (λ (x : LivePage). x.client) its in
    let pins : (page_of p one).pins ≡ 1 = ap (λ (x : LivePage). x.pins) its in
    let len : page_len p one ≡ 1 * h.block_len = ap (λ (x : LivePage). x.blocks * h.block_len) its in
    let lives : IsSome (one.pages p) = subst (λ (o : Option LivePage). IsSome o) (sym (put_here p (Some made) h.pages)) refl in
    let lives_client : IsSome (one.clients (page_of p one).client) =
    subst (λ (k : ℕ). IsSome (one.clients k)) (sym client) (subst (λ (o : Option Account). IsSome o) (sym (put_here t (Some charged) h.clients)) refl) in
    let first : CountsPins p one =
    pins_are_counted p one lives lives_client (omega (arith, pins)) (subst (λ (k : ℕ). page_len p one ≤ unused_of k one) (sym client) (omega (arith, len, unused, fits))) in
    let left : unused_of (page_of p one).client one ≡ unused_of t h - 1 * h.block_len = ap (λ (k : ℕ). unused_of k one) client ∙ unused in
    let again_len : page_len p two ≡ page_len p one = ap (λ (n : ℕ). n * h.block_len) first.again.blocks in
    let tight = first.charged in
    let more = first.more in
    let again_client : IsSome (two.clients (page_of p two).client) =
    subst (λ (k : ℕ). IsSome (two.clients k)) (sym first.again.client) (subst (λ (o : Option Account). IsSome o) (sym (put_here (page_of p one).client _ one.clients)) refl) in
    let second : CountsPins p two =
    pins_are_counted p two first.again.lives again_client (omega (arith, more))
    (subst (λ (k : ℕ). page_len p two ≤ unused_of k two) (sym first.again.client) (omega (arith, again_len, len, tight, left, fits))) in
    ap (after_unpin_once p) (same_holdings two (after_unpin_once p (after_pin_again p two)) second.undone) ∙ same_holdings one (after_unpin_once p two) first.undone
