-- A client's streams stay all that it has.
use Rattle.std.proofs.Common.{◌≡◌, ◌∙◌, ℕ, ◌*◌, List, Option, Some, None, IsSome, is_some, option_map, if◌then◌else◌, refl, ap, sym, subst, arith}
use Rattle.std.specs.List.{slice_get, sum_by}
use Rattle.store_api.specs.Tokens.{PageToken}
use Rattle.store_api.specs.Holdings.{Account, LivePage, Holdings, or_else, no_account, account_of, page_of, no_page, unused_of}
use Rattle.store_api.specs.Emitters.{SameFor}
use Rattle.store_api.specs.Signs.{Signs}
use Rattle.tuple_stream.specs.Streamed.{Streamed}
use Rattle.tuple_stream.specs.Streams.{IsOwnPage}
use Rattle.tuple_stream.specs.Touches.{with_unused}
use Rattle.tuple_stream.specs.Families.{family, held_in}
use Rattle.tuple_stream.proofs.Chosen.{at_place}
use Rattle.tuple_stream.proofs.Frames.{still_some}
use Rattle.partition_stack.specs.Changes.{Owns}
use Rattle.partition_stack.specs.Laws.{OthersLeaveOwned, OwnedStay}
use Rattle.partition_stack.proofs.Agreeing.{agreeing_rows, agreeing_shape}

account_reservation : (o : Option Account) (n : ℕ) → (or_else no_account (option_map (with_unused n) o)).reservation ≡ (or_else no_account o).reservation
account_reservation None n = refl
account_reservation (Some account) n = refl

page_there : (o : Option LivePage) → IsSome o → o ≡ Some (or_else no_page o)
page_there None some = absurd cc
page_there (Some page) some = refl

pub owned_stay : OwnedStay
owned_stay t lent f g owns touches shaped =
    record {
      lives = subst (λ (o : Option Account). IsSome o) (sym (touches.account owns.lives)) (still_some (f.held.clients t) (unused_of t g.held) owns.lives);
      shaped = shaped;
      only = λ q page lives outside.
          let was = touches.back q (subst (λ (o : Option LivePage). IsSome o) (sym lives) refl) outside in
          owns.only q page (was.0 ∙ lives) was.1;
      even =
          let same : (account_of t g.held).reservation ≡ (account_of t f.held).reservation =
          ap (λ (o : Option Account). (or_else no_account o).reservation) (touches.account owns.lives) ∙ account_reservation (f.held.clients t) (unused_of t g.held) in
          let kept = touches.unused in
          let even = owns.even in
          omega (arith, same, kept, even);
    }

module _ (t lent : ℕ) (streams : List Streamed) (old new : Holdings) (before after : Signs) (owns : Owns t lent (family streams old before)) (same : SameFor t old new) (block_len : new.block_len ≡ old.block_len) where
  pub agree : (i : ℕ) (s : Streamed) → slice_get streams i ≡ Some s → (k : ℕ) (p : PageToken) → slice_get s.pages k ≡ Some p → new.pages p.name ≡ old.pages p.name
  agree i s at k p there =
      let own = at_place (IsOwnPage t s.page_blocks old) s.pages k p (owns.shaped.each i s at).own there in
      let page : old.pages p.name ≡ Some (page_of p.name old) = page_there (old.pages p.name) own.page.lives in
      (same.pages p.name (page_of p.name old) (own.page.client ∙ own.client)).1 page ∙ sym page

  owns_kept : Owns t lent (family streams new after)
  owns_kept =
      record {
        lives = subst (λ (o : Option Account). IsSome o) (sym same.account) owns.lives;
        shaped = record { each = λ i s at. agreeing_shape t s old new (owns.shaped.each i s at) block_len (agree i s at); apart = owns.shaped.apart };
        only = λ q page lives outside mine. owns.only q page ((same.pages q page mine).0 lives) outside mine;
        even =
            let held_now : held_in (family streams new after) ≡ held_in (family streams old before) = ap (λ (n : ℕ). sum_by (λ (s : Streamed). if is_some s.pinned then s.page_blocks * n else 0) streams) block_len in
            let unused : unused_of t new ≡ unused_of t old = ap (λ (o : Option Account). (or_else no_account o).unused) same.account in
            let own : (account_of t new).reservation ≡ (account_of t old).reservation = ap (λ (o : Option Account). (or_else no_account o).reservation) same.account in
            let even = owns.even in
            omega (arith, held_now, unused, own, even);
      }

pub others_leave_owned : OthersLeaveOwned
others_leave_owned t lent client streams old new before after apart others owns =
    let same = others.others t apart in
    record {
      owns = owns_kept t lent streams old new before after owns same others.block_len;
      rows = λ rows shows i s at. agreeing_rows t s old new (owns.shaped.each i s at) others.block_len (agree t lent streams old new before after owns same others.block_len i s at) (rows i) (shows i s at);
    }
