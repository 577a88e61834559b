-- Two clients of a query come, and end.
use Rattle.std.proofs.Common.{◌≡◌, ◌≢◌, ◌∙◌, ◌*◌, ◌/◌, ℕ, [], ◌∷◌, true, Option, Some, None, ap, refl, sym, arith}
use Rattle.store_api.specs.Changes.{after_end_client}
use Rattle.store_api.specs.Emitters.{SameOwn}
use Rattle.store_api.specs.Holdings.{Account, Holdings, account_of, length_of, no_account, or_else}
use Rattle.store_api.specs.Signs.{Signs}
use Rattle.store_api.specs.Tokens.{ClientToken}
use Rattle.partition_stack.specs.Leaving.{MayStart}
use Rattle.query_plan.specs.Sizes.{groups, joins, least_of, page_len}
use Rattle.query_plan.specs.declared.plan.Query.{Query}
use Rattle.query_run.specs.Inside.{HasEndedFirst, HasOwn}
use Rattle.query_run.specs.Stopped.{IsLeft, amounts_of}
use Rattle.query_run.proofs.Around.{own_account}
use Rattle.query_run.proofs.EndedFirst.{may_start_still}

-- half of the least reservation is twenty pages
pub share_is : (plan : Query) (block_len bytes : ℕ) → joins plan ≡ true → groups plan ≡ true → bytes ≡ least_of plan block_len → bytes / 2 ≡ 20 * page_len plan block_len
share_is plan block_len bytes joined grouped is =
    let least : least_of plan block_len ≡ 40 * page_len plan block_len = rw (joined, grouped) (omega arith) in
    omega (arith, is, least)

pub two_shares : (plan : Query) (block_len bytes : ℕ) → joins plan ≡ true → groups plan ≡ true → bytes ≡ least_of plan block_len → amounts_of plan block_len ≡ bytes / 2 ∷ bytes / 2 ∷ []
two_shares plan block_len bytes joined grouped is = let half = share_is plan block_len bytes joined grouped is in rw half (rw (joined, grouped) refl)

-- a client that came with twenty pages reserved may start
pub may_own : (c : ClientToken) (most bytes blocks : ℕ) (old new : Holdings) → HasOwn c most bytes old new → bytes ≡ 20 * length_of blocks old → MayStart c blocks new
may_own c most bytes blocks old new own is =
    let account = own_account c most bytes old new own in
    let reserved : (account_of c.tracker new).reservation ≡ bytes = ap (λ (a : Account). a.reservation) account in
    let unused : (account_of c.tracker new).unused ≡ bytes = ap (λ (a : Account). a.unused) account in
    let len : length_of blocks new ≡ length_of blocks old = ap (λ (n : ℕ). blocks * n) own.block_len in
    record {
      lives = rw own.account refl;
      idle = own.idle;
      least = omega (arith, reserved, is, len);
      free = unused ∙ sym reserved;
    }

module _ (first second : ClientToken) (most bytes blocks : ℕ) (h0 h1 h2 : Holdings) (one : HasOwn first most bytes h0 h1) (two : HasOwn second most bytes h1 h2) where
  pub two_apart : second.tracker ≢ first.tracker
  two_apart same =
      let none : h1.clients first.tracker ≡ None = sym (ap h1.clients same) ∙ two.fresh in
      let both = sym none ∙ one.account in
      cc

  own-still : SameOwn (Some first.tracker) h1 h2
  own-still = record {
    block_len = two.block_len;
    told = two.told;
    own = λ t is.
        let here : first.tracker ≡ t = cc in
        let other : t ≢ second.tracker = λ same. two_apart (sym (here ∙ same)) in
        record {
          account = two.others t other;
          pages = λ q page mine. (λ there. sym (ap (λ f. f q) two.pages) ∙ there, λ there. ap (λ f. f q) two.pages ∙ there);
          loans = λ q loan mine. (λ there. sym (ap (λ f. f q) two.loans) ∙ there, λ there. ap (λ f. f q) two.loans ∙ there);
        };
  }

  -- the first one may start still where the second one came
  pub first_still : bytes ≡ 20 * length_of blocks h0 → MayStart first blocks h2
  first_still is = may_start_still first blocks h1 h2 (may_own first most bytes blocks h0 h1 one is) own-still

  pub second_may : bytes ≡ 20 * length_of blocks h0 → MayStart second blocks h2
  second_may is = may_own second most bytes blocks h1 h2 two (is ∙ sym (ap (λ (n : ℕ). 20 * (blocks * n)) one.block_len))

  -- both end, and nothing is left
  pub left_both : (h3 : Holdings) (s2 s3 : Signs) → h0.live_clients ≡ 0 → HasEndedFirst first.tracker second.tracker h2 h3 s2 s3 → IsLeft h0 (after_end_client second.tracker h3)
  left_both h3 s2 s3 none ended =
      let first_kept : (account_of first.tracker h2).reservation ≡ bytes =
      ap (λ (o : Option Account). (or_else no_account o).reservation) ((own-still.own first.tracker refl).account ∙ one.account) in
      let second_kept : (account_of second.tracker h2).reservation ≡ bytes = ap (λ (o : Option Account). (or_else no_account o).reservation) two.account in
      let room-one = one.room in
      let room-two = two.room in
      let room = ended.room in
      let live-one = one.live_clients in
      let live-two = two.live_clients in
      let live = ended.live_clients in
      let kept-one = one.reservation in
      let kept-two = two.reservation in
      let kept = ended.reservation in
      record {
        live_clients = omega (arith, none, live-one, live-two, live);
        room = omega (arith, first_kept, second_kept, room-one, room-two, room);
        reservation = omega (arith, kept-one, kept-two, kept);
        limit = ended.limit ∙ two.limit ∙ one.limit;
        query = ended.query ∙ two.query ∙ one.query;
        session = ended.session ∙ two.session ∙ one.session;
        block_len = ended.block_len ∙ two.block_len ∙ one.block_len;
        told = ended.told ∙ two.told ∙ one.told;
      }
