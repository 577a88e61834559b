-- What a session holds fits itself.
use Rattle.std.proofs.Common.{◌≡◌, ℕ, ◌+◌, ◌-◌, ◌≤◌, List, [], Bool, true, if◌then◌else◌, Option, Some, None, IsSome, sym, ap, ◌∙◌, subst, arith, eq-eqb}
use Rattle.std.specs.FinMap.{get}
use Rattle.reservation_tree.specs.Total.{total}
use Rattle.reservation_tree.specs.Tracker.{Tracker, Trackers, share_of, children_of, reservation_of, limit_of, Fits}
use Rattle.reservation_tree.proofs.Maps.{is_there}
use Rattle.reservation_tree.proofs.Sums.{weight-le-total}
use Rattle.reservation_tree.proofs.Shares.{share_here}
use Rattle.reservation_tree.proofs.Outline.{reservation_is, limit_is}
use Rattle.pool_model.specs.State.{Session, State}
use Rattle.pool_model.specs.Owning.{IsClientOf}
use Rattle.pool_model.specs.Legal.{state_after}
use Rattle.pool_model.specs.Sound.{IsQuery, IsSound}
use Rattle.pool_model.specs.LookingBack.{content_from}
use Rattle.pool_model.proofs.Kept.{legal_sound}
use Rattle.store_api.specs.Holdings.{Account, Holdings, or_else, no_account, account_of}
use Rattle.store_api.specs.Conditions.{FitsAccount}
use Rattle.own_entries.specs.LiveParts.{is_parent, live_account, charge_in, Tells}
use Rattle.own_entries.specs.FitLaws.{FitsHeld, LegalHoldingsFit}
use Rattle.own_entries.specs.HeldLaws.{own_holdings}
use Rattle.own_entries.proofs.Facts.{seat, query_under}
use Rattle.own_entries.proofs.Behind.{told_client}
use Rattle.own_entries.proofs.TrackersTold.{account_none}
use Rattle.own_entries.proofs.Held.{legal_holdings_are_told}

-- one child's reservation is part of the children's
pub child_within : (ts : Trackers) (c q : ℕ) (y : Tracker) → get ts c ≡ Some y → y.parent ≡ Some q → y.reservation ≤ children_of ts q
unfolding children_of
child_within ts c q y is under_it =
    let part : share_of q y.parent y.reservation ≤ total (λ _ x. share_of q x.parent x.reservation) ts = weight-le-total (λ _ x. share_of q x.parent x.reservation) ts c y is in
    let all : share_of q y.parent y.reservation ≡ y.reservation = ap (λ (o : Option ℕ). share_of q o y.reservation) under_it ∙ share_here q y.reservation in
    omega (arith, part, all)

module _ (left : ℕ → List ℕ) (s : State) (sound : IsSound s) (m : ℕ) (x : Session) (is : get s.sessions m ≡ Some x) (h : Holdings)
    (told : Tells left s.block_len s.trackers s.pages s.buffers m x.query x.quota h) where
  fits : FitsHeld h
  fits =
      let its : IsQuery s.trackers x.query = seat s sound m x is in
      let fit : Fits (λ _. 0) s.trackers x.query = sound.seated.children_fit x.query (is_there (get s.trackers x.query) its.tracker its.lives) in
      let res : h.reservation ≡ reservation_of s.trackers x.query = told.reservation in
      let lim : h.limit ≡ limit_of s.trackers x.query = told.limit in
      let room : h.room + children_of s.trackers x.query ≡ reservation_of s.trackers x.query = told.room in
      record {
        query = record { room = omega (arith, res, room); reservation = omega (arith, res, lim, fit.below) };
        accounts = λ c some.
            let client : IsClientOf s m c = told_client left s m x is h told c some in
            let y : Tracker = client.tracker in
            let charge : ℕ = charge_in s.block_len s.pages s.buffers c in
            let mine : is_parent x.query y.parent ≡ true =
            ap (is_parent x.query) client.under ∙ eq-eqb client.session.query x.query (ap (λ (o : Option Session). elim o [ None ↦ x.query | Some z ↦ z.query ]) (sym client.opened ∙ is)) in
            let account : account_of c h ≡ record { limit = y.limit; reservation = y.reservation; unused = y.reservation - charge } =
            ap (or_else no_account) (told.clients c ∙ ap (live_account x.query charge) client.lives ∙ ap (λ (b : Bool). if b then Some (record { limit = y.limit; reservation = y.reservation; unused = y.reservation - charge }) else None) mine) in
            let live : IsSome (get s.trackers c) = is_there (get s.trackers c) y client.lives in
            let its_fit : Fits (λ _. 0) s.trackers c = sound.seated.children_fit c live in
            let has : reservation_of s.trackers c ≡ y.reservation = reservation_is s.trackers c y client.lives in
            let bound : limit_of s.trackers c ≡ y.limit = limit_is s.trackers c y client.lives in
            let same : client.session.query ≡ x.query = ap (λ (o : Option Session). elim o [ None ↦ x.query | Some z ↦ z.query ]) (sym client.opened ∙ is) in
            let part : y.reservation ≤ children_of s.trackers x.query = child_within s.trackers c x.query y client.lives (client.under ∙ ap Some same) in
            subst (λ (a : Account). FitsAccount a h) (sym account) (record {
              unused = omega arith;
              reservation = omega (arith, has, bound, its_fit.below);
              query = omega (arith, part, room, res);
            });
        apart =
            ap h.clients told.tracker ∙ told.clients x.query
            ∙ account_none x.query (charge_in s.block_len s.pages s.buffers x.query) (get s.trackers x.query) (query_under s sound x.query x.query its its);
      }

pub legal_holdings_fit : LegalHoldingsFit
legal_holdings_fit o outset h legal m x is =
    fits (λ p. content_from p [] h) (state_after o h) (legal_sound o h legal) m x is (own_holdings o outset h m) (legal_holdings_are_told o outset h legal m x is)
