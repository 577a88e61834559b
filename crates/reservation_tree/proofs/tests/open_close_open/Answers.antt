use Rattle.std.proofs.Common.{◌≡◌, Option, unwrap_or, ap, sym, subst}
use Rattle.reservation_tree.specs.Tracker.{Tracker, no_tracker, IsLive, reservation_of, HasNoChild}
use Rattle.reservation_tree.specs.Tree.{TreeState}
use Rattle.reservation_tree.proofs.Maps.{get_same, is_there}
use Rattle.reservation_tree.proofs.Members.{newly_alone}
use Rattle.reservation_tree.proofs.tests.open_close_open.Goals as goal

pub close-requires-clause-live : goal.close-requires-clause-live
close-requires-clause-live g c =
    subst (λ (s : TreeState). IsLive s.trackers c.in_ok-first.first) (sym c.in_ok-first.ensures.ok) (is_there _ _ (get_same c.args.tree.now.trackers c.in_ok-first.first _))

pub close-requires-clause-empty : goal.close-requires-clause-empty
close-requires-clause-empty g c =
    subst (λ (s : TreeState). reservation_of s.trackers c.in_ok-first.first ≡ 0) (sym c.in_ok-first.ensures.ok)
    (ap (λ (o : Option Tracker). (unwrap_or o no_tracker).reservation) (get_same c.args.tree.now.trackers c.in_ok-first.first _))

pub close-requires-clause-no_child : goal.close-requires-clause-no_child
close-requires-clause-no_child g c =
    subst (λ (s : TreeState). HasNoChild s.trackers c.in_ok-first.first) (sym c.in_ok-first.ensures.ok)
    (newly_alone c.args.tree.now.trackers c.law_fits.ensures.tree c.in_ok-first.first c.root-root.result 1 c.in_ok-first.ensures.fresh c.root-root.ensures.live)
