use Rattle.std.proofs.Common.{length, refl, inl}
use Rattle.tuple_stream.proofs.FamilyChains.{lays_both}
use Rattle.tuple_stream.proofs.FamilyKept.{has_kept}
use Rattle.tests_stores.proofs.tests.streams.pair.keep_all.Goals as goal

pub returns-clause-ok : goal.returns-clause-ok
returns-clause-ok g c = has_kept c.args.c.now.tracker (length c.feed_all.new.streams.items) _ _ _ _ c.requires.empty refl c.in_ok-feed_all.ensures.ok c.in_ok-rest_all.ensures.ok

pub returns-clause-went : goal.returns-clause-went
returns-clause-went g c =
    lays_both _ _ _ c.args.c.now.tracker (λ all i s there. inl (c.in_ok-feed_all.ensures.ok.at_end all i s there)) (λ never. absurd never) c.feed_all.ensures.went c.rest_all.ensures.went

pub returns-in_err-rest_all-clause-went : goal.returns-in_err-rest_all-clause-went
returns-in_err-rest_all-clause-went g c =
    lays_both _ _ _ c.args.c.now.tracker (λ all i s there. inl (c.in_ok-feed_all.ensures.ok.at_end all i s there)) (λ never. absurd never) c.feed_all.ensures.went c.rest_all.ensures.went
