use Rattle.std.proofs.Common.{rules, ◌≡◌, ℕ, ◌+◌, ◌%◌, List, ◌++◌, [], ◌∷◌, length, map, take, ap, sym, ◌∙◌, subst}
use Rattle.std.proofs.lemmas.List.{map_more, take_all}
use Rattle.tuple_stream.specs.Families.{family}
use Rattle.tuple_stream.specs.FamilyCalls.{Feeds, FeedsAll}
use Rattle.tests_stores.proofs.Dealt.{share, shared_more}
use Rattle.tuple_stream.proofs.FamilyChains.{lays_both}
use Rattle.tuple_stream.proofs.FamilyRooms.{rooms_kept}
use Rattle.tuple_stream.proofs.FamilyWords.{feeds_more, feeds_none}
use Rattle.tests_stores.proofs.tests.streams.pair.feed_all.Goals as goal

pub loop-row-init : goal.loop-row-init
loop-row-init g c = feeds_none c.args.c.now.tracker _ c.requires.shaped

pub feed-requires-clause-rooms : goal.feed-requires-clause-rooms
feed-requires-clause-rooms g c = (c.requires.rooms.0, rooms_kept c.args.c.now.tracker c.requires.rooms.0 _ _ c.requires.rooms.1 c.loop-row.invariant.steps)

pub returns-in_err-feed-clause-went : goal.returns-in_err-feed-clause-went
returns-in_err-feed-clause-went g c =
    let was = c.loop-row.invariant in
    lays_both _ _ _ c.args.c.now.tracker was.at_end (λ (never : ⊥). never) was.steps c.feed.ensures.went.steps

pub loop-row-preserved : goal.loop-row-preserved
loop-row-preserved g c =
    let row = c.row-item.result.items in
    let f = family c.args.streams.now.items (g.St.Store.holds c.args.store.now) (g.St.Store.signs c.args.store.now) in
    let h = family c.feed.new.streams.items (g.St.Store.holds c.feed.new.store) (g.St.Store.signs c.feed.new.store) in
    let fed : map (λ r. r.items) (take (c.loop-row.row-index + 1) c.args.rows.now) ≡ map (λ r. r.items) (take c.loop-row.row-index c.args.rows.now) ++ row ∷ [] =
    map_more (λ r. r.items) c.args.rows.now c.loop-row.row-index c.row-item.result (search rules) ∙ ap (λ r. map (λ q. q.items) (take c.loop-row.row-index c.args.rows.now) ++ r.items ∷ []) (sym c.row-item.is) in
    let at : c.len-at.result % 2 ≡ length row % 2 = search rules in
    let went : Feeds c.args.c.now.tracker (c.len-at.result % 2) (row ∷ []) (family c.loop-row.streams.items (g.St.Store.holds c.loop-row.store) (g.St.Store.signs c.loop-row.store)) h = search rules in
    subst (λ (rows : List (List ℕ)). FeedsAll c.args.c.now.tracker (λ i. share i rows) f h) (sym fed)
    (feeds_more c.args.c.now.tracker (c.len-at.result % 2) _ _ (row ∷ []) f _ h c.loop-row.invariant went c.in_ok-feed.ensures.at_end
    (shared_more (c.len-at.result % 2) (map (λ r. r.items) (take c.loop-row.row-index c.args.rows.now)) row at))

pub returns-clause-ok : goal.returns-clause-ok
returns-clause-ok g c =
    let all : take c.loop-row.row-index c.args.rows.now ≡ c.args.rows.now = take_all c.loop-row.row-index c.args.rows.now (search rules) in
    subst (λ rows. FeedsAll c.args.c.now.tracker (λ i. share i (map (λ r. r.items) rows)) (family c.args.streams.now.items (g.St.Store.holds c.args.store.now) (g.St.Store.signs c.args.store.now)) (family c.loop-row.streams.items (g.St.Store.holds c.loop-row.store) (g.St.Store.signs c.loop-row.store)))
    all c.loop-row.invariant
