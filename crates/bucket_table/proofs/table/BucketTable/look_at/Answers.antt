use Rattle.std.proofs.Common.{◌≡◌, ◌≤◌, ◌<◌, ◌+◌, ◌^◌, length, ap, ◌∙◌, arith}
use Rattle.bucket_table.specs.Tables.{HasNode}
use Rattle.bucket_table.specs.Threads.{node_in, nodes_in}
use Rattle.bucket_table.proofs.LookedUp.{next_is}
use Rattle.bucket_table.proofs.TheRow.{front_link, front_shown, front_shows, there}
use Rattle.bucket_table.proofs.table.BucketTable.look_at.Goals as goal

pub piece-requires : goal.piece-requires
piece-requires c =
    let t = c.self.inside in
    let nodes = nodes_in t.chains.len t.heads.bytes t.nodes.bytes in
    let has : HasNode c.args.node nodes = rw (← c.self.view_is) at c.requires.node in
    let is = there t.chains.len t.used c.args.node t.heads.bytes t.nodes.bytes c.self.invariant.laid.table has in
    record { inside = omega (arith, is.ends, is.inside) }

pub returns-in-Some-clause-next : goal.returns-in-Some-clause-next
returns-in-Some-clause-next c =
    let t = c.self.inside in
    let p = c.args.node in
    let nodes = nodes_in t.chains.len t.heads.bytes t.nodes.bytes in
    let has : HasNode p nodes = rw (← c.self.view_is) at c.requires.node in
    let is = there t.chains.len t.used p t.heads.bytes t.nodes.bytes c.self.invariant.laid.table has in
    let head : 8 ≤ c.saturating_add-count.result = omega arith in
    let link = front_link p c.args.at c.saturating_add-count.result _ _ t.nodes.bytes c.in-Some.front.now c.args.bytes.now is c.in-Some.ensures.value head in
    rw (← c.self.view_is) (c.look_in.ensures.next ∙ ap node_in link ∙ next_is p t.chains.len t.nodes.bytes nodes c.self.invariant.laid.table.threaded.stand has)

pub returns-in-Some-clause-shows : goal.returns-in-Some-clause-shows
returns-in-Some-clause-shows c =
    let t = c.self.inside in
    let p = c.args.node in
    let at = c.args.at in
    let bytes = c.args.bytes.now in
    let nodes = nodes_in t.chains.len t.heads.bytes t.nodes.bytes in
    let has : HasNode p nodes = rw (← c.self.view_is) at c.requires.node in
    let is = there t.chains.len t.used p t.heads.bytes t.nodes.bytes c.self.invariant.laid.table has in
    let head : 8 ≤ c.saturating_add-count.result = omega arith in
    let short : c.saturating_add-count.result < 2 ^ 32 = c.in-Some.ensures.short in
    let end : c.saturating_add-end.result ≡ at + length bytes = omega (arith, short) in
    let reach : 4 + (at + length bytes) ≤ c.saturating_add-count.result = omega (arith, short) in
    let front = c.in-Some.front.now in
    let shows = c.look_in.ensures.shows in
    let hidden = front_shown p at c.saturating_add-count.result _ _ t.nodes.bytes front bytes is c.in-Some.ensures.value head c.requires.some reach in
    let shown = front_shows p at c.saturating_add-count.result _ _ t.nodes.bytes front bytes is c.in-Some.ensures.value head c.requires.some reach in
    rw (← c.self.view_is) (
      (λ yes. shown (rw end at shows.0 yes)),
      (λ same. shows.1 (rw end (hidden same))),
    )
