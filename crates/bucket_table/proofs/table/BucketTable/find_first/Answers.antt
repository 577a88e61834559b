use Rattle.std.proofs.Common.{◌≡◌, ◌<◌, ◌*◌, ◌%◌, ℕ, ap, ◌∙◌, arith}
use Rattle.bucket_table.specs.Tables.{newest_on}
use Rattle.bucket_table.specs.Regions.{link_at}
use Rattle.bucket_table.specs.Threads.{node_in, nodes_in}
use Rattle.bucket_table.proofs.LookedUp.{newest_is}
use Rattle.bucket_table.proofs.TheRow.{found_on}
use Rattle.bucket_table.proofs.table.BucketTable.find_first.Goals as goal

pub overflow_mul-place : goal.overflow_mul-place
overflow_mul-place c = omega (arith, c.place.ensures.below, c.self.invariant.laid.table.few)

pub returns : goal.returns
returns c =
    let t = c.self.inside in
    let k = c.args.hash % t.chains.len in
    let nodes = nodes_in t.chains.len t.heads.bytes t.nodes.bytes in
    let below : k < t.chains.len = omega (arith, c.place.ensures.value, c.place.ensures.below) in
    let value : c.node_of.result ≡ newest_on k nodes =
    c.node_of.ensures
    ∙ ap node_in (c.link.ensures ∙ ap (λ (i : ℕ). link_at t.heads.bytes (4 * i)) c.place.ensures.value ∙ c.self.invariant.laid.table.threaded.linked k below)
    ∙ newest_is k nodes
    in
    rw (← c.self.view_is) (record { value = value; node = found_on k nodes c.node_of.result value })
