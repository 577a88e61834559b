-- The end's entry leads to the back.
use Rattle.std.proofs.Common.{◌+◌, ap, ◌∙◌}
use Rattle.index_list.specs.Threads.{answer}
use Rattle.index_list.proofs.Shown.{shows, end-in, read-is, back-is}
use Rattle.index_list.proofs.table.Lists.back.Goals as goal

pub returns : goal.returns
returns c =
    let a = c.self.inside in
    let s = shows a c.args.self.now c.self.invariant c.self.view_is in
    let x = read-is s (a.nodes + c.args.list) c.index.result.now (end-in s c.args.list c.requires) c.index.ensures in
    c.node_or_end.ensures ∙ ap (λ l. answer a.nodes l.prev) x ∙ back-is s c.args.list c.requires
