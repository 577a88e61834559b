-- The end's entry leads to the front.
use Rattle.std.proofs.Common.{◌+◌, ap, ◌∙◌}
use Rattle.index_list.specs.Threads.{answer}
use Rattle.index_list.proofs.Shown.{shows, end-in, read-is, front-is, is-proper}
use Rattle.index_list.proofs.table.Lists.front.Goals as goal

pub returns-clause-first : goal.returns-clause-first
returns-clause-first c =
    let a = c.self.inside in
    let s = shows a c.args.self.now c.self.invariant c.self.view_is in
    let x = read-is s (a.nodes + c.args.list) c.index.result.now (end-in s c.args.list c.requires) c.index.ensures in
    c.node_or_end.ensures ∙ ap (λ l. answer a.nodes l.next) x ∙ front-is s c.args.list c.requires

pub returns-clause-proper : goal.returns-clause-proper
returns-clause-proper c = is-proper (shows c.self.inside c.args.self.now c.self.invariant c.self.view_is)
