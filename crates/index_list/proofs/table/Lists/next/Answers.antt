-- The node's entry says whether it is on a list, and leads to what follows it there.
use Rattle.std.proofs.Common.{ap, sym, ◌∙◌}
use Rattle.index_list.specs.Threads.{answer}
use Rattle.index_list.proofs.Shown.{shows, entry-in, read-is, next-none, next-is}
use Rattle.index_list.proofs.table.Lists.next.Goals as goal

pub returns-then-link : goal.returns-then-link
returns-then-link c =
    let s = shows c.self.inside c.args.self.now c.self.invariant c.self.view_is in
    let x = read-is s c.args.node c.index-link.result.now (entry-in s c.args.node c.requires) c.index-link.ensures in
    sym (next-none s c.args.node (sym (ap (λ l. l.list) x) ∙ c.if-link.true))

pub returns : goal.returns
returns c =
    let a = c.self.inside in
    let s = shows a c.args.self.now c.self.invariant c.self.view_is in
    let x = read-is s c.args.node c.index-link.result.now (entry-in s c.args.node c.requires) c.index-link.ensures in
    c.node_or_end.ensures ∙ ap (λ l. answer a.nodes l.next) x
    ∙ next-is s c.args.node c.requires (λ e. c.if-link.false (ap (λ l. l.list) x ∙ e))
