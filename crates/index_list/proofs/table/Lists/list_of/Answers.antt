-- The node's entry names its list.
use Rattle.std.proofs.Common.{ap, sym, ◌∙◌, Some}
use Rattle.index_list.proofs.Shown.{shows, entry-in, read-is, list-none, list-some, is-proper}
use Rattle.index_list.proofs.table.Lists.list_of.Goals as goal

pub returns-then-list-clause-list : goal.returns-then-list-clause-list
returns-then-list-clause-list c =
    let s = shows c.self.inside c.args.self.now c.self.invariant c.self.view_is in
    let x = read-is s c.args.node c.index.result.now (entry-in s c.args.node c.requires) c.index.ensures in
    sym (list-none s c.args.node (sym (ap (λ l. l.list) x) ∙ c.if-list.true))

pub returns-then-list-clause-proper : goal.returns-then-list-clause-proper
returns-then-list-clause-proper c = is-proper (shows c.self.inside c.args.self.now c.self.invariant c.self.view_is)

pub returns-else-list-clause-list : goal.returns-else-list-clause-list
returns-else-list-clause-list c =
    let s = shows c.self.inside c.args.self.now c.self.invariant c.self.view_is in
    let x = read-is s c.args.node c.index.result.now (entry-in s c.args.node c.requires) c.index.ensures in
    ap (λ l. Some l.list) x ∙ sym (list-some s c.args.node c.requires (λ e. c.if-list.false (ap (λ l. l.list) x ∙ e)))

pub returns-else-list-clause-proper : goal.returns-else-list-clause-proper
returns-else-list-clause-proper c = is-proper (shows c.self.inside c.args.self.now c.self.invariant c.self.view_is)
