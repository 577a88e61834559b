use Rattle.std.proofs.Common.{◌≡◌, ◌≤◌, true, false, sym, arith, rules}
use Rattle.trace_check.proofs.Progress.{went_on, went_wrong, line_shorter, few_entries}
use Rattle.trace_check.proofs.check.check_lines.Goals as goal

pub overflow_add-entries : goal.overflow_add-entries
overflow_add-entries c = let few : c.lines.entries ≤ 268435456 = few_entries c.args._bytes.now c.lines.follower c.lines.entries c.lines.rest.now c.lines.invariant in omega (arith, few)

pub lines-smaller : goal.lines-smaller
lines-smaller c = line_shorter c.lines.rest.now c.in-Some.k c.in-Some.behind.now (sym c.in-Some.ensures)

pub lines-preserved : goal.lines-preserved
lines-preserved c =
    let is : c.in-Ok.may ≡ true = search rules in
    went_on c.args._bytes.now c.lines.follower c.follow.new.self c.lines.entries c.lines.rest.now c.in-Some.k c.in-Some.behind.now c.in-Ok.may c.lines.invariant (sym c.in-Some.ensures) is c.in-Ok.ensures.judges (c.in-Ok.ensures.follows is)

pub returns-then-not-may : goal.returns-then-not-may
returns-then-not-may c =
    let is : c.in-Ok.may ≡ false = search rules in
    went_wrong c.args._bytes.now c.lines.follower c.lines.entries c.lines.rest.now c.in-Some.k c.in-Some.behind.now c.in-Ok.may c.lines.invariant (sym c.in-Some.ensures) is c.in-Ok.ensures.judges
