use Rattle.std.proofs.Common.{sym, inl}
use Rattle.trace_check.proofs.Progress.{no_opening, started}
use Rattle.trace_check.proofs.check.check_text.Goals as goal

pub returns-in-None : goal.returns-in-None
returns-in-None c = inl (no_opening c.args.bytes.now (sym c.in-None.ensures))

pub check_lines-requires : goal.check_lines-requires
check_lines-requires c = started c.args.bytes.now c.in-Some.opened c.in-Some.rest.now c.in-Ok.follower c.requires (sym c.in-Some.ensures) c.in-Ok.ensures
