use Rattle.std.proofs.Common.{rules}
use Rattle.turn_table.proofs.Calls.{serves}
use Rattle.turn_table.proofs.steps.serve.Goals as goal

pub fetch_add-requires : goal.fetch_add-requires
fetch_add-requires g c =
    let held = c.requires.value in
    (search rules, search rules, serves _ _ _ _ _ _ held.0 _ c.requires.turn.1 held.1 held.2 c.requires.rights)
