use Rattle.std.proofs.Common.{◌≡◌, rules, Some, sym}
use Rattle.std.specs.BTreeMap.{get_by_text}
use Rattle.std.proofs.lemmas.Map.Text.{btree_map_updates_text}
use Rattle.outside.proofs.memory.by_name.add_faults.Goals as goal

pub returns-clause-some : goal.returns-clause-some
returns-clause-some g c =
    let now = c.raise.new.self in
    let was : get_by_text c.args.entries.now c.args.name.now ≡ Some c.in-Some.entry.now = sym c.in-Some.ensures.value in
    let sets = btree_map_updates_text c.args.name.now c.args.entries.now (c.get_mut.follows.lender now) (Some now) ((c.get_mut.follows.holds now).3 (search rules)) in
    rw (was, ← c.raise.ensures.state) sets
