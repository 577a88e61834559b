use Rattle.std.proofs.Common.{◌≡◌, rules, string_bytes}
use Rattle.std.proofs.lemmas.Map.Text.{btree_map_updates_text}
use Rattle.outside.proofs.memory.by_name.put.Goals as goal

pub returns-clause-ok : goal.returns-clause-ok
returns-clause-ok g c =
    let key : string_bytes c.in_ok-from_str.field-0 ≡ c.args.name.now = search rules in
    let sets = btree_map_updates_text (string_bytes c.in_ok-from_str.field-0) c.args.entries.now c.insert.new.self _ c.in_ok-insert.ensures.updates in
    rw key at sets
