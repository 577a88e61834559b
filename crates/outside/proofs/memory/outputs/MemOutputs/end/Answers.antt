use Rattle.std.proofs.Common.{◌≡◌, ◌&&◌, rules, Some, sym, ap}
use Rattle.std.specs.BTreeMap.{get_by_text}
use Rattle.std.proofs.lemmas.Map.Text.{btree_map_updates_text}
use Rattle.outside.specs.Outputs.{output_at}
use Rattle.outside.proofs.FaultsByName.{all_stay, counts_end}
use Rattle.outside.proofs.memory.outputs.MemOutputs.end.Goals as goal

pub returns-clause-entry : goal.returns-clause-entry
returns-clause-entry c =
    let now = c.end.new.self in
    let was : output_at c.args.self.now c.args.name.now ≡ Some c.in-Some.output.now = sym c.in-Some.ensures.value in
    let sets = btree_map_updates_text c.args.name.now c.args.self.now.entries (c.get_mut.follows.lender now) (Some now) ((c.get_mut.follows.holds now).3 (search rules)) in
    rw (was, ← c.end.ensures.state) sets

pub returns-clause-faults : goal.returns-clause-faults
returns-clause-faults c =
    let now = c.end.new.self in
    let sets = btree_map_updates_text c.args.name.now c.args.self.now.entries (c.get_mut.follows.lender now) (Some now) ((c.get_mut.follows.holds now).3 (search rules)) in
    all_stay c.args.self.now.missing (λ entry. entry.faults) (output_at c.args.self.now) (get_by_text (c.get_mut.follows.lender now)) c.args.name.now c.in-Some.output.now now
    (sym c.in-Some.ensures.value) (ap (λ entry. entry.faults) c.end.ensures.state) sets

pub returns-clause-ends : goal.returns-clause-ends
returns-clause-ends c =
    let now = c.end.new.self in
    let sets = btree_map_updates_text c.args.name.now c.args.self.now.entries (c.get_mut.follows.lender now) (Some now) ((c.get_mut.follows.holds now).3 (search rules)) in
    counts_end (c.args.whole && c.args.refused) (λ entry. entry.refused_ends) (output_at c.args.self.now) (get_by_text (c.get_mut.follows.lender now)) c.args.name.now c.in-Some.output.now now
    (sym c.in-Some.ensures.value) (ap (λ entry. entry.refused_ends) c.end.ensures.state) c.end.ensures.never_falls sets
