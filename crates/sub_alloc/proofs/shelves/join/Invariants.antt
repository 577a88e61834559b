use Rattle.std.proofs.Common.{◌≡◌, ℕ, ◌-◌, ◌*◌, ◌<◌, ◌^◌}
use Rattle.sub_alloc.specs.Rules.{joined}
use Rattle.sub_alloc.proofs.shelves.join.Given as goal

abbrev pub invariant-loop-class : goal.invariant-loop-class
invariant-loop-class l = record {
  below : l.class < l.classes;
  inside : l.place < l.free.nodes;
  nodes : l.free.nodes ≡ l.initial.free.nodes;
  aligned : (r : ℕ) × (l.place ≡ r * 2 ^ l.class);
  same : joined (l.classes - 1 - l.class) l.class l.place l.free ≡ joined (l.classes - 1 - l.initial.class) l.initial.class l.initial.place l.initial.free;
}

abbrev pub decreases-loop-class : goal.decreases-loop-class
decreases-loop-class l = l.classes - l.class
