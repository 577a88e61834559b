use Rattle.std.proofs.Common.{◌≡◌, ◌++◌, drop, option_map}
use Rattle.csv_edge.specs.Typed.{places_of}
use Rattle.csv_edge.proofs.header.places.Given as goal

abbrev pub invariant-loop-column : goal.invariant-loop-column
invariant-loop-column l = places_of l.names.items l.columns ≡ option_map (λ others. l.placed.items ++ others) (places_of l.names.items (drop l.column-index l.columns))
