-- Outputs in memory, by name.
use Rattle.std.specs.Prelude.{◌≡◌, ℕ, Bool, List, Option, Some, None, is_some}
use Rattle.std.specs.Option.{option_map}
use Rattle.std.specs.BTreeMap.{get_by_text}
use Rattle.outside.specs.Names.{AllStay, Written, fresh}
use Rattle.outside.specs.Entries.{OutputEntry, Failing, failing_of, count_by}
use Rattle.outside.specs.declared.memory.outputs.MemOutputs.{MemOutputs}

-- the output that was created under a name
abbrev pub output_at : MemOutputs → List ℕ → Option OutputEntry
output_at outputs name = get_by_text outputs.entries name

-- what stands under a name: nothing where it was never created
abbrev pub written_of : Option OutputEntry → Written
written_of None = fresh
written_of (Some entry) = entry.written

-- what outputs tell of a name
abbrev pub written_under : MemOutputs → List ℕ → Option Written
written_under outputs name = Some (written_of (output_at outputs name))

-- whether a whole answer stands under a name
abbrev pub is_whole_under : MemOutputs → List ℕ → Bool
is_whole_under outputs name = (written_of (output_at outputs name)).whole

-- whether a name was created
abbrev pub was_created : MemOutputs → List ℕ → Bool
was_created outputs name = is_some (output_at outputs name)

-- the bytes under a name that was created
abbrev pub bytes_under : MemOutputs → List ℕ → Option (List ℕ)
bytes_under outputs name = option_map (λ entry. entry.written.bytes) (output_at outputs name)

-- the faults of a name; the names that were never created have one count together
abbrev pub faults_of_output : MemOutputs → List ℕ → ℕ
faults_of_output outputs name = count_by outputs.missing (λ entry. entry.faults) (output_at outputs name)

-- the calls of `done` for a name that were refused though a whole answer was given back: none before it was created
abbrev pub refused_ends_of : MemOutputs → List ℕ → ℕ
refused_ends_of outputs name = count_by 0 (λ entry. entry.refused_ends) (output_at outputs name)

-- the calls on outputs that found no memory, those on sinks that came back included
abbrev pub starved_outputs : MemOutputs → ℕ
starved_outputs outputs = outputs.starved

-- which calls of the output under a name were set to fail
abbrev pub failing_at : MemOutputs → List ℕ → Failing
failing_at outputs name = failing_of (get_by_text outputs.failing name)

-- every name has the output and the faults that it had, and as many calls found no memory
pub record KeepsOutputs (old new : MemOutputs) : Type 0 where
  pub outputs : AllStay (output_at old) (output_at new)
  pub faults : AllStay (faults_of_output old) (faults_of_output new)
  pub starved : starved_outputs new ≡ starved_outputs old
