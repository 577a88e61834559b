-- Inputs in memory, by name.
use Rattle.std.specs.Prelude.{◌≡◌, ℕ, List, Option}
use Rattle.std.specs.Option.{option_map}
use Rattle.std.specs.BTreeMap.{get_by_text}
use Rattle.outside.specs.Entries.{InputFile, count_by}
use Rattle.outside.specs.declared.memory.inputs.MemInputs.{MemInputs}

-- the input that was put under a name
abbrev pub file_at : MemInputs → List ℕ → Option InputFile
file_at inputs name = get_by_text inputs.files name

-- the bytes of an input that was put
abbrev pub bytes_of_input : MemInputs → List ℕ → Option (List ℕ)
bytes_of_input inputs name = option_map (λ file. file.bytes) (file_at inputs name)

-- the faults of a name; the names under which none was put have one count together
abbrev pub faults_of_input : MemInputs → List ℕ → ℕ
faults_of_input inputs name = count_by inputs.missing (λ file. file.faults) (file_at inputs name)

-- an input, its faults apart
abbrev pub put_of : InputFile → List ℕ × ℕ × List ℕ
put_of file = (file.bytes, file.chunk, file.fails)

-- every name has the input that it had, whatever its faults
abbrev pub KeepsInputs : MemInputs → MemInputs → Type 0
KeepsInputs before now = (name : List ℕ) → option_map put_of (file_at now name) ≡ option_map put_of (file_at before name)

-- the calls on inputs that found no memory
abbrev pub starved_inputs : MemInputs → ℕ
starved_inputs inputs = inputs.starved
