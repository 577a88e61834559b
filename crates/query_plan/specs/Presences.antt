-- When a key stands in a table.
use Rattle.std.specs.Prelude.{codes, ℕ, Bool, true, false, not, ◌&&◌, List, is_some, bytes_eq}
use Rattle.toml.specs.Data.{Data, Members, get_member}
use Rattle.query_plan.specs.Values.{under, text_of}
use Rattle.query_plan.specs.Faults.{Presence}

abbrev pub has : List ℕ → Members → Bool
has key entries = is_some (get_member key entries)

abbrev pub lacks : List ℕ → Members → Bool
lacks key entries = not (has key entries)

-- always; or where one likes
abbrev pub needed : Presence
needed = record { may = λ _. true; must = λ _. true }

abbrev pub optional : Presence
optional = record { may = λ _. true; must = λ _. false }

-- with another key, and then always; or only with it; or only with one and without the other; or always unless the other is there
abbrev pub exactly_with : List ℕ → Presence
exactly_with key = record { may = has key; must = has key }

abbrev pub only_with : List ℕ → Presence
only_with key = record { may = has key; must = λ _. false }

abbrev pub only_with_but : List ℕ → List ℕ → Presence
only_with_but key other = record { may = λ entries. has key entries && lacks other entries; must = λ _. false }

abbrev pub needed_without : List ℕ → Presence
needed_without key = record { may = λ _. true; must = lacks key }

-- an operation that is no count
abbrev pub is_no_count : Data → Bool
is_no_count value = not (bytes_eq (text_of value) (codes "count"))

abbrev pub takes_column : Members → Bool
takes_column entries = under (codes "op") entries is_no_count false

abbrev pub exactly_where : (Members → Bool) → Presence
exactly_where test = record { may = test; must = test }
