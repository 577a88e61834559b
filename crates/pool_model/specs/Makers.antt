-- Who makes entries. Sessions have the numbers 0 to 239, writers 1000 to 1007.
use Rattle.std.specs.Prelude.{ℕ, ◌<◌, ◌≤◌}

-- the number is a session's
abbrev pub IsSession : ℕ → Type 0
IsSession maker = maker < 240

-- the number is a writer's
abbrev pub IsWriter : ℕ → Type 0
IsWriter maker = (1000 ≤ maker) × (maker < 1008)
