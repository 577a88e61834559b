-- A key in the bytes of a partial row, field by field.
use Rattle.std.specs.Prelude.{ℕ, ◌+◌, drop, fold, length, List, [], ◌∷◌, ◌++◌, Option, Some, None, option_map, option_and_then}
use Rattle.row_codec.specs.declared.values.Kind.{Kind}
use Rattle.row_codec.specs.declared.values.Kind.TheVariants.{Int, Text, Wide}
use Rattle.row_codec.specs.Order.{hash_of, hash_step}
use Rattle.row_codec.specs.RowReading.{front, number_in}
use Rattle.store_api.specs.declared.shapes.Shape.{Shape}
use Rattle.group_op.specs.Stored.{key_kinds}

-- the bytes of a field of this kind, and those behind them
abbrev pub cut_at : Kind → List ℕ → Option (List ℕ × List ℕ)
cut_at Int bytes = front 8 bytes
cut_at Text bytes = option_and_then (λ (head, rest). front (4 + number_in head) bytes) (front 4 bytes)
cut_at Wide bytes = front 16 bytes

-- what a field's bytes are in a key
abbrev pub tagged : Kind → List ℕ → List ℕ
tagged Int field = 1 ∷ field
tagged Text field = 2 ∷ field
tagged Wide field = []

-- what fields of these kinds are in a key, and the bytes behind them
abbrev pub parts_at : List Kind → List ℕ → Option (List ℕ × List ℕ)
parts_at [] bytes = Some ([], bytes)
parts_at (kind ∷ kinds) bytes =
    option_and_then (λ (field, rest). option_map (λ (parts, behind). (tagged kind field ++ parts, behind)) (parts_at kinds rest))
    (cut_at kind bytes)

-- a key so far, before what comes
abbrev pub behind_key : List ℕ → Option (List ℕ × List ℕ) → Option (List ℕ × List ℕ)
behind_key key found = option_map (λ (parts, rest). (key ++ parts, rest)) found

-- a key, and the bytes behind so many of these, where a number was found
abbrev pub cut_behind : List ℕ → List ℕ → Option ℕ → Option (List ℕ × List ℕ)
cut_behind key bytes found = option_map (λ len. (key, drop len bytes)) found

-- a key, and how many bytes are left
abbrev pub left_behind : List ℕ → Option ℕ → Option (List ℕ × ℕ)
left_behind key found = option_map (λ left. (key, left)) found

abbrev pub counted : Option (List ℕ × List ℕ) → Option (List ℕ × ℕ)
counted found = option_map (λ (parts, rest). (parts, length rest)) found

-- the key that was found, and nothing where none was
abbrev pub key_in : Option (List ℕ × List ℕ) → List ℕ
key_in None = []
key_in (Some (parts, rest)) = parts

-- the hash of the key in the bytes of a partial row, behind the first four
abbrev pub hash_at : Shape → List ℕ → ℕ
hash_at shape bytes = hash_of (key_in (parts_at (key_kinds shape) (drop 4 bytes)))

-- a hash with what was found, and the bytes behind
abbrev pub hashed : ℕ → Option (List ℕ × List ℕ) → Option (ℕ × List ℕ)
hashed hash found = option_map (λ (parts, rest). (fold hash_step hash parts, rest)) found

-- the hash of the key that was found, and how many bytes are left
abbrev pub hashed_left : Option (List ℕ × List ℕ) → Option (ℕ × ℕ)
hashed_left found = option_map (λ (parts, rest). (hash_of parts, length rest)) found

-- a hash, and the bytes behind so many of these, where both were found
abbrev pub hashed_behind : List ℕ → Option (ℕ × ℕ) → Option (ℕ × List ℕ)
hashed_behind bytes found = option_map (λ (len, hash). (hash, drop len bytes)) found
