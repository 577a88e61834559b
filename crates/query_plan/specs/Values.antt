-- What stands under a key of a table, where it is of the kind that is asked for; else nothing, a
-- zero or an empty one.
use Rattle.std.specs.Prelude.{ℕ, ℤ, pos, negsuc, List, [], ◌∷◌, map, Option, Some, None, option_map, unwrap_or}
use Rattle.toml.specs.Data.{Data, string, integer, Items, no_items, item, Members, no_members, member, get_member, as_str, as_integer, as_array, as_table}
use Rattle.row_codec.specs.declared.values.Value.{Value}
use Rattle.row_codec.specs.declared.values.Value.TheVariants.{Int, Text}

-- the members of a list
abbrev pub list_in : Items → List Data
list_in no_items = []
list_in (item value items) = value ∷ list_in items

-- a value as a list
abbrev pub as_list : Data → Option (List Data)
as_list value = option_map list_in (as_array value)

-- the keys of a table
abbrev pub keys_in : Members → List (List ℕ)
keys_in no_members = []
keys_in (member key value entries) = key ∷ keys_in entries

-- a value to compare with
abbrev pub as_scalar : Data → Option Value
as_scalar (integer z) = Some (Int z)
as_scalar (string text) = Some (Text text)
as_scalar _ = None

-- a number that is not negative
abbrev pub whole : ℤ → ℕ
whole (pos n) = n
whole (negsuc n) = 0

-- the parts of a value
abbrev pub number_of : Data → ℕ
number_of value = whole (unwrap_or (as_integer value) (pos 0))

abbrev pub text_of : Data → List ℕ
text_of value = unwrap_or (as_str value) []

abbrev pub list_of : Data → List Data
list_of value = unwrap_or (as_list value) []

abbrev pub table_of : Data → Members
table_of value = unwrap_or (as_table value) no_members

abbrev pub scalar_of : Data → Value
scalar_of value = unwrap_or (as_scalar value) (Text [])

-- what is read of the value under a key; where there is none, the other
abbrev pub under : {A : Type 0} → List ℕ → Members → (Data → A) → A → A
under key entries read other = unwrap_or (option_map read (get_member key entries)) other

abbrev pub number_at : List ℕ → Members → ℕ
number_at key entries = under key entries number_of 0

abbrev pub text_at : List ℕ → Members → List ℕ
text_at key entries = under key entries text_of []

abbrev pub list_at : {A : Type 0} → List ℕ → Members → (Data → A) → List A
list_at key entries read = under key entries (λ value. map read (list_of value)) []
