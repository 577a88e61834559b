-- What is wrong with a value of a document: the first fault in the order of reading, or nothing.
-- A check judges a value that stands at a path. A path is keys with dots between them, where the
-- members of a list are numbered from 1; the document itself stands at the empty path.
use Rattle.std.specs.Prelude.{ℕ, ◌+◌, Bool, not, ◌&&◌, ◌==◌, nat_le, List, [], ◌∷◌, ◌++◌, length, filter, fold, if◌then◌else◌, Option, Some, None, option_map, bytes_eq}
use Rattle.std.specs.Option.{option_or}
use Rattle.std.specs.List.{list_any}
use Rattle.std.specs.Ordering.{nat_cmp, is_lt}
use Rattle.std.specs.Cmp.Lexicographic.{slice_cmp}
use Rattle.std.specs.Fmt.{decimal}
use Rattle.toml.specs.Data.{Data, Members, get_member, as_str, as_integer, as_table}
use Rattle.query_plan.specs.declared.error.PlanErr.{PlanErr}
use Rattle.query_plan.specs.declared.error.PlanErr.TheVariants as err
use Rattle.query_plan.specs.declared.limit.Limit.{Limit}
use Rattle.query_plan.specs.Words.{keeps}
use Rattle.query_plan.specs.Values.{as_list, keys_in}

-- what may be wrong with a value that stands at a path
abbrev pub Check : Type 0
Check = List ℕ → Data → Option PlanErr

-- the path of a key of a table
unfoldable pub key_in : List ℕ → List ℕ → List ℕ
key_in path key = if length path == 0 then key else path ++ 46 ∷ key

-- the path of a member of a list, by its place from 0
abbrev pub member_in : List ℕ → ℕ → List ℕ
member_in path place = key_in path (decimal (place + 1))

-- a limit that is not kept
abbrev pub unless_kept : Bool → List ℕ → Option PlanErr
unless_kept kept path = if kept then None else Some (err.Limit path)

-- the fault of the part that is asked for; without it the value is of the wrong kind
abbrev pub of_part : {A : Type 0} → Option A → List ℕ → (A → Option PlanErr) → Option PlanErr
of_part None path judge = Some (err.WrongKind path)
of_part (Some part) path judge = judge part

-- the first fault of the members of a list that stand from this place on
abbrev pub first_from : {A : Type 0} → (ℕ → A → Option PlanErr) → ℕ → List A → Option PlanErr
first_from judge place [] = None
first_from judge place (x ∷ xs) = option_or (judge place x) (first_from judge (place + 1) xs)

-- ---- kinds and limits

-- a value that has a meaning
abbrev pub readable : {A : Type 0} → (Data → Option A) → Check
readable meaning path value = of_part (meaning value) path (λ _. None)

-- a whole number within a limit
unfoldable pub number : Limit → Check
number limit path value = of_part (as_integer value) path (λ z. unless_kept (keeps limit z) path)

-- a text that passes a test
unfoldable pub text : (List ℕ → Bool) → Check
text test path value = of_part (as_str value) path (λ bytes. unless_kept (test bytes) path)

-- a list whose length is within these, and then its members
unfoldable pub list_of : ℕ → ℕ → Check → Check
list_of low high check path value =
    of_part (as_list value) path (λ items.
    option_or (unless_kept (nat_le low (length items) && nat_le (length items) high) path)
    (first_from (λ place item. check (member_in path place) item) 0 items))

-- ---- tables

-- when a key may stand in a table, and when it has to
pub record Presence : Type 0 where
  pub may : Members → Bool
  pub must : Members → Bool

-- a row of the table of keys: a key, when it stands, its kind and its limit
pub record Row : Type 0 where
  pub key : List ℕ
  pub presence : Presence
  pub check : Members → Check

-- a row allows the key
abbrev pub is_allowed : List Row → Members → List ℕ → Bool
is_allowed rows entries key = list_any (λ row. bytes_eq key row.key && row.presence.may entries) rows

-- the lesser of two keys by bytes, where a prefix comes first
abbrev pub lesser : List ℕ → List ℕ → List ℕ
lesser a b = if is_lt (slice_cmp nat_cmp b a) then b else a

-- the least of some keys
abbrev pub least_key : List (List ℕ) → Option (List ℕ)
least_key [] = None
least_key (key ∷ keys) = Some (fold lesser key keys)

-- the least key that no row allows
unfoldable pub unknown_fault : List Row → List ℕ → Members → Option PlanErr
unknown_fault rows path entries =
    option_map (λ key. err.UnknownKey (key_in path key))
    (least_key (filter (λ key. not (is_allowed rows entries key)) (keys_in entries)))

-- a key that has to be there and is not, or what is wrong with its value
abbrev pub found_fault : Bool → Check → List ℕ → Option Data → Option PlanErr
found_fault must check path None = if must then Some (err.MissingKey path) else None
found_fault must check path (Some value) = check path value

-- the same of a key of a table at a path
unfoldable pub key_fault : Bool → List ℕ → Check → List ℕ → Members → Option PlanErr
key_fault must key check path entries = found_fault must check (key_in path key) (get_member key entries)

-- a row of the table of keys
abbrev pub row_fault : Row → List ℕ → Members → Option PlanErr
row_fault row path entries = key_fault (row.presence.must entries) row.key (row.check entries) path entries

-- each key in the order of the rows
abbrev pub rows_fault : List Row → List ℕ → Members → Option PlanErr
rows_fault [] path entries = None
rows_fault (row ∷ rows) path entries = option_or (row_fault row path entries) (rows_fault rows path entries)

-- a table: first a key that is not allowed, then each key that is
abbrev pub table_fault : List Row → List ℕ → Members → Option PlanErr
table_fault rows path entries = option_or (unknown_fault rows path entries) (rows_fault rows path entries)

-- a table with these rows, and what is asked of it once it is read
unfoldable pub table_with : List Row → (List ℕ → Members → Option PlanErr) → Check
table_with rows more path value =
    of_part (as_table value) path (λ entries. option_or (table_fault rows path entries) (more path entries))

-- a table of which nothing more is asked
unfoldable pub table : List Row → Check
table rows = table_with rows (λ path entries. None)
