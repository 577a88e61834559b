-- Which rows pass a list of predicates.
use Rattle.std.specs.Prelude.{◌≡◌, not, Bool, false, List, Option, Some, None, IsSomeAnd, slice_get}
use Rattle.std.specs.declared.cmp.Ordering.{Ordering}
use Rattle.std.specs.Ordering.{nat_cmp, int_cmp, is_eq, is_lt, is_gt}
use Rattle.std.specs.Cmp.Lexicographic.{slice_cmp}
use Rattle.std.specs.List.{list_all}
use Rattle.row_codec.specs.declared.values.Value.{Value}
use Rattle.row_codec.specs.declared.values.Value.TheVariants.{Int, Text, Wide}
use Rattle.row_codec.specs.Row.{kind_of}
use Rattle.scan_filter.specs.declared.pred.Cmp.{Cmp}
use Rattle.scan_filter.specs.declared.pred.Cmp.TheVariants.{Eq, Ne, Lt, Le, Gt, Ge}
use Rattle.scan_filter.specs.declared.pred.Pred.{Pred}

-- how two values of one kind stand: numbers as numbers, texts by their unsigned bytes, where a prefix comes first
abbrev pub value_order : Value → Value → Option Ordering
value_order (Int a) (Int b) = Some (int_cmp a b)
value_order (Text a) (Text b) = Some (slice_cmp nat_cmp a b)
value_order (Wide a) (Wide b) = Some (int_cmp a b)
value_order (Int a) (Text b) = None
value_order (Int a) (Wide b) = None
value_order (Text a) (Int b) = None
value_order (Text a) (Wide b) = None
value_order (Wide a) (Int b) = None
value_order (Wide a) (Text b) = None

-- whether the comparison holds of a left side that stands so to the right one
abbrev pub holds_of : Cmp → Ordering → Bool
holds_of Eq order = is_eq order
holds_of Ne order = not (is_eq order)
holds_of Lt order = is_lt order
holds_of Le order = not (is_gt order)
holds_of Gt order = is_gt order
holds_of Ge order = not (is_lt order)

-- whether it holds of two values, if they have an order
abbrev pub holds_if : Cmp → Option Ordering → Bool
holds_if op None = false
holds_if op (Some order) = holds_of op order

-- whether it holds between the row's value, if there is one, and the predicate's
abbrev pub compares : Pred → Option Value → Bool
compares pred None = false
compares pred (Some value) = holds_if pred.op (value_order value pred.value)

-- whether the row's value in the predicate's column, on the left, compares so with the predicate's value
abbrev pub holds : List Value → Pred → Bool
holds row pred = compares pred (slice_get row pred.column)

-- whether all predicates hold
abbrev pub passes : List Pred → List Value → Bool
passes preds row = list_all (holds row) preds

-- the predicate's column is in the row, and its value has the kind of the row's value there
abbrev pub FitsRow : List Value → Pred → Type 0
FitsRow row pred = IsSomeAnd (slice_get row pred.column) (λ value. kind_of value ≡ kind_of pred.value)
