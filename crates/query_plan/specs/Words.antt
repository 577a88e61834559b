-- What single texts and numbers of a document mean.
use Rattle.std.specs.Prelude.{codes, ℕ, ◌-◌, ◌*◌, ℤ, pos, negsuc, Bool, false, ◌&&◌, nat_le, nat_eq, List, length, take, if◌then◌else◌, Option, Some, None, bytes_eq}
use Rattle.std.specs.Option.{option_or}
use Rattle.std.specs.Int.{is_power_of_two}
use Rattle.std.specs.List.{ends_with}
use Rattle.row_codec.specs.declared.values.Kind.{Kind}
use Rattle.row_codec.specs.declared.values.Kind.TheVariants as kind
use Rattle.row_codec.specs.declared.values.Column.{Column}
use Rattle.scan_filter.specs.declared.pred.Cmp.{Cmp}
use Rattle.scan_filter.specs.declared.pred.Cmp.TheVariants.{Eq, Ne, Lt, Le, Gt, Ge}
use Rattle.query_plan.specs.declared.draft.AggDraft.{AggDraft}
use Rattle.query_plan.specs.declared.draft.AggDraft.TheVariants as agg
use Rattle.query_plan.specs.declared.draft.AggWord.{AggWord}
use Rattle.query_plan.specs.declared.draft.AggWord.TheVariants as word
use Rattle.query_plan.specs.declared.limit.Limit.{Limit}
use Rattle.query_plan.specs.declared.limit.Limit.TheVariants.{Within, Power, Blocks}

-- the number keeps the limit
abbrev pub fits : Limit → ℕ → Bool
fits (Within low high) n = nat_le low n && nat_le n high
fits (Power low high) n = (nat_le low n && nat_le n high) && is_power_of_two n
fits (Blocks low high block_len) n = (nat_le low n && nat_le n high) && nat_le (n * block_len) 2147483648

-- a negative number keeps none
abbrev pub keeps : Limit → ℤ → Bool
keeps limit (pos n) = fits limit n
keeps limit (negsuc n) = false

-- the greatest number that a limit lets through
abbrev pub greatest : Limit → ℕ
greatest (Within low high) = high
greatest (Power low high) = high
greatest (Blocks low high block_len) = high

-- a comparison by its sign
abbrev pub cmp_of : List ℕ → Option Cmp
cmp_of text =
    if bytes_eq text (codes "=") then Some Eq
    else if bytes_eq text (codes "!=") then Some Ne
    else if bytes_eq text (codes "<") then Some Lt
    else if bytes_eq text (codes "<=") then Some Le
    else if bytes_eq text (codes ">") then Some Gt
    else if bytes_eq text (codes ">=") then Some Ge
    else None

-- an aggregate by its name
abbrev pub agg_of : List ℕ → Option AggWord
agg_of text =
    if bytes_eq text (codes "count") then Some word.Count
    else if bytes_eq text (codes "sum") then Some word.Sum
    else if bytes_eq text (codes "min") then Some word.Min
    else if bytes_eq text (codes "max") then Some word.Max
    else None

-- an aggregate of a column; a count is of none
abbrev pub agg_over : AggWord → List ℕ → AggDraft
agg_over word.Count column = agg.Count
agg_over word.Sum column = agg.Sum column
agg_over word.Min column = agg.Min column
agg_over word.Max column = agg.Max column

-- a column of this kind, where the text ends with this behind its name
abbrev pub column_as : Kind → List ℕ → List ℕ → Option Column
column_as kind ending text =
    if ends_with nat_eq text ending
    then Some (record { name = take (length text - length ending) text; kind = kind }) else None

-- a column's name and its kind behind the last colon: no kind has a colon in it
abbrev pub column_of : List ℕ → Option Column
column_of text = option_or (column_as kind.Int (codes ":int") text) (column_as kind.Text (codes ":text") text)
