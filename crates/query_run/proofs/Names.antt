-- The names and the kinds of a joined row.
use Rattle.std.proofs.Common.{◌≡◌, ◌∙◌, ◌++◌, [], ◌∷◌, codes, ℕ, List, Some, false, map, ap, ap₂, refl}
use Rattle.std.proofs.lemmas.List.{map-append}
use Rattle.row_codec.specs.declared.values.Column.{Column}
use Rattle.row_codec.specs.declared.values.Kind.{Kind}
use Rattle.row_codec.specs.declared.values.Value.{Value}
use Rattle.row_codec.specs.declared.values.Value.TheVariants.{Text}
use Rattle.row_codec.specs.Row.{kind_of, kinds_of}
use Rattle.query_plan.specs.Columns.{behind}
use Rattle.query_plan.specs.Sizes.{groups}
use Rattle.query_plan.specs.declared.plan.Query.{Query}
use Rattle.query_plan.specs.declared.plan.SidePlan.{SidePlan}
use Rattle.query_run.specs.Answer.{header_of}
use Rattle.query_run.specs.Plans.{kinds_of_columns, row_columns}

abbrev pub name_of : Column → Value
name_of column = Text column.name

-- those of both sides, each behind its own front
pub joined_names : (plan : Query) (right : SidePlan) → plan.right ≡ Some right → groups plan ≡ false
    → map name_of (behind (codes "left.") plan.left.columns ++ behind (codes "right.") right.columns) ≡ header_of plan
joined_names plan right planned alone = rw (alone, planned) refl

-- a front changes no kind
kinds_behind : (front : List ℕ) (columns : List Column) → kinds_of_columns (behind front columns) ≡ kinds_of_columns columns
kinds_behind front [] = refl
kinds_behind front (c ∷ columns) = ap (λ (ks : List Kind). c.kind ∷ ks) (kinds_behind front columns)

-- the kinds of a joined row are those of both sides
pub joined_kinds : (plan : Query) (right : SidePlan) → plan.right ≡ Some right → kinds_of_columns (row_columns plan) ≡ kinds_of_columns plan.left.columns ++ kinds_of_columns right.columns
joined_kinds plan right planned =
    rw planned
    (map-append (λ (c : Column). c.kind) (behind (codes "left.") plan.left.columns) (behind (codes "right.") right.columns)
    ∙ ap₂ (λ (ls rs : List Kind). ls ++ rs) (kinds_behind (codes "left.") plan.left.columns) (kinds_behind (codes "right.") right.columns))

-- so it is of a left and a right row
pub both_kinds : (left right : List Value) (ls rs : List Kind) → kinds_of left ≡ ls → kinds_of right ≡ rs → kinds_of (left ++ right) ≡ ls ++ rs
both_kinds left right ls rs lefts rights = map-append kind_of left right ∙ ap₂ (λ (xs ys : List Kind). xs ++ ys) lefts rights
