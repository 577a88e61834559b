-- Columns that are found by their names.
use Rattle.std.proofs.Common.{◌≡◌, ◌∙◌, ◌<◌, ◌+◌, inl, inr, ℕ, zero, suc, Bool, true, false, cond, List, [], ◌∷◌, Option, Some, None, All, length, get_or, take, map, eqb, sym, refl, ap, arith}
use Rattle.std.specs.Prelude.{slice_get, bytes_eq, is_some}
use Rattle.std.specs.List.{IsDistinct, list_any}
use Rattle.std.proofs.lemmas.Bool.{cases_Bool, eqb-true, false≢true}
use Rattle.std.proofs.lemmas.List.{get_or-map, get_or-take, length-take-le}
use Rattle.std.proofs.lemmas.List.Elements.{All-from_get_or, All-map}
use Rattle.std.proofs.lemmas.List.Folds.{list_any_at}
use Rattle.std.proofs.lemmas.Map.Keys.{IsDistinct-from_apart}
use Rattle.std.proofs.lemmas.Slice.Eq.{bytes_eq-Decides}
use Rattle.row_codec.specs.declared.values.Column.{Column}
use Rattle.row_codec.specs.declared.values.Kind.{Kind}
use Rattle.row_codec.specs.declared.values.Kind.TheVariants.{Int, Text, Wide}
use Rattle.query_plan.specs.declared.error.PlanErr.{PlanErr}
use Rattle.query_plan.specs.declared.error.PlanErr.TheVariants as err
use Rattle.query_plan.specs.Columns.{is_named, named, named_from, place_named}
use Rattle.query_plan.specs.Faults.{first_from, member_in}
use Rattle.query_plan.specs.Names.{judged, named_fault, repeat_fault, unless_same, group_fault, if_among}
use Rattle.query_plan.specs.Resolved.{group_on}
use Rattle.query_plan.specs.Rules.{HasKind}
use Rattle.query_plan.proofs.Faultless.{clear_at}
use Rattle.query_plan.proofs.Items.{length_view}

-- the column of this name, with its kind, stands at this place
pub record IsAt (name : List ℕ) (columns : List Column) (place : ℕ) (kind : Kind) : Type 0 where
  pub column : Column
  pub there : slice_get columns place ≡ Some column
  pub name_is : column.name ≡ name
  pub kind_is : column.kind ≡ kind

-- the first column of this name was found at one of the places from here on
FoundFrom : List ℕ → ℕ → List Column → ℕ × Kind → Type 0
FoundFrom name place columns found = (i : ℕ) × (found.0 ≡ place + i) × IsAt name columns i found.1

found_step : (name : List ℕ) (place : ℕ) (column : Column) (columns : List Column) (found : ℕ × Kind) (test : Bool) → is_named name column ≡ test
    → ((later : ℕ × Kind) → named_from name (place + 1) columns ≡ Some later → FoundFrom name (place + 1) columns later)
    → cond test (Some (place, column.kind)) (named_from name (place + 1) columns) ≡ Some found → FoundFrom name place (column ∷ columns) found
unfolding FoundFrom
found_step name place column columns found true is more e =
    let same : found ≡ (place, column.kind) = cc e in
    let named_so : column.name ≡ name = (bytes_eq-Decides column.name name).0 is in
    rw same (0, omega arith, record { column = column; there = refl; name_is = named_so; kind_is = refl })
found_step name place column columns found false is more e =
    let below = more found e in
    let at = below.1 in
    (suc below.0, omega (arith, at), record { column = below.2.column; there = below.2.there; name_is = below.2.name_is; kind_is = below.2.kind_is })

found_from : (name : List ℕ) (place : ℕ) (columns : List Column) (found : ℕ × Kind) → named_from name place columns ≡ Some found → FoundFrom name place columns found
found_from name place [] found e = cc e
found_from name place (column ∷ columns) found e =
    found_step name place column columns found (is_named name column) refl (λ later is. found_from name (place + 1) columns later is) e

-- a name is that of a column, with whose kind nothing is wrong
pub record Known (name : List ℕ) (columns : List Column) (judge : Kind → Option PlanErr) : Type 0 where
  pub kind : Kind
  pub at : IsAt name columns (place_named name columns) kind
  pub clear : judge kind ≡ None

known_of : (name : List ℕ) (columns : List Column) (path : List ℕ) (judge : Kind → Option PlanErr) (found : Option (ℕ × Kind)) → named_from name 0 columns ≡ found
    → judged found path judge ≡ None → Known name columns judge
unfolding named FoundFrom
known_of name columns path judge None is e = cc e
known_of name columns path judge (Some found) is e =
    let it = found_from name 0 columns found is in
    let same : it.0 ≡ found.0 = sym (it.1 ∙ omega arith) in
    record { kind = found.1; at = rw (is, ← same) it.2; clear = e }

pub known : (name : List ℕ) (columns : List Column) (path : List ℕ) (judge : Kind → Option PlanErr) → named_fault name columns path judge ≡ None → Known name columns judge
unfolding named
known name columns path judge e = known_of name columns path judge (named_from name 0 columns) refl e

pub has_kind : {name : List ℕ} {columns : List Column} {place : ℕ} {kind : Kind} → IsAt name columns place kind → HasKind columns place kind
has_kind at = rw at.there at.kind_is

pub stands_below : (columns : List Column) (place : ℕ) (column : Column) → slice_get columns place ≡ Some column → place < length columns
stands_below [] place column e = cc e
stands_below (x ∷ columns) zero column e = omega arith
stands_below (x ∷ columns) (suc place) column e = let below = stands_below columns place column e in omega (arith, below)

-- kinds with which nothing is wrong are the same
pub same_kinds : (a b : Kind) (path : List ℕ) → unless_same a b path ≡ None → a ≡ b
same_kinds Int Int path e = refl
same_kinds Int Text path e = cc e
same_kinds Int Wide path e = cc e
same_kinds Text Int path e = cc e
same_kinds Text Text path e = refl
same_kinds Text Wide path e = cc e
same_kinds Wide Int path e = cc e
same_kinds Wide Text path e = cc e
same_kinds Wide Wide path e = refl

-- ---- names that stand once

-- a test that no element passes is failed by each
pub none_passes : {X : Type 0} (test : X → Bool) (items : List X) (i : ℕ) (d : X) → list_any test items ≡ false → i < length items → test (get_or items i d) ≡ false
none_passes test items i d none below =
    elim (cases_Bool (test (get_or items i d))) [
      | inl passes ↦ absurd (false≢true (sym none ∙ list_any_at test items i d below passes))
      | inr fails ↦ fails
    ]

-- no column has the name
unnamed_step : (name : List ℕ) (place : ℕ) (column : Column) (columns : List Column) (test : Bool) → is_named name column ≡ test
    → (named_from name (place + 1) columns ≡ None → (i : ℕ) (d : Column) → i < length columns → is_named name (get_or columns i d) ≡ false)
    → cond test (Some (place, column.kind)) (named_from name (place + 1) columns) ≡ None
    → (i : ℕ) (d : Column) → i < length (column ∷ columns) → is_named name (get_or (column ∷ columns) i d) ≡ false
unnamed_step name place column columns true is more e i d below = cc e
unnamed_step name place column columns false is more e zero d below = is
unnamed_step name place column columns false is more e (suc i) d below = more e i d (omega arith)

unnamed : (name : List ℕ) (place : ℕ) (columns : List Column) → named_from name place columns ≡ None → (i : ℕ) (d : Column) → i < length columns → is_named name (get_or columns i d) ≡ false
unnamed name place [] e i d below = absurd (omega arith)
unnamed name place (column ∷ columns) e i d below =
    unnamed_step name place column columns (is_named name column) refl (λ none. unnamed name (place + 1) columns none) e i d below

if_some : (test : Bool) (why : PlanErr) → cond test (Some why) None ≡ None → test ≡ false
if_some true why e = cc e
if_some false why e = refl

is_none : {A : Type 0} (x : Option A) → is_some x ≡ false → x ≡ None
is_none None e = refl
is_none (Some y) e = cc e

-- columns of which none repeats an earlier name
pub names_once : (columns : List Column) (path : List ℕ) → first_from (repeat_fault columns path) 0 columns ≡ None → IsDistinct bytes_eq (map (λ (column : Column). column.name) columns)
unfolding named
names_once columns path e = IsDistinct-from_apart bytes_eq (map (λ (column : Column). column.name) columns) (λ i j d before below.
    let size = length_view (λ (column : Column). column.name) columns in
    let none : Column = record { name = []; kind = Int } in
    let last : j < length columns = omega (arith, size, below) in
    let fault = clear_at (repeat_fault columns path) columns e j none last in
    let new : named_from (get_or columns j none).name 0 (take j columns) ≡ None =
    is_none (named_from (get_or columns j none).name 0 (take j columns)) (if_some (is_some (named_from (get_or columns j none).name 0 (take j columns))) (err.Repeated (member_in path j)) fault) in
    let front = length-take-le j columns (omega (arith, last)) in
    let apart = unnamed (get_or columns j none).name 0 (take j columns) new i none (omega (arith, front, before)) in
    let first = get_or-map (λ (column : Column). column.name) columns i none d (omega (arith, before, last)) in
    let second = get_or-map (λ (column : Column). column.name) columns j none d last in
    let same = get_or-take j columns i none before in
    rw (first, second, ← same) apart)

-- ---- columns to group by

-- one place has one name
same_name : {a b : List ℕ} {columns : List Column} {p q : ℕ} {k l : Kind} → IsAt a columns p k → IsAt b columns q l → p ≡ q → a ≡ b
same_name {columns = columns} at other places =
    let both : Some at.column ≡ Some other.column = sym at.there ∙ (ap (slice_get columns) places ∙ other.there) in
    let one : at.column ≡ other.column = cc both in
    sym at.name_is ∙ (ap (λ (column : Column). column.name) one ∙ other.name_is)

-- the columns of a group are known, and none is among the earlier ones
pub group_known : (columns : List Column) (names : List (List ℕ)) (path : List ℕ) → first_from (group_fault columns names path) 0 names ≡ None
    → (j : ℕ) → j < length names → Known (get_or names j []) columns (λ kind. if_among (take j names) (get_or names j []) (member_in path j))
group_known columns names path e j below =
    known (get_or names j []) columns (member_in path j) (λ kind. if_among (take j names) (get_or names j []) (member_in path j)) (clear_at (group_fault columns names path) names e j [] below)

pub groups_once : (columns : List Column) (names : List (List ℕ)) (path : List ℕ) → first_from (group_fault columns names path) 0 names ≡ None
    → IsDistinct eqb (map (group_on columns) names)
groups_once columns names path e = IsDistinct-from_apart eqb (map (group_on columns) names) (λ i j d before below.
    let size = length_view (group_on columns) names in
    let last : j < length names = omega (arith, size, below) in
    let early : i < length names = omega (arith, before, last) in
    let one = group_known columns names path e i early in
    let other = group_known columns names path e j last in
    let new : list_any (λ (name : List ℕ). bytes_eq name (get_or names j [])) (take j names) ≡ false =
    if_some (list_any (λ (name : List ℕ). bytes_eq name (get_or names j [])) (take j names)) (err.Repeated (member_in path j)) other.clear in
    let front = length-take-le j names (omega (arith, last)) in
    let apart = none_passes (λ (name : List ℕ). bytes_eq name (get_or names j [])) (take j names) i [] new (omega (arith, front, before)) in
    let same = get_or-take j names i [] before in
    let differ : bytes_eq (get_or names i []) (get_or names j []) ≡ false = rw same at apart in
    let first = get_or-map (group_on columns) names i [] d early in
    let second = get_or-map (group_on columns) names j [] d last in
    rw (first, second) (elim (cases_Bool (eqb (group_on columns (get_or names i [])) (group_on columns (get_or names j [])))) [
      | inl is ↦
          let names_are : get_or names i [] ≡ get_or names j [] = same_name one.at other.at (eqb-true (group_on columns (get_or names i [])) (group_on columns (get_or names j [])) is) in
          absurd (false≢true (sym differ ∙ (bytes_eq-Decides (get_or names i []) (get_or names j [])).1 names_are))
      | inr is ↦ is
    ]))

pub groups_inside : (columns : List Column) (names : List (List ℕ)) (path : List ℕ) → first_from (group_fault columns names path) 0 names ≡ None
    → All (λ place. place < length columns) (map (group_on columns) names)
groups_inside columns names path e = All-map (λ place. place < length columns) (group_on columns) names (All-from_get_or (λ name. group_on columns name < length columns) names [] (λ j below.
    let it = group_known columns names path e j below in
    stands_below columns (group_on columns (get_or names j [])) it.at.column it.at.there))
