-- What it tells of the parts of a document that nothing is wrong with them.
use Rattle.std.proofs.Common.{◌≡◌, ◌≤◌, ◌<◌, ◌+◌, ◌∙◌, ◌++◌, ap, ℕ, ℤ, zero, suc, Bool, true, false, List, [], ◌∷◌, Option, Some, None, IsSome, All, length, get_or, map, option_map, pos, negsuc, subst, refl, arith}
use Rattle.std.specs.Prelude.{◌&&◌, nat_le, unwrap_or}
use Rattle.std.specs.Option.{option_or}
use Rattle.std.proofs.lemmas.Bool.{leb-true}
use Rattle.std.specs.List.{AllByRecursion}
use Rattle.toml.specs.Data.{Data, Members, no_members, get_member, as_integer, as_table}
use Rattle.query_plan.specs.declared.error.PlanErr.{PlanErr}
use Rattle.query_plan.specs.declared.limit.Limit.{Limit}
use Rattle.query_plan.specs.declared.limit.Limit.TheVariants.{Within}
use Rattle.query_plan.specs.Words.{fits, keeps}
use Rattle.query_plan.specs.Values.{as_list, list_at, number_at, number_of, table_of, whole}
use Rattle.query_plan.specs.Faults.{Check, Row, first_from, found_fault, key_fault, key_in, list_of, member_in, number, of_part, row_fault, rows_fault, table_fault, table_with, unless_kept, unknown_fault}

-- ---- faults one after the other

pub none_first : {A : Type 0} (a b : Option A) → option_or a b ≡ None → a ≡ None
none_first None b e = refl
none_first (Some x) b e = cc e

pub none_then : {A : Type 0} (a b : Option A) → option_or a b ≡ None → b ≡ None
none_then None b e = e
none_then (Some x) b e = cc e

-- of members with no first fault each has none
each_clear : {A : Type 0} (judge : ℕ → A → Option PlanErr) (place : ℕ) (items : List A) → first_from judge place items ≡ None
    → (j : ℕ) (d : A) → j < length items → judge (place + j) (get_or items j d) ≡ None
each_clear judge place [] e j d below = absurd (omega arith)
each_clear judge place (x ∷ items) e zero d below =
    let here : place + 0 ≡ place = omega arith in
    rw here (none_first (judge place x) (first_from judge (place + 1) items) e)
each_clear judge place (x ∷ items) e (suc j) d below =
    let there : place + suc j ≡ place + 1 + j = omega arith in
    rw there (each_clear judge (place + 1) items (none_then (judge place x) (first_from judge (place + 1) items) e) j d (omega arith))

pub clear_at : {A : Type 0} (judge : ℕ → A → Option PlanErr) (items : List A) → first_from judge 0 items ≡ None
    → (j : ℕ) (d : A) → j < length items → judge j (get_or items j d) ≡ None
clear_at judge items e j d below =
    let here : 0 + j ≡ j = omega arith in
    subst (λ n. judge n (get_or items j d) ≡ None) here (each_clear judge 0 items e j d below)

-- ---- numbers

pub is_kept : (test : Bool) (path : List ℕ) → unless_kept test path ≡ None → test ≡ true
is_kept true path e = refl
is_kept false path e = cc e

pub and_left : (a b : Bool) → (a && b) ≡ true → a ≡ true
and_left true b e = refl
and_left false b e = cc e

pub and_right : (a b : Bool) → (a && b) ≡ true → b ≡ true
and_right true b e = e
and_right false b e = cc e

pub within : (low high n : ℕ) → (nat_le low n && nat_le n high) ≡ true → (low ≤ n) × (n ≤ high)
within low high n e =
    (leb-true low n (and_left (nat_le low n) (nat_le n high) e), leb-true n high (and_right (nat_le low n) (nat_le n high) e))

part_kept : (limit : Limit) (path : List ℕ) (part : Option ℤ) → of_part part path (λ z. unless_kept (keeps limit z) path) ≡ None
    → fits limit (whole (unwrap_or part (pos 0))) ≡ true
part_kept limit path None e = cc e
part_kept limit path (Some (pos n)) e = is_kept (fits limit n) path e
part_kept limit path (Some (negsuc n)) e = cc e

-- ---- keys

-- a value stands under the key, and the check finds nothing wrong with it
pub record Reads (check : Check) (key : List ℕ) (entries : Members) : Type 0 where
  pub value : Data
  pub path : List ℕ
  pub there : get_member key entries ≡ Some value
  pub clear : check path value ≡ None

needed_found : (check : Check) (key path : List ℕ) (entries : Members) (found : Option Data) → get_member key entries ≡ found
    → found_fault true check path found ≡ None → Reads check key entries
needed_found check key path entries None is e = cc e
needed_found check key path entries (Some value) is e = record { value = value; path = path; there = is; clear = e }

pub needed_reads : (check : Check) (key path : List ℕ) (entries : Members) → key_fault true key check path entries ≡ None → Reads check key entries
unfolding key_fault
needed_reads check key path entries e = needed_found check key (key_in path key) entries (get_member key entries) refl e

pub number_kept : (limit : Limit) (key path : List ℕ) (entries : Members) → key_fault true key (number limit) path entries ≡ None
    → fits limit (number_at key entries) ≡ true
unfolding number
number_kept limit key path entries e =
    let found = needed_reads (number limit) key path entries e in
    rw found.there (part_kept limit found.path (as_integer found.value) found.clear)

-- a number that may be missing, and is one then
pub one_or_kept : (must : Bool) (high : ℕ) (path : List ℕ) (found : Option Data) → 1 ≤ high → found_fault must (number (Within 1 high)) path found ≡ None
    → (1 ≤ unwrap_or (option_map number_of found) 1) × (unwrap_or (option_map number_of found) 1 ≤ high)
unfolding number
one_or_kept must high path None some e = (omega arith, some)
one_or_kept must high path (Some value) some e = within 1 high (number_of value) (part_kept (Within 1 high) path (as_integer value) e)

-- ---- lists

-- a list of these members was read under a key: its length keeps the limits, and nothing is wrong with a member
pub record ReadsList {A : Type 0} (read : Data → A) (low high : ℕ) (check : Check) (key : List ℕ) (entries : Members) : Type 0 where
  pub items : List Data
  pub are : list_at key entries read ≡ map read items
  pub short : length items ≤ high
  pub long : IsSome (get_member key entries) → low ≤ length items
  pub clear : All (λ item. (path : List ℕ) × (check path item ≡ None)) items

list_found : {A : Type 0} (read : Data → A) (low high : ℕ) (check : Check) (key path : List ℕ) (entries : Members) (value : Data) (items : Option (List Data))
    → get_member key entries ≡ Some value → as_list value ≡ items
    → of_part items path (λ all. option_or (unless_kept (nat_le low (length all) && nat_le (length all) high) path) (first_from (λ place item. check (member_in path place) item) 0 all)) ≡ None
    → ReadsList read low high check key entries
list_found read low high check key path entries value None is list e = cc e
list_found read low high check key path entries value (Some items) is list e =
    let kept = none_first (unless_kept (nat_le low (length items) && nat_le (length items) high) path) (first_from (λ place item. check (member_in path place) item) 0 items) e in
    let clear = none_then (unless_kept (nat_le low (length items) && nat_le (length items) high) path) (first_from (λ place item. check (member_in path place) item) 0 items) e in
    let size = within low high (length items) (is_kept (nat_le low (length items) && nat_le (length items) high) path kept) in
    record {
      items = items;
      are = rw (is, list) refl;
      short = size.1;
      long = λ some. size.0;
      clear = λ j d below. (member_in path j, clear_at (λ place item. check (member_in path place) item) items clear j d below);
    }

list_or_none : {A : Type 0} (read : Data → A) (low high : ℕ) (check : Check) (must : Bool) (key path : List ℕ) (entries : Members) (found : Option Data)
    → get_member key entries ≡ found → found_fault must (list_of low high check) path found ≡ None → ReadsList read low high check key entries
unfolding list_of
list_or_none read low high check must key path entries None is e =
    record { items = []; are = rw is refl; short = omega arith; long = rw is (λ some. cc some); clear = λ j d below. absurd (omega (arith, below)) }
list_or_none read low high check must key path entries (Some value) is e =
    list_found read low high check key path entries value (as_list value) is refl e

pub list_reads : {A : Type 0} (read : Data → A) (low high : ℕ) (check : Check) (must : Bool) (key path : List ℕ) (entries : Members)
    → key_fault must key (list_of low high check) path entries ≡ None → ReadsList read low high check key entries
unfolding key_fault
list_reads read low high check must key path entries e =
    list_or_none read low high check must key (key_in path key) entries (get_member key entries) refl e

-- ---- tables

table_part : (rows : List Row) (more : List ℕ → Members → Option PlanErr) (path : List ℕ) (part : Option Members)
    → of_part part path (λ entries. option_or (table_fault rows path entries) (more path entries)) ≡ None
    → (table_fault rows path (unwrap_or part no_members) ≡ None) × (more path (unwrap_or part no_members) ≡ None)
table_part rows more path None e = cc e
table_part rows more path (Some entries) e =
    (none_first (table_fault rows path entries) (more path entries) e, none_then (table_fault rows path entries) (more path entries) e)

pub table_clear : (rows : List Row) (more : List ℕ → Members → Option PlanErr) (path : List ℕ) (value : Data) → table_with rows more path value ≡ None
    → (table_fault rows path (table_of value) ≡ None) × (more path (table_of value) ≡ None)
unfolding table_with
table_clear rows more path value e = table_part rows more path (as_table value) e

or_more : {A : Type 0} (a b c : Option A) → option_or a (option_or b c) ≡ option_or (option_or a b) c
or_more None b c = refl
or_more (Some x) b c = refl

-- the first fault of rows is that of the first of them, or else that of the others
pub rows_split : (some more : List Row) (path : List ℕ) (entries : Members) → rows_fault (some ++ more) path entries ≡ option_or (rows_fault some path entries) (rows_fault more path entries)
rows_split [] more path entries = refl
rows_split (row ∷ rows) more path entries =
    ap (option_or (row_fault row path entries)) (rows_split rows more path entries) ∙ or_more (row_fault row path entries) (rows_fault rows path entries) (rows_fault more path entries)

each_row : (rows : List Row) (path : List ℕ) (entries : Members) → rows_fault rows path entries ≡ None → AllByRecursion (λ (row : Row). row_fault row path entries ≡ None) rows
each_row [] path entries e = tt
each_row (row ∷ rows) path entries e =
    (none_first (row_fault row path entries) (rows_fault rows path entries) e, each_row rows path entries (none_then (row_fault row path entries) (rows_fault rows path entries) e))

-- of a table with which nothing is wrong, nothing is wrong with a row
pub rows_clear : (rows : List Row) (path : List ℕ) (entries : Members) → table_fault rows path entries ≡ None → AllByRecursion (λ (row : Row). row_fault row path entries ≡ None) rows
rows_clear rows path entries e = each_row rows path entries (none_then (unknown_fault rows path entries) (rows_fault rows path entries) e)
