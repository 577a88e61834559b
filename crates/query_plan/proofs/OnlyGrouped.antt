-- Aggregates stand only where there are groups, and fragments only there and where nothing is joined.
use Rattle.std.proofs.Common.{◌≡◌, ◌≤◌, ◌∙◌, ℕ, Bool, true, false, List, [], ◌∷◌, Option, Some, None, length, map, filter, codes, nat_cmp, Ordering, Less, Equal, Greater, refl, ap, subst, sym, arith}
use Rattle.std.specs.Prelude.{◌||◌, ◌&&◌, not, unwrap_or}
use Rattle.std.specs.Ordering.{match_ordering}
use Rattle.std.specs.Option.{option_map}
use Rattle.std.specs.Cmp.Lexicographic.{slice_cmp}
use Rattle.std.proofs.lemmas.Map.Lookups.{exact_bytes}
use Rattle.toml.specs.Data.{Data, Members, no_members, member, get_member}
use Rattle.query_plan.specs.declared.error.PlanErr.{PlanErr}
use Rattle.query_plan.specs.declared.error.PlanErr.TheVariants as err
use Rattle.query_plan.specs.Faults.{is_allowed, key_in, least_key, rows_fault, table_fault, unknown_fault}
use Rattle.query_plan.specs.Keys.{query_rows}
use Rattle.query_plan.specs.Presences.{has, lacks}
use Rattle.query_plan.specs.Values.{keys_in, list_at, number_of}
use Rattle.query_plan.proofs.Faultless.{ReadsList, and_left, and_right, none_first}
use Rattle.query_plan.proofs.Items.{length_view}

none_least : (keys : List (List ℕ)) (named : List ℕ → PlanErr) → option_map named (least_key keys) ≡ None → keys ≡ []
none_least [] named e = refl
none_least (key ∷ keys) named e = cc e

-- the first key of a table is not refused, and neither is one behind it
at_first : (allowed : List ℕ → Bool) (key other : List ℕ) (value here : Data) (rest : Members) (order : Ordering) (good : Bool) → slice_cmp nat_cmp key other ≡ order → allowed other ≡ good
    → (filter (λ k. not (allowed k)) (keys_in rest) ≡ [] → get_member key rest ≡ Some value → allowed key ≡ true)
    → filter (λ k. not (allowed k)) (other ∷ keys_in rest) ≡ [] → match_ordering order (get_member key rest) (Some here) (get_member key rest) ≡ Some value → allowed key ≡ true
at_first allowed key other value here rest order false is bad behind none found = let none_so : other ∷ filter (λ k. not (allowed k)) (keys_in rest) ≡ [] = rw bad at none in cc none_so
at_first allowed key other value here rest Less true is good behind none found = let none_so : filter (λ k. not (allowed k)) (keys_in rest) ≡ [] = rw good at none in behind none_so found
at_first allowed key other value here rest Equal true is good behind none found = subst (λ k. allowed k ≡ true) (sym (exact_bytes key other is)) good
at_first allowed key other value here rest Greater true is good behind none found = let none_so : filter (λ k. not (allowed k)) (keys_in rest) ≡ [] = rw good at none in behind none_so found

-- where no key is refused, one that stands in the table is allowed
allowed_there : (allowed : List ℕ → Bool) (key : List ℕ) (entries : Members) (value : Data) → filter (λ k. not (allowed k)) (keys_in entries) ≡ [] → get_member key entries ≡ Some value → allowed key ≡ true
allowed_there allowed key no_members value none found = cc found
allowed_there allowed key (member other here rest) value none found =
    at_first allowed key other value here rest (slice_cmp nat_cmp key other) (allowed other) refl refl (allowed_there allowed key rest value) none found

none_unknown : (path : List ℕ) (entries : Members) → unknown_fault query_rows path entries ≡ None → filter (λ k. not (is_allowed query_rows entries k)) (keys_in entries) ≡ []
unfolding unknown_fault
none_unknown path entries e = none_least (filter (λ k. not (is_allowed query_rows entries k)) (keys_in entries)) (λ key. err.UnknownKey (key_in path key)) e

no_aggs : {A : Type 0} (read : Data → A) (entries : Members) (found : Option Data) → get_member (codes "agg") entries ≡ found → filter (λ k. not (is_allowed query_rows entries k)) (keys_in entries) ≡ []
    → has (codes "group") entries ≡ false → list_at (codes "agg") entries read ≡ []
no_aggs read entries None is none without = rw is refl
no_aggs read entries (Some value) is none without =
    let allowed : (has (codes "group") entries || false) ≡ true = allowed_there (is_allowed query_rows entries) (codes "agg") entries value none is in
    let refused : (has (codes "group") entries || false) ≡ false = rw without refl in
    cc (sym allowed ∙ refused)

-- a list of groups that is empty isn't there
no_groups : {A : Type 0} (read : Data → A) (check : List ℕ → Data → Option PlanErr) (entries : Members) (found : Option Data) → get_member (codes "group") entries ≡ found
    → ReadsList read 1 8 check (codes "group") entries → list_at (codes "group") entries read ≡ [] → has (codes "group") entries ≡ false
no_groups read check entries None is reads none = rw is refl
no_groups read check entries (Some value) is reads none =
    let some : 1 ≤ length reads.items = reads.long (rw is refl) in
    let made : 0 ≡ length reads.items = ap length (sym none) ∙ ap length reads.are ∙ length_view read reads.items in
    absurd (omega (arith, some, made))

pub only_grouped : {A B : Type 0} (read : Data → A) (other : Data → B) (check : List ℕ → Data → Option PlanErr) (path : List ℕ) (entries : Members) → table_fault query_rows path entries ≡ None
    → ReadsList read 1 8 check (codes "group") entries → list_at (codes "group") entries read ≡ [] → list_at (codes "agg") entries other ≡ []
only_grouped read other check path entries e reads none =
    let known = none_unknown path entries (none_first (unknown_fault query_rows path entries) (rows_fault query_rows path entries) e) in
    no_aggs other entries (get_member (codes "agg") entries) refl known (no_groups read check entries (get_member (codes "group") entries) refl reads none)

pub no_items : {A B : Type 0} (see : A → B) (items : List A) → map see items ≡ [] → items ≡ []
no_items see [] e = refl
no_items see (x ∷ items) e = cc e

or_none : (a : Bool) → (a || false) ≡ true → a ≡ true
or_none true e = refl
or_none false e = e

pub fragments_alone : (path : List ℕ) (entries : Members) (found : Option Data) → get_member (codes "fragments") entries ≡ found → table_fault query_rows path entries ≡ None
    → 2 ≤ unwrap_or (option_map number_of found) 1 → (has (codes "group") entries ≡ true) × (lacks (codes "right") entries ≡ true)
fragments_alone path entries None is e more = absurd (omega (arith, more))
fragments_alone path entries (Some value) is e more =
    let known = none_unknown path entries (none_first (unknown_fault query_rows path entries) (rows_fault query_rows path entries) e) in
    let allowed : ((has (codes "group") entries && lacks (codes "right") entries) || false) ≡ true = allowed_there (is_allowed query_rows entries) (codes "fragments") entries value known is in
    let both = or_none (has (codes "group") entries && lacks (codes "right") entries) allowed in
    (and_left (has (codes "group") entries) (lacks (codes "right") entries) both, and_right (has (codes "group") entries) (lacks (codes "right") entries) both)
