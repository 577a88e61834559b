-- A plan's outputs are apart, since none is an earlier one.
use Rattle.std.proofs.Common.{◌≡◌, ◌≢◌, ◌<◌, ◌+◌, ◌||◌, ℕ, zero, suc, Bool, true, false, List, [], ◌∷◌, Option, Some, None, Ok, Err, length, take, refl, sym, subst, arith}
use Rattle.std.specs.List.{list_any, slice_get}
use Rattle.std.specs.Option.{option_or}
use Rattle.std.specs.Prelude.{codes, if◌then◌else◌, nat_le}
use Rattle.std.specs.Str.{bytes_eq}
use Rattle.std.proofs.lemmas.Option.{none-some, same_Some}
use Rattle.std.proofs.lemmas.Slice.Eq.{bytes_eq-Decides}
use Rattle.toml.specs.Data.{Members}
use Rattle.query_plan.specs.Faults.{first_from, table_fault}
use Rattle.query_plan.specs.Keys.{top_rows}
use Rattle.query_plan.specs.PlanOf.{document_of, output_fault, plan_fault, plan_in, plan_of, plan_of_table, plan_or, quota_fault, trace_fault, writes}
use Rattle.query_plan.specs.declared.error.PlanErr.{PlanErr}
use Rattle.query_plan.specs.declared.error.PlanErr.TheVariants.{Limit}
use Rattle.query_plan.specs.declared.plan.Plan.{Plan}
use Rattle.query_plan.specs.declared.plan.Query.{Query}
use Rattle.spill_top.specs.Running.{AreApart}

bytes_same : (name : List ℕ) → bytes_eq name name ≡ true
bytes_same name = (bytes_eq-Decides name name).1 refl

same-place : (from : ℕ) → from ≡ from + 0
same-place from = omega arith

next-place : (from k : ℕ) → from + 1 + k ≡ from + suc k
next-place from k = omega arith

from-zero : (j : ℕ) → 0 + j ≡ j
from-zero j = omega arith

neither : (i j : ℕ) → (i < j → ⊥) → (j < i → ⊥) → i ≡ j
neither i j less more = omega (arith, less, more)

or-right : (a b : Bool) → b ≡ true → (a || b) ≡ true
or-right true b is = refl
or-right false b is = is

none-first : {A : Type 0} (a b : Option A) → option_or a b ≡ None → a ≡ None
none-first None b is = refl
none-first (Some x) b is = cc

none-then : {A : Type 0} (a b : Option A) → option_or a b ≡ None → b ≡ None
none-then None b is = is
none-then (Some x) b is = cc

clear-from : {A : Type 0} (judge : ℕ → A → Option PlanErr) (from : ℕ) (items : List A) → first_from judge from items ≡ None → (k : ℕ) (x : A) → slice_get items k ≡ Some x → judge (from + k) x ≡ None
clear-from judge from [] is k x at = absurd (none-some x at)
clear-from judge from (y ∷ ys) is zero x at =
    let here : judge from y ≡ None = none-first (judge from y) (first_from judge (from + 1) ys) is in
    subst (λ z. judge (from + 0) z ≡ None) (same_Some y x at) (subst (λ (n : ℕ). judge n y ≡ None) (same-place from) here)
clear-from judge from (y ∷ ys) is (suc k) x at =
    subst (λ (n : ℕ). judge n x ≡ None) (next-place from k) (clear-from judge (from + 1) ys (none-then (judge from y) (first_from judge (from + 1) ys) is) k x at)

any-before : {A : Type 0} (test : A → Bool) (items : List A) (i j : ℕ) (x : A) → slice_get items i ≡ Some x → i < j → test x ≡ true → list_any test (take j items) ≡ true
any-before test [] i j x at less is = absurd (none-some x at)
any-before test (y ∷ ys) i zero x at less is = absurd (omega (arith, less))
any-before test (y ∷ ys) zero (suc j) x at less is =
    let same : y ≡ x = same_Some y x at in
    let here : test y ≡ true = subst (λ z. test z ≡ true) (sym same) is in
    rw here refl
any-before test (y ∷ ys) (suc i) (suc j) x at less is = or-right (test y) (list_any test (take j ys)) (any-before test ys i j x at (omega (arith, less)) is)

faulty : (queries : List Query) (place : ℕ) (query : Query) → list_any (writes query.output) (take place queries) ≡ true → output_fault queries place query ≡ None → ⊥
faulty queries place query earlier clear = let never : output_fault queries place query ≢ None = rw earlier (λ none. cc) in never clear

later-differs : (queries : List Query) → first_from (output_fault queries) 0 queries ≡ None → (i j : ℕ) (a b : Query) → slice_get queries i ≡ Some a → slice_get queries j ≡ Some b → a.output ≡ b.output → i < j → ⊥
later-differs queries clear i j a b at_a at_b same less =
    let equal : writes b.output a ≡ true = subst (λ (name : List ℕ). bytes_eq a.output name ≡ true) same (bytes_same a.output) in
    faulty queries j b (any-before (writes b.output) queries i j a at_a less equal) (subst (λ (n : ℕ). output_fault queries n b ≡ None) (from-zero j) (clear-from (output_fault queries) 0 queries clear j b at_b))

apart-of : (queries : List Query) → first_from (output_fault queries) 0 queries ≡ None → AreApart queries
apart-of queries clear = λ i j a b at_a at_b same. neither i j (later-differs queries clear i j a b at_a at_b same) (later-differs queries clear j i b a at_b at_a (sym same))

of-plan : (slots : ℕ) (entries : Members) (fault : Option PlanErr) (plan : Plan) → plan_fault slots entries ≡ fault → plan_or fault (plan_in entries) ≡ Ok plan → AreApart plan.queries
of-plan slots entries (Some fault) plan is made = cc
of-plan slots entries None plan is made =
    let queries = (plan_in entries).queries in
    let behind = option_or (trace_fault queries (plan_in entries).trace) (quota_fault slots queries) in
    let rest = none-then (table_fault top_rows [] entries) (option_or (first_from (output_fault queries) 0 queries) behind) is in
    let clear = none-first (first_from (output_fault queries) 0 queries) behind rest in
    let same : plan_in entries ≡ plan = cc in
    subst (λ (p : Plan). AreApart p.queries) same (apart-of queries clear)

of-table : (slots : ℕ) (table : Option Members) (plan : Plan) → plan_of_table slots table ≡ Ok plan → AreApart plan.queries
of-table slots None plan is = cc
of-table slots (Some entries) plan is = of-plan slots entries (plan_fault slots entries) plan refl is

of-document : (short : Bool) (slots : ℕ) (table : Option Members) (error : PlanErr) (plan : Plan) → (if short then plan_of_table slots table else Err error) ≡ Ok plan → AreApart plan.queries
of-document true slots table error plan is = of-table slots table plan is
of-document false slots table error plan is = cc

pub apart_in_plan : (bytes : List ℕ) (slots : ℕ) (plan : Plan) → plan_of bytes slots ≡ Ok plan → AreApart plan.queries
apart_in_plan bytes slots plan is = of-document (nat_le (length bytes) 1048576) slots (document_of bytes) (Limit (codes "plan")) plan is
