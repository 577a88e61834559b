-- The lines of a run's report, one of which may find no memory.
use Rattle.std.proofs.Common.{◌≡◌, ◌≢◌, ◌∙◌, ◌≤◌, ◌+◌, ◌++◌, ◌&&◌, ◌||◌, inl, inr, not, ℕ, zero, suc, Bool, true, false, List, [], ◌∷◌, Option, Some, Result, Ok, Err, OnErr, OnOk, is_err, drop, length, refl, sym, subst, ap, arith}
use Rattle.std.specs.List.{list_all, slice_get}
use Rattle.std.proofs.lemmas.Bool.{false≢true}
use Rattle.std.proofs.lemmas.List.{append-nil, append_assoc, length-append}
use Rattle.spill_top.proofs.Places.{drop_here}
use Rattle.std.specs.Io.KnownBytes.{Appends}
use Rattle.csv_edge.specs.Written.{AppendsFront}
use Rattle.outside.specs.Counts.{Rose}
use Rattle.outside.specs.Sinks.{EndsAt}
use Rattle.outside.specs.Faults.{Faults, FailsAt, NoneFailed}
use Rattle.query_plan.specs.declared.plan.Query.{Query}
use Rattle.spill_top.specs.declared.ending.Ending.{Ending}
use Rattle.spill_top.specs.Ran.{IsRunStatus, Reported, Telling, first_status, if_made, line_of_query, lines_from}
use Rattle.spill_top.specs.Report.{Tells}

drop-none : {X : Type 0} → (xs : List X) (k : ℕ) → length xs ≤ k → drop k xs ≡ []
drop-none [] zero long = refl
drop-none [] (suc k) long = refl
drop-none (y ∷ ys) zero long = absurd (omega (arith, long))
drop-none (y ∷ ys) (suc k) long = drop-none ys k (omega (arith, long))

all-more : (made : List Bool) (one : Bool) → list_all (λ is. is) (made ++ one ∷ []) ≡ (list_all (λ is. is) made && one)
all-more [] true = refl
all-more [] false = refl
all-more (true ∷ made) one = all-more made one
all-more (false ∷ made) one = refl

-- the lines of the queries before a place
pub record LinesTo (queries : List Query) (ends : List Ending) (place : ℕ) (text : List ℕ) (missing : Bool) : Type 0 where
  pub made : List Bool
  pub each : length made ≡ place
  pub lines : (rest : List Bool) → text ++ lines_from place (drop place queries) (drop place ends) rest ≡ lines_from 0 queries ends (made ++ rest)
  pub whole : list_all (λ is. is) made ≡ not missing

pub lines_begin : (queries : List Query) (ends : List Ending) → LinesTo queries ends 0 [] false
lines_begin queries ends = record { made = []; each = refl; lines = λ rest. refl; whole = refl }

one-more : (queries : List Query) (ends : List Ending) (place : ℕ) (query : Query) (ending : Ending) (made : Bool) (rest : List Bool) → slice_get queries place ≡ Some query → slice_get ends place ≡ Some ending
    → lines_from place (drop place queries) (drop place ends) (made ∷ rest) ≡ if_made made (line_of_query place query ending) ++ lines_from (place + 1) (drop (place + 1) queries) (drop (place + 1) ends) rest
one-more queries ends place query ending made rest at_query at =
    rw (drop_here queries place query at_query, drop_here ends place ending at) refl

and-made : (all missing one missing_now : Bool) → all ≡ not missing → missing_now ≡ not (not missing && one) → (all && one) ≡ not missing_now
and-made true true one missing_now is now = absurd (false≢true (sym is))
and-made true false true missing_now is now = rw now refl
and-made true false false missing_now is now = rw now refl
and-made false true one missing_now is now = rw now refl
and-made false false one missing_now is now = absurd (false≢true is)

pub lines_next : (queries : List Query) (ends : List Ending) (place : ℕ) (text text_now : List ℕ) (missing missing_now made : Bool) (query : Query) (ending : Ending)
    → slice_get queries place ≡ Some query → slice_get ends place ≡ Some ending → text_now ≡ text ++ if_made made (line_of_query place query ending) → missing_now ≡ not (not missing && made)
    → LinesTo queries ends place text missing → LinesTo queries ends (place + 1) text_now missing_now
lines_next queries ends place text text_now missing missing_now made query ending at_query at now missed is =
    let many = is.each in
    let longer = length-append is.made (made ∷ []) in
    let line = if_made made (line_of_query place query ending) in
    record {
      made = is.made ++ made ∷ [];
      each = omega (arith, many, longer);
      lines = λ rest.
          let after = lines_from (place + 1) (drop (place + 1) queries) (drop (place + 1) ends) rest in
          let step : lines_from place (drop place queries) (drop place ends) (made ∷ rest) ≡ line ++ after =
          one-more queries ends place query ending made rest at_query at in
          ap (λ (t : List ℕ). t ++ after) now ∙ (append_assoc text line after ∙ (ap (λ (t : List ℕ). text ++ t) (sym step) ∙ (is.lines (made ∷ rest) ∙ ap (λ (all : List Bool). lines_from 0 queries ends all) (sym (append_assoc is.made (made ∷ []) rest)))));
      whole = all-more is.made made ∙ and-made (list_all (λ is. is) is.made) missing made missing_now is.whole missed;
    }

no-lines : (queries : List Query) (ends : List Ending) (place : ℕ) (rest : List Bool) → length queries ≤ place → lines_from place (drop place queries) (drop place ends) rest ≡ []
no-lines queries ends place rest long = rw (drop-none queries place long) refl

or-true : (a : Bool) → (a || true) ≡ true
or-true true = refl
or-true false = refl

or-false : (a : Bool) → (a || false) ≡ a
or-false true = refl
or-false false = refl

pub missing_then : (missing now failed : Bool) → now ≡ true → failed ≡ true → now ≡ (missing || failed)
missing_then missing now failed is fails = is ∙ sym (ap (λ (f : Bool). missing || f) fails ∙ or-true missing)

pub missing_else : (missing now failed : Bool) → now ≡ missing → failed ≡ false → now ≡ (missing || failed)
missing_else missing now failed is fails = is ∙ sym (ap (λ (f : Bool). missing || f) fails ∙ or-false missing)

was-made : (missing : Bool) → (missing || false) ≡ not (not missing && true)
was-made true = refl
was-made false = refl

was-missed : (missing : Bool) → (missing || true) ≡ not (not missing && false)
was-missed true = refl
was-missed false = refl

-- the line was appended, or nothing was
pub lines_pushed : {E : Type 0} (queries : List Query) (ends : List Ending) (place : ℕ) (text text_now : List ℕ) (missing missing_now : Bool) (query : Query) (ending : Ending) (result : Result Unit E)
    → slice_get queries place ≡ Some query → slice_get ends place ≡ Some ending → OnOk result (text_now ≡ text ++ line_of_query place query ending) → OnErr result (text_now ≡ text)
    → missing_now ≡ (missing || is_err result) → LinesTo queries ends place text missing → LinesTo queries ends (place + 1) text_now missing_now
lines_pushed queries ends place text text_now missing missing_now query ending (Ok u) at_query at ok err missed is =
    lines_next queries ends place text text_now missing missing_now true query ending at_query at ok (missed ∙ was-made missing) is
lines_pushed queries ends place text text_now missing missing_now query ending (Err e) at_query at ok err missed is =
    lines_next queries ends place text text_now missing missing_now false query ending at_query at (err ∙ sym (append-nil text)) (missed ∙ was-missed missing) is

pub lines_first : (queries : List Query) (ends : List Ending) (text : List ℕ) → text ≡ [] → LinesTo queries ends 0 text false
lines_first queries ends text none = subst (λ (t : List ℕ). LinesTo queries ends 0 t false) (sym none) (lines_begin queries ends)

-- all lines are there
pub lines_end : (queries : List Query) (ends : List Ending) (place : ℕ) (text : List ℕ) (missing : Bool) (status : ℕ) (before now : Telling) → length queries ≡ place → LinesTo queries ends place text missing
    → Tells text before.text now.text before.faults now.faults → ((made : List Bool) → list_all (λ is. is) made ≡ not missing → IsRunStatus (first_status ends) made before now status)
    → Reported queries ends before now status
lines_end queries ends place text missing status before now all is tells status_is =
    let many = is.each in
    let text_is : text ≡ lines_from 0 queries ends is.made =
    sym (append-nil text) ∙ (ap (λ (t : List ℕ). text ++ t) (sym (no-lines queries ends place [] (omega (arith, all)))) ∙ (is.lines [] ∙ ap (λ (made : List Bool). lines_from 0 queries ends made) (append-nil is.made))) in
    record {
      made = is.made;
      each = omega (arith, many, all);
      tells = subst (λ (t : List ℕ). Tells t before.text now.text before.faults now.faults) text_is tells;
      status_is = status_is is.made is.whole;
    }

-- the status of all
pub status_first : (first status : ℕ) (made : List Bool) (before now : Telling) → first ≢ 0 → status ≡ first → IsRunStatus first made before now status
status_first first status made before now some is = inl (some, is)

pub status_fault : (first : ℕ) (made : List Bool) (before now : Telling) → first ≡ 0 → FailsAt before.faults now.faults now.text → IsRunStatus first made before now 9
status_fault first made before now none fails = inr (none, inr (inl (refl, fails)))

pub status_missing : (first : ℕ) (made : List Bool) (before now : Telling) → first ≡ 0 → list_all (λ is. is) made ≡ false → IsRunStatus first made before now 10
status_missing first made before now none short = inr (none, inr (inr (refl, short)))

pub status_ok : (first status : ℕ) (made : List Bool) (before now : Telling) → first ≡ 0 → status ≡ first → list_all (λ is. is) made ≡ true → NoneFailed before.faults now.faults → IsRunStatus first made before now status
status_ok first status made before now none is whole same = inr (none, inl (is ∙ none, whole, same))

-- what a call that failed, or did not, ensures
pub err_holds : {E : Type 0} {P : Type 0} (result : Result Unit E) → is_err result ≡ true → OnErr result P → P
err_holds (Ok u) is holds = absurd (false≢true is)
err_holds (Err e) is holds = holds

pub ok_holds : {E : Type 0} {P : Type 0} (result : Result Unit E) → is_err result ≡ false → OnOk result P → P
ok_holds (Ok u) is holds = holds
ok_holds (Err e) is holds = absurd (false≢true (sym is))

pub told_so : {E : Type 0} (text piece : List ℕ) (old new : Option (List ℕ)) (before now : Faults) (result : Result Unit E) → piece ≡ text → OnOk result (Appends old new piece) → OnErr result (AppendsFront old new piece)
    → OnOk result (now.count ≡ before.count) → OnErr result (Rose before.count now.count) → OnOk result (now.first ≡ before.first) → OnErr result (EndsAt before.first now.first new) → Tells text old new before now
told_so text piece old new before now (Ok u) same ok err quiet failed unbroken stops = inl (subst (λ (t : List ℕ). Appends old new t) same ok, (quiet, unbroken))
told_so text piece old new before now (Err e) same ok err quiet failed unbroken stops = inr ((failed, stops), subst (λ (t : List ℕ). AppendsFront old new t) same err)
